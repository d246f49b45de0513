-- Laws of runs.
use Rattle.std.specs.Prelude.{◌≡◌, ℕ, Bool, false, List, [], ◌∷◌, ◌++◌, length, drop, map}
use Rattle.std.specs.Prelude.{slice_get, Option, None, Some, Result, Ok, Err, count_by, fold}
use Rattle.cam_refusals.specs.declared.refusal.Refusal.TheVariants as refusals
use Rattle.cam_refusals.specs.Refusals.{is_same}
use Rattle.cam_script.specs.declared.command.FileKind.{FileKind}
use Rattle.cam_script.specs.declared.command.Command.TheVariants as commands
use Rattle.cam_station.specs.declared.files.FileFault.{FileFault}
use Rattle.cam_script.specs.declared.line.Line.TheVariants.{Command, Load, Plot, Write}
use Rattle.cam_station.specs.declared.reply.Reply.TheVariants.{Bytes}
use Rattle.cam_script.specs.Faults.{line_refusal}
use Rattle.cam_station.specs.Machine.{State, Outcome, MemoryGrant, refused}
use Rattle.cam_station.specs.Calls.{Call, answers_to, states_after}
use Rattle.cam_station.specs.Files.{HasRisenBy}
use Rattle.cam_script.specs.Parsing.{Parsed, parsed}
use Rattle.cam_station.specs.Run.{
  AllAnswer,
  Ask,
  FilesSeen,
  Get,
  Nothing,
  Put,
  Tells,
  Turn,
  World,
  byte_count,
  file_refusal,
  is_refusal,
  put_reply,
  refused_lines,
  turns,
}

-- the reply is the refusal of a file that failed
abbrev pub is_file_refusal : Option Outcome → Bool
is_file_refusal None = false
is_file_refusal (Some (Ok reply)) = false
is_file_refusal (Some (Err fault)) = is_same fault.code refusals.FileFault

-- how many lines were refused so
abbrev pub file_refusals : List Turn → ℕ
file_refusals ts = count_by (λ t. is_file_refusal t.reply) ts

-- No more lines are refused for a file that failed than failures were counted, unless that count reached its last
-- number.
abbrev pub FewFileRefusals : Type 0
FewFileRefusals = (s : State) (lines : List (List ℕ)) (ws : List World) (old new : FilesSeen)
    → AllAnswer (turns s lines ws) old new → HasRisenBy (file_refusals (turns s lines ws)) old.failures new.failures

-- a load calls the station where its file was got
abbrev pub load_calls : List ℕ → FileKind → MemoryGrant → Result (List ℕ) FileFault → List Call
load_calls name kind memory (Ok bytes) = (commands.Load name kind bytes, memory) ∷ []
load_calls name kind memory (Err fault) = []

abbrev pub line_calls : World → Parsed → List Call
line_calls w (Err fault) = []
line_calls w (Ok None) = []
line_calls w (Ok (Some (Command command))) = (command, w.memory) ∷ []
line_calls w (Ok (Some (Load name kind path))) = load_calls name kind w.memory w.got
line_calls w (Ok (Some (Plot name path))) = (commands.Plot name, w.memory) ∷ []
line_calls w (Ok (Some (Write name path))) = (commands.Write name, w.memory) ∷ []

-- the commands that the lines give the station, each with what it was told of memory
abbrev pub calls : List (List ℕ) → List World → List Call
calls [] ws = []
calls (line ∷ lines) [] = []
calls (line ∷ lines) (w ∷ ws) = line_calls w (parsed line w.line_refused) ++ calls lines ws

-- the state after the last of the turns
abbrev pub last_state : State → List Turn → State
last_state s ts = fold (λ before t. t.state) s ts

-- what a line asks of the files, and what it is answered
abbrev pub Exchange : Type 0
Exchange = Ask × Option Outcome

abbrev pub exchanges : List Turn → List Exchange
exchanges ts = map (λ t. (t.ask, t.reply)) ts

-- a load is answered as its command is; where its file was not got, it gives none and is refused for the file
abbrev pub load_exchange : List ℕ → Result (List ℕ) FileFault → Option Outcome → Exchange
load_exchange path (Ok bytes) answer = (Get path (Ok bytes), answer)
load_exchange path (Err fault) answer = (Get path (Err fault), Some (refused (file_refusal fault)))

-- the bytes in the answer to a command are put, and the reply tells of them; where that fails the line is refused for
-- the file
abbrev pub put_exchange : Tells → List ℕ → Result (Unit {0}) FileFault → Option Outcome → Exchange
put_exchange tells path put (Some (Ok (Bytes bytes drawn))) =
    (Put path bytes put, Some (put_reply (tells bytes drawn) put))
put_exchange tells path put answer = (Nothing, answer)

-- the exchange of a line, by the answer to its command, where it gives one
abbrev pub line_exchange : World → Parsed → Option Outcome → Exchange
line_exchange w (Err fault) answer = (Nothing, Some (refused (line_refusal fault)))
line_exchange w (Ok None) answer = (Nothing, None)
line_exchange w (Ok (Some (Command command))) answer = (Nothing, answer)
line_exchange w (Ok (Some (Load name kind path))) answer = load_exchange path w.got answer
line_exchange w (Ok (Some (Plot name path))) answer = put_exchange Bytes path w.put answer
line_exchange w (Ok (Some (Write name path))) answer = put_exchange byte_count path w.put answer

-- the exchanges of the lines, whose commands were answered so, one after another
abbrev pub exchanges_by : List (List ℕ) → List World → List Outcome → List Exchange
exchanges_by [] ws answers = []
exchanges_by (line ∷ lines) [] answers = []
exchanges_by (line ∷ lines) (w ∷ ws) answers =
    line_exchange w (parsed line w.line_refused) (slice_get answers 0)
    ∷ exchanges_by lines ws (drop (length (line_calls w (parsed line w.line_refused))) answers)

-- These lines come to what their commands come to: the state after them is the machine's, and what they ask of the
-- files, what they are answered and how many of them are refused follows from the machine's answers.
pub record ComesToCommands (s : State) (lines : List (List ℕ)) (ws : List World) : Type 0 where
  pub state : last_state s (turns s lines ws) ≡ states_after s (calls lines ws)
  pub exchanged : exchanges (turns s lines ws) ≡ exchanges_by lines ws (answers_to s (calls lines ws))
  pub refused_count : refused_lines (turns s lines ws)
      ≡ count_by (λ x. is_refusal x.1) (exchanges_by lines ws (answers_to s (calls lines ws)))

-- A run over bytes is a run of the machine over its commands.
abbrev pub RunIsCommands : Type 0
RunIsCommands = (s : State) (lines : List (List ℕ)) (ws : List World) → ComesToCommands s lines ws
