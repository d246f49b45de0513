-- A run of a script over bytes. What the world answered at each line is an input.
use Rattle.std.specs.Prelude.{◌≡◌, ℕ, ◌+◌, Bool, true, false, List, [], ◌∷◌, ◌++◌, length, Option}
use Rattle.std.specs.Prelude.{None, Some, IsSome, Result, Ok, Err, MatchResult, count_by}
use Rattle.std.specs.List.{flat_map}
use Rattle.std.specs.Io.KnownBytes.{Appends}
use Rattle.cam_refusals.specs.declared.refusal.Refusal.{Refusal}
use Rattle.cam_refusals.specs.declared.refusal.Refusal.TheVariants as refusals
use Rattle.cam_script.specs.declared.command.FileKind.{FileKind}
use Rattle.cam_script.specs.declared.command.Command.TheVariants as commands
use Rattle.cam_station.specs.declared.files.FileFault.{FileFault}
use Rattle.cam_station.specs.declared.files.FileFault.TheVariants.{Failed, Memory as NoMemory}
use Rattle.cam_station.specs.declared.reply.Reply.{Reply}
use Rattle.cam_station.specs.declared.reply.Numbers.TheVariants.{One}
use Rattle.cam_station.specs.declared.reply.Reply.TheVariants.{Bytes, Numbers}
use Rattle.cam_station.specs.declared.running.RunFault.{RunFault}
use Rattle.cam_station.specs.declared.running.RunFault.TheVariants.{Depth, Output, Memory as RunMemory}
use Rattle.cam_script.specs.declared.line.Line.TheVariants.{Command, Load, Plot, Write}
use Rattle.cam_script.specs.Faults.{line_refusal}
use Rattle.cam_station.specs.Machine.{State, Outcome, MemoryGrant, fresh, is_depth, refused, step}
use Rattle.cam_station.specs.Files.{ToldFiles, FailsIfAbsent, Holds, Stored, MayHaveStored, HasRisenBy, failures_of}
use Rattle.cam_script.specs.Parsing.{Parsed, parsed}
use Rattle.cam_station.specs.Replies.{reply_line}

-- what the world answered at a line: whether the line itself was refused memory, what a get gave,
-- whether the command was refused memory, and how a put went
pub record World : Type 0 where
  pub line_refused : Bool
  pub got : Result (List ℕ) FileFault
  pub memory : MemoryGrant
  pub put : Result (Unit {0}) FileFault

-- one line -------------------------------------------------------------------------------------

-- what a line asks of the files, with their answer
pub data Ask : Type 0 where
  Nothing : Ask
  Get : List ℕ → Result (List ℕ) FileFault → Ask
  Put : List ℕ → List ℕ → Result (Unit {0}) FileFault → Ask

-- what a line comes to: the state after it, what it asks of the files, and its reply, if it has one
pub record Turn : Type 0 where
  pub state : State
  pub ask : Ask
  pub reply : Option Outcome

abbrev pub answered : State × Outcome → Ask → Turn
answered after ask = record { state = after.0; ask = ask; reply = Some after.1 }

-- an empty line or a comment does nothing
abbrev pub passed_over : State → Turn
passed_over s = record { state = s; ask = Nothing; reply = None }

-- the refusal that tells of a file
abbrev pub file_refusal : FileFault → Refusal
file_refusal Failed = refusals.FileFault
file_refusal NoMemory = refusals.NoMemory

-- a load gets its file first
abbrev pub load_turn : State → List ℕ → FileKind → List ℕ → MemoryGrant → Result (List ℕ) FileFault → Turn
load_turn s name kind path memory (Ok bytes) =
    answered (step s (commands.Load name kind bytes) memory) (Get path (Ok bytes))
load_turn s name kind path memory (Err fault) = answered (s, refused (file_refusal fault)) (Get path (Err fault))

abbrev pub put_reply : Reply → Result (Unit {0}) FileFault → Outcome
put_reply reply (Ok done) = Ok reply
put_reply reply (Err fault) = refused (file_refusal fault)

-- what a reply tells of the bytes that were put, and of how many tiles were drawn for them
abbrev pub Tells : Type 0
Tells = List ℕ → ℕ → Reply

-- the bytes of an answer are put last; an answer without bytes puts nothing
abbrev pub put_turn : Tells → List ℕ → Result (Unit {0}) FileFault → State × Outcome → Turn
put_turn tells path put (s, Ok (Bytes bytes drawn)) =
    answered (s, put_reply (tells bytes drawn) put) (Put path bytes put)
put_turn tells path put (s, reply) = answered (s, reply) Nothing

-- a plot tells how many tiles were drawn
abbrev pub plot_turn : List ℕ → Result (Unit {0}) FileFault → State × Outcome → Turn
plot_turn path put after = put_turn Bytes path put after

-- a write tells how many bytes were put
abbrev pub byte_count : Tells
byte_count bytes drawn = Numbers (One (length bytes))

abbrev pub write_turn : List ℕ → Result (Unit {0}) FileFault → State × Outcome → Turn
write_turn path put after = put_turn byte_count path put after

abbrev pub parsed_turn : State → World → Parsed → Turn
parsed_turn s w (Err fault) = answered (s, refused (line_refusal fault)) Nothing
parsed_turn s w (Ok None) = passed_over s
parsed_turn s w (Ok (Some (Command command))) = answered (step s command w.memory) Nothing
parsed_turn s w (Ok (Some (Load name kind path))) = load_turn s name kind path w.memory w.got
parsed_turn s w (Ok (Some (Plot name path))) = plot_turn path w.put (step s (commands.Plot name) w.memory)
parsed_turn s w (Ok (Some (Write name path))) = write_turn path w.put (step s (commands.Write name) w.memory)

abbrev pub turn : State → List ℕ → World → Turn
turn s line w = parsed_turn s w (parsed line w.line_refused)

-- the lines -------------------------------------------------------------------------------------

-- the turns of the lines, as many as the world answered
abbrev pub turns : State → List (List ℕ) → List World → List Turn
turns s [] ws = []
turns s (line ∷ lines) [] = []
turns s (line ∷ lines) (w ∷ ws) = turn s line w ∷ turns (turn s line w).state lines ws

-- the line on the output, if the turn has a reply
abbrev pub spoken : Option Outcome → List ℕ
spoken None = []
spoken (Some reply) = reply_line reply

-- all that the turns say
abbrev pub output : List Turn → List ℕ
output ts = flat_map (λ t. spoken t.reply) ts

abbrev pub is_refusal : Option Outcome → Bool
is_refusal None = false
is_refusal (Some (Ok reply)) = false
is_refusal (Some (Err fault)) = true

-- how many lines were refused
abbrev pub refused_lines : List Turn → ℕ
refused_lines ts = count_by (λ t. is_refusal t.reply) ts

-- what the files tell: of their contents, and how often they failed
pub record FilesSeen : Type 0 where
  pub contents : ToldFiles
  pub failures : ℕ

abbrev pub files_seen : ToldFiles → ℕ → FilesSeen
files_seen contents failures = record { contents = contents; failures = failures }

abbrev pub FilesAfter : Ask → ToldFiles → ToldFiles → Type 0
FilesAfter Nothing old new = new ≡ old
FilesAfter (Get path got) old new =
    (new ≡ old) × MatchResult got (λ bytes. Holds old path bytes) (λ fault. FailsIfAbsent old path fault)
FilesAfter (Put path bytes (Ok done)) old new = Stored old new path bytes
FilesAfter (Put path bytes (Err fault)) old new = MayHaveStored old new path

abbrev pub ask_failures : Ask → ℕ
ask_failures Nothing = 0
ask_failures (Get path got) = failures_of got
ask_failures (Put path bytes put) = failures_of put

-- the files answered so, and counted it where they failed
pub record Answers (ask : Ask) (old new : FilesSeen) : Type 0 where
  pub contents : FilesAfter ask old.contents new.contents
  pub failures : HasRisenBy (ask_failures ask) old.failures new.failures

-- the files answered each turn so, one after another
abbrev pub AllAnswer : List Turn → FilesSeen → FilesSeen → Type 0
AllAnswer [] old new = new ≡ old
AllAnswer (t ∷ ts) old new = (between : FilesSeen) × Answers t.ask old between × AllAnswer ts between new

-- what is known at a moment of a run, with the count of refused lines
pub record Moment : Type 0 where
  pub files : FilesSeen
  pub said : Option (List ℕ)
  pub out_failures : ℕ
  pub refused : ℕ

abbrev pub moment : ToldFiles → ℕ → Option (List ℕ) → ℕ → ℕ → Moment
moment contents failures said out_failures refused =
    record { files = files_seen contents failures; said = said; out_failures = out_failures; refused = refused }

-- These turns lead from one moment to the other.
pub record TurnsLead (ts : List Turn) (before after : Moment) : Type 0 where
  pub files : AllAnswer ts before.files after.files
  pub said : Appends before.said after.said (output ts)
  pub out_failures : HasRisenBy 0 before.out_failures after.out_failures
  pub refused : after.refused ≡ before.refused + refused_lines ts

-- a whole run ------------------------------------------------------------------------------------

-- All lines were run, where the world answered so.
pub record RunsAllLines (s : State) (lines : List (List ℕ)) (ws : List World) (before after : Moment) : Type 0 where
  pub each : length ws ≡ length lines
  pub lead : TurnsLead (turns s lines ws) before after

-- The run stopped at a line whose reply could not be said; the files had answered that line.
pub record StopsAtUnsaidReply (s : State) (lines : List (List ℕ)) (ws : List World) (before after : Moment)
    : Type 0 where
  pub earlier : List Turn
  pub last : Turn
  pub between : Moment
  pub turns_are : turns s lines ws ≡ earlier ++ last ∷ []
  pub lead : TurnsLead earlier before between
  pub replied : IsSome last.reply
  pub files : Answers last.ask between.files after.files
  pub out_failures : HasRisenBy 1 before.out_failures after.out_failures

-- why the run did not come to the script's end, and what it did before
abbrev pub EndsBy : RunFault → ℕ → List (List ℕ) → Moment → Moment → Type 0
EndsBy Depth depth lines before after = (is_depth depth ≡ false) × (after ≡ before)
EndsBy RunMemory depth lines before after = (is_depth depth ≡ true) × (after ≡ before)
EndsBy Output depth lines before after =
    (is_depth depth ≡ true) × (ws : List World) × StopsAtUnsaidReply (fresh depth) lines ws before after
