-- The laws of runs.
use Rattle.std.proofs.Common.{◌≡◌, ℕ, ◌≤◌, ◌+◌, Bool, true, false, cond, List, [], ◌∷◌, ◌++◌, None, Some, Result, Ok}
use Rattle.std.proofs.Common.{Err, refl, ap, ap₂, sym, ◌∙◌, arith, length, drop}
use Rattle.std.specs.Prelude.{slice_get, count_by}
use Rattle.std.proofs.lemmas.List.Sums.{sum_by-cons}
use Rattle.cam_script.specs.declared.command.FileKind.{FileKind}
use Rattle.cam_script.specs.declared.command.Command.TheVariants as commands
use Rattle.cam_station.specs.declared.files.FileFault.{FileFault}
use Rattle.cam_station.specs.declared.files.FileFault.TheVariants.{Failed, Memory as NoMemory}
use Rattle.cam_station.specs.declared.reply.Reply.TheVariants.{Done, Numbers, Bytes}
use Rattle.cam_script.specs.declared.line.Line.TheVariants.{Command, Load, Plot, Write}
use Rattle.cam_script.specs.declared.line.LineFault.TheVariants.{LineTooLong, BadLine, Memory as LineMemory}
use Rattle.cam_station.specs.Machine.{State, Outcome, MemoryGrant, step}
use Rattle.cam_station.specs.Calls.{Call, answers_to, states_after}
use Rattle.cam_station.specs.Files.{HasRisenBy}
use Rattle.cam_script.specs.Parsing.{Parsed, parsed}
use Rattle.cam_station.specs.Run.{World, Tells, Turn, turn, turns, parsed_turn, load_turn, put_turn, byte_count}
use Rattle.cam_station.specs.Run.{ask_failures, is_refusal, refused_lines, FilesSeen}
use Rattle.cam_station.specs.RunLaws.{is_file_refusal, file_refusals, FewFileRefusals, line_calls, load_calls, calls}
use Rattle.cam_station.specs.RunLaws.{last_state, Exchange, exchanges, load_exchange, put_exchange, line_exchange}
use Rattle.cam_station.specs.RunLaws.{exchanges_by, RunIsCommands}
use Rattle.cam_station.proofs.StepFacts.{step_gets_no_file}

-- the turn is refused for a file only where the files failed
abbrev IsCounted : Turn → Type 0
IsCounted t = cond (is_file_refusal t.reply) 1 0 ≤ ask_failures t.ask

none_counted : (b : Bool) (n : ℕ) → b ≡ false → cond b 1 0 ≤ n
none_counted true n e = absurd cc
none_counted false n e = omega arith

load_counted : (s : State) (name : List ℕ) (kind : FileKind) (path : List ℕ) (memory : MemoryGrant)
    (got : Result (List ℕ) FileFault)
    → IsCounted (load_turn s name kind path memory got)
load_counted s name kind path memory (Ok bytes) =
    none_counted _ 0 (step_gets_no_file s (commands.Load name kind bytes) memory)
load_counted s name kind path memory (Err Failed) = omega arith
load_counted s name kind path memory (Err NoMemory) = omega arith

put_counted : (tells : Tells) (path : List ℕ) (put : Result (Unit {0}) FileFault) (state : State) (reply : Outcome)
    → is_file_refusal (Some reply) ≡ false → IsCounted (put_turn tells path put (state, reply))
put_counted tells path (Ok done) state (Ok (Bytes bytes drawn)) e = omega arith
put_counted tells path (Err Failed) state (Ok (Bytes bytes drawn)) e = omega arith
put_counted tells path (Err NoMemory) state (Ok (Bytes bytes drawn)) e = omega arith
put_counted tells path put state (Ok Done) e = omega arith
put_counted tells path put state (Ok (Numbers n)) e = omega arith
put_counted tells path put state (Err f) e = none_counted _ 0 e

line_counted : (s : State) (w : World) (p : Parsed) → IsCounted (parsed_turn s w p)
line_counted s w (Err LineTooLong) = omega arith
line_counted s w (Err BadLine) = omega arith
line_counted s w (Err LineMemory) = omega arith
line_counted s w (Ok None) = omega arith
line_counted s w (Ok (Some (Command command))) = none_counted _ 0 (step_gets_no_file s command w.memory)
line_counted s w (Ok (Some (Load name kind path))) = load_counted s name kind path w.memory w.got
line_counted s w (Ok (Some (Plot name path))) =
    let after : State × Outcome = step s (commands.Plot name) w.memory in
    put_counted Bytes path w.put after.0 after.1 (step_gets_no_file s (commands.Plot name) w.memory)
line_counted s w (Ok (Some (Write name path))) =
    let after : State × Outcome = step s (commands.Write name) w.memory in
    put_counted byte_count path w.put after.0 after.1 (step_gets_no_file s (commands.Write name) w.memory)

risen_more : (k n rest all a b c : ℕ) → k ≤ n → all ≡ k + rest → HasRisenBy n a b → HasRisenBy rest b c
    → HasRisenBy all a c
risen_more k n rest all a b c le e h j = omega arith

no_more : (old new : FilesSeen) → new ≡ old → HasRisenBy 0 old.failures new.failures
no_more old new e = let same : new.failures ≡ old.failures = ap (λ (f : FilesSeen). f.failures) e in omega (arith, same)

pub few_refusals : FewFileRefusals
few_refusals s [] ws old new h = no_more old new h
few_refusals s (line ∷ lines) [] old new h = no_more old new h
few_refusals s (line ∷ lines) (w ∷ ws) old new h =
    let t : Turn = turn s line w in
    let rest : List Turn = turns t.state lines ws in
    risen_more (cond (is_file_refusal t.reply) 1 0) (ask_failures t.ask) (file_refusals rest)
    (file_refusals (t ∷ rest)) old.failures h.0.failures new.failures
    (line_counted s w (parsed line w.line_refused))
    (sum_by-cons (λ t. cond (is_file_refusal t.reply) 1 0) t rest) h.1.failures
    (few_refusals t.state lines ws h.0 new h.2)

pub after_both : (s : State) (cs ds : List Call) → states_after s (cs ++ ds) ≡ states_after (states_after s cs) ds
after_both s [] ds = refl
after_both s (c ∷ cs) ds = after_both (step s c.0 c.1).0 cs ds

load_leads : (s : State) (name : List ℕ) (kind : FileKind) (path : List ℕ) (memory : MemoryGrant)
    (got : Result (List ℕ) FileFault)
    → (load_turn s name kind path memory got).state ≡ states_after s (load_calls name kind memory got)
load_leads s name kind path memory (Ok bytes) = refl
load_leads s name kind path memory (Err fault) = refl

put_leads : (tells : Tells) (path : List ℕ) (put : Result (Unit {0}) FileFault) (state : State) (reply : Outcome)
    → (put_turn tells path put (state, reply)).state ≡ state
put_leads tells path put state (Ok (Bytes bytes drawn)) = refl
put_leads tells path put state (Ok Done) = refl
put_leads tells path put state (Ok (Numbers n)) = refl
put_leads tells path put state (Err f) = refl

pub line_leads : (s : State) (w : World) (p : Parsed) → (parsed_turn s w p).state ≡ states_after s (line_calls w p)
line_leads s w (Err f) = refl
line_leads s w (Ok None) = refl
line_leads s w (Ok (Some (Command command))) = refl
line_leads s w (Ok (Some (Load name kind path))) = load_leads s name kind path w.memory w.got
line_leads s w (Ok (Some (Plot name path))) =
    let after : State × Outcome = step s (commands.Plot name) w.memory in put_leads Bytes path w.put after.0 after.1
line_leads s w (Ok (Some (Write name path))) =
    let after : State × Outcome = step s (commands.Write name) w.memory in
    put_leads byte_count path w.put after.0 after.1

last_state_is : (s : State) (lines : List (List ℕ)) (ws : List World)
    → last_state s (turns s lines ws) ≡ states_after s (calls lines ws)
last_state_is s [] ws = refl
last_state_is s (line ∷ lines) [] = refl
last_state_is s (line ∷ lines) (w ∷ ws) =
    last_state_is (turn s line w).state lines ws
    ∙ ap (λ (q : State). states_after q (calls lines ws)) (line_leads s w (parsed line w.line_refused))
    ∙ sym (after_both s (line_calls w (parsed line w.line_refused)) (calls lines ws))

exchange_of : Turn → Exchange
exchange_of t = (t.ask, t.reply)

put_exchanges : (tells : Tells) (path : List ℕ) (put : Result (Unit {0}) FileFault) (state : State) (reply : Outcome)
    → exchange_of (put_turn tells path put (state, reply)) ≡ put_exchange tells path put (Some reply)
unfolding exchange_of
put_exchanges tells path put state (Ok (Bytes bytes drawn)) = refl
put_exchanges tells path put state (Ok Done) = refl
put_exchanges tells path put state (Ok (Numbers n)) = refl
put_exchanges tells path put state (Err f) = refl

-- a line's exchange, in front of other commands
module _ (s : State) (w : World) (ds : List Call) where
  load_exchanges : (name : List ℕ) (kind : FileKind) (path : List ℕ) (got : Result (List ℕ) FileFault)
      → exchange_of (load_turn s name kind path w.memory got)
      ≡ load_exchange path got (slice_get (answers_to s (load_calls name kind w.memory got ++ ds)) 0)
  unfolding exchange_of
  load_exchanges name kind path (Ok bytes) = refl
  load_exchanges name kind path (Err f) = refl

  line_exchanges : (p : Parsed)
      → exchange_of (parsed_turn s w p) ≡ line_exchange w p (slice_get (answers_to s (line_calls w p ++ ds)) 0)
  unfolding exchange_of
  line_exchanges (Err f) = refl
  line_exchanges (Ok None) = refl
  line_exchanges (Ok (Some (Command command))) = refl
  line_exchanges (Ok (Some (Load name kind path))) = load_exchanges name kind path w.got
  line_exchanges (Ok (Some (Plot name path))) =
      let after : State × Outcome = step s (commands.Plot name) w.memory in
      put_exchanges Bytes path w.put after.0 after.1
  line_exchanges (Ok (Some (Write name path))) =
      let after : State × Outcome = step s (commands.Write name) w.memory in
      put_exchanges byte_count path w.put after.0 after.1

  load_left : (name : List ℕ) (kind : FileKind) (got : Result (List ℕ) FileFault)
      → drop (length (load_calls name kind w.memory got)) (answers_to s (load_calls name kind w.memory got ++ ds))
      ≡ answers_to (states_after s (load_calls name kind w.memory got)) ds
  load_left name kind (Ok bytes) = refl
  load_left name kind (Err f) = refl

  -- the answers that are left to the commands behind it
  line_left : (p : Parsed)
      → drop (length (line_calls w p)) (answers_to s (line_calls w p ++ ds))
      ≡ answers_to (states_after s (line_calls w p)) ds
  line_left (Err f) = refl
  line_left (Ok None) = refl
  line_left (Ok (Some (Command command))) = refl
  line_left (Ok (Some (Load name kind path))) = load_left name kind w.got
  line_left (Ok (Some (Plot name path))) = refl
  line_left (Ok (Some (Write name path))) = refl

exchanges_are : (s : State) (lines : List (List ℕ)) (ws : List World)
    → exchanges (turns s lines ws) ≡ exchanges_by lines ws (answers_to s (calls lines ws))
unfolding exchange_of
exchanges_are s [] ws = refl
exchanges_are s (line ∷ lines) [] = refl
exchanges_are s (line ∷ lines) (w ∷ ws) =
    let p : Parsed = parsed line w.line_refused in
    let ds : List Call = calls lines ws in
    let left : answers_to (turn s line w).state ds
    ≡ drop (length (line_calls w p)) (answers_to s (line_calls w p ++ ds)) =
    ap (λ (q : State). answers_to q ds) (line_leads s w p) ∙ sym (line_left s w ds p) in
    ap₂ ◌∷◌ (line_exchanges s w ds p) (exchanges_are (turn s line w).state lines ws ∙ ap (exchanges_by lines ws) left)

refusals_in : (ts : List Turn) → refused_lines ts ≡ count_by (λ (x : Exchange). is_refusal x.1) (exchanges ts)
refusals_in [] = refl
refusals_in (t ∷ ts) =
    sum_by-cons (λ (t : Turn). cond (is_refusal t.reply) 1 0) t ts
    ∙ ap (λ n. cond (is_refusal t.reply) 1 0 + n) (refusals_in ts)
    ∙ sym (sum_by-cons (λ (x : Exchange). cond (is_refusal x.1) 1 0) (t.ask, t.reply) (exchanges ts))

pub run_commands : RunIsCommands
run_commands s lines ws = record {
  state = last_state_is s lines ws;
  exchanged = exchanges_are s lines ws;
  refused_count = refusals_in (turns s lines ws)
      ∙ ap (count_by (λ (x : Exchange). is_refusal x.1)) (exchanges_are s lines ws);
}
