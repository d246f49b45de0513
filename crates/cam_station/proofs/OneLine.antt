-- What one line comes to, by what was parsed.
use Rattle.std.proofs.Common.{◌≡◌, ℕ, Bool, false, List, Option, None, Some, Result, Ok, Err, refl, sym, ap, subst, ◌∙◌, arith}
use Rattle.cam_script.specs.declared.command.FileKind.{FileKind}
use Rattle.cam_script.specs.declared.command.Command.{Command as AnyCommand}
use Rattle.cam_script.specs.declared.command.Command.TheVariants as commands
use Rattle.cam_station.specs.declared.fault.Fault.{Fault}
use Rattle.cam_station.specs.declared.files.FileFault.{FileFault}
use Rattle.cam_station.specs.declared.files.FileFault.TheVariants.{Memory as NoMemory}
use Rattle.cam_station.specs.declared.reply.Reply.TheVariants.{Done, Numbers, Bytes}
use Rattle.cam_script.specs.declared.line.Line.{Line}
use Rattle.cam_script.specs.declared.line.Line.TheVariants.{Command, Load, Plot, Write}
use Rattle.cam_script.specs.declared.line.LineFault.{LineFault}
use Rattle.cam_station.specs.Machine.{State, Outcome, MemoryGrant, Granted, fault, step}
use Rattle.cam_script.specs.Faults.{line_refusal}
use Rattle.cam_script.specs.Parsing.{parsed, Parsed, is_no_memory}
use Rattle.cam_station.specs.Run.{World, FilesSeen, Nothing, Get, Put, file_refusal, Answers, Tells}
use Rattle.cam_station.specs.Run.{turn, parsed_turn, load_turn, plot_turn, put_turn, write_turn}
use Rattle.cam_station.specs.Machinery.Lines.{HasNoBytes, TurnGives}

abbrev world : Bool → Result (List ℕ) FileFault → MemoryGrant → Result (Unit {0}) FileFault → World
world line_refused got memory put = record { line_refused = line_refused; got = got; memory = memory; put = put }

-- nothing was asked of the files
unasked : (seen : FilesSeen) → Answers Nothing seen seen
unasked seen = record { contents = refl; failures = omega arith }

module _ (s : State) (line : List ℕ) where
  by_parsed : (w : World) (p : Parsed) (state : State) (reply : Option Outcome) (old new : FilesSeen)
      → parsed line w.line_refused ≡ p → TurnGives (parsed_turn s w p) state reply old new
      → (x : World) × TurnGives (turn s line x) state reply old new
  by_parsed w p state reply old new e comes =
      let P : Parsed → Type 0 = λ q. TurnGives (parsed_turn s w q) state reply old new in (w, subst P (sym e) comes)

  pub line_refused : (f : LineFault) (told : Fault) (seen : FilesSeen) → told ≡ fault (line_refusal f)
      → parsed line (is_no_memory {T = Option Line} (Err f)) ≡ Err f
      → (x : World) × TurnGives (turn s line x) s (Some (Err told)) seen seen
  line_refused f told seen tells e =
      let w : World = world (is_no_memory {T = Option Line} (Err f)) (Err NoMemory) Granted (Err NoMemory) in
      by_parsed w (Err f) s (Some (Err told)) seen seen e
      (record { state_is = refl; reply_is = ap (λ (x : Fault). let o : Outcome = Err x in Some o) (sym tells); answers = unasked seen })

  pub line_empty : (seen : FilesSeen) → parsed line false ≡ Ok None → (x : World) × TurnGives (turn s line x) s None seen seen
  line_empty seen e =
      let w : World = world false (Err NoMemory) Granted (Err NoMemory) in
      by_parsed w (Ok None) s None seen seen e (record { state_is = refl; reply_is = refl; answers = unasked seen })

  pub line_applies : (command : AnyCommand) (memory : MemoryGrant) (state : State) (reply : Outcome) (seen : FilesSeen)
      → parsed line false ≡ Ok (Some (Command command)) → step s command memory ≡ (state, reply)
      → (x : World) × TurnGives (turn s line x) state (Some reply) seen seen
  line_applies command memory state reply seen e steps =
      let w : World = world false (Err NoMemory) memory (Err NoMemory) in
      by_parsed w (Ok (Some (Command command))) state (Some reply) seen seen e
      (record { state_is = ap (λ p. p.0) steps; reply_is = ap (λ p. Some p.1) steps; answers = unasked seen })

  pub line_loads : (name : List ℕ) (kind : FileKind) (path : List ℕ) (state : State) (reply : Option Outcome) (old new : FilesSeen)
      → parsed line false ≡ Ok (Some (Load name kind path))
      → (memory : MemoryGrant) × (got : Result (List ℕ) FileFault) × TurnGives (load_turn s name kind path memory got) state reply old new
      → (x : World) × TurnGives (turn s line x) state reply old new
  line_loads name kind path state reply old new e loads =
      by_parsed (world false loads.1 loads.0 (Err NoMemory)) (Ok (Some (Load name kind path))) state reply old new e loads.2

  pub line_plots : (name path : List ℕ) (state : State) (reply : Option Outcome) (old new : FilesSeen)
      → parsed line false ≡ Ok (Some (Plot name path))
      → (memory : MemoryGrant) × (put : Result (Unit {0}) FileFault)
      × TurnGives (plot_turn path put (step s (commands.Plot name) memory)) state reply old new
      → (x : World) × TurnGives (turn s line x) state reply old new
  line_plots name path state reply old new e plots =
      by_parsed (world false (Err NoMemory) plots.0 plots.1) (Ok (Some (Plot name path))) state reply old new e plots.2

  pub line_writes : (name path : List ℕ) (state : State) (reply : Option Outcome) (old new : FilesSeen)
      → parsed line false ≡ Ok (Some (Write name path))
      → (memory : MemoryGrant) × (put : Result (Unit {0}) FileFault)
      × TurnGives (write_turn path put (step s (commands.Write name) memory)) state reply old new
      → (x : World) × TurnGives (turn s line x) state reply old new
  line_writes name path state reply old new e writes =
      by_parsed (world false (Err NoMemory) writes.0 writes.1) (Ok (Some (Write name path))) state reply old new e writes.2

pub load_gets : (s : State) (name : List ℕ) (kind : FileKind) (path bytes : List ℕ) (memory : MemoryGrant)
    (state : State) (reply : Outcome) (old new : FilesSeen)
    → step s (commands.Load name kind bytes) memory ≡ (state, reply) → Answers (Get path (Ok bytes)) old new
    → (m : MemoryGrant) × (got : Result (List ℕ) FileFault) × TurnGives (load_turn s name kind path m got) state (Some reply) old new
load_gets s name kind path bytes memory state reply old new steps answers =
    (memory, Ok bytes, record { state_is = ap (λ p. p.0) steps; reply_is = ap (λ p. Some p.1) steps; answers = answers })

pub load_gets_none : (s : State) (name : List ℕ) (kind : FileKind) (path : List ℕ) (why : FileFault) (told : Fault) (old new : FilesSeen)
    → told ≡ fault (file_refusal why) → Answers (Get path (Err why)) old new
    → (m : MemoryGrant) × (got : Result (List ℕ) FileFault) × TurnGives (load_turn s name kind path m got) s (Some (Err told)) old new
load_gets_none s name kind path why told old new tells answers = (
  Granted,
  Err why,
  record {
    state_is = refl;
    reply_is = ap (λ (x : Fault). let o : Outcome = Err x in Some o) (sym tells);
    answers = answers;
  },
)

-- a command whose bytes are put, in the turn of its line
module _ (tells : Tells) (s : State) (command : AnyCommand) (path : List ℕ) where
  -- its line comes to this state and this reply
  abbrev ComesTo : State → Outcome → FilesSeen → FilesSeen → Type 0
  ComesTo state reply old new =
      (memory : MemoryGrant) × (put : Result (Unit {0}) FileFault)
      × TurnGives (put_turn tells path put (step s command memory)) state (Some reply) old new

  -- where its step is known
  by_step : (memory : MemoryGrant) (put : Result (Unit {0}) FileFault) (after : State × Outcome) (state : State)
      (reply : Outcome) (old new : FilesSeen)
      → step s command memory ≡ after → TurnGives (put_turn tells path put after) state (Some reply) old new → ComesTo state reply old new
  by_step memory put after state reply old new e comes =
      let P : State × Outcome → Type 0 = λ x. TurnGives (put_turn tells path put x) state (Some reply) old new in
      (memory, put, subst P (sym e) comes)

  bare_turn : (put : Result (Unit {0}) FileFault) (state : State) (reply : Outcome) (seen : FilesSeen) → HasNoBytes reply
      → TurnGives (put_turn tells path put (state, reply)) state (Some reply) seen seen
  bare_turn put state (Ok (Bytes bytes drawn)) seen bare = absurd bare
  bare_turn put state (Ok Done) seen bare = record { state_is = refl; reply_is = refl; answers = unasked seen }
  bare_turn put state (Ok (Numbers n)) seen bare = record { state_is = refl; reply_is = refl; answers = unasked seen }
  bare_turn put state (Err f) seen bare = record { state_is = refl; reply_is = refl; answers = unasked seen }

  pub puts_nothing : (memory : MemoryGrant) (state : State) (reply : Outcome) (seen : FilesSeen)
      → step s command memory ≡ (state, reply) → HasNoBytes reply → ComesTo state reply seen seen
  puts_nothing memory state reply seen steps bare =
      by_step memory (Err NoMemory) (state, reply) state reply seen seen steps (bare_turn (Err NoMemory) state reply seen bare)

  -- the answer is told to have these bytes, and the reply to tell of them
  pub puts : (bytes : List ℕ) (memory : MemoryGrant) (state : State) (answer reply : Outcome) (old new : FilesSeen)
      → (drawn : ℕ) × (answer ≡ Ok (Bytes bytes drawn)) × (reply ≡ Ok (tells bytes drawn))
      → step s command memory ≡ (state, answer) → Answers (Put path bytes (Ok tt)) old new → ComesTo state reply old new
  puts bytes memory state answer reply old new told steps answers =
      let after : State × Outcome = (state, Ok (Bytes bytes told.0)) in
      by_step memory (Ok tt) after state reply old new (steps ∙ ap (λ o. (state, o)) told.1)
      (record { state_is = refl; reply_is = ap (λ o. Some o) (sym told.2); answers = answers })

  pub put_fails : (bytes : List ℕ) (memory : MemoryGrant) (state : State) (answer : Outcome) (why : FileFault)
      (refusal : Fault) (old new : FilesSeen)
      → (drawn : ℕ) × (answer ≡ Ok (Bytes bytes drawn)) → step s command memory ≡ (state, answer) → refusal ≡ fault (file_refusal why)
      → Answers (Put path bytes (Err why)) old new → ComesTo state (Err refusal) old new
  put_fails bytes memory state answer why refusal old new told steps tells_why answers =
      let after : State × Outcome = (state, Ok (Bytes bytes told.0)) in
      by_step memory (Err why) after state (Err refusal) old new (steps ∙ ap (λ o. (state, o)) told.1)
      (record { state_is = refl; reply_is = ap (λ (x : Fault). let o : Outcome = Err x in Some o) (sym tells_why); answers = answers })
