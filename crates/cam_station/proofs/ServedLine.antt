-- What a line comes to whose files are in hand, by what was parsed.
use Rattle.std.proofs.Common.{◌≡◌, ℕ, Bool, false, List, Option, None, Some, Result, Ok, Err, refl, sym, ap, subst, ◌∙◌}
use Rattle.cam_script.specs.declared.command.FileKind.{FileKind}
use Rattle.cam_script.specs.declared.command.Command.{Command as AnyCommand}
use Rattle.cam_script.specs.declared.command.Command.TheVariants as commands
use Rattle.cam_script.specs.declared.line.Line.{Line}
use Rattle.cam_script.specs.declared.line.Line.TheVariants.{Command, Load, Plot, Write}
use Rattle.cam_script.specs.declared.line.LineFault.{LineFault}
use Rattle.cam_script.specs.Parsing.{parsed, Parsed, is_no_memory}
use Rattle.cam_station.specs.declared.fault.Fault.{Fault}
use Rattle.cam_station.specs.declared.files.FileFault.{FileFault}
use Rattle.cam_station.specs.declared.files.FileFault.TheVariants.{Memory as NoMemory}
use Rattle.cam_station.specs.Machine.{State, Outcome, MemoryGrant, Granted, fault, step}
use Rattle.cam_script.specs.Faults.{line_refusal}
use Rattle.cam_station.specs.Run.{Nothing, World, load_turn, parsed_turn, plot_turn, turn, write_turn}
use Rattle.cam_station.specs.Serving.{IsHanded, IsServed, without_bytes}

abbrev world : Bool → Result (List ℕ) FileFault → MemoryGrant → World
world line_refused got memory = record { line_refused = line_refused; got = got; memory = memory; put = Ok tt }

module _ (handed : Option (List ℕ)) where
  -- an answer that is put nowhere
  pub answered : (state : State) (answer : Outcome) (reply : Option Outcome) (file : Option (List ℕ)) → without_bytes (Some answer) ≡ reply → file ≡ None
      → IsServed handed (record { state = state; ask = Nothing; reply = Some answer }) state reply file
  answered state answer reply file told none = record { gives = tt; state_is = refl; reply_is = told; file_is = sym none }

  -- a load of bytes in hand
  pub load_served : (s : State) (name : List ℕ) (kind : FileKind) (path bytes : List ℕ) (memory : MemoryGrant) (state : State)
      (answer : Outcome) (reply : Option Outcome) (file : Option (List ℕ)) → IsHanded handed (Ok bytes)
      → step s (commands.Load name kind bytes) memory ≡ (state, answer) → without_bytes (Some answer) ≡ reply → file ≡ None
      → (m : MemoryGrant) × (got : Result (List ℕ) FileFault) × IsServed handed (load_turn s name kind path m got) state reply file
  load_served s name kind path bytes memory state answer reply file given steps says none = (
    memory,
    Ok bytes,
    record {
      gives = given;
      state_is = ap (λ p. p.0) steps;
      reply_is = ap (λ p. without_bytes (Some p.1)) steps ∙ says;
      file_is = sym none;
    },
  )

  module _ (s : State) (line : List ℕ) where
    by_parsed : (w : World) (p : Parsed) (state : State) (reply : Option Outcome) (file : Option (List ℕ))
        → parsed line w.line_refused ≡ p → IsServed handed (parsed_turn s w p) state reply file
        → (x : World) × IsServed handed (turn s line x) state reply file
    by_parsed w p state reply file e served =
        let P : Parsed → Type 0 = λ q. IsServed handed (parsed_turn s w q) state reply file in (w, subst P (sym e) served)

    pub line_refused : (f : LineFault) (told : Fault) (reply : Option Outcome) (file : Option (List ℕ)) → told ≡ fault (line_refusal f)
        → without_bytes (Some (Err told)) ≡ reply → file ≡ None
        → parsed line (is_no_memory {T = Option Line} (Err f)) ≡ Err f → (x : World) × IsServed handed (turn s line x) s reply file
    line_refused f told reply file tells says none e =
        by_parsed (world (is_no_memory {T = Option Line} (Err f)) (Err NoMemory) Granted) (Err f) s reply file e
        (answered s (Err (fault (line_refusal f))) reply file (subst (λ (x : Fault). without_bytes (Some (Err x)) ≡ reply) tells says) none)

    pub line_empty : parsed line false ≡ Ok None → (x : World) × IsServed handed (turn s line x) s None None
    line_empty e = by_parsed (world false (Err NoMemory) Granted) (Ok None) s None None e (record { gives = tt; state_is = refl; reply_is = refl; file_is = refl })

    pub line_applies : (command : AnyCommand) (memory : MemoryGrant) (state : State) (answer : Outcome) (reply : Option Outcome) (file : Option (List ℕ))
        → without_bytes (Some answer) ≡ reply → file ≡ None
        → parsed line false ≡ Ok (Some (Command command)) → step s command memory ≡ (state, answer)
        → (x : World) × IsServed handed (turn s line x) state reply file
    line_applies command memory state answer reply file says none e steps =
        by_parsed (world false (Err NoMemory) memory) (Ok (Some (Command command))) state reply file e
        (record { gives = tt; state_is = ap (λ p. p.0) steps; reply_is = ap (λ p. without_bytes (Some p.1)) steps ∙ says; file_is = sym none })

    pub line_loads : (name : List ℕ) (kind : FileKind) (path : List ℕ) (state : State) (reply : Option Outcome) (file : Option (List ℕ))
        → parsed line false ≡ Ok (Some (Load name kind path))
        → (memory : MemoryGrant) × (got : Result (List ℕ) FileFault) × IsServed handed (load_turn s name kind path memory got) state reply file
        → (x : World) × IsServed handed (turn s line x) state reply file
    line_loads name kind path state reply file e loads =
        by_parsed (world false loads.1 loads.0) (Ok (Some (Load name kind path))) state reply file e loads.2

    pub line_plots : (name path : List ℕ) (state : State) (reply : Option Outcome) (file : Option (List ℕ))
        → parsed line false ≡ Ok (Some (Plot name path))
        → (memory : MemoryGrant) × IsServed handed (plot_turn path (Ok tt) (step s (commands.Plot name) memory)) state reply file
        → (x : World) × IsServed handed (turn s line x) state reply file
    line_plots name path state reply file e plots =
        by_parsed (world false (Err NoMemory) plots.0) (Ok (Some (Plot name path))) state reply file e plots.1

    pub line_writes : (name path : List ℕ) (state : State) (reply : Option Outcome) (file : Option (List ℕ))
        → parsed line false ≡ Ok (Some (Write name path))
        → (memory : MemoryGrant) × IsServed handed (write_turn path (Ok tt) (step s (commands.Write name) memory)) state reply file
        → (x : World) × IsServed handed (turn s line x) state reply file
    line_writes name path state reply file e writes =
        by_parsed (world false (Err NoMemory) writes.0) (Ok (Some (Write name path))) state reply file e writes.1
