-- The files that a run puts are pictures and texts.
use Rattle.std.proofs.Common.{◌≡◌, ℕ, List, [], ◌∷◌, ◌++◌, None, Some, Result, Ok, Err, refl, sym, subst, ◌∙◌}
use Rattle.cam_script.specs.declared.command.FileKind.{FileKind}
use Rattle.cam_script.specs.declared.command.Command.TheVariants as commands
use Rattle.cam_script.specs.declared.line.Line.TheVariants.{Command, Load, Plot, Write}
use Rattle.cam_script.specs.Parsing.{Parsed, parsed}
use Rattle.cam_station.specs.declared.files.FileFault.{FileFault}
use Rattle.cam_station.specs.declared.reply.Reply.{Reply}
use Rattle.cam_station.specs.declared.reply.Reply.TheVariants.{Done, Numbers, Bytes}
use Rattle.cam_station.specs.Calls.{Call, states_after}
use Rattle.cam_station.specs.FilesPut.{ExactFiles, IsExactPut, PutsExactly}
use Rattle.cam_station.specs.Machine.{State, Outcome, fresh, step}
use Rattle.cam_station.specs.Plots.{IsPlotOf}
use Rattle.cam_station.specs.Run.{World, byte_count, load_turn, parsed_turn, put_turn, turn}
use Rattle.cam_station.specs.RunLaws.{line_calls}
use Rattle.cam_station.specs.Writes.{IsWriteOf}
use Rattle.cam_station.proofs.PlotLaws.{exact_plot}
use Rattle.cam_station.proofs.RunLawProofs.{after_both, line_leads}
use Rattle.cam_station.proofs.WriteLaws.{exact_write}

module _ (s : State) (w : World) (name path : List ℕ) where
  load_puts : (kind : FileKind) (got : Result (List ℕ) FileFault)
      → IsExactPut s (Ok (Some (Load name kind path))) (load_turn s name kind path w.memory got).ask
  load_puts kind (Ok bytes) = tt
  load_puts kind (Err fault) = tt

  plot_puts : (after : State) (answer : Outcome) → ((reply : Reply) → answer ≡ Ok reply → IsPlotOf s name reply)
      → IsExactPut s (Ok (Some (Plot name path))) (put_turn Bytes path w.put (after, answer)).ask
  plot_puts after (Ok (Bytes bytes drawn)) exact = (refl, (drawn, exact (Bytes bytes drawn) refl))
  plot_puts after (Ok Done) exact = tt
  plot_puts after (Ok (Numbers n)) exact = tt
  plot_puts after (Err fault) exact = tt

  write_puts : (after : State) (answer : Outcome) → ((reply : Reply) → answer ≡ Ok reply → IsWriteOf s name reply)
      → IsExactPut s (Ok (Some (Write name path))) (put_turn byte_count path w.put (after, answer)).ask
  write_puts after (Ok (Bytes bytes drawn)) exact = (refl, (drawn, exact (Bytes bytes drawn) refl))
  write_puts after (Ok Done) exact = tt
  write_puts after (Ok (Numbers n)) exact = tt
  write_puts after (Err fault) exact = tt

-- a state that a station of this depth has come to
module _ (depth : ℕ) (before : List Call) where
  abbrev here : State
  here = states_after (fresh depth) before

  line_puts : (w : World) (p : Parsed) → IsExactPut here p (parsed_turn here w p).ask
  line_puts w (Err fault) = tt
  line_puts w (Ok None) = tt
  line_puts w (Ok (Some (Command command))) = tt
  line_puts w (Ok (Some (Load name kind path))) = load_puts here w name path kind w.got
  line_puts w (Ok (Some (Plot name path))) =
      let after : State × Outcome = step here (commands.Plot name) w.memory in
      plot_puts here w name path after.0 after.1 (λ reply is. exact_plot depth before name w.memory reply is)
  line_puts w (Ok (Some (Write name path))) =
      let after : State × Outcome = step here (commands.Write name) w.memory in
      write_puts here w name path after.0 after.1 (λ reply is. exact_write depth before name w.memory reply is)

lines_put : (depth : ℕ) (lines : List (List ℕ)) (ws : List World) (before : List Call)
    → PutsExactly (states_after (fresh depth) before) lines ws
lines_put depth [] ws before = tt
lines_put depth (line ∷ lines) [] before = tt
lines_put depth (line ∷ lines) (w ∷ ws) before =
    let s : State = states_after (fresh depth) before in
    let p : Parsed = parsed line w.line_refused in
    let more : List Call = before ++ line_calls w p in
    let next : states_after (fresh depth) more ≡ (turn s line w).state =
    after_both (fresh depth) before (line_calls w p) ∙ sym (line_leads s w p) in (
      line_puts depth before w p,
      subst (λ (q : State). PutsExactly q lines ws) next (lines_put depth lines ws more),
    )

pub files_put : ExactFiles
files_put depth lines ws = lines_put depth lines ws []
