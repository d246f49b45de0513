use Rattle.std.proofs.Common.{◌∙◌, ℕ, pos, sym, ap, arith}
use Rattle.std.proofs.lemmas.Grind.{common_steps}
use Rattle.std.specs.Global.{Vec}
use Rattle.cam_writers.proofs.InForce.{tool_added}
use Rattle.cam_writers.proofs.Walks.{never_past}
use Rattle.cam_writers.proofs.drill_text.push_declarations.Goals as goal
use Rattle.cam_writers.proofs.drill_text.push_declarations.Goals.{in-Some+in_ok-push_declaration, in_default}

pub loop-place-preserved : goal.loop-place-preserved
loop-place-preserved c =
    elim c.match-at.branch [
      | in-Some+in_ok-push_declaration w ↦ record {
        text = λ lines e. ap (λ (v : Vec ℕ). v.items) w.text-is
            ∙ tool_added c.args.tools.now c.loop-place.place
            (w.in-Some.tool, w.in-Some.diameter) lines c.loop-place.text w.push_declaration.new.text
            (omega (arith, c.loop-place.invariant.end))
            (sym c.at.ensures ∙ w.in-Some.is) (c.loop-place.invariant.text lines e) w.in_ok-push_declaration.ensures;
        end = c.loop-place.invariant.end;
      }
      | in_default w ↦ absurd
          (never_past c.args.tools.now c.loop-place.place (0, record { 0 = pos 0 }) (omega (arith, c.loop-place.invariant.end))
          (sym c.at.ensures ∙ w.in_default.is))
    ]

pub returns : goal.returns
returns c = grind (arith, common_steps)
