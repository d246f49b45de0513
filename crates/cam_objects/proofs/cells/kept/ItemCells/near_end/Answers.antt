use Rattle.std.proofs.Common.{◌+◌, inl, inr, subst, arith}
use Rattle.cam_objects.specs.Cells.{Reaches}
use Rattle.cam_objects.specs.Machinery.Sides.{AreSidesOf, HasSides}
use Rattle.cam_objects.specs.declared.cells.sides.Sides.{Sides}
use Rattle.cam_objects.proofs.KeptBoxes.{far_item}
use Rattle.cam_objects.proofs.cells.kept.ItemCells.near_end.Goals as goal

pub returns-clause-apart : goal.returns-clause-apart
returns-clause-apart c = λ boxes kept k from until listed.
    let sides : Sides =
    record { left = c.as_slice.result; bottom = c.as_slice-2.result; right = c.as_slice-3.result; top = c.as_slice-4.result } in
    let shown : AreSidesOf c.args.self.now sides =
    subst (λ (r : Reaches). AreSidesOf r sides) c.self.view_is
    (record { left = c.as_slice.ensures; bottom = c.as_slice-2.ensures; right = c.as_slice-3.ensures; top = c.as_slice-4.ensures }) in
    elim c.end_of_meeting.ensures.known [
      | inl none ↦ absurd (omega (arith, none, from, until))
      | inr known ↦
          (let each : HasSides sides (k + 1) =
          record {
            left = omega (arith, known.left, until);
            bottom = omega (arith, known.bottom, until);
            right = omega (arith, known.right, until);
            top = omega (arith, known.top, until);
          } in
          far_item boxes c.args.self.now sides c.args.near c.of.result k kept shown each c.of.ensures listed
          (c.end_of_meeting.ensures.apart k from until))
    ]
