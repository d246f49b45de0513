use Rattle.std.proofs.Common.{ap, sym, subst, rules, ◌∙◌, FitsSigned, w64, arith}
use Rattle.std.proofs.lemmas.Grind.{common_steps}
use Rattle.std.proofs.lemmas.Int.{to_z-of_z}
use Rattle.cam_units.specs.Boxes.{HaveCommonPlace}
use Rattle.cam_units.specs.declared.bounds.Bounds.{Bounds}
use Rattle.cam_units.specs.declared.bounds.Bounds.TheVariants.{Closed}
use Rattle.cam_units.specs.declared.point.Spot.{Spot}
use Rattle.cam_units.specs.declared.turn.Turn.{Turn}
use Rattle.cam_apertures.specs.Turned.{turned_box}
use Rattle.cam_objects.specs.Machinery.Boxes.{placed_bounds}
use Rattle.cam_objects.proofs.SeenBoxes.{common_back}
use Rattle.cam_objects.proofs.placing.place.Place.seen.Goals as goal

pub returns : goal.returns
returns c = λ b near common.
    let p = c.args.self.now in
    let by = p.offset in
    let low = c.in-Closed.low in
    let high = c.in-Closed.high in
    let fx : FitsSigned w64 by.x = search rules in
    let fy : FitsSigned w64 by.y = search rules in
    let fl : FitsSigned w64 low.x = search rules in
    let fb : FitsSigned w64 low.y = search rules in
    let fr : FitsSigned w64 high.x = search rules in
    let ft : FitsSigned w64 high.y = search rules in
    let f1 : FitsSigned w64 c.moved_back.result = search rules in
    let f2 : FitsSigned w64 c.moved_back-2.result = search rules in
    let f3 : FitsSigned w64 c.moved_back-3.result = search rules in
    let f4 : FitsSigned w64 c.moved_back-4.result = search rules in
    let low' : Spot = record { x = c.moved_back.result; y = c.moved_back-2.result } in
    let high' : Spot = record { x = c.moved_back-3.result; y = c.moved_back-4.result } in
    let found = common_back p b low high low' high' near
    (simp to_z-of_z at c.moved_back.ensures) (simp to_z-of_z at c.moved_back-2.ensures)
    (simp to_z-of_z at c.moved_back-3.ensures) (simp to_z-of_z at c.moved_back-4.ensures)
    (subst (λ (d : Bounds). HaveCommonPlace (placed_bounds p b) d) c.in-Closed.is common) in
    subst (HaveCommonPlace b) (sym ((simp to_z-of_z at c.turned.ensures) ∙ ap (λ (t : Turn). turned_box t (Closed low' high')) c.turned_back.ensures)) found

pub moved_back-requires : goal.moved_back-requires
moved_back-requires c = grind (arith)

pub moved_back-requires-2 : goal.moved_back-requires-2
moved_back-requires-2 c = grind (arith, common_steps)

pub turned-requires : goal.turned-requires
turned-requires c = search rules

pub moved_back-requires-3 : goal.moved_back-requires-3
moved_back-requires-3 c = grind (arith, common_steps)

pub moved_back-requires-4 : goal.moved_back-requires-4
moved_back-requires-4 c = search rules
