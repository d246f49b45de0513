use Rattle.std.proofs.Common.{◌≡◌, Option, sym, ap, subst, ◌∙◌, arith}
use Rattle.std.specs.List.{All}
use Rattle.cam_units.specs.Board.{IsOnBoard}
use Rattle.cam_units.specs.Boxes.{clip_of}
use Rattle.cam_units.specs.declared.length.Nm.{Nm}
use Rattle.cam_objects.specs.declared.item.Item.{Item}
use Rattle.cam_objects.specs.declared.item.Item.TheVariants.{One}
use Rattle.cam_objects.specs.declared.object.Object.{Object}
use Rattle.cam_objects.specs.Bounds.{bounds_of}
use Rattle.cam_objects.specs.Leaves.{item_leaves, meaning_in}
use Rattle.cam_objects.specs.Soundness.{IsInside, IsSoundItem, points_of}
use Rattle.cam_objects.proofs.SoundItems.{meets}
use Rattle.cam_ask.specs.Painted.{drawn_box, painted_box}
use Rattle.cam_ask.proofs.painted.painted.Goals as goal

pub arc_bounds-requires : goal.arc_bounds-requires
arc_bounds-requires c =
    let es = c.args.entries.now in
    let sound : IsSoundItem es (One c.in-One.object) = subst (IsSoundItem es) c.in-One.is c.requires.item in
    let inside : IsInside es (One c.in-One.object) = (meets es (One c.in-One.object) sound).inside in
    let stands = subst (λ (o : Object). All IsOnBoard (points_of o)) c.in-Arc.is (inside.points 0 c.in-One.object (omega arith)) in record {
      from = stands 0 c.in-Arc.from (omega arith);
      to = stands 1 c.in-Arc.from (omega arith);
      centre = stands 2 c.in-Arc.from (omega arith);
      width = c.in-Some.ensures.size;
    }

pub returns-in-Some : goal.returns-in-Some
returns-in-Some c =
    let means = meaning_in c.args.entries.now in
    let here = c.in-Arc in
    let is = c.in-One.is ∙ ap One here.is in
    let box = c.requires.bounds ∙ ap (λ (x : Item). bounds_of (item_leaves means x)) is in
    let drawn = c.arc_bounds.ensures
    ∙ ap (λ (o : Option Nm). drawn_box o here.from here.to here.centre here.ccw) (sym c.in-Some.is ∙ c.width.ensures.value) in
    subst (λ (x : Item). c.clipped.result ≡ painted_box means x) (sym is)
    (c.clipped.ensures.value ∙ (λ i. clip_of (box i) (drawn i)))
