use Rattle.std.proofs.Common.{◌≡◌, pos, ◌*ℤ◌, ap, ◌∙◌, arith, rules}
use Rattle.std.proofs.lemmas.Grind.{common_steps}
use Rattle.std.proofs.lemmas.Int.{ints}
use Rattle.cam_units.specs.Boxes.{join_of}
use Rattle.cam_units.specs.declared.point.Spot.{Spot}
use Rattle.cam_shapes.specs.Plane.{way}
use Rattle.cam_objects.proofs.Placed.{same_spot}
use Rattle.cam_ask.specs.Painted.{axis_place, down, floor_of, left, passed_box, right, up}
use Rattle.cam_ask.proofs.PaintedBoxes.{by_axis, by_none}
use Rattle.cam_ask.proofs.painted.axis_bounds.Goals as goal

pub returns : goal.returns
returns c =
    let a = c.args.arc in
    let f = floor_of (way a.centre a.from) in
    let far = c.rounded_length-radius.ensures.floor in
    let order = c.rounded_length-radius.ensures.order in
    let short = c.rounded_length-radius.ensures.short in
    let x : c.place-centre.result.x ≡ pos 2 *ℤ a.centre.x = ap (λ (s : Spot). s.x) c.place-centre.ensures.value in
    let y : c.place-centre.result.y ≡ pos 2 *ℤ a.centre.y = ap (λ (s : Spot). s.y) c.place-centre.ensures.value in
    let one = by_axis f in
    let none = by_none f in
    let to_right : c.moved.result ≡ axis_place a right = same_spot _ _
    (omega (arith, ints, c.moved.ensures.x, x, far, order, short, one.0)) (omega (arith, ints, c.moved.ensures.y, y, none)) in
    let above : c.moved-2.result ≡ axis_place a up = same_spot _ _
    (omega (arith, ints, c.moved-2.ensures.x, x, none)) (omega (arith, ints, c.moved-2.ensures.y, y, far, order, short, one.0)) in
    let to_left : c.moved-3.result ≡ axis_place a left = same_spot _ _
    (omega (arith, ints, c.moved-3.ensures.x, x, far, order, short, one.1)) (omega (arith, ints, c.moved-3.ensures.y, y, none)) in
    let below : c.moved-4.result ≡ axis_place a down = same_spot _ _
    (omega (arith, ints, c.moved-4.ensures.x, x, none)) (omega (arith, ints, c.moved-4.ensures.y, y, far, order, short, one.1)) in
    let first = c.passed_bounds.ensures ∙ ap (passed_box a) to_right in
    let second = c.passed_bounds-2.ensures ∙ ap (passed_box a) above in
    let third = c.passed_bounds-3.ensures ∙ ap (passed_box a) to_left in
    let fourth = c.passed_bounds-4.ensures ∙ ap (passed_box a) below in
    let both = c.joined.ensures.value ∙ (λ i. join_of (first i) (second i)) in
    let three = c.joined-2.ensures.value ∙ (λ i. join_of (both i) (third i)) in
    c.joined-3.ensures.value ∙ (λ i. join_of (three i) (fourth i))

-- the radius is short, to either side
pub overflow_sub-radius-2 : goal.overflow_sub-radius-2
overflow_sub-radius-2 c = omega (arith, ints, c.rounded_length-radius.ensures.order, c.rounded_length-radius.ensures.short)

pub moved-requires-3-clause-x : goal.moved-requires-3-clause-x
moved-requires-3-clause-x c = omega (arith, ints, c.rounded_length-radius.ensures.order, c.rounded_length-radius.ensures.short)

pub moved-requires-4-clause-y : goal.moved-requires-4-clause-y
moved-requires-4-clause-y c = omega (arith, ints, c.rounded_length-radius.ensures.order, c.rounded_length-radius.ensures.short)

pub passed_bounds-requires-3-clause-x : goal.passed_bounds-requires-3-clause-x
passed_bounds-requires-3-clause-x c =
    omega (
      arith,
      ints,
      c.moved-3.ensures.x,
      c.place-centre.ensures.x,
      c.rounded_length-radius.ensures.order,
      c.rounded_length-radius.ensures.short,
    )

pub passed_bounds-requires-4-clause-y : goal.passed_bounds-requires-4-clause-y
passed_bounds-requires-4-clause-y c =
    omega (
      arith,
      ints,
      c.moved-4.ensures.y,
      c.place-centre.ensures.y,
      c.rounded_length-radius.ensures.order,
      c.rounded_length-radius.ensures.short,
    )

pub passed_bounds-requires-clause-y : goal.passed_bounds-requires-clause-y
passed_bounds-requires-clause-y c = grind (arith)

pub passed_bounds-requires-4-clause-reach : goal.passed_bounds-requires-4-clause-reach
passed_bounds-requires-4-clause-reach c = search rules

pub passed_bounds-requires-clause-few : goal.passed_bounds-requires-clause-few
passed_bounds-requires-clause-few c = grind (arith)

pub passed_bounds-requires-4-clause-x : goal.passed_bounds-requires-4-clause-x
passed_bounds-requires-4-clause-x c = grind (arith)

pub passed_bounds-requires-3-clause-y : goal.passed_bounds-requires-3-clause-y
passed_bounds-requires-3-clause-y c = grind (arith)

pub passed_bounds-requires-4-clause-some : goal.passed_bounds-requires-4-clause-some
passed_bounds-requires-4-clause-some c = search rules

pub passed_bounds-requires-2-clause-some : goal.passed_bounds-requires-2-clause-some
passed_bounds-requires-2-clause-some c = search rules

pub passed_bounds-requires-2-clause-few : goal.passed_bounds-requires-2-clause-few
passed_bounds-requires-2-clause-few c = grind (arith)

pub moved-requires-clause-x : goal.moved-requires-clause-x
moved-requires-clause-x c = grind (arith, common_steps)

pub passed_bounds-requires-2-clause-reach : goal.passed_bounds-requires-2-clause-reach
passed_bounds-requires-2-clause-reach c = search rules

pub passed_bounds-requires-clause-some : goal.passed_bounds-requires-clause-some
passed_bounds-requires-clause-some c = grind (arith, common_steps)

pub passed_bounds-requires-clause-reach : goal.passed_bounds-requires-clause-reach
passed_bounds-requires-clause-reach c = search rules

pub moved-requires-2-clause-y : goal.moved-requires-2-clause-y
moved-requires-2-clause-y c = grind (arith, common_steps)

pub passed_bounds-requires-2-clause-x : goal.passed_bounds-requires-2-clause-x
passed_bounds-requires-2-clause-x c = grind (arith)

pub passed_bounds-requires-4-clause-few : goal.passed_bounds-requires-4-clause-few
passed_bounds-requires-4-clause-few c = grind (arith)

pub passed_bounds-requires-3-clause-few : goal.passed_bounds-requires-3-clause-few
passed_bounds-requires-3-clause-few c = grind (arith)

pub passed_bounds-requires-3-clause-some : goal.passed_bounds-requires-3-clause-some
passed_bounds-requires-3-clause-some c = search rules

pub passed_bounds-requires-3-clause-reach : goal.passed_bounds-requires-3-clause-reach
passed_bounds-requires-3-clause-reach c = search rules

pub passed_bounds-requires-4-clause-sound : goal.passed_bounds-requires-4-clause-sound
passed_bounds-requires-4-clause-sound c = assumption arith

pub passed_bounds-requires-3-clause-sound : goal.passed_bounds-requires-3-clause-sound
passed_bounds-requires-3-clause-sound c = assumption arith

pub passed_bounds-requires-2-clause-sound : goal.passed_bounds-requires-2-clause-sound
passed_bounds-requires-2-clause-sound c = assumption arith
