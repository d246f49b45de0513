use Rattle.std.proofs.Common.{◌≡◌, ◌+◌, ◌-◌, ◌*◌, ◌≤◌, pos, arith}
use Rattle.std.proofs.lemmas.Grind.{common_steps}
use Rattle.std.specs.Int.RustNames.{unsigned_abs}
use Rattle.std.proofs.lemmas.Int.{ints}
use Rattle.cam_shapes.proofs.Widths.{narrow}
use Rattle.cam_rows.proofs.CapTies.{circle_chord, in_circle_is, is_below}
use Rattle.cam_rows.proofs.Circling.{square_of}
use Rattle.cam_rows.proofs.WideRows.{by_strip}
use Rattle.cam_rows.proofs.runs.cap.chords.run_at.Goals as goal

pub returns-clause-each : goal.returns-clause-each
returns-clause-each g c = λ u v i radius height side within.
    let over = unsigned_abs (narrow c.args.height) in
    let room = c.room_at-to_left.result in
    let some = c.if-to_left-eq0.false in
    let square = square_of over v.y (omega (arith, ints, height, c.ranges.height.sfits)) in
    let below = is_below v.y (narrow c.args.height) (pos 0) (omega (arith, ints, height, c.ranges.height.sfits)) in
    let low : over * over ≤ c.args.radius = omega (arith, some, c.room_at-to_left.ensures.room) in
    let is : c.args.radius - over * over ≡ room - 1 = omega (arith, some, c.room_at-to_left.ensures.room) in
    let circle = in_circle_is u v c.args.radius (over * over) _ radius square low below in
    let again : (room - 1) + 1 ≡ room = omega (arith, some) in
    let chord = circle_chord u v (room - 1) c.right_room.result _ (rw is at circle) (c.right_room.ensures.each v.x) in
    by_strip _ _ _ (rw (← side) at (c.walk.ensures.each i within)) (rw again at chord)

pub room_at-to_left-requires-clause-height : goal.room_at-to_left-requires-clause-height
room_at-to_left-requires-clause-height c = grind (arith)

pub walk-requires-clause-chord : goal.walk-requires-clause-chord
walk-requires-clause-chord c = assumption arith

pub returns-then-to_left-eq0-clause-chord : goal.returns-then-to_left-eq0-clause-chord
returns-then-to_left-eq0-clause-chord c = assumption arith

pub returns-then-to_left-eq0-clause-each : goal.returns-then-to_left-eq0-clause-each
returns-then-to_left-eq0-clause-each c = grind (arith, common_steps)

pub walk-requires-clause-sides : goal.walk-requires-clause-sides
walk-requires-clause-sides c = grind (arith)

pub returns-clause-chord : goal.returns-clause-chord
returns-clause-chord c = grind (arith)
