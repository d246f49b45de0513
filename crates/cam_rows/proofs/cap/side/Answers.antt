use Rattle.std.proofs.Common.{arith, to_z}
use Rattle.std.specs.Int.{w128}
use Rattle.cam_shapes.specs.Plane.{way}
use Rattle.cam_rows.proofs.CapSides.{IsTie, left_side, other_tie, right_side}
use Rattle.cam_rows.proofs.cap.side.Goals as goal
use Rattle.cam_rows.proofs.cap.side.Goals.{Joined-leads_down_or_right}

-- the tie, on either way to it
decided : (c : Joined-leads_down_or_right)
    → IsTie (way c.args.cap.now.from c.args.cap.now.to) (to_z w128 c.if-leads_down_or_right.tie-bits)
decided c = grind arith

pub returns-then-cap : goal.returns-then-cap
returns-then-cap c =
    let cap = c.args.cap.now in
    let tie = to_z w128 c.if-leads_down_or_right.tie-bits in
    let told = decided ((goal.at.returns-then-cap c).Joined-leads_down_or_right) in
    right_side cap c.args.top.now tie _ c.left.result c.if-cap.true told (other_tie (way cap.from cap.to) tie told)
    c.left.ensures.holds

pub returns : goal.returns
returns c =
    let cap = c.args.cap.now in
    left_side cap c.args.top.now (to_z w128 c.if-leads_down_or_right.tie-bits) c.left-2.result c.if-cap.false
    (decided ((goal.at.returns c).Joined-leads_down_or_right)) c.left-2.ensures.holds

pub left-requires-2-clause-row : goal.left-requires-2-clause-row
left-requires-2-clause-row c = assumption arith

pub left-requires-clause-row : goal.left-requires-clause-row
left-requires-clause-row c = assumption arith
