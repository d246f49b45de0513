use Rattle.std.proofs.Common.{◌≡◌, ℕ, ◌<◌, Bool, ◌&&◌, ◌||◌, nat_lt, arith, rules}
use Rattle.std.specs.Prelude.{not}
use Rattle.std.specs.Int.RustNames.{unsigned_abs}
use Rattle.std.proofs.lemmas.Bool.{lt-ltb}
use Rattle.std.proofs.lemmas.Int.{ints}
use Rattle.cam_shapes.specs.Tests.{is_in_arc}
use Rattle.cam_shapes.proofs.TestLaws.{is_in_arc-meaning}
use Rattle.cam_objects.proofs.TestLaws.{same_test}
use Rattle.cam_ask.proofs.PaintedBoxes.{thin}
use Rattle.cam_ask.proofs.painted.is_passed.Goals as goal

near : (m n k : ℕ) (b t : Bool) → m < k → n < k → b ≡ t → b ≡ (not (nat_lt m k && nat_lt n k) || t)
near m n k b t h l e = rw (lt-ltb m k h, lt-ltb n k l) e

pub returns : goal.returns
returns c =
    near (unsigned_abs c.args.at.x) (unsigned_abs c.args.at.y) 4000000000 c.in_arc.result (is_in_arc c.args.at (thin c.args.arc))
    (omega (arith, ints, c.if-unsigned_abs-ge-REACH.false, c.unsigned_abs.ensures.value))
    (omega (arith, ints, c.if-unsigned_abs-ge-REACH-2.false, c.unsigned_abs-else-unsigned_abs-ge-REACH.ensures.value))
    (same_test c.in_arc.result (is_in_arc c.args.at (thin c.args.arc)) c.in_arc.ensures (is_in_arc-meaning c.args.at (thin c.args.arc)))

pub returns-then-unsigned_abs-ge-REACH : goal.returns-then-unsigned_abs-ge-REACH
returns-then-unsigned_abs-ge-REACH c = search rules

pub in_arc-requires-clause-spot : goal.in_arc-requires-clause-spot
in_arc-requires-clause-spot c = grind (arith)
