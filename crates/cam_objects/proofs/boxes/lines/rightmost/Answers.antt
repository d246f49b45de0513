use Rattle.std.proofs.Common.{◌≡◌, ◌⊎◌, inl, inr, ℤ, pos, ◌-ℤ◌, ◌*ℤ◌, ◌≤ℤ◌, to_z, w64, arith, rules}
use Rattle.std.proofs.lemmas.Int.{ints}
use Rattle.cam_objects.proofs.BesideLines.{far_above, far_below, less_apart, near_above, near_below}
use Rattle.cam_objects.proofs.boxes.lines.rightmost.Goals.{then-way-lt0, else-way-lt0}
use Rattle.cam_objects.proofs.boxes.lines.rightmost.Goals as goal

abbrev IsEnd : ℤ → ℤ → ℤ → ℤ → Type 0
IsEnd by low high end = ((by ≤ℤ pos 0) × (end ≡ low)) ⊎ ((pos 0 ≤ℤ by) × (end ≡ high))

greatest : (by low high end at from : ℤ) → IsEnd by low high end → low ≤ℤ at → at ≤ℤ high
    → (by *ℤ (at -ℤ from)) ≤ℤ (by *ℤ (end -ℤ from))
greatest by low high end at from it left right = grind (arith, far_below, far_above)

pub returns-then-way-lt0-2-clause-least : goal.returns-then-way-lt0-2-clause-least
returns-then-way-lt0-2-clause-least c = λ p s inside.
    let x = to_z w64 c.if-way-lt0.result-bits in
    let side = elim c.if-way-lt0.branch as (λ _. IsEnd c.args.way.y c.args.low.x c.args.high.x x) [
      | then-way-lt0 w ↦ inl (omega (arith, ints, w.if-way-lt0.true, c.requires.way.y), omega (arith, ints, w.result-is, c.requires.low.x))
      | else-way-lt0 w ↦ inr (omega (arith, ints, w.if-way-lt0.false, c.requires.way.y), omega (arith, ints, w.result-is, c.requires.high.x))
    ] in
    less_apart _ _ _ _
    (near_above c.args.way.x _ s.y _ c.args.high.y (omega (arith, ints, c.if-way-lt0-2.true, c.requires.way.x))
    (omega (arith, ints, c.requires.high.y)) inside.above)
    (greatest c.args.way.y c.args.low.x c.args.high.x x s.x _ side inside.left inside.right)

pub returns-else-way-lt0-2-clause-least : goal.returns-else-way-lt0-2-clause-least
returns-else-way-lt0-2-clause-least c = λ p s inside.
    let x = to_z w64 c.if-way-lt0.result-bits in
    let side = elim c.if-way-lt0.branch as (λ _. IsEnd c.args.way.y c.args.low.x c.args.high.x x) [
      | then-way-lt0 w ↦ inl (omega (arith, ints, w.if-way-lt0.true, c.requires.way.y), omega (arith, ints, w.result-is, c.requires.low.x))
      | else-way-lt0 w ↦ inr (omega (arith, ints, w.if-way-lt0.false, c.requires.way.y), omega (arith, ints, w.result-is, c.requires.high.x))
    ] in
    less_apart _ _ _ _
    (near_below c.args.way.x _ s.y _ c.args.low.y (omega (arith, ints, c.if-way-lt0-2.false, c.requires.way.x))
    (omega (arith, ints, c.requires.low.y)) inside.below)
    (greatest c.args.way.y c.args.low.x c.args.high.x x s.x _ side inside.left inside.right)

pub returns-then-way-lt0-2-clause-place : goal.returns-then-way-lt0-2-clause-place
returns-then-way-lt0-2-clause-place c = search rules

pub returns-else-way-lt0-2-clause-place : goal.returns-else-way-lt0-2-clause-place
returns-else-way-lt0-2-clause-place c = search rules
