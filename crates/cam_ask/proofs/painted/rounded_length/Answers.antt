use Rattle.std.proofs.Common.{arith, ◌≡◌, ℕ, ◌+◌, ◌*◌, ◌==◌, ◌<◌, ◌≤◌, Bool, true, false, ap, sym, ◌∙◌}
use Rattle.std.specs.Prelude.{if◌then◌else◌}
use Rattle.std.proofs.lemmas.Bool.{eqb-true, eq-eqb, false≢true}
use Rattle.cam_objects.specs.Bounds.{root}
use Rattle.cam_objects.proofs.Roots.{is_root}
use Rattle.cam_ask.proofs.painted.rounded_length.Goals as goal

exact : (r n : ℕ) (b : Bool) → (r * r == n) ≡ b → r * r ≡ n → r ≡ (if b then r else r + 1)
exact r n b e same = grind (arith, false≢true, eq-eqb)

next : (r n : ℕ) (b : Bool) → (r * r == n) ≡ b → (r * r ≡ n → ⊥) → r + 1 ≡ (if b then r else r + 1)
next r n b e unlike = grind (arith, eqb-true)

-- of a square n and its root f
module _ (n m f : ℕ) (value : n ≡ m) (square : f * f ≤ n) (greatest : n < (f + 1) * (f + 1)) where
  floor : f ≡ root m
  floor = sym (ap root (sym value) ∙ is_root n f square greatest)

  ceiling : (k : ℕ) → k ≡ f → k * k ≡ n → f ≡ (if root m * root m == m then root m else root m + 1)
  ceiling k same e = grind (arith, floor, exact)

  more : (k : ℕ) → k ≡ f → (k * k ≡ n → ⊥) → f + 1 ≡ (if root m * root m == m then root m else root m + 1)
  more k same unlike = grind (arith, floor, next)

pub returns-then-root-square-clause-floor : goal.returns-then-root-square-clause-floor
returns-then-root-square-clause-floor c =
    floor _ _ _ c.squared_length-square.ensures.value c.isqrt-floor.ensures.square c.isqrt-floor.ensures.greatest

pub returns-then-root-square-clause-ceiling : goal.returns-then-root-square-clause-ceiling
returns-then-root-square-clause-ceiling c =
    ceiling _ _ _ c.squared_length-square.ensures.value c.isqrt-floor.ensures.square c.isqrt-floor.ensures.greatest
    c.from-root.result c.from-root.ensures c.if-root-square.true

pub returns-clause-floor : goal.returns-clause-floor
returns-clause-floor c =
    floor _ _ _ c.squared_length-square.ensures.value c.isqrt-floor.ensures.square c.isqrt-floor.ensures.greatest

pub returns-clause-ceiling : goal.returns-clause-ceiling
returns-clause-ceiling c =
    more _ _ _ c.squared_length-square.ensures.value c.isqrt-floor.ensures.square c.isqrt-floor.ensures.greatest
    c.from-root.result c.from-root.ensures c.if-root-square.false

pub returns-clause-short : goal.returns-clause-short
returns-clause-short c = grind (arith)

pub returns-then-root-square-clause-short : goal.returns-then-root-square-clause-short
returns-then-root-square-clause-short c = grind (arith)

pub overflow_add-result : goal.overflow_add-result
overflow_add-result c = grind (arith)
