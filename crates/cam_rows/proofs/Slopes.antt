-- Numbers at the centres of rows, one row below another.
use Rattle.std.proofs.Common.{rules, ◌≡◌, ℕ, ◌+◌, ℤ, pos, ◌+ℤ◌, ◌-ℤ◌, ◌*ℤ◌, ap, sym, ◌∙◌, arith}
use Rattle.std.proofs.lemmas.Int.{ints}
use Rattle.cam_units.proofs.Ring.{Atom, Difference, Product, Sum, equal}
use Rattle.cam_rows.specs.declared.centres.Centres.{Centres}
use Rattle.cam_rows.specs.declared.half_plane.HalfPlane.{HalfPlane}
use Rattle.cam_rows.specs.Rows.{row_below}
use Rattle.cam_rows.specs.Machinery.Slopes.{lowered, number_on}

-- no steps, and one more step
pub no_steps : (x step : ℤ) → x +ℤ pos 0 *ℤ step ≡ x
no_steps x step = equal (Sum (Atom x) (Product (Atom (pos 0)) (Atom step))) (Atom x) (omega arith)

one_more_step : (x step : ℤ) (k : ℕ) → (x +ℤ pos k *ℤ step) +ℤ pos 1 *ℤ step ≡ x +ℤ pos (k + 1) *ℤ step
one_more_step x step k = search (rules, ints, equal, Sum, Atom, Product)

-- the same numbers but for the first one
from_first : HalfPlane → ℤ → HalfPlane
from_first s z = record { first = z; step = s.step; down = s.down }

pub lowered_none : (s : HalfPlane) → lowered 0 s ≡ s
unfolding from_first
lowered_none s = ap (from_first s) (no_steps s.first s.down)

pub lowered_more : (k : ℕ) (s : HalfPlane) → lowered 1 (lowered k s) ≡ lowered (k + 1) s
unfolding from_first
lowered_more k s = ap (from_first s) (one_more_step s.first s.down k)

-- the top row
lifted : Centres → ℤ → Centres
lifted c y = record { x = c.x; y = y; step = c.step; n = c.n }

no_fall : (y step : ℤ) → y -ℤ pos 0 *ℤ step ≡ y
no_fall y step = equal (Difference (Atom y) (Product (Atom (pos 0)) (Atom step))) (Atom y) (omega arith)

pub top_row : (c : Centres) → row_below c 0 ≡ c
unfolding lifted
top_row c = ap (lifted c) (no_fall c.y c.step)

pub first_is : (s : HalfPlane) (k : ℕ) (z : ℤ) → number_on (lowered k s) 0 ≡ z → (lowered k s).first ≡ z
first_is s k z e = sym (no_steps (s.first +ℤ pos k *ℤ s.down) s.step) ∙ e
