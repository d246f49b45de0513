-- Quotients that are rounded down, as they are passed on, and their sums from each row to the next.
use Rattle.std.proofs.Common.{◌≡◌, ℤ, pos, ◌+ℤ◌, ◌-ℤ◌, arith}
use Rattle.cam_units.proofs.Ring.{Atom, Difference, Product, Sum, equal}
use Rattle.cam_rows.specs.Machinery.Slopes.{whole}

-- one row lower, where the remainders stay below the divisor together, and where they do not
pub few_whole : (e r d u t : ℤ) → whole (e +ℤ u) d (r +ℤ t) ≡ whole e d r +ℤ whole u d t
few_whole e r d u t =
    equal
    (Sum (Product (Sum (Atom e) (Atom u)) (Atom d)) (Sum (Atom r) (Atom t)))
    (Sum (Sum (Product (Atom e) (Atom d)) (Atom r)) (Sum (Product (Atom u) (Atom d)) (Atom t)))
    (omega arith)

pub next_whole : (e r d : ℤ) → whole (e +ℤ pos 1) d (r -ℤ d) ≡ whole e d r
next_whole e r d =
    equal
    (Sum (Product (Sum (Atom e) (Atom (pos 1))) (Atom d)) (Difference (Atom r) (Atom d)))
    (Sum (Product (Atom e) (Atom d)) (Atom r))
    (omega arith)
