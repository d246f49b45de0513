-- Runs of wide rows from the leftmost column on, by their ends, where the numbers of a slope fall.
use Rattle.std.proofs.Common.{◌≡◌, ◌↔◌, ℕ, ◌<◌, ℤ, pos, ◌-ℤ◌, ◌*ℤ◌, ◌≤ℤ◌, ◌<ℤ◌, arith}
use Rattle.std.proofs.lemmas.Int.{ints}
use Rattle.std.proofs.lemmas.Nat.{mul-le}
use Rattle.cam_units.proofs.Ring.{Atom, Difference, Product, equal}
use Rattle.cam_units.specs.declared.point.Spot.{Spot}
use Rattle.cam_rows.specs.declared.centres.Centres.{Centres}
use Rattle.cam_rows.specs.declared.half_plane.HalfPlane.{HalfPlane}
use Rattle.cam_rows.specs.Machinery.HalfPlanes.{IsHalfPlaneOf}
use Rattle.cam_rows.specs.Machinery.Narrowing.{AreCounted, IsUp}
use Rattle.cam_rows.specs.Rows.{centre_at, row_below}
use Rattle.cam_rows.specs.Runs.{AreEnds}

-- ---- the columns that a half plane holds

pub counted_ends : (end : ℕ → ℕ) (n : ℕ) (top : Centres) (P Q : Spot → Type 0) (h : HalfPlane) → IsHalfPlaneOf top P h
    → ((s : Spot) → P s ↔ Q s) → AreCounted top.n (IsUp h) n end → AreEnds end n top Q
counted_ends end n top P Q h half same counted = grind arith

pub ends_like : (end : ℕ → ℕ) (n : ℕ) (top : Centres) (P Q : Spot → Type 0)
    → ((k i : ℕ) → k < n → P (centre_at (row_below top k) i) ↔ Q (centre_at (row_below top k) i))
    → AreEnds end n top P → AreEnds end n top Q
ends_like end n top P Q same told = grind arith

-- ---- a line that rises

pub falls_right : (rise step product : ℤ) → pos 0 <ℤ rise → pos 1 ≤ℤ step → product ≡ (pos 0 -ℤ rise) *ℤ step
    → product <ℤ pos 0
falls_right rise step product h k e = grind (arith, equal, Product, Difference, Atom, mul-le, ints)
