-- Runs in which the columns of a shape are found.
use Rattle.std.proofs.Common.{◌≡◌, ◌↔◌, ℕ, List, length, arith}
use Rattle.cam_units.specs.declared.point.Spot.{Spot}
use Rattle.cam_rows.specs.declared.centres.Centres.{Centres}
use Rattle.cam_rows.specs.Machinery.Narrowing.{AreNarrowed}
use Rattle.cam_rows.specs.Rows.{centre_at, row_below}
use Rattle.cam_rows.specs.Runs.{AreFound, AreRuns}

-- all columns of a shape are found anew
pub found_anew : (firsts ends new_firsts new_ends : List ℕ) (top : Centres) (IsIn : Spot → Type 0)
    → length new_firsts ≡ length firsts → AreRuns new_firsts new_ends top IsIn
    → AreFound firsts ends top IsIn new_firsts new_ends
found_anew firsts ends new_firsts new_ends top IsIn size runs = grind arith

-- or those in the runs alone
pub found_narrowed : (firsts ends new_firsts new_ends : List ℕ) (top : Centres) (P Q : Spot → Type 0)
    → ((s : Spot) → P s ↔ Q s)
    → AreNarrowed top.n firsts ends (λ k i. P (centre_at (row_below top k) i)) (length firsts) new_firsts new_ends
    → AreFound firsts ends top Q new_firsts new_ends
found_narrowed firsts ends new_firsts new_ends top P Q same narrowed = grind arith
