-- Runs of copies, one behind another, and the boxes that they meet.
use Rattle.std.specs.Prelude.{ℕ, ◌<◌, ◌≤◌, ◌≤ℤ◌}
use Rattle.cam_units.specs.declared.bounds.Bounds.{Bounds}
use Rattle.cam_units.specs.declared.bounds.Bounds.TheVariants.{Empty, Closed}
use Rattle.cam_objects.specs.declared.paint.run.Run.{Run}

-- the copy of that number is one of the run
pub record IsInRun (run : Run) (k : ℕ) : Type 0 where
  pub from : run.first ≤ k
  pub below : k < run.end

-- a run of so many copies
pub record IsWithinCount (count : ℕ) (run : Run) : Type 0 where
  pub first : run.first ≤ count
  pub end : run.end ≤ count

-- two boxes have places one above another
abbrev pub MeetsAcross : Bounds → Bounds → Type 0
MeetsAcross Empty b = ⊥
MeetsAcross (Closed low high) Empty = ⊥
MeetsAcross (Closed low high) (Closed low' high') = (low.x ≤ℤ high'.x) × (low'.x ≤ℤ high.x)

-- and one beside another
abbrev pub MeetsUpright : Bounds → Bounds → Type 0
MeetsUpright Empty b = ⊥
MeetsUpright (Closed low high) Empty = ⊥
MeetsUpright (Closed low high) (Closed low' high') = (low.y ≤ℤ high'.y) × (low'.y ≤ℤ high.y)
