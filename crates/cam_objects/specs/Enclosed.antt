-- Boxes drawn about items: which items lie in one.
use Rattle.std.specs.Prelude.{ℕ, ◌<◌, ◌≤◌, List, length, Option, None, Some}
use Rattle.cam_units.specs.Boxes.{Holds, IsWithin}
use Rattle.cam_units.specs.declared.bounds.Bounds.{Bounds}
use Rattle.cam_units.specs.declared.point.Spot.{Spot}
use Rattle.cam_objects.specs.Cells.{box_at}

-- a box holds a place, and each of its places lies in the other or on its edge
pub record IsEnclosed (box outer : Bounds) : Type 0 where
  pub place : (s : Spot) × Holds box s
  pub within : IsWithin box outer

-- of the items from one place of the list on, counted from 0, that at k is the first whose box the other encloses
pub record IsFirstEnclosed (boxes : List Bounds) (outer : Bounds) (from k : ℕ) : Type 0 where
  pub onward : from ≤ k
  pub listed : k < length boxes
  pub enclosed : IsEnclosed (box_at boxes k) outer
  pub others : (j : ℕ) → from ≤ j → j < k → ¬ IsEnclosed (box_at boxes j) outer

-- none of them
abbrev pub AreNoneEnclosed : List Bounds → Bounds → ℕ → Type 0
AreNoneEnclosed boxes outer from = (j : ℕ) → from ≤ j → j < length boxes → ¬ IsEnclosed (box_at boxes j) outer

-- the next item, from a place on, that a box encloses, or none
abbrev pub FindsEnclosed : List Bounds → Bounds → ℕ → Option ℕ → Type 0
FindsEnclosed boxes outer from None = AreNoneEnclosed boxes outer from
FindsEnclosed boxes outer from (Some k) = IsFirstEnclosed boxes outer from k
