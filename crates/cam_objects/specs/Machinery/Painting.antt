-- What painting asks of a place and of the leaves that are painted there.
use Rattle.std.specs.Prelude.{ℕ, ◌+◌, ◌*◌, ◌^◌, ◌<◌, ◌≤◌, ℤ, List, length, reverse, take, All}
use Rattle.std.specs.Int.RustNames.{unsigned_abs}
use Rattle.cam_refusals.specs.Limits.{board_limit}
use Rattle.cam_units.specs.Board.{IsOnBoard}
use Rattle.cam_units.specs.declared.point.Spot.{Spot}
use Rattle.cam_objects.specs.declared.object.Object.{Object}
use Rattle.cam_objects.specs.declared.entry.Entry.{Entry}
use Rattle.cam_objects.specs.declared.item.Item.{Item}
use Rattle.cam_objects.specs.declared.item.Item.TheVariants.{One, Repeat}
use Rattle.cam_objects.specs.declared.placing.place.Place.{Place}
use Rattle.cam_objects.specs.Image.{IsUncovered}
use Rattle.cam_objects.specs.Leaves.{Leaf, Meaning, meaning}
use Rattle.cam_refusals.specs.Limits.{leaf_limit}
use Rattle.cam_objects.specs.Soundness.{AreOnBoard, IsSoundDictionary, points_of}

-- what the first k entries of a dictionary mean
abbrev pub meaning_before : ℕ → List (ℕ × Entry) → ℕ → Meaning
meaning_before k entries = meaning (reverse (take k entries))

abbrev pub flash_leaves : ℕ → List (ℕ × Entry) → ℕ → Place → List Leaf
flash_leaves k entries n p = (meaning_before k entries n).flash p

-- the object's control points lie on the board, as they stand
abbrev pub StandsOnBoard : Object → Type 0
StandsOnBoard o = All IsOnBoard (points_of o)

-- the offset of a place leaves room for n more points of the board
unfoldable pub HasReach : ℕ → Place → Type 0
HasReach n p =
    (unsigned_abs p.offset.x + n * board_limit < 4400000000000000000)
    × (unsigned_abs p.offset.y + n * board_limit < 4400000000000000000)

-- what is asked of a place at which leaves are painted, with n more placements to come
pub record IsPrintable (entries : List (ℕ × Entry)) (upto n : ℕ) (p : Place) (leaves : List Leaf) : Type 0 where
  pub within : upto ≤ length entries
  pub sound : IsSoundDictionary entries
  pub board : AreOnBoard leaves
  pub reach : HasReach n p

-- what is asked of a dictionary and of the leaves that are painted as they stand
pub record IsReadyToPrint (entries : List (ℕ × Entry)) (leaves : List Leaf) : Type 0 where
  pub few : length entries ≤ 2 ^ 31
  pub sound : IsSoundDictionary entries
  pub board : AreOnBoard leaves

-- n copies of objects, each a step from the one before
pub record IsCopied (n : ℕ) (step : ℤ) (objects : List Object) : Type 0 where
  pub copies : n ≤ leaf_limit
  pub short : unsigned_abs step < board_limit
  pub points : All StandsOnBoard objects

abbrev pub IsPaintableItem : Item → Type 0
IsPaintableItem (One o) = StandsOnBoard o
IsPaintableItem (Repeat columns rows i j objects) = IsCopied columns i objects × IsCopied rows j objects

-- leaves that cover no pixel of a canvas
abbrev pub IsUnseen : {V : Type 0} → (V → ℕ → ℕ → Type 0) → (V → ℕ → ℕ → Spot) → V → List Leaf → Type 0
IsUnseen has place canvas leaves =
    (column row : ℕ) → has canvas column row → IsUncovered leaves (place canvas column row)
