-- The boxes of items, in half nm, and the cells of the board that they reach.
use Rattle.std.specs.Prelude.{◌≡◌, ℕ, ◌+◌, ◌*◌, ◌<◌, ℤ, pos, ◌+ℤ◌, ◌<ℤ◌, ◌≤ℤ◌, All, List, Some, length, map, slice_get}
use Rattle.std.specs.List.{slice_index_or}
use Rattle.cam_units.specs.declared.bounds.Bounds.{Bounds}
use Rattle.cam_units.specs.declared.bounds.Bounds.TheVariants.{Empty, Closed}
use Rattle.cam_units.specs.declared.length.Nm.{Nm}
use Rattle.cam_units.specs.declared.point.Spot.{Spot}
use Rattle.cam_objects.specs.declared.cells.reach.Reach.{Reach}
use Rattle.cam_objects.specs.declared.drill_item.DrillItem.{DrillItem}
use Rattle.cam_objects.specs.declared.entry.Entry.{Entry}
use Rattle.cam_objects.specs.declared.item.Item.{Item}
use Rattle.cam_objects.specs.declared.item.Item.TheVariants.{One, Repeat}
use Rattle.cam_objects.specs.declared.object.Object.{Object}
use Rattle.cam_objects.specs.Bounds.{bounds_of}
use Rattle.cam_objects.specs.Drilling.{drill_item_leaves}
use Rattle.cam_objects.specs.Leaves.{block_leaves, item_leaves, meaning_in, object_leaves, origin}

-- the box of what each item paints
abbrev pub item_boxes : List (ℕ × Entry) → List Item → List Bounds
item_boxes entries items = map (λ item. bounds_of (item_leaves (meaning_in entries) item)) items

-- the box of what each object of a block or of a repeat paints, as it stands
abbrev pub object_boxes : List (ℕ × Entry) → List Object → List Bounds
object_boxes entries objects = map (λ object. bounds_of (object_leaves (meaning_in entries) origin object)) objects

-- the box of what each item of a drill layer drills or routs
abbrev pub drill_item_boxes : List (ℕ × Nm) → List DrillItem → List Bounds
drill_item_boxes tools items = map (λ item. bounds_of (drill_item_leaves tools item)) items

-- the box at a place
abbrev pub box_at : List Bounds → ℕ → Bounds
box_at boxes k = slice_index_or boxes k Empty

-- the column or the row of a place, by its distance from the origin: cells of 65536 half nm, 65536 in a row, and what
-- lies outside is in the first or in the last of them
pub record IsCell (distance : ℤ) (cell : ℕ) : Type 0 where
  pub few : cell < 65536
  pub from : 0 < cell → pos (65536 * cell) ≤ℤ (distance +ℤ pos 2147483648)
  pub until : cell < 65535 → (distance +ℤ pos 2147483648) <ℤ pos (65536 * (cell + 1))

-- the cell of a side of a box; any, of no place
abbrev pub IsSide : (Spot → Spot → ℤ) → Bounds → ℕ → Type 0
IsSide side Empty cell = Unit {0}
IsSide side (Closed low high) cell = IsCell (side low high) cell

abbrev pub left_of : Spot → Spot → ℤ
left_of low high = low.x

abbrev pub bottom_of : Spot → Spot → ℤ
bottom_of low high = low.y

abbrev pub right_of : Spot → Spot → ℤ
right_of low high = high.x

abbrev pub top_of : Spot → Spot → ℤ
top_of low high = high.y

-- the cells from that of the low corner to that of the high one
pub record IsReachOf (b : Bounds) (reach : Reach) : Type 0 where
  pub left : IsSide left_of b reach.left
  pub bottom : IsSide bottom_of b reach.bottom
  pub right : IsSide right_of b reach.right
  pub top : IsSide top_of b reach.top

-- what is at a place of both lists belongs together; nothing is known of what lies behind
pub record AreBeside {X : Type 0} (R : X → ℕ → Type 0) (d : X) (xs : List X) (ys : List ℕ) : Type 0 where
  pub each : (k : ℕ) → k < length xs → k < length ys → R (slice_index_or xs k d) (slice_index_or ys k 0)

-- of each item of a list the left column of the cells that it reaches, the bottom row, the right column and the top row
pub record Reaches : Type 0 where
  pub left : List ℕ
  pub bottom : List ℕ
  pub right : List ℕ
  pub top : List ℕ

-- the place of a repeat in a list, the box of its first copy, and what the objects of that reach
pub record FirstCopied : Type 0 where
  pub place : ℕ
  pub bounds : Bounds
  pub reaches : Reaches

-- what the items reach, one after another from the first on; nothing is known of those behind
pub record AreCellsOf (boxes : List Bounds) (reaches : Reaches) : Type 0 where
  pub left : AreBeside (IsSide left_of) Empty boxes reaches.left
  pub bottom : AreBeside (IsSide bottom_of) Empty boxes reaches.bottom
  pub right : AreBeside (IsSide right_of) Empty boxes reaches.right
  pub top : AreBeside (IsSide top_of) Empty boxes reaches.top

-- what is known of the first copy of an item that is a repeat
abbrev pub IsFirstCopyOf : List (ℕ × Entry) → Item → FirstCopied → Type 0
IsFirstCopyOf entries (One object) first = Unit {0}
IsFirstCopyOf entries (Repeat columns rows i j objects) first =
    (first.bounds ≡ bounds_of (block_leaves (meaning_in entries) origin objects))
    × AreCellsOf (object_boxes entries objects) first.reaches

-- each is that of the item at its place, where there is one
abbrev pub AreFirstCopiesOf : List (ℕ × Entry) → List Item → List FirstCopied → Type 0
AreFirstCopiesOf entries items copies =
    All (λ first. (item : Item) → slice_get items first.place ≡ Some item → IsFirstCopyOf entries item first) copies
