-- How many leaves a layer counts, and how deep its blocks are.
use Rattle.std.specs.Prelude.{ℕ, ◌+◌, ◌*◌, List, max, fold, reverse, sum_by}
use Rattle.cam_objects.specs.declared.object.Object.{Object}
use Rattle.cam_objects.specs.declared.object.Object.TheVariants.{Flash, Draw, Arc, Region}
use Rattle.cam_objects.specs.declared.entry.Entry.{Entry}
use Rattle.cam_objects.specs.declared.entry.Entry.TheVariants.{Aperture, Block}
use Rattle.cam_objects.specs.declared.item.Item.{Item}
use Rattle.cam_objects.specs.declared.item.Item.TheVariants.{One, Repeat}
use Rattle.cam_objects.specs.Leaves.{stands_for}

-- what a number adds to its flash: the leaves of a block, none of an aperture; and how many blocks lie in one
-- another, none of an aperture
pub record Weight : Type 0 where
  pub leaves : ℕ
  pub depth : ℕ

abbrev pub no_weight : Weight
no_weight = record { leaves = 0; depth = 0 }

module _ (weigh : ℕ → Weight) where
  -- an object counts one, and a flash of a block the block's leaves besides
  abbrev pub object_count : Object → ℕ
  object_count (Flash n at t dark) = 1 + (weigh n).leaves
  object_count (Draw n from to t dark) = 1
  object_count (Arc ccw dark n from to centre) = 1
  object_count (Region contour dark) = 1

  abbrev pub block_count : List Object → ℕ
  block_count objects = sum_by object_count objects

  -- each copy of a repeat counts
  abbrev pub item_count : Item → ℕ
  item_count (One object) = object_count object
  item_count (Repeat columns rows i j objects) = columns * rows * block_count objects

  abbrev pub object_depth : Object → ℕ
  object_depth (Flash n at t dark) = (weigh n).depth
  object_depth (Draw n from to t dark) = 0
  object_depth (Arc ccw dark n from to centre) = 0
  object_depth (Region contour dark) = 0

  -- one more than that of the deepest block that a block flashes, else one
  abbrev pub block_depth : List Object → ℕ
  block_depth objects = 1 + fold (λ deepest object. max deepest (object_depth object)) 0 objects

  abbrev pub entry_weight : Entry → Weight
  entry_weight (Aperture a) = no_weight
  entry_weight (Block objects) = record { leaves = block_count objects; depth = block_depth objects }

-- what the numbers of a dictionary weigh
abbrev pub weight_in : List (ℕ × Entry) → ℕ → Weight
weight_in entries = stands_for no_weight entry_weight (reverse entries)
