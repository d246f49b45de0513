-- The cells that the objects of a block or of a repeat reach, so that painting passes over those that lie elsewhere. Those of
-- a block are kept beside its entry.
use Rattle.std.specs.Prelude.{◌≡◌, ℕ, ◌<◌, ◌≤◌, List, length, take, slice_index_or, All, ⊤}
use Rattle.cam_refusals.specs.Limits.{count_limit, leaf_limit}
use Rattle.cam_objects.specs.declared.entry.Entry.{Entry}
use Rattle.cam_objects.specs.declared.entry.Entry.TheVariants.{Aperture, Block}
use Rattle.cam_objects.specs.declared.object.Object.{Object}
use Rattle.cam_objects.specs.Cells.{AreCellsOf, Reaches, object_boxes}
use Rattle.cam_objects.specs.Leaves.{block_leaves, meaning_in, origin}
use Rattle.cam_objects.specs.Machinery.Boxes.{IsNearBox}
use Rattle.cam_objects.specs.Machinery.Painting.{StandsOnBoard}
use Rattle.cam_objects.specs.Soundness.{AreOnBoard, IsSoundDictionary}
use Rattle.cam_objects.specs.Weights.{block_count, weight_in}

-- objects whose boxes and leaves can be found among these entries
pub record AreMeasurable (entries : List (ℕ × Entry)) (objects : List Object) : Type 0 where
  pub sound : IsSoundDictionary entries
  pub stand : All StandsOnBoard objects
  pub board : AreOnBoard (block_leaves (meaning_in entries) origin objects)
  pub few : length objects ≤ count_limit
  pub leaves : block_count (weight_in entries) objects ≤ leaf_limit

-- the cells of objects, whose boxes do not lie far
pub record AreObjectCells (entries : List (ℕ × Entry)) (objects : List Object) (reaches : Reaches) : Type 0 where
  pub cells : AreCellsOf (object_boxes entries objects) reaches
  pub near : All IsNearBox (object_boxes entries objects)

-- an aperture has no objects
abbrev pub HasCells : List (ℕ × Entry) → Entry → Reaches → Type 0
HasCells older (Aperture a) cells = ⊤
HasCells older (Block objects) cells = AreObjectCells older objects cells

-- beside each entry its cells
pub record AreCellsKept (entries : List (ℕ × Entry)) (kept : List Reaches) : Type 0 where
  pub many : length kept ≡ length entries
  pub each : (k : ℕ) (d : ℕ × Entry) (c : Reaches) → k < length entries →
      HasCells (take k entries) (slice_index_or entries k d).1 (slice_index_or kept k c)
