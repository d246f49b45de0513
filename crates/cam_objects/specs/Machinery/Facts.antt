-- What is kept beside each entry of a dictionary, so that no check walks a block again for each flash of it.
use Rattle.std.specs.Prelude.{◌≡◌, ℕ, ◌<◌, List, length, nat_eq, take, slice_index_or, slice_get, Some}
use Rattle.std.specs.List.{IsDistinct}
use Rattle.std.specs.Map.{keys_of}
use Rattle.cam_units.specs.declared.bounds.Bounds.{Bounds}
use Rattle.cam_units.specs.declared.bounds.Bounds.TheVariants.{Empty}
use Rattle.cam_apertures.specs.Primitives.{box_of_point}
use Rattle.cam_objects.specs.declared.entry.Entry.{Entry}
use Rattle.cam_objects.specs.declared.checks.facts.Facts.{Facts}
use Rattle.cam_objects.specs.Bounds.{bounds_of, box_of_all}
use Rattle.cam_objects.specs.Leaves.{Leaf, entry_meaning, meaning_in, origin}
use Rattle.cam_objects.specs.Soundness.{IsSoundDictionary, points_of_shape}
use Rattle.cam_objects.specs.Weights.{entry_weight, weight_in}

-- the box of a leaf's control points, and of those of many leaves
abbrev pub points_box : Leaf → Bounds
points_box l = box_of_all box_of_point (points_of_shape l.shape)

abbrev pub points_bounds_of : List Leaf → Bounds
points_bounds_of leaves = box_of_all points_box leaves

-- what one flash of an entry paints at the origin, where it stands behind these entries
abbrev pub leaves_at_origin : List (ℕ × Entry) → Entry → List Leaf
leaves_at_origin older entry = (entry_meaning (meaning_in older) entry).flash origin

-- what is kept of an entry that stands behind these
abbrev pub facts_of : List (ℕ × Entry) → Entry → Facts
facts_of older entry =
    let w = entry_weight (weight_in older) entry in
    let leaves = leaves_at_origin older entry in record {
      leaves = w.leaves;
      depth = w.depth;
      points = points_bounds_of leaves;
      bounds = bounds_of leaves;
    }

-- beside each entry its facts
pub record AreFactsOf (entries : List (ℕ × Entry)) (kept : List Facts) : Type 0 where
  pub many : length kept ≡ length entries
  pub each : (k : ℕ) (d : ℕ × Entry) → k < length entries →
      slice_get kept k ≡ Some (facts_of (take k entries) (slice_index_or entries k d).1)

abbrev pub no_facts : Facts
no_facts = record { leaves = 0; depth = 0; points = Empty; bounds = Empty }

-- what is kept of a number, where no entry of it adds nothing
abbrev pub facts_at : List (ℕ × Entry) → ℕ → Facts
facts_at entries n =
    let w = weight_in entries n in
    let leaves = (meaning_in entries n).flash origin in record {
      leaves = w.leaves;
      depth = w.depth;
      points = points_bounds_of leaves;
      bounds = bounds_of leaves;
    }

-- a sound dictionary, and beside each entry its facts
pub record IsKept (entries : List (ℕ × Entry)) (kept : List Facts) : Type 0 where
  pub distinct : IsDistinct nat_eq (keys_of entries)
  pub sound : IsSoundDictionary entries
  pub facts : AreFactsOf entries kept
