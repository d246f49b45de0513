-- What is told of a layer.
use Rattle.std.specs.Prelude.{◌≡◌, ℕ, ◌+◌, nat_le, nat_lt, pos, ◌*ℤ◌, ◌&&◌, unsigned_abs, Bool, true, List, [], ◌∷◌, slice_get, Option, None, Some, option_to_list}
use Rattle.std.specs.List.{flat_map}
use Rattle.cam_units.specs.Board.{IsPlace}
use Rattle.cam_units.specs.Boxes.{join_of}
use Rattle.cam_units.specs.declared.bounds.Bounds.{Bounds}
use Rattle.cam_units.specs.declared.bounds.Bounds.TheVariants.{Closed}
use Rattle.cam_units.specs.declared.point.Point.{Point}
use Rattle.cam_units.specs.declared.point.Spot.{Spot}
use Rattle.cam_objects.specs.Bounds.{bounds_of}
use Rattle.cam_objects.specs.Enclosed.{AreNoneEnclosed, IsFirstEnclosed}
use Rattle.cam_objects.specs.Topmost.{PointsAt}
use Rattle.cam_edits.specs.Asking.{sheet_boxes, sheet_lists}
use Rattle.cam_edits.specs.Images.{sheet_leaves}
use Rattle.cam_edits.specs.Sheets.{Content, entry_count, item_count}
use Rattle.cam_script.specs.declared.question.Query.{Query}
use Rattle.cam_script.specs.declared.question.Query.TheVariants as queries
use Rattle.cam_ask.specs.Painted.{painted_boxes}
use Rattle.cam_ask.specs.Texts.{attributes_text, box_line, entries_text, entry_text, items_text, place_line}

-- the place of a point, in half nm
abbrev pub spot_of : Point → Spot
spot_of p = record { x = pos 2 *ℤ p.x; y = pos 2 *ℤ p.y }

-- the least box that holds two points
abbrev pub box_of : Point → Point → Bounds
box_of from to = join_of (Closed (spot_of from) (spot_of from)) (Closed (spot_of to) (spot_of to))

-- a point that a line can say
abbrev pub is_said : Point → Bool
is_said p = nat_le (unsigned_abs p.x) 4000000000 && nat_le (unsigned_abs p.y) 4000000000

abbrev pub can_be_asked : Query → Bool
can_be_asked (queries.At at before) = is_said at
can_be_asked (queries.In from to) = is_said from && is_said to
can_be_asked _ = true

-- the items before which the topmost is looked for: all, where none is told
abbrev pub before_in : Content → Option ℕ → ℕ
before_in c None = item_count c
before_in c (Some k) = k

-- the place of the topmost item at a place of the board; no line where there is none
pub record IsTopmostTold (c : Content) (s : Spot) (before : ℕ) (text : List ℕ) : Type 0 where
  pub place : Option ℕ
  pub topmost : IsPlace s → PointsAt (sheet_lists c) s before place
  pub elsewhere : ¬ IsPlace s → place ≡ None
  pub text_is : text ≡ flat_map place_line (option_to_list place)

-- all the items, from one on, of which a box encloses what they paint, in order
abbrev pub AreEnclosed : List Bounds → Bounds → ℕ → List ℕ → Type 0
AreEnclosed boxes outer from [] = AreNoneEnclosed boxes outer from
AreEnclosed boxes outer from (k ∷ ks) = IsFirstEnclosed boxes outer from k × AreEnclosed boxes outer (k + 1) ks

pub record IsEnclosedTold (c : Content) (outer : Bounds) (text : List ℕ) : Type 0 where
  pub places : List ℕ
  pub enclosed : AreEnclosed (painted_boxes c) outer 0 places
  pub text_is : text ≡ flat_map place_line places

-- what is told of a layer
abbrev pub IsLayerTold : Content → Query → List ℕ → Type 0
IsLayerTold c (queries.At at before) text = IsTopmostTold c (spot_of at) (before_in c before) text
IsLayerTold c (queries.In from to) text = IsEnclosedTold c (box_of from to) text
IsLayerTold c (queries.Item k) text = text ≡ items_text c k 1
IsLayerTold c (queries.Items from count) text = text ≡ items_text c from count
IsLayerTold c queries.Bounds text = text ≡ box_line (bounds_of (sheet_leaves c))
IsLayerTold c (queries.ItemBounds k) text = text ≡ flat_map box_line (option_to_list (slice_get (sheet_boxes c) k))
IsLayerTold c (queries.Entry i) text = text ≡ entry_text c i
IsLayerTold c queries.Entries text = text ≡ entries_text c
IsLayerTold c queries.Attributes text = text ≡ attributes_text c

-- whether the layer has the place that is asked for
abbrev pub has_place : Content → Query → Bool
has_place c (queries.Item k) = nat_lt k (item_count c)
has_place c (queries.Items from count) = nat_le from (item_count c)
has_place c (queries.ItemBounds k) = nat_lt k (item_count c)
has_place c (queries.Entry i) = nat_lt i (entry_count c)
has_place c _ = true
