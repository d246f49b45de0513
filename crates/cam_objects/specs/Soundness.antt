-- Sound layers: everything on the board and within the limits, and each number named after it is defined (Gerber Layer
-- Format Specification, "Aperture dictionary", "Block Aperture (AB)" and "Region statement").
use Rattle.std.specs.Prelude.{
  ◌≡◌,
  ℕ,
  ◌*◌,
  ◌<◌,
  ◌≤◌,
  nat_eq,
  nat_le,
  nat_lt,
  ℤ,
  Bool,
  true,
  not,
  ◌&&◌,
  List,
  [],
  ◌∷◌,
  length,
  take,
  slice_index_or,
  None,
  is_some,
  sum_by,
  All,
}
use Rattle.std.specs.List.{flat_map, list_all}
use Rattle.std.specs.Map.{lookup}
use Rattle.std.specs.Ordering.{int_eq}
use Rattle.std.specs.Int.RustNames.{unsigned_abs}
use Rattle.cam_refusals.specs.Checks.{Checks, first_holding}
use Rattle.cam_refusals.specs.Limits.{board_limit, count_limit, depth_limit, leaf_limit}
use Rattle.cam_units.specs.Board.{IsOnBoard}
use Rattle.cam_units.specs.declared.point.Point.{Point}
use Rattle.cam_shapes.specs.declared.contour.Contour.{Contour}
use Rattle.cam_shapes.specs.declared.segments.Seg.{Seg}
use Rattle.cam_shapes.specs.declared.segments.Seg.TheVariants.{Line, Curve}
use Rattle.cam_apertures.specs.Soundness.{IsSoundAperture}
use Rattle.cam_objects.specs.declared.object.Object.{Object}
use Rattle.cam_objects.specs.declared.object.Object.TheVariants.{Flash, Draw, Arc, Region}
use Rattle.cam_objects.specs.declared.entry.Entry.{Entry}
use Rattle.cam_objects.specs.declared.entry.Entry.TheVariants.{Aperture, Block}
use Rattle.cam_objects.specs.declared.item.Item.{Item}
use Rattle.cam_objects.specs.declared.item.Item.TheVariants.{One, Repeat}
use Rattle.cam_objects.specs.declared.item_fault.ItemFault.{ItemFault}
use Rattle.cam_objects.specs.declared.item_fault.ItemFault.TheVariants.{
  Malformed,
  UnknownAperture,
  WrongAperture,
  ZeroRadius,
  OutOfBoard,
  TooMuch,
}
use Rattle.cam_objects.specs.declared.layer.Layer.{Layer}
use Rattle.cam_objects.specs.Attributes.{AreAttributes}
use Rattle.cam_objects.specs.Leaves.{
  Leaf,
  Shape,
  Stamp,
  Stroke,
  Swept,
  Sweep,
  Filled,
  Drilled,
  Meaning,
  item_leaves,
  meaning_in,
  round_width,
}
use Rattle.cam_objects.specs.Limits.{first_number, last_number}
use Rattle.cam_objects.specs.Weights.{block_count, block_depth, item_count, weight_in}

-- ---- control points

abbrev pub points_of_seg : Seg → List Point
points_of_seg (Line to) = to ∷ []
points_of_seg (Curve to centre ccw) = to ∷ centre ∷ []

abbrev pub points_of_contour : Contour → List Point
points_of_contour c = c.start ∷ flat_map points_of_seg c.segs

-- of an object, as it stands
abbrev pub points_of : Object → List Point
points_of (Flash n at t dark) = at ∷ []
points_of (Draw n from to t dark) = from ∷ to ∷ []
points_of (Arc ccw dark n from to centre) = from ∷ to ∷ centre ∷ []
points_of (Region contour dark) = points_of_contour contour

-- of a leaf, where it is painted
abbrev pub points_of_shape : Shape → List Point
points_of_shape (Stamp aperture turn at) = at ∷ []
points_of_shape (Stroke capsule) = capsule.from ∷ capsule.to ∷ []
points_of_shape (Swept swept) = swept.from ∷ swept.to ∷ []
points_of_shape (Sweep arc) = arc.from ∷ arc.to ∷ arc.centre ∷ []
points_of_shape (Filled contour) = points_of_contour contour
points_of_shape (Drilled disc) = disc.centre ∷ []

abbrev pub AreOnBoard : List Leaf → Type 0
AreOnBoard leaves = All (λ l. All IsOnBoard (points_of_shape l.shape)) leaves

abbrev pub is_on_board : Point → Bool
is_on_board p = nat_lt (unsigned_abs p.x) board_limit && nat_lt (unsigned_abs p.y) board_limit

abbrev pub are_on_board : List Point → Bool
are_on_board points = list_all is_on_board points

-- ---- what an object has to be

abbrev pub segs_of : Object → List Seg
segs_of (Flash n at t dark) = []
segs_of (Draw n from to t dark) = []
segs_of (Arc ccw dark n from to centre) = []
segs_of (Region contour dark) = contour.segs

-- a contour has a segment
abbrev pub is_formed : Object → Bool
is_formed (Flash n at t dark) = true
is_formed (Draw n from to t dark) = true
is_formed (Arc ccw dark n from to centre) = true
is_formed (Region contour dark) = nat_lt 0 (length contour.segs)

-- the dictionary has the number
abbrev pub has_number : List (ℕ × Entry) → ℕ → Bool
has_number entries n = is_some (lookup (nat_eq n) entries)

abbrev pub is_known : List (ℕ × Entry) → Object → Bool
is_known entries (Flash n at t dark) = has_number entries n
is_known entries (Draw n from to t dark) = has_number entries n
is_known entries (Arc ccw dark n from to centre) = has_number entries n
is_known entries (Region contour dark) = true

-- draws are strokes of solid circles and of solid rectangles, and arcs of solid circles alone
abbrev pub is_drawable : (ℕ → Meaning) → Object → Bool
is_drawable means (Flash n at t dark) = true
is_drawable means (Draw n from to t dark) = is_some (means n).tip
is_drawable means (Arc ccw dark n from to centre) = is_some (round_width (means n).tip)
is_drawable means (Region contour dark) = true

abbrev pub is_apart : Point → Point → Bool
is_apart a b = not (int_eq a.x b.x && int_eq a.y b.y)

-- no arc starts at its centre
abbrev pub have_radii : Point → List Seg → Bool
have_radii here [] = true
have_radii here (Line to ∷ segs) = have_radii to segs
have_radii here (Curve to centre ccw ∷ segs) = is_apart here centre && have_radii to segs

abbrev pub has_radius : Object → Bool
has_radius (Flash n at t dark) = true
has_radius (Draw n from to t dark) = true
has_radius (Arc ccw dark n from to centre) = is_apart from centre
has_radius (Region contour dark) = have_radii contour.start contour.segs

abbrev pub has_few_segs : Object → Bool
has_few_segs object = nat_le (length (segs_of object)) count_limit

-- ---- items

abbrev pub objects_of : Item → List Object
objects_of (One object) = object ∷ []
objects_of (Repeat columns rows i j objects) = objects

-- a repeat has more than one copy, of some object, and each contour a segment
abbrev pub is_repeated : Item → Bool
is_repeated (One object) = true
is_repeated (Repeat columns rows i j objects) = nat_lt 1 (columns * rows) && nat_lt 0 (length objects)

abbrev pub is_formed_item : Item → Bool
is_formed_item item = is_repeated item && list_all is_formed (objects_of item)

abbrev pub is_known_item : List (ℕ × Entry) → Item → Bool
is_known_item entries item = list_all (is_known entries) (objects_of item)

abbrev pub is_drawable_item : List (ℕ × Entry) → Item → Bool
is_drawable_item entries item = list_all (is_drawable (meaning_in entries)) (objects_of item)

abbrev pub has_radii : Item → Bool
has_radii item = list_all has_radius (objects_of item)

-- a step is under a metre in absolute value
abbrev pub is_short : ℤ → Bool
is_short step = nat_lt (unsigned_abs step) board_limit

abbrev pub has_short_steps : Item → Bool
has_short_steps (One object) = true
has_short_steps (Repeat columns rows i j objects) = is_short i && is_short j

-- every control point lies on the board, as it stands and in each leaf
unfoldable pub is_inside : List (ℕ × Entry) → Item → Bool
is_inside entries item =
    list_all (λ o. are_on_board (points_of o)) (objects_of item)
    && (has_short_steps item
    && list_all (λ l. are_on_board (points_of_shape l.shape)) (item_leaves (meaning_in entries) item))

unfoldable pub is_within_limits : List (ℕ × Entry) → Item → Bool
is_within_limits entries item =
    list_all has_few_segs (objects_of item)
    && (nat_le (length (objects_of item)) count_limit && nat_le (item_count (weight_in entries) item) leaf_limit)

-- what an item may be refused for beside a dictionary
unfoldable pub item_checks : List (ℕ × Entry) → Item → Checks ItemFault
item_checks entries item =
    (Malformed, not (is_formed_item item))
    ∷ (UnknownAperture, not (is_known_item entries item))
    ∷ (WrongAperture, not (is_drawable_item entries item))
    ∷ (ZeroRadius, not (has_radii item))
    ∷ (OutOfBoard, not (is_inside entries item))
    ∷ (TooMuch, not (is_within_limits entries item)) ∷ []

-- no check holds
abbrev pub IsSoundItem : List (ℕ × Entry) → Item → Type 0
IsSoundItem entries item = first_holding (item_checks entries item) ≡ None

-- its steps are under a metre in absolute value
abbrev pub HasShortSteps : Item → Type 0
HasShortSteps (One object) = Unit {0}
HasShortSteps (Repeat columns rows i j objects) = (unsigned_abs i < board_limit) × (unsigned_abs j < board_limit)

-- what `is_inside` tells
pub record IsInside (entries : List (ℕ × Entry)) (item : Item) : Type 0 where
  pub points : All (λ o. All IsOnBoard (points_of o)) (objects_of item)
  pub steps : HasShortSteps item
  pub leaves : AreOnBoard (item_leaves (meaning_in entries) item)

-- ---- the dictionary

-- each object of a block would be sound as an item, and no limit is passed
pub record IsSoundBlock (entries : List (ℕ × Entry)) (objects : List Object) : Type 0 where
  pub each : All (λ o. IsSoundItem entries (One o)) objects
  pub few : length objects ≤ count_limit
  pub leaves : block_count (weight_in entries) objects ≤ leaf_limit
  pub depth : block_depth (weight_in entries) objects ≤ depth_limit

abbrev pub IsSoundEntry : List (ℕ × Entry) → Entry → Type 0
IsSoundEntry entries (Aperture a) = IsSoundAperture a
IsSoundEntry entries (Block objects) = IsSoundBlock entries objects

-- an entry may stand behind the others where its number is one of an aperture, and new, and its objects name
-- numbers that are there
pub record MayAddEntry (entries : List (ℕ × Entry)) (n : ℕ) (entry : Entry) : Type 0 where
  pub least : first_number ≤ n
  pub greatest : n ≤ last_number
  pub absent : lookup (nat_eq n) entries ≡ None
  pub sound : IsSoundEntry entries entry

-- every entry might have been added to those before it
abbrev pub IsSoundDictionary : List (ℕ × Entry) → Type 0
IsSoundDictionary entries =
    (k : ℕ) (d : ℕ × Entry) → k < length entries
    → let e = slice_index_or entries k d in MayAddEntry (take k entries) e.0 e.1

-- ---- layers

pub record KeepsLimits (entries : List (ℕ × Entry)) (items : List Item) : Type 0 where
  pub few : length items ≤ count_limit
  pub leaves : sum_by (item_count (weight_in entries)) items ≤ leaf_limit

-- whether they are kept
unfoldable pub keeps_limits : List (ℕ × Entry) → List Item → Bool
keeps_limits entries items =
    nat_le (length items) count_limit && nat_le (sum_by (item_count (weight_in entries)) items) leaf_limit

pub record IsSoundContent (es : List (ℕ × Entry)) (is : List Item) : Type 0 where
  pub entries : IsSoundDictionary es
  pub items : All (IsSoundItem es) is
  pub limits : KeepsLimits es is

-- what painting, boxes and checks of items ask for
abbrev pub HasSoundItems : Layer → Type 0
HasSoundItems l = IsSoundContent l.apertures l.items.items

pub record IsSound (l : Layer) : Type 0 where
  pub attributes : AreAttributes l.attributes.items
  pub content : HasSoundItems l
