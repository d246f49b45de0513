-- The fields of the primitives of canonical macros: runs of bytes that numbers may hold, which stand for trees by the
-- grammar of macros, and the trees for values whatever the variables are.
use Rattle.std.proofs.Common.{◌≡◌, ℕ, suc, ◌*◌, ◌/◌, ◌^◌, ◌<◌, List, [], ◌∷◌, ◌++◌, length, map, take, Bool, true, sym}
use Rattle.std.proofs.Common.{false, Some, refl, ap, arith, decimal, codes, Ok}
use Rattle.std.specs.Prelude.{ℤ, pos, negsuc, neg_ℤ, unsigned_abs}
use Rattle.std.specs.List.{list_all, flat_map, All, AllByRecursion}
use Rattle.std.proofs.lemmas.Bool.{lt-ltb}
use Rattle.std.proofs.lemmas.Fmt.{decimal_nonempty}
use Rattle.std.proofs.lemmas.Int.{ints}
use Rattle.std.proofs.lemmas.List.Elements.{All-head, All-tail, All-take}
use Rattle.cam_units.specs.declared.point.Point.{Point}
use Rattle.cam_units.specs.Board.{IsSize}
use Rattle.cam_numbers.specs.Numbers.{is_numeric, are_digits, value_of, billionths}
use Rattle.cam_macros.specs.declared.part.Part.{Part}
use Rattle.cam_macros.specs.declared.part.Part.TheVariants.{Primitive}
use Rattle.cam_macros.specs.declared.primitive.MacroPrimitive.{MacroPrimitive}
use Rattle.cam_macros.specs.declared.primitive.PrimShape.{PrimShape}
use Rattle.cam_macros.specs.declared.primitive.PrimShape.TheVariants.{Disc, Bar, Rect as Rectangle, Outline}
use Rattle.cam_macros.specs.Tree.{Tree, Number, Negative}
use Rattle.cam_macros.specs.Numbers.{number_written}
use Rattle.cam_macros.specs.Grammar.{Whole, Pointed, Sum, OneTerm, OneFactor, Factor, Numeral, Signed, Minus, IsNumber, IsExpression}
use Rattle.cam_macros.specs.Arithmetic.{Values, within, tree_value as worth_of}
use Rattle.cam_macros.specs.Expansion.{all_worth}
use Rattle.cam_macros.specs.Reading.{AreExpressions}
use Rattle.cam_apertures.specs.Primitives.{IsMacroPoint, IsSoundShape, IsSoundPrim}
use Rattle.cam_writers.specs.Lengths.{last_six, unsigned_mm, mm, scaled}
use Rattle.cam_writers.specs.Phrases.{point_fields, shape_fields, exposure, fields_of}
use Rattle.cam_writers.proofs.Decimals.{digits_of_decimal, value_of_decimal, six_digits, sum_again, digits_numeric, mm_numeric}

-- ---- what is read of a macro

-- a length in nm as a number of mm, in 10^-9 of a mm
abbrev pub length_tree : ℤ → Tree
length_tree (pos nm) = Number (nm * 1000)
length_tree (negsuc nm) = Negative (Number (suc nm * 1000))

abbrev pub whole_tree : ℕ → Tree
whole_tree n = Number (n * 1000000000)

abbrev pub point_trees : Point → List Tree
point_trees p = length_tree p.x ∷ length_tree p.y ∷ []

abbrev pub code_number : PrimShape → ℕ
code_number (Disc centre diameter) = 1
code_number (Bar from to width) = 20
code_number (Rectangle centre width height) = 21
code_number (Outline points) = 4

abbrev pub shape_trees : PrimShape → List Tree
shape_trees (Disc centre diameter) = length_tree diameter.0 ∷ point_trees centre
shape_trees (Bar from to width) = length_tree width.0 ∷ (point_trees from ++ point_trees to)
shape_trees (Rectangle centre width height) = length_tree width.0 ∷ length_tree height.0 ∷ point_trees centre
shape_trees (Outline points) = whole_tree (length points) ∷ (flat_map point_trees points ++ flat_map point_trees (take 1 points))

abbrev pub exposure_tree : Bool → Tree
exposure_tree true = whole_tree 1
exposure_tree false = whole_tree 0

abbrev pub part_for : MacroPrimitive → Part
part_for prim = Primitive (code_number prim.shape) (exposure_tree prim.paint ∷ (shape_trees prim.shape ++ whole_tree 0 ∷ []))

abbrev pub parts_for : List MacroPrimitive → List Part
parts_for prims = map part_for prims

-- ---- one field

pub record IsField (text : List ℕ) (tree : Tree) (value : ℤ) : Type 0 where
  pub numeric : list_all is_numeric text ≡ true
  pub reads : IsExpression text tree
  pub is_worth : (values : Values) → worth_of values tree ≡ Some value

by_factor : Factor → Sum
by_factor factor = OneTerm (OneFactor factor)

-- so many 10^-9 units are a value
pos_within : (n : ℕ) → n < 10 ^ 15 → within (pos n) ≡ Some (pos n)
pos_within n h = rw (lt-ltb n 1000000000000000 h) refl

neg_within : (n : ℕ) → n < 10 ^ 15 → within (neg_ℤ (pos n)) ≡ Some (neg_ℤ (pos n))
neg_within n h = grind (arith, lt-ltb)

number_again : (n : ℕ) → n < 10 ^ 12 → n * 1000 ≡ number_written (decimal (n / 1000000)) (last_six n)
number_again n h = sym (sum_again n h)

pointed_number : (n : ℕ) → n < 10 ^ 12 → IsNumber (decimal (n / 1000000)) (last_six n)
pointed_number n h = grind (arith, value_of_decimal, decimal_nonempty, digits_of_decimal, six_digits)

-- so many nm, in mm
pointed_factor : ℕ → Factor
pointed_factor n = Numeral (Pointed (decimal (n / 1000000)) (last_six n))

unsigned_expression : (n : ℕ) → n < 10 ^ 12 → IsExpression (unsigned_mm n) (length_tree (pos n))
unfolding unsigned_mm by_factor pointed_factor
unsigned_expression n h = record {
  sum = by_factor (pointed_factor n);
  written = refl;
  leaves = pointed_number n h;
  short = omega arith;
  stands_for = ap Number (number_again n h);
}

signed_expression : (n : ℕ) → suc n < 10 ^ 12 → IsExpression (45 ∷ unsigned_mm (suc n)) (length_tree (negsuc n))
unfolding unsigned_mm by_factor pointed_factor
signed_expression n h = record {
  sum = by_factor (Signed Minus (pointed_factor (suc n)));
  written = refl;
  leaves = pointed_number (suc n) h;
  short = omega arith;
  stands_for = ap (λ (k : ℕ). Negative (Number k)) (number_again (suc n) h);
}

-- a length
pub length_field : (z : ℤ) → unsigned_abs z < 10 ^ 12 → IsField (mm z) (length_tree z) (scaled z)
length_field z h = grind (arith, mm_numeric, unsigned_expression, pos_within, signed_expression, neg_within)

-- in 10^-9 units
abbrev pub whole_value : ℕ → ℤ
whole_value n = pos (n * 1000000000)

nothing_behind : billionths [] ≡ 0
unfolding billionths value_of
nothing_behind = refl

-- digits alone
written_field : (digits : List ℕ) (n : ℕ) → are_digits digits ≡ true → 0 < length digits → value_of digits ≡ n
    → n < 1000000 → IsField digits (whole_tree n) (whole_value n)
unfolding by_factor
written_field digits n all some is h = record {
  numeric = digits_numeric digits all;
  reads = record {
    sum = by_factor (Numeral (Whole digits));
    written = refl;
    leaves = record { before = all; behind = refl; some = omega (arith, some); small = omega (arith, is, h) };
    short = omega arith;
    stands_for =
        ap Number
        (let same : n * 1000000000 ≡ number_written digits [] = omega (arith, is, nothing_behind) in same);
  };
  is_worth = λ values. pos_within (n * 1000000000) (omega arith);
}

-- a count
pub count_field : (n : ℕ) → n < 1000000 → IsField (decimal n) (whole_tree n) (whole_value n)
count_field n h =
    written_field (decimal n) n (digits_of_decimal n (omega arith)) (decimal_nonempty n (omega arith))
    (value_of_decimal n (omega arith)) h

nought_field : IsField (codes "0") (whole_tree 0) (whole_value 0)
unfolding value_of
nought_field = written_field (codes "0") 0 refl (omega arith) refl (omega arith)

one_field : IsField (codes "1") (whole_tree 1) (whole_value 1)
unfolding value_of
one_field = written_field (codes "1") 1 refl (omega arith) refl (omega arith)

-- ---- several fields

abbrev pub AreFields : List (List ℕ) → List Tree → List ℤ → Type 0
AreFields [] [] [] = Unit {0}
AreFields (text ∷ texts) (tree ∷ trees) (value ∷ values) = IsField text tree value × AreFields texts trees values
AreFields _ _ _ = ⊥

pub more_fields : (texts more : List (List ℕ)) (trees others : List Tree) (values rest : List ℤ)
    → AreFields texts trees values → AreFields more others rest
    → AreFields (texts ++ more) (trees ++ others) (values ++ rest)
more_fields [] more [] others [] rest h k = k
more_fields (_ ∷ texts) more (_ ∷ trees) others (_ ∷ values) rest h k =
    (h.0, more_fields texts more trees others values rest h.1 k)
more_fields _ more _ others _ rest h k = absurd h

-- runs of bytes that numbers may hold
abbrev pub AreRuns : List (List ℕ) → Type 0
AreRuns texts = AllByRecursion (λ text. list_all is_numeric text ≡ true) texts

pub fields_numeric : (texts : List (List ℕ)) (trees : List Tree) (values : List ℤ) → AreFields texts trees values
    → AreRuns texts
fields_numeric [] trees values h = tt
fields_numeric (_ ∷ texts) (_ ∷ trees) (_ ∷ values) h = (h.0.numeric, fields_numeric texts trees values h.1)
fields_numeric _ _ _ h = absurd h

pub fields_read : (texts : List (List ℕ)) (trees : List Tree) (values : List ℤ) → AreFields texts trees values
    → AreExpressions texts trees
fields_read [] [] values h = tt
fields_read (_ ∷ texts) (_ ∷ trees) (_ ∷ values) h = (h.0.reads, fields_read texts trees values h.1)
fields_read _ _ _ h = absurd h

pub fields_worth : (variables : Values) (texts : List (List ℕ)) (trees : List Tree) (values : List ℤ)
    → AreFields texts trees values → all_worth variables trees ≡ Ok values
fields_worth variables [] [] [] h = refl
fields_worth variables (_ ∷ texts) (_ ∷ trees) (_ ∷ values) h =
    rw (h.0.is_worth variables, fields_worth variables texts trees values h.1) refl
fields_worth variables _ _ _ h = absurd h

-- ---- the fields of a primitive

abbrev pub point_values : Point → List ℤ
point_values p = scaled p.x ∷ scaled p.y ∷ []

point_fit : (p : Point) → IsMacroPoint p → AreFields (point_fields p) (point_trees p) (point_values p)
point_fit p near =
    let x = near.x in
    let y = near.y in
    (length_field p.x (omega (arith, x)), (length_field p.y (omega (arith, y)), tt))

points_fit : (points : List Point) → All IsMacroPoint points
    → AreFields (flat_map point_fields points) (flat_map point_trees points) (flat_map point_values points)
points_fit [] near = tt
points_fit (p ∷ points) near =
    more_fields (point_fields p) _ (point_trees p) _ (point_values p) _
    (point_fit p (All-head IsMacroPoint p points near)) (points_fit points (All-tail IsMacroPoint p points near))

size_fit : (z : ℤ) → IsSize z → IsField (mm z) (length_tree z) (scaled z)
size_fit z h =
    let low = h.0 in
    let high = h.1 in
    length_field z (omega (arith, ints))

abbrev pub shape_values : PrimShape → List ℤ
shape_values (Disc centre diameter) = scaled diameter.0 ∷ point_values centre
shape_values (Bar from to width) = scaled width.0 ∷ (point_values from ++ point_values to)
shape_values (Rectangle centre width height) = scaled width.0 ∷ scaled height.0 ∷ point_values centre
shape_values (Outline points) =
    whole_value (length points) ∷ (flat_map point_values points ++ flat_map point_values (take 1 points))

shape_fit : (shape : PrimShape) → IsSoundShape shape
    → AreFields (shape_fields shape) (shape_trees shape) (shape_values shape)
shape_fit shape h = grind (arith, size_fit, point_fit, more_fields, count_field, points_fit, All-take)

abbrev pub exposure_value : Bool → ℤ
exposure_value true = whole_value 1
exposure_value false = whole_value 0

abbrev pub trees_of : MacroPrimitive → List Tree
trees_of prim = exposure_tree prim.paint ∷ (shape_trees prim.shape ++ whole_tree 0 ∷ [])

abbrev pub values_of : MacroPrimitive → List ℤ
values_of prim = exposure_value prim.paint ∷ (shape_values prim.shape ++ whole_value 0 ∷ [])

exposure_fit : (paint : Bool) → IsField (exposure paint) (exposure_tree paint) (exposure_value paint)
exposure_fit paint = grind (arith, one_field, nought_field)

pub prim_fit : (prim : MacroPrimitive) → IsSoundPrim prim → AreFields (fields_of prim) (trees_of prim) (values_of prim)
prim_fit prim h = (
  exposure_fit prim.paint,
  more_fields (shape_fields prim.shape) (codes "0" ∷ []) (shape_trees prim.shape) (whole_tree 0 ∷ [])
      (shape_values prim.shape) (whole_value 0 ∷ []) (shape_fit prim.shape h)
      (nought_field, tt),
)
