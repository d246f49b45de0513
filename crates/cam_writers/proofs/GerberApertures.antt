-- Macros give the primitives of their apertures again, and definitions their apertures.
use Rattle.std.proofs.Common.{◌≡◌, ℕ, ◌+◌, ◌*◌, ◌<◌, ◌≤◌, List, [], ◌∷◌, ◌++◌, length, take, drop, Bool, true, false, leb, ltb}
use Rattle.std.proofs.Common.{Ok, refl, ap, sym, ◌∙◌, arith, append_assoc, length-append, map, eqb, Some, None, decimal}
use Rattle.std.specs.Prelude.{◌≤ℤ◌, ℤ, pos, ◌+ℤ◌, ◌*ℤ◌, unsigned_abs, ◌==◌, nat_lt, slice_index_or}
use Rattle.std.specs.List.{flat_map, All, AllByRecursion}
use Rattle.std.proofs.Math.Seq.{take-append_seam, drop-append_seam}
use Rattle.std.proofs.lemmas.Bool.{lt-ltb, le-ltb}
use Rattle.std.proofs.lemmas.Bool.Decides.{nat_tests, Decides-int_eq}
use Rattle.std.proofs.lemmas.Int.{ints}
use Rattle.std.proofs.lemmas.List.Elements.{All-head, All-tail, recursion_from_All}
use Rattle.std.proofs.lemmas.Fmt.{decimal_injective}
use Rattle.cam_units.specs.declared.length.Nm.{Nm}
use Rattle.cam_units.specs.declared.length.Unit.TheVariants.{Mm}
use Rattle.cam_units.specs.declared.point.Point.{Point}
use Rattle.cam_units.specs.declared.turn.Turn.TheVariants.{R0}
use Rattle.cam_units.specs.Board.{IsSize}
use Rattle.cam_macros.specs.declared.primitive.MacroPrimitive.{MacroPrimitive}
use Rattle.cam_macros.specs.declared.primitive.PrimShape.{PrimShape}
use Rattle.cam_macros.specs.declared.primitive.PrimShape.TheVariants.{Disc, Bar, Rect as Rectangle, Outline}
use Rattle.cam_macros.specs.Arithmetic.{Values, parameter}
use Rattle.cam_macros.specs.Expansion.{paint_of, size, size_of, coordinate_of, point_of, outline_points}
use Rattle.cam_macros.specs.Expansion.{count_of, outline_through, primitive_made, disc_of, bar_of, rect_of, outline_made}
use Rattle.cam_macros.specs.Expansion.{primitive_of, all_worth, expansion, expansion_of, ◌>>=◌}
use Rattle.cam_apertures.specs.Primitives.{IsMacroPoint, IsSoundShape, IsSoundPrim}
use Rattle.cam_writers.specs.Phrases.{fields_of, definition_text, macro_name}
use Rattle.cam_writers.proofs.Runs.{none_passes}
use Rattle.cam_writers.proofs.Walks.{either}
use Rattle.cam_writers.proofs.Decimals.{decimal_run, scaled_again, mm_again}
use Rattle.cam_writers.proofs.GerberMacroFields.{code_number, parts_for, whole_value, point_values, exposure_value}
use Rattle.cam_writers.proofs.GerberMacroFields.{trees_of, values_of, fields_worth, prim_fit}
use Rattle.cam_refusals.specs.Checks.{least}
use Rattle.cam_refusals.specs.Refusals.{number_of}
use Rattle.cam_units.specs.Nearest.{nearest_of}
use Rattle.cam_numbers.specs.Numbers.{is_numeric}
use Rattle.cam_macros.specs.declared.aperture_macro.Macro.{Macro}
use Rattle.cam_macros.specs.Reading.{is_macro_name}
use Rattle.cam_apertures.specs.declared.aperture.Aperture.{Aperture}
use Rattle.cam_apertures.specs.declared.aperture.Aperture.TheVariants.{Circle, Rect, Obround, Prims}
use Rattle.cam_apertures.specs.Definition.{template_form, values_of as lengths_of, template_aperture, is_size_between, named}
use Rattle.cam_apertures.specs.Definition.{template_faults, faults_of}
use Rattle.cam_apertures.specs.Soundness.{IsSoundAperture}
use Rattle.cam_gerber.specs.Faults.{is_reserved}
use Rattle.cam_gerber.specs.Layers.{defined_by}
use Rattle.cam_writers.specs.Lengths.{mm, scaled}
use Rattle.cam_writers.proofs.GerberOperations.{defined_again}
use Rattle.cam_writers.proofs.GerberDefinitions.{AreShort, hole_size, sizes_of, sizes_short, name_of, parameters_of}
use Rattle.cam_writers.proofs.GerberDefinitions.{definition_form}
use Rattle.cam_objects.specs.declared.entry.Entry.TheVariants as entry

-- ---- lengths and points

is_at_most : (a b : ℕ) → a ≤ b → leb a b ≡ true
is_at_most a b h = grind (arith, nat_tests)

size_is : (z : ℤ) → IsSize z → size z ≡ Ok (record { 0 = z })
size_is z h = grind (arith, is_at_most, ints)

size_again : (d : Nm) → IsSize d.0 → size_of Mm (scaled d.0) ≡ Ok d
size_again d h = ap size (scaled_again d.0) ∙ size_is d.0 h

coordinate_again : (z : ℤ) → unsigned_abs z ≤ 200000000 → coordinate_of Mm (scaled z) ≡ Ok (record { 0 = z })
coordinate_again z h = grind (arith, scaled_again, is_at_most)

unturned : (x y : ℤ) → (pos 1 *ℤ x +ℤ pos 0 *ℤ y ≡ x) × (pos 0 *ℤ x +ℤ pos 1 *ℤ y ≡ y)
unturned x y = (omega (arith, ints), omega (arith, ints))

point_again : (p : Point) → IsMacroPoint p → point_of Mm R0 (scaled p.x) (scaled p.y) ≡ Ok p
point_again p near = grind (arith, unturned, coordinate_again)

points_again : (points : List Point) → All IsMacroPoint points
    → outline_points Mm R0 (flat_map point_values points) ≡ Ok points
points_again [] near = refl
points_again (p ∷ points) near =
    rw (
      point_again p (All-head IsMacroPoint p points near),
      points_again points (All-tail IsMacroPoint p points near),
    ) refl

paint_again : (paint : Bool) → paint_of (exposure_value paint) ≡ Ok paint
paint_again paint = grind arith

-- ---- outlines

two_each : (points : List Point) → length (flat_map point_values points) ≡ 2 * length points
two_each [] = refl
two_each (p ∷ points) = omega (arith, two_each points)

count_again : (n : ℕ) → 0 < n → n ≤ 5000 → count_of (whole_value n) ≡ Ok n
count_again n some most = grind (arith, lt-ltb, is_at_most)

-- the points, and behind them the first one again
outline_read : (paint : Bool) (points : List Point) (values : List ℤ) → All IsMacroPoint points
    → ltb (length values) (2 * length points + 2) ≡ false
    → drop (2 * length points + 2) values ≡ whole_value 0 ∷ []
    → take (2 * length points) values ≡ flat_map point_values points
    → outline_through Mm paint (length points) values ≡ Ok (record { paint = paint; shape = Outline points })
outline_read paint points values near long last front = rw (long, last, front, points_again points near) refl

outline_again : (paint : Bool) (points : List Point) (more : List ℤ) → All IsMacroPoint points → length more ≡ 2
    → outline_through Mm paint (length points) ((flat_map point_values points ++ more) ++ whole_value 0 ∷ [])
    ≡ Ok (record { paint = paint; shape = Outline points })
outline_again paint points more near two =
    let front : List ℤ = flat_map point_values points in
    let last : List ℤ = whole_value 0 ∷ [] in
    let values : List ℤ = (front ++ more) ++ last in
    let half : length front ≡ 2 * length points = two_each points in
    let all : length (front ++ more) ≡ 2 * length points + 2 = omega (arith, length-append front more, half, two) in
    outline_read paint points values near
    (le-ltb (length values) (2 * length points + 2) (omega (arith, length-append (front ++ more) last, all)))
    (ap (λ (k : ℕ). drop k values) (sym all) ∙ drop-append_seam (front ++ more) last)
    (ap (λ (k : ℕ). take k values) (sym half) ∙ ap (take (length front)) (append_assoc front more last)
    ∙ take-append_seam front (more ++ last))

-- ---- primitives

abbrev whole_prim : Bool → PrimShape → MacroPrimitive
whole_prim paint shape = record { paint = paint; shape = shape }

all_again : (prim : MacroPrimitive) (variables : Values) → IsSoundPrim prim
    → all_worth variables (trees_of prim) ≡ Ok (values_of prim)
all_again prim variables sound =
    fields_worth variables (fields_of prim) (trees_of prim) (values_of prim) (prim_fit prim sound)

made_again : (paint : Bool) (shape : PrimShape) (variables : Values) → IsSoundShape shape
    → primitive_of (primitive_made (code_number shape)) Mm variables (trees_of (whole_prim paint shape))
    ≡ Ok (whole_prim paint shape)
made_again paint (Disc centre diameter) variables sound =
    ap (λ all. all >>= disc_of Mm) (all_again (whole_prim paint (Disc centre diameter)) variables sound)
    ∙ rw (paint_again paint, size_again diameter sound.1, point_again centre sound.0) refl
made_again paint (Bar from to width) variables sound =
    ap (λ all. all >>= bar_of Mm) (all_again (whole_prim paint (Bar from to width)) variables sound)
    ∙ rw (paint_again paint, size_again width sound.2, point_again from sound.0, point_again to sound.1) refl
made_again paint (Rectangle centre width height) variables sound =
    ap (λ all. all >>= rect_of Mm) (all_again (whole_prim paint (Rectangle centre width height)) variables sound)
    ∙ rw (
      paint_again paint,
      size_again width sound.1,
      size_again height sound.2,
      point_again centre sound.0,
    ) refl
made_again paint (Outline []) variables sound = let some = sound.some in absurd (omega (arith, some))
made_again paint (Outline (p ∷ points)) variables sound =
    ap (λ all. all >>= outline_made Mm) (all_again (whole_prim paint (Outline (p ∷ points))) variables sound)
    ∙ rw (paint_again paint, count_again (length (p ∷ points)) sound.some sound.most)
    (outline_again paint (p ∷ points) (point_values p) sound.near refl)

-- ---- macros

expands_with : (variables : Values) (prims : List MacroPrimitive) → AllByRecursion IsSoundPrim prims
    → expansion Mm variables (parts_for prims) ≡ Ok prims
expands_with variables [] sound = refl
expands_with variables (prim ∷ prims) sound =
    rw (made_again prim.paint prim.shape variables sound.0, expands_with variables prims sound.1) refl

-- the parts of a canonical macro give its primitives
pub expands : (prims : List MacroPrimitive) → All IsSoundPrim prims → expansion_of Mm [] (parts_for prims) ≡ Ok prims
expands prims all = expands_with (parameter []) prims (recursion_from_All IsSoundPrim prims all)

-- ---- the values of the parameters

-- in 10^-9 of a mm
abbrev pub values_for : Aperture → List ℤ
values_for a = map scaled (sizes_of a)

values_again : (sizes : List ℤ) → AreShort sizes → lengths_of (map mm sizes) ≡ Some (map scaled sizes)
values_again [] h = refl
values_again (z ∷ sizes) h = rw (mm_again z h.0, values_again sizes h.1) refl

pub parameters_again : (a : Aperture) → IsSoundAperture a → lengths_of (parameters_of a) ≡ Some (values_for a)
parameters_again a sound = values_again (sizes_of a) (sizes_short a sound)

-- a hole that is left out is none
hole_again : (hole : Nm) → nearest_of (slice_index_or (map scaled (hole_size hole)) 0 (pos 0)) 1000 ≡ hole.0
hole_again hole = grind (arith, Decides-int_eq, scaled_again)

-- the macro of an aperture of primitives is there, and gives them

abbrev pub IsMade : List Macro → ℕ → Aperture → Type 0
IsMade macros n (Prims prims) =
    (m : Macro) × (named macros (macro_name n) ≡ Some m) × (expansion_of Mm [] m.parts ≡ Ok prims)
IsMade macros n _ = Unit {0}

-- ---- apertures

pub aperture_again : (macros : List Macro) (n : ℕ) (a : Aperture) → IsMade macros n a
    → template_aperture (name_of n a) macros Mm (values_for a) ≡ Some a
aperture_again macros n (Circle diameter hole) h = rw (scaled_again diameter.0, hole_again hole) refl
aperture_again macros n (Rect width height hole) h = grind (arith, scaled_again, hole_again)
aperture_again macros n (Obround width height hole) h = grind (arith, scaled_again, hole_again)
aperture_again macros n (Prims prims) h = rw (h.1, h.2) refl

-- ---- sizes

-- from a least length to 200 mm
between : (least : ℕ) (z : ℤ) → pos least ≤ℤ z → z ≤ℤ pos 200000000 → is_size_between (pos least) z ≡ true
between least z low high = grind (arith, is_at_most, ints)

-- a hole is one parameter, or none
record HasCount (fewest count : ℕ) : Type 0 where
  least : nat_lt count fewest ≡ false
  most : nat_lt (fewest + 1) count ≡ false

one_count : (z : ℤ) (hole : Nm) → HasCount 1 (length (map mm (z ∷ hole_size hole)))
one_count z hole = grind (arith, either)

two_count : (y z : ℤ) (hole : Nm) → HasCount 2 (length (map mm (y ∷ z ∷ hole_size hole)))
two_count y z hole = grind (arith, either)

-- ---- faults

template_faultless : (macros : List Macro) (n : ℕ) (a : Aperture) → IsSoundAperture a → IsMade macros n a
    → least number_of (template_faults (name_of n a) macros Mm (length (parameters_of a)) (values_for a)) ≡ None
template_faultless macros n (Circle diameter hole) sound h = grind (arith, one_count, scaled_again, hole_again, between)
template_faultless macros n (Rect width height hole) sound h = grind (arith, two_count, scaled_again, hole_again, between)
template_faultless macros n (Obround width height hole) sound h = grind (arith, two_count, scaled_again, hole_again, between)
template_faultless macros n (Prims prims) sound h = rw (h.1, h.2) refl

-- no number of the table holds
pub definition_faultless : (macros : List Macro) (n : ℕ) (a : Aperture) → 10 ≤ n → n ≤ 2147483647 → IsSoundAperture a
    → IsMade macros n a → least number_of (faults_of (template_form (definition_text n a)) macros Mm) ≡ None
definition_faultless macros n a low high sound made =
    grind (arith, definition_form, defined_again, parameters_again, template_faultless)

-- the entry that is defined
pub definition_again : (macros : List Macro) (n : ℕ) (a : Aperture) → 10 ≤ n → n ≤ 2147483647 → IsSoundAperture a
    → IsMade macros n a → defined_by (template_form (definition_text n a)) macros Mm ≡ (n, entry.Aperture a) ∷ []
definition_again macros n a low high sound made = grind (arith, definition_form, defined_again, parameters_again, aperture_again)

-- ---- the names of macros

pub no_comma : (byte : ℕ) → is_numeric byte ≡ true → eqb byte 44 ≡ false
unfolding is_numeric
no_comma byte h = grind (arith, nat_tests)

pub macro_named : (n : ℕ) → n ≤ 2147483647 → is_macro_name (macro_name n) ≡ true
macro_named n high =
    rw (none_passes is_numeric (λ c. c == 44) no_comma (decimal n) (decimal_run n (omega arith))) refl

pub macro_unreserved : (n : ℕ) → is_reserved (macro_name n) ≡ false
unfolding is_reserved
macro_unreserved n = refl

same_behind : (a : ℕ) (x y : List ℕ) → a ∷ x ≡ a ∷ y → x ≡ y
same_behind a x y e = cc

pub macro_names_differ : (m n : ℕ) → m ≤ 2147483647 → n ≤ 2147483647 → macro_name m ≡ macro_name n → m ≡ n
macro_names_differ m n hm hn e = grind (arith, decimal_injective, same_behind)
