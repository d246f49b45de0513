-- What the definitions of apertures of canonical texts say, and their form: the number, the name and the parameters.
use Rattle.std.proofs.Common.{◌≡◌, ℕ, ◌^◌, ◌<◌, ◌≤◌, List, [], ◌∷◌, ◌++◌, length, map, Bool, true, false}
use Rattle.std.proofs.Common.{eqb, ltb, Some, None, refl, ap, ◌∙◌, arith, append-nil, codes, decimal}
use Rattle.std.specs.Prelude.{ℤ, pos, not, ◌==◌, unsigned_abs, if◌then◌else◌}
use Rattle.std.specs.Char.{is_ascii_digit}
use Rattle.std.specs.List.{list_all, position_or_len, slice_split, before_first, flat_map, AllByRecursion}
use Rattle.std.specs.Ordering.{int_eq}
use Rattle.std.proofs.lemmas.Bool.{lt-ltb, le-ltb}
use Rattle.std.proofs.lemmas.Bool.Decides.{nat_tests}
use Rattle.std.proofs.lemmas.Int.{ints}
use Rattle.std.proofs.lemmas.List.{take_all}
use Rattle.std.proofs.lemmas.List.Folds.{list_all-append}
use Rattle.cam_units.specs.declared.length.Nm.{Nm}
use Rattle.cam_units.specs.Board.{IsSize}
use Rattle.cam_numbers.specs.Numbers.{is_numeric}
use Rattle.cam_apertures.specs.declared.aperture.Aperture.{Aperture}
use Rattle.cam_apertures.specs.declared.aperture.Aperture.TheVariants.{Circle, Rect, Obround, Prims}
use Rattle.cam_apertures.specs.Definition.{Definition, definition, template_form, with_number}
use Rattle.cam_apertures.specs.Definition.{is_comma, behind_comma, is_of_runs, are_runs}
use Rattle.cam_apertures.specs.Soundness.{IsSideLength, IsSoundAperture}
use Rattle.cam_commands.specs.declared.names.Name.TheVariants.{ApertureDefinition}
use Rattle.cam_commands.specs.ExtendedCommands.{named_command}
use Rattle.cam_writers.specs.Lengths.{mm}
use Rattle.cam_writers.specs.Phrases.{NameAperture, definition_text, hole_text, macro_name, spelled, template_text}
use Rattle.cam_writers.proofs.Decimals.{decimal_run, digits_of_decimal, mm_numeric}
use Rattle.cam_writers.proofs.Walks.{either}
use Rattle.cam_writers.proofs.Runs.{IsWithout, Stops, all_pass, cut_all, none_passes, run_alone_length, run_left, run_read}
use Rattle.cam_writers.proofs.GerberSayings.{is_code, IsCode, Spells, code_append, extended_tells, packed_code}
use Rattle.cam_writers.proofs.GerberSayings.{decimal_code, numeric_code}

-- ---- the sizes of apertures

-- a hole, where there is one
abbrev pub hole_size : Nm → List ℤ
hole_size hole = if int_eq hole.0 (pos 0) then [] else hole.0 ∷ []

-- the lengths that are written, in nm
abbrev pub sizes_of : Aperture → List ℤ
sizes_of (Circle diameter hole) = diameter.0 ∷ hole_size hole
sizes_of (Rect width height hole) = width.0 ∷ height.0 ∷ hole_size hole
sizes_of (Obround width height hole) = width.0 ∷ height.0 ∷ hole_size hole
sizes_of (Prims prims) = []

abbrev pub AreShort : List ℤ → Type 0
AreShort sizes = AllByRecursion (λ z. unsigned_abs z < 10 ^ 12) sizes

size_short : (z : ℤ) → IsSize z → unsigned_abs z < 10 ^ 12
size_short z h = let low = h.0 in let high = h.1 in omega (arith, ints)

side_short : (z : ℤ) → IsSideLength z → unsigned_abs z < 10 ^ 12
side_short z h = let low = h.0 in let high = h.1 in omega (arith, ints)

hole_short : (hole : Nm) → IsSize hole.0 → AreShort (hole_size hole)
hole_short hole h = grind (arith, either, size_short)

pub sizes_short : (a : Aperture) → IsSoundAperture a → AreShort (sizes_of a)
sizes_short a h = grind (arith, size_short, hole_short, side_short)

-- ---- the name and the parameters

-- the template
abbrev pub name_of : ℕ → Aperture → List ℕ
name_of n (Circle diameter hole) = codes "C"
name_of n (Rect width height hole) = codes "R"
name_of n (Obround width height hole) = codes "O"
name_of n (Prims prims) = macro_name n

abbrev pub parameters_of : Aperture → List (List ℕ)
parameters_of a = map mm (sizes_of a)

-- lengths between `X`
abbrev lengths_text : ℤ → List ℤ → List ℕ
lengths_text z zs = mm z ++ flat_map (λ y. 88 ∷ mm y) zs

one_length : (z : ℤ) (hole : Nm) → mm z ++ hole_text hole ≡ lengths_text z (hole_size hole)
one_length z hole = grind (arith, append-nil)

two_lengths : (y z : ℤ) (hole : Nm)
    → mm y ++ (codes "X" ++ (mm z ++ hole_text hole)) ≡ lengths_text y (z ∷ hole_size hole)
two_lengths y z hole = ap (λ (t : List ℕ). mm y ++ 88 ∷ t) (one_length z hole)

-- ---- lengths are cut apart again

numeric_apart : (byte : ℕ) → is_numeric byte ≡ true → (eqb byte 88 ≡ false) × (is_comma byte ≡ false)
unfolding is_numeric
numeric_apart byte h = (grind (arith, nat_tests), grind (arith, nat_tests))

numeric_without : (run : List ℕ) → list_all is_numeric run ≡ true → IsWithout 88 run
numeric_without run all = none_passes is_numeric (λ b. b == 88) (λ b h. (numeric_apart b h).0) run all

lengths_without : (zs : List ℤ) → AreShort zs → AllByRecursion (λ z. IsWithout 88 (mm z)) zs
lengths_without [] h = tt
lengths_without (z ∷ zs) h = (numeric_without (mm z) (mm_numeric z h.0), lengths_without zs h.1)

lengths_split : (z : ℤ) (zs : List ℤ) → AreShort (z ∷ zs)
    → slice_split (λ b. b == 88) (lengths_text z zs) ≡ map mm (z ∷ zs)
lengths_split z zs h = cut_all 88 mm (mm z) zs (numeric_without (mm z) (mm_numeric z h.0)) (lengths_without zs h.1)

-- each byte of lengths passes a test that those of numbers and `X` pass
lengths_pass : (q : ℕ → Bool) → ((b : ℕ) → is_numeric b ≡ true → q b ≡ true) → q 88 ≡ true → (z : ℤ) (zs : List ℤ) → AreShort (z ∷ zs)
    → list_all q (lengths_text z zs) ≡ true
lengths_pass q passes mark z zs h =
    list_all-append q (mm z) (flat_map (λ y. 88 ∷ mm y) zs)
    ∙ rw (all_pass is_numeric q passes (mm z) (mm_numeric z h.0), more zs h.1) refl
  where
    more : (zs : List ℤ) → AreShort zs → list_all q (flat_map (λ y. 88 ∷ mm y) zs) ≡ true
    more [] h = refl
    more (y ∷ ys) h = rw mark (list_all-append q (mm y) (flat_map (λ y. 88 ∷ mm y) ys)
        ∙ rw (all_pass is_numeric q passes (mm y) (mm_numeric y h.0), more ys h.1) refl)

lengths_of_runs : (z : ℤ) (zs : List ℤ) → AreShort (z ∷ zs) → list_all is_of_runs (lengths_text z zs) ≡ true
unfolding is_of_runs is_numeric
lengths_of_runs z zs h = lengths_pass is_of_runs (λ b numeric. rw numeric refl) refl z zs h

-- ---- the form

abbrev form_of : List ℕ → List ℕ → List (List ℕ) → Definition
form_of number name parameters = record { number = number; name = name; parameters = parameters }

-- behind the number a letter, a comma and lengths
standard_form : (number : List ℕ) (letter : ℕ) (z : ℤ) (zs : List ℤ) → eqb letter 44 ≡ false → AreShort (z ∷ zs)
    → with_number number (letter ∷ 44 ∷ lengths_text z zs) ≡ Some (form_of number (letter ∷ []) (map mm (z ∷ zs)))
unfolding with_number behind_comma are_runs
standard_form number letter z zs other short =
    let rest : List ℕ = lengths_text z zs in
    let place : position_or_len is_comma (letter ∷ 44 ∷ rest) ≡ 1 = rw other refl in
    let within : ltb 1 (length (letter ∷ 44 ∷ rest)) ≡ true =
    lt-ltb 1 (length (letter ∷ 44 ∷ rest)) (omega arith) in
    rw (place, within, lengths_of_runs z zs short, lengths_split z zs short) refl

no_commas : (run : List ℕ) → list_all is_numeric run ≡ true → position_or_len is_comma run ≡ length run
no_commas run all =
    run_alone_length (λ b. not (is_comma b)) run
    (all_pass is_numeric (λ b. not (is_comma b)) (λ b h. ap not (numeric_apart b h).1) run all)

named_alone : (number text : List ℕ) → before_first is_comma text ≡ text → eqb (length text) 0 ≡ false
    → behind_comma text ≡ None → with_number number text ≡ Some (form_of number text [])
unfolding with_number are_runs
named_alone number text whole some none = rw (none, whole, some) refl

-- behind the number the name of a macro
macro_form : (number digits : List ℕ) → list_all is_numeric digits ≡ true
    → with_number number (77 ∷ digits) ≡ Some (form_of number (77 ∷ digits) [])
unfolding behind_comma
macro_form number digits all = grind (arith, no_commas, take_all, le-ltb, named_alone)

-- `D` before a number
numbered_form : (n : ℕ) (rest : List ℕ) → n < 2 ^ 64 → Stops is_ascii_digit rest
    → definition (68 ∷ (decimal n ++ rest)) ≡ with_number (decimal n) rest
unfolding definition
numbered_form n rest small stops = grind (arith, digits_of_decimal, run_read, run_left)

template_stops : (n : ℕ) (a : Aperture) → Stops is_ascii_digit (template_text n a)
template_stops n a = grind arith

form_of_template : (n : ℕ) (a : Aperture) (number : List ℕ) → n < 2 ^ 64 → AreShort (sizes_of a)
    → with_number number (template_text n a) ≡ Some (form_of number (name_of n a) (parameters_of a))
form_of_template n (Circle diameter hole) number small short = grind (arith, one_length, standard_form)
form_of_template n (Rect width height hole) number small short =
    ap (λ (t : List ℕ). with_number number (82 ∷ 44 ∷ t)) (two_lengths width.0 height.0 hole)
    ∙ standard_form number 82 width.0 (height.0 ∷ hole_size hole) refl short
form_of_template n (Obround width height hole) number small short =
    ap (λ (t : List ℕ). with_number number (79 ∷ 44 ∷ t)) (two_lengths width.0 height.0 hole)
    ∙ standard_form number 79 width.0 (height.0 ∷ hole_size hole) refl short
form_of_template n (Prims prims) number small short = macro_form number (decimal n) (decimal_run n small)

-- ---- the bytes

lengths_code : (z : ℤ) (zs : List ℤ) → AreShort (z ∷ zs) → IsCode (lengths_text z zs)
lengths_code z zs h = lengths_pass is_code numeric_code refl z zs h

template_code : (n : ℕ) (a : Aperture) → n < 2 ^ 64 → AreShort (sizes_of a) → IsCode (template_text n a)
template_code n (Circle diameter hole) small short = grind (arith, is_code, one_length, lengths_code)
template_code n (Rect width height hole) small short =
    ap (λ (t : List ℕ). list_all is_code (82 ∷ 44 ∷ t)) (two_lengths width.0 height.0 hole)
    ∙ lengths_code width.0 (height.0 ∷ hole_size hole) short
template_code n (Obround width height hole) small short =
    ap (λ (t : List ℕ). list_all is_code (79 ∷ 44 ∷ t)) (two_lengths width.0 height.0 hole)
    ∙ lengths_code width.0 (height.0 ∷ hole_size hole) short
template_code n (Prims prims) small short = decimal_code n small

definition_code : (n : ℕ) (a : Aperture) → n ≤ 2147483647 → IsSoundAperture a → IsCode (definition_text n a)
definition_code n a greatest sound = grind (arith, code_append, decimal_code, template_code, sizes_short)

-- ---- definitions

-- what stands behind `AD` has this form
pub definition_form : (n : ℕ) (a : Aperture) → n ≤ 2147483647 → IsSoundAperture a
    → template_form (definition_text n a)
    ≡ Some (record { number = decimal n; name = name_of n a; parameters = parameters_of a })
definition_form n a greatest sound =
    grind (arith, packed_code, definition_code, numbered_form, template_stops, form_of_template, sizes_short)

pub definition_spells : (n : ℕ) (a : Aperture) → n ≤ 2147483647 → IsSoundAperture a → Spells (NameAperture n a)
unfolding spelled named_command
definition_spells n a greatest sound =
    let code = definition_code n a greatest sound in
    extended_tells ApertureDefinition (definition_text n a) _ refl code (rw (packed_code (definition_text n a) code) refl)
