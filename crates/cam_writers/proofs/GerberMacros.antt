-- The texts of macros: how they are spelled, and that they say their names and their primitives.
use Rattle.std.proofs.Common.{◌≡◌, ℕ, ◌≤◌, List, [], ◌∷◌, ◌++◌, map, min, Bool, true, false, Some}
use Rattle.std.proofs.Common.{refl, ap, ◌∙◌, arith, codes, append_assoc}
use Rattle.std.specs.Prelude.{◌==◌}
use Rattle.std.specs.List.{list_all, slice_split, flat_map, AllByRecursion, All}
use Rattle.std.specs.Char.{is_ascii_digit}
use Rattle.std.proofs.lemmas.Bool.{and_parts}
use Rattle.std.proofs.lemmas.Bool.Decides.{nat_tests}
use Rattle.std.proofs.lemmas.List.{map-id}
use Rattle.std.proofs.lemmas.List.Elements.{filter-append, recursion_from_All}
use Rattle.cam_words.specs.Heads.{packed, is_free_text}
use Rattle.cam_numbers.specs.Numbers.{is_numeric, value_of}
use Rattle.cam_macros.specs.declared.part.Part.{Part}
use Rattle.cam_macros.specs.declared.primitive.MacroPrimitive.{MacroPrimitive}
use Rattle.cam_macros.specs.declared.primitive.PrimShape.{PrimShape}
use Rattle.cam_macros.specs.Reading.{is_silent, parts_spoken, pieces, IsPrimitive, AreParts, IsMacroReading}
use Rattle.cam_macros.specs.Parsing.{parts_of}
use Rattle.cam_macros.proofs.OneReading.{one_reading}
use Rattle.cam_macros.proofs.Parsed.{parsed_by_the_grammar}
use Rattle.cam_apertures.specs.Primitives.{IsSoundPrim}
use Rattle.cam_writers.specs.Phrases.{macro_name, macro_text, shape_code, fields_of, primitive_text, NameMacro}
use Rattle.cam_writers.specs.Phrases.{macro_lines, said, spelled}
use Rattle.cam_writers.proofs.GerberSayings.{is_code, IsCode, code_append, run_code, packed_code, decimal_code}
use Rattle.cam_writers.proofs.GerberSayings.{Fits, Spells, fits_extended, says}
use Rattle.cam_writers.proofs.Runs.{IsWithout, cut_all, none_passes}
use Rattle.cam_writers.proofs.GerberApertures.{macro_named, no_comma}
use Rattle.cam_writers.proofs.GerberMacroFields.{code_number, parts_for, AreRuns, fields_numeric, fields_read}
use Rattle.cam_writers.proofs.GerberMacroFields.{trees_of, values_of, prim_fit}
use Rattle.cam_commands.specs.Syntax.{command_of}
use Rattle.cam_commands.specs.ExtendedCommands.{named_command}
use Rattle.cam_commands.proofs.NameLaws.{names_decide}

-- ---- cutting at a byte

run_without : (run : List ℕ) → list_all is_numeric run ≡ true → IsWithout 44 run
run_without run all = none_passes is_numeric (λ b. b == 44) no_comma run all

code_without : (text : List ℕ) → IsCode text → IsWithout 42 text
code_without text all = none_passes is_code (λ b. b == 42) (λ b h. grind (arith, nat_tests)) text all

-- ---- one primitive

shape_without : (shape : PrimShape) → IsWithout 44 (shape_code shape)
shape_without shape = grind arith

shape_is_code : (shape : PrimShape) → IsCode (shape_code shape)
shape_is_code shape = grind arith

-- it is no comment
shape_speaks : (shape : PrimShape) (rest : List ℕ) → is_silent (shape_code shape ++ rest) ≡ false
shape_speaks shape rest = grind arith

runs_without : (runs : List (List ℕ)) → AreRuns runs → AllByRecursion (IsWithout 44) runs
runs_without [] all = tt
runs_without (run ∷ runs) all = (run_without run all.0, runs_without runs all.1)

-- the code, and behind it the fields
primitive_cut : (prim : MacroPrimitive) → AreRuns (fields_of prim)
    → slice_split (λ b. b == 44) (primitive_text prim) ≡ shape_code prim.shape ∷ fields_of prim
unfolding primitive_text
primitive_cut prim all =
    cut_all 44 (λ field. field) (shape_code prim.shape) (fields_of prim) (shape_without prim.shape)
    (runs_without (fields_of prim) all)
    ∙ ap (λ (fields : List (List ℕ)). shape_code prim.shape ∷ fields) (map-id (fields_of prim))

runs_code : (runs : List (List ℕ)) → AreRuns runs → IsCode (flat_map (λ run. codes "," ++ run) runs)
runs_code [] all = refl
runs_code (run ∷ runs) all = grind (arith, code_append, run_code, runs_code runs all.1)

primitive_code : (prim : MacroPrimitive) → AreRuns (fields_of prim) → IsCode (primitive_text prim)
unfolding primitive_text
primitive_code prim all = grind (arith, code_append, shape_is_code, runs_code)

primitive_speaks : (prim : MacroPrimitive) → is_silent (primitive_text prim) ≡ false
unfolding primitive_text
primitive_speaks prim = grind (arith, shape_speaks)

some_code : (shape : PrimShape) → shape_code shape ≡ [] → ⊥
some_code shape e = grind arith

code_digits : (shape : PrimShape) → list_all is_ascii_digit (shape_code shape) ≡ true
code_digits shape = grind arith

code_again : (shape : PrimShape) → code_number shape ≡ min (value_of (shape_code shape)) 10000
unfolding value_of
code_again shape = grind arith

-- what is asked of the fields
fields_are_runs : (prim : MacroPrimitive) → IsSoundPrim prim → AreRuns (fields_of prim)
fields_are_runs prim sound = fields_numeric (fields_of prim) (trees_of prim) (values_of prim) (prim_fit prim sound)

pub primitive_is_code : (prim : MacroPrimitive) → IsSoundPrim prim → IsCode (primitive_text prim)
primitive_is_code prim sound = primitive_code prim (fields_are_runs prim sound)

primitive_reads : (prim : MacroPrimitive) → IsSoundPrim prim
    → IsPrimitive (primitive_text prim) (code_number prim.shape) (trees_of prim)
primitive_reads prim sound = record {
  digits = shape_code prim.shape;
  texts = fields_of prim;
  written = primitive_cut prim (fields_are_runs prim sound);
  some = some_code prim.shape;
  number = code_digits prim.shape;
  same = code_again prim.shape;
  reads = fields_read (fields_of prim) (trees_of prim) (values_of prim) (prim_fit prim sound);
}

-- ---- all primitives

abbrev pub AreSound : List MacroPrimitive → Type 0
AreSound prims = AllByRecursion IsSoundPrim prims

-- each behind a star and a line end
abbrev pub in_lines : List MacroPrimitive → List ℕ
in_lines prims = flat_map (λ prim. codes "*\n" ++ primitive_text prim) prims

abbrev in_one_line : List MacroPrimitive → List ℕ
in_one_line prims = flat_map (λ prim. 42 ∷ primitive_text prim) prims

each_without : (prims : List MacroPrimitive) → AreSound prims
    → AllByRecursion (λ prim. IsWithout 42 (primitive_text prim)) prims
each_without [] sound = tt
each_without (prim ∷ prims) sound =
    (code_without (primitive_text prim) (primitive_is_code prim sound.0), each_without prims sound.1)

packed_more : (text rest : List ℕ) → IsCode text → packed (text ++ rest) ≡ text ++ packed rest
packed_more text rest code = grind (arith, filter-append, packed_code)

-- whatever stands before each that is read as a star
packed_behind : (mark : List ℕ) → ((rest : List ℕ) → packed (mark ++ rest) ≡ 42 ∷ packed rest) → (prims : List MacroPrimitive)
    → AreSound prims → packed (flat_map (λ prim. mark ++ primitive_text prim) prims) ≡ in_one_line prims
packed_behind mark star [] sound = refl
packed_behind mark star (prim ∷ prims) sound =
    grind (arith, append_assoc, packed_more, primitive_is_code, packed_behind mark star prims sound.1)

all_speak : (prims : List MacroPrimitive) → parts_spoken (map primitive_text prims) ≡ map primitive_text prims
all_speak [] = refl
all_speak (prim ∷ prims) = rw (primitive_speaks prim, all_speak prims) refl

parts_read : (prims : List MacroPrimitive) → AreSound prims → AreParts (map primitive_text prims) (parts_for prims)
parts_read [] sound = tt
parts_read (prim ∷ prims) sound = (primitive_reads prim sound.0, parts_read prims sound.1)

-- ---- the macro

pub name_code : (n : ℕ) → n ≤ 2147483647 → IsCode (macro_name n)
name_code n high = decimal_code n (omega arith)

pub macro_packed : (n : ℕ) (prims : List MacroPrimitive) → n ≤ 2147483647 → AreSound prims
    → packed (macro_name n ++ in_lines prims) ≡ macro_text n prims
macro_packed n prims high sound =
    packed_more (macro_name n) (in_lines prims) (name_code n high)
    ∙ ap (λ (rest : List ℕ). macro_name n ++ rest) (packed_behind (codes "*\n") (λ rest. refl) prims sound)

-- the name, and the primitives
pub macro_pieces : (n : ℕ) (prims : List MacroPrimitive) → n ≤ 2147483647 → AreSound prims
    → pieces (macro_text n prims) ≡ macro_name n ∷ map primitive_text prims
macro_pieces n prims high sound =
    ap (slice_split (λ b. b == 42))
    (packed_more (macro_name n) (in_one_line prims) (name_code n high)
    ∙ ap (λ (rest : List ℕ). macro_name n ++ rest) (packed_behind (codes "*") (λ rest. refl) prims sound))
    ∙ cut_all 42 primitive_text (macro_name n) prims (code_without (macro_name n) (name_code n high))
    (each_without prims sound)

macro_reads : (n : ℕ) (prims : List MacroPrimitive) → n ≤ 2147483647 → AreSound prims
    → IsMacroReading (macro_text n prims) (macro_name n) (parts_for prims)
macro_reads n prims high sound = grind (arith, macro_pieces, macro_named, parts_for, all_speak, parts_read)

-- a text that stands for a macro is parsed as its parts
only_reading : (text name : List ℕ) (parts : List Part) → IsMacroReading text name parts → parts_of text ≡ Some parts
only_reading text name parts h = grind (arith, parsed_by_the_grammar, one_reading)

pub macro_parsed : (n : ℕ) (prims : List MacroPrimitive) → n ≤ 2147483647 → AreSound prims
    → parts_of (macro_text n prims) ≡ Some (parts_for prims)
macro_parsed n prims high sound =
    only_reading (macro_text n prims) (macro_name n) (parts_for prims) (macro_reads n prims high sound)

-- ---- what it says

macro_says : (n : ℕ) (prims : List MacroPrimitive) → n ≤ 2147483647 → AreSound prims
    → says (spelled (NameMacro n prims)) ≡ said (NameMacro n prims)
unfolding spelled command_of named_command
macro_says n prims high sound = grind (arith, names_decide, macro_packed, macro_pieces)

-- ---- what the cutter finds

code_fits : (free : Bool) (text rest : List ℕ) → IsCode text → AllByRecursion (Fits free) rest
    → AllByRecursion (Fits free) (text ++ rest)
code_fits free [] rest all more = more
code_fits free (byte ∷ text) rest all more =
    let k = and_parts (is_code byte) (list_all is_code text) all in (fits_extended free byte k.0, code_fits free text rest k.1 more)

-- a star and a line end
mark_fits : (free : Bool) → Fits free 42 × Fits free 10
mark_fits free = grind arith

lines_fit : (free : Bool) (prims : List MacroPrimitive) → AreSound prims → AllByRecursion (Fits free) (in_lines prims)
lines_fit free [] sound = tt
lines_fit free (prim ∷ prims) sound = grind (arith, mark_fits, code_fits, primitive_is_code, lines_fit free prims sound.1)

pub macro_spells : (n : ℕ) (prims : List MacroPrimitive) → n ≤ 2147483647 → All IsSoundPrim prims
    → Spells (NameMacro n prims)
unfolding spelled
macro_spells n prims high all =
    let sound = recursion_from_All IsSoundPrim prims all in
    let free = is_free_text (codes "AM" ++ macro_lines n prims) in
    record {
      means = macro_says n prims high sound;
      found = (
        code_fits free (codes "AM") (macro_lines n prims) refl
            (code_fits free (macro_name n) (in_lines prims) (name_code n high) (lines_fit free prims sound)),
        (refl, tt),
      );
    }
