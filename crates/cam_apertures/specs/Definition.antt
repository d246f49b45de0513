-- Aperture definitions (Gerber Layer Format Specification, "Aperture definition (AD)"): what stands
-- behind `AD`, without the bytes that do not count.
use Rattle.std.specs.Prelude.{◌≡◌, ℕ, ◌+◌, ℤ, pos, List, [], ◌∷◌, length, take, drop, find, codes, slice_index_or}
use Rattle.std.specs.Prelude.{Option, Some, None, is_none, unwrap_or, Result, Ok, Err, Bool, true, ◌==◌, ◌||◌}
use Rattle.std.specs.Prelude.{◌&&◌, not, nat_lt, if◌then◌else◌}
use Rattle.std.specs.Char.{is_ascii_digit}
use Rattle.std.specs.List.{after_first, before_first, list_all, position_or_len, prefix_len, slice_split}
use Rattle.std.specs.Int.RustNames.{int_le}
use Rattle.std.specs.Str.{bytes_eq}
use Rattle.cam_refusals.specs.declared.refusal.Refusal.{Refusal}
use Rattle.cam_refusals.specs.declared.refusal.Refusal.TheVariants.{BadNumber, SizeRefused, TemplateRefused}
use Rattle.cam_refusals.specs.declared.refusal.Refusal.TheVariants.{UnknownCommand}
use Rattle.cam_refusals.specs.Checks.{Checks, IsLeast, NoneHolds}
use Rattle.cam_refusals.specs.Limits.{size_limit}
use Rattle.cam_refusals.specs.Refusals.{UnlessMemory, number_of}
use Rattle.cam_units.specs.declared.length.Nm.{Nm}
use Rattle.cam_units.specs.declared.length.Unit.{Unit as FileUnit}
use Rattle.cam_units.specs.Nearest.{fix9_of}
use Rattle.cam_words.specs.Heads.{packed}
use Rattle.cam_words.specs.Pieces.{pieces_of}
use Rattle.cam_macros.specs.declared.aperture_macro.Macro.{Macro}
use Rattle.cam_macros.specs.declared.fault.MacroFault.{MacroFault}
use Rattle.cam_macros.specs.declared.primitive.MacroPrimitive.{MacroPrimitive}
use Rattle.cam_macros.specs.Expansion.{expansion_of}
use Rattle.cam_apertures.specs.declared.aperture.Aperture.{Aperture}
use Rattle.cam_apertures.specs.declared.aperture.Aperture.TheVariants.{Circle, Rect, Obround, Prims}
use Rattle.cam_apertures.specs.declared.fault.AdFault.{AdFault}
use Rattle.cam_apertures.specs.Faults.{of_macro, aperture_refusal}
use Rattle.cam_numbers.specs.Numbers.{decimal, defined_number, is_numeric}

-- the digits of the number, the name of the template, and the runs of the parameters
pub record Definition : Type 0 where
  pub number : List ℕ
  pub name : List ℕ
  pub parameters : List (List ℕ)

-- ends the name
abbrev pub is_comma : ℕ → Bool
is_comma byte = byte == 44

-- what stands behind the first comma, where there is one
unfoldable pub behind_comma : List ℕ → Option (List ℕ)
behind_comma text =
    if nat_lt (position_or_len is_comma text) (length text) then Some (after_first is_comma text) else None

-- between `X`
abbrev pub parameters_of : Option (List ℕ) → List (List ℕ)
parameters_of text = pieces_of 88 text

-- a byte is one of a run, or stands between two
unfoldable pub is_of_runs : ℕ → Bool
is_of_runs byte = is_numeric byte || (byte == 88)

unfoldable pub are_runs : Option (List ℕ) → Bool
are_runs None = true
are_runs (Some text) = list_all is_of_runs text

-- a name of some bytes, up to a comma or the end, and behind the comma runs
unfoldable pub with_number : List ℕ → List ℕ → Option Definition
with_number number text =
    if (length (before_first is_comma text) == 0) || not (are_runs (behind_comma text)) then None
    else Some (record {
      number = number;
      name = before_first is_comma text;
      parameters = parameters_of (behind_comma text);
    })

-- the digits at the front of a text, and what follows
abbrev pub digits_of : List ℕ → List ℕ
digits_of text = take (prefix_len is_ascii_digit text) text

abbrev pub behind_digits : List ℕ → List ℕ
behind_digits text = drop (prefix_len is_ascii_digit text) text

-- `D`, the digits of the number, and the rest. A name begins with no digit, and may begin with a point or a sign
unfoldable pub definition : List ℕ → Option Definition
definition [] = None
definition (first ∷ text) = if first == 68 then with_number (digits_of text) (behind_digits text) else None

-- the form of a text, if it is one
abbrev pub template_form : List ℕ → Option Definition
template_form text = definition (packed text)

-- the value of each parameter in 10^-9 units, where all are decimals
abbrev pub with_value : Option ℤ → Option (List ℤ) → Option (List ℤ)
with_value None values = None
with_value (Some v) None = None
with_value (Some v) (Some values) = Some (v ∷ values)

abbrev pub values_of : List (List ℕ) → Option (List ℤ)
values_of [] = Some []
values_of (run ∷ runs) = with_value (decimal run) (values_of runs)

-- the length of a parameter, to the nearest nanometre; one that is left out is 0
abbrev pub length_at : FileUnit → List ℤ → ℕ → Nm
length_at unit values k = record { 0 = fix9_of (slice_index_or values k (pos 0)) unit }

-- `C,d[Xhole]`, `R,xXy[Xhole]` and `O,xXy[Xhole]`
abbrev pub circle : FileUnit → List ℤ → Aperture
circle unit values = Circle (length_at unit values 0) (length_at unit values 1)

abbrev pub rect : FileUnit → List ℤ → Aperture
rect unit values = Rect (length_at unit values 0) (length_at unit values 1) (length_at unit values 2)

abbrev pub obround : FileUnit → List ℤ → Aperture
obround unit values = Obround (length_at unit values 0) (length_at unit values 1) (length_at unit values 2)

-- the limits of sizes, as a test: diameters and holes from 0 to 200 mm, sides from 1 nm
abbrev pub is_size_between : ℤ → ℤ → Bool
is_size_between low n = int_le low n && int_le n (pos size_limit)

abbrev pub has_sizes : Aperture → Bool
has_sizes (Circle diameter hole) = is_size_between (pos 0) diameter.0 && is_size_between (pos 0) hole.0
has_sizes (Rect width height hole) =
    is_size_between (pos 1) width.0 && (is_size_between (pos 1) height.0 && is_size_between (pos 0) hole.0)
has_sizes (Obround width height hole) =
    is_size_between (pos 1) width.0 && (is_size_between (pos 1) height.0 && is_size_between (pos 0) hole.0)
has_sizes (Prims prims) = true

-- the macro of a name
abbrev pub named : List Macro → List ℕ → Option Macro
named macros name = find (λ m. bytes_eq m.name name) macros

abbrev pub by_macro : {A : Type 0} → Option Macro → A → (Macro → A) → A
by_macro None refused meaning = refused
by_macro (Some found) refused meaning = meaning found

-- what is meant of a circle, a rectangle, an obround, a template that is refused, or a macro, by the
-- name: `P` and unknown names are refused
abbrev pub by_template_name : {A : Type 0} → List ℕ → List Macro → A → A → A → A → (Macro → A) → A
by_template_name name macros c r o refused meaning =
    if bytes_eq name (codes "C") then c
    else (if bytes_eq name (codes "R") then r
    else (if bytes_eq name (codes "O") then o
    else (if bytes_eq name (codes "P") then refused else by_macro (named macros name) refused meaning)))

abbrev pub primitives_aperture : Result (List MacroPrimitive) MacroFault → Option Aperture
primitives_aperture (Ok prims) = Some (Prims prims)
primitives_aperture (Err fault) = None

-- the aperture that a template makes of the values of its parameters
abbrev pub template_aperture : List ℕ → List Macro → FileUnit → List ℤ → Option Aperture
template_aperture name macros unit values =
    by_template_name name macros (Some (circle unit values)) (Some (rect unit values)) (Some (obround unit values)) None
    (λ m. primitives_aperture (expansion_of unit values m.parts))

-- a standard template takes so many parameters at least, and one more for its hole
abbrev pub standard_faults : ℕ → ℕ → Aperture → Checks Refusal
standard_faults fewest count aperture =
    (BadNumber, nat_lt count fewest) ∷ (TemplateRefused, nat_lt (fewest + 1) count)
    ∷ (SizeRefused, not (has_sizes aperture)) ∷ []

-- the first faulty part of a macro tells one fault
abbrev pub macro_faults : Result (List MacroPrimitive) MacroFault → Checks Refusal
macro_faults (Ok prims) = []
macro_faults (Err fault) = (aperture_refusal (of_macro fault), true) ∷ []

abbrev pub template_faults : List ℕ → List Macro → FileUnit → ℕ → List ℤ → Checks Refusal
template_faults name macros unit count values =
    by_template_name name macros
    (standard_faults 1 count (circle unit values))
    (standard_faults 2 count (rect unit values))
    (standard_faults 2 count (obround unit values))
    ((TemplateRefused, true) ∷ [])
    (λ m. macro_faults (expansion_of unit values m.parts))

-- the faults that a text may have: its form; a number that does not fit its grammar; and those of the template
abbrev pub faults_of : Option Definition → List Macro → FileUnit → Checks Refusal
faults_of None macros unit = (UnknownCommand, true) ∷ []
faults_of (Some d) macros unit =
    (BadNumber, is_none (defined_number d.number)) ∷ (BadNumber, is_none (values_of d.parameters))
    ∷ template_faults d.name macros unit (length d.parameters) (unwrap_or (values_of d.parameters) [])

-- the text has no fault, and defines an aperture of this number
pub record IsDefined (text : List ℕ) (macros : List Macro) (unit : FileUnit) (number : ℕ) (aperture : Aperture)
    : Type 0 where
  pub definition : Definition
  pub values : List ℤ
  pub form : template_form text ≡ Some definition
  pub number_is : defined_number definition.number ≡ Some number
  pub values_are : values_of definition.parameters ≡ Some values
  pub aperture_is : template_aperture definition.name macros unit values ≡ Some aperture
  pub faultless : NoneHolds (faults_of (template_form text) macros unit)

-- the fault of least number is told, or memory was refused
abbrev pub IsDefinitionRefused : List ℕ → List Macro → FileUnit → AdFault → Type 0
IsDefinitionRefused text macros unit fault = UnlessMemory (aperture_refusal fault)
    (IsLeast number_of (faults_of (template_form text) macros unit) (aperture_refusal fault))

-- the number of the definition, where its form and its number are right
abbrev pub numbered : Option Definition → Option ℕ
numbered None = None
numbered (Some d) = defined_number d.number
