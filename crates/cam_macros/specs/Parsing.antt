-- What the text of a macro is read as, computed from left to right; the law ties it to the grammar.
-- Gerber Layer Format Specification, "Aperture macro (AM)".
use Rattle.std.specs.Prelude.{ℕ, min, List, [], ◌∷◌, length, Option, Some, None, ◌==◌, nat_lt, if◌then◌else◌}
use Rattle.std.specs.Option.{option_map}
use Rattle.std.specs.List.{slice_split, before_first, after_first, position_or_len}
use Rattle.cam_macros.specs.declared.part.Part.{Part}
use Rattle.cam_macros.specs.declared.part.Part.TheVariants.{Assignment, Primitive}
use Rattle.cam_macros.specs.Bytes.{comma_sign, dollar, equals}
use Rattle.cam_macros.specs.Tree.{Tree}
use Rattle.cam_macros.specs.Reading.{pieces, first, others, parts_spoken, is_macro_name, IsMacroReading}
use Rattle.cam_macros.specs.Postfix.{tree_of}
use Rattle.cam_macros.specs.Scanning.{scanned, variable_of}
use Rattle.cam_numbers.specs.Numbers.{natural}

-- two answers, where there are both
abbrev pub with_both : {A B C : Type 0} → (A → B → C) → Option A → Option B → Option C
with_both join None b = None
with_both join (Some a) None = None
with_both join (Some a) (Some b) = Some (join a b)

-- the answers of all, where each has one
abbrev pub all_read : {A B : Type 0} → (A → Option B) → List A → Option (List B)
all_read read [] = Some []
all_read read (x ∷ xs) = with_both (λ y ys. y ∷ ys) (read x) (all_read read xs)

unfoldable pub expression_read : List ℕ → Option Tree
expression_read text = option_map tree_of (scanned text)

-- behind the `$`: up to the first `=` the number of the variable, behind it the expression
unfoldable pub assignment_read : List ℕ → Option Part
assignment_read behind =
    if nat_lt (position_or_len (λ b. b == equals) behind) (length behind) then
    with_both Assignment (variable_of (before_first (λ b. b == equals) behind))
    (expression_read (after_first (λ b. b == equals) behind))
    else None

abbrev pub primitive_by : List (List ℕ) → Option Part
primitive_by [] = None
primitive_by (digits ∷ texts) =
    with_both (λ code fields. Primitive (min code 10000) fields) (natural digits) (all_read expression_read texts)

unfoldable pub primitive_read : List ℕ → Option Part
primitive_read piece = primitive_by (slice_split (λ b. b == comma_sign) piece)

abbrev pub part_read : List ℕ → Option Part
part_read [] = primitive_read []
part_read (b ∷ bs) = if b == dollar then assignment_read bs else primitive_read (b ∷ bs)

-- the parts of the macro for which a text stands, if it stands for one
unfoldable pub parts_of : List ℕ → Option (List Part)
parts_of text =
    if is_macro_name (first (pieces text)) then all_read part_read (parts_spoken (others (pieces text))) else None

-- the text stands for a macro with these parts, or for none
abbrev pub IsReadAs : List ℕ → Option (List Part) → Type 0
IsReadAs text (Some parts) = IsMacroReading text (first (pieces text)) parts
IsReadAs text None = (name : List ℕ) (parts : List Part) → ¬ IsMacroReading text name parts

-- what is computed is what the grammar says
abbrev pub IsParsedByTheGrammar : Type 0
IsParsedByTheGrammar = (text : List ℕ) → IsReadAs text (parts_of text)
