-- Operations as nearly all files write them.
use Rattle.std.proofs.Common.{◌≡◌, ◌≢◌, ℕ, List, [], ◌∷◌, get_or, Some, None, Option, ℤ, refl, arith, ne_eqb}
use Rattle.cam_words.specs.Heads.{packed}
use Rattle.cam_commands.specs.declared.parts.Mode.{Mode}
use Rattle.cam_commands.specs.declared.parts.Slot.{Slot}
use Rattle.cam_commands.specs.declared.parts.Slot.TheVariants.{Omitted}
use Rattle.cam_commands.specs.declared.parts.OperationCode.{OperationCode}
use Rattle.cam_commands.specs.declared.parts.OperationCode.TheVariants.{Plot, Move, Flash}
use Rattle.cam_numbers.specs.Numbers.{integer, is_numeric, natural, value_of}
use Rattle.cam_commands.specs.Commands.{Operate}
use Rattle.cam_commands.specs.Fields.{field}
use Rattle.cam_commands.specs.WordCommands.{OperationParts, by_function, operate, operation, operation_code, operation_of, parts_said_by, slot}
use Rattle.cam_commands.specs.WordCommands.{word_command}
use Rattle.cam_commands.specs.Machinery.WordParts.{plain_text}

pub packed_plain : (code : OperationCode) → packed (plain_text code) ≡ plain_text code
packed_plain Plot = refl
packed_plain Move = refl
packed_plain Flash = refl

no_i : (code : OperationCode) → field 73 (plain_text code) ≡ (None, plain_text code)
unfolding field
no_i Plot = refl
no_i Move = refl
no_i Flash = refl

no_j : (code : OperationCode) → field 74 (plain_text code) ≡ (None, plain_text code)
unfolding field
no_j Plot = refl
no_j Move = refl
no_j Flash = refl

digits : OperationCode → List ℕ
digits Plot = 48 ∷ 49 ∷ []
digits Move = 48 ∷ 50 ∷ []
digits Flash = 48 ∷ 51 ∷ []

just_d : (code : OperationCode) → field 68 (plain_text code) ≡ (Some (digits code), [])
unfolding field is_numeric digits
just_d Plot = refl
just_d Move = refl
just_d Flash = refl

said : (p : OperationParts) (code : OperationCode) → parts_said_by p (Some (digits code)) ≡ operate p (Some code)
unfolding natural value_of operation_code digits
said p Plot = refl
said p Move = refl
said p Flash = refl

pub operation_plain : (mode : Option Mode) (text : List ℕ) (x y : Slot ℤ) (code : OperationCode)
    → x ≡ slot integer (field 88 text).0 → y ≡ slot integer (field 89 (field 88 text).1).0
    → (field 89 (field 88 text).1).1 ≡ plain_text code
    → Operate (record { mode = mode; x = x; y = y; i = Omitted; j = Omitted; code = Some code }) ≡ operation mode text
unfolding operation operation_of
operation_plain mode text x y code ex ey e = grind (arith, no_i, no_j, just_d, said, digits)

-- a word that begins with another letter than M and G
field_absent : (letter byte : ℕ) (text : List ℕ) → byte ≢ letter → field letter (byte ∷ text) ≡ (None, byte ∷ text)
unfolding field
field_absent letter byte text other = rw (ne_eqb byte letter other) refl

another_letter : (byte : ℕ) (text : List ℕ) → byte ≢ 77 → byte ≢ 71
    → word_command (byte ∷ text) ≡ operation None (byte ∷ text)
unfolding word_command by_function
another_letter byte text no_m no_g = grind (arith, field_absent)

pub axis_x : (text : List ℕ) → get_or text 0 0 ≡ 88 → word_command (packed text) ≡ operation None (packed text)
axis_x [] e = absurd cc
axis_x (byte ∷ text) e = grind (arith, another_letter)

pub axis_y : (text : List ℕ) → get_or text 0 0 ≡ 89 → word_command (packed text) ≡ operation None (packed text)
axis_y [] e = absurd cc
axis_y (byte ∷ text) e = grind (arith, another_letter)
