-- The text of a file attribute holds only such bytes as may stand in one: the cutting allows no others, and a command with a
-- star in it is none.
use Rattle.std.proofs.Common.{◌≡◌, ◌≢◌, ℕ, zero, suc, ◌+◌, ◌≤◌, [], ◌∷◌, ◌||◌, Bool, true, false, cond, not, List, length, take, drop}
use Rattle.std.proofs.Common.{Some, None, Ok, Err, IsTrue, refl, sym, ap, subst, ◌∙◌, arith}
use Rattle.std.specs.Prelude.{codes, find, nat_eq, nat_lt}
use Rattle.std.specs.List.{AllByRecursion, list_any, position_or_len, starts_with}
use Rattle.std.specs.Str.{bytes_eq}
use Rattle.std.proofs.lemmas.Bool.{eqb-false, eqb-true, ltb-false, or_parts}
use Rattle.std.proofs.lemmas.Bool.Decides.{nat_tests}
use Rattle.std.proofs.lemmas.List.Elements.{All-drop, All-from_recursion, All-nil, All-take}
use Rattle.std.proofs.lemmas.Map.Keys.{IsDistinct-from_apart}
use Rattle.std.proofs.lemmas.Slice.Eq.{bytes_eq-Decides}
use Rattle.cam_refusals.specs.Checks.{least}
use Rattle.cam_refusals.specs.Refusals.{number_of}
use Rattle.cam_words.specs.declared.word.Kind.TheVariants.{Plain, Comment, Extended}
use Rattle.cam_words.specs.Bytes.{is_control, is_forbidden_in_code, is_star, percent}
use Rattle.cam_words.specs.Cutting.{Command, WordCommand, ExtendedCommand, FoundWord, IsCommand, word_of}
use Rattle.cam_words.specs.Heads.{behind_kept, is_comment, is_forbidden_in_extended, is_free_text, packed}
use Rattle.cam_words.specs.Reading.{WordAnswer, reading}
use Rattle.cam_objects.specs.Attributes.{AreAttributes, AreFields, IsAttribute, attribute_of, is_attribute_byte, with_attribute}
use Rattle.cam_objects.proofs.EditedAttributes.{attribute_edits}
use Rattle.cam_commands.specs.declared.names.FreeText.{FreeText}
use Rattle.cam_commands.specs.declared.names.FreeText.TheVariants.{FileAttribute}
use Rattle.cam_commands.specs.declared.names.Name.{Name}
use Rattle.cam_commands.specs.declared.names.Name.TheVariants.{Free}
use Rattle.cam_commands.specs.Commands.{Command as Said, KeepText}
use Rattle.cam_commands.specs.ExtendedCommands.{letters_of, name_of as named_by, names}
use Rattle.cam_commands.specs.Syntax.{command_of}
use Rattle.cam_gerber.specs.Statements.{Statement, Says, NamesMacro, Uncut}
use Rattle.cam_gerber.specs.State.{Past}
use Rattle.cam_gerber.specs.Attributes.{attributes_in, attribute_fields, is_comma, attribute_name, names_in}
use Rattle.cam_gerber.specs.Faults.{faults}
use Rattle.cam_gerber.specs.Computing.{statement_said, told_of}
use Rattle.cam_gerber.proofs.FileAttributes.{names_counted, sets_its_attribute}
use Rattle.cam_gerber.proofs.OpenNumbers.{IsNamed, Keeps, kept_text}
use Rattle.cam_gerber.proofs.Least.{pass_least}
use Rattle.cam_gerber.proofs.Places.{all_answers}

-- ---- what the cutting allows

-- the text of an extended command holds only bytes that it may hold
abbrev pub IsClean : WordAnswer → Type 0
IsClean (Ok word) = word.kind ≡ Extended
    → AllByRecursion (λ byte. (byte ≢ percent) × (is_forbidden_in_extended word.text byte ≡ false)) word.text
IsClean (Err fault) = Unit {0}

no_extended : (b : Bool) → cond b Comment Plain ≡ Extended → ⊥
no_extended b e = grind arith

clean_word : (at : ℕ) (command : Command) → IsCommand command → IsClean (Ok (word_of at command))
clean_word at (WordCommand text) h = λ is. absurd (no_extended (is_comment text) is)
clean_word at (ExtendedCommand text tail) h = λ is. h.0

pub clean_answers : (text : List ℕ) → AllByRecursion IsClean (reading 0 text)
clean_answers text = all_answers IsClean clean_word (λ fault text tells. tt) text

-- ---- an attribute is free text

found_passes : {X : Type 0} (p : X → Bool) (xs : List X) (x : X) → find p xs ≡ Some x → p x ≡ true
found_passes p [] x e = absurd (cc)
found_passes {X} p (y ∷ ys) x e = grind (arith, found_passes p ys x)

letters_are : (letters : List ℕ) (name : Name) → named_by letters ≡ Some name → letters ≡ letters_of name
unfolding named_by
letters_are letters name e =
    sym ((bytes_eq-Decides (letters_of name) letters).0 (found_passes (λ (n : Name). bytes_eq (letters_of n) letters) names name e))

begins_with_t : (text : List ℕ) → take 2 text ≡ codes "TF" → starts_with nat_eq text (codes "T") ≡ true
begins_with_t text e = grind arith

is_free : (text : List ℕ) → named_by (take 2 (packed text)) ≡ Some (Free FileAttribute) → is_free_text text ≡ true
unfolding is_free_text
is_free text e =
    ap (λ b. b || starts_with nat_eq (packed text) (codes "IN") || starts_with nat_eq (packed text) (codes "LN"))
    (begins_with_t (packed text) (letters_are (take 2 (packed text)) (Free FileAttribute) e))

-- ---- the bytes of its text

allowed : (byte : ℕ) → byte ≢ percent → is_control byte ≡ false → is_star byte ≡ false → IsTrue (is_attribute_byte byte)
allowed byte a b c = grind (arith, nat_tests)

kept_suffix : (n : ℕ) (P : ℕ → Type 0) (text : List ℕ) → AllByRecursion P text → AllByRecursion P (behind_kept n text)
kept_suffix zero P text h = h
kept_suffix (suc n) P [] h = tt
kept_suffix (suc n) P (byte ∷ text) h = grind (arith, kept_suffix (suc n) P text h.1, kept_suffix n P text h.1)

all_allowed : (free : Bool) (text : List ℕ) → free ≡ true
    → AllByRecursion (λ byte. (byte ≢ percent) × (cond free is_control is_forbidden_in_code byte ≡ false)) text
    → list_any is_star text ≡ false → AllByRecursion (λ byte. IsTrue (is_attribute_byte byte)) text
all_allowed free [] is h none = tt
all_allowed free (byte ∷ text) is h none =
    let parts = or_parts (is_star byte) (list_any is_star text) none in (
      allowed byte h.0.0 (subst (λ b. cond b is_control is_forbidden_in_code byte ≡ false) is h.0.1) parts.0,
      all_allowed free text is h.1 parts.1,
    )

abbrev pub IsAttributeText : FreeText → List ℕ → Type 0
IsAttributeText FileAttribute text = AllByRecursion (λ byte. IsTrue (is_attribute_byte byte)) text
IsAttributeText _ text = Unit {0}

text_allowed : (word : FoundWord) → IsClean (Ok word) → word.kind ≡ Extended → (free : FreeText) → IsNamed free word.text
    → IsAttributeText free (behind_kept 2 word.text)
text_allowed word clean is FileAttribute named =
    let free = is_free word.text named.named in
    let bytes = kept_suffix 2 (λ byte. (byte ≢ percent) × (is_forbidden_in_extended word.text byte ≡ false)) word.text (clean is) in
    all_allowed (is_free_text word.text) (behind_kept 2 word.text) free bytes named.starless
text_allowed word clean is _ named = tt

-- ---- what is told

abbrev pub StatesText : Statement → Type 0
StatesText (Says command) = Keeps IsAttributeText command
StatesText (NamesMacro name parts) = Unit {0}
StatesText (Uncut code) = Unit {0}

stated_text : (command : Said) → Keeps IsAttributeText command → StatesText (statement_said command)
stated_text command keeps = grind arith

pub told_text : (answer : WordAnswer) → IsClean answer → StatesText (told_of answer).says
told_text (Ok word) clean =
    stated_text (command_of word) (kept_text IsAttributeText word (λ is free named. text_allowed word clean is free named))
told_text (Err fault) clean = tt

-- ---- the attribute that is set

name_plain : (text : List ℕ) → AllByRecursion (λ byte. byte ≢ 44) (take (position_or_len is_comma text) text)
name_plain [] = tt
name_plain (byte ∷ text) = by (is_comma byte) refl (name_plain text) where
  by : (b : Bool) → is_comma byte ≡ b → AllByRecursion (λ byte. byte ≢ 44) (take (position_or_len is_comma text) text)
      → AllByRecursion (λ byte. byte ≢ 44) (take (cond (not b) (1 + position_or_len is_comma text) 0) (byte ∷ text))
  by true is rest = tt
  by false is rest =
      let next : suc (position_or_len is_comma text) ≡ 1 + position_or_len is_comma text = omega arith in
      subst (λ n. AllByRecursion (λ byte. byte ≢ 44) (take n (byte ∷ text))) next (
        (λ same. eqb-false byte 44 is same),
        rest,
      )

fields_apart : (text : List ℕ) → AreFields (drop (position_or_len is_comma text) text)
fields_apart [] = tt
fields_apart (byte ∷ text) = by (is_comma byte) refl (fields_apart text) where
  by : (b : Bool) → is_comma byte ≡ b → AreFields (drop (position_or_len is_comma text) text)
      → AreFields (drop (cond (not b) (1 + position_or_len is_comma text) 0) (byte ∷ text))
  by true is rest = eqb-true byte 44 is
  by false is rest =
      let next : suc (position_or_len is_comma text) ≡ 1 + position_or_len is_comma text = omega arith in
      subst (λ n. AreFields (drop n (byte ∷ text))) next rest

is_attribute : (text : List ℕ) → AllByRecursion (λ byte. IsTrue (is_attribute_byte byte)) text
    → IsAttribute (attribute_of (attribute_name text) (attribute_fields text))
is_attribute text h =
    let Allowed : ℕ → Type 0 = λ byte. IsTrue (is_attribute_byte byte) in
    let all = All-from_recursion Allowed text h in
    record {
      name = All-take Allowed (position_or_len is_comma text) text all;
      whole = All-from_recursion (λ byte. byte ≢ 44) (take (position_or_len is_comma text) text) (name_plain text);
      fields = All-drop Allowed (position_or_len is_comma text) text all;
      apart = fields_apart text;
    }

sets : (past : Past) (text : List ℕ) → AllByRecursion (λ byte. IsTrue (is_attribute_byte byte)) text
    → nat_lt 1000 (length (names_in (Says (KeepText FileAttribute text) ∷ past))) ≡ false
    → AreAttributes (attributes_in past) → AreAttributes (attributes_in (Says (KeepText FileAttribute text) ∷ past))
sets past text allowed few h =
    let a = attribute_of (attribute_name text) (attribute_fields text) in
    let room : length (with_attribute a (attributes_in past)) ≤ 1000 =
    ltb-false 1000 _ (names_counted past text (attributes_in past) refl ∙ few) in
    subst AreAttributes (sym (sets_its_attribute past text))
    (attribute_edits.set (attributes_in past) a h (record { sound = is_attribute text allowed; room = room }))

pub attributes_step : (past : Past) (says : Statement) → StatesText says → least number_of (faults past says) ≡ None
    → AreAttributes (attributes_in past) → AreAttributes (attributes_in (says ∷ past))
attributes_step past (Says (KeepText FileAttribute text)) allowed none h = grind (arith, sets, allowed, pass_least)
attributes_step past _ allowed none h = h

pub no_attributes : AreAttributes []
no_attributes = grind (arith, All-nil, IsDistinct-from_apart)
