-- Parts by their first pieces.
use Rattle.std.proofs.Common.{◌≡◌, ℕ, min, Bool, true, false, eqb, ◌==◌, ◌&&◌, List, [], ◌∷◌, ◌++◌, Some}
use Rattle.std.proofs.Common.{None, refl, ap, sym, subst, ◌∙◌, arith}
use Rattle.std.specs.List.{slice_split, list_all, join_with_byte}
use Rattle.std.specs.Char.{is_ascii_digit}
use Rattle.std.specs.Prelude.{option_map}
use Rattle.std.proofs.lemmas.List.{nil_from_length}
use Rattle.std.proofs.lemmas.Bool.{ne_eqb}
use Rattle.std.proofs.lemmas.List.Splits.{join_with_byte-slice_split}
use Rattle.cam_macros.specs.declared.fault.MacroFault.{MacroFault}
use Rattle.cam_macros.specs.Tree.{Tree}
use Rattle.cam_numbers.specs.Numbers.{value_of, natural, value_limit}
use Rattle.cam_numbers.proofs.Naturals.{natural-digits}
use Rattle.cam_numbers.proofs.Written.{natural_found}
use Rattle.cam_macros.specs.Grammar.{AreDigits, IsExpression}
use Rattle.cam_macros.specs.Scanning.{variable_of}
use Rattle.cam_macros.specs.Answers.{IsMalformed, Nothing}
use Rattle.cam_macros.specs.Reading.{AreExpressions, IsAssignment, IsPrimitive, IsPart}
use Rattle.cam_macros.proofs.FaultLemmas.{malformed_also}
use Rattle.cam_words.proofs.CutLemmas.{first_piece}
use Rattle.cam_macros.proofs.Machine.{variable_is}
use Rattle.cam_macros.proofs.Levels.{variable_found}
use Rattle.cam_macros.specs.Bytes.{comma_sign, dollar, equals}

abbrev cut_at : ℕ → List ℕ → List (List ℕ)
cut_at c xs = slice_split (λ b. b == c) xs

-- a text from its first piece and the rest
text_again : (c : ℕ) (text piece rest : List ℕ) → cut_at c text ≡ piece ∷ cut_at c rest → text ≡ piece ++ c ∷ rest
text_again c text piece rest e =
    let found = first_piece (λ b. b == c) rest in
    sym (join_with_byte-slice_split c text)
    ∙ ap (join_with_byte c) (e ∙ ap (λ l. piece ∷ l) found.2)
    ∙ ap (λ l. piece ++ c ∷ l) (ap (join_with_byte c) (sym found.2) ∙ join_with_byte-slice_split c rest)

no_equals_sign : (b : ℕ) → is_ascii_digit b ≡ true → eqb b equals ≡ false
no_equals_sign b h = ne_eqb b equals (λ e. let wrong : false ≡ true = subst (λ c. is_ascii_digit c ≡ true) e h in cc)

both_left : (a b : Bool) → a && b ≡ true → a ≡ true
both_left a b h = grind arith

both_right : (a b : Bool) → a && b ≡ true → b ≡ true
both_right a b h = grind arith

digits_first : (digits rest : List ℕ) → AreDigits digits
    → cut_at equals (digits ++ equals ∷ rest) ≡ digits ∷ cut_at equals rest
digits_first [] rest h = refl
digits_first (b ∷ digits) rest h =
    grind (
      arith,
      no_equals_sign,
      both_left,
      both_right,
      digits_first digits rest (both_right (is_ascii_digit b) (list_all is_ascii_digit digits) h),
    )

-- the pieces of an assignment are those that it tells
its_pieces : (behind : List ℕ) (variable : ℕ) (value : Tree) (h : IsAssignment (dollar ∷ behind) variable value)
    → cut_at equals behind ≡ h.digits ∷ cut_at equals h.text
its_pieces behind variable value h = grind (arith, digits_first)

pub no_equals : (behind digits : List ℕ) → cut_at equals behind ≡ digits ∷ [] → (variable : ℕ) (value : Tree)
    → IsAssignment (dollar ∷ behind) variable value → ⊥
no_equals behind digits e variable value h =
    let found = first_piece (λ b. b == equals) h.text in
    cc (its_pieces behind variable value h, found.2)

same_digits : (behind digits text : List ℕ) → cut_at equals behind ≡ digits ∷ cut_at equals text
    → (variable : ℕ) (value : Tree) (h : IsAssignment (dollar ∷ behind) variable value) → h.digits ≡ digits
same_digits behind digits text e variable value h = cc (its_pieces behind variable value h)

same_text : (behind digits text : List ℕ) → cut_at equals behind ≡ digits ∷ cut_at equals text
    → (variable : ℕ) (value : Tree) (h : IsAssignment (dollar ∷ behind) variable value) → h.text ≡ text
same_text behind digits text e variable value h =
    let same : cut_at equals h.text ≡ cut_at equals text = cc (its_pieces behind variable value h) in
    sym (join_with_byte-slice_split equals h.text) ∙ ap (join_with_byte equals) same
    ∙ join_with_byte-slice_split equals text

pub no_variable : (behind digits text : List ℕ) → cut_at equals behind ≡ digits ∷ cut_at equals text
    → variable_of digits ≡ None → (variable : ℕ) (value : Tree) → IsAssignment (dollar ∷ behind) variable value → ⊥
no_variable behind digits text e none variable value h =
    let some : variable_of digits ≡ Some (value_of h.digits) =
    ap variable_of (sym (same_digits behind digits text e variable value h)) ∙ variable_is h.digits h.number in
    cc

pub no_value : (fault : MacroFault) (behind digits text : List ℕ) → cut_at equals behind ≡ digits ∷ cut_at equals text
    → IsMalformed fault (Nothing (IsExpression text))
    → IsMalformed fault ((variable : ℕ) → Nothing (IsAssignment (dollar ∷ behind) variable))
no_value fault behind digits text e f =
    malformed_also fault
    (λ none variable value h.
    none value (subst (λ t. IsExpression t value) (same_text behind digits text e variable value h) h.reads))
    f

pub is_assignment : (behind digits text : List ℕ) (variable : ℕ) (value : Tree)
    → cut_at equals behind ≡ digits ∷ cut_at equals text → variable_of digits ≡ Some variable
    → IsExpression text value → IsAssignment (dollar ∷ behind) variable value
is_assignment behind digits text variable value e some reads = grind (arith, variable_found, text_again)

-- primitives

-- the code that digits write, told up to the limit
code_found : (digits : List ℕ) (code : ℕ) → option_map (min value_limit) (natural digits) ≡ Some code
    → (digits ≡ [] → ⊥) × AreDigits digits × (min value_limit (value_of digits) ≡ code)
code_found digits code e = grind (arith, natural_found)

pub is_primitive : (piece digits : List ℕ) (texts : List (List ℕ)) (code capped : ℕ) (fields : List Tree)
    → cut_at comma_sign piece ≡ digits ∷ texts → Some code ≡ option_map (min value_limit) (natural digits)
    → capped ≡ min code 10000 → AreExpressions texts fields → IsPrimitive piece capped fields
is_primitive piece digits texts code capped fields e number same reads = grind (arith, code_found)

pub no_code : (piece digits : List ℕ) (texts : List (List ℕ)) → cut_at comma_sign piece ≡ digits ∷ texts
    → None ≡ option_map (min value_limit) (natural digits)
    → (code : ℕ) (fields : List Tree) → IsPrimitive piece code fields → ⊥
no_code piece digits texts e none code fields h = grind (arith, natural-digits, nil_from_length)

pub no_fields : (fault : MacroFault) (piece digits : List ℕ) (texts : List (List ℕ))
    → cut_at comma_sign piece ≡ digits ∷ texts → IsMalformed fault (Nothing (AreExpressions texts))
    → IsMalformed fault ((code : ℕ) → Nothing (IsPrimitive piece code))
no_fields fault piece digits texts e f = grind (arith, malformed_also)

-- a dollar first, or not

pub dollar_part : (fault : MacroFault) (behind : List ℕ)
    → IsMalformed fault ((variable : ℕ) → Nothing (IsAssignment (dollar ∷ behind) variable))
    → IsMalformed fault (Nothing (IsPart (dollar ∷ behind)))
dollar_part fault behind f = grind (arith, malformed_also)

-- what does not begin with a dollar
abbrev pub IsNoDollar : List ℕ → Type 0
IsNoDollar [] = Unit {0}
IsNoDollar (b ∷ _) = b ≡ dollar → ⊥

pub other_part : (fault : MacroFault) (piece : List ℕ) → IsNoDollar piece
    → IsMalformed fault ((code : ℕ) → Nothing (IsPrimitive piece code)) → IsMalformed fault (Nothing (IsPart piece))
other_part fault piece dollarless f = grind (arith, malformed_also)

-- two readings of a piece as an assignment tell the same digits and the same text
pub same_assignment : (piece : List ℕ) (m n : ℕ) (a b : Tree) (p : IsAssignment piece m a)
    (q : IsAssignment piece n b) → (p.digits ≡ q.digits) × (p.text ≡ q.text)
same_assignment piece m n a b p q =
    let same : p.digits ++ equals ∷ p.text ≡ q.digits ++ equals ∷ q.text = cc (p.written, q.written) in
    let cuts : p.digits ∷ cut_at equals p.text ≡ q.digits ∷ cut_at equals q.text =
    sym (digits_first p.digits p.text p.number.all) ∙ ap (cut_at equals) same
    ∙ digits_first q.digits q.text q.number.all in
    let rest : cut_at equals p.text ≡ cut_at equals q.text = cc in (
      cc,
      sym (join_with_byte-slice_split equals p.text) ∙ ap (join_with_byte equals) rest
          ∙ join_with_byte-slice_split equals q.text,
    )

pub dollar_or_not : (piece : List ℕ) (m : ℕ) (a : Tree) (code : ℕ) (fields : List Tree) → IsAssignment piece m a
    → IsPrimitive piece code fields → ⊥
dollar_or_not piece m a code fields p q = grind arith
