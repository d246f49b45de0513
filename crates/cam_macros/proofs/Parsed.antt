-- What is computed of a macro's text is what the grammar says.
use Rattle.std.proofs.Common.{◌≡◌, ℕ, min, Bool, true, false, ◌==◌, List, [], ◌∷◌, length, get_or, Option, Some}
use Rattle.std.proofs.Common.{None, refl, ap, sym, subst, arith, eq-eqb}
use Rattle.std.specs.Prelude.{nat_lt, option_map, if◌then◌else◌}
use Rattle.std.specs.List.{slice_split, before_first, after_first, position_or_len}
use Rattle.std.proofs.lemmas.Bool.{eqb-true, ltb-true, ltb-false}
use Rattle.std.proofs.lemmas.List.Splits.{slice_split_first}
use Rattle.std.proofs.lemmas.List.Sums.{fails_before_first}
use Rattle.cam_macros.specs.declared.expression.Step.{Step}
use Rattle.cam_macros.specs.declared.part.Part.{Part}
use Rattle.cam_macros.specs.declared.part.Part.TheVariants.{Assignment, Primitive}
use Rattle.cam_macros.specs.declared.fault.MacroFault.TheVariants.{Malformed}
use Rattle.cam_macros.specs.Bytes.{comma_sign, dollar, equals}
use Rattle.cam_macros.specs.Tree.{Tree}
use Rattle.cam_macros.specs.Grammar.{IsExpression}
use Rattle.cam_macros.specs.Reading.{AreExpressions, IsPart, AreParts, pieces, first, others, parts_spoken, is_macro_name}
use Rattle.cam_macros.specs.Postfix.{tree_of}
use Rattle.cam_macros.specs.Scanning.{scanned, variable_of}
use Rattle.cam_macros.specs.Parsing.{with_both, all_read, expression_read, assignment_read, primitive_by}
use Rattle.cam_macros.specs.Parsing.{primitive_read, part_read, parts_of, IsReadAs, IsParsedByTheGrammar}
use Rattle.cam_words.proofs.CutLemmas.{first_piece, split_nowhere}
use Rattle.cam_macros.proofs.ExpressionLemmas.{tree_is}
use Rattle.cam_macros.proofs.Machine as machine
use Rattle.cam_macros.proofs.PartLemmas.{is_assignment, no_equals, no_variable, no_value, dollar_part, is_primitive}
use Rattle.cam_macros.proofs.PartLemmas.{no_code, no_fields, other_part, IsNoDollar}
use Rattle.cam_macros.proofs.ReadingLemmas.{head_read, tail_read}
use Rattle.cam_numbers.specs.Numbers.{natural, value_limit}

-- the answer is what the relation says of the text, or it says nothing
abbrev Answers : {A B : Type 0} → (A → B → Type 0) → A → Option B → Type 0
Answers Says text (Some b) = Says text b
Answers {A} {B} Says text None = (b : B) → Says text b → ⊥

-- ---- expressions

expression_answers : (text : List ℕ) → Answers IsExpression text (expression_read text)
unfolding expression_read
expression_answers text = go (scanned text) refl
  where
    go : (o : Option (List Step)) → scanned text ≡ o → Answers IsExpression text (option_map tree_of o)
    go None e = λ tree h. cc (e, machine.expression_read text tree h)
    go (Some steps) e = tree_is text steps e

one_more : (text : List ℕ) (texts : List (List ℕ)) (o : Option Tree) (os : Option (List Tree))
    → Answers IsExpression text o → Answers AreExpressions texts os
    → Answers AreExpressions (text ∷ texts) (with_both (λ y ys. y ∷ ys) o os)
one_more text texts None os h k = λ trees all. let found = head_read text texts trees all in h found.0 found.1
one_more text texts (Some tree) None h k = λ trees all. let found = tail_read text texts trees all in k found.0 found.1
one_more text texts (Some tree) (Some trees) h k = (h, k)

expressions_answer : (texts : List (List ℕ)) → Answers AreExpressions texts (all_read expression_read texts)
expressions_answer [] = tt
expressions_answer (text ∷ texts) =
    one_more text texts (expression_read text) (all_read expression_read texts) (expression_answers text)
    (expressions_answer texts)

-- ---- primitives

its_fields : (piece digits : List ℕ) (texts : List (List ℕ)) (o : Option ℕ) (os : Option (List Tree)) → IsNoDollar piece
    → slice_split (λ b. b == comma_sign) piece ≡ digits ∷ texts → natural digits ≡ o → Answers AreExpressions texts os
    → Answers IsPart piece (with_both (λ code fields. Primitive (min code 10000) fields) o os)
its_fields piece digits texts None os plain cut e h =
    other_part Malformed piece plain (no_code piece digits texts cut (sym (ap (option_map (min value_limit)) e)))
its_fields piece digits texts (Some n) None plain cut e h =
    other_part Malformed piece plain (no_fields Malformed piece digits texts cut h)
its_fields piece digits texts (Some n) (Some fields) plain cut e h =
    is_primitive piece digits texts (min value_limit n) (min n 10000) fields cut
    (sym (ap (option_map (min value_limit)) e)) (omega arith) h

primitive_answers : (piece : List ℕ) → IsNoDollar piece → Answers IsPart piece (primitive_read piece)
unfolding primitive_read
primitive_answers piece plain =
    let cut = first_piece (λ b. b == comma_sign) piece in
    subst (λ all. Answers IsPart piece (primitive_by all)) (sym cut.2)
    (its_fields piece cut.0 cut.1 (natural cut.0) (all_read expression_read cut.1) plain cut.2 refl
    (expressions_answer cut.1))

-- ---- assignments

its_value : (behind digits text : List ℕ) (o : Option ℕ) (value : Option Tree)
    → slice_split (λ b. b == equals) behind ≡ digits ∷ slice_split (λ b. b == equals) text → variable_of digits ≡ o
    → Answers IsExpression text value → Answers IsPart (dollar ∷ behind) (with_both Assignment o value)
its_value behind digits text None value cut e h =
    dollar_part Malformed behind (no_variable behind digits text cut e)
its_value behind digits text (Some n) None cut e h =
    dollar_part Malformed behind (no_value Malformed behind digits text cut h)
its_value behind digits text (Some n) (Some value) cut e h = is_assignment behind digits text n value cut e h

uncut : (c : ℕ) (xs : List ℕ) → nat_lt (position_or_len (λ b. b == c) xs) (length xs) ≡ false
    → slice_split (λ b. b == c) xs ≡ xs ∷ []
uncut c xs e =
    let past = ltb-false (position_or_len (λ b. b == c) xs) (length xs) e in
    split_nowhere c xs
    (λ k before here.
    let none : (get_or xs k 0 == c) ≡ false =
    fails_before_first (λ b. b == c) xs k 0 (omega (arith, before, past)) in
    cc (eq-eqb (get_or xs k 0) c here, none))

assignment_answers : (behind : List ℕ) → Answers IsPart (dollar ∷ behind) (assignment_read behind)
unfolding assignment_read
assignment_answers behind = go (nat_lt (position_or_len (λ b. b == equals) behind) (length behind)) refl
  where
    digits : List ℕ
    digits = before_first (λ b. b == equals) behind

    text : List ℕ
    text = after_first (λ b. b == equals) behind

    go : (b : Bool) → nat_lt (position_or_len (λ b. b == equals) behind) (length behind) ≡ b
        → Answers IsPart (dollar ∷ behind)
        (if b then with_both Assignment (variable_of digits) (expression_read text) else None)
    go true e =
        its_value behind digits text (variable_of digits) (expression_read text)
        (slice_split_first (λ b. b == equals) behind 0 (ltb-true _ _ e)) refl (expression_answers text)
    go false e = dollar_part Malformed behind (no_equals behind behind (uncut equals behind e))

-- ---- parts

part_answers : (piece : List ℕ) → Answers IsPart piece (part_read piece)
part_answers piece = grind (arith, primitive_answers, eqb-true, assignment_answers, eq-eqb)

one_part_more : (piece : List ℕ) (others : List (List ℕ)) (o : Option Part) (os : Option (List Part))
    → Answers IsPart piece o → Answers AreParts others os
    → Answers AreParts (piece ∷ others) (with_both (λ y ys. y ∷ ys) o os)
one_part_more piece others o os h k = grind arith

parts_answer : (pieces : List (List ℕ)) → Answers AreParts pieces (all_read part_read pieces)
parts_answer [] = tt
parts_answer (piece ∷ pieces) =
    one_part_more piece pieces (part_read piece) (all_read part_read pieces) (part_answers piece) (parts_answer pieces)

-- ---- macros

pub parsed_by_the_grammar : IsParsedByTheGrammar
unfolding parts_of
parsed_by_the_grammar text = go (is_macro_name (first (pieces text))) refl
  where
    by : is_macro_name (first (pieces text)) ≡ true → (o : Option (List Part))
        → Answers AreParts (parts_spoken (others (pieces text))) o → IsReadAs text o
    by named (Some parts) h = record { name_is = refl; named = named; parts_are = h }
    by named None h = λ name parts read. h parts read.parts_are

    go : (b : Bool) → is_macro_name (first (pieces text)) ≡ b
        → IsReadAs text (if b then all_read part_read (parts_spoken (others (pieces text))) else None)
    go true e = by e (all_read part_read (parts_spoken (others (pieces text)))) (parts_answer (parts_spoken (others (pieces text))))
    go false e = λ name parts read. cc (read.named, ap is_macro_name read.name_is, e)
