-- What is read from left to right is in the grammar.
use Rattle.std.proofs.lemmas.Grind.{common_steps}
use Rattle.std.proofs.Common.{◌≡◌, ℕ, zero, suc, ◌+◌, ◌≤◌, cond, length, ◌⊎◌, inl, inr, List, [], ◌∷◌, ◌++◌, take, drop, Option}
use Rattle.std.proofs.Common.{Some, None, refl, ap, sym, ◌∙◌, subst, append_assoc, append-nil, arith, length-drop, length-append}
use Rattle.std.proofs.lemmas.List.{take-append-drop}
use Rattle.std.specs.Prelude.{option_map}
use Rattle.std.specs.List.{prefix_len}
use Rattle.std.specs.Char.{is_ascii_digit}
use Rattle.cam_macros.specs.declared.expression.Step.{Step}
use Rattle.cam_macros.specs.declared.expression.Step.TheVariants.{Push, Read}
use Rattle.cam_macros.specs.declared.parsing.mark.Mark.{Mark}
use Rattle.cam_macros.specs.Tree.{Tree}
use Rattle.cam_macros.specs.Postfix.{postfix}
use Rattle.cam_macros.specs.Grammar.{Sign, Plus, Minus, Cross, Small, Large, Slash, Decimal, Sum, Term, Factor}
use Rattle.cam_macros.specs.Grammar.{Numeral, Dollar, Enclosed, sign_byte, cross_byte, sum_text, term_text}
use Rattle.cam_macros.specs.Grammar.{factor_text, factor_count, IsDecimal, IsVariable, IsSum, IsFactor}
use Rattle.cam_macros.specs.Grammar.{sign_operator, cross_operator, sum_tree, term_tree, factor_tree, IsExpression}
use Rattle.cam_macros.specs.Scanning.{Behind, finished, fresh_level, goes_on, is_run_byte, level_of, mark_of, number_of_run}
use Rattle.cam_macros.specs.Scanning.{operator_at, Scan, scan, scan_of, scanned, variable_of, waiting, Wanted}
use Rattle.cam_macros.specs.Scanning.{with_operand, step_scanned}
use Rattle.cam_macros.specs.Machinery.Scanning.{prefixed, scan_behind, scan_wanted}
use Rattle.cam_macros.proofs.Marks.{numeric_from_mark, numeral_is, dollar_is, prefix_then, operator_then}
use Rattle.cam_macros.proofs.Marks.{none_wanted, finished_is}
use Rattle.cam_macros.proofs.Levels.{leaf_of, variable_found, IsMarked, marked, SumPart, NoSum, SumBefore, NoTerm, TermBefore}
use Rattle.cam_macros.proofs.Levels.{Opened, opened, sum_part_text, term_part_text, signs_text, opened_text, outer_text}
use Rattle.cam_macros.proofs.Levels.{sum_part_steps, term_part_steps, outer_steps, sum_part_operator, term_part_operator, minuses}
use Rattle.cam_macros.proofs.Levels.{level_at, levels_at, opened_count, outer_count, IsOpened, AreOpened, before, behind}
use Rattle.cam_macros.proofs.Levels.{IsBefore, IsBehind, Found, Reads, ended, ended_text, ended_steps, ended_count, ended_fits}
use Rattle.cam_macros.proofs.Levels.{signed, joined, operand_whole, operand_behind, operand_text}
use Rattle.cam_macros.specs.Bytes.{closing, dollar, large_x, minus_sign, opening_parenthesis, plus, slash, small_x}

found_at : (a b : List ℕ) (out : List Step) → a ≡ b → Found a out → Found b out
found_at a b out e h = grind arith

behind_some : (o : Option ℕ) (f : ℕ → Scan) (rest : List ℕ) (out : List Step)
    → scan_behind (option_map f o) rest ≡ Some out
    → (v : ℕ) × (o ≡ Some v) × (scan Behind (f v) rest ≡ Some out)
behind_some o f rest out e = grind arith

-- a factor has been read
factor_found : (n : ℕ) (ih : Reads n) (l : Opened) (ls : List Opened) (room budget : ℕ) (f : Factor)
    (steps : List Step) (rest : List ℕ) (out : List Step)
    → IsOpened room l → AreOpened room ls → length ls + room ≡ 64 → IsFactor room f
    → outer_count ls + opened_count l + factor_count f + budget ≡ 1000
    → steps ≡ outer_steps ls ++ (sum_part_steps l.sum ++ term_part_steps l.term) ++ postfix (factor_tree f)
    → length rest ≤ n → scan Behind (with_operand (scan_of steps (level_at l) (levels_at ls) room budget)) rest
    ≡ Some out
    → Found (outer_text ls ++ (opened_text l ++ (factor_text f ++ rest))) out
factor_found n ih l ls room budget f steps rest out inner outer deep fits few same h e =
    found_at _ _ out (ap (λ x. outer_text ls ++ x) (operand_text l f rest))
    (ih.whole rest h l.sum (joined l.term (signed l.signs f)) ls room budget out
    (operand_behind l ls room budget f inner outer deep fits few)
    (ap (λ s. scan Behind s rest) (sym (operand_whole l ls room budget f))
    ∙ ap (λ x. scan Behind (with_operand (scan_of x (level_at l) (levels_at ls) room budget)) rest) (sym same)
    ∙ e))

leaf_fits : (room : ℕ) (d : Decimal) → IsDecimal d → IsFactor room (Numeral d)
leaf_fits room d h = grind arith

variable_fits : (room : ℕ) (digits : List ℕ) → IsVariable digits → IsFactor room (Dollar digits)
variable_fits room digits h = grind arith

numeral_found : (n : ℕ) (ih : Reads n) (b : ℕ) (bs : List ℕ) (l : Opened) (ls : List Opened) (room budget : ℕ)
    (out : List Step)
    → length bs ≤ n → IsBefore l ls room budget → mark_of b ≡ Mark.Numeral
    → scan Wanted (before l ls room budget) (b ∷ bs) ≡ Some out
    → Found (outer_text ls ++ (opened_text l ++ b ∷ bs)) out
numeral_found n ih b bs l ls room budget out h k m e =
    let s = before l ls room budget in
    let at = prefix_len is_run_byte (b ∷ bs) in
    let run = take at (b ∷ bs) in
    let some =
    behind_some (number_of_run run) (λ v. step_scanned (Push v) s) (drop at (b ∷ bs)) out (sym (numeral_is s b bs m) ∙ e) in
    let leaf = leaf_of run some.0 some.1 in
    let place : at ≡ 1 + prefix_len is_run_byte bs =
    ap (λ v. cond v (1 + prefix_len is_run_byte bs) 0) (numeric_from_mark b m) in
    found_at _ _ out
    (ap (λ x. outer_text ls ++ (opened_text l ++ x))
    (ap (λ x. x ++ drop at (b ∷ bs)) leaf.written ∙ take-append-drop at (b ∷ bs)))
    (factor_found n ih l ls room budget (Numeral leaf.leaf) _ (drop at (b ∷ bs)) out k.inner k.outer k.deep
    (leaf_fits room leaf.leaf leaf.fits) (omega (arith, k.few))
    (ap (λ x. outer_steps ls ++ (sum_part_steps l.sum ++ term_part_steps l.term) ++ x) (sym (ap postfix leaf.same)))
    (omega (arith, length-drop at (b ∷ bs), place, h))
    some.2)

dollar_found : (n : ℕ) (ih : Reads n) (b : ℕ) (bs : List ℕ) (l : Opened) (ls : List Opened) (room budget : ℕ)
    (out : List Step)
    → length bs ≤ n → IsBefore l ls room budget → mark_of b ≡ Mark.Dollar → b ≡ dollar
    → scan Wanted (before l ls room budget) (b ∷ bs) ≡ Some out
    → Found (outer_text ls ++ (opened_text l ++ b ∷ bs)) out
dollar_found n ih b bs l ls room budget out h k m byte e =
    let s = before l ls room budget in
    let at = prefix_len is_ascii_digit bs in
    let run = take at bs in
    let some =
    behind_some (variable_of run) (λ v. step_scanned (Read v) s) (drop at bs) out (sym (dollar_is s b bs m) ∙ e) in
    let found = variable_found run some.0 some.1 in
    found_at _ _ out
    (ap (λ x. outer_text ls ++ (opened_text l ++ x))
    (ap (λ x. dollar ∷ x) (take-append-drop at bs) ∙ ap (λ c. c ∷ bs) (sym byte)))
    (factor_found n ih l ls room budget (Dollar run) _ (drop at bs) out k.inner k.outer k.deep
    (variable_fits room run found.0) (omega (arith, k.few))
    (ap (λ x. outer_steps ls ++ (sum_part_steps l.sum ++ term_part_steps l.term) ++ Read x ∷ []) (sym found.1))
    (omega (arith, length-drop at bs, h))
    some.2)

opened_before : (l : Opened) (ls : List Opened) (room budget : ℕ) → IsBefore l ls (suc room) budget
    → IsBefore (opened NoSum NoTerm []) (l ∷ ls) room budget
opened_before l ls room budget k = grind arith

open_text : (o p rest : List ℕ) → (o ++ (p ++ opening_parenthesis ∷ [])) ++ rest ≡ o ++ (p ++ opening_parenthesis ∷ rest)
open_text o p rest = simp append_assoc

open_found : (n : ℕ) (ih : Reads n) (b : ℕ) (bs : List ℕ) (l : Opened) (ls : List Opened) (room budget : ℕ)
    (out : List Step)
    → length bs ≤ n → IsBefore l ls room budget → b ≡ opening_parenthesis
    → scan_wanted (prefixed Mark.Open (before l ls room budget)) bs ≡ Some out
    → Found (outer_text ls ++ (opened_text l ++ b ∷ bs)) out
open_found n ih b bs l ls zero budget out h k byte e = cc
open_found n ih b bs l ls (suc room) budget out h k byte e =
    found_at _ _ out
    (open_text (outer_text ls) (opened_text l) bs ∙ ap (λ c. outer_text ls ++ (opened_text l ++ c ∷ bs)) (sym byte))
    (ih.wanted bs h (opened NoSum NoTerm []) (l ∷ ls) room budget out (opened_before l ls room budget k)
    (ap (λ x. scan Wanted (scan_of x fresh_level (level_at l ∷ levels_at ls) room budget) bs)
    (append-nil (outer_steps ls ++ (sum_part_steps l.sum ++ term_part_steps l.term))) ∙ e))

signs_text-push : (signs : List Sign) (o : Sign) → signs_text (signs ++ o ∷ []) ≡ signs_text signs ++ sign_byte o ∷ []
signs_text-push [] o = refl
signs_text-push (p ∷ signs) o = ap (λ x. sign_byte p ∷ x) (signs_text-push signs o)

plus_push : (signs : List Sign) → minuses (signs ++ Plus ∷ []) ≡ minuses signs
plus_push [] = refl
plus_push (Plus ∷ signs) = plus_push signs
plus_push (Minus ∷ signs) = ap suc (plus_push signs)

minus_push : (signs : List Sign) → minuses (signs ++ Minus ∷ []) ≡ suc (minuses signs)
minus_push [] = refl
minus_push (Plus ∷ signs) = minus_push signs
minus_push (Minus ∷ signs) = ap suc (minus_push signs)

abbrev with_sign : Opened → Sign → Opened
with_sign l o = opened l.sum l.term (l.signs ++ o ∷ [])

sign_before : (l : Opened) (ls : List Opened) (room budget : ℕ) (o : Sign) → IsBefore l ls room (suc budget)
    → IsBefore (with_sign l o) ls room budget
sign_before l ls room budget o k = grind (arith, length-append)

sign_text : (o s t g : List ℕ) (c b : ℕ) (bs : List ℕ) → b ≡ c
    → o ++ ((s ++ (t ++ (g ++ c ∷ []))) ++ bs) ≡ o ++ ((s ++ (t ++ g)) ++ b ∷ bs)
sign_text o s t g c b bs e = simp append_assoc (ap (λ x. o ++ (s ++ (t ++ (g ++ x ∷ bs)))) (sym e))

signed_found : (n : ℕ) (ih : Reads n) (o : Sign) (b : ℕ) (bs : List ℕ) (l : Opened) (ls : List Opened)
    (room budget : ℕ) (out : List Step)
    → length bs ≤ n → IsBefore l ls room (suc budget) → b ≡ sign_byte o
    → scan Wanted (before (with_sign l o) ls room budget) bs ≡ Some out
    → Found (outer_text ls ++ (opened_text l ++ b ∷ bs)) out
signed_found n ih o b bs l ls room budget out h k byte e =
    found_at _ _ out
    (ap (λ x. outer_text ls ++ ((sum_part_text l.sum ++ (term_part_text l.term ++ x)) ++ bs))
    (signs_text-push l.signs o)
    ∙ sign_text (outer_text ls) (sum_part_text l.sum) (term_part_text l.term) (signs_text l.signs) (sign_byte o) b bs
    byte)
    (ih.wanted bs h (with_sign l o) ls room budget out (sign_before l ls room budget o k) e)

other_minuses : (l : Opened) (ls : List Opened) (room budget m n : ℕ) (bs : List ℕ) → m ≡ n
    → scan Wanted
    (scan_of (outer_steps ls ++ (sum_part_steps l.sum ++ term_part_steps l.term))
    (level_of (sum_part_operator l.sum) (term_part_operator l.term) m) (levels_at ls) room budget) bs
    ≡ scan Wanted
    (scan_of (outer_steps ls ++ (sum_part_steps l.sum ++ term_part_steps l.term))
    (level_of (sum_part_operator l.sum) (term_part_operator l.term) n) (levels_at ls) room budget) bs
other_minuses l ls room budget m n bs e =
    grind (arith, outer_steps, sum_part_steps, term_part_steps, sum_part_operator, term_part_operator, levels_at)

plus_found : (n : ℕ) (ih : Reads n) (b : ℕ) (bs : List ℕ) (l : Opened) (ls : List Opened) (room budget : ℕ)
    (out : List Step)
    → length bs ≤ n → IsBefore l ls room budget → b ≡ plus
    → scan_wanted (prefixed Mark.Plus (before l ls room budget)) bs ≡ Some out
    → Found (outer_text ls ++ (opened_text l ++ b ∷ bs)) out
plus_found n ih b bs l ls room zero out h k byte e = cc
plus_found n ih b bs l ls room (suc budget) out h k byte e =
    signed_found n ih Plus b bs l ls room budget out h k byte
    (other_minuses l ls room budget _ _ bs (plus_push l.signs) ∙ e)

minus_found : (n : ℕ) (ih : Reads n) (b : ℕ) (bs : List ℕ) (l : Opened) (ls : List Opened) (room budget : ℕ)
    (out : List Step)
    → length bs ≤ n → IsBefore l ls room budget → b ≡ minus_sign
    → scan_wanted (prefixed Mark.Minus (before l ls room budget)) bs ≡ Some out
    → Found (outer_text ls ++ (opened_text l ++ b ∷ bs)) out
minus_found n ih b bs l ls room zero out h k byte e = cc
minus_found n ih b bs l ls room (suc budget) out h k byte e =
    signed_found n ih Minus b bs l ls room budget out h k byte
    (other_minuses l ls room budget _ _ bs (minus_push l.signs) ∙ e)

wanted_at : (n : ℕ) (ih : Reads n) (b : ℕ) (bs : List ℕ) (l : Opened) (ls : List Opened) (room budget : ℕ)
    (out : List Step) (m : Mark)
    → mark_of b ≡ m → IsMarked m b → length bs ≤ n → IsBefore l ls room budget
    → scan Wanted (before l ls room budget) (b ∷ bs) ≡ Some out
    → Found (outer_text ls ++ (opened_text l ++ b ∷ bs)) out
wanted_at n ih b bs l ls room budget out Mark.Numeral m byte h k e = grind (arith, numeral_found)
wanted_at n ih b bs l ls room budget out Mark.Dollar m byte h k e = grind (arith, dollar_found)
wanted_at n ih b bs l ls room budget out Mark.Open m byte h k e = grind (arith, open_found, prefix_then, before)
wanted_at n ih b bs l ls room budget out Mark.Plus m byte h k e = grind (arith, plus_found, prefix_then, before)
wanted_at n ih b bs l ls room budget out Mark.Minus m byte h k e = grind (arith, minus_found, prefix_then, before)
wanted_at n ih b bs l ls room budget out Mark.Close m byte h k e = grind (arith, prefix_then, before)
wanted_at n ih b bs l ls room budget out Mark.Times m byte h k e = grind (arith, prefix_then, before)
wanted_at n ih b bs l ls room budget out Mark.Over m byte h k e = grind (arith, prefix_then, before)
wanted_at n ih b bs l ls room budget out Mark.Other m byte h k e = grind (arith, prefix_then, before)

-- behind an operand

ended_before : (sum : SumPart) (t : Term) (ls : List Opened) (room budget : ℕ) (o : Sign)
    → IsBehind sum t ls room (suc budget)
    → IsBefore (opened (SumBefore (ended sum t) o) NoTerm []) ls room budget
ended_before sum t ls room budget o k = grind (arith, ended_fits, ended_count)

sum_text_regroup : (o s t : List ℕ) (c b : ℕ) (bs e : List ℕ) → b ≡ c → e ≡ s ++ t
    → o ++ (((e ++ c ∷ []) ++ ([] ++ [])) ++ bs) ≡ o ++ (s ++ (t ++ b ∷ bs))
sum_text_regroup o s t c b bs e byte h = grind (arith, append_assoc, append-nil)

sum_steps_regroup : (o s p : List Step) (w e : List Step) → (s ++ p) ++ w ≡ e → o ++ (e ++ []) ≡ (o ++ (s ++ p)) ++ w
sum_steps_regroup o s p w e h = ap (λ x. o ++ x) (append-nil e ∙ sym h) ∙ sym (append_assoc o (s ++ p) w)

sum_found : (n : ℕ) (ih : Reads n) (o : Sign) (b : ℕ) (bs : List ℕ) (sum : SumPart) (t : Term) (ls : List Opened)
    (room budget : ℕ) (out : List Step)
    → length bs ≤ n → IsBehind sum t ls room (suc budget) → b ≡ sign_byte o
    → scan Wanted
    (scan_of ((outer_steps ls ++ (sum_part_steps sum ++ postfix (term_tree t))) ++ waiting (sum_part_operator sum))
    (level_of (Some (sign_operator o)) None 0) (levels_at ls) room budget) bs ≡ Some out
    → Found (outer_text ls ++ (sum_part_text sum ++ (term_text t ++ b ∷ bs))) out
sum_found n ih o b bs sum t ls room budget out h k byte e =
    found_at _ _ out
    (sum_text_regroup (outer_text ls) (sum_part_text sum) (term_text t) (sign_byte o) b bs (sum_text (ended sum t))
    byte (ended_text sum t))
    (ih.wanted bs h (opened (SumBefore (ended sum t) o) NoTerm []) ls room budget out
    (ended_before sum t ls room budget o k)
    (ap (λ x. scan Wanted (scan_of x (level_of (Some (sign_operator o)) None 0) (levels_at ls) room budget) bs)
    (sum_steps_regroup (outer_steps ls) (sum_part_steps sum) (postfix (term_tree t)) (waiting (sum_part_operator sum))
    (postfix (sum_tree (ended sum t))) (ended_steps sum t))
    ∙ e))

add_found : (n : ℕ) (ih : Reads n) (b : ℕ) (bs : List ℕ) (sum : SumPart) (t : Term) (ls : List Opened)
    (room budget : ℕ) (out : List Step)
    → length bs ≤ n → IsBehind sum t ls room budget → b ≡ plus
    → goes_on (operator_at Mark.Plus (behind sum t ls room budget)) (λ status' s'. scan status' s' bs) ≡ Some out
    → Found (outer_text ls ++ (sum_part_text sum ++ (term_text t ++ b ∷ bs))) out
add_found n ih b bs sum t ls room zero out h k byte e = cc
add_found n ih b bs sum t ls room (suc budget) out h k byte e =
    sum_found n ih Plus b bs sum t ls room budget out h k byte e

subtract_found : (n : ℕ) (ih : Reads n) (b : ℕ) (bs : List ℕ) (sum : SumPart) (t : Term) (ls : List Opened)
    (room budget : ℕ) (out : List Step)
    → length bs ≤ n → IsBehind sum t ls room budget → b ≡ minus_sign
    → goes_on (operator_at Mark.Minus (behind sum t ls room budget)) (λ status' s'. scan status' s' bs) ≡ Some out
    → Found (outer_text ls ++ (sum_part_text sum ++ (term_text t ++ b ∷ bs))) out
subtract_found n ih b bs sum t ls room zero out h k byte e = cc
subtract_found n ih b bs sum t ls room (suc budget) out h k byte e =
    sum_found n ih Minus b bs sum t ls room budget out h k byte e

term_before : (sum : SumPart) (t : Term) (ls : List Opened) (room budget : ℕ) (o : Cross)
    → IsBehind sum t ls room (suc budget)
    → IsBefore (opened sum (TermBefore t o) []) ls room budget
term_before sum t ls room budget o k = grind arith

term_text_regroup : (o s t : List ℕ) (c b : ℕ) (bs : List ℕ) → b ≡ c
    → o ++ ((s ++ ((t ++ c ∷ []) ++ [])) ++ bs) ≡ o ++ (s ++ (t ++ b ∷ bs))
term_text_regroup o s t c b bs byte = simp (append_assoc, append-nil) (ap (λ x. o ++ (s ++ (t ++ x ∷ bs))) (sym byte))

term_found : (n : ℕ) (ih : Reads n) (o : Cross) (b : ℕ) (bs : List ℕ) (sum : SumPart) (t : Term) (ls : List Opened)
    (room budget : ℕ) (out : List Step)
    → length bs ≤ n → IsBehind sum t ls room (suc budget) → b ≡ cross_byte o
    → scan Wanted
    (scan_of (outer_steps ls ++ (sum_part_steps sum ++ postfix (term_tree t)))
    (level_of (sum_part_operator sum) (Some (cross_operator o)) 0) (levels_at ls) room budget) bs ≡ Some out
    → Found (outer_text ls ++ (sum_part_text sum ++ (term_text t ++ b ∷ bs))) out
term_found n ih o b bs sum t ls room budget out h k byte e =
    found_at _ _ out
    (term_text_regroup (outer_text ls) (sum_part_text sum) (term_text t) (cross_byte o) b bs byte)
    (ih.wanted bs h (opened sum (TermBefore t o) []) ls room budget out (term_before sum t ls room budget o k) e)

times_found : (n : ℕ) (ih : Reads n) (b : ℕ) (bs : List ℕ) (sum : SumPart) (t : Term) (ls : List Opened)
    (room budget : ℕ) (out : List Step)
    → length bs ≤ n → IsBehind sum t ls room budget → (b ≡ small_x) ⊎ (b ≡ large_x)
    → goes_on (operator_at Mark.Times (behind sum t ls room budget)) (λ status' s'. scan status' s' bs) ≡ Some out
    → Found (outer_text ls ++ (sum_part_text sum ++ (term_text t ++ b ∷ bs))) out
times_found n ih b bs sum t ls room zero out h k byte e = cc
times_found n ih b bs sum t ls room (suc budget) out h k (inl byte) e =
    term_found n ih Small b bs sum t ls room budget out h k byte e
times_found n ih b bs sum t ls room (suc budget) out h k (inr byte) e =
    term_found n ih Large b bs sum t ls room budget out h k byte e

over_found : (n : ℕ) (ih : Reads n) (b : ℕ) (bs : List ℕ) (sum : SumPart) (t : Term) (ls : List Opened)
    (room budget : ℕ) (out : List Step)
    → length bs ≤ n → IsBehind sum t ls room budget → b ≡ slash
    → goes_on (operator_at Mark.Over (behind sum t ls room budget)) (λ status' s'. scan status' s' bs) ≡ Some out
    → Found (outer_text ls ++ (sum_part_text sum ++ (term_text t ++ b ∷ bs))) out
over_found n ih b bs sum t ls room zero out h k byte e = cc
over_found n ih b bs sum t ls room (suc budget) out h k byte e =
    term_found n ih Slash b bs sum t ls room budget out h k byte e

close_text : (o p s t e : List ℕ) (b : ℕ) (bs : List ℕ) → b ≡ closing → e ≡ s ++ t
    → o ++ (p ++ (opening_parenthesis ∷ (e ++ closing ∷ []) ++ bs)) ≡ (o ++ (p ++ opening_parenthesis ∷ [])) ++ (s ++ (t ++ b ∷ bs))
close_text o p s t e b bs byte h = grind (arith, append_assoc)

enclosed_fits : (room : ℕ) (e : Sum) → IsSum room e → IsFactor (suc room) (Enclosed e)
enclosed_fits room e h = h

close_found : (n : ℕ) (ih : Reads n) (b : ℕ) (bs : List ℕ) (sum : SumPart) (t : Term) (ls : List Opened)
    (room budget : ℕ) (out : List Step)
    → length bs ≤ n → IsBehind sum t ls room budget → b ≡ closing
    → goes_on (operator_at Mark.Close (behind sum t ls room budget)) (λ status' s'. scan status' s' bs) ≡ Some out
    → Found (outer_text ls ++ (sum_part_text sum ++ (term_text t ++ b ∷ bs))) out
close_found n ih b bs sum t [] room budget out h k byte e = cc
close_found n ih b bs sum t (l ∷ ls) room budget out h k byte e =
    found_at _ _ out
    (close_text (outer_text ls) (opened_text l) (sum_part_text sum) (term_text t) (sum_text (ended sum t)) b bs byte
    (ended_text sum t))
    (factor_found n ih l ls (suc room) budget (Enclosed (ended sum t)) _ bs out k.outer.0 k.outer.1
    (omega (arith, k.deep)) (enclosed_fits room (ended sum t) (ended_fits room sum t k.sums k.terms))
    (omega (arith, k.few, ended_count sum t))
    (append_assoc (outer_steps (l ∷ ls)) (sum_part_steps sum ++ postfix (term_tree t))
    (waiting (sum_part_operator sum)) ∙ ap (λ x. outer_steps (l ∷ ls) ++ x) (ended_steps sum t))
    h e)

whole_at : (n : ℕ) (ih : Reads n) (b : ℕ) (bs : List ℕ) (sum : SumPart) (t : Term) (ls : List Opened)
    (room budget : ℕ) (out : List Step) (m : Mark)
    → mark_of b ≡ m → IsMarked m b → length bs ≤ n → IsBehind sum t ls room budget
    → scan Behind (behind sum t ls room budget) (b ∷ bs) ≡ Some out
    → Found (outer_text ls ++ (sum_part_text sum ++ (term_text t ++ b ∷ bs))) out
whole_at n ih b bs sum t ls room budget out m m' byte h k e =
    grind (arith, add_found, operator_then, behind, subtract_found, times_found, over_found, close_found)

-- at the end

end_found : (sum : SumPart) (t : Term) (ls : List Opened) (room budget : ℕ) (out : List Step)
    → IsBehind sum t ls room budget
    → finished Behind (behind sum t ls room budget) ≡ Some out
    → Found (outer_text ls ++ (sum_part_text sum ++ (term_text t ++ []))) out
end_found sum t (l ∷ ls) room budget out k e = cc
end_found sum t [] room budget out k e =
    let all : 64 ≡ room = omega (arith, k.deep) in
    record {
      sum = ended sum t;
      written = ap (λ x. sum_part_text sum ++ x) (append-nil (term_text t)) ∙ sym (ended_text sum t);
      leaves = subst (λ r. IsSum r (ended sum t)) (sym all) (ended_fits room sum t k.sums k.terms);
      short = omega (arith, k.few, ended_count sum t);
      same =
          let told : out ≡ (sum_part_steps sum ++ postfix (term_tree t)) ++ waiting (sum_part_operator sum) = cc in
          told ∙ ended_steps sum t;
    }

read_wanted : (n : ℕ) → Reads n → (rest : List ℕ) → length rest ≤ suc n
    → (l : Opened) (ls : List Opened) (room budget : ℕ) (out : List Step) → IsBefore l ls room budget
    → scan Wanted (before l ls room budget) rest ≡ Some out → Found (outer_text ls ++ (opened_text l ++ rest)) out
read_wanted n ih [] h l ls room budget out k e = absurd (none_wanted _ out e)
read_wanted n ih (b ∷ bs) h l ls room budget out k e = grind (arith, wanted_at, marked)

read_whole : (n : ℕ) → Reads n → (rest : List ℕ) → length rest ≤ suc n
    → (sum : SumPart) (t : Term) (ls : List Opened) (room budget : ℕ) (out : List Step) → IsBehind sum t ls room budget
    → scan Behind (behind sum t ls room budget) rest ≡ Some out
    → Found (outer_text ls ++ (sum_part_text sum ++ (term_text t ++ rest))) out
read_whole n ih [] h sum t ls room budget out k e = grind (arith, end_found, behind)
read_whole n ih (b ∷ bs) h sum t ls room budget out k e = grind (arith, whole_at, marked)

nothing_left : (rest : List ℕ) → length rest ≤ 0 → rest ≡ []
nothing_left rest h = grind (arith, common_steps)

reads : (n : ℕ) → Reads n
reads zero = record {
  wanted = λ rest h l ls room budget out k e.
      absurd (none_wanted (before l ls room budget) out
      (ap (scan Wanted (before l ls room budget)) (sym (nothing_left rest h)) ∙ e));
  whole = λ rest h sum t ls room budget out k e.
      found_at _ _ out
      (ap (λ x. outer_text ls ++ (sum_part_text sum ++ (term_text t ++ x))) (sym (nothing_left rest h)))
      (end_found sum t ls room budget out k
      (sym (finished_is (behind sum t ls room budget))
      ∙ ap (scan Behind (behind sum t ls room budget)) (sym (nothing_left rest h)) ∙ e));
}
reads (suc n) = record { wanted = read_wanted n (reads n); whole = read_whole n (reads n) }

-- steps that are read are those of the one tree for which the text stands
pub steps_found : (text : List ℕ) (out : List Step) → scanned text ≡ Some out
    → (tree : Tree) × (out ≡ postfix tree) × IsExpression text tree
steps_found text out e =
    let from : IsBefore (opened NoSum NoTerm []) [] 64 1000 =
    record { inner = record { sum = tt; term = tt }; outer = tt; deep = refl; few = refl } in
    let found = (reads (length text)).wanted text (omega arith) (opened NoSum NoTerm []) [] 64 1000 out from e in (
      sum_tree found.sum,
      found.same,
      record {
        sum = found.sum;
        written = found.written;
        leaves = found.leaves;
        short = found.short;
        stands_for = refl;
      },
    )
