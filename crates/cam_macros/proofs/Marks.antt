-- What a byte does to a scan.
use Rattle.std.proofs.lemmas.Grind.{common_steps}
use Rattle.std.proofs.Common.{◌≡◌, ℕ, ◌+◌, ◌-◌, ◌<◌, get_or, Bool, true, false, cond, List, [], ◌∷◌}
use Rattle.std.proofs.Common.{length, Option, Some, None, refl, ap, sym, ◌∙◌, take, drop, arith, one-add}
use Rattle.std.specs.List.{prefix_len}
use Rattle.std.specs.Char.{is_ascii_digit}
use Rattle.cam_macros.specs.declared.expression.Step.{Step}
use Rattle.cam_macros.specs.declared.parsing.mark.Mark.{Mark}
use Rattle.cam_macros.specs.declared.parsing.mark.Mark.TheVariants.{Numeral, Dollar}
use Rattle.cam_macros.specs.declared.fault.MacroFault.{MacroFault}
use Rattle.cam_macros.proofs.FaultLemmas.{malformed_also}
use Rattle.cam_macros.specs.Scanning.{Behind, finished, goes_on, InNumber, InVariable, is_run_byte, mark_of}
use Rattle.cam_macros.specs.Scanning.{operand_at, operator_at, Scan, scan, Status, Wanted}
use Rattle.cam_macros.specs.Machinery.Scanning.{IsFaultOf, number_then, prefixed, scan_wanted, status_of, variable_then}

drop_one : (n b : ℕ) (xs : List ℕ) → drop (1 + n) (b ∷ xs) ≡ drop n xs
drop_one n b xs = rw one-add refl

take_one : (n b : ℕ) (xs : List ℕ) → take (1 + n) (b ∷ xs) ≡ b ∷ take n xs
take_one n b xs = rw one-add refl

-- the rest of a number, and of a variable, is passed over
pub number_rest : (s : Scan) (rest : List ℕ)
    → scan InNumber s rest ≡ scan Behind s (drop (prefix_len is_run_byte rest) rest)
unfolding scan
number_rest s [] = refl
number_rest s (b ∷ rest) =
    elim (is_run_byte b) as
    (λ v. goes_on (cond v (Some (InNumber, s)) (operator_at (mark_of b) s)) (λ status' s'. scan status' s' rest)
    ≡ scan Behind s (drop (cond v (1 + prefix_len is_run_byte rest) 0) (b ∷ rest))) [
      | true ↦ number_rest s rest ∙ ap (scan Behind s) (sym (drop_one (prefix_len is_run_byte rest) b rest))
      | false ↦ refl
    ]

pub variable_rest : (s : Scan) (rest : List ℕ)
    → scan InVariable s rest ≡ scan Behind s (drop (prefix_len is_ascii_digit rest) rest)
unfolding scan
variable_rest s [] = refl
variable_rest s (b ∷ rest) =
    elim (is_ascii_digit b) as
    (λ v. goes_on (cond v (Some (InVariable, s)) (operator_at (mark_of b) s)) (λ status' s'. scan status' s' rest)
    ≡ scan Behind s (drop (cond v (1 + prefix_len is_ascii_digit rest) 0) (b ∷ rest))) [
      | true ↦ variable_rest s rest ∙ ap (scan Behind s) (sym (drop_one (prefix_len is_ascii_digit rest) b rest))
      | false ↦ refl
    ]

pub numeric_from_mark : (b : ℕ) → mark_of b ≡ Numeral → is_run_byte b ≡ true
numeric_from_mark b = grind arith

pub numeral_is : (s : Scan) (b : ℕ) (bs : List ℕ) → mark_of b ≡ Numeral
    → scan Wanted s (b ∷ bs) ≡ number_then s (b ∷ bs)
unfolding scan
numeral_is s b bs e = grind (arith, number_rest, take_one, drop_one)

pub dollar_is : (s : Scan) (b : ℕ) (bs : List ℕ) → mark_of b ≡ Dollar → scan Wanted s (b ∷ bs) ≡ variable_then s bs
unfolding scan
dollar_is s b bs e = grind (arith, variable_rest)

prefix_at : (m : Mark) (s : Scan) (b : ℕ) (bs : List ℕ) → (m ≡ Numeral → ⊥) → (m ≡ Dollar → ⊥)
    → goes_on (operand_at m s b bs) (λ status' s'. scan status' s' bs) ≡ scan_wanted (prefixed m s) bs
prefix_at m s b bs h k = grind arith

pub prefix_is : (s t : Scan) (b : ℕ) (bs : List ℕ) → (mark_of b ≡ Numeral → ⊥) → (mark_of b ≡ Dollar → ⊥)
    → prefixed (mark_of b) s ≡ Some t → scan Wanted s (b ∷ bs) ≡ scan Wanted t bs
unfolding scan
prefix_is s t b bs h k e = prefix_at (mark_of b) s b bs h k ∙ ap (λ o. scan_wanted o bs) e

-- a fault of a part is one of the whole
pub fault_of : {A B : Type 0} (fault : MacroFault) (part : Option A) (whole : Option B) → (part ≡ None → whole ≡ None)
    → IsFaultOf fault part → IsFaultOf fault whole
fault_of fault part whole h f = malformed_also fault h f

pub prefix_faulty : (fault : MacroFault) (s : Scan) (b : ℕ) (bs : List ℕ) → (mark_of b ≡ Numeral → ⊥)
    → (mark_of b ≡ Dollar → ⊥) → IsFaultOf fault (prefixed (mark_of b) s) → IsFaultOf fault (scan Wanted s (b ∷ bs))
unfolding scan
prefix_faulty fault s b bs h k f = grind (arith, fault_of, prefix_at)

pub nothing_wanted : (s : Scan) → scan Wanted s [] ≡ None
unfolding scan
nothing_wanted s = refl

pub operator_is : (s t : Scan) (status : Status) (b : ℕ) (bs : List ℕ) → operator_at (mark_of b) s ≡ Some (status, t)
    → scan Behind s (b ∷ bs) ≡ scan status t bs
unfolding scan
operator_is s t status b bs e = ap (λ n. goes_on n (λ status' s'. scan status' s' bs)) e

pub operator_faulty : (fault : MacroFault) (s : Scan) (b : ℕ) (bs : List ℕ)
    → IsFaultOf fault (operator_at (mark_of b) s) → IsFaultOf fault (scan Behind s (b ∷ bs))
unfolding scan
operator_faulty fault s b bs f = grind (arith, fault_of)

-- the same of a text by its first byte

pub nothing_at : (s : Scan) (text : List ℕ) → length text < 1 → scan Wanted s text ≡ None
nothing_at s text h = grind (arith, common_steps, nothing_wanted)

pub dollar_at : (s : Scan) (text : List ℕ) → 0 < length text → mark_of (get_or text 0 0) ≡ Dollar
    → scan Wanted s text ≡ variable_then s (take (length text - 1) (drop 1 text))
dollar_at s text h e = grind (arith, common_steps, dollar_is)

pub prefix_of : (s t : Scan) (text : List ℕ) → 0 < length text → (mark_of (get_or text 0 0) ≡ Numeral → ⊥)
    → (mark_of (get_or text 0 0) ≡ Dollar → ⊥)
    → prefixed (mark_of (get_or text 0 0)) s ≡ Some t
    → scan Wanted s text ≡ scan Wanted t (take (length text - 1) (drop 1 text))
prefix_of s t text h n d e = grind (arith, common_steps, prefix_is)

-- at the end
pub ended_wanted : (s : Scan) (rest : List ℕ) (wanted : Bool) → length rest ≡ 0 → wanted ≡ true
    → scan (status_of wanted) s rest ≡ None
unfolding scan
ended_wanted s rest wanted e h = grind (arith, common_steps)

pub ended_behind : (s : Scan) (rest : List ℕ) (wanted : Bool) → length rest ≡ 0 → wanted ≡ false
    → scan (status_of wanted) s rest ≡ finished Behind s
unfolding scan
ended_behind s rest wanted e h = grind (arith, common_steps)

-- by the mark of the first byte
pub prefix_then : (s : Scan) (b : ℕ) (bs : List ℕ) (m : Mark) → mark_of b ≡ m → (m ≡ Numeral → ⊥) → (m ≡ Dollar → ⊥)
    → scan Wanted s (b ∷ bs) ≡ scan_wanted (prefixed m s) bs
unfolding scan
prefix_then s b bs m e h k = grind (arith, prefix_at)

pub operator_then : (s : Scan) (b : ℕ) (bs : List ℕ) (m : Mark) → mark_of b ≡ m
    → scan Behind s (b ∷ bs) ≡ goes_on (operator_at m s) (λ status' s'. scan status' s' bs)
unfolding scan
operator_then s b bs m e = ap (λ x. goes_on (operator_at x s) (λ status' s'. scan status' s' bs)) e

pub none_wanted : (s : Scan) (out : List Step) → scan Wanted s [] ≡ Some out → ⊥
unfolding scan
none_wanted s out e = cc

pub finished_is : (s : Scan) → scan Behind s [] ≡ finished Behind s
unfolding scan
finished_is s = refl

-- what begins an operand, and what stands behind one
pub ruleset operands = (numeral_is, dollar_is, prefix_is, nothing_wanted, prefix_faulty)

pub ruleset operators = (operator_is, operator_faulty)
