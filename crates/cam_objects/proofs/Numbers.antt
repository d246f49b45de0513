-- what the place of a number in the dictionary says of it
use Rattle.std.proofs.Common.{◌≡◌, ℕ, zero, suc, List, [], ◌∷◌, length, take, slice_get, None, Some, sym, ap, ◌∙◌, arith, nat_eq, Option}
use Rattle.std.specs.List.{IsDistinct}
use Rattle.std.specs.Map.{keys_of, lookup}
use Rattle.std.proofs.lemmas.Bool.{eq-eqb}
use Rattle.std.proofs.lemmas.Option.{slice_get_within}
use Rattle.cam_objects.specs.declared.entry.Entry.{Entry}
use Rattle.cam_objects.specs.Leaves.{Meaning, entry_meaning, meaning_in, no_meaning}
use Rattle.cam_objects.proofs.Dictionaries.{whole}
use Rattle.cam_objects.proofs.Painting.{meaning-absent, meaning-at}
use Rattle.cam_objects.proofs.SoundItems.{HasNumber}
use Rattle.cam_objects.specs.declared.tip.Tip.{Tip}

abbrev Pairs : Type 0
Pairs = List (ℕ × Entry)

-- a number that stands somewhere is known
pub number_found : (es : Pairs) (i n : ℕ) (e : Entry) → slice_get es i ≡ Some (n, e) → HasNumber es n
number_found [] i n e found = absurd (let bad = slice_get_within [] i (n, e) found in omega arith)
number_found (d ∷ es) zero n e found = grind (arith, eq-eqb)
number_found (d ∷ es) (suc i) n e found = grind (arith, HasNumber, number_found es i n e found)

pub meaning_here : (es : Pairs) (i n : ℕ) (e : Entry) → IsDistinct nat_eq (keys_of es) → slice_get es i ≡ Some (n, e)
    → meaning_in es n ≡ entry_meaning (meaning_in (take i es)) e
meaning_here es i n e distinct found =
    ap (λ (xs : Pairs). meaning_in xs n) (sym (whole es))
    ∙ meaning-at es i (length es) n e distinct found (slice_get_within es i (n, e) found) (omega arith)

pub meaning_nowhere : (es : Pairs) (n : ℕ) → lookup (nat_eq n) es ≡ None → meaning_in es n ≡ no_meaning
meaning_nowhere es n absent = ap (λ (xs : Pairs). meaning_in xs n) (sym (whole es)) ∙ meaning-absent es (length es) n absent (omega arith)

-- what the strokes of a number are drawn with
pub tip_told : (es : Pairs) (i n : ℕ) (e : Entry) (tip : Option Tip) → IsDistinct nat_eq (keys_of es) → slice_get es i ≡ Some (n, e)
    → ((means : ℕ → Meaning) → tip ≡ (entry_meaning means e).tip) → tip ≡ (meaning_in es n).tip
tip_told es i n e tip distinct found told = grind (arith, meaning_here)

pub tip_none : (es : Pairs) (n : ℕ) → lookup (nat_eq n) es ≡ None → None ≡ (meaning_in es n).tip
tip_none es n absent = ap (λ (m : Meaning). m.tip) (sym (meaning_nowhere es n absent))
