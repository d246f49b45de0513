-- What is told of a file is its least fault.
use Rattle.std.proofs.Common.{ℕ, ◌+◌, ◌≤◌, List, [], ◌∷◌, Option, Some, None, refl, sym, arith, inl, inr}
use Rattle.std.specs.Option.{option_map, option_or}
use Rattle.std.specs.Prelude.{MatchOption}
use Rattle.cam_refusals.specs.declared.read_fault.ReadFault.{ReadFault}
use Rattle.cam_refusals.specs.declared.refusal.Refusal.{Refusal}
use Rattle.cam_refusals.specs.Checks.{IsLeast, NoneHolds, least}
use Rattle.cam_refusals.specs.FileFaults.{AscendFrom, IsFileFault, IsLeastFault, Place, TellsLeastFault, first_told}
use Rattle.cam_refusals.specs.Refusals.{number_of}
use Rattle.cam_refusals.proofs.Checks.{tells_least}

abbrev NoFault : List Place → Type 0
NoFault places = (fault : ReadFault) → IsFileFault places fault → ⊥

abbrev Tells : List Place → Option ReadFault → Type 0
Tells places first_told = MatchOption first_told (NoFault places) (IsLeastFault places)

-- places that ascend from one place on ascend from any before it
pub ascend_lower : (low from : ℕ) (places : List Place) → low ≤ from → AscendFrom from places → AscendFrom low places
ascend_lower low from [] le up = tt
ascend_lower low from (place ∷ later) le up = (omega (arith, le, up.0), up.1)

-- a fault of the places does not stand before the first of them
behind : (low : ℕ) (places : List Place) (fault : ReadFault) → AscendFrom low places → IsFileFault places fault → low ≤ fault.at
behind low [] fault up h = absurd h
behind low (place ∷ later) fault up (inl here) = omega (arith, up.0, here.0)
behind low (place ∷ later) fault up (inr there) = omega (arith, up.0, behind (place.at + 1) later fault up.1 there)

-- the first place tells a fault, or has none
module _ (place : Place) (later : List Place) (up : AscendFrom (place.at + 1) later) where
  told_here : (refusal : Refusal) → IsLeast number_of place.checks refusal
      → IsLeastFault (place ∷ later) (record { code = refusal; at = place.at })
  told_here refusal here = record {
    is = inl (refl, here.holds);
    least = λ other h. elim h [
      | inl at ↦ inr (sym at.0, here.least other.code at.1)
      | inr there ↦ inl (omega (arith, behind (place.at + 1) later other up there))
    ];
  }

  later_alone : NoneHolds place.checks → (o : Option ReadFault) → Tells later o → Tells (place ∷ later) o
  later_alone none None rest = λ fault h. elim h [ inl at ↦ none fault.code at.1 | inr there ↦ rest fault there ]
  later_alone none (Some fault) rest = record {
    is = inr rest.is;
    least = λ other h. elim h [ inl at ↦ absurd (none other.code at.1) | inr there ↦ rest.least other there ];
  }

  by_first : (o : Option Refusal) → MatchOption o (NoneHolds place.checks) (IsLeast number_of place.checks)
      → Tells later (first_told later)
      → Tells (place ∷ later) (option_or (option_map (λ refusal. record { code = refusal; at = place.at }) o) (first_told later))
  by_first None none rest = later_alone none (first_told later) rest
  by_first (Some refusal) here rest = told_here refusal here

tells : (low : ℕ) (places : List Place) → AscendFrom low places → Tells places (first_told places)
tells low [] up = λ fault h. h
tells low (place ∷ later) up =
    by_first place later up.1 (least number_of place.checks) (tells_least number_of place.checks) (tells (place.at + 1) later up.1)

pub tells_least_fault : TellsLeastFault
tells_least_fault places up = tells 0 places up
