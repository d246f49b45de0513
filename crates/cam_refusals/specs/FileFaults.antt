-- The faults of a file: what may be refused at each of its places, in the order of the file, and which of them is told.
use Rattle.std.specs.Prelude.{◌≡◌, ℕ, ◌+◌, ◌<◌, ◌≤◌, List, [], ◌∷◌, Option, None, ◌⊎◌, MatchOption}
use Rattle.std.specs.Option.{option_map, option_or}
use Rattle.cam_refusals.specs.declared.read_fault.ReadFault.{ReadFault}
use Rattle.cam_refusals.specs.declared.refusal.Refusal.{Refusal}
use Rattle.cam_refusals.specs.Checks.{Checks, Holds, least}
use Rattle.cam_refusals.specs.Refusals.{number_of}
use Rattle.cam_refusals.specs.declared.refusal.Refusal.TheVariants.{NoMemory}

-- want of memory is told at the start of the file
abbrev pub no_memory : ReadFault
no_memory = record { code = NoMemory; at = 0 }

-- a place of a file, in bytes from its start, and what may be refused there
pub record Place : Type 0 where
  pub at : ℕ
  pub checks : Checks Refusal

-- a fault of the file: one that holds at one of its places
abbrev pub IsFileFault : List Place → ReadFault → Type 0
IsFileFault [] fault = ⊥
IsFileFault (place ∷ later) fault =
    ((fault.at ≡ place.at) × Holds place.checks fault.code) ⊎ IsFileFault later fault

-- what a place tells: of its faults the one of least number
abbrev pub told_at : Place → Option ReadFault
told_at place = option_map (λ refusal. record { code = refusal; at = place.at }) (least number_of place.checks)

-- what a file tells: what the first place with a fault does
abbrev pub first_told : List Place → Option ReadFault
first_told [] = None
first_told (place ∷ later) = option_or (told_at place) (first_told later)

-- at a lesser place, or at the same with no greater number
abbrev pub IsNotBehind : ReadFault → ReadFault → Type 0
IsNotBehind f g = (f.at < g.at) ⊎ ((f.at ≡ g.at) × (number_of f.code ≤ number_of g.code))

-- a fault of the file, of least place and there of least number
pub record IsLeastFault (places : List Place) (fault : ReadFault) : Type 0 where
  pub is : IsFileFault places fault
  pub least : (other : ReadFault) → IsFileFault places other → IsNotBehind fault other

-- the places ascend, the first of them at `low` or behind it
abbrev pub AscendFrom : ℕ → List Place → Type 0
AscendFrom low [] = Unit {0}
AscendFrom low (place ∷ later) = (low ≤ place.at) × AscendFrom (place.at + 1) later

-- the least fault is told, or the file has none
abbrev pub TellsLeastFault : Type 0
TellsLeastFault = (places : List Place) → AscendFrom 0 places
    → MatchOption (first_told places) ((fault : ReadFault) → ¬ IsFileFault places fault) (IsLeastFault places)
