-- Checks: faults in the order in which they are told, each with whether it holds. What is told is the first that holds or,
-- where a command or a line has several, the one of least number.
use Rattle.std.specs.Prelude.{◌≡◌, ℕ, ◌≤◌, nat_le, Bool, true, not, List, [], ◌∷◌, ◌++◌, Option, None, Some, Result, Ok, Err}
use Rattle.std.specs.Prelude.{◌⊎◌, MatchOption, if◌then◌else◌}
use Rattle.std.specs.List.{list_all}

abbrev pub Checks : Type 0 → Type 0
Checks F = List (F × Bool)

-- the first fault that holds
abbrev pub first_holding : {F : Type 0} → Checks F → Option F
first_holding [] = None
first_holding (check ∷ later) = if check.1 then Some check.0 else first_holding later

-- of two faults the one of lesser number, of two with one number the former
abbrev pub lower_of : {F : Type 0} → (F → ℕ) → F → Option F → F
lower_of number fault None = fault
lower_of number fault (Some other) = if nat_le (number fault) (number other) then fault else other

-- of the faults that hold the one of least number
abbrev pub least : {F : Type 0} → (F → ℕ) → Checks F → Option F
least number [] = None
least number (check ∷ later) =
    if check.1 then Some (lower_of number check.0 (least number later)) else least number later

-- the answer that tells a fault, if there is one
abbrev pub answer_of : {F : Type 0} → Option F → Result (Unit {0}) F
answer_of None = Ok tt
answer_of (Some fault) = Err fault

-- ---- what they mean

-- the fault is one of them, and holds
abbrev pub Holds : {F : Type 0} → Checks F → F → Type 0
Holds [] fault = ⊥
Holds (check ∷ later) fault = ((check.0 ≡ fault) × (check.1 ≡ true)) ⊎ Holds later fault

abbrev pub NoneHolds : {F : Type 0} → Checks F → Type 0
NoneHolds {F} checks = (fault : F) → ¬ Holds checks fault

-- it holds, and none before it does
pub record IsFirst {F : Type 0} (checks : Checks F) (fault : F) : Type 0 where
  pub before : Checks F
  pub after : Checks F
  pub stands : checks ≡ before ++ ((fault, true) ∷ after)
  pub none : list_all (λ c. not c.1) before ≡ true

-- it holds, and its number is the least of those that do
pub record IsLeast {F : Type 0} (number : F → ℕ) (checks : Checks F) (fault : F) : Type 0 where
  pub holds : Holds checks fault
  pub least : (other : F) → Holds checks other → number fault ≤ number other

-- ---- laws: either is told, or nothing holds

module _ (F : Type 0) where
  abbrev pub TellsFirst : Type 0
  TellsFirst = (checks : Checks F) → MatchOption (first_holding checks) (NoneHolds checks) (IsFirst checks)

  abbrev pub TellsLeast : (F → ℕ) → Type 0
  TellsLeast number = (checks : Checks F) → MatchOption (least number checks) (NoneHolds checks) (IsLeast number checks)
