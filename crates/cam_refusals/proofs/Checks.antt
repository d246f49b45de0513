-- What is told of checks.
use Rattle.std.proofs.Common.{◌≡◌, ℕ, ◌≤◌, [], ◌∷◌, Bool, true, false, cond, Option, Some, None, refl, ap, arith, inl, inr}
use Rattle.std.specs.Prelude.{nat_le, ◌&&◌, MatchOption}
use Rattle.std.specs.List.{list_all}
use Rattle.std.proofs.lemmas.Bool.{and_parts, leb-true, leb-false, le-leb, false≢true}
use Rattle.cam_refusals.specs.Checks.{Checks, Holds, IsFirst, IsLeast, NoneHolds, first_holding, least, lower_of}

module _ {F : Type 0} where
  -- what each of the faults has, one that holds has
  pub each_has : (P : F → Bool) (checks : Checks F) (fault : F) → list_all (λ c. P c.0) checks ≡ true → Holds checks fault
      → P fault ≡ true
  each_has P [] fault all h = absurd h
  each_has P (check ∷ later) fault all h = let parts = and_parts (P check.0) (list_all (λ c. P c.0) later) all in
      elim h [ inl here ↦ rw here.0 at parts.0 | inr there ↦ each_has P later fault parts.1 there ]

  -- ---- the first

  pub tells_first : (checks : Checks F) → MatchOption (first_holding checks) (NoneHolds checks) (IsFirst checks)
  tells_first [] = λ fault h. h
  tells_first ((fault, true) ∷ later) = record { before = []; after = later; stands = refl; none = refl }
  tells_first ((fault, false) ∷ later) = elim (first_holding later) as (λ o. MatchOption o (NoneHolds later) (IsFirst later)
      → MatchOption o (NoneHolds ((fault, false) ∷ later)) (IsFirst ((fault, false) ∷ later))) [
        | None ↦ λ none other h. elim h [ inl here ↦ false≢true here.1 | inr there ↦ none other there ]
        | Some told ↦ λ is. record {
          before = (fault, false) ∷ is.before;
          after = is.after;
          stands = ap (λ (all : Checks F). (fault, false) ∷ all) is.stands;
          none = is.none;
        }
      ] (tells_first later)

  -- ---- the least

  module _ (number : F → ℕ) where
    pub tells_least : (checks : Checks F) → MatchOption (least number checks) (NoneHolds checks) (IsLeast number checks)
    tells_least [] = λ fault h. h
    tells_least ((fault, false) ∷ later) =
        elim (least number later) as (λ o. MatchOption o (NoneHolds later) (IsLeast number later)
        → MatchOption o (NoneHolds ((fault, false) ∷ later)) (IsLeast number ((fault, false) ∷ later))) [
          | None ↦ λ none other h. elim h [ inl here ↦ false≢true here.1 | inr there ↦ none other there ]
          | Some told ↦ λ is. record {
            holds = inr is.holds;
            least = λ other h. elim h [ inl here ↦ absurd (false≢true here.1) | inr there ↦ is.least other there ];
          }
        ] (tells_least later)
    tells_least ((fault, true) ∷ later) =
        elim (least number later) as (λ o. MatchOption o (NoneHolds later) (IsLeast number later)
        → IsLeast number ((fault, true) ∷ later) (lower_of number fault o)) [
          | None ↦ λ none. record {
            holds = inl (refl, refl);
            least = λ other h. elim h [
              | inl here ↦ omega (arith, ap number here.0)
              | inr there ↦ absurd (none other there)
            ];
          }
          | Some told ↦ λ is. lower told is (nat_le (number fault) (number told)) refl
        ] (tells_least later)
      where
        lower : (told : F) → IsLeast number later told → (b : Bool) → nat_le (number fault) (number told) ≡ b
            → IsLeast number ((fault, true) ∷ later) (cond b fault told)
        lower told is true e = record {
          holds = inl (refl, refl);
          least = λ other h. elim h [
            | inl here ↦ omega (arith, ap number here.0)
            | inr there ↦ omega (arith, is.least other there, leb-true (number fault) (number told) e)
          ];
        }
        lower told is false e = record {
          holds = inr is.holds;
          least = λ other h. elim h [
            | inl here ↦ omega (arith, ap number here.0, leb-false (number fault) (number told) e)
            | inr there ↦ is.least other there
          ];
        }

    -- ---- where the numbers ascend

    -- the numbers ascend, the first of them at `low` or above it
    abbrev pub is_ascending : ℕ → Checks F → Bool
    is_ascending low [] = true
    is_ascending low (check ∷ later) = nat_le low (number check.0) && is_ascending (number check.0) later

    above : (low : ℕ) (checks : Checks F) (fault : F) → is_ascending low checks ≡ true → Holds checks fault → low ≤ number fault
    above low [] fault up h = absurd h
    above low (check ∷ later) fault up h =
        let parts = and_parts (nat_le low (number check.0)) (is_ascending (number check.0) later) up in
        let from : low ≤ number check.0 = leb-true low (number check.0) parts.0 in
        elim h [
          | inl here ↦ omega (arith, from, ap number here.0)
          | inr there ↦ omega (arith, from, above (number check.0) later fault parts.1 there)
        ]

    -- there the least that holds is the first
    pub least_is_first : (low : ℕ) (checks : Checks F) → is_ascending low checks ≡ true → least number checks ≡ first_holding checks
    least_is_first low [] up = refl
    least_is_first low ((fault, false) ∷ later) up =
        least_is_first (number fault) later (and_parts (nat_le low (number fault)) (is_ascending (number fault) later) up).1
    least_is_first low ((fault, true) ∷ later) up = ap Some (in_front (least number later) (tells_least later))
      where
        in_front : (o : Option F) → MatchOption o (NoneHolds later) (IsLeast number later) → lower_of number fault o ≡ fault
        in_front None none = refl
        in_front (Some told) is =
            let rest = (and_parts (nat_le low (number fault)) (is_ascending (number fault) later) up).1 in
            rw (le-leb (number fault) (number told) (above (number fault) later told rest is.holds)) refl
