-- The least of the checks that hold, and the numbers that may be told.
use Rattle.std.proofs.Common.{◌≡◌, ℕ, [], ◌∷◌, true, false, Option, Some, None, refl, sym, ap, subst, ◌∙◌, arith, inl, inr}
use Rattle.std.specs.Prelude.{MatchOption, ◌==◌}
use Rattle.std.specs.List.{position_or_len}
use denote.Enum.Bare.{tag_one}
use denote.Enum.Declared.{tag_of}
use Rattle.cam_refusals.specs.declared.refusal.Refusal.{Refusal}
use Rattle.cam_refusals.specs.contracts.refusal.Refusal.{the_type}
use Rattle.cam_refusals.specs.declared.refusal.Refusal.TheVariants.{BadByte}
use Rattle.cam_refusals.specs.Checks.{Checks, IsFirst, IsLeast, NoneHolds, first_holding, least}
use Rattle.cam_refusals.specs.Refusals.{number_of}
use Rattle.cam_refusals.proofs.Checks.{tells_first, tells_least}

-- ---- a number is that of one refusal

-- the place among the variants
abbrev place_of : ℕ → ℕ
place_of n = position_or_len (λ m. m == n) (
    1 ∷ 2 ∷ 3 ∷ 4 ∷ 5 ∷ 6 ∷ 7 ∷ 8 ∷ 9 ∷ 10 ∷ 11 ∷ 12 ∷ 13 ∷ 14 ∷ 15 ∷ 16 ∷ 17 ∷ 18 ∷ 19 ∷ 20 ∷ 21 ∷ 22 ∷ 23 ∷ 24 ∷ 25 ∷ 26 ∷ 28 ∷ 29
    ∷ 30 ∷ 40 ∷ 41 ∷ 42 ∷ 43 ∷ 44 ∷ 45 ∷ 46 ∷ 47 ∷ 48 ∷ 50 ∷ 51 ∷ 60 ∷ 61 ∷ 62 ∷ 63 ∷ 64 ∷ 65 ∷ 66 ∷ 67 ∷ 68 ∷ 69 ∷ 70 ∷ 71 ∷ 72
    ∷ 73 ∷ 74 ∷ 75 ∷ 80 ∷ 81 ∷ 82 ∷ 83 ∷ 84 ∷ 85 ∷ 90 ∷ 91 ∷ []
    )

place_is : (refusal : Refusal) → place_of (number_of refusal) ≡ tag_of the_type refusal
place_is BadByte = refl
place_is _ = refl

same_refusal : (a b : Refusal) → number_of a ≡ number_of b → a ≡ b
same_refusal a b e = tag_one the_type tt a b (sym (place_is a) ∙ ap place_of e ∙ place_is b)

-- ---- the least of the checks that hold

pub least_of : (checks : Checks Refusal) (refusal : Refusal) → IsLeast number_of checks refusal → least number_of checks ≡ Some refusal
least_of checks refusal h = go (least number_of checks) refl (tells_least number_of checks)
  where
    go : (o : Option Refusal) → least number_of checks ≡ o → MatchOption o (NoneHolds checks) (IsLeast number_of checks)
        → least number_of checks ≡ Some refusal
    go None e none = absurd (none refusal h.holds)
    go (Some other) e is =
        e ∙ ap Some (same_refusal other refusal (omega (arith, is.least refusal h.holds, h.least other is.holds)))

pub least_none : (checks : Checks Refusal) → NoneHolds checks → least number_of checks ≡ None
least_none checks none = go (least number_of checks) refl (tells_least number_of checks)
  where
    go : (o : Option Refusal) → least number_of checks ≡ o → MatchOption o (NoneHolds checks) (IsLeast number_of checks)
        → least number_of checks ≡ None
    go None e h = e
    go (Some other) e is = absurd (none other is.holds)

-- no test of the checks holds
abbrev pub ArePassed : Checks Refusal → Type 0
ArePassed [] = Unit {0}
ArePassed (check ∷ checks) = (check.1 ≡ false) × ArePassed checks

pub passed_by : (checks : Checks Refusal) → NoneHolds checks → ArePassed checks
passed_by [] none = tt
passed_by ((refusal, true) ∷ checks) none = absurd (none refusal (inl (refl, refl)))
passed_by ((refusal, false) ∷ checks) none = (refl, passed_by checks (λ other h. none other (inr h)))

pub pass_least : (checks : Checks Refusal) → least number_of checks ≡ None → ArePassed checks
pass_least checks e =
    passed_by checks (subst (λ o. MatchOption o (NoneHolds checks) (IsLeast number_of checks)) e (tells_least number_of checks))

pub pass_first : (checks : Checks Refusal) → first_holding checks ≡ None → ArePassed checks
pass_first checks e = passed_by checks (subst (λ o. MatchOption o (NoneHolds checks) (IsFirst checks)) e (tells_first checks))
