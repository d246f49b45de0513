-- The counts of a scanner.
use Rattle.std.proofs.Common.{◌≡◌, ℕ, ◌+◌, ◌≤◌, List, [], ◌∷◌, ◌++◌, reverse, arith, length-append}
use Rattle.std.proofs.lemmas.List.{reverse-append}
use Rattle.cam_macros.specs.declared.parsing.scanner.Level.{Level}
use Rattle.cam_macros.specs.Machinery.Scanning.{HaveFew, IsScanner}

pub reverse_push : (outer : List Level) (level : Level) → reverse (outer ++ level ∷ []) ≡ level ∷ reverse outer
reverse_push outer level = reverse-append outer (level ∷ [])

pub few_push : (budget : ℕ) (outer : List Level) (level : Level) → HaveFew budget outer
    → level.minuses + budget ≤ 1000 → HaveFew budget (outer ++ level ∷ [])
few_push budget [] level h k = (k, tt)
few_push budget (l ∷ outer) level h k = (h.0, few_push budget outer level h.1 k)

few_front : (budget : ℕ) (outer : List Level) (level : Level) → HaveFew budget (outer ++ level ∷ [])
    → HaveFew budget outer
few_front budget [] level h = tt
few_front budget (l ∷ outer) level h = (h.0, few_front budget outer level h.1)

few_last : (budget : ℕ) (outer : List Level) (level : Level) → HaveFew budget (outer ++ level ∷ [])
    → level.minuses + budget ≤ 1000
few_last budget [] level h = h.0
few_last budget (l ∷ outer) level h = few_last budget outer level h.1

pub few_less : (budget less : ℕ) (outer : List Level) → less ≤ budget → HaveFew budget outer → HaveFew less outer
few_less budget less [] k h = tt
few_less budget less (l ∷ outer) k h = (omega (arith, h.0), few_less budget less outer k h.1)

-- the counts once a pair is open, and once it is closed
pub counts_push : (level fresh : Level) (outer : List Level) (room less budget : ℕ) → less + 1 ≡ room
    → fresh.minuses ≡ 0 → IsScanner level outer room budget → IsScanner fresh (outer ++ level ∷ []) less budget
counts_push level fresh outer room less budget e z h = grind (arith, length-append, few_push)

pub counts_pop : (within level : Level) (outer : List Level) (room budget : ℕ)
    → IsScanner within (outer ++ level ∷ []) room budget → IsScanner level outer (room + 1) budget
counts_pop within level outer room budget h = grind (arith, length-append, few_last, few_front)
