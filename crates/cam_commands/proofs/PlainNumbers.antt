-- The plain numbers of old forms.
use Rattle.std.proofs.Common.{arith, ◌≡◌, ℕ, List, [], ◌∷◌, true, false, refl, eq-eqb, ne_eqb}
use Rattle.std.specs.Prelude.{◌||◌, ◌==◌}
use Rattle.std.specs.List.{list_all}
use Rattle.std.proofs.lemmas.Bool.{or_right}
use Rattle.cam_words.specs.Bytes.{is_skipped}
use Rattle.cam_words.specs.Heads.{packed}
use Rattle.cam_commands.specs.Numbers.{is_plain}

-- the digits of old forms
pub plain_nothing : (digit : ℕ) (run : List ℕ) → run ≡ [] → false ≡ is_plain digit run
unfolding is_plain
plain_nothing digit run e = rw e refl

pub plain_other : (digit first : ℕ) (run rest : List ℕ) → run ≡ first ∷ rest → (first ≡ digit → ⊥) → false ≡ is_plain digit run
unfolding is_plain
plain_other digit first run rest e other = rw (e, ne_eqb first digit other) refl

pub plain_alone : (digit first : ℕ) (run rest : List ℕ) → run ≡ first ∷ rest → first ≡ digit → rest ≡ [] → true ≡ is_plain digit run
unfolding is_plain
plain_alone digit first run rest e same none = rw (e, eq-eqb first digit same, none) refl

pub plain_unpointed : (digit first point : ℕ) (run rest zeros : List ℕ) → run ≡ first ∷ rest → first ≡ digit → rest ≡ point ∷ zeros
    → (point ≡ 46 → ⊥) → false ≡ is_plain digit run
unfolding is_plain
plain_unpointed digit first point run rest zeros e same f other = rw (e, eq-eqb first digit same, f, ne_eqb point 46 other) refl

pub plain_pointed : (digit first point : ℕ) (run rest zeros : List ℕ) → run ≡ first ∷ rest → first ≡ digit → rest ≡ point ∷ zeros
    → point ≡ 46 → list_all (λ byte. byte == 48) zeros ≡ is_plain digit run
unfolding is_plain
plain_pointed digit first point run rest zeros e same f is = rw (e, eq-eqb first digit same, f, eq-eqb point 46 is) refl

pub zeros_packed : (run : List ℕ) → list_all (λ byte. (byte == 48) || is_skipped byte) run ≡ list_all (λ byte. byte == 48) (packed run)
zeros_packed [] = refl
zeros_packed (byte ∷ run) = grind (arith, or_right, zeros_packed run)
