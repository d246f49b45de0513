-- Runs of bytes that all pass a test: where they end, and what else holds of their bytes.
use Rattle.std.proofs.Common.{◌≡◌, ℕ, List, [], ◌∷◌, ◌++◌, length, take, drop, map, Bool, true, false, eq-eqb, append-nil}
use Rattle.std.proofs.Common.{refl, ap, ◌∙◌, arith, subst}
use Rattle.std.specs.Prelude.{◌==◌, filter}
use Rattle.std.specs.List.{list_all, list_any, prefix_len, slice_split, flat_map, AllByRecursion}
use Rattle.std.proofs.lemmas.Bool.{and_parts, or_parts}
use Rattle.std.proofs.lemmas.List.{take_at, drop_at}

module _ (p : ℕ → Bool) where
  -- ---- what else holds of each byte

  pub each_of : (P : ℕ → Type 0) → ((b : ℕ) → p b ≡ true → P b) → (run : List ℕ) → list_all p run ≡ true → AllByRecursion P run
  each_of P holds [] all = tt
  each_of P holds (b ∷ run) all =
      let k = and_parts (p b) (list_all p run) all in (holds b k.0, each_of P holds run k.1)

  module _ (q : ℕ → Bool) where
    pub all_pass : ((b : ℕ) → p b ≡ true → q b ≡ true) → (run : List ℕ) → list_all p run ≡ true → list_all q run ≡ true
    all_pass passes [] all = refl
    all_pass passes (b ∷ run) all =
        let k = and_parts (p b) (list_all p run) all in rw (passes b k.0, all_pass passes run k.1) refl

    pub none_passes : ((b : ℕ) → p b ≡ true → q b ≡ false) → (run : List ℕ) → list_all p run ≡ true → list_any q run ≡ false
    none_passes fails [] all = refl
    none_passes fails (b ∷ run) all =
        let k = and_parts (p b) (list_all p run) all in rw (fails b k.0, none_passes fails run k.1) refl

    pub none_left_out : ((b : ℕ) → p b ≡ true → q b ≡ true) → (run : List ℕ) → list_all p run ≡ true → filter q run ≡ run
    none_left_out passes [] all = refl
    none_left_out passes (b ∷ run) all =
        let k = and_parts (p b) (list_all p run) all in rw (passes b k.0, none_left_out passes run k.1) refl

  -- ---- where a run ends

  -- what follows is no part of it
  abbrev pub Stops : List ℕ → Type 0
  Stops [] = Unit {0}
  Stops (b ∷ rest) = p b ≡ false

  run_length : (run rest : List ℕ) → list_all p run ≡ true → Stops rest → prefix_len p (run ++ rest) ≡ length run
  run_length [] [] all stops = refl
  run_length [] (b ∷ rest) all stops = rw stops refl
  run_length (b ∷ run) rest all stops =
      let k = and_parts (p b) (list_all p run) all in rw (k.0, run_length run rest k.1 stops) (omega arith)

  pub run_read : (run rest : List ℕ) → list_all p run ≡ true → Stops rest → take (prefix_len p (run ++ rest)) (run ++ rest) ≡ run
  run_read run rest all stops = rw (run_length run rest all stops) (take_at run rest (length run) refl)

  pub run_left : (run rest : List ℕ) → list_all p run ≡ true → Stops rest → drop (prefix_len p (run ++ rest)) (run ++ rest) ≡ rest
  run_left run rest all stops = rw (run_length run rest all stops) (drop_at run rest (length run) refl)

  pub run_alone_length : (run : List ℕ) → list_all p run ≡ true → prefix_len p run ≡ length run
  run_alone_length run all = subst (λ (text : List ℕ). prefix_len p text ≡ length run) (append-nil run) (run_length run [] all tt)

  pub run_alone_read : (run : List ℕ) → list_all p run ≡ true → take (prefix_len p run) run ≡ run
  run_alone_read run all = subst (λ (text : List ℕ). take (prefix_len p text) text ≡ run) (append-nil run) (run_read run [] all tt)

  pub run_alone_left : (run : List ℕ) → list_all p run ≡ true → drop (prefix_len p run) run ≡ []
  run_alone_left run all = subst (λ (text : List ℕ). drop (prefix_len p text) text ≡ []) (append-nil run) (run_left run [] all tt)

-- ---- cutting at a byte

-- it does not stand in the text
abbrev pub IsWithout : ℕ → List ℕ → Type 0
IsWithout c text = list_any (λ b. b == c) text ≡ false

cut_alone : (c : ℕ) (text : List ℕ) → IsWithout c text → slice_split (λ b. b == c) text ≡ text ∷ []
cut_alone c [] none = refl
cut_alone c (b ∷ text) none =
    let k = or_parts (b == c) (list_any (λ b. b == c) text) none in rw (k.0, cut_alone c text k.1) refl

cut_front : (c : ℕ) (text rest : List ℕ) → IsWithout c text
    → slice_split (λ b. b == c) (text ++ c ∷ rest) ≡ text ∷ slice_split (λ b. b == c) rest
cut_front c [] rest none = rw (eq-eqb c c refl) refl
cut_front c (b ∷ text) rest none =
    let k = or_parts (b == c) (list_any (λ b. b == c) text) none in rw (k.0, cut_front c text rest k.1) refl

-- texts, each behind the byte
pub cut_all : {A : Type 0} (c : ℕ) (f : A → List ℕ) (first : List ℕ) (more : List A) → IsWithout c first
    → AllByRecursion (λ a. IsWithout c (f a)) more
    → slice_split (λ b. b == c) (first ++ flat_map (λ a. c ∷ f a) more) ≡ first ∷ map f more
cut_all c f first [] none each = ap (slice_split (λ b. b == c)) (append-nil first) ∙ cut_alone c first none
cut_all c f first (a ∷ more) none each = grind (arith, cut_front, cut_all c f (f a) more each.0 each.1)
