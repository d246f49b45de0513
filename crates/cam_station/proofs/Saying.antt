-- One more number of a line that is said.
use Rattle.std.proofs.Common.{◌≡◌, ℕ, ◌+◌, ◌<◌, List, [], ◌∷◌, ◌++◌, Option, take, length, get_or}
use Rattle.std.proofs.Common.{subst, sym, ap, ◌∙◌, append-nil, append_assoc, arith}
use Rattle.std.specs.Prelude.{codes, decimal}
use Rattle.std.specs.List.{flat_map}
use Rattle.std.specs.Io.KnownBytes.{Appends}
use Rattle.std.proofs.KnownBytes.{Appends-trans}
use Rattle.std.proofs.lemmas.Grind.{flat_map-append}
use Rattle.std.proofs.lemmas.List.{take_more}
use Rattle.cam_station.specs.Files.{HasRisenBy}

abbrev spaced : ℕ → List ℕ
spaced n = codes " " ++ decimal n

pub word_said : (a b : Option (List ℕ)) (word : List ℕ) → Appends a b word → Appends a b (word ++ [])
word_said a b word h = let P : List ℕ → Type 0 = λ w. Appends a b w in subst P (sym (append-nil word)) h

one_more : (ns : List ℕ) (i : ℕ) → i < length ns → flat_map spaced (take i ns) ++ spaced (get_or ns i 0) ≡ flat_map spaced (take (i + 1) ns)
one_more ns i lt =
    sym (ap (flat_map spaced) (take_more ns i 0 lt)
    ∙ flat_map-append spaced (take i ns) (get_or ns i 0 ∷ [])
    ∙ ap (λ (w : List ℕ). flat_map spaced (take i ns) ++ w) (append-nil (spaced (get_or ns i 0))))

pub number_said : (a b c : Option (List ℕ)) (word ns : List ℕ) (i : ℕ) → i < length ns
    → Appends a b (word ++ flat_map (λ n. codes " " ++ decimal n) (take i ns))
    → Appends b c (codes " " ++ decimal (get_or ns i 0)) → Appends a c (word ++ flat_map (λ n. codes " " ++ decimal n) (take (i + 1) ns))
number_said a b c word ns i lt h k =
    let P : List ℕ → Type 0 = λ w. Appends a c w in
    subst P (append_assoc word (flat_map spaced (take i ns)) (spaced (get_or ns i 0)) ∙ ap (λ (w : List ℕ). word ++ w) (one_more ns i lt))
    (Appends-trans a b c (word ++ flat_map spaced (take i ns)) (spaced (get_or ns i 0)) h k)

pub risen_twice : (n m a b c : ℕ) → HasRisenBy n a b → HasRisenBy m b c → HasRisenBy (n + m) a c
risen_twice n m a b c h k = omega arith
