-- Parts of a list that are read one behind the other.
use Rattle.std.proofs.Common.{◌≡◌, ℕ, ◌+◌, List, [], ◌∷◌, ◌++◌, length, Option, None, Some, refl, ap, sym, ◌∙◌}
use Rattle.std.proofs.Common.{append_assoc, append-nil, arith}
use Rattle.std.specs.Prelude.{IfSome}
use Rattle.std.specs.Option.{option_map}
use Rattle.cam_script.specs.Items.{joined}

-- so many parts were counted, and what is left has the others
unfoldable pub CountsOn : {T : Type 0} → Option (List T) → ℕ → Option (List T) → Type 0
CountsOn all n rest = option_map length all ≡ option_map (λ m. n + m) (option_map length rest)

-- these parts were read, and what is left has the others
unfoldable pub ReadsOn : {T : Type 0} → Option (List T) → List T → Option (List T) → Type 0
ReadsOn all read rest = all ≡ option_map (λ more. read ++ more) rest

pub counts_none : {T : Type 0} (all : Option (List T)) → CountsOn all 0 all
unfolding CountsOn
counts_none None = refl
counts_none (Some parts) = ap Some (omega arith)

counts_more : {T : Type 0} (n : ℕ) (part : T) (more : Option (List T))
    → option_map (λ m. n + m) (option_map length (joined (Some part) more))
    ≡ option_map (λ m. n + 1 + m) (option_map length more)
counts_more n part None = refl
counts_more n part (Some parts) = ap Some (omega arith)

pub counts_one : {T : Type 0} (all rest more : Option (List T)) (part : T) (n : ℕ) → CountsOn all n rest
    → rest ≡ joined (Some part) more → CountsOn all (n + 1) more
unfolding CountsOn
counts_one all rest more part n counts e =
    counts ∙ ap (λ r. option_map (λ m. n + m) (option_map length r)) e ∙ counts_more n part more

pub counts_bad : {T : Type 0} (all rest : Option (List T)) (n : ℕ) → CountsOn all n rest → rest ≡ None
    → None ≡ option_map length all
unfolding CountsOn
counts_bad all rest n counts e = sym (counts ∙ ap (λ r. option_map (λ m. n + m) (option_map length r)) e)

pub counts_all : {T : Type 0} (all rest : Option (List T)) (n : ℕ) → CountsOn all n rest → rest ≡ Some []
    → Some n ≡ option_map length all
unfolding CountsOn
counts_all all rest n counts e =
    sym (counts ∙ ap (λ r. option_map (λ m. n + m) (option_map length r)) e ∙ ap Some (omega arith))

pub reads_none : {T : Type 0} (all : Option (List T)) → ReadsOn all [] all
unfolding ReadsOn
reads_none None = refl
reads_none (Some parts) = refl

reads_more : {T : Type 0} (read : List T) (part : T) (more : Option (List T))
    → option_map (λ parts. read ++ parts) (joined (Some part) more)
    ≡ option_map (λ parts. (read ++ part ∷ []) ++ parts) more
reads_more read part None = refl
reads_more read part (Some parts) = ap Some (sym (append_assoc read (part ∷ []) parts))

pub reads_one : {T : Type 0} (all rest more : Option (List T)) (part : T) (read : List T) → ReadsOn all read rest
    → rest ≡ joined (Some part) more → ReadsOn all (read ++ part ∷ []) more
unfolding ReadsOn
reads_one all rest more part read reads e =
    reads ∙ ap (option_map (λ parts. read ++ parts)) e ∙ reads_more read part more

unread : (n : ℕ) → ◌≡◌ {A = Option ℕ} None (Some n) → ⊥
unread n e = cc

pub reads_all : {T : Type 0} (all rest : Option (List T)) (read : List T) (n : ℕ) → ReadsOn all read rest
    → option_map length all ≡ Some n → IfSome rest (λ parts. parts ≡ []) → all ≡ Some read
unfolding ReadsOn
reads_all all None read n reads some end = absurd (unread n (sym (ap (option_map length) reads) ∙ some))
reads_all all (Some parts) read n reads some end = reads ∙ ap Some (ap (λ more. read ++ more) end ∙ append-nil read)
