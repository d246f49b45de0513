-- what a number stands for, step by step
use Rattle.std.proofs.Common.{◌≡◌, ℕ, zero, suc, ◌+◌, ◌<◌, ◌≤◌, Bool, false, cond, List, [], ◌∷◌, length, take, reverse, get_or, slice_get, Option, None, Some, refl, sym, ap, ◌∙◌, arith, nat_eq, inl, inr}
use Rattle.std.specs.List.{IsDistinct}
use Rattle.std.specs.Map.{keys_of, lookup}
use Rattle.std.proofs.lemmas.List.{take_all, take_more, reverse-append, get_or-map, length-map}
use Rattle.std.proofs.lemmas.Option.{get_or_from_slice_get, slice_get_within}
use Rattle.std.proofs.lemmas.Map.Keys.{apart_from_distinct}
use Rattle.std.proofs.lemmas.Bool.{eq-eqb, ne_eqb, eqb-false, cases_lt}
use Rattle.cam_objects.specs.declared.entry.Entry.{Entry}
use Rattle.cam_objects.specs.declared.entry.Entry.TheVariants.{Block}
use Rattle.cam_objects.specs.Leaves.{stands_for}

abbrev Pairs : Type 0
Pairs = List (ℕ × Entry)

pub front_more : (es : Pairs) (k : ℕ) (d : ℕ × Entry) → k < length es → reverse (take (k + 1) es) ≡ get_or es k d ∷ reverse (take k es)
front_more es k d h = ap reverse (take_more es k d h) ∙ reverse-append (take k es) (get_or es k d ∷ [])

pub whole : (es : Pairs) → take (length es) es ≡ es
whole es = take_all (length es) es (omega arith)

pub flip : (a b : ℕ) → nat_eq a b ≡ false → nat_eq b a ≡ false
flip a b h = ne_eqb b a (λ e. eqb-false a b h (sym e))

key_at : (es : Pairs) (i : ℕ) (d : ℕ × Entry) → i < length es → get_or (keys_of es) i 0 ≡ (get_or es i d).0
key_at es i d h = get_or-map (λ (e : ℕ × Entry). e.0) es i d 0 h

pub keys_apart : (es : Pairs) (i j : ℕ) (d : ℕ × Entry) → IsDistinct nat_eq (keys_of es) → i < j → j < length es
    → nat_eq (get_or es i d).0 (get_or es j d).0 ≡ false
keys_apart es i j d distinct below h =
    let len : j < length (keys_of es) = simp length-map h in
    let apart = apart_from_distinct nat_eq (keys_of es) i j 0 distinct below len in
    let hi : i < length es = omega arith in
    rw (key_at es i d hi, key_at es j d h) at apart

cond_none : {T : Type 0} (b : Bool) (x : T) (o : Option T) → cond b (Some x) o ≡ None → (b ≡ false) × (o ≡ None)
cond_none b x o h = grind arith

pub absent_at : (es : Pairs) (n j : ℕ) (d : ℕ × Entry) → lookup (nat_eq n) es ≡ None → j < length es → nat_eq (get_or es j d).0 n ≡ false
absent_at [] n j d h b = absurd (omega arith)
absent_at (e ∷ es) n zero d h b = flip n e.0 (cond_none (nat_eq n e.0) e.1 (lookup (nat_eq n) es) h).0
absent_at (e ∷ es) n (suc j) d h b = absent_at es n j d (cond_none (nat_eq n e.0) e.1 (lookup (nat_eq n) es) h).1 (omega arith)

module _ {M : Type 0} (nothing : M) (means : (ℕ → M) → Entry → M) where
  abbrev pub meant : ℕ → Pairs → ℕ → M
  meant k es = stands_for nothing means (reverse (take k es))

  -- one entry more, of another number
  other : (es : Pairs) (k n : ℕ) (d : ℕ × Entry) → k < length es → nat_eq (get_or es k d).0 n ≡ false → meant (k + 1) es n ≡ meant k es n
  other es k n d h ne = grind (arith, front_more)

  -- one entry more, of this number
  here : (es : Pairs) (k n : ℕ) (e : Entry) → slice_get es k ≡ Some (n, e) → meant (k + 1) es n ≡ means (meant k es) e
  here es k n e at =
      ap (λ ds. stands_for nothing means ds n) (front_more es k (n, e) (slice_get_within es k (n, e) at))
      ∙ ap (λ q. stands_for nothing means (q ∷ reverse (take k es)) n) (get_or_from_slice_get es k (n, e) (n, e) at)
      ∙ ap (λ b. cond b (means (meant k es) e) (meant k es n)) (eq-eqb n n refl)

  -- no entry of the number among the first k
  nowhere : (es : Pairs) (k n : ℕ) (d : ℕ × Entry) → k ≤ length es → ((j : ℕ) → j < k → nat_eq (get_or es j d).0 n ≡ false)
      → meant k es n ≡ nothing
  nowhere es zero n d h others = refl
  nowhere es (suc k) n d h others =
      let e : k + 1 ≡ suc k = omega arith in
      ap (λ m. meant m es n) (sym e)
      ∙ other es k n d (omega arith) (others k (omega arith))
      ∙ nowhere es k n d (omega arith) (λ j b. others j (omega arith))

  -- the entry of the number means what it does among the older ones
  pub meant-at : (es : Pairs) (i k n : ℕ) (e : Entry) → IsDistinct nat_eq (keys_of es) → slice_get es i ≡ Some (n, e) → i < k
      → k ≤ length es
      → meant k es n ≡ means (meant i es) e
  meant-at es i zero n e distinct at below within = absurd (omega arith)
  meant-at es i (suc k) n e distinct at below within =
      let found = get_or_from_slice_get es i (n, e) (n, e) at in
      let one : k + 1 ≡ suc k = omega arith in
      let next : k < length es = omega arith in
      elim (cases_lt i k) [
        | inl lt ↦
            let apart = keys_apart es i k (n, e) distinct lt next in
            let apart' : nat_eq n (get_or es k (n, e)).0 ≡ false = rw found at apart in
            ap (λ m. meant m es n) (sym one)
            ∙ other es k n (n, e) next (flip n (get_or es k (n, e)).0 apart')
            ∙ meant-at es i k n e distinct at lt (omega arith)
        | inr ge ↦
            let same : k ≡ i = omega arith in
            ap (λ m. meant m es n) (sym one)
            ∙ ap (λ m. meant (m + 1) es n) same
            ∙ here es i n e at
      ]

  -- the number stands later
  pub meant-later : (es : Pairs) (i k n : ℕ) (e : Entry) → IsDistinct nat_eq (keys_of es) → slice_get es i ≡ Some (n, e) → k ≤ i
      → meant k es n ≡ nothing
  meant-later es i k n e distinct at later =
      let within = slice_get_within es i (n, e) at in
      let found = get_or_from_slice_get es i (n, e) (n, e) at in
      nowhere es k n (n, e) (omega arith)
      (λ j b. let apart = keys_apart es j i (n, e) distinct (omega arith) within in rw found at apart)

  -- the number stands nowhere
  pub meant-absent : (es : Pairs) (k n : ℕ) → lookup (nat_eq n) es ≡ None → k ≤ length es → meant k es n ≡ nothing
  meant-absent es k n h within = nowhere es k n (n, Block []) within (λ j b. absent_at es n j (n, Block []) h (omega arith))
