-- an element that a rotation carries to another place of its list
use Rattle.std.proofs.Common.{◌≡◌, ℕ, suc, ◌+◌, ◌-◌, ◌<◌, ◌≤◌, List, [], ◌∷◌, ◌++◌, length, take, drop, get_or, insert, remove, slice_get, Some, refl, sym, ap, ◌∙◌, arith, drop-drop, drop_at, take_at}
use Rattle.std.proofs.lemmas.List.{append_assoc, length-append, length-drop, length-take-le, take-append-drop}
use Rattle.std.proofs.lemmas.Option.{slice_get-get_or}
use Rattle.std.proofs.Math.Seq.{drop-cons, get_or-append_seam}
use Rattle.cam_edits.specs.Places.{carried, reordered}
use borrow.Rule.Slice.PartMut.{mid_of, put_mid}

module _ {X : Type 0} where
  -- a list about an element, which is taken out and put elsewhere
  found : (a c : List X) (x : X) (k : ℕ) → length a ≡ k → slice_get (a ++ x ∷ c) k ≡ Some x
  found a c x k many =
      slice_get-get_or (a ++ x ∷ c) k x (omega (arith, many, length-append a (x ∷ c)))
      ∙ ap Some (ap (λ i. get_or (a ++ x ∷ c) i x) (sym many) ∙ get_or-append_seam a x c x)

  taken : (a c : List X) (x : X) (k : ℕ) → length a ≡ k → remove (a ++ x ∷ c) k ≡ a ++ c
  taken a c x k many =
      let next : suc k ≡ k + 1 = omega arith in
      let behind : drop (suc k) (a ++ x ∷ c) ≡ c =
      ap (λ i. drop i (a ++ x ∷ c)) next ∙ sym (drop-drop 1 k (a ++ x ∷ c)) ∙ ap (drop 1) (drop_at a (x ∷ c) k many) in
      (λ i. take_at a (x ∷ c) k many i ++ behind i)

  put : (a c : List X) (x : X) (m : ℕ) → length a ≡ m → insert (a ++ c) m x ≡ a ++ x ∷ c
  put a c x m many = (λ i. take_at a c m many i ++ x ∷ drop_at a c m many i)

  is_reordered : (xs : List X) (x : X) (k m : ℕ) → slice_get xs k ≡ Some x → insert (remove xs k) m x ≡ reordered xs k m
  is_reordered xs x k m at = ap (carried xs k m) (sym at)

  -- upwards, past b
  module _ (a b c : List X) (x : X) (k m : ℕ) (before : length a ≡ k) (past : k + length b ≡ m) where
    abbrev all : List X
    all = a ++ x ∷ (b ++ c)

    up_rest : drop k all ≡ x ∷ (b ++ c)
    up_rest = drop_at a (x ∷ (b ++ c)) k before

    up_mid : mid_of k (suc (length b)) all ≡ x ∷ b
    up_mid = ap (take (suc (length b))) up_rest ∙ ap (λ ys. x ∷ ys) (take_at b c (length b) refl)

    up_post : drop (suc (length b)) (drop k all) ≡ c
    up_post = ap (drop (suc (length b))) up_rest ∙ drop_at b c (length b) refl

    pub carried_up : (new : List X) (n : ℕ) → n ≡ suc (length b) → new ≡ drop 1 (mid_of k n all) ++ take 1 (mid_of k n all)
        → put_mid k n all new ≡ reordered all k m
    carried_up new n size is =
        let mid : mid_of k n all ≡ x ∷ b = ap (λ s. mid_of k s all) size ∙ up_mid in
        let now : new ≡ b ++ x ∷ [] = is ∙ ap (λ ys. drop 1 ys ++ take 1 ys) mid in
        let post : drop n (drop k all) ≡ c = ap (λ s. drop s (drop k all)) size ∙ up_post in
        let far : length (a ++ b) ≡ m = length-append a b ∙ omega (arith, before, past) in
        (λ i. take_at a (x ∷ (b ++ c)) k before i ++ (now i ++ post i))
        ∙ ap (λ ys. a ++ ys) (append_assoc b (x ∷ []) c)
        ∙ sym (append_assoc a b (x ∷ c))
        ∙ sym (put (a ++ b) c x m far)
        ∙ ap (λ ys. insert ys m x) (append_assoc a b c ∙ sym (taken a (b ++ c) x k before))
        ∙ is_reordered all x k m (found a (b ++ c) x k before)

  -- downwards, past b
  module _ (a b c : List X) (x : X) (k m : ℕ) (before : length a ≡ m) (past : m + length b ≡ k) where
    abbrev whole : List X
    whole = a ++ (b ++ x ∷ c)

    down_rest : drop m whole ≡ (b ++ x ∷ []) ++ c
    down_rest = drop_at a (b ++ x ∷ c) m before ∙ sym (append_assoc b (x ∷ []) c)

    down_size : length (b ++ x ∷ []) ≡ suc (length b)
    down_size = length-append b (x ∷ []) ∙ omega arith

    pub carried_down : (new : List X) (n : ℕ) → n ≡ suc (length b)
        → new ≡ drop (length (mid_of m n whole) - 1) (mid_of m n whole) ++ take (length (mid_of m n whole) - 1) (mid_of m n whole)
        → put_mid m n whole new ≡ reordered whole k m
    carried_down new n size is =
        let mid : mid_of m n whole ≡ b ++ x ∷ [] =
        ap (λ s. mid_of m s whole) size ∙ ap (take (suc (length b))) down_rest ∙ take_at (b ++ x ∷ []) c (suc (length b)) down_size in
        let last : length (b ++ x ∷ []) - 1 ≡ length b = omega (arith, down_size) in
        let now : new ≡ x ∷ b =
        is
        ∙ ap (λ ys. drop (length ys - 1) ys ++ take (length ys - 1) ys) mid
        ∙ ap (λ s. drop s (b ++ x ∷ []) ++ take s (b ++ x ∷ [])) last
        ∙ (λ i. drop_at b (x ∷ []) (length b) refl i ++ take_at b (x ∷ []) (length b) refl i) in
        let post : drop n (drop m whole) ≡ c =
        ap (λ s. drop s (drop m whole)) size ∙ ap (drop (suc (length b))) down_rest ∙ drop_at (b ++ x ∷ []) c (suc (length b)) down_size in
        let same : whole ≡ (a ++ b) ++ x ∷ c = sym (append_assoc a b (x ∷ c)) in
        let far : length (a ++ b) ≡ k = length-append a b ∙ omega (arith, before, past) in
        (λ i. take_at a (b ++ x ∷ c) m before i ++ (now i ++ post i))
        ∙ sym (put a (b ++ c) x m before)
        ∙ ap (λ ys. insert ys m x) (sym (append_assoc a b c) ∙ sym (taken (a ++ b) c x k far) ∙ ap (λ ys. remove ys k) (sym same))
        ∙ is_reordered whole x k m (ap (λ ys. slice_get ys k) same ∙ found (a ++ b) c x k far)

  -- ---- any list

  split_up : (xs : List X) (x : X) (k n : ℕ) → k < length xs
      → xs ≡ take k xs ++ get_or xs k x ∷ (take n (drop (suc k) xs) ++ drop n (drop (suc k) xs))
  split_up xs x k n h = grind (arith, take-append-drop, drop-cons)

  up_from : (xs new : List X) (k m : ℕ) (x : X) → k < m → m < length xs
      → new ≡ drop 1 (mid_of k (m + 1 - k) xs) ++ take 1 (mid_of k (m + 1 - k) xs)
      → put_mid k (m + 1 - k) xs new ≡ reordered xs k m
  up_from xs new k m x h within is =
      let n = m - k in
      let a = take k xs in
      let b = take n (drop (suc k) xs) in
      let c = drop n (drop (suc k) xs) in
      let y = get_or xs k x in
      let same : xs ≡ a ++ y ∷ (b ++ c) = split_up xs x k n (omega (arith, h, within)) in
      let before : length a ≡ k = length-take-le k xs (omega (arith, h, within)) in
      let many : length b ≡ n = length-take-le n (drop (suc k) xs) (omega (arith, length-drop (suc k) xs, h, within)) in
      let S = m + 1 - k in
      ap (λ ys. put_mid k S ys new) same
      ∙ carried_up a b c y k m before (omega (arith, many, h)) new S (omega (arith, many, h))
      (is ∙ ap (λ ys. drop 1 (mid_of k S ys) ++ take 1 (mid_of k S ys)) same)
      ∙ ap (λ ys. reordered ys k m) (sym same)

  split_down : (xs : List X) (x : X) (m n k : ℕ) → m + n ≡ k → k < length xs
      → xs ≡ take m xs ++ (take n (drop m xs) ++ get_or xs k x ∷ drop (suc k) xs)
  split_down xs x m n k e h =
      let behind : drop n (drop m xs) ≡ get_or xs k x ∷ drop (suc k) xs =
      drop-drop n m xs ∙ ap (λ i. drop i xs) e ∙ drop-cons xs k x h in
      sym (take-append-drop m xs)
      ∙ ap (λ ys. take m xs ++ ys) (sym (take-append-drop n (drop m xs)) ∙ ap (λ ys. take n (drop m xs) ++ ys) behind)

  down_from : (xs new : List X) (k m : ℕ) (x : X) → m ≤ k → k < length xs
      → new ≡ drop (length (mid_of m (k + 1 - m) xs) - 1) (mid_of m (k + 1 - m) xs)
      ++ take (length (mid_of m (k + 1 - m) xs) - 1) (mid_of m (k + 1 - m) xs)
      → put_mid m (k + 1 - m) xs new ≡ reordered xs k m
  down_from xs new k m x h within is =
      let n = k - m in
      let a = take m xs in
      let b = take n (drop m xs) in
      let c = drop (suc k) xs in
      let y = get_or xs k x in
      let same : xs ≡ a ++ (b ++ y ∷ c) = split_down xs x m n k (omega (arith, h)) within in
      let before : length a ≡ m = length-take-le m xs (omega (arith, h, within)) in
      let many : length b ≡ n = length-take-le n (drop m xs) (omega (arith, length-drop m xs, h, within)) in
      let S = k + 1 - m in
      ap (λ ys. put_mid m S ys new) same
      ∙ carried_down a b c y k m before (omega (arith, many, h)) new S (omega (arith, many, h))
      (is ∙ ap (λ ys. drop (length (mid_of m S ys) - 1) (mid_of m S ys) ++ take (length (mid_of m S ys) - 1) (mid_of m S ys)) same)
      ∙ ap (λ ys. reordered ys k m) (sym same)

  -- a list with a place has an element
  pub rotated_up : (xs new : List X) (k m : ℕ) → k < m → m < length xs
      → new ≡ drop 1 (mid_of k (m + 1 - k) xs) ++ take 1 (mid_of k (m + 1 - k) xs)
      → put_mid k (m + 1 - k) xs new ≡ reordered xs k m
  rotated_up xs new k m h within is = grind (arith, up_from)

  pub rotated_down : (xs new : List X) (k m : ℕ) → m ≤ k → k < length xs
      → new ≡ drop (length (mid_of m (k + 1 - m) xs) - 1) (mid_of m (k + 1 - m) xs)
      ++ take (length (mid_of m (k + 1 - m) xs) - 1) (mid_of m (k + 1 - m) xs)
      → put_mid m (k + 1 - m) xs new ≡ reordered xs k m
  rotated_down xs new k m h within is = grind (arith, down_from)
