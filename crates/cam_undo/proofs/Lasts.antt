-- The last item of a list, and those before it.
use Rattle.circular_buffer.specs.Buffer.{keep_last, last_item}
use Rattle.cam_undo.specs.Kept.{steps_of}
use Rattle.cam_undo.specs.Machine.{all_but_last}
use Rattle.std.proofs.Common.{◌-◌, ◌∙◌, ◌<◌, ◌==◌, ◌≡◌, ℕ, List, None, Option, Some, [], ap, arith, drop, false}
use Rattle.std.proofs.Common.{is_some, length, length-append, refl, slice_get, suc, sym, take, zero, ◌++◌, ◌∷◌}
use Rattle.std.specs.declared.vec.Vec.{Vec}

module _ {X : Type 0} where
  before_end : (front : List X) (x : X) → length (front ++ x ∷ []) - 1 ≡ length front
  before_end front x = omega (arith, length-append front (x ∷ []))

  at_end : (front : List X) (x : X) → slice_get (front ++ x ∷ []) (length front) ≡ Some x
  at_end [] x = refl
  at_end (y ∷ front) x = at_end front x

  up_to_end : (front : List X) (x : X) → take (length front) (front ++ x ∷ []) ≡ front
  up_to_end [] x = refl
  up_to_end (y ∷ front) x = ap (λ l. y ∷ l) (up_to_end front x)

  pub last_item-snoc : (front : List X) (x : X) → last_item (front ++ x ∷ []) ≡ Some x
  last_item-snoc front x = rw (before_end front x) (at_end front x)

  pub all_but_last-snoc : (front : List X) (x : X) → all_but_last (front ++ x ∷ []) ≡ front
  all_but_last-snoc front x = rw (before_end front x) (up_to_end front x)

  pub record Ending (xs : List X) : Type 0 where
    pub front : List X
    pub last : X
    pub is : xs ≡ front ++ last ∷ []

  longer : (x : X) (xs : List X) → Ending xs → Ending (x ∷ xs)
  longer x xs e = record { front = x ∷ e.front; last = e.last; is = ap (λ l. x ∷ l) e.is }

  pub ending : (x : X) (xs : List X) → Ending (x ∷ xs)
  ending x [] = record { front = []; last = x; is = refl }
  ending x (y ∷ ys) = longer x (y ∷ ys) (ending y ys)

  of_ending : (xs : List X) (x : X) → last_item xs ≡ Some x → Ending xs → xs ≡ all_but_last xs ++ x ∷ []
  of_ending xs x h e =
      let both : Some e.last ≡ Some x = sym (last_item-snoc e.front e.last) ∙ (ap last_item (sym e.is) ∙ h) in
      let same : e.last ≡ x = cc in
      let front : all_but_last xs ≡ e.front = ap all_but_last e.is ∙ all_but_last-snoc e.front e.last in
      rw (front, ← same) e.is

  -- a list with a last item ends in it
  pub with_last : (xs : List X) (x : X) → last_item xs ≡ Some x → xs ≡ all_but_last xs ++ x ∷ []
  with_last [] x h = cc
  with_last (y ∷ ys) x h = of_ending (y ∷ ys) x h (ending y ys)

  -- a list without a last item is empty
  pub without_last : (xs : List X) → last_item xs ≡ None → xs ≡ []
  without_last [] h = refl
  without_last (y ∷ ys) h =
      let e = ending y ys in
      let some : last_item (y ∷ ys) ≡ Some e.last = ap last_item e.is ∙ last_item-snoc e.front e.last in
      cc

  -- with a place left, nothing goes
  pub keep_last-room : (n : ℕ) (xs : List X) (x : X) → length xs < n → keep_last n (xs ++ x ∷ []) ≡ xs ++ x ∷ []
  keep_last-room n xs x h =
      let none : length (xs ++ x ∷ []) - n ≡ 0 = omega (arith, length-append xs (x ∷ [])) in
      rw none refl

module _ {X Z : Type 0} where
  pub steps_of-snoc : (gs : List (Vec X Z)) (g : Vec X Z) → steps_of (gs ++ g ∷ []) ≡ steps_of gs ++ g.items ∷ []
  steps_of-snoc [] g = refl
  steps_of-snoc (f ∷ gs) g = ap (λ l. f.items ∷ l) (steps_of-snoc gs g)

  pub steps_of-drop : (n : ℕ) (gs : List (Vec X Z)) → steps_of (drop n gs) ≡ drop n (steps_of gs)
  steps_of-drop zero gs = refl
  steps_of-drop (suc n) [] = refl
  steps_of-drop (suc n) (g ∷ gs) = steps_of-drop n gs

  pub length-steps_of : (gs : List (Vec X Z)) → length (steps_of gs) ≡ length gs
  length-steps_of [] = refl
  length-steps_of (g ∷ gs) = ap suc (length-steps_of gs)

  pub steps_of-none : (gs : List (Vec X Z)) → length gs ≡ 0 → steps_of gs ≡ []
  steps_of-none [] e = refl
  steps_of-none (g ∷ gs) e = absurd (omega arith)

  -- the ring that a group joined, as steps
  pub steps_of-kept : (n : ℕ) (gs : List (Vec X Z)) (g : Vec X Z)
      → steps_of (keep_last n (gs ++ g ∷ [])) ≡ keep_last n (steps_of gs ++ g.items ∷ [])
  steps_of-kept n gs g =
      rw (steps_of-drop (length (gs ++ g ∷ []) - n) (gs ++ g ∷ []), ← length-steps_of (gs ++ g ∷ []), steps_of-snoc gs g) refl

module _ {X Z : Type 0} where
  pub closed : (group : Option (Vec X Z)) → is_some group ≡ false → group ≡ None
  closed None h = refl
  closed (Some g) h = cc

  -- the last group of a ring, as steps
  pub last_steps : (gs : List (Vec X Z)) (g : Vec X Z) → last_item gs ≡ Some g → last_item (steps_of gs) ≡ Some g.items
  last_steps gs g h =
      ap (λ l. last_item (steps_of l)) (with_last gs g h)
      ∙ (ap last_item (steps_of-snoc (all_but_last gs) g) ∙ last_item-snoc (steps_of (all_but_last gs)) g.items)

  pub no_last_steps : (gs : List (Vec X Z)) → last_item gs ≡ None → last_item (steps_of gs) ≡ None
  no_last_steps gs h = rw (without_last gs h) refl

pub filled : (n : ℕ) → (n == 0) ≡ false → 0 < n
filled zero h = cc
filled (suc n) h = omega arith
