-- leaves that are painted on canvases, one list beneath another
use Rattle.std.proofs.Common.{◌≡◌, ◌↔◌, ℕ, ◌+◌, ◌<◌, Bool, List, [], ◌∷◌, ◌++◌, length, drop, get_or, slice_get, Option, Some, inl, inr, sym, ap, subst, ◌∙◌, arith}
use Rattle.std.specs.List.{flat_map}
use Rattle.std.specs.Option.{option_or}
use Rattle.std.proofs.lemmas.List.{drop_more, drop_all}
use Rattle.std.proofs.lemmas.Option.{get_or_from_slice_get, slice_get-get_or}
use Rattle.cam_units.specs.Boxes.{Holds}
use Rattle.cam_units.specs.declared.bounds.Bounds.{Bounds}
use Rattle.cam_units.specs.declared.point.Spot.{Spot}
use Rattle.cam_objects.specs.declared.canvas.Print.{Print}
use Rattle.cam_objects.specs.Bounds.{bounds_of, box_of_shape}
use Rattle.cam_objects.specs.Canvases.{IsDecidedIn, IsSoundFigure, IsSoundPrint, Paints, shape_of}
use Rattle.cam_objects.specs.Image.{Covers, IsUncovered}
use Rattle.cam_objects.specs.Leaves.{Leaf}
use Rattle.cam_objects.specs.Tests.{last_ink}
use Rattle.cam_objects.specs.Topmost.{IsCoveredBy}
use Rattle.cam_objects.proofs.CoveredBoxes.{covered_box, inside_box}
use Rattle.cam_objects.proofs.Covering.{one_covers}
use Rattle.cam_objects.proofs.LastInks.{covered_by, decided_or, last_ink-append, or_again, or_decided, or_none, or_uncovered}

-- a print whose box is that of its shape
pub sound_print : (p : Print) → IsSoundFigure p.figure → p.bounds ≡ box_of_shape (shape_of p.figure) → IsSoundPrint p
sound_print p figure box = grind (arith, covered_box)

-- a fact holds just where it holds
same : (P : Type 0) → P ↔ P
same P = (λ h. h, λ h. h)

module _ {V : Type 0} (has : V → ℕ → ℕ → Type 0) (place : V → ℕ → ℕ → Spot) (ink : V → ℕ → ℕ → Option Bool) where
  -- leaves that decide no pixel
  paints_idly : (v : V) (leaves : List Leaf)
      → ((column row : ℕ) → has v column row → option_or (ink v column row) (last_ink leaves (place v column row)) ≡ ink v column row)
      → Paints has place ink v leaves v
  paints_idly v leaves idle = grind (arith, same)

  pub paints_nothing : (v : V) → Paints has place ink v [] v
  paints_nothing v = paints_idly v [] (λ column row h. or_none (ink v column row))

  -- as those that cover no pixel's place
  pub paints_off : (v : V) (leaves : List Leaf)
      → ((column row : ℕ) → has v column row → IsUncovered leaves (place v column row)) → Paints has place ink v leaves v
  paints_off v leaves off = grind (arith, paints_idly, or_uncovered)

  -- and those that cover decided ones alone
  pub paints_decided : (v : V) (leaves : List Leaf) (b : Bounds) → ((s : Spot) → IsCoveredBy leaves s → Holds b s)
      → IsDecidedIn has place ink v b → Paints has place ink v leaves v
  paints_decided v leaves b held decided =
      paints_idly v leaves (λ column row h.
      let s = place v column row in
      elim (decided_or leaves s) [
        | inl told ↦ or_decided (ink v column row) (last_ink leaves s)
            (decided column row h (held s (covered_by leaves s told.0 told.1.1)))
        | inr off ↦ or_uncovered (ink v column row) leaves s off
      ])

  pub paints_boxed : (v : V) (leaves : List Leaf) (b : Bounds) → b ≡ bounds_of leaves → IsDecidedIn has place ink v b
      → Paints has place ink v leaves v
  paints_boxed v leaves b e decided =
      paints_decided v leaves b (λ s any. subst (λ c. Holds c s) (sym e) (inside_box leaves s any)) decided

  -- a leaf alone
  pub paints_one : (v : V) (l : Leaf) (b : Bounds) → ((s : Spot) → Covers l.shape s → Holds b s) → IsDecidedIn has place ink v b
      → Paints has place ink v (l ∷ []) v
  paints_one v l b held decided = paints_decided v (l ∷ []) b (λ s any. held s (one_covers l s any)) decided

  pub paints_beneath : (u v w : V) (a b : List Leaf) → Paints has place ink u b v → Paints has place ink v a w
      → Paints has place ink u (a ++ b) w
  paints_beneath u v w a b first next = grind (arith, or_again, last_ink-append)

  -- the leaves of elements, from the last one on: none yet
  pub paints_last : {X : Type 0} (f : X → List Leaf) (xs : List X) (v : V) → Paints has place ink v (flat_map f (drop (length xs) xs)) v
  paints_last f xs v = grind (arith, drop_all, paints_nothing)

  -- and the next one
  pub paints_next : {X : Type 0} (f : X → List Leaf) (xs : List X) (i j : ℕ) (x : X) (u v w : V) → i + 1 ≡ j → i < length xs
      → x ≡ get_or xs i x → Paints has place ink u (flat_map f (drop j xs)) v → Paints has place ink v (f x) w
      → Paints has place ink u (flat_map f (drop i xs)) w
  paints_next f xs i j x u v w one h e later here =
      subst (λ ls. Paints has place ink u ls w)
      (sym (ap (flat_map f) (drop_more xs i x h) ∙ (λ k. f (sym e k) ++ flat_map f (drop (one k) xs))))
      (paints_beneath u v w (f x) (flat_map f (drop j xs)) later here)

  -- that at a place of the list
  pub paints_listed : {X : Type 0} (f : X → List Leaf) (xs : List X) (i j : ℕ) (u v w : V) → i + 1 ≡ j → i < length xs
      → Paints has place ink u (flat_map f (drop j xs)) v
      → ((x : X) → slice_get xs i ≡ Some x → Paints has place ink v (f x) w) → Paints has place ink u (flat_map f (drop i xs)) w
  paints_listed f [] i j u v w one h later here = absurd (omega arith)
  paints_listed f (y ∷ xs) i j u v w one h later here =
      let x = get_or (y ∷ xs) i y in
      let at = slice_get-get_or (y ∷ xs) i y h in
      paints_next f (y ∷ xs) i j x u v w one h (sym (get_or_from_slice_get (y ∷ xs) i x x at)) later (here x at)
