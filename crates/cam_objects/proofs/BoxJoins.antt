-- joins of boxes, one list behind another
use Rattle.std.proofs.Common.{◌≡◌, Bool, false, cond, ◌||◌, ℤ, List, [], ◌∷◌, ◌++◌, refl, ap, sym, ◌∙◌, arith}
use Rattle.std.specs.Prelude.{fold}
use Rattle.std.specs.List.{All}
use Rattle.std.specs.Int.{int_min, int_max}
use Rattle.std.specs.Int.RustNames.{int_lt}
use Rattle.std.proofs.lemmas.Int.{ints, clamps}
use Rattle.std.proofs.lemmas.List.Elements.{All-head, All-tail}
use Rattle.std.proofs.lemmas.List.Sums.{fold-append}
use Rattle.cam_units.specs.declared.bounds.Bounds.{Bounds}
use Rattle.cam_units.specs.declared.bounds.Bounds.TheVariants.{Empty}
use Rattle.cam_units.specs.Boxes.{has_no_place, join_of, span_of}
use Rattle.cam_apertures.proofs.Corners.{same_box}
use Rattle.cam_objects.specs.Bounds.{box_of_all}
use Rattle.cam_objects.specs.Machinery.Boxes.{IsUncrossed}

-- ---- the join of three

min_assoc : (a b c : ℤ) → int_min (int_min a b) c ≡ int_min a (int_min b c)
min_assoc a b c = omega (arith, ints, clamps)

max_assoc : (a b c : ℤ) → int_max (int_max a b) c ≡ int_max a (int_max b c)
max_assoc a b c = omega (arith, ints, clamps)

span_assoc : (a b c : Bounds) → span_of (span_of a b) c ≡ span_of a (span_of b c)
span_assoc a b c = grind (arith, same_box, min_assoc, max_assoc)

spread : (a b c d : ℤ) → int_lt c a ≡ false → int_lt (int_max c d) (int_min a b) ≡ false
spread a b c d h = grind (arith, ints, clamps)

neither : (a b : Bool) → (a || b) ≡ false → (a ≡ false) × (b ≡ false)
neither a b h = grind arith

pub some_span : (a b : Bounds) → has_no_place a ≡ false → has_no_place (span_of a b) ≡ false
some_span a b h = grind (arith, neither, spread)

-- the join by which boxes are empty
abbrev pub joined : Bool → Bool → Bounds → Bounds → Bounds
joined x y a b = cond x b (cond y a (span_of a b))

pub join_assoc : (a b c : Bounds) → join_of (join_of a b) c ≡ join_of a (join_of b c)
join_assoc a b c = grind (arith, some_span, span_assoc)

-- ---- many boxes, none of them crossed

pub uncrossed_empty : IsUncrossed Empty
uncrossed_empty h = refl

pub join_empty : (a : Bounds) → IsUncrossed a → join_of a Empty ≡ a
join_empty a h = grind arith

pub uncrossed_join : (a b : Bounds) → IsUncrossed a → IsUncrossed b → IsUncrossed (join_of a b)
uncrossed_join a b h k = grind (arith, some_span)

module _ {X : Type 0} (f : X → Bounds) where
  pub uncrossed_from : (z : Bounds) (xs : List X) → IsUncrossed z → All (λ x. IsUncrossed (f x)) xs
      → IsUncrossed (fold (λ all x. join_of all (f x)) z xs)
  uncrossed_from z [] h all = h
  uncrossed_from z (x ∷ xs) h all =
      uncrossed_from (join_of z (f x)) xs (uncrossed_join z (f x) h (All-head (λ x. IsUncrossed (f x)) x xs all))
      (All-tail (λ x. IsUncrossed (f x)) x xs all)

  -- behind a box, the box of all joins it
  pub all_from : (z : Bounds) (xs : List X) → IsUncrossed z → All (λ x. IsUncrossed (f x)) xs
      → fold (λ all x. join_of all (f x)) z xs ≡ join_of z (box_of_all f xs)
  all_from z [] h all = sym (join_empty z h)
  all_from z (x ∷ xs) h all =
      let here = All-head (λ x. IsUncrossed (f x)) x xs all in
      let rest = All-tail (λ x. IsUncrossed (f x)) x xs all in
      all_from (join_of z (f x)) xs (uncrossed_join z (f x) h here) rest
      ∙ join_assoc z (f x) (box_of_all f xs)
      ∙ ap (join_of z) (sym (all_from (f x) xs here rest))

  pub all_append : (xs ys : List X) → All (λ x. IsUncrossed (f x)) xs → All (λ x. IsUncrossed (f x)) ys
      → box_of_all f (xs ++ ys) ≡ join_of (box_of_all f xs) (box_of_all f ys)
  all_append xs ys h k = grind (arith, fold-append, all_from, uncrossed_from, uncrossed_empty)
