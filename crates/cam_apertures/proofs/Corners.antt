-- Corners of boxes.
use Rattle.std.proofs.Common.{◌≡◌, ℕ, ◌+◌, ◌<◌, ◌≤◌, Bool, cond, ℤ, arith}
use Rattle.std.specs.Int.{int_min, int_max}
use Rattle.std.specs.Int.RustNames.{unsigned_abs}
use Rattle.std.proofs.lemmas.Int.{ints, clamps}
use Rattle.std.proofs.lemmas.List.Sums.{fold_more}
use Rattle.std.specs.Prelude.{List, fold, take, get_or, length}
use Rattle.cam_units.specs.declared.bounds.Bounds.{Bounds}
use Rattle.cam_units.specs.declared.bounds.Bounds.TheVariants.{Empty, Closed}
use Rattle.cam_units.specs.declared.point.Spot.{Spot}
use Rattle.cam_units.specs.Boxes.{join_of, span_of}
use Rattle.cam_apertures.specs.Machinery.Boxes.{IsSmallBox}

abbrev pub spot : ℤ → ℤ → Spot
spot x y = record { x = x; y = y }

abbrev pub box : ℤ → ℤ → ℤ → ℤ → Bounds
box left below right above = Closed (spot left below) (spot right above)

pub same_box : (a b c d a' b' c' d' : ℤ) → a ≡ a' → b ≡ b' → c ≡ c' → d ≡ d' → box a b c d ≡ box a' b' c' d'
same_box a b c d a' b' c' d' e f g h = λ i. Closed (record { x = e i; y = f i }) (record { x = g i; y = h i })

min_small : (a b : ℤ) → unsigned_abs a ≤ 600000000 → unsigned_abs b ≤ 600000000 → unsigned_abs (int_min a b) ≤ 600000000
min_small a b h k = omega (arith, ints, clamps)

max_small : (a b : ℤ) → unsigned_abs a ≤ 600000000 → unsigned_abs b ≤ 600000000 → unsigned_abs (int_max a b) ≤ 600000000
max_small a b h k = omega (arith, ints, clamps)

small_span : (a b : Bounds) → IsSmallBox a → IsSmallBox b → IsSmallBox (span_of a b)
small_span a b h k = grind (arith, min_small, max_small)

either : (b : Bool) (x y : Bounds) → IsSmallBox x → IsSmallBox y → IsSmallBox (cond b x y)
either b x y h k = grind arith

-- the join of small boxes is small
pub small_join : (a b : Bounds) → IsSmallBox a → IsSmallBox b → IsSmallBox (join_of a b)
small_join a b h k = grind (arith, either, small_span)

pub small_joined : (a b joined : Bounds) → joined ≡ join_of a b → IsSmallBox a → IsSmallBox b → IsSmallBox joined
small_joined a b joined e h k = rw e (small_join a b h k)

-- the join of one more box
pub one_more : {X : Type 0} (f : X → Bounds) (xs : List X) (i : ℕ) (d : X) (here box joined : Bounds) → i < length xs
    → here ≡ fold (λ b x. join_of b (f x)) Empty (take i xs) → box ≡ f (get_or xs i d) → joined ≡ join_of here box
    → joined ≡ fold (λ b x. join_of b (f x)) Empty (take (i + 1) xs)
one_more f xs i d here box joined h e g k = grind (arith, fold_more)
