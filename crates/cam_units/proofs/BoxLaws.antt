-- What the corners of boxes say of the places that they hold.
use Rattle.std.proofs.Common.{◌≡◌, Bool, true, false, IsTrue, ◌↔◌, ℤ, ◌≤ℤ◌, arith, refl}
use Rattle.std.specs.Prelude.{◌||◌, not}
use Rattle.std.specs.Int.{int_min, int_max}
use Rattle.std.specs.Int.RustNames.{int_lt}
use Rattle.std.proofs.lemmas.Int.{ints, clamps}
use Rattle.cam_units.specs.declared.point.Spot.{Spot}
use Rattle.cam_units.specs.declared.bounds.Bounds.{Bounds}
use Rattle.cam_units.specs.declared.bounds.Bounds.TheVariants.{Empty, Closed}
use Rattle.cam_units.specs.Boxes.{IsInBox, Holds, HaveCommonPlace, IsWithin, IsLeastAround, least_of, greatest_of}
use Rattle.cam_units.specs.Boxes.{has_no_place, box_between, clip_of, span_of, join_of}

-- the least and the greatest of two numbers
max_le : (a b z : ℤ) → a ≤ℤ z → b ≤ℤ z → int_max a b ≤ℤ z
max_le a b z h k = omega (arith, ints, clamps)

le_max : (a b : ℤ) → (a ≤ℤ int_max a b) × (b ≤ℤ int_max a b)
le_max a b = (omega (arith, ints, clamps), omega (arith, ints, clamps))

le_min : (a b z : ℤ) → z ≤ℤ a → z ≤ℤ b → z ≤ℤ int_min a b
le_min a b z h k = omega (arith, ints, clamps)

min_le : (a b : ℤ) → (int_min a b ≤ℤ a) × (int_min a b ≤ℤ b)
min_le a b = (omega (arith, ints, clamps), omega (arith, ints, clamps))

after : {a b c : ℤ} → a ≤ℤ b → b ≤ℤ c → a ≤ℤ c
after h k = omega (arith, ints)

between_clip : (low high low' high' s : Spot) → IsInBox (greatest_of low low') (least_of high high') s
    ↔ (IsInBox low high s × IsInBox low' high' s)
between_clip low high low' high' s = (
  (λ h. (
    record {
      left = after (le_max low.x low'.x).0 h.left;
      right = after h.right (min_le high.x high'.x).0;
      below = after (le_max low.y low'.y).0 h.below;
      above = after h.above (min_le high.y high'.y).0;
    },
    record {
      left = after (le_max low.x low'.x).1 h.left;
      right = after h.right (min_le high.x high'.x).1;
      below = after (le_max low.y low'.y).1 h.below;
      above = after h.above (min_le high.y high'.y).1;
    },
  )),
  (λ h. record {
    left = max_le low.x low'.x s.x h.0.left h.1.left;
    right = le_min high.x high'.x s.x h.0.right h.1.right;
    below = max_le low.y low'.y s.y h.0.below h.1.below;
    above = le_min high.y high'.y s.y h.0.above h.1.above;
  }),
)

-- corners that are crossed hold no place, and others hold both corners
crossed : (x y x' y' sx sy : ℤ) → (int_lt x' x || int_lt y' y) ≡ true → x ≤ℤ sx → sx ≤ℤ x' → y ≤ℤ sy → sy ≤ℤ y' → ⊥
crossed x y x' y' sx sy e a b c d = grind (arith, ints)

through : {A B C : Type 0} → (A ↔ B) → (B ↔ C) → A ↔ C
through f g = ((λ a. g.0 (f.0 a)), (λ c. f.1 (g.1 c)))

between_places : (low high s : Spot) → Holds (box_between low high) s ↔ IsInBox low high s
between_places low high s = by (has_no_place (Closed low high)) refl
  where
    by : (v : Bool) → has_no_place (Closed low high) ≡ v → Holds (box_between low high) s ↔ IsInBox low high s
    by true e = rw e (
      (λ h. absurd h),
      (λ k. crossed low.x low.y high.x high.y s.x s.y e k.left k.right k.below k.above),
    )
    by false e = rw e ((λ h. h), (λ h. h))

pub clip_places : (a b : Bounds) (s : Spot) → Holds (clip_of a b) s ↔ (Holds a s × Holds b s)
clip_places a b s = grind (arith, through, between_places, between_clip)

uncrossed : (x y x' y' : ℤ) → (int_lt x' x || int_lt y' y) ≡ false → (x ≤ℤ x') × (y ≤ℤ y')
uncrossed x y x' y' e = (grind (arith, ints), grind (arith, ints))

same : (z : ℤ) → z ≤ℤ z
same z = omega (arith, ints)

corners : (low high : Spot) → has_no_place (Closed low high) ≡ false → IsInBox low high low × IsInBox low high high
corners low high e = grind (arith, uncrossed, same)

pub no_place : (a : Bounds) → IsTrue (has_no_place a) ↔ ((s : Spot) → Holds a s → ⊥)
no_place Empty = (λ h s k. k, λ h. refl)
no_place (Closed low high) = (
  (λ h s k. crossed low.x low.y high.x high.y s.x s.y h k.left k.right k.below k.above),
  (λ none. told (has_no_place (Closed low high)) (λ e. none low (corners low high e).0)),
)
  where
    told : (b : Bool) → (b ≡ false → ⊥) → IsTrue b
    told true h = refl
    told false h = absurd (h refl)

spans : (low high low' high' : Spot) → (other : Bounds) → has_no_place (Closed low high) ≡ false
    → has_no_place (Closed low' high') ≡ false
    → IsWithin (Closed low high) other → IsWithin (Closed low' high') other
    → IsWithin (Closed (least_of low low') (greatest_of high high')) other
spans low high low' high' Empty e e' first second = λ s h. first low (corners low high e).0
spans low high low' high' (Closed p q) e e' first second = λ s h.
    let a = first low (corners low high e).0 in
    let b = first high (corners low high e).1 in
    let c = second low' (corners low' high' e').0 in
    let d = second high' (corners low' high' e').1 in
    record {
      left = after (le_min low.x low'.x p.x a.left c.left) h.left;
      right = after h.right (max_le high.x high'.x q.x b.right d.right);
      below = after (le_min low.y low'.y p.y a.below c.below) h.below;
      above = after h.above (max_le high.y high'.y q.y b.above d.above);
    }

span_least : (a b : Bounds) → has_no_place a ≡ false → has_no_place b ≡ false → IsLeastAround a b (span_of a b)
span_least Empty b e e' = absurd (let bad : true ≡ false = e in cc)
span_least (Closed low high) Empty e e' = absurd (let bad : true ≡ false = e' in cc)
span_least (Closed low high) (Closed low' high') e e' = record {
  first = λ s h. record {
    left = after (min_le low.x low'.x).0 h.left;
    right = after h.right (le_max high.x high'.x).0;
    below = after (min_le low.y low'.y).0 h.below;
    above = after h.above (le_max high.y high'.y).0;
  };
  second = λ s h. record {
    left = after (min_le low.x low'.x).1 h.left;
    right = after h.right (le_max high.x high'.x).1;
    below = after (min_le low.y low'.y).1 h.below;
    above = after h.above (le_max high.y high'.y).1;
  };
  least = λ other f g. spans low high low' high' other e e' f g;
}

pub join_least : (a b : Bounds) → IsLeastAround a b (join_of a b)
join_least a b = by_first (has_no_place a) refl
  where
    by_second : (v : Bool) → has_no_place b ≡ v → has_no_place a ≡ false → IsLeastAround a b (join_of a b)
    by_second true e h = rw (h, e) record {
      first = λ s k. k;
      second = λ s k. absurd ((no_place b).0 e s k);
      least = λ other f g. f;
    }
    by_second false e h = rw (h, e) (span_least a b h e)

    by_first : (v : Bool) → has_no_place a ≡ v → IsLeastAround a b (join_of a b)
    by_first true e = rw e record {
      first = λ s k. absurd ((no_place a).0 e s k);
      second = λ s k. k;
      least = λ other f g. g;
    }
    by_first false e = by_second (has_no_place b) refl e

pub none_empty : (a b : Bounds) → has_no_place a ≡ false → has_no_place b ≡ false → span_of a b ≡ join_of a b
none_empty a b e f = rw (e, f) refl

some_place : (c : Bounds) → has_no_place c ≡ false → (s : Spot) × Holds c s
some_place Empty e = absurd (let bad : true ≡ false = e in cc)
some_place (Closed low high) e = (low, (corners low high e).0)

-- boxes meet where their common box is not empty
pub meeting : (a b : Bounds) → IsTrue (not (has_no_place (clip_of a b))) ↔ HaveCommonPlace a b
meeting a b = (
  (λ h. let found = some_place (clip_of a b) (opened (has_no_place (clip_of a b)) h) in
      (found.0, (clip_places a b found.0).0 found.1)),
  (λ found. closed (has_no_place (clip_of a b))
      (λ none. (no_place (clip_of a b)).0 none found.0 ((clip_places a b found.0).1 found.1))),
)
  where
    opened : (v : Bool) → IsTrue (not v) → v ≡ false
    opened true h = cc
    opened false h = refl

    closed : (v : Bool) → (IsTrue v → ⊥) → IsTrue (not v)
    closed true h = absurd (h refl)
    closed false h = refl

-- boxes apart have an empty common box
apart_is : (v : Bool) → ((v ≡ false) → ⊥) → v ≡ true
apart_is v h = grind arith

empty_between : (low high : Spot) → has_no_place (box_between low high) ≡ true → box_between low high ≡ Empty
empty_between low high = grind arith

empty_clip : (a b : Bounds) → has_no_place (clip_of a b) ≡ true → clip_of a b ≡ Empty
empty_clip a b h = grind (arith, empty_between)

pub clip_apart : (a b : Bounds) → (HaveCommonPlace a b → ⊥) → clip_of a b ≡ Empty
clip_apart a b apart = grind (arith, empty_clip, apart_is, some_place, clip_places)

-- the same of boxes that are known by an equation
pub clip_places_at : (a b r : Bounds) → r ≡ clip_of a b → (s : Spot) → Holds r s ↔ (Holds a s × Holds b s)
clip_places_at a b r e s = rw e (clip_places a b s)

pub join_least_at : (a b r : Bounds) → r ≡ join_of a b → IsLeastAround a b r
join_least_at a b r e = rw e (join_least a b)

pub no_place_at : (a : Bounds) (v : Bool) → v ≡ has_no_place a → IsTrue v ↔ ((s : Spot) → Holds a s → ⊥)
no_place_at a v e = rw e (no_place a)

pub clip_apart_at : (a b r : Bounds) → r ≡ clip_of a b → (HaveCommonPlace a b → ⊥) → r ≡ Empty
clip_apart_at a b r e = rw e (clip_apart a b)
