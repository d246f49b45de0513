-- the topmost item at a place
use Rattle.std.proofs.Common.{◌≡◌, ℕ, zero, suc, ◌+◌, ◌<◌, ◌≤◌, true, inl, inr, List, [], ◌∷◌, length, map, sym, subst, arith}
use Rattle.std.specs.List.{flat_map}
use Rattle.std.proofs.lemmas.Bool.{cases_lt}
use Rattle.std.proofs.lemmas.List.{get_or-map, length-map}
use Rattle.std.proofs.lemmas.Int.{ints}
use Rattle.cam_units.specs.Boxes.{HaveCommonPlace, Holds, IsInBox}
use Rattle.cam_units.specs.declared.bounds.Bounds.{Bounds}
use Rattle.cam_units.specs.declared.bounds.Bounds.TheVariants.{Closed, Empty}
use Rattle.cam_units.specs.declared.point.Spot.{Spot}
use Rattle.cam_objects.specs.Bounds.{bounds_of}
use Rattle.cam_objects.specs.Cells.{box_at}
use Rattle.cam_objects.specs.Drilling.{drill_item_leaves}
use Rattle.cam_objects.specs.Image.{Covers, IsBlack, IsPainted, IsUncovered}
use Rattle.cam_objects.specs.Leaves.{Leaf, item_leaves, meaning_in}
use Rattle.cam_objects.specs.Topmost.{IsBlackByTopmost, IsCoveredBy, IsTopmost, TopmostLaw, leaves_at}
use Rattle.cam_objects.proofs.Covering.{bare_from_uncovered, uncovered_from_bare}
use Rattle.cam_objects.proofs.CoveredBoxes.{outside_box}
use Rattle.cam_objects.proofs.Inking.{painted_after, uncovered_append, uncovered_nil}
use Rattle.cam_objects.proofs.LastInks.{covered_by, painted_before, painted_covered, painted_split}
use Rattle.cam_objects.proofs.Painting.{All_left, All_right}

-- ---- from the last item down

-- no item from one place on, under another, covers it
abbrev pub AreBareFrom : List (List Leaf) → Spot → ℕ → ℕ → Type 0
AreBareFrom lists s from before =
    (j : ℕ) → from ≤ j → j < before → j < length lists → IsCoveredBy (leaves_at lists j) s → ⊥

-- so it is of items whose boxes lie elsewhere
abbrev pub AreElsewhere : List Bounds → Spot → ℕ → ℕ → Type 0
AreElsewhere boxes s first end =
    (k : ℕ) → first ≤ k → k < end → k < length boxes → HaveCommonPlace (box_at boxes k) (Closed s s) → ⊥

self : (s : Spot) → IsInBox s s s
self s = grind (arith, ints)

bare_elsewhere : (lists : List (List Leaf)) (s : Spot) (first end k : ℕ) → AreElsewhere (map bounds_of lists) s first end
    → first ≤ k → k < end → k < length lists → IsCoveredBy (leaves_at lists k) s → ⊥
bare_elsewhere lists s first end k apart low high listed any =
    let leaves = leaves_at lists k in
    let box : box_at (map bounds_of lists) k ≡ bounds_of leaves = get_or-map bounds_of lists k [] Empty listed in
    bare_from_uncovered leaves s
    (outside_box leaves s
    (λ held. apart k low high (omega (arith, listed, length-map {B = Bounds} lists bounds_of))
    (s, (subst (λ (b : Bounds). Holds b s) (sym box) held, self s)))) any

pub bare_down : (lists : List (List Leaf)) (s : Spot) (before end first : ℕ) → AreBareFrom lists s end before
    → AreElsewhere (map bounds_of lists) s first end → AreBareFrom lists s first before
bare_down lists s before end first bare apart j low high listed = elim (cases_lt j end) [
  | inl under ↦ bare_elsewhere lists s first end j apart low under listed
  | inr over ↦ bare j over high listed
]

pub bare_one : (lists : List (List Leaf)) (s : Spot) (before place end : ℕ) → end ≡ place + 1 → AreBareFrom lists s end before
    → (IsCoveredBy (leaves_at lists place) s → ⊥) → AreBareFrom lists s place before
bare_one lists s before place end is bare here j low high listed = elim (cases_lt place j) [
  | inl over ↦ bare j (omega arith) high listed
  | inr same ↦ subst (λ k. IsCoveredBy (leaves_at lists k) s → ⊥) (omega arith) here
]

-- ---- the law

abbrev IsOff : Spot → Leaf → Type 0
IsOff s l = Covers l.shape s → ⊥

module _ {X : Type 0} (paints : X → List Leaf) where
  -- where no leaf of the items covers the place, none of the items does
  bare_items : (items : List X) (s : Spot) (j : ℕ) → IsUncovered (flat_map paints items) s
      → IsCoveredBy (leaves_at (map paints items) j) s → ⊥
  bare_items [] s j off any = bare_from_uncovered [] s (uncovered_nil s) any
  bare_items (x ∷ items) s zero off any =
      bare_from_uncovered (paints x) s (All_left (IsOff s) (paints x) (flat_map paints items) off) any
  bare_items (x ∷ items) s (suc j) off any =
      bare_items items s j (All_right (IsOff s) (paints x) (flat_map paints items) off) any

  uncovered_items : (items : List X) (s : Spot)
      → ((j : ℕ) → j < length (map paints items) → IsCoveredBy (leaves_at (map paints items) j) s → ⊥)
      → IsUncovered (flat_map paints items) s
  uncovered_items [] s bare = uncovered_nil s
  uncovered_items (x ∷ items) s bare =
      uncovered_append s (paints x) (flat_map paints items) (uncovered_from_bare (paints x) s (bare 0 (omega arith)))
      (uncovered_items items s (λ j listed. bare (suc j) (omega arith)))

  abbrev BlackByTopmost : List X → Spot → Type 0
  BlackByTopmost items s =
      let lists = map paints items in
      (k : ℕ) × (IsTopmost lists s (length lists) k × IsPainted (leaves_at lists k) s true)

  topmost_later : (x : X) (items : List X) (s : Spot) → BlackByTopmost items s → BlackByTopmost (x ∷ items) s
  topmost_later x items s h = (
    suc h.0,
    (
      record {
        under = omega (arith, h.1.0.under);
        listed = omega (arith, h.1.0.listed);
        covered = h.1.0.covered;
        others = over;
      },
      h.1.1,
    ),
  )
    where
      over : (j : ℕ) → suc h.0 < j → j < length (map paints (x ∷ items)) → j < length (map paints (x ∷ items))
          → IsCoveredBy (leaves_at (map paints (x ∷ items)) j) s → ⊥
      over zero low high listed any = absurd (omega arith)
      over (suc j) low high listed any = h.1.0.others j (omega arith) (omega arith) (omega arith) any

  topmost_first : (x : X) (items : List X) (s : Spot) → IsPainted (paints x) s true → IsUncovered (flat_map paints items) s
      → BlackByTopmost (x ∷ items) s
  topmost_first x items s painted off =
      (0, (record { under = omega arith; listed = omega arith; covered = covered_by (paints x) s true painted; others = over }, painted))
    where
      over : (j : ℕ) → 0 < j → j < length (map paints (x ∷ items)) → j < length (map paints (x ∷ items))
          → IsCoveredBy (leaves_at (map paints (x ∷ items)) j) s → ⊥
      over zero low high listed any = absurd (omega arith)
      over (suc j) low high listed any = bare_items items s j off any

  to_topmost : (items : List X) (s : Spot) → IsBlack (flat_map paints items) s → BlackByTopmost items s
  to_topmost [] s h = absurd (painted_covered s [] true h (uncovered_nil s))
  to_topmost (x ∷ items) s h = elim (painted_split s (paints x) (flat_map paints items) true h) [
    | inl later ↦ topmost_later x items s (to_topmost items s later)
    | inr first ↦ topmost_first x items s first.1 first.0
  ]

  from_topmost : (items : List X) (s : Spot) (k : ℕ) → let lists = map paints items in
      IsTopmost lists s (length lists) k → IsPainted (leaves_at lists k) s true → IsBlack (flat_map paints items) s
  from_topmost [] s k top painted = absurd (omega (arith, top.listed))
  from_topmost (x ∷ items) s zero top painted =
      painted_before s (paints x) (flat_map paints items) true painted
      (uncovered_items items s (λ j listed. top.others (suc j) (omega arith) (omega arith) (omega arith)))
  from_topmost (x ∷ items) s (suc k) top painted =
      painted_after s (paints x) (flat_map paints items) true
      (from_topmost items s k (record {
        under = omega (arith, top.under);
        listed = omega (arith, top.listed);
        covered = top.covered;
        others = λ j low high listed. top.others (suc j) (omega arith) (omega arith) (omega arith);
      }) painted)

  black_by_topmost : IsBlackByTopmost paints
  black_by_topmost items s = (to_topmost items s, λ h. from_topmost items s h.0 h.1.0 h.1.1)

one_topmost : (lists : List (List Leaf)) (s : Spot) (before j k : ℕ) → IsTopmost lists s before j
    → IsTopmost lists s before k → j ≡ k
one_topmost lists s before j k first second = elim (cases_lt j k) [
  | inl less ↦ absurd (first.others k less second.under second.listed second.covered)
  | inr most ↦ elim (cases_lt k j) [
    | inl less ↦ absurd (second.others j less first.under first.listed first.covered)
    | inr least ↦ omega arith
  ]
]

pub topmost_law : TopmostLaw
topmost_law = record {
  items = λ entries. black_by_topmost (item_leaves (meaning_in entries));
  drill_items = λ tools. black_by_topmost (drill_item_leaves tools);
  one = one_topmost;
}
