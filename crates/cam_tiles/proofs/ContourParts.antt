-- Parts of contours: what their segments change, one part after another, and at which heights.
use Rattle.std.proofs.Common.{◌≡◌, ℕ, ◌+◌, ◌-◌, ◌<◌, ◌≤◌, min, Bool, false, IsTrue, ◌⊎◌, inl, inr, List, [], ◌∷◌, ◌++◌, length}
use Rattle.std.proofs.Common.{drop, get_or, Option, Some, refl, sym, ap, subst, ◌∙◌, arith}
use Rattle.std.specs.List.{All}
use Rattle.std.specs.Prelude.{slice_get}
use Rattle.std.proofs.lemmas.List.{append-nil, append_assoc, drop_all, drop_more, length-drop, take-append-drop}
use Rattle.std.proofs.lemmas.List.Elements.{All-drop, All-head, All-tail, All-take}
use Rattle.cam_units.specs.Board.{IsOnBoard}
use Rattle.cam_units.specs.declared.point.Point.{Point}
use Rattle.cam_units.specs.declared.point.Spot.{Spot}
use Rattle.cam_shapes.specs.declared.segments.Seg.{Seg}
use Rattle.cam_shapes.specs.Contour.{IsSoundSeg, end_of}
use Rattle.cam_shapes.specs.Edge.{crosses_ray, edge}
use Rattle.cam_shapes.specs.Sides.{change_side, changes_side, differ}
use Rattle.cam_tiles.specs.declared.masks.heights.Heights.{Heights}
use Rattle.cam_tiles.specs.Machinery.Masks.{IsWithin}
use Rattle.cam_tiles.specs.Machinery.Parts.{AreHeightsOf, ChangeWithin, behind_part, change_sides, end_from, first_part}
use Rattle.cam_tiles.proofs.TurnedContours.{Turning, TurnsBut, differ_same, last_turned, sound_end, turned_on, turned_so}

-- ---- the first part of segments, and those behind it

pub parts_joined : (segs : List Seg) → first_part segs ++ behind_part segs ≡ segs
unfolding first_part behind_part
parts_joined segs = take-append-drop (min (length segs) 32) segs

pub fewer_behind : (segs : List Seg) → 0 < length segs → length (behind_part segs) < length segs
unfolding behind_part
fewer_behind segs some = omega (arith, length-drop (min (length segs) 32) segs)

pub sound_first : (segs : List Seg) → All IsSoundSeg segs → All IsSoundSeg (first_part segs)
unfolding first_part
sound_first segs sound = All-take IsSoundSeg (min (length segs) 32) segs sound

pub sound_behind : (segs : List Seg) → All IsSoundSeg segs → All IsSoundSeg (behind_part segs)
unfolding behind_part
sound_behind segs sound = All-drop IsSoundSeg (min (length segs) 32) segs sound

-- ---- ends

pub ends_on_board : (here : Point) (segs : List Seg) → IsOnBoard here → All IsSoundSeg segs → IsOnBoard (end_from here segs)
ends_on_board here [] on sound = on
ends_on_board here (seg ∷ segs) on sound =
    ends_on_board (end_of seg) segs (sound_end seg (All-head IsSoundSeg seg segs sound)) (All-tail IsSoundSeg seg segs sound)

before_last : (x y : Seg) (segs : List Seg) (o : Option Seg)
    → slice_get (x ∷ y ∷ segs) (length (x ∷ y ∷ segs) - 1) ≡ o → slice_get (y ∷ segs) (length (y ∷ segs) - 1) ≡ o
before_last x y segs o h = grind arith

pub end_is : (here : Point) (segs : List Seg) (seg : Seg) → slice_get segs (length segs - 1) ≡ Some seg
    → end_of seg ≡ end_from here segs
end_is here [] seg h = absurd cc
end_is here (x ∷ []) seg h = let same : x ≡ seg = cc in ap end_of (sym same)
end_is here (x ∷ y ∷ segs) seg h = end_is (end_of x) (y ∷ segs) seg (before_last x y segs (Some seg) h)

pub end_more : (here there : Point) (segs : List Seg) (k : ℕ) (d : Seg) → k < length segs → there ≡ end_of (get_or segs k d)
    → end_from there (drop (k + 1) segs) ≡ end_from here (drop k segs)
end_more here there segs k d more is = grind (arith, drop_more)

pub end_all : (here : Point) (segs : List Seg) (k : ℕ) → length segs ≤ k → end_from here (drop k segs) ≡ here
end_all here segs k all = ap (end_from here) (drop_all k segs all)

-- ---- sides

differ_three : (a b c : Bool) → differ a (differ b c) ≡ differ (differ a b) c
differ_three a b c = grind arith

pub either_differs : (a b : Bool) → IsTrue (differ a b) → IsTrue a ⊎ IsTrue b
either_differs a b h = grind arith

-- one part after another
part_changes : (s : Spot) (start here : Point) (part rest : List Seg)
    → change_side s start here (part ++ rest) ≡ differ (change_sides s here part) (change_side s start (end_from here part) rest)
part_changes s start here [] rest = refl
part_changes s start here (seg ∷ part) rest = grind (arith, differ_three, part_changes s start (end_of seg) part rest)

pub next_changes : (s : Spot) (here : Point) (segs : List Seg) (k : ℕ) (d : Seg) → k < length segs
    → change_sides s here (drop k segs)
    ≡ differ (changes_side s here (get_or segs k d)) (change_sides s (end_of (get_or segs k d)) (drop (k + 1) segs))
next_changes s here segs k d more = ap (change_sides s here) (drop_more segs k d more)

pub none_changes : (s : Spot) (here : Point) (segs : List Seg) (k : ℕ) → length segs ≤ k
    → change_sides s here (drop k segs) ≡ false
none_changes s here segs k all = ap (change_sides s here) (drop_all k segs all)

-- ---- what is turned over

module _ {M : Type 0} (Turned : (Spot → Bool) → M → M → Type 0) (law : Turning Turned) where
  -- the segments of a part from a point have turned it but those that are left
  abbrev pub TurnsPartBut : Point → Point → List Seg → List Seg → M → M → Type 0
  TurnsPartBut from here left part = Turned (λ s. differ (change_sides s here left) (change_sides s from part))

  pub none_of_part : (from : Point) (part : List Seg) (old : M) → TurnsPartBut from from part part old old
  none_of_part from part old =
      turned_so Turned law (λ s. false) (λ s. differ (change_sides s from part) (change_sides s from part))
      (λ s. sym (differ_same (change_sides s from part))) (law.none old)

  pub next_of_part : {old between new : M} (from here there : Point) (part : List Seg) (k : ℕ) (d : Seg) → k < length part
      → there ≡ end_of (get_or part k d)
      → TurnsPartBut from here (drop k part) part old between
      → Turned (λ s. changes_side s here (get_or part k d)) between new
      → TurnsPartBut from there (drop (k + 1) part) part old new
  next_of_part from here there part k d more is =
      turned_on Turned law (λ s. change_sides s here (drop k part)) (λ s. changes_side s here (get_or part k d))
      (λ s. change_sides s there (drop (k + 1) part)) (λ s. change_sides s from part)
      (λ s. next_changes s here part k d more
      ∙ ap (λ p. differ (changes_side s here (get_or part k d)) (change_sides s p (drop (k + 1) part))) (sym is))

  pub all_of_part : {old new : M} (from here : Point) (part : List Seg) (k : ℕ) → length part ≤ k
      → TurnsPartBut from here (drop k part) part old new → Turned (λ s. change_sides s from part) old new
  all_of_part from here part k all = grind (arith, turned_so, none_changes)

  module _ (start : Point) where
    -- the first part of the segments that are left
    pub part_turned : {old between new : M} (here there : Point) (left all : List Seg) → there ≡ end_from here (first_part left)
        → TurnsBut Turned start here left all old between
        → Turned (λ s. change_sides s here (first_part left)) between new
        → TurnsBut Turned start there (behind_part left) all old new
    part_turned here there left all is =
        turned_on Turned law (λ s. change_side s start here left) (λ s. change_sides s here (first_part left))
        (λ s. change_side s start there (behind_part left)) (λ s. change_side s start start all)
        (λ s. ap (change_side s start here) (sym (parts_joined left))
        ∙ part_changes s start here (first_part left) (behind_part left)
        ∙ ap (λ p. differ (change_sides s here (first_part left)) (change_side s start p (behind_part left))) (sym is))

    -- all that are left, and the line that closes them
    pub rest_turned : {old between later new : M} (here there : Point) (left all : List Seg) → there ≡ end_from here left
        → TurnsBut Turned start here left all old between → Turned (λ s. change_sides s here left) between later
        → Turned (λ s. crosses_ray s (edge there start)) later new → Turned (λ s. change_side s start start all) old new
    rest_turned {old = old} {between = between} {later = later} {new = new} here there left all is h k =
        last_turned Turned law start there [] all refl
        (turned_on Turned law (λ s. change_side s start here left) (λ s. change_sides s here left)
        (λ s. change_side s start there []) (λ s. change_side s start start all)
        (λ s. ap (change_side s start here) (sym (append-nil left)) ∙ part_changes s start here left []
        ∙ ap (λ p. differ (change_sides s here left) (change_side s start p [])) (sym is)) h k)

-- ---- heights

-- the heights of the next part
pub next_heights : (here : Point) (segs : List Seg) (heights : List Heights) (k : ℕ) (d : Heights) → k < length heights
    → AreHeightsOf here segs (drop k heights)
    → ChangeWithin (get_or heights k d) here (first_part segs)
    × AreHeightsOf (end_from here (first_part segs)) (behind_part segs) (drop (k + 1) heights)
next_heights here segs heights k d more h = subst (AreHeightsOf here segs) (drop_more heights k d more) h

-- heights that were found so far, if others are found for the segments that are left
abbrev pub AreFoundBut : Point → Point → List Seg → List Seg → List Heights → Type 0
AreFoundBut start here left all heights =
    (more : List Heights) → AreHeightsOf here left more → AreHeightsOf start all (heights ++ more)

pub one_found : (start here : Point) (left all : List Seg) (heights : List Heights) (h : Heights)
    → ChangeWithin h here (first_part left) → AreFoundBut start here left all heights
    → AreFoundBut start (end_from here (first_part left)) (behind_part left) all (heights ++ h ∷ [])
one_found start here left all heights h within found more those = grind (arith, append_assoc)

pub all_found : (start here : Point) (left all : List Seg) (heights : List Heights) → AreFoundBut start here left all heights
    → AreHeightsOf start all heights
all_found start here left all heights found = subst (AreHeightsOf start all) (append-nil heights) (found [] tt)

-- what segments change lies within heights so far, or the segments that are left change it
abbrev pub ChangeWithinBut : Heights → Point → Point → List Seg → List Seg → Type 0
ChangeWithinBut h from here left part =
    (s : Spot) → IsTrue (change_sides s from part) → IsWithin h s ⊎ IsTrue (change_sides s here left)

pub next_within : (h next joined : Heights) (from here there : Point) (part : List Seg) (k : ℕ) (d : Seg) → k < length part
    → there ≡ end_of (get_or part k d)
    → ((s : Spot) → IsTrue (changes_side s here (get_or part k d)) → IsWithin next s)
    → ((s : Spot) → IsWithin h s ⊎ IsWithin next s → IsWithin joined s)
    → ChangeWithinBut h from here (drop k part) part → ChangeWithinBut joined from there (drop (k + 1) part) part
next_within h next joined from here there part k d more is own either so_far s changes =
    elim (so_far s changes) [
      | inl within ↦ inl (either s (inl within))
      | inr left ↦
          (let seg = get_or part k d in
          elim (either_differs (changes_side s here seg) (change_sides s (end_of seg) (drop (k + 1) part))
          (subst (λ (b : Bool). IsTrue b) (next_changes s here part k d more) left)) [
            | inl first ↦ inl (either s (inr (own s first)))
            | inr later ↦ inr (subst (λ (p : Point). IsTrue (change_sides s p (drop (k + 1) part))) (sym is) later)
          ])
    ]
