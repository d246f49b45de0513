-- the leaves of a layer's items, one item after another
use Rattle.std.proofs.Common.{◌≡◌, ℕ, zero, suc, ◌<◌, ◌≤◌, List, [], ◌∷◌, length, map, get_or, Some, refl, sym, subst, arith}
use Rattle.std.specs.List.{flat_map}
use Rattle.std.specs.Prelude.{slice_get}
use Rattle.std.proofs.lemmas.List.{length-map}
use Rattle.std.proofs.lemmas.List.Folds.{flat_map-map}
use Rattle.cam_units.specs.Boxes.{HaveCommonPlace}
use Rattle.cam_units.specs.declared.bounds.Bounds.{Bounds}
use Rattle.cam_objects.specs.Bounds.{bounds_of}
use Rattle.cam_objects.specs.Cells.{box_at}
use Rattle.cam_objects.specs.Leaves.{Leaf}
use Rattle.cam_tiles.specs.declared.shown.Shown.{Shown}
use Rattle.cam_tiles.specs.Machinery.Shown.{leaves_by_item, leaves_of}

-- what holds of what each element paints holds of the list at its place
pub at_place : {X : Type 0} (f : X → List Leaf) (xs : List X) (k : ℕ) (P : List Leaf → Type 0) → k < length (map f xs)
    → ((x : X) → slice_get xs k ≡ Some x → P (f x)) → P (get_or (map f xs) k [])
at_place f [] k P within holds = absurd (omega arith)
at_place f (x ∷ xs) zero P within holds = holds x refl
at_place f (x ∷ xs) (suc k) P within holds = at_place f xs k P (omega arith) holds

-- all leaves are those of the items, one after another
pub leaves_are : (shown : Shown) → flat_map (λ leaves. leaves) (leaves_by_item shown) ≡ leaves_of shown
leaves_are shown = grind (arith, flat_map-map)

-- the box of what an element paints is that of the list at its place
box_at_place : {X : Type 0} (f : X → List Leaf) (xs : List X) (k : ℕ) → k < length (map f xs)
    → box_at (map (λ x. bounds_of (f x)) xs) k ≡ bounds_of (get_or (map f xs) k [])
box_at_place f [] k within = absurd (omega arith)
box_at_place f (x ∷ xs) zero within = refl
box_at_place f (x ∷ xs) (suc k) within = box_at_place f xs k (omega arith)

-- the lists at the places from one to another have no box in common with a box
abbrev pub AreApart : List (List Leaf) → Bounds → ℕ → ℕ → Type 0
AreApart lists near place end =
    (k : ℕ) → place ≤ k → k < end → k < length lists → HaveCommonPlace (bounds_of (get_or lists k [])) near → ⊥

-- it is so where the boxes are apart
pub apart_lists : {X : Type 0} (f : X → List Leaf) (xs : List X) (near : Bounds) (place end : ℕ)
    → ((k : ℕ) → place ≤ k → k < end → k < length (map (λ x. bounds_of (f x)) xs)
    → HaveCommonPlace (box_at (map (λ x. bounds_of (f x)) xs) k) near → ⊥)
    → AreApart (map f xs) near place end
apart_lists f xs near place end apart k low high listed common =
    apart k low high
    (omega (arith, listed, length-map {B = List Leaf} xs f, length-map {B = Bounds} xs (λ x. bounds_of (f x))))
    (subst (λ (b : Bounds). HaveCommonPlace b near) (sym (box_at_place f xs k listed)) common)
