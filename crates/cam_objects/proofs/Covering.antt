-- leaves that cover a place
use Rattle.std.proofs.Common.{◌≡◌, ℕ, zero, suc, ◌<◌, List, [], ◌∷◌, length, map, get_or, Some, refl, sym, subst, arith}
use Rattle.std.specs.Prelude.{slice_get}
use Rattle.std.proofs.lemmas.List.{get_or_default}
use Rattle.cam_units.specs.declared.point.Spot.{Spot}
use Rattle.cam_shapes.proofs.TestLaws.{is_in_arc-meaning, is_in_capsule-meaning, is_in_contour-meaning, is_in_disc-meaning, is_in_swept-meaning}
use Rattle.cam_apertures.proofs.CoverLaws.{test_law}
use Rattle.cam_objects.specs.Image.{Covers, IsUncovered}
use Rattle.cam_objects.specs.Leaves.{Leaf}
use Rattle.cam_objects.specs.Tests.{CoverTestLaw, covers}
use Rattle.cam_objects.specs.Topmost.{IsCoveredBy}

pub cover_law : CoverTestLaw
unfolding covers
cover_law it s =
    grind (
      arith,
      test_law,
      is_in_capsule-meaning,
      is_in_swept-meaning,
      is_in_arc-meaning,
      is_in_contour-meaning,
      is_in_disc-meaning,
    )

pub bare_from_uncovered : (ls : List Leaf) (s : Spot) → IsUncovered ls s → IsCoveredBy ls s → ⊥
bare_from_uncovered ls s off any = off any.0 any.1 any.2 (subst (λ (l : Leaf). Covers l.shape s) (sym any.3) any.4)

pub uncovered_from_bare : (ls : List Leaf) (s : Spot) → (IsCoveredBy ls s → ⊥) → IsUncovered ls s
uncovered_from_bare ls s bare = λ k d below on. grind (arith, get_or_default)

one_at : (l x : Leaf) (k : ℕ) (s : Spot) → k < 1 → get_or (l ∷ []) k x ≡ x → Covers x.shape s → Covers l.shape s
one_at l x k s within is on = grind arith

pub one_covers : (l : Leaf) (s : Spot) → IsCoveredBy (l ∷ []) s → Covers l.shape s
one_covers l s any = one_at l any.1 any.0 s any.2 any.3 any.4

-- what holds of what each element paints holds of the list at its place
pub at_place : {X : Type 0} (f : X → List Leaf) (xs : List X) (k : ℕ) (P : List Leaf → Type 0) → k < length xs
    → ((x : X) → slice_get xs k ≡ Some x → P (f x)) → P (get_or (map f xs) k [])
at_place f [] k P within holds = absurd (omega arith)
at_place f (x ∷ xs) zero P within holds = holds x refl
at_place f (x ∷ xs) (suc k) P within holds = at_place f xs k P (omega arith) holds
