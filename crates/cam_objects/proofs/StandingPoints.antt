-- the control points of contours and of objects that stand on the board
use Rattle.std.proofs.Common.{◌≡◌, List, [], ◌∷◌, Bool, IsTrue, ◌↔◌, sym, subst}
use Rattle.std.specs.List.{All, flat_map}
use Rattle.std.proofs.lemmas.List.Elements.{All-append, All-cons, All-head, All-nil, All-tail}
use Rattle.cam_units.specs.Board.{IsOnBoard}
use Rattle.cam_shapes.specs.declared.contour.Contour.{Contour}
use Rattle.cam_objects.specs.declared.object.Object.{Object}
use Rattle.cam_objects.specs.Machinery.Painting.{StandsOnBoard}
use Rattle.cam_objects.specs.Soundness.{points_of_contour, points_of_seg}
use Rattle.cam_objects.proofs.Painting.{All_left, All_right}

-- what holds of the elements of all lists
pub all_flat_map : {X Y : Type 0} (P : Y → Type 0) (f : X → List Y) (xs : List X) → All (λ x. All P (f x)) xs ↔ All P (flat_map f xs)
all_flat_map P f [] = ((λ h. All-nil P), (λ h. All-nil (λ x. All P (f x))))
all_flat_map P f (x ∷ xs) =
    let rest = all_flat_map P f xs in (
      (λ h. All-append P (f x) (flat_map f xs) (All-head (λ y. All P (f y)) x xs h) (rest.0 (All-tail (λ y. All P (f y)) x xs h))),
      (λ h. All-cons (λ y. All P (f y)) x xs (All_left P (f x) (flat_map f xs) h) (rest.1 (All_right P (f x) (flat_map f xs) h))),
    )

pub contour_stands : (c : Contour) (b : Bool) → IsOnBoard c.start → IsTrue b ↔ All (λ s. All IsOnBoard (points_of_seg s)) c.segs
    → IsTrue b ↔ All IsOnBoard (points_of_contour c)
contour_stands c b start told = (
  (λ h. All-cons IsOnBoard c.start (flat_map points_of_seg c.segs) start ((all_flat_map IsOnBoard points_of_seg c.segs).0 (told.0 h))),
  (λ h. told.1 ((all_flat_map IsOnBoard points_of_seg c.segs).1 (All-tail IsOnBoard c.start (flat_map points_of_seg c.segs) h))),
)

pub stands_is : (o p : Object) (b : Bool) → o ≡ p → IsTrue b ↔ StandsOnBoard p → IsTrue b ↔ StandsOnBoard o
stands_is o p b e told = subst (λ q. IsTrue b ↔ StandsOnBoard q) (sym e) told
