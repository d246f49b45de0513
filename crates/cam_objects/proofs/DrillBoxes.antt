-- the boxes of routs
use Rattle.std.proofs.Common.{◌≡◌, ℕ, ◌+◌, ℤ, pos, ◌-ℤ◌, ◌+ℤ◌, ◌≤ℤ◌, true, List, [], ◌∷◌, refl, sym, ap, ◌∙◌, arith}
use Rattle.std.specs.Prelude.{fold}
use Rattle.std.specs.List.{All}
use Rattle.std.specs.Int.{int_min, int_max}
use Rattle.std.proofs.lemmas.Int.{ints, clamps}
use Rattle.std.proofs.lemmas.List.Elements.{All-head, All-tail}
use Rattle.cam_units.specs.Board.{IsOnBoard, IsSize}
use Rattle.cam_units.specs.Boxes.{join_of}
use Rattle.cam_units.specs.declared.bounds.Bounds.{Bounds}
use Rattle.cam_units.specs.declared.bounds.Bounds.TheVariants.{Empty, Closed}
use Rattle.cam_units.specs.declared.length.Nm.{Nm}
use Rattle.cam_units.specs.declared.point.Point.{Point}
use Rattle.cam_apertures.specs.Primitives.{box_of_point}
use Rattle.cam_apertures.proofs.Corners.{same_box}
use Rattle.cam_objects.specs.Bounds.{bounds_of, box_of_all, box_of_shape, widened}
use Rattle.cam_objects.specs.Drilling.{rout_leaves, slots_from}
use Rattle.cam_objects.specs.Machinery.Boxes.{IsNearBox}
use Rattle.cam_objects.proofs.BoxJoins.{join_assoc, joined}
use Rattle.cam_objects.proofs.BoxLimits.{IsBoxWithin, has_place, within_all, within_join, within_near, within_widened}
use Rattle.cam_objects.proofs.CopyBoxes.{join_self}
use Rattle.cam_objects.proofs.PlacedShapes.{stroke}
use Rattle.cam_objects.proofs.SizedLeaves.{board_point, inner}

least_widened : (a b w : ℤ) → int_min a b -ℤ w ≡ int_min (a -ℤ w) (b -ℤ w)
least_widened a b w = omega (arith, ints, clamps)

most_widened : (a b w : ℤ) → int_max a b +ℤ w ≡ int_max (a +ℤ w) (b +ℤ w)
most_widened a b w = omega (arith, ints, clamps)

-- a join is widened with its boxes, where they stand in order
pub widened_join : (n m : ℕ) (w : ℤ) (a b : Bounds) → pos 0 ≤ℤ w → w ≤ℤ pos m → IsBoxWithin n a → IsBoxWithin n b
    → widened w (join_of a b) ≡ join_of (widened w a) (widened w b)
widened_join n m w Empty b some few h k = refl
widened_join n m w (Closed p q) Empty some few h k =
    let wide = within_widened m n w (Closed p q) some few h in
    ap (widened w) (λ i. joined (has_place n p q h i) true (Closed p q) Empty)
    ∙ sym (λ i. joined (has_place (n + m) _ _ wide i) true (widened w (Closed p q)) Empty)
widened_join n m w (Closed p q) (Closed p' q') some few h k =
    let wide = within_widened m n w (Closed p q) some few h in
    let wide' = within_widened m n w (Closed p' q') some few k in
    ap (widened w) (λ i. joined (has_place n p q h i) (has_place n p' q' k i) (Closed p q) (Closed p' q'))
    ∙ same_box _ _ _ _ _ _ _ _ (least_widened p.x p'.x w) (least_widened p.y p'.y w) (most_widened q.x q'.x w) (most_widened q.y q'.y w)
    ∙ sym (λ i. joined (has_place (n + m) _ _ wide i) (has_place (n + m) _ _ wide' i) (widened w (Closed p q)) (widened w (Closed p' q')))

-- the slots behind a point that the box so far holds
slots_box : (d : Nm) (z : Bounds) (here : Point) (ps : List Point) → IsSize d.0 → IsBoxWithin inner z → IsOnBoard here → All IsOnBoard ps
    → join_of z (box_of_point here) ≡ z
    → fold (λ all l. join_of all (box_of_shape l.shape)) (widened d.0 z) (slots_from d here ps)
    ≡ widened d.0 (fold (λ all p. join_of all (box_of_point p)) z ps)
slots_box d z here [] size h board all held = refl
slots_box d z here (p ∷ ps) size h board all held =
    let to = All-head IsOnBoard p ps all in
    let ends = join_of (box_of_point here) (box_of_point p) in
    let ends_in = within_join inner (box_of_point here) (box_of_point p) (board_point here board) (board_point p to) in
    let next = join_of z (box_of_point p) in
    let step : join_of (widened d.0 z) (box_of_shape (stroke here p d)) ≡ widened d.0 next =
    sym (widened_join inner 200000000 d.0 z ends size.0 size.1 h ends_in)
    ∙ ap (widened d.0) (sym (join_assoc z (box_of_point here) (box_of_point p)) ∙ ap (λ b. join_of b (box_of_point p)) held) in
    ap (λ b. fold (λ all l. join_of all (box_of_shape l.shape)) b (slots_from d p ps)) step
    ∙ slots_box d next p ps size (within_join inner z (box_of_point p) h (board_point p to)) to (All-tail IsOnBoard p ps all)
    (join_assoc z (box_of_point p) (box_of_point p) ∙ ap (join_of z) (join_self (box_of_point p)))

pub points_within : (ps : List Point) → All IsOnBoard ps → IsBoxWithin inner (box_of_all box_of_point ps)
points_within ps h = within_all inner box_of_point ps (λ k e below. board_point _ (h k e below))

pub points_near : (ps : List Point) → All IsOnBoard ps → IsNearBox (box_of_all box_of_point ps)
points_near ps h = within_near inner (box_of_all box_of_point ps) (omega arith) (points_within ps h)

-- the box of a rout is that of its points, widened
pub rout_box : (d : Nm) (ps : List Point) → IsSize d.0 → All IsOnBoard ps
    → widened d.0 (box_of_all box_of_point ps) ≡ bounds_of (rout_leaves d ps)
rout_box d [] size h = refl
rout_box d (p ∷ []) size h = refl
rout_box d (p ∷ q ∷ ps) size h =
    let rest = All-tail IsOnBoard p (q ∷ ps) h in
    let from = All-head IsOnBoard p (q ∷ ps) h in
    let to = All-head IsOnBoard q ps rest in
    sym (slots_box d (join_of (box_of_point p) (box_of_point q)) q ps size
    (within_join inner (box_of_point p) (box_of_point q) (board_point p from) (board_point q to)) to (All-tail IsOnBoard q ps rest)
    (join_assoc (box_of_point p) (box_of_point q) (box_of_point q) ∙ ap (join_of (box_of_point p)) (join_self (box_of_point q))))
