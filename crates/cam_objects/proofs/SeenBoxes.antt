-- what has a place in common with a box where it is painted has one with the box as it is seen from there
use Rattle.std.proofs.Common.{rules, ◌≡◌, ◌^◌, ◌<◌, ℤ, pos, negsuc, neg_ℤ, w64, ◌-ℤ◌, ◌*ℤ◌, ◌≤ℤ◌, arith}
use Rattle.std.specs.Int.RustNames.{unsigned_abs}
use Rattle.std.proofs.lemmas.Int.{clamps, ints}
use Rattle.std.specs.Int.{int_max, int_min, saturate_signed}
use Rattle.cam_units.specs.Boxes.{HaveCommonPlace, Holds, IsInBox}
use Rattle.cam_units.specs.declared.bounds.Bounds.{Bounds}
use Rattle.cam_units.specs.declared.bounds.Bounds.TheVariants.{Empty, Closed}
use Rattle.cam_units.specs.declared.point.Spot.{Spot}
use Rattle.cam_units.specs.declared.turn.Turn.{Turn}
use Rattle.cam_units.specs.declared.turn.Turn.TheVariants.{R0, R90, R180, R270, M0, M90, M180, M270}
use Rattle.cam_apertures.specs.Turned.{turned_box, turned_corners}
use Rattle.cam_objects.specs.declared.placing.place.Place.{Place}
use Rattle.cam_objects.specs.Machinery.Boxes.{IsBackFrom, IsNearBox, IsNearSpot, placed_bounds, turned_back}

-- ---- a coordinate that is moved back

cut_most : (x d : ℤ) → unsigned_abs x < 2 ^ 33 → x ≤ℤ d → x ≤ℤ saturate_signed w64 d
cut_most x d near h = grind (arith, ints)

cut_least : (x d : ℤ) → unsigned_abs x < 2 ^ 33 → d ≤ℤ x → saturate_signed w64 d ≤ℤ x
cut_least x d near h = grind (arith, ints)

pub back_from : (at by cut back : ℤ) → cut ≡ saturate_signed w64 (at -ℤ pos 2 *ℤ by)
    → back ≡ int_max (negsuc 8589934591) (int_min cut (pos 8589934592)) → IsBackFrom at by back
back_from at by cut back e f = search (rules, cut_most, ints, clamps, cut_least)

-- ---- a place that is taken back

-- a place before it was turned
abbrev before : Turn → Spot → Spot
before R0 s = s
before R90 s = record { x = s.y; y = neg_ℤ s.x }
before R180 s = record { x = neg_ℤ s.x; y = neg_ℤ s.y }
before R270 s = record { x = neg_ℤ s.y; y = s.x }
before M0 s = record { x = neg_ℤ s.x; y = s.y }
before M90 s = record { x = neg_ℤ s.y; y = neg_ℤ s.x }
before M180 s = record { x = s.x; y = neg_ℤ s.y }
before M270 s = record { x = s.y; y = s.x }

between : (low high s : Spot) → low.x ≤ℤ s.x → s.x ≤ℤ high.x → low.y ≤ℤ s.y → s.y ≤ℤ high.y → IsInBox low high s
between low high s left right below above = record { left = left; right = right; below = below; above = above }

-- it lay in the box that was turned
lay_in : (t : Turn) (low high s : Spot) → Holds (turned_corners t low high) s → IsInBox low high (before t s)
lay_in t low high s h = grind (arith, between, ints)

-- and in each box that it lies in, taken back
lies_in : (t : Turn) (low high s : Spot) → IsInBox low high s → Holds (turned_corners (turned_back t) low high) (before t s)
lies_in t low high s h = grind (arith, between, ints)

-- a place of a near box is near
near_place : (low high s : Spot) → IsNearSpot low → IsNearSpot high → IsInBox low high s → IsNearSpot s
near_place low high s a b h = grind (arith, ints)

-- so it is once it is turned
near_turned : (t : Turn) (s : Spot) → IsNearSpot (before t s) → IsNearSpot s
near_turned t s h = grind (arith, ints)

-- a place before it was moved by an offset
abbrev unmoved : Place → Spot → Spot
unmoved p s = record { x = s.x -ℤ pos 2 *ℤ p.offset.x; y = s.y -ℤ pos 2 *ℤ p.offset.y }

holds_unmoved : (p : Place) (b : Bounds) (s : Spot) → Holds (placed_bounds p b) s → Holds (turned_box p.turn b) (unmoved p s)
holds_unmoved p b s h = grind (arith, between, ints)

pub common_back : (p : Place) (b : Bounds) (low high low' high' : Spot) → IsNearBox b
    → IsBackFrom low.x p.offset.x low'.x → IsBackFrom low.y p.offset.y low'.y
    → IsBackFrom high.x p.offset.x high'.x → IsBackFrom high.y p.offset.y high'.y
    → HaveCommonPlace (placed_bounds p b) (Closed low high) → HaveCommonPlace b (turned_box (turned_back p.turn) (Closed low' high'))
common_back p Empty low high low' high' near left bottom right top common = absurd common.1.0
common_back p (Closed a b) low high low' high' near left bottom right top common =
    let s = unmoved p common.0 in
    let here = lay_in p.turn a b s (holds_unmoved p (Closed a b) common.0 common.1.0) in
    let close = near_turned p.turn s (near_place a b (before p.turn s) near.0 near.1 here) in
    let seen = common.1.1 in (
      before p.turn s,
      (
        here,
        lies_in p.turn low' high' s (between low' high' s
            (left.least s.x close.x (omega (arith, ints, seen.left)))
            (right.most s.x close.x (omega (arith, ints, seen.right)))
            (bottom.least s.y close.y (omega (arith, ints, seen.below)))
            (top.most s.y close.y (omega (arith, ints, seen.above)))),
      ),
    )
