-- Edges by their ends: the heights that they cross, and places of which both ends lie on one side.
use Rattle.std.proofs.Common.{◌≡◌, ◌≢◌, ◌↔◌, ℤ, pos, ◌-ℤ◌, ◌*ℤ◌, ◌≤ℤ◌, ◌<◌, Bool, false, IsTrue, if◌then◌else◌, sym, ◌∙◌, arith}
use Rattle.std.specs.Int.{int_max, int_min}
use Rattle.std.specs.Int.RustNames.{int_lt, unsigned_abs}
use Rattle.std.proofs.lemmas.Bool.{false≢true}
use Rattle.std.proofs.lemmas.Int.{by_lt_z, clamps, ints}
use Rattle.cam_refusals.specs.Limits.{board_limit}
use Rattle.cam_units.specs.declared.point.Point.{Point}
use Rattle.cam_units.specs.declared.point.Spot.{Spot}
use Rattle.cam_shapes.specs.Edge.{crosses_ray, edge, is_above}
use Rattle.cam_shapes.proofs.Boxes.{tells_right}
use Rattle.cam_shapes.proofs.Crossings.{not_under, under}
use Rattle.cam_tiles.specs.declared.masks.heights.Heights.{Heights}
use Rattle.cam_tiles.specs.Machinery.Masks.{IsWithin}
use Rattle.cam_tiles.proofs.GridLemmas.{long}

-- a number that only one of two others exceeds lies between them
apart_between : (y a b low high : ℤ) → low ≡ int_min a b → high ≡ int_max a b -ℤ pos 1
    → ((low ≤ℤ y) × (y ≤ℤ high)) ↔ (int_lt y a ≢ int_lt y b)
apart_between y a b low high is_low is_high = grind (arith, by_lt_z, ints, clamps, under, false≢true, not_under)

twice_least : (a b : ℤ) → pos 2 *ℤ int_min a b ≡ int_min (pos 2 *ℤ a) (pos 2 *ℤ b)
twice_least a b = omega (arith, ints, clamps)

twice_most : (a b : ℤ) → pos 2 *ℤ int_max a b ≡ int_max (pos 2 *ℤ a) (pos 2 *ℤ b)
twice_most a b = omega (arith, ints, clamps)

-- from the lower end on, up to below the higher one
pub between_ends : (p q : Point) (h : Heights) → h.low ≡ pos 2 *ℤ int_min p.y q.y
    → h.high ≡ pos 2 *ℤ int_max p.y q.y -ℤ pos 1 → (s : Spot) → IsWithin h s ↔ (is_above p s ≢ is_above q s)
between_ends p q h is_low is_high s = grind (arith, apart_between, twice_least, ints, twice_most)

two_apart : (a b met_falling met_rising : Bool)
    → IsTrue (if a then (if b then false else met_falling) else (if b then met_rising else false)) → a ≢ b
two_apart a b m n h e = grind (arith, false≢true)

-- only an edge with one end above the place meets the ray
pub met_apart : (s : Spot) (p q : Point) → IsTrue (crosses_ray s (edge p q)) → is_above p s ≢ is_above q s
met_apart s p q met = grind (arith, two_apart)

-- ---- places on one side of both ends

-- a ray from the right of both ends, or from below one, meets nothing
pub missed_right : (s : Spot) (p q : Point) → (pos 2 *ℤ p.x) ≤ℤ s.x → (pos 2 *ℤ q.x) ≤ℤ s.x
    → IsTrue (crosses_ray s (edge p q)) → ⊥
missed_right s p q a b met = false≢true (sym (tells_right s p q a b) ∙ met)

-- both ends, by the one that is further to the right
pub after_ends : (x a b right : ℤ) → right ≡ pos 2 *ℤ int_max a b → right ≤ℤ x → ((pos 2 *ℤ a) ≤ℤ x) × ((pos 2 *ℤ b) ≤ℤ x)
after_ends x a b right e h = (omega (arith, ints, clamps), omega (arith, ints, clamps))

-- which the code computes with 64 bits
kept : (m : ℤ) → unsigned_abs m < board_limit → long m ≡ m
kept m short = omega (arith, ints)

most_short : (a b m : ℤ) → m ≡ int_max a b → unsigned_abs a < board_limit → unsigned_abs b < board_limit
    → unsigned_abs m < board_limit
most_short a b m e f g = omega (arith, ints, clamps)

twice_kept : (m : ℤ) → unsigned_abs m < board_limit → long (pos 2 *ℤ long m) ≡ pos 2 *ℤ m
twice_kept m short = omega (arith, ints)

pub most_kept : (a b m : ℤ) → unsigned_abs a < board_limit → unsigned_abs b < board_limit
    → m ≡ int_max (long a) (long b) → long (pos 2 *ℤ long m) ≡ pos 2 *ℤ int_max a b
most_kept a b m near near_too e = grind (arith, long, kept, twice_kept, most_short)
