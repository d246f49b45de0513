-- what lists ask for, painted on a canvas one element beneath another
use Rattle.std.proofs.lemmas.Grind.{common_steps}
use Rattle.std.proofs.Common.{◌≡◌, ℕ, ◌+◌, ◌-◌, ◌<◌, ◌≤◌, Bool, true, Option, List, [], ◌∷◌, length, drop, get_or, arith}
use Rattle.std.specs.List.{flat_map, range_with_len}
use Rattle.std.proofs.lemmas.List.{drop_more, length-drop}
use Rattle.std.proofs.lemmas.List.FromFn.{length-range_with_len}
use Rattle.cam_units.specs.declared.length.Nm.{Nm}
use Rattle.cam_units.specs.declared.point.Point.{Point}
use Rattle.cam_units.specs.declared.point.Spot.{Spot}
use Rattle.cam_objects.specs.Canvases.{Paints}
use Rattle.cam_objects.specs.Drilling.{rout_leaves}
use Rattle.cam_objects.specs.Leaves.{Leaf, Stroke, leaf}
use Rattle.cam_objects.specs.Machinery.Slots.{slots_of}
use Rattle.cam_objects.proofs.Canvases.{paints_beneath, paints_next, paints_nothing}
use Rattle.cam_objects.proofs.Painting.{at_range}

-- ---- the slots of a rout

abbrev slot : Nm → Point → Point → Leaf
slot d p q = leaf (Stroke (record { from = p; to = q; width = d })) true

-- one slot more in front, from a point to the next
slots_before : (d : Nm) (ps : List Point) (i j : ℕ) (x : Point) → i + 1 ≡ j → j < length ps
    → slots_of d (drop i ps) ≡ slot d (get_or ps i x) (get_or ps j x) ∷ slots_of d (drop j ps)
slots_before d ps i j x one h = grind (arith, drop_more)

-- a rout of more points, or of none, is slots
rout_of_slots : (d : Nm) (ps : List Point) → (length ps ≡ 1 → ⊥) → slots_of d ps ≡ rout_leaves d ps
rout_of_slots d ps many = grind arith

-- behind the last point but one there is none
few_slots : (d : Nm) (ps : List Point) → length ps ≤ 1 → slots_of d ps ≡ []
few_slots d ps few = grind (arith, common_steps)

-- ---- on a canvas, from the last one on

module _ {V : Type 0} (has : V → ℕ → ℕ → Type 0) (place : V → ℕ → ℕ → Spot) (ink : V → ℕ → ℕ → Option Bool) where
  -- the slots behind the last point
  pub paints_no_slot : (v : V) (d : Nm) (ps : List Point) → Paints has place ink v (slots_of d (drop (length ps - 1) ps)) v
  paints_no_slot v d ps = grind (arith, few_slots, length-drop, paints_nothing)

  -- the slot from the point at i to the next
  pub paints_slot : (u v w : V) (d : Nm) (ps : List Point) (i j : ℕ) (x : Point) → i + 1 ≡ j → j < length ps
      → Paints has place ink u (slots_of d (drop j ps)) v
      → Paints has place ink v (slot d (get_or ps i x) (get_or ps j x) ∷ []) w
      → Paints has place ink u (slots_of d (drop i ps)) w
  paints_slot u v w d ps i j x one h later here = grind (arith, slots_before, paints_beneath)

  -- all of them, of more points than one
  pub paints_rout : (u v : V) (d : Nm) (ps : List Point) (i : ℕ) → i ≡ 0 → (length ps ≡ 1 → ⊥)
      → Paints has place ink u (slots_of d (drop i ps)) v → Paints has place ink u (rout_leaves d ps) v
  paints_rout u v d ps i first many slots = grind (arith, rout_of_slots)

  -- the copy at i, beneath those behind it
  pub paints_copy : (u v w : V) (f : ℕ → List Leaf) (n i j : ℕ) → i + 1 ≡ j → j ≤ n
      → Paints has place ink u (flat_map f (drop j (range_with_len 0 n))) v → Paints has place ink v (f i) w
      → Paints has place ink u (flat_map f (drop i (range_with_len 0 n))) w
  paints_copy u v w f n i j one within later here =
      paints_next has place ink f (range_with_len 0 n) i j i u v w one (omega (arith, length-range_with_len 0 n))
      (at_range i n (omega arith)) later here
