-- the box of what is painted at a place is that of the same at the origin, placed
use Rattle.std.proofs.Common.{arith}
use Rattle.std.proofs.Common.{◌≡◌, ℕ, Bool, true, false, cond, List, [], ◌∷◌, ◌++◌, map, Option, None, Some, nat_eq, refl, ap, sym, ◌∙◌}
use Rattle.std.specs.Prelude.{fold}
use Rattle.std.proofs.lemmas.List.{map-append}
use Rattle.std.proofs.lemmas.List.Folds.{fold-map}
use Rattle.std.proofs.lemmas.Simd.{map-map}
use Rattle.cam_units.specs.declared.bounds.Bounds.{Bounds}
use Rattle.cam_units.specs.declared.bounds.Bounds.TheVariants.{Empty}
use Rattle.cam_units.specs.declared.length.Nm.{Nm}
use Rattle.cam_units.specs.declared.point.Point.{Point}
use Rattle.cam_units.specs.declared.turn.Turn.{Turn}
use Rattle.cam_units.specs.Boxes.{join_of}
use Rattle.cam_shapes.specs.Placing.{placed_direction}
use Rattle.cam_objects.specs.declared.object.Object.{Object}
use Rattle.cam_objects.specs.declared.object.Object.TheVariants.{Flash, Draw, Arc, Region}
use Rattle.cam_objects.specs.declared.entry.Entry.{Entry}
use Rattle.cam_objects.specs.declared.entry.Entry.TheVariants.{Aperture, Block}
use Rattle.cam_objects.specs.declared.placing.place.Place.{Place}
use Rattle.cam_objects.specs.declared.tip.Tip.{Tip}
use Rattle.cam_objects.specs.Bounds.{box_of_all}
use Rattle.cam_objects.specs.Leaves.{
  Leaf,
  Meaning,
  Shape,
  arc_leaves,
  block_leaves,
  draw_leaves,
  drawn,
  entry_meaning,
  flashed,
  meaning,
  object_leaves,
  origin,
  placed,
  polarity_in,
  round_width,
  turned_tip,
}
use Rattle.cam_objects.specs.Machinery.Boxes.{placed_bounds}
use Rattle.cam_objects.specs.Turning.{after}
use Rattle.cam_objects.proofs.PlacedJoins.{joins_placed, placed_flashed, placed_nowhere}
use Rattle.cam_objects.proofs.PlacedShapes.{IsPlacedSo, sweep}
use Rattle.cam_objects.proofs.TurnedTips.{turned_after}

module _ (m : Shape → Bounds) where
  -- the boxes of leaves, one for each
  abbrev pub boxes_of : List Leaf → List Bounds
  boxes_of leaves = map (λ l. m l.shape) leaves

  abbrev pub box_of_leaves : List Leaf → Bounds
  box_of_leaves leaves = box_of_all (λ l. m l.shape) leaves

  -- at each place the boxes are those at the origin, placed
  abbrev pub IsPlacedWith : (Place → List Leaf) → Type 0
  IsPlacedWith paints = (p : Place) → boxes_of (paints p) ≡ map (placed_bounds p) (boxes_of (paints origin))

  -- so is the box of all
  pub all_placed : (paints : Place → List Leaf) → IsPlacedWith paints → (p : Place)
      → box_of_leaves (paints p) ≡ placed_bounds p (box_of_leaves (paints origin))
  all_placed paints so p =
      let all = λ (bs : List Bounds). fold (λ all b. join_of all b) Empty bs in
      sym (fold-map (λ all b. join_of all b) (λ l. m l.shape) Empty (paints p))
      ∙ ap all (so p)
      ∙ joins_placed p (λ b. b) (λ b. b) (placed_bounds p) (λ b. refl) Empty (boxes_of (paints origin))
      ∙ ap (placed_bounds p) (fold-map (λ all b. join_of all b) (λ l. m l.shape) Empty (paints origin))

  module _ (law : IsPlacedSo m) where
    -- a shape's box at the origin is that of the shape as it stands
    from_origin : (p : Place) (at_place at_origin b : Bounds) → at_place ≡ placed_bounds p b → at_origin ≡ placed_bounds origin b
        → at_place ∷ [] ≡ placed_bounds p at_origin ∷ []
    from_origin p at_place at_origin b e f = ap (λ x. x ∷ []) (e ∙ ap (placed_bounds p) (sym (f ∙ placed_nowhere b)))

    -- a draw's tip is turned with the draw, and then with its place
    pub drawn_placed : (p : Place) (tip : Tip) (t : Turn) (from to : Point)
        → m (drawn (turned_tip (after t p.turn) tip) (placed p from) (placed p to))
        ≡ placed_bounds p (m (drawn (turned_tip t tip) from to))
    drawn_placed p tip t from to = grind (arith, turned_after)

    draws_placed : (tip : Option Tip) (t : Turn) (from to : Point) (dark : Bool)
        → IsPlacedWith (λ p. draw_leaves tip (after t p.turn) (placed p from) (placed p to) (polarity_in p.dark dark))
    draws_placed None t from to dark p = refl
    draws_placed (Some tip) t from to dark p =
        from_origin p (m (drawn (turned_tip (after t p.turn) tip) (placed p from) (placed p to)))
        (m (drawn (turned_tip (after t origin.turn) tip) (placed origin from) (placed origin to)))
        (m (drawn (turned_tip t tip) from to))
        (drawn_placed p tip t from to) (drawn_placed origin tip t from to)

    arcs_placed : (w : Option Nm) (from to centre : Point) (ccw dark : Bool)
        → IsPlacedWith (λ p. arc_leaves w (placed p from) (placed p to) (placed p centre) (placed_direction p.turn ccw)
        (polarity_in p.dark dark))
    arcs_placed None from to centre ccw dark p = refl
    arcs_placed (Some w) from to centre ccw dark p =
        from_origin p (m (sweep (placed p from) (placed p to) (placed p centre) (placed_direction p.turn ccw) w))
        (m (sweep (placed origin from) (placed origin to) (placed origin centre) (placed_direction origin.turn ccw) w))
        (m (sweep from to centre ccw w))
        (law.sweep p from to centre ccw w) (law.sweep origin from to centre ccw w)

    flash_of_placed : (flash : Place → List Leaf) (at : Point) (t : Turn) (dark : Bool) → IsPlacedWith flash
        → IsPlacedWith (λ p. flash (flashed p at t dark))
    flash_of_placed flash at t dark so p =
        let bs = boxes_of (flash origin) in
        so (flashed p at t dark)
        ∙ (λ i. map (λ b. placed_flashed p at t dark b i) bs)
        ∙ sym (map-map (placed_bounds p) (placed_bounds (flashed origin at t dark)) bs)
        ∙ ap (map (placed_bounds p)) (sym (so (flashed origin at t dark)))

    module _ (means : ℕ → Meaning) (so : (n : ℕ) → IsPlacedWith (means n).flash) where
      pub object_placed : (o : Object) → IsPlacedWith (λ p. object_leaves means p o)
      object_placed (Flash n at t dark) = flash_of_placed (means n).flash at t dark (so n)
      object_placed (Draw n from to t dark) = draws_placed (means n).tip t from to dark
      object_placed (Arc ccw dark n from to centre) = arcs_placed (round_width (means n).tip) from to centre ccw dark
      object_placed (Region c dark) = λ p. from_origin p _ _ _ (law.filled p c) (law.filled origin c)

      pub block_placed : (objects : List Object) → IsPlacedWith (λ p. block_leaves means p objects)
      block_placed [] p = refl
      block_placed (o ∷ objects) p =
          let here = object_leaves means origin o in
          let rest = block_leaves means origin objects in
          map-append (λ l. m l.shape) (object_leaves means p o) (block_leaves means p objects)
          ∙ (λ i. object_placed o p i ++ block_placed objects p i)
          ∙ sym (map-append (placed_bounds p) (boxes_of here) (boxes_of rest))
          ∙ ap (map (placed_bounds p)) (sym (map-append (λ l. m l.shape) here rest))

      entry_placed : (e : Entry) → IsPlacedWith (entry_meaning means e).flash
      entry_placed (Aperture a) = λ p. from_origin p _ _ _ (law.stamp p a) (law.stamp origin a)
      entry_placed (Block objects) = block_placed objects

    pub meaning_placed : (es : List (ℕ × Entry)) (n : ℕ) → IsPlacedWith (meaning es n).flash
    meaning_placed [] n = λ p. refl
    meaning_placed (e ∷ older) n =
        by (nat_eq e.0 n) (entry_placed (meaning older) (meaning_placed older) e.1) (meaning_placed older n)
      where
        by : (b : Bool) → IsPlacedWith (entry_meaning (meaning older) e.1).flash → IsPlacedWith (meaning older n).flash
            → IsPlacedWith (cond b (entry_meaning (meaning older) e.1) (meaning older n)).flash
        by true here rest = here
        by false here rest = rest

    -- one flash of a number costs one box: that of the flash at the origin, placed
    pub flash_placed : (es : List (ℕ × Entry)) (n : ℕ) (p : Place)
        → box_of_leaves ((meaning es n).flash p) ≡ placed_bounds p (box_of_leaves ((meaning es n).flash origin))
    flash_placed es n = all_placed (meaning es n).flash (meaning_placed es n)

    pub object_box_placed : (es : List (ℕ × Entry)) (o : Object) (p : Place)
        → box_of_leaves (object_leaves (meaning es) p o) ≡ placed_bounds p (box_of_leaves (object_leaves (meaning es) origin o))
    object_box_placed es o = all_placed (λ p. object_leaves (meaning es) p o) (object_placed (meaning es) (meaning_placed es) o)

    pub block_box_placed : (es : List (ℕ × Entry)) (objects : List Object) (p : Place)
        → box_of_leaves (block_leaves (meaning es) p objects) ≡ placed_bounds p (box_of_leaves (block_leaves (meaning es) origin objects))
    block_box_placed es objects =
        all_placed (λ p. block_leaves (meaning es) p objects) (block_placed (meaning es) (meaning_placed es) objects)
