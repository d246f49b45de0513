-- how far the numbers of a sound dictionary reach, and the boxes of objects
use Rattle.std.proofs.Common.{
  ◌≡◌,
  ℕ,
  suc,
  ◌<◌,
  ◌≤◌,
  Bool,
  true,
  cond,
  List,
  [],
  ◌∷◌,
  length,
  take,
  reverse,
  get_or,
  slice_get,
  nat_eq,
  Option,
  None,
  Some,
  refl,
  sym,
  ap,
  subst,
  ◌∙◌,
  arith,
}
use Rattle.std.specs.List.{IsDistinct}
use Rattle.std.specs.Map.{keys_of, lookup}
use Rattle.std.specs.Option.{IfSome}
use Rattle.std.proofs.lemmas.Bool.{ne_eqb}
use Rattle.std.proofs.lemmas.Option.{slice_get_within}
use Rattle.cam_units.specs.Board.{IsSize}
use Rattle.cam_units.specs.declared.bounds.Bounds.{Bounds}
use Rattle.cam_units.specs.declared.bounds.Bounds.TheVariants.{Empty}
use Rattle.cam_units.specs.declared.length.Nm.{Nm}
use Rattle.cam_units.specs.declared.point.Point.{Point}
use Rattle.cam_units.specs.declared.turn.Turn.{Turn}
use Rattle.cam_units.specs.declared.turn.Turn.TheVariants.{R0}
use Rattle.cam_shapes.specs.declared.contour.Contour.{Contour}
use Rattle.cam_shapes.specs.Placing.{placed_direction}
use Rattle.cam_objects.specs.declared.entry.Entry.{Entry}
use Rattle.cam_objects.specs.declared.boxes.extent.Extent.{Extent}
use Rattle.cam_objects.specs.declared.checks.facts.Facts.{Facts}
use Rattle.cam_objects.specs.declared.object.Object.TheVariants.{Flash, Draw, Arc, Region}
use Rattle.cam_objects.specs.declared.tip.Tip.{Tip}
use Rattle.cam_objects.specs.Bounds.{bounds_of, box_of_contour, box_of_shape, moved}
use Rattle.cam_apertures.specs.Turned.{turned_box}
use Rattle.cam_objects.specs.Leaves.{
  Meaning,
  arc_leaves,
  draw_leaves,
  drawn,
  entry_meaning,
  flashed,
  meaning,
  meaning_in,
  object_leaves,
  origin,
  placed,
  polarity_in,
  round_width,
  turned_tip,
}
use Rattle.cam_objects.specs.Machinery.Boxes.{IsNearBox, IsSizedTip, placed_bounds}
use Rattle.cam_objects.specs.Machinery.Extents.{IsExtentIn}
use Rattle.cam_objects.specs.Machinery.Facts.{facts_at}
use Rattle.cam_objects.specs.Machinery.Painting.{meaning_before}
use Rattle.cam_objects.specs.Soundness.{IsSoundDictionary, MayAddEntry}
use Rattle.cam_objects.specs.Turning.{after}
use Rattle.cam_objects.proofs.Dictionaries.{whole}
use Rattle.cam_objects.proofs.KeptFacts.{facts_absent}
use Rattle.cam_objects.proofs.Painting.{meaning-absent, meaning-at}
use Rattle.cam_objects.proofs.PlacedBoxes.{drawn_placed, flash_placed}
use Rattle.cam_objects.proofs.PlacedJoins.{placed_flash, placed_nowhere}
use Rattle.cam_objects.proofs.PlacedShapes.{shapes_so, sweep}
use Rattle.cam_objects.proofs.SizedLeaves.{meaning_sized, round_sized}

-- ---- extents

among_all : (es : List (ℕ × Entry)) (n : ℕ) → meaning_before (length es) es n ≡ meaning_in es n
among_all es n = ap (λ (ds : List (ℕ × Entry)). meaning (reverse ds) n) (whole es)

-- of a number with an entry
pub extent_found : (es : List (ℕ × Entry)) (i n : ℕ) (e : Entry) (f : Facts) (tip : Option Tip)
    → IsDistinct nat_eq (keys_of es) → slice_get es i ≡ Some (n, e) → f ≡ facts_at es n → IsNearBox f.bounds
    → ((means : ℕ → Meaning) → tip ≡ (entry_meaning means e).tip)
    → IsExtentIn es (record { number = n; bounds = f.bounds; tip = tip })
extent_found es i n e f tip distinct at facts near told =
    let means = meaning-at es i (length es) n e distinct at (slice_get_within es i (n, e) at) (omega arith) in record {
      bounds = ap (λ (x : Facts). x.bounds) facts;
      tip = told (meaning_before i es) ∙ ap (λ (m : Meaning). m.tip) (sym means ∙ among_all es n);
      near = near;
    }

-- and of one without
pub extent_absent : (es : List (ℕ × Entry)) (n : ℕ) → lookup (nat_eq n) es ≡ None
    → IsExtentIn es (record { number = n; bounds = Empty; tip = None })
extent_absent es n absent = record {
  bounds = ap (λ (x : Facts). x.bounds) (facts_absent es n absent);
  tip =
      ap (λ (m : Meaning). m.tip) (sym (meaning-absent es (length es) n absent (omega arith)) ∙ among_all es n);
  near = tt;
}

none_below : (es : List (ℕ × Entry)) → ((k : ℕ) (d : ℕ × Entry) → k < length es → 10 ≤ (get_or es k d).0)
    → lookup (nat_eq 0) es ≡ None
none_below [] least = refl
none_below (e ∷ es) least =
    let here : 10 ≤ e.0 = least 0 e (omega arith) in
    ap (λ (b : Bool). cond b (Some e.1) (lookup (nat_eq 0) es)) (ne_eqb 0 e.0 (λ same. omega arith))
    ∙ none_below es (λ k d below. least (suc k) d (omega arith))

-- no entry of a sound dictionary has the number 0
pub extent_none : (es : List (ℕ × Entry)) → IsSoundDictionary es
    → IsExtentIn es (record { number = 0; bounds = Empty; tip = None })
extent_none es sound =
    extent_absent es 0 (none_below es (λ k d below.
    let may : MayAddEntry (take k es) (get_or es k d).0 (get_or es k d).1 = sound k d below in may.least))

-- ---- the boxes of objects

module _ (es : List (ℕ × Entry)) (n : ℕ) where
  pub flash_box : (at : Point) (t : Turn) (dark : Bool)
      → moved at (turned_box t (bounds_of ((meaning_in es n).flash origin)))
      ≡ bounds_of (object_leaves (meaning_in es) origin (Flash n at t dark))
  flash_box at t dark =
      let one = bounds_of ((meaning_in es n).flash origin) in
      sym (placed_nowhere (moved at (turned_box t one)))
      ∙ sym (placed_flash origin at t dark one)
      ∙ sym (flash_placed box_of_shape shapes_so (reverse es) n (flashed origin at t dark))

  pub draw_box : (from to : Point) (t : Turn) (dark : Bool) (tip : Tip) → Some tip ≡ (meaning_in es n).tip
      → box_of_shape (drawn (turned_tip t tip) from to)
      ≡ bounds_of (object_leaves (meaning_in es) origin (Draw n from to t dark))
  draw_box from to t dark tip some =
      sym (placed_nowhere (box_of_shape (drawn (turned_tip t tip) from to)))
      ∙ sym (drawn_placed box_of_shape shapes_so origin tip t from to)
      ∙ ap (λ (o : Option Tip).
      bounds_of (draw_leaves o (after t R0) (placed origin from) (placed origin to) (polarity_in origin.dark dark))) some

module _ (es : List (ℕ × Entry)) (e : Extent) (extent : IsExtentIn es e) (n : ℕ) (is : e.number ≡ n) where
  pub bounded_flash : (at : Point) (t : Turn) (dark : Bool) (b : Bounds)
      → b ≡ placed_bounds (record { turn = t; offset = at; dark = true }) e.bounds
      → b ≡ bounds_of (object_leaves (meaning_in es) origin (Flash n at t dark))
  bounded_flash at t dark b box = grind (arith, flash_box)

  -- what its strokes are drawn with
  tip_in : e.tip ≡ (meaning_in es n).tip
  tip_in = extent.tip ∙ ap (λ k. (meaning_in es k).tip) is

  width_in : (w : Nm) → round_width e.tip ≡ Some w → Some w ≡ round_width (meaning_in es n).tip
  width_in w some = sym some ∙ ap (λ o. round_width o) tip_in

  pub sized : IsSoundDictionary es → (tip : Tip) → e.tip ≡ Some tip → IsSizedTip tip
  sized sound tip some =
      subst (λ (o : Option Tip). IfSome o IsSizedTip) (sym tip_in ∙ some) (meaning_sized es n sound).tip

  pub wide : IsSoundDictionary es → (w : Nm) → round_width e.tip ≡ Some w → IsSize w.0
  wide sound w some =
      subst (λ (o : Option Nm). IfSome o (λ x. IsSize x.0)) (sym (width_in w some))
      (round_sized (meaning_in es n).tip (meaning_sized es n sound).tip)

  pub bounded_draw : (from to : Point) (t : Turn) (dark : Bool) (tip : Tip) (b : Bounds) → e.tip ≡ Some tip
      → b ≡ box_of_shape (drawn (turned_tip t tip) from to)
      → b ≡ bounds_of (object_leaves (meaning_in es) origin (Draw n from to t dark))
  bounded_draw from to t dark tip b some box = box ∙ draw_box es n from to t dark tip (sym some ∙ tip_in)

  pub bounded_arc : (from to centre : Point) (ccw dark : Bool) (w : Nm) (b : Bounds) → round_width e.tip ≡ Some w
      → b ≡ box_of_shape (sweep from to centre ccw w)
      → b ≡ bounds_of (object_leaves (meaning_in es) origin (Arc ccw dark n from to centre))
  bounded_arc from to centre ccw dark w b some box =
      box
      ∙ sym (shapes_so.sweep origin from to centre ccw w ∙ placed_nowhere (box_of_shape (sweep from to centre ccw w)))
      ∙ ap (λ (o : Option Nm).
      bounds_of (arc_leaves o (placed origin from) (placed origin to) (placed origin centre)
      (placed_direction origin.turn ccw) (polarity_in origin.dark dark))) (width_in w some)

pub bounded_region : (means : ℕ → Meaning) (c : Contour) (dark : Bool) (b : Bounds) → b ≡ box_of_contour c
    → b ≡ bounds_of (object_leaves means origin (Region c dark))
bounded_region means c dark b box = box ∙ sym (shapes_so.filled origin c ∙ placed_nowhere (box_of_contour c))
