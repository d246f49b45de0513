-- Laws of the definitions of cover.
use Rattle.std.proofs.Common.{◌≡◌, ◌↔◌, zero, suc, Bool, true, false, cond, IsTrue, ◌⊎◌, inl, inr, List, [], ◌∷◌, ◌++◌, map, All, refl, ap, sym, ◌∙◌, arith}
use Rattle.std.specs.Prelude.{not, ◌&&◌}
use Rattle.std.proofs.lemmas.Bool.{and_parts, and_from, cases_Bool, false_from_ne_true, true≢false}
use Rattle.cam_units.specs.declared.point.Spot.{Spot}
use Rattle.cam_shapes.proofs.TestLaws.{is_in_bar-meaning, is_in_contour-meaning, is_in_disc-meaning, is_in_hole-meaning, is_in_obround-meaning, is_in_rectangle-meaning}
use Rattle.cam_macros.specs.declared.primitive.MacroPrimitive.{MacroPrimitive}
use Rattle.cam_macros.specs.declared.primitive.PrimShape.{PrimShape}
use Rattle.cam_apertures.specs.declared.aperture.Aperture.TheVariants.{Circle, Rect, Obround, Prims}
use Rattle.cam_apertures.specs.Cover.{flash_point, IsInShape, IsExposed}
use Rattle.cam_apertures.specs.Laws.{BoxLaw, HoleLaw}
use Rattle.cam_apertures.specs.Tests.{is_covered, is_in_shape, ink_exposed, TestLaw}
use Rattle.cam_apertures.specs.Turned.{turned_height, turned_prim, turned_width}
use Rattle.cam_apertures.proofs.ShapeBoxes.{disc_box, obround_box, painted_box, rectangle_box}

pub box_law : BoxLaw
box_law (Circle diameter hole) t s h = disc_box flash_point s diameter h.0
box_law (Rect width height hole) t s h = rectangle_box flash_point s (turned_width t width height) (turned_height t width height) h.0
box_law (Obround width height hole) t s h = obround_box flash_point s (turned_width t width height) (turned_height t width height) h.0
box_law (Prims prims) t s h = painted_box (map (turned_prim t) prims) s h

pub hole_law : HoleLaw
hole_law it t s h covered = grind arith

-- the test of a shape
pub in_shape : (shape : PrimShape) (s : Spot) → IsTrue (is_in_shape shape s) ↔ IsInShape shape s
unfolding is_in_shape
in_shape shape s = grind (arith, is_in_disc-meaning, is_in_bar-meaning, is_in_rectangle-meaning, is_in_contour-meaning)

abbrev AreFree : List MacroPrimitive → Spot → Type 0
AreFree ps s = All (λ later. ¬ IsInShape later.shape s) ps

-- ink that no primitive holds stays
painted_free : (ink : Bool) (ps : List MacroPrimitive) (s : Spot) → AreFree ps s → ink_exposed ink ps s ≡ ink
painted_free ink [] s h = refl
painted_free ink (p ∷ ps) s h =
    let here : is_in_shape p.shape s ≡ false = false_from_ne_true (is_in_shape p.shape s) (λ t. h 0 p (omega arith) ((in_shape p.shape s).0 t)) in
    painted_free (cond (is_in_shape p.shape s) p.paint ink) ps s (λ k d below. h (suc k) d (omega arith))
    ∙ ap (λ b. cond b p.paint ink) here

painted-append : (ink : Bool) (ps qs : List MacroPrimitive) (s : Spot) → ink_exposed ink (ps ++ qs) s ≡ ink_exposed (ink_exposed ink ps s) qs s
painted-append ink [] qs s = refl
painted-append ink (p ∷ ps) qs s = painted-append (cond (is_in_shape p.shape s) p.paint ink) ps qs s

from_painted : (ink : Bool) (ps : List MacroPrimitive) (s : Spot) → IsExposed ps s → ink_exposed ink ps s ≡ true
from_painted ink ps s h =
    ap (λ all. ink_exposed ink all s) h.split
    ∙ painted-append ink h.before (h.prim ∷ h.after) s
    ∙ ap (λ b. ink_exposed (cond b h.prim.paint (ink_exposed ink h.before s)) h.after s) ((in_shape h.prim.shape s).1 h.held)
    ∙ painted_free h.prim.paint h.after s h.last
    ∙ h.exposed

-- what painted a place: a primitive, or nothing since the start
to_painted : (ink : Bool) (ps : List MacroPrimitive) (s : Spot) → ink_exposed ink ps s ≡ true → IsExposed ps s ⊎ ((ink ≡ true) × AreFree ps s)
to_painted ink [] s h = inr (h, (λ k d below. absurd (omega arith)))
to_painted ink (p ∷ ps) s h =
    elim (to_painted (cond (is_in_shape p.shape s) p.paint ink) ps s h) [
      | inl later ↦ inl (record {
        before = p ∷ later.before;
        prim = later.prim;
        after = later.after;
        split = ap (λ r. p ∷ r) later.split;
        held = later.held;
        exposed = later.exposed;
        last = later.last;
      })
      | inr start ↦ elim (cases_Bool (is_in_shape p.shape s)) [
        | inl held ↦ inl (record {
          before = [];
          prim = p;
          after = ps;
          split = refl;
          held = (in_shape p.shape s).0 held;
          exposed = sym (ap (λ b. cond b p.paint ink) held) ∙ start.0;
          last = start.1;
        })
        | inr not_here ↦ inr (sym (ap (λ b. cond b p.paint ink) not_here) ∙ start.0, one_more not_here start.1)
      ]
    ]
  where
    one_more : is_in_shape p.shape s ≡ false → AreFree ps s → AreFree (p ∷ ps) s
    one_more f u zero d below = λ inside. true≢false (sym ((in_shape p.shape s).1 inside) ∙ f)
    one_more f u (suc k) d below = u k d (omega arith)

pub painted_law : (ps : List MacroPrimitive) (s : Spot) → IsTrue (ink_exposed false ps s) ↔ IsExposed ps s
painted_law ps s = grind (arith, to_painted, true≢false, from_painted)

-- in a shape and not in a hole
without_hole : {P Q : Type 0} (p q : Bool) → (IsTrue p ↔ P) → (IsTrue q ↔ Q) → IsTrue (p && not q) ↔ (P × ¬ Q)
without_hole p q f g = grind (arith, true≢false, and_parts, and_from)

pub test_law : TestLaw
unfolding is_covered
test_law it t s =
    grind (
      arith,
      without_hole,
      is_in_disc-meaning,
      is_in_hole-meaning,
      is_in_rectangle-meaning,
      is_in_obround-meaning,
      painted_law,
    )
