-- The tests of the board say what the demands say, and an item that is well made is refused for the board alone.
use Rattle.std.proofs.Common.{arith, ◌≡◌, ℕ, List, [], ◌∷◌, Bool, true, false, Result, refl, sym, ap, ◌∙◌}
use Rattle.std.specs.Prelude.{not, unsigned_abs}
use Rattle.std.specs.List.{All}
use Rattle.std.proofs.lemmas.Bool.{lt-ltb}
use Rattle.std.proofs.lemmas.List.Elements.{All-weaker}
use Rattle.std.proofs.lemmas.List.Sums.{list_all-from_AllPass}
use Rattle.cam_units.specs.Board.{IsOnBoard}
use Rattle.cam_units.specs.declared.point.Point.{Point}
use Rattle.cam_objects.specs.declared.entry.Entry.{Entry}
use Rattle.cam_objects.specs.declared.item.Item.{Item}
use Rattle.cam_objects.specs.declared.item_fault.ItemFault.{ItemFault}
use Rattle.cam_objects.specs.declared.item_fault.ItemFault.TheVariants.{OutOfBoard, TooMuch}
use Rattle.cam_objects.specs.Leaves.{Leaf, item_leaves, meaning_in}
use Rattle.cam_objects.specs.Soundness.{AreOnBoard, IsInside, is_inside, is_within_limits, item_checks, objects_of, points_of, is_on_board}
use Rattle.cam_objects.proofs.SoundItems.{HasRadius, IsDrawable, IsFormed, IsKnown, drawable, formed, known, radii, repeated}
use Rattle.cam_objects.proofs.TestLaws.{inside_law}
use Rattle.cam_refusals.specs.Checks.{answer_of, first_holding}
use Rattle.cam_gerber.specs.State.{Past}
use Rattle.cam_gerber.specs.Layers.{entries_in}
use Rattle.cam_gerber.specs.Faults.{are_leaves_on_board, is_outside}
use Rattle.cam_gerber.specs.Machinery.WellMade.{IsWellMade, IsWellMadeItem, is_of_board}
use Rattle.cam_gerber.proofs.JoiningParts.{leaves_on_board}

pub passes_board : (p : Point) → IsOnBoard p → is_on_board p ≡ true
passes_board p h = rw (lt-ltb (unsigned_abs p.x) 1000000000 h.x, lt-ltb (unsigned_abs p.y) 1000000000 h.y) refl

pub leaves_pass : (leaves : List Leaf) → AreOnBoard leaves → are_leaves_on_board leaves ≡ true
leaves_pass leaves h = grind (arith, list_all-from_AllPass, All-weaker, passes_board)

module _ (es : List (ℕ × Entry)) (item : Item) (well : IsWellMadeItem es item) where
  inside : are_leaves_on_board (item_leaves (meaning_in es) item) ≡ true → IsInside es item
  inside h = record {
    points = All-weaker (IsWellMade es) (λ o. All IsOnBoard (points_of o)) (λ o w. w.points) (objects_of item) well.objects;
    steps = well.steps;
    leaves = leaves_on_board _ h;
  }

  -- the test of what is inside says whether the leaves are
  inside_is : (on within : Bool) → are_leaves_on_board (item_leaves (meaning_in es) item) ≡ on → is_inside es item ≡ within → within ≡ on
  inside_is true true e f = refl
  inside_is true false e f = sym f ∙ (inside_law es item).1 (inside e)
  inside_is false true e f = sym (sym e ∙ leaves_pass _ ((inside_law es item).0 f).leaves)
  inside_is false false e f = refl

  -- what is told of an item that passes all before that test
  told_by : (within few : Bool)
      → is_of_board (answer_of (first_holding ((OutOfBoard, not within) ∷ (TooMuch, not few) ∷ []))) ≡ not within
  told_by within few = grind arith

  -- a check tells the board exactly where a leaf lies outside
  told : is_of_board (answer_of (first_holding (item_checks es item))) ≡ not (are_leaves_on_board (item_leaves (meaning_in es) item))
  unfolding item_checks
  told =
      rw (
        (formed item).1 ((repeated item).0 well.repeated, All-weaker (IsWellMade es) IsFormed (λ o w. w.formed) (objects_of item) well.objects),
        (known es item).1 (All-weaker (IsWellMade es) (IsKnown es) (λ o w. w.known) (objects_of item) well.objects),
        (drawable es item).1
            (All-weaker (IsWellMade es) (IsDrawable (meaning_in es)) (λ o w. w.drawable) (objects_of item) well.objects),
        (radii item).1 (All-weaker (IsWellMade es) HasRadius (λ o w. w.radius) (objects_of item) well.objects),
      )
      (told_by (is_inside es item) (is_within_limits es item))
      ∙ ap not (inside_is (are_leaves_on_board (item_leaves (meaning_in es) item)) (is_inside es item) refl refl)

pub told_outside : (es : List (ℕ × Entry)) (item : Item) (r : Result (Unit {0}) ItemFault) → IsWellMadeItem es item
    → r ≡ answer_of (first_holding (item_checks es item))
    → is_of_board r ≡ not (are_leaves_on_board (item_leaves (meaning_in es) item))
told_outside es item r well h = ap is_of_board h ∙ told es item well

-- the same as it is said of a past
pub outside_is : (past : Past) (stands : Item)
    → is_outside past stands ≡ not (are_leaves_on_board (item_leaves (meaning_in (entries_in past)) stands))
unfolding is_outside
outside_is past stands = refl
