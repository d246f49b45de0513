-- The tests that compute mean what the relations say.
use Rattle.std.proofs.Common.{arith, ◌≡◌, ◌↔◌, Bool, true, false, ◌&&◌, IsTrue, List, Option, Some, refl, ap, sym, ◌∙◌}
use Rattle.std.specs.Prelude.{ℕ, ◌≤◌, nat_le, unwrap_or}
use Rattle.std.specs.Bool.{Decides}
use Rattle.std.specs.List.{All, list_all}
use Rattle.std.proofs.lemmas.Bool.{le-leb, leb-true, true≢false}
use Rattle.std.proofs.lemmas.Bool.Decides.{Decides-and, Decides-by_and, Decides-like, Decides-ltb}
use Rattle.cam_units.specs.Board.{IsOnBoard}
use Rattle.cam_units.specs.declared.point.Point.{Point}
use Rattle.cam_units.specs.declared.point.Spot.{Spot}
use Rattle.cam_objects.specs.declared.item.Item.{Item}
use Rattle.cam_objects.specs.DrillSoundness.{keeps_drill_limits}
use Rattle.cam_objects.specs.Image.{IsBlack}
use Rattle.cam_objects.specs.Leaves.{Leaf, item_leaves, meaning_in}
use Rattle.cam_objects.specs.Soundness.{HasShortSteps, are_on_board, has_short_steps, is_inside, is_on_board, keeps_limits}
use Rattle.cam_objects.specs.Soundness.{objects_of, points_of, points_of_shape}
use Rattle.cam_objects.specs.Tests.{BoardTestLaw, InsideTestLaw, LimitTestLaw, PaintingTestLaw, is_black, last_ink}
use Rattle.cam_objects.proofs.LastInks.{last_law, last_paints}

-- ---- places

-- a place is dark where it has a dark ink
dark_ink : (o : Option Bool) → unwrap_or o false ≡ true → o ≡ Some true
dark_ink o e = grind (arith, true≢false)

pub black_law : PaintingTestLaw
black_law ls s = (
  (λ h. (last_paints ls s true).0 (dark_ink (last_ink ls s) (sym (last_law ls s) ∙ h))),
  (λ h. last_law ls s ∙ ap (λ o. unwrap_or o false) ((last_paints ls s true).1 h)),
)

-- two tests of one meaning answer alike
pub same_test : {P : Type 0} (a b : Bool) → (IsTrue a ↔ P) → (IsTrue b ↔ P) → a ≡ b
same_test a b f g = grind arith

-- what tells the black places answers as the test does
pub test_of_image : (s : Spot) (ls : List Leaf) (b : Bool) → IsTrue b ↔ IsBlack ls s → b ≡ is_black ls s
test_of_image s ls b told = same_test b (is_black ls s) told (black_law ls s)

-- ---- items

pub both : {P Q : Type 0} {x y : Bool} → Decides x P → Decides y Q → Decides (x && y) (P × Q)
both {P} {Q} {x} {y} d k = Decides-and x y d k

pub like : {P Q : Type 0} {x : Bool} → (P → Q) → (Q → P) → Decides x P → Decides x Q
like {P} {Q} {x} f g d = Decides-like x f g d

pub all : {X : Type 0} (p : X → Bool) (P : X → Type 0) → ((x : X) → Decides (p x) (P x)) → (xs : List X)
    → Decides (list_all p xs) (All P xs)
all p P each xs = Decides-by_and p P (list_all p) each refl (λ _ _. refl) xs

pub at_most : (a b : ℕ) → Decides (nat_le a b) (a ≤ b)
at_most a b = (leb-true a b, le-leb a b)

pub on_board : (p : Point) → Decides (is_on_board p) (IsOnBoard p)
on_board p = grind (arith, like, both, Decides-ltb)

pub all_on_board : BoardTestLaw
all_on_board ps = all is_on_board IsOnBoard on_board ps

short_steps : (item : Item) → Decides (has_short_steps item) (HasShortSteps item)
short_steps item = grind (arith, both, Decides-ltb)

pub inside_law : InsideTestLaw
unfolding is_inside
inside_law es item =
    like (λ h. record { points = h.0; steps = h.1.0; leaves = h.1.1 }) (λ h. (h.points, (h.steps, h.leaves)))
    (both
    (all (λ o. are_on_board (points_of o)) (λ o. All IsOnBoard (points_of o)) (λ o. all_on_board (points_of o)) (objects_of item))
    (both (short_steps item)
    (all (λ (l : Leaf). are_on_board (points_of_shape l.shape)) (λ (l : Leaf). All IsOnBoard (points_of_shape l.shape))
    (λ l. all_on_board (points_of_shape l.shape)) (item_leaves (meaning_in es) item))))

pub limit_law : LimitTestLaw
unfolding keeps_limits keeps_drill_limits
limit_law = grind (arith, like, both, at_most)
