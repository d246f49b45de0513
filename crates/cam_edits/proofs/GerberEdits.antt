-- How edits of a Gerber layer are judged.
use Rattle.std.proofs.Common.{◌≡◌, ◌↔◌, ℕ, ◌≤◌, Bool, true, false, ◌&&◌, not, cond, nat_le, IsTrue, List, [], ◌∷◌, ◌++◌}
use Rattle.std.proofs.Common.{length, max, sum_by, Option, None, Some, Result, Ok, Err, ap, sym, ◌∙◌, arith}
use Rattle.std.specs.Prelude.{insert, slice_get, slice_set}
use Rattle.std.proofs.lemmas.Bool.{false_from_ne_true, leb-true}
use Rattle.std.proofs.lemmas.List.{length-append}
use Rattle.std.proofs.lemmas.List.Edits.{length-insert}
use Rattle.std.proofs.lemmas.List.Sums.{sum_by-append, sum_by-cons, sum_by-insert}
use Rattle.cam_refusals.specs.Checks.{answer_of, first_holding}
use Rattle.cam_units.specs.declared.point.Point.{Point}
use Rattle.cam_objects.specs.Contents.{Content}
use Rattle.cam_objects.specs.Shifting.{IsMove, shifted_item}
use Rattle.cam_objects.specs.Soundness.{IsInside, IsSoundContent, IsSoundItem, KeepsLimits, has_radii, is_drawable_item}
use Rattle.cam_objects.specs.Soundness.{is_formed_item, is_inside, is_known_item, is_within_limits, item_checks, keeps_limits}
use Rattle.cam_objects.specs.Weights.{item_count, weight_in}
use Rattle.cam_objects.specs.declared.entry.Entry.{Entry}
use Rattle.cam_objects.specs.declared.item.Item.{Item}
use Rattle.cam_objects.specs.declared.item_fault.ItemFault.{ItemFault}
use Rattle.cam_edits.specs.declared.fault.EditFault.{EditFault}
use Rattle.cam_edits.specs.declared.fault.EditFault.TheVariants.{NoItem, HasNone, NoAperture, WrongAperture, SizeRefused}
use Rattle.cam_edits.specs.declared.fault.EditFault.TheVariants.{OutOfBoard, TooMuch}
use Rattle.cam_edits.specs.declared.step.Step.{Step}
use Rattle.cam_edits.specs.declared.step.Step.TheVariants.{Insert, Delete, Move, Reorder, Aperture, Polarity}
use Rattle.cam_edits.specs.Editing.{aperture_checks, has_aperture, has_polarity, move_checks, polarity_checks, step_checks}
use Rattle.cam_edits.specs.Machinery.Judging.{item_answer, other_aperture, place_answer, step_answer}
use Rattle.cam_edits.specs.Places.{changed, changed_to}
use Rattle.cam_edits.specs.Steps.{with_aperture, with_object}
use Rattle.cam_objects.proofs.TestLaws.{inside_law, limit_law, same_test}
use Rattle.cam_edits.proofs.EditedLists.{all_here}
use Rattle.cam_edits.proofs.ItemMoves.{short_item}
use Rattle.cam_edits.proofs.Refusals.{by_room, checked, farther_place, in_one_order}

-- ---- the limits of a layer with an item more

module _ (es : List (ℕ × Entry)) (xs : List Item) (k : ℕ) (item : Item) (within : k ≤ length xs) where
  abbrev weight : Item → ℕ
  weight = item_count (weight_in es)

  same_length : length (xs ++ item ∷ []) ≡ length (insert xs k item)
  same_length = omega (arith, length-append xs (item ∷ []), length-insert xs k item within)

  same_weight : sum_by weight (xs ++ item ∷ []) ≡ sum_by weight (insert xs k item)
  same_weight = grind (arith, sum_by-append, sum_by-cons, sum_by-insert)

  -- they do not depend on its place
  limits_anywhere : KeepsLimits es (xs ++ item ∷ []) ↔ KeepsLimits es (insert xs k item)
  limits_anywhere = grind (arith, same_length, same_weight)

-- ---- items with another aperture

set_is : (n : ℕ) (x y : Item) → other_aperture n x ≡ Some y → y ≡ with_object (with_aperture n) x
set_is n x y e = grind arith

has_one : (n : ℕ) (x y : Item) → other_aperture n x ≡ Some y → has_aperture x ≡ true
has_one n x y e = grind arith

has_none : (n : ℕ) (x : Item) → other_aperture n x ≡ None → has_aperture x ≡ false
has_none n x e = grind arith

-- it is not malformed
pub set_formed : (n : ℕ) (x : Item) → has_aperture x ≡ true → is_formed_item (with_object (with_aperture n) x) ≡ true
set_formed n x e = grind arith

module _ (c : Content) where
  -- ---- insertions

  module _ (k : ℕ) (item : Item) (told : Result Unit ItemFault) (has_place : Bool)
      (tells : told ≡ answer_of (first_holding (item_checks c.entries item))) (at : has_place ≡ nat_le k (length c.items)) where
    abbrev room_there : Bool
    room_there = keeps_limits c.entries (insert c.items k item)

    insertion_is : step_answer c (Insert k item) ≡ item_answer told has_place room_there
    unfolding step_checks item_checks
    insertion_is = grind (arith, in_one_order)

    module _ (room : Bool) (kept : IsTrue room ↔ KeepsLimits c.entries (c.items ++ item ∷ [])) where
      same_room : has_place ≡ true → room_there ≡ room
      same_room there =
          let within : k ≤ length c.items = leb-true k (length c.items) (sym at ∙ there) in
          let anywhere = limits_anywhere c.entries c.items k item within in
          let law = limit_law.layer c.entries (insert c.items k item) in
          same_test room_there room (λ t. anywhere.1 (law.0 t), λ h. law.1 (anywhere.0 h)) kept

      pub inserted : item_answer told has_place room ≡ step_answer c (Insert k item)
      inserted = sym (insertion_is ∙ by_room told has_place room_there room same_room)

  -- ---- places

  pub deleted : (count k : ℕ) → count ≡ length c.items → place_answer count k ≡ step_answer c (Delete k)
  unfolding step_checks
  deleted count k e = ap (λ n. place_answer n k) e

  pub reordered : (count k m : ℕ) → count ≡ length c.items → place_answer count (max k m) ≡ step_answer c (Reorder k m)
  unfolding step_checks
  reordered count k m e = grind (arith, farther_place)

  -- ---- moves

  module _ (k : ℕ) (by : Point) where
    abbrev move : Step
    move = Move k by.x by.y

    by_place : (o : Option Item) → slice_get c.items k ≡ o
        → step_answer c move ≡ answer_of (first_holding (move_checks c by o))
    unfolding step_checks
    by_place o = ap (λ o. answer_of (first_holding (move_checks c by o)))

    pub nothing_moved : slice_get c.items k ≡ None → Err NoItem ≡ step_answer c move
    nothing_moved e = sym (by_place None e)

    module _ (x : Item) (here : slice_get c.items k ≡ Some x) where
      by_landing : (b : Bool) → is_inside c.entries (shifted_item by x) ≡ b
          → step_answer c move ≡ answer_of (cond (not b) (Some OutOfBoard) None)
      by_landing b e =
          by_place (Some x) here ∙ ap (λ b. answer_of (cond (not b) (Some OutOfBoard) None)) e

      pub moved_too_far : IsSoundContent c.entries c.items → (IsMove by → ⊥) → Err OutOfBoard ≡ step_answer c move
      moved_too_far h far =
          let sound : IsSoundItem c.entries x = all_here (IsSoundItem c.entries) c.items k x h.items here in
          let law = inside_law c.entries (shifted_item by x) in
          sym (by_landing false (false_from_ne_true _ (λ t. far (short_item by c.entries x sound (law.0 t)))))

      module _ (b : Bool) (tells : IsTrue b ↔ IsInside c.entries (shifted_item by x)) where
        same_landing : is_inside c.entries (shifted_item by x) ≡ b
        same_landing = same_test _ b (inside_law c.entries (shifted_item by x)) tells

        pub moved_off : b ≡ false → Err OutOfBoard ≡ step_answer c move
        moved_off e = sym (by_landing false (same_landing ∙ e))

        pub moved : b ≡ true → Ok tt ≡ step_answer c move
        moved e = sym (by_landing true (same_landing ∙ e))

  -- ---- apertures

  -- what an item that is not malformed is refused for, among those that there are with it
  abbrev pub of_item : Item → List Item → Option EditFault
  of_item item items =
      first_holding
      ((NoAperture, not (is_known_item c.entries item))
      ∷ (WrongAperture, not (is_drawable_item c.entries item))
      ∷ (SizeRefused, not (has_radii item))
      ∷ (OutOfBoard, not (is_inside c.entries item))
      ∷ (TooMuch, not (is_within_limits c.entries item && keeps_limits c.entries items)) ∷ [])

  module _ (k n : ℕ) where
    abbrev aperture : Step
    aperture = Aperture k n

    by_item : (o : Option Item) → slice_get c.items k ≡ o
        → step_answer c aperture ≡ answer_of (first_holding (aperture_checks c k n o))
    unfolding step_checks
    by_item o = ap (λ o. answer_of (first_holding (aperture_checks c k n o)))

    pub no_aperture : slice_get c.items k ≡ None → Err NoItem ≡ step_answer c aperture
    no_aperture e = sym (by_item None e)

    module _ (x : Item) (here : slice_get c.items k ≡ Some x) where
      by_having : (b : Bool) → has_aperture x ≡ b
          → step_answer c aperture
          ≡ answer_of (cond (not b) (Some HasNone)
          (of_item (with_object (with_aperture n) x) (changed (with_object (with_aperture n)) c.items k)))
      by_having b e =
          by_item (Some x) here
          ∙ ap (λ b. answer_of (cond (not b) (Some HasNone)
          (of_item (with_object (with_aperture n) x) (changed (with_object (with_aperture n)) c.items k)))) e

      pub aperture_kept : other_aperture n x ≡ None → Err HasNone ≡ step_answer c aperture
      aperture_kept e = sym (by_having false (has_none n x e))

      module _ (y : Item) (is : other_aperture n x ≡ Some y) (told : Result Unit ItemFault)
          (tells : told ≡ answer_of (first_holding (item_checks c.entries y))) where
        abbrev set : List Item
        set = slice_set c.items k y

        abbrev by_check : Result Unit ItemFault → Bool → Result Unit EditFault
        by_check told room = item_answer told true room

        y_is : with_object (with_aperture n) x ≡ y
        y_is = sym (set_is n x y is)

        formed : true ≡ is_formed_item y
        formed = sym (set_formed n x (has_one n x y is)) ∙ ap is_formed_item y_is

        set_there : changed (with_object (with_aperture n)) c.items k ≡ set
        set_there = ap (changed_to (with_object (with_aperture n)) c.items k) here ∙ ap (slice_set c.items k) y_is

        aperture_is : step_answer c aperture ≡ by_check told (keeps_limits c.entries set)
        unfolding item_checks
        aperture_is =
            by_having true (has_one n x y is)
            ∙ ((λ i. answer_of (of_item (y_is i) (set_there i)))
            ∙ (ap answer_of
            (in_one_order true true (is_known_item c.entries y) (is_drawable_item c.entries y) (has_radii y)
            (is_inside c.entries y) (is_within_limits c.entries y) (keeps_limits c.entries set))
            ∙ (ap (λ b. by_check (checked b true (is_known_item c.entries y) (is_drawable_item c.entries y) (has_radii y)
            (is_inside c.entries y) (is_within_limits c.entries y) true) (keeps_limits c.entries set)) formed
            ∙ ap (λ r. by_check r (keeps_limits c.entries set)) (sym tells))))

        pub aperture_changed : (room : Bool) → IsTrue room ↔ KeepsLimits c.entries set
            → item_answer told true room ≡ step_answer c aperture
        aperture_changed room kept = grind (arith, aperture_is, same_test, limit_law)

  -- ---- polarities

  module _ (k : ℕ) (dark : Bool) where
    abbrev polarity : Step
    polarity = Polarity k dark

    by_polarity : (o : Option Item) → slice_get c.items k ≡ o
        → step_answer c polarity ≡ answer_of (first_holding (polarity_checks c o))
    unfolding step_checks
    by_polarity o = ap (λ o. answer_of (first_holding (polarity_checks c o)))

    pub no_polarity : slice_get c.items k ≡ None → Err NoItem ≡ step_answer c polarity
    no_polarity e = sym (by_polarity None e)

    module _ (x : Item) (here : slice_get c.items k ≡ Some x) where
      by_having_one : (b : Bool) → has_polarity x ≡ b
          → step_answer c polarity ≡ answer_of (cond (not b) (Some HasNone) None)
      by_having_one b e =
          by_polarity (Some x) here ∙ ap (λ b. answer_of (cond (not b) (Some HasNone) None)) e

      pub polarity_kept : has_polarity x ≡ false → Err HasNone ≡ step_answer c polarity
      polarity_kept e = sym (by_having_one false e)

      pub polarity_changed : has_polarity x ≡ true → Ok tt ≡ step_answer c polarity
      polarity_changed e = sym (by_having_one true e)
