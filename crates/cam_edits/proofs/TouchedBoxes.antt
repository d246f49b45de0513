-- What an accepted step of a layer touches: its boxes, and what they ask of the items.
use Rattle.std.proofs.Common.{arith}
use Rattle.std.proofs.Common.{◌≡◌, ℕ, ◌<◌, Bool, List, [], ◌∷◌, ◌++◌, length, get_or, Option, None, Some, refl, sym, ap, subst, ◌∙◌}
use Rattle.std.specs.Prelude.{slice_get}
use Rattle.std.specs.Option.{option_map}
use Rattle.std.proofs.lemmas.Option.{slice_get_read, slice_get_within}
use Rattle.cam_refusals.specs.Checks.{first_holding}
use Rattle.cam_units.specs.declared.bounds.Bounds.{Bounds}
use Rattle.cam_units.specs.declared.point.Point.{Point}
use Rattle.cam_objects.specs.declared.attribute.Attribute.{Attribute}
use Rattle.cam_objects.specs.declared.item.Item.{Item}
use Rattle.cam_objects.specs.Contents.{Content as GerberContent}
use Rattle.cam_objects.specs.Shifting.{IsMove, shifted_item}
use Rattle.cam_objects.specs.Soundness.{IsInside, IsSoundContent, IsSoundItem}
use Rattle.cam_edits.specs.declared.step.Step.{Step}
use Rattle.cam_edits.specs.declared.step.Step.TheVariants as steps
use Rattle.cam_edits.specs.Editing.{step_checks}
use Rattle.cam_edits.specs.Machinery.PlaceLaws.{element_at}
use Rattle.cam_edits.specs.Steps.{with_aperture, with_object, with_polarity}
use Rattle.cam_edits.specs.Touched.{box_if_there, item_box, touched}
use Rattle.cam_edits.proofs.ChangedItems.{box_with_polarity}
use Rattle.cam_edits.proofs.EditedLists.{all_here}
use Rattle.cam_edits.proofs.MetSteps.{IsMet, IsThere, met}
use Rattle.cam_edits.proofs.ItemMoves.{short_item}

-- ---- the box of the item at a place, before a step and after it

module _ {X : Type 0} (box : X → Bounds) (xs : List X) (k : ℕ) where
  -- it is the box of the item that stands there
  abbrev pub IsBoxAt : Bounds → Type 0
  IsBoxAt b = (x : X) → slice_get xs k ≡ Some x → b ≡ box x

  module _ (within : k < length xs) (b : Bounds) (before : IsBoxAt b) where
    pub alone : b ∷ [] ≡ box_if_there box (slice_get xs k)
    alone =
        let there = element_at xs k within in
        ap (λ b. b ∷ []) (before there.0 there.1) ∙ sym (ap (box_if_there box) there.1)

    -- the boxes of an item that becomes another of the same box
    kept : (f : X → X) → ((x : X) → box (f x) ≡ box x)
        → b ∷ b ∷ [] ≡ box_if_there box (slice_get xs k) ++ box_if_there box (option_map f (slice_get xs k))
    kept f same =
        let there = element_at xs k within in
        let is = before there.0 there.1 in
        (λ i. is i ∷ (is ∙ sym (same there.0)) i ∷ [])
        ∙ sym (ap (λ o. box_if_there box o ++ box_if_there box (option_map f o)) there.1)

    -- and of one that becomes any other
    pub changed : (f : X → X) (x : X) (after : Bounds) → x ≡ get_or xs k x → after ≡ box (f x)
        → b ∷ after ∷ [] ≡ box_if_there box (slice_get xs k) ++ box_if_there box (option_map f (slice_get xs k))
    changed f x after at is = grind (arith, slice_get_read)

-- ---- Gerber layers

module _ (c : GerberContent) (step : Step) (none : first_holding (step_checks c step) ≡ None) where
  told : (other : Step) → step ≡ other → IsMet c other
  told other is = met c other (subst (λ (s : Step). first_holding (step_checks c s) ≡ None) is none)

  pub sound_insertion : (k : ℕ) (item : Item) → step ≡ steps.Insert k item → IsSoundItem c.entries item
  sound_insertion k item is = (told (steps.Insert k item) is).1

  -- ---- its place is there

  there : {P : Item → Type 0} (k : ℕ) → IsThere c.items k P → k < length c.items
  there k at = slice_get_within c.items k at.0 at.1

  pub delete_within : (k : ℕ) → step ≡ steps.Delete k → k < length c.items
  delete_within k is = told (steps.Delete k) is

  pub move_within : (k : ℕ) (by : Point) → step ≡ steps.Move k by.x by.y → k < length c.items
  move_within k by is = there k (told (steps.Move k by.x by.y) is)

  pub reorder_within : (k m : ℕ) → step ≡ steps.Reorder k m → k < length c.items
  reorder_within k m is = (told (steps.Reorder k m) is).0

  pub aperture_within : (k n : ℕ) → step ≡ steps.Aperture k n → k < length c.items
  aperture_within k n is = there k (told (steps.Aperture k n) is)

  pub polarity_within : (k : ℕ) (dark : Bool) → step ≡ steps.Polarity k dark → k < length c.items
  polarity_within k dark is = there k (told (steps.Polarity k dark) is)

  -- ---- what it makes of the item there may be asked for its box

  module _ (h : IsSoundContent c.entries c.items) (k : ℕ) (x : Item) (at : x ≡ get_or c.items k x) where
    here : k < length c.items → slice_get c.items k ≡ Some x
    here within = slice_get_read c.items (length c.items) k x refl within at

    same_item : (y : Item) → slice_get c.items k ≡ Some y → k < length c.items → y ≡ x
    same_item y at within = let e : Some y ≡ Some x = sym at ∙ here within in cc

    sound : k < length c.items → IsSoundItem c.entries x
    sound within = all_here (IsSoundItem c.entries) c.items k x h.items (here within)

    pub sound_aperture : (n : ℕ) → step ≡ steps.Aperture k n → IsSoundItem c.entries (with_object (with_aperture n) x)
    sound_aperture n is =
        let at = told (steps.Aperture k n) is in
        subst (λ x. IsSoundItem c.entries (with_object (with_aperture n) x)) (same_item at.0 at.1 (aperture_within k n is)) at.2.1

    module _ (by : Point) (is : step ≡ steps.Move k by.x by.y) where
      pub sound_before : IsSoundItem c.entries x
      sound_before = sound (move_within k by is)

      pub inside_after : IsInside c.entries (shifted_item by x)
      inside_after =
          let at = told (steps.Move k by.x by.y) is in
          subst (λ x. IsInside c.entries (shifted_item by x)) (same_item at.0 at.1 (move_within k by is)) at.2

      pub short_move : IsMove by
      short_move = short_item by c.entries x sound_before inside_after

  -- ---- the boxes

  abbrev box : Item → Bounds
  box item = item_box c.entries item

  boxes_are : (other : Step) → step ≡ other → (boxes : List Bounds) → boxes ≡ touched other c → boxes ≡ touched step c
  boxes_are other is boxes e = e ∙ ap (λ (s : Step). touched s c) (sym is)

  pub put_boxes : (k : ℕ) (a : Attribute) → step ≡ steps.PutAttribute k a → [] ≡ touched step c
  unfolding touched
  put_boxes k a is = boxes_are (steps.PutAttribute k a) is [] refl

  pub take_boxes : (k : ℕ) → step ≡ steps.TakeAttribute k → [] ≡ touched step c
  unfolding touched
  take_boxes k is = boxes_are (steps.TakeAttribute k) is [] refl

  pub fields_boxes : (k : ℕ) (fields : List ℕ) → step ≡ steps.SetFields k fields → [] ≡ touched step c
  unfolding touched
  fields_boxes k fields is = boxes_are (steps.SetFields k fields) is [] refl

  pub insert_box : (k : ℕ) (item : Item) → step ≡ steps.Insert k item → (b : Bounds) → b ≡ box item
      → b ∷ [] ≡ touched step c
  unfolding touched
  insert_box k item is b e = boxes_are (steps.Insert k item) is (b ∷ []) (ap (λ b. b ∷ []) e)

  pub delete_box : (k : ℕ) → step ≡ steps.Delete k → (b : Bounds) → IsBoxAt box c.items k b → b ∷ [] ≡ touched step c
  unfolding touched
  delete_box k is b before =
      let there = element_at c.items k (delete_within k is) in
      boxes_are (steps.Delete k) is (b ∷ [])
      (ap (λ b. b ∷ []) (before there.0 there.1) ∙ sym (ap (λ (o : Option Item). box_if_there box o ++ []) there.1))

  pub move_boxes : (k : ℕ) (by : Point) → step ≡ steps.Move k by.x by.y → (x : Item) → x ≡ get_or c.items k x
      → (b after : Bounds) → IsBoxAt box c.items k b → after ≡ box (shifted_item by x) → b ∷ after ∷ [] ≡ touched step c
  unfolding touched
  move_boxes k by is x at b after before e =
      boxes_are (steps.Move k by.x by.y) is (b ∷ after ∷ [])
      (changed box c.items k (move_within k by is) b before (shifted_item by) x after at e)

  pub reorder_boxes : (k m : ℕ) → step ≡ steps.Reorder k m → (b : Bounds) → IsBoxAt box c.items k b
      → b ∷ b ∷ [] ≡ touched step c
  unfolding touched
  reorder_boxes k m is b before =
      let one = alone box c.items k (reorder_within k m is) b before in
      boxes_are (steps.Reorder k m) is (b ∷ b ∷ []) (λ i. one i ++ one i)

  pub aperture_boxes : (k n : ℕ) → step ≡ steps.Aperture k n → (x : Item) → x ≡ get_or c.items k x
      → (b after : Bounds) → IsBoxAt box c.items k b → after ≡ box (with_object (with_aperture n) x)
      → b ∷ after ∷ [] ≡ touched step c
  unfolding touched
  aperture_boxes k n is x at b after before e =
      boxes_are (steps.Aperture k n) is (b ∷ after ∷ [])
      (changed box c.items k (aperture_within k n is) b before (with_object (with_aperture n)) x after at e)

  pub polarity_boxes : (k : ℕ) (dark : Bool) → step ≡ steps.Polarity k dark → (b : Bounds) → IsBoxAt box c.items k b
      → b ∷ b ∷ [] ≡ touched step c
  unfolding touched
  polarity_boxes k dark is b before =
      boxes_are (steps.Polarity k dark) is (b ∷ b ∷ [])
      (kept box c.items k (polarity_within k dark is) b before (with_object (with_polarity dark))
      (box_with_polarity dark c.entries))
