-- What an accepted step of a drill layer touches: its boxes, and what they ask of the items.
use Rattle.std.proofs.Common.{◌≡◌, ℕ, ◌+◌, ◌<◌, ◌≤◌, Bool, true, false, cond, nat_eq, List, [], ◌∷◌, ◌++◌, length, take}
use Rattle.std.proofs.Common.{get_or, None, Some, refl, sym, ap, subst, ◌∙◌, append_assoc, append-nil, arith}
use Rattle.std.specs.Prelude.{◌==◌, IsSome, filter, slice_get}
use Rattle.std.specs.Cmp.{nat_eq_equiv}
use Rattle.std.specs.List.{All, flat_map}
use Rattle.std.specs.Map.{set_value}
use Rattle.std.proofs.lemmas.Bool.Decides.{nat_tests}
use Rattle.std.proofs.lemmas.Grind.{flat_map-append}
use Rattle.std.proofs.lemmas.Int.{ints}
use Rattle.std.proofs.lemmas.List.{take_all}
use Rattle.std.proofs.lemmas.List.Elements.{filter_more}
use Rattle.std.proofs.lemmas.Map.{lookup-set_value}
use Rattle.std.proofs.lemmas.Option.{slice_get_read, slice_get_within}
use Rattle.cam_refusals.specs.Checks.{first_holding}
use Rattle.cam_units.specs.Board.{IsOnBoard, IsSize}
use Rattle.cam_units.specs.declared.bounds.Bounds.{Bounds}
use Rattle.cam_units.specs.declared.length.Nm.{Nm}
use Rattle.cam_units.specs.declared.point.Point.{Point}
use Rattle.cam_objects.specs.declared.drill_item.DrillItem.{DrillItem}
use Rattle.cam_objects.specs.Bounds.{bounds_of}
use Rattle.cam_objects.specs.Contents.{DrillContent}
use Rattle.cam_objects.specs.Drilling.{diameter_of, drill_item_leaves, leaves_with}
use Rattle.cam_objects.specs.DrillSoundness.{IsSoundDrillContent, IsSoundDrillItem, drill_points_of, tool_of}
use Rattle.cam_objects.specs.Shifting.{IsMove, shifted_drill_item}
use Rattle.cam_edits.specs.declared.drill_step.DrillStep.{DrillStep}
use Rattle.cam_edits.specs.declared.drill_step.DrillStep.TheVariants as steps
use Rattle.cam_edits.specs.DrillSteps.{with_tool}
use Rattle.cam_edits.specs.Editing.{drill_step_checks}
use Rattle.cam_edits.specs.Touched.{drill_box, drill_touched}
use Rattle.cam_edits.proofs.EditedLists.{all_here}
use Rattle.cam_edits.proofs.MetSteps.{IsDrillMet, drill_met}
use Rattle.cam_edits.proofs.ItemMoves.{short_drill_item}
use Rattle.cam_edits.proofs.SoundDrillEdits.{sized_tool}
use Rattle.cam_edits.proofs.TouchedBoxes.{IsBoxAt, alone, changed}

-- ---- the items of a tool

-- the boxes of the items of a tool, before its diameter changes and after
abbrev pub boxes_of_items : List (ℕ × Nm) → ℕ → Nm → List DrillItem → List Bounds
boxes_of_items ts t d items =
    flat_map (λ item. drill_box ts item ∷ drill_box (set_value (nat_eq t) ts d) item ∷ [])
    (filter (λ item. tool_of item == t) items)

pub leaves_of_item : (ts : List (ℕ × Nm)) (item : DrillItem)
    → drill_item_leaves ts item ≡ leaves_with (diameter_of ts (tool_of item)) item
leaves_of_item ts item = grind arith

pub same_number : (t x y : ℕ) → nat_eq t x ≡ true → nat_eq t y ≡ nat_eq x y
same_number t x y e = let is : t ≡ x = grind (arith, nat_tests) in ap (λ n. nat_eq n y) is

pub new_diameter : (ts : List (ℕ × Nm)) (t : ℕ) (d : Nm) → IsSome (diameter_of ts t)
    → diameter_of (set_value (nat_eq t) ts d) t ≡ Some d
new_diameter ts t d there =
    lookup-set_value nat_eq_equiv (nat_eq t) (same_number t) t d ts there
    ∙ ap (λ b. cond b (Some d) (diameter_of ts t)) (nat_eq_equiv.refl t)

box_after : (ts : List (ℕ × Nm)) (t : ℕ) (d : Nm) (item : DrillItem) → IsSome (diameter_of ts t) → tool_of item ≡ t
    → bounds_of (leaves_with (Some d) item) ≡ drill_box (set_value (nat_eq t) ts d) item
box_after ts t d item there is = grind (arith, leaves_of_item, new_diameter)

module _ (ts : List (ℕ × Nm)) (t : ℕ) (d : Nm) (items : List DrillItem) (i : ℕ) (x : DrillItem)
    (below : i < length items) (at : x ≡ get_or items i x) where
  abbrev pair_of : DrillItem → List Bounds
  pair_of item = drill_box ts item ∷ drill_box (set_value (nat_eq t) ts d) item ∷ []

  abbrev is_of_tool : DrillItem → Bool
  is_of_tool item = tool_of item == t

  next : (b : Bool) → is_of_tool x ≡ b
      → boxes_of_items ts t d (take (i + 1) items)
      ≡ boxes_of_items ts t d (take i items) ++ flat_map pair_of (cond b (x ∷ []) [])
  next b e =
      ap (flat_map pair_of)
      (filter_more is_of_tool items i x below
      ∙ ap (λ (y : DrillItem). filter is_of_tool (take i items) ++ cond (is_of_tool y) (y ∷ []) []) (sym at)
      ∙ ap (λ b. filter is_of_tool (take i items) ++ cond b (x ∷ []) []) e)
      ∙ flat_map-append pair_of (filter is_of_tool (take i items)) (cond b (x ∷ []) [])

  -- with one item more: one of the tool has two boxes, another has none
  pub item_of_tool : (boxes : List Bounds) (before after : Bounds) → boxes ≡ boxes_of_items ts t d (take i items)
      → IsSome (diameter_of ts t) → tool_of x ≡ t → before ≡ drill_box ts x → after ≡ bounds_of (leaves_with (Some d) x)
      → (boxes ++ before ∷ []) ++ after ∷ [] ≡ boxes_of_items ts t d (take (i + 1) items)
  item_of_tool boxes before after so_far there is e f =
      append_assoc boxes (before ∷ []) (after ∷ [])
      ∙ (λ k. so_far k ++ e k ∷ (f ∙ box_after ts t d x there is) k ∷ [])
      ∙ sym (next true (ap (λ n. n == t) is ∙ nat_eq_equiv.refl t))

  pub item_of_other : (boxes : List Bounds) → boxes ≡ boxes_of_items ts t d (take i items) → (tool_of x ≡ t → ⊥)
      → boxes ≡ boxes_of_items ts t d (take (i + 1) items)
  item_of_other boxes so_far other =
      let not_it : is_of_tool x ≡ false = grind (arith, nat_tests) in
      so_far ∙ sym (append-nil (boxes_of_items ts t d (take i items))) ∙ sym (next false not_it)

-- the boxes of all items
pub boxes_of_all : (ts : List (ℕ × Nm)) (t : ℕ) (d : Nm) (xs ys : List DrillItem) (i : ℕ) → ys ≡ xs → length ys ≤ i
    → boxes_of_items ts t d (take i ys) ≡ boxes_of_items ts t d xs
boxes_of_all ts t d xs ys i same past = ap (boxes_of_items ts t d) (take_all i ys past ∙ same)

pub sound_read : (ts : List (ℕ × Nm)) (xs ys : List DrillItem) (i : ℕ) (x : DrillItem) → All (IsSoundDrillItem ts) xs
    → ys ≡ xs
    → i < length ys → x ≡ get_or ys i x → IsSoundDrillItem ts x
sound_read ts xs ys i x h same below at = grind arith

-- ---- what is told of a step

module _ (c : DrillContent) (step : DrillStep) (none : first_holding (drill_step_checks c step) ≡ None) where
  told : (other : DrillStep) → step ≡ other → IsDrillMet c other
  told other is = drill_met c other (subst (λ (s : DrillStep). first_holding (drill_step_checks c s) ≡ None) is none)

  pub sound_insertion : (k : ℕ) (item : DrillItem) → step ≡ steps.Insert k item → IsSoundDrillItem c.tools item
  sound_insertion k item is = (told (steps.Insert k item) is).1

  -- ---- its place is there

  pub delete_within : (k : ℕ) → step ≡ steps.Delete k → k < length c.items
  delete_within k is = told (steps.Delete k) is

  pub move_within : (k : ℕ) (by : Point) → step ≡ steps.Move k by.x by.y → k < length c.items
  move_within k by is = let at = told (steps.Move k by.x by.y) is in slice_get_within c.items k at.0 at.1

  pub reorder_within : (k m : ℕ) → step ≡ steps.Reorder k m → k < length c.items
  reorder_within k m is = (told (steps.Reorder k m) is).0

  pub tool_within : (k t : ℕ) → step ≡ steps.Tool k t → k < length c.items
  tool_within k t is = (told (steps.Tool k t) is).0

  -- ---- the item there, and what is made of it, may be asked for its box

  module _ (h : IsSoundDrillContent c.tools c.items) where
    module _ (k : ℕ) (x : DrillItem) (at : x ≡ get_or c.items k x) where
      here : k < length c.items → slice_get c.items k ≡ Some x
      here within = slice_get_read c.items (length c.items) k x refl within at

      pub sound_there : k < length c.items → IsSoundDrillItem c.tools x
      sound_there within = all_here (IsSoundDrillItem c.tools) c.items k x h.items (here within)

      module _ (by : Point) (is : step ≡ steps.Move k by.x by.y) where
        pub inside_after : All IsOnBoard (drill_points_of (shifted_drill_item by x))
        inside_after =
            let at = told (steps.Move k by.x by.y) is in
            let e : Some at.0 ≡ Some x = sym at.1 ∙ here (move_within k by is) in
            let same : at.0 ≡ x = cc in subst (λ x. All IsOnBoard (drill_points_of (shifted_drill_item by x))) same at.2

        pub short_move : IsMove by
        short_move = short_drill_item by c.tools x (sound_there (move_within k by is)) inside_after

    module _ (t : ℕ) (d : Nm) (is : step ≡ steps.Diameter t d) where
      pub has_tool : IsSome (diameter_of c.tools t)
      has_tool = (told (steps.Diameter t d) is).0

      pub diameter_size : IsSize d.0
      diameter_size =
          let told = told (steps.Diameter t d) is in
          let tool = sized_tool c.tools t d h.tools told.0 told.1 in
          (omega (arith, ints, tool.wide), tool.narrow)

  -- ---- the boxes

  abbrev box : DrillItem → Bounds
  box item = drill_box c.tools item

  boxes_are : (other : DrillStep) → step ≡ other → (boxes : List Bounds) → boxes ≡ drill_touched other c
      → boxes ≡ drill_touched step c
  boxes_are other is boxes e = e ∙ ap (λ (s : DrillStep). drill_touched s c) (sym is)

  pub insert_box : (k : ℕ) (item : DrillItem) → step ≡ steps.Insert k item → (b : Bounds) → b ≡ box item
      → b ∷ [] ≡ drill_touched step c
  unfolding drill_touched
  insert_box k item is b e = boxes_are (steps.Insert k item) is (b ∷ []) (ap (λ b. b ∷ []) e)

  pub delete_box : (k : ℕ) → step ≡ steps.Delete k → (b : Bounds) → IsBoxAt box c.items k b
      → b ∷ [] ≡ drill_touched step c
  unfolding drill_touched
  delete_box k is b before =
      let one = alone box c.items k (delete_within k is) b before in
      boxes_are (steps.Delete k) is (b ∷ []) (λ i. one i ++ [] ++ [])

  pub move_boxes : (k : ℕ) (by : Point) → step ≡ steps.Move k by.x by.y → (x : DrillItem) → x ≡ get_or c.items k x
      → (b after : Bounds) → IsBoxAt box c.items k b → after ≡ box (shifted_drill_item by x)
      → b ∷ after ∷ [] ≡ drill_touched step c
  unfolding drill_touched
  move_boxes k by is x at b after before e =
      let two = changed box c.items k (move_within k by is) b before (shifted_drill_item by) x after at e in
      boxes_are (steps.Move k by.x by.y) is (b ∷ after ∷ []) (λ i. two i ++ [])

  pub reorder_boxes : (k m : ℕ) → step ≡ steps.Reorder k m → (b : Bounds) → IsBoxAt box c.items k b
      → b ∷ b ∷ [] ≡ drill_touched step c
  unfolding drill_touched
  reorder_boxes k m is b before =
      let one = alone box c.items k (reorder_within k m is) b before in
      boxes_are (steps.Reorder k m) is (b ∷ b ∷ []) (λ i. one i ++ one i ++ [])

  pub tool_boxes : (k t : ℕ) → step ≡ steps.Tool k t → (x : DrillItem) → x ≡ get_or c.items k x
      → (b after : Bounds) → IsBoxAt box c.items k b → after ≡ box (with_tool t x)
      → b ∷ after ∷ [] ≡ drill_touched step c
  unfolding drill_touched
  tool_boxes k t is x at b after before e =
      let two = changed box c.items k (tool_within k t is) b before (with_tool t) x after at e in
      boxes_are (steps.Tool k t) is (b ∷ after ∷ []) (λ i. two i ++ [])

pub diameter_boxes : (c : DrillContent) (t : ℕ) (d : Nm)
    → boxes_of_items c.tools t d c.items ≡ drill_touched (steps.Diameter t d) c
unfolding drill_touched
diameter_boxes c t d = refl
