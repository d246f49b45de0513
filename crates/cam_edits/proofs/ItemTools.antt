-- the tools of items, kept beside a drill layer, and what a tool's diameter changes
use Rattle.std.proofs.Common.{◌≡◌, ◌∙◌, ℕ, ◌+◌, ◌<◌, ◌≤◌, ◌⊎◌, inl, inr, List, length, get_or, insert, remove, slice_index, slice_set, take, None, Some}
use Rattle.std.proofs.Common.{zero, suc, false, cond, nat_eq, ap, refl, subst, sym, arith}
use Rattle.std.specs.Prelude.{IsSome}
use Rattle.std.specs.Cmp.{nat_eq_equiv}
use Rattle.std.specs.Map.{set_value}
use Rattle.std.proofs.lemmas.Bool.Decides.{nat_tests}
use Rattle.std.proofs.lemmas.Map.{lookup-set_value}
use Rattle.std.proofs.lemmas.Bool.{cases_eq, cases_lt}
use Rattle.std.proofs.lemmas.List.{get_or-map, get_or_default, get_or-set_other, get_or-set_same, length-map, length-set}
use Rattle.std.proofs.lemmas.List.Edits.{get_or-insert_at, length-insert, length-remove}
use Rattle.cam_units.specs.declared.bounds.Bounds.{Bounds}
use Rattle.cam_units.specs.declared.bounds.Bounds.TheVariants.{Empty}
use Rattle.cam_units.specs.declared.length.Nm.{Nm}
use Rattle.cam_objects.specs.Cells.{AreCellsOf, Reaches, box_at, drill_item_boxes}
use Rattle.cam_objects.specs.DrillSoundness.{tool_of}
use Rattle.cam_objects.specs.Drilling.{diameter_of}
use Rattle.cam_objects.specs.declared.drill_item.DrillItem.{DrillItem}
use Rattle.cam_objects.specs.declared.drill_layer.DrillLayer.{DrillLayer}
use Rattle.cam_objects.proofs.KeptBoxes.{beside_carried, beside_inserted, beside_removed, beside_set}
use Rattle.cam_edits.specs.Machinery.Shifts.{AreRenewedUntil, AreToolsOf, IsEdited, IsShift, WasKeptUnsized, WereTools, tools_of}
use Rattle.cam_edits.specs.Machinery.PlaceLaws.{element_at}
use Rattle.cam_edits.specs.Touched.{drill_box}
use Rattle.cam_edits.specs.declared.indexed.Kept.{Kept}
use Rattle.cam_edits.specs.declared.shift.Shift.{Shift}
use Rattle.cam_edits.proofs.ShiftedItems.{edit_read, set_is}
use Rattle.cam_edits.proofs.TouchedDrillBoxes.{boxes_of_items, item_of_other, leaves_of_item, same_number}

abbrev Is : ℕ → ℕ → Type 0
Is tool number = number ≡ tool

-- the tool of the item at a place
pub tool_at : (items : List DrillItem) (k : ℕ) (item : DrillItem) (number : ℕ) → k < length items → item ≡ get_or items k item
    → number ≡ tool_of item → number ≡ get_or (tools_of items) k 0
tool_at items k item number within at read = read ∙ ap tool_of at ∙ sym (get_or-map tool_of items k item 0 within)

-- ---- the tools follow an edit

module _ (old xs ys : List ℕ) (known : AreToolsOf xs old) where
  pub tools_set : (from to v : ℕ) (new : List ℕ) → IsEdited (Some from) (Some to) xs ys → from ≡ to → v ≡ get_or ys to 0
      → new ≡ slice_set old to v → AreToolsOf ys new
  tools_set from to v new edit same read is =
      let x = edit.2.0 in
      let after : ys ≡ slice_set xs to x = edit.2.1 ∙ ap (λ k. insert (remove xs k) to x) same ∙ sym (set_is xs to x edit.1) in
      let here : v ≡ x = read ∙ ap (λ l. get_or l to 0) after ∙ get_or-set_same xs to x 0 edit.1 in
      subst (λ l. AreToolsOf l new) (sym after) (beside_set Is 0 xs old known to x v new edit.1 here is)

  pub tools_carried : (from to v : ℕ) (new : List ℕ) → IsEdited (Some from) (Some to) xs ys → v ≡ get_or ys to 0
      → (from < length old → to < length old → new ≡ insert (remove old from) to v)
      → ((length old ≤ from) ⊎ (length old ≤ to) → new ≡ take to (take from old)) → AreToolsOf ys new
  tools_carried from to v new edit read came behind = grind (arith, length-remove, get_or-insert_at, beside_carried)

  pub tools_inserted : (to v : ℕ) (new : List ℕ) → IsEdited None (Some to) xs ys → v ≡ get_or ys to 0
      → (new ≡ take (length new) (insert old to v)) × ((length old < to) → new ≡ old) → AreToolsOf ys new
  tools_inserted to v new edit read came = grind (arith, get_or-insert_at, beside_inserted)

  pub tools_removed : (from : ℕ) (new : List ℕ) → IsEdited (Some from) None xs ys
      → ((from < length old → new ≡ remove old from) × (length old ≤ from → new ≡ old)) → AreToolsOf ys new
  tools_removed from new edit went = grind (arith, beside_removed)

pub were_tools : (shift : Shift) (xs ys : List DrillItem) (numbers : List ℕ) → IsShift shift xs ys
    → AreToolsOf (tools_of xs) numbers → WereTools shift numbers (tools_of ys)
were_tools shift xs ys numbers shifted known = grind (arith, edit_read)

pub new_within : (to : ℕ) (xs ys : List ℕ) → IsEdited None (Some to) xs ys → to < length ys
new_within to xs ys edit = omega (arith, length-insert xs to edit.1.0 edit.0, ap length edit.1.1, edit.0)

-- ---- items of other tools

pub other_tools : (tools numbers : List ℕ) (place next t : ℕ) → AreToolsOf tools numbers
    → ((k : ℕ) → place ≤ k → k < next → (k < length numbers) × (slice_index numbers k ≡ t → ⊥))
    → (k : ℕ) → place ≤ k → k < next → k < length tools → slice_index tools k ≡ t → ⊥
other_tools tools numbers place next t known passed k from until listed is = grind arith

-- ---- the items of a tool are read anew

abbrev pub boxes_in : DrillLayer → List Bounds
boxes_in layer = drill_item_boxes layer.tools layer.items.items

module _ (t : ℕ) (layer : DrillLayer) (cells : Reaches) (place : ℕ) (was : AreRenewedUntil place t layer cells) where
  pub renewed_past : (next : ℕ)
      → ((k : ℕ) → place ≤ k → k < next → slice_index (tools_of layer.items.items) k ≡ t → ⊥)
      → AreRenewedUntil next t layer cells
  renewed_past next others = record {
    boxes = was.boxes;
    many = was.many;
    known = was.known;
    until = λ k below listed.
        elim (cases_lt k place) [
          | inl before ↦ was.until k before listed
          | inr past ↦ was.others k listed (others k past below)
        ];
    others = was.others;
  }

  pub renewed_here : (new : Reaches) → place < length layer.items.items
      → ((before : List Bounds) → AreCellsOf before cells → place < length before
      → AreCellsOf (slice_set before place (box_at (boxes_in layer) place)) new)
      → AreRenewedUntil (place + 1) t layer new
  renewed_here new within one =
      let b = box_at (boxes_in layer) place in
      let after = slice_set was.boxes place b in
      let there : place < length was.boxes = omega (arith, within, was.many) in
      let held : (k : ℕ) → (k ≡ place → ⊥) → box_at was.boxes k ≡ box_at (boxes_in layer) k
      → box_at after k ≡ box_at (boxes_in layer) k =
      λ k apart h. get_or-set_other was.boxes place k b Empty apart ∙ h in
      let here : (k : ℕ) → k ≡ place → box_at after k ≡ box_at (boxes_in layer) k =
      λ k e. subst (λ j. box_at after j ≡ box_at (boxes_in layer) j) (sym e) (get_or-set_same was.boxes place b Empty there) in
      record {
        boxes = after;
        many = length-set was.boxes place b ∙ was.many;
        known = one was.boxes was.known there;
        until = λ k below listed.
            elim (cases_eq k place) [
              | inl e ↦ here k e
              | inr apart ↦ held k apart (was.until k (omega (arith, below, apart)) listed)
            ];
        others = λ k listed other.
            elim (cases_eq k place) [
              | inl e ↦ here k e
              | inr apart ↦ held k apart (was.others k listed other)
            ];
      }

  pub renewed_all : length layer.items.items ≤ place → AreCellsOf (boxes_in layer) cells
  renewed_all past = grind (arith, length-map)

-- ---- what a diameter leaves alone

other_diameter : (ts : List (ℕ × Nm)) (t k : ℕ) (d : Nm) → IsSome (diameter_of ts t) → (k ≡ t → ⊥)
    → diameter_of (set_value (nat_eq t) ts d) k ≡ diameter_of ts k
other_diameter ts t k d there other =
    let apart : nat_eq t k ≡ false = grind (arith, nat_tests) in
    lookup-set_value nat_eq_equiv (nat_eq t) (same_number t) k d ts there
    ∙ ap (λ b. cond b (Some d) (diameter_of ts k)) apart

other_box : (ts : List (ℕ × Nm)) (t : ℕ) (d : Nm) (item : DrillItem) → IsSome (diameter_of ts t) → (tool_of item ≡ t → ⊥)
    → drill_box ts item ≡ drill_box (set_value (nat_eq t) ts d) item
other_box ts t d item there other = grind (arith, leaves_of_item, other_diameter)

pub unsized_cells : (kept : Kept) (t : ℕ) (d : Nm) (layer : DrillLayer) → WasKeptUnsized kept t d layer
    → AreRenewedUntil 0 t layer kept.cells
unsized_cells kept t d layer was =
    let ts = was.before.tools in
    let items = layer.items.items in
    record {
      boxes = boxes_in was.before;
      many = length-map {B = Bounds} was.before.items.items (drill_box ts) ∙ sym (ap length was.items);
      known = was.known.cells;
      until = λ k below listed. absurd (omega (arith, below));
      others = λ k listed other.
          let d' = (element_at items k listed).0 in
          let x = get_or items k d' in
          let apart : tool_of x ≡ t → ⊥ = λ e. other (get_or-map tool_of items k d' 0 listed ∙ e) in
          subst (λ is. box_at (drill_item_boxes ts is) k ≡ box_at (boxes_in layer) k) was.items
          (get_or-map (drill_box ts) items k d' Empty listed
          ∙ other_box ts t d x was.there apart
          ∙ ap (λ us. drill_box us x) (sym was.tools)
          ∙ sym (get_or-map (drill_box layer.tools) items k d' Empty listed));
    }

-- ---- the boxes of the items of a tool, with items of others passed over

pub boxes_past : (ts : List (ℕ × Nm)) (t : ℕ) (d : Nm) (items : List DrillItem) (gap n m : ℕ) → n + gap ≡ m
    → m ≤ length items → ((k : ℕ) → n ≤ k → k < m → slice_index (tools_of items) k ≡ t → ⊥)
    → (boxes : List Bounds) → boxes ≡ boxes_of_items ts t d (take n items)
    → boxes ≡ boxes_of_items ts t d (take m items)
boxes_past ts t d items zero n m is few others boxes so_far = grind (arith, boxes_of_items)
boxes_past ts t d items (suc gap) n m is few others boxes so_far =
    let below : n < length items = omega (arith, is, few) in
    let x = get_or items n (element_at items n below).0 in
    let at : x ≡ get_or items n x = get_or_default items n (element_at items n below).0 x below in
    boxes_past ts t d items gap (n + 1) m (omega (arith, is)) few (λ k from until. others k (omega (arith, from)) until) boxes
    (item_of_other ts t d items n x below at boxes so_far
    (λ e. others n (omega arith) (omega (arith, is)) (sym (tool_at items n x (tool_of x) below at refl) ∙ e)))
