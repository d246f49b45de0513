-- Where a step moves the items of a layer, and what is kept beside them.
use Rattle.std.specs.Prelude.{◌≡◌, ℕ, ◌<◌, ◌≤◌, List, length, Option, None, Some, IsSome, map, nat_eq, slice_get, sum_by}
use Rattle.std.specs.Prelude.{insert, remove, slice_index}
use Rattle.std.specs.Map.{set_value}
use Rattle.cam_units.specs.declared.bounds.Bounds.{Bounds}
use Rattle.cam_units.specs.declared.length.Nm.{Nm}
use Rattle.cam_objects.specs.Attributes.{AreAttributes}
use Rattle.cam_objects.specs.Cells.{AreBeside, AreCellsOf, AreFirstCopiesOf, FirstCopied, Reaches, box_at, drill_item_boxes, item_boxes}
use Rattle.cam_objects.specs.DrillSoundness.{IsSoundDrillLayer, drill_count_of, tool_of}
use Rattle.cam_objects.specs.Drilling.{diameter_of}
use Rattle.cam_objects.specs.Soundness.{HasSoundItems}
use Rattle.cam_objects.specs.Weights.{item_count, weight_in}
use Rattle.cam_objects.specs.declared.drill_item.DrillItem.{DrillItem}
use Rattle.cam_objects.specs.declared.drill_layer.DrillLayer.{DrillLayer}
use Rattle.cam_objects.specs.declared.item.Item.{Item}
use Rattle.cam_objects.specs.declared.layer.Layer.{Layer}
use Rattle.cam_edits.specs.declared.indexed.IndexedLayer.TheInside.{Inside}
use Rattle.cam_edits.specs.declared.indexed.Kept.{Kept}
use Rattle.cam_edits.specs.declared.indexed_drill.IndexedDrillLayer.TheInside.{Inside as DrillInside}
use Rattle.cam_edits.specs.declared.shift.Shift.{Shift}

abbrev pub count_of : {X : Type 0} → (X → ℕ) → Option X → ℕ
count_of f None = 0
count_of f (Some x) = f x

-- the element at a place, where there is one
abbrev pub there : {X : Type 0} → List X → Option ℕ → Option X
there xs None = None
there xs (Some k) = slice_get xs k

-- what it counts
abbrev pub count_at : {X : Type 0} → (X → ℕ) → List X → Option ℕ → ℕ
count_at f xs place = count_of f (there xs place)

-- an element left its place, and then one came to a place
abbrev pub IsEdited : {X : Type 0} → Option ℕ → Option ℕ → List X → List X → Type 0
IsEdited None None before after = after ≡ before
IsEdited {X = X} None (Some m) before after = (m ≤ length before) × ((x : X) × (after ≡ insert before m x))
IsEdited (Some k) None before after = (k < length before) × (after ≡ remove before k)
IsEdited {X = X} (Some k) (Some m) before after =
    (k < length before) × (m < length before) × ((x : X) × (after ≡ insert (remove before k) m x))

abbrev pub IsShift : {X : Type 0} → Shift → List X → List X → Type 0
IsShift shift before after = IsEdited shift.from shift.to before after

-- they were the cells of boxes of which an edit with this shift made others
pub record WereCells (shift : Shift) (cells : Reaches) (after : List Bounds) : Type 0 where
  pub before : List Bounds
  pub known : AreCellsOf before cells
  pub edit : IsEdited shift.from shift.to before after

-- ---- what is kept of a layer

-- it is sound, its leaves are counted, and so are the cells that its items reach
pub record IsKept (Sound : Type 0) (count : ℕ) (boxes : List Bounds) (kept : Kept) : Type 0 where
  pub sound : Sound
  pub leaves : kept.leaves ≡ count
  pub cells : AreCellsOf boxes kept.cells

abbrev pub leaves_in : Layer → ℕ
leaves_in layer = sum_by (item_count (weight_in layer.apertures)) layer.items.items

abbrev pub leaves_at : Layer → Option ℕ → ℕ
leaves_at layer place = count_at (item_count (weight_in layer.apertures)) layer.items.items place

abbrev pub IsKeptOf : Layer → Kept → Type 0
IsKeptOf layer = IsKept (HasSoundItems layer) (leaves_in layer) (item_boxes layer.apertures layer.items.items)

pub record IsIndexed (c : Inside) : Type 0 where
  pub attributes : AreAttributes c.layer.attributes.items
  pub kept : IsKeptOf c.layer c.kept
  pub copies : AreFirstCopiesOf c.layer.apertures c.layer.items.items c.copies

-- they were the first copies of the repeats among items from which a shift leads to those of this layer
pub record WereFirstCopies (shift : Shift) (layer : Layer) (copies : List FirstCopied) : Type 0 where
  pub before : List Item
  pub known : AreFirstCopiesOf layer.apertures before copies
  pub edit : IsEdited shift.from shift.to before layer.items.items

-- it was kept of a layer from whose items a shift leads to those of this one, which is sound and has the same dictionary
pub record WasKept (kept : Kept) (shift : Shift) (gone : ℕ) (layer : Layer) : Type 0 where
  pub before : Layer
  pub known : IsKeptOf before kept
  pub sound : HasSoundItems layer
  pub entries : before.apertures ≡ layer.apertures
  pub shifted : IsShift shift before.items.items layer.items.items
  pub left : gone ≡ leaves_at before shift.from

-- ---- what is kept of a drill layer

abbrev pub drill_leaves_in : DrillLayer → ℕ
drill_leaves_in layer = sum_by drill_count_of layer.items.items

abbrev pub drill_leaves_at : DrillLayer → Option ℕ → ℕ
drill_leaves_at layer place = count_at drill_count_of layer.items.items place

abbrev pub IsKeptOfDrill : DrillLayer → Kept → Type 0
IsKeptOfDrill layer =
    IsKept (IsSoundDrillLayer layer) (drill_leaves_in layer) (drill_item_boxes layer.tools layer.items.items)

-- ---- the tools of the items of a drill layer

abbrev pub tools_of : List DrillItem → List ℕ
tools_of items = map tool_of items

-- the numbers of the tools, one after another from the first item on; nothing is known of those behind
abbrev pub AreToolsOf : List ℕ → List ℕ → Type 0
AreToolsOf tools numbers = AreBeside (λ tool number. number ≡ tool) 0 tools numbers

-- they were the numbers of tools of which an edit with this shift made others
pub record WereTools (shift : Shift) (numbers : List ℕ) (after : List ℕ) : Type 0 where
  pub before : List ℕ
  pub known : AreToolsOf before numbers
  pub edit : IsEdited shift.from shift.to before after

-- the next place from one on with an item of a tool; how many items there are, where there is none
pub record IsNextOfTool (tools : List ℕ) (t place next : ℕ) : Type 0 where
  pub onward : place ≤ next
  pub within : next ≤ length tools
  pub others : (k : ℕ) → place ≤ k → k < next → slice_index tools k ≡ t → ⊥
  pub found : next < length tools → slice_index tools next ≡ t

pub record IsIndexedDrill (c : DrillInside) : Type 0 where
  pub kept : IsKeptOfDrill c.layer c.kept
  pub tools : AreToolsOf (tools_of c.layer.items.items) c.tools

-- they are the cells of boxes that are those of the layer's items as far as a place, and of all items of other tools
pub record AreRenewedUntil (place t : ℕ) (layer : DrillLayer) (cells : Reaches) : Type 0 where
  pub boxes : List Bounds
  pub many : length boxes ≡ length layer.items.items
  pub known : AreCellsOf boxes cells
  pub until : (k : ℕ) → k < place → k < length layer.items.items
      → box_at boxes k ≡ box_at (drill_item_boxes layer.tools layer.items.items) k
  pub others : (k : ℕ) → k < length layer.items.items → (slice_index (tools_of layer.items.items) k ≡ t → ⊥)
      → box_at boxes k ≡ box_at (drill_item_boxes layer.tools layer.items.items) k

-- it was kept of a drill layer from whose items a shift leads to those of this one, which is sound and has the same tools
pub record WasKeptOfDrill (kept : Kept) (shift : Shift) (gone : ℕ) (layer : DrillLayer) : Type 0 where
  pub before : DrillLayer
  pub known : IsKeptOfDrill before kept
  pub sound : IsSoundDrillLayer layer
  pub tools : before.tools ≡ layer.tools
  pub shifted : IsShift shift before.items.items layer.items.items
  pub left : gone ≡ drill_leaves_at before shift.from

-- it was kept of a drill layer that lists the same items as this sound one, where a tool now has that diameter
pub record WasKeptUnsized (kept : Kept) (t : ℕ) (d : Nm) (layer : DrillLayer) : Type 0 where
  pub before : DrillLayer
  pub known : IsKeptOfDrill before kept
  pub sound : IsSoundDrillLayer layer
  pub there : IsSome (diameter_of before.tools t)
  pub tools : layer.tools ≡ set_value (nat_eq t) before.tools d
  pub items : layer.items.items ≡ before.items.items

-- it was kept of a drill layer before a step that led to this one and gave a tool a size, or with which items shifted
abbrev pub WasKeptBefore : Option (ℕ × Nm) → Shift → ℕ → DrillLayer → Kept → Type 0
WasKeptBefore None shift gone layer kept = WasKeptOfDrill kept shift gone layer
WasKeptBefore (Some size) shift gone layer kept = WasKeptUnsized kept size.0 size.1 layer
