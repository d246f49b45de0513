-- Tile locality: clean tiles show the document as it is now, and edits leave clean what their boxes do not reach.
use Rattle.std.specs.Prelude.{◌≡◌, ◌↔◌, ℕ, ◌+◌, min, ◌==◌, Bool, true, if◌then◌else◌}
use Rattle.std.specs.Prelude.{List, [], ◌∷◌, length, slice_get, IsOk, Ok, None, Some}
use Rattle.std.specs.List.{flat_map}
use Rattle.cam_units.specs.declared.bounds.Bounds.{Bounds}
use Rattle.cam_objects.specs.Image.{IsBlack}
use Rattle.cam_tiles.specs.Picture.{centre_of}
use Rattle.cam_tiles.specs.Tables.{Table, pixel_of, tile_in}
use Rattle.cam_tiles.specs.TileLaws.{IsPictured}
use Rattle.cam_tiles.specs.Touched.{is_touched}
use Rattle.cam_edits.specs.declared.edit.Edit.{Edit}
use Rattle.cam_edits.specs.Boards.{content_at}
use Rattle.cam_edits.specs.Images.{image_of, sheet_leaves}
use Rattle.cam_edits.specs.Sheets.{Content}
use Rattle.cam_edits.specs.Touches.{Touch, touch_of_edit}
use Rattle.cam_script.specs.declared.command.Command.TheVariants as commands
use Rattle.cam_script.specs.Commands.{edit_command}
use Rattle.cam_station.specs.declared.reply.Numbers.TheVariants.{One}
use Rattle.cam_station.specs.declared.reply.Reply.TheVariants.{Bytes, Numbers}
use Rattle.cam_station.specs.TileTables.{AreTables, dirty_in}
use Rattle.cam_station.specs.Machine.{State, MemoryGrant, fresh}
use Rattle.cam_station.specs.Touches.{touched_by_abort, touched_by_redo, touched_by_undo}
use Rattle.cam_station.specs.Calls.{Call, answer_to, drawn_named, state_after, states_after}

-- ---- what is clean is right

-- The clean tiles of a table show a layer: each has the rows of the layer's image, and each pixel that is known is
-- black exactly where its centre is made black by painting all objects in order.
pub record ShowsLayer (t : Table) (content : Content) : Type 0 where
  pub tiles : IsPictured (image_of content) t
  pub pixels : (column row : ℕ) (black : Bool) → pixel_of t column row ≡ Some black
      → (black ≡ true) ↔ IsBlack (sheet_leaves content) (centre_of t.window column row)

-- after any list of commands each layer has its tiles, once a window is in force
abbrev pub KeptTiles : Type 0
KeptTiles = (depth : ℕ) (before : List Call) →
    let s = states_after (fresh depth) before in AreTables s.window (length s.timeline.document) s.tables

-- and the clean tiles of each layer show it as it then is, in the window in force
pub record IsClean (s : State) (place : ℕ) (t : Table) : Type 0 where
  pub window : s.window ≡ Some t.window
  pub shows : ShowsLayer t (content_at s.timeline.document place)

abbrev pub CleanTiles : Type 0
CleanTiles = (depth : ℕ) (before : List Call) (place : ℕ) (t : Table) →
    let s = states_after (fresh depth) before in slice_get s.tables place ≡ Some t → IsClean s place t

-- ---- what is not touched stays clean

-- the boxes on one layer
abbrev pub boxes_on : ℕ → List Touch → List Bounds
boxes_on place touches = flat_map (λ t. if t.sheet == place then t.boxes else []) touches

-- The tiles of the layer at a place that one of the boxes touches are dirty, and all others are kept.
pub record TouchesAlone (touches : List Touch) (before after : State) (place : ℕ) (t : Table) : Type 0 where
  pub later : Table
  pub there : slice_get after.tables place ≡ Some later
  pub window : later.window ≡ t.window
  pub tiles : (k : ℕ) → tile_in later k ≡ (if is_touched t.window (boxes_on place touches) k then None else tile_in t k)

-- an accepted call dirties on each layer what these boxes touch there, and no more
abbrev pub DirtiesAlone : State → Call → List Touch → Type 0
DirtiesAlone s c touches =
    IsOk (answer_to s c) → (place : ℕ) (t : Table) → slice_get s.tables place ≡ Some t
    → TouchesAlone touches s (state_after s c) place t

-- in every state: an edit dirties what its own boxes touch, and an abort, an undo and a redo what those of the edits do
-- that they take back or make again
pub record DirtyTiles : Type 0 where
  pub edit : (s : State) (edit : Edit) (memory : MemoryGrant)
      → DirtiesAlone s (edit_command edit, memory) (touch_of_edit edit s.timeline.document ∷ [])
  pub abort : (s : State) (memory : MemoryGrant) → DirtiesAlone s (commands.Abort, memory) (touched_by_abort s.touches)
  pub undo : (s : State) (memory : MemoryGrant) → DirtiesAlone s (commands.Undo, memory) (touched_by_undo s.touches)
  pub redo : (s : State) (memory : MemoryGrant) → DirtiesAlone s (commands.Redo, memory) (touched_by_redo s.touches)

-- ---- how many are drawn

-- a redraw tells the lesser of its bound and of the dirty tiles, and so many are dirty no more
pub record CountsRedraw (s : State) (n : ℕ) (memory : MemoryGrant) (count : ℕ) : Type 0 where
  pub told : count ≡ min n (dirty_in s.tables)
  pub left : dirty_in (state_after s (commands.Redraw n, memory)).tables + count ≡ dirty_in s.tables

-- a plot tells how many tiles of its layer were dirty; they are clean thereafter, also where there was no memory for
-- the file, and no other tile is drawn
pub record CountsPlot (s : State) (name : List ℕ) (memory : MemoryGrant) (bytes : List ℕ) (count : ℕ) : Type 0 where
  pub after : state_after s (commands.Plot name, memory) ≡ drawn_named name s
  pub left : dirty_in (drawn_named name s).tables + count ≡ dirty_in s.tables

pub record DrawnTiles : Type 0 where
  pub redraw : (depth : ℕ) (before : List Call) (n : ℕ) (memory : MemoryGrant) (count : ℕ) →
      let s = states_after (fresh depth) before in
      answer_to s (commands.Redraw n, memory) ≡ Ok (Numbers (One count)) → CountsRedraw s n memory count
  pub plot : (depth : ℕ) (before : List Call) (name : List ℕ) (memory : MemoryGrant) (bytes : List ℕ) (count : ℕ) →
      let s = states_after (fresh depth) before in
      answer_to s (commands.Plot name, memory) ≡ Ok (Bytes bytes count) → CountsPlot s name memory bytes count
