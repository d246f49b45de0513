-- Sheets: what a layer of one of two kinds lists, under the layer's name.
use Rattle.std.specs.Prelude.{ℕ, List, length, map, All}
use Rattle.cam_objects.specs.Attributes.{AreAttributes}
use Rattle.cam_objects.specs.Contents.{Content as GerberContent, DrillContent, content_of as gerber_content_of}
use Rattle.cam_objects.specs.Contents.{drill_content_of}
use Rattle.cam_objects.specs.DrillSoundness.{IsSoundDrillContent}
use Rattle.cam_objects.specs.Soundness.{IsSoundContent}
use Rattle.cam_edits.specs.declared.board.Board.{Board}
use Rattle.cam_edits.specs.declared.board.Sheet.{Sheet as KeptSheet}
use Rattle.cam_edits.specs.declared.board.SheetContent.{SheetContent}
use Rattle.cam_edits.specs.declared.board.SheetContent.TheVariants as kept

-- the attributes, the dictionary and the items of a layer, or the tools and the items of a drill layer
pub data Content : Type 0 where
  Gerber : GerberContent → Content
  Drill : DrillContent → Content

pub record Sheet : Type 0 where
  pub name : List ℕ
  pub content : Content

abbrev pub sheet : List ℕ → Content → Sheet
sheet name content = record { name = name; content = content }

pub record IsSoundGerber (c : GerberContent) : Type 0 where
  pub attributes : AreAttributes c.attributes
  pub content : IsSoundContent c.entries c.items

abbrev pub IsSound : Content → Type 0
IsSound (Gerber c) = IsSoundGerber c
IsSound (Drill c) = IsSoundDrillContent c.tools c.items

-- each sheet holds a sound layer
abbrev pub AreSound : List Sheet → Type 0
AreSound sheets = All (λ s. IsSound s.content) sheets

abbrev pub item_count : Content → ℕ
item_count (Gerber c) = length c.items
item_count (Drill c) = length c.items

-- how many apertures and blocks, or tools, are defined
abbrev pub entry_count : Content → ℕ
entry_count (Gerber c) = length c.entries
entry_count (Drill c) = length c.tools

-- ---- what is seen of the sheets that a board keeps: their lists, without the room that is kept for more

abbrev pub content_of : SheetContent → Content
content_of (kept.Gerber layer) = Gerber (gerber_content_of layer)
content_of (kept.Drill layer) = Drill (drill_content_of layer)

abbrev pub sheet_of : KeptSheet → Sheet
sheet_of s = sheet s.name (content_of s.content)

abbrev pub sheets_of : Board → List Sheet
sheets_of board = map sheet_of board.sheets.items
