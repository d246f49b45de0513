-- the layer at a place of the document
use Rattle.std.proofs.Common.{◌≡◌, ℕ, List, Some, ap, sym}
use Rattle.std.specs.Prelude.{slice_get}
use Rattle.cam_edits.specs.declared.board.Sheet.{Sheet as KeptSheet}
use Rattle.cam_edits.specs.Boards.{content_at, content_or_empty}
use Rattle.cam_edits.specs.Sheets.{Sheet, content_of, sheet_of}

-- what a layer that is there holds
pub there : (sheets : List Sheet) (k : ℕ) (s : KeptSheet) → Some (sheet_of s) ≡ slice_get sheets k
    → content_at sheets k ≡ content_of s.content
there sheets k s e = ap content_or_empty (sym e)
