-- What every station keeps.
use Rattle.std.specs.Prelude.{◌≡◌, ℕ, ◌≤◌, true, List, length, Option, Some}
use Rattle.cam_edits.specs.Sheets.{Sheet}
use Rattle.cam_tiles.specs.declared.window.Window.{Window}
use Rattle.cam_tiles.specs.Picture.{accepts}
use Rattle.cam_tiles.specs.Tables.{Table}
use Rattle.cam_undo.specs.Machine.{greatest_depth}
use Rattle.cam_station.specs.TileTables.{AreTables}

-- its depth is from 1 to the greatest one, the window in force was accepted, and each layer has its table
pub record IsStation (depth : ℕ) (window : Option Window) (sheets : List Sheet) (kept : List Table) : Type 0 where
  pub least : 1 ≤ depth
  pub greatest : depth ≤ greatest_depth
  pub in_force : (w : Window) → window ≡ Some w → accepts w ≡ true
  pub tables : AreTables window (length sheets) kept
