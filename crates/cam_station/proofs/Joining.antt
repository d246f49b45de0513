-- The tables of a station that a layer joins.
use Rattle.std.proofs.Common.{◌≡◌, ℕ, List, [], ◌∷◌, ◌++◌, length, Option, None, Some, refl, sym, subst, option_map, length-append, append-nil}
use Rattle.std.specs.Prelude.{option_to_list}
use Rattle.cam_tiles.specs.declared.window.Window.{Window}
use Rattle.cam_tiles.specs.Tables.{Table, blank}
use Rattle.cam_edits.specs.Sheets.{Sheet}
use Rattle.cam_station.specs.TileTables.{AreTables, with_blank}
use Rattle.cam_station.specs.Machinery.Stations.{IsStation}
use Rattle.cam_station.proofs.KeptTables.{blank_joins}

-- a table of the window in force comes last, where one is
pub blank_put : (window : Option Window) (raster : Option Table) (tables : List Table) → raster ≡ option_map blank window
    → tables ++ option_to_list raster ≡ with_blank window tables
blank_put None raster tables e = rw e (append-nil tables)
blank_put (Some w) raster tables e = rw e refl

pub is_station : (depth : ℕ) (window : Option Window) (sheets : List Sheet) (s : Sheet) (tables : List Table)
    → IsStation depth window sheets tables → IsStation depth window (sheets ++ s ∷ []) (with_blank window tables)
is_station depth window sheets s tables h = record {
  least = h.least;
  greatest = h.greatest;
  in_force = h.in_force;
  tables =
      subst (λ (n : ℕ). AreTables window n (with_blank window tables)) (sym (length-append sheets (s ∷ [])))
      (blank_joins window (length sheets) tables h.in_force h.tables);
}
