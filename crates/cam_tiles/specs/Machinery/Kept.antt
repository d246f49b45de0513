-- What rasters and sources keep, and what is seen of them.
use Rattle.std.specs.Prelude.{◌≡◌, ◌≤◌, count_by, is_none, length, take}
use Rattle.cam_tiles.specs.declared.raster.Raster.TheInside.{Inside}
use Rattle.cam_tiles.specs.declared.source.Source.TheInside.{Inside as SourceInside}
use Rattle.cam_tiles.specs.Machinery.Shown.{IsReady, leaves_of}
use Rattle.cam_tiles.specs.Sources.{Painted}
use Rattle.cam_tiles.specs.Tables.{IsTable, Table, dirty_count}
use Rattle.cam_tiles.specs.Tiles.{across}

abbrev pub table_of : Inside → Table
table_of r = record { window = r.window; tiles = r.tiles.items }

-- all tiles of an accepted window are there, the dirty ones are counted, and some of the first are clean
pub record IsKept (r : Inside) : Type 0 where
  pub table : IsTable (table_of r)
  pub wide : r.across ≡ across r.window
  pub counted : r.dirty ≡ dirty_count (table_of r)
  pub few : r.clean ≤ length r.tiles.items
  pub clean : count_by is_none (take r.clean r.tiles.items) ≡ 0

abbrev pub painted_by : SourceInside → Painted
painted_by s = record { leaves = leaves_of s.shown; asked = s.asked }

abbrev pub IsSourceReady : SourceInside → Type 0
IsSourceReady s = IsReady s.shown
