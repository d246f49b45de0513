use Rattle.cam_station.proofs.CleanTiles.{clean_tiles}
use Rattle.cam_station.proofs.DirtyTiles.{dirty_tiles}
use Rattle.cam_station.proofs.DrawnTiles.{drawn_tiles}
use Rattle.cam_station.proofs.ShownTables.{shown}
use Rattle.cam_station.proofs.laws.tiles_are_local.Goals as goal

pub returns-clause-kept : goal.returns-clause-kept
returns-clause-kept c depth before = (shown depth before).tables

pub returns-clause-clean : goal.returns-clause-clean
returns-clause-clean c = clean_tiles

pub returns-clause-dirty : goal.returns-clause-dirty
returns-clause-dirty c = dirty_tiles

pub returns-clause-drawn : goal.returns-clause-drawn
returns-clause-drawn c = drawn_tiles
