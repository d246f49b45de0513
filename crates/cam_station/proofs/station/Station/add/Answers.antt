use Rattle.std.proofs.Common.{◌≡◌, ◌++◌, ◌∷◌, [], List, ap, rules, subst, sym, ◌∙◌, arith}
use Rattle.std.specs.Prelude.{option_to_list}
use Rattle.cam_edits.specs.Sheets.{Sheet, sheet_of, sheets_of}
use Rattle.cam_edits.specs.declared.board_step.BoardStep.{BoardStep}
use Rattle.cam_tiles.specs.Tables.{Table}
use Rattle.cam_undo.specs.Kept.{Kept}
use Rattle.cam_station.specs.TileTables.{with_blank}
use Rattle.cam_station.specs.Machine.{unedited}
use Rattle.cam_station.proofs.Joining.{blank_put, is_station}
use Rattle.cam_station.specs.Sound.{IsSoundTimeline}
use Rattle.cam_station.proofs.Tied.{sound_load}
use Rattle.cam_station.proofs.station.Station.add.Goals as goal

pub invariant_of-self-2 : goal.invariant_of-self-2
invariant_of-self-2 c =
    let i = c.self.inside in
    let old = sheets_of i.board in
    let s = sheet_of c.args.sheet in
    let added : sheets_of c.add.new.self ≡ old ++ s ∷ [] = search rules in
    let tables : c.put_behind.new.rasters.items ≡ with_blank i.window i.rasters.items =
    c.put_behind.ensures
    ∙ (ap (λ (before : List Table). before ++ option_to_list c.in-Ok.raster) c.blank_behind.ensures.kept
    ∙ blank_put i.window c.in-Ok.raster i.rasters.items c.in-Ok.ensures.made) in
    let depth : c.clear.new.self.depth ≡ i.history.depth = ap (λ (h : Kept BoardStep). h.depth) c.clear.ensures.kept in
    let station = is_station i.history.depth i.window old s i.rasters.items c.self.invariant.0 in
    let sound = sound_load old s.name s.content c.self.invariant.2.document c.requires.sound in (
      rw (depth, added, tables) station,
      c.clear.ensures.tied c.add.new.self,
      rw c.clear.ensures.kept (subst (λ (l : List Sheet). IsSoundTimeline (unedited l)) (sym added) sound),
    )

pub returns-then-is_err-clause-memory : goal.returns-then-is_err-clause-memory
returns-then-is_err-clause-memory c = grind (arith)

pub invariant_of-self : goal.invariant_of-self
invariant_of-self c = grind (arith)

pub returns-clause-ok : goal.returns-clause-ok
returns-clause-ok c = grind (arith)

pub invariant_of-self-then-is_err : goal.invariant_of-self-then-is_err
invariant_of-self-then-is_err c = grind (arith)

pub returns-in-Err-clause-err : goal.returns-in-Err-clause-err
returns-in-Err-clause-err c = grind (arith)

pub returns-then-is_err-clause-err : goal.returns-then-is_err-clause-err
returns-then-is_err-clause-err c = grind (arith)

pub clear-requires : goal.clear-requires
clear-requires c = grind (arith)
