use Rattle.std.proofs.Common.{rules, ap, sym, ◌∙◌, length, arith}
use Rattle.cam_station.specs.Machinery.Touching.{group_touches}
use Rattle.cam_edits.specs.Sheets.{sheets_of}
use Rattle.std.specs.Option.{option_copied}
use Rattle.cam_undo.specs.Faults.{history_refusal}
use Rattle.cam_station.specs.Machine.{Granted, memory_of, redo_step, refused}
use Rattle.cam_station.proofs.LayerCounts.{redone_count}
use Rattle.cam_station.proofs.SoundMoves.{sound_redo}
use Rattle.cam_station.proofs.StationMoves.{redo_made, station_touched, touched_over, redone_depth}
use Rattle.cam_station.proofs.StationRefusals.{history_refused}
use Rattle.cam_station.proofs.station.Station.redo.Goals as goal

pub returns-in-Ok : goal.returns-in-Ok
returns-in-Ok c =
    let i = c.self.inside in
    let touched = touched_over i.rasters.len (group_touches (option_copied c.last_undo.result)) i.rasters.items
    c.touch_group.new.rasters (search rules) (search rules) in
    let made = redo_made i.window i.history c.redo.new.self (sheets_of i.board) (sheets_of c.redo.new.doc) i.rasters.items _
    (option_copied c.last_undo.result) c.in-Ok.ensures.allowed c.in-Ok.ensures.kept c.in-Ok.ensures.redone
    c.last_undo.ensures.kept touched in
    ap (λ s. redo_step s Granted) (sym c.self.view_is) ∙ made

pub invariant_of-self : goal.invariant_of-self
invariant_of-self c =
    let i = c.self.inside in
    let many = ap (λ t. length t.document) c.in-Ok.ensures.redone ∙ redone_count i.history (sheets_of i.board) in (
      station_touched i.history.depth c.redo.new.self.depth i.window (sheets_of i.board) (sheets_of c.redo.new.doc)
          i.rasters.len (group_touches (option_copied c.last_undo.result)) i.rasters.items c.touch_group.new.rasters
          c.self.invariant.0 (redone_depth (sheets_of i.board) i.history c.redo.new.self c.in-Ok.ensures.kept) many
          (search rules) (search rules),
      c.redo.ensures.tied,
      rw c.in-Ok.ensures.redone (sound_redo _ c.in-Ok.ensures.allowed c.self.invariant.2),
    )

pub returns-in-Err : goal.returns-in-Err
returns-in-Err c =
    let e = c.in-Err.ensures in
    rw (c.without_place.ensures, c.refusal.ensures, e.refused.0, e.refused.1)
    (ap (λ s. redo_step s (memory_of (refused (history_refusal c.in-Err.fault)))) (sym c.self.view_is)
    ∙ history_refused _ _ _ c.in-Err.fault e.fault)

pub invariant_of-self-in-Err : goal.invariant_of-self-in-Err
invariant_of-self-in-Err c = grind (arith)
