use Rattle.std.proofs.Common.{rules, ap, sym, ◌∙◌, length, map, arith}
use Rattle.cam_edits.specs.Sheets.{sheets_of}
use Rattle.cam_edits.specs.Touches.{touch_of}
use Rattle.cam_undo.specs.Faults.{history_refusal}
use Rattle.cam_station.specs.Machine.{Granted, abort_step, memory_of, refused}
use Rattle.cam_station.proofs.LayerCounts.{aborted_count}
use Rattle.cam_station.proofs.SoundMoves.{sound_abort}
use Rattle.cam_station.proofs.StationMoves.{abort_made, station_touched, touched_over}
use Rattle.cam_station.proofs.StationRefusals.{history_refused}
use Rattle.cam_station.proofs.station.Station.abort.Goals as goal

pub returns-in-Ok : goal.returns-in-Ok
returns-in-Ok c =
    let i = c.self.inside in
    let touched = touched_over i.rasters.len (map touch_of c.in-Ok.steps.items) i.rasters.items c.touch.new.rasters
    (search rules) (search rules) in
    let made = abort_made i.window i.history c.abort.new.self (sheets_of i.board) (sheets_of c.abort.new.doc) i.rasters.items _
    c.in-Ok.steps.items c.in-Ok.ensures.allowed c.in-Ok.ensures.kept c.in-Ok.ensures.aborted c.in-Ok.ensures.answers touched in
    ap (λ s. abort_step s Granted) (sym c.self.view_is) ∙ made

pub invariant_of-self : goal.invariant_of-self
invariant_of-self c =
    let i = c.self.inside in
    let many = ap (λ t. length t.document) c.in-Ok.ensures.aborted ∙ aborted_count i.history (sheets_of i.board) in (
      station_touched i.history.depth c.abort.new.self.depth i.window (sheets_of i.board) (sheets_of c.abort.new.doc)
          i.rasters.len (map touch_of c.in-Ok.steps.items) i.rasters.items c.touch.new.rasters c.self.invariant.0
          (ap (λ k. k.depth) c.in-Ok.ensures.kept) many (search rules) (search rules),
      c.abort.ensures.tied,
      rw c.in-Ok.ensures.aborted (sound_abort _ c.in-Ok.ensures.allowed c.self.invariant.2),
    )

pub returns-in-Err : goal.returns-in-Err
returns-in-Err c =
    let e = c.in-Err.ensures in
    rw (c.without_place.ensures, c.refusal.ensures, e.refused.0, e.refused.1)
    (ap (λ s. abort_step s (memory_of (refused (history_refusal c.in-Err.fault)))) (sym c.self.view_is)
    ∙ history_refused _ _ _ c.in-Err.fault e.fault)

pub invariant_of-self-in-Err : goal.invariant_of-self-in-Err
invariant_of-self-in-Err c = grind (arith)
