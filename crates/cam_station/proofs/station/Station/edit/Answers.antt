use Rattle.std.proofs.Common.{rules, ap, sym, ◌∙◌, length, arith}
use Rattle.cam_edits.specs.contracts.board_step.BoardStepReversible.TheImpl.{ghosts}
use Rattle.cam_edits.specs.BoardSteps.{after_board_step}
use Rattle.cam_edits.specs.Sheets.{sheets_of}
use Rattle.cam_undo.specs.Timelines.{timeline_of}
use Rattle.cam_station.specs.Machine.{Granted, edit_step}
use Rattle.cam_station.specs.Machinery.Touching.{last_accepted, touches_of}
use Rattle.cam_station.proofs.LayerCounts.{accepted_count}
use Rattle.cam_station.proofs.StationMoves.{edit_made, station_touched, touched_over}
use Rattle.cam_station.proofs.Tied.{sound_edit}
use Rattle.cam_station.proofs.StationRefusals.{edit_refused}
use Rattle.cam_station.proofs.station.Station.edit.Goals as goal

pub invariant_of-self : goal.invariant_of-self
invariant_of-self c =
    let i = c.self.inside in
    let depth = i.history.depth in
    let after = after_board_step c.in-Ok.step (sheets_of i.board) in
    let timeline = timeline_of ghosts i.history i.board in
    let many = ap (λ t. length t.document) c.in-Ok-accept.ensures.accepted ∙ accepted_count depth c.in-Ok.step timeline in (
      station_touched depth c.accept.new.self.depth i.window (sheets_of i.board) (sheets_of c.accept.new.doc) i.rasters.len
          (last_accepted (touches_of c.accept.new.self)) i.rasters.items c.touch_accepted.new.rasters c.self.invariant.0
          c.accept.ensures.depth many (search rules) (search rules),
      c.accept.ensures.tied,
      rw c.in-Ok-accept.ensures.accepted
          (sound_edit depth timeline c.args.edit after c.in-Ok.ensures.planned.edited_is c.self.invariant.2),
    )

pub returns-in-Ok-accept : goal.returns-in-Ok-accept
returns-in-Ok-accept c =
    let i = c.self.inside in
    let touched = touched_over i.rasters.len (last_accepted (touches_of c.accept.new.self)) i.rasters.items
    c.touch_accepted.new.rasters (search rules) (search rules) in
    let made = edit_made i.window i.history c.accept.new.self (sheets_of i.board) (sheets_of c.accept.new.doc)
    i.rasters.items _ c.args.edit c.in-Ok.step c.self.invariant.0.least c.in-Ok.ensures.planned
    c.in-Ok-accept.ensures.kept c.accept.ensures.depth c.in-Ok-accept.ensures.accepted touched in
    ap (λ s. edit_step s c.args.edit Granted) (sym c.self.view_is) ∙ made

pub returns-in-Err : goal.returns-in-Err
returns-in-Err c =
    rw (c.without_place-in-Err.ensures, c.refusal.ensures, sym c.self.view_is)
    (edit_refused _ _ _ c.in-Err.fault c.in-Err.ensures.refused)

pub returns-in-Err-accept : goal.returns-in-Err-accept
returns-in-Err-accept c = grind (arith)

pub invariant_of-self-in-Err-accept : goal.invariant_of-self-in-Err-accept
invariant_of-self-in-Err-accept c = grind (arith)
