use Rattle.std.proofs.Common.{ap, sym, ◌∙◌}
use Rattle.cam_edits.specs.Sheets.{sheets_of}
use Rattle.cam_station.specs.Machine.{end_step}
use Rattle.cam_station.proofs.StationMoves.{end_made}
use Rattle.cam_station.proofs.StationRefusals.{end_refused}
use Rattle.cam_station.proofs.station.Station.end.Goals as goal
use Rattle.cam_station.proofs.station.Station.end.Goals.{in-Ok, in-Err}

pub returns : goal.returns
returns c =
    let i = c.self.inside in
    elim c.match-end.branch [
      | in-Ok w ↦ (
          let e = w.in-Ok.ensures in
          let made = end_made i.window i.history c.end.new.self (sheets_of i.board) i.rasters.items
          (e.allowed i.board) e.kept (e.ended i.board) in
          rw w.result-is (ap end_step (sym c.self.view_is) ∙ made)
          )
      | in-Err w ↦ (
          let e = w.in-Err.ensures in
          rw (w.result-is, w.without_place.ensures, w.refusal.ensures, e.refused)
          (ap end_step (sym c.self.view_is) ∙ end_refused _ _ _ w.in-Err.fault (e.fault i.board))
          )
    ]
