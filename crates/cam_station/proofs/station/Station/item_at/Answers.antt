use Rattle.std.proofs.Common.{sym, subst, arith}
use Rattle.cam_objects.specs.Topmost.{PointsAt}
use Rattle.cam_edits.specs.Asking.{sheet_lists}
use Rattle.cam_edits.specs.Sheets.{Content}
use Rattle.cam_station.proofs.AskedLayers.{there}
use Rattle.cam_station.proofs.station.Station.item_at.Goals as goal

pub returns-clause-place : goal.returns-clause-place
returns-clause-place c = λ place.
    subst (λ (content : Content). PointsAt (sheet_lists content) c.args.at c.args.before c.item_at.result)
    (sym (there c.args.self.now.timeline.document c.args.layer c.in_ok-layer.field-0.now c.in_ok-layer.ensures.value)) c.item_at.ensures

pub returns-in_err-layer-clause-place : goal.returns-in_err-layer-clause-place
returns-in_err-layer-clause-place c = grind (arith)
