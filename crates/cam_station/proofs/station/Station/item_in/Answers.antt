use Rattle.std.proofs.Common.{sym, subst}
use Rattle.cam_objects.specs.Enclosed.{FindsEnclosed}
use Rattle.cam_edits.specs.Asking.{sheet_boxes}
use Rattle.cam_edits.specs.Sheets.{Content}
use Rattle.cam_station.proofs.AskedLayers.{there}
use Rattle.cam_station.proofs.station.Station.item_in.Goals as goal

pub returns : goal.returns
returns c =
    subst (λ (content : Content). FindsEnclosed (sheet_boxes content) c.args.outer c.args.from c.item_in.result)
    (sym (there c.args.self.now.timeline.document c.args.layer c.in_ok-layer.field-0.now c.in_ok-layer.ensures.value)) c.item_in.ensures
