use Rattle.std.proofs.Common.{◌≡◌, Ok, ap, inl, sym, ◌∙◌}
use Rattle.cam_objects.specs.Contents.{drill_content_of}
use Rattle.cam_xnc.specs.DrillState.{drill_layer_in}
use Rattle.cam_xnc.proofs.Readings.{layer_is}
use Rattle.cam_xnc.proofs.SoundReadings.{reading_is_sound}
use Rattle.cam_xnc.proofs.reader.read_xnc.Goals as goal

pub returns : goal.returns
returns c =
    let ends = c.in_ok-read.ensures.ends in
    let layer : drill_content_of c.into_layer-layer.result ≡ drill_layer_in ends.0 =
    ap drill_content_of c.into_layer-layer.ensures ∙ layer_is ends.0 c.read-read.new.self ends.1 in
    let read = ends.2 ∙ ap Ok (sym layer) in
    record { reads = inl (sym read); sound = reading_is_sound c.args.bytes.now (drill_content_of c.into_layer-layer.result) read }
