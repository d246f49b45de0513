use Rattle.std.proofs.Common.{sym, ap, ◌∙◌, arith}
use Rattle.cam_objects.specs.declared.object.Object.TheVariants.{Flash}
use Rattle.cam_objects.specs.Soundness.{is_on_board}
use Rattle.cam_gerber.proofs.Flashing.{flash_tracks}
use Rattle.cam_gerber.proofs.FlashesInside.{flash_well}
use Rattle.cam_gerber.proofs.running.Running.flash.Goals as goal

pub returns : goal.returns
returns c = λ past none t out flashes.
    flash_tracks past c.args.operation.now c.args.self.now c.keep.new.self c.operated.new.self c.in-Some.aperture
    c.in-Some-weight_inside.weight.leaves c.in-Some-moved_point.at
    (Flash c.in-Some.aperture c.in-Some-moved_point.at c.turn.result c.args.self.now.modal.dark) none t out flashes c.in-Some.is
    c.in-Some-moved_point.ensures.0 c.in-Some-moved_point.ensures.1
    (ap (λ turn. Flash c.in-Some.aperture c.in-Some-moved_point.at turn c.args.self.now.modal.dark) c.turn.ensures)
    (sym (c.in-Some-weight_inside.ensures.inside past (record { frames = t.frames; built = t.built })))
    (sym c.if-is_full.false
    ∙ c.is_full.ensures past (Flash c.in-Some.aperture c.in-Some-moved_point.at c.turn.result c.args.self.now.modal.dark)
    (record { frames = t.frames; built = t.built }) c.in-Some-weight_inside.ensures.weight)
    c.in-Some-weight_inside.ensures.weight.leaves c.in_ok-keep.ensures c.operated.ensures

pub weight_inside-requires : goal.weight_inside-requires
weight_inside-requires c =
    flash_well c.args.self.now c.in-Some.aperture c.in-Some-moved_point.at c.turn.result c.args.self.now.modal.dark c.requires c.in-Some.is
    (ap is_on_board c.in-Some-moved_point.ensures.0 ∙ c.in-Some-moved_point.ensures.1)

pub returns-then-is_full : goal.returns-then-is_full
returns-then-is_full c = grind (arith)
