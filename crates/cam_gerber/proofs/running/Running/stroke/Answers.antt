use Rattle.std.proofs.Common.{arith, ◌∷◌, [], sym, subst, ◌∙◌}
use Rattle.cam_refusals.specs.declared.refusal.Refusal.TheVariants.{TooMuch}
use Rattle.cam_gerber.specs.Faults.{is_full}
use Rattle.cam_gerber.specs.Homes.{home}
use Rattle.cam_gerber.specs.Making.{stroke_of}
use Rattle.cam_gerber.specs.Machinery.Tracking.{Keeps, IsOperated, path_faults_by, mode_by}
use Rattle.cam_gerber.proofs.Operated.{stroke_checks, told_before, end_same, stroke_full, stroke_tracks, draws_along}
use Rattle.cam_objects.specs.Leaves.{meaning_in}
use Rattle.cam_gerber.proofs.running.Running.stroke.Goals as goal

pub returns-in-Err : goal.returns-in-Err
returns-in-Err c = λ past none t out plots.
    stroke_checks past c.args.self.now.modal c.args.self.now.built.layer.apertures c.in-Some.aperture c.args.operation.now t.modal
    t.built.entries c.in-Some.is (draws_along c.is_arc.result (mode_by c.args.self.now.modal c.args.operation.now)
    (meaning_in c.args.self.now.built.layer.apertures c.in-Some.aperture).tip c.can_draw.result c.if-not-can_draw.false c.can_draw.ensures
    c.is_arc.ensures)
    ∙ told_before (path_faults_by c.args.self.now.modal c.args.operation.now)
    ((TooMuch, is_full (home past) past (stroke_of past c.args.operation.now)) ∷ []) _ c.in-Err.ensures.faults

pub returns-then-is_full : goal.returns-then-is_full
returns-then-is_full c = λ past none t out plots. grind (arith, stroke_full, draws_along)

pub operated-requires : goal.operated-requires
operated-requires c = grind (arith, end_same)

pub returns : goal.returns
returns c = λ past none t out plots.
    stroke_tracks past c.args.operation.now c.args.self.now c.keep.new.self c.operated.new.self c.in-Some.aperture c.in-Ok.seg none
    t out plots c.in-Some.is
    (draws_along c.is_arc.result (mode_by c.args.self.now.modal c.args.operation.now)
    (meaning_in c.args.self.now.built.layer.apertures c.in-Some.aperture).tip c.can_draw.result c.if-not-can_draw.false c.can_draw.ensures
    c.is_arc.ensures) c.in-Ok.ensures.faults c.in-Ok.ensures.ok
    (λ object leaves depth. sym c.if-is_full.false
    ∙ c.is_full.ensures past object (record { frames = t.frames; built = t.built }) (record { leaves = leaves; depth = depth }))
    (subst (λ made. Keeps made 1 c.args.self.now c.keep.new.self) c.stroke-object.ensures c.in_ok-keep.ensures)
    (subst (λ to. IsOperated c.keep.new.self.modal c.args.operation.now to c.operated.new.self) c.end.ensures.value c.operated.ensures)

pub returns-then-not-can_draw : goal.returns-then-not-can_draw
returns-then-not-can_draw c = grind (arith)
