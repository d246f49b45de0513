use Rattle.std.proofs.Common.{arith, refl, ap}
use Rattle.std.specs.Prelude.{Ok, Err}
use Rattle.cam_refusals.specs.declared.refusal.Refusal.TheVariants.{FormatRefused, UnknownCommand}
use Rattle.cam_refusals.specs.declared.stop.Stop.TheVariants.{Fault}
use Rattle.cam_commands.specs.Borrowed.{shown}
use Rattle.cam_gerber.proofs.Obedience.{idle, taken}
use Rattle.cam_gerber.proofs.running.Running.obey.Goals as goal

pub returns-in-SetFormat : goal.returns-in-SetFormat
returns-in-SetFormat c = grind (arith, taken)

pub returns-in-SetUnit : goal.returns-in-SetUnit
returns-in-SetUnit c = grind (arith, taken)

pub returns-in-SetPolarity : goal.returns-in-SetPolarity
returns-in-SetPolarity c = grind (arith, taken)

pub returns-in-SetMirror : goal.returns-in-SetMirror
returns-in-SetMirror c = grind (arith, taken)

pub returns-in-SetRotation : goal.returns-in-SetRotation
returns-in-SetRotation c = grind (arith, taken)

pub returns-in-SetScale : goal.returns-in-SetScale
returns-in-SetScale c = grind (arith, taken)

pub returns-in-OpenBlock : goal.returns-in-OpenBlock
returns-in-OpenBlock c = grind (arith, taken)

pub returns-in-CloseBlock : goal.returns-in-CloseBlock
returns-in-CloseBlock c = grind (arith, taken)

pub returns-in-SetRepeat : goal.returns-in-SetRepeat
returns-in-SetRepeat c = grind (arith, taken)

pub returns-in-CloseRepeat : goal.returns-in-CloseRepeat
returns-in-CloseRepeat c = grind (arith, taken)

pub returns-in-NeutralOld : goal.returns-in-NeutralOld
returns-in-NeutralOld c = grind (arith, taken)

pub returns-in-RefusedOld : goal.returns-in-RefusedOld
returns-in-RefusedOld c = grind (arith, taken)

pub returns-in-BeginRegion : goal.returns-in-BeginRegion
returns-in-BeginRegion c = grind (arith, taken)

pub returns-in-EndRegion : goal.returns-in-EndRegion
returns-in-EndRegion c = grind (arith, taken)

pub returns-in-Select : goal.returns-in-Select
returns-in-Select c = grind (arith, taken)

pub returns-in-Operate : goal.returns-in-Operate
returns-in-Operate c = grind (arith, taken)

pub returns-in-End : goal.returns-in-End
returns-in-End c = grind (arith, taken)

pub returns-in-RefusedFormat : goal.returns-in-RefusedFormat
returns-in-RefusedFormat c =
    taken _ _ c.args.self.now c.args.self.now (Err (Fault FormatRefused)) (ap shown c.in-RefusedFormat.is) tt (λ past none t. refl)

pub returns-in-Unknown : goal.returns-in-Unknown
returns-in-Unknown c =
    taken _ _ c.args.self.now c.args.self.now (Err (Fault UnknownCommand)) (ap shown c.in-Unknown.is) tt (λ past none t. refl)

pub returns-in-KeepText : goal.returns-in-KeepText
returns-in-KeepText c = grind (arith, taken)

pub returns-in-Nothing : goal.returns-in-Nothing
returns-in-Nothing c =
    taken _ _ c.args.self.now c.args.self.now (Ok tt) (ap shown c.in-Nothing.is) tt (λ past none t. (refl, idle past c.args.self.now t))

pub returns-in-SetMode : goal.returns-in-SetMode
returns-in-SetMode c =
    taken _ _ c.args.self.now _ (Ok tt) (ap shown c.in-SetMode.is) tt (λ past none t. (
      refl,
      record {
        modal = search t.modal;
        region = search t.region;
        frames = search t.frames;
        built = search t.built;
        attributes = t.attributes;
      },
    ))

pub returns-in-SingleQuadrant : goal.returns-in-SingleQuadrant
returns-in-SingleQuadrant c =
    taken _ _ c.args.self.now _ (Ok tt) (ap shown c.in-SingleQuadrant.is) tt (λ past none t. (
      refl,
      record {
        modal = search t.modal;
        region = search t.region;
        frames = search t.frames;
        built = search t.built;
        attributes = t.attributes;
      },
    ))

pub returns-in-MultiQuadrant : goal.returns-in-MultiQuadrant
returns-in-MultiQuadrant c =
    taken _ _ c.args.self.now _ (Ok tt) (ap shown c.in-MultiQuadrant.is) tt (λ past none t. (
      refl,
      record {
        modal = search t.modal;
        region = search t.region;
        frames = search t.frames;
        built = search t.built;
        attributes = t.attributes;
      },
    ))

pub returns-in-DefineMacro : goal.returns-in-DefineMacro
returns-in-DefineMacro c = grind (arith)

pub returns-in-DefineAperture : goal.returns-in-DefineAperture
returns-in-DefineAperture c = grind (arith)
