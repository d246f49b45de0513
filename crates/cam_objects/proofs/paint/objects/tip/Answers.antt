use Rattle.std.proofs.Common.{sym, subst, arith, Option}
use Rattle.std.specs.Option.{IfSome}
use Rattle.cam_objects.specs.declared.tip.Tip.{Tip}
use Rattle.cam_objects.specs.Machinery.Boxes.{IsSizedTip}
use Rattle.cam_objects.proofs.Painting.{meaning-absent, meaning-at, meaning-later}
use Rattle.cam_objects.proofs.SizedLeaves.{before_sized}
use Rattle.cam_objects.proofs.paint.objects.tip.Goals as goal

pub returns-in-None-clause-value : goal.returns-in-None-clause-value
returns-in-None-clause-value c = grind (arith, meaning-absent)

pub returns-then-upto-at-clause-value : goal.returns-then-upto-at-clause-value
returns-then-upto-at-clause-value c = grind (arith, meaning-later)

pub returns-clause-value : goal.returns-clause-value
returns-clause-value c = grind (arith, meaning-at)

pub returns-clause-size : goal.returns-clause-size
returns-clause-size c =
    subst (λ (o : Option Tip). IfSome o IsSizedTip) (sym (returns-clause-value c))
    (before_sized c.args.entries.now c.args.upto c.args.number c.requires.sound c.requires.within).tip
