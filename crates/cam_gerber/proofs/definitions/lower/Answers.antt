use Rattle.std.proofs.Common.{refl, arith}
use Rattle.std.proofs.lemmas.Bool.{le-leb, lt-leb}
use Rattle.cam_refusals.specs.Refusals.{number_of}
use Rattle.cam_gerber.proofs.definitions.lower.Goals as goal

pub returns-in-None : goal.returns-in-None
returns-in-None c = rw (c.if-not-holds.false, c.in-None.is) refl

pub returns-then-number : goal.returns-then-number
returns-then-number c =
    rw (c.if-not-holds.false, c.in-Some.is, le-leb (number_of c.args.fault) (number_of c.in-Some.other) (omega arith)) refl

pub returns-else-number : goal.returns-else-number
returns-else-number c =
    rw (c.if-not-holds.false, c.in-Some.is, lt-leb (number_of c.args.fault) (number_of c.in-Some.other) (omega arith)) refl
