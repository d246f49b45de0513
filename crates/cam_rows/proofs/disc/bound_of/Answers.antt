use Rattle.std.proofs.Common.{arith, rules}
use Rattle.cam_rows.proofs.Chords.{cast_size, in_disc_is, in_no_disc}
use Rattle.cam_rows.proofs.disc.bound_of.Goals as goal

pub returns-then-radius-eq0 : goal.returns-then-radius-eq0
returns-then-radius-eq0 c = grind (arith, cast_size, in_disc_is, in_no_disc)

pub returns : goal.returns
returns c = search (rules, cast_size, in_disc_is, in_no_disc)
