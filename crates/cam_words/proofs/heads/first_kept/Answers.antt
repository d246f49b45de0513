use Rattle.std.proofs.Common.{arith, refl}
use Rattle.cam_words.proofs.Fronts.{packed_nothing, packed_first, behind_nothing, behind_slice}
use Rattle.cam_words.proofs.heads.first_kept.Goals as goal

pub returns-in-empty-clause-kept : goal.returns-in-empty-clause-kept
returns-in-empty-clause-kept c = grind (arith, packed_nothing)

pub returns-in-empty-clause-behind : goal.returns-in-empty-clause-behind
returns-in-empty-clause-behind c = grind (arith, behind_nothing)

pub returns-in-len1-up-clause-kept : goal.returns-in-len1-up-clause-kept
returns-in-len1-up-clause-kept c = grind (arith, packed_first)

pub returns-in-len1-up-clause-behind : goal.returns-in-len1-up-clause-behind
returns-in-len1-up-clause-behind c = behind_slice c.args.text.now _ c.leading_skipped.result c.leading_skipped.ensures.value refl
