use Rattle.cam_words.proofs.Slices.{reading_is_within}
use Rattle.cam_words.proofs.cutter.Words.new.Goals as goal

pub returns-clause-slices : goal.returns-clause-slices
returns-clause-slices c = reading_is_within c.args.source.now
