use Rattle.cam_macros.proofs.Parsed.{parsed_by_the_grammar}
use Rattle.cam_macros.proofs.laws.texts_are_parsed_by_the_grammar.Goals as goal

pub returns : goal.returns
returns c = parsed_by_the_grammar
