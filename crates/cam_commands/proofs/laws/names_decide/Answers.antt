use Rattle.cam_commands.proofs.NameLaws as lemmas
use Rattle.cam_commands.proofs.laws.names_decide.Goals as goal

pub returns : goal.returns
returns c = lemmas.names_decide
