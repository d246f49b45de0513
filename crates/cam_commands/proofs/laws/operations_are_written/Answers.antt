use Rattle.cam_commands.proofs.OperationTexts as lemmas
use Rattle.cam_commands.proofs.laws.operations_are_written.Goals as goal

pub returns : goal.returns
returns c = lemmas.operations_are_written
