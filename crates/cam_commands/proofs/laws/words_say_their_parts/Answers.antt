use Rattle.cam_commands.proofs.Written as written
use Rattle.cam_commands.proofs.laws.words_say_their_parts.Goals as goal

pub returns : goal.returns
returns c = written.words_say_their_parts
