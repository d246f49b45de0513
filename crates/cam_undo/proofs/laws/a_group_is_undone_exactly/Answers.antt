use Rattle.cam_undo.proofs.Documents.{exact_groups}
use Rattle.cam_undo.proofs.laws.a_group_is_undone_exactly.Goals as goal

pub returns : goal.returns
returns g c = exact_groups
