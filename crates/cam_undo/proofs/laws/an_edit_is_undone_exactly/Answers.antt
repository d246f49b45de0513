use Rattle.cam_undo.proofs.Documents.{exact_edits}
use Rattle.cam_undo.proofs.laws.an_edit_is_undone_exactly.Goals as goal

pub returns : goal.returns
returns g c = exact_edits
