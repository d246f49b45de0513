use Rattle.cam_objects.proofs.TestLaws.{all_on_board, inside_law}
use Rattle.cam_objects.proofs.laws.tests_tell_what_is_inside.Goals as goal

pub returns-clause-items : goal.returns-clause-items
returns-clause-items c = inside_law

pub returns-clause-points : goal.returns-clause-points
returns-clause-points c = all_on_board
