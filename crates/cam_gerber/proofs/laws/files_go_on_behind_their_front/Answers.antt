use Rattle.cam_gerber.proofs.Reading.{from_behind, to_behind}
use Rattle.cam_gerber.proofs.laws.files_go_on_behind_their_front.Goals as goal

pub returns : goal.returns
returns c = λ len past front rest commands result are endless none. (
  to_behind len past front rest commands are endless none result,
  from_behind len past front rest commands are endless none result,
)
