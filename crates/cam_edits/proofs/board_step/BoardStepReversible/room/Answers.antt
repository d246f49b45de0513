use Rattle.std.proofs.Common.{arith}
use Rattle.std.proofs.lemmas.Option.{slice_get_read}
use Rattle.cam_edits.proofs.BoardRoom.{one_more, room_on_each}
use Rattle.cam_edits.proofs.BoardSheets.{same_length, sheets_kept}
use Rattle.cam_edits.proofs.board_step.BoardStepReversible.room.Goals as goal

pub returns-in_err-reserve-clause-content : goal.returns-in_err-reserve-clause-content
returns-in_err-reserve-clause-content c = grind (arith, sheets_kept)

pub loop-place-preserved : goal.loop-place-preserved
loop-place-preserved c = grind (arith, same_length, slice_get_read, sheets_kept, one_more)

pub returns-clause-room : goal.returns-clause-room
returns-clause-room c = grind (arith, same_length, room_on_each)
