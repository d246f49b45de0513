use Rattle.std.proofs.Common.{◌≡◌}
use Rattle.cam_edits.proofs.BoardRoom.{HasPlacesBefore}
use Rattle.cam_edits.specs.Sheets.{sheets_of}
use Rattle.cam_edits.proofs.board_step.BoardStepReversible.room.Given as goal

-- the content stays, and the sheets so far have room
abbrev pub invariant-loop-place : goal.invariant-loop-place
invariant-loop-place l = record {
  content : sheets_of l.board ≡ sheets_of l.fn.board;
  room : HasPlacesBefore l.place l.group l.board.sheets.items;
}
