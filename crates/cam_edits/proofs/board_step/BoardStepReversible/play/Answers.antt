use Rattle.std.proofs.Common.{arith}
use Rattle.cam_edits.proofs.BoardRoom.{drill_room_here, room_for_rest, room_here}
use Rattle.cam_edits.proofs.BoardSheets.{content_is, sheet_at, sheet_place_within, sheets_changed, told_there}
use Rattle.cam_edits.specs.declared.board_step.BoardStep.TheVariants as steps
use Rattle.cam_edits.specs.BoardSteps.{IsDrillFitOn, IsFitOn}
use Rattle.cam_edits.specs.Sheets.{Sheet}
use Rattle.cam_edits.proofs.board_step.BoardStepReversible.play.Goals as goal

pub returns-in-Gerber-clause-content : goal.returns-in-Gerber-clause-content
returns-in-Gerber-clause-content c = grind (arith, sheet_at, sheets_changed)

pub returns-in-Gerber-clause-answer : goal.returns-in-Gerber-clause-answer
returns-in-Gerber-clause-answer c = grind (arith, sheet_at, content_is)

pub returns-in-Gerber-clause-room : goal.returns-in-Gerber-clause-room
returns-in-Gerber-clause-room c = λ rest room.
    let step = c.in-Gerber.step in
    let k = c.in-Gerber.sheet in
    let fits = rw c.in-Gerber.is at c.requires.fits in
    let e = sheet_at (λ (t : Sheet). IsFitOn step t.content) _ k _ fits c.index_mut.ensures.value in
    let fit = told_there c.args.board.now.sheets.items c.in-Gerber.sheet _ e (λ (t : Sheet). IsFitOn step t.content) fits in
    room_for_rest rest (steps.Gerber k step c.in-Gerber.boxes) _ k _ c.play_on.new.content e
    (room_here k rest c.in-Gerber.boxes step _ c.play_on.new.content fit c.play_on.ensures.content c.play_on.ensures.room)
    (rw c.in-Gerber.is at room)

pub returns-in-Drill-clause-content : goal.returns-in-Drill-clause-content
returns-in-Drill-clause-content c = grind (arith, sheet_at, sheets_changed)

pub returns-in-Drill-clause-answer : goal.returns-in-Drill-clause-answer
returns-in-Drill-clause-answer c = grind (arith, sheet_at, content_is)

pub returns-in-Drill-clause-room : goal.returns-in-Drill-clause-room
returns-in-Drill-clause-room c = λ rest room.
    let step = c.in-Drill.step in
    let k = c.in-Drill.sheet in
    let fits = rw c.in-Drill.is at c.requires.fits in
    let e = sheet_at (λ (t : Sheet). IsDrillFitOn step t.content) _ k _ fits c.index_mut-in-Drill.ensures.value in
    let fit = told_there c.args.board.now.sheets.items c.in-Drill.sheet _ e (λ (t : Sheet). IsDrillFitOn step t.content) fits in
    room_for_rest rest (steps.Drill k step c.in-Drill.boxes) _ k _ c.play_drill_on.new.content e
    (drill_room_here k rest c.in-Drill.boxes step _ c.play_drill_on.new.content fit c.play_drill_on.ensures.content
    c.play_drill_on.ensures.room)
    (rw c.in-Drill.is at room)

pub index_mut-requires : goal.index_mut-requires
index_mut-requires c = grind (arith, sheet_place_within)

pub play_on-requires-clause-fits : goal.play_on-requires-clause-fits
play_on-requires-clause-fits c =
    let step = c.in-Gerber.step in
    let fits = rw c.in-Gerber.is at c.requires.fits in
    let e = sheet_at (λ (t : Sheet). IsFitOn step t.content) _ c.in-Gerber.sheet _ fits c.index_mut.ensures.value in
    told_there c.args.board.now.sheets.items c.in-Gerber.sheet _ e (λ (t : Sheet). IsFitOn step t.content) fits

pub index_mut-requires-in-Drill : goal.index_mut-requires-in-Drill
index_mut-requires-in-Drill c = grind (arith, sheet_place_within)

pub play_drill_on-requires-clause-fits : goal.play_drill_on-requires-clause-fits
play_drill_on-requires-clause-fits c =
    let step = c.in-Drill.step in
    let fits = rw c.in-Drill.is at c.requires.fits in
    let e = sheet_at (λ (t : Sheet). IsDrillFitOn step t.content) _ c.in-Drill.sheet _ fits c.index_mut-in-Drill.ensures.value in
    told_there c.args.board.now.sheets.items c.in-Drill.sheet _ e (λ (t : Sheet). IsDrillFitOn step t.content) fits
