use Rattle.std.proofs.Common.{arith, ◌≡◌, map, subst}
use Rattle.cam_edits.specs.Boards.{place_named}
use Rattle.cam_edits.specs.Sheets.{sheet_of}
use Rattle.cam_edits.proofs.Names.{named_place, place_within}
use Rattle.cam_edits.proofs.board.Board.place.Goals as goal

pub returns-clause-value : goal.returns-clause-value
returns-clause-value c =
    subst (λ sheets. c.place_among.result ≡ place_named c.args.name.now (map sheet_of sheets)) c.deref.ensures.value
    (named_place c.deref.result.now c.args.name.now c.place_among.result c.place_among.ensures.value)

pub returns-clause-within : goal.returns-clause-within
returns-clause-within c = grind (arith, place_within)
