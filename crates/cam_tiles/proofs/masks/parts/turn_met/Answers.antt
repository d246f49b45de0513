use Rattle.std.proofs.Common.{IsTrue, refl}
use Rattle.cam_tiles.specs.Machinery.Parts.{change_sides}
use Rattle.cam_tiles.specs.Tiles.{centre_in}
use Rattle.cam_tiles.proofs.TurnedMarks.{turns_nothing}
use Rattle.cam_tiles.proofs.masks.parts.turn_met.Goals as goal

-- a part that is passed over changes nothing in the rows
pub returns-then-are_apart-clause-turned : goal.returns-then-are_apart-clause-turned
returns-then-are_apart-clause-turned c =
    let f = c.args.field.now in
    turns_nothing f (λ s. IsTrue (change_sides s c.args.here c.args.part.now)) c.args.marks.now
    (λ column row within changes.
    let at = centre_in f.grid column row in
    c.if-are_apart.ensures refl at (c.requires.heights at changes) (f.within column row within))
