use Rattle.std.proofs.Common.{arith, ◌≡◌, sym, subst, ◌-◌}
use Rattle.std.proofs.lemmas.Int.{to_z-of_z}
use Rattle.cam_units.specs.Board.{IsPlace}
use Rattle.cam_tiles.specs.Picture.{middle}
use Rattle.cam_tiles.proofs.WindowLemmas.{accepted, near_fits, centre_cast}
use Rattle.cam_tiles.proofs.window.Window.centre.Goals.{After-middle, After-middle-2}
use Rattle.cam_tiles.proofs.window.Window.centre.Goals as goal

across : (c : After-middle) → c.middle.result ≡ middle c.args.self.now.x c.args.self.now.pitch c.args.column
across c = grind (arith, to_z-of_z)

up : (c : After-middle-2)
    → c.middle-2.result ≡ middle c.args.self.now.y c.args.self.now.pitch (c.args.self.now.height - 1 - c.args.row)
up c = grind (arith, to_z-of_z)

pub overflow_cast-result : goal.overflow_cast-result
overflow_cast-result c =
    let w = c.args.self.now in
    let place = (accepted w c.requires.accepted).centres c.args.column c.args.row c.requires.column c.requires.row in
    near_fits c.middle.result (middle w.x w.pitch c.args.column) (across (goal.at.overflow_cast-result c).After-middle) place.x

pub overflow_cast-result-2 : goal.overflow_cast-result-2
overflow_cast-result-2 c =
    let w = c.args.self.now in
    let pixel = w.height - 1 - c.args.row in
    let place = (accepted w c.requires.accepted).centres c.args.column c.args.row c.requires.column c.requires.row in
    near_fits c.middle-2.result (middle w.y w.pitch pixel) (up (goal.at.overflow_cast-result-2 c).After-middle-2) place.y

pub returns-clause-value : goal.returns-clause-value
returns-clause-value c =
    let w = c.args.self.now in
    let place = (accepted w c.requires.accepted).centres c.args.column c.args.row c.requires.column c.requires.row in
    centre_cast w c.args.column c.args.row c.middle.result c.middle-2.result
    (across (goal.at.returns-clause-value c).After-middle) (up (goal.at.returns-clause-value c).After-middle-2) place

pub returns-clause-place : goal.returns-clause-place
returns-clause-place c =
    let w = c.args.self.now in
    let place = (accepted w c.requires.accepted).centres c.args.column c.args.row c.requires.column c.requires.row in
    subst IsPlace (sym (returns-clause-value c)) place
