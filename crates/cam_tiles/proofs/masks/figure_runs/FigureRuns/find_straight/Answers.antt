use Rattle.std.proofs.Common.{◌≡◌, rules, arith}
use Rattle.cam_shapes.specs.Bar.{IsInBar, IsInCapsule}
use Rattle.cam_shapes.specs.Disc.{IsInDisc}
use Rattle.cam_objects.specs.Image.{relative}
use Rattle.cam_rows.proofs.CapsuleParts.{bar_of, end_of, start_of}
use Rattle.cam_tiles.proofs.RunColumns.{tells_nothing}
use Rattle.cam_tiles.proofs.FigureColumns.{disc_law, straight_law, tells_body, tells_figure, tells_like, tells_united}
use Rattle.cam_tiles.proofs.masks.figure_runs.FigureRuns.find_straight.Goals as goal

pub returns-then-eq : goal.returns-then-eq
returns-then-eq c =
    let none = c.clear.ensures in
    let grid = c.args.grid.now in
    let columns = c.args.columns in
    let seen = relative c.args.at in
    let capsule = c.args.capsule.now in
    let same : capsule.from ≡ capsule.to = search rules in
    tells_like grid columns (λ s. IsInDisc (seen s) (start_of capsule)) (λ s. IsInCapsule (seen s) capsule) _
    (λ s. disc_law capsule.from capsule.to capsule.width same (seen s))
    (tells_body grid columns (λ s. IsInDisc (seen s) (start_of capsule)) c.find.new.self c.clear.new.self
    c.find.ensures none.hollow none.beyond none.start none.end)

pub take_in-requires : goal.take_in-requires
take_in-requires c = omega (arith, c.find-2.ensures.fits, c.requires.grid.grid.rows)

pub take_in-requires-2 : goal.take_in-requires-2
take_in-requires-2 c = omega (arith, c.find-3.ensures.fits, c.requires.grid.grid.rows)

pub returns : goal.returns
returns c =
    let none = c.clear.ensures in
    let grid = c.args.grid.now in
    let columns = c.args.columns in
    let seen = relative c.args.at in
    let capsule = c.args.capsule.now in
    let first = c.take_in.ensures in
    let second = c.take_in-2.ensures in
    let fit = first.fits grid.rows c.find-4.ensures.fits c.find-2.ensures.fits in
    let fit_end = second.fits grid.rows fit.0 c.find-3.ensures.fits in
    tells_united grid columns (λ s. IsInCapsule (seen s) capsule)
    (record { body = c.find-4.new.self; hollow = c.clear.new.self.hollow; beyond = c.clear.new.self.beyond; start = c.find-2.new.self; end = c.find-3.new.self })
    c.take_in.new.self c.take_in-2.new.self c.take_in.new.other c.take_in-2.new.other none.hollow none.beyond
    (tells_figure grid columns (λ s. IsInCapsule (seen s) capsule) (λ s. IsInBar (seen s) (bar_of capsule)) (λ s. ⊥) (λ s. ⊥)
    (λ s. IsInDisc (seen s) (start_of capsule)) (λ s. IsInDisc (seen s) (end_of capsule)) _ _ _ _ _ c.find-4.ensures
    (tells_nothing grid columns _ none.hollow) (tells_nothing grid columns _ none.beyond) c.find-2.ensures c.find-3.ensures
    (λ s. straight_law capsule (seen s)))
    fit_end.0 fit.1 fit_end.1 first.columns second.columns
