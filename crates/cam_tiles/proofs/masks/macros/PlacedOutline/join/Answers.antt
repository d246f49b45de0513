use Rattle.std.proofs.Common.{◌-◌, ◌*◌, ◌≤◌, IsTrue, length, refl, subst, sym, ◌∙◌, arith, rules}
use Rattle.std.proofs.lemmas.Grind.{common_steps}
use Rattle.cam_units.specs.declared.point.Spot.{Spot}
use Rattle.cam_shapes.specs.Contour.{IsInContour}
use Rattle.cam_shapes.specs.Outline.{outline_of}
use Rattle.cam_shapes.specs.Placing.{placed_contour}
use Rattle.cam_macros.specs.declared.primitive.PrimShape.TheVariants.{Outline}
use Rattle.cam_apertures.proofs.Outlines.{outline_placeable}
use Rattle.cam_objects.specs.Image.{relative}
use Rattle.cam_objects.specs.Leaves.{origin}
use Rattle.cam_tiles.specs.declared.grid.Grid.{Grid}
use Rattle.cam_tiles.specs.Machinery.Fields.{IsField}
use Rattle.cam_tiles.specs.Machinery.Marks.{is_marked}
use Rattle.cam_tiles.proofs.JoinedCentres.{columns_joined, none_joined, part_joined}
use Rattle.cam_tiles.proofs.SeenParts.{part_field}
use Rattle.cam_tiles.proofs.TurnedBands.{part_length}
use Rattle.cam_tiles.proofs.TurnedMarks.{spread_inside}
use Rattle.cam_tiles.proofs.masks.macros.PlacedOutline.join.Goals as goal

pub returns-then-tiles : goal.returns-then-tiles
returns-then-tiles c =
    none_joined c.args.grid.now c.args.columns c.args.how
    (λ s. IsInContour (relative c.args.self.now.at s) (placed_contour c.args.self.now.turn origin.offset (outline_of c.args.self.now.points.now)))
    c.args.marks.now
    (λ column row near below held.
    let on = c.reached_tiles-tiles.ensures.each column row near below (c.turned_bounds-bounds.ensures _ held) in
    omega (arith, on.0, on.1, c.if-tiles.true))

pub part_seen-part-requires-clause-there : goal.part_seen-part-requires-clause-there
part_seen-part-requires-clause-there c =
    c.requires.grid.centres (64 * c.reached_tiles-tiles.result.first) 0
    (omega (arith, c.reached_tiles-tiles.ensures.end, c.if-tiles.false)) c.requires.grid.grid.rows.0

pub new-field-requires : goal.new-field-requires
new-field-requires c =
    let tiles = c.reached_tiles-tiles.result in
    subst (λ (g : Grid). IsField g (c.min.result - 64 * tiles.first)) (sym c.part_seen-part.ensures)
    (part_field c.args.grid.now tiles.first c.args.self.now.at c.args.columns c.min.result c.requires.grid c.requires.at
    (omega (arith, c.min.ensures, c.reached_tiles-tiles.ensures.end, c.if-tiles.false)) (omega (arith, c.min.ensures)))

pub turn_outline-requires-clause-points : goal.turn_outline-requires-clause-points
turn_outline-requires-clause-points c =
    let points = c.args.self.now.points.now in
    outline_placeable c.args.self.now.turn (Outline points) points points refl refl c.requires.points

pub returns : goal.returns
returns c =
    let f = c.new-field.result in
    let tiles = c.reached_tiles-tiles.result in
    let IsHeld : Spot → Type 0 =
    λ s. IsInContour s (placed_contour c.args.self.now.turn origin.offset (outline_of c.args.self.now.points.now)) in
    let long : 64 * tiles.end ≤ length c.args.marks.now =
    omega (arith, c.reached_tiles-tiles.ensures.end, c.requires.wide.room, c.requires.wide.tiles) in
    part_joined c.args.grid.now c.args.columns c.args.how c.args.self.now.at tiles.first tiles.end c.min.result IsHeld c.args.marks.now
    c.join_words.new.words c.if-tiles.false long c.requires.grid.grid.rows.1
    (c.join_words.auto.words
    ∙ part_length (64 * tiles.first) (64 * tiles.end) c.args.marks.now (omega (arith, c.if-tiles.false)) long)
    c.min.ensures
    (λ column row near below held.
    c.reached_tiles-tiles.ensures.each column row near below (c.turned_bounds-bounds.ensures _ held))
    (rw (c.part_seen-part.ensures, c.new-field.ensures.columns) at (rw c.new-field.ensures.grid at
    (columns_joined f.grid f.columns _ c.args.how (λ row column. IsTrue (is_marked c.spread_marks.new.marks row column)) IsHeld _
    c.join_words.new.words f.seen.rows (search rules)
    (spread_inside f IsHeld c.fill.new.self c.turn_outline.new.marks c.spread_marks.new.marks
    (λ k within. c.fill.ensures.clones k 0 (rw c.fill.ensures.len at within) refl)
    (search rules)
    c.turn_outline.ensures c.spread_marks.ensures) c.join_words.ensures)))

pub spread_marks-requires : goal.spread_marks-requires
spread_marks-requires c = grind (arith, common_steps)

pub join_words-requires-clause-tiles : goal.join_words-requires-clause-tiles
join_words-requires-clause-tiles c = grind (arith)

pub slice_bounds-spare-end-2 : goal.slice_bounds-spare-end-2
slice_bounds-spare-end-2 c = grind (arith, common_steps)

pub join_words-requires-clause-same : goal.join_words-requires-clause-same
join_words-requires-clause-same c = grind (arith, common_steps)

pub turn_outline-requires-clause-wide : goal.turn_outline-requires-clause-wide
turn_outline-requires-clause-wide c = grind (arith, common_steps)
