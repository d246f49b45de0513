use Rattle.std.proofs.Common.{rules}
use Rattle.std.proofs.Common.{◌≡◌, ◌↔◌, ℕ, ◌/◌, ◌<◌, ◌≤◌, [], ◌∷◌, IsSome, refl, sym, ap, subst, ◌∙◌, inl, inr, arith}
use Rattle.cam_units.specs.Boxes.{Holds}
use Rattle.cam_units.specs.declared.bounds.Bounds.{Bounds}
use Rattle.cam_apertures.specs.declared.aperture.Aperture.{Aperture}
use Rattle.cam_apertures.specs.declared.aperture.Aperture.TheVariants.{Prims}
use Rattle.cam_objects.specs.declared.canvas.Figure.{Figure}
use Rattle.cam_objects.specs.Canvases.{leaf_of, shape_of}
use Rattle.cam_objects.specs.Image.{Covers}
use Rattle.cam_objects.specs.Leaves.{Stamp, leaf}
use Rattle.cam_objects.proofs.Canvases.{paints_one}
use Rattle.cam_tiles.specs.Machinery.Figures.{HasPart}
use Rattle.cam_tiles.specs.Machinery.Inks.{Takes}
use Rattle.cam_tiles.specs.Machinery.Swaths.{IsInSwath, PaintsSwath, Swathed, ink_in, place_in}
use Rattle.cam_tiles.specs.Tiles.{centre_in}
use Rattle.cam_tiles.proofs.SwathInks.{clear_past_stays, covered, paints_taken, runs_cover, some_ink}
use Rattle.cam_tiles.proofs.masks.swath.SwathCanvas.paint.Goals.{After-take_runs, After-tiles-tiles, then-columns-via-then-columns, then-columns-via-else-columns+then-is_decided}
use Rattle.cam_tiles.proofs.masks.swath.SwathCanvas.paint.Goals as goal

pub returns-in_default : goal.returns-in_default
returns-in_default c =
    paints_one IsInSwath place_in ink_in c.args.self.now (leaf_of c.args.print) c.args.print.bounds c.requires.held
    (λ column row there holds.
    absurd (subst (λ (b : Bounds). Holds b (place_in c.args.self.now column row)) c.in_default.is holds))

pub returns-then-columns : goal.returns-then-columns
returns-then-columns c =
    let now = c.args.self.now in
    paints_one IsInSwath place_in ink_in now (leaf_of c.args.print) c.args.print.bounds c.requires.held
    (λ column row there holds.
    let held = subst (λ (b : Bounds). Holds b (place_in now column row)) c.in-Closed.is holds in
    let here = (c.reached.ensures.each column row there.0 there.1).0 held in
    elim c.then-columns.branch [
      | then-columns-via-then-columns w ↦ absurd (omega (arith, w.if-columns.true, here.0))
      | then-columns-via-else-columns+then-is_decided w ↦ subst (λ (v : Swathed). IsSome (ink_in v column row)) c.self.view_is
          (some_ink _ _ (w.is_decided.ensures.0 w.if-is_decided.true row column here.1.0 here.1.1 here.0.0 here.0.1))
    ])

pub find-requires-clause-grid : goal.find-requires-clause-grid
find-requires-clause-grid c =
    let columns = ap (λ (v : Swathed). v.columns) c.self.view_is in
    c.self.invariant.wide (omega (arith, columns, c.if-columns.false, c.reached.ensures.left_of))

-- the columns that the runs have are those that the figure covers
told : (c : After-take_runs) (column row : ℕ) → column < c.self.inside.columns → row < c.self.inside.grid.rows
    → HasPart c.find.new.self row column ↔ Covers (shape_of c.args.print.figure) (centre_in c.self.inside.grid column row)
told c column row near below =
    let here = c.find.ensures.each column row near below in
    let same = c.in-Some.ensures.same (centre_in c.self.inside.grid column row) in
    ((λ h. same.1 (here.0 h)), (λ h. here.1 (same.0 h)))

-- what is taken
taken : (c : After-take_runs)
    → Takes 0 c.self.inside.inks.tiles
    (covered (shape_of c.args.print.figure) c.self.inside.grid) c.args.print.dark c.self.inside.inks c.take_runs.new.inks
taken c =
    let s = c.self.inside in
    let shape = shape_of c.args.print.figure in
    c.take_runs.ensures (covered shape s.grid)
    (runs_cover shape s.grid s.columns c.find.new.self s.inks (told c) c.self.invariant.outside)

pub invariant_of-self : goal.invariant_of-self
invariant_of-self c =
    let s = c.self.inside in
    let inv = c.self.invariant in
    let takes = taken c in
    record {
      grid = inv.grid;
      wide = inv.wide;
      few = inv.few;
      tiles = takes.tiles ∙ inv.tiles;
      marks = omega (arith, inv.marks, takes.tiles);
      spare = omega (arith, inv.spare, takes.tiles);
      held = inv.held;
      outside = clear_past_stays (shape_of c.args.print.figure) s.grid s.columns c.args.print.dark _ _ s.inks c.take_runs.new.inks
          takes inv.outside;
    }

pub returns-in-Some : goal.returns-in-Some
returns-in-Some c =
    let s = c.self.inside in
    let inv = c.self.invariant in
    subst
    (λ (v : Swathed). PaintsSwath v (leaf_of c.args.print ∷ []) (record { grid = s.grid; columns = s.columns; inks = c.take_runs.new.inks }))
    c.self.view_is
    (paints_taken (shape_of c.args.print.figure) s.grid s.columns c.args.print.dark 0 s.inks.tiles s.inks c.take_runs.new.inks
    (taken (goal.at.returns-in-Some c).After-take_runs) inv.grid.rows.1 (omega (arith, inv.tiles))
    (λ column row near below apart.
    absurd (elim apart [ inl early ↦ omega (arith, early) | inr late ↦ omega (arith, late, near, inv.tiles) ])))

-- all that a leaf covers lies in the tiles of the columns that its box reaches
within : (c : After-tiles-tiles) (column row : ℕ) → IsInSwath c.args.self.now column row
    → Covers (shape_of c.args.print.figure) (place_in c.args.self.now column row)
    → (c.tiles-tiles.result.first ≤ column / 64) × (column / 64 < c.tiles-tiles.result.end)
within c column row there on =
    let at = place_in c.args.self.now column row in
    let held = subst (λ (b : Bounds). Holds b at) c.in-Closed.is (c.requires.held at on) in
    let here = (c.reached.ensures.each column row there.0 there.1).0 held in
    (c.tiles-tiles.ensures.each (column / 64)).1 (column, (here.0.0, (here.0.1, refl)))

pub paint_marked-requires-clause-within : goal.paint_marked-requires-clause-within
paint_marked-requires-clause-within c column row there on =
    let at = place_in c.args.self.now column row in
    let m = c.in-Stamp-Prims-default-default in
    let is : m.aperture.now ≡ Prims m.prims = simp m.is at m.aperture-is in
    within (goal.at.paint_marked-requires-clause-within c).After-tiles-tiles column row there
    (subst (λ (f : Figure). Covers (shape_of f) at) (sym m.is)
    (subst (λ (a : Aperture). Covers (Stamp a m.turn m.at) at) (sym is) on))

pub paint_marked-requires-in-Filled-clause-within : goal.paint_marked-requires-in-Filled-clause-within
paint_marked-requires-in-Filled-clause-within c column row there on =
    within (goal.at.paint_marked-requires-in-Filled-clause-within c).After-tiles-tiles column row there
    (subst (λ (f : Figure). Covers (shape_of f) (place_in c.args.self.now column row)) (sym c.in-Filled.is) on)

pub returns-in-Filled : goal.returns-in-Filled
returns-in-Filled c =
    subst
    (λ (f : Figure). PaintsSwath c.args.self.now (leaf (shape_of f) c.args.print.dark ∷ []) c.paint_marked-in-Filled.new.self)
    (sym c.in-Filled.is) c.paint_marked-in-Filled.ensures

pub returns-in_default-placed_of : goal.returns-in_default-placed_of
returns-in_default-placed_of c = grind (arith)

pub returns-in_default-placed_of-2 : goal.returns-in_default-placed_of-2
returns-in_default-placed_of-2 c = grind (arith)

pub is_decided-requires-clause-columns : goal.is_decided-requires-clause-columns
is_decided-requires-clause-columns c = grind (arith)

pub paint_marked-requires-clause-sound : goal.paint_marked-requires-clause-sound
paint_marked-requires-clause-sound c = grind (arith)

pub take_runs-requires : goal.take_runs-requires
take_runs-requires c = omega (arith)

pub paint_marked-requires-in-Filled-clause-sound : goal.paint_marked-requires-in-Filled-clause-sound
paint_marked-requires-in-Filled-clause-sound c = grind (arith)

pub placed_of-requires-clause-heights : goal.placed_of-requires-clause-heights
placed_of-requires-clause-heights c = search rules
