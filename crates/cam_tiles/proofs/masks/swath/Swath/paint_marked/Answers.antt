use Rattle.std.proofs.Common.{ℕ, ◌-◌, ◌*◌, ◌/◌, ◌<◌, ◌≤◌, min, length, [], ◌∷◌, sym, ap, subst, ◌∙◌, inl, inr, arith}
use Rattle.std.proofs.lemmas.Bool.{cases_lt}
use Rattle.std.proofs.lemmas.List.{with_items_is}
use Rattle.cam_objects.specs.Image.{Covers}
use Rattle.cam_objects.specs.Leaves.{leaf}
use Rattle.cam_tiles.specs.Machinery.Marks.{is_marked}
use Rattle.cam_tiles.specs.Machinery.Inks.{Inked, Takes}
use Rattle.cam_tiles.specs.Machinery.Swaths.{IsInSwath, IsSwath, PaintsSwath, Swathed, place_in}
use Rattle.cam_tiles.specs.Machinery.Turning.{MarksCentres}
use Rattle.cam_tiles.proofs.SwathInks.{clear_past_stays, covered, fewer_columns, missed_done, paints_taken, takes_marks, takes_nothing}
use Rattle.cam_tiles.proofs.masks.swath.Swath.paint_marked.Given.{Over}
use Rattle.cam_tiles.proofs.masks.swath.Swath.paint_marked.Goals.{After-take_marked}
use Rattle.cam_tiles.proofs.masks.swath.Swath.paint_marked.Goals as goal

pub returns-then-tiles : goal.returns-then-tiles
returns-then-tiles g c =
    let s = c.self.inside in
    let shape = g.M.MarkShape.shape c.args.shape.now in
    let first = c.open_among-tiles.result.first in
    let end = c.open_among-tiles.result.end in
    let inv = c.self.invariant in
    let within = subst
    (λ (v : Swathed). (column row : ℕ) → IsInSwath v column row → Covers shape (place_in v column row)
    → (c.args.tiles.first ≤ column / 64) × (column / 64 < c.args.tiles.end)) (sym c.self.view_is) c.requires.within in
    let still = paints_taken shape s.grid s.columns c.args.dark 0 0 s.inks s.inks
    (takes_nothing (covered shape s.grid) c.args.dark 0 0 s.inks (λ row column low after until. absurd (omega arith)))
    inv.grid.rows.1 (omega (arith, inv.tiles))
    (λ column row near below apart.
    missed_done shape s.grid s.columns s.inks first end c.args.tiles.first c.args.tiles.end inv.grid.rows.1
    (λ column row near below. within column row (near, below)) c.open_among-tiles.ensures.done column row near below
    (elim (cases_lt (column / 64) first) [ inl early ↦ inl early | inr late ↦ inr (omega (arith, c.if-tiles.true)) ])) in
    subst (λ (v : Swathed). PaintsSwath v (leaf shape c.args.dark ∷ []) (record { grid = s.grid; columns = s.columns; inks = c.open_among-tiles.new.inks }))
    c.self.view_is
    (subst (λ (k : Inked). PaintsSwath (record { grid = s.grid; columns = s.columns; inks = s.inks }) (leaf shape c.args.dark ∷ [])
    (record { grid = s.grid; columns = s.columns; inks = k })) (sym c.open_among-tiles.ensures.kept) still)

pub mark-requires-clause-grid : goal.mark-requires-clause-grid
mark-requires-clause-grid g c =
    let s = c.self.inside in
    let first = c.open_among-tiles.result.first in
    fewer_columns c.from_tile-part.result (s.columns - 64 * first) (c.min.result - 64 * first) c.from_tile-part.ensures.wide
    (omega (
      arith,
      c.min.ensures,
      c.if-tiles.false,
      c.open_among-tiles.ensures.within,
      c.requires.tiles,
      ap (λ (v : Swathed). v.columns) c.self.view_is,
    ))
    (omega (arith, c.min.ensures))

pub invariant_of-self : goal.invariant_of-self
invariant_of-self g c =
    let s = c.self.inside in
    subst
    (λ (k : Inked). IsSwath (record {
      grid = s.grid;
      columns = s.columns;
      bounds = s.bounds;
      inks = k;
      runs = s.runs;
      marks = s.marks;
      spare = s.spare;
    })) (sym c.open_among-tiles.ensures.kept) c.self.invariant

-- what is taken
taken : (g : Over) (c : After-take_marked g)
    → Takes c.open_among-tiles.result.first c.open_among-tiles.result.end
    (covered (g.M.MarkShape.shape c.args.shape.now) c.self.inside.grid) c.args.dark c.self.inside.inks c.take_marked.new.self
taken g c =
    let s = c.self.inside in
    let shape = g.M.MarkShape.shape c.args.shape.now in
    let first = c.open_among-tiles.result.first in
    let end = c.open_among-tiles.result.end in
    let after = with_items_is s.marks c.mark.new.marks (c.mark.auto.marks ∙ c.deref_mut.ensures.len) in
    let marks = c.deref.result.now in
    let told = subst (λ ms. MarksCentres c.from_tile-part.result (min s.columns (64 * end) - 64 * first) (Covers shape) ms)
    (sym (c.deref.ensures.value ∙ after))
    (subst (λ n. MarksCentres c.from_tile-part.result (n - 64 * first) (Covers shape) c.mark.new.marks) c.min.ensures
    c.mark.ensures) in
    takes_marks shape s.grid s.columns c.args.dark first end c.from_tile-part.result marks s.inks c.take_marked.new.self
    c.from_tile-part.ensures.stands told c.self.invariant.outside
    (subst (λ (k : Inked). Takes first end (λ row column. is_marked marks row (column - 64 * first)) c.args.dark k c.take_marked.new.self)
    c.open_among-tiles.ensures.kept c.take_marked.ensures)

pub invariant_of-self-2 : goal.invariant_of-self-2
invariant_of-self-2 g c =
    let s = c.self.inside in
    let inv = c.self.invariant in
    let shape = g.M.MarkShape.shape c.args.shape.now in
    let takes = taken g c in
    let marks = with_items_is s.marks c.mark.new.marks (c.mark.auto.marks ∙ c.deref_mut.ensures.len) in
    let spare = with_items_is s.spare c.mark.new.spare (c.mark.auto.spare ∙ c.deref_mut-2.ensures.len) in
    record {
      grid = inv.grid;
      wide = inv.wide;
      few = inv.few;
      tiles = takes.tiles ∙ inv.tiles;
      marks = omega (arith, inv.marks, takes.tiles, ap length marks, c.mark.auto.marks, ap length c.deref_mut.ensures.value);
      spare = omega (arith, inv.spare, takes.tiles, ap length spare, c.mark.auto.spare, ap length c.deref_mut-2.ensures.value);
      held = inv.held;
      outside = clear_past_stays shape s.grid s.columns c.args.dark _ _ s.inks c.take_marked.new.self takes inv.outside;
    }

pub returns : goal.returns
returns g c =
    let s = c.self.inside in
    let inv = c.self.invariant in
    let shape = g.M.MarkShape.shape c.args.shape.now in
    let first = c.open_among-tiles.result.first in
    let end = c.open_among-tiles.result.end in
    let within = subst
    (λ (v : Swathed). (column row : ℕ) → IsInSwath v column row → Covers shape (place_in v column row)
    → (c.args.tiles.first ≤ column / 64) × (column / 64 < c.args.tiles.end)) (sym c.self.view_is) c.requires.within in
    subst (λ (v : Swathed). PaintsSwath v (leaf shape c.args.dark ∷ []) (record { grid = s.grid; columns = s.columns; inks = c.take_marked.new.self }))
    c.self.view_is
    (paints_taken shape s.grid s.columns c.args.dark first end s.inks c.take_marked.new.self (taken g c)
    inv.grid.rows.1 (omega (arith, inv.tiles))
    (λ column row near below apart.
    missed_done shape s.grid s.columns s.inks first end c.args.tiles.first c.args.tiles.end inv.grid.rows.1
    (λ column row near below. within column row (near, below)) c.open_among-tiles.ensures.done column row near below
    (elim apart [ inl early ↦ inl (omega arith) | inr late ↦ inr (omega arith) ])))

pub overflow_mul-columns : goal.overflow_mul-columns
overflow_mul-columns c = grind (arith)

pub overflow_sub-columns : goal.overflow_sub-columns
overflow_sub-columns c = grind (arith)

pub take_marked-requires-clause-some : goal.take_marked-requires-clause-some
take_marked-requires-clause-some c = assumption arith

pub from_tile-part-requires-clause-tile : goal.from_tile-part-requires-clause-tile
from_tile-part-requires-clause-tile c = grind (arith)

pub overflow_mul-tiles : goal.overflow_mul-tiles
overflow_mul-tiles c = grind (arith)

pub from_tile-part-requires-clause-grid : goal.from_tile-part-requires-clause-grid
from_tile-part-requires-clause-grid c = grind (arith)

pub take_marked-requires-clause-end : goal.take_marked-requires-clause-end
take_marked-requires-clause-end c = grind (arith)

pub take_marked-requires-clause-room : goal.take_marked-requires-clause-room
take_marked-requires-clause-room c = grind (arith)
