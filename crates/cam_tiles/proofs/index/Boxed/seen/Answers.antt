use Rattle.std.proofs.Common.{subst}
use Rattle.cam_units.specs.Boxes.{Holds}
use Rattle.cam_tiles.proofs.RowsOfTiles.{no_row, row_seen}
use Rattle.cam_tiles.proofs.index.Boxed.seen.Goals as goal

pub returns-then-rows-clause-none : goal.returns-then-rows-clause-none
returns-then-rows-clause-none c row s seen held =
    no_row c.rows_between-rows.result row c.if-rows.true
    (row_seen c.args.window.now c.args.part c.in-Closed.bottom c.in-Closed.top c.rows_between-rows.result c.in-Closed.is
    c.rows_between-rows.ensures.each row s seen)

pub returns-clause-some : goal.returns-clause-some
returns-clause-some c = record {
  corners = λ s held. subst (λ b. Holds b s) c.in-Closed-bounds.is held;
  rows = λ row s seen held.
      row_seen c.args.window.now c.args.part c.in-Closed.bottom c.in-Closed.top c.rows_between-rows.result c.in-Closed.is
      c.rows_between-rows.ensures.each row s seen;
  ends = c.rows_between-rows.ensures.few;
}
