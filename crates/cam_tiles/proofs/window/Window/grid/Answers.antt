use Rattle.std.proofs.Common.{arith}
use Rattle.cam_tiles.proofs.GridLemmas.{grid_kept, left_within, on_board, top_within, twice_fits}
use Rattle.cam_tiles.proofs.WindowLemmas.{accepted}
use Rattle.cam_tiles.proofs.window.Window.grid.Goals as goal

pub across-requires : goal.across-requires
across-requires c = c.requires.accepted

pub nonzero_rem-left : goal.nonzero_rem-left
nonzero_rem-left c = grind (arith, accepted)

pub overflow_mul-left : goal.overflow_mul-left
overflow_mul-left c = grind (arith, accepted, left_within)

pub across-requires-2 : goal.across-requires-2
across-requires-2 c = c.requires.accepted

pub nonzero_div-top : goal.nonzero_div-top
nonzero_div-top c = grind (arith, accepted)

pub overflow_mul-top : goal.overflow_mul-top
overflow_mul-top c = grind (arith, accepted, top_within)

pub centre-first-requires : goal.centre-first-requires
centre-first-requires c = grind (arith, accepted, left_within, top_within)

pub overflow_sub-self : goal.overflow_sub-self
overflow_sub-self c = grind (arith, accepted, left_within)

pub overflow_sub-self-2 : goal.overflow_sub-self-2
overflow_sub-self-2 c = grind (arith, accepted, top_within)

pub overflow_mul-result : goal.overflow_mul-result
overflow_mul-result c = grind (arith, accepted, twice_fits)

pub returns-clause-value : goal.returns-clause-value
returns-clause-value c =
    grid_kept c.args.self.now c.args.tile c.across.result c.across-2.result c.centre-first.result c.min.result c.min-2.result
    c.centre-first.ensures.place
    c.requires.accepted c.across.ensures c.across-2.ensures c.centre-first.ensures.value c.min.ensures c.min-2.ensures

pub returns-clause-grid : goal.returns-clause-grid
returns-clause-grid c = grind (arith, returns-clause-value, on_board, accepted)
