use Rattle.std.proofs.Common.{rules, arith}
use Rattle.cam_rows.proofs.NearRows.{height_within}
use Rattle.cam_rows.proofs.WideRows.{top_is_wide}
use Rattle.cam_rows.proofs.runs.circle.narrow_sides.Goals as goal

pub at_middle-chord-requires-clause-row : goal.at_middle-chord-requires-clause-row
at_middle-chord-requires-clause-row g c = search (rules, top_is_wide)

pub at_middle-chord-requires-clause-far : goal.at_middle-chord-requires-clause-far
at_middle-chord-requires-clause-far g c = c.requires.within.far

pub rise_below-requires-clause-rows : goal.rise_below-requires-clause-rows
rise_below-requires-clause-rows g c = λ k within. c.requires.rows k (omega (arith, within, c.requires.some))

pub room_at-requires-clause-height : goal.room_at-requires-clause-height
room_at-requires-clause-height g c =
    let within = c.requires.within in
    height_within g.row.REACH _ _ within.far (within.rows 0 c.requires.some) c.rise_below.ensures

pub narrow_rows-requires-then-chord-eq0-2-clause-chord : goal.narrow_rows-requires-then-chord-eq0-2-clause-chord
narrow_rows-requires-then-chord-eq0-2-clause-chord c = assumption arith

pub at_middle-chord-requires-clause-near : goal.at_middle-chord-requires-clause-near
at_middle-chord-requires-clause-near c = grind (arith)

pub returns-else-chord-eq0-2 : goal.returns-else-chord-eq0-2
returns-else-chord-eq0-2 c = assumption arith

pub narrow_rows-requires-else-chord-eq0-2-clause-sides : goal.narrow_rows-requires-else-chord-eq0-2-clause-sides
narrow_rows-requires-else-chord-eq0-2-clause-sides c = grind (arith)

pub narrow_rows-requires-else-chord-eq0-2-clause-rows : goal.narrow_rows-requires-else-chord-eq0-2-clause-rows
narrow_rows-requires-else-chord-eq0-2-clause-rows c = assumption arith

pub returns-then-chord-eq0 : goal.returns-then-chord-eq0
returns-then-chord-eq0 c = assumption arith

pub narrow_rows-requires-clause-rows : goal.narrow_rows-requires-clause-rows
narrow_rows-requires-clause-rows c = assumption arith

pub narrow_rows-requires-clause-offsets : goal.narrow_rows-requires-clause-offsets
narrow_rows-requires-clause-offsets c = grind (arith)

pub narrow_rows-requires-clause-ends : goal.narrow_rows-requires-clause-ends
narrow_rows-requires-clause-ends c = omega (arith)

pub returns-then-chord-eq0-2 : goal.returns-then-chord-eq0-2
returns-then-chord-eq0-2 c = assumption arith

pub narrow_rows-requires-then-chord-eq0-2-clause-ends : goal.narrow_rows-requires-then-chord-eq0-2-clause-ends
narrow_rows-requires-then-chord-eq0-2-clause-ends c = omega (arith)

pub narrow_rows-requires-then-chord-eq0-2-clause-rows : goal.narrow_rows-requires-then-chord-eq0-2-clause-rows
narrow_rows-requires-then-chord-eq0-2-clause-rows c = assumption arith

pub narrow_rows-requires-else-chord-eq0-2-clause-within : goal.narrow_rows-requires-else-chord-eq0-2-clause-within
narrow_rows-requires-else-chord-eq0-2-clause-within c = assumption arith

pub narrow_rows-requires-else-chord-eq0-2-clause-ends : goal.narrow_rows-requires-else-chord-eq0-2-clause-ends
narrow_rows-requires-else-chord-eq0-2-clause-ends c = omega (arith)

pub narrow_rows-requires-clause-sides : goal.narrow_rows-requires-clause-sides
narrow_rows-requires-clause-sides c = grind (arith)

pub narrow_rows-requires-then-chord-eq0-2-clause-sides : goal.narrow_rows-requires-then-chord-eq0-2-clause-sides
narrow_rows-requires-then-chord-eq0-2-clause-sides c = grind (arith)

pub narrow_rows-requires-clause-within : goal.narrow_rows-requires-clause-within
narrow_rows-requires-clause-within c = assumption arith

pub narrow_rows-requires-else-chord-eq0-2-clause-chord : goal.narrow_rows-requires-else-chord-eq0-2-clause-chord
narrow_rows-requires-else-chord-eq0-2-clause-chord c = assumption arith

pub narrow_rows-requires-else-chord-eq0-2-clause-offsets : goal.narrow_rows-requires-else-chord-eq0-2-clause-offsets
narrow_rows-requires-else-chord-eq0-2-clause-offsets c = grind (arith)

pub narrow_rows-requires-then-chord-eq0-2-clause-offsets : goal.narrow_rows-requires-then-chord-eq0-2-clause-offsets
narrow_rows-requires-then-chord-eq0-2-clause-offsets c = grind (arith)

pub leap-requires-clause-chord : goal.leap-requires-clause-chord
leap-requires-clause-chord c = grind (arith)

pub narrow_rows-requires-then-chord-eq0-2-clause-within : goal.narrow_rows-requires-then-chord-eq0-2-clause-within
narrow_rows-requires-then-chord-eq0-2-clause-within c = assumption arith

pub narrow_rows-requires-clause-chord : goal.narrow_rows-requires-clause-chord
narrow_rows-requires-clause-chord c = assumption arith
