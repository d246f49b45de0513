use Rattle.std.proofs.Common.{◌*◌, inl, inr, arith}
use Rattle.std.proofs.lemmas.Bool.{cases_lt}
use Rattle.cam_tiles.proofs.span.Span.tiles.Goals as goal

-- the first pixel of a tile, or the first of the span if that comes later
pub returns-clause-each : goal.returns-clause-each
returns-clause-each c = λ tile. (
  (λ h. elim (cases_lt c.args.self.first (64 * tile)) [
    | inl before ↦ (64 * tile, (omega arith, (omega (arith, h.1, c.div_ceil.ensures), omega arith)))
    | inr after ↦ (c.args.self.first, (omega arith, (omega (arith, c.if-self.false), omega (arith, h.0, after))))
  ]),
  (λ h. (omega (arith, h.1.0, h.1.1.1), omega (arith, h.1.1.0, h.1.1.1, c.div_ceil.ensures))),
)
