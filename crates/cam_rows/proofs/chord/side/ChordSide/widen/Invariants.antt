use Rattle.std.proofs.Common.{◌-◌}
use Rattle.cam_rows.specs.Machinery.Chords.{AreNear, IsSameSide, IsSide}
use Rattle.cam_rows.proofs.chord.side.ChordSide.widen.Given as goal

abbrev pub invariant-loop-self : goal.invariant-loop-self
invariant-loop-self g l = record {
  side : IsSide g.row.REACH l.self;
  near : AreNear l.self l.room;
  same : IsSameSide l.fn.self l.self;
}

abbrev pub decreases-loop-self : goal.decreases-loop-self
decreases-loop-self g l = l.self.columns - l.self.inside
