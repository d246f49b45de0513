use Rattle.cam_rows.proofs.Sides.{last_near}
use Rattle.cam_rows.proofs.chord.side.ChordSide.is_last_beyond.Goals as goal

pub is_beyond-requires-clause-near : goal.is_beyond-requires-clause-near
is_beyond-requires-clause-near g c = last_near _ c.args.self.now c.requires.side c.requires.some
