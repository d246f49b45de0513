use Rattle.std.proofs.Common.{◌-◌, ◌≡◌, ℕ, ◌<◌, ◌≤◌, None, false, is_none, length, slice_index_or}
use Rattle.cam_tiles.proofs.drawing.dirty_among.Given as goal

-- those before are not dirty
abbrev pub invariant-loop-first : goal.invariant-loop-first
invariant-loop-first l = record {
  order : l.first ≤ l.end;
  end : l.end ≡ length l.tiles;
  before : (k : ℕ) → k < l.first → is_none (slice_index_or l.tiles k None) ≡ false;
}

abbrev pub decreases-loop-first : goal.decreases-loop-first
decreases-loop-first l = l.end - l.first

-- nor are those behind
abbrev pub invariant-loop-end : goal.invariant-loop-end
invariant-loop-end l = record {
  order : l.first ≤ l.end;
  end : l.end ≤ length l.tiles;
  before : (k : ℕ) → k < l.first → is_none (slice_index_or l.tiles k None) ≡ false;
  behind : (k : ℕ) → l.end ≤ k → k < length l.tiles → is_none (slice_index_or l.tiles k None) ≡ false;
}

abbrev pub decreases-loop-end : goal.decreases-loop-end
decreases-loop-end l = l.end - l.first
