-- The columns on one side of a circle's middle, counted outwards.
use Rattle.std.proofs.Common.{rules, ◌≡◌, ℕ, ◌+◌, ◌-◌, ◌*◌, ◌<◌, ◌≤◌, arith, ◌^◌, ◌↔◌}
use Rattle.std.proofs.lemmas.Bool.{cases_lt}
use Rattle.std.proofs.lemmas.Nat.{mul-le}
use Rattle.cam_rows.specs.declared.chord.side.ChordSide.{ChordSide}
use Rattle.cam_rows.specs.Machinery.Chords.{AreBeyond, AreNear, HasReached, IsBeyond, IsSameSide, IsSide, distance_at}

-- what lies farther out than a column beyond the chord is beyond it too
pub beyond_on : (start step room i j : ℕ) → i ≤ j → IsBeyond (start + i * step) room → IsBeyond (start + j * step) room
beyond_on start step room i j order beyond =
    let near = start + i * step in
    let far = start + j * step in
    let farther : near ≤ far = omega (arith, mul-le i step j step order (omega arith)) in
    omega (arith, beyond, mul-le near near far far farther farther)

-- the column before the next one
pub last_is : (reach : ℕ) (s : ChordSide) (last : ℕ) → IsSide reach s → 0 < s.inside → last ≡ s.next - s.step
    → last ≡ distance_at s (s.inside - 1)
last_is reach s last side some is = search rules

pub last_near : (reach : ℕ) (s : ChordSide) → IsSide reach s → 0 < s.inside → s.next - s.step < reach
last_near reach s side some =
    let within = side.within in
    let is : s.next - s.step ≡ distance_at s (s.inside - 1) = last_is reach s (s.next - s.step) side some (omega arith) in
    rw is (side.near (s.inside - 1) (omega arith))

-- by places: the one behind the last column, and the next one
pub end_fits : (reach : ℕ) (s : ChordSide) → IsSide reach s → s.start + s.columns * s.step < 2 ^ 64
end_fits reach s side = grind (arith, cases_lt)

pub before_end : (reach columns : ℕ) (s t : ChordSide) → IsSide reach t → IsSameSide s t → columns ≡ s.columns
    → (t.next < s.start + columns * s.step) ↔ (t.inside < t.columns)
before_end reach columns s t side same is = grind (arith, cases_lt, mul-le)

pub past_start : (reach : ℕ) (s : ChordSide) → IsSide reach s → (s.start < s.next) ↔ (0 < s.inside)
past_start reach s side = grind (arith, cases_lt, mul-le)

-- where a walk outwards ends
pub reached_outwards : (reach : ℕ) (s : ChordSide) (room : ℕ) → IsSide reach s → AreNear s room
    → (s.inside < s.columns → IsBeyond s.next room) → HasReached s room
reached_outwards reach s room side near stops = record {
  near = near;
  beyond = λ j from within.
      beyond_on s.start s.step room s.inside j from (rw side.next at (stops (omega arith)));
}

-- where a walk inwards ends
pub reached_inwards : (reach : ℕ) (s : ChordSide) (room : ℕ) → IsSide reach s → AreBeyond s room
    → (0 < s.inside → IsBeyond (distance_at s (s.inside - 1)) room → ⊥) → HasReached s room
reached_inwards reach s room side beyond stops = record {
  near = λ j before here.
      stops (omega arith) (beyond_on s.start s.step room j (s.inside - 1) (omega arith) here);
  beyond = beyond;
}

-- and a step of it
pub beyond_from : (reach : ℕ) (s : ChordSide) (room : ℕ) → IsSide reach s → 0 < s.inside
    → IsBeyond (distance_at s (s.inside - 1)) room
    → (j : ℕ) → s.inside - 1 ≤ j → IsBeyond (distance_at s j) room
beyond_from reach s room side some last j from = beyond_on s.start s.step room (s.inside - 1) j from last
