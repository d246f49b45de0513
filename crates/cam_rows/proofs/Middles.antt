-- The columns on both sides of a circle's middle, by how far they lie to the right of it.
use Rattle.std.proofs.Common.{◌≡◌, ℕ, ◌+◌, ◌-◌, ◌*◌, ◌^◌, ◌<◌, ◌≤◌, ℤ, pos, ◌+ℤ◌, ◌-ℤ◌, ◌*ℤ◌, ◌<ℤ◌, ◌↔◌, min, refl, arith}
use Rattle.std.specs.Int.RustNames.{unsigned_abs}
use Rattle.std.proofs.lemmas.Int.{by_lt_z, ints}
use Rattle.std.proofs.lemmas.Nat.{mul-le}
use Rattle.cam_units.specs.declared.point.Point.{Point}
use Rattle.cam_shapes.specs.Plane.{seen_from}
use Rattle.cam_rows.specs.declared.centres.Centres.{Centres}
use Rattle.cam_rows.specs.declared.chord.side.ChordSide.{ChordSide}
use Rattle.cam_rows.specs.declared.chord.Offsets.{Offsets}
use Rattle.cam_rows.specs.Machinery.Chords.{AreOffsetsFrom, HasReached, IsChord, IsSide, offset}
use Rattle.cam_rows.specs.Rows.{centre_at}
use Rattle.cam_rows.specs.Runs.{IsWideRow}

-- the places of columns to the left of the last one left of the middle
left_of : (first step last : ℤ) (pitch start i d : ℕ) → step ≡ pos pitch → last ≡ offset first step (i + d)
    → pos start ≡ pos 0 -ℤ last → offset first step i ≡ pos 0 -ℤ pos (start + d * pitch)
left_of first step last pitch start i d is_step is_last is_start = grind (arith, ints)

pub left_place : (first step last : ℤ) (pitch start m i : ℕ) → step ≡ pos pitch → last ≡ offset first step (m - 1)
    → pos start ≡ pos 0 -ℤ last → i < m → offset first step i ≡ pos 0 -ℤ pos (start + (m - 1 - i) * pitch)
left_place first step last pitch start m i is_step is_last is_start before = grind (arith, left_of)

pub left_distance : (first step last : ℤ) (pitch start m j : ℕ) → step ≡ pos pitch → last ≡ offset first step (m - 1)
    → pos start ≡ pos 0 -ℤ last → j < m → offset first step (m - 1 - j) ≡ pos 0 -ℤ pos (start + j * pitch)
left_distance first step last pitch start m j is_step is_last is_start before = grind (arith, left_of)

-- and of those from the first one right of it on
pub right_distance : (first step next : ℤ) (pitch start m j : ℕ) → step ≡ pos pitch → next ≡ offset first step m
    → pos start ≡ next → offset first step (m + j) ≡ pos (start + j * pitch)
right_distance first step next pitch start m j is_step is_next is_start = grind (arith, ints)

pub right_place : (first step next : ℤ) (pitch start m i : ℕ) → step ≡ pos pitch → next ≡ offset first step m
    → pos start ≡ next → m ≤ i → offset first step i ≡ pos (start + (i - m) * pitch)
right_place first step next pitch start m i is_step is_next is_start from = grind (arith, right_distance)

-- how far to the right a column lies
abbrev pub place_at : Offsets → ℕ → ℤ
place_at o i = offset o.first o.step i

-- the sides of a circle's middle in a row
module _ (reach : ℕ) (row : Centres) (p : Point) (o : Offsets) (m pitch left right : ℕ) (x : ℤ) (wide : IsWideRow row)
    (far : reach ≤ 2 ^ 34) (near : (i : ℕ) → i < row.n → unsigned_abs (seen_from p (centre_at row i)).x < reach)
    (offsets : AreOffsetsFrom row p o) (is_pitch : pitch ≡ unsigned_abs o.step) (small : pitch < 2 ^ 63) (is_middle : x ≡ pos 2 *ℤ p.x)
    (is_left : (i : ℕ) → i < row.n → (i < m) ↔ ((centre_at row i).x <ℤ x)) (few : m ≤ row.n)
    (is_left_start : left ≡ unsigned_abs (place_at o (m - 1)))
    (is_right_start : right ≡ unsigned_abs (place_at o (min m (row.n - 1)))) where
  is_step : o.step ≡ pos pitch
  is_step = omega (arith, ints, offsets.step, wide.step)

  near_place : (i : ℕ) → i < row.n → unsigned_abs (place_at o i) < reach
  near_place i within = rw (offsets.each i) (near i within)

  seen : (i : ℕ) → place_at o i ≡ (row.x +ℤ pos i *ℤ row.step) -ℤ pos 2 *ℤ p.x
  seen i = offsets.each i

  left_of_middle : (i : ℕ) → i < m → place_at o i <ℤ pos 0
  left_of_middle i before = grind (arith, ints, seen)

  from_left : 0 < m → pos left ≡ pos 0 -ℤ place_at o (m - 1)
  from_left some = omega (arith, ints, left_of_middle (m - 1) (omega (arith, some)), is_left_start)

  from_right : m < row.n → pos right ≡ place_at o m
  from_right some = grind (arith, by_lt_z, ints, seen)

  left_near : (j : ℕ) → j < m → left + j * pitch < reach
  left_near j before =
      let at = left_distance o.first o.step (place_at o (m - 1)) pitch left m j is_step refl
      (from_left (omega (arith, before))) before in
      omega (arith, ints, at, near_place (m - 1 - j) (omega (arith, before, few)))

  right_near : (j : ℕ) → j < row.n - m → right + j * pitch < reach
  right_near j before =
      let at = right_distance o.first o.step (place_at o m) pitch right m j is_step refl
      (from_right (omega (arith, before))) in
      omega (arith, ints, at, near_place (m + j) (omega (arith, before)))

  left_within : left < reach
  left_within = rw is_left_start (near_place (m - 1) (omega (arith, few, wide.count.0)))

  right_within : right < reach
  right_within = rw is_right_start (near_place (min m (row.n - 1)) (omega (arith, wide.count.0)))

  side_of : (s : ChordSide) (start columns : ℕ) → start < reach → ((j : ℕ) → j < columns → start + j * pitch < reach)
      → s ≡ record { start = start; step = pitch; columns = columns; inside = 0; next = start; room = 0 }
      → IsSide reach s × HasReached s s.room
  side_of s start columns within short is = grind (arith, ints, is_step, mul-le)

  pub chord_of : (s t : ChordSide)
      → s ≡ record { start = left; step = pitch; columns = m; inside = 0; next = left; room = 0 }
      → t ≡ record { start = right; step = pitch; columns = o.count - m; inside = 0; next = right; room = 0 }
      → IsChord reach (record { offsets = o; left = s; right = t })
  chord_of s t is_s is_t =
      let short_right : (j : ℕ) → j < o.count - m → right + j * pitch < reach =
      λ j before. right_near j (omega (arith, before, offsets.count)) in
      let left_side = side_of s left m left_within left_near is_s in
      let right_side = side_of t right (o.count - m) right_within short_right is_t in
      rw (is_s, is_t) (record {
        few = omega (arith, offsets.count, wide.count.1);
        columns = omega (arith, offsets.count, few);
        left = rw is_s at left_side.0;
        right = rw is_t at right_side.0;
        left_reached = rw is_s at left_side.1;
        right_reached = rw is_t at right_side.1;
        before = λ i before. (
          left_place o.first o.step (place_at o (m - 1)) pitch left m i is_step refl (from_left (omega (arith, before)))
              before,
          left_of_middle i before,
        );
        after = λ i from within. right_place o.first o.step (place_at o m) pitch right m i is_step refl
            (from_right (omega (arith, from, within, offsets.count))) from;
      })
