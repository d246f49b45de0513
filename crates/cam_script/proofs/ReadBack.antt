-- The words of an item are read as this item.
use Rattle.std.proofs.Common.{◌≡◌, ℕ, suc, ◌-◌, ◌<◌, ◌≤◌, ◌^◌, Bool, true, false, List, [], ◌∷◌, length}
use Rattle.std.proofs.Common.{Some, refl, ap, ◌∙◌, arith, min}
use Rattle.std.specs.Prelude.{◌&&◌, ◌==◌, codes, decimal, ℤ, pos, negsuc, All, nat_le, slice_index}
use Rattle.std.specs.List.{flat_map, list_all}
use Rattle.std.specs.Fmt.{signed_decimal}
use Rattle.std.specs.Char.{is_ascii_digit}
use Rattle.std.specs.Str.{all_ascii_digits}
use Rattle.std.specs.Str.Parse.{digits_value}
use Rattle.std.specs.Int.RustNames.{unsigned_abs}
use Rattle.std.proofs.lemmas.Bool.Decides.{nat_tests}
use Rattle.std.proofs.lemmas.Fmt.{decimal_nonempty, digits_value-decimal}
use Rattle.std.proofs.lemmas.Str.Parse.{IsNumeralModel, numerals_by_value, tells_all_ascii_digits}
use Rattle.std.proofs.lemmas.List.Elements.{All-head, All-tail}
use Rattle.cam_units.specs.Board.{IsOnBoard}
use Rattle.cam_units.specs.declared.point.Point.{Point}
use Rattle.cam_units.specs.declared.turn.Turn.{Turn}
use Rattle.cam_units.specs.declared.turn.Turn.TheVariants.{R0, R90, R180, R270, M0, M90, M180, M270}
use Rattle.cam_shapes.specs.declared.segments.Seg.{Seg}
use Rattle.cam_shapes.specs.declared.segments.Seg.TheVariants.{Line, Curve}
use Rattle.cam_objects.specs.Soundness.{points_of_seg}
use Rattle.cam_script.specs.Words.{count_in, length_in, numeral_to, tool_in}
use Rattle.cam_script.specs.Items.{direction_in, is_line, point_read, points_in, polarity_read, segs_in, turn_read}
use Rattle.cam_script.specs.Spelling.{direction_word, point_words, polarity_word, seg_words, turn_word}
use Rattle.cam_script.proofs.FirstSegments.{straight}
use Rattle.cam_script.proofs.Spelled.{digits_of_decimal, filled_tells, is_word, signed_word}

own : IsNumeralModel (λ digits. all_ascii_digits digits ≡ true) (digits_value 10)
own = numerals_by_value (λ digits. all_ascii_digits digits ≡ true) tells_all_ascii_digits

le_tells : (n m : ℕ) → n ≤ m → nat_le n m ≡ true
le_tells n m h = grind (arith, nat_tests)

pub numeral_reads : (most n : ℕ) → n ≤ most → n < 2 ^ 64 → numeral_to most (decimal n) ≡ Some n
numeral_reads most n low small =
    rw (filled_tells (decimal n) (decimal_nonempty n small), digits_of_decimal n small, digits_value-decimal own n small, le_tells n most low) refl

pub count_reads : (n : ℕ) → n < 2 ^ 32 → count_in (decimal n) ≡ Some n
count_reads n h = numeral_reads (2 ^ 32 - 1) n (omega arith) (omega arith)

least_tool : (n : ℕ) → n < 65536 → min n 65535 ≡ n
least_tool n h = omega arith

pub tool_reads : (n : ℕ) → n < 65536 → tool_in (decimal n) ≡ Some n
tool_reads n h = rw (count_reads n (omega arith)) (ap Some (least_tool n h))

-- a number's text begins with a digit
first_digit : (digits : List ℕ) → all_ascii_digits digits ≡ true → 0 < length digits
    → ((slice_index digits 0 == 45) ≡ false) × ((slice_index digits 0 == 43) ≡ false)
first_digit [] e lt = absurd (omega (arith, lt))
first_digit (c ∷ cs) e lt = by_digit (is_ascii_digit c) refl e
  where
    by_digit : (b : Bool) → is_ascii_digit c ≡ b → (b && all_ascii_digits cs) ≡ true → ((c == 45) ≡ false) × ((c == 43) ≡ false)
    by_digit true is e = (grind (arith, nat_tests), grind (arith, nat_tests))
    by_digit false is e = absurd cc

pub length_reads : (z : ℤ) → unsigned_abs z < 1000000000 → length_in (signed_decimal z) ≡ Some z
length_reads (pos n) h =
    let f = first_digit (decimal n) (digits_of_decimal n (omega (arith, h))) (decimal_nonempty n (omega (arith, h))) in
    rw (f.0, f.1, numeral_reads 4000000000 n (omega (arith, h)) (omega (arith, h))) refl
length_reads (negsuc n) h = rw (numeral_reads 4000000000 (suc n) (omega (arith, h)) (omega (arith, h))) refl

pub turn_reads : (turn : Turn) → turn_read (turn_word turn) ≡ Some turn
turn_reads R0 = refl
turn_reads R90 = refl
turn_reads R180 = refl
turn_reads R270 = refl
turn_reads M0 = refl
turn_reads M90 = refl
turn_reads M180 = refl
turn_reads M270 = refl

pub turn_is_word : (turn : Turn) → is_word (turn_word turn) ≡ true
turn_is_word R0 = refl
turn_is_word R90 = refl
turn_is_word R180 = refl
turn_is_word R270 = refl
turn_is_word M0 = refl
turn_is_word M90 = refl
turn_is_word M180 = refl
turn_is_word M270 = refl

pub polarity_reads : (dark : Bool) → polarity_read (polarity_word dark) ≡ Some dark
polarity_reads true = refl
polarity_reads false = refl

pub polarity_is_word : (dark : Bool) → is_word (polarity_word dark) ≡ true
polarity_is_word true = refl
polarity_is_word false = refl

pub direction_reads : (ccw : Bool) → direction_in (direction_word ccw) ≡ Some ccw
direction_reads true = refl
direction_reads false = refl

pub direction_is_word : (ccw : Bool) → is_word (direction_word ccw) ≡ true
direction_is_word true = refl
direction_is_word false = refl

no_line : (ccw : Bool) → is_line (direction_word ccw) ≡ false
no_line true = refl
no_line false = refl

pub point_reads : (p : Point) → IsOnBoard p → point_read (signed_decimal p.x) (signed_decimal p.y) ≡ Some p
point_reads p on = rw (length_reads p.x on.x, length_reads p.y on.y) refl

pub x_is_word : (p : Point) → IsOnBoard p → is_word (signed_decimal p.x) ≡ true
x_is_word p on = signed_word p.x (omega (arith, on.x))

pub y_is_word : (p : Point) → IsOnBoard p → is_word (signed_decimal p.y) ≡ true
y_is_word p on = signed_word p.y (omega (arith, on.y))

-- ---- segments

pub segs_read : (segs : List Seg) → All IsOnBoard (flat_map points_of_seg segs) → segs_in (flat_map seg_words segs) ≡ Some segs
segs_read [] on = refl
segs_read (Line to ∷ segs) on =
    straight (codes "l") (signed_decimal to.x) (signed_decimal to.y) (flat_map seg_words segs) refl
    ∙ rw (point_reads to (All-head IsOnBoard to (flat_map points_of_seg segs) on), segs_read segs (All-tail IsOnBoard to (flat_map points_of_seg segs) on)) refl
segs_read (Curve to centre ccw ∷ segs) on =
    let rest : All IsOnBoard (centre ∷ flat_map points_of_seg segs) = All-tail IsOnBoard to (centre ∷ flat_map points_of_seg segs) on in
    let on_to : IsOnBoard to = All-head IsOnBoard to (centre ∷ flat_map points_of_seg segs) on in
    let on_centre : IsOnBoard centre = All-head IsOnBoard centre (flat_map points_of_seg segs) rest in
    rw (no_line ccw, direction_reads ccw, point_reads to on_to, point_reads centre on_centre, segs_read segs (All-tail IsOnBoard centre (flat_map points_of_seg segs) rest)) refl

pub segs_are_words : (segs : List Seg) → All IsOnBoard (flat_map points_of_seg segs) → list_all is_word (flat_map seg_words segs) ≡ true
segs_are_words [] on = refl
segs_are_words (Line to ∷ segs) on =
    let on_to : IsOnBoard to = All-head IsOnBoard to (flat_map points_of_seg segs) on in
    rw (x_is_word to on_to, y_is_word to on_to) (segs_are_words segs (All-tail IsOnBoard to (flat_map points_of_seg segs) on))
segs_are_words (Curve to centre ccw ∷ segs) on =
    let rest : All IsOnBoard (centre ∷ flat_map points_of_seg segs) = All-tail IsOnBoard to (centre ∷ flat_map points_of_seg segs) on in
    let on_to : IsOnBoard to = All-head IsOnBoard to (centre ∷ flat_map points_of_seg segs) on in
    let on_centre : IsOnBoard centre = All-head IsOnBoard centre (flat_map points_of_seg segs) rest in
    rw (direction_is_word ccw, x_is_word to on_to, y_is_word to on_to, x_is_word centre on_centre, y_is_word centre on_centre)
    (segs_are_words segs (All-tail IsOnBoard centre (flat_map points_of_seg segs) rest))

-- ---- points of routs

pub points_read : (points : List Point) → All IsOnBoard points → points_in (flat_map point_words points) ≡ Some points
points_read [] on = refl
points_read (p ∷ points) on =
    rw (point_reads p (All-head IsOnBoard p points on), points_read points (All-tail IsOnBoard p points on)) refl

pub points_are_words : (points : List Point) → All IsOnBoard points → list_all is_word (flat_map point_words points) ≡ true
points_are_words [] on = refl
points_are_words (p ∷ points) on =
    let on_p : IsOnBoard p = All-head IsOnBoard p points on in
    rw (x_is_word p on_p, y_is_word p on_p) (points_are_words points (All-tail IsOnBoard p points on))
