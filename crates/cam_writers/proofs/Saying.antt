-- What the lines of a canonical text say.
use Rattle.std.proofs.Common.{◌≡◌, ℕ, ◌^◌, ◌<◌, ◌≤◌, List, [], ◌∷◌, ◌++◌, Bool, true, false, eqb, Some, refl}
use Rattle.std.proofs.Common.{ap, ◌∙◌, arith, codes, decimal}
use Rattle.std.specs.Prelude.{ℤ, pos, not, ◌&&◌, nat_le, ◌==◌, ◌≤ℤ◌, unsigned_abs}
use Rattle.std.specs.List.{list_all, list_any, AllByRecursion}
use Rattle.std.proofs.lemmas.Int.{ints}
use Rattle.std.proofs.lemmas.List.Folds.{list_all-append}
use Rattle.std.proofs.lemmas.Bool.Decides.{nat_tests}
use Rattle.cam_units.specs.declared.length.Nm.{Nm}
use Rattle.cam_units.specs.declared.length.Unit.TheVariants.{Mm}
use Rattle.cam_units.specs.declared.point.Point.{Point}
use Rattle.cam_units.specs.Board.{IsOnBoard}
use Rattle.cam_objects.specs.DrillSoundness.{IsSoundTool}
use Rattle.cam_xnc.specs.declared.statement.Statement.TheVariants.{BeginHeader, SetUnit, Declare, EndHeader, Select}
use Rattle.cam_xnc.specs.declared.statement.Statement.TheVariants.{DrillMode, HitAt, RoutTo, Lower, CutTo, Raise, End}
use Rattle.cam_xnc.specs.declared.statement.Coordinate.TheVariants.{Written}
use Rattle.cam_xnc.specs.Bytes.{is_line_end, is_bad, code_of, line_packed, is_blank}
use Rattle.cam_numbers.specs.Numbers.{is_numeric}
use Rattle.cam_xnc.specs.Syntax.{line_field, coordinate, coordinates_of, with_coordinates, slot_statement, hit_or, tool_by}
use Rattle.cam_xnc.specs.Syntax.{tool_statement, rout_statement, other_statement, statement_of}
use Rattle.cam_writers.specs.Lengths.{mm, scaled}
use Rattle.cam_writers.specs.DrillTexts.{Line, declaration, line_at, point_line}
use Rattle.cam_writers.proofs.Runs.{Stops, all_pass, each_of, none_left_out, none_passes, run_read, run_left, run_alone_read, run_alone_left}
use Rattle.cam_writers.proofs.Decimals.{decimal_run, mm_again, mm_pointed, mm_numeric, selected_again, declared_again}

-- ---- runs

field_read : (letter : ℕ) (run rest : List ℕ) → eqb letter letter ≡ true → list_all is_numeric run ≡ true → Stops is_numeric rest
    → line_field letter (letter ∷ (run ++ rest)) ≡ (Some run, rest)
unfolding line_field
field_read letter run rest same all stops = rw (same, run_read is_numeric run rest all stops, run_left is_numeric run rest all stops) refl

field_alone : (letter : ℕ) (run : List ℕ) → eqb letter letter ≡ true → list_all is_numeric run ≡ true
    → line_field letter (letter ∷ run) ≡ (Some run, [])
unfolding line_field
field_alone letter run same all = rw (same, run_alone_read is_numeric run all, run_alone_left is_numeric run all) refl

-- ---- points and numbers

coordinate_again : (z : ℤ) → unsigned_abs z < 10 ^ 12 → coordinate (Some (mm z)) ≡ Written (scaled z)
unfolding coordinate
coordinate_again z h = rw (mm_pointed z, mm_again z h) refl

y_stops : (rest : List ℕ) → Stops is_numeric (89 ∷ rest)
unfolding is_numeric
y_stops rest = refl

point_again : (p : Point) → IsOnBoard p → coordinates_of (88 ∷ (mm p.x ++ 89 ∷ mm p.y)) ≡ Some (Written (scaled p.x), Written (scaled p.y))
unfolding coordinates_of
point_again p on =
    let x : unsigned_abs p.x < 10 ^ 12 = omega (arith, on.x) in
    let y : unsigned_abs p.y < 10 ^ 12 = omega (arith, on.y) in
    let fx = field_read 88 (mm p.x) (89 ∷ mm p.y) refl (mm_numeric p.x x) (y_stops (mm p.y)) in
    let fy = field_alone 89 (mm p.y) refl (mm_numeric p.y y) in
    rw (fx, fy, coordinate_again p.x x, coordinate_again p.y y) refl

-- ---- bytes

-- a byte that is printed, and begins no comment
abbrev pub is_plain : ℕ → Bool
is_plain byte = nat_le 33 byte && (nat_le byte 126 && not (byte == 59))

-- such bytes are read as they stand
pub record IsPlain (text : List ℕ) : Type 0 where
  pub whole : code_of text ≡ text
  pub unskipped : line_packed text ≡ text
  pub good : list_any is_bad text ≡ false
  pub one : AllByRecursion (λ byte. is_line_end byte ≡ false) text

plain : (text : List ℕ) → list_all is_plain text ≡ true → IsPlain text
plain text all = grind (arith, run_alone_read, all_pass, nat_tests, none_left_out, none_passes, each_of)

numeric_plain : (byte : ℕ) → is_numeric byte ≡ true → is_plain byte ≡ true
unfolding is_numeric
numeric_plain byte h = grind (arith, nat_tests)

run_plain : (run : List ℕ) → list_all is_numeric run ≡ true → list_all is_plain run ≡ true
run_plain run all = all_pass is_numeric is_plain numeric_plain run all

point_plain : (p : Point) → IsOnBoard p → list_all is_plain (mm p.x ++ 89 ∷ mm p.y) ≡ true
point_plain p on = grind (arith, run_plain, mm_numeric, list_all-append)

-- ---- what the lines say

-- a line is read as it stands, and says its statement
pub record Says (line : Line) : Type 0 where
  pub means : statement_of line.0 ≡ line.1
  pub some : is_blank line.0 ≡ false
  pub plain : IsPlain line.0

pub hit_says : (p : Point) → IsOnBoard p → Says (line_at [] HitAt p)
unfolding point_line statement_of
hit_says p on = record {
  means = ap (λ coordinates. hit_or coordinates (slot_statement (point_line [] p))) (point_again p on);
  some = refl;
  plain = plain (point_line [] p) (point_plain p on);
}

pub start_says : (p : Point) → IsOnBoard p → Says (line_at (codes "G00") RoutTo p)
unfolding point_line statement_of other_statement rout_statement
start_says p on = record {
  means = ap (with_coordinates RoutTo) (point_again p on);
  some = refl;
  plain = plain (point_line (codes "G00") p) (point_plain p on);
}

pub cut_says : (p : Point) → IsOnBoard p → Says (line_at (codes "G01") CutTo p)
unfolding point_line statement_of other_statement rout_statement
cut_says p on = record {
  means = ap (with_coordinates CutTo) (point_again p on);
  some = refl;
  plain = plain (point_line (codes "G01") p) (point_plain p on);
}

pub tool_says : (n : ℕ) → n ≤ 9999 → Says (codes "T" ++ decimal n, Select (Some n))
unfolding statement_of tool_statement tool_by
tool_says n h =
    let all = decimal_run n (omega arith) in
    record {
      means = rw (run_alone_read is_numeric (decimal n) all, run_alone_left is_numeric (decimal n) all) (ap Select (selected_again n h));
      some = refl;
      plain = plain (codes "T" ++ decimal n) (run_plain (decimal n) all);
    }

c_stops : (rest : List ℕ) → Stops is_numeric (67 ∷ rest)
unfolding is_numeric
c_stops rest = refl

declared_by : (run : List ℕ) (size : List ℕ) → list_all is_numeric run ≡ true → list_all is_numeric size ≡ true
    → tool_statement (run ++ 67 ∷ size) ≡ tool_by run (67 ∷ size)
unfolding tool_statement
declared_by run size all sizes =
    rw (run_read is_numeric run (67 ∷ size) all (c_stops size), run_left is_numeric run (67 ∷ size) all (c_stops size)) refl

-- a diameter is written
size_small : (z : ℤ) → pos 1 ≤ℤ z → z ≤ℤ pos 200000000 → unsigned_abs z < 10 ^ 12
size_small z low high = grind (arith, ints)

pub declaration_says : (n : ℕ) (d : Nm) → IsSoundTool n d → Says (declaration (n, d), Declare (Some n) (Some (scaled d.0)))
unfolding declaration statement_of tool_by
declaration_says n d sound =
    let small = size_small d.0 sound.wide sound.narrow in
    let number = decimal_run n (omega (arith, sound.few)) in
    let size = mm_numeric d.0 small in
    record {
      means = declared_by (decimal n) (mm d.0) number size
          ∙ rw (run_alone_left is_numeric (mm d.0) size, declared_again n sound.some sound.few, mm_again d.0 small) refl;
      some = refl;
      plain = plain (declaration (n, d))
          (list_all-append is_plain (decimal n) (67 ∷ mm d.0)
          ∙ rw (run_plain (decimal n) number, run_plain (mm d.0) size) refl);
    }

pub header_says : Says (codes "M48", BeginHeader)
unfolding statement_of other_statement
header_says = record { means = refl; some = refl; plain = plain (codes "M48") refl }

pub unit_says : Says (codes "METRIC", SetUnit Mm)
unfolding statement_of other_statement
unit_says = record { means = refl; some = refl; plain = plain (codes "METRIC") refl }

pub body_says : Says (codes "%", EndHeader)
unfolding statement_of other_statement
body_says = record { means = refl; some = refl; plain = plain (codes "%") refl }

pub drill_says : Says (codes "G05", DrillMode)
unfolding statement_of other_statement
drill_says = record { means = refl; some = refl; plain = plain (codes "G05") refl }

pub lower_says : Says (codes "M15", Lower)
unfolding statement_of other_statement
lower_says = record { means = refl; some = refl; plain = plain (codes "M15") refl }

pub raise_says : Says (codes "M16", Raise)
unfolding statement_of other_statement
raise_says = record { means = refl; some = refl; plain = plain (codes "M16") refl }

pub end_says : Says (codes "M30", End)
unfolding statement_of other_statement
end_says = record { means = refl; some = refl; plain = plain (codes "M30") refl }
