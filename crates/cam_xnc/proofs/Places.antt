-- The places of a file ascend: those of its lines lie within it, and its end behind them.
use Rattle.std.proofs.Common.{◌≡◌, ℕ, suc, ◌+◌, ◌<◌, ◌≤◌, List, [], ◌∷◌, length, Bool, true, false, cond, refl, arith}
use Rattle.std.proofs.Common.{length-append, length-take}
use Rattle.std.specs.Prelude.{filter, ◌&&◌}
use Rattle.std.specs.List.{flat_map, prefix_len}
use Rattle.std.proofs.lemmas.Bool.{not-true}
use Rattle.cam_refusals.specs.FileFaults.{AscendFrom}
use Rattle.cam_refusals.proofs.FileFaults.{ascend_lower}
use Rattle.cam_xnc.specs.Bytes.{is_line_blank, is_blank}
use Rattle.cam_xnc.specs.DrillState.{DrillPast}
use Rattle.cam_xnc.specs.Lines.{TextLine, line_bytes, bytes_of_end, FoundLine, found_at}
use Rattle.cam_xnc.specs.Reading.{is_told, is_last_line, line_place, drill_places_from, places_of, line_said, through_end}
use Rattle.cam_xnc.proofs.Cuttings.{cut_is_cutting}

unskipped : (code : List ℕ) → is_blank code ≡ false → prefix_len is_line_blank code < length code
unskipped [] h = absurd cc
unskipped (byte ∷ code) h =
    elim (is_line_blank byte) as (λ b. (b && is_blank code) ≡ false → cond b (1 + prefix_len is_line_blank code) 0 < suc (length code)) [
      | true ↦ λ k. omega (arith, unskipped code k)
      | false ↦ λ k. omega arith
    ] h

-- a line that is told has a byte at its place
in_line : (line : FoundLine) → is_told line ≡ true → line_place line < line.at + length line.text
in_line line h = grind (arith, unskipped, not-true, length-take)

-- behind M30 stands no place
through : (low len : ℕ) (past : DrillPast) (lines : List FoundLine) (ends : Bool) → AscendFrom low (drill_places_from len past lines)
    → AscendFrom low (cond ends [] (drill_places_from len past (cond ends [] lines)))
through low len past lines ends up = grind arith

ascend : (lines : List TextLine) (at len : ℕ) (past : DrillPast) → at + length (flat_map line_bytes lines) ≤ len
    → AscendFrom at (drill_places_from len past (through_end (filter is_told (found_at at lines))))
ascend [] at len past fits = (omega arith, tt)
ascend (line ∷ lines) at len past fits =
    let here : FoundLine = record { text = line.text; at = at } in
    let next : ℕ = at + length (line_bytes line) in
    let rest : List FoundLine = filter is_told (found_at next lines) in
    let size = length-append line.text (bytes_of_end line.ending) in
    let whole = length-append (line_bytes line) (flat_map line_bytes lines) in
    (elim (is_told here) as (λ b. is_told here ≡ b → AscendFrom at (drill_places_from len past (through_end (cond b (here ∷ rest) rest)))) [
      | true ↦ λ told. let inside = in_line here told in (
        omega arith,
        through (line_place here + 1) len (line_said here ∷ past) (through_end rest) (is_last_line here)
            (ascend_lower (line_place here + 1) next _ (omega (arith, inside, size))
            (ascend lines next len (line_said here ∷ past) (omega (arith, fits, whole)))),
      )
      | false ↦ λ told. ascend_lower at next _ (omega arith) (ascend lines next len past (omega (arith, fits, whole)))
    ]) refl

pub places_ascend : (bytes : List ℕ) → AscendFrom 0 (places_of bytes)
places_ascend bytes = grind (arith, cut_is_cutting, ascend)
