-- Rows of tiles, one after another, in a list of tiles from the left end of a row on.
use Rattle.std.proofs.Common.{◌≡◌, ◌+◌, ◌-◌, ◌*◌, ◌/◌, ◌%◌, ◌<◌, ◌≤◌, ℕ, inl, inr, true, List, length, min, ap, ◌∙◌, arith}
use Rattle.std.proofs.lemmas.Bool.{cases_lt}
use Rattle.std.proofs.Math.Nat.{add-mul-mod_self_right}
use Rattle.std.proofs.lemmas.Nat.{mul-le}
use borrow.Rule.Slice.PartMut.{mid_of, put_mid}
use Rattle.cam_tiles.specs.declared.window.Window.{Window}
use Rattle.cam_tiles.specs.Machinery.Drawn.{IsPartlyDrawn}
use Rattle.cam_tiles.specs.Machinery.Swaths.{IsRowOfTiles}
use Rattle.cam_tiles.specs.Picture.{accepts}
use Rattle.cam_tiles.specs.Tables.{Tile}
use Rattle.cam_tiles.specs.Tiles.{across, tiles_of}
use Rattle.cam_tiles.proofs.PartlyDrawn.{part_partly_drawn}
use Rattle.cam_tiles.proofs.TileCounts.{few_tiles, some_across}
use Rattle.cam_tiles.proofs.TilesInOrder.{middle_length}

-- each row of tiles begins before the last tile
pub begins : (row size across : ℕ) → 0 < across → row < size / across + min 1 (size % across) → row * across < size
begins row size across some under = elim (cases_lt row (size / across)) [
  | inl below ↦
      (let more : (row + 1) * across ≤ (size / across) * across =
      mul-le (row + 1) across (size / across) across (omega arith) (omega arith) in
      omega arith)
  | inr last ↦
      (let here : row ≡ size / across = omega arith in
      let same : row * across ≡ (size / across) * across = ap (λ n. n * across) here in
      omega arith)
]

-- those between two others are tiles of a row from its left end on, and drawing some of them draws some of all
pub record IsRowThere (w : Window) (first : ℕ) (tiles : List Tile) (start end : ℕ) : Type 0 where
  pub few : first + start < 4294967296
  pub row : IsRowOfTiles w (first + start) (mid_of start (end - start) tiles)
  pub drawn : (draw : ℕ → List ℕ) (part : List Tile)
      → IsPartlyDrawn draw (first + start) (mid_of start (end - start) tiles) part
      → IsPartlyDrawn draw first tiles (put_mid start (end - start) tiles part)

pub row_there : (w : Window) (first : ℕ) (tiles : List Tile) (size row wide end : ℕ) → accepts w ≡ true
    → wide ≡ across w → first % across w ≡ 0 → length tiles ≡ size → first + size ≤ tiles_of w
    → row < size / wide + min 1 (size % wide) → end ≡ min (row * wide + wide) size
    → IsRowThere w first tiles (row * wide) end
row_there w first tiles size row wide end accepted is left same few under last =
    let some : 0 < wide = omega (arith, is, some_across w accepted) in
    let start : ℕ = row * wide in
    let begun = begins row size wide some under in
    let order : start ≤ end = omega (arith, begun, last) in
    let within : end ≤ length tiles = omega (arith, same, last) in
    let long = middle_length start end tiles order within in
    record {
      few = omega (arith, begun, few, few_tiles w accepted);
      row = record {
        some = omega (arith, long, begun, last);
        fits =
            let begins_row : (first + start) % across w ≡ 0 =
            ap (λ n. (first + row * n) % across w) is ∙ add-mul-mod_self_right first row (across w) ∙ left in
            omega (arith, long, is, last, begins_row);
        within = omega (arith, long, few, last);
      };
      drawn = λ draw part. part_partly_drawn draw first start (end - start) tiles part (omega (arith, order, within));
    }
