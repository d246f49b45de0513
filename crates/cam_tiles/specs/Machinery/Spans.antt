-- Spans: tiles side by side, in a row or in a column of them.
use Rattle.std.specs.Prelude.{◌≡◌, ℕ, ◌*◌, ◌-◌, ◌/◌, ◌<◌, ◌≤◌, ℤ, min, Bool, ◌&&◌, nat_le, nat_lt}
use Rattle.std.specs.Int.RustNames.{int_le}
use Rattle.std.specs.List.{list_any, range_with_len}
use Rattle.cam_tiles.specs.declared.span.Span.{Span}

-- whether the tile is one of the span
abbrev pub is_in_span : Span → ℕ → Bool
is_in_span s tile = nat_le s.first tile && nat_lt tile s.end

-- a tile has a pixel of the span among its 64
abbrev pub HasPixelOf : Span → ℕ → Type 0
HasPixelOf s tile = (pixel : ℕ) × ((s.first ≤ pixel) × ((pixel < s.end) × (pixel / 64 ≡ tile)))

-- whether a coordinate lies between two others, or is one of them
abbrev pub is_between : ℤ → ℤ → ℤ → Bool
is_between low high n = int_le low n && int_le n high

-- whether some pixel of the tile passes, where so many pixels stand side by side
unfoldable pub has_pixel : (ℕ → Bool) → ℕ → ℕ → Bool
has_pixel passes pixels tile = list_any passes (range_with_len (64 * tile) (min 64 (pixels - 64 * tile)))
