-- rows of tiles: which of them boxes reach
use Rattle.std.proofs.Common.{◌≡◌, ℕ, ◌+◌, ◌-◌, ◌*◌, ◌<◌, ◌≤◌, min, pos, ◌-ℤ◌, ◌*ℤ◌, ◌≤ℤ◌, true, sym, ap, subst, ◌∙◌, arith}
use Rattle.std.proofs.lemmas.Bool.{and_from}
use Rattle.std.proofs.lemmas.Bool.Decides.{nat_tests}
use Rattle.std.proofs.lemmas.Int.{ints}
use Rattle.cam_units.specs.Boxes.{Holds, IsInBox}
use Rattle.cam_units.specs.declared.bounds.Bounds.{Bounds}
use Rattle.cam_units.specs.declared.bounds.Bounds.TheVariants.{Closed}
use Rattle.cam_units.specs.declared.point.Spot.{Spot}
use Rattle.cam_tiles.specs.declared.span.Span.{Span}
use Rattle.cam_tiles.specs.declared.window.Window.{Window}
use Rattle.cam_tiles.specs.Machinery.Indexes.{IsOnLevels, IsSeen, row_levels}
use Rattle.cam_tiles.specs.Machinery.Spans.{has_pixel, is_between, is_in_span}
use Rattle.cam_tiles.specs.Picture.{middle}
use Rattle.cam_tiles.proofs.GridLemmas.{back}
use Rattle.cam_tiles.proofs.SpanLemmas.{any_in_range}
use Rattle.cam_tiles.proofs.WindowLemmas.{from_le}
use Rattle.cam_tiles.proofs.WipedTiles.{AreRows}

-- the rows of a box have the rows of its places
row_reached : (w : Window) (low high : Spot) (rows : Span) → AreRows w low high rows → (row : ℕ) (s : Spot)
    → IsOnLevels (row_levels w row) s → low.y ≤ℤ s.y → s.y ≤ℤ high.y → is_in_span rows row ≡ true
unfolding has_pixel
row_reached w low high rows are row s on below above =
    let pixel : ℕ = 64 * row + on.0 in
    let rest : ℕ = w.height - 1 - pixel in
    let few : on.0 < min 64 (w.height - 64 * row) = on.1.0 in
    let up : rest + on.0 ≡ w.height - 1 - 64 * row = omega arith in
    let height : s.y ≡ middle w.y w.pitch rest =
    on.1.1 ∙ ap (λ n. middle w.y w.pitch n -ℤ pos on.0 *ℤ (pos 2 *ℤ w.pitch)) (sym up) ∙ back w.y w.pitch rest on.0 in
    let passes : is_between low.y high.y (middle w.y w.pitch rest) ≡ true =
    and_from _ _ (from_le low.y _ (omega (arith, ints, below, height)))
    (from_le _ high.y (omega (arith, ints, above, height))) in
    are row (omega arith)
    ∙ (any_in_range (λ row. is_between low.y high.y (middle w.y w.pitch (w.height - 1 - row))) (64 * row)
    (min 64 (w.height - 64 * row))).1 (pixel, (omega arith, (omega arith, passes)))

pub no_row : (rows : Span) (row : ℕ) → rows.end ≤ rows.first → is_in_span rows row ≡ true → ⊥
no_row rows row none reached = grind (arith, nat_tests)

-- as they are seen there
pub row_seen : (w : Window) (within : Bounds) (low high : Spot) (rows : Span) → within ≡ Closed low high
    → AreRows w low high rows → (row : ℕ) (s : Spot) → IsSeen w within row s → is_in_span rows row ≡ true
row_seen w within low high rows is are row s seen =
    let between : IsInBox low high s = subst (λ b. Holds b s) is seen.0 in
    row_reached w low high rows are row s seen.1 between.below between.above
