-- Tiles that are drawn some at a time.
use Rattle.std.proofs.Common.{◌≡◌, ◌∙◌, ℕ, zero, suc, ◌+◌, Bool, List, [], ◌∷◌, None, Some, ap, arith, refl, sym}
use Rattle.cam_units.specs.declared.point.Spot.{Spot}
use Rattle.cam_tiles.specs.Tables.{Table, Tile, drawn_from, redrawn}
use Rattle.cam_tiles.specs.Tiles.{grid_of, tile_rows}
use Rattle.cam_tiles.proofs.DrawnTiles.{none_drawn}

-- those of least number, and then more
drawn_more : (draw : ℕ → List ℕ) (k a b : ℕ) (tiles : List Tile)
    → drawn_from draw k b (drawn_from draw k a tiles) ≡ drawn_from draw k (a + b) tiles
drawn_more draw k a b [] = refl
drawn_more draw k a b (Some rows ∷ tiles) = ap (λ rest. Some rows ∷ rest) (drawn_more draw (k + 1) a b tiles)
drawn_more draw k zero b (None ∷ tiles) =
    let none : b ≡ 0 + b = omega arith in
    ap (λ n. drawn_from draw k n (None ∷ tiles)) none
drawn_more draw k (suc a) b (None ∷ tiles) =
    let one : suc (a + b) ≡ suc a + b = omega arith in
    ap (λ rest. Some (draw k) ∷ rest) (drawn_more draw (k + 1) a b tiles)
    ∙ ap (λ n. drawn_from draw k n (None ∷ tiles)) one

module _ (image : Spot → Bool) (t : Table) where
  -- at first none is drawn
  pub none_redrawn : t ≡ redrawn image 0 t
  none_redrawn = ap (λ tiles. record { window = t.window; tiles = tiles })
      (sym (none_drawn (λ k. tile_rows image (grid_of t.window k)) 0 t.tiles))

  pub redrawn_more : (a b : ℕ) → redrawn image b (redrawn image a t) ≡ redrawn image (a + b) t
  redrawn_more a b = ap (λ tiles. record { window = t.window; tiles = tiles })
      (drawn_more (λ k. tile_rows image (grid_of t.window k)) 0 a b t.tiles)
