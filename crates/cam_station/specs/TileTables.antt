-- The tables of the layers: one for each layer, in their order, where a window is in force.
use Rattle.std.specs.Prelude.{◌≡◌, ℕ, ◌-◌, List, [], ◌∷◌, ◌++◌, length, replicate, fold, slice_get, Option, None, Some}
use Rattle.std.specs.Prelude.{option_and_then, unwrap_or, All}
use Rattle.std.specs.List.{sum_by}
use Rattle.cam_tiles.specs.declared.window.Window.{Window}
use Rattle.cam_tiles.specs.Tables.{IsTable, Table, Tile, blank, dirty_count, redrawn, tile_in}
use Rattle.cam_tiles.specs.Touched.{touched_by}
use Rattle.cam_edits.specs.Images.{image_of}
use Rattle.cam_edits.specs.Places.{changed}
use Rattle.cam_edits.specs.Sheets.{Content, Sheet}
use Rattle.cam_edits.specs.Touches.{Touch}

-- a table of each sheet, all tiles dirty
abbrev pub blanks : Window → List Sheet → List Table
blanks w sheets = replicate (length sheets) (blank w)

-- and one more for a sheet that is added
abbrev pub with_blank : Option Window → List Table → List Table
with_blank None tables = tables
with_blank (Some w) tables = tables ++ blank w ∷ []

-- the tiles are dirty that boxes touch, each on its layer
abbrev pub touched_in : List Touch → List Table → List Table
touched_in touches tables = fold (λ before t. changed (touched_by t.boxes) before t.sheet) tables touches

-- how many tiles are dirty
abbrev pub dirty_in : List Table → ℕ
dirty_in tables = sum_by dirty_count tables

-- the first n dirty tiles, by layer and then by number, show their layers; all of them where there are fewer
abbrev pub redrawn_in : ℕ → List Sheet → List Table → List Table
redrawn_in n [] tables = tables
redrawn_in n (s ∷ sheets) [] = []
redrawn_in n (s ∷ sheets) (t ∷ tables) =
    redrawn (image_of s.content) n t ∷ redrawn_in (n - dirty_count t) sheets tables

-- a table whose tiles all show the layer
abbrev pub drawn : Content → Table → Table
drawn content t = redrawn (image_of content) (dirty_count t) t

-- the table of the layer at a place
abbrev pub table_at : Window → List Table → ℕ → Table
table_at w tables place = unwrap_or (slice_get tables place) (blank w)

-- what is kept of a tile of the layer at a place; nothing of one that is dirty, or not there
abbrev pub tile_at : List Table → ℕ → ℕ → Tile
tile_at tables place k = option_and_then (λ t. tile_in t k) (slice_get tables place)

-- a table of the window for each of so many layers, or none without a window
abbrev pub AreTables : Option Window → ℕ → List Table → Type 0
AreTables None count tables = tables ≡ []
AreTables (Some w) count tables = (length tables ≡ count) × All (λ t. IsTable t × (t.window ≡ w)) tables
