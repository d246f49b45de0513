-- Tables that are drawn one after another.
use Rattle.std.proofs.Common.{◌≡◌, ◌∙◌, ℕ, ◌+◌, ◌-◌, ◌<◌, ◌≤◌, List, [], ◌∷◌, ◌++◌, append_assoc, append-nil, length}
use Rattle.std.proofs.Common.{min, slice_index_or, slice_set, drop, take, ap, arith, refl, sym, suc, zero}
use Rattle.std.proofs.lemmas.List.{drop-set-lt, drop_all, take_all, take_more_set}
use Rattle.std.proofs.lemmas.List.Sums.{sum_by-drop_more}
use Rattle.cam_tiles.specs.Tables.{Table, dirty_count, redrawn}
use Rattle.cam_edits.specs.Boards.{content_at}
use Rattle.cam_edits.specs.Images.{image_of}
use Rattle.cam_edits.specs.Sheets.{Sheet}
use Rattle.cam_station.specs.TileTables.{dirty_in, redrawn_in}
use Rattle.cam_station.proofs.KeptTables.{none_redrawn}

-- the tables from a place on: the first one is drawn, and then the others
here_redrawn : (n : ℕ) (sheets : List Sheet) (tables : List Table) (place : ℕ) (d : Table) → place < length tables
    → length tables ≤ length sheets
    → redrawn_in n (drop place sheets) (drop place tables)
    ≡ redrawn (image_of (content_at sheets place)) n (slice_index_or tables place d)
    ∷ redrawn_in (n - dirty_count (slice_index_or tables place d)) (drop (place + 1) sheets) (drop (place + 1) tables)
here_redrawn n sheets [] place d here few = absurd (omega (arith, here))
here_redrawn n [] (u ∷ tables) place d here few = absurd (omega (arith, few))
here_redrawn n (s ∷ sheets) (u ∷ tables) zero d here few = refl
here_redrawn n (s ∷ sheets) (u ∷ tables) (suc place) d here few =
    let after : suc place + 1 ≡ suc (place + 1) = omega arith in
    rw after (here_redrawn n sheets tables place d (omega (arith, here)) (omega (arith, few)))

module _ (n : ℕ) (sheets : List Sheet) (tables : List Table) (place : ℕ) (d : Table) (here : place < length tables)
    (few : length tables ≤ length sheets) where
  -- the table that is drawn next
  abbrev next : Table
  next = slice_index_or tables place d

  -- what is left, once it is
  pub next_redrawn : (drawn : Table) (left : ℕ) → drawn ≡ redrawn (image_of (content_at sheets place)) n next
      → left ≡ n - dirty_count next
      → take (place + 1) (slice_set tables place drawn)
      ++ redrawn_in left (drop (place + 1) sheets) (drop (place + 1) (slice_set tables place drawn))
      ≡ take place tables ++ redrawn_in n (drop place sheets) (drop place tables)
  next_redrawn drawn left e fewer =
      let after : List Table = redrawn_in left (drop (place + 1) sheets) (drop (place + 1) tables) in
      rw (take_more_set tables place drawn here, drop-set-lt (place + 1) tables place drawn (omega arith))
      (append_assoc (take place tables) (drawn ∷ []) after
      ∙ ap (λ rest. take place tables ++ rest)
      (sym (rw (here_redrawn n sheets tables place d here few, ← e, ← fewer) refl)))

  pub next_counted : (drawn : Table) (most left result : ℕ) → n ≤ most → result ≡ min n (dirty_count next)
      → left ≡ n - result
      → (most - left) + min left (dirty_in (drop (place + 1) (slice_set tables place drawn)))
      ≡ (most - n) + min n (dirty_in (drop place tables))
  next_counted drawn most left result fits e fewer =
      rw (drop-set-lt (place + 1) tables place drawn (omega arith), sum_by-drop_more dirty_count tables place d here, fewer, e)
      (omega (arith, fits))

-- where no table is left
pub all_redrawn : (left : ℕ) (sheets : List Sheet) (tables : List Table) (place : ℕ) → length tables ≤ place
    → tables ≡ take place tables ++ redrawn_in left (drop place sheets) (drop place tables)
all_redrawn left sheets tables place past =
    rw (take_all place tables past, drop_all place tables past, none_redrawn left (drop place sheets))
    (sym (append-nil tables))
