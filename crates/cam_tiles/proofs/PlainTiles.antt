-- The plain tile: what it gains of a leaf, and the rows that are dark once all leaves are painted.
use Rattle.std.proofs.Common.{arith, ◌≡◌, ℕ, Bool, true, false, not, ◌&&◌, ◌||◌, cond, IsTrue, List, [], ◌∷◌, Option, None, Some}
use Rattle.std.proofs.Common.{sym, ap, subst, ◌∙◌}
use Rattle.std.specs.Option.{option_or, unwrap_or}
use Rattle.std.proofs.lemmas.Bool.{false≢true}
use Rattle.cam_apertures.proofs.Painting.{through}
use Rattle.cam_objects.specs.Canvases.{Paints}
use Rattle.cam_objects.specs.Image.{Covers}
use Rattle.cam_objects.specs.Leaves.{Leaf, Shape, leaf}
use Rattle.cam_objects.specs.Tests.{covers, is_black, last_ink}
use Rattle.cam_objects.proofs.Covering.{cover_law}
use Rattle.cam_objects.proofs.LastInks.{last_law}
use Rattle.cam_tiles.specs.declared.grid.Grid.{Grid}
use Rattle.cam_tiles.specs.declared.masks.join.Join.TheVariants.{Add, Clear}
use Rattle.cam_tiles.specs.Machinery.Masks.{AreMarksOf, IsBlank, IsIn, IsMarked, IsMask, Marking, Merges, ink_of}
use Rattle.cam_tiles.specs.Tiles.{centre_in, tile_rows}
use Rattle.cam_tiles.proofs.MaskWords.{rows_of_marks}
use Rattle.cam_tiles.proofs.PaintedMasks.{added_ink, clear_if_unmarked, cleared_ink, dark_if_marked, dark_is_marked, marked_if_dark, same_test}

abbrev pub Tile : Type 0
Tile = Marking × Marking

abbrev pub tile_ink : Tile → ℕ → ℕ → Option Bool
tile_ink p column row = cond (ink_of p.0 column row) (Some (ink_of p.1 column row)) None

abbrev pub PaintsTile : Tile → List Leaf → Tile → Type 0
PaintsTile = Paints {V = Tile} (λ p. IsIn p.0.grid) (λ p. centre_in p.0.grid) tile_ink

-- what is dark is decided
abbrev pub IsKept : Tile → Type 0
IsKept p = (column row : ℕ) → IsIn p.0.grid column row → IsMarked p.1 column row → IsMarked p.0 column row

kept : (p : Tile) → IsKept p → (column row : ℕ) → IsIn p.0.grid column row
    → IsTrue (ink_of p.1 column row) → IsTrue (ink_of p.0 column row)
kept p dark column row there h = dark_if_marked p.0 column row (dark column row there (marked_if_dark p.1 column row h))

-- ---- a leaf

-- on a pixel that is decided or not, and dark or not: what a leaf covers is new where nothing was decided
dark_leaf : (d k on : Bool) → (IsTrue k → IsTrue d)
    → cond (d || (on && not d)) (Some (k || (on && not d))) None ≡ option_or (cond d (Some k) None) (cond on (Some true) None)
dark_leaf d k on within = grind (arith, false≢true)

clear_leaf : (d k on : Bool) → (IsTrue k → IsTrue d)
    → cond (d || (on && not d)) (Some k) None ≡ option_or (cond d (Some k) None) (cond on (Some false) None)
clear_leaf d k on within = grind (arith, false≢true)

-- the marks of a leaf, and those of them that are new
module _ (p : Tile) (shape : Shape) (marks new decided : Marking) (dark : IsKept p)
    (covered : AreMarksOf p.0.grid (Covers shape) marks) (rest : Merges Clear p.0 marks new)
    (more : Merges Add new p.0 decided) where
  new_ink : (column row : ℕ) → IsIn p.0.grid column row
      → ink_of new column row ≡ (covers shape (centre_in p.0.grid column row) && not (ink_of p.0 column row))
  new_ink column row there = grind (arith, cover_law, cleared_ink, same_test, through, dark_is_marked)

  decided_ink : (column row : ℕ) → IsIn p.0.grid column row → ink_of decided column row
      ≡ (ink_of p.0 column row || (covers shape (centre_in p.0.grid column row) && not (ink_of p.0 column row)))
  decided_ink column row there =
      added_ink new p.0 decided column row there more ∙ ap (λ on. ink_of p.0 column row || on) (new_ink column row there)

  module _ (is_dark : Bool) (after : Marking)
      (inks : (column row : ℕ) → IsIn p.0.grid column row
      → tile_ink (decided, after) column row ≡ option_or (tile_ink p column row)
      (cond (covers shape (centre_in p.0.grid column row)) (Some is_dark) None)) where
    painted : PaintsTile p (leaf shape is_dark ∷ []) (decided, after)
    painted = grind arith

  pub dark_painted : (after : Marking) → p.1.grid ≡ p.0.grid → Merges Add new p.1 after
      → PaintsTile p (leaf shape true ∷ []) (decided, after)
  dark_painted after same gains =
      painted true after (λ column row there.
      let on = covers shape (centre_in p.0.grid column row) in
      let d = ink_of p.0 column row in
      let k = ink_of p.1 column row in
      let there_too = subst (λ (g : Grid). IsIn g column row) (sym same) there in
      ap (λ b. cond b (Some (ink_of after column row)) None) (decided_ink column row there)
      ∙ ap (λ b. cond (d || (on && not d)) (Some b) None)
      (added_ink new p.1 after column row there_too gains ∙ ap (λ b. k || b) (new_ink column row there))
      ∙ dark_leaf d k on (kept p dark column row there))

  pub clear_painted : PaintsTile p (leaf shape false ∷ []) (decided, p.1)
  clear_painted = grind (arith, decided_ink, clear_leaf, kept)

-- ---- all leaves

dark_told : (d k black : Bool) (ink : Option Bool) → (IsTrue k → IsTrue d) → cond d (Some k) None ≡ ink
    → black ≡ unwrap_or ink false → k ≡ black
dark_told d k black ink within is law = grind (arith, false≢true)

-- the dark marks of a tile that was blank are the rows of the leaves' image
pub dark_rows : (leaves : List Leaf) (g : Grid) (p q : Tile) → p.0.grid ≡ g → IsBlank p.0 → PaintsTile p leaves q
    → q.1.grid ≡ q.0.grid → IsKept q → IsMask q.1 → q.1.rows ≡ tile_rows (is_black leaves) g
dark_rows leaves g p q is none h same dark mask =
    let old = λ (column row : ℕ) (there : IsIn g column row). subst (λ (o : Grid). IsIn o column row) (sym is) there in
    rows_of_marks (is_black leaves) g q.1 mask
    (λ column row there. subst (λ (o : Grid). IsIn o column row) is
    ((h.pixels column row).0 (subst (λ (o : Grid). IsIn o column row) same there)))
    (λ column row there.
    let s = centre_in g column row in
    let inked = h.inks column row (old column row there)
    ∙ ap (λ b. option_or (cond b (Some (ink_of p.1 column row)) None) (last_ink leaves (centre_in p.0.grid column row)))
    (clear_if_unmarked p.0 column row (none column row (old column row there)))
    ∙ ap (λ (o : Grid). last_ink leaves (centre_in o column row)) is in
    let told = dark_told (ink_of q.0 column row) (ink_of q.1 column row) (is_black leaves s) (last_ink leaves s)
    (kept q dark column row ((h.pixels column row).1 (old column row there))) inked (last_law leaves s) in
    ((λ marked. sym told ∙ dark_if_marked q.1 column row marked), (λ black. marked_if_dark q.1 column row (told ∙ black))))
