-- What painting asks of a repeat, and the leaves of it and of its parts.
use Rattle.std.specs.Prelude.{◌≡◌, ℕ, ◌*◌, ◌<◌, pos, ◌*ℤ◌, IfSome, List}
use Rattle.cam_objects.specs.declared.paint.repeat.Repeat.{Repeat}
use Rattle.cam_objects.specs.Bounds.{bounds_of}
use Rattle.cam_objects.specs.Leaves.{Leaf, block_leaves, column_leaves, meaning_in, origin, repeat_leaves, shifted}
use Rattle.cam_objects.specs.Machinery.Boxes.{IsNearBox}
use Rattle.cam_objects.specs.Machinery.ObjectCells.{AreObjectCells}
use Rattle.cam_objects.specs.Machinery.Painting.{IsCopied}

-- there is a copy, and the box and the cells are those of the first one
pub record IsPaintableRepeat (r : Repeat) : Type 0 where
  pub some : 0 < r.copies.columns * r.copies.rows
  pub first : r.first ≡ bounds_of (block_leaves (meaning_in r.entries.now) origin r.objects.now)
  pub near : IsNearBox r.first
  pub cells : IfSome r.cells (λ kept. AreObjectCells r.entries.now r.objects.now kept.now)
  pub across : IsCopied r.copies.columns r.copies.i r.objects.now
  pub up : IsCopied r.copies.rows r.copies.j r.objects.now

-- the copy in a column and a row
abbrev pub leaves_of_copy : Repeat → ℕ → ℕ → List Leaf
leaves_of_copy r column row =
    block_leaves (meaning_in r.entries.now) (shifted (pos column *ℤ r.copies.i) (pos row *ℤ r.copies.j)) r.objects.now

-- the copies in a column
abbrev pub leaves_of_column : Repeat → ℕ → List Leaf
leaves_of_column r column =
    column_leaves (meaning_in r.entries.now) (pos column *ℤ r.copies.i) r.copies.rows r.copies.j r.objects.now

-- all copies
abbrev pub leaves_of_repeat : Repeat → List Leaf
leaves_of_repeat r =
    repeat_leaves (meaning_in r.entries.now) r.copies.columns r.copies.rows r.copies.i r.copies.j r.objects.now
