-- Edits stay in their boxes.
use Rattle.std.specs.Prelude.{◌≡◌, ℕ, List, All, Ok, length}
use Rattle.cam_units.specs.Boxes.{Holds}
use Rattle.cam_units.specs.declared.point.Spot.{Spot}
use Rattle.cam_edits.specs.declared.edit.Edit.{Edit}
use Rattle.cam_edits.specs.Boards.{content_at}
use Rattle.cam_edits.specs.Editing.{edited}
use Rattle.cam_edits.specs.Images.{image_of}
use Rattle.cam_edits.specs.Sheets.{Sheet}
use Rattle.cam_edits.specs.Touches.{Touch, touch_of_edit}

-- The sheets are as many as before; one of them paints what it did outside the boxes, and the others hold what they
-- held.
pub record ChangesInside (touch : Touch) (sheets after : List Sheet) : Type 0 where
  pub count : length after ≡ length sheets
  pub outside : (s : Spot) → All (λ box. ¬ Holds box s) touch.boxes
      → image_of (content_at sheets touch.sheet) s ≡ image_of (content_at after touch.sheet) s
  pub others : (place : ℕ) → (place ≡ touch.sheet → ⊥) → content_at after place ≡ content_at sheets place

-- an accepted edit changes what its sheet paints in the boxes that it touches alone
abbrev pub EditBoxLaw : Type 0
EditBoxLaw = (edit : Edit) (sheets after : List Sheet) → edited edit sheets ≡ Ok after
    → ChangesInside (touch_of_edit edit sheets) sheets after
