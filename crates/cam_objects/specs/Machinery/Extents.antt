-- What is kept of the aperture or the tool that an item named last, by those who read boxes.
use Rattle.std.specs.Prelude.{◌≡◌, ℕ, IfSome, List}
use Rattle.cam_units.specs.declared.length.Nm.{Nm}
use Rattle.cam_objects.specs.declared.boxes.item_boxes.ItemBoxes.TheInside.{Inside}
use Rattle.cam_objects.specs.declared.drill.item_boxes.LastTool.{LastTool}
use Rattle.cam_objects.specs.declared.entry.Entry.{Entry}
use Rattle.cam_objects.specs.declared.boxes.extent.Extent.{Extent}
use Rattle.cam_objects.specs.Bounds.{bounds_of}
use Rattle.cam_objects.specs.Cells.{AreFirstCopiesOf}
use Rattle.cam_objects.specs.Drilling.{diameter_of}
use Rattle.cam_objects.specs.Leaves.{meaning_in, origin}
use Rattle.cam_objects.specs.Machinery.Boxes.{IsNearBox}
use Rattle.cam_objects.specs.Soundness.{HasSoundItems}

-- how far flashes and strokes of a number reach, among these entries
pub record IsExtentIn (entries : List (ℕ × Entry)) (e : Extent) : Type 0 where
  pub bounds : e.bounds ≡ bounds_of ((meaning_in entries e.number).flash origin)
  pub tip : e.tip ≡ (meaning_in entries e.number).tip
  pub near : IsNearBox e.bounds

-- what the reader of the boxes of a layer has is of that layer
pub record AreBoxesKept (r : Inside) : Type 0 where
  pub sound : HasSoundItems r.layer.now
  pub copies : IfSome r.copies (λ known. AreFirstCopiesOf r.layer.now.apertures r.layer.now.items.items known.now)
  pub last : IsExtentIn r.layer.now.apertures r.last

-- a tool with its diameter among these
abbrev pub IsLastToolIn : List (ℕ × Nm) → LastTool → Type 0
IsLastToolIn tools last = last.diameter ≡ diameter_of tools last.tool
