-- What holds of objects as they are made, whether or not their leaves lie on the board.
use Rattle.std.specs.Prelude.{◌≡◌, ℕ, List, All, Bool, true, false, IsTrue, Result, Ok, Err, Some, nat_eq, slice_get}
use Rattle.std.specs.List.{IsDistinct}
use Rattle.std.specs.Map.{keys_of}
use Rattle.cam_apertures.specs.declared.aperture.Aperture.{Aperture as Template}
use Rattle.cam_units.specs.Board.{IsOnBoard}
use Rattle.cam_objects.specs.declared.entry.Entry.{Entry}
use Rattle.cam_objects.specs.declared.entry.Entry.TheVariants.{Aperture}
use Rattle.cam_objects.specs.declared.item.Item.{Item}
use Rattle.cam_objects.specs.declared.object.Object.{Object}
use Rattle.cam_objects.specs.declared.object.Object.TheVariants.{Flash, Draw, Arc, Region}
use Rattle.cam_objects.specs.declared.item_fault.ItemFault.{ItemFault}
use Rattle.cam_objects.specs.declared.item_fault.ItemFault.TheVariants.{OutOfBoard}
use Rattle.cam_objects.specs.Leaves.{meaning_in}
use Rattle.cam_objects.specs.Soundness.{HasShortSteps, has_radius, is_drawable, is_formed, is_known, is_repeated, objects_of, points_of}

-- beside a dictionary
pub record IsWellMade (entries : List (ℕ × Entry)) (object : Object) : Type 0 where
  pub formed : IsTrue (is_formed object)
  pub known : IsTrue (is_known entries object)
  pub drawable : IsTrue (is_drawable (meaning_in entries) object)
  pub radius : IsTrue (has_radius object)
  pub points : All IsOnBoard (points_of object)

-- a number is that of an aperture
pub record NamesAperture (entries : List (ℕ × Entry)) (n : ℕ) : Type 0 where
  pub place : ℕ
  pub aperture : Template
  pub distinct : IsDistinct nat_eq (keys_of entries)
  pub found : slice_get entries place ≡ Some (n, Aperture aperture)

-- an object is a flash of an aperture
abbrev pub IsOfAperture : List (ℕ × Entry) → Object → Type 0
IsOfAperture entries (Flash n at turn dark) = NamesAperture entries n
IsOfAperture entries (Draw n from to turn dark) = ⊥
IsOfAperture entries (Arc ccw dark n from to centre) = ⊥
IsOfAperture entries (Region contour dark) = ⊥

-- of an item
pub record IsWellMadeItem (entries : List (ℕ × Entry)) (item : Item) : Type 0 where
  pub repeated : IsTrue (is_repeated item)
  pub steps : HasShortSteps item
  pub objects : All (IsWellMade entries) (objects_of item)

-- a check that is not passed for the board alone
abbrev pub is_of_board : Result (Unit {0}) ItemFault → Bool
is_of_board (Ok done) = false
is_of_board (Err OutOfBoard) = true
is_of_board (Err _) = false
