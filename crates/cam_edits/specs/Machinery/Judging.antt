-- How edits are judged by the checks of items.
use Rattle.std.specs.Prelude.{◌≡◌, ℕ, nat_lt, Bool, if◌then◌else◌, not, List, [], ◌∷◌, Option, None, Some, Result, Ok, Err}
use Rattle.cam_refusals.specs.Checks.{answer_of, first_holding}
use Rattle.cam_objects.specs.Attributes.{MaySet, attribute_place}
use Rattle.cam_objects.specs.Contents.{Content, DrillContent}
use Rattle.cam_objects.specs.declared.attribute.Attribute.{Attribute}
use Rattle.cam_objects.specs.declared.item.Item.{Item}
use Rattle.cam_objects.specs.declared.item.Item.TheVariants.{One}
use Rattle.cam_objects.specs.declared.item_fault.ItemFault.{ItemFault}
use Rattle.cam_objects.specs.declared.item_fault.ItemFault.TheVariants.{Malformed, UnknownAperture, UnknownTool}
use Rattle.cam_objects.specs.declared.item_fault.ItemFault.TheVariants.{ZeroRadius}
use Rattle.cam_objects.specs.declared.item_fault.ItemFault.TheVariants as items
use Rattle.cam_objects.specs.declared.object.Object.TheVariants.{Flash, Draw, Arc}
use Rattle.cam_edits.specs.declared.drill_step.DrillStep.{DrillStep}
use Rattle.cam_edits.specs.declared.fault.EditFault.{EditFault}
use Rattle.cam_edits.specs.declared.fault.EditFault.TheVariants.{WrongKind, NoItem, NoAperture, NoTool, WrongAperture}
use Rattle.cam_edits.specs.declared.fault.EditFault.TheVariants.{SizeRefused, OutOfBoard, TooMuch}
use Rattle.cam_edits.specs.declared.step.Step.{Step}
use Rattle.cam_edits.specs.declared.step.Step.TheVariants.{PutAttribute, TakeAttribute, SetFields}
use Rattle.cam_edits.specs.Editing.{drill_step_checks, step_checks}

-- the first refusal of a step, if there is one
abbrev pub step_answer : Content → Step → Result Unit EditFault
step_answer c step = answer_of (first_holding (step_checks c step))

abbrev pub drill_step_answer : DrillContent → DrillStep → Result Unit EditFault
drill_step_answer c step = answer_of (first_holding (drill_step_checks c step))

abbrev pub IsItemStep : Step → Type 0
IsItemStep (PutAttribute k a) = ⊥
IsItemStep (TakeAttribute k) = ⊥
IsItemStep (SetFields k fields) = ⊥
IsItemStep _ = Unit {0}

-- an attribute may be put among others, none of which has its name
pub record MayPut (xs : List Attribute) (a : Attribute) : Type 0 where
  pub absent : attribute_place a.name xs ≡ None
  pub set : MaySet xs a

-- the refusal of an edit whose item has that fault
abbrev pub item_refusal : ItemFault → EditFault
item_refusal Malformed = WrongKind
item_refusal UnknownAperture = NoAperture
item_refusal UnknownTool = NoTool
item_refusal items.WrongAperture = WrongAperture
item_refusal ZeroRadius = SizeRefused
item_refusal items.OutOfBoard = OutOfBoard
item_refusal items.TooMuch = TooMuch

-- what an insertion is told where there is no such place
abbrev pub unplaced : Result Unit ItemFault → EditFault
unplaced (Err Malformed) = WrongKind
unplaced _ = NoItem

abbrev pub placed : Result Unit ItemFault → Result Unit EditFault
placed (Ok done) = Ok done
placed (Err fault) = Err (item_refusal fault)

-- the first refusal of an insertion whose item was checked so, and whose place is there or not
abbrev pub insertion_answer : Result Unit ItemFault → Bool → Result Unit EditFault
insertion_answer checked has_place = if has_place then placed checked else Err (unplaced checked)

-- the limits of the layer come last
abbrev pub limited : Result Unit EditFault → Bool → Option EditFault
limited (Ok done) room = if room then None else Some TooMuch
limited (Err fault) room = Some fault

-- and where the layer keeps its limits with it or not
abbrev pub item_answer : Result Unit ItemFault → Bool → Bool → Result Unit EditFault
item_answer checked has_place has_room = answer_of (limited (insertion_answer checked has_place) has_room)

-- the refusal of an edit at a place of a list of so many items
abbrev pub place_answer : ℕ → ℕ → Result Unit EditFault
place_answer count k = answer_of (first_holding ((NoItem, not (nat_lt k count)) ∷ []))

-- the flash, draw or arc with another aperture
abbrev pub other_aperture : ℕ → Item → Option Item
other_aperture n (One (Flash m at t dark)) = Some (One (Flash n at t dark))
other_aperture n (One (Draw m from to t dark)) = Some (One (Draw n from to t dark))
other_aperture n (One (Arc ccw dark m from to centre)) = Some (One (Arc ccw dark n from to centre))
other_aperture n _ = None
