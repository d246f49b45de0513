-- The layer behind a past: a block joins the dictionary at its closing AB, a repeat the items at its close.
-- Gerber Layer Format Specification, "Aperture dictionary", "Block aperture (AB)" and "Step and repeat (SR)".
use Rattle.std.specs.Prelude.{ℕ, ◌+◌, ◌*◌, List, [], ◌∷◌, ◌++◌, map, Option, Some, None, unwrap_or}
use Rattle.cam_units.specs.declared.length.Unit.{Unit as FileUnit}
use Rattle.cam_macros.specs.declared.aperture_macro.Macro.{Macro}
use Rattle.cam_apertures.specs.declared.aperture.Aperture.{Aperture}
use Rattle.cam_apertures.specs.Definition.{Definition, template_form, values_of, template_aperture}
use Rattle.cam_numbers.specs.Numbers.{defined_number}
use Rattle.cam_objects.specs.declared.object.Object.{Object}
use Rattle.cam_objects.specs.declared.entry.Entry.{Entry}
use Rattle.cam_objects.specs.declared.entry.Entry.TheVariants as entry
use Rattle.cam_objects.specs.declared.item.Item.{Item}
use Rattle.cam_objects.specs.declared.item.Item.TheVariants as item
use Rattle.cam_objects.specs.Contents.{Content}
use Rattle.cam_objects.specs.Weights.{block_count, weight_in}
use Rattle.cam_commands.specs.Commands.{DefineAperture, CloseBlock, SetRepeat, CloseRepeat, End, EndRegion, Operate}
use Rattle.cam_gerber.specs.Statements.{Statement, Says, NamesMacro}
use Rattle.cam_gerber.specs.State.{Past, unit_in}
use Rattle.cam_units.specs.Nearest.{unit_or_mm}
use Rattle.cam_gerber.specs.Attributes.{attributes_in}
use Rattle.cam_gerber.specs.Homes.{Home, InBlock, InRepeat, InLayer, Opened, open_blocks, open_repeat}
use Rattle.cam_gerber.specs.Making.{made_at, home_objects}

-- ---- the dictionary

-- the macros, in order
abbrev pub macros_in : Past → List Macro
macros_in [] = []
macros_in (NamesMacro name (Some parts) ∷ older) = macros_in older ++ record { name = name; parts = parts } ∷ []
macros_in (_ ∷ older) = macros_in older

abbrev pub numbered_aperture : Option ℕ → Option Aperture → List (ℕ × Entry)
numbered_aperture None aperture = []
numbered_aperture (Some n) None = []
numbered_aperture (Some n) (Some aperture) = (n, entry.Aperture aperture) ∷ []

-- the entry that a definition makes where a file has these macros and this unit
abbrev pub defined_by : Option Definition → List Macro → FileUnit → List (ℕ × Entry)
defined_by None macros unit = []
defined_by (Some d) macros unit =
    numbered_aperture (defined_number d.number) (template_aperture d.name macros unit (unwrap_or
    (values_of d.parameters) []))

abbrev pub defined : Past → List ℕ → List (ℕ × Entry)
defined past text = defined_by (template_form text) (macros_in past) (unit_or_mm (unit_in past))

-- the innermost block, which is closed behind a past
abbrev pub closed_block : Past → List ℕ → List (ℕ × Entry)
closed_block past [] = []
closed_block past (n ∷ outer) = (n, entry.Block (home_objects (InBlock n) past)) ∷ []

abbrev pub entries_in : Past → List (ℕ × Entry)
entries_in [] = []
entries_in (Says (DefineAperture text) ∷ older) = entries_in older ++ defined older text
entries_in (Says CloseBlock ∷ older) = entries_in older ++ closed_block older (open_blocks older)
entries_in (_ ∷ older) = entries_in older

-- ---- items

-- a repeat without objects is no item
abbrev pub repeat_by : Opened → List Object → List Item
repeat_by o [] = []
repeat_by o (x ∷ xs) = item.Repeat o.columns o.rows o.i o.j (x ∷ xs) ∷ []

abbrev pub closed_by : Past → Option Opened → List Item
closed_by past None = []
closed_by past (Some o) = repeat_by o (home_objects (InRepeat o.before) past)

-- the repeat that is closed behind a past
abbrev pub closed_repeat : Past → List Item
closed_repeat past = closed_by past (open_repeat past)

-- what is made behind a past, where it is at home in the layer
abbrev pub item_made : Past → Statement → List Item
item_made past says = map item.One (made_at InLayer past says)

abbrev pub items_in : Past → List Item
items_in [] = []
items_in (Says (Operate operation) ∷ older) = items_in older ++ item_made older (Says (Operate operation))
items_in (Says EndRegion ∷ older) = items_in older ++ item_made older (Says EndRegion)
items_in (Says (SetRepeat repeat) ∷ older) = items_in older ++ closed_repeat older
items_in (Says CloseRepeat ∷ older) = items_in older ++ closed_repeat older
items_in (Says End ∷ older) = items_in older ++ closed_repeat older
items_in (_ ∷ older) = items_in older

abbrev pub layer_in : Past → Content
layer_in past = record { attributes = attributes_in past; entries = entries_in past; items = items_in past }

-- ---- leaves, each object and item counted by the dictionary where it is made

abbrev pub made_leaves : Home → Past → Statement → ℕ
made_leaves h past says = block_count (weight_in (entries_in past)) (made_at h past says)

-- how many leaves the objects of a home have
abbrev pub home_leaves : Home → Past → ℕ
home_leaves h [] = 0
home_leaves h (Says (Operate operation) ∷ older) = home_leaves h older + made_leaves h older (Says (Operate operation))
home_leaves h (Says EndRegion ∷ older) = home_leaves h older + made_leaves h older (Says EndRegion)
home_leaves h (_ ∷ older) = home_leaves h older

abbrev pub copied_leaves : Past → Option Opened → ℕ
copied_leaves past None = 0
copied_leaves past (Some o) = o.columns * o.rows * home_leaves (InRepeat o.before) past

-- of the repeat that is closed behind a past, in all its copies
abbrev pub closed_leaves : Past → ℕ
closed_leaves past = copied_leaves past (open_repeat past)

-- how many leaves the items have
abbrev pub leaves_in : Past → ℕ
leaves_in [] = 0
leaves_in (Says (Operate operation) ∷ older) = leaves_in older + made_leaves InLayer older (Says (Operate operation))
leaves_in (Says EndRegion ∷ older) = leaves_in older + made_leaves InLayer older (Says EndRegion)
leaves_in (Says (SetRepeat repeat) ∷ older) = leaves_in older + closed_leaves older
leaves_in (Says CloseRepeat ∷ older) = leaves_in older + closed_leaves older
leaves_in (Says End ∷ older) = leaves_in older + closed_leaves older
leaves_in (_ ∷ older) = leaves_in older
