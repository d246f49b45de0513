-- The faults of a command behind its past.
use Rattle.std.specs.Prelude.{ℕ, ◌+◌, ℤ, pos, List, [], ◌∷◌, ◌++◌, length, codes, Option, Some, None, Result, Ok}
use Rattle.std.specs.Prelude.{Err, Bool, true, false, ◌||◌, ◌&&◌, ◌==◌, not, nat_le, nat_lt, nat_eq, is_some, is_none}
use Rattle.std.specs.Prelude.{if◌then◌else◌}
use Rattle.std.specs.List.{list_all, list_any}
use Rattle.std.specs.Map.{lookup}
use Rattle.std.specs.Ordering.{int_eq}
use Rattle.std.specs.Str.{bytes_eq}
use Rattle.cam_refusals.specs.declared.refusal.Refusal.{Refusal}
use Rattle.cam_refusals.specs.declared.refusal.Refusal.TheVariants.{UnknownCommand, BadNumber, NoFormat, NoUnit}
use Rattle.cam_refusals.specs.declared.refusal.Refusal.TheVariants.{SetAgain, FormatRefused, UnknownAperture, Redefined}
use Rattle.cam_refusals.specs.declared.refusal.Refusal.TheVariants.{RotationRefused, ScaleRefused, NoneSelected}
use Rattle.cam_refusals.specs.declared.refusal.Refusal.TheVariants.{WrongAperture, ArcMode, ZeroRadius, FlashInRegion}
use Rattle.cam_refusals.specs.declared.refusal.Refusal.TheVariants.{NotInRegion, NestedRepeat, StrayBlock, OutOfBoard}
use Rattle.cam_refusals.specs.declared.refusal.Refusal.TheVariants.{TooMuch, OldRefused, MacroFault}
use Rattle.cam_refusals.specs.Checks.{Checks}
use Rattle.cam_refusals.specs.Limits.{attribute_limit, count_limit, depth_limit, leaf_limit}
use Rattle.cam_units.specs.declared.length.Unit.{Unit as FileUnit}
use Rattle.cam_units.specs.declared.length.Unit.TheVariants.{Mm, Inch}
use Rattle.cam_units.specs.declared.point.Point.{Point}
use Rattle.cam_macros.specs.Expansion.{rotation}
use Rattle.cam_macros.specs.Reading.{is_macro_name}
use Rattle.cam_apertures.specs.Definition.{template_form, numbered, named, faults_of}
use Rattle.cam_objects.specs.declared.object.Object.{Object}
use Rattle.cam_objects.specs.declared.item.Item.{Item}
use Rattle.cam_objects.specs.declared.item.Item.TheVariants as item
use Rattle.cam_objects.specs.Leaves.{Leaf, item_leaves, meaning_in, round_width}
use Rattle.cam_objects.specs.Soundness.{points_of_shape, is_on_board, is_short}
use Rattle.cam_objects.specs.Weights.{object_count, object_depth, weight_in}
use Rattle.cam_commands.specs.declared.names.FreeText.TheVariants.{FileAttribute}
use Rattle.cam_commands.specs.declared.parts.Format.{Format}
use Rattle.cam_commands.specs.declared.parts.Slot.{Slot}
use Rattle.cam_commands.specs.declared.parts.Slot.TheVariants.{Omitted, Malformed, Written}
use Rattle.cam_commands.specs.declared.parts.Mode.{Mode}
use Rattle.cam_commands.specs.declared.parts.Mode.TheVariants.{Linear, Clockwise, Counterclockwise}
use Rattle.cam_commands.specs.declared.parts.Operation.{Operation}
use Rattle.cam_commands.specs.declared.parts.OperationCode.{OperationCode}
use Rattle.cam_commands.specs.declared.parts.OperationCode.TheVariants.{Plot, Move, Flash}
use Rattle.cam_commands.specs.declared.parts.Repeat.{Repeat}
use Rattle.cam_commands.specs.Commands.{Command, SetFormat, RefusedFormat, SetUnit, DefineAperture, SetPolarity}
use Rattle.cam_commands.specs.Commands.{SetMirror, SetRotation, SetScale, OpenBlock, CloseBlock, SetRepeat, CloseRepeat}
use Rattle.cam_commands.specs.Commands.{KeepText, NeutralOld, RefusedOld, BeginRegion, EndRegion, Select, Operate, End}
use Rattle.cam_commands.specs.Commands.{Unknown}
use Rattle.cam_commands.specs.Commands.{is_style_extended}
use Rattle.cam_commands.specs.ExtendedCommands.{is_same_format}
use Rattle.cam_gerber.specs.Statements.{Statement, Says, NamesMacro, Uncut}
use Rattle.cam_gerber.specs.State.{Past, format_in, unit_in, aperture_in, mode_in, has_arcs, in_region, code_of}
use Rattle.cam_gerber.specs.State.{code_in, point_in, arc_centre}
use Rattle.cam_units.specs.Nearest.{unit_or_mm}
use Rattle.cam_gerber.specs.Attributes.{names_in}
use Rattle.cam_gerber.specs.Homes.{Home, InBlock, InRepeat, InLayer, open_blocks, open_repeat, home, has_copies}
use Rattle.cam_gerber.specs.Homes.{step_written}
use Rattle.cam_gerber.specs.Making.{segments_in, region_ended, stroke_of, flash_of, home_objects}
use Rattle.cam_gerber.specs.Layers.{macros_in, entries_in, items_in, closed_repeat, closed_leaves, home_leaves, leaves_in}
use Rattle.cam_objects.specs.declared.tip.Tip.{Tip}

-- ---- the board

-- every control point of the leaves lies on the board
abbrev pub are_leaves_on_board : List Leaf → Bool
are_leaves_on_board leaves = list_all (λ leaf. list_all is_on_board (points_of_shape leaf.shape)) leaves

-- where it stands in the file, an item has a leaf outside the board
unfoldable pub is_outside : Past → Item → Bool
is_outside past stands = not (are_leaves_on_board (item_leaves (meaning_in (entries_in past)) stands))

-- ---- what holds behind a past

abbrev pub is_other_format : Option Format → Format → Bool
is_other_format None format = false
is_other_format (Some set) format = not (is_same_format set format)

abbrev pub is_same_unit : FileUnit → FileUnit → Bool
is_same_unit Mm Mm = true
is_same_unit Mm Inch = false
is_same_unit Inch Mm = false
is_same_unit Inch Inch = true

abbrev pub is_other_unit : Option FileUnit → FileUnit → Bool
is_other_unit None unit = false
is_other_unit (Some set) unit = not (is_same_unit set unit)

-- the number is in the dictionary
abbrev pub is_defined : Past → ℕ → Bool
is_defined past n = is_some (lookup (nat_eq n) (entries_in past))

-- or that of an open block
abbrev pub is_taken : Past → ℕ → Bool
is_taken past n = is_defined past n || list_any (λ m. m == n) (open_blocks past)

abbrev pub is_taken_again : Past → Option ℕ → Bool
is_taken_again past None = false
is_taken_again past (Some n) = is_taken past n

abbrev pub is_undefined : Past → Option ℕ → Bool
is_undefined past None = false
is_undefined past (Some n) = not (is_defined past n)

-- the standard templates
unfoldable pub is_reserved : List ℕ → Bool
is_reserved name =
    bytes_eq name (codes "C") || bytes_eq name (codes "R") || bytes_eq name (codes "O") || bytes_eq name (codes "P")

-- a stroke may be drawn with a tip: an arc with a round one alone
abbrev pub can_draw : Bool → Option Tip → Bool
can_draw arc tip = if arc then is_some (round_width tip) else is_some tip

-- the current aperture is no solid circle, and for a straight draw no solid rectangle, where there is one
abbrev pub is_unfit : Past → Bool → Option ℕ → Bool
is_unfit past arc None = false
is_unfit past arc (Some n) = not (can_draw arc (meaning_in (entries_in past) n).tip)

abbrev pub is_err : {A B : Type 0} → Result A B → Bool
is_err (Ok a) = false
is_err (Err b) = true

-- no multiple of 90 degrees
unfoldable pub is_no_quarter : ℤ → Bool
is_no_quarter angle = is_err (rotation angle)

abbrev pub holds_of : {A : Type 0} → (A → Bool) → Option A → Bool
holds_of test None = false
holds_of test (Some a) = test a

abbrev pub is_left_out : {A : Type 0} → List A → Bool
is_left_out [] = true
is_left_out (x ∷ xs) = false

-- ---- counts

-- the layer has no room for one item more, of so many leaves
abbrev pub is_layer_full : Past → ℕ → Bool
is_layer_full past leaves = nat_le count_limit (length (items_in past)) || nat_lt leaf_limit (leaves_in past + leaves)

-- an open block has no room for one object more
abbrev pub is_block_full : Past → ℕ → Object → Bool
is_block_full past n object =
    nat_le count_limit (length (home_objects (InBlock n) past))
    || nat_lt leaf_limit (home_leaves (InBlock n) past + object_count (weight_in (entries_in past)) object)
    || nat_le depth_limit (object_depth (weight_in (entries_in past)) object)

-- the home of the next object has no room for it
abbrev pub is_full : Home → Past → Object → Bool
is_full (InBlock n) past object = is_block_full past n object
is_full (InRepeat before) past object = nat_le count_limit (length (home_objects (InRepeat before) past))
is_full InLayer past object = is_layer_full past (object_count (weight_in (entries_in past)) object)

-- of what is made or closed, at most one, this holds
abbrev pub holds_of_one : {A : Type 0} → (A → Bool) → List A → Bool
holds_of_one test [] = false
holds_of_one test (x ∷ xs) = test x

-- ---- checks, in the order in which they are told

-- a command that is no part of a region
abbrev pub in_region_fault : Past → Checks Refusal
in_region_fault past = (StrayBlock, in_region past) ∷ []

-- the close of a repeat
abbrev pub closing_faults : Past → Bool → Checks Refusal
closing_faults past short_steps =
    (OutOfBoard, not short_steps || holds_of_one (is_outside past) (closed_repeat past))
    ∷ (TooMuch, not (is_left_out (closed_repeat past)) && is_layer_full past (closed_leaves past)) ∷ []

abbrev pub is_malformed : {A : Type 0} → Slot A → Bool
is_malformed Omitted = false
is_malformed Malformed = true
is_malformed (Written n) = false

abbrev pub has_steps_on_board : Past → Repeat → Bool
has_steps_on_board past repeat = is_short (step_written past repeat.i) && is_short (step_written past repeat.j)

abbrev pub repeat_faults : Past → Repeat → Checks Refusal
repeat_faults past repeat = (
  BadNumber,
  is_malformed repeat.columns || is_malformed repeat.rows || is_malformed repeat.i
      || is_malformed repeat.j,
)
    ∷ (NoUnit, is_none (unit_in past))
    ∷ (NestedRepeat, has_copies repeat && not (is_left_out (open_blocks past)))
    ∷ (StrayBlock, in_region past)
    ∷ closing_faults past (has_steps_on_board past repeat)

abbrev pub is_written : {A : Type 0} → Slot A → Bool
is_written Omitted = false
is_written Malformed = true
is_written (Written n) = true

abbrev pub has_any_coordinate : Operation → Bool
has_any_coordinate operation =
    is_written operation.x || is_written operation.y || is_written operation.i || is_written operation.j

abbrev pub has_malformed : Operation → Bool
has_malformed operation =
    is_malformed operation.x || is_malformed operation.y || is_malformed operation.i || is_malformed operation.j

abbrev pub is_plot : OperationCode → Bool
is_plot Plot = true
is_plot Move = false
is_plot Flash = false

-- coordinates alone, and the last operation was no plot
abbrev pub lacks_code : Past → Operation → Bool
lacks_code past operation = is_none operation.code && not (holds_of is_plot (code_in past))

abbrev pub is_arc : Mode → Bool
is_arc Linear = false
is_arc Clockwise = true
is_arc Counterclockwise = true

abbrev pub is_same_point : Point → Point → Bool
is_same_point p q = int_eq p.x q.x && int_eq p.y q.y

-- a line or an arc, in a region or not
abbrev pub path_faults : Bool → Bool → Point → Point → Point → Checks Refusal
path_faults arc arcs from to centre =
    (ArcMode, arc && not arcs) ∷ (ZeroRadius, arc && is_same_point from centre)
    ∷ (OutOfBoard, not (is_on_board to) || (arc && not (is_on_board centre))) ∷ []

-- of a plot
abbrev pub plot_faults : Past → Operation → Checks Refusal
plot_faults past operation =
    let now = Says (Operate operation)
    ∷ past in path_faults (is_arc (mode_in now)) (has_arcs past) (point_in past) (point_in now)
    (arc_centre past operation)

-- in a repeat the leaves of a flash are judged when it is closed
abbrev pub is_outside_at : Home → Past → Object → Bool
is_outside_at (InBlock n) past object = is_outside past (item.One object)
is_outside_at (InRepeat before) past object = false
is_outside_at InLayer past object = is_outside past (item.One object)

-- an operation by what it does, in a region or not
abbrev pub operated_faults : OperationCode → Bool → Past → Operation → Checks Refusal
operated_faults Plot false past operation =
    (NoneSelected, is_none (aperture_in past))
    ∷ (WrongAperture, is_unfit past (is_arc (mode_in (Says (Operate operation) ∷ past))) (aperture_in past))
    ∷ (plot_faults past operation ++ (TooMuch, is_full (home past) past (stroke_of past operation)) ∷ [])
operated_faults Plot true past operation =
    plot_faults past operation ++ (TooMuch, nat_le count_limit (length (segments_in past))) ∷ []
operated_faults Move false past operation =
    (OutOfBoard, not (is_on_board (point_in (Says (Operate operation) ∷ past)))) ∷ []
operated_faults Move true past operation =
    (OutOfBoard, not (is_on_board (point_in (Says (Operate operation) ∷ past))))
    ∷ (TooMuch, holds_of_one (is_full (home past) past) (region_ended past)) ∷ []
operated_faults Flash false past operation =
    (NoneSelected, is_none (aperture_in past))
    ∷ (
      OutOfBoard,
      not (is_on_board (point_in (Says (Operate operation) ∷ past)))
          || is_outside_at (home past) past (flash_of past operation),
    )
    ∷ (TooMuch, is_full (home past) past (flash_of past operation)) ∷ []
operated_faults Flash true past operation = (FlashInRegion, true) ∷ []

-- what any operation may be refused for
abbrev pub leading_faults : Past → Operation → Checks Refusal
leading_faults past operation =
    (UnknownCommand, lacks_code past operation) ∷ (BadNumber, has_malformed operation)
    ∷ (NoFormat, has_any_coordinate operation && is_none (format_in past))
    ∷ (NoUnit, has_any_coordinate operation && is_none (unit_in past)) ∷ []

abbrev pub operation_faults : Past → Operation → Checks Refusal
operation_faults past operation =
    leading_faults past operation ++ operated_faults (code_of operation) (in_region past) past operation

abbrev pub command_faults : Past → Command → Checks Refusal
command_faults past (SetFormat format) = (SetAgain, is_other_format (format_in past) format) ∷ in_region_fault past
command_faults past RefusedFormat = (FormatRefused, true) ∷ []
command_faults past (SetUnit unit style) =
    (SetAgain, is_other_unit (unit_in past) unit) ∷ (StrayBlock, is_style_extended style && in_region past) ∷ []
command_faults past (DefineAperture text) =
    (NoUnit, is_none (unit_in past)) ∷ (Redefined, is_taken_again past (numbered (template_form text)))
    ∷ (StrayBlock, in_region past)
    ∷ faults_of (template_form text) (macros_in past) (unit_or_mm (unit_in past))
command_faults past (SetPolarity polarity) = in_region_fault past
command_faults past (SetMirror mirror) = in_region_fault past
command_faults past (SetRotation angle) =
    (BadNumber, is_none angle) ∷ (RotationRefused, holds_of is_no_quarter angle) ∷ in_region_fault past
command_faults past (SetScale scale) =
    (BadNumber, is_none scale) ∷ (ScaleRefused, holds_of (λ n. not (int_eq n (pos 1000000000))) scale)
    ∷ in_region_fault past
command_faults past (OpenBlock number) =
    (BadNumber, is_none number) ∷ (Redefined, is_taken_again past number) ∷ (
      StrayBlock,
      in_region past
          || is_some (open_repeat past),
    )
    ∷ (TooMuch, nat_le depth_limit (length (open_blocks past))) ∷ []
command_faults past CloseBlock = (StrayBlock, in_region past || is_left_out (open_blocks past)) ∷ []
command_faults past (SetRepeat repeat) = repeat_faults past repeat
command_faults past CloseRepeat = (StrayBlock, in_region past) ∷ closing_faults past true
command_faults past (KeepText FileAttribute text) =
    (TooMuch, nat_lt attribute_limit (length (names_in (Says (KeepText FileAttribute text) ∷ past)))) ∷ []
command_faults past NeutralOld = in_region_fault past
command_faults past (RefusedOld style) =
    (StrayBlock, is_style_extended style && in_region past) ∷ (OldRefused, true) ∷ []
command_faults past BeginRegion = in_region_fault past
command_faults past EndRegion =
    (NotInRegion, not (in_region past)) ∷ (TooMuch, holds_of_one (is_full (home past) past) (region_ended past)) ∷ []
command_faults past (Select number) = (BadNumber, is_none number) ∷ (UnknownAperture, is_undefined past number) ∷ []
command_faults past (Operate operation) = operation_faults past operation
command_faults past End = (StrayBlock, in_region past || not (is_left_out (open_blocks past))) ∷ closing_faults past true
command_faults past Unknown = (UnknownCommand, true) ∷ []
command_faults past _ = []

-- the faults that a statement may have, each with its test
abbrev pub faults : Past → Statement → Checks Refusal
faults past (Says command) = command_faults past command
faults past (NamesMacro name parts) =
    (UnknownCommand, not (is_macro_name name)) ∷ (Redefined, is_some (named (macros_in past) name) || is_reserved name)
    ∷ (StrayBlock, in_region past) ∷ (MacroFault, is_none parts) ∷ []
faults past (Uncut refusal) = (refusal, true) ∷ []
