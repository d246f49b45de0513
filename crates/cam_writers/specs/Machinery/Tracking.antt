-- What the running states of the writers have to do with the texts so far, and parts of commands.
use Rattle.std.specs.Prelude.{◌≡◌, ℕ, List, ◌++◌, Some, All, codes}
use Rattle.std.specs.List.{flat_map}
use Rattle.cam_units.specs.declared.length.Nm.{Nm}
use Rattle.cam_units.specs.declared.length.Unit.TheVariants.{Mm}
use Rattle.cam_units.specs.Board.{IsOnBoard}
use Rattle.cam_macros.specs.declared.primitive.MacroPrimitive.{MacroPrimitive}
use Rattle.cam_objects.specs.declared.attribute.Attribute.{Attribute}
use Rattle.cam_objects.specs.declared.entry.Entry.{Entry}
use Rattle.cam_objects.specs.declared.entry.Entry.TheVariants.{Aperture, Block}
use Rattle.cam_objects.specs.declared.object.Object.{Object}
use Rattle.cam_objects.specs.Soundness.{points_of}
use Rattle.cam_gerber.specs.State.{Past, format_in, unit_in, dark_in, mirror_in, rotation_in, aperture_in, mode_in, point_in}
use Rattle.cam_xnc.specs.DrillState.{tool_in_force, drill_mode_in}
use Rattle.cam_xnc.specs.Faults.{is_drilling}
use Rattle.cam_writers.specs.declared.drill_text.DrillText.{DrillText}
use Rattle.cam_writers.specs.declared.gerber_state.GerberText.{GerberText}
use Rattle.cam_writers.specs.Lengths.{mm}
use Rattle.cam_writers.specs.Phrases.{Attach, line_of, primitive_text, spelled}
use Rattle.cam_writers.specs.DrillTexts.{Lines, text_of as drill_text_of, said_by as drill_said_by}
use Rattle.cam_writers.specs.GerberTexts.{Phrases, text_of, said_by}

-- ---- drill texts

-- the state has the lines' text, and the tool and the mode that are in force after them
pub record Tracks (lines : Lines) (written : DrillText) : Type 0 where
  pub text : written.text.items ≡ drill_text_of lines
  pub tool : written.tool ≡ tool_in_force (drill_said_by lines)
  pub is_drilling : written.is_drilling ≡ is_drilling (drill_mode_in (drill_said_by lines))

-- ---- parts of commands, as the code writes them one behind the other

abbrev pub attribute_lines : List Attribute → List ℕ
attribute_lines attributes = flat_map (λ a. line_of (spelled (Attach a))) attributes

abbrev pub sides_text : Nm → Nm → List ℕ
sides_text width height = mm width.0 ++ (codes "X" ++ mm height.0)

-- the steps of a repeat
abbrev pub steps_text : Nm → Nm → List ℕ
steps_text i j = codes "I" ++ (mm i.0 ++ (codes "J" ++ mm j.0))

abbrev pub behind_comma : List ℕ → List ℕ
behind_comma field = codes "," ++ field

abbrev pub fields_text : List (List ℕ) → List ℕ
fields_text fields = flat_map behind_comma fields

abbrev pub primitive_line : MacroPrimitive → List ℕ
primitive_line prim = codes "*\n" ++ primitive_text prim

abbrev pub primitive_lines : List MacroPrimitive → List ℕ
primitive_lines prims = flat_map primitive_line prims

-- ---- Gerber texts

-- the state has the values that are in force after a past
pub record TracksPast (past : Past) (written : GerberText) : Type 0 where
  pub format : format_in past ≡ Some (record { integers = 4; decimals = 6 })
  pub unit : unit_in past ≡ Some Mm
  pub dark : written.dark ≡ dark_in past
  pub mirror : written.mirror ≡ mirror_in past
  pub rotation : written.rotation ≡ rotation_in past
  pub aperture : written.aperture ≡ aperture_in past
  pub mode : written.mode ≡ mode_in past
  pub point : written.point ≡ point_in past

-- and the text of the phrases
pub record TracksPhrases (phrases : Phrases) (written : GerberText) : Type 0 where
  pub text : written.text.items ≡ text_of phrases
  pub values : TracksPast (said_by phrases) written

abbrev pub ArePoints : Object → Type 0
ArePoints object = All IsOnBoard (points_of object)

abbrev pub AreEntryPoints : Entry → Type 0
AreEntryPoints (Aperture aperture) = Unit {0}
AreEntryPoints (Block objects) = All ArePoints objects
