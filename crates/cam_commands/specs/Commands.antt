-- What the words and the extended commands of a file say, as plain data.
-- Gerber Layer Format Specification, "Overview of the commands".
use Rattle.std.specs.Prelude.{ℕ, ℤ, List, Option, Bool, true, false}
use Rattle.cam_units.specs.declared.length.Unit.{Unit as FileUnit}
use Rattle.cam_commands.specs.declared.parts.Style.{Style}
use Rattle.cam_commands.specs.declared.parts.Style.TheVariants as style
use Rattle.cam_commands.specs.declared.parts.Format.{Format}
use Rattle.cam_commands.specs.declared.parts.Polarity.{Polarity}
use Rattle.cam_commands.specs.declared.parts.Mirror.{Mirror}
use Rattle.cam_commands.specs.declared.parts.Mode.{Mode}
use Rattle.cam_commands.specs.declared.parts.Operation.{Operation}
use Rattle.cam_commands.specs.declared.parts.Repeat.{Repeat}
use Rattle.cam_commands.specs.declared.names.FreeText.{FreeText}

-- a number that does not fit its grammar is nothing
pub data Command : Type 0 where
  -- `FSLAX..Y..`
  SetFormat : Format → Command
  -- any other FS or MO
  RefusedFormat : Command
  -- `MOMM` and `MOIN`, or the words G71 and G70
  SetUnit : FileUnit → Style → Command
  -- what stands behind `AD`
  DefineAperture : List ℕ → Command
  -- what stands behind `AM`
  DefineMacro : List ℕ → Command
  -- LP
  SetPolarity : Polarity → Command
  -- LM
  SetMirror : Mirror → Command
  -- LR, in 10^-9 of a degree, counterclockwise
  SetRotation : Option ℤ → Command
  -- LS, in 10^-9
  SetScale : Option ℤ → Command
  -- `ABDn`
  OpenBlock : Option ℕ → Command
  -- AB
  CloseBlock : Command
  -- SR with parameters
  SetRepeat : Repeat → Command
  -- SR alone
  CloseRepeat : Command
  -- an attribute or a name, with all that stands behind its letters, skipped bytes too
  KeepText : FreeText → List ℕ → Command
  -- an old extended command that says what holds anyway
  NeutralOld : Command
  -- an old command that would change the image, or end the file
  RefusedOld : Style → Command
  -- G01, G02 or G03 alone
  SetMode : Mode → Command
  -- G74
  SingleQuadrant : Command
  -- G75
  MultiQuadrant : Command
  -- G36
  BeginRegion : Command
  -- G37
  EndRegion : Command
  -- G90, a comment, the empty word
  Nothing : Command
  -- `Dn` from D10 on, also behind G54
  Select : Option ℕ → Command
  -- D01, D02 or D03, or coordinates alone
  Operate : Operation → Command
  -- M02
  End : Command
  -- anything else
  Unknown : Command

abbrev pub is_style_extended : Style → Bool
is_style_extended style.Extended = true
is_style_extended style.Word = false

-- stands between two `%`, and is neither an attribute nor a name
abbrev pub is_extended : Command → Bool
is_extended (SetFormat format) = true
is_extended RefusedFormat = true
is_extended (SetUnit unit style) = is_style_extended style
is_extended (DefineAperture text) = true
is_extended (DefineMacro text) = true
is_extended (SetPolarity polarity) = true
is_extended (SetMirror mirror) = true
is_extended (SetRotation angle) = true
is_extended (SetScale scale) = true
is_extended (OpenBlock number) = true
is_extended CloseBlock = true
is_extended (SetRepeat repeat) = true
is_extended CloseRepeat = true
is_extended NeutralOld = true
is_extended (RefusedOld style) = is_style_extended style
is_extended _ = false
