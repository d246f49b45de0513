-- What a sheet is written as: the canonical text of its layer, and the kind of file that this text is.
use Rattle.std.specs.Prelude.{ℕ, List}
use Rattle.cam_writers.specs.DrillTexts.{drill_text}
use Rattle.cam_writers.specs.GerberTexts.{gerber_text}
use Rattle.cam_script.specs.declared.command.FileKind.{FileKind}
use Rattle.cam_script.specs.declared.command.FileKind.TheVariants as kinds
use Rattle.cam_edits.specs.Sheets.{Content, Gerber, Drill}

abbrev pub text_of : Content → List ℕ
text_of (Gerber c) = gerber_text c.attributes c.entries c.items
text_of (Drill c) = drill_text c.tools c.items

abbrev pub kind_of : Content → FileKind
kind_of (Gerber c) = kinds.Gerber
kind_of (Drill c) = kinds.Drill
