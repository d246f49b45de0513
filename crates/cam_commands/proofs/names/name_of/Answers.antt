use Rattle.std.proofs.Common.{arith, sym}
use Rattle.cam_commands.specs.declared.names.FreeText.TheVariants.{FileAttribute, ApertureAttribute, ObjectAttribute}
use Rattle.cam_commands.specs.declared.names.FreeText.TheVariants.{DeleteAttribute, ImageName, LoadName}
use Rattle.cam_commands.specs.declared.names.OldForm.TheVariants.{ImagePolarity, AxesSelect, ImageRotation, MirrorImage}
use Rattle.cam_commands.specs.declared.names.OldForm.TheVariants.{Offset, ScaleFactor}
use Rattle.cam_commands.specs.declared.names.Name.TheVariants.{FormatSpecification, UnitMode, ApertureDefinition, ApertureMacro}
use Rattle.cam_commands.specs.declared.names.Name.TheVariants.{ApertureBlock, StepAndRepeat, LoadPolarity, LoadMirroring}
use Rattle.cam_commands.specs.declared.names.Name.TheVariants.{LoadRotation, LoadScaling, Free, Old}
use Rattle.cam_commands.proofs.NameLetters.{named, none_behind_70, none_behind_77, none_behind_65, none_behind_83, none_behind_76}
use Rattle.cam_commands.proofs.NameLetters.{none_behind_84, none_behind_73, none_behind_79, none_of_letters}
use Rattle.cam_commands.proofs.names.name_of.Goals as goal

pub returns-in-70-eq83 : goal.returns-in-70-eq83
returns-in-70-eq83 c = rw (c.in-70-eq83.is-0, c.in-70-eq83.is-1) (sym (named FormatSpecification))

pub returns-in-77-eq79 : goal.returns-in-77-eq79
returns-in-77-eq79 c = rw (c.in-77-eq79.is-0, c.in-77-eq79.is-1) (sym (named UnitMode))

pub returns-in-65-eq68 : goal.returns-in-65-eq68
returns-in-65-eq68 c = rw (c.in-65-eq68.is-0, c.in-65-eq68.is-1) (sym (named ApertureDefinition))

pub returns-in-65-eq77 : goal.returns-in-65-eq77
returns-in-65-eq77 c = rw (c.in-65-eq77.is-0, c.in-65-eq77.is-1) (sym (named ApertureMacro))

pub returns-in-65-eq66 : goal.returns-in-65-eq66
returns-in-65-eq66 c = rw (c.in-65-eq66.is-0, c.in-65-eq66.is-1) (sym (named ApertureBlock))

pub returns-in-83-eq82 : goal.returns-in-83-eq82
returns-in-83-eq82 c = rw (c.in-83-eq82.is-0, c.in-83-eq82.is-1) (sym (named StepAndRepeat))

pub returns-in-76-eq80 : goal.returns-in-76-eq80
returns-in-76-eq80 c = rw (c.in-76-eq80.is-0, c.in-76-eq80.is-1) (sym (named LoadPolarity))

pub returns-in-76-eq77 : goal.returns-in-76-eq77
returns-in-76-eq77 c = rw (c.in-76-eq77.is-0, c.in-76-eq77.is-1) (sym (named LoadMirroring))

pub returns-in-76-eq82 : goal.returns-in-76-eq82
returns-in-76-eq82 c = rw (c.in-76-eq82.is-0, c.in-76-eq82.is-1) (sym (named LoadRotation))

pub returns-in-76-eq83 : goal.returns-in-76-eq83
returns-in-76-eq83 c = rw (c.in-76-eq83.is-0, c.in-76-eq83.is-1) (sym (named LoadScaling))

pub returns-in-84-eq70 : goal.returns-in-84-eq70
returns-in-84-eq70 c = rw (c.in-84-eq70.is-0, c.in-84-eq70.is-1) (sym (named (Free FileAttribute)))

pub returns-in-84-eq65 : goal.returns-in-84-eq65
returns-in-84-eq65 c = rw (c.in-84-eq65.is-0, c.in-84-eq65.is-1) (sym (named (Free ApertureAttribute)))

pub returns-in-84-eq79 : goal.returns-in-84-eq79
returns-in-84-eq79 c = rw (c.in-84-eq79.is-0, c.in-84-eq79.is-1) (sym (named (Free ObjectAttribute)))

pub returns-in-84-eq68 : goal.returns-in-84-eq68
returns-in-84-eq68 c = rw (c.in-84-eq68.is-0, c.in-84-eq68.is-1) (sym (named (Free DeleteAttribute)))

pub returns-in-73-eq78 : goal.returns-in-73-eq78
returns-in-73-eq78 c = rw (c.in-73-eq78.is-0, c.in-73-eq78.is-1) (sym (named (Free ImageName)))

pub returns-in-76-eq78 : goal.returns-in-76-eq78
returns-in-76-eq78 c = rw (c.in-76-eq78.is-0, c.in-76-eq78.is-1) (sym (named (Free LoadName)))

pub returns-in-73-eq80 : goal.returns-in-73-eq80
returns-in-73-eq80 c = rw (c.in-73-eq80.is-0, c.in-73-eq80.is-1) (sym (named (Old ImagePolarity)))

pub returns-in-65-eq83 : goal.returns-in-65-eq83
returns-in-65-eq83 c = rw (c.in-65-eq83.is-0, c.in-65-eq83.is-1) (sym (named (Old AxesSelect)))

pub returns-in-73-eq82 : goal.returns-in-73-eq82
returns-in-73-eq82 c = rw (c.in-73-eq82.is-0, c.in-73-eq82.is-1) (sym (named (Old ImageRotation)))

pub returns-in-77-eq73 : goal.returns-in-77-eq73
returns-in-77-eq73 c = rw (c.in-77-eq73.is-0, c.in-77-eq73.is-1) (sym (named (Old MirrorImage)))

pub returns-in-79-eq70 : goal.returns-in-79-eq70
returns-in-79-eq70 c = rw (c.in-79-eq70.is-0, c.in-79-eq70.is-1) (sym (named (Old Offset)))

pub returns-in-83-eq70 : goal.returns-in-83-eq70
returns-in-83-eq70 c = rw (c.in-83-eq70.is-0, c.in-83-eq70.is-1) (sym (named (Old ScaleFactor)))

pub returns-in_default : goal.returns-in_default
returns-in_default c = none_behind_70 c.args.first c.args.second c.in_default.is-0 c.in_default.is-1.1

pub returns-in_default-2 : goal.returns-in_default-2
returns-in_default-2 c = none_behind_77 c.args.first c.args.second c.in_default.is-0 c.in_default.is-1.0.1 c.in_default.is-1.1

pub returns-in_default-3 : goal.returns-in_default-3
returns-in_default-3 c = grind (arith, none_behind_65)

pub returns-in_default-4 : goal.returns-in_default-4
returns-in_default-4 c = none_behind_83 c.args.first c.args.second c.in_default.is-0 c.in_default.is-1.0.1 c.in_default.is-1.1

pub returns-in_default-5 : goal.returns-in_default-5
returns-in_default-5 c = grind (arith, none_behind_76)

pub returns-in_default-6 : goal.returns-in_default-6
returns-in_default-6 c = grind (arith, none_behind_84)

pub returns-in_default-7 : goal.returns-in_default-7
returns-in_default-7 c = grind (arith, none_behind_73)

pub returns-in_default-8 : goal.returns-in_default-8
returns-in_default-8 c = none_behind_79 c.args.first c.args.second c.in_default.is-0 c.in_default.is-1.1

pub returns-in_default-9 : goal.returns-in_default-9
returns-in_default-9 c = grind (arith, none_of_letters)
