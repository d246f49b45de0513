-- The numbers that openings of blocks name are those of entries.
use Rattle.std.specs.Prelude.{ℕ, ◌≤◌, IfSome}
use Rattle.std.specs.List.{AllByRecursion}
use Rattle.cam_commands.specs.Commands.{Command, OpenBlock}
use Rattle.cam_gerber.specs.Statements.{Statement, Says, NamesMacro, Uncut}
use Rattle.cam_gerber.specs.State.{Past}

abbrev pub IsEntryNumber : ℕ → Type 0
IsEntryNumber n = (10 ≤ n) × (n ≤ 2147483647)

-- no block is opened, or one of such a number
abbrev pub OpensWithin : Command → Type 0
OpensWithin (OpenBlock number) = IfSome number IsEntryNumber
OpensWithin command = Unit {0}

abbrev pub StatesWithin : Statement → Type 0
StatesWithin (Says command) = OpensWithin command
StatesWithin (NamesMacro name parts) = Unit {0}
StatesWithin (Uncut refusal) = Unit {0}

abbrev pub AreWithin : Past → Type 0
AreWithin past = AllByRecursion StatesWithin past
