-- Refusals by their numbers.
use Rattle.std.specs.Prelude.{ℕ, Bool, ◌==◌}
use Rattle.cam_refusals.specs.declared.refusal.Refusal.{Refusal}
use Rattle.cam_refusals.specs.declared.refusal.Refusal.TheVariants.{BadByte, Unterminated, UnknownCommand, BadNumber, NoFormat, NoUnit, SetAgain, FormatRefused, UnknownAperture, Redefined, TemplateRefused, PrimitiveRefused, RotationRefused, ScaleRefused, NoneSelected, WrongAperture, ArcMode, ZeroRadius, FlashInRegion, NotInRegion, NestedRepeat, StrayBlock, OutOfBoard, SizeRefused, TooMuch, NoEnd, OldRefused, MacroFault, NoMemory, NoHeader, UnknownLine, UnknownTool, ToolAgain, NoToolSelected, NoPoint, RoutArc, RoutState, DrillNoEnd, OutOfLimits, StillDirty, NoLayer, NoItem, NoAperture, EditWrongAperture, HasNone, EditOutOfBoard, NoTool, EditSizeRefused, WrongKind, EditTooMuch, NothingToUndo, NothingToRedo, GroupOpen, NoGroup, NoAttribute, AttributeRefused, BadLine, LineTooLong, FileFault, NameTaken, NoWindow, TooManyLayers, NoPointer, NotClean}

abbrev pub number_of : Refusal → ℕ
number_of BadByte = 1
number_of Unterminated = 2
number_of UnknownCommand = 3
number_of BadNumber = 4
number_of NoFormat = 5
number_of NoUnit = 6
number_of SetAgain = 7
number_of FormatRefused = 8
number_of UnknownAperture = 9
number_of Redefined = 10
number_of TemplateRefused = 11
number_of PrimitiveRefused = 12
number_of RotationRefused = 13
number_of ScaleRefused = 14
number_of NoneSelected = 15
number_of WrongAperture = 16
number_of ArcMode = 17
number_of ZeroRadius = 18
number_of FlashInRegion = 19
number_of NotInRegion = 20
number_of NestedRepeat = 21
number_of StrayBlock = 22
number_of OutOfBoard = 23
number_of SizeRefused = 24
number_of TooMuch = 25
number_of NoEnd = 26
number_of OldRefused = 28
number_of MacroFault = 29
number_of NoMemory = 30
number_of NoHeader = 40
number_of UnknownLine = 41
number_of UnknownTool = 42
number_of ToolAgain = 43
number_of NoToolSelected = 44
number_of NoPoint = 45
number_of RoutArc = 46
number_of RoutState = 47
number_of DrillNoEnd = 48
number_of OutOfLimits = 50
number_of StillDirty = 51
number_of NoLayer = 60
number_of NoItem = 61
number_of NoAperture = 62
number_of EditWrongAperture = 63
number_of HasNone = 64
number_of EditOutOfBoard = 65
number_of NoTool = 66
number_of EditSizeRefused = 67
number_of WrongKind = 68
number_of EditTooMuch = 69
number_of NothingToUndo = 70
number_of NothingToRedo = 71
number_of GroupOpen = 72
number_of NoGroup = 73
number_of NoAttribute = 74
number_of AttributeRefused = 75
number_of BadLine = 80
number_of LineTooLong = 81
number_of FileFault = 82
number_of NameTaken = 83
number_of NoWindow = 84
number_of TooManyLayers = 85
number_of NoPointer = 90
number_of NotClean = 91

-- both are the same refusal
abbrev pub is_same : Refusal → Refusal → Bool
is_same a b = number_of a == number_of b

-- P, which a refusal tells; that memory was refused tells nothing
abbrev pub UnlessMemory : Refusal → Type 0 → Type 0
UnlessMemory NoMemory P = Unit {0}
UnlessMemory _ P = P
