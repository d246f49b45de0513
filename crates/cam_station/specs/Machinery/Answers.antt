-- What a reader answers, and a station.
use Rattle.std.specs.Prelude.{ℕ, List, Option, None, Some, Result, Ok, Err}
use Rattle.cam_station.specs.declared.fault.Fault.{Fault}
use Rattle.cam_edits.specs.declared.board.SheetContent.{SheetContent}
use Rattle.cam_edits.specs.Sheets.{Content, content_of}
use Rattle.cam_station.specs.declared.reply.Reply.TheVariants.{Done, Numbers, Bytes}
use Rattle.cam_station.specs.Machine.{Outcome}

-- it, without the room that the layer's lists keep
abbrev pub answer_of : Result SheetContent Fault → Result Content Fault
answer_of (Ok content) = Ok (content_of content)
answer_of (Err fault) = Err fault

-- the bytes that an answer has for a file
abbrev pub bytes_in : Outcome → Option (List ℕ)
bytes_in (Err fault) = None
bytes_in (Ok Done) = None
bytes_in (Ok (Numbers numbers)) = None
bytes_in (Ok (Bytes bytes drawn)) = Some bytes
