-- What contracts see of a cutter and of the lines that it gives.
use Rattle.std.specs.Prelude.{ℕ, List, [], ◌∷◌, Bool, false, ◌==◌, ◌&&◌, if◌then◌else◌}
use Rattle.cam_xnc.specs.declared.lines.Lines.TheInside.{Inside}
use Rattle.cam_xnc.specs.declared.line.Line.{Line}
use Rattle.cam_xnc.specs.Lines.{FoundLine, cut, found_at}

-- the lines that are still to come
abbrev pub left : Inside → List FoundLine
left lines = found_at lines.at (cut lines.rest.now)

-- a line, without where its text lies in memory
abbrev pub found : Line → FoundLine
found line = record { text = line.text.now; at = line.at }

abbrev pub begins_with_feed : List ℕ → Bool
begins_with_feed [] = false
begins_with_feed (byte ∷ text) = byte == 10

-- how many bytes the line end has that stands at the front of a text
abbrev pub end_len : List ℕ → ℕ
end_len [] = 0
end_len (byte ∷ text) = if (byte == 13) && begins_with_feed text then 2 else 1
