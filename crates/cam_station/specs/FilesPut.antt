-- The files that a run puts: for a plot the picture of its layer in the state of that line, for a write its text.
use Rattle.std.specs.Prelude.{◌≡◌, ℕ, List, [], ◌∷◌, Some, Ok}
use Rattle.cam_script.specs.declared.line.Line.TheVariants.{Plot, Write}
use Rattle.cam_script.specs.Parsing.{Parsed, parsed}
use Rattle.cam_station.specs.declared.reply.Reply.TheVariants.{Bytes}
use Rattle.cam_station.specs.Machine.{State, fresh}
use Rattle.cam_station.specs.Plots.{IsPlotOf}
use Rattle.cam_station.specs.Run.{Ask, Nothing, Get, Put, World, turn}
use Rattle.cam_station.specs.Writes.{IsWriteOf}

-- the bytes are the picture of the layer of this name, as the layer is in this state
abbrev pub IsPictureOf : State → List ℕ → List ℕ → Type 0
IsPictureOf s name bytes = (drawn : ℕ) × IsPlotOf s name (Bytes bytes drawn)

-- the bytes are its canonical text
abbrev pub IsTextOf : State → List ℕ → List ℕ → Type 0
IsTextOf s name bytes = (drawn : ℕ) × IsWriteOf s name (Bytes bytes drawn)

-- the file that a line puts, if any, in the state in which it is run: no other line than a plot or a write puts one
abbrev pub IsExactPut : State → Parsed → Ask → Type 0
IsExactPut s says Nothing = Unit {0}
IsExactPut s says (Get path got) = Unit {0}
IsExactPut s (Ok (Some (Plot name path))) (Put at bytes put) = (at ≡ path) × IsPictureOf s name bytes
IsExactPut s (Ok (Some (Write name path))) (Put at bytes put) = (at ≡ path) × IsTextOf s name bytes
IsExactPut s says (Put at bytes put) = ⊥

-- so does each of the lines, one after another, where the world answered so
abbrev pub PutsExactly : State → List (List ℕ) → List World → Type 0
PutsExactly s [] ws = Unit {0}
PutsExactly s (line ∷ lines) [] = Unit {0}
PutsExactly s (line ∷ lines) (w ∷ ws) =
    IsExactPut s (parsed line w.line_refused) (turn s line w).ask × PutsExactly (turn s line w).state lines ws

-- in a run of a script on a new station, to its end or not
abbrev pub ExactFiles : Type 0
ExactFiles = (depth : ℕ) (lines : List (List ℕ)) (ws : List World) → PutsExactly (fresh depth) lines ws
