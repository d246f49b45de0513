-- What a line of a script says.
use Rattle.std.specs.Prelude.{ℕ, ◌==◌, ◌&&◌, nat_lt, slice_index, Bool, true, false, if◌then◌else◌}
use Rattle.std.specs.Prelude.{List, [], ◌∷◌, length, codes, Option, None, Some, Result, Ok, Err}
use Rattle.std.specs.Option.{option_map}
use Rattle.std.specs.Str.{bytes_eq}
use Rattle.cam_refusals.specs.Limits.{line_limit}
use Rattle.cam_objects.specs.Attributes.{comma}
use Rattle.cam_edits.specs.AttributeEdits.{is_field_text, is_key}
use Rattle.cam_edits.specs.declared.edit.Change.{Change}
use Rattle.cam_edits.specs.declared.edit.Change.TheVariants as changes
use Rattle.cam_script.specs.declared.command.FileKind.{FileKind}
use Rattle.cam_script.specs.declared.command.FileKind.TheVariants.{Gerber, Drill}
use Rattle.cam_script.specs.declared.command.Command.TheVariants as commands
use Rattle.cam_script.specs.declared.line.Line.{Line}
use Rattle.cam_script.specs.declared.line.Line.TheVariants as lines
use Rattle.cam_script.specs.declared.line.LineFault.{LineFault}
use Rattle.cam_script.specs.declared.line.LineFault.TheVariants.{LineTooLong, BadLine, Memory}
use Rattle.cam_script.specs.Commands.{changing}
use Rattle.cam_script.specs.Items.{item_in, polarity_read, reads}
use Rattle.cam_script.specs.Words.{words, is_name, is_path, count_in, length_in, tool_in, alone}

-- the kind of file that a word names
abbrev pub kind_in : List ℕ → Option FileKind
kind_in word =
    if bytes_eq word (codes "gerber") then Some Gerber
    else if bytes_eq word (codes "drill") then Some Drill
    else None

-- load NAME gerber PATH, or load NAME drill PATH
abbrev pub load_line : List (List ℕ) → Option Line
load_line (name ∷ kind ∷ path ∷ []) =
    if is_name name
    then reads kind_in kind (λ kind. if is_path path then Some (lines.Load name kind path) else None)
    else None
load_line _ = None

-- window X0 Y0 PITCH W H
abbrev pub window_line : List (List ℕ) → Option Line
window_line (x ∷ y ∷ pitch ∷ width ∷ height ∷ []) =
    reads length_in x (λ x. reads length_in y (λ y. reads length_in pitch (λ pitch.
    reads count_in width (λ width. reads count_in height (λ height.
    Some (lines.Command (commands.SetWindow x y pitch width height)))))))
window_line _ = None

-- redraw N
abbrev pub redraw_line : List (List ℕ) → Option Line
redraw_line (count ∷ []) = reads count_in count (λ n. Some (lines.Command (commands.Redraw n)))
redraw_line _ = None

-- plot NAME PATH, or write NAME PATH
abbrev pub put_line : Bool → List (List ℕ) → Option Line
put_line plots (name ∷ path ∷ []) =
    if is_name name && is_path path then Some (if plots then lines.Plot name path else lines.Write name path) else None
put_line plots _ = None

-- ---- edits

-- insert .. K ITEM
abbrev pub insert_change : List (List ℕ) → Option Change
insert_change (k ∷ form ∷ words) =
    reads count_in k (λ k. option_map (λ item. changes.Insert k item) (item_in form words))
insert_change _ = None

-- delete .. K
abbrev pub delete_change : List (List ℕ) → Option Change
delete_change (k ∷ []) = reads count_in k (λ k. Some (changes.Delete k))
delete_change _ = None

-- move .. K DX DY
abbrev pub move_change : List (List ℕ) → Option Change
move_change (k ∷ dx ∷ dy ∷ []) =
    reads count_in k (λ k. reads length_in dx (λ dx. reads length_in dy (λ dy. Some (changes.Move k dx dy))))
move_change _ = None

-- diameter .. T D
abbrev pub diameter_change : List (List ℕ) → Option Change
diameter_change (tool ∷ diameter ∷ []) =
    reads tool_in tool (λ t. reads length_in diameter (λ d. Some (changes.Diameter t (record { 0 = d }))))
diameter_change _ = None

-- reorder .. K M, aperture .. K N, polarity .. K dark, polarity .. K clear, or tool .. K T
abbrev pub item_change : List ℕ → List (List ℕ) → Option Change
item_change verb (k ∷ word ∷ []) = reads count_in k (λ k.
    if bytes_eq verb (codes "reorder") then reads count_in word (λ m. Some (changes.Reorder k m))
    else if bytes_eq verb (codes "aperture") then reads count_in word (λ n. Some (changes.Aperture k n))
    else if bytes_eq verb (codes "polarity") then reads polarity_read word (λ dark. Some (changes.Polarity k dark))
    else if bytes_eq verb (codes "tool") then reads tool_in word (λ t. Some (changes.Tool k t))
    else None)
item_change verb _ = None

-- a change that holds no item and no text
abbrev pub plain_change : List ℕ → List (List ℕ) → Option Change
plain_change verb words =
    if bytes_eq verb (codes "delete") then delete_change words
    else if bytes_eq verb (codes "move") then move_change words
    else if bytes_eq verb (codes "diameter") then diameter_change words
    else item_change verb words

-- setattr .. KEY, or setattr .. KEY FIELDS: fields are kept with a comma before them
abbrev pub set_change : List (List ℕ) → Option Change
set_change (key ∷ []) = if is_key key then Some (changes.SetAttribute key []) else None
set_change (key ∷ fields ∷ []) =
    if is_key key && is_field_text fields then Some (changes.SetAttribute key (comma ∷ fields)) else None
set_change _ = None

-- dropattr .. KEY
abbrev pub drop_change : List (List ℕ) → Option Change
drop_change (key ∷ []) = if is_key key then Some (changes.DropAttribute key) else None
drop_change _ = None

-- the change that the first word names, if it names one
abbrev pub change_in : List ℕ → List (List ℕ) → Option Change
change_in verb words =
    if bytes_eq verb (codes "insert") then insert_change words
    else if bytes_eq verb (codes "setattr") then set_change words
    else if bytes_eq verb (codes "dropattr") then drop_change words
    else plain_change verb words

-- the name of the layer stands before the change
abbrev pub edit_line : List ℕ → List (List ℕ) → Option Line
edit_line verb [] = None
edit_line verb (name ∷ words) =
    if is_name name
    then option_map (λ change. lines.Command (changing name change)) (change_in verb words)
    else None

-- ---- lines

-- list, or list NAME
abbrev pub list_line : List (List ℕ) → Option Line
list_line [] = Some (lines.Command commands.ListAll)
list_line (name ∷ []) = if is_name name then Some (lines.Command (commands.ListLayer name)) else None
list_line _ = None

-- the form that the first word names: an edit's, where it names no other
abbrev pub line_in : List ℕ → List (List ℕ) → Option Line
line_in verb rest =
    if bytes_eq verb (codes "load") then load_line rest
    else if bytes_eq verb (codes "window") then window_line rest
    else if bytes_eq verb (codes "redraw") then redraw_line rest
    else if bytes_eq verb (codes "plot") then put_line true rest
    else if bytes_eq verb (codes "write") then put_line false rest
    else if bytes_eq verb (codes "list") then list_line rest
    else if bytes_eq verb (codes "begin") then alone (lines.Command commands.Begin) rest
    else if bytes_eq verb (codes "end") then alone (lines.Command commands.End) rest
    else if bytes_eq verb (codes "abort") then alone (lines.Command commands.Abort) rest
    else if bytes_eq verb (codes "undo") then alone (lines.Command commands.Undo) rest
    else if bytes_eq verb (codes "redo") then alone (lines.Command commands.Redo) rest
    else edit_line verb rest

abbrev pub Parsed : Type 0
Parsed = Result (Option Line) LineFault

-- a line that holds a name takes memory for it
abbrev pub names_a_layer : Line → Bool
names_a_layer (lines.Command (commands.SetWindow x y pitch width height)) = false
names_a_layer (lines.Command (commands.Redraw n)) = false
names_a_layer (lines.Command commands.Begin) = false
names_a_layer (lines.Command commands.End) = false
names_a_layer (lines.Command commands.Abort) = false
names_a_layer (lines.Command commands.Undo) = false
names_a_layer (lines.Command commands.Redo) = false
names_a_layer (lines.Command commands.ListAll) = false
names_a_layer _ = true

-- the line that was read; where it is one, its memory may be refused
abbrev pub line_or_refusal : Option Line → Bool → Result Line LineFault
line_or_refusal None no_memory = Err BadLine
line_or_refusal (Some line) no_memory = if no_memory && names_a_layer line then Err Memory else Ok line

abbrev pub some_line : Result Line LineFault → Parsed
some_line (Ok line) = Ok (Some line)
some_line (Err fault) = Err fault

-- a line without a word is empty, and one whose first word begins with '#' is a comment
abbrev pub line_said_by : List (List ℕ) → Bool → Parsed
line_said_by [] no_memory = Ok None
line_said_by (verb ∷ rest) no_memory =
    if slice_index verb 0 == 35 then Ok None else some_line (line_or_refusal (line_in verb rest) no_memory)

-- what a line says, or why it says nothing
abbrev pub parsed : List ℕ → Bool → Parsed
parsed line no_memory = if nat_lt line_limit (length line) then Err LineTooLong else line_said_by (words line) no_memory

-- whether the answer tells that memory was refused
abbrev pub is_no_memory : {T : Type 0} → Result T LineFault → Bool
is_no_memory (Ok x) = false
is_no_memory (Err LineTooLong) = false
is_no_memory (Err BadLine) = false
is_no_memory (Err Memory) = true
