-- The lines of answers. A line is words with a space between two.
use Rattle.std.specs.Prelude.{ℕ, ◌==◌, ◌/◌, ◌%◌, ℤ, if◌then◌else◌, List, [], ◌∷◌, ◌++◌, length, codes, decimal, Option, None, Some}
use Rattle.std.specs.Prelude.{unsigned_abs, int_lt, pos, take, drop, slice_get, option_to_list}
use Rattle.std.specs.List.{flat_map}
use Rattle.std.specs.Fmt.{signed_decimal}
use Rattle.cam_units.specs.Boxes.{has_no_place}
use Rattle.cam_units.specs.declared.bounds.Bounds.{Bounds}
use Rattle.cam_units.specs.declared.bounds.Bounds.TheVariants.{Empty, Closed}
use Rattle.cam_units.specs.declared.length.Nm.{Nm}
use Rattle.cam_units.specs.declared.point.Spot.{Spot}
use Rattle.cam_objects.specs.declared.attribute.Attribute.{Attribute}
use Rattle.cam_objects.specs.declared.drill_item.DrillItem.{DrillItem}
use Rattle.cam_objects.specs.declared.entry.Entry.{Entry}
use Rattle.cam_objects.specs.declared.entry.Entry.TheVariants.{Aperture, Block}
use Rattle.cam_objects.specs.declared.item.Item.{Item}
use Rattle.cam_objects.specs.declared.item.Item.TheVariants.{One, Repeat}
use Rattle.cam_objects.specs.declared.object.Object.{Object}
use Rattle.cam_edits.specs.Sheets.{Content, Drill, Gerber, entry_count, item_count}
use Rattle.cam_undo.specs.declared.history.Counts.{Counts}
use Rattle.cam_script.specs.Spelling.{drill_item_text, object_text, spaced}
use Rattle.cam_writers.specs.DrillTexts.{declaration}
use Rattle.cam_writers.specs.GerberTexts.{text_of, with_entry}

-- a line of a first word and of others
abbrev pub text_line : List ℕ → List (List ℕ) → List ℕ
text_line word more = word ++ (spaced more ++ codes "\n")

-- a layer: its name, its kind, how many items it has, and how many apertures and blocks, or tools
abbrev pub kind_word : Content → List ℕ
kind_word (Gerber c) = codes "gerber"
kind_word (Drill c) = codes "drill"

abbrev pub layer_line : List ℕ → Content → List ℕ
layer_line name content =
    text_line name (kind_word content ∷ decimal (item_count content) ∷ decimal (entry_count content) ∷ [])

-- a place of a list
abbrev pub place_line : ℕ → List ℕ
place_line k = text_line (decimal k) []

-- a coordinate of so many half nm, in nm: `.5` stands behind what is between two of them
abbrev pub half_of : ℕ → List ℕ
half_of halves = decimal (halves / 2) ++ (if halves % 2 == 0 then [] else codes ".5")

unfoldable pub coordinate_text : ℤ → List ℕ
coordinate_text z = (if int_lt z (pos 0) then codes "-" else []) ++ half_of (unsigned_abs z)

abbrev pub corner_text : Spot → List ℕ
corner_text corner = coordinate_text corner.x ++ (codes " " ++ coordinate_text corner.y)

-- a box: its low corner and its high corner; no line where no place lies in it
abbrev pub box_line : Bounds → List ℕ
box_line Empty = []
box_line (Closed low high) =
    if has_no_place (Closed low high) then []
    else corner_text low ++ (codes " " ++ (corner_text high ++ codes "\n"))

-- objects of a block or of a repeat, behind two spaces each
abbrev pub part_line : Object → List ℕ
part_line object = codes "  " ++ (object_text object ++ codes "\n")

abbrev pub part_lines : List Object → List ℕ
part_lines objects = flat_map part_line objects

-- how many objects there are, and these
abbrev pub repeated_text : List Object → List ℕ
repeated_text objects = spaced (decimal (length objects) ∷ []) ++ (codes "\n" ++ part_lines objects)

-- an item: the words of a line that inserts it; of a repeat its columns, its rows, its steps and how many objects it
-- has, and these below it
abbrev pub item_lines : Item → List ℕ
item_lines (One object) = object_text object ++ codes "\n"
item_lines (Repeat columns rows i j objects) =
    codes "repeat" ++ (spaced (decimal columns ∷ decimal rows ∷ [])
    ++ (spaced (signed_decimal i ∷ signed_decimal j ∷ []) ++ repeated_text objects))

abbrev pub drill_item_lines : DrillItem → List ℕ
drill_item_lines item = drill_item_text item ++ codes "\n"

-- an aperture or a tool: its number, and below it its definition in the lines of canonical texts; a block: its number
-- and how many objects it has, and these below it
abbrev pub entry_lines : ℕ → Entry → List ℕ
entry_lines n (Aperture aperture) =
    text_line (codes "aperture") (decimal n ∷ []) ++ text_of (with_entry [] (n, Aperture aperture))
entry_lines n (Block objects) =
    text_line (codes "block") (decimal n ∷ decimal (length objects) ∷ []) ++ part_lines objects

abbrev pub tool_lines : ℕ → Nm → List ℕ
tool_lines tool diameter =
    text_line (codes "tool") (decimal tool ∷ []) ++ (declaration (tool, diameter) ++ codes "\n")

-- a file attribute: its name and its fields, each behind a comma
abbrev pub attribute_line : Attribute → List ℕ
attribute_line attribute = attribute.name ++ (attribute.fields ++ codes "\n")

-- how many edits and groups can be taken back, how many can be made again, and how many edits the open group has, where
-- one is open
abbrev pub group_words : Option ℕ → List (List ℕ)
group_words None = []
group_words (Some edits) = decimal edits ∷ []

abbrev pub history_line : Counts → List ℕ
history_line counts = text_line (decimal counts.past) (decimal counts.future ∷ group_words counts.group)

-- ---- of what a layer lists

-- the items from a place on, so many at most
abbrev pub items_text : Content → ℕ → ℕ → List ℕ
items_text (Gerber c) from count = flat_map item_lines (take count (drop from c.items))
items_text (Drill c) from count = flat_map drill_item_lines (take count (drop from c.items))

-- the aperture, the block or the tool at a place of the order; nothing where there is none
abbrev pub numbered_lines : ℕ × Entry → List ℕ
numbered_lines e = entry_lines e.0 e.1

abbrev pub sized_lines : ℕ × Nm → List ℕ
sized_lines t = tool_lines t.0 t.1

abbrev pub lines_at : {X : Type 0} → (X → List ℕ) → List X → ℕ → List ℕ
lines_at lines xs i = flat_map lines (option_to_list (slice_get xs i))

abbrev pub entry_text : Content → ℕ → List ℕ
entry_text (Gerber c) i = lines_at numbered_lines c.entries i
entry_text (Drill c) i = lines_at sized_lines c.tools i

-- all of them, in order
abbrev pub entries_text : Content → List ℕ
entries_text (Gerber c) = flat_map numbered_lines c.entries
entries_text (Drill c) = flat_map sized_lines c.tools

-- the file attributes; a drill layer has none
abbrev pub attributes_text : Content → List ℕ
attributes_text (Gerber c) = flat_map attribute_line c.attributes
attributes_text (Drill c) = []
