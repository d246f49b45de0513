-- The words that name an item in a line, as a line that inserts it has them; none for a repeat, which no line names.
use Rattle.std.specs.Prelude.{◌≡◌, ℕ, ◌<◌, ◌≤◌, ◌^◌, Bool, true, false, List, [], ◌∷◌, ◌++◌, length, codes, decimal}
use Rattle.std.specs.Prelude.{Option, Some, None, Err, Ok, All, IsTrue, if◌then◌else◌}
use Rattle.std.specs.Fmt.{signed_decimal}
use Rattle.std.specs.List.{IsAmong, flat_map}
use Rattle.cam_units.specs.declared.point.Point.{Point}
use Rattle.cam_units.specs.declared.turn.Turn.{Turn}
use Rattle.cam_units.specs.declared.turn.Turn.TheVariants.{R0, R90, R180, R270, M0, M90, M180, M270}
use Rattle.cam_shapes.specs.declared.segments.Seg.{Seg}
use Rattle.cam_shapes.specs.declared.segments.Seg.TheVariants.{Line, Curve}
use Rattle.cam_units.specs.Board.{IsOnBoard}
use Rattle.cam_objects.specs.DrillSoundness.{IsSoundDrillLayer, drill_points_of, tool_of}
use Rattle.cam_objects.specs.Soundness.{IsSound, is_formed, points_of}
use Rattle.cam_objects.specs.declared.drill_item.DrillItem.{DrillItem}
use Rattle.cam_objects.specs.declared.drill_item.DrillItem.TheVariants.{Hit, Rout}
use Rattle.cam_objects.specs.declared.drill_layer.DrillLayer.{DrillLayer}
use Rattle.cam_objects.specs.declared.layer.Layer.{Layer}
use Rattle.cam_objects.specs.declared.item.Item.TheVariants.{One, Repeat}
use Rattle.cam_objects.specs.declared.object.Object.{Object}
use Rattle.cam_objects.specs.declared.object.Object.TheVariants.{Flash, Draw, Arc, Region}
use Rattle.cam_refusals.specs.Limits.{line_limit}
use Rattle.cam_edits.specs.declared.edit.NewItem.{NewItem}
use Rattle.cam_edits.specs.declared.edit.NewItem.TheVariants as new_items
use Rattle.cam_script.specs.declared.command.Command.TheVariants as commands
use Rattle.cam_script.specs.declared.line.Line.{Line as ScriptLine}
use Rattle.cam_script.specs.declared.line.Line.TheVariants as lines
use Rattle.cam_script.specs.declared.line.LineFault.TheVariants.{Memory}
use Rattle.cam_script.specs.Parsing.{parsed}
use Rattle.cam_script.specs.Words.{is_name}

-- X Y
abbrev pub point_words : Point → List (List ℕ)
point_words p = signed_decimal p.x ∷ signed_decimal p.y ∷ []

-- TURN
abbrev pub turn_word : Turn → List ℕ
turn_word R0 = codes "r0"
turn_word R90 = codes "r90"
turn_word R180 = codes "r180"
turn_word R270 = codes "r270"
turn_word M0 = codes "m0"
turn_word M90 = codes "m90"
turn_word M180 = codes "m180"
turn_word M270 = codes "m270"

-- POL
abbrev pub polarity_word : Bool → List ℕ
polarity_word true = codes "dark"
polarity_word false = codes "clear"

-- DIR
abbrev pub direction_word : Bool → List ℕ
direction_word true = codes "ccw"
direction_word false = codes "cw"

-- l X Y, or cw X Y CX CY, or ccw X Y CX CY
abbrev pub seg_words : Seg → List (List ℕ)
seg_words (Line to) = codes "l" ∷ point_words to
seg_words (Curve to centre ccw) = direction_word ccw ∷ (point_words to ++ point_words centre)

-- the form of an object, and the words behind it
abbrev pub object_form : Object → List ℕ
object_form (Flash n at turn dark) = codes "flash"
object_form (Draw n from to turn dark) = codes "draw"
object_form (Arc ccw dark n from to centre) = codes "arc"
object_form (Region contour dark) = codes "region"

abbrev pub object_words : Object → List (List ℕ)
object_words (Flash n at turn dark) =
    decimal n ∷ (point_words at ++ (turn_word turn ∷ polarity_word dark ∷ []))
object_words (Draw n from to turn dark) =
    decimal n ∷ (point_words from ++ (point_words to ++ (turn_word turn ∷ polarity_word dark ∷ [])))
object_words (Arc ccw dark n from to centre) =
    decimal n ∷ (point_words from ++ (point_words to ++ (point_words centre
    ++ (direction_word ccw ∷ polarity_word dark ∷ []))))
object_words (Region contour dark) =
    polarity_word dark ∷ (point_words contour.start ++ flat_map seg_words contour.segs)

-- the form of a drill item, and the words behind it
abbrev pub drill_form : DrillItem → List ℕ
drill_form (Hit tool at) = codes "hit"
drill_form (Rout tool points) = codes "rout"

abbrev pub drill_words : DrillItem → List (List ℕ)
drill_words (Hit tool at) = decimal tool ∷ point_words at
drill_words (Rout tool points) = decimal tool ∷ flat_map point_words points

-- words behind others: a space before each
abbrev pub spaced : List (List ℕ) → List ℕ
spaced words = flat_map (λ word. 32 ∷ word) words

-- what stands in a line for an object, and for a drill item
abbrev pub object_text : Object → List ℕ
object_text object = object_form object ++ spaced (object_words object)

abbrev pub drill_item_text : DrillItem → List ℕ
drill_item_text item = drill_form item ++ spaced (drill_words item)

-- what stands in a line for an item; nothing for a repeat
abbrev pub item_words : NewItem → Option (List ℕ)
item_words (new_items.Gerber (One object)) = Some (object_text object)
item_words (new_items.Gerber (Repeat columns rows i j objects)) = None
item_words (new_items.Drill item) = Some (drill_item_text item)

-- ---- the law

-- what a line can say of an object: an aperture's number below 2^32, points of the board, and of a contour a segment
abbrev pub aperture_number : Object → ℕ
aperture_number (Flash n at turn dark) = n
aperture_number (Draw n from to turn dark) = n
aperture_number (Arc ccw dark n from to centre) = n
aperture_number (Region contour dark) = 0

pub record IsSayable (object : Object) : Type 0 where
  pub number : aperture_number object < 2 ^ 32
  pub points : All IsOnBoard (points_of object)
  pub formed : IsTrue (is_formed object)

-- of a drill item: a tool's number below 65,536, and a point of the board or more
pub record IsSayableDrilling (item : DrillItem) : Type 0 where
  pub tool : tool_of item < 65536
  pub points : All IsOnBoard (drill_points_of item)
  pub formed : 0 < length (drill_points_of item)

abbrev pub CanBeSaid : NewItem → Type 0
CanBeSaid (new_items.Gerber (One object)) = IsSayable object
CanBeSaid (new_items.Gerber (Repeat columns rows i j objects)) = ⊥
CanBeSaid (new_items.Drill item) = IsSayableDrilling item

-- insert NAME K and the words of an item
abbrev pub insertion_text : List ℕ → ℕ → List ℕ → List ℕ
insertion_text name k words = codes "insert" ++ 32 ∷ (name ++ 32 ∷ (decimal k ++ 32 ∷ words))

-- the insertion of an item at a place of the layer of a name
abbrev pub insertion : List ℕ → ℕ → NewItem → ScriptLine
insertion name k item = lines.Command (commands.Insert name k item)

-- What is read of the words of an item, behind `insert NAME K`, is the insertion of exactly this item; no memory aside.
abbrev pub WordsReadBack : Type 0
WordsReadBack =
    (name : List ℕ) (k : ℕ) (item : NewItem) (words : List ℕ) (no_memory : Bool) → is_name name ≡ true → k < 2 ^ 32
    → CanBeSaid item → item_words item ≡ Some words → length (insertion_text name k words) ≤ line_limit
    → parsed (insertion_text name k words) no_memory
    ≡ (if no_memory then Err Memory else Ok (Some (insertion name k item)))

-- Every item of a sound layer that is no repeat can be said, and every item of a sound drill layer.
pub record SoundItemsCanBeSaid : Type 0 where
  pub objects : (l : Layer) (object : Object) → IsSound l → IsAmong l.items.items (One object)
      → CanBeSaid (new_items.Gerber (One object))
  pub drill_items : (l : DrillLayer) (item : DrillItem) → IsSoundDrillLayer l → IsAmong l.items.items item
      → CanBeSaid (new_items.Drill item)
