-- What the running record keeps of the past.
use Rattle.std.specs.Prelude.{◌≡◌, ◌≤◌, ℕ, ℤ, pos, ◌+ℤ◌, ◌+◌, true, false, Bool, List, [], ◌∷◌, ◌++◌, map, min, Option}
use Rattle.std.specs.Prelude.{Some, None, unwrap_or, Result, Ok, Err}
use Rattle.std.specs.Option.{option_map}
use Rattle.std.specs.Result.{result_err}
use Rattle.cam_refusals.specs.declared.refusal.Refusal.{Refusal}
use Rattle.cam_refusals.specs.declared.refusal.Refusal.TheVariants.{TooMuch}
use Rattle.cam_refusals.specs.declared.read_fault.ReadFault.{ReadFault}
use Rattle.cam_refusals.specs.declared.stop.Stop.{Stop}
use Rattle.cam_refusals.specs.declared.stop.Stop.TheVariants.{Memory, Fault}
use Rattle.cam_refusals.specs.Checks.{Checks, first_holding, least}
use Rattle.cam_refusals.specs.Limits.{leaf_limit}
use Rattle.cam_refusals.specs.Refusals.{number_of}
use Rattle.cam_units.specs.declared.length.Unit.{Unit as FileUnit}
use Rattle.cam_units.specs.declared.point.Point.{Point}
use Rattle.cam_commands.specs.declared.parts.Format.{Format}
use Rattle.cam_commands.specs.declared.parts.Slot.{Slot}
use Rattle.cam_commands.specs.declared.parts.Mode.{Mode}
use Rattle.cam_commands.specs.declared.parts.Operation.{Operation}
use Rattle.cam_commands.specs.declared.parts.OperationCode.{OperationCode}
use Rattle.cam_shapes.specs.declared.segments.Seg.{Seg}
use Rattle.cam_shapes.specs.declared.segments.Seg.TheVariants.{Line, Curve}
use Rattle.cam_objects.specs.Turning.{after}
use Rattle.cam_objects.specs.declared.object.Object.{Object}
use Rattle.cam_objects.specs.declared.entry.Entry.{Entry}
use Rattle.cam_objects.specs.Contents.{Content}
use Rattle.cam_objects.specs.Weights.{object_count, object_depth, weight_in}
use Rattle.cam_gerber.specs.declared.homes.Weight.{Weight}
use Rattle.cam_objects.specs.declared.object.Object.TheVariants.{Draw, Arc}
use Rattle.cam_commands.specs.Commands.{Command, Operate, SetFormat}
use Rattle.cam_gerber.specs.declared.modal.Modal.{Modal}
use Rattle.cam_gerber.specs.declared.region.Region.{Region}
use Rattle.cam_gerber.specs.declared.frames.Frames.{Frames}
use Rattle.cam_gerber.specs.declared.frames.OpenBlock.{OpenBlock}
use Rattle.cam_gerber.specs.declared.frames.OpenRepeat.{OpenRepeat}
use Rattle.cam_gerber.specs.declared.built.Built.{Built}
use Rattle.cam_gerber.specs.declared.running.Running.{Running}
use Rattle.cam_gerber.specs.Statements.{Statement, Says, IsSaidBy}
use Rattle.cam_gerber.specs.State.{Past, format_in, unit_in, dark_in, mirror_in, rotation_in, aperture_in, mode_in}
use Rattle.cam_gerber.specs.State.{has_arcs, in_region, code_in, point_in, slot_value, coordinate_nm, code_of}
use Rattle.cam_gerber.specs.Attributes.{attributes_in}
use Rattle.cam_gerber.specs.Homes.{home, InBlock, InRepeat, Opened, open_blocks, open_repeat}
use Rattle.cam_gerber.specs.Making.{start_in, segments_in, region_ended, made, home_objects, IsMaker}
use Rattle.cam_gerber.specs.Layers.{macros_in, entries_in, items_in, closed_repeat, closed_leaves, home_leaves, leaves_in}
use Rattle.cam_gerber.specs.Faults.{command_faults, faults, closing_faults, operated_faults, path_faults, is_arc}
use Rattle.cam_gerber.specs.Faults.{is_full, holds_of_one}
use Rattle.cam_objects.specs.Soundness.{is_on_board}
use Rattle.cam_gerber.specs.Reading.{IsReading, Means}
use Rattle.cam_gerber.specs.Laws.{IsFaultless}
use Rattle.cam_gerber.specs.Machinery.OpenNumbers.{AreWithin}

-- the values in force
pub record TracksModal (past : Past) (m : Modal) : Type 0 where
  pub format : m.format ≡ format_in past
  pub unit : m.unit ≡ unit_in past
  pub dark : m.dark ≡ dark_in past
  pub mirror : m.mirror ≡ mirror_in past
  pub rotation : m.rotation ≡ rotation_in past
  pub aperture : m.aperture ≡ aperture_in past
  pub mode : m.mode ≡ mode_in past
  pub arcs : m.arcs ≡ has_arcs past
  pub code : m.code ≡ code_in past
  pub point : m.point ≡ point_in past

-- the contour so far
pub record TracksRegion (past : Past) (r : Region) : Type 0 where
  pub inside : r.inside ≡ in_region past
  pub start : r.start ≡ start_in past
  pub segs : r.segs.items ≡ segments_in past

abbrev pub block_of : Past → ℕ → OpenBlock
block_of past n = record { number = n; objects = home_objects (InBlock n) past; leaves = home_leaves (InBlock n) past }

-- the leaves of an open repeat are counted up to this
abbrev pub leaf_cap : ℕ
leaf_cap = leaf_limit + 1

abbrev pub repeat_of : Past → Opened → OpenRepeat
repeat_of past o =
    record {
      columns = o.columns;
      rows = o.rows;
      i = o.i;
      j = o.j;
      objects = home_objects
          (InRepeat o.before) past;
      leaves = min leaf_cap (home_leaves (InRepeat o.before) past);
    }

-- each open block has the objects of its number, and the open repeat those that were made behind its opening
pub record TracksFrames (past : Past) (f : Frames) : Type 0 where
  pub blocks : f.blocks.items ≡ map (block_of past) (open_blocks past)
  pub repeat : f.repeat ≡ option_map (repeat_of past) (open_repeat past)

-- the layer so far
pub record TracksBuilt (past : Past) (b : Built) : Type 0 where
  pub entries : b.layer.apertures ≡ entries_in past
  pub items : b.layer.items.items ≡ items_in past
  pub macros : b.macros ≡ macros_in past
  pub leaves : b.leaves ≡ leaves_in past

pub record Tracks (past : Past) (r : Running) : Type 0 where
  pub modal : TracksModal past r.modal
  pub region : TracksRegion past r.region
  pub frames : TracksFrames past r.frames
  pub built : TracksBuilt past r.built
  pub attributes : r.attributes ≡ attributes_in past

-- the layer that is handed out
abbrev pub content_in : Running → Content
content_in r =
    record { attributes = r.attributes; entries = r.built.layer.apertures; items = r.built.layer.items.items }

-- the coordinate that an operation leaves
abbrev pub moved : Option Format → Option FileUnit → Slot ℤ → ℤ → ℤ
moved format unit slot old = unwrap_or (option_map (coordinate_nm format unit) (slot_value slot)) old

-- the point that it leaves
abbrev pub moved_point : Modal → Operation → Point
moved_point m operation =
    record { x = moved m.format m.unit operation.x m.point.x; y = moved m.format m.unit operation.y m.point.y }

-- the centre of its arc
abbrev pub centre_by : Modal → Operation → Point
centre_by m operation =
    record {
      x = m.point.x +ℤ moved m.format m.unit operation.i
          (pos 0);
      y = m.point.y +ℤ moved m.format m.unit operation.j (pos 0);
    }

-- its mode
abbrev pub mode_by : Modal → Operation → Mode
mode_by m operation = unwrap_or operation.mode m.mode

-- an operation went to a point
pub record IsOperated (m : Modal) (operation : Operation) (to : Point) (n : Modal) : Type 0 where
  pub format : n.format ≡ m.format
  pub unit : n.unit ≡ m.unit
  pub dark : n.dark ≡ m.dark
  pub mirror : n.mirror ≡ m.mirror
  pub rotation : n.rotation ≡ m.rotation
  pub aperture : n.aperture ≡ m.aperture
  pub mode : n.mode ≡ mode_by m operation
  pub arcs : n.arcs ≡ m.arcs
  pub code : n.code ≡ Some (code_of operation)
  pub point : n.point ≡ to

-- a point that was judged
abbrev pub IsJudged : Option Point → Point → Type 0
IsJudged None p = is_on_board p ≡ false
IsJudged (Some q) p = (q ≡ p) × (is_on_board p ≡ true)

-- what a plot's path may be refused for
abbrev pub path_faults_by : Modal → Operation → Checks Refusal
path_faults_by m operation =
    path_faults (is_arc (mode_by m operation)) m.arcs m.point (moved_point m operation) (centre_by m operation)

-- the stroke along a segment from the current point
abbrev pub stroke_along : Modal → ℕ → Seg → Object
stroke_along m n (Line to) = Draw n m.point to (after m.mirror m.rotation) m.dark
stroke_along m n (Curve to centre ccw) = Arc ccw m.dark n m.point to centre

-- an answer, or the first of the checks that hold
abbrev pub StopsAtFirst : {A : Type 0} → Result A Refusal → Checks Refusal → Type 0
StopsAtFirst result checks = first_holding checks ≡ result_err result

-- none of the checks holds and what then does, or the first one is told
abbrev pub Answers : Result (Unit {0}) Stop → Checks Refusal → Type 0 → Type 0
Answers (Ok done) checks P = (first_holding checks ≡ None) × P
Answers (Err Memory) checks P = Unit {0}
Answers (Err (Fault refusal)) checks P = first_holding checks ≡ Some refusal

-- one more command, refused for the first of its faults or obeyed
abbrev pub Takes : Command → Running → Result (Unit {0}) Stop → Running → Type 0
Takes command old result new =
    (past : Past) → IsFaultless past → Tracks past old
    → Answers result (command_faults past command) (Tracks (Says command ∷ past) new)

-- an operation of this code, in a region or not, behind what any operation may be refused for
abbrev pub Operates : OperationCode → Bool → Operation → Running → Result (Unit {0}) Stop → Running → Type 0
Operates code region operation old result new =
    (past : Past) → IsFaultless past → Tracks past old → in_region past ≡ region → code_of operation ≡ code
    → Answers result (operated_faults code region past operation) (Tracks (Says (Operate operation) ∷ past) new)

-- what is open and built behind a past
pub record TracksPlaces (past : Past) (r : Running) : Type 0 where
  pub frames : TracksFrames past r.frames
  pub built : TracksBuilt past r.built

-- what an object weighs beside a dictionary
pub record Weighs (weight : Weight) (entries : List (ℕ × Entry)) (object : Object) : Type 0 where
  pub leaves : weight.leaves ≡ object_count (weight_in entries) object
  pub depth : weight.depth ≡ object_depth (weight_in entries) object

-- a past without a fault
abbrev pub HasPast : Running → Type 0
HasPast r = (past : Past) × IsFaultless past × Tracks past r × AreWithin past

-- an object that a statement makes joins its home, and nothing else changes
pub record Keeps (object : Object) (leaves : ℕ) (old new : Running) : Type 0 where
  pub modal : new.modal ≡ old.modal
  pub region : new.region ≡ old.region
  pub attributes : new.attributes ≡ old.attributes
  pub alloc : new.alloc ≡ old.alloc
  pub places : (past : Past) (says : Statement) → IsFaultless past → TracksPlaces past old → IsMaker says
      → made past says ≡ object ∷ [] → leaves ≡ object_count (weight_in (entries_in past)) object
      → is_full (home past) past object ≡ false → TracksPlaces (says ∷ past) new

-- a contour has ended: its region has joined its home
pub record Ended (past : Past) (old new : Running) : Type 0 where
  pub modal : new.modal ≡ old.modal
  pub inside : new.region.inside ≡ old.region.inside
  pub start : new.region.start ≡ old.region.start
  pub segs : new.region.segs.items ≡ []
  pub attributes : new.attributes ≡ old.attributes
  pub alloc : new.alloc ≡ old.alloc
  pub places : TracksPlaces past new

-- one more contour ends
abbrev pub EndsContour : Running → Result (Unit {0}) Stop → Running → Type 0
EndsContour old result new =
    (past : Past) (says : Statement) → IsFaultless past → Tracks past old → IsMaker says
    → made past says ≡ region_ended past
    → Answers result ((TooMuch, holds_of_one (is_full (home past) past) (region_ended past)) ∷ []) (Ended (says
    ∷ past) old new)

-- one more command, as what it says is read
abbrev pub Obeys : Command → Running → Result (Unit {0}) Stop → Running → Type 0
Obeys command old (Ok done) new =
    (past : Past) → IsFaultless past → Tracks past old
    → (says : Statement) × IsSaidBy command says × (least number_of (faults past says) ≡ None) × Tracks (says ∷ past) new
Obeys command old (Err Memory) new = Unit {0}
Obeys command old (Err (Fault refusal)) new =
    (past : Past) → IsFaultless past → Tracks past old → (says : Statement) × IsSaidBy command says
    × (least number_of (faults past says) ≡ Some refusal)

-- the commands of a file were obeyed up to its first M02, or what is told is its first fault, but where memory was refused
abbrev pub Reads : List ℕ → Result (Unit {0}) ReadFault → Running → Type 0
Reads bytes (Ok done) new = Means bytes (Ok (content_in new))
Reads bytes (Err fault) new = IsReading bytes (Err fault)

-- the repeat is closed
pub record IsSettled (past : Past) (old new : Running) : Type 0 where
  pub modal : new.modal ≡ old.modal
  pub region : new.region ≡ old.region
  pub attributes : new.attributes ≡ old.attributes
  pub alloc : new.alloc ≡ old.alloc
  pub blocks : new.frames.blocks ≡ old.frames.blocks
  pub repeat : new.frames.repeat ≡ None
  pub macros : new.built.macros ≡ old.built.macros
  pub entries : new.built.layer.apertures ≡ old.built.layer.apertures
  pub items : new.built.layer.items.items ≡ items_in past ++ closed_repeat past
  pub leaves : new.built.leaves ≡ leaves_in past + closed_leaves past

-- the close of a repeat: for the first of its faults refused, or its item has joined the others
abbrev pub Settles : Running → Result (Unit {0}) Stop → Running → Type 0
Settles old result new =
    (past : Past) → IsFaultless past → Tracks past old
    → Answers result (closing_faults past true) (IsSettled past old new)

-- a format has at most six decimals
abbrev pub HasFewDecimals : Command → Type 0
HasFewDecimals (SetFormat format) = format.decimals ≤ 6
HasFewDecimals _ = Unit {0}
