-- What a reading without a fault has in hand behind a past, and that it is sound.
use Rattle.std.proofs.Common.{◌≡◌, ℕ, ◌+◌, ◌*◌, ◌<◌, ◌≤◌, List, [], ◌∷◌, ◌++◌, length, map, leb, Bool, true, false}
use Rattle.std.proofs.Common.{cond, Option, Some, None, nat_eq, sym, subst, arith, append-nil}
use Rattle.std.specs.Prelude.{◌&&◌, not}
use Rattle.std.specs.Option.{option_map}
use Rattle.std.specs.List.{AllByRecursion}
use Rattle.std.specs.Map.{lookup}
use Rattle.std.proofs.lemmas.Bool.{leb-false, ltb-false, or_parts}
use Rattle.cam_units.specs.Board.{IsOnBoard}
use Rattle.cam_units.specs.declared.point.Point.{Point}
use Rattle.cam_shapes.specs.declared.segments.Seg.{Seg}
use Rattle.cam_objects.specs.declared.object.Object.{Object}
use Rattle.cam_objects.specs.declared.entry.Entry.{Entry}
use Rattle.cam_objects.specs.declared.item.Item.{Item}
use Rattle.cam_objects.specs.declared.item.Item.TheVariants.{One, Repeat}
use Rattle.cam_objects.specs.Leaves.{item_leaves, meaning_in}
use Rattle.cam_objects.specs.Soundness.{AreOnBoard, IsSoundDictionary, MayAddEntry}
use Rattle.cam_objects.proofs.SoundItems.{HasNumber}
use Rattle.cam_objects.specs.Weights.{block_count, weight_in}
use Rattle.cam_gerber.specs.State.{Past, aperture_in, point_in, in_region}
use Rattle.cam_gerber.specs.Homes.{Home, InBlock, InRepeat, InLayer, Opened, open_blocks, open_repeat, home, is_same_home}
use Rattle.cam_gerber.specs.Making.{home_objects, segments_in, start_in}
use Rattle.cam_gerber.specs.Layers.{entries_in, items_in, leaves_in, home_leaves, closed_by, copied_leaves, repeat_by}
use Rattle.cam_gerber.specs.Faults.{are_leaves_on_board, is_outside, is_layer_full, is_left_out, holds_of_one}
use Rattle.cam_gerber.specs.Machinery.OpenNumbers.{IsEntryNumber}
use Rattle.cam_objects.proofs.GrownDictionaries.{known_more}
use Rattle.cam_objects.proofs.KeptFacts.{sound_grows}
use Rattle.cam_gerber.proofs.SoundParts.{Pairs, IsSoundOpen, IsSoundRepeated, IsSoundBuilt, open_more, repeated_more, built_more}
use Rattle.cam_gerber.proofs.SoundContours.{IsContourTo}
use Rattle.cam_gerber.proofs.SoundDefinitions.{AreDefined}
use Rattle.cam_gerber.proofs.JoiningParts.{AreFit, IsClosable, IsOpening, joined_block, joined_layer, joined_repeat}
use Rattle.cam_gerber.proofs.JoiningParts.{leaves_on_board, same_home, settled, told}

-- an open block and the open repeat, with what they have
pub record OpenView : Type 0 where
  pub number : ℕ
  pub objects : List Object
  pub leaves : ℕ

pub record RepeatView : Type 0 where
  pub opened : Opened
  pub objects : List Object
  pub leaves : ℕ

pub record View : Type 0 where
  pub entries : Pairs
  pub items : List Item
  pub leaves : ℕ
  pub blocks : List OpenView
  pub repeat : Option RepeatView
  pub aperture : Option ℕ
  pub point : Point
  pub start : Point
  pub segs : List Seg
  pub region : Bool

abbrev pub block_at : Past → ℕ → OpenView
block_at past n = record { number = n; objects = home_objects (InBlock n) past; leaves = home_leaves (InBlock n) past }

abbrev pub repeat_at : Past → Opened → RepeatView
repeat_at past o = record { opened = o; objects = home_objects (InRepeat o.before) past; leaves = home_leaves (InRepeat o.before) past }

abbrev pub view : Past → View
view past = record {
  entries = entries_in past;
  items = items_in past;
  leaves = leaves_in past;
  blocks = map (block_at past) (open_blocks past);
  repeat = option_map (repeat_at past) (open_repeat past);
  aperture = aperture_in past;
  point = point_in past;
  start = start_in past;
  segs = segments_in past;
  region = in_region past;
}

abbrev pub IsBlockView : Pairs → OpenView → Type 0
IsBlockView es b = IsEntryNumber b.number × IsSoundOpen es b.objects b.leaves

abbrev pub IsRepeatView : Pairs → Option RepeatView → Type 0
IsRepeatView es None = Unit {0}
IsRepeatView es (Some r) = IsOpening r.opened × IsSoundRepeated es r.objects r.leaves

abbrev pub IsKnownNumber : Pairs → Option ℕ → Type 0
IsKnownNumber es None = Unit {0}
IsKnownNumber es (Some n) = HasNumber es n

pub record IsSoundView (v : View) : Type 0 where
  pub dictionary : IsSoundDictionary v.entries
  pub built : IsSoundBuilt v.entries v.items v.leaves
  pub blocks : AllByRecursion (IsBlockView v.entries) v.blocks
  pub repeat : IsRepeatView v.entries v.repeat
  pub aperture : IsKnownNumber v.entries v.aperture
  pub point : IsOnBoard v.point
  pub contour : IsContourTo v.region v.start v.segs v.point

-- ---- the dictionary grows

abbrev pub with_entries : View → Pairs → View
with_entries v more = record v { entries = v.entries ++ more }

blocks_more : (es : Pairs) (n : ℕ) (e : Entry) → lookup (nat_eq n) es ≡ None → (blocks : List OpenView)
    → AllByRecursion (IsBlockView es) blocks → AllByRecursion (IsBlockView (es ++ (n, e) ∷ [])) blocks
blocks_more es n e absent [] h = tt
blocks_more es n e absent (b ∷ blocks) h = ((h.0.0, open_more es n e absent b.objects b.leaves h.0.1), blocks_more es n e absent blocks h.1)

repeat_more : (es : Pairs) (n : ℕ) (e : Entry) → lookup (nat_eq n) es ≡ None → (r : Option RepeatView) → IsRepeatView es r
    → IsRepeatView (es ++ (n, e) ∷ []) r
repeat_more es n e absent None h = tt
repeat_more es n e absent (Some r) h = (h.0, repeated_more es n e absent r.objects r.leaves h.1)

number_more : (es more : Pairs) (a : Option ℕ) → IsKnownNumber es a → IsKnownNumber (es ++ more) a
number_more es more a h = grind (arith, known_more)

pub grown : (v : View) (n : ℕ) (e : Entry) → MayAddEntry v.entries n e → IsSoundView v → IsSoundView (with_entries v ((n, e) ∷ []))
grown v n e may s = record {
  dictionary = sound_grows v.entries n e s.dictionary may;
  built = built_more v.entries n e may.absent v.items v.leaves s.built;
  blocks = blocks_more v.entries n e may.absent v.blocks s.blocks;
  repeat = repeat_more v.entries n e may.absent v.repeat s.repeat;
  aperture = number_more v.entries ((n, e) ∷ []) v.aperture s.aperture;
  point = s.point;
  contour = s.contour;
}

pub defines : (v : View) (more : Pairs) → AreDefined more → AllByRecursion (λ e. lookup (nat_eq e.0) v.entries ≡ None) more
    → IsSoundView v → IsSoundView (with_entries v more)
defines v [] are absent s = subst (λ (es : Pairs). IsSoundView (record v { entries = es })) (sym (append-nil v.entries)) s
defines v (e ∷ []) are absent s =
    grown v e.0 e.1 (record { least = are.0.0; greatest = are.0.1; absent = absent.0; sound = are.1 v.entries }) s
defines v (e ∷ f ∷ more) are absent s = absurd are

-- ---- objects that are made

fit_at : (past : Past) (more : List Object) (k : Home) → AreFit past more (home past) → is_same_home (home past) k ≡ true
    → AreFit past more k
fit_at past more k fit same = subst (AreFit past more) (same_home (home past) k same) fit

pub made_layer : (past : Past) (more : List Object) → AreFit past more (home past)
    → IsSoundBuilt (entries_in past) (items_in past) (leaves_in past)
    → IsSoundBuilt (entries_in past) (items_in past ++ map One (cond (is_same_home (home past) InLayer) more []))
    (leaves_in past + block_count (weight_in (entries_in past)) (cond (is_same_home (home past) InLayer) more []))
made_layer past more fit s = joined_layer past more (is_same_home (home past) InLayer) (fit_at past more InLayer fit) s

abbrev pub block_with : Past → List Object → ℕ → OpenView
block_with past more n =
    let added = cond (is_same_home (home past) (InBlock n)) more [] in
    record {
      number = n;
      objects = home_objects (InBlock n) past ++ added;
      leaves =
          home_leaves (InBlock n) past + block_count (weight_in (entries_in past)) added;
    }

pub made_blocks : (past : Past) (more : List Object) → AreFit past more (home past) → (ns : List ℕ)
    → AllByRecursion (IsBlockView (entries_in past)) (map (block_at past) ns)
    → AllByRecursion (IsBlockView (entries_in past)) (map (block_with past more) ns)
made_blocks past more fit [] h = tt
made_blocks past more fit (n ∷ ns) h = (
  (h.0.0, joined_block past n more (is_same_home (home past) (InBlock n)) (fit_at past more (InBlock n) fit) h.0.1),
  made_blocks past more fit ns h.1,
)

abbrev pub repeat_with : Past → List Object → Opened → RepeatView
repeat_with past more o =
    let added = cond (is_same_home (home past) (InRepeat o.before)) more [] in
    record {
      opened = o;
      objects = home_objects (InRepeat o.before) past ++ added;
      leaves =
          home_leaves (InRepeat o.before) past + block_count (weight_in (entries_in past)) added;
    }

pub made_repeat : (past : Past) (more : List Object) → AreFit past more (home past) → (r : Option Opened)
    → IsRepeatView (entries_in past) (option_map (repeat_at past) r)
    → IsRepeatView (entries_in past) (option_map (repeat_with past more) r)
made_repeat past more fit r h = grind (arith, joined_repeat, fit_at)

-- ---- a repeat that is closed

under : (a b : Bool) → (not a && b) ≡ false → a ≡ false → b ≡ false
under a b h e = grind arith

pub inside : (past : Past) (item : Item) → is_outside past item ≡ false → AreOnBoard (item_leaves (meaning_in (entries_in past)) item)
unfolding is_outside
inside past item h =
    leaves_on_board (item_leaves (meaning_in (entries_in past)) item)
    (told (are_leaves_on_board (item_leaves (meaning_in (entries_in past)) item)) h)

closable : (past : Past) (o : Opened) (objects : List Object) → holds_of_one (is_outside past) (repeat_by o objects) ≡ false
    → is_left_out (repeat_by o objects) ≡ false → IsClosable (entries_in past) o objects
closable past o [] h some = absurd cc
closable past o (x ∷ xs) h some = inside past (Repeat o.columns o.rows o.i o.j (x ∷ xs)) h

pub settles : (past : Past) (r : Option Opened) → IsRepeatView (entries_in past) (option_map (repeat_at past) r)
    → holds_of_one (is_outside past) (closed_by past r) ≡ false
    → (not (is_left_out (closed_by past r)) && is_layer_full past (copied_leaves past r)) ≡ false
    → IsSoundBuilt (entries_in past) (items_in past) (leaves_in past)
    → IsSoundBuilt (entries_in past) (items_in past ++ closed_by past r) (leaves_in past + copied_leaves past r)
settles past None h out full s = grind (arith, IsSoundBuilt, append-nil)
settles past (Some o) h out full s =
    settled (entries_in past) (items_in past) (leaves_in past) o (home_objects (InRepeat o.before) past)
    (home_leaves (InRepeat o.before) past) h.0 h.1 s room
  where
    room : is_left_out (closed_by past (Some o)) ≡ false
        → IsClosable (entries_in past) o (home_objects (InRepeat o.before) past) × (length (items_in past) < 1000000)
        × (leaves_in past + o.columns * o.rows * home_leaves (InRepeat o.before) past ≤ 4000000)
    room some =
        let counts = or_parts (leb 1000000 (length (items_in past))) _
        (under (is_left_out (closed_by past (Some o))) (is_layer_full past (copied_leaves past (Some o))) full some) in (
          closable past o (home_objects (InRepeat o.before) past) out some,
          leb-false 1000000 (length (items_in past)) counts.0,
          ltb-false 4000000 (leaves_in past + o.columns * o.rows * home_leaves (InRepeat o.before) past) counts.1,
        )
