-- The items of a canonical text, one after another behind the entries; and the layer that the whole text leaves.
use Rattle.std.proofs.Common.{◌≡◌, ℕ, ◌+◌, ◌*◌, ◌<◌, ◌≤◌, List, [], ◌∷◌, ◌++◌, length, Bool, true, false}
use Rattle.std.proofs.Common.{Some, None, sum_by, refl, ap, ap₂, ◌∙◌, arith, append-nil}
use Rattle.std.specs.Prelude.{ℤ, ◌||◌, ◌&&◌, not, unsigned_abs, fold}
use Rattle.std.specs.List.{All}
use Rattle.std.proofs.lemmas.Bool.{le-ltb, lt-leb, lt-ltb}
use Rattle.std.proofs.lemmas.List.Sums.{sum_by_push}
use Rattle.cam_refusals.specs.declared.refusal.Refusal.TheVariants.{OutOfBoard, StrayBlock, TooMuch}
use Rattle.cam_refusals.specs.Checks.{least}
use Rattle.cam_refusals.specs.Refusals.{number_of}
use Rattle.cam_units.specs.Nearest.{fix9_of, unit_or_mm}
use Rattle.cam_objects.proofs.SoundItems.{IsWithinLimits, Meets, meets}
use Rattle.cam_objects.specs.declared.object.Object.{Object}
use Rattle.cam_objects.specs.declared.item.Item.{Item}
use Rattle.cam_objects.specs.declared.item.Item.TheVariants.{One, Repeat}
use Rattle.cam_objects.specs.Soundness.{IsInside, IsSoundItem, IsSoundContent, is_short}
use Rattle.cam_objects.specs.Weights.{block_count, item_count, weight_in, object_count}
use Rattle.cam_commands.specs.declared.parts.Repeat.{Repeat as Opening}
use Rattle.cam_commands.specs.declared.parts.Slot.TheVariants.{Written}
use Rattle.cam_commands.specs.Commands.{SetRepeat, CloseRepeat, End}
use Rattle.cam_gerber.specs.Statements.{Says}
use Rattle.cam_gerber.specs.State.{Past, in_region}
use Rattle.cam_gerber.specs.Homes.{InLayer, InRepeat, Opened, home, has_copies, open_repeat, step_written}
use Rattle.cam_gerber.specs.Layers.{closed_leaves, closed_repeat, copied_leaves, entries_in, items_in}
use Rattle.cam_gerber.specs.Layers.{leaves_in, repeat_by, layer_in}
use Rattle.cam_gerber.specs.Faults.{faults, holds_of_one, is_left_out, is_layer_full, is_outside, is_full}
use Rattle.cam_gerber.proofs.Pasts.{home_is}
use Rattle.cam_gerber.proofs.SoundParts.{Pairs}
use Rattle.cam_gerber.proofs.UnusedRepeats.{IsEmptyHome, unused_repeat}
use Rattle.cam_writers.proofs.Decimals.{scaled_again}
use Rattle.cam_writers.specs.Lengths.{scaled}
use Rattle.cam_writers.specs.Phrases.{EnterRepeat}
use Rattle.cam_writers.specs.GerberTexts.{Phrases, opening, with_entry, said_by, with_item, with_objects, phrases_before_end}
use Rattle.cam_writers.specs.GerberTexts.{with_object}
use Rattle.cam_writers.proofs.GerberPlaces.{Joined, Stands, made_here}
use Rattle.cam_writers.proofs.GerberObjects.{HasRoom, IsSoundAt, not_outside, objects_join, Between, Gathered}
use Rattle.cam_writers.proofs.GerberObjects.{gathered, object_joins, sound_one}
use Rattle.cam_writers.proofs.Walks.{fewer, lighter, sound_at, walk}
use Rattle.cam_objects.specs.declared.attribute.Attribute.{Attribute}
use Rattle.cam_objects.specs.Attributes.{AreAttributes}
use Rattle.cam_gerber.specs.Laws.{IsFaultless}
use Rattle.cam_writers.proofs.GerberEntries.{entries_added}
use Rattle.cam_writers.proofs.GerberSpelling.{all_spelled}

-- ---- parts

one_repeat : (o : Opened) (objects : List Object) → 0 < length objects
    → repeat_by o objects ≡ Repeat o.columns o.rows o.i o.j objects ∷ []
one_repeat o objects some = grind arith

closing_none : (region full : Bool) (outside : Item → Bool) (closed : List Item) (item : Item) → region ≡ false
    → full ≡ false → closed ≡ item ∷ [] → outside item ≡ false
    → least number_of ((StrayBlock, region) ∷ (OutOfBoard, not true || holds_of_one outside closed)
    ∷ (TooMuch, not (is_left_out closed) && full) ∷ []) ≡ None
closing_none region full outside closed item a b c d = rw (a, b, c, d) refl

-- the layer has room for one item more
pub layer_room : (past : Past) (items : List Item) (so_far more : ℕ) → items_in past ≡ items → leaves_in past ≡ so_far
    → length items < 1000000 → so_far + more ≤ 4000000 → is_layer_full past more ≡ false
layer_room past items so_far more listed leaves few light = grind (arith, lt-leb, le-ltb)

module _ (phrases : Phrases) (es : Pairs) (items : List Item) (between : Between (said_by phrases) es items) (columns rows : ℕ) (i j : ℤ)
    (objects : List Object) (sound : IsSoundItem es (Repeat columns rows i j objects)) (few : length items < 1000000)
    (light : sum_by (item_count (weight_in es)) items + columns * rows * block_count (weight_in es) objects
    ≤ 4000000) where
  abbrev past : Past
  past = said_by phrases

  met : Meets es (Repeat columns rows i j objects)
  met = meets es (Repeat columns rows i j objects) sound

  inside : IsInside es (Repeat columns rows i j objects)
  inside = met.inside

  limits : IsWithinLimits es (Repeat columns rows i j objects)
  limits = met.limits

  -- ---- it is opened

  abbrev copies : Opening
  copies = record {
    columns = Written columns;
    rows = Written rows;
    i = Written (scaled i);
    j = Written (scaled j);
  }

  abbrev opened : Past
  opened = Says (SetRepeat copies) ∷ past

  abbrev place : Opened
  place = record { before = length past; columns = columns; rows = rows; i = i; j = j }

  many : has_copies copies ≡ true
  many = lt-ltb 1 (columns * rows) met.repeated.0

  step_is : (z : ℤ) → step_written past (Written (scaled z)) ≡ z
  step_is z = ap (λ unit. fix9_of (scaled z) (unit_or_mm unit)) between.stands.unit ∙ scaled_again z

  opens : open_repeat opened ≡ Some place
  opens = grind (arith, many, step_is)

  short : (z : ℤ) → unsigned_abs z < 1000000000 → is_short (step_written past (Written (scaled z))) ≡ true
  short z h = ap is_short (step_is z) ∙ lt-ltb (unsigned_abs z) 1000000000 h

  opened_none : least number_of (faults past (Says (SetRepeat copies))) ≡ None
  opened_none = grind (arith, short, inside, many)

  opened_stands : Stands opened
  opened_stands = search (opened_none, between.stands)

  opened_empty : IsEmptyHome opened (InRepeat (length past))
  opened_empty =
      let none = unused_repeat past (length past) (omega arith) in
      record { objects = none.objects; leaves = none.leaves }

  at_home : home opened ≡ InRepeat (length past)
  at_home = home_is opened [] (Some place) between.blocks opens

  opened_items : items_in opened ≡ items
  opened_items = grind (arith, append-nil)

  opened_leaves : leaves_in opened ≡ sum_by (item_count (weight_in es)) items
  opened_leaves = omega (arith, ap (copied_leaves past) between.repeat, between.leaves)

  -- ---- its objects gather

  room : HasRoom opened (InRepeat (length past)) objects
  room later front o rest joined e = grind (arith, Gathered, gathered, at_home, opened_empty, fewer, limits)

  each : All (IsSoundAt (InRepeat (length past)) es) objects
  each k d low = grind (arith, met, inside, limits)

  inner : Past
  inner = said_by (with_objects (EnterRepeat columns rows i j ∷ phrases) objects)

  joined : Joined opened inner objects
  unfolding inner
  joined = objects_join (EnterRepeat columns rows i j ∷ phrases) es between.entries (InRepeat (length past)) at_home objects room opened_stands each

  -- none of them is an item
  apart : made_here (home opened) InLayer objects ≡ []
  apart = ap (λ h. made_here h InLayer objects) at_home

  inner_items : items_in inner ≡ items
  inner_items = grind (arith, joined, opened_items, apart, append-nil)

  inner_leaves : leaves_in inner ≡ sum_by (item_count (weight_in es)) items
  inner_leaves = omega (arith, joined.grown.layer_leaves, opened_leaves, ap (block_count (weight_in (entries_in past))) apart)

  -- ---- it is closed

  there : Gathered inner (InRepeat (length past)) (weight_in (entries_in opened)) objects
  there = gathered opened inner (InRepeat (length past)) objects at_home opened_empty joined

  closed_is : closed_repeat inner ≡ Repeat columns rows i j objects ∷ []
  closed_is = grind (arith, inner, joined, opens, there, one_repeat, met)

  copied : closed_leaves inner ≡ columns * rows * block_count (weight_in es) objects
  copied = grind (arith, inner, joined, opens, there, Pairs)

  full : is_layer_full inner (closed_leaves inner) ≡ false
  full = grind (arith, layer_room, inner, inner_items, inner_leaves, copied)

  closed_none : least number_of (faults inner (Says CloseRepeat)) ≡ None
  closed_none =
      closing_none (in_region inner) (is_layer_full inner (closed_leaves inner)) (is_outside inner)
      (closed_repeat inner) (Repeat columns rows i j objects) joined.stands.region full closed_is
      (not_outside inner es (Repeat columns rows i j objects) (joined.grown.entries ∙ between.entries) inside.leaves)

  closed_stands : Stands (Says CloseRepeat ∷ inner)
  closed_stands = search (closed_none, joined.stands)

  pub repeat_added : Between (said_by (with_item phrases (Repeat columns rows i j objects))) es
      (items ++ Repeat columns rows i j objects ∷ [])
  unfolding inner
  repeat_added = record {
    stands = closed_stands;
    blocks = joined.grown.blocks ∙ between.blocks;
    repeat = refl;
    entries = joined.grown.entries ∙ between.entries;
    listed = ap₂ (λ all more. all ++ more) inner_items closed_is;
    leaves = omega (
      arith,
      inner_leaves,
      copied,
      sum_by_push (item_count (weight_in es)) items (Repeat columns rows i j objects),
    );
    macros = joined.grown.macros ∙ between.macros;
  }

-- ---- an object that is an item

module _ (phrases : Phrases) (es : Pairs) (items : List Item) (between : Between (said_by phrases) es items) (o : Object)
    (sound : IsSoundItem es (One o)) (few : length items < 1000000)
    (light : sum_by (item_count (weight_in es)) items + object_count (weight_in es) o ≤ 4000000) where
  abbrev so_far : Past
  so_far = said_by phrases

  in_layer : home so_far ≡ InLayer
  in_layer = home_is so_far [] None between.blocks between.repeat

  count : object_count (weight_in (entries_in so_far)) o ≡ object_count (weight_in es) o
  count = ap (λ (all : Pairs). object_count (weight_in all) o) between.entries

  one_room : is_full InLayer so_far o ≡ false
  one_room = grind (arith, layer_room, count)

  one_joined : Joined so_far (said_by (with_object phrases o)) (o ∷ [])
  one_joined =
      object_joins phrases between.stands es between.entries InLayer in_layer o (sound_one InLayer es o sound) one_room

  here : made_here (home so_far) InLayer (o ∷ []) ≡ o ∷ []
  here = ap (λ h. made_here h InLayer (o ∷ [])) in_layer

  counted : block_count (weight_in (entries_in so_far)) (made_here (home so_far) InLayer (o ∷ []))
      ≡ object_count (weight_in es) o
  counted = omega (arith, ap₂ (λ all made. block_count (weight_in all) made) between.entries here)

  one_added : Between (said_by (with_object phrases o)) es (items ++ One o ∷ [])
  one_added = grind (arith, one_joined, here, counted, sum_by_push)

-- ---- one after another

item_added : (phrases : Phrases) (es : Pairs) (items : List Item) (item : Item) → Between (said_by phrases) es items
    → IsSoundItem es item → length items < 1000000
    → sum_by (item_count (weight_in es)) items + item_count (weight_in es) item ≤ 4000000
    → Between (said_by (with_item phrases item)) es (items ++ item ∷ [])
item_added phrases es items (One o) between sound few light = one_added phrases es items between o sound few light
item_added phrases es items (Repeat columns rows i j objects) between sound few light =
    repeat_added phrases es items between columns rows i j objects sound few light

-- ---- the whole layer

module _ (attributes : List Attribute) (es : Pairs) (items : List Item) (set : AreAttributes attributes)
    (sound : IsSoundContent es items) where
  -- everything stands before the end
  pub all_added : Between (said_by (phrases_before_end attributes es items)) es items
  all_added =
      walk with_item (λ phrases front. Between (said_by phrases) es front) items
      (λ phrases front item rest e between.
      item_added phrases es front item between (sound_at (IsSoundItem es) items front item rest e sound.items)
      (omega (arith, sound.limits.few, fewer items front item rest e))
      (omega (arith, sound.limits.leaves, lighter (item_count (weight_in es)) items front item rest e)))
      (fold with_entry (opening attributes) es) [] items refl (entries_added attributes es set sound.entries)

  pub past_is_faultless : IsFaultless (said_by (phrases_before_end attributes es items))
  past_is_faultless = all_added.stands.none

  pub end_is_faultless : least number_of (faults (said_by (phrases_before_end attributes es items)) (Says End)) ≡ None
  end_is_faultless = rw (all_added.stands.region, all_added.blocks, all_added.repeat) refl

  pub past_is_layer : layer_in (Says End ∷ said_by (phrases_before_end attributes es items))
      ≡ record { attributes = attributes; entries = es; items = items }
  past_is_layer = grind (arith, Pairs, all_spelled, all_added, append-nil)
