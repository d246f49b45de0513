-- Each phrase of a canonical text of a sound layer can be spelled, none is its end, and none behind the file attributes
-- sets one.
use Rattle.std.proofs.Common.{◌≡◌, ℕ, ◌*◌, ◌<◌, ◌≤◌, List, [], ◌∷◌, take, Bool, false, cond, refl}
use Rattle.std.proofs.Common.{◌∙◌, arith, slice_index_or, get_or}
use Rattle.std.specs.Prelude.{fold}
use Rattle.std.specs.List.{All, AllByRecursion, flat_map}
use Rattle.std.proofs.lemmas.List.Elements.{All-head, All-take, recursion_from_All}
use Rattle.cam_units.specs.declared.point.Point.{Point}
use Rattle.cam_units.specs.declared.turn.Turn.{Turn}
use Rattle.cam_units.specs.Board.{IsOnBoard}
use Rattle.cam_shapes.specs.declared.segments.Seg.{Seg}
use Rattle.cam_shapes.specs.declared.segments.Seg.TheVariants.{Line, Curve}
use Rattle.cam_numbers.specs.Numbers.{IsApertureNumber}
use Rattle.cam_apertures.specs.Primitives.{IsSoundPrim}
use Rattle.cam_apertures.specs.Soundness.{IsSoundAperture}
use Rattle.cam_objects.proofs.SoundItems.{HasNumber, IsKnown, meets}
use Rattle.cam_objects.proofs.SoundLayers.{paintable_item}
use Rattle.cam_objects.specs.declared.attribute.Attribute.{Attribute}
use Rattle.cam_objects.specs.declared.object.Object.{Object}
use Rattle.cam_objects.specs.declared.object.Object.TheVariants.{Flash, Draw, Arc, Region}
use Rattle.cam_objects.specs.declared.entry.Entry.{Entry}
use Rattle.cam_objects.specs.declared.entry.Entry.TheVariants.{Aperture, Block}
use Rattle.cam_objects.specs.declared.item.Item.{Item}
use Rattle.cam_objects.specs.declared.item.Item.TheVariants.{One, Repeat}
use Rattle.cam_objects.specs.Attributes.{AreAttributes, IsAttribute}
use Rattle.cam_objects.specs.Soundness.{points_of, points_of_seg, IsSoundContent, IsSoundDictionary, IsSoundItem, MayAddEntry}
use Rattle.cam_commands.specs.declared.parts.Mode.{Mode}
use Rattle.cam_commands.specs.declared.parts.Mode.TheVariants.{Linear}
use Rattle.cam_gerber.specs.State.{aperture_in, dark_in, mode_in, point_in}
use Rattle.cam_gerber.specs.Attributes.{attributes_in}
use Rattle.cam_gerber.specs.Faults.{is_same_point}
use Rattle.cam_gerber.specs.Reading.{is_end}
use Rattle.cam_gerber.proofs.SoundParts.{Pairs}
use Rattle.cam_writers.specs.Phrases.{Phrase, said, UseFormat, UseMillimetres, Attach, UseArcs, UsePolarity, UseMirror}
use Rattle.cam_writers.specs.Phrases.{UseRotation, UseAperture, UseMode, MoveTo, FlashAt, LineTo, ArcTo, EnterRegion, LeaveRegion}
use Rattle.cam_writers.specs.Phrases.{NameMacro, NameAperture, EnterBlock, LeaveBlock, EnterRepeat, LeaveRepeat, Finish}
use Rattle.cam_writers.specs.GerberTexts.{Phrases, said_by, arc_mode, is_same_mode, is_same_polarity}
use Rattle.cam_writers.specs.GerberTexts.{is_selected, opening, phrases_before_end, units, with_aperture, with_attribute_of}
use Rattle.cam_writers.specs.GerberTexts.{with_entry, with_item, with_mode, with_object}
use Rattle.cam_writers.specs.GerberTexts.{with_objects, with_polarity, with_segments, with_start, with_turn}
use Rattle.cam_writers.proofs.Walks.{by_number, either, kept_by}
use Rattle.cam_writers.proofs.GerberAttributes.{attribute_spells, opens}
use Rattle.cam_writers.proofs.GerberDefinitions.{definition_spells}
use Rattle.cam_writers.proofs.GerberMacros.{macro_spells}
use Rattle.cam_writers.proofs.GerberOperations.{arc_spells, flash_spells, line_spells, move_spells, IsWritableRepeat}
use Rattle.cam_writers.proofs.GerberOperations.{block_begun_spells, block_ended_spells, repeat_begun_spells, repeat_ended_spells}
use Rattle.cam_writers.proofs.GerberSayings.{Spells, arcs_spell, aperture_spells, end_spells, format_spells}
use Rattle.cam_writers.proofs.GerberSayings.{mirror_spells, mode_spells, polarity_spells, region_begun_spells}
use Rattle.cam_writers.proofs.GerberSayings.{region_ended_spells, rotation_spells, unit_spells}

-- ---- the law of spelling

-- what can be spelled
abbrev pub IsSpellable : Phrase → Type 0
IsSpellable (Attach a) = IsAttribute a
IsSpellable (UseAperture n) = IsApertureNumber n
IsSpellable (MoveTo to) = IsOnBoard to
IsSpellable (FlashAt at) = IsOnBoard at
IsSpellable (LineTo to) = IsOnBoard to
IsSpellable (ArcTo start to centre) = IsOnBoard start × IsOnBoard to × IsOnBoard centre
IsSpellable (NameMacro n prims) = (n ≤ 2147483647) × All IsSoundPrim prims
IsSpellable (NameAperture n aperture) = (n ≤ 2147483647) × IsSoundAperture aperture
IsSpellable (EnterBlock n) = IsApertureNumber n
IsSpellable (EnterRepeat columns rows i j) = IsWritableRepeat columns rows i j
IsSpellable _ = Unit {0}

-- each is one command of the cutting, and says its statement
pub spells : (phrase : Phrase) → IsSpellable phrase → Spells phrase
spells UseFormat h = format_spells
spells UseMillimetres h = unit_spells
spells (Attach a) h = attribute_spells a h
spells UseArcs h = arcs_spell
spells (UsePolarity dark) h = polarity_spells dark
spells (UseMirror turn) h = mirror_spells turn
spells (UseRotation turn) h = rotation_spells turn
spells (UseAperture n) h = aperture_spells n h.0 h.1
spells (UseMode mode) h = mode_spells mode
spells (MoveTo to) h = move_spells to h
spells (FlashAt at) h = flash_spells at h
spells (LineTo to) h = line_spells to h
spells (ArcTo start to centre) h = arc_spells start to centre h.0 h.1 h.2
spells EnterRegion h = region_begun_spells
spells LeaveRegion h = region_ended_spells
spells (NameMacro n prims) h = macro_spells n prims h.0 h.1
spells (NameAperture n aperture) h = definition_spells n aperture h.0 h.1
spells (EnterBlock n) h = block_begun_spells n h.0 h.1
spells LeaveBlock h = block_ended_spells
spells (EnterRepeat columns rows i j) h = repeat_begun_spells columns rows i j h
spells LeaveRepeat h = repeat_ended_spells
spells Finish h = end_spells

-- it can be spelled, and is not the end
abbrev pub MayPrecede : Phrase → Type 0
MayPrecede phrase = IsSpellable phrase × (is_end (said phrase) ≡ false)

pub all_spell : (phrases : Phrases) → AllByRecursion MayPrecede phrases → AllByRecursion Spells phrases
all_spell [] h = tt
all_spell (phrase ∷ older) h = (spells phrase h.0.0, all_spell older h.1)

pub endless : (phrases : Phrases) → AllByRecursion MayPrecede phrases
    → AllByRecursion (λ s. is_end s ≡ false) (said_by phrases)
endless [] h = tt
endless (phrase ∷ older) h = (h.0.1, endless older h.1)

-- ---- what stands in sound layers

-- each number of a dictionary is one of an aperture
abbrev AreNumbered : Pairs → Type 0
AreNumbered es = (n : ℕ) → HasNumber es n → IsApertureNumber n

abbrev IsNumbered : ℕ × Entry → Type 0
IsNumbered e = IsApertureNumber e.0

in_range : (es : Pairs) → All IsNumbered es → AreNumbered es
in_range es all n known = by_number IsApertureNumber n es all known

all_numbered : (es : Pairs) → IsSoundDictionary es → All IsNumbered es
all_numbered es sound k d below = let may = sound k d below in (may.least, may.greatest)

abbrev HasOwnNumber : Object → Type 0
HasOwnNumber (Flash n at turn dark) = IsApertureNumber n
HasOwnNumber (Draw n from to turn dark) = IsApertureNumber n
HasOwnNumber (Arc ccw dark n from to centre) = IsApertureNumber n
HasOwnNumber (Region contour dark) = Unit {0}

-- its points lie on the board, and its number is one of an aperture
record IsFit (o : Object) : Type 0 where
  points : AllByRecursion IsOnBoard (points_of o)
  number : HasOwnNumber o

fits : (es : Pairs) (o : Object) → AreNumbered es → All IsOnBoard (points_of o) → IsKnown es o → IsFit o
fits es o numbers on known = grind (arith, recursion_from_All, IsKnown)

one_fits : (es : Pairs) (o : Object) → AreNumbered es → IsSoundItem es (One o) → IsFit o
one_fits es o numbers sound = grind (arith, meets, fits, All-head, IsKnown)

some_of_both : (columns rows : ℕ) → 1 < columns * rows → (0 < columns) × (0 < rows)
some_of_both columns rows h = grind arith

abbrev IsFitEntry : ℕ × Entry → Type 0
IsFitEntry (n, Aperture a) = IsApertureNumber n × IsSoundAperture a
IsFitEntry (n, Block objects) = IsApertureNumber n × All IsFit objects

entry_fits : (before : Pairs) (e : ℕ × Entry) → AreNumbered before → MayAddEntry before e.0 e.1 → IsFitEntry e
entry_fits before e numbers may = grind (arith, one_fits)

entries_fit : (es : Pairs) → IsSoundDictionary es → All IsFitEntry es
entries_fit es sound k d below =
    entry_fits (take k es) (slice_index_or es k d)
    (in_range (take k es) (All-take IsNumbered k es (all_numbered es sound))) (sound k d below)

-- ---- one phrase after another

-- phrases that can be spelled, and set these file attributes
pub record IsSpelled (kept : List Attribute) (phrases : Phrases) : Type 0 where
  pub each : AllByRecursion MayPrecede phrases
  pub attributes : attributes_in (said_by phrases) ≡ kept

module _ (kept : List Attribute) where
  more : (p : Phrase) (ps : Phrases) → MayPrecede p → attributes_in (said p ∷ said_by ps) ≡ attributes_in (said_by ps)
      → IsSpelled kept ps → IsSpelled kept (p ∷ ps)
  more p ps is same h = record { each = (is, h.each); attributes = same ∙ h.attributes }

  unless : (b : Bool) (p : Phrase) (ps : Phrases) → MayPrecede p
      → attributes_in (said p ∷ said_by ps) ≡ attributes_in (said_by ps) → IsSpelled kept ps
      → IsSpelled kept (cond b ps (p ∷ ps))
  unless b p ps is same h = either (IsSpelled kept) b ps (p ∷ ps) (λ e. h) (λ e. more p ps is same h)

  -- ---- settings

  polarity : (dark : Bool) (ps : Phrases) → IsSpelled kept ps → IsSpelled kept (with_polarity dark ps)
  polarity dark ps h = unless (is_same_polarity (dark_in (said_by ps)) dark) (UsePolarity dark) ps (tt, refl) refl h

  turned : (turn : Turn) (ps : Phrases) → IsSpelled kept ps → IsSpelled kept (with_turn turn ps)
  turned turn ps h = grind (arith, unless)

  selected : (n : ℕ) (ps : Phrases) → IsApertureNumber n → IsSpelled kept ps → IsSpelled kept (with_aperture n ps)
  selected n ps number h = unless (is_selected (aperture_in (said_by ps)) n) (UseAperture n) ps (number, refl) refl h

  moded : (mode : Mode) (ps : Phrases) → IsSpelled kept ps → IsSpelled kept (with_mode mode ps)
  moded mode ps h = unless (is_same_mode (mode_in (said_by ps)) mode) (UseMode mode) ps (tt, refl) refl h

  started : (from : Point) (ps : Phrases) → IsOnBoard from → IsSpelled kept ps → IsSpelled kept (with_start from ps)
  started from ps on h = unless (is_same_point (point_in (said_by ps)) from) (MoveTo from) ps (on, refl) refl h

  -- ---- objects

  segments : (here : Point) (segs : List Seg) (ps : Phrases) → IsOnBoard here
      → AllByRecursion IsOnBoard (flat_map points_of_seg segs) → IsSpelled kept ps
      → IsSpelled kept (with_segments here segs ps)
  segments here [] ps on all h = h
  segments here (Line to ∷ segs) ps on all h =
      segments to segs _ all.0 all.1 (more (LineTo to) _ (all.0, refl) refl (moded Linear ps h))
  segments here (Curve to centre ccw ∷ segs) ps on all h =
      segments to segs _ all.0 all.1.1
      (more (ArcTo here to centre) _ ((on, all.0, all.1.0), refl) refl (moded (arc_mode ccw) ps h))

  object : (ps : Phrases) (o : Object) → IsFit o → IsSpelled kept ps → IsSpelled kept (with_object ps o)
  object ps (Flash n at turn dark) fit h = grind (arith, more, selected, turned, polarity)
  object ps (Draw n from to turn dark) fit h = grind (arith, more, started, moded, selected, turned, polarity)
  object ps (Arc ccw dark n from to centre) fit h = grind (arith, more, started, moded, selected, polarity)
  object ps (Region contour dark) fit h = grind (arith, more, segments, polarity)

  objects : (ps : Phrases) (all : List Object) → All IsFit all → IsSpelled kept ps → IsSpelled kept (with_objects ps all)
  objects = kept_by with_object (IsSpelled kept) IsFit object

  -- ---- entries and items

  entry : (ps : Phrases) (e : ℕ × Entry) → IsFitEntry e → IsSpelled kept ps → IsSpelled kept (with_entry ps e)
  entry ps e fit h = grind (arith, more, objects)

  entries : (ps : Phrases) (es : Pairs) → All IsFitEntry es → IsSpelled kept ps → IsSpelled kept (fold with_entry ps es)
  entries = kept_by with_entry (IsSpelled kept) IsFitEntry entry

  module _ (es : Pairs) (numbers : AreNumbered es) where
    item : (ps : Phrases) (x : Item) → IsSoundItem es x → IsSpelled kept ps → IsSpelled kept (with_item ps x)
    item ps (One o) sound h = object ps o (one_fits es o numbers sound) h
    item ps (Repeat columns rows i j all) sound h =
        let met = meets es (Repeat columns rows i j all) sound in
        let some = some_of_both columns rows met.repeated.0 in
        -- an object has a leaf, so the limit on leaves bounds the copies of a repeat
        let copies = paintable_item es (Repeat columns rows i j all) sound in
        let writable : IsWritableRepeat columns rows i j = record {
          some_columns = some.0;
          few_columns = omega (arith, copies.0.copies);
          some_rows = some.1;
          few_rows = omega (arith, copies.1.copies);
          across = met.inside.steps.0;
          up = met.inside.steps.1;
        } in
        more LeaveRepeat _ (tt, refl) refl
        (objects _ all
        (λ k d below. fits es (get_or all k d) numbers (met.inside.points k d below) (met.known k d below))
        (more (EnterRepeat columns rows i j) ps (writable, refl) refl h))

    items : (ps : Phrases) (xs : List Item) → All (IsSoundItem es) xs → IsSpelled kept ps
        → IsSpelled kept (fold with_item ps xs)
    items = kept_by with_item (IsSpelled kept) (IsSoundItem es) item

-- ---- the text before its end

pub all_spelled : (attributes : List Attribute) (es : Pairs) (xs : List Item) → AreAttributes attributes
    → IsSoundContent es xs → IsSpelled attributes (phrases_before_end attributes es xs)
unfolding opening
all_spelled attributes es xs set sound =
    let attached : AllByRecursion MayPrecede (fold with_attribute_of units attributes) =
    kept_by with_attribute_of (AllByRecursion MayPrecede) IsAttribute (λ ps a is h. ((is, refl), h)) units attributes set.each
    ((tt, refl), ((tt, refl), tt)) in
    items attributes es (in_range es (all_numbered es sound.entries)) (fold with_entry (opening attributes) es) xs sound.items
    (entries attributes (opening attributes) es (entries_fit es sound.entries)
    (record { each = ((tt, refl), ((tt, refl), attached)); attributes = (opens attributes set).attributes }))
