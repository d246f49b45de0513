-- Objects of a canonical text, one after another at one home; and what holds between its entries and its items.
use Rattle.std.proofs.Common.{◌≡◌, ℕ, ◌≤◌, [], ◌∷◌, length, Bool, true, false, Some, refl, ap₂, ◌∙◌, List, ◌++◌}
use Rattle.std.proofs.Common.{nat_eq, ap, append-nil, None, sum_by, arith, eq-eqb}
use Rattle.std.specs.List.{All, AllByRecursion, flat_map}
use Rattle.std.proofs.lemmas.List.Elements.{All-head, All-tail, All-cons, All-nil, recursion_from_All}
use Rattle.std.proofs.lemmas.Bool.{ltb-true}
use Rattle.std.specs.Prelude.{not, is_some, max, fold}
use Rattle.std.specs.Map.{lookup}
use Rattle.std.specs.Option.{IsSome}
use Rattle.std.proofs.lemmas.List.Concat.{flat_map-append}
use Rattle.cam_units.specs.declared.turn.Turn.{Turn}
use Rattle.cam_units.specs.Board.{IsOnBoard}
use Rattle.cam_shapes.specs.declared.segments.Seg.TheVariants.{Line, Curve}
use Rattle.cam_objects.proofs.SoundItems.{HasRadius, IsFormed, HasNumber, IsDrawable, IsKnown, meets}
use Rattle.cam_objects.specs.declared.object.Object.{Object}
use Rattle.cam_objects.specs.declared.object.Object.TheVariants.{Flash, Draw, Arc, Region}
use Rattle.cam_objects.specs.Soundness.{points_of, points_of_seg, AreOnBoard, IsSoundItem}
use Rattle.cam_objects.specs.Turning.{after}
use Rattle.cam_commands.specs.declared.parts.Mode.TheVariants.{Linear}
use Rattle.cam_gerber.specs.State.{Past, turn_in}
use Rattle.cam_gerber.specs.Homes.{home, Home, InRepeat, is_same_home, open_blocks, open_repeat}
use Rattle.cam_gerber.specs.Faults.{is_defined, is_full, is_outside_at, is_unfit, are_leaves_on_board, is_outside}
use Rattle.cam_writers.specs.Phrases.{mirror_of, rotation_of, macro_name}
use Rattle.cam_writers.specs.GerberTexts.{Phrases, arc_mode, said_by, with_aperture, with_mode, with_object}
use Rattle.cam_writers.specs.GerberTexts.{with_polarity, with_start, with_turn, with_objects}
use Rattle.cam_writers.proofs.GerberPlaces.{Joined, Stands, both_parts, joined_on, kept_all, same_home, made_here}
use Rattle.cam_writers.proofs.Walks.{sound_at, walk}
use Rattle.cam_writers.proofs.GerberContours.{region_made, flash_made, stroke_made}
use Rattle.cam_writers.proofs.GerberPlots.{scales, Values, Set, aperture_set, mirror_set, mode_set, point_set}
use Rattle.cam_writers.proofs.GerberPlots.{polarity_set, rotation_set, unset, values_in}
use Rattle.cam_objects.specs.declared.item.Item.{Item}
use Rattle.cam_objects.specs.declared.item.Item.TheVariants.{One}
use Rattle.cam_objects.specs.Leaves.{item_leaves, meaning_in, object_leaves, origin, round_width}
use Rattle.cam_gerber.specs.Layers.{entries_in, macros_in, items_in, home_leaves, leaves_in}
use Rattle.cam_gerber.proofs.Outside.{leaves_pass, outside_is}
use Rattle.cam_gerber.proofs.SoundParts.{Pairs, IsMade}
use Rattle.cam_macros.specs.declared.aperture_macro.Macro.{Macro}
use Rattle.cam_apertures.specs.declared.aperture.Aperture.{Aperture as Template}
use Rattle.cam_apertures.specs.declared.aperture.Aperture.TheVariants.{Prims}
use Rattle.cam_objects.specs.declared.entry.Entry.{Entry}
use Rattle.cam_objects.specs.declared.entry.Entry.TheVariants.{Aperture, Block}
use Rattle.cam_objects.specs.Weights.{Weight, block_count, item_count, object_depth, weight_in}
use Rattle.cam_gerber.specs.Making.{home_objects}
use Rattle.cam_gerber.proofs.UnusedRepeats.{IsEmptyHome}
use Rattle.cam_writers.proofs.GerberMacroFields.{parts_for}

-- ---- what a home asks of an object beside a dictionary

-- the leaves of an object lie on the board, where they are judged at once
abbrev pub IsPlacedAt : Home → Pairs → Object → Type 0
IsPlacedAt (InRepeat before) es o = Unit {0}
IsPlacedAt _ es o = AreOnBoard (object_leaves (meaning_in es) origin o)

pub record IsSoundAt (h : Home) (es : Pairs) (o : Object) : Type 0 where
  pub made : IsMade es o
  pub placed : IsPlacedAt h es o

-- ---- the same behind a past

pub not_outside : (past : Past) (es : Pairs) (item : Item) → entries_in past ≡ es
    → AreOnBoard (item_leaves (meaning_in es) item) → is_outside past item ≡ false
not_outside past es item e on =
    outside_is past item
    ∙ ap (λ entries. not (are_leaves_on_board (item_leaves (meaning_in entries) item))) e
    ∙ ap not (leaves_pass (item_leaves (meaning_in es) item) on)

inside_at : (h : Home) (past : Past) (es : Pairs) (o : Object) → entries_in past ≡ es → IsPlacedAt h es o
    → is_outside_at h past o ≡ false
inside_at (InRepeat before) now es o e on = refl
inside_at _ now es o e on = not_outside now es (One o) e on

module _ (past : Past) (es : Pairs) (entries : entries_in past ≡ es) where
  has_number : (n : ℕ) → HasNumber es n → is_defined past n ≡ true
  has_number n known = ap (λ (all : Pairs). is_some (lookup (nat_eq n) all)) entries ∙ known

  fit_line : (n : ℕ) → IsSome (meaning_in es n).tip → is_unfit past false (Some n) ≡ false
  fit_line n some = ap (λ (all : Pairs). not (is_some (meaning_in all n).tip)) entries ∙ ap not some

  fit_arc : (n : ℕ) → IsSome (round_width (meaning_in es n).tip) → is_unfit past true (Some n) ≡ false
  fit_arc n some = ap (λ (all : Pairs). not (is_some (round_width (meaning_in all n).tip))) entries ∙ ap not some

-- ---- one object, behind its settings

module _ (phrases : Phrases) (stands : Stands (said_by phrases)) (es : Pairs) (entries : entries_in (said_by phrases) ≡ es) (h : Home)
    (at_home : home (said_by phrases) ≡ h) where
  abbrev past : Past
  past = said_by phrases

  darkened : (dark : Bool) → Set past (said_by (with_polarity dark phrases)) (record (values_in past) { dark = dark })
  darkened dark = polarity_set past phrases (values_in past) (unset past stands) dark

  abbrev turned_values : Turn → Bool → Values
  turned_values turn dark =
      record (values_in past) { dark = dark; mirror = mirror_of turn; rotation = rotation_of turn }

  -- a flash and a draw
  with_all : (n : ℕ) (turn : Turn) (dark : Bool) → HasNumber es n
      → Set past (said_by (with_aperture n (with_turn turn (with_polarity dark phrases))))
      (record (turned_values turn dark) { aperture = Some n })
  with_all n turn dark known =
      aperture_set past _ _ (rotation_set past _ _ (mirror_set past _ _ (darkened dark) turn) turn) n
      (has_number past es entries n known)

  turn_is : (newer : Past) (v : Values) (turn : Turn) → Set past newer v → v.mirror ≡ mirror_of turn
      → v.rotation ≡ rotation_of turn → turn_in newer ≡ turn
  turn_is newer v turn set m r = ap₂ after (set.mirror ∙ m) (set.rotation ∙ r) ∙ both_parts turn

  room_here : (o : Object) → is_full h past o ≡ false → is_full (home past) past o ≡ false
  room_here o room = ap (λ k. is_full k past o) at_home ∙ room

  on_board : (o : Object) → IsSoundAt h es o → AllByRecursion IsOnBoard (points_of o)
  on_board o sound = recursion_from_All IsOnBoard (points_of o) sound.made.points

  pub object_joins : (o : Object) → IsSoundAt h es o → is_full h past o ≡ false → Joined past (said_by (with_object phrases o)) (o ∷ [])
  object_joins (Flash n at turn dark) sound room =
      let set = with_all n turn dark sound.made.known in
      flash_made past (said_by (with_aperture n (with_turn turn (with_polarity dark phrases)))) n at turn dark set.stands
      set.kept set.aperture (turn_is _ _ turn set refl refl) set.dark (on_board (Flash n at turn dark) sound).0
      (ap (λ k. is_outside_at k past (Flash n at turn dark)) at_home ∙ inside_at h past es (Flash n at turn dark) entries sound.placed)
      (room_here (Flash n at turn dark) room)
  object_joins (Draw n from to turn dark) sound room =
      let on = on_board (Draw n from to turn dark) sound in
      let straight = mode_set past _ _ (with_all n turn dark sound.made.known) Linear in
      let set = point_set past _ _ straight from on.0 in
      stroke_made past _ n from (Line to) turn dark set.stands set.kept set.aperture
      (turn_is _ _ turn set refl refl) set.dark (record {
        scaled = scales _ set.stands;
        arcs = set.stands.arcs;
        mode = set.mode;
        point = set.point;
        plottable = on.1.0;
      }) (fit_line past es entries n sound.made.drawable) (room_here (Draw n from to turn dark) room)
  object_joins (Arc ccw dark n from to centre) sound room =
      let on = on_board (Arc ccw dark n from to centre) sound in
      let begun = aperture_set past _ _ (darkened dark) n (has_number past es entries n sound.made.known) in
      let set = point_set past _ _ (mode_set past _ _ begun (arc_mode ccw)) from on.0 in
      let ready = said_by (with_start from (with_mode (arc_mode ccw) (with_aperture n (with_polarity dark phrases)))) in
      stroke_made past ready n from (Curve to centre ccw) (turn_in ready) dark set.stands set.kept set.aperture refl
      set.dark
      (record {
        scaled = scales _ set.stands;
        arcs = set.stands.arcs;
        mode = set.mode;
        point = set.point;
        plottable = (sound.made.radius, on.1.0, on.1.1.0);
      }) (fit_arc past es entries n sound.made.drawable) (room_here (Arc ccw dark n from to centre) room)
  object_joins (Region contour dark) sound room =
      let set = darkened dark in
      let rest = flat_map points_of_seg contour.segs in
      region_made past (with_polarity dark phrases) contour dark set.stands set.kept set.dark
      (on_board (Region contour dark) sound).0
      (record { radii = sound.made.radius; points = All-tail IsOnBoard contour.start rest sound.made.points })
      (ltb-true 0 (length contour.segs) sound.made.formed) sound.made.segs
      (room_here (Region contour dark) room)

-- ---- one after another

-- behind the objects before it, the home has room for each
abbrev pub HasRoom : Past → Home → List Object → Type 0
HasRoom past h objects =
    (later : Past) (front : List Object) (o : Object) (rest : List Object) → Joined past later front
    → front ++ o ∷ rest ≡ objects → is_full h later o ≡ false

pub objects_join : (phrases : Phrases) (es : Pairs) → entries_in (said_by phrases) ≡ es → (h : Home)
    → home (said_by phrases) ≡ h → (objects : List Object) → HasRoom (said_by phrases) h objects
    → Stands (said_by phrases) → All (IsSoundAt h es) objects
    → Joined (said_by phrases) (said_by (with_objects phrases objects)) objects
objects_join phrases es entries h at_home objects room stands sound =
    walk with_object (λ later front. Joined (said_by phrases) (said_by later) front) objects more phrases [] objects refl
    (record { stands = stands; grown = kept_all (said_by phrases) })
  where
    past : Past
    past = said_by phrases

    more : (later : Phrases) (front : List Object) (o : Object) (rest : List Object) → front ++ o ∷ rest ≡ objects
        → Joined past (said_by later) front → Joined past (said_by (with_object later o)) (front ++ o ∷ [])
    more later front o rest e joined =
        let now : Past = said_by later in
        joined_on past now (said_by (with_object later o)) front (o ∷ []) joined
        (object_joins later joined.stands es (joined.grown.entries ∙ entries) h (same_home past now front joined.grown ∙ at_home) o
        (sound_at (IsSoundAt h es) objects front o rest e sound) (room now front o rest joined e))

-- ---- the state between entries and items

-- the macro that an aperture is made of
abbrev pub macros_of_template : ℕ → Template → List Macro
macros_of_template n (Prims prims) = record { name = macro_name n; parts = parts_for prims } ∷ []
macros_of_template n _ = []

abbrev pub macros_of_entry : ℕ × Entry → List Macro
macros_of_entry (n, Aperture aperture) = macros_of_template n aperture
macros_of_entry (n, Block objects) = []

-- the macros of a dictionary, in order
abbrev pub macros_of : Pairs → List Macro
macros_of es = flat_map macros_of_entry es

pub macros_more : (es : Pairs) (e : ℕ × Entry) → macros_of (es ++ e ∷ []) ≡ macros_of es ++ macros_of_entry e
macros_more es e = grind (arith, flat_map-append, append-nil)

-- these entries, items and macros have been written, and nothing is open
pub record Wrote (past : Past) (es : Pairs) (items : List Item) (macros_are : List Macro) : Type 0 where
  pub stands : Stands past
  pub blocks : open_blocks past ≡ []
  pub repeat : open_repeat past ≡ None
  pub entries : entries_in past ≡ es
  pub listed : items_in past ≡ items
  pub leaves : leaves_in past ≡ sum_by (item_count (weight_in es)) items
  pub macros : macros_in past ≡ macros_are

abbrev pub Between : Past → Pairs → List Item → Type 0
Between past es items = Wrote past es items (macros_of es)

-- ---- what soundness says of one object

made_one : (es : Pairs) (o : Object) → IsSoundItem es (One o) → IsMade es o
made_one es o sound = grind (arith, meets, All-head, IsFormed, IsKnown, IsDrawable, HasRadius)

placed_one : (h : Home) (es : Pairs) (o : Object) → IsSoundItem es (One o) → IsPlacedAt h es o
placed_one h es o sound = grind (arith, meets)

pub sound_one : (h : Home) (es : Pairs) (o : Object) → IsSoundItem es (One o) → IsSoundAt h es o
sound_one h es o sound = record { made = made_one es o sound; placed = placed_one h es o sound }

-- ---- the objects of a home that was empty

pub same_again : (h : Home) → is_same_home h h ≡ true
same_again h = grind (arith, eq-eqb)

-- they have gathered there, with their leaves
pub record Gathered (later : Past) (h : Home) (w : ℕ → Weight) (objects : List Object) : Type 0 where
  pub objects_are : home_objects h later ≡ objects
  pub leaves_are : home_leaves h later ≡ block_count w objects

pub gathered : (past later : Past) (h : Home) (objects : List Object) → home past ≡ h → IsEmptyHome past h
    → Joined past later objects → Gathered later h (weight_in (entries_in past)) objects
gathered past later h objects at_home empty joined = grind (arith, made_here, same_again)

-- each is no deeper than the deepest
pub depths : (w : ℕ → Weight) (objects : List Object) (so_far : ℕ)
    → fold (λ deepest object. max deepest (object_depth w object)) so_far objects ≤ 7
    → (so_far ≤ 7) × All (λ o. object_depth w o ≤ 7) objects
depths w [] so_far few = (few, All-nil (λ o. object_depth w o ≤ 7))
depths w (o ∷ objects) so_far few =
    let others = depths w objects (max so_far (object_depth w o)) few in (
      omega (arith, others.0),
      All-cons (λ x. object_depth w x ≤ 7) o objects (omega (arith, others.0)) others.1,
    )
