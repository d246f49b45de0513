-- The entries of a canonical text, blocks and apertures with their macros: each joins those before it.
use Rattle.std.proofs.Common.{◌≡◌, ℕ, ◌+◌, ◌<◌, ◌≤◌, List, [], ◌∷◌, ◌++◌, length, drop, false, Some, None, refl, sym, ap, ◌∙◌}
use Rattle.std.proofs.Common.{arith, append-nil, subst, Bool, true, cond, Option, nat_eq, eq-eqb, take, get_or, length-append}
use Rattle.std.specs.Prelude.{◌||◌, nat_le, nat_lt, find, fold}
use Rattle.std.specs.List.{All, AllByRecursion}
use Rattle.std.proofs.lemmas.Bool.{le-ltb, lt-leb, false_from_ne_true, false≢true}
use Rattle.std.proofs.lemmas.List.Elements.{All-weaker, recursion_from_All}
use Rattle.std.specs.Map.{lookup}
use Rattle.std.specs.Str.{bytes_eq}
use Rattle.std.proofs.lemmas.Slice.Eq.{bytes_eq-Decides}
use Rattle.std.proofs.lemmas.List.{take-append-le}
use Rattle.std.proofs.Math.Seq.{get_or-append_seam}
use Rattle.cam_refusals.specs.Checks.{least, Checks}
use Rattle.cam_refusals.specs.Refusals.{number_of}
use Rattle.cam_objects.specs.declared.object.Object.{Object}
use Rattle.cam_objects.specs.declared.entry.Entry.TheVariants.{Block, Aperture}
use Rattle.cam_objects.specs.declared.item.Item.TheVariants.{One}
use Rattle.cam_objects.specs.Soundness.{IsSoundItem, MayAddEntry, IsSoundDictionary}
use Rattle.cam_objects.specs.Weights.{block_count, object_count, object_depth, weight_in}
use Rattle.cam_commands.specs.Commands.{OpenBlock, CloseBlock, DefineAperture}
use Rattle.cam_gerber.specs.Statements.{Says, NamesMacro}
use Rattle.cam_gerber.specs.State.{Past}
use Rattle.cam_gerber.specs.Homes.{InBlock, open_blocks}
use Rattle.cam_gerber.specs.Layers.{closed_block, entries_in, defined, macros_in}
use Rattle.cam_gerber.specs.Faults.{faults, is_taken, is_taken_again}
use Rattle.cam_gerber.proofs.Pasts.{unused}
use Rattle.cam_gerber.proofs.SoundParts.{Pairs}
use Rattle.cam_gerber.proofs.UnusedRepeats.{IsEmptyHome}
use Rattle.cam_writers.specs.Phrases.{EnterBlock, definition_text, macro_name}
use Rattle.cam_writers.specs.GerberTexts.{Phrases, said_by, with_entry, with_objects, with_macro, opening}
use Rattle.cam_writers.proofs.GerberPlaces.{Joined, Stands}
use Rattle.cam_writers.proofs.GerberObjects.{IsSoundAt, HasRoom, objects_join, Between, Gathered, Wrote, depths, gathered}
use Rattle.cam_writers.proofs.GerberObjects.{macros_more, macros_of, macros_of_template, sound_one}
use Rattle.cam_writers.proofs.Walks.{fewer, lighter, sound_at, walk}
use Rattle.cam_refusals.specs.declared.refusal.Refusal.{Refusal}
use Rattle.cam_macros.specs.declared.aperture_macro.Macro.{Macro}
use Rattle.cam_macros.specs.declared.part.Part.{Part}
use Rattle.cam_apertures.specs.Primitives.{IsSoundPrim}
use Rattle.cam_apertures.specs.declared.aperture.Aperture.{Aperture as Template}
use Rattle.cam_apertures.specs.declared.aperture.Aperture.TheVariants.{Prims}
use Rattle.cam_apertures.specs.Definition.{template_form, named, numbered}
use Rattle.cam_objects.specs.declared.entry.Entry.{Entry}
use Rattle.cam_writers.proofs.GerberMacroFields.{parts_for}
use Rattle.cam_writers.proofs.GerberMacros.{macro_parsed}
use Rattle.cam_writers.proofs.GerberOperations.{defined_again}
use Rattle.cam_writers.proofs.GerberDefinitions.{definition_form}
use Rattle.cam_writers.proofs.GerberApertures.{IsMade, definition_again, definition_faultless, macro_named}
use Rattle.cam_writers.proofs.GerberApertures.{macro_names_differ, macro_unreserved, expands}
use Rattle.cam_objects.specs.declared.attribute.Attribute.{Attribute}
use Rattle.cam_objects.specs.Attributes.{AreAttributes}
use Rattle.cam_objects.proofs.Dictionaries.{whole}
use Rattle.cam_writers.proofs.GerberAttributes.{opens}

-- a block has room for one object more
block_room : (count leaves depth : ℕ) → count < 1000000 → leaves ≤ 4000000 → depth ≤ 7
    → (nat_le 1000000 count || nat_lt 4000000 leaves || nat_le 8 depth) ≡ false
block_room count leaves depth few light flat = grind (arith, lt-leb, le-ltb)

module _ (phrases : Phrases) (es : Pairs) (between : Between (said_by phrases) es []) (n : ℕ) (objects : List Object)
    (may : MayAddEntry es n (Block objects)) where
  abbrev past : Past
  past = said_by phrases

  -- ---- it is opened

  abbrev opened : Past
  opened = Says (OpenBlock (Some n)) ∷ past

  free : is_taken past n ≡ false
  free = rw (between.entries, may.absent, between.blocks) refl

  opened_none : least number_of (faults past (Says (OpenBlock (Some n)))) ≡ None
  opened_none = rw (between.entries, may.absent, between.blocks, between.stands.region, between.repeat) refl

  opened_stands : Stands opened
  opened_stands = search (opened_none, between.stands)

  opened_empty : IsEmptyHome opened (InBlock n)
  opened_empty = let none = unused n past free in record { objects = none.objects; leaves = none.leaves }

  -- ---- its objects gather

  room : HasRoom opened (InBlock n) objects
  room later front o rest joined e =
      let there : Gathered later (InBlock n) (weight_in (entries_in past)) front =
      gathered opened later (InBlock n) front refl opened_empty joined in
      let w = weight_in es in
      let flat : object_depth w o ≤ 7 =
      sound_at (λ x. object_depth w x ≤ 7) objects front o rest e (depths w objects 0 (omega (arith, may.sound.depth))).1 in
      let few : length front < 1000000 = omega (arith, fewer objects front o rest e, may.sound.few) in
      let light : block_count w front + object_count w o ≤ 4000000 =
      omega (arith, lighter (object_count w) objects front o rest e, may.sound.leaves) in
      rw (there.objects_are, there.leaves_are, joined.grown.entries, between.entries)
      (block_room (length front) (block_count w front + object_count w o) (object_depth w o) few light flat)

  sound : All (IsSoundAt (InBlock n) es) objects
  sound =
      All-weaker (λ o. IsSoundItem es (One o)) (IsSoundAt (InBlock n) es) (sound_one (InBlock n) es) objects
      may.sound.each

  inner : Past
  inner = said_by (with_objects (EnterBlock n ∷ phrases) objects)

  joined : Joined opened inner objects
  unfolding inner
  joined = objects_join (EnterBlock n ∷ phrases) es between.entries (InBlock n) refl objects room opened_stands sound

  -- ---- it is closed

  closed_none : least number_of (faults inner (Says CloseBlock)) ≡ None
  closed_none = rw (joined.stands.region, joined.grown.blocks) refl

  closed_stands : Stands (Says CloseBlock ∷ inner)
  closed_stands = search (closed_none, joined.stands)

  closed_is : closed_block inner (open_blocks inner) ≡ (n, Block objects) ∷ []
  closed_is = grind (arith, gathered, inner, opened_empty, joined)

  pub block_added : Between (said_by (with_entry phrases (n, Block objects))) (es ++ (n, Block objects) ∷ []) []
  unfolding inner
  block_added = record {
    stands = closed_stands;
    blocks = ap (drop 1) joined.grown.blocks ∙ between.blocks;
    repeat = joined.grown.repeat ∙ between.repeat;
    entries = rw (joined.grown.entries, between.entries, closed_is) refl;
    listed = joined.grown.items ∙ append-nil _ ∙ between.listed;
    leaves = omega (arith, joined.grown.layer_leaves, between.leaves);
    macros = joined.grown.macros ∙ between.macros ∙ sym (macros_more es (n, Block objects) ∙ append-nil (macros_of es));
  }

-- ---- names of macros differ as their numbers do

abbrev pub AreLow : Pairs → Type 0
AreLow es = AllByRecursion (λ (e : ℕ × Entry). e.0 ≤ 2147483647) es

other_name : (m n : ℕ) → m ≤ 2147483647 → n ≤ 2147483647 → nat_eq n m ≡ false
    → bytes_eq (macro_name m) (macro_name n) ≡ false
other_name m n hm hn apart = grind (arith, false_from_ne_true, macro_names_differ, bytes_eq-Decides, false≢true, eq-eqb)

neither : {A : Type 0} (b : Bool) (a : A) (o : Option A) → cond b (Some a) o ≡ None → (b ≡ false) × (o ≡ None)
neither b a o h = grind arith

unnamed : (es : Pairs) (n : ℕ) → n ≤ 2147483647 → AreLow es → lookup (nat_eq n) es ≡ None
    → named (macros_of es) (macro_name n) ≡ None
unnamed [] n high low absent = refl
unnamed ((m, Aperture (Prims prims)) ∷ es) n high low absent =
    let parts = neither (nat_eq n m) (Aperture (Prims prims)) (lookup (nat_eq n) es) absent in
    rw (other_name m n low.0 high parts.0) (unnamed es n high low.1 parts.1)
unnamed ((m, e) ∷ es) n high low absent = unnamed es n high low.1 (neither (nat_eq n m) e (lookup (nat_eq n) es) absent).1

-- the last of a list is found where none before it is
found_last : {A : Type 0} (test : A → Bool) (xs : List A) (x : A) → find test xs ≡ None → test x ≡ true
    → find test (xs ++ x ∷ []) ≡ Some x
found_last test [] x none here = rw here refl
found_last test (y ∷ xs) x none here =
    let parts = neither (test y) y (find test xs) none in rw parts.0 (found_last test xs x parts.1 here)

-- ---- the macro

-- behind the macro of an aperture, if it has one
abbrev IsReady : Past → Pairs → ℕ → Template → Type 0
IsReady past es n a = Wrote past es [] (macros_of es ++ macros_of_template n a) × IsMade (macros_in past) n a

module _ (phrases : Phrases) (es : Pairs) (between : Between (said_by phrases) es []) (low : AreLow es) (n : ℕ) where
  abbrev so_far : Past
  so_far = said_by phrases

  no_macro : (a : Template) → macros_of_template n a ≡ [] → IsMade (macros_in so_far) n a → IsReady so_far es n a
  no_macro a none made = grind (arith, macros_of, macros_of_template, append-nil)

  ready : (a : Template) → MayAddEntry es n (Aperture a) → IsReady (said_by (with_macro n a phrases)) es n a
  ready (Prims prims) may =
      let says = NamesMacro (macro_name n) (Some (parts_for prims)) in
      let made : Macro = record { name = macro_name n; parts = parts_for prims } in
      let free : named (macros_of es) (macro_name n) ≡ None = unnamed es n may.greatest low may.absent in
      let none : least number_of (faults so_far says) ≡ None =
      rw (macro_named n may.greatest, between.macros, free, macro_unreserved n, between.stands.region) refl in
      let stands : Stands (says ∷ so_far) = search (none, between.stands) in
      let macros : macros_in (says ∷ so_far) ≡ macros_of es ++ made ∷ [] = ap (λ all. all ++ made ∷ []) between.macros in
      let itself : bytes_eq (macro_name n) (macro_name n) ≡ true =
      (bytes_eq-Decides (macro_name n) (macro_name n)).1 refl in
      subst (λ (parts : Option (List Part)). IsReady (NamesMacro (macro_name n) parts ∷ so_far) es n (Prims prims))
      (sym (macro_parsed n prims may.greatest (recursion_from_All IsSoundPrim prims may.sound))) (
        search (stands, macros, between),
        (
          made,
          ap (λ all. named (all ++ made ∷ []) (macro_name n)) between.macros
              ∙ found_last (λ (m : Macro). bytes_eq m.name (macro_name n)) (macros_of es) made free itself,
          expands prims may.sound,
        ),
      )
  ready a may = no_macro a refl tt

-- ---- the definition

three_none : (a b c : Refusal × Bool) (table : Checks Refusal) → a.1 ≡ false → b.1 ≡ false → c.1 ≡ false → least number_of table ≡ None
    → least number_of (a ∷ b ∷ c ∷ table) ≡ None
three_none a b c table ea eb ec none = rw (ea, eb, ec) none

module _ (past : Past) (es : Pairs) (n : ℕ) (a : Template) (ready : IsReady past es n a)
    (may : MayAddEntry es n (Aperture a)) where
  abbrev text : List ℕ
  text = definition_text n a

  fresh : is_taken_again past (numbered (template_form text)) ≡ false
  fresh = grind (arith, definition_form, sound, defined_again, ready)

  none : least number_of (faults past (Says (DefineAperture text))) ≡ None
  none = grind (arith, three_none, ready, fresh, definition_faultless, sound)

  stands : Stands (Says (DefineAperture text) ∷ past)
  stands = search (none, ready.0.stands)

  defines : defined past text ≡ (n, Aperture a) ∷ []
  defines = grind (arith, ready, stands, definition_again, sound)

  defined_behind : Between (Says (DefineAperture text) ∷ past) (es ++ (n, Aperture a) ∷ []) []
  defined_behind = grind (arith, ready, defines, macros_of, macros_more, stands)

pub aperture_added : (phrases : Phrases) (es : Pairs) → Between (said_by phrases) es [] → AreLow es → (n : ℕ) (a : Template)
    → MayAddEntry es n (Aperture a)
    → Between (said_by (with_entry phrases (n, Aperture a))) (es ++ (n, Aperture a) ∷ []) []
aperture_added phrases es between low n a may =
    defined_behind (said_by (with_macro n a phrases)) es n a (ready phrases es between low n a may) may

-- ---- each entry may join those before it

next_may : (es : Pairs) (e : ℕ × Entry) (more : Pairs) → IsSoundDictionary (es ++ e ∷ more) → MayAddEntry es e.0 e.1
next_may es e more sound =
    let all = es ++ e ∷ more in
    let within : length es < length all = omega (arith, length-append es (e ∷ more)) in
    let front : take (length es) all ≡ es = take-append-le (length es) es (e ∷ more) (omega arith) ∙ whole es in
    let here : get_or all (length es) e ≡ e = get_or-append_seam es e more e in
    subst (λ (p : Pairs × (ℕ × Entry)). MayAddEntry p.0 p.1.0 p.1.1) (λ i. (front i, here i))
    (sound (length es) e within)

-- ---- one after another

low_more : (es : Pairs) (e : ℕ × Entry) → AreLow es → e.0 ≤ 2147483647 → AreLow (es ++ e ∷ [])
low_more [] e low high = (high, tt)
low_more (f ∷ es) e low high = (low.0, low_more es e low.1 high)

entry_added : (phrases : Phrases) (es : Pairs) (e : ℕ × Entry) → Between (said_by phrases) es [] → AreLow es
    → MayAddEntry es e.0 e.1 → Between (said_by (with_entry phrases e)) (es ++ e ∷ []) []
entry_added phrases es (n, Aperture a) between low may = aperture_added phrases es between low n a may
entry_added phrases es (n, Block objects) between low may = block_added phrases es between n objects may

-- behind the format, the unit and the file attributes
begun : (attributes : List Attribute) → AreAttributes attributes → Between (said_by (opening attributes)) [] []
unfolding opening
begun attributes set =
    let o = opens attributes set in
    let stands : Stands (said_by (opening attributes)) = search o in search (stands, o)

-- behind all entries
pub entries_added : (attributes : List Attribute) (es : Pairs) → AreAttributes attributes → IsSoundDictionary es
    → Between (said_by (fold with_entry (opening attributes) es)) es []
entries_added attributes es set sound =
    (walk with_entry IsBehind es more (opening attributes) [] es refl (begun attributes set, tt)).0
  where
    IsBehind : Phrases → Pairs → Type 0
    IsBehind phrases front = Between (said_by phrases) front [] × AreLow front

    more : (phrases : Phrases) (front : Pairs) (e : ℕ × Entry) (rest : Pairs) → front ++ e ∷ rest ≡ es
        → IsBehind phrases front → IsBehind (with_entry phrases e) (front ++ e ∷ [])
    more phrases front e rest same h =
        let may = next_may front e rest (subst IsSoundDictionary (sym same) sound) in
        (entry_added phrases front e h.0 h.1 may, low_more front e h.1 may.greatest)
