-- Each statement without a fault leaves what is in hand sound.
use Rattle.std.proofs.Common.{◌≡◌, ℕ, ◌+◌, ◌*◌, ◌<◌, List, [], ◌∷◌, ◌++◌, drop, length, map, Bool, true, false}
use Rattle.std.proofs.Common.{cond, Option, Some, None, nat_eq, refl, arith, lit≤}
use Rattle.std.specs.Prelude.{◌||◌, ◌&&◌, not, IfSome, unsigned_abs}
use Rattle.std.specs.Option.{option_map}
use Rattle.std.specs.List.{AllByRecursion, list_any}
use Rattle.std.specs.Map.{lookup}
use Rattle.std.proofs.lemmas.Bool.{and_parts, ltb-true, or_parts}
use Rattle.std.proofs.lemmas.List.Elements.{All-nil}
use Rattle.cam_refusals.specs.Checks.{least}
use Rattle.cam_refusals.specs.Refusals.{number_of}
use Rattle.cam_units.specs.Board.{IsOnBoard}
use Rattle.cam_macros.specs.declared.aperture_macro.Macro.{Macro}
use Rattle.cam_units.specs.declared.length.Unit.{Unit as FileUnit}
use Rattle.cam_apertures.specs.Definition.{Definition, template_form, numbered}
use Rattle.cam_objects.specs.declared.entry.Entry.TheVariants.{Block}
use Rattle.cam_objects.specs.declared.object.Object.{Object}
use Rattle.cam_commands.specs.declared.names.FreeText.TheVariants.{FileAttribute, ApertureAttribute, ObjectAttribute}
use Rattle.cam_commands.specs.declared.names.FreeText.TheVariants.{DeleteAttribute, ImageName, LoadName}
use Rattle.cam_commands.specs.declared.parts.Operation.{Operation}
use Rattle.cam_commands.specs.declared.parts.Repeat.{Repeat}
use Rattle.cam_commands.specs.Commands.{SetFormat, RefusedFormat, SetUnit, DefineAperture, DefineMacro, SetPolarity}
use Rattle.cam_commands.specs.Commands.{SetMirror, SetRotation, SetScale, OpenBlock, CloseBlock, SetRepeat, CloseRepeat}
use Rattle.cam_commands.specs.Commands.{KeepText, NeutralOld, RefusedOld, SetMode, SingleQuadrant, MultiQuadrant}
use Rattle.cam_commands.specs.Commands.{BeginRegion, EndRegion, Nothing, Select, Operate, End, Unknown}
use Rattle.cam_gerber.specs.Statements.{Statement, Says, NamesMacro, Uncut}
use Rattle.cam_gerber.specs.State.{Past, arc_centre, code_of, in_region, mode_in, point_in, unit_in}
use Rattle.cam_units.specs.Nearest.{unit_or_mm}
use Rattle.cam_gerber.specs.Homes.{InBlock, InRepeat, copies_written, has_copies, open_blocks, open_repeat, repeat_opened, step_written}
use Rattle.cam_gerber.specs.Making.{made, home_objects, region_ended, segments_in, start_in}
use Rattle.cam_gerber.specs.Layers.{closed_block, closed_leaves, closed_repeat, defined, defined_by, entries_in}
use Rattle.cam_gerber.specs.Layers.{items_in, leaves_in, home_leaves, macros_in}
use Rattle.cam_gerber.specs.Faults.{faults, has_steps_on_board, holds_of_one, is_defined, is_left_out, is_layer_full}
use Rattle.cam_gerber.specs.Faults.{is_outside, is_taken, is_taken_again}
use Rattle.cam_gerber.specs.Laws.{IsFaultless}
use Rattle.cam_gerber.specs.Machinery.OpenNumbers.{IsEntryNumber, StatesWithin}
use Rattle.cam_gerber.proofs.Least.{pass_least}
use Rattle.cam_gerber.proofs.Pasts.{AreFree, none_of, stay_apart, unused}
use Rattle.cam_gerber.proofs.UnusedRepeats.{unused_repeat}
use Rattle.cam_gerber.proofs.SoundParts.{Pairs, IsSoundOpen, IsSoundRepeated, IsMade, closed}
use Rattle.cam_gerber.proofs.SoundContours.{turned}
use Rattle.cam_gerber.proofs.SoundDefinitions.{sound_definition}
use Rattle.cam_gerber.proofs.JoiningParts.{told}
use Rattle.cam_gerber.proofs.SoundViews.{IsBlockView, IsRepeatView, IsSoundView, RepeatView, View, block_at, defines}
use Rattle.cam_gerber.proofs.SoundViews.{grown, made_blocks, made_layer, made_repeat, repeat_at, settles, view}
use Rattle.cam_gerber.proofs.SoundMaking.{done, fit_region}

abbrev pub Sound : Past → Type 0
Sound past = IsSoundView (view past)

-- ---- objects

operates : (past : Past) (operation : Operation) → Sound past → least number_of (faults past (Says (Operate operation))) ≡ None
    → Sound (Says (Operate operation) ∷ past)
operates past operation s h =
    let now = Says (Operate operation) ∷ past in
    let pass = pass_least (faults past (Says (Operate operation))) h in
    let d = done (code_of operation) (in_region past) past operation s pass.1.1.1.1 in
    let more = made past (Says (Operate operation)) in
    record {
      dictionary = s.dictionary;
      built = made_layer past more d.fit s.built;
      blocks = made_blocks past more d.fit (open_blocks past) s.blocks;
      repeat = made_repeat past more d.fit (open_repeat past) s.repeat;
      aperture = s.aperture;
      point = d.to_on;
      contour = turned (in_region past) (code_of operation) (mode_in now) (start_in past) (point_in past) (point_in now)
          (arc_centre past operation) (segments_in past) s.contour d.turn;
    }

ends_region : (past : Past) → Sound past → least number_of (faults past (Says EndRegion)) ≡ None → Sound (Says EndRegion ∷ past)
ends_region past s h =
    let pass = pass_least (faults past (Says EndRegion)) h in
    let fit = fit_region past s.contour.sound pass.1.0 in
    record {
      dictionary = s.dictionary;
      built = made_layer past (region_ended past) fit s.built;
      blocks = made_blocks past (region_ended past) fit (open_blocks past) s.blocks;
      repeat = made_repeat past (region_ended past) fit (open_repeat past) s.repeat;
      aperture = s.aperture;
      point = s.point;
      contour = record {
        sound = record { start_on = s.contour.sound.start_on; segs_on = All-nil IsOnBoard; radii = refl; few = lit≤ tt };
        ends = λ r. absurd (let wrong : false ≡ true = r in cc);
      };
    }

begins_region : (past : Past) → Sound past → Sound (Says BeginRegion ∷ past)
begins_region past s = grind (arith, All-nil)

selects : (past : Past) (number : Option ℕ) → Sound past → least number_of (faults past (Says (Select number))) ≡ None
    → Sound (Says (Select number) ∷ past)
selects past number s h = grind (arith, pass_least, told)

-- ---- blocks

no_objects : (es : Pairs) (objects : List Object) (leaves : ℕ) → objects ≡ [] → leaves ≡ 0 → IsSoundOpen es objects leaves
no_objects es objects leaves e k = grind (arith, IsSoundOpen, All-nil)

opens : (past : Past) (number : Option ℕ) → IfSome number IsEntryNumber → Sound past
    → least number_of (faults past (Says (OpenBlock number))) ≡ None → Sound (Says (OpenBlock number) ∷ past)
opens past number within s h = grind (arith, pass_least, unused, no_objects)

-- what is in hand behind a close of the innermost of these blocks
abbrev closed_view : Past → List ℕ → View
closed_view past ns = record (view past) { entries = entries_in past ++ closed_block past ns; blocks = map (block_at past) (drop 1 ns) }

closes_at : (past : Past) (ns : List ℕ) → is_left_out ns ≡ false → AreFree (entries_in past) ns
    → AllByRecursion (IsBlockView (entries_in past)) (map (block_at past) ns) → Sound past
    → IsSoundView (closed_view past ns)
closes_at past [] some free blocks s = absurd cc
closes_at past (n ∷ ns) some free blocks s =
    let rest : IsSoundView (record (view past) { blocks = map (block_at past) ns }) = record {
      dictionary = s.dictionary;
      built = s.built;
      blocks = blocks.1;
      repeat = s.repeat;
      aperture = s.aperture;
      point = s.point;
      contour = s.contour;
    } in
    grown (record (view past) { blocks = map (block_at past) ns }) n (Block (home_objects (InBlock n) past))
    (record {
      least = blocks.0.0.0;
      greatest = blocks.0.0.1;
      absent = none_of (lookup (nat_eq n) (entries_in past)) free.0;
      sound = closed (entries_in past) (home_objects (InBlock n) past) (home_leaves (InBlock n) past) blocks.0.1;
    })
    rest

closes : (past : Past) → IsFaultless past → Sound past → least number_of (faults past (Says CloseBlock)) ≡ None → Sound (Says CloseBlock ∷ past)
closes past faultless s h = grind (arith, pass_least, closes_at, or_parts, stay_apart)

-- ---- definitions

pub defined_free : (past : Past) (d : Option Definition) (macros : List Macro) (unit : FileUnit) → is_taken_again past (numbered d) ≡ false
    → AllByRecursion (λ e. is_taken past e.0 ≡ false) (defined_by d macros unit)
defined_free past d macros unit h = grind arith

pub all_absent : (past : Past) (more : Pairs) → AllByRecursion (λ e. is_taken past e.0 ≡ false) more
    → AllByRecursion (λ e. lookup (nat_eq e.0) (entries_in past) ≡ None) more
all_absent past [] h = tt
all_absent past (e ∷ more) h = (
  none_of (lookup (nat_eq e.0) (entries_in past))
      (or_parts (is_defined past e.0) (list_any (λ m. nat_eq m e.0) (open_blocks past)) h.0).0,
  all_absent past more h.1,
)

defines_at : (past : Past) (text : List ℕ) → Sound past → least number_of (faults past (Says (DefineAperture text))) ≡ None
    → Sound (Says (DefineAperture text) ∷ past)
defines_at past text s h =
    let pass = pass_least (faults past (Says (DefineAperture text))) h in
    let unit = unit_or_mm (unit_in past) in
    defines (view past) (defined past text) (sound_definition (template_form text) (macros_in past) unit pass.1.1.1)
    (all_absent past (defined past text) (defined_free past (template_form text) (macros_in past) unit pass.1.0)) s

-- ---- repeats

-- what closes a repeat, with what is then open
abbrev settled_view : Past → Option RepeatView → View
settled_view past r =
    record (view past) { items = items_in past ++ closed_repeat past; leaves = leaves_in past + closed_leaves past; repeat = r }

settles_to : (past : Past) (r : Option RepeatView) (short : Bool)
    → (not short || holds_of_one (is_outside past) (closed_repeat past)) ≡ false
    → (not (is_left_out (closed_repeat past)) && is_layer_full past (closed_leaves past)) ≡ false → IsRepeatView (entries_in past) r
    → Sound past → IsSoundView (settled_view past r)
settles_to past r short out full repeat s = grind (arith, settles, or_parts)

no_repeated : (es : Pairs) (objects : List Object) (leaves : ℕ) → objects ≡ [] → leaves ≡ 0 → IsSoundRepeated es objects leaves
no_repeated es objects leaves e k = grind (arith, IsSoundRepeated, All-nil, IsMade)

short_steps : (past : Past) (repeat : Repeat) → has_steps_on_board past repeat ≡ true
    → (unsigned_abs (step_written past repeat.i) < 1000000000) × (unsigned_abs (step_written past repeat.j) < 1000000000)
short_steps past repeat h = grind (arith, and_parts, ltb-true)

repeats : (past : Past) (repeat : Repeat) → Sound past → least number_of (faults past (Says (SetRepeat repeat))) ≡ None
    → Sound (Says (SetRepeat repeat) ∷ past)
repeats past repeat s h =
    let pass = pass_least (faults past (Says (SetRepeat repeat))) h in
    let closing = pass.1.1.1.1 in
    let none = unused_repeat past (length past) (omega arith) in
    let steps = short_steps past repeat
    (told (has_steps_on_board past repeat)
    (or_parts (not (has_steps_on_board past repeat)) (holds_of_one (is_outside past) (closed_repeat past)) closing.0).0) in
    settles_to past (option_map (repeat_at (Says (SetRepeat repeat) ∷ past)) (open_repeat (Says (SetRepeat repeat) ∷ past)))
    (has_steps_on_board past repeat) closing.0 closing.1.0
    (by (has_copies repeat) refl
    (no_repeated (entries_in past) (home_objects (InRepeat (length past)) past)
    (home_leaves (InRepeat (length past)) past) none.objects none.leaves) steps) s
  where
    by : (b : Bool) → has_copies repeat ≡ b
        → IsSoundRepeated (entries_in past) (home_objects (InRepeat (length past)) past) (home_leaves (InRepeat (length past)) past)
        → (unsigned_abs (step_written past repeat.i) < 1000000000) × (unsigned_abs (step_written past repeat.j) < 1000000000)
        → IsRepeatView (entries_in past) (option_map (repeat_at (Says (SetRepeat repeat) ∷ past)) (cond b (Some (repeat_opened past repeat)) None))
    by true is none steps =
        (record { copies = ltb-true 1 (copies_written repeat.columns * copies_written repeat.rows) is; steps_i = steps.0; steps_j = steps.1 }, none)
    by false is none steps = tt

closes_repeat : (past : Past) → Sound past → least number_of (faults past (Says CloseRepeat)) ≡ None → Sound (Says CloseRepeat ∷ past)
closes_repeat past s h = let pass = pass_least (faults past (Says CloseRepeat)) h in settles_to past None true pass.1.0 pass.1.1.0 tt s

ends : (past : Past) → Sound past → least number_of (faults past (Says End)) ≡ None → Sound (Says End ∷ past)
ends past s h = let pass = pass_least (faults past (Says End)) h in settles_to past None true pass.1.0 pass.1.1.0 tt s

-- ---- any statement

pub sound_step : (past : Past) (says : Statement) → StatesWithin says → IsFaultless past → Sound past
    → least number_of (faults past says) ≡ None → Sound (says ∷ past)
sound_step past (Says (DefineAperture text)) within a s h = defines_at past text s h
sound_step past (Says (OpenBlock number)) within a s h = opens past number within s h
sound_step past (Says CloseBlock) within a s h = closes past a s h
sound_step past (Says (SetRepeat repeat)) within a s h = repeats past repeat s h
sound_step past (Says CloseRepeat) within a s h = closes_repeat past s h
sound_step past (Says End) within a s h = ends past s h
sound_step past (Says BeginRegion) within a s h = begins_region past s
sound_step past (Says EndRegion) within a s h = ends_region past s h
sound_step past (Says (Select number)) within a s h = selects past number s h
sound_step past (Says (Operate operation)) within a s h = operates past operation s h
sound_step past (Says (SetFormat format)) within a s h = s
sound_step past (Says RefusedFormat) within a s h = s
sound_step past (Says (SetUnit unit style)) within a s h = s
sound_step past (Says (DefineMacro text)) within a s h = s
sound_step past (Says (SetPolarity polarity)) within a s h = s
sound_step past (Says (SetMirror mirroring)) within a s h = s
sound_step past (Says (SetRotation angle)) within a s h = s
sound_step past (Says (SetScale scale)) within a s h = s
sound_step past (Says (KeepText FileAttribute text)) within a s h = s
sound_step past (Says (KeepText ApertureAttribute text)) within a s h = s
sound_step past (Says (KeepText ObjectAttribute text)) within a s h = s
sound_step past (Says (KeepText DeleteAttribute text)) within a s h = s
sound_step past (Says (KeepText ImageName text)) within a s h = s
sound_step past (Says (KeepText LoadName text)) within a s h = s
sound_step past (Says NeutralOld) within a s h = s
sound_step past (Says (RefusedOld style)) within a s h = s
sound_step past (Says (SetMode mode)) within a s h = s
sound_step past (Says SingleQuadrant) within a s h = s
sound_step past (Says MultiQuadrant) within a s h = s
sound_step past (Says Nothing) within a s h = s
sound_step past (Says Unknown) within a s h = s
sound_step past (NamesMacro name parts) within a s h = s
sound_step past (Uncut code) within a s h = s

pub at_start : Sound []
at_start = grind (arith, All-nil, ends)
