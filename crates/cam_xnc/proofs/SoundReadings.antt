-- The layer of a file is sound: each of its lines keeps the layer so.
use Rattle.std.proofs.Common.{arith, ◌≡◌, ℕ, List, [], ◌∷◌, Bool, true, false, cond, Option, Some, None, Result, Ok, Err, refl}
use Rattle.std.proofs.Common.{sym, subst, nat_eq}
use Rattle.std.specs.List.{IsDistinct}
use Rattle.std.proofs.lemmas.Bool.{false≢true}
use Rattle.std.proofs.lemmas.List.Elements.{All-nil}
use Rattle.cam_refusals.specs.declared.read_fault.ReadFault.{ReadFault}
use Rattle.cam_refusals.specs.declared.refusal.Refusal.{Refusal}
use Rattle.cam_refusals.specs.Checks.{first_holding}
use Rattle.cam_objects.specs.Contents.{DrillContent}
use Rattle.cam_objects.specs.DrillSoundness.{IsSoundDrillContent}
use Rattle.cam_xnc.specs.declared.modes.Part.{Part}
use Rattle.cam_xnc.specs.declared.modes.Part.TheVariants.{Start, Header, Body}
use Rattle.cam_xnc.specs.declared.statement.Statement.{Statement}
use Rattle.cam_xnc.specs.declared.statement.Statement.TheVariants.{BeginHeader, SetUnit, Declare, Neutral, EndHeader, Select}
use Rattle.cam_xnc.specs.declared.statement.Statement.TheVariants.{DrillMode, HitAt, Slot, RoutTo, Lower, CutTo, Raise, End}
use Rattle.cam_xnc.specs.Lines.{FoundLine}
use Rattle.cam_xnc.specs.DrillState.{DrillPast, drill_layer_in}
use Rattle.cam_xnc.specs.Faults.{checks_by}
use Rattle.cam_xnc.specs.Reading.{is_told, line_place, line_said, is_last_line, line_checks, drill_layer_unless}
use Rattle.cam_xnc.specs.Laws.{GivesSoundDrillLayers}
use Rattle.cam_xnc.proofs.Readings.{goes_by, goes_on, goes_over, reading_goes_on, unless_refused}
use Rattle.cam_xnc.proofs.ToolNumbers.{HasToolNumber, has_tool_number}
use Rattle.cam_xnc.proofs.SoundLayers.{IsSoundPast, fails, declare_step, select_step, drill_mode_step, hit_step, slot_step}
use Rattle.cam_xnc.proofs.SoundLayers.{rout_step, lower_step, cut_step, raise_step}

-- a list of one check that holds
told_one : {refusal : Refusal} → Some refusal ≡ None → ⊥
told_one e = absurd cc

step : (part : Part) (past : DrillPast) (says : Statement) → IsSoundPast past → HasToolNumber says
    → first_holding (checks_by part past says) ≡ None → IsSoundPast (says ∷ past)
step Start past BeginHeader s n h = s
step Start past _ s n h = absurd (told_one h)
step Header past (SetUnit unit) s n h = s
step Header past (Declare number diameter) s n h = declare_step past number diameter s h n
step Header past Neutral s n h = s
step Header past EndHeader s n h = s
step Header past _ s n h = absurd (told_one h)
step Body past Neutral s n h = s
step Body past (Select number) s n h = select_step past number s h
step Body past DrillMode s n h = drill_mode_step past s
step Body past (HitAt x y) s n h = hit_step past x y s h
step Body past (Slot start_x start_y end_x end_y) s n h = slot_step past start_x start_y end_x end_y s h
step Body past (RoutTo x y) s n h = rout_step past x y s h
step Body past Lower s n h = lower_step past s h
step Body past (CutTo x y) s n h = cut_step past x y s h
step Body past Raise s n h = raise_step past s h
step Body past End s n h = s
step Body past _ s n h = absurd (told_one h)

no_keys : IsDistinct nat_eq []
unfolding IsDistinct
no_keys = tt

at_start : IsSoundPast []
at_start = grind (arith, All-nil, no_keys, false≢true)

-- what a line without a fault leaves
line_step : (past : DrillPast) (line : FoundLine) → IsSoundPast past → first_holding (line_checks past line) ≡ None → IsSoundPast (line_said line ∷ past)
line_step past line s e = grind (arith, step, has_tool_number, fails)

abbrev IsSoundContent : DrillContent → Type 0
IsSoundContent content = IsSoundDrillContent content.tools content.items

abbrev IsSoundReading : Result DrillContent ReadFault → Type 0
IsSoundReading (Ok content) = IsSoundContent content
IsSoundReading (Err fault) = Unit {0}

sound_unless : (o : Option ReadFault) (past : DrillPast) → IsSoundPast past → IsSoundReading (drill_layer_unless o (drill_layer_in past))
sound_unless o past s = grind arith

-- a line that says something
sound_by : (past : DrillPast) (line : FoundLine) (more : Result DrillContent ReadFault) → IsSoundPast past
    → (IsSoundPast (line_said line ∷ past) → IsSoundReading more)
    → IsSoundReading (unless_refused (line_place line) (first_holding (line_checks past line)) (cond (is_last_line line) (Ok (drill_layer_in (line_said line ∷ past))) more))
sound_by past line more s goes = by (first_holding (line_checks past line)) refl (is_last_line line)
  where
    by : (o : Option Refusal) → first_holding (line_checks past line) ≡ o → (ends : Bool)
        → IsSoundReading (unless_refused (line_place line) o (cond ends (Ok (drill_layer_in (line_said line ∷ past))) more))
    by (Some refusal) e ends = tt
    by None e true = (line_step past line s e).layer
    by None e false = goes (line_step past line s e)

sound_from : (len : ℕ) (lines : List FoundLine) (past : DrillPast) → IsSoundPast past → IsSoundReading (goes_on len past lines)
sound_from len [] past s = sound_unless _ past s
sound_from len (line ∷ lines) past s =
    (elim (is_told line) as (λ b. is_told line ≡ b → IsSoundReading (goes_on len past (line ∷ lines))) [
      | true ↦ λ h. subst IsSoundReading (sym (goes_by len past line lines h))
          (sound_by past line (goes_on len (line_said line ∷ past) lines) s (λ sound. sound_from len lines (line_said line ∷ past) sound))
      | false ↦ λ h. subst IsSoundReading (sym (goes_over len past line lines h)) (sound_from len lines past s)
    ]) refl

pub reading_is_sound : GivesSoundDrillLayers
reading_is_sound bytes layer e = grind (arith, reading_goes_on, sound_from, at_start)
