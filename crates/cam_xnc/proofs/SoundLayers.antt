-- The layers that files give are sound.
use Rattle.std.proofs.Common.{◌≡◌, ℕ, ◌+◌, ◌<◌, ◌≤◌, List, [], ◌∷◌, ◌++◌, length, Bool, true, false, cond, not}
use Rattle.std.proofs.Common.{leb, Option, Some, None, arith, lit≤, is_some, is_none, length-append}
use Rattle.std.specs.Prelude.{ℤ, ◌&&◌, unwrap_or, IfSome}
use Rattle.std.specs.List.{All}
use Rattle.std.proofs.lemmas.Int.{ints}
use Rattle.std.proofs.lemmas.Bool.{and_parts, both_ways, false≢true, leb-true, leb-false, ltb-true, not-false, not_from_true, or_parts}
use Rattle.std.proofs.lemmas.List.Elements.{All-append, All-cons, All-nil, All-weaker}
use Rattle.std.proofs.lemmas.List.Sums.{sum_by-append}
use Rattle.cam_refusals.specs.declared.refusal.Refusal.{Refusal}
use Rattle.cam_refusals.specs.Checks.{Checks, first_holding}
use Rattle.cam_refusals.specs.Limits.{count_limit, leaf_limit}
use Rattle.cam_units.specs.Board.{IsOnBoard}
use Rattle.cam_units.specs.declared.length.Nm.{Nm}
use Rattle.cam_units.specs.declared.point.Point.{Point}
use Rattle.cam_objects.proofs.SoundItems.{meets_drill, sound_drill}
use Rattle.cam_objects.specs.declared.drill_item.DrillItem.{DrillItem}
use Rattle.cam_objects.specs.declared.drill_item.DrillItem.TheVariants.{Hit, Rout}
use Rattle.cam_objects.specs.Drilling.{diameter_of}
use Rattle.cam_objects.specs.DrillSoundness.{IsSoundDrillContent, IsSoundDrillItem, IsSoundTool, drill_count_of}
use Rattle.cam_objects.proofs.SoundDrilling.{distinct_more}
use Rattle.cam_xnc.specs.declared.modes.Mode.{Mode}
use Rattle.cam_xnc.specs.declared.statement.Coordinate.{Coordinate}
use Rattle.cam_xnc.specs.declared.statement.Statement.TheVariants.{Declare, Select, DrillMode, HitAt, Slot, RoutTo}
use Rattle.cam_xnc.specs.declared.statement.Statement.TheVariants.{Lower, CutTo, Raise}
use Rattle.cam_xnc.specs.DrillState.{DrillPast, drill_unit_in, drill_mode_in, tool_in_force, drill_point_in, length_nm, tools_in, rout_points_in, hit_of}
use Rattle.cam_xnc.specs.DrillState.{slot_start, slot_of, open_rout, drill_items_in, drilled_leaves}
use Rattle.cam_xnc.specs.Faults.{header_checks, body_checks, is_diameter, is_drilling, is_lowered, is_too_much}
use Rattle.cam_objects.specs.Soundness.{is_on_board}
use Rattle.cam_xnc.proofs.ToolNumbers.{IsToolNumber}

-- no tool is in force, or one of these
abbrev IsKnown : List (ℕ × Nm) → Option ℕ → Type 0
IsKnown tools None = Unit {0}
IsKnown tools (Some n) = is_some (diameter_of tools n) ≡ true

-- what faultless lines leave: sound tools and items, a last point, the points of the open rout, a mode and a tool in force
pub record IsSoundState (ts : List (ℕ × Nm)) (drilled : List DrillItem) (last : Point) (along : List Point) (mode : Mode)
    (number : Option ℕ) : Type 0 where
  pub layer : IsSoundDrillContent ts drilled
  pub at : IsOnBoard last
  pub points : All IsOnBoard along
  pub room : length along ≤ count_limit
  pub lowered : is_lowered mode ≡ true → (0 < length along) × (is_none number ≡ false)
  pub tool : IsKnown ts number

abbrev pub IsSoundPast : DrillPast → Type 0
IsSoundPast past = IsSoundState (tools_in past) (drill_items_in past) (drill_point_in past) (rout_points_in past) (drill_mode_in past) (tool_in_force past)

abbrev AllFail : Checks Refusal → Type 0
AllFail [] = Unit {0}
AllFail (check ∷ later) = (check.1 ≡ false) × AllFail later

pub fails : {A : Type 0} (b : Bool) (x : A) (o : Option A) → cond b (Some x) o ≡ None → (b ≡ false) × (o ≡ None)
fails b x o h = grind arith

-- the checks of a faultless line fail
passes : (list : Checks Refusal) → first_holding list ≡ None → AllFail list
passes [] h = tt
passes (check ∷ later) h = let both = fails check.1 check.0 (first_holding later) h in (both.0, passes later both.1)

none_of : {A : Type 0} (o : Option A) → is_some o ≡ false → o ≡ None
none_of o h = grind arith

one_more : {X : Type 0} (P : X → Type 0) (xs : List X) (x : X) → All P xs → P x → All P (xs ++ x ∷ [])
one_more P xs x all here = All-append P xs (x ∷ []) all (All-cons P x [] here (All-nil P))

known_more : (tools more : List (ℕ × Nm)) (n : ℕ) → is_some (diameter_of tools n) ≡ true → is_some (diameter_of (tools ++ more) n) ≡ true
known_more [] more n h = absurd cc
known_more (t ∷ ts) more n h = grind (arith, known_more ts more n)

sound_more : (tools more : List (ℕ × Nm)) (item : DrillItem) → IsSoundDrillItem tools item → IsSoundDrillItem (tools ++ more) item
sound_more tools more item h = grind (arith, meets_drill, sound_drill, known_more)

still_known : (tools more : List (ℕ × Nm)) (tool : Option ℕ) → IsKnown tools tool → IsKnown (tools ++ more) tool
still_known tools more tool h = grind (arith, known_more)

known_number : (tools : List (ℕ × Nm)) (tool : Option ℕ) → IsKnown tools tool → is_none tool ≡ false
    → is_some (diameter_of tools (unwrap_or tool 0)) ≡ true
known_number tools tool h some = grind arith

on_board : (p : Point) → not (is_on_board p) ≡ false → IsOnBoard p
on_board p h = grind (arith, and_parts, not-false, ltb-true)

-- a tool of this number and diameter is sound
sound_tool : (n : ℕ) (z : ℤ) → IsToolNumber n → not (is_diameter z) ≡ false → IsSoundTool n (record { 0 = z })
unfolding is_diameter
sound_tool n z number h = grind (arith, and_parts, not-false, leb-true, ints)

-- one item more, for which there is room
with_item : (past : DrillPast) (item : DrillItem) → IsSoundPast past → is_too_much past (drill_count_of item) ≡ false
    → IsSoundDrillItem (tools_in past) item → IsSoundDrillContent (tools_in past) (drill_items_in past ++ item ∷ [])
with_item past item s room sound =
    let sides = or_parts (leb count_limit (length (drill_items_in past))) (not (leb (drilled_leaves past + drill_count_of item) leaf_limit)) room in
    let few : length (drill_items_in past) < count_limit = leb-false count_limit (length (drill_items_in past)) sides.0 in
    let leaves : drilled_leaves past + drill_count_of item ≤ leaf_limit = leb-true _ leaf_limit (not-false _ sides.1) in
    record {
      tools = s.layer.tools;
      distinct = s.layer.distinct;
      items = one_more (IsSoundDrillItem (tools_in past)) (drill_items_in past) item s.layer.items sound;
      limits = record {
        few = omega (arith, few, length-append (drill_items_in past) (item ∷ []));
        leaves = omega (arith, leaves, sum_by-append drill_count_of (drill_items_in past) (item ∷ []));
      };
    }

-- the lines of the header
pub declare_step : (past : DrillPast) (number : Option ℕ) (diameter : Option ℤ) → IsSoundPast past
    → first_holding (header_checks past (Declare number diameter)) ≡ None → IfSome number IsToolNumber
    → IsSoundPast (Declare number diameter ∷ past)
declare_step past None diameter s h small = absurd cc
declare_step past (Some n) None s h small = absurd cc
declare_step past (Some n) (Some d) s h small =
    let pass = passes (header_checks past (Declare (Some n) (Some d))) h in
    let ts = tools_in past in
    let nm : Nm = record { 0 = length_nm (drill_unit_in past) d } in
    record {
      layer = record {
        tools = one_more (λ (e : ℕ × Nm). IsSoundTool e.0 e.1) ts (n, nm) s.layer.tools
            (sound_tool n (length_nm (drill_unit_in past) d) small pass.1.1.0);
        distinct = distinct_more ts n nm s.layer.distinct (none_of (diameter_of ts n) pass.1.1.1.0);
        items = All-weaker (IsSoundDrillItem ts) (IsSoundDrillItem (ts ++ (n, nm) ∷ [])) (sound_more ts ((n, nm) ∷ [])) (drill_items_in past)
            s.layer.items;
        limits = s.layer.limits;
      };
      at = s.at;
      points = s.points;
      room = s.room;
      lowered = s.lowered;
      tool = still_known ts ((n, nm) ∷ []) (tool_in_force past) s.tool;
    }

-- the lines of the body

chosen : (tools : List (ℕ × Nm)) (n : ℕ) (b : Bool) → (not b && not (is_some (diameter_of tools n))) ≡ false
    → IsKnown tools (cond b None (Some n))
chosen tools n b h = grind (arith, not-false)

pub select_step : (past : DrillPast) (number : Option ℕ) → IsSoundPast past → first_holding (body_checks past (Select number)) ≡ None
    → IsSoundPast (Select number ∷ past)
select_step past number s h = grind (arith, passes, both_ways, chosen)

pub drill_mode_step : (past : DrillPast) → IsSoundPast past → IsSoundPast (DrillMode ∷ past)
drill_mode_step past s = grind (arith, false≢true)

sound_hit : (tools : List (ℕ × Nm)) (n : ℕ) (p : Point) → is_some (diameter_of tools n) ≡ true → IsOnBoard p
    → IsSoundDrillItem tools (Hit n p)
sound_hit tools n p known on = grind (arith, sound_drill, All-cons, All-nil)

pub hit_step : (past : DrillPast) (x y : Coordinate) → IsSoundPast past → first_holding (body_checks past (HitAt x y)) ≡ None
    → IsSoundPast (HitAt x y ∷ past)
hit_step past x y s h =
    let pass = passes (body_checks past (HitAt x y)) h in
    let drilling = not-false (is_drilling (drill_mode_in past)) pass.1.1.1.1.1.0 in
    let at = drill_point_in (HitAt x y ∷ past) in
    let on = on_board at pass.1.0 in
    let known = known_number (tools_in past) (tool_in_force past) s.tool pass.1.1.1.0 in
    record {
      layer = with_item past (hit_of past at) s (rw drilling at pass.1.1.0)
          (sound_hit (tools_in past) (unwrap_or (tool_in_force past) 0) at known on);
      at = on;
      points = s.points;
      room = s.room;
      lowered = s.lowered;
      tool = s.tool;
    }

sound_rout : (tools : List (ℕ × Nm)) (n : ℕ) (ps : List Point) → is_some (diameter_of tools n) ≡ true → 0 < length ps
    → All IsOnBoard ps → length ps ≤ count_limit → IsSoundDrillItem tools (Rout n ps)
sound_rout tools n ps known some on few = grind (arith, sound_drill)

pub slot_step : (past : DrillPast) (start_x start_y end_x end_y : Coordinate) → IsSoundPast past
    → first_holding (body_checks past (Slot start_x start_y end_x end_y)) ≡ None → IsSoundPast (Slot start_x start_y end_x end_y ∷ past)
slot_step past start_x start_y end_x end_y s h =
    let pass = passes (body_checks past (Slot start_x start_y end_x end_y)) h in
    let drilling = not-false (is_drilling (drill_mode_in past)) pass.1.1.1.1.1.0 in
    let start = slot_start past start_x start_y in
    let end = drill_point_in (Slot start_x start_y end_x end_y ∷ past) in
    let on = and_parts (is_on_board start) (is_on_board end) (not-false (is_on_board start && is_on_board end) pass.1.0) in
    let first_on = on_board start (not_from_true (is_on_board start) on.0) in
    let last_on = on_board end (not_from_true (is_on_board end) on.1) in
    let known = known_number (tools_in past) (tool_in_force past) s.tool pass.1.1.1.0 in
    record {
      layer = with_item past (slot_of past start end) s (rw drilling at pass.1.1.0)
          (sound_rout (tools_in past) (unwrap_or (tool_in_force past) 0) (start ∷ end ∷ []) known (omega arith)
          (All-cons IsOnBoard start (end ∷ []) first_on (All-cons IsOnBoard end [] last_on (All-nil IsOnBoard))) (lit≤ tt));
      at = last_on;
      points = s.points;
      room = s.room;
      lowered = s.lowered;
      tool = s.tool;
    }

pub rout_step : (past : DrillPast) (x y : Coordinate) → IsSoundPast past → first_holding (body_checks past (RoutTo x y)) ≡ None
    → IsSoundPast (RoutTo x y ∷ past)
rout_step past x y s h = grind (arith, on_board, passes, false≢true)

pub lower_step : (past : DrillPast) → IsSoundPast past → first_holding (body_checks past Lower) ≡ None → IsSoundPast (Lower ∷ past)
lower_step past s h = grind (arith, All-cons, All-nil, passes)

pub cut_step : (past : DrillPast) (x y : Coordinate) → IsSoundPast past → first_holding (body_checks past (CutTo x y)) ≡ None
    → IsSoundPast (CutTo x y ∷ past)
cut_step past x y s h =
    let pass = passes (body_checks past (CutTo x y)) h in
    let lowered = not-false (is_lowered (drill_mode_in past)) pass.1.1.1.1.0 in
    let on = on_board (drill_point_in (CutTo x y ∷ past)) pass.1.0 in
    let short : length (rout_points_in past) < count_limit =
    leb-false count_limit (length (rout_points_in past)) (rw lowered at pass.1.1.0) in
    let size = length-append (rout_points_in past) (drill_point_in (CutTo x y ∷ past) ∷ []) in
    record {
      layer = s.layer;
      at = on;
      points = one_more IsOnBoard (rout_points_in past) (drill_point_in (CutTo x y ∷ past)) s.points on;
      room = omega (arith, short, size);
      lowered = λ low. (omega (arith, size), (s.lowered lowered).1);
      tool = s.tool;
    }

pub raise_step : (past : DrillPast) → IsSoundPast past → first_holding (body_checks past Raise) ≡ None → IsSoundPast (Raise ∷ past)
raise_step past s h =
    let pass = passes (body_checks past Raise) h in
    let lowered = not-false (is_lowered (drill_mode_in past)) pass.1.0 in
    let known = known_number (tools_in past) (tool_in_force past) s.tool (s.lowered lowered).1 in
    record {
      layer = with_item past (open_rout past) s (rw lowered at pass.0)
          (sound_rout (tools_in past) (unwrap_or (tool_in_force past) 0) (rout_points_in past) known (s.lowered lowered).0 s.points s.room);
      at = s.at;
      points = All-nil IsOnBoard;
      room = lit≤ tt;
      lowered = λ low. absurd (false≢true low);
      tool = s.tool;
    }
