-- Flashes, draws, arcs and regions of canonical texts, behind the settings that they want.
use Rattle.std.proofs.Common.{◌≡◌, ℕ, [], ◌∷◌, ◌++◌, Bool, true, false, Option, Some, None, refl, ap, ◌∙◌, ◌+◌, ◌<◌}
use Rattle.std.proofs.Common.{◌≤◌, List, length, sym, ap₂, subst, arith, append-nil, append_assoc, length-append}
use Rattle.std.specs.Prelude.{◌||◌, not, is_none, unwrap_or, nat_le}
use Rattle.std.specs.List.{All, flat_map}
use Rattle.std.proofs.lemmas.Bool.{and_parts, lt-leb}
use Rattle.std.proofs.lemmas.List.Elements.{All-head, All-tail}
use Rattle.cam_refusals.specs.declared.refusal.Refusal.{Refusal}
use Rattle.cam_refusals.specs.declared.refusal.Refusal.TheVariants.{NoneSelected, OutOfBoard, TooMuch, WrongAperture}
use Rattle.cam_refusals.specs.Checks.{Checks, least}
use Rattle.cam_refusals.specs.Refusals.{number_of}
use Rattle.cam_units.specs.declared.point.Point.{Point}
use Rattle.cam_units.specs.declared.turn.Turn.{Turn}
use Rattle.cam_units.specs.Board.{IsOnBoard}
use Rattle.cam_shapes.specs.Contour.{end_of}
use Rattle.cam_shapes.specs.declared.segments.Seg.{Seg}
use Rattle.cam_shapes.specs.declared.segments.Seg.TheVariants.{Line, Curve}
use Rattle.cam_objects.specs.Leaves.{meaning_in}
use Rattle.cam_objects.specs.declared.object.Object.{Object}
use Rattle.cam_objects.specs.declared.object.Object.TheVariants.{Flash, Draw, Arc, Region}
use Rattle.cam_commands.specs.declared.parts.Slot.TheVariants.{Omitted}
use Rattle.cam_commands.specs.declared.parts.Mode.{Mode}
use Rattle.cam_commands.specs.declared.parts.OperationCode.TheVariants.{Flash as FlashCode, Plot, Move}
use Rattle.cam_gerber.specs.State.{Past, aperture_in, dark_in, mode_in, point_in, turn_in, arc_centre, has_arcs}
use Rattle.cam_gerber.specs.State.{in_region, code_of}
use Rattle.cam_gerber.specs.Homes.{Home, home}
use Rattle.cam_gerber.specs.Making.{flash_of, made, segment, stroke, stroke_of, number_in, region_by, region_ended}
use Rattle.cam_gerber.specs.Making.{segments_in, start_in}
use Rattle.cam_gerber.specs.Faults.{can_draw, faults, is_arc, is_full, is_outside, is_outside_at}
use Rattle.cam_objects.specs.Soundness.{is_on_board, have_radii, is_apart, points_of_seg}
use Rattle.cam_gerber.specs.Faults.{is_unfit, plot_faults, holds_of_one}
use Rattle.cam_writers.specs.Phrases.{FlashAt, said, EnterRegion, MoveTo, UseMode}
use Rattle.cam_writers.proofs.GerberPlaces.{Joined, Kept, Stands, as_before, grown_by, grown_on, kept_all, kept_on, same_home}
use Rattle.cam_writers.proofs.GerberPlaces.{same_mode}
use Rattle.cam_writers.proofs.Walks.{either}
use Rattle.cam_writers.proofs.GerberPlots.{scales, operation, on_board_after, point_after, unrefused, MayPlot, curved}
use Rattle.cam_writers.proofs.GerberPlots.{curves, path_none, plot_along, plot_to, plot_unrefused, segment_again}
use Rattle.cam_writers.proofs.GerberPlots.{Scales, IsPlottable, end_is, mode_of, segment_is_plot}
use Rattle.cam_shapes.specs.declared.contour.Contour.{Contour}
use Rattle.cam_objects.proofs.SoundItems.{HaveRadii}
use Rattle.cam_commands.specs.declared.parts.Operation.{Operation}
use Rattle.cam_commands.specs.Commands.{BeginRegion, EndRegion, SetMode, Operate}
use Rattle.cam_gerber.specs.Statements.{Says}
use Rattle.cam_gerber.specs.Laws.{IsFaultless}
use Rattle.cam_writers.specs.GerberTexts.{Phrases, is_same_mode, said_by, with_contour, with_mode, with_segment, with_segments}

-- ---- what a home says of an object, where all is kept

module _ (older newer : Past) (k : Kept older newer) (object : Object) where
  full_at : (h : Home) → is_full h newer object ≡ is_full h older object
  full_at h = grind (arith, as_before)

  pub full_kept : is_full (home newer) newer object ≡ is_full (home older) older object
  full_kept = full_at (home newer) ∙ ap (λ h. is_full h older object) (same_home older newer [] k)

  outside_at : (h : Home) → is_outside_at h newer object ≡ is_outside_at h older object
  unfolding is_outside
  outside_at h = grind arith

  pub outside_kept : is_outside_at (home newer) newer object ≡ is_outside_at (home older) older object
  outside_kept = outside_at (home newer) ∙ ap (λ h. is_outside_at h older object) (same_home older newer [] k)

-- ---- flashes

flash_none : (aperture : Option ℕ) (on outside full : Bool) (n : ℕ) → aperture ≡ Some n → on ≡ true
    → outside ≡ false → full ≡ false
    → least number_of ((NoneSelected, is_none aperture) ∷ (OutOfBoard, not on || outside) ∷ (TooMuch, full) ∷ []) ≡ None
flash_none aperture on outside full n a b c d = rw (a, b, c, d) refl

pub flash_made : (older past : Past) (n : ℕ) (at : Point) (turn : Turn) (dark : Bool) → Stands past → Kept older past
    → aperture_in past ≡ Some n → turn_in past ≡ turn → dark_in past ≡ dark → IsOnBoard at
    → is_outside_at (home older) older (Flash n at turn dark) ≡ false
    → is_full (home older) older (Flash n at turn dark) ≡ false
    → Joined older (said (FlashAt at) ∷ past) (Flash n at turn dark ∷ [])
flash_made older past n at turn dark s k aperture turned darkened on inside room =
    let flash : Object = Flash n at turn dark in
    let scaled = scales past s in
    let now = said (FlashAt at) ∷ past in
    let there : point_in now ≡ at = point_after past at Omitted Omitted FlashCode scaled in
    let made_flash = flash_of past (operation at Omitted Omitted FlashCode) in
    let same : made_flash ≡ flash = λ i. Flash (unwrap_or (aperture i) 0) (there i) (turned i) (darkened i) in
    let outside : is_outside_at (home past) past made_flash ≡ false =
    ap (is_outside_at (home past) past) same ∙ outside_kept older past k flash ∙ inside in
    let full : is_full (home past) past made_flash ≡ false =
    ap (is_full (home past) past) same ∙ full_kept older past k flash ∙ room in
    let none : least number_of (faults past (said (FlashAt at))) ≡ None =
    unrefused past at Omitted Omitted FlashCode false scaled refl refl s.region
    (flash_none (aperture_in past) (is_on_board (point_in now)) _ _ n aperture
    (on_board_after past at Omitted Omitted FlashCode scaled on) outside full) in
    let stands : Stands now = search (none, s) in
    record {
      stands = stands;
      grown = grown_on older past now [] (flash ∷ []) k (grown_by past (said (FlashAt at)) (flash ∷ []) tt (ap (λ o. o ∷ []) same));
    }

-- ---- draws and arcs

-- a stroke along a segment; an arc has no turn
abbrev pub stroke_along : ℕ → Point → Seg → Turn → Bool → Object
stroke_along n from (Line to) turn dark = Draw n from to turn dark
stroke_along n from (Curve to centre ccw) turn dark = Arc ccw dark n from to centre

by_segment : (mode : Mode) (n : ℕ) (from to centre : Point) (turn : Turn) (dark : Bool)
    → stroke mode n from to centre turn dark ≡ stroke_along n from (segment mode to centre) turn dark
by_segment mode n from to centre turn dark = grind arith

stroke_none : (aperture : Option ℕ) (unfit : Option ℕ → Bool) (path : Checks Refusal) (full : Bool) (n : ℕ)
    → aperture ≡ Some n → unfit (Some n) ≡ false
    → least number_of (path ++ (TooMuch, full) ∷ []) ≡ least number_of ((TooMuch, full) ∷ []) → full ≡ false
    → least number_of ((NoneSelected, is_none aperture) ∷ (WrongAperture, unfit aperture) ∷ (path ++ (TooMuch, full) ∷ [])) ≡ None
stroke_none aperture unfit path full n a b c d = rw (a, b, c, d) refl

pub stroke_made : (older past : Past) (n : ℕ) (from : Point) (seg : Seg) (turn : Turn) (dark : Bool) → Stands past
    → Kept older past → aperture_in past ≡ Some n → turn_in past ≡ turn → dark_in past ≡ dark → MayPlot past from seg
    → is_unfit older (curves seg) (Some n) ≡ false → is_full (home older) older (stroke_along n from seg turn dark) ≡ false
    → Joined older (plot_to from seg ∷ past) (stroke_along n from seg turn dark ∷ [])
stroke_made older past n from seg turn dark s k aperture turned darkened may fit room =
    let object = stroke_along n from seg turn dark in
    let now = plot_to from seg ∷ past in
    let plot = plot_along from seg in
    let number : number_in past ≡ n = ap (λ o. unwrap_or o 0) aperture in
    let same : stroke_of past plot ≡ object =
    by_segment (mode_in now) (number_in past) (point_in past) (point_in now) (arc_centre past plot) (turn_in past)
    (dark_in past)
    ∙ (λ i. stroke_along (number i) (may.point i) (segment_again past from seg may i) (turned i) (darkened i)) in
    let made_is : made past (plot_to from seg) ≡ object ∷ [] = rw s.region (ap (λ o. o ∷ []) same) in
    let arc = is_arc (mode_in now) in
    let still : is_unfit past arc (Some n) ≡ false =
    ap (λ b. is_unfit past b (Some n)) (ap is_arc may.mode ∙ curved seg)
    ∙ ap (λ entries. not (can_draw (curves seg) (meaning_in entries n).tip)) k.entries ∙ fit in
    let crowded = is_full (home past) past (stroke_of past plot) in
    let full : crowded ≡ false = ap (is_full (home past) past) same ∙ full_kept older past k object ∙ room in
    let none : least number_of (faults past (plot_to from seg)) ≡ None =
    plot_unrefused past from seg false may s.region
    (stroke_none (aperture_in past) (is_unfit past arc) (plot_faults past plot) crowded n aperture still
    (path_none past from seg ((TooMuch, crowded) ∷ []) may) full) in
    let stands : Stands now = search (none, s) in
    record {
      stands = stands;
      grown = grown_on older past now [] (object ∷ []) k (grown_by past (plot_to from seg) (object ∷ []) tt made_is);
    }

-- a contour begun, with these segments so far
record Draws (older past : Past) (from : Point) (segs : List Seg) (here : Point) (darkens : Bool) : Type 0 where
  pub scaled : Scales past
  pub arcs : has_arcs past ≡ true
  pub region : in_region past ≡ true
  pub none : IsFaultless past
  pub kept : Kept older past
  pub dark : dark_in past ≡ darkens
  pub start : start_in past ≡ from
  pub drawn : segments_in past ≡ segs
  pub point : point_in past ≡ here

-- ---- the begin

begun_stays : (older past : Past) (from : Point) → Kept older past
    → Kept older (said (MoveTo from) ∷ Says BeginRegion ∷ past)
begun_stays older past from k = grind (arith, Kept, kept_all, kept_on, grown_by)

begun : (older past : Past) (from : Point) → Stands past → Kept older past → IsOnBoard from
    → Draws older (said (MoveTo from) ∷ Says BeginRegion ∷ past) from [] from (dark_in past)
begun older past from s k on =
    let before = Says BeginRegion ∷ past in
    let scaled : Scales before = record { format = s.format; unit = s.unit } in
    let there : point_in (said (MoveTo from) ∷ before) ≡ from = point_after before from Omitted Omitted Move scaled in
    let opened : least number_of (faults past (Says BeginRegion)) ≡ None = rw s.region refl in
    let inside = on_board_after before from Omitted Omitted Move scaled on in
    let none : least number_of (faults before (said (MoveTo from))) ≡ None =
    unrefused before from Omitted Omitted Move true scaled refl refl refl (rw inside refl) in
    search (none, opened, begun_stays older past from k, there, s)

-- ---- the segments

mode_set : (older : Past) (phrases : Phrases) (from here : Point) (segs : List Seg) (dark : Bool) (mode : Mode)
    → Draws older (said_by phrases) from segs here dark
    → Draws older (said_by (with_mode mode phrases)) from segs here dark
    × (mode_in (said_by (with_mode mode phrases)) ≡ mode)
mode_set older phrases from here segs dark mode d =
    either (λ (ps : Phrases). Draws older (said_by ps) from segs here dark × (mode_in (said_by ps) ≡ mode))
    (is_same_mode (mode_in (said_by phrases)) mode) phrases (UseMode mode ∷ phrases)
    (λ e. (d, same_mode (mode_in (said_by phrases)) mode e))
    (λ e.
    let still : Kept (said_by phrases) (Says (SetMode mode) ∷ said_by phrases) = search (kept_all (said_by phrases)) in
    (search (kept_on older (said_by phrases) (Says (SetMode mode) ∷ said_by phrases) d.kept still, d), refl))

abbrev read_in : Past → Operation → Seg
read_in past plot =
    let now = Says (Operate plot) ∷ past in segment (mode_in now) (point_in now) (arc_centre past plot)

grown : (past : Past) (plot : Operation) → in_region past ≡ true → code_of plot ≡ Plot
    → segments_in (Says (Operate plot) ∷ past) ≡ segments_in past ++ read_in past plot ∷ []
grown past plot inside plots = rw (inside, plots) refl

plotted : (older past : Past) (from here : Point) (segs : List Seg) (dark : Bool) (seg : Seg)
    → Draws older past from segs here dark → mode_in past ≡ mode_of seg → IsPlottable here seg
    → length segs < 1000000 → Draws older (plot_to here seg ∷ past) from (segs ++ seg ∷ []) (end_of seg) dark
plotted older past from here segs dark seg d mode plottable few =
    let may : MayPlot past here seg =
    record { scaled = d.scaled; arcs = d.arcs; mode = mode; point = d.point; plottable = plottable } in
    let now = plot_to here seg ∷ past in
    let full = nat_le 1000000 (length (segments_in past)) in
    let room : full ≡ false =
    ap (λ drawn. nat_le 1000000 (length drawn)) d.drawn ∙ lt-leb 1000000 (length segs) few in
    let last : least number_of (plot_faults past (plot_along here seg) ++ (TooMuch, full) ∷ []) ≡ None =
    path_none past here seg ((TooMuch, full) ∷ []) may ∙ rw room refl in
    let nothing : made past (plot_to here seg) ≡ [] = rw d.region refl in
    let kept : Kept older now = kept_on older past now d.kept (grown_by past (plot_to here seg) [] tt nothing) in
    let start : start_in now ≡ from = rw d.region d.start in
    let drawn : segments_in now ≡ segs ++ seg ∷ [] =
    grown past (plot_along here seg) d.region refl
    ∙ ap₂ (λ drawn seg. drawn ++ seg ∷ []) d.drawn (segment_again past here seg may) in
    search (plot_unrefused past here seg true may d.region last, kept, start, drawn, end_is past here seg may, d)

-- what segments from a point must meet
pub record AreDrawable (here : Point) (segs : List Seg) : Type 0 where
  pub radii : HaveRadii here segs
  pub points : All IsOnBoard (flat_map points_of_seg segs)

first_of_all : (here : Point) (seg : Seg) (segs : List Seg) → AreDrawable here (seg ∷ segs)
    → IsPlottable here seg × AreDrawable (end_of seg) segs
first_of_all here (Line to) segs a =
    let rest = flat_map points_of_seg segs in
    (All-head IsOnBoard to rest a.points, record { radii = a.radii; points = All-tail IsOnBoard to rest a.points })
first_of_all here (Curve to centre ccw) segs a =
    let rest = flat_map points_of_seg segs in
    let there = All-head IsOnBoard to (centre ∷ rest) a.points in
    let behind = All-tail IsOnBoard to (centre ∷ rest) a.points in
    let radii = and_parts (is_apart here centre) (have_radii to segs) a.radii in (
      (radii.0, there, All-head IsOnBoard centre rest behind),
      record { radii = radii.1; points = All-tail IsOnBoard centre rest behind },
    )

abbrev end_from : Point → List Seg → Point
end_from here [] = here
end_from here (seg ∷ segs) = end_from (end_of seg) segs

all_plotted : (older : Past) (phrases : Phrases) (from here : Point) (before segs : List Seg) (dark : Bool)
    → Draws older (said_by phrases) from before here dark → AreDrawable here segs
    → length before + length segs ≤ 1000000
    → Draws older (said_by (with_segments here segs phrases)) from (before ++ segs) (end_from here segs) dark
all_plotted older phrases from here before [] dark d a few = rw append-nil d
all_plotted older phrases from here before (seg ∷ segs) dark d a few =
    let each = first_of_all here seg segs a in
    let set = mode_set older phrases from here before dark (mode_of seg) d in
    let ready = said_by (with_mode (mode_of seg) phrases) in
    let next = with_segment here seg phrases in
    let more = before ++ seg ∷ [] in
    let one = plotted older ready from here before dark seg set.0 set.1 each.0 (omega (arith, few)) in
    let step : Draws older (said_by next) from more (end_of seg) dark =
    subst (λ (p : Past). Draws older p from more (end_of seg) dark) (sym (segment_is_plot here seg phrases)) one in
    let left : length more + length segs ≤ 1000000 = omega (arith, few, length-append before (seg ∷ [])) in
    subst
    (λ (all : List Seg). Draws older (said_by (with_segments (end_of seg) segs next)) from all (end_from here (seg ∷ segs)) dark)
    (append_assoc before (seg ∷ []) segs)
    (all_plotted older next from (end_of seg) more segs dark step each.1 left)

-- ---- the end

region_is : (from : Point) (segs : List Seg) (dark : Bool) → 0 < length segs
    → region_by from segs dark ≡ Region (record { start = from; segs = segs }) dark ∷ []
region_is from segs dark some = grind arith

ended : (older past : Past) (from here : Point) (segs : List Seg) (dark : Bool)
    → Draws older past from segs here dark → 0 < length segs
    → is_full (home older) older (Region (record { start = from; segs = segs }) dark) ≡ false
    → Joined older (Says EndRegion ∷ past) (Region (record { start = from; segs = segs }) dark ∷ [])
ended older past from here segs dark d some room =
    let object : Object = Region (record { start = from; segs = segs }) dark in
    let made_is : region_ended past ≡ object ∷ [] =
    (λ i. region_by (d.start i) (d.drawn i) (d.dark i)) ∙ region_is from segs dark some in
    let full : holds_of_one (is_full (home past) past) (region_ended past) ≡ false =
    ap (holds_of_one (is_full (home past) past)) made_is ∙ full_kept older past d.kept object ∙ room in
    let none : least number_of (faults past (Says EndRegion)) ≡ None = rw (d.region, full) refl in
    let stands : Stands (Says EndRegion ∷ past) = search (none, d) in
    record {
      stands = stands;
      grown = grown_on older past _ [] (object ∷ []) d.kept (grown_by past (Says EndRegion) (object ∷ []) tt made_is);
    }

-- a whole contour, behind its polarity
pub region_made : (older : Past) (phrases : Phrases) (contour : Contour) (dark : Bool) → Stands (said_by phrases)
    → Kept older (said_by phrases) → dark_in (said_by phrases) ≡ dark → IsOnBoard contour.start
    → AreDrawable contour.start contour.segs → 0 < length contour.segs → length contour.segs ≤ 1000000
    → is_full (home older) older (Region contour dark) ≡ false
    → Joined older (said_by (with_contour contour phrases)) (Region contour dark ∷ [])
region_made older phrases contour dark s k darkens on drawable some few room =
    let from = contour.start in
    let segs = contour.segs in
    let opened : Phrases = MoveTo from ∷ EnterRegion ∷ phrases in
    let first : Draws older (said_by opened) from [] from dark =
    subst (λ (b : Bool). Draws older (said_by opened) from [] from b) darkens (begun older (said_by phrases) from s k on) in
    let all = all_plotted older opened from from [] segs dark first drawable (omega (arith, few)) in
    ended older (said_by (with_segments from segs opened)) from (end_from from segs) segs dark all some room
