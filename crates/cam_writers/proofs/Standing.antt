-- The lines of a canonical drill text, one after another: none has a fault, and they make the tools and the items so far.
use Rattle.std.proofs.Common.{◌≡◌, ℕ, ◌<◌, ◌≤◌, List, [], ◌∷◌, ◌++◌, length, Bool, true, false, ltb, leb, refl}
use Rattle.std.proofs.Common.{Option, Some, None, arith, is_some, nat_eq, sum_by, subst, sym, ◌+◌, codes}
use Rattle.std.specs.Prelude.{ℤ, pos, ◌≤ℤ◌, unsigned_abs}
use Rattle.std.specs.List.{All, AllByRecursion, IsDistinct, fold}
use Rattle.std.specs.Map.{keys_of}
use Rattle.std.proofs.lemmas.Int.{ints}
use Rattle.std.proofs.lemmas.Bool.{le-leb, lt-leb, lt-ltb}
use Rattle.std.proofs.lemmas.Bool.Decides.{nat_tests}
use Rattle.std.proofs.lemmas.List.Elements.{All-head}
use Rattle.cam_refusals.specs.Checks.{first_holding}
use Rattle.cam_units.specs.declared.length.Nm.{Nm}
use Rattle.cam_units.specs.declared.length.Unit.{Unit as FileUnit}
use Rattle.cam_units.specs.declared.length.Unit.TheVariants.{Mm}
use Rattle.cam_units.specs.declared.point.Point.{Point}
use Rattle.cam_units.specs.Board.{IsOnBoard}
use Rattle.cam_objects.proofs.SoundItems.{meets_drill}
use Rattle.cam_objects.specs.declared.drill_item.DrillItem.{DrillItem}
use Rattle.cam_objects.specs.declared.drill_item.DrillItem.TheVariants.{Hit, Rout}
use Rattle.cam_objects.specs.Contents.{DrillContent}
use Rattle.cam_objects.specs.Drilling.{diameter_of}
use Rattle.cam_objects.specs.DrillSoundness.{IsSoundDrillContent, IsSoundDrillItem, IsSoundTool, drill_count_from, drill_count_of}
use Rattle.cam_xnc.specs.declared.modes.Part.{Part}
use Rattle.cam_xnc.specs.declared.modes.Part.TheVariants.{Header, Body}
use Rattle.cam_xnc.specs.declared.statement.Statement.TheVariants.{BeginHeader, SetUnit, Declare, EndHeader}
use Rattle.cam_xnc.specs.declared.statement.Statement.TheVariants.{DrillMode, HitAt, RoutTo, Lower, CutTo, Raise}
use Rattle.cam_xnc.specs.DrillState.{DrillPast, part_in, drill_unit_in, drill_mode_in, tool_in_force, tools_in, drill_items_in, rout_points_in, length_nm}
use Rattle.cam_xnc.specs.Faults.{checks, is_drilling, is_lowered, is_diameter}
use Rattle.cam_xnc.specs.Reading.{is_end_statement}
use Rattle.cam_writers.specs.Lengths.{scaled}
use Rattle.cam_writers.specs.DrillTexts.{Line, Lines, said_by, line_at, with_tool, opening, with_selected, with_drill_mode}
use Rattle.cam_writers.specs.DrillTexts.{with_cut, with_rout, with_item, lines_before_end}
use Rattle.cam_writers.proofs.Decimals.{scaled_again}
use Rattle.cam_writers.proofs.Saying.{Says, header_says, unit_says, declaration_says, body_says, drill_says, tool_says}
use Rattle.cam_writers.proofs.Saying.{hit_says, start_says, lower_says, cut_says, raise_says}
use Rattle.cam_writers.proofs.Walks.{either, walk, sound_at, fewer, lighter, by_number, same_number}

-- no line has a fault, or ends the file
abbrev pub IsFaultless : DrillPast → Type 0
IsFaultless [] = Unit {0}
IsFaultless (says ∷ older) = (first_holding (checks older says) ≡ None) × (is_end_statement says ≡ false) × IsFaultless older

-- lines that are read as they stand, none with a fault, and what they leave
pub record Stands (lines : Lines) (here : Part) (down : Bool) (ts : List (ℕ × Nm)) (is : List DrillItem) : Type 0 where
  pub each : AllByRecursion Says lines
  pub faultless : IsFaultless (said_by lines)
  pub part : part_in (said_by lines) ≡ here
  pub unit : drill_unit_in (said_by lines) ≡ Some Mm
  pub lowered : is_lowered (drill_mode_in (said_by lines)) ≡ down
  pub tools : tools_in (said_by lines) ≡ ts
  pub items : drill_items_in (said_by lines) ≡ is

-- a length in millimetres
same_nm : (unit : Option FileUnit) (z : ℤ) → unit ≡ Some Mm → length_nm unit (scaled z) ≡ z
unfolding length_nm
same_nm unit z e = rw e (scaled_again z)

-- a point as it is read
record IsPoint (past : DrillPast) (p : Point) : Type 0 where
  x : length_nm (drill_unit_in past) (scaled p.x) ≡ p.x
  y : length_nm (drill_unit_in past) (scaled p.y) ≡ p.y
  wide : ltb (unsigned_abs p.x) 1000000000 ≡ true
  high : ltb (unsigned_abs p.y) 1000000000 ≡ true

point_read : (past : DrillPast) (p : Point) → drill_unit_in past ≡ Some Mm → IsOnBoard p → IsPoint past p
point_read past p e on = grind (arith, same_nm, lt-ltb)

-- ---- the header

sound_diameter : (d : ℤ) → pos 1 ≤ℤ d → d ≤ℤ pos 200000000 → is_diameter d ≡ true
unfolding is_diameter
sound_diameter d low high = grind (arith, le-leb, ints)

-- a number that stands apart from those before it is new
apart_from : (n : ℕ) (front : List (ℕ × Nm)) (t : ℕ × Nm) (rest : List (ℕ × Nm))
    → AllByRecursion (λ (k : ℕ). nat_eq n k ≡ false) (keys_of (front ++ t ∷ rest)) → nat_eq t.0 n ≡ false
apart_from n [] t rest all = let other = all.0 in grind (arith, nat_tests)
apart_from n (f ∷ front) t rest all = apart_from n front t rest all.1

fresh : (front : List (ℕ × Nm)) (t : ℕ × Nm) (rest : List (ℕ × Nm)) → IsDistinct nat_eq (keys_of (front ++ t ∷ rest))
    → diameter_of front t.0 ≡ None
unfolding IsDistinct
fresh [] t rest apart = refl
fresh (f ∷ front) t rest apart = rw (apart_from f.0 front t rest apart.0) (fresh front t rest apart.1)

abbrev pub IsSoundPair : ℕ × Nm → Type 0
IsSoundPair t = IsSoundTool t.0 t.1

-- the number of a tool
abbrev pub IsInRange : ℕ → Type 0
IsInRange n = (1 ≤ n) × (n ≤ 9999)

pub known_in_range : (tools : List (ℕ × Nm)) (n : ℕ) → All IsSoundPair tools → is_some (diameter_of tools n) ≡ true → IsInRange n
known_in_range tools n sound known =
    by_number IsInRange n tools (λ k d low. let s = sound k d low in (s.some, s.few)) known

module _ (ts : List (ℕ × Nm)) (sound : All IsSoundPair ts) (distinct : IsDistinct nat_eq (keys_of ts)) where
  declared : (lines : Lines) (front : List (ℕ × Nm)) (t : ℕ × Nm) (rest : List (ℕ × Nm)) → front ++ t ∷ rest ≡ ts
      → Stands lines Header false front [] → Stands (with_tool lines t) Header false (front ++ t ∷ []) []
  declared lines front t rest e h =
      let s : IsSoundPair t = sound_at IsSoundPair ts front t rest e sound in
      let new = fresh front t rest (subst (λ (all : List (ℕ × Nm)). IsDistinct nat_eq (keys_of all)) (sym e) distinct) in
      let size = same_nm (drill_unit_in (said_by lines)) (t.1).0 h.unit in
      let says = declaration_says t.0 t.1 s in
      let none : first_holding (checks (said_by lines) (Declare (Some t.0) (Some (scaled (t.1).0)))) ≡ None =
      rw (h.part, size, sound_diameter (t.1).0 s.wide s.narrow, h.unit, h.tools, new) refl in
      let tools : tools_in (said_by (with_tool lines t)) ≡ front ++ t ∷ [] = rw (h.tools, size) refl in
      search (says, none, tools, h)

  headed : Stands (fold with_tool ((codes "METRIC", SetUnit Mm) ∷ (codes "M48", BeginHeader) ∷ []) ts) Header false ts []
  headed =
      walk with_tool (λ lines front. Stands lines Header false front []) ts declared
      ((codes "METRIC", SetUnit Mm) ∷ (codes "M48", BeginHeader) ∷ []) [] ts refl
      (record {
        each = (unit_says, (header_says, tt));
        faultless = (refl, refl, (refl, refl, tt));
        part = refl;
        unit = refl;
        lowered = refl;
        tools = refl;
        items = refl;
      })

-- ---- the body

drilling : (lines : Lines) (ts : List (ℕ × Nm)) (is : List DrillItem) → Stands lines Body false ts is
    → Stands ((codes "G05", DrillMode) ∷ lines) Body false ts is
drilling lines ts is h = grind (arith, drill_says)

opened : (ts : List (ℕ × Nm)) → All IsSoundPair ts → IsDistinct nat_eq (keys_of ts) → Stands (opening ts) Body false ts []
opened ts sound distinct =
    let lines : Lines = fold with_tool ((codes "METRIC", SetUnit Mm) ∷ (codes "M48", BeginHeader) ∷ []) ts in
    let h = headed ts sound distinct in
    let none : first_holding (checks (said_by lines) EndHeader) ≡ None = rw (h.part, h.unit) refl in
    drilling ((codes "%", EndHeader) ∷ lines) ts [] (search (body_says, none, h))

-- items keep the limits with one more, of so many holes and slots
record HasRoom (is : List DrillItem) (more : ℕ) : Type 0 where
  few : leb 1000000 (length is) ≡ false
  leaves : leb (sum_by drill_count_of is + more) 4000000 ≡ true

module _ (ts : List (ℕ × Nm)) (is : List DrillItem) (n : ℕ) where
  -- with the tool in force
  record HasTool (lines : Lines) (down : Bool) : Type 0 where
    stands : Stands lines Body down ts is
    tool : tool_in_force (said_by lines) ≡ Some n

  tool_set : (lines : Lines) → Stands lines Body false ts is → is_some (diameter_of ts n) ≡ true → IsInRange n
      → HasTool (with_selected n lines) false
  tool_set lines h known range = grind (arith, either, same_number, tool_says)

  hit : (lines : Lines) (p : Point) → HasTool lines false → IsOnBoard p → HasRoom is 1
      → Stands (line_at [] HitAt p ∷ with_drill_mode lines) Body false ts (is ++ Hit n p ∷ [])
  hit lines p h on room =
      either (λ (ls : Lines). Stands (line_at [] HitAt p ∷ ls) Body false ts (is ++ Hit n p ∷ [])) (is_drilling (drill_mode_in (said_by lines)))
      lines _ (λ e. made lines h e) (λ e. made _ (record { stands = drilling lines ts is h.stands; tool = h.tool }) refl)
    where
      -- where coordinates are hits
      made : (lines : Lines) → HasTool lines false → is_drilling (drill_mode_in (said_by lines)) ≡ true
          → Stands (line_at [] HitAt p ∷ lines) Body false ts (is ++ Hit n p ∷ [])
      made lines h mode =
          let s = h.stands in
          let r = point_read (said_by lines) p s.unit on in
          let says = hit_says p on in
          let none : first_holding (checks (said_by lines) (line_at [] HitAt p).1) ≡ None =
          rw (s.part, r.x, r.y, r.wide, r.high, mode, s.items, room.few, room.leaves, h.tool) refl in
          let items : drill_items_in (said_by (line_at [] HitAt p ∷ lines)) ≡ is ++ Hit n p ∷ [] = rw (s.items, r.x, r.y, h.tool) refl in
          search (says, none, items, s)

  -- behind these points of a rout
  record Cuts (lines : Lines) (points : List Point) : Type 0 where
    held : HasTool lines true
    points_are : rout_points_in (said_by lines) ≡ points

  lowered : (lines : Lines) (p : Point) → HasTool lines false → IsOnBoard p
      → Cuts ((codes "M15", Lower) ∷ line_at (codes "G00") RoutTo p ∷ lines) (p ∷ [])
  lowered lines p h on =
      let s = h.stands in
      let r = point_read (said_by lines) p s.unit on in
      let start : Line = line_at (codes "G00") RoutTo p in
      let says = start_says p on in
      let none : first_holding (checks (said_by lines) start.1) ≡ None = rw (s.part, r.x, r.y, r.wide, r.high, s.lowered) refl in
      let next : first_holding (checks (said_by (start ∷ lines)) Lower) ≡ None = rw (s.part, h.tool) refl in
      record { held = record { stands = search (says, lower_says, none, next, s); tool = h.tool }; points_are = rw (r.x, r.y) refl }

  cut : (lines : Lines) (points : List Point) (p : Point) → Cuts lines points → IsOnBoard p → length points < 1000000
      → Cuts (with_cut lines p) (points ++ p ∷ [])
  cut lines points p h on few =
      let s = h.held.stands in
      let r = point_read (said_by lines) p s.unit on in
      let says = cut_says p on in
      let none : first_holding (checks (said_by lines) (line_at (codes "G01") CutTo p).1) ≡ None =
      rw (s.part, r.x, r.y, r.wide, r.high, s.lowered, h.points_are, lt-leb 1000000 (length points) few) refl in
      record { held = record { stands = search (says, none, s); tool = h.held.tool }; points_are = rw (h.points_are, r.x, r.y) refl }

  rout : (lines : Lines) (points : List Point) → HasTool lines false → 0 < length points → All IsOnBoard points
      → length points ≤ 1000000 → HasRoom is (drill_count_from points)
      → Stands (with_rout points lines) Body false ts (is ++ Rout n points ∷ [])
  rout lines [] h some on few room = absurd (omega (arith, some))
  rout lines (start ∷ points) h some on few room =
      let begun : Lines = (codes "M15", Lower) ∷ line_at (codes "G00") RoutTo start ∷ lines in
      let all = start ∷ points in
      let c : Cuts (fold with_cut begun points) all =
      walk with_cut Cuts all
      (λ older front p rest e cuts. cut older front p cuts (sound_at IsOnBoard all front p rest e on) (omega (arith, fewer all front p rest e, few)))
      begun (start ∷ []) points refl (lowered lines start h (All-head IsOnBoard start points on)) in
      let s = c.held.stands in
      let none : first_holding (checks (said_by (fold with_cut begun points)) Raise) ≡ None =
      rw (s.part, s.lowered, s.items, c.points_are, room.few, room.leaves) refl in
      let items : drill_items_in (said_by (with_rout all lines)) ≡ is ++ Rout n all ∷ [] = rw (s.items, c.held.tool, c.points_are) refl in
      search (raise_says, none, items, s)

module _ (layer : DrillContent) (sound : IsSoundDrillContent layer.tools layer.items) where
  item_added : (lines : Lines) (front : List DrillItem) (item : DrillItem) (rest : List DrillItem) → front ++ item ∷ rest ≡ layer.items
      → Stands lines Body false layer.tools front → Stands (with_item lines item) Body false layer.tools (front ++ item ∷ [])
  item_added lines front item rest e h =
      by item (sound_at (IsSoundDrillItem layer.tools) layer.items front item rest e sound.items) (record {
        few = lt-leb 1000000 (length front) (omega (arith, sound.limits.few, fewer layer.items front item rest e));
        leaves = le-leb (sum_by drill_count_of front + drill_count_of item) 4000000
            (omega (arith, sound.limits.leaves, lighter drill_count_of layer.items front item rest e));
      })
    where
      set : (n : ℕ) → is_some (diameter_of layer.tools n) ≡ true → HasTool layer.tools front n (with_selected n lines) false
      set n known = tool_set layer.tools front n lines h known (known_in_range layer.tools n sound.tools known)

      by : (item : DrillItem) → IsSoundDrillItem layer.tools item → HasRoom front (drill_count_of item)
          → Stands (with_item lines item) Body false layer.tools (front ++ item ∷ [])
      by (Hit n at) good room =
          let met = meets_drill layer.tools (Hit n at) good in
          hit layer.tools front n (with_selected n lines) at (set n met.known) (All-head IsOnBoard at [] met.inside) room
      by (Rout n points) good room =
          let met = meets_drill layer.tools (Rout n points) good in
          rout layer.tools front n (with_selected n lines) points (set n met.known) met.some met.inside met.few room

  pub all_stand : Stands (lines_before_end layer.tools layer.items) Body false layer.tools layer.items
  all_stand =
      walk with_item (λ lines front. Stands lines Body false layer.tools front) layer.items item_added (opening layer.tools) []
      layer.items refl (opened layer.tools sound.tools sound.distinct)
