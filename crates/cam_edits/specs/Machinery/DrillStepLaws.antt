use Rattle.std.specs.Prelude.{◌≡◌, ℕ, ◌≤◌, Bool, true, false, cond, List, [], ◌∷◌, ◌++◌, length}
use Rattle.std.specs.Prelude.{Option, None, Some, IsSome, is_some, nat_eq, remove}
use Rattle.std.specs.Map.{set_value}
use Rattle.std.proofs.Common.{refl, ap, sym, subst, ◌∙◌, arith}
use Rattle.std.proofs.lemmas.List.Edits.{length-insert, length-remove}
use Rattle.std.proofs.lemmas.List.Sums.{sum_by-append}
use Rattle.cam_units.specs.declared.length.Nm.{Nm}
use Rattle.cam_units.specs.declared.point.Point.{Point}
use Rattle.cam_objects.specs.Drilling.{diameter_of}
use Rattle.cam_objects.specs.DrillSoundness.{tool_of}
use Rattle.cam_objects.specs.Shifting.{shifted_drill_item}
use Rattle.cam_objects.specs.declared.drill_item.DrillItem.{DrillItem}
use Rattle.cam_objects.specs.declared.drill_item.DrillItem.TheVariants.{Hit, Rout}
use Rattle.cam_objects.specs.declared.drill_layer.DrillLayer.{DrillLayer}
use Rattle.cam_edits.specs.declared.drill_step.DrillStep.{DrillStep}
use Rattle.cam_edits.specs.declared.drill_step.DrillStep.TheVariants.{Insert, Delete, Move, Reorder, Tool, Diameter}
use Rattle.cam_edits.specs.DrillSteps.{HasDrillRoom, IsDrillFit, after_drill_step, diameter_before, insertion_of}
use Rattle.cam_edits.specs.DrillSteps.{inverse_drill_step, is_drill_insertion, tool_before, with_tool}
use Rattle.cam_edits.specs.Machinery.MovingLaws.{drill_item_back, movable_drill_item, negated, negated_twice}
use Rattle.cam_edits.specs.Machinery.MovingLaws.{shiftable_negated}
use Rattle.cam_edits.specs.Machinery.PlaceLaws.{changed_back, element_at, found, get_changed, get_inserted, has_changed}
use Rattle.cam_edits.specs.Machinery.PlaceLaws.{insert_removed}
use Rattle.cam_edits.specs.Machinery.PlaceLaws.{length_reordered, remove_inserted, reordered_back, within}
use Rattle.cam_edits.specs.Moving.{IsMovableDrillItem, way}
use Rattle.cam_edits.specs.Places.{changed}
use Rattle.cam_objects.specs.Contents.{DrillContent}

-- ---- tools and diameters that are set and set back
tool_back : (t : ℕ) (item : DrillItem) → with_tool (tool_of item) (with_tool t item) ≡ item
tool_back t (Hit tool at) = refl
tool_back t (Rout tool points) = refl

pub tool_set : (t : ℕ) (item : DrillItem) → tool_of (with_tool t item) ≡ t
tool_set t (Hit tool at) = refl
tool_set t (Rout tool points) = refl

module _ (t : ℕ) where
  abbrev test : ℕ → Bool
  test = nat_eq t

  hit : (e : ℕ × Nm) (es : List (ℕ × Nm)) (d : Nm) → test e.0 ≡ true → set_value test (e ∷ es) d ≡ (e.0, d) ∷ es
  hit e es d p = ap (λ b. cond b ((e.0, d) ∷ es) (e ∷ set_value test es d)) p

  miss : (e : ℕ × Nm) (es : List (ℕ × Nm)) (d : Nm) → test e.0 ≡ false
      → set_value test (e ∷ es) d ≡ e ∷ set_value test es d
  miss e es d p = ap (λ b. cond b ((e.0, d) ∷ es) (e ∷ set_value test es d)) p

  diameter_is : (e : ℕ × Nm) (es : List (ℕ × Nm)) (b : Bool) → test e.0 ≡ b
      → diameter_of (e ∷ es) t ≡ cond b (Some e.1) (diameter_of es t)
  diameter_is e es b p = ap (λ b. cond b (Some e.1) (diameter_of es t)) p

  diameter_back : (es : List (ℕ × Nm)) (d before : Nm) → diameter_of es t ≡ Some before
      → set_value test (set_value test es d) before ≡ es
  diameter_back [] d before h = refl
  diameter_back (e ∷ es) d before h = go (diameter_back es d before) (test e.0) refl where
    go : (diameter_of es t ≡ Some before → set_value test (set_value test es d) before ≡ es)
        → (b : Bool) → test e.0 ≡ b → set_value test (set_value test (e ∷ es) d) before ≡ e ∷ es
    go tail true p =
        let is : Some e.1 ≡ Some before = sym (diameter_is e es true p) ∙ h in
        let same : before ≡ e.1 = cc in
        ap (λ l. set_value test l before) (hit e es d p)
        ∙ (hit (e.0, d) es before p ∙ ap (λ (x : Nm). (e.0, x) ∷ es) same)
    go tail false p =
        let rest : diameter_of es t ≡ Some before = sym (diameter_is e es false p) ∙ h in
        ap (λ l. set_value test l before) (miss e es d p)
        ∙ (miss e (set_value test es d) before p ∙ ap (λ l. e ∷ l) (tail rest))

  diameter_set : (es : List (ℕ × Nm)) (d before : Nm) → diameter_of es t ≡ Some before
      → diameter_of (set_value test es d) t ≡ Some d
  diameter_set [] d before h = absurd cc
  diameter_set (e ∷ es) d before h = go (diameter_set es d before) (test e.0) refl where
    go : (diameter_of es t ≡ Some before → diameter_of (set_value test es d) t ≡ Some d)
        → (b : Bool) → test e.0 ≡ b → diameter_of (set_value test (e ∷ es) d) t ≡ Some d
    go tail true p = ap (λ l. diameter_of l t) (hit e es d p) ∙ diameter_is (e.0, d) es true p
    go tail false p =
        let rest : diameter_of es t ≡ Some before = sym (diameter_is e es false p) ∙ h in
        ap (λ l. diameter_of l t) (miss e es d p) ∙ (diameter_is e (set_value test es d) false p ∙ tail rest)

  known : (es : List (ℕ × Nm)) → IsSome (diameter_of es t) → (before : Nm) × (diameter_of es t ≡ Some before)
  known es h = go (diameter_of es t) refl h where
    go : (o : Option Nm) → diameter_of es t ≡ o → IsSome o → (before : Nm) × (diameter_of es t ≡ Some before)
    go None e h = absurd (let wrong : false ≡ true = h in cc)
    go (Some before) e h = (before, e)

-- ---- the answer fits
pub drill_answer_fits : (step : DrillStep) (c : DrillContent) → IsDrillFit step c
    → IsDrillFit (inverse_drill_step step c) (after_drill_step step c)
drill_answer_fits (Insert k item) c h = let n = length-insert c.items k item h in omega arith
drill_answer_fits (Delete k) c h =
    let e = element_at c.items k h in
    let n = length-remove c.items k h in
    let le : k ≤ length (remove c.items k) = omega arith in
    subst (λ (s : DrillStep). IsDrillFit s (after_drill_step (Delete k) c)) (sym (ap (insertion_of k) e.1)) le
drill_answer_fits (Move k dx dy) c h =
    let f = found (IsMovableDrillItem (way dx dy)) c.items k h.1 in (
      shiftable_negated (way dx dy) h.0,
      has_changed c.items k f.0 f.1 (IsMovableDrillItem (negated (way dx dy))) (shifted_drill_item (way dx dy))
          (movable_drill_item (way dx dy) f.0 f.2),
    )
drill_answer_fits (Reorder k m) c h =
    let e = element_at c.items k h.0 in
    let n = length_reordered c.items k e.0 e.1 m h.1 in
    (omega (arith, h.1), omega (arith, h.0))
drill_answer_fits (Tool k t) c h =
    let e = element_at c.items k h in
    subst (λ (s : DrillStep). IsDrillFit s (after_drill_step (Tool k t) c)) (sym (ap (tool_before k t) e.1))
    (within (changed (with_tool t) c.items k) k (with_tool t e.0) (get_changed c.items k e.0 e.1 (with_tool t)))
drill_answer_fits (Diameter t d) c h =
    let e = known t c.tools h in
    let set = diameter_set t c.tools d e.0 e.1 in
    subst (λ (s : DrillStep). IsDrillFit s (after_drill_step (Diameter t d) c)) (sym (ap (diameter_before t d) e.1))
    (ap is_some set)

-- ---- it gives back the content
with_items : DrillContent → List DrillItem → DrillContent
with_items c l = record { tools = c.tools; items = l }

pub drill_gives_back_content : (step : DrillStep) (c : DrillContent) → IsDrillFit step c
    → after_drill_step (inverse_drill_step step c) (after_drill_step step c) ≡ c
unfolding with_items
drill_gives_back_content (Insert k item) c h = ap (with_items c) (remove_inserted c.items k item h)
drill_gives_back_content (Delete k) c h =
    let e = element_at c.items k h in
    ap (λ (s : DrillStep). after_drill_step s (after_drill_step (Delete k) c)) (ap (insertion_of k) e.1)
    ∙ ap (with_items c) (insert_removed c.items k e.0 e.1)
drill_gives_back_content (Move k dx dy) c h =
    let f = found (IsMovableDrillItem (way dx dy)) c.items k h.1 in
    ap (with_items c)
    (changed_back c.items k f.0 f.1 (shifted_drill_item (way dx dy)) (shifted_drill_item (negated (way dx dy))) (drill_item_back (way dx dy) f.0))
drill_gives_back_content (Reorder k m) c h =
    let e = element_at c.items k h.0 in ap (with_items c) (reordered_back c.items k e.0 e.1 m h.1)
drill_gives_back_content (Tool k t) c h =
    let e = element_at c.items k h in
    ap (λ (s : DrillStep). after_drill_step s (after_drill_step (Tool k t) c)) (ap (tool_before k t) e.1)
    ∙ ap (with_items c) (changed_back c.items k e.0 e.1 (with_tool t) (with_tool (tool_of e.0)) (tool_back t e.0))
drill_gives_back_content (Diameter t d) c h =
    let e = known t c.tools h in
    ap (λ (s : DrillStep). after_drill_step s (after_drill_step (Diameter t d) c)) (ap (diameter_before t d) e.1)
    ∙ ap (λ (l : List (ℕ × Nm)). record { tools = l; items = c.items }) (diameter_back t c.tools d e.0 e.1)

-- ---- and its own answer is the step
abbrev again : DrillContent → DrillStep → DrillStep
again c s = inverse_drill_step s c

pub drill_gives_back_step : (step : DrillStep) (c : DrillContent) → IsDrillFit step c
    → inverse_drill_step (inverse_drill_step step c) (after_drill_step step c) ≡ step
drill_gives_back_step (Insert k item) c h = ap (insertion_of k) (get_inserted c.items k item h)
drill_gives_back_step (Delete k) c h =
    let e = element_at c.items k h in ap (again (after_drill_step (Delete k) c)) (ap (insertion_of k) e.1)
drill_gives_back_step (Move k dx dy) c h = ap (λ (by : Point). Move k by.x by.y) (negated_twice (way dx dy))
drill_gives_back_step (Reorder k m) c h = refl
drill_gives_back_step (Tool k t) c h =
    let e = element_at c.items k h in
    ap (again (after_drill_step (Tool k t) c)) (ap (tool_before k t) e.1)
    ∙ (ap (tool_before k (tool_of e.0)) (get_changed c.items k e.0 e.1 (with_tool t)) ∙ ap (Tool k) (tool_set t e.0))
drill_gives_back_step (Diameter t d) c h =
    let e = known t c.tools h in
    ap (again (after_drill_step (Diameter t d) c)) (ap (diameter_before t d) e.1)
    ∙ ap (diameter_before t e.0) (diameter_set t c.tools d e.0 e.1)

-- ---- room
pub drill_last_has_room : (rest : List DrillStep) (step : DrillStep) (layer : DrillLayer)
    → HasDrillRoom (rest ++ step ∷ []) layer → HasDrillRoom (step ∷ []) layer
drill_last_has_room rest step layer h =
    let all = sum_by-append (λ (s : DrillStep). cond (is_drill_insertion s) 1 0) rest (step ∷ []) in omega arith
