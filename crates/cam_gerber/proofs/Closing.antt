-- The open repeat is closed: it joins the items, if it has objects.
use Rattle.std.proofs.Common.{◌≡◌, ℕ, ◌+◌, ◌*◌, ◌<◌, ◌≤◌, List, [], ◌∷◌, ◌++◌, length, min, Bool, true, false, cond}
use Rattle.std.proofs.Common.{Option, Some, None, Result, refl, sym, ap, ap₂, subst, ◌∙◌, arith}
use Rattle.std.specs.Prelude.{◌||◌, ◌&&◌, not, nat_le, nat_lt, IfSome}
use Rattle.std.specs.Option.{option_map}
use Rattle.std.proofs.lemmas.Bool.{or_parts, false≢true, ltb-true, ltb-false, lt-ltb, leb-true, leb-false}
use Rattle.std.proofs.lemmas.List.{append-nil}
use Rattle.std.proofs.lemmas.List.Elements.{All-weaker}
use Rattle.std.proofs.Math.Nat.{mul-le-mul_right}
use Rattle.cam_refusals.specs.declared.refusal.Refusal.{Refusal}
use Rattle.cam_refusals.specs.declared.refusal.Refusal.TheVariants.{OutOfBoard, TooMuch}
use Rattle.cam_refusals.specs.Checks.{Checks, first_holding}
use Rattle.cam_objects.specs.declared.item.Item.{Item}
use Rattle.cam_objects.specs.declared.item.Item.TheVariants as item
use Rattle.cam_objects.specs.declared.object.Object.{Object}
use Rattle.cam_objects.specs.Leaves.{item_leaves, meaning_in}
use Rattle.cam_objects.specs.Weights.{block_count, weight_in}
use Rattle.cam_commands.specs.declared.parts.Repeat.{Repeat}
use Rattle.cam_commands.specs.Commands.{CloseRepeat, End, EndRegion, Operate, SetRepeat}
use Rattle.cam_objects.proofs.SoundItems.{repeated}
use Rattle.cam_gerber.specs.declared.built.Built.{Built}
use Rattle.cam_gerber.specs.declared.frames.OpenRepeat.{OpenRepeat}
use Rattle.cam_gerber.specs.declared.running.Running.{Running}
use Rattle.cam_refusals.specs.declared.stop.Stop.{Stop}
use Rattle.cam_gerber.specs.Statements.{Statement, Says}
use Rattle.cam_gerber.specs.State.{Past}
use Rattle.cam_gerber.specs.Homes.{Home, InRepeat, Opened, has_copies, open_repeat, repeat_opened}
use Rattle.cam_gerber.specs.Making.{made_at, home_objects}
use Rattle.cam_gerber.specs.Layers.{closed_leaves, closed_repeat, entries_in, items_in, leaves_in, home_leaves, made_leaves, repeat_by}
use Rattle.cam_gerber.specs.Faults.{are_leaves_on_board, closing_faults, holds_of_one, is_left_out, is_layer_full, is_outside}
use Rattle.cam_gerber.specs.Machinery.Closing.{Adds, IsAdded}
use Rattle.cam_gerber.specs.Machinery.Tracking.{Answers, HasPast, IsSettled, Tracks, repeat_of}
use Rattle.cam_gerber.specs.Machinery.WellMade.{IsWellMadeItem}
use Rattle.cam_gerber.proofs.Least.{pass_first}
use Rattle.cam_gerber.proofs.Outside.{outside_is}
use Rattle.cam_gerber.proofs.SoundParts.{IsMade}
use Rattle.cam_gerber.proofs.SoundViews.{IsRepeatView, repeat_at}
use Rattle.cam_gerber.proofs.SoundPasts.{Sound}
use Rattle.cam_gerber.proofs.SoundJoining.{sound_past}

-- ---- the open repeat of a past

-- it has more than one copy
many_opened : (past : Past) (repeat : Repeat) (b : Bool) → has_copies repeat ≡ b
    → IfSome (cond b (Some (repeat_opened past repeat)) None) (λ o. 1 < o.columns * o.rows)
many_opened past repeat b many = grind (arith, ltb-true)

many_copies : (past : Past) → IfSome (open_repeat past) (λ o. 1 < o.columns * o.rows)
many_copies [] = tt
many_copies (Says (SetRepeat repeat) ∷ older) = many_opened older repeat (has_copies repeat) refl
many_copies (Says CloseRepeat ∷ older) = tt
many_copies (Says End ∷ older) = tt
many_copies (_ ∷ older) = many_copies older

-- the repeat of the record is that of the past
pub record IsOpened (past : Past) (r : OpenRepeat) : Type 0 where
  pub o : Opened
  pub opens : open_repeat past ≡ Some o
  pub same : r ≡ repeat_of past o
  pub many : 1 < o.columns * o.rows

is_opened : (past : Past) (old : Running) (r : OpenRepeat) → Tracks past old → old.frames.repeat ≡ Some r → IsOpened past r
is_opened past old r t e = go (open_repeat past) refl (many_copies past)
  where
    go : (o : Option Opened) → open_repeat past ≡ o → IfSome o (λ o. 1 < o.columns * o.rows) → IsOpened past r
    go None is many = absurd (let wrong : Some r ≡ None = sym e ∙ t.frames.repeat ∙ ap (option_map (repeat_of past)) is in cc)
    go (Some o) is many =
        let joined : Some r ≡ Some (repeat_of past o) = sym e ∙ t.frames.repeat ∙ ap (option_map (repeat_of past)) is in
        record { o = o; opens = is; same = cc; many = many }

-- ---- a repeat without objects has no leaves

both_nil : {A : Type 0} (xs ys : List A) → xs ++ ys ≡ [] → (xs ≡ []) × (ys ≡ [])
both_nil [] ys h = (refl, h)
both_nil (x ∷ xs) ys h = absurd cc

none_more : (h : Home) (past : Past) (says : Statement) → made_at h past says ≡ [] → made_leaves h past says ≡ 0
none_more h past says e = ap (block_count (weight_in (entries_in past))) e

pub no_leaves : (h : Home) (past : Past) → home_objects h past ≡ [] → home_leaves h past ≡ 0
no_leaves h [] e = refl
no_leaves h (Says (Operate operation) ∷ older) e =
    let both = both_nil (home_objects h older) (made_at h older (Says (Operate operation))) e in
    omega (arith, no_leaves h older both.0, none_more h older (Says (Operate operation)) both.1)
no_leaves h (Says EndRegion ∷ older) e =
    let both = both_nil (home_objects h older) (made_at h older (Says EndRegion)) e in
    omega (arith, no_leaves h older both.0, none_more h older (Says EndRegion) both.1)
no_leaves h (_ ∷ older) e = no_leaves h older e

-- ---- leaves are counted up to one past the limit

at_least : (k n : ℕ) → 1 ≤ k → n ≤ k * n
at_least k n h = omega (arith, mul-le-mul_right n h)

pub within_cap : (b k n : ℕ) → 1 ≤ k → b + k * n ≤ 4000000 → min (k * min 4000001 n) 18446744073709551615 ≡ k * n
within_cap b k n h few = grind (arith, at_least)

past_cap : (b k n : ℕ) → 1 ≤ k → 4000000 < b + k * n → 4000000 < b + min (k * min 4000001 n) 18446744073709551615
past_cap b k n h many = grind (arith, leb-true, leb-false, at_least)

pub same_over : (b k n : ℕ) → 1 ≤ k → nat_lt 4000000 (b + min (k * min 4000001 n) 18446744073709551615) ≡ nat_lt 4000000 (b + k * n)
same_over b k n h = grind (arith, lt-ltb, past_cap, ltb-true, ltb-false, within_cap)

-- ---- tables

-- what some checks are answered by, answers others that tell the same
pub answers_alike : (result : Result (Unit {0}) Stop) (a b : Checks Refusal) (P Q : Type 0) → first_holding a ≡ first_holding b
    → (first_holding b ≡ None → P → Q) → Answers result a P → Answers result b Q
answers_alike result a b P Q e f h = grind arith

-- ---- a repeat without objects

nothing_from : (objects : List Object) → is_left_out objects ≡ true → objects ≡ []
nothing_from objects h = grind (arith, false≢true)

pub settles_empty : (past : Past) (old : Running) (r : OpenRepeat) (after : Option OpenRepeat) → Tracks past old
    → old.frames.repeat ≡ Some r → is_left_out r.objects ≡ true → after ≡ None
    → (first_holding (closing_faults past true) ≡ None) × IsSettled past old (record old { frames = record old.frames { repeat = after } })
settles_empty past old r after t e empty closed = grind (arith, is_opened, nothing_from, no_leaves, append-nil)

-- ---- a repeat with objects

some_objects : (objects : List Object) → is_left_out objects ≡ false → 0 < length objects
some_objects objects h = grind (arith, false≢true)

opened_well : (past : Past) (o : Opened) → Sound past → open_repeat past ≡ Some o → is_left_out (home_objects (InRepeat o.before) past) ≡ false
    → IsWellMadeItem (entries_in past) (item.Repeat o.columns o.rows o.i o.j (home_objects (InRepeat o.before) past))
opened_well past o sound opens some = grind (arith, IsRepeatView, repeat_at, repeated, some_objects, All-weaker, IsMade)

pub closing_well : (old : Running) (r : OpenRepeat) → HasPast old → old.frames.repeat ≡ Some r → is_left_out r.objects ≡ false
    → IsWellMadeItem old.built.layer.apertures (item.Repeat r.columns r.rows r.i r.j r.objects)
closing_well old r h e some = grind (arith, is_opened, opened_well, sound_past)

one_item : (o : Opened) (objects : List Object) → is_left_out objects ≡ false
    → repeat_by o objects ≡ item.Repeat o.columns o.rows o.i o.j objects ∷ []
one_item o objects h = grind (arith, false≢true)

pub settles_some : (past : Past) (old : Running) (r : OpenRepeat) (after : Option OpenRepeat) (result : Result (Unit {0}) Stop)
    (built : Built) → Tracks past old
    → old.frames.repeat ≡ Some r → is_left_out r.objects ≡ false → after ≡ None
    → Adds (item.Repeat r.columns r.rows r.i r.j r.objects)
    (min (r.columns * r.rows * r.leaves) 18446744073709551615) old.built result built
    → Answers result (closing_faults past true)
    (IsSettled past old (record old { frames = record old.frames { repeat = after }; built = built }))
settles_some past old r after result built t e some closed adds =
    let opens = is_opened past old r t e in
    let o = opens.o in
    let k = o.columns * o.rows in
    let n = home_leaves (InRepeat o.before) past in
    let all : Item = item.Repeat o.columns o.rows o.i o.j (home_objects (InRepeat o.before) past) in
    let more = min (k * min 4000001 n) 18446744073709551615 in
    let one : 1 ≤ k = omega (arith, opens.many) in
    let items : closed_repeat past ≡ all ∷ [] =
    rw opens.opens
    (one_item o (home_objects (InRepeat o.before) past) (ap (λ (r : OpenRepeat). is_left_out r.objects) (sym opens.same) ∙ some)) in
    let leaves : closed_leaves past ≡ k * n = rw opens.opens refl in
    let added : Adds all more old.built result built =
    subst (λ (r : OpenRepeat). Adds (item.Repeat r.columns r.rows r.i r.j r.objects)
    (min (r.columns * r.rows * r.leaves) 18446744073709551615) old.built result built) opens.same adds in
    let full : (nat_le 1000000 (length old.built.layer.items.items) || nat_lt 4000000 (old.built.leaves + more))
    ≡ is_layer_full past (closed_leaves past) =
    ap₂ (λ a b. a || b) (ap (λ all. nat_le 1000000 (length all)) t.built.items)
    (ap (λ b. nat_lt 4000000 (b + more)) t.built.leaves ∙ same_over (leaves_in past) k n one
    ∙ ap (λ m. nat_lt 4000000 (leaves_in past + m)) (sym leaves)) in
    let outside : not (are_leaves_on_board (item_leaves (meaning_in old.built.layer.apertures) all)) ≡ is_outside past all =
    ap (λ es. not (are_leaves_on_board (item_leaves (meaning_in es) all))) t.built.entries ∙ sym (outside_is past all) in
    answers_alike result _ (closing_faults past true) (IsAdded all more old.built built)
    (IsSettled past old (record old { frames = record old.frames { repeat = after }; built = built }))
    (ap₂ (λ a b. first_holding ((OutOfBoard, a) ∷ (TooMuch, b) ∷ [])) outside full
    ∙ ap (λ items.
    first_holding ((OutOfBoard, not true || holds_of_one (is_outside past) items)
    ∷ (TooMuch, not (is_left_out items) && is_layer_full past (closed_leaves past)) ∷ [])) (sym items))
    (λ told h.
    let fits : is_layer_full past (closed_leaves past) ≡ false =
    ap (λ items. not (is_left_out items) && is_layer_full past (closed_leaves past)) (sym items)
    ∙ (pass_first (closing_faults past true) told).1.0 in
    let few : leaves_in past + k * n ≤ 4000000 =
    ltb-false 4000000 (leaves_in past + k * n)
    (ap (λ m. nat_lt 4000000 (leaves_in past + m)) (sym leaves) ∙ (or_parts (nat_le 1000000 (length (items_in past))) _ fits).1) in
    record {
      modal = refl;
      region = refl;
      attributes = refl;
      alloc = refl;
      blocks = refl;
      repeat = closed;
      macros = h.macros;
      entries = h.entries;
      items = h.items ∙ ap₂ (λ a b. a ++ b) t.built.items (sym items);
      leaves = omega (arith, h.leaves, t.built.leaves, within_cap (leaves_in past) k n one few, leaves);
    }) added
