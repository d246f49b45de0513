-- What pasts have made: homes do not collide, and a home that was left never comes back.
use Rattle.std.proofs.Common.{◌≡◌, ◌≢◌, ℕ, zero, suc, ◌+◌, ◌<◌, List, [], ◌∷◌, ◌++◌, length, drop, get_or, Bool, true, false}
use Rattle.std.proofs.Common.{cond, eqb, eq-eqb, Option, Some, None, refl, sym, ap, ◌∙◌, arith, ◌⊎◌, inl, inr}
use Rattle.std.specs.Prelude.{map, ◌||◌, ◌&&◌, not, ◌==◌, unwrap_or, is_some, nat_eq}
use Rattle.std.specs.List.{list_any, AllByRecursion, AllPairs}
use Rattle.std.specs.Map.{lookup}
use Rattle.std.proofs.lemmas.Bool.{or_parts, ne_eqb, eqb-false}
use Rattle.std.proofs.lemmas.List.{append-nil}
use Rattle.cam_objects.specs.declared.entry.Entry.{Entry}
use Rattle.cam_objects.specs.Weights.{block_count, weight_in}
use Rattle.cam_commands.specs.Commands.{OpenBlock, CloseBlock, SetRepeat, CloseRepeat, End, EndRegion, Operate, DefineAperture}
use Rattle.cam_gerber.specs.Statements.{Statement, Says}
use Rattle.cam_gerber.specs.State.{Past, in_region, unit_in}
use Rattle.cam_gerber.specs.Homes.{open_blocks, Opened, repeat_opened, has_copies, open_repeat, Home, InBlock, InLayer}
use Rattle.cam_gerber.specs.Homes.{home_by, home, is_same_home}
use Rattle.cam_gerber.specs.Making.{made, made_at, home_objects, IsMaker}
use Rattle.cam_gerber.specs.Layers.{entries_in, items_in, home_leaves, leaves_in, macros_in, item_made, closed_block}
use Rattle.cam_gerber.specs.Layers.{defined_by, numbered_aperture}
use Rattle.cam_gerber.specs.Faults.{command_faults, is_defined, is_taken, is_taken_again, is_left_out}
use Rattle.cam_units.specs.Nearest.{unit_or_mm}
use Rattle.cam_apertures.specs.Definition.{Definition, template_form, numbered}
use Rattle.cam_numbers.specs.Numbers.{defined_number}
use Rattle.cam_apertures.specs.declared.aperture.Aperture.{Aperture}
use Rattle.cam_macros.specs.declared.aperture_macro.Macro.{Macro}
use Rattle.cam_units.specs.declared.length.Unit.{Unit as FileUnit}
use Rattle.cam_gerber.specs.Laws.{IsFaultless, KeepsHomesApart}
use Rattle.cam_gerber.proofs.Least.{pass_least}
use Rattle.cam_gerber.specs.Machinery.Tracking.{block_of}
use Rattle.cam_gerber.specs.declared.frames.OpenBlock.{OpenBlock as Frame}

-- ---- what a statement that may make an object changes

-- the object joins its home, and nothing else changes
pub record Joins (past : Past) (says : Statement) : Type 0 where
  pub objects : (h : Home) → home_objects h (says ∷ past) ≡ home_objects h past ++ made_at h past says
  pub leaves : (h : Home) → home_leaves h (says ∷ past) ≡ home_leaves h past + block_count (weight_in (entries_in past)) (made_at h past says)
  pub items : items_in (says ∷ past) ≡ items_in past ++ item_made past says
  pub all_leaves : leaves_in (says ∷ past) ≡ leaves_in past + block_count (weight_in (entries_in past)) (made_at InLayer past says)
  pub blocks : open_blocks (says ∷ past) ≡ open_blocks past
  pub repeat : open_repeat (says ∷ past) ≡ open_repeat past
  pub entries : entries_in (says ∷ past) ≡ entries_in past
  pub macros : macros_in (says ∷ past) ≡ macros_in past

pub joins : (past : Past) (says : Statement) → IsMaker says → Joins past says
joins past says h = grind arith

-- what is made at another home
pub elsewhere : (h : Home) (past : Past) (says : Statement) → is_same_home (home past) h ≡ false → made_at h past says ≡ []
elsewhere h past says e = rw e refl

pub here : (h : Home) (past : Past) (says : Statement) → is_same_home (home past) h ≡ true → made_at h past says ≡ made past says
here h past says e = rw e refl

pub home_is : (past : Past) (numbers : List ℕ) (repeat : Option Opened) → open_blocks past ≡ numbers → open_repeat past ≡ repeat
    → home past ≡ home_by numbers repeat
home_is past numbers repeat h k = rw (h, k) refl

-- ---- homes do not collide

abbrev pub has : ℕ → List ℕ → Bool
has n numbers = list_any (λ m. m == n) numbers

abbrev pub AreApart : List ℕ → Type 0
AreApart [] = Unit {0}
AreApart (n ∷ outer) = (has n outer ≡ false) × AreApart outer

abbrev pub AreFree : List (ℕ × Entry) → List ℕ → Type 0
AreFree entries [] = Unit {0}
AreFree entries (n ∷ outer) = (is_some (lookup (nat_eq n) entries) ≡ false) × AreFree entries outer

pub record StayApart (past : Past) : Type 0 where
  pub numbers : AreApart (open_blocks past)
  pub entries : AreFree (entries_in past) (open_blocks past)
  pub repeat : (open_blocks past ≡ []) ⊎ (open_repeat past ≡ None)

lookup_append : (es : List (ℕ × Entry)) (n m : ℕ) (e : Entry) → eqb n m ≡ false
    → lookup (nat_eq n) (es ++ (m, e) ∷ []) ≡ lookup (nat_eq n) es
lookup_append [] n m e h = rw h refl
lookup_append (x ∷ es) n m e h = ap (λ o. cond (nat_eq n x.0) (Some x.1) o) (lookup_append es n m e h)

-- a number that is no open block's may be defined
still_free : (es : List (ℕ × Entry)) (m : ℕ) (e : Entry) (numbers : List ℕ) → has m numbers ≡ false → AreFree es numbers
    → AreFree (es ++ (m, e) ∷ []) numbers
still_free es m e [] h free = tt
still_free es m e (n ∷ numbers) h free =
    let parts = or_parts (eqb n m) (has m numbers) h in
    (ap is_some (lookup_append es n m e parts.0) ∙ free.0, still_free es m e numbers parts.1 free.1)

pub none_of : {A : Type 0} (o : Option A) → is_some o ≡ false → o ≡ None
none_of o h = grind arith

closed : (past : Past) (numbers : List ℕ) → AreApart numbers → AreFree (entries_in past) numbers
    → AreApart (drop 1 numbers) × AreFree (entries_in past ++ closed_block past numbers) (drop 1 numbers)
closed past numbers h free = grind (arith, still_free)

unchanged : (es : List (ℕ × Entry)) (numbers : List ℕ) → AreFree es numbers → AreFree (es ++ []) numbers
unchanged es numbers free = rw append-nil free

numbering : (past : Past) (n : Option ℕ) (aperture : Option Aperture) → is_taken_again past n ≡ false
    → AreFree (entries_in past) (open_blocks past)
    → AreFree (entries_in past ++ numbered_aperture n aperture) (open_blocks past)
numbering past n aperture h free = grind (arith, unchanged, still_free, or_parts)

defining : (past : Past) (d : Option Definition) (macros : List Macro) (unit : FileUnit) → is_taken_again past (numbered d) ≡ false
    → AreFree (entries_in past) (open_blocks past)
    → AreFree (entries_in past ++ defined_by d macros unit) (open_blocks past)
defining past None macros unit h free = unchanged (entries_in past) (open_blocks past) free
defining past (Some d) macros unit h free = numbering past (defined_number d.number) _ h free

outside : (numbers : List ℕ) (repeat : Option Opened) → (numbers ≡ []) ⊎ (repeat ≡ None) → (drop 1 numbers ≡ []) ⊎ (repeat ≡ None)
outside numbers repeat it = grind arith

repeating : (many empty : Bool) (numbers : List ℕ) (o : Opened) → (many && not (is_left_out numbers)) ≡ false
    → (numbers ≡ []) ⊎ (cond many (Some o) None ≡ None)
repeating many empty numbers o h = grind arith

pub stay_apart : (past : Past) → IsFaultless past → StayApart past
stay_apart [] h = record { numbers = tt; entries = tt; repeat = inl refl }
stay_apart (Says (OpenBlock None) ∷ older) h = grind (arith, pass_least)
stay_apart (Says (OpenBlock (Some n)) ∷ older) h =
    let met = pass_least (command_faults older (OpenBlock (Some n))) h.0 in
    let before = stay_apart older h.1 in
    let taken = or_parts (is_defined older n) (has n (open_blocks older)) met.1.0 in
    let nested = or_parts (in_region older) (is_some (open_repeat older)) met.1.1.0 in
    record {
      numbers = (taken.1, before.numbers);
      entries = (taken.0, before.entries);
      repeat = inr (none_of (open_repeat older) nested.1);
    }
stay_apart (Says CloseBlock ∷ older) h =
    let before = stay_apart older h.1 in
    let after = closed older (open_blocks older) before.numbers before.entries in
    record { numbers = after.0; entries = after.1; repeat = outside (open_blocks older) (open_repeat older) before.repeat }
stay_apart (Says (DefineAperture text) ∷ older) h =
    let before = stay_apart older h.1 in
    let met = pass_least (command_faults older (DefineAperture text)) h.0 in
    record {
      numbers = before.numbers;
      entries =
          defining older (template_form text) (macros_in older) (unit_or_mm (unit_in older)) met.1.0 before.entries;
      repeat = before.repeat;
    }
stay_apart (Says (SetRepeat repeat) ∷ older) h =
    let before = stay_apart older h.1 in
    let met = pass_least (command_faults older (SetRepeat repeat)) h.0 in
    record {
      numbers = before.numbers;
      entries = before.entries;
      repeat =
          repeating (has_copies repeat) (has_copies repeat) (open_blocks older) (repeat_opened older repeat) met.1.1.0;
    }
stay_apart (Says CloseRepeat ∷ older) h = let before = stay_apart older h.1 in
    record { numbers = before.numbers; entries = before.entries; repeat = inr refl }
stay_apart (Says End ∷ older) h = grind arith
stay_apart (_ ∷ older) h = let before = stay_apart older h.1 in
    record { numbers = before.numbers; entries = before.entries; repeat = before.repeat }

-- ---- an object in the innermost block

pub others_stay : (past : Past) (says : Statement) (n : ℕ) (outer : List ℕ) → Joins past says → home past ≡ InBlock n
    → has n outer ≡ false → map (block_of (says ∷ past)) outer ≡ map (block_of past) outer
others_stay past says n [] j h e = refl
others_stay past says n (m ∷ outer) j h e =
    let parts = or_parts (eqb m n) (has n outer) e in
    let away : made_at (InBlock m) past says ≡ [] =
    elsewhere (InBlock m) past says (rw h (ne_eqb n m (λ k. eqb-false m n parts.0 (sym k)))) in
    let objects : home_objects (InBlock m) (says ∷ past) ≡ home_objects (InBlock m) past = j.objects (InBlock m)
    ∙ ap (λ all. home_objects (InBlock m) past ++ all) away ∙ append-nil _ in
    let leaves : home_leaves (InBlock m) (says ∷ past) ≡ home_leaves (InBlock m) past =
    omega (arith, j.leaves (InBlock m), ap (block_count (weight_in (entries_in past))) away) in
    rw (objects, leaves, others_stay past says n outer j h parts.1) refl

-- ---- a number that is not taken has no objects

not_home : (n : ℕ) (blocks : List ℕ) (repeat : Option Opened) → has n blocks ≡ false
    → is_same_home (home_by blocks repeat) (InBlock n) ≡ false
not_home n blocks repeat h = grind (arith, or_parts)

-- nothing was made at its home
pub record IsUnused (n : ℕ) (past : Past) : Type 0 where
  pub objects : home_objects (InBlock n) past ≡ []
  pub leaves : home_leaves (InBlock n) past ≡ 0

still_unused : (n : ℕ) (past : Past) (says : Statement) → IsMaker says → has n (open_blocks past) ≡ false → IsUnused n past
    → IsUnused n (says ∷ past)
still_unused n past says maker h u = grind (arith, joins, elsewhere, not_home)

lookup_before : (es : List (ℕ × Entry)) (n m : ℕ) (e : Entry) → is_some (lookup (nat_eq n) (es ++ (m, e) ∷ [])) ≡ false
    → (is_some (lookup (nat_eq n) es) ≡ false) × (eqb n m ≡ false)
lookup_before [] n m e h = grind arith
lookup_before (x ∷ es) n m e h =
    (elim (nat_eq n x.0)
    as (λ b. is_some (cond b (Some x.1) (lookup (nat_eq n) (es ++ (m, e) ∷ []))) ≡ false
    → (is_some (cond b (Some x.1) (lookup (nat_eq n) es)) ≡ false) × (eqb n m ≡ false)) [
      | true ↦ λ k. absurd cc
      | false ↦ λ k. lookup_before es n m e k
    ]) h

eqb-swap : (m n : ℕ) → eqb m n ≡ false → eqb n m ≡ false
eqb-swap m n h = ne_eqb n m (λ e. eqb-false m n h (sym e))

-- a number that was not taken before a command either
before_close : (n : ℕ) (past : Past) (numbers : List ℕ)
    → (is_some (lookup (nat_eq n) (entries_in past ++ closed_block past numbers)) || has n (drop 1 numbers)) ≡ false
    → (is_defined past n || has n numbers) ≡ false
before_close n past numbers h = grind (arith, append-nil, or_parts, lookup_before, eqb-swap)

before_number : (n : ℕ) (past : Past) (k : Option ℕ) (aperture : Option Aperture)
    → is_some (lookup (nat_eq n) (entries_in past ++ numbered_aperture k aperture)) ≡ false → is_defined past n ≡ false
before_number n past k aperture h = grind (arith, append-nil, lookup_before)

before_definition : (n : ℕ) (past : Past) (d : Option Definition) (macros : List Macro) (unit : FileUnit)
    → is_some (lookup (nat_eq n) (entries_in past ++ defined_by d macros unit)) ≡ false
    → is_defined past n ≡ false
before_definition n past d macros unit h = grind (arith, append-nil, before_number)

pub unused : (n : ℕ) (past : Past) → is_taken past n ≡ false → IsUnused n past
unused n [] h = record { objects = refl; leaves = refl }
unused n (Says (Operate operation) ∷ older) h = grind (arith, still_unused, or_parts, unused n older h)
unused n (Says EndRegion ∷ older) h = still_unused n older (Says EndRegion) tt (or_parts (is_defined older n) _ h).1 (unused n older h)
unused n (Says (OpenBlock number) ∷ older) h =
    let parts = or_parts (is_defined older n) _ h in
    let u = unused n older (rw (parts.0, (or_parts (eqb (unwrap_or number 0) n) _ parts.1).1) refl) in
    record { objects = u.objects; leaves = u.leaves }
unused n (Says CloseBlock ∷ older) h = let u = unused n older (before_close n older (open_blocks older) h) in
    record { objects = u.objects; leaves = u.leaves }
unused n (Says (DefineAperture text) ∷ older) h =
    let parts = or_parts
    (is_some (lookup (nat_eq n)
    (entries_in older ++ defined_by (template_form text) (macros_in older) (unit_or_mm (unit_in older))))) _ h in
    let u = unused n older
    (rw (before_definition n older (template_form text) (macros_in older) (unit_or_mm (unit_in older)) parts.0, parts.1) refl) in
    record { objects = u.objects; leaves = u.leaves }
unused n (_ ∷ older) h = let u = unused n older h in record { objects = u.objects; leaves = u.leaves }

numbers_of : (n : ℕ) (past : Past) (numbers : List ℕ)
    → list_any (λ (b : Frame). b.number == n) (map (block_of past) numbers) ≡ has n numbers
numbers_of n past [] = refl
numbers_of n past (m ∷ outer) = ap (λ b. eqb m n || b) (numbers_of n past outer)

-- the tests of the code for a number
pub open_same : (past : Past) (blocks : List Frame) (n : ℕ) → blocks ≡ map (block_of past) (open_blocks past)
    → list_any (λ (b : Frame). b.number == n) blocks ≡ has n (open_blocks past)
open_same past blocks n e = ap (list_any (λ (b : Frame). b.number == n)) e ∙ numbers_of n past (open_blocks past)

-- ---- the law of homes

not_at : (n : ℕ) (numbers : List ℕ) (k d : ℕ) → has n numbers ≡ false → k < length numbers → get_or numbers k d ≢ n
not_at n [] k d h lt = absurd (omega (arith, lt))
not_at n (m ∷ numbers) zero d h lt = λ e. grind (arith, eq-eqb, or_parts)
not_at n (m ∷ numbers) (suc k) d h lt = not_at n numbers k d (or_parts (eqb m n) (has n numbers) h).1 (omega arith)

all_apart : (numbers : List ℕ) → AreApart numbers → AllPairs (λ m n. m ≢ n) numbers
all_apart [] h i j d low lt = absurd (omega (arith, lt))
all_apart (n ∷ numbers) h zero zero d low lt = absurd (omega (arith, low))
all_apart (n ∷ numbers) h zero (suc j) d low lt = λ e. not_at n numbers j d h.0 (omega arith) (sym e)
all_apart (n ∷ numbers) h (suc i) zero d low lt = absurd (omega (arith, low))
all_apart (n ∷ numbers) h (suc i) (suc j) d low lt = all_apart numbers h.1 i j d (omega arith) (omega arith)

all_free : (past : Past) (numbers : List ℕ) → AreFree (entries_in past) numbers → AllByRecursion (λ n. is_defined past n ≡ false) numbers
all_free past [] h = tt
all_free past (n ∷ numbers) h = (h.0, all_free past numbers h.1)

pub homes_apart : KeepsHomesApart
homes_apart past none = grind (arith, stay_apart, all_apart, all_free)
