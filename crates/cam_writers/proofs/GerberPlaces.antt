-- What a statement of a canonical text leaves of what was made before it, and what it adds; and where a setting is left out,
-- the value in force is the same.
use Rattle.std.proofs.Common.{◌≡◌, ℕ, ◌+◌, List, [], ◌∷◌, ◌++◌, map, Bool, true, false, cond, sym, ap, ap₂, ◌∙◌}
use Rattle.std.proofs.Common.{Some, arith, append-nil, append_assoc, suc, ◌*◌, IsTrue, Option}
use Rattle.std.specs.Prelude.{if◌then◌else◌, ℤ, pos, negsuc, neg_ℤ, ◌+ℤ◌, ◌-ℤ◌, ◌*ℤ◌}
use Rattle.std.proofs.lemmas.List.{map-append}
use Rattle.std.proofs.lemmas.List.Sums.{sum_by-append}
use Rattle.std.proofs.lemmas.Bool.{and_parts, not-true}
use Rattle.std.proofs.lemmas.Bool.Decides.{Decides-int_eq}
use Rattle.std.proofs.lemmas.Int.{ints}
use Rattle.cam_units.specs.declared.length.Unit.TheVariants.{Mm}
use Rattle.cam_objects.specs.declared.object.Object.{Object}
use Rattle.cam_objects.specs.declared.item.Item.TheVariants.{One}
use Rattle.cam_objects.specs.Weights.{block_count, object_count, weight_in}
use Rattle.cam_gerber.specs.Statements.{Statement}
use Rattle.cam_gerber.specs.State.{Past, format_in, has_arcs, in_region, unit_in, is_dark, turn_of_mirror}
use Rattle.cam_gerber.specs.State.{turn_of_angle, coordinate_nm}
use Rattle.cam_gerber.specs.Laws.{IsFaultless}
use Rattle.cam_gerber.specs.Homes.{Home, InLayer, home, home_by, is_same_home, open_blocks, open_repeat}
use Rattle.cam_gerber.specs.Making.{made, home_objects, IsMaker}
use Rattle.cam_gerber.specs.Layers.{macros_in, entries_in, items_in, home_leaves, leaves_in}
use Rattle.cam_gerber.proofs.Pasts.{joins}
use Rattle.cam_units.specs.declared.length.Unit.{Unit as FileUnit}
use Rattle.cam_units.specs.declared.point.Point.{Point}
use Rattle.cam_units.specs.declared.turn.Turn.{Turn}
use Rattle.cam_units.specs.Nearest.{nearest_of, rounded}
use Rattle.cam_units.specs.Turns.{Matrix, matrix_of}
use Rattle.cam_objects.specs.Soundness.{is_apart}
use Rattle.cam_objects.specs.Turning.{after, has_rows, turn_of}
use Rattle.cam_commands.specs.declared.parts.Format.{Format}
use Rattle.cam_commands.specs.declared.parts.Mode.{Mode}
use Rattle.cam_gerber.specs.Faults.{is_same_point, is_no_quarter}
use Rattle.cam_writers.specs.Phrases.{angle_of, mirror_of, mirroring_of, polarity_of, rotation_of}
use Rattle.cam_writers.specs.GerberTexts.{is_same_polarity, is_same_turn, is_same_mode}

-- ---- what holds between objects

-- the format, the unit and the arcs of canonical texts are in force, no region is open, and nothing has failed
pub record Stands (past : Past) : Type 0 where
  pub format : format_in past ≡ Some (record { integers = 4; decimals = 6 })
  pub unit : unit_in past ≡ Some Mm
  pub arcs : has_arcs past ≡ true
  pub region : in_region past ≡ false
  pub none : IsFaultless past

abbrev pub made_here : Home → Home → List Object → List Object
made_here here h made = if is_same_home here h then made else []

-- objects have joined their home, and nothing else has been made, opened or closed
pub record Grown (older newer : Past) (made : List Object) : Type 0 where
  pub macros : macros_in newer ≡ macros_in older
  pub entries : entries_in newer ≡ entries_in older
  pub blocks : open_blocks newer ≡ open_blocks older
  pub repeat : open_repeat newer ≡ open_repeat older
  pub objects : (h : Home) → home_objects h newer ≡ home_objects h older ++ made_here (home older) h made
  pub leaves : (h : Home) → home_leaves h newer
      ≡ home_leaves h older + block_count (weight_in (entries_in older)) (made_here (home older) h made)
  pub items : items_in newer ≡ items_in older ++ map One (made_here (home older) InLayer made)
  pub layer_leaves : leaves_in newer ≡ leaves_in older + block_count (weight_in (entries_in older)) (made_here (home older) InLayer made)

-- and what stands between objects stands behind them
pub record Joined (older newer : Past) (made : List Object) : Type 0 where
  pub stands : Stands newer
  pub grown : Grown older newer made

-- nothing has been made
abbrev pub Kept : Past → Past → Type 0
Kept older newer = Grown older newer []

none_here : (here h : Home) → made_here here h [] ≡ []
none_here here h = grind arith

-- what a home has is as it was
pub record IsAsBefore (older newer : Past) (h : Home) : Type 0 where
  pub objects : home_objects h newer ≡ home_objects h older
  pub leaves : home_leaves h newer ≡ home_leaves h older
  pub items : items_in newer ≡ items_in older
  pub layer_leaves : leaves_in newer ≡ leaves_in older

pub as_before : (older newer : Past) → Kept older newer → (h : Home) → IsAsBefore older newer h
as_before older newer k h = grind (arith, none_here, append-nil)

pub kept_all : (past : Past) → Kept past past
kept_all past = grind (arith, none_here, append-nil)

pub same_home : (a b : Past) (xs : List Object) → Grown a b xs → home b ≡ home a
same_home a b xs j = ap₂ home_by j.blocks j.repeat

-- ---- statements that may make an object

-- what it makes joins its home
pub grown_by : (past : Past) (says : Statement) (objects : List Object) → IsMaker says → made past says ≡ objects
    → Grown past (says ∷ past) objects
grown_by past says objects maker e = grind (arith, joins)

-- ---- one after another

either_append : (b : Bool) (xs ys : List Object)
    → cond {A = List Object} b xs [] ++ cond {A = List Object} b ys [] ≡ cond {A = List Object} b (xs ++ ys) []
either_append b xs ys = grind arith

here_append : (here h : Home) (xs ys : List Object)
    → made_here here h xs ++ made_here here h ys ≡ made_here here h (xs ++ ys)
here_append here h xs ys = either_append (is_same_home here h) xs ys

pub grown_on : (a b c : Past) (xs ys : List Object) → Grown a b xs → Grown b c ys → Grown a c (xs ++ ys)
grown_on a b c xs ys j k =
    let moved : (h : Home) → made_here (home b) h ys ≡ made_here (home a) h ys =
    λ h. ap (λ (here : Home). made_here here h ys) (same_home a b xs j) in
    let weight = weight_in (entries_in a) in
    let counted : (h : Home) → block_count (weight_in (entries_in b)) (made_here (home b) h ys) ≡ block_count weight (made_here (home a) h ys) =
    λ h. ap₂ (λ entries made. block_count (weight_in entries) made) j.entries (moved h) in
    let both : (h : Home) → block_count weight (made_here (home a) h xs) + block_count weight (made_here (home a) h ys)
    ≡ block_count weight (made_here (home a) h (xs ++ ys)) =
    λ h. sym (sum_by-append (object_count weight) (made_here (home a) h xs) (made_here (home a) h ys))
    ∙ ap (block_count weight) (here_append (home a) h xs ys) in
    record {
      macros = k.macros ∙ j.macros;
      entries = k.entries ∙ j.entries;
      blocks = k.blocks ∙ j.blocks;
      repeat = k.repeat ∙ j.repeat;
      objects = λ h. k.objects h ∙ ap₂ (λ a b. a ++ b) (j.objects h) (moved h) ∙ append_assoc (home_objects h a) _ _
          ∙ ap (λ all. home_objects h a ++ all) (here_append (home a) h xs ys);
      leaves = λ h. omega (arith, k.leaves h, j.leaves h, counted h, both h);
      items = k.items ∙ ap₂ (λ items (more : List Object). items ++ map One more) j.items (moved InLayer)
          ∙ append_assoc (items_in a) _ _
          ∙ ap (λ all. items_in a ++ all) (sym (map-append One (made_here (home a) InLayer xs) (made_here (home a) InLayer ys))
          ∙ ap (map One) (here_append (home a) InLayer xs ys));
      layer_leaves = omega (arith, k.layer_leaves, j.layer_leaves, counted InLayer, both InLayer);
    }

pub joined_on : (a b c : Past) (xs ys : List Object) → Joined a b xs → Joined b c ys → Joined a c (xs ++ ys)
joined_on a b c xs ys j k = record { stands = k.stands; grown = grown_on a b c xs ys j.grown k.grown }

pub kept_on : (a b c : Past) → Kept a b → Kept b c → Kept a c
kept_on a b c k l = grown_on a b c [] [] k l

-- ---- tests

pub same_polarity : (old new : Bool) → is_same_polarity old new ≡ true → old ≡ new
same_polarity old new h = grind arith

same_rows : (m n : Matrix) → has_rows m n ≡ true → m ≡ n
same_rows m n h = grind (arith, and_parts, Decides-int_eq)

turn_again : (turn : Turn) → turn_of (matrix_of turn) ≡ turn
turn_again turn = grind arith

pub same_turn : (old new : Turn) → is_same_turn old new ≡ true → old ≡ new
same_turn old new h = sym (turn_again old) ∙ ap turn_of (same_rows (matrix_of old) (matrix_of new) h) ∙ turn_again new

pub same_mode : (old new : Mode) → is_same_mode old new ≡ true → old ≡ new
same_mode old new h = grind arith

pub same_point : (p q : Point) → is_same_point p q ≡ true → p ≡ q
same_point p q h = grind (arith, and_parts, Decides-int_eq)

pub other_point : (p q : Point) → IsTrue (is_apart p q) → is_same_point p q ≡ false
other_point p q apart = not-true (is_same_point p q) apart

-- ---- what is set

pub dark_again : (dark : Bool) → is_dark (polarity_of dark) ≡ dark
dark_again dark = grind arith

pub mirror_again : (turn : Turn) → turn_of_mirror (mirroring_of (mirror_of turn)) ≡ mirror_of turn
mirror_again turn = grind arith

pub rotation_again : (turn : Turn) → turn_of_angle (angle_of (rotation_of turn)) ≡ rotation_of turn
unfolding turn_of_angle
rotation_again turn = grind arith

pub by_quarters : (turn : Turn) → is_no_quarter (angle_of (rotation_of turn)) ≡ false
unfolding is_no_quarter
by_quarters turn = grind arith

-- a turn is its mirror, then its rotation
pub both_parts : (turn : Turn) → after (mirror_of turn) (rotation_of turn) ≡ turn
unfolding after
both_parts turn = grind arith

-- ---- coordinates

millionth : (n : ℕ) → rounded (n * 1000000) 1000000 ≡ n
millionth n = omega arith

-- one of a million at a time
millions : (m n : ℕ) → m ≡ suc n * 1000000 → nearest_of (neg_ℤ (pos m)) 1000000 ≡ negsuc n
millions m n e = grind (arith, millionth)

nm_again : (z : ℤ) → nearest_of (z *ℤ pos 1000000) 1000000 ≡ z
nm_again z = grind (arith, millionth, millions)

pub coordinate_again : (format : Option Format) (unit : Option FileUnit) (z : ℤ)
    → format ≡ Some (record { integers = 4; decimals = 6 }) → unit ≡ Some Mm → coordinate_nm format unit z ≡ z
unfolding coordinate_nm
coordinate_again format unit z f u = rw (f, u) (nm_again z)

pub across_and_back : (a b : ℤ) → a +ℤ (b -ℤ a) ≡ b
across_and_back a b = omega (arith, ints)
