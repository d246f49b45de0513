-- Nothing was made in a repeat that is not yet open.
use Rattle.std.proofs.Common.{◌≡◌, ℕ, ◌+◌, ◌<◌, ◌≤◌, List, [], ◌∷◌, ◌++◌, length, Bool, false, cond, Option, Some}
use Rattle.std.proofs.Common.{None, refl, arith, append-nil}
use Rattle.std.proofs.lemmas.Bool.{ne_eqb}
use Rattle.cam_objects.specs.declared.object.Object.{Object}
use Rattle.cam_objects.specs.Weights.{block_count, weight_in}
use Rattle.cam_commands.specs.Commands.{SetRepeat, CloseRepeat, End, EndRegion, Operate}
use Rattle.cam_gerber.specs.Statements.{Says}
use Rattle.cam_gerber.specs.State.{Past}
use Rattle.cam_gerber.specs.Homes.{Home, InRepeat, Opened, open_blocks, open_repeat, home, home_by, is_same_home}
use Rattle.cam_gerber.specs.Making.{made, home_objects}
use Rattle.cam_gerber.specs.Layers.{entries_in, home_leaves}

-- a home without objects
pub record IsEmptyHome (past : Past) (h : Home) : Type 0 where
  pub objects : home_objects h past ≡ []
  pub leaves : home_leaves h past ≡ 0

none_added : (past : Past) (h : Home) (more : List Object) (b : Bool) → b ≡ false → IsEmptyHome past h
    → (home_objects h past ++ cond b more [] ≡ []) × (home_leaves h past + block_count (weight_in (entries_in past)) (cond b more []) ≡ 0)
none_added past h more b e u = grind (arith, append-nil)

-- the open repeat was opened behind fewer commands
abbrev IsOpenedBefore : ℕ → Option Opened → Type 0
IsOpenedBefore len None = Unit {0}
IsOpenedBefore len (Some o) = o.before < len

later : (m n : ℕ) (o : Option Opened) → m ≤ n → IsOpenedBefore m o → IsOpenedBefore n o
later m n o le h = grind arith

opened_before : (past : Past) → IsOpenedBefore (length past) (open_repeat past)
opened_before [] = tt
opened_before (Says (SetRepeat repeat) ∷ past) = grind arith
opened_before (Says CloseRepeat ∷ past) = tt
opened_before (Says End ∷ past) = tt
opened_before (says ∷ past) = later (length past) (length (says ∷ past)) (open_repeat past) (omega arith) (opened_before past)

other_repeat : (before : ℕ) (ns : List ℕ) (repeat : Option Opened) (len : ℕ) → IsOpenedBefore len repeat → len ≤ before
    → is_same_home (home_by ns repeat) (InRepeat before) ≡ false
other_repeat before ns repeat len h le = grind (arith, ne_eqb)

pub unused_repeat : (past : Past) (before : ℕ) → length past ≤ before → IsEmptyHome past (InRepeat before)
unused_repeat [] before le = record { objects = refl; leaves = refl }
unused_repeat (Says (Operate operation) ∷ past) before le =
    let less : length past ≤ before = omega (arith, le) in
    let none = none_added past (InRepeat before) (made past (Says (Operate operation))) (is_same_home (home past) (InRepeat before))
    (other_repeat before (open_blocks past) (open_repeat past) (length past) (opened_before past) less)
    (unused_repeat past before less) in
    record { objects = none.0; leaves = none.1 }
unused_repeat (Says EndRegion ∷ past) before le =
    let less : length past ≤ before = omega (arith, le) in
    let none = none_added past (InRepeat before) (made past (Says EndRegion)) (is_same_home (home past) (InRepeat before))
    (other_repeat before (open_blocks past) (open_repeat past) (length past) (opened_before past) less)
    (unused_repeat past before less) in
    record { objects = none.0; leaves = none.1 }
unused_repeat (says ∷ past) before le =
    let u = unused_repeat past before (omega (arith, le)) in record { objects = u.objects; leaves = u.leaves }
