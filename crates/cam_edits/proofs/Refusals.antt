-- Which refusal of an edit is told first.
use Rattle.std.proofs.Common.{◌≡◌, ℕ, Bool, true, false, ◌&&◌, nat_lt, not, List, [], ◌∷◌, length, max, slice_index_or}
use Rattle.std.proofs.Common.{Option, None, Some, Result, Ok, ap, sym, subst, ◌∙◌, arith}
use Rattle.std.specs.Prelude.{MatchOption, slice_get}
use Rattle.std.proofs.lemmas.Bool.{ltb-true}
use Rattle.std.proofs.lemmas.Bool.Decides.{nat_tests}
use Rattle.std.proofs.lemmas.Option.{slice_get_past, slice_get_read}
use Rattle.cam_refusals.specs.Checks.{Checks, answer_of, first_holding}
use Rattle.cam_objects.specs.declared.item_fault.ItemFault.{ItemFault}
use Rattle.cam_objects.specs.declared.item_fault.ItemFault.TheVariants.{Malformed, UnknownAperture, UnknownTool, ZeroRadius}
use Rattle.cam_objects.specs.declared.item_fault.ItemFault.TheVariants as items
use Rattle.cam_edits.specs.declared.fault.EditFault.{EditFault}
use Rattle.cam_edits.specs.declared.fault.EditFault.TheVariants.{WrongKind, NoItem, NoAperture, NoTool, WrongAperture}
use Rattle.cam_edits.specs.declared.fault.EditFault.TheVariants.{SizeRefused, OutOfBoard, TooMuch}
use Rattle.cam_edits.specs.Machinery.Judging.{insertion_answer, item_answer, limited}
use Rattle.cam_edits.specs.Editing.{judged_by}
use Rattle.cam_edits.specs.Places.{HasAt}

-- ---- places of lists

-- an element that a list is read at
pub read_at : {X : Type 0} (xs ys : List X) (k : ℕ) (x : X) → ys ≡ xs → true ≡ nat_lt k (length ys)
    → x ≡ slice_index_or ys k x → slice_get xs k ≡ Some x
read_at xs ys k x same here at = grind (arith, slice_get_read, ltb-true)

-- and a place where there is none
pub none_at : {X : Type 0} (xs ys : List X) (k : ℕ) → ys ≡ xs → false ≡ nat_lt k (length ys) → slice_get xs k ≡ None
none_at xs ys k same past = ap (λ l. slice_get l k) (sym same) ∙ slice_get_past ys k (grind (arith, nat_tests))

pub has_at : {X : Type 0} (P : X → Type 0) (xs : List X) (k : ℕ) (x : X) → slice_get xs k ≡ Some x → P x → HasAt P xs k
has_at P xs k x here h = subst (λ o. MatchOption o ⊥ P) (sym here) h

-- ---- steps, by the checks of their kind of layer

module _ {S : Type 0} (checks : S → Checks EditFault) where
  -- a step that is answered is that of the edit, and nothing refuses it
  pub accepted : (o : Option S) (step : S) → judged_by checks o ≡ Ok step
      → (o ≡ Some step) × (first_holding (checks step) ≡ None)
  accepted o step e = grind arith

-- ---- insertions, by the checks of their items

-- of an item of a Gerber layer
module _ (formed place known drawable radii inside few room : Bool) where
  abbrev pub checked : Result Unit ItemFault
  checked =
      answer_of (first_holding
      ((Malformed, not formed)
      ∷ (UnknownAperture, not known)
      ∷ (items.WrongAperture, not drawable)
      ∷ (ZeroRadius, not radii)
      ∷ (items.OutOfBoard, not inside)
      ∷ (items.TooMuch, not few) ∷ []))

  abbrev told : Option EditFault
  told =
      first_holding
      ((WrongKind, not formed)
      ∷ (NoItem, not place)
      ∷ (NoAperture, not known)
      ∷ (WrongAperture, not drawable)
      ∷ (SizeRefused, not radii)
      ∷ (OutOfBoard, not inside)
      ∷ (TooMuch, not (few && room)) ∷ [])

pub in_one_order : (formed place known drawable radii inside few room : Bool)
    → told formed place known drawable radii inside few room
    ≡ limited (insertion_answer (checked formed place known drawable radii inside few room) place) room
in_one_order formed place known drawable radii inside few room = grind arith

-- and of a drill layer
module _ (formed place known inside few room : Bool) where
  abbrev pub drill_checked : Result Unit ItemFault
  drill_checked =
      answer_of (first_holding
      ((Malformed, not formed)
      ∷ (UnknownTool, not known)
      ∷ (items.OutOfBoard, not inside)
      ∷ (items.TooMuch, not few) ∷ []))

  abbrev drill_told : Option EditFault
  drill_told =
      first_holding
      ((WrongKind, not formed)
      ∷ (NoItem, not place)
      ∷ (NoTool, not known)
      ∷ (OutOfBoard, not inside)
      ∷ (TooMuch, not (few && room)) ∷ [])

pub in_one_drill_order : (formed place known inside few room : Bool)
    → drill_told formed place known inside few room
    ≡ limited (insertion_answer (drill_checked formed place known inside few room) place) room
in_one_drill_order formed place known inside few room = grind arith

-- whether there is room is told where there is a place
pub by_room : (checked : Result Unit ItemFault) (has_place a b : Bool) → (has_place ≡ true → a ≡ b)
    → item_answer checked has_place a ≡ item_answer checked has_place b
by_room checked has_place a b same = grind arith

-- two places are there where the farther one is
pub farther_place : (k m n : ℕ) → nat_lt (max k m) n ≡ (nat_lt k n && nat_lt m n)
farther_place k m n = grind (arith, nat_tests)
