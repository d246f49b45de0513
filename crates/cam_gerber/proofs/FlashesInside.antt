-- A flash is well made, and a check tells whether a leaf of it lies outside the board.
use Rattle.std.proofs.Common.{◌≡◌, ℕ, List, [], ◌∷◌, length, arith, Bool, true, false, Option, Some, Result, refl, sym, ap, ◌∙◌}
use Rattle.std.specs.Prelude.{◌&&◌, not, is_some}
use Rattle.std.specs.Option.{option_map}
use Rattle.std.proofs.lemmas.List.Elements.{All-cons, All-head, All-nil}
use Rattle.std.proofs.lemmas.Option.{slice_get_within}
use Rattle.cam_objects.specs.declared.entry.Entry.{Entry}
use Rattle.cam_objects.specs.declared.entry.Entry.TheVariants.{Aperture}
use Rattle.cam_objects.specs.Weights.{entry_weight, no_weight, weight_in}
use Rattle.cam_objects.proofs.Dictionaries.{meant-at, whole}
use Rattle.cam_objects.proofs.Painting.{meaning-at, meaning_whole}
use Rattle.cam_units.specs.Board.{IsOnBoard}
use Rattle.cam_units.specs.declared.point.Point.{Point}
use Rattle.cam_units.specs.declared.turn.Turn.{Turn}
use Rattle.cam_objects.specs.declared.item.Item.TheVariants.{One}
use Rattle.cam_objects.specs.declared.item_fault.ItemFault.{ItemFault}
use Rattle.cam_objects.specs.declared.object.Object.{Object}
use Rattle.cam_objects.specs.declared.object.Object.TheVariants as object
use Rattle.cam_objects.specs.Leaves.{Meaning, Stamp, flashed, item_leaves, leaf, meaning_in, origin, placed}
use Rattle.cam_objects.specs.Soundness.{item_checks, is_on_board}
use Rattle.cam_objects.proofs.SoundItems.{HasNumber}
use Rattle.cam_refusals.specs.Checks.{answer_of, first_holding}
use Rattle.cam_gerber.specs.declared.running.Running.{Running}
use Rattle.cam_gerber.specs.State.{Past}
use Rattle.cam_gerber.specs.Homes.{Opened, home, home_by, open_blocks, open_repeat}
use Rattle.cam_gerber.specs.Faults.{are_leaves_on_board, is_left_out, is_outside, is_outside_at}
use Rattle.cam_gerber.specs.Machinery.Tracking.{HasPast, TracksPlaces, Weighs, repeat_of}
use Rattle.cam_gerber.specs.Machinery.WellMade.{IsOfAperture, IsWellMade, NamesAperture, is_of_board}
use Rattle.cam_gerber.proofs.Outside.{outside_is, passes_board, told_outside}
use Rattle.cam_gerber.proofs.JoiningParts.{on_board}
use Rattle.cam_gerber.proofs.Settling.{empty_map}
use Rattle.cam_gerber.proofs.StandingLeaves.{stands}
use Rattle.cam_gerber.proofs.SoundViews.{IsKnownNumber}
use Rattle.cam_gerber.proofs.SoundJoining.{sound_past}

-- ---- what is judged at once

some_map : (past : Past) (repeat : Option Opened) → is_some (option_map (repeat_of past) repeat) ≡ is_some repeat
some_map past repeat = grind arith

in_repeat : (past : Past) (r : Running) → TracksPlaces past r
    → (is_left_out r.frames.blocks.items && is_some r.frames.repeat) ≡ (is_left_out (open_blocks past) && is_some (open_repeat past))
in_repeat past r t = grind (arith, empty_map, some_map)

judged : (past : Past) (blocks : List ℕ) (repeat : Option Opened) (o : Object)
    → is_outside_at (home_by blocks repeat) past o ≡ (not (is_left_out blocks && is_some repeat) && is_outside past (One o))
judged past blocks repeat o = grind arith

pub judged_now : (past : Past) (r : Running) (o : Object) (check : Result (Unit {0}) ItemFault) → TracksPlaces past r
    → (is_left_out r.frames.blocks.items && is_some r.frames.repeat) ≡ false
    → IsWellMade r.built.layer.apertures o → check ≡ answer_of (first_holding (item_checks r.built.layer.apertures (One o)))
    → is_of_board check ≡ is_outside_at (home past) past o
judged_now past r o check t e well tells =
    told_outside r.built.layer.apertures (One o) check
    (record {
      repeated = refl;
      steps = tt;
      objects =
          All-cons (IsWellMade r.built.layer.apertures) o [] well (All-nil (IsWellMade r.built.layer.apertures));
    }) tells
    ∙ ap (λ es. not (are_leaves_on_board (item_leaves (meaning_in es) (One o)))) t.built.entries ∙ sym (outside_is past (One o))
    ∙ sym (judged past (open_blocks past) (open_repeat past) o ∙ ap (λ b. not b && is_outside past (One o)) (sym (in_repeat past r t) ∙ e))

pub judged_inside : (past : Past) (r : Running) (o : Object) → TracksPlaces past r
    → are_leaves_on_board (item_leaves (meaning_in r.built.layer.apertures) (One o)) ≡ true → is_outside_at (home past) past o ≡ false
judged_inside past r o t on = grind (arith, outside_is, judged)

-- ---- a flash of an aperture

means_stamp : (es : List (ℕ × Entry)) (n : ℕ) (at : Point) (turn : Turn) (dark : Bool) (names : NamesAperture es n)
    → (meaning_in es n).flash (flashed origin at turn dark)
    ≡ leaf (Stamp names.aperture (flashed origin at turn dark).turn (placed origin at)) (flashed origin at turn dark).dark ∷ []
means_stamp es n at turn dark names =
    ap (λ (means : ℕ → Meaning). (means n).flash (flashed origin at turn dark)) (sym (meaning_whole es (length es) refl))
    ∙ ap (λ (m : Meaning). m.flash (flashed origin at turn dark))
    (meaning-at es names.place (length es) n (Aperture names.aperture) names.distinct names.found
    (slice_get_within es names.place (n, Aperture names.aperture) names.found) (omega arith))

weighs_nothing : (es : List (ℕ × Entry)) (n : ℕ) → NamesAperture es n → weight_in es n ≡ no_weight
weighs_nothing es n names =
    ap (λ (xs : List (ℕ × Entry)). weight_in xs n) (sym (whole es))
    ∙ meant-at no_weight entry_weight es names.place (length es) n (Aperture names.aperture) names.distinct names.found
    (slice_get_within es names.place (n, Aperture names.aperture) names.found) (omega arith)

pub stamp_inside : (es : List (ℕ × Entry)) (o : Object) → IsOfAperture es o → IsWellMade es o
    → are_leaves_on_board (item_leaves (meaning_in es) (One o)) ≡ true
stamp_inside es (object.Flash n at turn dark) names well =
    let there : is_on_board (placed origin at) ≡ true = passes_board (placed origin at) (stands at (All-head IsOnBoard at [] well.points)) in
    ap are_leaves_on_board (means_stamp es n at turn dark names) ∙ rw there refl
stamp_inside es (object.Draw n from to turn dark) names well = absurd names
stamp_inside es (object.Arc ccw dark n from to centre) names well = absurd names
stamp_inside es (object.Region contour dark) names well = absurd names

pub stamp_weighs : (es : List (ℕ × Entry)) (o : Object) → IsOfAperture es o → Weighs (record { leaves = 1; depth = 0 }) es o
stamp_weighs es o names = grind (arith, weighs_nothing)

-- ---- a flash

pub flash_well : (old : Running) (n : ℕ) (at : Point) (turn : Turn) (dark : Bool) → HasPast old → old.modal.aperture ≡ Some n
    → is_on_board at ≡ true
    → IsWellMade old.built.layer.apertures (object.Flash n at turn dark)
flash_well old n at turn dark h a on = grind (arith, sound_past, HasNumber, IsKnownNumber, All-cons, on_board, All-nil)
