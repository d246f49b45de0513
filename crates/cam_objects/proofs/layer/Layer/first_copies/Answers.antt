use Rattle.std.proofs.Common.{arith, ◌≡◌, ℕ, Bool, List, [], ◌∷◌, ◌++◌, Some, if◌then◌else◌, subst}
use Rattle.std.proofs.lemmas.Grind.{common_steps}
use Rattle.std.specs.List.{All, slice_get}
use Rattle.std.proofs.lemmas.List.Elements.{All-push}
use Rattle.cam_objects.specs.Cells.{FirstCopied, IsFirstCopyOf}
use Rattle.cam_objects.specs.declared.entry.Entry.{Entry}
use Rattle.cam_objects.specs.declared.item.Item.{Item}
use Rattle.cam_objects.proofs.layer.Layer.first_copies.Goals.{in-Some+in-Err-1, in-Some+in-Ok-1, in_default}
use Rattle.cam_objects.proofs.layer.Layer.first_copies.Goals as goal

abbrev IsKnown : List (ℕ × Entry) → List Item → FirstCopied → Type 0
IsKnown entries items first = (item : Item) → slice_get items first.place ≡ Some item → IsFirstCopyOf entries item first

known : (entries : List (ℕ × Entry)) (items : List Item) (first : FirstCopied) (place : ℕ) → first.place ≡ place
    → ((item : Item) → slice_get items place ≡ Some item → IsFirstCopyOf entries item first) → IsKnown entries items first
known entries items first place is h = λ item at. h item (subst (λ (k : ℕ). slice_get items k ≡ Some item) is at)

-- one more, where there is memory for it
perhaps_more : (P : FirstCopied → Type 0) (xs ys : List FirstCopied) (x : FirstCopied) (b : Bool)
    → ys ≡ (if b then xs ++ x ∷ [] else xs) → All P xs → P x → All P ys
perhaps_more P xs ys x b is all new = grind (arith, common_steps, All-push)

pub loop-place-preserved : goal.loop-place-preserved
loop-place-preserved c =
    let layer = c.args.self.now in
    let before = c.loop-place.invariant in
    elim c.match-first_copy.branch [
      | in-Some+in-Err-1 w ↦
          rw w.found-is
          (perhaps_more (IsKnown layer.apertures layer.items.items) c.loop-place.found.items _ w.in-Some.first _ w.push.ensures.items before
          (known layer.apertures layer.items.items w.in-Some.first c.loop-place.place w.in-Some.ensures.place w.in-Some.ensures.value))
      | in-Some+in-Ok-1 w ↦
          rw w.found-is
          (perhaps_more (IsKnown layer.apertures layer.items.items) c.loop-place.found.items _ w.in-Some.first _ w.push.ensures.items before
          (known layer.apertures layer.items.items w.in-Some.first c.loop-place.place w.in-Some.ensures.place w.in-Some.ensures.value))
      | in_default w ↦ rw w.found-is before
    ]
