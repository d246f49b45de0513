use Rattle.std.proofs.Common.{◌≡◌, ◌<◌, List, Equal, get_or, length, rules, subst, sym}
use Rattle.std.specs.Ordering.{nat_cmp}
use Rattle.std.proofs.lemmas.List.Sorted.{answers_always}
use Rattle.cam_objects.specs.Cells.{AreFirstCopiesOf, FirstCopied}
use Rattle.cam_objects.proofs.KeptCopies.{found_at}
use Rattle.cam_objects.proofs.boxes.first_copies.FirstCopies.at.Goals as goal

-- the closure tells the place of each
pub returns-in-Ok : goal.returns-in-Ok
returns-in-Ok c = λ entries items item known listed.
    let value = c.deref.ensures.value in
    let first = c.index.result.now in
    found_at entries items c.self.inside.found.items c.in-Ok.at c.args.place first item
    (subst (AreFirstCopiesOf entries items) (sym c.self.view_is) known)
    (subst (λ (fs : List FirstCopied). c.in-Ok.at < length fs) value c.in-Ok.ensures.bound) c.index.ensures
    (subst (λ (fs : List FirstCopied). nat_cmp (get_or fs c.in-Ok.at first).place c.args.place ≡ Equal) value
    (c.in-Ok.ensures.position (λ f. f.place) (answers_always _ _ _ (λ f a r g called. search rules)) first)) listed
