use Rattle.std.proofs.Common.{arith, ◌≡◌, ℕ, List, None, Option, Some, Bor, slice_get}
use Rattle.std.specs.Prelude.{MatchOption}
use Rattle.std.specs.Slice.{IsItemAt}
use Rattle.cam_edits.proofs.Refusals.{none_at, read_at}
use Rattle.cam_edits.proofs.mending.item_at.Goals as goal

read : {X : Type 0} (xs : List X) (k : ℕ) (o : Option (Bor X)) → IsItemAt xs k o
    → MatchOption o (slice_get xs k ≡ None) (λ item. slice_get xs k ≡ Some item.now)
read xs k o h = grind (arith, none_at, read_at)

pub returns-in-Some : goal.returns-in-Some
returns-in-Some g c = grind (arith, read)

pub returns-in-None : goal.returns-in-None
returns-in-None c = grind (arith)
