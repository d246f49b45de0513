-- What a list of items ends as, where a `&mut` to all of them is returned.
use Rattle.std.specs.Prelude.{List, length}
use Rattle.std.specs.List.{refill}
use Rattle.std.specs.Borrow.{Lends, Fml, RattleType, MutBor, Array}
use Rattle.cam_units.specs.contracts.items.Items.{the_row}

-- once the borrow ends, the list has the items last written, which are as many
abbrev pub LendsItems : (T : RattleType) → MutBor (List T.Denot) → MutBor (List T.Denot) → Fml
LendsItems T list items = Lends (the_row T) (Array T 0) list items (refill (length list.now) list.now)
