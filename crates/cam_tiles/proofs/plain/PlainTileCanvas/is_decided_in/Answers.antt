use Rattle.std.proofs.Common.{◌≡◌, ◌↔◌, ℕ, IsTrue, true, ap, subst}
use Rattle.cam_units.specs.Boxes.{Holds}
use Rattle.cam_tiles.specs.Machinery.Masks.{IsIn, Marking, ink_of}
use Rattle.cam_tiles.specs.Tiles.{centre_in}
use Rattle.cam_tiles.proofs.SwathInks.{ink_decided, some_ink}
use Rattle.cam_tiles.proofs.plain.PlainTileCanvas.is_decided_in.Goals as goal

pub returns : goal.returns
returns c =
    let law = subst
    (λ (m : Marking). IsTrue c.is_marked_in.result ↔ ((column row : ℕ) → IsIn m.grid column row
    → Holds c.args.bounds (centre_in m.grid column row) → ink_of m column row ≡ true))
    (ap (λ (p : Marking × Marking). p.0) c.self.view_is) c.is_marked_in.ensures in (
      (λ told column row inside holds. some_ink _ _ (law.0 told column row inside holds)),
      (λ all. law.1 (λ column row inside holds. ink_decided _ _ (all column row inside holds))),
    )
