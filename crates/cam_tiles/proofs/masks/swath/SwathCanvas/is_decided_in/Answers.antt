use Rattle.std.proofs.Common.{◌<◌, IsSome, subst, sym, arith}
use Rattle.cam_units.specs.Boxes.{Holds}
use Rattle.cam_units.specs.declared.bounds.Bounds.{Bounds}
use Rattle.cam_tiles.specs.Machinery.Swaths.{Swathed, ink_in, place_in}
use Rattle.cam_tiles.proofs.SwathInks.{ink_decided, some_ink}
use Rattle.cam_tiles.proofs.masks.swath.SwathCanvas.is_decided_in.Goals as goal

pub returns : goal.returns
returns c = (
  (λ told column row inside holds.
      let held = subst (λ (b : Bounds). Holds b (place_in c.args.self.now column row)) c.in-Closed.is holds in
      let here = (c.reached.ensures.each column row inside.0 inside.1).0 held in
      subst (λ (v : Swathed). IsSome (ink_in v column row)) c.self.view_is
      (some_ink _ _ (c.is_decided.ensures.0 told row column here.1.0 here.1.1 here.0.0 here.0.1))),
  (λ all. c.is_decided.ensures.1 (λ row column after until from to.
      let near : column < c.args.self.now.columns = omega (arith, to, c.reached.ensures.left_of) in
      let below : row < c.args.self.now.grid.rows = omega (arith, until, c.reached.ensures.above) in
      let held = (c.reached.ensures.each column row near below).1 ((from, to), (after, until)) in
      let some = all column row (near, below)
      (subst (λ (b : Bounds). Holds b (place_in c.args.self.now column row)) (sym c.in-Closed.is) held) in
      ink_decided _ _ (subst (λ (v : Swathed). IsSome (ink_in v column row)) (sym c.self.view_is) some))),
)
