use Rattle.std.proofs.Common.{◌≡◌, ◌+◌, get_or, None, Some, inl, inr, sym, ap, subst, ◌∙◌, arith}
use Rattle.std.proofs.lemmas.Bool.{cases_lt}
use Rattle.cam_tiles.proofs.TileCounts.{few_tiles}
use Rattle.cam_tiles.specs.Machinery.Masks.{HoldsCentres}
use Rattle.cam_tiles.specs.Tables.{Tile}
use Rattle.cam_tiles.specs.Tiles.{grid_of}
use Rattle.cam_tiles.proofs.TilesInOrder.{read_clean}
use Rattle.cam_tiles.proofs.drawing.box_of_dirty.Goals.{then-is_none, else-is_none}
use Rattle.cam_tiles.proofs.drawing.box_of_dirty.Goals as goal

pub loop-k-preserved : goal.loop-k-preserved
loop-k-preserved c = λ j within dirty column row inside.
    let k = c.loop-k.k in
    let tiles = c.args.tiles.now in
    elim c.if-is_none.branch [
      | then-is_none w ↦ rw w.all-is (elim (cases_lt j k) [
        | inl before ↦
            w.joined-all.ensures.least.first _ (c.loop-k.invariant j before dirty column row inside)
        | inr here ↦
            (let same : k ≡ j = omega arith in
            let held : HoldsCentres w.bounds.result w.grid.result =
            λ column row there. w.bounds.ensures column row there.0 there.1 in
            w.joined-all.ensures.least.second _
            (subst (HoldsCentres w.bounds.result)
            (w.grid.ensures.value ∙ ap (λ n. grid_of c.args.window.now (c.args.first + n)) same) held column row inside))
      ])
      | else-is_none w ↦ rw w.all-is (elim (cases_lt j k) [
        | inl before ↦ c.loop-k.invariant j before dirty column row inside
        | inr here ↦
            (let same : j ≡ k = omega arith in
            let found = read_clean (get_or tiles k None) c.is_none.result c.is_none.ensures w.if-is_none.false in
            let never : ◌≡◌ {A = Tile} None (Some found.0) = sym dirty ∙ ap (λ n. get_or tiles n None) same ∙ found.1 in
            absurd cc)
      ])
    ]

pub overflow_add-first : goal.overflow_add-first
overflow_add-first c = grind (arith, few_tiles)

pub overflow_cast-k : goal.overflow_cast-k
overflow_cast-k c = grind (arith, few_tiles)

pub returns : goal.returns
returns c = grind (arith)
