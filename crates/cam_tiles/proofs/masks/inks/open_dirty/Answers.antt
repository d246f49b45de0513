use Rattle.std.proofs.Common.{◌≡◌, ◌+◌, None, Some, [], not, ap, sym, subst, ◌∙◌, arith}
use Rattle.std.specs.Prelude.{is_none, slice_index_or}
use Rattle.std.proofs.lemmas.List.{get_or_default}
use Rattle.cam_tiles.proofs.OpenedWords.{AreOpenBefore, next_closed, next_open, none_before}
use Rattle.cam_tiles.proofs.masks.inks.open_dirty.Goals.{then-is_none, else-is_none}
use Rattle.cam_tiles.proofs.masks.inks.open_dirty.Goals as goal

pub loop-tile-init : goal.loop-tile-init
loop-tile-init c = none_before c.args.columns c.args.rows c.args.tiles.now c.args.decided.now

pub loop-tile-preserved : goal.loop-tile-preserved
loop-tile-preserved c =
    let tile = c.loop-tile.tile in
    let same : is_none (slice_index_or c.args.tiles.now tile (Some [])) ≡ not (not c.is_none.result) =
    ap is_none (get_or_default c.args.tiles.now tile (Some []) None c.loop-tile-test.true) ∙ ap not c.is_none.ensures in
    elim c.if-is_none.branch [
      | then-is_none w ↦
          subst (AreOpenBefore (tile + 1) c.args.columns c.args.rows c.args.tiles.now c.args.decided.now) (sym w.decided-is)
          (next_open tile c.args.columns c.args.rows c.args.tiles.now c.args.decided.now c.loop-tile.decided
          c.loop-tile.invariant c.loop-tile-test.true c.requires.all _ w.open.ensures.size w.open.ensures.each
          w.open.ensures.others (same ∙ ap (λ b. not (not b)) w.if-is_none.true))
      | else-is_none w ↦
          subst (AreOpenBefore (tile + 1) c.args.columns c.args.rows c.args.tiles.now c.args.decided.now) (sym w.decided-is)
          (next_closed tile c.args.columns c.args.rows c.args.tiles.now c.args.decided.now c.loop-tile.decided
          c.loop-tile.invariant c.loop-tile-test.true c.requires.all
          (same ∙ ap (λ b. not (not b)) w.if-is_none.false))
    ]

pub open-requires-clause-few : goal.open-requires-clause-few
open-requires-clause-few c = grind (arith)
