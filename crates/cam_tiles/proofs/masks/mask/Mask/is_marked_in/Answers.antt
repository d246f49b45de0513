use Rattle.std.proofs.Common.{refl, slice_index, subst, sym, arith}
use Rattle.std.specs.Int.{IsBitSet}
use Rattle.std.proofs.lemmas.Bool.{cases_lt, false≢true}
use Rattle.cam_rows.proofs.SetBits.{set_in_and}
use Rattle.cam_tiles.specs.Machinery.Masks.{Marking, marking_of}
use Rattle.cam_tiles.proofs.MarkedBoxes.{AllMarked, all_marked, row_marked}
use Rattle.cam_tiles.proofs.masks.mask.Mask.is_marked_in.Goals as goal

pub loop-row-preserved : goal.loop-row-preserved
loop-row-preserved c = λ column row from until set. grind (arith, cases_lt, set_in_and)

pub returns-in_default : goal.returns-in_default
returns-in_default c = rw c.in_default.is ((λ _ column row there held. absurd held), (λ _. refl))

pub reached-requires-clause-centres : goal.reached-requires-clause-centres
reached-requires-clause-centres c = λ column near. grind arith

-- a row in which some centre of the box is not marked
pub returns-then-self-row : goal.returns-then-self-row
returns-then-self-row c =
    let low = c.in-Closed.low in
    let high = c.in-Closed.high in
    let m = marking_of c.self.inside in
    let missed : AllMarked low high m → ⊥ =
    λ all. c.if-self-row.true (row_marked m low high c.reached.result.0 c.reached.result.1 c.run_row-run.result
    c.self.invariant.mask.grid.columns.1 c.run_row-run.type_inv c.reached.ensures c.run_row-run.ensures all c.loop-row.row
    c.loop-row.auto.row c.loop-row-test.true) in
    rw c.in-Closed.is (
      (λ told. absurd (false≢true told)),
      (λ all.
          absurd (missed (subst (AllMarked low high) (sym c.self.view_is) all))),
    )

pub returns : goal.returns
returns c =
    let low = c.in-Closed.low in
    let high = c.in-Closed.high in
    let m = marking_of c.self.inside in
    let all : AllMarked low high m =
    all_marked m low high c.reached.result.0 c.reached.result.1 c.run_row-run.result c.self.invariant.mask.grid.columns.1
    c.run_row-run.type_inv c.reached.ensures c.run_row-run.ensures (λ column row from until set.
    subst (λ (n : Marking). IsBitSet (slice_index n.rows row) column) (sym c.self.view_is)
    (c.loop-row.invariant column row from (omega (arith, until, c.loop-row-test.false)) set)) in
    rw c.in-Closed.is ((λ _. subst (AllMarked low high) c.self.view_is all), (λ _. refl))

pub loop-row-init : goal.loop-row-init
loop-row-init c = omega (arith)
