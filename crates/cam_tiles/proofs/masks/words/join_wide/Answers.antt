use Rattle.std.proofs.Common.{◌≡◌, ◌+◌, ◌<◌, List, ℕ, length, slice_index, sym, subst, arith}
use Rattle.cam_rows.specs.Runs.{IsInRun}
use Rattle.cam_tiles.specs.Machinery.Runs.{HasColumn}
use Rattle.cam_tiles.specs.Machinery.Words.{JoinsColumns}
use Rattle.cam_tiles.proofs.JoinedWords.{joins_fewer, joins_more, joins_none, next_run}
use Rattle.cam_tiles.proofs.masks.words.join_wide.Goals.{then-first-end, else-first-end}
use Rattle.cam_tiles.proofs.masks.words.join_wide.Goals as goal

pub loop-row-preserved : goal.loop-row-preserved
loop-row-preserved c =
    let here = c.loop-row in
    let runs = c.args.runs.now in
    let columns = c.args.columns in
    let how = c.args.how in
    let k = here.row in
    let end = c.min-end.result in
    let IsNext : ℕ → ℕ → Type 0 = λ row column. (row ≡ k) × IsInRun (slice_index runs.firsts k) end column in
    let IsPassed : ℕ → ℕ → Type 0 = λ row column. (row < k + 1) × HasColumn runs row column in
    let more : (new : List ℕ) → JoinsColumns columns how IsNext here.words new
    → JoinsColumns columns how IsPassed c.args.words.now new = λ new next.
    joins_more columns how (λ row column. (row < k) × HasColumn runs row column) IsNext IsPassed c.args.words.now
    here.words new
    (λ row column low near. next_run runs columns k end row column here.auto.row c.loop-row-test.true c.min-end.ensures
    near)
    here.invariant next in
    elim c.if-first-end.branch [
      | then-first-end w ↦
          subst (JoinsColumns columns how IsPassed c.args.words.now) (sym w.words-is)
          (more _ (joins_fewer columns (length here.words) how IsNext here.words _
          (omega (arith, c.requires.wide.room)) w.join_run.ensures))
      | else-first-end w ↦
          subst (JoinsColumns columns how IsPassed c.args.words.now) (sym w.words-is)
          (more here.words (joins_none columns how IsNext here.words
          (λ row column held. omega (arith, held.1.0, held.1.1, w.if-first-end.false))))
    ]

pub returns : goal.returns
returns c = grind (arith)

pub loop-row-init : goal.loop-row-init
loop-row-init c = grind (arith)
