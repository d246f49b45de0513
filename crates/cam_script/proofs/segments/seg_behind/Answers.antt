use Rattle.std.proofs.Common.{◌≡◌, true, arith}
use Rattle.cam_script.specs.Items.{is_line}
use Rattle.cam_script.proofs.FirstSegments.{straight_first}
use Rattle.cam_script.proofs.segments.seg_behind.Goals as goal

pub returns-then-is_line-clause-some : goal.returns-then-is_line-clause-some
returns-then-is_line-clause-some c =
    let line : is_line c.args.form.now ≡ true = cc in
    straight_first c.args.form.now c.in_ok-to.to.0.now c.in_ok-to.to.1.now c.args.words.now c.next_two.new.self
    c.line_seg.result line c.in_ok-to.ensures.some c.line_seg.ensures

pub returns-then-is_line-clause-none : goal.returns-then-is_line-clause-none
returns-then-is_line-clause-none c = grind (arith)

pub returns-in_err-centre-clause-none : goal.returns-in_err-centre-clause-none
returns-in_err-centre-clause-none c = grind (arith)

pub returns-in_err-centre-clause-some : goal.returns-in_err-centre-clause-some
returns-in_err-centre-clause-some c = grind (arith)

pub returns-in_err-to-clause-some : goal.returns-in_err-to-clause-some
returns-in_err-to-clause-some c = grind (arith)

pub returns-clause-some : goal.returns-clause-some
returns-clause-some c = grind (arith)

pub returns-clause-none : goal.returns-clause-none
returns-clause-none c = grind (arith)
