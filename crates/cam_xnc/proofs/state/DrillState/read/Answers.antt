use Rattle.std.proofs.Common.{[], ◌∷◌, refl, sym, ◌∙◌, inl, arith}
use Rattle.cam_xnc.specs.Bytes.{line_packed}
use Rattle.cam_xnc.specs.Machinery.Cutters.{found}
use Rattle.cam_xnc.specs.Syntax.{statement_of}
use Rattle.cam_xnc.proofs.Readings.{reading_goes_on, takes}
use Rattle.cam_xnc.proofs.state.DrillState.read.Goals as goal

pub loop-line-init : goal.loop-line-init
loop-line-init c = ([], c.requires, rw c.new-lines.ensures (reading_goes_on c.args.bytes.now))

pub returns-in-Err-Fault-clause-fault : goal.returns-in-Err-Fault-clause-fault
returns-in-Err-Fault-clause-fault c =
    let past = c.loop-line.invariant.0 in
    let good = sym c.holds_bad_byte.ensures ∙ c.if-holds_bad_byte.false in
    let fault = rw c.in-Err-Fault.field-0-is at (c.in-Err-Fault.ensures past c.loop-line.invariant.1) in
    rw c.in-Err-Fault.code-is
    (inl (takes c.args.bytes.now past (found c.in-Some.line) _ c.next.new.self c.code_of-code.result.now
    c.leading_skipped.result c.in-Ok.statement c.loop-line.invariant.2 c.in-Some.ensures.some c.code_of-code.ensures.value
    (sym c.is_blank.ensures ∙ c.if-is_blank.false) c.leading_skipped.ensures.value c.in-Ok.ensures ∙ rw (good, fault) refl))

pub loop-line-preserved : goal.loop-line-preserved
loop-line-preserved c =
    let past = c.loop-line.invariant.0 in
    let good = sym c.holds_bad_byte.ensures ∙ c.if-holds_bad_byte.false in
    let obeyed = c.in-Ok-obey.ensures past c.loop-line.invariant.1 in
    let more = sym c.is_last_line.ensures ∙ c.if-is_last_line.false in (
      c.in-Ok.statement ∷ past,
      obeyed.1,
      takes c.args.bytes.now past (found c.in-Some.line) _ c.next.new.self c.code_of-code.result.now c.leading_skipped.result
          c.in-Ok.statement c.loop-line.invariant.2 c.in-Some.ensures.some c.code_of-code.ensures.value
          (sym c.is_blank.ensures ∙ c.if-is_blank.false) c.leading_skipped.ensures.value c.in-Ok.ensures
          ∙ rw (good, obeyed.0, more) refl,
    )

pub returns-then-holds_bad_byte-clause-fault : goal.returns-then-holds_bad_byte-clause-fault
returns-then-holds_bad_byte-clause-fault c =
    let code = c.code_of-code.result.now in
    let bad = sym c.holds_bad_byte.ensures ∙ c.if-holds_bad_byte.true in
    inl (takes c.args.bytes.now c.loop-line.invariant.0 (found c.in-Some.line) _ c.next.new.self code c.leading_skipped.result
    (statement_of (line_packed code)) c.loop-line.invariant.2 c.in-Some.ensures.some c.code_of-code.ensures.value
    (sym c.is_blank.ensures ∙ c.if-is_blank.false) c.leading_skipped.ensures.value refl ∙ rw bad refl)

pub loop-line-smaller-then-is_blank : goal.loop-line-smaller-then-is_blank
loop-line-smaller-then-is_blank c = grind (arith)

pub returns-in-Err-Memory-clause-fault : goal.returns-in-Err-Memory-clause-fault
returns-in-Err-Memory-clause-fault c = grind (arith)

pub returns-in_default-statement_of-clause-fault : goal.returns-in_default-statement_of-clause-fault
returns-in_default-statement_of-clause-fault c = grind (arith)

pub returns-in-Err-Memory-clause-ends : goal.returns-in-Err-Memory-clause-ends
returns-in-Err-Memory-clause-ends c = grind (arith)

pub returns-clause-fault : goal.returns-clause-fault
returns-clause-fault c = grind (arith)

pub returns-in-Err-Fault-clause-ends : goal.returns-in-Err-Fault-clause-ends
returns-in-Err-Fault-clause-ends c = grind (arith)

pub returns-then-is_last_line-clause-ends : goal.returns-then-is_last_line-clause-ends
returns-then-is_last_line-clause-ends c = grind (arith)

pub loop-line-preserved-then-is_blank : goal.loop-line-preserved-then-is_blank
loop-line-preserved-then-is_blank c = grind (arith)

pub loop-line-smaller : goal.loop-line-smaller
loop-line-smaller c = grind (arith)
