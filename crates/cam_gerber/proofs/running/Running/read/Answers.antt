use Rattle.std.proofs.Common.{arith, ◌∷◌, sym, ap, subst, ◌∙◌}
use Rattle.std.specs.Prelude.{Ok, Err}
use Rattle.cam_refusals.specs.declared.stop.Stop.TheVariants.{Fault}
use Rattle.cam_words.specs.Reading.{word_answer}
use Rattle.cam_commands.specs.Syntax.{command_of}
use Rattle.cam_commands.specs.Borrowed.{found, shown}
use Rattle.cam_gerber.specs.Reading.{IsReading, is_end_command}
use Rattle.cam_gerber.specs.Machinery.Tracking.{HasFewDecimals, Obeys}
use Rattle.cam_gerber.proofs.OpenNumbers.{short_format}
use Rattle.cam_gerber.proofs.Leading.{ended, goes_on, refused, starts, uncut, unended}
use Rattle.cam_gerber.proofs.running.Running.read.Goals as goal

pub loop-answer-init : goal.loop-answer-init
loop-answer-init c = starts c.args.bytes.now c.args.self.now c.new-words.result c.requires c.new-words.ensures.reading

pub returns-in-Err : goal.returns-in-Err
returns-in-Err c =
    uncut c.args.bytes.now c.loop-answer.self c.loop-answer.words c.loop-answer.invariant c.next.new.self c.in-Err.fault
    (c.in-Some.ensures.some ∙ ap (λ answer. word_answer answer ∷ c.next.new.self) c.in-Err.is)

pub obey-requires-clause-short : goal.obey-requires-clause-short
obey-requires-clause-short c = subst HasFewDecimals (sym c.command_of-command.ensures) (short_format (found c.in-Ok.word))

pub returns-in-Err-Fault : goal.returns-in-Err-Fault
returns-in-Err-Fault c =
    let told : Obeys (command_of (found c.in-Ok.word)) c.loop-answer.self (Err (Fault c.in-Err-Fault.code)) c.obey.new.self =
    subst (λ k. Obeys k c.loop-answer.self (Err (Fault c.in-Err-Fault.code)) c.obey.new.self) c.command_of-command.ensures
    (subst (λ stop. Obeys (shown c.command_of-command.result) c.loop-answer.self (Err stop) c.obey.new.self) c.in-Err-Fault.field-0-is
    (subst (λ result. Obeys (shown c.command_of-command.result) c.loop-answer.self result c.obey.new.self) c.in-Err-Fault.is
    c.obey.ensures)) in
    rw c.in-Err-Fault.code-is
    (subst (λ at. IsReading c.args.bytes.now (Err (record { code = c.in-Err-Fault.code; at = at }))) (sym c.start_of.ensures)
    (refused c.args.bytes.now c.loop-answer.self c.loop-answer.words c.loop-answer.invariant c.obey.new.self c.next.new.self
    (found c.in-Ok.word) (c.in-Some.ensures.some ∙ ap (λ answer. word_answer answer ∷ c.next.new.self) c.in-Ok.is)
    c.in-Err-Fault.code told))

pub returns-then-ends : goal.returns-then-ends
returns-then-ends c =
    ended c.args.bytes.now c.loop-answer.self c.loop-answer.words c.loop-answer.invariant c.obey.new.self c.next.new.self
    (found c.in-Ok.word) (c.in-Some.ensures.some ∙ ap (λ answer. word_answer answer ∷ c.next.new.self) c.in-Ok.is)
    (subst (λ k. Obeys k c.loop-answer.self (Ok tt) c.obey.new.self) c.command_of-command.ensures c.in-Ok-obey.ensures)
    (ap is_end_command (sym c.command_of-command.ensures) ∙ sym c.is_end-ends.ensures ∙ c.if-ends.true)

pub loop-answer-preserved : goal.loop-answer-preserved
loop-answer-preserved c = grind (arith, goes_on)

pub returns : goal.returns
returns c =
    unended c.args.bytes.now c.loop-answer.self c.loop-answer.words c.loop-answer.invariant c.in_default.ensures.none.0

pub loop-answer-smaller : goal.loop-answer-smaller
loop-answer-smaller c = grind (arith)

pub returns-in-Err-Memory : goal.returns-in-Err-Memory
returns-in-Err-Memory c = grind (arith)
