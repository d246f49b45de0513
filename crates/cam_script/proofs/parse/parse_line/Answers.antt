use Rattle.std.proofs.Common.{◌∙◌, sym, arith}
use Rattle.std.proofs.lemmas.Result.{err_from_is_err_and}
use Rattle.cam_script.proofs.Forms.{line_read, line_refused, line_without_words}
use Rattle.cam_script.proofs.parse.parse_line.Goals as goal

pub returns-in_default : goal.returns-in_default
returns-in_default c =
    line_without_words c.args.line.now c.if-line-gt-LINE_LIMIT.false
    (sym c.new-words.ensures ∙ (rw c.in_default.is at c.next.ensures.none).0)

pub returns-in_err-line : goal.returns-in_err-line
returns-in_err-line c =
    let told = err_from_is_err_and c.from_residual.result c.from_residual.ensures.1 in
    rw (told.1, told.2)
    (line_refused c.args.line.now c.in-Some.verb.now c.next.new.self c.if-line-gt-LINE_LIMIT.false
    (sym c.new-words.ensures ∙ c.in-Some.ensures.some)
    (λ e. c.if-first_byte-eq35.false (c.first_byte.ensures ∙ e)) _ c.in_err-line.ensures)

pub returns : goal.returns
returns c =
    line_read c.args.line.now c.in-Some.verb.now c.next.new.self c.if-line-gt-LINE_LIMIT.false
    (sym c.new-words.ensures ∙ c.in-Some.ensures.some)
    (λ e. c.if-first_byte-eq35.false (c.first_byte.ensures ∙ e)) c.in_ok-line.line c.in_ok-line.ensures

pub returns-then-line-gt-LINE_LIMIT : goal.returns-then-line-gt-LINE_LIMIT
returns-then-line-gt-LINE_LIMIT c = grind (arith)

pub returns-then-first_byte-eq35 : goal.returns-then-first_byte-eq35
returns-then-first_byte-eq35 c = grind (arith)
