use Rattle.std.proofs.Common.{◌≡◌, ap, ◌∙◌, ℕ, List, [], ◌∷◌, ◌++◌, codes}
use Rattle.cam_units.specs.declared.length.Unit.TheVariants.{Mm}
use Rattle.cam_xnc.specs.declared.statement.Statement.TheVariants.{BeginHeader, SetUnit}
use Rattle.cam_writers.specs.DrillTexts.{Lines, text_of}
use Rattle.cam_writers.proofs.InForce.{opened}
use Rattle.cam_writers.proofs.drill_text.DrillText.new.Goals as goal

pub returns : goal.returns
returns c =
    let lines : Lines = (codes "METRIC", SetUnit Mm) ∷ (codes "M48", BeginHeader) ∷ [] in
    let e0 = c.new-text.ensures.items in
    let e1 = c.in_ok-push_line.ensures in
    let e2 = c.in_ok-push_line-2.ensures in
    let head : c.push_line-2.new.text.items ≡ text_of lines = cc in
    opened c.args.tools.now _
    (c.in_ok-push_line-4.ensures ∙ ap (λ (front : List ℕ). front ++ (codes "G05" ++ codes "\n"))
    (c.in_ok-push_line-3.ensures ∙ ap (λ (front : List ℕ). front ++ (codes "%" ++ codes "\n"))
    (c.in_ok-push_declarations.ensures lines head)))
