use Rattle.std.proofs.Common.{arith, ◌≡◌, ap, refl, sym, ◌∙◌}
use Rattle.std.proofs.lemmas.Result.{err_from_is_err_and}
use Rattle.cam_objects.specs.Contents.{content_of as gerber_content, drill_content_of as drill_content}
use Rattle.cam_edits.proofs.FittingEdits.{change_accepted}
use Rattle.cam_edits.proofs.Plans.{drill_planned, no_layer, no_memory, planned, sound_there, told}
use Rattle.cam_edits.proofs.planning.plan.Goals as goal
use Rattle.cam_edits.specs.Editing.{drill_step_of, judged_change, judged_drill, with_drill, with_gerber}
use Rattle.cam_edits.specs.Machinery.Shifts.{leaves_in}
use Rattle.cam_edits.specs.Sheets.{Content, Gerber, Drill, content_of, sheets_of}
use Rattle.cam_edits.specs.declared.board.SheetContent.{SheetContent}
use Rattle.cam_edits.specs.declared.board.SheetContent.TheVariants as kept

-- what a sheet holds is seen of its layer, as it is handed out
held : {L : Type 0} (of : L → SheetContent) (holds : Content) (content : SheetContent) (own layer : L)
    → content_of content ≡ holds → content ≡ of own → layer ≡ own → holds ≡ content_of (of layer)
held of holds content own layer e is same = sym e ∙ (ap content_of is ∙ ap (λ l. content_of (of l)) (sym same))

pub returns-in_default-clause-refused : goal.returns-in_default-clause-refused
returns-in_default-clause-refused c = grind (arith, no_layer)

pub judged-requires-clause-leaves : goal.judged-requires-clause-leaves
judged-requires-clause-leaves c = c.leaves.ensures ∙ sym (ap leaves_in c.layer-layer.ensures)

pub judged-requires-clause-sound : goal.judged-requires-clause-sound
judged-requires-clause-sound c =
    let holds = held kept.Gerber _ _ _ _ c.content.ensures c.in-Gerber.is c.layer-layer.ensures in
    sound_there c.args.edit (sheets_of c.args.board.now) c.in-Some.sheet (sym c.in-Some.ensures.value)
    c.in-Some.ensures.within c.requires (Gerber (gerber_content c.layer-layer.result.now)) holds

pub returns-in_err-step-in-Gerber-clause-refused : goal.returns-in_err-step-in-Gerber-clause-refused
returns-in_err-step-in-Gerber-clause-refused c =
    let layer = gerber_content c.layer-layer.result.now in
    let holds = held kept.Gerber _ _ _ _ c.content.ensures c.in-Gerber.is c.layer-layer.ensures in
    let p = err_from_is_err_and c.from_residual.result c.from_residual.ensures.1 in
    rw (p.1, p.2)
    (told c.args.edit (sheets_of c.args.board.now) c.in-Some.sheet (sym c.in-Some.ensures.value) c.in-Some.ensures.within
    (Gerber layer) holds (with_gerber layer) (judged_change layer c.args.edit.change) refl c.in_err-step-in-Gerber.field-0.0 (sym c.in_err-step-in-Gerber.ensures.value))

pub touched-requires-clause-sound : goal.touched-requires-clause-sound
touched-requires-clause-sound c =
    let holds = held kept.Gerber _ _ _ _ c.content.ensures c.in-Gerber.is c.layer-layer.ensures in
    (sound_there c.args.edit (sheets_of c.args.board.now) c.in-Some.sheet (sym c.in-Some.ensures.value)
    c.in-Some.ensures.within c.requires (Gerber (gerber_content c.layer-layer.result.now)) holds).content

pub touched-requires-clause-accepted : goal.touched-requires-clause-accepted
touched-requires-clause-accepted c =
    (change_accepted (gerber_content c.layer-layer.result.now) c.args.edit.change c.in_ok-step-in-Gerber.step
    (sym c.in_ok-step-in-Gerber.ensures.value)).1

pub returns-in_err-boxes-in-Gerber-clause-refused : goal.returns-in_err-boxes-in-Gerber-clause-refused
returns-in_err-boxes-in-Gerber-clause-refused c =
    let layer = gerber_content c.layer-layer.result.now in
    let holds = held kept.Gerber _ _ _ _ c.content.ensures c.in-Gerber.is c.layer-layer.ensures in
    let up = c.from_residual-in_err-boxes-in-Gerber in
    let p = err_from_is_err_and up.result up.ensures.1 in
    rw p.1
    (no_memory c.args.edit (sheets_of c.args.board.now) c.in-Some.sheet (sym c.in-Some.ensures.value)
    c.in-Some.ensures.within (Gerber layer) holds (with_gerber layer) (judged_change layer c.args.edit.change) refl
    c.in_ok-step-in-Gerber.step (sym c.in_ok-step-in-Gerber.ensures.value) p.0 p.2)

pub returns-in-Gerber-clause-planned : goal.returns-in-Gerber-clause-planned
returns-in-Gerber-clause-planned c =
    let sheets = sheets_of c.args.board.now in
    let named = sym c.in-Some.ensures.value in
    let holds = held kept.Gerber _ _ _ _ c.content.ensures c.in-Gerber.is c.layer-layer.ensures in
    planned c.args.edit sheets c.in-Some.sheet named c.in-Some.ensures.within (gerber_content c.layer-layer.result.now)
    holds c.in_ok-step-in-Gerber.step (sym c.in_ok-step-in-Gerber.ensures.value) c.in_ok-boxes-in-Gerber.boxes
    c.in_ok-boxes-in-Gerber.ensures c.in_ok-step-in-Gerber.ensures.fits
    (sound_there c.args.edit sheets c.in-Some.sheet named c.in-Some.ensures.within c.requires
    (Gerber (gerber_content c.layer-layer.result.now)) holds)

pub judged_drill-requires-clause-sound : goal.judged_drill-requires-clause-sound
judged_drill-requires-clause-sound c =
    let holds = held kept.Drill _ _ _ _ c.content.ensures c.in-Drill.is c.layer-layer-in-Drill.ensures in
    sound_there c.args.edit (sheets_of c.args.board.now) c.in-Some.sheet (sym c.in-Some.ensures.value)
    c.in-Some.ensures.within c.requires (Drill (drill_content c.layer-layer-in-Drill.result.now)) holds

pub returns-in_err-step-in-Drill-clause-refused : goal.returns-in_err-step-in-Drill-clause-refused
returns-in_err-step-in-Drill-clause-refused c =
    let layer = drill_content c.layer-layer-in-Drill.result.now in
    let holds = held kept.Drill _ _ _ _ c.content.ensures c.in-Drill.is c.layer-layer-in-Drill.ensures in
    let up = c.from_residual-in_err-step-in-Drill in
    let p = err_from_is_err_and up.result up.ensures.1 in
    rw (p.1, p.2)
    (told c.args.edit (sheets_of c.args.board.now) c.in-Some.sheet (sym c.in-Some.ensures.value) c.in-Some.ensures.within
    (Drill layer) holds (with_drill layer) (judged_drill layer (drill_step_of c.args.edit.change)) refl
    c.in_err-step-in-Drill.field-0.0 (sym c.in_err-step-in-Drill.ensures.value))

pub drill_touched-requires-clause-sound : goal.drill_touched-requires-clause-sound
drill_touched-requires-clause-sound c =
    let holds = held kept.Drill _ _ _ _ c.content.ensures c.in-Drill.is c.layer-layer-in-Drill.ensures in
    sound_there c.args.edit (sheets_of c.args.board.now) c.in-Some.sheet (sym c.in-Some.ensures.value)
    c.in-Some.ensures.within c.requires (Drill (drill_content c.layer-layer-in-Drill.result.now)) holds

pub returns-in_err-boxes-in-Drill-clause-refused : goal.returns-in_err-boxes-in-Drill-clause-refused
returns-in_err-boxes-in-Drill-clause-refused c =
    let layer = drill_content c.layer-layer-in-Drill.result.now in
    let holds = held kept.Drill _ _ _ _ c.content.ensures c.in-Drill.is c.layer-layer-in-Drill.ensures in
    let up = c.from_residual-in_err-boxes-in-Drill in
    let p = err_from_is_err_and up.result up.ensures.1 in
    rw p.1
    (no_memory c.args.edit (sheets_of c.args.board.now) c.in-Some.sheet (sym c.in-Some.ensures.value)
    c.in-Some.ensures.within (Drill layer) holds (with_drill layer)
    (judged_drill layer (drill_step_of c.args.edit.change)) refl c.in_ok-step-in-Drill.step (sym c.in_ok-step-in-Drill.ensures.value) p.0 p.2)

pub returns-clause-planned : goal.returns-clause-planned
returns-clause-planned c =
    let sheets = sheets_of c.args.board.now in
    let named = sym c.in-Some.ensures.value in
    let layer = drill_content c.layer-layer-in-Drill.result.now in
    let holds = held kept.Drill _ _ _ _ c.content.ensures c.in-Drill.is c.layer-layer-in-Drill.ensures in
    drill_planned c.args.edit sheets c.in-Some.sheet named c.in-Some.ensures.within layer holds c.in_ok-step-in-Drill.step
    (sym c.in_ok-step-in-Drill.ensures.value) c.in_ok-boxes-in-Drill.boxes c.in_ok-boxes-in-Drill.ensures
    c.in_ok-step-in-Drill.ensures.fits
    (sound_there c.args.edit sheets c.in-Some.sheet named c.in-Some.ensures.within c.requires (Drill layer) holds)

pub returns-in-Gerber-clause-refused : goal.returns-in-Gerber-clause-refused
returns-in-Gerber-clause-refused c = grind (arith)

pub returns-clause-refused : goal.returns-clause-refused
returns-clause-refused c = grind (arith)

pub drill_touched-requires-clause-known : goal.drill_touched-requires-clause-known
drill_touched-requires-clause-known c = grind (arith)
