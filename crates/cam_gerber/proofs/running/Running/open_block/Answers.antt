use Rattle.std.proofs.Common.{◌≡◌, ◌∷◌, sym, ap, subst, ◌∙◌, length, None, arith}
use Rattle.std.proofs.lemmas.Grind.{common_steps}
use Rattle.std.proofs.lemmas.Bool.{lt-leb}
use Rattle.cam_refusals.specs.Checks.{first_holding}
use Rattle.cam_commands.specs.Commands.{OpenBlock}
use Rattle.cam_gerber.specs.Statements.{Says}
use Rattle.cam_gerber.specs.Faults.{command_faults}
use Rattle.cam_gerber.specs.Machinery.Tracking.{Tracks}
use Rattle.cam_gerber.proofs.Opening.{opened_tracks}
use Rattle.cam_gerber.proofs.running.Running.open_block.Goals as goal

pub returns : goal.returns
returns c = λ past none t.
    subst (λ number. (first_holding (command_faults past (OpenBlock number)) ≡ None)
    × Tracks (Says (OpenBlock number) ∷ past)
    (record c.args.self.now { frames = record c.args.self.now.frames { blocks = c.push_front.new.self } }))
    (sym c.in-Some.is)
    (opened_tracks past c.args.self.now c.in-Some.number c.push_front.new.self t
    (sym (c.is_taken.ensures past (record { frames = t.frames; built = t.built })) ∙ c.if-is_taken.false) c.if-self.false
    (sym c.is_some.ensures ∙ c.if-is_some.false) (lt-leb 8 (length c.args.self.now.frames.blocks.items) (omega arith))
    (c.in_ok-push_front.ensures.items
    ∙ ap (λ objects. record { number = c.in-Some.number; objects = objects; leaves = 0 } ∷ c.args.self.now.frames.blocks.items)
    c.new-objects.ensures))

pub returns-then-len-ge-DEPTH_LIMIT : goal.returns-then-len-ge-DEPTH_LIMIT
returns-then-len-ge-DEPTH_LIMIT c = grind (arith, common_steps)
