use Rattle.std.proofs.Common.{◌≡◌, false, sym, ap, ◌∙◌}
use Rattle.std.specs.Prelude.{◌||◌, is_some, nat_eq}
use Rattle.std.specs.Map.{lookup}
use Rattle.cam_gerber.specs.Homes.{open_blocks}
use Rattle.cam_gerber.specs.Faults.{is_defined}
use Rattle.cam_gerber.proofs.Pasts.{has, open_same}
use Rattle.cam_gerber.proofs.running.Running.is_taken.Goals as goal

pub returns : goal.returns
returns c = λ past t.
    let undefined : is_defined past c.args.number ≡ false =
    ap (λ es. is_some (lookup (nat_eq c.args.number) es)) (sym t.built.entries) ∙ sym c.is_defined.ensures ∙ c.if-is_defined.false in
    c.is_open.ensures ∙ open_same past c.args.self.now.frames.blocks.items c.args.number t.frames.blocks
    ∙ sym (ap (λ b. b || has c.args.number (open_blocks past)) undefined)
