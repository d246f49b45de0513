use Rattle.std.proofs.Common.{sym, subst, arith}
use Rattle.cam_objects.specs.declared.entry.Entry.TheVariants.{Block}
use Rattle.cam_objects.specs.Soundness.{MayAddEntry}
use Rattle.cam_gerber.proofs.SoundEntries.{closing_may_add}
use Rattle.cam_gerber.proofs.running.Running.close_block.Goals as goal

pub push-requires : goal.push-requires
push-requires c =
    subst (λ objects. MayAddEntry c.args.self.now.built.layer.apertures c.in-Some.block.number (Block objects)) (sym c.into_objects.ensures)
    (closing_may_add c.args.self.now c.in-Some.block _ c.requires c.in-Some.ensures.items)

pub returns : goal.returns
returns c = grind (arith)
