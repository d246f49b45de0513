use Rattle.std.proofs.Common.{◌∙◌, OnErr, Some, ap, arith, refl, subst}
use Rattle.cam_station.specs.Files.{MayHaveStored, ToldFiles}
use Rattle.camplot.specs.Disk.{found_of, own_path}
use Rattle.camplot.specs.declared.calls.Found.TheVariants.{Plain}
use Rattle.camplot.proofs.Straight.{not_done, still_plain}
use Rattle.camplot.proofs.system.DiskFiles.put.Goals as goal

pub returns-in-Err-clause-lost : goal.returns-in-Err-clause-lost
returns-in-Err-clause-lost c = grind (arith)

pub returns-in-Err-clause-stored : goal.returns-in-Err-clause-stored
returns-in-Err-clause-stored c = assumption arith

pub returns-in-Err-clause-counted : goal.returns-in-Err-clause-counted
returns-in-Err-clause-counted c = grind (arith)

pub returns-in-Ok-Nothing-clause-whole : goal.returns-in-Ok-Nothing-clause-whole
returns-in-Ok-Nothing-clause-whole g c = λ not.
    subst (λ (it : ToldFiles). OnErr c.put_whole.result (MayHaveStored it (g.C.Calls.contents c.put_whole.new.self.calls)
    (own_path c.args.path.now)))
    c.find.ensures.kept
    (c.put_whole.ensures.whole (not_done _ _ (c.put_whole.ensures.straight refl (λ there. cc)) not))

pub returns-in-Ok-Plain-clause-whole : goal.returns-in-Ok-Plain-clause-whole
returns-in-Ok-Plain-clause-whole g c = λ not.
    subst (λ (it : ToldFiles). OnErr c.put_over.result (MayHaveStored it (g.C.Calls.contents c.put_over.new.self.calls)
    (own_path c.args.path.now)))
    c.find.ensures.kept
    (c.put_over.ensures.whole (not_done _ _ (c.put_over.ensures.straight refl
    (still_plain (Some (Plain c.in-Ok-Plain.about)) _
    (ap found_of c.find.ensures.known ∙ rw (c.in-Ok-Plain.is, c.in-Ok-Plain.field-0-is) refl) tt)) not))
