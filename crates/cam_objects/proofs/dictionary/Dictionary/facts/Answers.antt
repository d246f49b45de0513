use Rattle.cam_objects.proofs.KeptFacts.{facts_absent}
use Rattle.cam_objects.proofs.dictionary.Dictionary.facts.Goals as goal

pub returns-in-None-clause-value : goal.returns-in-None-clause-value
returns-in-None-clause-value c = facts_absent c.args.self.now c.args.number c.in-None.ensures.absent
