use Rattle.std.proofs.Common.{ℕ, List, ap, ◌∙◌, slice_get}
use Rattle.cam_objects.specs.declared.entry.Entry.{Entry}
use Rattle.cam_objects.specs.Machinery.Facts.{facts_at}
use Rattle.cam_objects.proofs.KeptFacts.{facts_found, light_found, near_found}
use Rattle.cam_objects.proofs.dictionary.Dictionary.find_with_facts.Goals as goal

pub returns-in-Some : goal.returns-in-Some
returns-in-Some c =
    let es = c.self.inside.map.entries in
    let fs = c.self.inside.facts.items in
    let i = c.in-Some.place in
    let n = c.args.number in
    let e = c.in-Some.entry.now in
    let f = c.index.result.now in
    let here = ap (λ (ds : List (ℕ × Entry)). slice_get ds i) c.self.view_is ∙ c.in-Some.ensures.found in
    let same = facts_found es fs i n e f c.self.invariant.0 here c.index.ensures in
    let low = light_found es fs i n e f c.self.invariant.0 here same in
    record {
      found = c.in-Some.ensures.found;
      value = same ∙ ap (λ (ds : List (ℕ × Entry)). facts_at ds n) c.self.view_is;
      few = low.0;
      shallow = low.1;
      near = low.2;
      reach = near_found es n f c.self.invariant.0.sound same low.2;
      absent = tt;
      distinct = c.in-Some.ensures.distinct;
    }

pub returns-in-None-clause-absent : goal.returns-in-None-clause-absent
returns-in-None-clause-absent c = c.in-None.ensures.absent

pub returns-in-None-clause-distinct : goal.returns-in-None-clause-distinct
returns-in-None-clause-distinct c = c.in-None.ensures.distinct
