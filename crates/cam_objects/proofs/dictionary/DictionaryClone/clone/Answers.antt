use Rattle.std.proofs.Common.{rules}
use Rattle.std.proofs.lemmas.List.Elements.{same_from_all_zip}
use Rattle.cam_objects.proofs.Copies.{cells_same, entries_same}
use Rattle.cam_objects.proofs.dictionary.DictionaryClone.clone.Goals as goal

pub invariant_of-result : goal.invariant_of-result
invariant_of-result c =
    rw (
      entries_same _ _ c.in_ok-map.ensures.cases,
      same_from_all_zip _ _ _ c.in_ok-facts.ensures.cases.0 (λ x y same. same),
      same_from_all_zip _ _ _ c.in_ok-cells.ensures.cases.0 cells_same,
    ) (search rules)

pub returns : goal.returns
returns c = rw (entries_same _ _ c.in_ok-map.ensures.cases) (search rules)
