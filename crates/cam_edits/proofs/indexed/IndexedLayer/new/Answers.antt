use Rattle.std.proofs.Common.{arith, refl}
use Rattle.std.proofs.lemmas.List.Sums.{sum-map}
use Rattle.cam_edits.proofs.indexed.IndexedLayer.new.Goals as goal

pub invariant_of-result : goal.invariant_of-result
invariant_of-result c = grind (arith, sum-map)

pub returns : goal.returns
returns c = refl
