use Rattle.std.proofs.Common.{◌↔◌, ◌*◌, ◌≤◌, IsTrue, length, rules, arith}
use Rattle.std.proofs.lemmas.Grind.{common_steps}
use Rattle.std.specs.List.{All}
use Rattle.cam_objects.specs.Soundness.{has_few_segs, segs_of}
use Rattle.cam_objects.specs.Weights.{block_count, weight_in}
use Rattle.cam_objects.proofs.TestLaws.{all, at_most, both, same_test}
use Rattle.cam_objects.proofs.checks.room.fits_repeat.Goals as goal

pub returns-then-all : goal.returns-then-all
returns-then-all c =
    let os = c.args.objects.now in
    let count = c.args.copies * block_count (weight_in c.args.entries.now) os in
    let told : IsTrue c.is_some.result ↔ (All (λ o. length (segs_of o) ≤ 1000000) os × ((length os ≤ 1000000) × (count ≤ 4000000))) =
    search rules in
    same_test c.is_some.result _ told
    (both (all has_few_segs (λ o. length (segs_of o) ≤ 1000000) (λ o. at_most (length (segs_of o)) 1000000) os)
    (both (at_most (length os) 1000000) (at_most count 4000000)))

pub returns-else-all : goal.returns-else-all
returns-else-all c = grind (arith, common_steps)
