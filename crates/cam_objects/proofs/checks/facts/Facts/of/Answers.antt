use Rattle.std.proofs.Common.{List, sym, subst, arith}
use Rattle.std.proofs.lemmas.Grind.{common_steps}
use Rattle.std.specs.List.{All}
use Rattle.cam_objects.specs.declared.object.Object.{Object}
use Rattle.cam_objects.specs.Leaves.{block_leaves, meaning_in, origin}
use Rattle.cam_objects.specs.Machinery.Inside.{ArePainted}
use Rattle.cam_objects.specs.Machinery.Painting.{StandsOnBoard}
use Rattle.cam_objects.specs.Soundness.{AreOnBoard, IsSoundEntry}
use Rattle.cam_objects.proofs.KeptFacts.{block_facts, board_block}
use Rattle.cam_objects.proofs.SoundLayers.{painted_block}
use Rattle.cam_objects.proofs.checks.facts.Facts.of.Goals as goal

pub painted_boxes-requires : goal.painted_boxes-requires
painted_boxes-requires c =
    subst (λ (os : List Object). ArePainted c.args.entries.now os) (sym c.as_slice-objects.ensures)
    (painted_block c.args.entries.now c.in-Block.objects (subst (IsSoundEntry c.args.entries.now) c.in-Block.is c.requires))

pub block_bounds-requires : goal.block_bounds-requires
block_bounds-requires c =
    let es = c.args.entries.now in
    let block = subst (IsSoundEntry es) c.in-Block.is c.requires in
    let painted = painted_block es c.in-Block.objects block in
    record {
      stands = subst (λ (os : List Object). All StandsOnBoard os) (sym c.as_slice-objects.ensures) painted.stands;
      board =
          subst (λ (os : List Object). AreOnBoard (block_leaves (meaning_in es) origin os)) (sym c.as_slice-objects.ensures)
          (board_block es c.in-Block.objects block);
    }

pub returns-in-Block : goal.returns-in-Block
returns-in-Block c =
    block_facts c.args.entries.now c.args.entry.now c.in-Block.objects c.as_slice-objects.result.now c.leaf_count.result c.depth.result
    c.painted_boxes.result c.block_bounds.result
    c.in-Block.is c.as_slice-objects.ensures c.leaf_count.ensures.value c.depth.ensures.value c.painted_boxes.ensures
    c.block_bounds.ensures.value

pub returns-in-Aperture : goal.returns-in-Aperture
returns-in-Aperture c = grind (arith, common_steps)
