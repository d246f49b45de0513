use Rattle.std.proofs.Common.{◌∙◌, ℕ, ◌+◌, ap, inl, inr, slice_index, sym, arith}
use Rattle.std.proofs.lemmas.Grind.{common_steps}
use Rattle.std.proofs.lemmas.Bool.{cases_eq, cases_lt}
use Rattle.std.proofs.lemmas.List.{length-map}
use Rattle.cam_objects.specs.DrillSoundness.{tool_of}
use Rattle.cam_edits.specs.Machinery.Shifts.{tools_of}
use Rattle.cam_edits.proofs.ItemTools.{other_tools, tool_at}
use Rattle.cam_edits.proofs.item_tools.next_of_tool.Goals as goal

pub loop-next-preserved : goal.loop-next-preserved
loop-next-preserved c =
    let items = c.args.layer.now.items.items in
    let here = c.loop-next.next in
    let next = c.next_of-next-in-loop-next in
    let before = c.loop-next.invariant in
    record {
      onward = omega (arith, before.onward, next.ensures.onward);
      others = λ k from until listed is.
          elim (cases_lt k here) [
            | inl below ↦ before.others k from below listed is
            | inr past ↦ elim (cases_eq k here) [
              | inl e ↦
                  c.if-tool-t.true
                  (tool_at items here c.index.result.now c.tool.result (omega (arith, listed, e, length-map {B = ℕ} items tool_of))
                  c.index.ensures c.tool.ensures
                  ∙ ap (slice_index (tools_of items)) (sym e) ∙ is)
              | inr apart ↦
                  other_tools (tools_of items) c.args.tools.now (here + 1) next.result c.args.t c.requires.known
                  next.ensures.others k (omega (arith, past, apart)) until listed is
            ]
          ];
    }

pub returns : goal.returns
returns c = grind (arith, common_steps)
