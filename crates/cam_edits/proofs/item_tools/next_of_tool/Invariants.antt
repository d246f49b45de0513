use Rattle.std.proofs.Common.{◌≡◌, ◌-◌, ◌<◌, ◌≤◌, ℕ, length, slice_index}
use Rattle.cam_edits.specs.Machinery.Shifts.{tools_of}
use Rattle.cam_edits.proofs.item_tools.next_of_tool.Given as goal

abbrev pub invariant-loop-next : goal.invariant-loop-next
invariant-loop-next l = record {
  onward : l.place ≤ l.next;
  others : (k : ℕ) → l.place ≤ k → k < l.next → k < length (tools_of l.layer.items.items)
      → slice_index (tools_of l.layer.items.items) k ≡ l.t → ⊥;
}

abbrev pub decreases-loop-next : goal.decreases-loop-next
decreases-loop-next l = l.count - l.next
