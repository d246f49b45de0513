use Rattle.std.proofs.Common.{◌≡◌, ◌++◌}
use Rattle.cam_edits.specs.Sheets.{content_of, entry_count}
use Rattle.cam_ask.proofs.Lists.{entries_to}
use Rattle.cam_ask.proofs.contents.push_entries.Given as goal

abbrev pub invariant-loop-place : goal.invariant-loop-place
invariant-loop-place l = record {
  text : l.text.items ≡ l.fn.text.items ++ entries_to (content_of l.content) l.place;
  end : l.place-end ≡ entry_count (content_of l.content);
}
