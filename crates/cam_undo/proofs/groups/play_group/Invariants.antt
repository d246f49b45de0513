use Rattle.cam_undo.proofs.groups.play_group.Given as goal
use Rattle.cam_undo.specs.Timelines.{GroupFits, after_group, answers}
use Rattle.std.proofs.Common.{◌+◌, ◌≡◌, ◌≤◌, vec_capacity, vec_len, ◌++◌}

abbrev pub invariant-loop-step : goal.invariant-loop-step
invariant-loop-step g l =
    let r = g.S.Reversible in
    record {
      content : after_group r l.group.items (r.content l.doc)
          ≡ after_group r l.initial.group.items (r.content l.initial.doc);
      answers : l.played.items ++ answers r l.group.items (r.content l.doc)
          ≡ answers r l.initial.group.items (r.content l.initial.doc);
      fits : GroupFits r l.group.items (r.content l.doc);
      room : r.has_room l.group.items l.doc;
      place : vec_len l.played + vec_len l.group ≤ vec_capacity l.played;
    }

abbrev pub decreases-loop-step : goal.decreases-loop-step
decreases-loop-step g l = vec_len l.group
