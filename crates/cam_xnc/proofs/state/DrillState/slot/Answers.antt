use Rattle.std.proofs.Common.{◌≡◌, ◌+◌, [], ◌∷◌, ◌++◌, refl, rules, sym, ap, ◌∙◌}
use Rattle.std.proofs.lemmas.List.Sums.{sum_by_push}
use Rattle.cam_objects.specs.DrillSoundness.{drill_count_of}
use Rattle.cam_objects.specs.declared.drill_item.DrillItem.{DrillItem}
use Rattle.cam_xnc.specs.declared.statement.Statement.TheVariants.{Slot}
use Rattle.cam_xnc.specs.DrillState.{drill_items_in, drill_point_in, slot_of, slot_start}
use Rattle.cam_xnc.proofs.Slots.{slot_ends, slot_made, slot_refused}
use Rattle.cam_xnc.proofs.state.DrillState.slot.Goals as goal

pub returns-in-Some : goal.returns-in-Some
returns-in-Some c past t =
    let a = c.args in
    let start = c.moved_point-start.result in
    let end = c.moved_point-end.result in
    let ends = slot_ends past a.self.now a.start_x a.start_y a.end_x a.end_y start end t c.moved_point-start.ensures
    c.moved_point-end.ensures in
    sym (rw (
      c.are_malformed.ensures,
      c.are_malformed-2.ensures,
      c.are_pointless.ensures,
      c.are_pointless-2.ensures,
      c.is_on_board.ensures,
      c.is_on_board-2.ensures,
    ) at (c.in-Some.ensures.first past t)
    ∙ slot_refused past a.start_x a.start_y a.end_x a.end_y start end ends.0 ends.1)

pub returns : goal.returns
returns c past t =
    let a = c.args in
    let start = c.moved_point-start.result in
    let end = c.moved_point-end.result in
    let start_told = slot_start past a.start_x a.start_y in
    let end_told = drill_point_in (Slot a.start_x a.start_y a.end_x a.end_y ∷ past) in
    let ends = slot_ends past a.self.now a.start_x a.start_y a.end_x a.end_y start end t c.moved_point-start.ensures
    c.moved_point-end.ensures in
    let points : c.from_vec-points.result ≡ start ∷ end ∷ [] =
    c.from_vec-points.ensures ∙ c.in_ok-push-2.ensures.items
    ∙ rw c.in_ok-push.ensures.items (rw c.new-points.ensures.items refl) in
    let made = slot_made past c.unwrap_or-tool.result c.from_vec-points.result start end start_told end_told
    (c.unwrap_or-tool.ensures ∙ rw t.tool refl) points ends.0 ends.1 in (
      sym (rw (
        c.are_malformed.ensures,
        c.are_malformed-2.ensures,
        c.are_pointless.ensures,
        c.are_pointless-2.ensures,
        c.is_on_board.ensures,
        c.is_on_board-2.ensures,
      ) at (c.in_default.ensures.first past t)
          ∙ slot_refused past a.start_x a.start_y a.end_x a.end_y start end ends.0 ends.1),
      record {
        part = search (rules, t.part);
        unit = search (rules, t.unit);
        mode = search (rules, t.mode);
        tool = search (rules, t.tool);
        at = ends.1;
        points = search (rules, t.points);
        tools = search (rules, t.tools);
        items = c.in_ok-push-3.ensures.items ∙ rw t.items (ap (λ (i : DrillItem). drill_items_in past ++ i ∷ []) made);
        leaves = ap (λ count. count + 1) t.leaves
            ∙ sym (sum_by_push drill_count_of (drill_items_in past) (slot_of past start_told end_told));
      },
    )
