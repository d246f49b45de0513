use Rattle.std.proofs.Common.{ℕ, None, Some, arith}
use Rattle.std.proofs.lemmas.Grind.{common_steps}
use Rattle.std.proofs.lemmas.List.{length-map}
use Rattle.cam_objects.specs.DrillSoundness.{tool_of}
use Rattle.cam_edits.specs.Machinery.Shifts.{tools_of}
use Rattle.cam_edits.proofs.ItemTools.{new_within, tool_at, tools_carried, tools_inserted, tools_removed, tools_set}
use Rattle.cam_edits.proofs.ShiftedItems.{came_within, edited}
use Rattle.cam_edits.proofs.item_tools.follow.Goals as goal

pub returns-in-Some-Some : goal.returns-in-Some-Some
returns-in-Some-Some c =
    let was = c.requires in
    let at = c.in-Some-Some in
    let items = c.args.layer.now.items.items in
    let edit = edited c.args.shift was.before (tools_of items) was.edit (Some at.from) (Some at.to) at.is-0 at.is-1 in
    let within = came_within was.before (tools_of items) at.from at.to edit in
    tools_set c.args.tools.now was.before (tools_of items) was.known at.from at.to c.tool.result c.set.new.self edit
    c.if-from-to.true
    (tool_at items at.to c.index.result.now c.tool.result (omega (arith, within, length-map {B = ℕ} items tool_of))
    c.index.ensures c.tool.ensures)
    c.set.ensures

pub returns-in-Some-Some-2 : goal.returns-in-Some-Some-2
returns-in-Some-Some-2 c =
    let was = c.requires in
    let at = c.in-Some-Some in
    let items = c.args.layer.now.items.items in
    let edit = edited c.args.shift was.before (tools_of items) was.edit (Some at.from) (Some at.to) at.is-0 at.is-1 in
    let within = came_within was.before (tools_of items) at.from at.to edit in
    let read = c.index-in-Some-Some-2 in
    let tool = c.tool-in-Some-Some-2 in
    tools_carried c.args.tools.now was.before (tools_of items) was.known at.from at.to tool.result c.carry.new.self edit
    (tool_at items at.to read.result.now tool.result (omega (arith, within, length-map {B = ℕ} items tool_of))
    read.ensures tool.ensures)
    c.carry.ensures.within c.carry.ensures.behind

pub returns-in-Some-None : goal.returns-in-Some-None
returns-in-Some-None c = grind (arith, edited, tools_removed)

pub returns-in-None-Some : goal.returns-in-None-Some
returns-in-None-Some c =
    let was = c.requires in
    let at = c.in-None-Some in
    let items = c.args.layer.now.items.items in
    let after = tools_of items in
    let edit = edited c.args.shift was.before after was.edit None (Some at.to) at.is-0 at.is-1 in
    let within = new_within at.to was.before after edit in
    let read = c.index-in-None-Some in
    let tool = c.tool-in-None-Some in
    tools_inserted c.args.tools.now was.before after was.known at.to tool.result c.insert.new.self edit
    (tool_at items at.to read.result.now tool.result (omega (arith, within, length-map {B = ℕ} items tool_of)) read.ensures
    tool.ensures)
    (c.insert.ensures.came, c.insert.ensures.behind)

pub index-requires-in-None-Some : goal.index-requires-in-None-Some
index-requires-in-None-Some c = grind (arith, common_steps)

pub index-requires : goal.index-requires
index-requires c = grind (arith, common_steps)
