use Rattle.std.proofs.Common.{◌≡◌, ◌∙◌, ℕ, ◌+◌, ◌-◌, ◌<◌, ◌++◌, ◌∷◌, [], ap, length, refl, arith}
use Rattle.std.proofs.lemmas.List.{length-map}
use Rattle.cam_objects.specs.Contents.{drill_content_of}
use Rattle.cam_objects.specs.DrillSoundness.{tool_of}
use Rattle.cam_edits.specs.declared.drill_step.DrillStep.TheVariants.{Diameter}
use Rattle.cam_objects.proofs.SoundItems.{meets_drill}
use Rattle.cam_edits.proofs.ItemTools.{boxes_past, tool_at}
use Rattle.cam_edits.proofs.TouchedDrillBoxes.{boxes_of_all, diameter_boxes, diameter_size, has_tool, item_of_tool, sound_read}
use Rattle.cam_edits.proofs.touched.boxes_of_tool.Goals as goal

pub loop-place-init : goal.loop-place-init
loop-place-init c =
    let layer = c.args.layer.now in
    let next = c.next_of_tool-place in
    record {
      boxes = boxes_past layer.tools c.args.t c.args.d layer.items.items next.result 0 next.result (omega arith)
          (omega (arith, next.ensures.within, length-map {B = ℕ} layer.items.items tool_of))
          next.ensures.others c.in_ok-boxes.boxes.items c.in_ok-boxes.ensures.items;
      within = next.ensures.within;
      found = next.ensures.found;
    }

pub bounds-requires-clause-points : goal.bounds-requires-clause-points
bounds-requires-clause-points c =
    let items = c.args.layer.now.items.items in
    (meets_drill c.args.layer.now.tools c.index-item.result.now
    (sound_read c.args.layer.now.tools items items c.loop-place.place c.index-item.result.now c.requires.sound.items refl
    (omega (arith, c.loop-place-test.true, c.len.ensures, c.args.layer.now.items.ok.0)) c.index-item.ensures)).inside

pub bounds-requires-clause-diameter : goal.bounds-requires-clause-diameter
bounds-requires-clause-diameter c =
    diameter_size (drill_content_of c.args.layer.now) (Diameter c.args.t c.args.d) c.requires.accepted c.requires.sound
    c.args.t c.args.d refl

pub loop-place-preserved : goal.loop-place-preserved
loop-place-preserved c =
    let tools = c.args.layer.now.tools in
    let items = c.args.layer.now.items.items in
    let i = c.loop-place.place in
    let x = c.index-item.result.now in
    let boxes = c.loop-place.boxes.items in
    let next = c.next_of_tool-place-in-loop-place in
    let there = has_tool (drill_content_of c.args.layer.now) (Diameter c.args.t c.args.d) c.requires.accepted
    c.requires.sound c.args.t c.args.d refl in
    let listed = length-map {B = ℕ} items tool_of in
    let below : i < length items = omega (arith, c.loop-place-test.true, c.len.ensures, c.args.layer.now.items.ok.0) in
    let of_tool : tool_of x ≡ c.args.t =
    tool_at items i x (tool_of x) below c.index-item.ensures refl ∙ c.loop-place.invariant.found (omega (arith, below, listed)) in
    let here = c.in_ok-push-2.ensures.items
    ∙ ap (λ l. l ++ c.bounds.result ∷ []) c.in_ok-push.ensures.items
    ∙ item_of_tool tools c.args.t c.args.d items i x below c.index-item.ensures boxes c.bounds_of.result c.bounds.result
    c.loop-place.invariant.boxes there of_tool c.bounds_of.ensures c.bounds.ensures in
    record {
      boxes = boxes_past tools c.args.t c.args.d items (next.result - (i + 1)) (i + 1) next.result
          (omega (arith, next.ensures.onward)) (omega (arith, next.ensures.within, listed)) next.ensures.others
          c.push-in-loop-place.new.self.items here;
      within = next.ensures.within;
      found = next.ensures.found;
    }

pub returns : goal.returns
returns c =
    let layer = c.args.layer.now in
    c.loop-place.invariant.boxes
    ∙ boxes_of_all layer.tools c.args.t c.args.d layer.items.items layer.items.items c.loop-place.place refl
    (omega (arith, c.loop-place-test.false, c.len.ensures, layer.items.ok.0))
    ∙ diameter_boxes (drill_content_of layer) c.args.t c.args.d

pub loop-place-smaller : goal.loop-place-smaller
loop-place-smaller c = grind (arith)

pub next_of_tool-place-requires-in-loop-place-clause-within : goal.next_of_tool-place-requires-in-loop-place-clause-within
next_of_tool-place-requires-in-loop-place-clause-within c = grind (arith)

pub next_of_tool-place-requires-in-loop-place-clause-known : goal.next_of_tool-place-requires-in-loop-place-clause-known
next_of_tool-place-requires-in-loop-place-clause-known c = grind (arith)
