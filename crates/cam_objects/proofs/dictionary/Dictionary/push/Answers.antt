use Rattle.std.proofs.Common.{ℕ, List, [], ◌∷◌, ◌++◌, sym, ap, subst, ◌∙◌, arith}
use Rattle.cam_objects.specs.Cells.{Reaches}
use Rattle.cam_objects.specs.declared.entry.Entry.{Entry}
use Rattle.cam_objects.specs.declared.checks.facts.Facts.{Facts}
use Rattle.cam_objects.specs.Machinery.ObjectCells.{AreCellsKept}
use Rattle.cam_objects.specs.Machinery.Facts.{IsKept}
use Rattle.cam_objects.specs.Soundness.{MayAddEntry}
use Rattle.cam_objects.proofs.ObjectCells.{cells_grow}
use Rattle.cam_objects.proofs.KeptFacts.{kept_grows}
use Rattle.cam_objects.proofs.dictionary.Dictionary.push.Goals as goal

pub invariant_of-self-4 : goal.invariant_of-self-4
invariant_of-self-4 c =
    let es = c.make_room.new.map.entries in
    let fs = c.make_room.new.facts.items in
    let cs = c.make_room.new.cells.items in
    let f = c.of-facts.result in
    let kept : IsKept es fs × AreCellsKept es cs =
    subst (λ (p : List (ℕ × Entry) × (List Facts × List Reaches)). IsKept p.0 p.1.0 × AreCellsKept p.0 p.1.1)
    (sym (λ i. (c.make_room.ensures.entries i, (c.make_room.ensures.facts i, c.make_room.ensures.cells i)))) c.self.invariant in
    let may = subst (λ (ds : List (ℕ × Entry)). MayAddEntry ds c.args.number c.args.entry)
    (sym (c.make_room.ensures.entries ∙ c.self.view_is)) c.requires in
    let facts = c.push_reserved.ensures.items in
    let cells = c.push_reserved-2.ensures.items in
    let entries = c.insert_new.ensures in (
      subst (λ (p : List (ℕ × Entry) × List Facts). IsKept p.0 p.1) (sym (λ i. (entries i, facts i)))
          (kept_grows es fs c.args.number c.args.entry f kept.0 may c.of-facts.ensures),
      subst (λ (p : List (ℕ × Entry) × List Reaches). AreCellsKept p.0 p.1) (sym (λ i. (entries i, cells i)))
          (cells_grow es cs c.args.number c.args.entry c.entry_cells-cells.result kept.1 c.entry_cells-cells.ensures),
    )

pub returns-clause-ok : goal.returns-clause-ok
returns-clause-ok c =
    c.insert_new.ensures
    ∙ ap (λ (es : List (ℕ × Entry)). es ++ (c.args.number, c.args.entry) ∷ []) (c.make_room.ensures.entries ∙ c.self.view_is)

pub invariant_of-self : goal.invariant_of-self
invariant_of-self c = grind (arith)

pub insert_new-requires-clause-absent : goal.insert_new-requires-clause-absent
insert_new-requires-clause-absent c = grind (arith)

pub insert_new-requires-clause-room : goal.insert_new-requires-clause-room
insert_new-requires-clause-room c = grind (arith)

pub invariant_of-self-2 : goal.invariant_of-self-2
invariant_of-self-2 c = grind (arith)

pub invariant_of-self-3 : goal.invariant_of-self-3
invariant_of-self-3 c = grind (arith)

pub of-facts-requires : goal.of-facts-requires
of-facts-requires c = grind (arith)

pub entry_cells-cells-requires : goal.entry_cells-cells-requires
entry_cells-cells-requires c = grind (arith)
