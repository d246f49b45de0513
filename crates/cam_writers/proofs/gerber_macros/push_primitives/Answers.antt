use Rattle.std.proofs.Common.{◌≡◌, ◌∙◌, ℕ, ◌+◌, ◌<◌, List, [], ◌∷◌, ◌++◌, Some, ap, append_assoc, arith, length, sym, take}
use Rattle.std.proofs.lemmas.Grind.{common_steps}
use Rattle.std.proofs.lemmas.List.{flat_map_more, take_more}
use Rattle.std.proofs.lemmas.Option.{get_or_from_slice_get}
use Rattle.std.specs.Prelude.{codes, slice_get}
use Rattle.cam_macros.specs.declared.primitive.MacroPrimitive.{MacroPrimitive}
use Rattle.cam_writers.specs.Phrases.{primitive_text}
use Rattle.cam_writers.specs.Machinery.Tracking.{primitive_line, primitive_lines}
use Rattle.cam_writers.proofs.gerber_macros.push_primitives.Goals as goal

-- one line more
written_more : (before : List ℕ) (ps : List MacroPrimitive) (place : ℕ) (p : MacroPrimitive) (here line text : List ℕ)
    → place < length ps → slice_get ps place ≡ Some p → here ≡ before ++ primitive_lines (take place ps)
    → line ≡ here ++ codes "*\n" → text ≡ line ++ primitive_text p
    → text ≡ before ++ primitive_lines (take (place + 1) ps)
written_more before ps place p here line text within is so ended written =
    written ∙ ap (λ l. l ++ primitive_text p) ended ∙ append_assoc here (codes "*\n") (primitive_text p)
    ∙ ap (λ l. l ++ primitive_line p) so
    ∙ flat_map_more primitive_line before (take place ps) p
    ∙ ap (λ q. before ++ primitive_lines (take place ps ++ q ∷ [])) (sym (get_or_from_slice_get ps place p p is))
    ∙ ap (λ taken. before ++ primitive_lines taken) (sym (take_more ps place p within))

pub loop-place-preserved : goal.loop-place-preserved
loop-place-preserved c =
    written_more c.args.text.now.items c.args.primitives.now c.loop-place.place c.at-primitive.result.now
    c.loop-place.text.items c.extend_from_slice.new.self.items c.push_primitive.new.text.items
    (omega (arith, c.loop-place-test.true, c.len-place-end.ensures)) c.at-primitive.ensures c.loop-place.invariant
    c.in_ok-extend_from_slice.ensures.items c.in_ok-push_primitive.ensures

pub returns : goal.returns
returns c = grind (arith, common_steps)
