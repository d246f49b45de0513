use Rattle.std.proofs.Common.{arith, ◌≡◌, Bool, true, cond, [], ◌∷◌, Option, None, Some, IsSome, sym, subst, ◌∙◌}
use Rattle.std.specs.Option.{option_or}
use Rattle.std.proofs.lemmas.Bool.{false≢true}
use Rattle.cam_units.specs.declared.point.Spot.{Spot}
use Rattle.cam_objects.specs.Canvases.{leaf_of}
use Rattle.cam_objects.specs.Image.{IsUncovered}
use Rattle.cam_objects.proofs.Canvases.{paints_off}
use Rattle.cam_objects.proofs.Inking.{uncovered_cons, uncovered_nil}
use Rattle.cam_objects.proofs.LastInks.{ink_of, or_decided}
use Rattle.cam_objects.proofs.Covering.{cover_law}
use Rattle.cam_objects.proofs.image.PixelCanvas.paint.Goals as goal

pub returns-then-is_decided : goal.returns-then-is_decided
returns-then-is_decided c = grind (arith, or_decided, ink_of)

-- an undecided pixel takes what covers it
taken : (o : Option Bool) (on dark : Bool) → (IsSome o → ⊥) → on ≡ true → Some dark ≡ option_or o (cond on (Some dark) None)
taken o on dark none here = grind arith

pub returns-then-is_covered : goal.returns-then-is_covered
returns-then-is_covered c = grind (arith, cover_law, taken, false≢true)

pub returns-else-is_covered : goal.returns-else-is_covered
returns-else-is_covered c =
    let l = leaf_of c.args.print in
    let s = c.self.inside.spot in
    let off : IsUncovered (l ∷ []) s =
    uncovered_cons s l [] (λ on. false≢true (sym c.if-is_covered.false ∙ c.is_covered.ensures.1 on)) (uncovered_nil s) in
    paints_off {V = Spot × Option Bool} (λ _ _ _. Unit {0}) (λ p _ _. p.0) (λ p _ _. p.1) c.args.self.now (l ∷ [])
    (λ column row h. subst (λ (p : Spot × Option Bool). IsUncovered (l ∷ []) p.0) c.self.view_is off)
