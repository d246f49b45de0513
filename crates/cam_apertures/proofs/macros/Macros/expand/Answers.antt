use Rattle.std.proofs.Common.{arith, rules, ◌≡◌, ap, sym, ◌∙◌, subst, Ok, refl}
use Rattle.std.specs.Prelude.{option_map}
use Rattle.std.specs.Map.{values_of}
use Rattle.std.proofs.lemmas.Option.{slice_get-map}
use Rattle.std.proofs.lemmas.Result.{err_from_is_err_and}
use Rattle.cam_macros.specs.Expansion.{expansion_of}
use Rattle.cam_apertures.specs.Machinery.Macros.{AreExpansions}
use Rattle.cam_apertures.specs.Machinery.Outcomes.{macro_outcome, IsErr}
use Rattle.cam_apertures.proofs.KeptExpansions.{found_again, kept_more, outcome_again, outcome_found, outcome_missing}
use Rattle.cam_apertures.proofs.macros.Macros.expand.Goals.{In_ok-primitives}
use Rattle.cam_apertures.proofs.macros.Macros.expand.Goals as goal

made : (c : In_ok-primitives)
    → expansion_of c.args.unit c.args.parameters.items c.in-Some.parts.now ≡ Ok c.in_ok-primitives.primitives
made c = search rules

pub returns-in_default-clause-fault : goal.returns-in_default-clause-fault
returns-in_default-clause-fault c = grind (arith, outcome_missing)

pub returns-in-Some-found_again-clause-ok : goal.returns-in-Some-found_again-clause-ok
returns-in-Some-found_again-clause-ok c =
    outcome_found c.args.name.now c.self.inside.parts.entries c.args.self.now c.args.unit c.args.parameters.items
    c.in-Some.parts.now c.self.view_is (sym c.in-Some.ensures.value)
    ∙ ap macro_outcome
    (outcome_again c.self.inside.parts.entries _ c.in-Some.parts.now _ _ c.in-Some.ensures.entry
    (found_again (values_of c.self.inside.parts.entries) c.self.inside.expansions.entries
    (record { place = c.in-Some.place; parameters = c.args.parameters }) _ c.self.invariant
    c.in-Some-found_again.ensures)
    ∙ ap Ok (sym c.in_ok-clone.ensures.cases))

pub returns-in_err-primitives-clause-fault : goal.returns-in_err-primitives-clause-fault
returns-in_err-primitives-clause-fault c =
    let p = err_from_is_err_and c.from_residual-in_err-primitives.result c.from_residual-in_err-primitives.ensures.1 in
    rw (p.1, p.2)
    (subst (λ o. IsErr c.in_err-primitives.field-0.0 o)
    (ap macro_outcome
    (ap (λ v. expansion_of c.args.unit v c.as_slice.result.now) c.deref.ensures.value
    ∙ ap (λ p. expansion_of c.args.unit c.args.parameters.items p) c.as_slice.ensures)
    ∙ sym (outcome_found c.args.name.now c.self.inside.parts.entries c.args.self.now c.args.unit
    c.args.parameters.items c.in-Some.parts.now c.self.view_is (sym c.in-Some.ensures.value)))
    c.in_err-primitives.ensures.fault)

pub invariant_of-self-2 : goal.invariant_of-self-2
invariant_of-self-2 c =
    subst (λ es. AreExpansions c.self.inside.parts.entries es) (sym c.in_ok-insert.ensures.entries)
    (kept_more (values_of c.self.inside.parts.entries) c.self.inside.expansions.entries _ _ c.self.invariant
    (record {
      parts = c.in-Some.parts.now;
      found = slice_get-map (λ e. e.1) c.self.inside.parts.entries c.in-Some.place
          ∙ ap (option_map (λ e. e.1)) c.in-Some.ensures.entry;
      same = made (goal.at.invariant_of-self-2 c).In_ok-primitives ∙ ap Ok (sym c.in_ok-shared.ensures.cases);
    }))

pub returns-clause-ok : goal.returns-clause-ok
returns-clause-ok c =
    outcome_found c.args.name.now c.self.inside.parts.entries c.args.self.now c.args.unit c.args.parameters.items
    c.in-Some.parts.now c.self.view_is (sym c.in-Some.ensures.value)
    ∙ ap macro_outcome (made (goal.at.returns-clause-ok c).In_ok-primitives)

pub returns-in_err-primitives-clause-macros : goal.returns-in_err-primitives-clause-macros
returns-in_err-primitives-clause-macros c = refl

pub returns-in_err-clone-clause-macros : goal.returns-in_err-clone-clause-macros
returns-in_err-clone-clause-macros c = refl

pub returns-clause-fault : goal.returns-clause-fault
returns-clause-fault c = grind (arith)

pub returns-in_err-insert-clause-macros : goal.returns-in_err-insert-clause-macros
returns-in_err-insert-clause-macros c = assumption arith

pub invariant_of-self : goal.invariant_of-self
invariant_of-self c = grind (arith)

pub returns-in-Some-found_again-clause-macros : goal.returns-in-Some-found_again-clause-macros
returns-in-Some-found_again-clause-macros c = refl

pub returns-clause-macros : goal.returns-clause-macros
returns-clause-macros c = assumption arith

pub returns-in_err-shared-clause-macros : goal.returns-in_err-shared-clause-macros
returns-in_err-shared-clause-macros c = refl

pub same-self-in_err-shared : goal.same-self-in_err-shared
same-self-in_err-shared c = grind (arith)

pub same-self-in_err-primitives : goal.same-self-in_err-primitives
same-self-in_err-primitives c = grind (arith)

pub same-self-in_err-clone : goal.same-self-in_err-clone
same-self-in_err-clone c = grind (arith)

pub same-primitives : goal.same-primitives
same-primitives c = grind (arith)

pub same-self-in-Some-found_again : goal.same-self-in-Some-found_again
same-self-in-Some-found_again c = grind (arith)
