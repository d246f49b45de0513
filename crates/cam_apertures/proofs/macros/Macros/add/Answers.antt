use Rattle.std.proofs.Common.{◌≡◌, [], ◌∷◌, ◌++◌, ap, sym, subst, ◌∙◌, None, arith}
use Rattle.std.specs.Map.{values_of}
use Rattle.std.proofs.lemmas.List.{map-append}
use Rattle.indexmap.proofs.CallerLemmas.{insert_entry-new}
use Rattle.cam_apertures.specs.Definition.{named}
use Rattle.cam_apertures.specs.Machinery.Macros.{macros_of}
use Rattle.cam_apertures.proofs.KeptExpansions.{added_last, kept_on, new_name, AreKept}
use Rattle.cam_apertures.proofs.macros.Macros.add.Goals.{In-Ok}
use Rattle.cam_apertures.proofs.macros.Macros.add.Goals as goal

-- the name goes last, with its parts
entries : (c : In-Ok)
    → c.insert.new.self.entries ≡ c.self.inside.parts.entries ++ (c.into_vec.result, c.args.added.parts) ∷ []
entries c =
    let m = c.self.inside.parts in
    let none = ap (λ macros. named macros c.args.added.name) c.self.view_is ∙ c.requires in
    let is : named (macros_of m.entries) c.into_vec.result.items ≡ None =
    ap (named (macros_of m.entries)) c.into_vec.ensures ∙ none in
    c.in-Ok.ensures.entries
    ∙ insert_entry-new _ m c.into_vec.result c.args.added.parts (new_name c.into_vec.result.items m.entries is)

pub invariant_of-self : goal.invariant_of-self
invariant_of-self c =
    let m = c.self.inside.parts in
    let all = ap values_of (entries (goal.at.invariant_of-self c).In-Ok)
    ∙ map-append (λ e. e.1) m.entries ((c.into_vec.result, c.args.added.parts) ∷ []) in
    subst (λ parts. AreKept parts c.self.inside.expansions.entries) (sym all)
    (kept_on (values_of m.entries) (c.args.added.parts ∷ []) c.self.inside.expansions.entries c.self.invariant)

pub returns-in-Ok-clause-ok : goal.returns-in-Ok-clause-ok
returns-in-Ok-clause-ok c =
    ap macros_of (entries (goal.at.returns-in-Ok-clause-ok c).In-Ok)
    ∙ added_last c.self.inside.parts.entries c.into_vec.result c.args.added c.into_vec.ensures
    ∙ ap (λ macros. macros ++ c.args.added ∷ []) c.self.view_is

pub invariant_of-self-2 : goal.invariant_of-self-2
invariant_of-self-2 c = grind (arith)
