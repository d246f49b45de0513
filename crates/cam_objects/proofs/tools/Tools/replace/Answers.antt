use Rattle.std.proofs.Common.{arith, ◌≡◌, ℕ, List, [], ◌∷◌, IsSome, nat_eq}
use Rattle.std.specs.Map.{lookup, set_value}
use Rattle.indexmap.specs.IndexMap.{insert_entry}
use Rattle.cam_units.specs.declared.length.Nm.{Nm}
use Rattle.cam_objects.proofs.tools.Tools.replace.Goals as goal

-- a key that is there keeps its place
kept : (t : ℕ) (es : List (ℕ × Nm)) (d : Nm) → IsSome (lookup (nat_eq t) es) → insert_entry nat_eq es t d ≡ set_value (nat_eq t) es d
kept t [] d there = absurd cc
kept t (e ∷ es) d there = grind (arith, kept t es d)

pub returns-clause-tools : goal.returns-clause-tools
returns-clause-tools c = grind (arith, kept)
