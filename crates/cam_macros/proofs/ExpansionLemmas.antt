-- Lists of primitives, one part at a time.
use Rattle.std.proofs.Common.{arith, ◌≡◌, ℕ, suc, ◌+◌, ◌<◌, List, ◌∷◌, ◌++◌, length, drop, get_or, Result, Ok, Err, ap, sym, ◌∙◌}
use Rattle.std.proofs.Common.{append_assoc, add-one}
use Rattle.std.proofs.Math.Seq.{drop-cons}
use Rattle.cam_units.specs.declared.length.Unit.{Unit as FileUnit}
use Rattle.cam_macros.specs.declared.part.Part.{Part}
use Rattle.cam_macros.specs.declared.primitive.MacroPrimitive.{MacroPrimitive}
use Rattle.cam_macros.specs.declared.fault.MacroFault.{MacroFault}
use Rattle.cam_macros.specs.Arithmetic.{Values}
use Rattle.cam_macros.specs.Answers.{IsUnlessMemory}
use Rattle.cam_macros.specs.Expansion.{outcome, values_after, expansion, with_prims, ◌>>=◌}

-- a fault of a part is one of the whole, where each fault that is meant is
pub told : {A B : Type 0} (fault : MacroFault) (part : Result A MacroFault) (whole : Result B MacroFault)
    → ((g : MacroFault) → part ≡ Err g → whole ≡ Err g) → IsUnlessMemory fault part → IsUnlessMemory fault whole
told fault part whole h f = grind arith

pub expansion_same : (unit : FileUnit) (v w : Values) (parts : List Part) → ((n : ℕ) → v n ≡ w n)
    → expansion unit v parts ≡ expansion unit w parts
expansion_same unit v w parts h = let same : v ≡ w = λ i n. h n i in ap (λ f. expansion unit f parts) same

prims_joined : (before made : List MacroPrimitive) (rest : Result (List MacroPrimitive) MacroFault)
    → with_prims before (rest >>= λ more. Ok (made ++ more)) ≡ with_prims (before ++ made) rest
prims_joined before made rest = grind (arith, append_assoc)

prims_step : (before after : List MacroPrimitive) (made : Result (List MacroPrimitive) MacroFault)
    (rest : Result (List MacroPrimitive) MacroFault)
    → with_prims before made ≡ Ok after
    → with_prims before (made >>= λ m. rest >>= λ more. Ok (m ++ more)) ≡ with_prims after rest
prims_step before after made rest e = grind (arith, prims_joined)

pub part_next : (unit : FileUnit) (v w : Values) (parts : List Part) (i : ℕ) (part : Part)
    (before after : List MacroPrimitive) → i < length parts
    → part ≡ get_or parts i part → with_prims before (outcome unit v part) ≡ Ok after
    → ((n : ℕ) → w n ≡ values_after v part n)
    → with_prims before (expansion unit v (drop i parts)) ≡ with_prims after (expansion unit w (drop (i + 1) parts))
part_next unit v w parts i part before after h is e same =
    rw add-one
    (ap (λ l. with_prims before (expansion unit v l))
    (drop-cons parts i part h ∙ ap (λ t. t ∷ drop (suc i) parts) (sym is))
    ∙ prims_step before after (outcome unit v part) (expansion unit (values_after v part) (drop (suc i) parts)) e
    ∙ ap (with_prims after) (sym (expansion_same unit w (values_after v part) (drop (suc i) parts) same)))

pub part_fault : (unit : FileUnit) (v : Values) (parts : List Part) (i : ℕ) (part : Part)
    (before : List MacroPrimitive) (fault : MacroFault) (all : Result (List MacroPrimitive) MacroFault)
    → i < length parts
    → part ≡ get_or parts i part → with_prims before (expansion unit v (drop i parts)) ≡ all
    → IsUnlessMemory fault (outcome unit v part) → IsUnlessMemory fault all
part_fault unit v parts i part before fault all h is e f = grind (arith, drop-cons, told)
