-- What a fault of a call says: the fault that is meant, or that memory ran out.
use Rattle.std.specs.Prelude.{◌≡◌, Result, Err, ⊤}
use Rattle.cam_refusals.specs.Refusals.{UnlessMemory}
use Rattle.cam_macros.specs.declared.fault.MacroFault.{MacroFault}
use Rattle.cam_macros.specs.declared.fault.MacroFault.TheVariants.{Malformed, OutOfMemory}
use Rattle.cam_macros.specs.Faults.{macro_refusal}

-- the fault that is meant, or want of memory
abbrev pub IsUnlessMemory : {A : Type 0} → MacroFault → Result A MacroFault → Type 0
IsUnlessMemory fault meant = UnlessMemory (macro_refusal fault) (meant ≡ Err fault)

-- the fault is `Malformed`, which tells that P is so, or memory ran out
abbrev pub IsMalformed : MacroFault → Type 0 → Type 0
IsMalformed Malformed P = P
IsMalformed OutOfMemory P = ⊤
IsMalformed _ P = ⊥

-- P holds of nothing
abbrev pub Nothing : {A : Type 0} → (A → Type 0) → Type 0
Nothing {A} P = (a : A) → P a → ⊥
