-- A station that was made is of an allowed depth, so that only memory is in the way of its session.
use Rattle.std.proofs.Common.{◌≡◌, ℕ, Bool, true, false, Result, Ok, Err, refl, ap, subst, if◌then◌else◌}
use Rattle.cam_refusals.specs.declared.refusal.Refusal.TheVariants.{NoMemory, OutOfLimits}
use Rattle.cam_refusals.specs.Refusals.{number_of}
use Rattle.cam_station.specs.declared.fault.Fault.{Fault}
use Rattle.cam_station.specs.Machine.{Granted, RefusedToStation, State, fault, fresh, is_depth, station_made, station_of}
use Rattle.cam_c.specs.Calls.{IsUnopened}

abbrev IfErr : Result State Fault → Type 0
IfErr (Ok s) = ⊥
IfErr (Err f) = Unit {0}

allowed : (b : Bool) (x s : State) → (if b then Ok x else Err (fault OutOfLimits)) ≡ Ok s → b ≡ true
allowed true x s e = refl
allowed false x s e = absurd (subst IfErr e tt)

pub unopened : (depth : ℕ) (s : State) → station_of depth Granted ≡ Ok s → IsUnopened depth (number_of NoMemory)
unopened depth s e = record {
  memory = RefusedToStation;
  why = fault NoMemory;
  refused = ap (λ (b : Bool). if b then station_made depth RefusedToStation else Err (fault OutOfLimits)) (allowed (is_depth depth) (fresh depth) s e);
  code_is = refl;
}
