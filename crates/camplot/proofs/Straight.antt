-- Which errors say that no file can be made, and what may go straight to a path.
use Rattle.std.proofs.Common.{◌≡◌, ◌≢◌, Bool, Option, false, refl, subst, sym, true}
use Rattle.std.specs.declared.io.ErrorKind.{ErrorKind}
use Rattle.std.specs.declared.io.ErrorKind.TheVariants.{CrossesDevices, InvalidFilename, PermissionDenied, ReadOnlyFilesystem}
use Rattle.std.specs.declared.io.ErrorKind.TheVariants.{ResourceBusy}
use Rattle.camplot.specs.Disk.{IsPlain, makes_none}
use Rattle.camplot.specs.declared.calls.Found.{Found}

pub none_of_these : (kind : ErrorKind) → kind ≢ PermissionDenied → kind ≢ ReadOnlyFilesystem → kind ≢ ResourceBusy
    → kind ≢ CrossesDevices → kind ≢ InvalidFilename → false ≡ makes_none kind
none_of_these PermissionDenied a b c d e = absurd (a refl)
none_of_these ReadOnlyFilesystem a b c d e = absurd (b refl)
none_of_these ResourceBusy a b c d e = absurd (c refl)
none_of_these CrossesDevices a b c d e = absurd (d refl)
none_of_these InvalidFilename a b c d e = absurd (e refl)
none_of_these kind a b c d e = refl

-- a plain file stands there still
pub still_plain : (old new : Option Found) → new ≡ old → IsPlain old → IsPlain new
still_plain old new same is = subst IsPlain (sym same) is

-- what is not allowed was not done
pub not_done : (is : Bool) (May : Type 0) → (is ≡ true → May) → (May → ⊥) → is ≡ false
not_done true May done not = absurd (not (done refl))
not_done false May done not = refl
