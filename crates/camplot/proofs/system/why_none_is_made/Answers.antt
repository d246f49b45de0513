use Rattle.std.proofs.Common.{ap, inl, inr, sym}
use Rattle.camplot.specs.Disk.{makes_none}
use Rattle.camplot.proofs.system.why_none_is_made.Goals as goal
use Rattle.camplot.proofs.Straight.{none_of_these}

pub returns-in-PermissionDenied : goal.returns-in-PermissionDenied
returns-in-PermissionDenied c = sym (ap makes_none c.in-PermissionDenied.is)

pub returns-in-ReadOnlyFilesystem : goal.returns-in-ReadOnlyFilesystem
returns-in-ReadOnlyFilesystem c = sym (ap makes_none c.in-ReadOnlyFilesystem.is)

pub returns-in-ResourceBusy : goal.returns-in-ResourceBusy
returns-in-ResourceBusy c = elim c.in-ResourceBusy.is [ inl is ↦ sym (ap makes_none is) | inr is ↦ sym (ap makes_none is) ]

pub returns-in-InvalidFilename : goal.returns-in-InvalidFilename
returns-in-InvalidFilename c = sym (ap makes_none c.in-InvalidFilename.is)

pub returns-in_default : goal.returns-in_default
returns-in_default c =
    none_of_these c.args.kind c.in_default.not-PermissionDenied c.in_default.not-ReadOnlyFilesystem c.in_default.not-ResourceBusy
    c.in_default.not-CrossesDevices c.in_default.not-InvalidFilename
