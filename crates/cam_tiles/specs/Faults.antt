-- Refusals of a raster.
use Rattle.cam_refusals.specs.declared.refusal.Refusal.{Refusal}
use Rattle.cam_refusals.specs.declared.refusal.Refusal.TheVariants as refusals
use Rattle.cam_tiles.specs.declared.fault.RasterFault.{RasterFault}
use Rattle.cam_tiles.specs.declared.fault.RasterFault.TheVariants.{WindowRefused, StillDirty, Memory}

abbrev pub raster_refusal : RasterFault → Refusal
raster_refusal WindowRefused = refusals.OutOfLimits
raster_refusal StillDirty = refusals.StillDirty
raster_refusal Memory = refusals.NoMemory
