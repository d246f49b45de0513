-- a tip that is turned twice is turned by both turns at once
use Rattle.std.proofs.Common.{arith, ◌≡◌, Bool, true, false, cond}
use Rattle.cam_units.specs.declared.length.Nm.{Nm}
use Rattle.cam_units.specs.declared.turn.Turn.{Turn}
use Rattle.cam_apertures.specs.Turned.{exchanges_axes}
use Rattle.cam_objects.specs.declared.tip.Tip.{Tip}
use Rattle.cam_objects.specs.declared.tip.Tip.TheVariants.{Rectangular}
use Rattle.cam_objects.specs.Leaves.{turned_tip}
use Rattle.cam_objects.specs.Turning.{after}

abbrev not : Bool → Bool
not b = cond b false true

-- two exchanges of the axes are none
exchanged : (t u : Turn) → exchanges_axes (after t u) ≡ cond (exchanges_axes u) (not (exchanges_axes t)) (exchanges_axes t)
unfolding after
exchanged t u = grind arith

abbrev sides : Bool → Nm → Nm → Tip
sides b w h = Rectangular (cond b h w) (cond b w h)

both : (t u : Bool) (w h : Nm) → sides (cond u (not t) t) w h ≡ sides u (cond t h w) (cond t w h)
both t u w h = grind arith

pub turned_after : (t u : Turn) (tip : Tip) → turned_tip (after t u) tip ≡ turned_tip u (turned_tip t tip)
turned_after t u tip = grind (arith, exchanged, both)
