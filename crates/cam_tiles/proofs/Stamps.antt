-- Apertures on masks: what the primitives of a macro leave marked, one after the other.
use Rattle.std.proofs.Common.{◌≡◌, ◌↔◌, ◌⊎◌, ℕ, ◌+◌, ◌<◌, Bool, IsTrue, List, length, get_or, map, take}
use Rattle.std.proofs.Common.{refl, sym, ◌∙◌, inl, inr, arith}
use Rattle.std.proofs.lemmas.Bool.{cases_Bool, false≢true}
use Rattle.cam_units.specs.declared.point.Spot.{Spot}
use Rattle.cam_units.specs.declared.turn.Turn.{Turn}
use Rattle.cam_macros.specs.declared.primitive.MacroPrimitive.{MacroPrimitive}
use Rattle.cam_apertures.specs.Cover.{IsInShape, IsExposed}
use Rattle.cam_apertures.specs.Tests.{is_in_shape}
use Rattle.cam_apertures.specs.Turned.{turned_prim, turned_shape}
use Rattle.cam_apertures.proofs.CoverLaws.{in_shape}
use Rattle.cam_apertures.proofs.Painting.{decides_at, passes_at}
use Rattle.cam_tiles.specs.Machinery.Masks.{inked, joined}

-- a shape holds a place or does not
held_or_not : (p : MacroPrimitive) (s : Spot) → IsInShape p.shape s ⊎ (IsInShape p.shape s → ⊥)
held_or_not p s = elim (cases_Bool (is_in_shape p.shape s)) [
  | inl held ↦ inl ((in_shape p.shape s).0 held)
  | inr free ↦ inr (λ held. false≢true (sym free ∙ (in_shape p.shape s).1 held))
]

-- ink that decides where it is held, and passes what was elsewhere
inked_where : (paint : Bool) (Was Held Now : Type 0) → Held ⊎ (Held → ⊥) → (Held → IsTrue paint ↔ Now)
    → ((Held → ⊥) → Now ↔ Was) → joined (inked paint) Was Held ↔ Now
inked_where paint Was Held Now known decides passes = grind (arith, false≢true)

-- a primitive is added to what those before it paint, or cleared from it
pub painted_more : (t : Turn) (prims : List MacroPrimitive) (place : ℕ) (p : MacroPrimitive) (s : Spot)
    → place < length prims → p ≡ get_or prims place p
    → joined (inked p.paint) (IsExposed (map (turned_prim t) (take place prims)) s)
    (IsInShape (turned_shape t p.shape) s)
    ↔ IsExposed (map (turned_prim t) (take (place + 1) prims)) s
painted_more t prims place p s within e =
    inked_where p.paint _ _ _ (held_or_not (turned_prim t p) s) (decides_at t prims place (place + 1) p s refl within e)
    (passes_at t prims place (place + 1) p s refl within e)
