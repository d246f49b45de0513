-- the steps that lead back from another aperture or polarity
use Rattle.std.proofs.Common.{arith, ◌≡◌, ℕ, Bool, Option, Some}
use Rattle.cam_objects.specs.declared.attribute.Attribute.{Attribute}
use Rattle.cam_objects.specs.declared.item.Item.{Item}
use Rattle.cam_edits.specs.declared.step.Step.TheVariants.{Aperture, Polarity}
use Rattle.cam_edits.specs.Steps.{IsOne, aperture_of, inverse_at, polarity_of}

pub aperture_led_back : (k n before : ℕ) (item : Item) (attribute : Option Attribute) → IsOne (λ o. before ≡ aperture_of o) item
    → Aperture k before ≡ inverse_at (Aperture k n) (Some item) attribute
aperture_led_back k n before item attribute e = grind arith

pub polarity_led_back : (k : ℕ) (dark before : Bool) (item : Item) (attribute : Option Attribute)
    → IsOne (λ o. before ≡ polarity_of o) item → Polarity k before ≡ inverse_at (Polarity k dark) (Some item) attribute
polarity_led_back k dark before item attribute e = grind arith
