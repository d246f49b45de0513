-- Marks that are joined with others, and with masks that show one shape.
use Rattle.std.proofs.Common.{◌≡◌, ◌↔◌, ◌⊎◌, ℕ, ◌^◌, pos, bit_and, inl, inr, arith}
use Rattle.std.specs.Int.{IsBitSet}
use Rattle.std.proofs.lemmas.Bool.{cases_eq}
use Rattle.std.proofs.lemmas.Int.{ints}
use Rattle.cam_units.specs.declared.point.Spot.{Spot}
use Rattle.cam_apertures.proofs.Painting.{through}
use Rattle.cam_objects.specs.Image.{relative}
use Rattle.cam_tiles.specs.declared.masks.join.Join.{Join}
use Rattle.cam_tiles.specs.Machinery.Masks.{IsBlank, IsIn, IsMarked, Joins, Marking, Merges, joined}
use Rattle.cam_tiles.specs.Tiles.{centre_in}

-- ---- one mark

pub set_or_not : (n i : ℕ) → IsBitSet n i ⊎ (IsBitSet n i → ⊥)
set_or_not n i = elim (cases_eq (bit_and n (2 ^ i)) 0) [ inl clear ↦ inr (λ set. set clear) | inr set ↦ inl set ]

-- marks and places that are the same are joined to the same
pub joined_like : (how : Join) (New Was Be Held Other : Type 0) → Was ↔ Be → Held ↔ Other → New ↔ joined how Was Held
    → New ↔ joined how Be Other
joined_like how New Was Be Held Other w e h = grind arith

-- where the shape holds nothing, a mark stays
pub joined_none : (how : Join) (P Q : Type 0) → (Q → ⊥) → P ↔ joined how P Q
joined_none how P Q none = grind arith

pub same : {A : Type 0} → A ↔ A
same = ((λ a. a), (λ a. a))

-- ---- the marks of a grid

pub seen_itself : (P : Spot → Type 0) (s : Spot) → P (relative (record { x = pos 0; y = pos 0 }) s) ↔ P s
seen_itself P s = grind (arith, ints, same)

-- ---- masks that show a shape

-- the centres that are marked are those that the shape holds
pub record Shows (IsHeld : Spot → Type 0) (m : Marking) : Type 0 where
  pub marks : (column row : ℕ) → IsIn m.grid column row
      → IsMarked m column row ↔ IsHeld (centre_in m.grid column row)

-- a blank mask shows a shape that holds nothing
pub shows_nothing : (m : Marking) → IsBlank m → Shows (λ s. ⊥) m
shows_nothing m blank = record { marks = λ column row within. (blank column row within, λ none. absurd none) }

pub shows_like : (P Q : Spot → Type 0) (m : Marking) → ((s : Spot) → P s ↔ Q s) → Shows P m → Shows Q m
shows_like P Q m alike h = grind (arith, through)

-- what a mask shows, joined with another shape
pub shows_joined : (how : Join) (P Q : Spot → Type 0) (old new : Marking) → Shows P old → Joins how Q old new
    → Shows (λ s. joined how (P s) (Q s)) new
shows_joined how P Q old new h j = grind (arith, joined_like, same)

-- marks that are joined with a mask are joined with the shape that it shows
pub merges_shown : (how : Join) (P : Spot → Type 0) (own old new : Marking) → own.grid ≡ old.grid → Shows P own
    → Merges how own old new → Joins how P old new
merges_shown how P own old new e h m = grind (arith, joined_like, same)
