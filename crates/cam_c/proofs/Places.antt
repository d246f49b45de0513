-- The places of a room as slots, and back.
use Rattle.std.proofs.Common.{◌≡◌, ◌∙◌, ap, sym, refl, ℕ, ◌+◌, List, [], ◌∷◌, ◌++◌, length, drop, true, false, Bool, map, None, Some, Option}
use Rattle.std.proofs.lemmas.List.{length-map, drop-map, map-append}
use Rattle.std.specs.Prelude.{if◌then◌else◌, nat_le, is_some, unwrap_or}
use base.Fraction.{full_share}
use base.Fml.{Fml, froom, fsep}
use mir.Raw.{raw as bare}
use prog.Memory.{size}
use denote.Builtin.{u8, u64}
use denote.Memory.{lone, part_at}
use denote.Param.Laws.{Laws, of_field}
use denote.Param.Shared.{copy_shared}
use denote.RattleType.{RattleType}
use denote.RawPtr.{block_ptr}
use denote.Struct.Field.{u8-field, u64-field}
use denote.Struct.Laws.{u8-copy, u8-laws, u64-copy, u64-laws}
use Rattle.core.specs.Mem.Slots.Ownership.{slots}
use Rattle.std_alloc.proofs.VecSteps.El.{El, no_al}
use Rattle.core.specs.Mem.Slots.{slots_filled, slots_items, slots_ptr}
use Rattle.core.specs.declared.slots.Slots.{Slots}
use Rattle.cam_c.specs.Calls.{IsCopied, IsCopyOf, copied}
use Rattle.cam_c.specs.Lent.{places}
use Rattle.cam_c.specs.Pointers.{IsTilePut, all_there}

pub byte_laws : Laws u8
byte_laws = of_field u8-field u8-laws refl (copy_shared u8-field u8-copy)

pub word_laws : Laws u64
word_laws = of_field u64-field u64-laws refl (copy_shared u64-field u64-copy)

abbrev pub Bytes : El
Bytes = record { row = u8; laws = byte_laws; al = no_al }

abbrev pub Words : El
Words = record { row = u64; laws = word_laws; al = no_al }

module _ (R : RattleType) where
  abbrev pub as_slots : (z : ℕ → R.Denot) → List (Option R.Denot) → ℕ → ℕ → Fml
  as_slots z xs b o = slots R (block_ptr b o) (map (λ x. unwrap_or x (z 0)) xs) (map (λ x. is_some x) xs)

  pub places_slots : (z : ℕ → R.Denot) → bare (lone R.mir) ≡ lone R.mir → (xs : List (Option R.Denot)) (b o : ℕ) → places R xs b o ≡ as_slots z xs b o
  places_slots z e [] b o = refl
  places_slots z e (Some x ∷ xs) b o = ap (λ (F : Fml). fsep (part_at R full_share x b o) F) (places_slots z e xs b (o + size (lone R.mir)))
  places_slots z e (None ∷ xs) b o =
      ap (λ (F : Fml). fsep (froom (lone R.mir) b o) F) (places_slots z e xs b (o + size (lone R.mir)))
      ∙ ap (λ τ. fsep (froom τ b o) (as_slots z xs b (o + size (lone R.mir)))) (sym e)

-- a map goes through a copy
either : {X Y : Type 0} (f : X → Y) (b : Bool) (x y : List X) → map f (if b then x else y) ≡ (if b then map f x else map f y)
either f true x y = refl
either f false x y = refl

map_copied : {X Y : Type 0} (f : X → Y) (text room : List X) → map f (copied text room) ≡ copied (map f text) (map f room)
map_copied f text room =
    let n = length text in let m = length room in
    either f (nat_le n m) (text ++ drop n room) room
    ∙ ap (λ xs. if nat_le n m then xs else map f room) (map-append f text (drop n room) ∙ ap (λ ys. map f text ++ ys) (sym (drop-map f n room)))
    ∙ ap (λ (c : ℕ × ℕ). if nat_le c.0 c.1 then map f text ++ drop c.0 (map f room) else map f room) (λ i. (sym (length-map text f) i, sym (length-map room f) i))

untold : (text : List ℕ) → map (λ x. unwrap_or x 0) (all_there text) ≡ text
untold [] = refl
untold (x ∷ xs) = ap (λ ys. x ∷ ys) (untold xs)

all_true : (text : List ℕ) → map (λ x. is_some x) (all_there text) ≡ map (λ x. true) text
all_true [] = refl
all_true (x ∷ xs) = ap (λ ys. true ∷ ys) (all_true xs)

pub copied_values : (text : List ℕ) (old : List (Option ℕ)) → map (λ x. unwrap_or x 0) (copied (all_there text) old) ≡ copied text (map (λ x. unwrap_or x 0) old)
copied_values text old = map_copied (λ x. unwrap_or x 0) (all_there text) old ∙ ap (λ ys. copied ys (map (λ x. unwrap_or x 0) old)) (untold text)

pub copied_present : (text : List ℕ) (old : List (Option ℕ)) → map (λ x. is_some x) (copied (all_there text) old) ≡ copied (map (λ x. true) text) (map (λ x. is_some x) old)
copied_present text old = map_copied (λ x. is_some x) (all_there text) old ∙ ap (λ ys. copied ys (map (λ x. is_some x) old)) (all_true text)

-- the places of a room after a copy, wherever their row was
pub back : (text : List ℕ) (old : List (Option ℕ)) (r p : Slots ℕ) (b o c e : ℕ) → slots_ptr r ≡ block_ptr b o
    → slots_items r ≡ map (λ x. unwrap_or x 0) old → slots_filled r ≡ map (λ x. is_some x) old → slots_ptr p ≡ block_ptr c e → IsCopied text r p
    → slots u8 (block_ptr c e) (slots_items p) (slots_filled p) ≡ places u8 (copied (all_there text) old) b o
back text old r p b o c e start items filled at did =
    let new : List (Option ℕ) = copied (all_there text) old in
    (λ i. slots u8 ((sym at ∙ did.places.start ∙ start) i) ((did.values ∙ ap (λ xs. copied text xs) items ∙ sym (copied_values text old)) i)
    ((did.there ∙ ap (λ fs. copied (map (λ x. true) text) fs) filled ∙ sym (copied_present text old)) i)) ∙ sym (places_slots u8 (λ n. n) refl new b o)

pub tile_back : (k : Option (List ℕ)) (old : List (Option ℕ)) (r p : Slots ℕ) (code b o c e : ℕ) → slots_ptr r ≡ block_ptr b o
    → slots_items r ≡ map (λ x. unwrap_or x 0) old → slots_filled r ≡ map (λ x. is_some x) old → slots_ptr p ≡ block_ptr c e → IsCopyOf k r p code
    → (new : List (Option ℕ)) × (slots u64 (block_ptr c e) (slots_items p) (slots_filled p) ≡ places u64 new b o) × IsTilePut k old new code
tile_back (Some rows) old r p code b o c e start items filled at did =
    let all : List (Option ℕ) = all_there rows in
    (all, (λ i. slots u64 ((sym at ∙ did.1.places.start ∙ start) i) ((did.1.values ∙ sym (untold rows)) i) ((did.1.there ∙ sym (all_true rows)) i)) ∙ sym (places_slots u64 (λ n. n) refl all b o), (did.0, refl))
tile_back None old r p code b o c e start items filled at did =
    (old, (λ i. slots u64 ((sym at ∙ ap (λ q. slots_ptr q) did.1 ∙ start) i) ((ap (λ q. slots_items q) did.1 ∙ items) i) ((ap (λ q. slots_filled q) did.1 ∙ filled) i)) ∙ sym (places_slots u64 (λ n. n) refl old b o), (did.0, refl))
