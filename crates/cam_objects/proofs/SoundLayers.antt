-- what a sound layer says of its entries and its items
use Rattle.std.proofs.Common.{◌≡◌, ℕ, zero, suc, ◌*◌, ◌^◌, ◌<◌, ◌≤◌, true, false, eqb, List, [], ◌∷◌, length, take, get_or, nat_eq, arith}
use Rattle.std.specs.List.{All, IsDistinct, flat_map, list_any}
use Rattle.std.specs.Map.{keys_of}
use Rattle.std.proofs.Math.Nat.{mul-le-mul_left, mul_comm}
use Rattle.std.proofs.lemmas.Bool.{eqb-true, false≢true}
use Rattle.std.proofs.lemmas.List.{get_or-map, get_or-take, length-map, length-take}
use Rattle.std.proofs.lemmas.List.Sums.{sum_by-cons}
use Rattle.std.proofs.lemmas.List.Elements.{All-append, All-from_get_or, All-head, All-nil, All-tail, All-weaker}
use Rattle.std.proofs.lemmas.Map.Keys.{IsDistinct-from_apart}
use Rattle.std.proofs.lemmas.Map.Steps.{length-le_from_distinct_below}
use Rattle.cam_units.specs.Board.{IsOnBoard}
use Rattle.cam_objects.specs.declared.object.Object.{Object}
use Rattle.cam_objects.specs.declared.entry.Entry.{Entry}
use Rattle.cam_objects.specs.declared.item.Item.{Item}
use Rattle.cam_objects.specs.declared.item.Item.TheVariants.{One, Repeat}
use Rattle.cam_objects.specs.declared.layer.Layer.{Layer}
use Rattle.cam_objects.specs.Leaves.{Leaf, item_leaves, leaves_of, meaning_in}
use Rattle.cam_objects.specs.Machinery.Painting.{IsPaintableItem, IsReadyToPrint}
use Rattle.cam_objects.specs.Machinery.Inside.{ArePainted}
use Rattle.cam_objects.specs.Soundness.{
  AreOnBoard,
  IsInside,
  HasSoundItems,
  IsSoundBlock,
  IsSoundDictionary,
  IsSoundItem,
  points_of_shape,
}
use Rattle.cam_objects.specs.Weights.{Weight, block_count, object_count, weight_in}
use Rattle.cam_objects.proofs.Dictionaries.{absent_at}
use Rattle.cam_objects.proofs.SoundItems.{IsDrawable, meets}

abbrev Pairs : Type 0
Pairs = List (ℕ × Entry)

key_at : (es : Pairs) (i k : ℕ) (d : ℕ × Entry) → i < length es → get_or (keys_of es) i k ≡ (get_or es i d).0
key_at es i k d h = get_or-map (λ (e : ℕ × Entry). e.0) es i d k h

-- ---- the numbers of a sound dictionary

below_any : (xs : List ℕ) (n q : ℕ) → All (λ x. x < n) xs → list_any (eqb q) xs ≡ true → q < n
below_any [] n q h some = absurd (false≢true some)
below_any (x ∷ xs) n q h some = grind (arith, All-tail, All-head, eqb-true, below_any xs n q (All-tail (λ y. y < n) x xs h))

keys_low : (es : Pairs) → IsSoundDictionary es → All (λ x. x < 2 ^ 31) (keys_of es)
keys_low es sound =
    All-from_get_or (λ x. x < 2 ^ 31) (keys_of es) 0
    (λ i h.
    let low : i < length es = simp length-map at h in
    by es sound i low)
  where
    by : (es : Pairs) → IsSoundDictionary es → (i : ℕ) → i < length es → get_or (keys_of es) i 0 < 2 ^ 31
    by [] sound i low = absurd (omega arith)
    by (e ∷ es) sound i low = rw (key_at (e ∷ es) i 0 e low) (omega (arith, (sound i e low).greatest))

pub keys_distinct : (es : Pairs) → IsSoundDictionary es → IsDistinct nat_eq (keys_of es)
keys_distinct [] sound = IsDistinct-from_apart nat_eq [] (λ i j d low high. absurd (omega arith))
keys_distinct (e ∷ es) sound =
    IsDistinct-from_apart nat_eq (keys_of (e ∷ es))
    (λ i j k low high.
    let j_in : j < length (e ∷ es) = simp length-map at high in
    let i_in : i < length (e ∷ es) = omega arith in
    let front : i < length (take j (e ∷ es)) = omega (arith, length-take j (e ∷ es)) in
    let apart = absent_at (take j (e ∷ es)) (get_or (e ∷ es) j e).0 i e (sound j e j_in).absent front in
    let apart' : nat_eq (get_or (e ∷ es) i e).0 (get_or (e ∷ es) j e).0 ≡ false = rw (get_or-take j (e ∷ es) i e low) at apart in
    rw (key_at (e ∷ es) i k e i_in, key_at (e ∷ es) j k e j_in) apart')

pub few_entries : (es : Pairs) → IsSoundDictionary es → length es ≤ 2 ^ 31
few_entries es sound =
    let low = length-le_from_distinct_below (keys_of es) (2 ^ 31) (keys_distinct es sound)
    (λ q some. below_any (keys_of es) (2 ^ 31) q (keys_low es sound) some) in
    simp length-map at low

-- ---- the copies of a sound repeat

pub count_some : (w : ℕ → Weight) (o : Object) → 1 ≤ object_count w o
count_some w o = grind arith

block_some : (w : ℕ → Weight) (os : List Object) → 0 < length os → 1 ≤ block_count w os
block_some w [] h = absurd (omega arith)
block_some w (o ∷ os) h = omega (arith, count_some w o, sum_by-cons (object_count w) o os)

factor : (a b n : ℕ) → 1 ≤ b → a * b ≤ n → a ≤ n
factor a b n some h = omega (arith, mul-le-mul_left a some)

copies_few : (a b c : ℕ) → 1 < a * b → 1 ≤ c → a * b * c ≤ 4000000 → (a ≤ 4000000) × (b ≤ 4000000)
copies_few zero b c h k l = absurd (omega arith)
copies_few (suc a) zero c h k l = absurd (omega arith)
copies_few (suc a) (suc b) c h k l =
    let both = factor (suc a * suc b) c 4000000 k l in
    (factor (suc a) (suc b) 4000000 (omega arith) both, factor (suc b) (suc a) 4000000 (omega arith) (rw (mul_comm (suc b) (suc a)) both))

pub paintable_item : (es : Pairs) (item : Item) → IsSoundItem es item → IsPaintableItem item
paintable_item es (One o) h = (meets es (One o) h).inside.points 0 o (omega arith)
paintable_item es (Repeat columns rows i j objects) h =
    let m = meets es (Repeat columns rows i j objects) h in
    let few = copies_few columns rows (block_count (weight_in es) objects) m.repeated.0
    (block_some (weight_in es) objects m.repeated.1) m.limits.leaves in (
      record { copies = few.0; short = m.inside.steps.0; points = m.inside.points },
      record { copies = few.1; short = m.inside.steps.1; points = m.inside.points },
    )

-- ---- a sound layer may be painted

pub board_all : {X : Type 0} (f : X → List Leaf) (xs : List X) → All (λ x. AreOnBoard (f x)) xs → AreOnBoard (flat_map f xs)
board_all f [] h = All-nil (λ l. All IsOnBoard (points_of_shape l.shape))
board_all f (x ∷ xs) h =
    All-append (λ l. All IsOnBoard (points_of_shape l.shape)) (f x) (flat_map f xs) (All-head (λ y. AreOnBoard (f y)) x xs h)
    (board_all f xs (All-tail (λ y. AreOnBoard (f y)) x xs h))

pub inside_leaves : (es : Pairs) (item : Item) → IsInside es item → AreOnBoard (item_leaves (meaning_in es) item)
inside_leaves es item h = h.leaves

pub ready_layer : (l : Layer) → HasSoundItems l → IsReadyToPrint l.apertures (leaves_of l.apertures l.items.items)
ready_layer l sound = record {
  few = few_entries l.apertures sound.entries;
  sound = sound.entries;
  board = board_all (item_leaves (meaning_in l.apertures)) l.items.items
      (All-weaker (IsSoundItem l.apertures) (λ x. AreOnBoard (item_leaves (meaning_in l.apertures) x))
      (λ x h. inside_leaves l.apertures x (meets l.apertures x h).inside) l.items.items sound.items);
}

pub paintable_items : (l : Layer) → HasSoundItems l → All IsPaintableItem l.items.items
paintable_items l sound = All-weaker (IsSoundItem l.apertures) IsPaintableItem (paintable_item l.apertures) l.items.items sound.items

-- the objects of a sound block stand on the board, and each paints
pub painted_block : (es : Pairs) (objects : List Object) → IsSoundBlock es objects → ArePainted es objects
painted_block es objects block = grind (arith, All-weaker, paintable_item, IsDrawable, meets)
