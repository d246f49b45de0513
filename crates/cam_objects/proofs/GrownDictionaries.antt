-- an entry more changes the meaning of no number that is there
use Rattle.std.proofs.Common.{arith, rules}
use Rattle.std.proofs.Common.{◌≡◌, ℕ, ◌+◌, ◌≤◌, false, pos, ◌*ℤ◌, List, [], ◌∷◌, ◌++◌, reverse, None, nat_eq, slice_index_or, sum_by, refl, sym, subst, ◌∙◌}
use Rattle.std.specs.List.{All, flat_map, range_with_len}
use Rattle.std.specs.Map.{lookup}
use Rattle.std.proofs.lemmas.Bool.{eqb-true, false≢true}
use Rattle.std.proofs.lemmas.List.{reverse-append}
use Rattle.std.proofs.lemmas.List.Elements.{All-head, All-tail, All-weaker}
use Rattle.std.proofs.lemmas.List.Sums.{sum_by-cons}
use Rattle.cam_objects.specs.declared.entry.Entry.{Entry}
use Rattle.cam_objects.specs.declared.item.Item.{Item}
use Rattle.cam_objects.specs.declared.item.Item.TheVariants.{One, Repeat}
use Rattle.cam_objects.specs.declared.object.Object.{Object}
use Rattle.cam_objects.specs.declared.placing.place.Place.{Place}
use Rattle.cam_objects.specs.Leaves.{block_leaves, entry_meaning, item_leaves, leaves_of, meaning_in, no_meaning, object_leaves, origin, shifted, stands_for}
use Rattle.cam_objects.specs.Soundness.{AreOnBoard, IsSoundContent, IsSoundItem, MayAddEntry, objects_of}
use Rattle.cam_objects.specs.Weights.{block_count, entry_weight, item_count, no_weight, object_count, weight_in}
use Rattle.cam_objects.proofs.KeptFacts.{sound_grows}
use Rattle.cam_objects.proofs.SoundItems.{HasNumber, IsDrawable, IsKnown, meets, sound}

abbrev Pairs : Type 0
Pairs = List (ℕ × Entry)

apart : (es : Pairs) (n m : ℕ) → lookup (nat_eq n) es ≡ None → HasNumber es m → nat_eq n m ≡ false
apart es n m absent known = grind (arith, eqb-true, false≢true)

pub known_more : (es more : Pairs) (n : ℕ) → HasNumber es n → HasNumber (es ++ more) n
known_more [] more n h = absurd (false≢true h)
known_more (e ∷ es) more n h = grind (arith, HasNumber, known_more es more n)

module _ (es : Pairs) (n : ℕ) (e : Entry) (absent : lookup (nat_eq n) es ≡ None) where
  abbrev grown : Pairs
  grown = es ++ (n, e) ∷ []

  stands_same : {M : Type 0} (nothing : M) (means : (ℕ → M) → Entry → M) (m : ℕ) → HasNumber es m
      → stands_for nothing means (reverse grown) m ≡ stands_for nothing means (reverse es) m
  stands_same nothing means m known = grind (arith, reverse-append, apart)

  means_same : (m : ℕ) → HasNumber es m → meaning_in grown m ≡ meaning_in es m
  means_same = stands_same no_meaning entry_meaning

  pub weighs_same : (m : ℕ) → HasNumber es m → weight_in grown m ≡ weight_in es m
  weighs_same = stands_same no_weight entry_weight

  -- ---- objects

  object_same : (p : Place) (o : Object) → IsKnown es o → object_leaves (meaning_in grown) p o ≡ object_leaves (meaning_in es) p o
  object_same p o h = grind (arith, means_same)

  count_same : (o : Object) → IsKnown es o → object_count (weight_in grown) o ≡ object_count (weight_in es) o
  count_same o h = grind (arith, weighs_same)

  pub drawable_same : (o : Object) → IsKnown es o → IsDrawable (meaning_in es) o → IsDrawable (meaning_in grown) o
  drawable_same o h k = grind (arith, means_same)

  pub known_same : (o : Object) → IsKnown es o → IsKnown grown o
  known_same o h = grind (arith, known_more)

  -- ---- lists of them, and items

  block_same : (objects : List Object) → All (IsKnown es) objects → (p : Place)
      → block_leaves (meaning_in grown) p objects ≡ block_leaves (meaning_in es) p objects
  block_same [] h p = refl
  block_same (o ∷ objects) h p =
      λ i. object_same p o (All-head (IsKnown es) o objects h) i ++ block_same objects (All-tail (IsKnown es) o objects h) p i

  pub block_count_same : (objects : List Object) → All (IsKnown es) objects
      → block_count (weight_in grown) objects ≡ block_count (weight_in es) objects
  block_count_same [] h = refl
  block_count_same (o ∷ objects) h =
      sum_by-cons (object_count (weight_in grown)) o objects
      ∙ (λ i. count_same o (All-head (IsKnown es) o objects h) i + block_count_same objects (All-tail (IsKnown es) o objects h) i)
      ∙ sym (sum_by-cons (object_count (weight_in es)) o objects)

  drawable_all : (objects : List Object) → All (IsKnown es) objects → All (IsDrawable (meaning_in es)) objects
      → All (IsDrawable (meaning_in grown)) objects
  drawable_all objects h k i d low = drawable_same (slice_index_or objects i d) (h i d low) (k i d low)

  abbrev IsKnownItem : Item → Type 0
  IsKnownItem item = All (IsKnown es) (objects_of item)

  pub item_same : (item : Item) → All (IsKnown es) (objects_of item)
      → item_leaves (meaning_in grown) item ≡ item_leaves (meaning_in es) item
  item_same (One o) h = object_same origin o (All-head (IsKnown es) o [] h)
  item_same (Repeat columns rows x y objects) h =
      λ i. flat_map (λ c. flat_map (λ r. block_same objects h (shifted (pos c *ℤ x) (pos r *ℤ y)) i) (range_with_len 0 rows))
      (range_with_len 0 columns)

  item_count_same : (item : Item) → IsKnownItem item → item_count (weight_in grown) item ≡ item_count (weight_in es) item
  item_count_same item h = grind (arith, count_same, All-head, IsKnown, block_count_same)

  pub sound_same : (item : Item) → IsSoundItem es item → IsSoundItem grown item
  sound_same item h =
      let m = meets es item h in
      sound grown item (record {
        repeated = m.repeated;
        formed = m.formed;
        known = All-weaker (IsKnown es) (IsKnown grown) known_same (objects_of item) m.known;
        drawable = drawable_all (objects_of item) m.known m.drawable;
        radii = m.radii;
        inside = record {
          points = m.inside.points;
          steps = m.inside.steps;
          leaves = subst AreOnBoard (sym (item_same item m.known)) m.inside.leaves;
        };
        limits = record {
          segs = m.limits.segs;
          objects = m.limits.objects;
          leaves = subst (λ k. k ≤ 4000000) (sym (item_count_same item m.known)) m.limits.leaves;
        };
      })

  pub sum_same : (items : List Item) → All IsKnownItem items
      → sum_by (item_count (weight_in grown)) items ≡ sum_by (item_count (weight_in es)) items
  sum_same [] h = refl
  sum_same (x ∷ items) h =
      sum_by-cons (item_count (weight_in grown)) x items
      ∙ (λ i. item_count_same x (All-head IsKnownItem x items h) i + sum_same items (All-tail IsKnownItem x items h) i)
      ∙ sym (sum_by-cons (item_count (weight_in es)) x items)

  leaves_same : (items : List Item) → All IsKnownItem items → leaves_of grown items ≡ leaves_of es items
  leaves_same [] h = refl
  leaves_same (x ∷ items) h = λ i. item_same x (All-head IsKnownItem x items h) i ++ leaves_same items (All-tail IsKnownItem x items h) i

  known_items : (items : List Item) → All (IsSoundItem es) items → All IsKnownItem items
  known_items items h = All-weaker (IsSoundItem es) IsKnownItem (λ x k. (meets es x k).known) items h

  pub keep_leaves : (items : List Item) → IsSoundContent es items → leaves_of grown items ≡ leaves_of es items
  keep_leaves items h = leaves_same items (known_items items h.items)

  pub grow : (items : List Item) → IsSoundContent es items → MayAddEntry es n e → IsSoundContent grown items
  grow items h may = search (rules, sound_grows, All-weaker, sound_same, sum_same, known_items)
