-- What a reading has made so far, where it is sound: the objects of an open block and of an open repeat, and the items;
-- and that one entry more in the dictionary leaves it so.
use Rattle.std.proofs.Common.{◌≡◌, ℕ, ◌≤◌, List, [], ◌∷◌, ◌++◌, length, max, None, nat_eq, sum_by, sym, ◌∙◌, arith}
use Rattle.std.specs.Prelude.{fold}
use Rattle.std.specs.List.{All}
use Rattle.std.specs.Map.{lookup}
use Rattle.std.proofs.lemmas.List.Elements.{All-cons, All-head, All-nil, All-tail, All-weaker}
use Rattle.cam_units.specs.Board.{IsOnBoard}
use Rattle.cam_objects.specs.declared.object.Object.{Object}
use Rattle.cam_objects.specs.declared.entry.Entry.{Entry}
use Rattle.cam_objects.specs.declared.item.Item.{Item}
use Rattle.cam_objects.specs.declared.item.Item.TheVariants.{One}
use Rattle.cam_objects.specs.Leaves.{meaning_in, object_leaves, origin}
use Rattle.cam_objects.specs.Soundness.{AreOnBoard, IsSoundBlock, IsSoundItem, objects_of, points_of, segs_of}
use Rattle.cam_objects.specs.Weights.{Weight, block_count, item_count, object_count, object_depth, weight_in}
use Rattle.cam_objects.proofs.SoundItems.{HasRadius, IsDrawable, IsFormed, IsKnown, meets, sound}
use Rattle.cam_objects.proofs.GrownDictionaries.{block_count_same, drawable_same, known_same, sound_same, sum_same, weighs_same}

abbrev pub Pairs : Type 0
Pairs = List (ℕ × Entry)

-- all that a sound object meets but for its leaves
pub record IsMade (es : Pairs) (o : Object) : Type 0 where
  pub formed : IsFormed o
  pub known : IsKnown es o
  pub drawable : IsDrawable (meaning_in es) o
  pub radius : HasRadius o
  pub points : All IsOnBoard (points_of o)
  pub segs : length (segs_of o) ≤ 1000000

-- an object whose leaves are sound too
pub record IsPlaced (es : Pairs) (o : Object) : Type 0 where
  pub made : IsMade es o
  pub leaves : AreOnBoard (object_leaves (meaning_in es) origin o)
  pub count : object_count (weight_in es) o ≤ 4000000

pub one_item : (es : Pairs) (o : Object) → IsPlaced es o → IsSoundItem es (One o)
one_item es o p = grind (arith, sound, All-cons, IsFormed, All-nil, IsKnown, IsDrawable)

-- an open block, with the count of its leaves
pub record IsSoundOpen (es : Pairs) (objects : List Object) (leaves : ℕ) : Type 0 where
  pub each : All (λ o. IsSoundItem es (One o)) objects
  pub few : length objects ≤ 1000000
  pub count : leaves ≡ block_count (weight_in es) objects
  pub most : leaves ≤ 4000000
  pub depth : All (λ o. object_depth (weight_in es) o ≤ 7) objects

-- an open repeat, with the count of the leaves of one copy
pub record IsSoundRepeated (es : Pairs) (objects : List Object) (leaves : ℕ) : Type 0 where
  pub each : All (IsMade es) objects
  pub few : length objects ≤ 1000000
  pub count : leaves ≡ block_count (weight_in es) objects

-- the items, with the count of their leaves
pub record IsSoundBuilt (es : Pairs) (items : List Item) (leaves : ℕ) : Type 0 where
  pub each : All (IsSoundItem es) items
  pub few : length items ≤ 1000000
  pub count : leaves ≡ sum_by (item_count (weight_in es)) items
  pub most : leaves ≤ 4000000

-- ---- a block that is closed

deepest : (w : ℕ → Weight) (objects : List Object) (so_far : ℕ) → so_far ≤ 7 → All (λ o. object_depth w o ≤ 7) objects
    → fold (λ deep object. max deep (object_depth w object)) so_far objects ≤ 7
deepest w [] so_far le h = le
deepest w (o ∷ objects) so_far le h =
    deepest w objects (max so_far (object_depth w o)) (omega (arith, le, All-head (λ x. object_depth w x ≤ 7) o objects h))
    (All-tail (λ x. object_depth w x ≤ 7) o objects h)

pub closed : (es : Pairs) (objects : List Object) (leaves : ℕ) → IsSoundOpen es objects leaves → IsSoundBlock es objects
closed es objects leaves s = grind (arith, deepest)

known_one : (es : Pairs) (o : Object) → IsSoundItem es (One o) → IsKnown es o
known_one es o h = All-head (IsKnown es) o [] (meets es (One o) h).known

-- ---- one entry more

module _ (es : Pairs) (n : ℕ) (e : Entry) (absent : lookup (nat_eq n) es ≡ None) where
  made_more : (o : Object) → IsMade es o → IsMade (es ++ (n, e) ∷ []) o
  made_more o m = record {
    formed = m.formed;
    known = known_same es n e absent o m.known;
    drawable = drawable_same es n e absent o m.known m.drawable;
    radius = m.radius;
    points = m.points;
    segs = m.segs;
  }

  depth_same : (o : Object) → IsKnown es o → object_depth (weight_in (es ++ (n, e) ∷ [])) o ≡ object_depth (weight_in es) o
  depth_same o h = grind (arith, weighs_same)

  depths : (objects : List Object) → All (IsKnown es) objects → All (λ o. object_depth (weight_in es) o ≤ 7) objects
      → All (λ o. object_depth (weight_in (es ++ (n, e) ∷ [])) o ≤ 7) objects
  depths [] h k = All-nil (λ o. object_depth (weight_in (es ++ (n, e) ∷ [])) o ≤ 7)
  depths (o ∷ objects) h k =
      grind (
        arith,
        All-cons,
        depth_same,
        All-head,
        IsKnown,
        All-tail,
        depths objects (All-tail (IsKnown es) o objects h) (All-tail (λ o. object_depth (weight_in es) o ≤ 7) o objects k),
      )

  pub open_more : (objects : List Object) (leaves : ℕ) → IsSoundOpen es objects leaves → IsSoundOpen (es ++ (n, e) ∷ []) objects leaves
  open_more objects leaves s =
      let known = All-weaker (λ o. IsSoundItem es (One o)) (IsKnown es) (known_one es) objects s.each in
      record {
        each = All-weaker (λ o. IsSoundItem es (One o)) (λ o. IsSoundItem (es ++ (n, e) ∷ []) (One o))
            (λ o. sound_same es n e absent (One o)) objects s.each;
        few = s.few;
        count = s.count ∙ sym (block_count_same es n e absent objects known);
        most = s.most;
        depth = depths objects known s.depth;
      }

  pub repeated_more : (objects : List Object) (leaves : ℕ) → IsSoundRepeated es objects leaves
      → IsSoundRepeated (es ++ (n, e) ∷ []) objects leaves
  repeated_more objects leaves s = record {
    each = All-weaker (IsMade es) (IsMade (es ++ (n, e) ∷ [])) made_more objects s.each;
    few = s.few;
    count = s.count ∙ sym (block_count_same es n e absent objects (All-weaker (IsMade es) (IsKnown es) (λ o m. m.known) objects s.each));
  }

  pub built_more : (items : List Item) (leaves : ℕ) → IsSoundBuilt es items leaves → IsSoundBuilt (es ++ (n, e) ∷ []) items leaves
  built_more items leaves s = record {
    each = All-weaker (IsSoundItem es) (IsSoundItem (es ++ (n, e) ∷ [])) (sound_same es n e absent) items s.each;
    few = s.few;
    count = s.count
        ∙ sym (sum_same es n e absent items
        (All-weaker (IsSoundItem es) (λ item. All (IsKnown es) (objects_of item)) (λ item h. (meets es item h).known) items s.each));
    most = s.most;
  }
