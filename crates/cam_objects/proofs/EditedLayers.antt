-- layers stay sound as they are edited
use Rattle.std.proofs.Common.{
  ◌≡◌,
  ℕ,
  suc,
  ◌+◌,
  ◌≤◌,
  nat_eq,
  Bool,
  true,
  false,
  cond,
  List,
  [],
  ◌∷◌,
  ◌++◌,
  length,
  map,
  sum_by,
  Some,
  IsSome,
  refl,
  sym,
  ap,
  subst,
  ◌∙◌,
  arith,
}
use Rattle.std.specs.Cmp.{nat_eq_equiv}
use Rattle.std.specs.List.{All, IsDistinct}
use Rattle.std.specs.Map.{set_value}
use Rattle.std.proofs.lemmas.Bool.{eqb-true}
use Rattle.std.proofs.lemmas.List.{length-append, length-map}
use Rattle.std.proofs.lemmas.List.Elements.{All-append, All-cons, All-head, All-nil, All-tail, All-weaker}
use Rattle.std.proofs.lemmas.List.Sums.{sum_by-append, sum_by-cons}
use Rattle.std.proofs.lemmas.Map.{keys-set_value, lookup-set_value}
use Rattle.cam_units.specs.Board.{IsOnBoard}
use Rattle.cam_units.specs.declared.length.Nm.{Nm}
use Rattle.cam_units.specs.declared.point.Point.{Point}
use Rattle.cam_shapes.specs.Shifting.{shifted_point}
use Rattle.cam_objects.specs.declared.drill_item.DrillItem.{DrillItem}
use Rattle.cam_objects.specs.declared.drill_item.DrillItem.TheVariants.{Hit, Rout}
use Rattle.cam_objects.specs.Drilling.{diameter_of}
use Rattle.cam_objects.specs.DrillSoundness.{IsSoundDrillItem, IsSoundTool, drill_count_from, drill_count_of, drill_points_of}
use Rattle.cam_objects.specs.LayerLaws.{DrillEditLaw, LayerEditLaw}
use Rattle.cam_objects.specs.Shifting.{shifted_drill_item, shifted_item}
use Rattle.cam_objects.specs.Soundness.{IsSoundItem}
use Rattle.cam_objects.specs.Weights.{item_count, weight_in}
use Rattle.cam_objects.proofs.GrownDictionaries.{grow, keep_leaves}
use Rattle.cam_objects.proofs.MovedItems.{item_count_kept, sound_kept}
use Rattle.cam_objects.proofs.Painting.{All_left, All_right}
use Rattle.cam_objects.proofs.SoundItems.{meets_drill, sound_drill}

-- ---- lists with an element more, less or other

module _ {X : Type 0} (P : X → Type 0) (before after : List X) where
  pub all_with : (x : X) → P x → All P (before ++ after) → All P (before ++ x ∷ after)
  all_with x h all = All-append P before (x ∷ after) (All_left P before after all) (All-cons P x after h (All_right P before after all))

  pub all_without : (x : X) → All P (before ++ x ∷ after) → All P (before ++ after)
  all_without x all =
      All-append P before after (All_left P before (x ∷ after) all) (All-tail P x after (All_right P before (x ∷ after) all))

  all_other : (x y : X) → P y → All P (before ++ x ∷ after) → All P (before ++ y ∷ after)
  all_other x y here all = all_with y here (all_without x all)

  pub all_at : (x : X) → All P (before ++ x ∷ after) → P x
  all_at x all = All-head P x after (All_right P before (x ∷ after) all)

module _ {X : Type 0} (f : X → ℕ) (before after : List X) (x : X) where
  sum_at : sum_by f (before ++ x ∷ after) ≡ f x + sum_by f (before ++ after)
  sum_at = omega (arith, sum_by-append f before (x ∷ after), sum_by-cons f x after, sum_by-append f before after)

  length_at : length (before ++ x ∷ after) ≡ 1 + length (before ++ after)
  length_at = omega (arith, length-append before (x ∷ after), length-append before after)

  -- what fits behind the others fits between them
  leaves_at : (n : ℕ) → sum_by f ((before ++ after) ++ x ∷ []) ≤ n → sum_by f (before ++ x ∷ after) ≤ n
  leaves_at n h = omega (arith, h, sum_at, sum_by-append f (before ++ after) (x ∷ []), sum_by-cons f x [])

  room_at : (n : ℕ) → length ((before ++ after) ++ x ∷ []) ≤ n → length (before ++ x ∷ after) ≤ n
  room_at n h = omega (arith, h, length_at, length-append (before ++ after) (x ∷ []))

-- the same elements beside it, and it in another place
module _ {X : Type 0} (before after before' after' : List X) (x : X) (same : before' ++ after' ≡ before ++ after) where
  all_elsewhere : (P : X → Type 0) → All P (before ++ x ∷ after) → All P (before' ++ x ∷ after')
  all_elsewhere P all =
      all_with P before' after' x (all_at P before after x all) (subst (All P) (sym same) (all_without P before after x all))

  sum_elsewhere : (f : X → ℕ) → sum_by f (before' ++ x ∷ after') ≡ sum_by f (before ++ x ∷ after)
  sum_elsewhere f = sum_at f before' after' x ∙ ap (λ rest. f x + sum_by f rest) same ∙ sym (sum_at f before after x)

  length_elsewhere : length (before' ++ x ∷ after') ≡ length (before ++ x ∷ after)
  length_elsewhere =
      omega (
        arith,
        ap length same,
        length-append before' (x ∷ after'),
        length-append before (x ∷ after),
        length-append before' after',
        length-append before after,
      )

-- ---- layers

one_more : {X : Type 0} (P : X → Type 0) (xs : List X) (x : X) → All P xs → P x → All P (xs ++ x ∷ [])
one_more P xs x all here = All-append P xs (x ∷ []) all (All-cons P x [] here (All-nil P))

pub layer_edits : LayerEditLaw
layer_edits = record {
  add_entry = λ es items n entry h may. grow es n entry may.absent items h may;
  keep_leaves = λ es items n entry h may. keep_leaves es n entry may.absent items h;
  push =
      λ es items item h good room. record { entries = h.entries; items = one_more (IsSoundItem es) items item h.items good; limits = room };
  insert = λ es before after item h good room. record {
    entries = h.entries;
    items = all_with (IsSoundItem es) before after item good h.items;
    limits = record {
      few = room_at (item_count (weight_in es)) before after item 1000000 room.few;
      leaves = leaves_at (item_count (weight_in es)) before after item 4000000 room.leaves;
    };
  };
  remove = λ es before after item h. record {
    entries = h.entries;
    items = all_without (IsSoundItem es) before after item h.items;
    limits = record {
      few = omega (arith, h.limits.few, length_at (item_count (weight_in es)) before after item);
      leaves = omega (arith, h.limits.leaves, sum_at (item_count (weight_in es)) before after item);
    };
  };
  move = λ es before after item by h inside.
      let w = item_count (weight_in es) in
      let there = shifted_item by item in record {
        entries = h.entries;
        items =
            all_with (IsSoundItem es) before after there (sound_kept by es item (all_at (IsSoundItem es) before after item h.items) inside)
            (all_without (IsSoundItem es) before after item h.items);
        limits = record {
          few = omega (arith, h.limits.few, length_at w before after item, length_at w before after there);
          leaves =
              omega (
                arith,
                h.limits.leaves,
                sum_at w before after item,
                sum_at w before after there,
                item_count_kept by (weight_in es) item,
              );
        };
      };
  replace = λ es before after item new h good room. record {
    entries = h.entries;
    items = all_other (IsSoundItem es) before after item new good h.items;
    limits = room;
  };
  reorder = λ es before after before' after' item h same.
      let w = item_count (weight_in es) in record {
        entries = h.entries;
        items = all_elsewhere before after before' after' item same (IsSoundItem es) h.items;
        limits = record {
          few = subst (λ k. k ≤ 1000000) (sym (length_elsewhere before after before' after' item same)) h.limits.few;
          leaves = subst (λ k. k ≤ 4000000) (sym (sum_elsewhere before after before' after' item same w)) h.limits.leaves;
        };
      };
}

-- ---- drill layers

segments_kept : (by : Point) (points : List Point) → drill_count_from (map (shifted_point by) points) ≡ drill_count_from points
segments_kept by points = grind (arith, length-map)

drill_count_kept : (by : Point) (item : DrillItem) → drill_count_of (shifted_drill_item by item) ≡ drill_count_of item
drill_count_kept by item = grind (arith, segments_kept)

drill_kept : (ts : List (ℕ × Nm)) (by : Point) (item : DrillItem) → IsSoundDrillItem ts item
    → All IsOnBoard (drill_points_of (shifted_drill_item by item))
    → IsSoundDrillItem ts (shifted_drill_item by item)
drill_kept ts by (Hit tool at) h inside =
    let m = meets_drill ts (Hit tool at) h in
    sound_drill ts _ (record { some = m.some; known = m.known; inside = inside; few = m.few })
drill_kept ts by (Rout tool points) h inside =
    let m = meets_drill ts (Rout tool points) h in
    let same = sym (length-map points (shifted_point by)) in
    sound_drill ts _ (record {
      some = subst (λ k. suc 0 ≤ k) same m.some;
      known = m.known;
      inside = inside;
      few = subst (λ k. k ≤ 1000000) same m.few;
    })

-- another diameter of a tool takes no tool away
known_kept : (ts : List (ℕ × Nm)) (t n : ℕ) (d : Nm) → IsSome (diameter_of ts t) → IsSome (diameter_of ts n)
    → IsSome (diameter_of (set_value (nat_eq t) ts d) n)
known_kept ts t n d there known =
    subst IsSome (sym (lookup-set_value nat_eq_equiv (nat_eq t) same_number n d ts there)) (by (nat_eq t n))
  where
    same_number : (x y : ℕ) → nat_eq t x ≡ true → nat_eq t y ≡ nat_eq x y
    same_number x y e = ap (λ m. nat_eq m y) (eqb-true t x e)

    by : (b : Bool) → IsSome (cond b (Some d) (diameter_of ts n))
    by true = refl
    by false = known

item_kept : (ts : List (ℕ × Nm)) (t : ℕ) (d : Nm) (item : DrillItem) → IsSome (diameter_of ts t) → IsSoundDrillItem ts item
    → IsSoundDrillItem (set_value (nat_eq t) ts d) item
item_kept ts t d item there h = grind (arith, meets_drill, sound_drill, known_kept)

abbrev IsTool : ℕ × Nm → Type 0
IsTool e = IsSoundTool e.0 e.1

tools_kept : (ts : List (ℕ × Nm)) (t : ℕ) (d : Nm) → IsSoundTool t d → All IsTool ts → All IsTool (set_value (nat_eq t) ts d)
tools_kept [] t d good h = h
tools_kept (e ∷ ts) t d good h =
    by (nat_eq t e.0) refl (All-tail IsTool e ts h) (tools_kept ts t d good (All-tail IsTool e ts h))
  where
    by : (b : Bool) → nat_eq t e.0 ≡ b → All IsTool ts → All IsTool (set_value (nat_eq t) ts d)
        → All IsTool (cond b ((e.0, d) ∷ ts) (e ∷ set_value (nat_eq t) ts d))
    by true same rest kept = All-cons IsTool (e.0, d) ts (subst (λ n. IsSoundTool n d) (eqb-true t e.0 same) good) rest
    by false same rest kept = All-cons IsTool e (set_value (nat_eq t) ts d) (All-head IsTool e ts h) kept

pub drill_edits : DrillEditLaw
drill_edits = record {
  insert = λ ts before after item h good room. record {
    tools = h.tools;
    distinct = h.distinct;
    items = all_with (IsSoundDrillItem ts) before after item good h.items;
    limits = record {
      few = room_at drill_count_of before after item 1000000 room.few;
      leaves = leaves_at drill_count_of before after item 4000000 room.leaves;
    };
  };
  remove = λ ts before after item h. record {
    tools = h.tools;
    distinct = h.distinct;
    items = all_without (IsSoundDrillItem ts) before after item h.items;
    limits = record {
      few = omega (arith, h.limits.few, length_at drill_count_of before after item);
      leaves = omega (arith, h.limits.leaves, sum_at drill_count_of before after item);
    };
  };
  move = λ ts before after item by h inside.
      let there = shifted_drill_item by item in record {
        tools = h.tools;
        distinct = h.distinct;
        items =
            all_with (IsSoundDrillItem ts) before after there
            (drill_kept ts by item (all_at (IsSoundDrillItem ts) before after item h.items) inside)
            (all_without (IsSoundDrillItem ts) before after item h.items);
        limits = record {
          few = omega (arith, h.limits.few, length_at drill_count_of before after item, length_at drill_count_of before after there);
          leaves =
              omega (
                arith,
                h.limits.leaves,
                sum_at drill_count_of before after item,
                sum_at drill_count_of before after there,
                drill_count_kept by item,
              );
        };
      };
  replace = λ ts before after item new h good room. record {
    tools = h.tools;
    distinct = h.distinct;
    items = all_other (IsSoundDrillItem ts) before after item new good h.items;
    limits = room;
  };
  reorder = λ ts before after before' after' item h same. record {
    tools = h.tools;
    distinct = h.distinct;
    items = all_elsewhere before after before' after' item same (IsSoundDrillItem ts) h.items;
    limits = record {
      few = subst (λ k. k ≤ 1000000) (sym (length_elsewhere before after before' after' item same)) h.limits.few;
      leaves = subst (λ k. k ≤ 4000000) (sym (sum_elsewhere before after before' after' item same drill_count_of)) h.limits.leaves;
    };
  };
  diameter = λ ts items t d h there good. record {
    tools = tools_kept ts t d good h.tools;
    distinct = subst (IsDistinct nat_eq) (sym (keys-set_value (nat_eq t) ts d)) h.distinct;
    items = All-weaker (IsSoundDrillItem ts) (IsSoundDrillItem (set_value (nat_eq t) ts d))
        (λ item sound. item_kept ts t d item there sound) items h.items;
    limits = h.limits;
  };
}
