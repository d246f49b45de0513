-- what is kept beside the entries of a dictionary is what their numbers paint and weigh
use Rattle.std.proofs.Common.{rules}
use Rattle.std.proofs.Common.{
  ◌≡◌,
  ℕ,
  ◌+◌,
  ◌<◌,
  ◌≤◌,
  List,
  [],
  ◌∷◌,
  ◌++◌,
  length,
  take,
  get_or,
  slice_get,
  None,
  Some,
  nat_eq,
  sym,
  ap,
  subst,
  ◌∙◌,
  arith,
  inl,
  inr,
}
use Rattle.std.specs.Map.{lookup}
use Rattle.std.proofs.lemmas.Option.{get_or_from_slice_get, slice_get-get_or, slice_get_within}
use Rattle.std.proofs.lemmas.Bool.{cases_lt}
use Rattle.std.proofs.lemmas.List.Elements.{All-weaker}
use Rattle.std.proofs.lemmas.List.{get_or_append_left, length-append, take-append-le}
use Rattle.std.proofs.Math.Seq.{get_or-append_seam}
use Rattle.cam_units.specs.declared.bounds.Bounds.{Bounds}
use Rattle.cam_objects.specs.declared.object.Object.{Object}
use Rattle.cam_objects.specs.declared.entry.Entry.{Entry}
use Rattle.cam_objects.specs.declared.entry.Entry.TheVariants.{Aperture, Block}
use Rattle.cam_objects.specs.declared.item.Item.TheVariants.{One}
use Rattle.cam_objects.specs.declared.checks.facts.Facts.{Facts}
use Rattle.cam_objects.specs.Bounds.{bounds_of}
use Rattle.cam_objects.specs.Leaves.{Meaning, block_leaves, entry_meaning, meaning_in, no_meaning, object_leaves, origin}
use Rattle.cam_objects.specs.Machinery.Boxes.{IsNearBox}
use Rattle.cam_objects.specs.Machinery.Facts.{AreFactsOf, IsKept, facts_at, facts_of, no_facts, points_bounds_of}
use Rattle.cam_objects.specs.Machinery.Inside.{IsBoxOnBoard}
use Rattle.cam_objects.specs.Soundness.{AreOnBoard, IsSoundBlock, IsSoundItem, IsSoundDictionary, IsSoundEntry, MayAddEntry}
use Rattle.cam_objects.specs.Weights.{Weight, block_count, block_depth, entry_weight, no_weight, weight_in}
use Rattle.cam_objects.proofs.BoxLimits.{within_near}
use Rattle.cam_objects.proofs.SizedLeaves.{bounds_within, meaning_sized, reach}
use Rattle.cam_objects.proofs.Dictionaries.{meant-absent, meant-at, whole}
use Rattle.cam_objects.proofs.Painting.{entry_may}
use Rattle.cam_objects.proofs.BoardBoxes.{board_leaves}
use Rattle.cam_objects.proofs.SoundLayers.{board_all, inside_leaves, keys_distinct}
use Rattle.cam_objects.proofs.SoundItems.{meets}

abbrev Pairs : Type 0
Pairs = List (ℕ × Entry)

abbrev pack : Weight → Meaning → Facts
pack w m = record { leaves = w.leaves; depth = w.depth; points = points_bounds_of (m.flash origin); bounds = bounds_of (m.flash origin) }

-- ---- a number and its entry

pub weight_found : (es : Pairs) (i n : ℕ) (e : Entry) (fs : List Facts) → IsKept es fs → slice_get es i ≡ Some (n, e)
    → weight_in es n ≡ entry_weight (weight_in (take i es)) e
weight_found es i n e fs kept found =
    ap (λ (xs : Pairs). weight_in xs n) (sym (whole es))
    ∙ meant-at no_weight entry_weight es i (length es) n e kept.distinct found (slice_get_within es i (n, e) found) (omega arith)

pub meaning_found : (es : Pairs) (i n : ℕ) (e : Entry) (fs : List Facts) → IsKept es fs → slice_get es i ≡ Some (n, e)
    → meaning_in es n ≡ entry_meaning (meaning_in (take i es)) e
meaning_found es i n e fs kept found =
    ap (λ (xs : Pairs). meaning_in xs n) (sym (whole es))
    ∙ meant-at no_meaning entry_meaning es i (length es) n e kept.distinct found (slice_get_within es i (n, e) found) (omega arith)

facts_same : (w w' : Weight) (m m' : Meaning) → w ≡ w' → m ≡ m' → pack w m ≡ pack w' m'
facts_same w w' m m' e f = ap (λ v. pack v m) e ∙ ap (pack w') f

pub facts_found : (es : Pairs) (fs : List Facts) (i n : ℕ) (e : Entry) (f : Facts) → IsKept es fs → slice_get es i ≡ Some (n, e)
    → f ≡ get_or fs i f → f ≡ facts_at es n
facts_found es fs i n e f kept found is =
    let within = slice_get_within es i (n, e) found in
    is
    ∙ get_or_from_slice_get fs i (facts_of (take i es) (get_or es i (n, e)).1) f (kept.facts.each i (n, e) within)
    ∙ ap (λ (d : ℕ × Entry). facts_of (take i es) d.1) (get_or_from_slice_get es i (n, e) (n, e) found)
    ∙ sym (facts_same (weight_in es n) (entry_weight (weight_in (take i es)) e) (meaning_in es n) (entry_meaning (meaning_in (take i es)) e)
    (weight_found es i n e fs kept found) (meaning_found es i n e fs kept found))

pub facts_absent : (es : Pairs) (n : ℕ) → lookup (nat_eq n) es ≡ None → no_facts ≡ facts_at es n
facts_absent es n absent =
    sym (facts_same (weight_in es n) no_weight (meaning_in es n) no_meaning
    (ap (λ (xs : Pairs). weight_in xs n) (sym (whole es)) ∙ meant-absent no_weight entry_weight es (length es) n absent (omega arith))
    (ap (λ (xs : Pairs). meaning_in xs n) (sym (whole es)) ∙ meant-absent no_meaning entry_meaning es (length es) n absent (omega arith)))

-- ---- a sound entry keeps the limits of blocks

pub board_block : (es : Pairs) (objects : List Object) → IsSoundBlock es objects → AreOnBoard (block_leaves (meaning_in es) origin objects)
board_block es objects block =
    board_all (object_leaves (meaning_in es) origin) objects
    (All-weaker (λ o. IsSoundItem es (One o)) (λ o. AreOnBoard (object_leaves (meaning_in es) origin o))
    (λ o k. inside_leaves es (One o) (meets es (One o) k).inside) objects block.each)

abbrev IsLight : Facts → Type 0
IsLight f = (f.leaves ≤ 4000000) × (f.depth ≤ 8) × IsBoxOnBoard f.points

light : (es : Pairs) (e : Entry) → IsSoundEntry es e → IsLight (facts_of es e)
light es (Aperture a) h = grind arith
light es (Block objects) h =
    let b : IsSoundBlock es objects = h in
    let means = meaning_in es in
    let leaves = board_all (object_leaves means origin) objects
    (All-weaker (λ o. IsSoundItem es (One o)) (λ o. AreOnBoard (object_leaves means origin o))
    (λ o k. inside_leaves es (One o) (meets es (One o) k).inside) objects b.each) in
    (b.leaves, b.depth, (board_leaves (block_leaves means origin objects)).1 leaves)

pub light_found : (es : Pairs) (fs : List Facts) (i n : ℕ) (e : Entry) (f : Facts) → IsKept es fs → slice_get es i ≡ Some (n, e)
    → f ≡ facts_at es n → (f.leaves ≤ 4000000) × (f.depth ≤ 8) × IsBoxOnBoard f.points
light_found es fs i n e f kept found is =
    subst IsLight
    (sym (is ∙ facts_same (weight_in es n) (entry_weight (weight_in (take i es)) e) (meaning_in es n)
    (entry_meaning (meaning_in (take i es)) e)
    (weight_found es i n e fs kept found) (meaning_found es i n e fs kept found)))
    (light (take i es) e (entry_may es i n e found kept.sound).sound)

-- what a number paints at the origin reaches not far
pub near_found : (es : Pairs) (n : ℕ) (f : Facts) → IsSoundDictionary es → f ≡ facts_at es n → IsBoxOnBoard f.points → IsNearBox f.bounds
near_found es n f sound is board =
    let leaves = (meaning_in es n).flash origin in
    let on_board : AreOnBoard leaves = (board_leaves leaves).0 (subst (λ (x : Facts). IsBoxOnBoard x.points) is board) in
    subst (λ (x : Facts). IsNearBox x.bounds) (sym is)
    (within_near reach (bounds_of leaves) (omega arith) (bounds_within leaves ((meaning_sized es n sound).flash origin) on_board))

-- ---- a dictionary that grows

end_at : (es : Pairs) (k : ℕ) (n : ℕ) (e : Entry) → k < length (es ++ (n, e) ∷ []) → length es ≤ k → k ≡ length es
end_at es k n e within past = omega (arith, length-append es ((n, e) ∷ []))

pub sound_grows : (es : Pairs) (n : ℕ) (e : Entry) → IsSoundDictionary es → MayAddEntry es n e → IsSoundDictionary (es ++ (n, e) ∷ [])
sound_grows es n e sound may k d within =
    let es' = es ++ (n, e) ∷ [] in
    elim (cases_lt k (length es)) [
      | inl low ↦
          let front : take k es' ≡ take k es = take-append-le k es ((n, e) ∷ []) (omega arith) in
          let item : get_or es' k d ≡ get_or es k d = get_or_append_left es ((n, e) ∷ []) d k low in
          subst (λ (p : Pairs × (ℕ × Entry)). MayAddEntry p.0 p.1.0 p.1.1)
          (sym (ap (λ xs. (xs, get_or es' k d)) front ∙ ap (λ x. (take k es, x)) item)) (sound k d low)
      | inr past ↦
          let last = end_at es k n e within past in
          let front : take k es' ≡ es = ap (λ j. take j es') last ∙ take-append-le (length es) es ((n, e) ∷ []) (omega arith) ∙ whole es in
          let item : get_or es' k d ≡ (n, e) = ap (λ j. get_or es' j d) last ∙ get_or-append_seam es (n, e) [] d in
          subst (λ (p : Pairs × (ℕ × Entry)). MayAddEntry p.0 p.1.0 p.1.1)
          (sym (ap (λ xs. (xs, get_or es' k d)) front ∙ ap (λ x. (es, x)) item)) may
    ]

pub facts_grow : (es : Pairs) (fs : List Facts) (n : ℕ) (e : Entry) (f : Facts) → AreFactsOf es fs → f ≡ facts_of es e
    → AreFactsOf (es ++ (n, e) ∷ []) (fs ++ f ∷ [])
facts_grow es fs n e f are is = record {
  many = length-append fs (f ∷ []) ∙ ap (λ k. k + 1) are.many ∙ sym (length-append es ((n, e) ∷ []));
  each = λ k d within.
      let es' = es ++ (n, e) ∷ [] in
      elim (cases_lt k (length es)) [
        | inl low ↦
            let front : take k es' ≡ take k es = take-append-le k es ((n, e) ∷ []) (omega arith) in
            let item : get_or es' k d ≡ get_or es k d = get_or_append_left es ((n, e) ∷ []) d k low in
            let kept : k < length fs = omega (arith, are.many) in
            slice_get-get_or (fs ++ f ∷ []) k f (omega (arith, length-append fs (f ∷ [])))
            ∙ ap Some (get_or_append_left fs (f ∷ []) f k kept) ∙ sym (slice_get-get_or fs k f kept) ∙ are.each k d low
            ∙ ap (λ (p : Pairs × (ℕ × Entry)). Some (facts_of p.0 p.1.1))
            (sym (ap (λ xs. (xs, get_or es' k d)) front ∙ ap (λ x. (take k es, x)) item))
        | inr past ↦
            let last = end_at es k n e within past in
            let front : take k es' ≡ es = ap (λ j. take j es') last ∙ take-append-le (length es) es ((n, e) ∷ []) (omega arith)
            ∙ whole es in
            let item : get_or es' k d ≡ (n, e) = ap (λ j. get_or es' j d) last ∙ get_or-append_seam es (n, e) [] d in
            let at : k ≡ length fs = last ∙ sym are.many in
            slice_get-get_or (fs ++ f ∷ []) k f (omega (arith, length-append fs (f ∷ [])))
            ∙ ap (λ j. Some (get_or (fs ++ f ∷ []) j f)) at ∙ ap Some (get_or-append_seam fs f [] f) ∙ ap Some is
            ∙ ap (λ (p : Pairs × (ℕ × Entry)). Some (facts_of p.0 p.1.1))
            (sym (ap (λ xs. (xs, get_or es' k d)) front ∙ ap (λ x. (es, x)) item))
      ];
}

pub kept_grows : (es : Pairs) (fs : List Facts) (n : ℕ) (e : Entry) (f : Facts) → IsKept es fs → MayAddEntry es n e → f ≡ facts_of es e
    → IsKept (es ++ (n, e) ∷ []) (fs ++ f ∷ [])
kept_grows es fs n e f kept may is = search (rules, sound_grows, keys_distinct, facts_grow)

-- ---- a block by its parts

pub block_facts : (es : Pairs) (entry : Entry) (objects slice : List Object) (leaves depth : ℕ) (points bounds : Bounds)
    → entry ≡ Block objects → slice ≡ objects → leaves ≡ block_count (weight_in es) slice → depth ≡ block_depth (weight_in es) slice
    → points ≡ points_bounds_of (block_leaves (meaning_in es) origin slice) → bounds ≡ bounds_of (block_leaves (meaning_in es) origin slice)
    → record { leaves = leaves; depth = depth; points = points; bounds = bounds } ≡ facts_of es entry
block_facts es entry objects slice leaves depth points bounds is same e f g h = grind arith
