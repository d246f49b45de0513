-- painting by an index: leaves that are seen nowhere may be left out
use Rattle.std.proofs.Common.{◌≡◌, ℕ, zero, suc, ◌+◌, ◌<◌, ◌≤◌, inl, inr, Bool, true, false, cond, ◌-◌, List, [], ◌∷◌, ◌++◌, length}
use Rattle.std.proofs.Common.{get_or, drop, reverse, refl, sym, ap, subst, ◌∙◌, arith}
use Rattle.std.specs.List.{All, flat_map}
use Rattle.std.specs.Option.{option_or}
use Rattle.std.proofs.lemmas.Bool.{cases_Bool, false≢true}
use Rattle.std.proofs.lemmas.Int.{ints}
use Rattle.std.proofs.lemmas.List.{append-nil, drop_more, length-drop, length_push, reverse-append}
use Rattle.std.proofs.lemmas.List.Concat.{flat_map-append}
use Rattle.std.proofs.lemmas.List.Elements.{All-cons, All-nil, All-push}
use Rattle.cam_units.specs.Boxes.{HaveCommonPlace, Holds, IsInBox}
use Rattle.cam_units.specs.declared.bounds.Bounds.{Bounds}
use Rattle.cam_units.specs.declared.bounds.Bounds.TheVariants.{Closed}
use Rattle.cam_units.specs.declared.point.Spot.{Spot}
use Rattle.cam_objects.specs.Bounds.{bounds_of}
use Rattle.cam_objects.specs.Image.{IsUncovered}
use Rattle.cam_objects.specs.Leaves.{Leaf}
use Rattle.cam_objects.specs.Tests.{last_ink}
use Rattle.cam_objects.proofs.CoveredBoxes.{outside_box}
use Rattle.cam_objects.proofs.LastInks.{last_ink-append, or_uncovered}
use Rattle.cam_tiles.specs.declared.index.Boxed.{Boxed}
use Rattle.cam_tiles.specs.declared.window.Window.{Window}
use Rattle.cam_tiles.specs.Machinery.Indexes.{AreSeenFrom, IsBoxOf, IsBoxed, IsSeen, PaintAlike, all_from, last_leaves}
use Rattle.cam_tiles.specs.Machinery.Indexes.{leaves_in, numbered_leaves}
use Rattle.cam_tiles.specs.Machinery.RowLists.{no_box, numbers_from, reaches}
use Rattle.cam_tiles.specs.Tiles.{tiles_down}

-- the leaves at a place of a list of lists
abbrev pub at : List (List Leaf) → ℕ → List Leaf
at lists k = get_or lists k []

-- all of them, one list after another
abbrev joined : List (List Leaf) → List Leaf
joined lists = flat_map (λ those. those) lists

-- ---- leaves that paint alike, at the places that are seen

module _ (Seen : Spot → Type 0) where
  alike_are : (a b c d : List Leaf) → c ≡ a → d ≡ b → PaintAlike Seen a b → PaintAlike Seen c d
  alike_are a b c d e f h s seen = ap (λ those. last_ink those s) e ∙ h s seen ∙ ap (λ those. last_ink those s) (sym f)

  -- the same leaves before them
  alike_before : (a b before : List Leaf) → PaintAlike Seen a b → PaintAlike Seen (before ++ a) (before ++ b)
  alike_before a b before h s seen =
      last_ink-append before a s
      ∙ ap (λ ink. option_or ink (last_ink before s)) (h s seen) ∙ sym (last_ink-append before b s)

  -- leaves that are not seen
  alike_unseen : (a b before : List Leaf) → ((s : Spot) → Seen s → IsUncovered before s)
      → PaintAlike Seen a b → PaintAlike Seen a (before ++ b)
  alike_unseen a b before unseen h s seen =
      h s seen ∙ sym (last_ink-append before b s ∙ or_uncovered (last_ink b s) before s (unseen s seen))

-- ---- the leaves of elements that come from the last on

module _ {X : Type 0} (f : X → List Leaf) (x : X) (xs : List X) where
  -- those of one more stand before the others
  pub leaves_more : flat_map f (reverse (xs ++ x ∷ [])) ≡ f x ++ flat_map f (reverse xs)
  leaves_more = ap (flat_map f) (reverse-append xs (x ∷ []))

  -- and those of the first one after them
  pub leaves_first : flat_map f (reverse (x ∷ xs)) ≡ flat_map f (reverse xs) ++ f x
  leaves_first =
      ap (flat_map f) (reverse-append (x ∷ []) xs) ∙ flat_map-append f (reverse xs) (x ∷ [])
      ∙ ap (λ those. flat_map f (reverse xs) ++ those) (append-nil (f x))

module _ (lists : List (List Leaf)) (w : Window) (within : Bounds) where
  module _ (n : ℕ) (boxed : List Boxed) (so_far : AreSeenFrom lists w within (n + 1) boxed) where
    one_more : n < length lists → all_from lists n ≡ at lists n ++ all_from lists (n + 1)
    one_more here = ap joined (drop_more lists n [] here)

    -- a list that is not seen in a row
    passed : (row : ℕ) → ((s : Spot) → IsSeen w within row s → IsUncovered (at lists n) s)
        → PaintAlike (IsSeen w within row) (last_leaves lists row boxed) (all_from lists n)
    passed row unseen =
        let behind = all_from lists (n + 1) in
        let leaves = last_leaves lists row boxed in
        alike_are (IsSeen w within row) leaves (at lists n ++ behind) leaves _ refl
        (one_more (omega (arith, so_far.few)))
        (alike_unseen (IsSeen w within row) leaves behind (at lists n) unseen (so_far.enough row))

    -- since no place of its box is
    boxed_away : (row : ℕ) → ((s : Spot) → IsSeen w within row s → Holds (bounds_of (at lists n)) s → ⊥)
        → PaintAlike (IsSeen w within row) (last_leaves lists row boxed) (all_from lists n)
    boxed_away row unseen = passed row (λ s seen. outside_box (at lists n) s (unseen s seen))

    -- and one that is listed for it
    entered : (row : ℕ) (b : Boxed) → b.place ≡ n → reaches row b ≡ true
        → PaintAlike (IsSeen w within row) (last_leaves lists row (boxed ++ b ∷ [])) (all_from lists n)
    entered row b place reached =
        let behind = all_from lists (n + 1) in
        let leaves = last_leaves lists row boxed in
        alike_are (IsSeen w within row) (at lists n ++ leaves) (at lists n ++ behind) _ _
        (leaves_more (leaves_in lists row) b boxed
        ∙ ap (λ t. cond t (at lists b.place) [] ++ leaves) reached ∙ ap (λ k. at lists k ++ leaves) place)
        (one_more (omega (arith, so_far.few)))
        (alike_before (IsSeen w within row) leaves behind (at lists n) (so_far.enough row))

    -- a list whose box is kept
    pub next_seen : (more : List Boxed) (b : Boxed) → more ≡ boxed ++ b ∷ [] → b.place ≡ n
        → IsBoxOf w within (bounds_of (at lists n)) b → AreSeenFrom lists w within n more
    next_seen more b is place box =
        subst (AreSeenFrom lists w within n) (sym is)
        (record {
          each = All-push (IsBoxed lists) boxed b so_far.each
              (record {
                within = omega (arith, place, so_far.few);
                corners = subst (λ k. (s : Spot) → Holds (bounds_of (at lists k)) s → IsInBox b.low b.high s) (sym place)
                    box.corners;
              });
          ends = All-push (λ (b : Boxed). b.rows.end ≤ tiles_down w) boxed b so_far.ends box.ends;
          enough = λ row. elim (cases_Bool (reaches row b)) [
            | inl reached ↦ entered row b place reached
            | inr missed ↦
                alike_are (IsSeen w within row) (last_leaves lists row boxed) (all_from lists n) _ _
                (leaves_more (leaves_in lists row) b boxed
                ∙ ap (λ t. cond t (at lists b.place) [] ++ last_leaves lists row boxed) missed)
                refl (boxed_away row (λ s seen held. false≢true (sym missed ∙ box.rows row s seen held)))
          ];
          few = omega (arith, length_push boxed b, so_far.few);
        })

    -- a list that is not seen
    pub next_missed : ((row : ℕ) (s : Spot) → IsSeen w within row s → Holds (bounds_of (at lists n)) s → ⊥)
        → AreSeenFrom lists w within n boxed
    next_missed unseen = record {
      each = so_far.each;
      ends = so_far.ends;
      enough = λ row. boxed_away row (unseen row);
      few = omega (arith, so_far.few);
    }

    -- a list that covers no place of the box
    pub next_uncovered : ((s : Spot) → Holds within s → IsUncovered (at lists n) s) → AreSeenFrom lists w within n boxed
    next_uncovered off = record {
      each = so_far.each;
      ends = so_far.ends;
      enough = λ row. passed row (λ s seen. off s seen.0);
      few = omega (arith, so_far.few);
    }

-- lists that are passed over, back to number m
seen_past : (lists : List (List Leaf)) (w : Window) (within : Bounds) (boxed : List Boxed) (gap n m : ℕ)
    → m + gap ≡ n
    → ((k : ℕ) → m ≤ k → k < n → k < length lists → HaveCommonPlace (bounds_of (at lists k)) within → ⊥)
    → AreSeenFrom lists w within n boxed → AreSeenFrom lists w within m boxed
seen_past lists w within boxed zero n m e far so_far =
    subst (λ k. AreSeenFrom lists w within k boxed) (omega (arith, e)) so_far
seen_past lists w within boxed (suc gap) n m e far so_far =
    let before : ℕ = n - 1 in
    let last : n ≡ before + 1 = omega (arith, e) in
    let here = subst (λ k. AreSeenFrom lists w within k boxed) last so_far in
    seen_past lists w within boxed gap before m (omega (arith, e))
    (λ k low high listed. far k low (omega (arith, high)) listed)
    (next_missed lists w within before boxed here
    (λ row s seen held.
    far before (omega (arith, e)) (omega (arith, last)) (omega (arith, here.few)) (s, (held, seen.0))))

pub seen_back : (lists : List (List Leaf)) (w : Window) (within : Bounds) (boxed : List Boxed) (n m : ℕ) → m ≤ n
    → ((k : ℕ) → m ≤ k → k < n → k < length lists → HaveCommonPlace (bounds_of (at lists k)) within → ⊥)
    → AreSeenFrom lists w within n boxed → AreSeenFrom lists w within m boxed
seen_back lists w within boxed n m low far so_far =
    seen_past lists w within boxed (n - m) n m (omega (arith, low)) far so_far

-- a box that has both corners of another has all its places
pub corners_held : (b box : Bounds) (low high : Spot) → box ≡ Closed low high → Holds b low → Holds b high
    → (s : Spot) → Holds box s → Holds b s
corners_held b box low high is least greatest s held = grind (arith, ints)

-- ---- the numbers that are listed for a row

module _ (lists : List (List Leaf)) (row : ℕ) (boxed : List Boxed) where
  -- the leaves of the box that has a number
  abbrev of_number : ℕ → List Leaf
  of_number k = at lists (get_or boxed k no_box).place

  numbered_from : (number : ℕ) (rest : List Boxed) → drop number boxed ≡ rest
      → numbered_leaves lists boxed (reverse (numbers_from row number rest)) ≡ last_leaves lists row rest
  numbered_from number [] e = refl
  numbered_from number (b ∷ rest) e =
      let here : number < length boxed = omega (arith, ap length e, length-drop number boxed) in
      let both = sym (drop_more boxed number no_box here) ∙ e in
      let read : get_or boxed number no_box ≡ b = cc in
      let after : drop (number + 1) boxed ≡ rest = cc in
      let behind = numbered_from (number + 1) rest after in
      let numbers = numbers_from row (number + 1) rest in
      let leaves = last_leaves lists row rest in
      let first = λ (t : Bool) (is : t ≡ reaches row b).
      ap (λ t. leaves ++ cond t (at lists b.place) []) is ∙ sym (leaves_first (leaves_in lists row) b rest) in
      elim (cases_Bool (reaches row b)) [
        | inl reached ↦
            ap (λ t. numbered_leaves lists boxed (reverse (cond t (number ∷ numbers) numbers))) reached
            ∙ leaves_first of_number number numbers
            ∙ ap (λ (b : Boxed). numbered_leaves lists boxed (reverse numbers) ++ at lists b.place) read
            ∙ ap (λ those. those ++ at lists b.place) behind ∙ first true (sym reached)
        | inr missed ↦
            ap (λ t. numbered_leaves lists boxed (reverse (cond t (number ∷ numbers) numbers))) missed
            ∙ behind ∙ sym (append-nil leaves) ∙ first false (sym missed)
      ]

  pub numbered : numbered_leaves lists boxed (reverse (numbers_from row 0 boxed)) ≡ last_leaves lists row boxed
  numbered = numbered_from 0 boxed refl

pub numbers_below : (row size number : ℕ) (boxed : List Boxed) → number + length boxed ≤ size
    → All (λ k. k < size) (numbers_from row number boxed)
numbers_below row size number [] few = All-nil (λ k. k < size)
numbers_below row size number (b ∷ boxed) few =
    let rest = numbers_below row size (number + 1) boxed (omega (arith, few)) in
    elim (cases_Bool (reaches row b)) [
      | inl reached ↦ rw reached (All-cons (λ k. k < size) number _ (omega (arith, few)) rest)
      | inr missed ↦ rw missed rest
    ]
