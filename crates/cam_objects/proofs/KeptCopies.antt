-- what is known of repeats stays so as items come to the list, leave it and change
use Rattle.std.proofs.Common.{◌≡◌, ℕ, ◌+◌, ◌-◌, ◌^◌, ◌<◌, ◌≤◌, nat_eq, nat_le, nat_lt, if◌then◌else◌, min, not, Equal, List, length}
use Rattle.std.proofs.Common.{filter, get_or, insert, map, remove, slice_get, slice_set, Some, ap, subst, ◌∙◌, arith, inl, inr}
use Rattle.std.specs.Ordering.{nat_cmp}
use Rattle.std.proofs.lemmas.Bool.{cases_eq, cases_lt, cond_both, eqb-false, leb-false, leb-true, ltb-false, ltb-true, not-true}
use Rattle.std.proofs.lemmas.Cmp.{ranked}
use Rattle.std.proofs.lemmas.List.{get_or-set_other, get_or-set_same, length-set}
use Rattle.std.proofs.lemmas.List.Edits.{get_or-insert_above, get_or-insert_below, get_or-remove_above, get_or-remove_below}
use Rattle.std.proofs.lemmas.List.Edits.{length-insert, length-remove}
use Rattle.std.proofs.lemmas.List.Elements.{All-filter, All-map, All-weaker, filter_passes}
use Rattle.std.proofs.lemmas.Option.{get_or_from_slice_get, slice_get-get_or, slice_get_within}
use Rattle.cam_objects.specs.declared.entry.Entry.{Entry}
use Rattle.cam_objects.specs.declared.item.Item.{Item}
use Rattle.cam_objects.specs.Cells.{AreFirstCopiesOf, FirstCopied, IsFirstCopyOf}
use Rattle.cam_objects.specs.Machinery.FirstCopies.{once_come, once_gone}

-- ---- places in a list that is edited

module _ {X : Type 0} (xs : List X) (place p : ℕ) (item : X) where
  -- what another list has at a place is at this one in the list, where both have the same there
  same : (ys : List X) (k : ℕ) → p < length xs → get_or ys k item ≡ get_or xs p item → slice_get ys k ≡ Some item
      → slice_get xs p ≡ Some item
  same ys k within is at = grind (arith, slice_get-get_or, get_or_from_slice_get)

  got_inserted : (x : X) → place ≤ length xs → length xs + 1 < 2 ^ 64
      → slice_get (insert xs place x) (if nat_le place p then min (p + 1) (2 ^ 64 - 1) else p) ≡ Some item
      → slice_get xs p ≡ Some item
  got_inserted x within few =
      let all = length-insert xs place x within in
      cond_both (nat_le place p) (min (p + 1) (2 ^ 64 - 1)) p
      (λ k. slice_get (insert xs place x) k ≡ Some item → slice_get xs p ≡ Some item)
      (λ e at.
      let after : place ≤ p = leb-true place p e in
      let here = slice_get_within (insert xs place x) (min (p + 1) (2 ^ 64 - 1)) item at in
      let next : min (p + 1) (2 ^ 64 - 1) ≡ p + 1 = omega (arith, here, all, few) in
      same (insert xs place x) (p + 1) (omega (arith, here, next, all)) (get_or-insert_above xs place x item p after within)
      (subst (λ k. slice_get (insert xs place x) k ≡ Some item) next at))
      (λ e at.
      let before : p < place = leb-false place p e in
      same (insert xs place x) p (omega (arith, before, within)) (get_or-insert_below xs place x item p before within) at)

  got_removed : place < length xs → (p ≡ place → ⊥)
      → slice_get (remove xs place) (if nat_lt place p then p - 1 else p) ≡ Some item
      → slice_get xs p ≡ Some item
  got_removed within other =
      let all = length-remove xs place within in
      cond_both (nat_lt place p) (p - 1) p
      (λ k. slice_get (remove xs place) k ≡ Some item → slice_get xs p ≡ Some item)
      (λ e at.
      let after : place < p = ltb-true place p e in
      let here = slice_get_within (remove xs place) (p - 1) item at in
      let next : (p - 1) + 1 ≡ p = omega (arith, after) in
      same (remove xs place) (p - 1) (omega (arith, here, next, all))
      (get_or-remove_above xs place item (p - 1) (omega (arith, after)) within ∙ ap (λ k. get_or xs k item) next) at)
      (λ e at.
      let until : p ≤ place = ltb-false place p e in
      let before : p < place = omega (arith, until, other) in
      same (remove xs place) p (omega (arith, before, within)) (get_or-remove_below xs place item p before within) at)

-- ---- first copies

module _ (entries : List (ℕ × Entry)) where
  abbrev Known : List Item → FirstCopied → Type 0
  Known items first = (item : Item) → slice_get items first.place ≡ Some item → IsFirstCopyOf entries item first

  -- it is so wherever the repeat stands
  elsewhere : (item : Item) (first : FirstCopied) (k : ℕ) → IsFirstCopyOf entries item first
      → IsFirstCopyOf entries item (record { place = k; bounds = first.bounds; reaches = first.reaches })
  elsewhere item first k known = grind arith

  -- the one whose place is asked is that of the item there
  pub found_at : (items : List Item) (copies : List FirstCopied) (at place : ℕ) (first : FirstCopied) (item : Item)
      → AreFirstCopiesOf entries items copies → at < length copies → first ≡ get_or copies at first
      → nat_cmp (get_or copies at first).place place ≡ Equal → slice_get items place ≡ Some item → IsFirstCopyOf entries item first
  found_at items copies at place first item known within here equal listed = grind (arith, ranked)

  module _ (before : List Item) (copies : List FirstCopied) (known : AreFirstCopiesOf entries before copies) (place : ℕ) where
    pub item_came : (x : Item) → place ≤ length before → length before + 1 < 2 ^ 64
        → AreFirstCopiesOf entries (insert before place x) (map (once_come place) copies)
    item_came x within few =
        All-map (Known (insert before place x)) (once_come place) copies
        (All-weaker (Known before) (λ first. Known (insert before place x) (once_come place first))
        (λ first here item at.
        elsewhere item first _ (here item (got_inserted before place first.place item x within few at))) copies known)

    pub item_went : place < length before
        → AreFirstCopiesOf entries (remove before place) (map (once_gone place) (filter (λ first. not (nat_eq first.place place)) copies))
    item_went within =
        let test = λ (first : FirstCopied). not (nat_eq first.place place) in
        let kept = All-filter test (Known before) copies known in
        let other = filter_passes test copies in
        All-map (Known (remove before place)) (once_gone place) (filter test copies)
        (λ k d h item at.
        let first = get_or (filter test copies) k d in
        elsewhere item first _
        (kept k d h item (got_removed before place first.place item within (eqb-false _ _ (not-true _ (other k d h))) at)))

-- ---- first copies that are read anew

module _ (entries : List (ℕ × Entry)) (before items : List Item) where
  -- as far as a place they are of the items as they are now
  pub record AreRenewedUntil (n : ℕ) (copies : List FirstCopied) : Type 0 where
    pub until : (k : ℕ) (d : FirstCopied) → k < n → k < length copies → Known entries items (get_or copies k d)
    pub from : (k : ℕ) (d : FirstCopied) → n ≤ k → k < length copies → Known entries before (get_or copies k d)

  -- the other items are what they were
  item_beside : (place p : ℕ) (x item : Item) → place < length before → items ≡ insert (remove before place) place x
      → (p ≡ place → ⊥) → slice_get items p ≡ Some item → slice_get before p ≡ Some item
  item_beside place p x item within is other at =
      let rest = remove before place in
      let fewer = length-remove before place within in
      let fits : place ≤ length rest = omega (arith, fewer, within) in
      let all : length items ≡ length before = omega (arith, ap length is, length-insert rest place x fits, fewer) in
      let here = slice_get_within items p item at in
      same before place p item items p (omega (arith, here, all))
      (ap (λ is. get_or is p item) is
      ∙ elim (cases_lt p place) [
        | inl low ↦ get_or-insert_below rest place x item p low fits ∙ get_or-remove_below before place item p low within
        | inr high ↦
            (let j = p - 1 in
            let e : j + 1 ≡ p = omega (arith, high, other) in
            let after : place ≤ j = omega (arith, high, other) in
            subst (λ k. get_or (insert rest place x) k item ≡ get_or before k item) e
            (get_or-insert_above rest place x item j after fits ∙ get_or-remove_above before place item j after within))
      ]) at

  module _ (place : ℕ) (copies : List FirstCopied) (n : ℕ) (was : AreRenewedUntil n copies) (d new : FirstCopied) where
    pub one_renewed : (x : Item) → place < length before → items ≡ insert (remove before place) place x → n < length copies
        → ((item : Item) → (get_or copies n d).place ≡ place → slice_get items place ≡ Some item → IsFirstCopyOf entries item new)
        → (((get_or copies n d).place ≡ place → ⊥) → new ≡ get_or copies n d) → new.place ≡ (get_or copies n d).place
        → AreRenewedUntil (n + 1) (slice_set copies n new)
    one_renewed x within is listed there elsewhere kept =
        grind (arith, cases_eq, elsewhere, item_beside, length-set, get_or-set_same, get_or-set_other)

  pub none_renewed : (copies : List FirstCopied) → AreFirstCopiesOf entries before copies → AreRenewedUntil 0 copies
  none_renewed copies known = grind arith

  pub all_renewed : (copies : List FirstCopied) (n : ℕ) → length copies ≤ n → AreRenewedUntil n copies
      → AreFirstCopiesOf entries items copies
  all_renewed copies n whole was = λ k d held. was.until k d (omega (arith, held, whole)) held
