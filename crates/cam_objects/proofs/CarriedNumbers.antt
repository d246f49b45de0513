-- numbers that move by one place, since one of them is carried past them
use Rattle.std.proofs.Common.{◌≡◌, ◌∙◌, ℕ, ◌+◌, ◌-◌, ◌<◌, ◌≤◌, inl, inr, List, length, get_or, insert, remove, slice_set}
use Rattle.std.proofs.Common.{subst, sym, arith}
use Rattle.std.specs.List.{CopiedTo, SameBelow, SameFrom}
use Rattle.std.proofs.lemmas.Bool.{cases_eq, cases_lt}
use Rattle.std.proofs.lemmas.Grind.{same_number_lists}
use Rattle.std.proofs.lemmas.List.{get_or-set_other, get_or-set_same, length-set}
use Rattle.std.proofs.lemmas.List.Edits.{get_or-insert_above, get_or-insert_at, get_or-insert_below, get_or-remove_above}
use Rattle.std.proofs.lemmas.List.Edits.{get_or-remove_below, length-insert, length-remove}

module _ (old mid : List ℕ) (from to v : ℕ) (left : from < length old) (within : to < length old)
    (many : length mid ≡ length old) where
  abbrev gone : List ℕ
  gone = remove old from

  fits : to ≤ length gone
  fits = omega (arith, length-remove old from left, within)

  -- a list that is this one at each place but that to which it is carried
  carried : ((k : ℕ) → k < to → get_or mid k 0 ≡ get_or gone k 0)
      → ((k : ℕ) → to ≤ k → get_or mid (k + 1) 0 ≡ get_or gone k 0) → slice_set mid to v ≡ insert gone to v
  carried below above =
      same_number_lists (slice_set mid to v) (insert gone to v)
      (omega (arith, length-set mid to v, many, length-insert gone to v fits, length-remove old from left))
      (λ k listed.
      elim (cases_lt k to) [
        | inl early ↦
            get_or-set_other mid to k v 0 (omega (arith, early)) ∙ below k early
            ∙ sym (get_or-insert_below gone to v 0 k early fits)
        | inr late ↦ elim (cases_eq k to) [
          | inl e ↦
              subst (λ (j : ℕ). get_or (slice_set mid to v) j 0 ≡ get_or (insert gone to v) j 0) (sym e)
              (get_or-set_same mid to v 0 (omega (arith, many, within)) ∙ sym (get_or-insert_at gone to v 0 fits))
          | inr apart ↦
              (let j = k - 1 in
              let next : j + 1 ≡ k = omega (arith, late, apart) in
              let behind : to ≤ j = omega (arith, late, apart) in
              subst (λ (i : ℕ). get_or (slice_set mid to v) i 0 ≡ get_or (insert gone to v) i 0) next
              (get_or-set_other mid to (j + 1) v 0 (omega (arith, behind)) ∙ above j behind
              ∙ sym (get_or-insert_above gone to v 0 j behind fits)))
        ]
      ])

  pub carried_up : from < to → CopiedTo old mid (from + 1) from (to + 1 - (from + 1)) → SameBelow old mid from
      → SameFrom old mid (from + (to + 1 - (from + 1))) → slice_set mid to v ≡ insert gone to v
  carried_up up copied same same' = grind (arith, carried, cases_lt, get_or-remove_below, get_or-remove_above)

  pub carried_down : to ≤ from → CopiedTo old mid to (to + 1) (from - to) → SameBelow old mid (to + 1)
      → SameFrom old mid (to + 1 + (from - to)) → slice_set mid to v ≡ insert gone to v
  carried_down down copied same same' = grind (arith, carried, get_or-remove_below, cases_lt, get_or-remove_above)
