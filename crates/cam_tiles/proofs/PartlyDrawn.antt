-- Dirty tiles of which some are drawn: drawing the others is drawing all.
use Rattle.std.proofs.Common.{◌≡◌, ℕ, zero, suc, ◌+◌, ◌-◌, ◌<◌, ◌≤◌, List, [], ◌∷◌, ◌++◌, length, take, drop, get_or, Some, None}
use Rattle.std.proofs.Common.{refl, sym, ap, subst, ◌∙◌, inl, inr, arith, length-append, unwrap_or}
use Rattle.std.proofs.lemmas.Bool.{cases_lt}
use Rattle.std.proofs.lemmas.List.{ext_get_or, get_or-append_right, get_or_append_left, length-take-le}
use borrow.Rule.Slice.PartMut.{mid_of, put_mid, put_same}
use Rattle.cam_tiles.specs.Machinery.Drawn.{IsKeptOrDrawn, IsPartlyDrawn}
use Rattle.cam_tiles.specs.Tables.{Tile, all_drawn_from}
use Rattle.cam_tiles.proofs.TilesInOrder.{length-all_drawn_from}

-- a tile once it is drawn where it was dirty
abbrev drawn : List ℕ → Tile → Tile
drawn rows tile = Some (unwrap_or tile rows)

kept_or_drawn : (rows : List ℕ) (old new : Tile) → new ≡ drawn rows old → IsKeptOrDrawn rows old new
kept_or_drawn rows old new is = grind arith

drawn_alike : (rows : List ℕ) (old new : Tile) → IsKeptOrDrawn rows old new → drawn rows new ≡ drawn rows old
drawn_alike rows old new it = grind arith

kept_or_drawn_again : (rows : List ℕ) (old now new : Tile) → IsKeptOrDrawn rows old now → IsKeptOrDrawn rows now new
    → IsKeptOrDrawn rows old new
kept_or_drawn_again rows old now new it it' = grind arith

module _ (draw : ℕ → List ℕ) where
  get_or-all_drawn_from : (first : ℕ) (tiles : List Tile) (k : ℕ) → k < length tiles
      → get_or (all_drawn_from draw first tiles) k None ≡ drawn (draw (first + k)) (get_or tiles k None)
  get_or-all_drawn_from first [] k within = absurd (omega arith)
  get_or-all_drawn_from first (Some rows ∷ tiles) zero within = refl
  get_or-all_drawn_from first (None ∷ tiles) zero within =
      let here : first ≡ first + 0 = omega arith in ap (λ n. Some (draw n)) here
  get_or-all_drawn_from first (Some rows ∷ tiles) (suc k) within =
      let there : first + 1 + k ≡ first + suc k = omega arith in
      get_or-all_drawn_from (first + 1) tiles k (omega arith) ∙ ap (λ n. drawn (draw n) (get_or tiles k None)) there
  get_or-all_drawn_from first (None ∷ tiles) (suc k) within =
      let there : first + 1 + k ≡ first + suc k = omega arith in
      get_or-all_drawn_from (first + 1) tiles k (omega arith) ∙ ap (λ n. drawn (draw n) (get_or tiles k None)) there

  -- none of them
  pub none_partly_drawn : (first : ℕ) (tiles : List Tile) → IsPartlyDrawn draw first tiles tiles
  none_partly_drawn first tiles = record { size = refl; each = λ k within. inl refl }

  -- all of them
  pub all_partly_drawn : (first : ℕ) (old new : List Tile) → new ≡ all_drawn_from draw first old
      → IsPartlyDrawn draw first old new
  all_partly_drawn first old new is = record {
    size = ap length is ∙ length-all_drawn_from draw first old;
    each = λ k within.
        kept_or_drawn (draw (first + k)) (get_or old k None) (get_or new k None)
        (ap (λ tiles. get_or tiles k None) is ∙ get_or-all_drawn_from first old k within);
  }

  -- some, and then some of the others
  pub drawn_further : (first : ℕ) (old now new : List Tile) → IsPartlyDrawn draw first old now
      → IsPartlyDrawn draw first now new → IsPartlyDrawn draw first old new
  drawn_further first old now new h more = record {
    size = more.size ∙ h.size;
    each = λ k within.
        kept_or_drawn_again (draw (first + k)) (get_or old k None) (get_or now k None) (get_or new k None)
        (h.each k within) (more.each k (omega (arith, within, h.size)));
  }

  pub drawn_in_the_end : (first : ℕ) (old new : List Tile) → IsPartlyDrawn draw first old new
      → all_drawn_from draw first new ≡ all_drawn_from draw first old
  drawn_in_the_end first old new h =
      ext_get_or None (all_drawn_from draw first new) (all_drawn_from draw first old)
      (length-all_drawn_from draw first new ∙ h.size ∙ sym (length-all_drawn_from draw first old))
      (λ k within.
      let there : k < length new = omega (arith, within, length-all_drawn_from draw first new) in
      let was : k < length old = omega (arith, there, h.size) in
      get_or-all_drawn_from first new k there
      ∙ drawn_alike (draw (first + k)) (get_or old k None) (get_or new k None) (h.each k was)
      ∙ sym (get_or-all_drawn_from first old k was))

  -- lists one behind another
  appended : (first next : ℕ) (a b c d : List Tile) → next ≡ first + length a → IsPartlyDrawn draw first a c
      → IsPartlyDrawn draw next b d → IsPartlyDrawn draw first (a ++ b) (c ++ d)
  appended first next a b c d at h more = record {
    size = omega (arith, length-append c d, length-append a b, h.size, more.size);
    each = λ k within. elim (cases_lt k (length a)) [
      | inl before ↦
          rw (get_or_append_left a b None k before, get_or_append_left c d None k (omega (arith, before, h.size)))
          (h.each k before)
      | inr behind ↦
          (let there : next + (k - length a) ≡ first + k = omega (arith, at, behind) in
          rw (get_or-append_right a b (length a) k None refl behind, get_or-append_right c d (length a) k None h.size behind)
          (subst (λ n. IsKeptOrDrawn (draw n) (get_or b (k - length a) None) (get_or d (k - length a) None)) there
          (more.each (k - length a) (omega (arith, within, behind, length-append a b)))))
    ];
  }

  -- some of those between two others
  pub part_partly_drawn : (first start n : ℕ) (tiles part : List Tile) → start ≤ length tiles
      → IsPartlyDrawn draw (first + start) (mid_of start n tiles) part
      → IsPartlyDrawn draw first tiles (put_mid start n tiles part)
  part_partly_drawn first start n tiles part within h =
      let front : List Tile = take start tiles in
      let mid : List Tile = mid_of start n tiles in
      let rest : List Tile = drop n (drop start tiles) in
      subst (λ (old : List Tile). IsPartlyDrawn draw first old (put_mid start n tiles part)) (put_same start n tiles)
      (appended first (first + start) front (mid ++ rest) front (part ++ rest)
      (omega (arith, length-take-le start tiles within)) (none_partly_drawn first front)
      (appended (first + start) (first + start + length mid) mid rest part rest refl h
      (none_partly_drawn (first + start + length mid) rest)))
