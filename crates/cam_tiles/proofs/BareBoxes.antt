-- Boxes that differ in the numbers of their contours alone.
use Rattle.std.proofs.Common.{◌≡◌, ℕ, ◌≤◌, List, [], ◌∷◌, ◌++◌, length, get_or, map, refl, sym, ap, subst, ◌∙◌, arith}
use Rattle.std.specs.List.{All}
use Rattle.std.proofs.Math.ListN.{get_or-map}
use Rattle.std.proofs.lemmas.List.{length-map}
use Rattle.cam_units.specs.declared.bounds.Bounds.{Bounds}
use Rattle.cam_objects.specs.Leaves.{Leaf}
use Rattle.cam_tiles.specs.declared.index.Boxed.{Boxed}
use Rattle.cam_tiles.specs.Machinery.Indexes.{AreSeenFrom, IsBoxed, IsSeen, PaintAlike, all_from, last_leaves, leaves_in}
use Rattle.cam_tiles.specs.declared.window.Window.{Window}
use Rattle.cam_tiles.specs.Machinery.Parts.{bare}
use Rattle.cam_tiles.specs.Tiles.{tiles_down}
use Rattle.cam_tiles.proofs.Indexed.{leaves_first}

bare_leaves : (lists : List (List Leaf)) (row : ℕ) (boxed : List Boxed)
    → last_leaves lists row (map bare boxed) ≡ last_leaves lists row boxed
bare_leaves lists row [] = refl
bare_leaves lists row (b ∷ boxed) =
    leaves_first (leaves_in lists row) (bare b) (map bare boxed)
    ∙ ap (λ those. those ++ leaves_in lists row b) (bare_leaves lists row boxed)
    ∙ sym (leaves_first (leaves_in lists row) b boxed)

module _ (xs ys : List Boxed) (alike : map bare xs ≡ map bare ys) where
  same_length : length xs ≡ length ys
  same_length = sym (length-map xs bare) ∙ ap length alike ∙ length-map ys bare

  bare_at : (k : ℕ) (d : Boxed) → bare (get_or ys k d) ≡ bare (get_or xs k d)
  bare_at k d =
      sym (get_or-map bare ys k d) ∙ ap (λ (those : List Boxed). get_or those k (bare d)) (sym alike) ∙ get_or-map bare xs k d

  -- what is so of a box is so of it without its contour, and the other way round
  kept_all : (P : Boxed → Type 0) → ((b : Boxed) → P b → P (bare b)) → ((b : Boxed) → P (bare b) → P b) → All P ys → All P xs
  kept_all P to from all k d within =
      from (get_or xs k d) (subst P (bare_at k d) (to (get_or ys k d) (all k d (omega (arith, within, same_length)))))

  pub kept_boxed : (lists : List (List Leaf)) → All (IsBoxed lists) ys → All (IsBoxed lists) xs
  kept_boxed lists =
      kept_all (IsBoxed lists) (λ b h. record { within = h.within; corners = h.corners })
      (λ b h. record { within = h.within; corners = h.corners })

  -- they are as good for what is seen
  pub kept_seen : (lists : List (List Leaf)) (w : Window) (within : Bounds) (n : ℕ) → AreSeenFrom lists w within n ys
      → AreSeenFrom lists w within n xs
  kept_seen lists w within n seen = record {
    each = kept_boxed lists seen.each;
    ends = kept_all (λ b. b.rows.end ≤ tiles_down w) (λ b h. h) (λ b h. h) seen.ends;
    enough = λ row.
        let leaves = sym (bare_leaves lists row ys) ∙ ap (λ (those : List Boxed). last_leaves lists row those) (sym alike)
        ∙ bare_leaves lists row xs in
        subst (λ (those : List Leaf). PaintAlike (IsSeen w within row) those (all_from lists n)) leaves (seen.enough row);
    few = omega (arith, seen.few, same_length);
  }
