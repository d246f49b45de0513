-- lists of leaves that are painted on a swath, from the last one on
use Rattle.std.proofs.Common.{◌≡◌, ℕ, ◌+◌, ◌/◌, ◌<◌, ℤ, ◌≤ℤ◌, List, [], ◌∷◌, ◌++◌, length, get_or, take, drop}
use Rattle.std.proofs.Common.{reverse, refl, sym, ap, subst, ◌∙◌, arith}
use Rattle.std.specs.List.{flat_map}
use Rattle.std.specs.Option.{option_or}
use Rattle.std.proofs.lemmas.Int.{ints}
use Rattle.std.proofs.lemmas.List.{reverse-append, take-append-drop, take_more}
use Rattle.std.proofs.lemmas.List.Concat.{flat_map-append}
use Rattle.cam_units.specs.Boxes.{Holds}
use Rattle.cam_units.specs.declared.bounds.Bounds.{Bounds}
use Rattle.cam_units.specs.declared.bounds.Bounds.TheVariants.{Closed}
use Rattle.cam_units.specs.declared.point.Spot.{Spot}
use Rattle.cam_objects.specs.Bounds.{bounds_of}
use Rattle.cam_objects.specs.Canvases.{IsDecidedIn}
use Rattle.cam_objects.specs.Leaves.{Leaf}
use Rattle.cam_objects.specs.Tests.{last_ink}
use Rattle.cam_objects.proofs.Canvases.{paints_beneath, paints_decided, paints_nothing, paints_off}
use Rattle.cam_objects.proofs.CoveredBoxes.{inside_box, outside_box}
use Rattle.cam_objects.proofs.LastInks.{or_decided}
use Rattle.cam_tiles.specs.declared.index.Boxed.{Boxed}
use Rattle.cam_tiles.specs.declared.index.seen.Seen.{Seen}
use Rattle.cam_tiles.specs.declared.levels.Levels.{Levels}
use Rattle.cam_tiles.specs.declared.window.Window.{Window}
use Rattle.cam_tiles.specs.Machinery.Indexes.{AreSeenBy, IsBoxed, IsOnLevels, IsSeen, PaintAlike, all_from, last_leaves}
use Rattle.cam_tiles.specs.Machinery.Indexes.{leaves_in}
use Rattle.cam_tiles.specs.Machinery.Levels.{levels_of}
use Rattle.cam_tiles.specs.Machinery.Swaths.{HasRowOf, IsDoneSwath, IsInSwath, PaintsSwath, Swathed, ink_in, place_in}
use Rattle.cam_tiles.specs.Tiles.{across, centre_in, grid_of}
use Rattle.cam_tiles.proofs.Indexed.{at, corners_held, leaves_more}

-- leaves beneath those that were painted
painted_beneath : (u v w : Swathed) (a b : List Leaf) → PaintsSwath u b v → PaintsSwath v a w → PaintsSwath u (a ++ b) w
painted_beneath = paints_beneath IsInSwath place_in ink_in

-- once all is decided, no leaf changes anything
done_beneath : (u v : Swathed) (a b : List Leaf) → PaintsSwath u b v → IsDoneSwath v → PaintsSwath u (a ++ b) v
done_beneath u v a b h done =
    painted_beneath u v v a b h (record {
      pixels = λ column row. (λ there. there, λ there. there);
      places = refl;
      inks = λ column row there.
          sym (or_decided (ink_in v column row) (last_ink a (place_in v column row)) (done column row there));
    })

-- leaves that paint alike at all places
painted_alike : (IsSeen : Spot → Type 0) (old new : Swathed) (a b : List Leaf) → PaintAlike IsSeen a b
    → ((column row : ℕ) → IsInSwath old column row → IsSeen (place_in old column row))
    → PaintsSwath old a new → PaintsSwath old b new
painted_alike IsSeen old new a b alike seen h = record {
  pixels = h.pixels;
  places = h.places;
  inks = λ column row there.
      h.inks column row there
      ∙ ap (option_or (ink_in old column row)) (alike (place_in old column row) (seen column row there));
}

-- each place of a swath lies in its rows
on_levels : (levels : Levels) (s : Swathed) → levels_of s.grid ≡ levels → (column row : ℕ) → IsInSwath s column row
    → IsOnLevels levels (place_in s column row)
on_levels levels s same column row there =
    subst (λ (l : Levels). IsOnLevels l (centre_in s.grid column row)) same (row, (there.1, refl))

-- so it is seen where its box lies in another
pub seen_there : (w : Window) (within box : Bounds) (low high : Spot) (tile wide : ℕ) (s : Swathed) → box ≡ Closed low high
    → Holds within low → Holds within high → ((column row : ℕ) → IsInSwath s column row → Holds box (place_in s column row))
    → HasRowOf w tile s → wide ≡ across w → (column row : ℕ) → IsInSwath s column row
    → IsSeen w within (tile / wide) (place_in s column row)
seen_there w within box low high tile wide s is least greatest held rows wide_is column row there =
    subst (λ n. IsSeen w within (tile / n) (place_in s column row)) (sym wide_is) (
      corners_held within box low high is least greatest (place_in s column row) (held column row there),
      on_levels (levels_of (grid_of w tile)) s rows column row there,
    )

-- a swath whose centres lie between two places across, and an item whose box has no place there
module _ (lists : List (List Leaf)) (b : Boxed) (left right : ℤ) (old now : Swathed) (leaves : List Leaf)
    (h : PaintsSwath old leaves now) where
  pub beside_painted : IsBoxed lists b
      → ((column row : ℕ) → IsInSwath old column row
      → (left ≤ℤ (place_in old column row).x) × ((place_in old column row).x ≤ℤ right))
      → ((b.low.x ≤ℤ right) × (left ≤ℤ b.high.x) → ⊥) → PaintsSwath now (at lists b.place) now
  beside_painted boxes between apart =
      paints_off IsInSwath place_in ink_in now (at lists b.place) (λ column row there.
      let place : place_in now column row ≡ place_in old column row =
      ap (λ (place : ℕ → ℕ → Spot). place column row) h.places in
      let inside = between column row ((h.pixels column row).0 there) in
      outside_box (at lists b.place) (place_in now column row)
      (λ found.
      let corners = boxes.corners (place_in old column row)
      (subst (λ (s : Spot). Holds (bounds_of (at lists b.place)) s) place found) in
      apart (omega (arith, ints, corners.left, inside.1), omega (arith, ints, corners.right, inside.0))))

-- and an item of whose box all is decided
pub decided_painted : (lists : List (List Leaf)) (b : Boxed) (now : Swathed) → IsBoxed lists b
    → IsDecidedIn IsInSwath place_in ink_in now (Closed b.low b.high) → PaintsSwath now (at lists b.place) now
decided_painted lists b now boxes decided =
    paints_decided IsInSwath place_in ink_in now (at lists b.place) (Closed b.low b.high)
    (λ s any. boxes.corners s (inside_box (at lists b.place) s any)) decided

-- ---- the leaves of elements that come from the last on

module _ {X : Type 0} (f : X → List Leaf) (xs : List X) where
  pub none_painted : (s : Swathed) → PaintsSwath s (flat_map f (reverse (take 0 xs))) s
  none_painted s = paints_nothing IsInSwath place_in ink_in s

  pub next_painted : (n : ℕ) (x : X) (u v w : Swathed) → n < length xs → get_or xs n x ≡ x
      → PaintsSwath u (flat_map f (reverse (take n xs))) v → PaintsSwath v (f x) w
      → PaintsSwath u (flat_map f (reverse (take (n + 1) xs))) w
  next_painted n x u v w within is before here =
      subst (λ ls. PaintsSwath u ls w)
      (sym (ap (λ those. flat_map f (reverse those))
      (take_more xs n x within ∙ ap (λ last. take n xs ++ last ∷ []) is) ∙ leaves_more f x (take n xs)))
      (painted_beneath u v w (f x) (flat_map f (reverse (take n xs))) before here)

  -- once all is decided, those of the elements behind
  pub done_painted : (n : ℕ) (u v : Swathed) → PaintsSwath u (flat_map f (reverse (take n xs))) v → IsDoneSwath v
      → PaintsSwath u (flat_map f (reverse xs)) v
  done_painted n u v h done =
      subst (λ ls. PaintsSwath u ls v)
      (sym (ap (λ those. flat_map f (reverse those)) (sym (take-append-drop n xs))
      ∙ ap (flat_map f) (reverse-append (take n xs) (drop n xs))
      ∙ flat_map-append f (reverse (drop n xs)) (reverse (take n xs))))
      (done_beneath u v (flat_map f (reverse (drop n xs))) (flat_map f (reverse (take n xs))) h done)

-- ---- the items that were looked at

module _ (lists : List (List Leaf)) (w : Window) (seen : Seen) (is : AreSeenBy lists w seen) (row : ℕ) (old now : Swathed)
    (there : (column r : ℕ) → IsInSwath old column r → IsSeen w seen.within row (place_in old column r)) where
  late : PaintsSwath old (last_leaves lists row seen.boxed.items) now → PaintsSwath old (all_from lists seen.left) now
  late h =
      painted_alike (IsSeen w seen.within row) old now (last_leaves lists row seen.boxed.items) (all_from lists seen.left)
      (is.enough row) there h

  -- once all were looked at, all items are painted
  pub all_found : seen.left ≡ 0 → PaintsSwath old (last_leaves lists row seen.boxed.items) now
      → PaintsSwath old (flat_map (λ those. those) lists) now
  all_found whole h = subst (λ k. PaintsSwath old (all_from lists k) now) whole (late h)

  -- and once all is decided, too
  pub all_decided : (n : ℕ) → PaintsSwath old (last_leaves lists row (take n seen.boxed.items)) now → IsDoneSwath now
      → PaintsSwath old (flat_map (λ those. those) lists) now
  all_decided n h done =
      let none : List Leaf → List Leaf = λ those. those in
      subst (λ ls. PaintsSwath old ls now)
      (sym (flat_map-append none (take seen.left lists) (drop seen.left lists))
      ∙ ap (flat_map none) (take-append-drop seen.left lists))
      (done_beneath old now (flat_map none (take seen.left lists)) (all_from lists seen.left)
      (late (done_painted (leaves_in lists row) seen.boxed.items n old now h done)) done)
