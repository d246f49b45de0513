-- the cells that items reach, read and followed
use Rattle.std.proofs.Common.{◌≡◌, ℕ, ◌+◌, ◌-◌, ◌<◌, ◌≤◌, ◌⊎◌, ℤ, ◌≤ℤ◌, inl, inr, List, [], ◌∷◌, ◌++◌, length, get_or}
use Rattle.std.proofs.Common.{slice_get, slice_set, take, insert, remove, Some, refl, sym, ap, subst, ◌∙◌, arith}
use Rattle.std.proofs.lemmas.Bool.{cases_eq, cases_lt}
use Rattle.std.proofs.lemmas.Int.{ints}
use Rattle.std.proofs.lemmas.List.{get_or-set_same, get_or-set_other, get_or-take, get_or_append_left}
use Rattle.std.proofs.lemmas.List.{length-append, length-set, length-take, take_more}
use Rattle.std.proofs.lemmas.List.Edits.{get_or-insert_above, get_or-insert_at, get_or-insert_below, get_or-remove_above}
use Rattle.std.proofs.lemmas.List.Edits.{get_or-remove_below, length-insert, length-remove}
use Rattle.std.proofs.lemmas.Option.{get_or_from_slice_get}
use Rattle.std.proofs.Math.Seq.{get_or-append_seam, set-append_seam}
use Rattle.cam_units.specs.Boxes.{HaveCommonPlace}
use Rattle.cam_units.specs.declared.bounds.Bounds.{Bounds}
use Rattle.cam_units.specs.declared.bounds.Bounds.TheVariants.{Empty}
use Rattle.cam_units.specs.declared.point.Spot.{Spot}
use Rattle.cam_objects.specs.declared.cells.reach.Reach.{Reach}
use Rattle.cam_objects.specs.declared.item.Item.{Item}
use Rattle.cam_objects.specs.declared.item.Item.TheVariants.{One}
use Rattle.cam_objects.specs.declared.object.Object.{Object}
use Rattle.cam_objects.specs.declared.layer.Layer.{Layer}
use Rattle.cam_objects.specs.declared.cells.sides.Sides.{Sides}
use Rattle.cam_objects.specs.Bounds.{bounds_of}
use Rattle.cam_objects.specs.Leaves.{item_leaves, meaning_in}
use Rattle.cam_objects.specs.Cells.{AreBeside, AreCellsOf, IsCell, IsReachOf, IsSide, Reaches, bottom_of, box_at, left_of, right_of, top_of}
use Rattle.cam_objects.specs.Machinery.Painting.{StandsOnBoard}
use Rattle.cam_objects.specs.Soundness.{HasSoundItems}
use Rattle.cam_objects.proofs.SoundItems.{meets}
use Rattle.cam_objects.specs.Machinery.Sides.{AreSidesOf, HasSides, MeetsAt}

-- the item read is that of the layer shown
pub read_box : (layer shown : Layer) (place : ℕ) (x item : Item) (b : Bounds) → layer ≡ shown
    → x ≡ get_or layer.items.items place x → slice_get shown.items.items place ≡ Some item
    → b ≡ bounds_of (item_leaves (meaning_in layer.apertures) x)
    → b ≡ bounds_of (item_leaves (meaning_in shown.apertures) item)
read_box layer shown place x item b is here at box = grind (arith, get_or_from_slice_get)

-- the points of an object that is listed lie on the board
pub listed_stands : (layer shown : Layer) (place : ℕ) (x : Item) (o : Object) → HasSoundItems layer → layer ≡ shown
    → place < length shown.items.items → x ≡ get_or layer.items.items place x → x ≡ One o → StandsOnBoard o
listed_stands layer shown place x o sound is within here one = grind (arith, meets)

-- ---- cells

-- a place that does not lie before another is in no earlier cell
cells_in_order : (x y : ℤ) (a b : ℕ) → IsCell x a → IsCell y b → x ≤ℤ y → a ≤ b
cells_in_order x y a b here there h = grind (arith, cases_lt, ints)

-- cells of a box that has a place in common with another
pub common_cell : (b n : Bounds) (l o r t : ℕ) (s : Reach) → IsSide left_of b l → IsSide bottom_of b o → IsSide right_of b r
    → IsSide top_of b t → IsReachOf n s → HaveCommonPlace b n
    → (l ≤ s.right) × (s.left ≤ r) × (o ≤ s.top) × (s.bottom ≤ t)
common_cell b n l o r t s left bottom right top near common = grind (arith, cells_in_order, ints)

pub far_item : (boxes : List Bounds) (reaches : Reaches) (sides : Sides) (near : Bounds) (s : Reach) (k : ℕ)
    → AreCellsOf boxes reaches → AreSidesOf reaches sides → HasSides sides (k + 1) → IsReachOf near s → k < length boxes
    → (MeetsAt sides k s → ⊥) → HaveCommonPlace (box_at boxes k) near → ⊥
far_item boxes reaches sides near s k kept same known told listed apart common = grind (arith, common_cell)

-- ---- numbers beside a list that is edited

module _ {X : Type 0} (R : X → ℕ → Type 0) (d : X) where
  -- one more of which any number will do
  beside_more : (xs : List X) (ys : List ℕ) → ((v : ℕ) → R d v) → AreBeside R d xs ys → AreBeside R d (xs ++ d ∷ []) ys
  beside_more xs ys any kept = record {
    each = λ k listed known.
        let Held = λ (x : X). R x (get_or ys k 0) in
        elim (cases_lt k (length xs)) [
          | inl below ↦ subst Held (sym (get_or_append_left xs (d ∷ []) d k below)) (kept.each k below known)
          | inr past ↦
              (let last : k ≡ length xs = omega (arith, past, listed, length-append xs (d ∷ [])) in
              subst Held (sym (ap (λ j. get_or (xs ++ d ∷ []) j d) last ∙ get_or-append_seam xs d [] d)) (any (get_or ys k 0)))
        ];
  }

  -- the first so many are beside the others
  abbrev pub AreBesideBelow : ℕ → List X → List ℕ → Type 0
  AreBesideBelow n xs ys = (k : ℕ) → k < n → R (get_or xs k d) (get_or ys k 0)

  module _ (xs : List X) (old : List ℕ) (kept : AreBeside R d xs old) where
    beside_whole : (place : ℕ) (x : X) (v : ℕ) → place ≤ length xs → place ≤ length old → R x v
        → AreBeside R d (insert xs place x) (insert old place v)
    beside_whole place x v within room here =
        let Held = λ (k : ℕ). R (get_or (insert xs place x) k d) (get_or (insert old place v) k 0) in
        let held : (k : ℕ) (y : X) (w : ℕ) → get_or (insert xs place x) k d ≡ y → get_or (insert old place v) k 0 ≡ w
        → R y w → Held k =
        λ k y w is is' h.
        subst (λ z. R z (get_or (insert old place v) k 0)) (sym is) (subst (R y) (sym is') h) in
        let all = length-insert xs place x within in
        let all' = length-insert old place v room in
        record {
          each = λ k listed known.
              elim (cases_lt k place) [
                | inl below ↦
                    held k (get_or xs k d) (get_or old k 0) (get_or-insert_below xs place x d k below within)
                    (get_or-insert_below old place v 0 k below room)
                    (kept.each k (omega (arith, below, within)) (omega (arith, below, room)))
                | inr above ↦ elim (cases_eq k place) [
                  | inl e ↦
                      subst Held (sym e)
                      (held place x v (get_or-insert_at xs place x d within) (get_or-insert_at old place v 0 room) here)
                  | inr apart ↦
                      (let j = k - 1 in
                      let e : j + 1 ≡ k = omega (arith, above, apart) in
                      let after : place ≤ j = omega (arith, above, apart) in
                      subst Held e
                      (held (j + 1) (get_or xs j d) (get_or old j 0) (get_or-insert_above xs place x d j after within)
                      (get_or-insert_above old place v 0 j after room)
                      (kept.each j (omega (arith, listed, all, e)) (omega (arith, known, all', e)))))
                ]
              ];
        }

    -- a part from the first on will do
    beside_part : (ys zs : List ℕ) (us : List X) → AreBeside R d us ys → zs ≡ take (length zs) ys → AreBeside R d us zs
    beside_part ys zs us whole part = grind (arith, length-take, get_or-take)

    pub beside_inserted : (place : ℕ) (x : X) (v : ℕ) (new : List ℕ) → place ≤ length xs → R x v
        → (new ≡ take (length new) (insert old place v)) × ((length old < place) → new ≡ old)
        → AreBeside R d (insert xs place x) new
    beside_inserted place x v new within here came =
        elim (cases_lt (length old) place) [
          | inl short ↦
              subst (AreBeside R d (insert xs place x)) (sym (came.1 short))
              (record {
                each = λ k listed known.
                    let below : k < place = omega (arith, known, short) in
                    subst (λ y. R y (get_or old k 0)) (sym (get_or-insert_below xs place x d k below within))
                    (kept.each k (omega (arith, below, within)) known);
              })
          | inr long ↦
              beside_part (insert old place v) new (insert xs place x) (beside_whole place x v within long here) came.0
        ]

    pub beside_removed : (place : ℕ) (new : List ℕ) → place < length xs
        → ((place < length old → new ≡ remove old place) × (length old ≤ place → new ≡ old))
        → AreBeside R d (remove xs place) new
    beside_removed place new within went = grind (arith, cases_lt, length-remove, get_or-remove_below, get_or-remove_above)

    pub beside_set : (place : ℕ) (x : X) (v : ℕ) (new : List ℕ) → place < length xs → R x v → new ≡ slice_set old place v
        → AreBeside R d (slice_set xs place x) new
    beside_set place x v new within here is = grind (arith, cases_eq, length-set, get_or-set_same, get_or-set_other)

  pub beside_carried : (xs : List X) (old : List ℕ) → AreBeside R d xs old → (from to : ℕ) (x : X) (v : ℕ) (new : List ℕ) → from < length xs → to < length xs → R x v
      → (from < length old → to < length old → new ≡ insert (remove old from) to v)
      → ((length old ≤ from) ⊎ (length old ≤ to) → new ≡ take to (take from old))
      → AreBeside R d (insert (remove xs from) to x) new
  beside_carried xs old kept from to x v new h within here came behind =
      let fewer = length-remove xs from h in
      let fits : to ≤ length (remove xs from) = omega (arith, fewer, within) in
      let part : (length old ≤ from) ⊎ (length old ≤ to) → AreBeside R d (insert (remove xs from) to x) new =
      λ short.
      let is = behind short in
      let few : length new ≤ to = omega (arith, ap length is, length-take to (take from old)) in
      let few' : length new ≤ length (take from old) = omega (arith, ap length is, length-take to (take from old)) in
      let few'' : (length new ≤ from) × (length new ≤ length old) =
      (omega (arith, few', length-take from old), omega (arith, few', length-take from old)) in
      record {
        each = λ k listed known.
            let below : k < to = omega (arith, known, few) in
            let below' : k < from = omega (arith, known, few''.0) in
            let read = get_or-insert_below (remove xs from) to x d k below fits ∙ get_or-remove_below xs from d k below' h in
            let read' = ap (λ l. get_or l k 0) is
            ∙ get_or-take to (take from old) k 0 below ∙ get_or-take from old k 0 below' in
            subst (λ y. R y (get_or new k 0)) (sym read)
            (subst (R (get_or xs k d)) (sym read')
            (kept.each k (omega (arith, below', h)) (omega (arith, known, few''.1))));
      } in
      elim (cases_lt from (length old)) [
        | inr short ↦ part (inl short)
        | inl known ↦ elim (cases_lt to (length old)) [
          | inr short ↦ part (inr short)
          | inl known' ↦
              (let gone = beside_removed xs old kept from (remove old from) h (λ listed. refl, λ short. absurd (omega (arith, known, short))) in
              subst (AreBeside R d (insert (remove xs from) to x)) (sym (came known known'))
              (beside_whole (remove xs from) (remove old from) gone to x v fits
              (omega (arith, length-remove old from known, known')) here))
        ]
      ]

-- ---- items that are read one after another

pub none_read : (cells : Reaches) → AreCellsOf [] cells
none_read cells = grind arith

-- any cells are those of an empty box behind the others
pub one_read : (boxes : List Bounds) (place : ℕ) (old new : Reaches) → place < length boxes → AreCellsOf (take place boxes) old
    → ((before : List Bounds) → AreCellsOf before old → place < length before
    → AreCellsOf (slice_set before place (box_at boxes place)) new)
    → AreCellsOf (take (place + 1) boxes) new
one_read boxes place old new within known one =
    let front = take place boxes in
    let full : length front ≡ place = omega (arith, length-take place boxes, within) in
    let side = λ (f : Spot → Spot → ℤ). beside_more (IsSide f) Empty front in
    let more : AreCellsOf (front ++ Empty ∷ []) old =
    record {
      left = side left_of old.left (λ v. tt) known.left;
      bottom = side bottom_of old.bottom (λ v. tt) known.bottom;
      right = side right_of old.right (λ v. tt) known.right;
      top = side top_of old.top (λ v. tt) known.top;
    } in
    let b = box_at boxes place in
    subst (λ (those : List Bounds). AreCellsOf those new)
    (ap (λ k. slice_set (front ++ Empty ∷ []) k b) (sym full) ∙ set-append_seam front Empty [] b
    ∙ sym (take_more boxes place Empty within))
    (one (front ++ Empty ∷ []) more (omega (arith, full, length-append front (Empty ∷ []))))
