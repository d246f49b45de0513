-- What the segments of a contour turn over, one after the other: a mask, or marks in the rows of tiles.
use Rattle.std.proofs.Common.{◌≡◌, ◌↔◌, ◌≤◌, ◌<◌, ℕ, ◌+◌, ◌-◌, pos, Bool, false, if◌then◌else◌, IsTrue, List, [], ◌∷◌, length, map}
use Rattle.std.proofs.Common.{take, drop, get_or, refl, sym, ap, subst, ◌∙◌, arith}
use Rattle.std.proofs.lemmas.Bool.{false≢true}
use Rattle.std.proofs.lemmas.Int.{ints}
use Rattle.std.proofs.lemmas.List.{at_drop_all, at_drop_more, take_all}
use Rattle.cam_units.specs.Board.{IsOnBoard}
use Rattle.cam_units.specs.declared.point.Point.{Point}
use Rattle.cam_units.specs.declared.point.Spot.{Spot}
use Rattle.cam_units.specs.declared.turn.Turn.{Turn}
use Rattle.cam_units.specs.declared.turn.Turn.TheVariants.{R0}
use Rattle.cam_shapes.specs.declared.segments.Seg.{Seg}
use Rattle.cam_shapes.specs.declared.segments.Seg.TheVariants.{Line}
use Rattle.cam_shapes.specs.declared.contour.Contour.{Contour}
use Rattle.cam_shapes.specs.Edge.{crosses_ray, edge}
use Rattle.cam_shapes.specs.Contour.{IsInContour, IsSoundSeg, end_of}
use Rattle.cam_shapes.specs.Outline.{lines_to, outline_of}
use Rattle.cam_shapes.specs.Placing.{placed_contour, placed_point, placed_seg}
use Rattle.cam_shapes.specs.Sides.{change_side, changes_side, differ}
use Rattle.cam_shapes.proofs.Parity.{sides_are_parity}

pub differ_false : (b : Bool) → b ≡ differ b false
differ_false b = grind arith

cancelled : (change next all : Bool) → differ (differ (differ change next) all) change ≡ differ next all
cancelled change next all = grind (arith, differ_false)

pub differ_same : (b : Bool) → differ b b ≡ false
differ_same b = grind arith

-- where a segment ends
pub sound_end : (seg : Seg) → IsSoundSeg seg → IsOnBoard (end_of seg)
sound_end seg sound = grind arith

-- no turn, and an offset of (0, 0)
module _ (o : Point) (no_x : o.x ≡ pos 0) (no_y : o.y ≡ pos 0) where
  kept_point : (p : Point) → placed_point R0 o p ≡ p
  kept_point p = grind (arith, ints)

  pub kept_seg : (seg : Seg) → placed_seg R0 o seg ≡ seg
  kept_seg seg = grind (arith, kept_point)

  abbrev placed_segs : List Seg → List Seg
  placed_segs segs = map (placed_seg R0 o) segs

  kept_segs : (segs : List Seg) → placed_segs segs ≡ segs
  kept_segs [] = refl
  kept_segs (seg ∷ segs) = grind (arith, kept_seg, kept_segs segs)

  pub kept_contour : (c : Contour) → placed_contour R0 o c ≡ c
  kept_contour c = grind (arith, kept_point, kept_segs)

-- whether a contour's segments, all together, change the side of a place
abbrev pub turns_side : Contour → Spot → Bool
turns_side c s = change_side s c.start c.start c.segs

pub inside_turned : (s : Spot) (c : Contour) → IsTrue (turns_side c s) ↔ IsInContour s c
inside_turned s c = sides_are_parity s c _ refl

-- an outline of no point has no inside
twice_above : (b left right : Bool) → (if b then (if b then false else right) else (if b then left else false)) ≡ false
twice_above b left right = grind arith

none_crossed : (t : Turn) (o : Point) (points : List Point) (s : Spot) → length points < 1
    → turns_side (placed_contour t o (outline_of points)) s ≡ false
none_crossed t o points s none = grind (arith, twice_above)

pub no_outline : (t : Turn) (o : Point) (points : List Point) (s : Spot) → length points < 1
    → IsInContour s (placed_contour t o (outline_of points)) → ⊥
no_outline t o points s none inside = grind (arith, false≢true, none_crossed, inside_turned)

-- what is turned over where a test says so: twice where two tests differ
pub record Turning {M : Type 0} (Turned : (Spot → Bool) → M → M → Type 0) : Type 0 where
  pub none : (m : M) → Turned (λ s. false) m m
  pub twice : (f g : Spot → Bool) (old between new : M) → Turned f old between → Turned g between new
      → Turned (λ s. differ (f s) (g s)) old new

-- all segments of a contour from a start have turned it but those that are left
abbrev pub TurnsBut : {M : Type 0} → ((Spot → Bool) → M → M → Type 0) → Point → Point → List Seg → List Seg
    → M → M → Type 0
TurnsBut Turned start here left all =
    Turned (λ s. differ (change_side s start here left) (change_side s start start all))

-- placed segments, and lines to points
abbrev pub placed : Turn → Point → List Seg → List Seg
placed t o segs = map (placed_seg t o) segs

abbrev pub lines : Turn → Point → List Point → List Seg
lines t o points = placed t o (lines_to points)

module _ {M : Type 0} (Turned : (Spot → Bool) → M → M → Type 0) (law : Turning Turned) where
  pub turned_so : {old new : M} (f g : Spot → Bool) → ((s : Spot) → f s ≡ g s) → Turned f old new → Turned g old new
  turned_so {old = old} {new = new} f g same h = subst (λ (test : Spot → Bool). Turned test old new) (λ i s. same s i) h

  -- one more turns it: what all of them turn but those that are left
  pub turned_on : {old between new : M} (left change next all : Spot → Bool)
      → ((s : Spot) → left s ≡ differ (change s) (next s))
      → Turned (λ s. differ (left s) (all s)) old between → Turned change between new
      → Turned (λ s. differ (next s) (all s)) old new
  turned_on left change next all e h k =
      turned_so (λ s. differ (differ (left s) (all s)) (change s)) (λ s. differ (next s) (all s))
      (λ s. ap (λ b. differ (differ b (all s)) (change s)) (e s) ∙ cancelled (change s) (next s) (all s))
      (law.twice (λ s. differ (left s) (all s)) change _ _ _ h k)

  module _ (start : Point) where
    -- none of them has
    pub none_turned : (all : List Seg) (old : M) → TurnsBut Turned start start all all old old
    none_turned all old =
        turned_so (λ s. false) (λ s. differ (change_side s start start all) (change_side s start start all))
        (λ s. sym (differ_same (change_side s start start all))) (law.none old)

    -- the first of those that are left
    next_turned : {old between new : M} (here there : Point) (seg : Seg) (left rest all : List Seg)
        → left ≡ seg ∷ rest → there ≡ end_of seg → TurnsBut Turned start here left all old between
        → Turned (λ s. changes_side s here seg) between new → TurnsBut Turned start there rest all old new
    next_turned here there seg left rest all e f =
        turned_on (λ s. change_side s start here left) (λ s. changes_side s here seg)
        (λ s. change_side s start there rest) (λ s. change_side s start start all)
        (λ s. ap (change_side s start here) e
        ∙ ap (λ p. differ (changes_side s here seg) (change_side s start p rest)) (sym f))

    -- where none is left, the line that closes them
    pub last_turned : {old between new : M} (here : Point) (left all : List Seg) → left ≡ []
        → TurnsBut Turned start here left all old between → Turned (λ s. crosses_ray s (edge here start)) between new
        → Turned (λ s. change_side s start start all) old new
    last_turned here left all e =
        turned_on (λ s. change_side s start here left) (λ s. crosses_ray s (edge here start))
        (λ s. false) (λ s. change_side s start start all)
        (λ s. ap (change_side s start here) e ∙ differ_false (crosses_ray s (edge here start)))

    closed : {old new : M} (c : Contour) (segs : List Seg) → c ≡ record { start = start; segs = segs }
        → Turned (λ s. change_side s start start segs) old new → Turned (turns_side c) old new
    closed {old = old} {new = new} c segs e h = grind arith

  -- ---- placed segments, of which those from an index on are left

  module _ (t : Turn) (o : Point) where
    pub segment_turned : {old between new : M} (start here there : Point) (seg : Seg)
        (segs : List Seg) (k : ℕ) (d : Seg)
        → k < length segs → seg ≡ placed_seg t o (get_or segs k d) → there ≡ end_of seg
        → TurnsBut Turned start here (placed t o (drop k segs)) (placed t o segs) old between
        → Turned (λ s. changes_side s here seg) between new
        → TurnsBut Turned start there (placed t o (drop (k + 1) segs)) (placed t o segs) old new
    segment_turned start here there seg segs k d more e =
        next_turned start here there seg (placed t o (drop k segs)) (placed t o (drop (k + 1) segs)) (placed t o segs)
        (at_drop_more (placed t o) segs k d more ∙ ap (λ x. x ∷ placed t o (drop (k + 1) segs)) (sym e))

    pub contour_turned : {old between new : M} (c : Contour) (start here : Point) (segs : List Seg) (k : ℕ)
        → length segs ≤ k → start ≡ placed_point t o c.start → segs ≡ c.segs
        → TurnsBut Turned start here (placed t o (drop k segs)) (placed t o segs) old between
        → Turned (λ s. crosses_ray s (edge here start)) between new
        → Turned (turns_side (placed_contour t o c)) old new
    contour_turned c start here segs k all e f h j =
        closed start (placed_contour t o c) (placed t o segs)
        (ap (λ p. record { start = p; segs = placed t o c.segs }) (sym e)
        ∙ ap (λ xs. record { start = start; segs = placed t o xs }) (sym f))
        (last_turned start here (placed t o (drop k segs)) (placed t o segs) (at_drop_all (placed t o) segs k all) h j)

    pub point_turned : {old between new : M} (start here there : Point) (points : List Point) (k : ℕ) (d : Point)
        → k < length points → there ≡ placed_point t o (get_or points k d)
        → TurnsBut Turned start here (lines t o (drop k points)) (lines t o points) old between
        → Turned (λ s. crosses_ray s (edge here there)) between new
        → TurnsBut Turned start there (lines t o (drop (k + 1) points)) (lines t o points) old new
    point_turned start here there points k d more e =
        next_turned start here there (Line there) (lines t o (drop k points)) (lines t o (drop (k + 1) points))
        (lines t o points) (at_drop_more (lines t o) points k d more ∙ ap (λ p. Line p ∷ lines t o (drop (k + 1) points)) (sym e)) refl

    pub lines_turned : {old between new : M} (start here : Point) (points : List Point) (k : ℕ)
        → length points ≤ k → TurnsBut Turned start here (lines t o (drop k points)) (lines t o points) old between
        → Turned (λ s. crosses_ray s (edge here start)) between new
        → Turned (λ s. change_side s start start (lines t o points)) old new
    lines_turned start here points k all =
        last_turned start here (lines t o (drop k points)) (lines t o points) (at_drop_all (lines t o) points k all)

    -- an outline of no point turns nothing
    pub empty_turned : (points : List Point) (old : M) → length points < 1
        → Turned (turns_side (placed_contour t o (outline_of points))) old old
    empty_turned points old none =
        turned_so (λ s. false) (turns_side (placed_contour t o (outline_of points)))
        (λ s. sym (none_crossed t o points s none)) (law.none old)

    -- an outline is the lines from its first point through the others
    pub outline_turned : {old new : M} (points : List Point) (d start : Point) → 1 ≤ length points
        → start ≡ placed_point t o (get_or points 0 d)
        → Turned (λ s. change_side s start start (lines t o (take (length points - 1) (drop 1 points)))) old new
        → Turned (turns_side (placed_contour t o (outline_of points))) old new
    outline_turned points d start some e = grind (arith, take_all, closed)
