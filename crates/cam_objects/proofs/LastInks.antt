-- the last leaf that covers a place, in lists that are joined
use Rattle.std.proofs.Common.{◌≡◌, ◌↔◌, Bool, false, cond, IsTrue, ◌⊎◌, inl, inr, List, [], ◌∷◌, ◌++◌, length, Option, None, Some, IsSome, is_some, refl, ap, sym, subst, ◌∙◌, arith}
use Rattle.std.specs.Option.{option_or, unwrap_or}
use Rattle.std.proofs.lemmas.Bool.{cases_Bool, false_from_ne_true, false≢true, true≢false}
use Rattle.std.proofs.Math.Seq.{get_or-append_seam}
use Rattle.std.proofs.lemmas.List.{length-append}
use Rattle.std.proofs.lemmas.List.Elements.{All-cons, All-head, All-nil, All-tail}
use Rattle.cam_units.specs.declared.point.Spot.{Spot}
use Rattle.cam_objects.specs.Canvases.{Paints}
use Rattle.cam_objects.specs.Image.{Covers, IsPainted, IsUncovered}
use Rattle.cam_objects.specs.Leaves.{Leaf}
use Rattle.cam_objects.specs.Tests.{LastInkLaw, covers, is_black, last_ink, painted}
use Rattle.cam_objects.specs.Topmost.{IsCoveredBy}
use Rattle.cam_objects.proofs.Covering.{bare_from_uncovered, cover_law, uncovered_from_bare}
use Rattle.cam_objects.proofs.Inking.{painted_after}

-- ---- inks of which the first one counts

pub or_none : (o : Option Bool) → option_or o None ≡ o
or_none o = grind arith

pub or_again : (a b c : Option Bool) → option_or (option_or a b) c ≡ option_or a (option_or b c)
or_again a b c = grind arith

pub or_decided : (a b : Option Bool) → IsSome a → option_or a b ≡ a
or_decided a b some = grind (arith, false≢true)

-- ---- the last leaf

-- what one leaf makes of a place
abbrev pub ink_of : Leaf → Spot → Option Bool
ink_of l s = cond (covers l.shape s) (Some l.dark) None

pub last_ink-append : (a b : List Leaf) (s : Spot) → last_ink (a ++ b) s ≡ option_or (last_ink b s) (last_ink a s)
last_ink-append [] b s = sym (or_none (last_ink b s))
last_ink-append (l ∷ a) b s = grind (arith, or_again, last_ink-append a b s)

abbrev IsOff : Spot → Leaf → Type 0
IsOff s l = Covers l.shape s → ⊥

pub none_from_uncovered : (ls : List Leaf) (s : Spot) → IsUncovered ls s → last_ink ls s ≡ None
none_from_uncovered [] s off = refl
none_from_uncovered (l ∷ ls) s off =
    grind (arith, false_from_ne_true, All-head, cover_law, All-tail, none_from_uncovered ls s (All-tail (IsOff s) l ls off))

pub or_uncovered : (o : Option Bool) (ls : List Leaf) (s : Spot) → IsUncovered ls s → option_or o (last_ink ls s) ≡ o
or_uncovered o ls s off = ap (option_or o) (none_from_uncovered ls s off) ∙ or_none o

-- a leaf decides, or none covers the place
pub decided_or : (ls : List Leaf) (s : Spot)
    → ((d : Bool) × ((last_ink ls s ≡ Some d) × IsPainted ls s d)) ⊎ IsUncovered ls s
decided_or [] s = inr (All-nil (IsOff s))
decided_or (l ∷ ls) s = elim (decided_or ls s) [
  | inl later ↦ inl (
    later.0,
    (ap (λ o. option_or o (ink_of l s)) later.1.0, painted_after s (l ∷ []) ls later.0 later.1.1),
  )
  | inr rest ↦ elim (cases_Bool (covers l.shape s)) [
    | inl on ↦ inl (
      l.dark,
      (
        ap (λ o. option_or o (ink_of l s)) (none_from_uncovered ls s rest) ∙ ap (λ b. cond b (Some l.dark) None) on,
        record {
          before = [];
          last = l;
          after = ls;
          split = refl;
          covered = (cover_law l.shape s).0 on;
          uncovered = rest;
          polarity = refl;
        },
      ),
    )
    | inr off ↦ inr (All-cons (IsOff s) l ls (λ on. true≢false (sym ((cover_law l.shape s).1 on) ∙ off)) rest)
  ]
]

pub last_paints : (ls : List Leaf) (s : Spot) (d : Bool) → (last_ink ls s ≡ Some d) ↔ IsPainted ls s d
last_paints ls s d = (
  (λ e. elim (decided_or ls s) [
    | inl told ↦ subst (λ c. IsPainted ls s c) (ap (λ o. unwrap_or o d) (sym told.1.0 ∙ e)) told.1.1
    | inr off ↦ absurd (false≢true (ap (λ o. is_some o) (sym (none_from_uncovered ls s off) ∙ e)))
  ]),
  (λ h.
      ap (λ all. last_ink all s) h.split
      ∙ last_ink-append h.before (h.last ∷ h.after) s
      ∙ ap (λ o. option_or (option_or o (ink_of h.last s)) (last_ink h.before s)) (none_from_uncovered h.after s h.uncovered)
      ∙ ap (λ b. option_or (cond b (Some h.last.dark) None) (last_ink h.before s)) ((cover_law h.last.shape s).1 h.covered)
      ∙ ap Some h.polarity),
)

pub painted_covered : (s : Spot) (ls : List Leaf) (d : Bool) → IsPainted ls s d → IsUncovered ls s → ⊥
painted_covered s ls d h off =
    false≢true (ap (λ o. is_some o) (sym (none_from_uncovered ls s off) ∙ (last_paints ls s d).1 h))

pub covered_by : (ls : List Leaf) (s : Spot) (d : Bool) → IsPainted ls s d → IsCoveredBy ls s
covered_by ls s d h =
    subst (λ xs. IsCoveredBy xs s) (sym h.split) (
      length h.before,
      h.last,
      omega (arith, length-append h.before (h.last ∷ h.after)),
      get_or-append_seam h.before h.last h.after h.last,
      h.covered,
    )

-- there is one exactly where some leaf covers the place
some_covers : (ls : List Leaf) (s : Spot) → IsSome (last_ink ls s) ↔ IsCoveredBy ls s
some_covers ls s = elim (decided_or ls s) [
  | inl told ↦ (λ some. covered_by ls s told.0 told.1.1, λ any. ap (λ o. is_some o) told.1.0)
  | inr off ↦ (
    (λ some. absurd (false≢true (subst (λ o. IsSome o) (none_from_uncovered ls s off) some))),
    (λ any. absurd (bare_from_uncovered ls s off any)),
  )
]

-- ---- lists that are joined

later_or : (a b : Option Bool) (d : Bool) → option_or a b ≡ Some d → (a ≡ Some d) ⊎ ((IsSome a → ⊥) × (b ≡ Some d))
later_or a b d e = grind (arith, false≢true)

-- the leaf that decides stands in the second list, or in the first and none of the second covers the place
pub painted_split : (s : Spot) (a b : List Leaf) (d : Bool) → IsPainted (a ++ b) s d
    → IsPainted b s d ⊎ (IsUncovered b s × IsPainted a s d)
painted_split s a b d h =
    elim (later_or (last_ink b s) (last_ink a s) d (sym (last_ink-append a b s) ∙ (last_paints (a ++ b) s d).1 h)) [
      | inl last ↦ inl ((last_paints b s d).0 last)
      | inr first ↦ inr (
        uncovered_from_bare b s (λ any. first.0 ((some_covers b s).1 any)),
        (last_paints a s d).0 first.1,
      )
    ]

-- leaves behind it that do not cover the place leave it as it is
pub painted_before : (s : Spot) (a b : List Leaf) (d : Bool) → IsPainted a s d → IsUncovered b s → IsPainted (a ++ b) s d
painted_before s a b d h off =
    (last_paints (a ++ b) s d).0 (last_ink-append a b s ∙ ap (λ o. option_or o (last_ink a s)) (none_from_uncovered b s off)
    ∙ (last_paints a s d).1 h)

-- and so do any that do not
pub last_without : (s : Spot) (a u b : List Leaf) → IsUncovered u s → last_ink (a ++ u ++ b) s ≡ last_ink (a ++ b) s
last_without s a u b off =
    last_ink-append (a ++ u) b s
    ∙ ap (option_or (last_ink b s)) (last_ink-append a u s ∙ ap (λ o. option_or o (last_ink a s)) (none_from_uncovered u s off))
    ∙ sym (last_ink-append a b s)

-- ---- painting in order

one_more : (o : Option Bool) (on dark ink : Bool)
    → unwrap_or o (cond on dark ink) ≡ unwrap_or (option_or o (cond on (Some dark) None)) ink
one_more o on dark ink = grind arith

painted_last : (ink : Bool) (ls : List Leaf) (s : Spot) → painted ink ls s ≡ unwrap_or (last_ink ls s) ink
painted_last ink [] s = refl
painted_last ink (l ∷ ls) s =
    painted_last (cond (covers l.shape s) l.dark ink) ls s ∙ one_more (last_ink ls s) (covers l.shape s) l.dark ink

pub last_law : LastInkLaw
unfolding is_black
last_law ls s = painted_last false ls s

-- ---- a pixel alone

abbrev PaintsPixel : (Spot × Option Bool) → List Leaf → (Spot × Option Bool) → Type 0
PaintsPixel old ls new = Paints {V = Spot × Option Bool} (λ _ _ _. Unit {0}) (λ p _ _. p.0) (λ p _ _. p.1) old ls new

-- it has the ink of the last leaf that covers it
pub inked : (ls : List Leaf) (old new : Spot × Option Bool) (s : Spot) → old ≡ (s, None) → PaintsPixel old ls new → new.1 ≡ last_ink ls s
inked ls old new s is paints =
    paints.inks 0 0 tt ∙ ap (λ (p : Spot × Option Bool). option_or p.1 (last_ink ls p.0)) is

-- and is decided exactly where there is one
pub told_covered : (ls : List Leaf) (old new : Spot × Option Bool) (s : Spot) (told : Bool) → old ≡ (s, None) → PaintsPixel old ls new
    → (IsTrue told ↔ IsSome new.1) → IsTrue told ↔ IsCoveredBy ls s
told_covered ls old new s told is paints tells =
    let covered = subst (λ o. IsSome o ↔ IsCoveredBy ls s) (sym (inked ls old new s is paints)) (some_covers ls s) in
    (λ on. covered.0 (tells.0 on), λ any. tells.1 (covered.1 any))
