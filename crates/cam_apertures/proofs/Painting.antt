-- The last primitive that holds a place, one after the other from the last.
use Rattle.std.proofs.Common.{◌≡◌, ◌↔◌, ℕ, ◌+◌, ◌<◌, take, map, Bool, true, false, IsTrue, List, [], ◌∷◌, ◌++◌, suc, length, get_or, All, refl, ap, sym, ◌∙◌, ◌⊎◌, inl, inr, subst, arith}
use Rattle.std.proofs.lemmas.List.{get_or_append_left, length-append, map_more}
use Rattle.std.proofs.lemmas.List.Elements.{All-nil, All-head, All-push, All-same}
use Rattle.std.proofs.Common.{append_assoc}
use Rattle.cam_units.specs.declared.point.Spot.{Spot}
use Rattle.cam_macros.specs.declared.primitive.MacroPrimitive.{MacroPrimitive}
use Rattle.cam_units.specs.declared.turn.Turn.{Turn}
use Rattle.cam_apertures.specs.Cover.{IsInShape, IsExposed}
use Rattle.cam_apertures.specs.Turned.{turned_prim, turned_shape}

abbrev IsFree : Spot → MacroPrimitive → Type 0
IsFree s p = ¬ IsInShape p.shape s

-- no primitive holds the place
pub none_painted : (s : Spot) → IsExposed [] s → ⊥
none_painted s h = empty h.before h.prim h.after h.split
  where
    empty : (before : List MacroPrimitive) (p : MacroPrimitive) (after : List MacroPrimitive) → [] ≡ before ++ p ∷ after → ⊥
    empty [] p after e = cc
    empty (b ∷ before) p after e = cc

-- either the last of a list is the last of what stands behind a place in it, or nothing stands there
ends : (prims before : List MacroPrimitive) (last p : MacroPrimitive) (after : List MacroPrimitive) → prims ++ last ∷ [] ≡ before ++ p ∷ after
    → ((p ≡ last) × (after ≡ [])) ⊎ ((rest : List MacroPrimitive) × (after ≡ rest ++ last ∷ []) × (prims ≡ before ++ p ∷ rest))
ends [] [] last p after e = inl (cc, cc)
ends [] (b ∷ []) last p after e = absurd cc
ends [] (b ∷ c ∷ before) last p after e = absurd cc
ends (q ∷ prims) [] last p after e = grind arith
ends (q ∷ prims) (b ∷ before) last p after e =
    grind (arith, ends prims before last p after (let same : prims ++ last ∷ [] ≡ before ++ p ∷ after = cc in same))

-- where the last primitive holds the place, it decides
pub last_decides : (prims : List MacroPrimitive) (last : MacroPrimitive) (s : Spot) → IsInShape last.shape s
    → IsTrue last.paint ↔ IsExposed (prims ++ last ∷ []) s
last_decides prims last s held = (
  (λ t. record {
    before = prims;
    prim = last;
    after = [];
    split = refl;
    held = held;
    exposed = t;
    last = All-nil (IsFree s);
  }),
  (λ h. elim (ends prims h.before last h.prim h.after h.split) [
    | inl k ↦ sym (ap (λ (p : MacroPrimitive). p.paint) k.0) ∙ h.exposed
    | inr k ↦ absurd (behind k.0 h.after k.1 h.last held)
  ]),
)
  where
    behind : (rest after : List MacroPrimitive) → after ≡ rest ++ last ∷ [] → All (IsFree s) after → IsInShape last.shape s → ⊥
    behind [] [] e all held = absurd cc
    behind [] (p ∷ after) e all held = let same : p ≡ last = cc in All-head (IsFree s) p after all (subst (λ (q : MacroPrimitive). IsInShape q.shape s) (sym same) held)
    behind (q ∷ rest) [] e all held = absurd cc
    behind (q ∷ rest) (p ∷ after) e all held = behind rest after (let same : after ≡ rest ++ last ∷ [] = cc in same) (λ k d h. all (suc k) d (omega arith)) held

-- where it does not hold the place, those before it decide
pub last_passes : (prims : List MacroPrimitive) (last : MacroPrimitive) (s : Spot) → IsFree s last → IsExposed (prims ++ last ∷ []) s ↔ IsExposed prims s
last_passes prims last s free = (
  (λ h. elim (ends prims h.before last h.prim h.after h.split) [
    | inl k ↦ absurd (free (subst (λ (p : MacroPrimitive). IsInShape p.shape s) k.0 h.held))
    | inr k ↦ record {
      before = h.before;
      prim = h.prim;
      after = k.0;
      split = k.2;
      held = h.held;
      exposed = h.exposed;
      last = fewer k.0 h.after k.1 h.last;
    }
  ]),
  (λ h. record {
    before = h.before;
    prim = h.prim;
    after = h.after ++ last ∷ [];
    split = ap (λ l. l ++ last ∷ []) h.split ∙ append_assoc h.before (h.prim ∷ h.after) (last ∷ []);
    held = h.held;
    exposed = h.exposed;
    last = All-push (IsFree s) h.after last h.last free;
  }),
)
  where
    fewer : (rest after : List MacroPrimitive) → after ≡ rest ++ last ∷ [] → All (IsFree s) after → All (IsFree s) rest
    fewer rest after e all k d h = one (All-same (IsFree s) (rest ++ last ∷ []) after (sym e) all)
      where
        one : All (IsFree s) (rest ++ last ∷ []) → IsFree s (get_or rest k d)
        one both = subst (IsFree s) (get_or_append_left rest (last ∷ []) d k h) (both k d (omega (arith, length-append rest (last ∷ []))))

-- the same of primitives up to a place, once they are turned
last_at : (t : Turn) (prims : List MacroPrimitive) (place behind : ℕ) (p : MacroPrimitive) → behind ≡ place + 1 → place < length prims → p ≡ get_or prims place p
    → map (turned_prim t) (take behind prims) ≡ map (turned_prim t) (take place prims) ++ turned_prim t p ∷ []
last_at t prims place behind p n h e =
    ap (λ k. map (turned_prim t) (take k prims)) n ∙ map_more (turned_prim t) prims place p h
    ∙ ap (λ q. map (turned_prim t) (take place prims) ++ turned_prim t q ∷ []) (sym e)

pub decides_at : (t : Turn) (prims : List MacroPrimitive) (place behind : ℕ) (p : MacroPrimitive) (s : Spot) → behind ≡ place + 1 → place < length prims
    → p ≡ get_or prims place p → IsInShape (turned_shape t p.shape) s → IsTrue p.paint ↔ IsExposed (map (turned_prim t) (take behind prims)) s
decides_at t prims place behind p s n h e held =
    rw (last_at t prims place behind p n h e) (last_decides (map (turned_prim t) (take place prims)) (turned_prim t p) s held)

pub passes_at : (t : Turn) (prims : List MacroPrimitive) (place behind : ℕ) (p : MacroPrimitive) (s : Spot) → behind ≡ place + 1 → place < length prims
    → p ≡ get_or prims place p → ¬ IsInShape (turned_shape t p.shape) s
    → IsExposed (map (turned_prim t) (take behind prims)) s ↔ IsExposed (map (turned_prim t) (take place prims)) s
passes_at t prims place behind p s n h e free =
    rw (last_at t prims place behind p n h e) (last_passes (map (turned_prim t) (take place prims)) (turned_prim t p) s free)

pub through : {A B C : Type 0} → (A ↔ B) → (B ↔ C) → A ↔ C
through f g = ((λ a. g.0 (f.0 a)), (λ c. f.1 (g.1 c)))

pub round : {A B : Type 0} → (A ↔ B) → B ↔ A
round f = (f.1, f.0)

pub not_false : {P : Type 0} (b : Bool) → b ≡ false → (IsTrue b ↔ P) → ¬ P
not_false b e told p = let true_too : b ≡ true = told.1 p in absurd cc

pub none_at : (t : Turn) (prims : List MacroPrimitive) (n : ℕ) (s : Spot) → n ≡ 0 → (IsExposed (map (turned_prim t) (take n prims)) s ↔ IsExposed (map (turned_prim t) prims) s)
    → IsTrue false ↔ IsExposed (map (turned_prim t) prims) s
none_at t prims n s e same = grind (arith, none_painted)
