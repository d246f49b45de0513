-- Which places of a room have values after a copy.
use Rattle.std.proofs.Common.{◌≡◌, ◌∙◌, ap, sym, refl, ℕ, zero, suc, ◌≤◌, ◌<◌, ◌+◌, ◌-◌, List, [], ◌∷◌, ◌++◌, length, drop, get_or, true, false, Bool, map, arith}
use Rattle.std.proofs.lemmas.List.{append-nil, drop_all, ext_get_or, get_or_append_left, get_or-append_right, get_or-drop, length-append, length-drop, length-map}
use Rattle.core.specs.Mem.Slots.Ownership.{Filled, SameOutside}
use Rattle.core.proofs.num.Ints.{cases}
use Rattle.std.proofs.lemmas.Bool.Decides.{leb_tells}
use Rattle.core.specs.Mem.Slots.{SamePlaces, slots_counts, slots_filled, slots_items, slots_len}
use Rattle.core.specs.declared.slots.Slots.{Slots}
use Rattle.std.specs.Prelude.{if◌then◌else◌}
use Rattle.cam_c.specs.Calls.{IsCopied, IsFilled, copied}
use mathlib.Core.Logic.{inr}

-- all of them
trues : {X : Type 0} (xs : List X) (k : ℕ) → k < length xs → get_or (map (λ x. true) xs) k false ≡ true
trues [] k lt = absurd (omega (arith, lt))
trues (x ∷ xs) zero lt = refl
trues (x ∷ xs) (suc k) lt = trues xs k (omega (arith, lt))

copied_there : {X : Type 0} (text : List X) (n : ℕ) (fs gs : List Bool) → n ≡ length text → length gs ≡ length fs → n ≤ length fs
    → Filled gs 0 n → SameOutside false fs gs 0 n → gs ≡ map (λ x. true) text ++ drop n fs
copied_there text n fs gs is same fits full rest =
    let ts : List Bool = map (λ x. true) text in let ln : length ts ≡ n = length-map text (λ x. true) ∙ sym is in
    let long : length (ts ++ drop n fs) ≡ length ts + length (drop n fs) = length-append ts (drop n fs) in let left : length (drop n fs) ≡ length fs - n = length-drop n fs in
    ext_get_or false gs (ts ++ drop n fs) (omega (arith, same, fits, ln, long, left)) (λ i lt. cases (leb_tells n i)
    (λ past. let high : n ≤ i = past.1 in
    rest i (inr high) ∙ sym (get_or-append_right ts (drop n fs) n i false ln high ∙ get_or-drop n fs (i - n) false ∙ ap (λ k. get_or fs k false) (omega (arith, high))))
    (λ first. let low : i < n = first.1 in
    full i (omega arith) low ∙ sym (get_or_append_left ts (drop n fs) false i (omega (arith, low, ln)) ∙ trues text i (omega (arith, low, is)))))

-- values that fit, and values that do not
fitting : {X : Type 0} (text room : List X) → length text ≤ length room → text ++ drop (length text) room ≡ copied text room
fitting text room fits = cases (leb_tells (length text) (length room))
    (λ yes. ap (λ (k : Bool). if k then text ++ drop (length text) room else room) (sym yes.0)) (λ no. absurd (omega (arith, no.1, fits)))

passing : {X : Type 0} (text room : List X) → length room < length text → room ≡ copied text room
passing text room less = cases (leb_tells (length text) (length room))
    (λ yes. absurd (omega (arith, yes.1, less))) (λ no. ap (λ (k : Bool). if k then text ++ drop (length text) room else room) (sym no.0))

pub copied_in : {X : Type 0} (text : List X) (n : ℕ) (a b : Slots X) → n ≡ length text → n ≤ slots_len a → SamePlaces a b
    → slots_items b ≡ text ++ drop n (slots_items a)
    → Filled (slots_filled b) 0 n × SameOutside false (slots_filled a) (slots_filled b) 0 n → IsCopied text a b
copied_in text n a b is fits places values there =
    let ca = slots_counts a in let cb = slots_counts b in let count = places.count in
    let ln : length (map (λ x. true) text) ≡ length text = length-map text (λ x. true) in
    record {
      places = places;
      values = values ∙ ap (λ k. text ++ drop k (slots_items a)) is ∙ fitting text (slots_items a) (omega (arith, is, fits, ca.0));
      there = copied_there text n (slots_filled a) (slots_filled b) is (omega (arith, ca.1, cb.1, count)) (omega (arith, fits, ca.1)) there.0 there.1
          ∙ ap (λ k. map (λ x. true) text ++ drop k (slots_filled a)) (is ∙ sym ln) ∙ fitting (map (λ x. true) text) (slots_filled a) (omega (arith, is, fits, ca.1, ln));
    }

pub not_copied : {X : Type 0} (text : List X) (a : Slots X) → slots_len a < length text → IsCopied text a a
not_copied text a less =
    let ca = slots_counts a in let ln : length (map (λ x. true) text) ≡ length text = length-map text (λ x. true) in
    record {
      places = record { start = refl; count = refl };
      values = passing text (slots_items a) (omega (arith, less, ca.0));
      there = passing (map (λ x. true) text) (slots_filled a) (omega (arith, less, ca.1, ln));
    }

-- as many values as the room has places fill it
whole : {X : Type 0} (text room : List X) → length text ≡ length room → copied text room ≡ text
whole text room same = sym (fitting text room (omega (arith, same))) ∙ ap (λ ys. text ++ ys) (drop_all (length text) room (omega (arith, same))) ∙ append-nil text

pub filling : {X : Type 0} {text : List X} {a b : Slots X} → IsCopied text a b → length text ≡ slots_len a → IsFilled text a b
filling {text = text} {a = a} did same =
    let ca = slots_counts a in let ln : length (map (λ x. true) text) ≡ length text = length-map text (λ x. true) in
    record {
      places = did.places;
      values = did.values ∙ whole text (slots_items a) (omega (arith, same, ca.0));
      there = did.there ∙ whole (map (λ x. true) text) (slots_filled a) (omega (arith, same, ln, ca.1));
    }
