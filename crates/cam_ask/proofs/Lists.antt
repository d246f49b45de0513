-- Texts that grow by a part for each element of a list.
use Rattle.std.proofs.Common.{◌≡◌, ◌∙◌, ap, sym, ℕ, ◌+◌, ◌<◌, ◌≤◌, List, [], ◌∷◌, ◌++◌, length, take, get_or, append-nil, arith}
use Rattle.std.specs.Prelude.{option_to_list}
use Rattle.std.specs.List.{flat_map}
use Rattle.std.proofs.lemmas.List.{flat_map_more, take_all, take_more}
use Rattle.std.proofs.lemmas.Option.{slice_get-get_or}
use Rattle.cam_edits.specs.Sheets.{Content, Drill, Gerber, entry_count}
use Rattle.cam_ask.specs.Texts.{entries_text, entry_text, lines_at, numbered_lines, sized_lines}

-- one part more
part_added : {X : Type 0} (f : X → List ℕ) (xs : List X) (i : ℕ) (d : X) (front old new : List ℕ) → i < length xs
    → old ≡ front ++ flat_map f (take i xs) → new ≡ old ++ f (get_or xs i d) → new ≡ front ++ flat_map f (take (i + 1) xs)
part_added f xs i d front old new lt e more = grind (arith, flat_map_more, take_more)

-- of the element at a place that the list has
pub place_added : {X : Type 0} (f : X → List ℕ) (xs : List X) (i : ℕ) (front old new : List ℕ) → i < length xs
    → old ≡ front ++ flat_map f (take i xs) → new ≡ old ++ lines_at f xs i → new ≡ front ++ flat_map f (take (i + 1) xs)
place_added f [] i front old new lt e more = absurd (omega (arith, lt))
place_added f (d ∷ xs) i front old new lt e more =
    let here : lines_at f (d ∷ xs) i ≡ f (get_or (d ∷ xs) i d) =
    ap (λ o. flat_map f (option_to_list o)) (slice_get-get_or (d ∷ xs) i d lt) ∙ append-nil (f (get_or (d ∷ xs) i d)) in
    part_added f (d ∷ xs) i d front old new lt e (more ∙ ap (λ ys. old ++ ys) here)

-- the entries before a place of the order
abbrev pub entries_to : Content → ℕ → List ℕ
entries_to (Gerber c) n = flat_map numbered_lines (take n c.entries)
entries_to (Drill c) n = flat_map sized_lines (take n c.tools)

pub entry_added : (c : Content) (i : ℕ) (front old new : List ℕ) → i < entry_count c
    → old ≡ front ++ entries_to c i → new ≡ old ++ entry_text c i → new ≡ front ++ entries_to c (i + 1)
entry_added c i front old new lt e more = grind (arith, place_added)

pub entries_none : (c : Content) → entries_to c 0 ≡ []
entries_none c = grind arith

pub entries_all : (c : Content) (n : ℕ) → entry_count c ≤ n → entries_to c n ≡ entries_text c
entries_all c n h = grind (arith, take_all)

-- no more than there are
pub taken_all : {X : Type 0} (xs : List X) (n : ℕ) → length xs ≤ n → xs ≡ take n xs
taken_all xs n h = sym (take_all n xs h)
