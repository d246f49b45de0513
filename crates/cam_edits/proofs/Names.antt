-- Where the sheet of a name stands.
use Rattle.std.proofs.Common.{arith, ◌≡◌, ℕ, ◌<◌, Bool, List, [], ◌∷◌, ◌+◌, cond, length, map, Option, not, IfSome, refl, ap, sym}
use Rattle.std.proofs.Common.{◌∙◌}
use Rattle.std.specs.Prelude.{position}
use Rattle.std.specs.List.{position_or_len}
use Rattle.std.specs.Str.{bytes_eq}
use Rattle.std.proofs.lemmas.List.{length-map}
use Rattle.cam_edits.specs.declared.board.Sheet.{Sheet}
use Rattle.cam_edits.specs.Boards.{place_named}
use Rattle.cam_edits.specs.Sheets.{sheet_of}

-- a place among what comes of elements is a place among the elements
front_map : {X Y : Type 0} (f : X → Y) (test : Y → Bool) (xs : List X)
    → position_or_len test (map f xs) ≡ position_or_len (λ x. test (f x)) xs
front_map f test [] = refl
front_map f test (x ∷ xs) = ap (λ k. cond (not (test (f x))) (1 + k) 0) (front_map f test xs)

pub position_map : {X Y : Type 0} (f : X → Y) (test : Y → Bool) (xs : List X)
    → position test (map f xs) ≡ position (λ x. test (f x)) xs
position_map f test xs = grind (arith, front_map, length-map)

pub named_place : (sheets : List Sheet) (name : List ℕ) (result : Option ℕ)
    → result ≡ position (λ s. bytes_eq s.name name) sheets → result ≡ place_named name (map sheet_of sheets)
unfolding place_named
named_place sheets name result e = e ∙ sym (position_map sheet_of (λ s. bytes_eq s.name name) sheets)

pub place_within : (sheets : List Sheet) (result : Option ℕ) → IfSome result (λ k. k < length sheets)
    → IfSome result (λ k. k < length (map sheet_of sheets))
place_within sheets result h = grind (arith, length-map)
