-- The pieces of a text between bytes of one kind (the stars of a macro, the `X` between parameters).
use Rattle.std.specs.Prelude.{ℕ, ◌==◌, List, [], Option, Some, None}
use Rattle.std.specs.List.{slice_split}

-- if any text is left
abbrev pub pieces_of : ℕ → Option (List ℕ) → List (List ℕ)
pieces_of c None = []
pieces_of c (Some text) = slice_split (λ b. b == c) text
