-- The 64 rows of a tile, taken lane by lane: as many rows, and each bit by the bits of its place.
use Rattle.std.specs.Prelude.{◌↔◌, ℕ, ◌<◌, List, slice_index}
use Rattle.std.specs.Int.{IsBitSet}

abbrev pub IsSetIn : List ℕ → ℕ → ℕ → Type 0
IsSetIn rows k i = IsBitSet (slice_index rows k) i

-- bit i of each row k is set exactly where the two rows have it so
abbrev pub AreJoined : (Type 0 → Type 0 → Type 0) → List ℕ → List ℕ → List ℕ → Type 0
AreJoined how old other new =
    (k i : ℕ) → k < 64 → i < 64 → IsSetIn new k i ↔ how (IsSetIn old k i) (IsSetIn other k i)
