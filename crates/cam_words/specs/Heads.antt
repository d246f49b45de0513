-- What the first letters of a command make of it. Gerber Layer Format Specification, "Comment (G04)" and "Attributes".
use Rattle.std.specs.Prelude.{ℕ, zero, suc, List, [], ◌∷◌, length, take, drop, filter, nat_eq, codes, Option}
use Rattle.std.specs.Prelude.{Some, None, Bool, ◌||◌, ◌&&◌, not, if◌then◌else◌}
use Rattle.std.specs.List.{starts_with, list_any}
use Rattle.cam_words.specs.Bytes.{is_skipped, is_digit, is_control, is_forbidden_in_code, is_forbidden_in_plain}

-- the text without its skipped bytes
abbrev pub packed : List ℕ → List ℕ
packed text = filter (λ byte. not (is_skipped byte)) text

-- what stands behind the n-th byte that is not skipped
abbrev pub behind_kept : ℕ → List ℕ → List ℕ
behind_kept zero text = text
behind_kept (suc n) [] = []
behind_kept (suc n) (byte ∷ text) = if is_skipped byte then behind_kept (suc n) text else behind_kept n text

-- what stands behind a head, if a text begins with it
unfoldable pub behind_head : List ℕ → List ℕ → Option (List ℕ)
behind_head head text = if starts_with nat_eq text head then Some (drop (length head) text) else None

-- begins with G04, or with G4 and no digit after it
abbrev pub begins_as_comment : List ℕ → Bool
begins_as_comment text =
    starts_with nat_eq text (codes "G04")
    || (starts_with nat_eq text (codes "G4") && not (list_any is_digit (take 1 (drop 2 text))))

unfoldable pub is_comment : List ℕ → Bool
is_comment text = begins_as_comment (packed text)

-- an attribute, or the name of the image or of a layer
abbrev pub begins_as_free_text : List ℕ → Bool
begins_as_free_text text =
    starts_with nat_eq text (codes "T") || starts_with nat_eq text (codes "IN") || starts_with nat_eq text (codes "LN")

unfoldable pub is_free_text : List ℕ → Bool
is_free_text text = begins_as_free_text (packed text)

-- the bytes that a word of this text may not hold
abbrev pub is_forbidden_in_word : List ℕ → ℕ → Bool
is_forbidden_in_word text = if is_comment text then is_control else is_forbidden_in_plain

-- the bytes that an extended command of this text may not hold
abbrev pub is_forbidden_in_extended : List ℕ → ℕ → Bool
is_forbidden_in_extended text = if is_free_text text then is_control else is_forbidden_in_code
