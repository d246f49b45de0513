-- The command at the front of a text: found where one is, and else told for the right reason.
use Rattle.std.proofs.Common.{◌≡◌, ◌≢◌, ℕ, ◌+◌, ◌-◌, List, [], ◌∷◌, ◌++◌, length, take, drop, get_or, Bool, true, false, eqb}
use Rattle.std.proofs.Common.{Result, Ok, Err, refl, sym, ap, ◌∙◌, arith, ne_eqb, length-append, append_assoc}
use Rattle.std.specs.Prelude.{if◌then◌else◌}
use Rattle.std.specs.List.{list_any, before_first, suffix_len, prefix_len, AllByRecursion}
use Rattle.std.proofs.lemmas.List.{take_at, drop_at, get_or_at}
use Rattle.std.proofs.lemmas.List.Elements.{filter-append}
use Rattle.std.proofs.lemmas.Bool.Decides.{nat_tests}
use Rattle.cam_refusals.specs.declared.refusal.Refusal.{Refusal}
use Rattle.cam_refusals.specs.declared.refusal.Refusal.TheVariants.{Unterminated}
use Rattle.cam_words.specs.Bytes.{star, percent, is_star, is_percent, is_skipped, IsSkipped, is_control, is_forbidden_in_code}
use Rattle.cam_words.specs.Heads.{begins_as_free_text, is_free_text, is_forbidden_in_word, is_forbidden_in_extended}
use Rattle.cam_words.specs.Cutting.{Command, WordCommand, ExtendedCommand, bytes_of_command, IsCommand}
use Rattle.cam_words.specs.Reading.{word_at, command_within, extended_at, command_at}
use Rattle.cam_words.proofs.Lists.{AllFail, all_map, all-append, list_any-fails, before_first-at, differs, suffix_len-at}

-- a text and its free letters, which its `*` does not change
begins_as_free_text-append : (xs ys : List ℕ) → begins_as_free_text (xs ++ 42 ∷ ys) ≡ begins_as_free_text xs
begins_as_free_text-append xs ys = grind arith

is_free_text-append : (text tail : List ℕ) → is_free_text (text ++ star ∷ tail) ≡ is_free_text text
unfolding is_free_text
is_free_text-append text tail = grind (arith, filter-append, begins_as_free_text-append)

pub forbidden-append : (text tail : List ℕ) → is_forbidden_in_extended (text ++ star ∷ tail)
    ≡ is_forbidden_in_extended text
forbidden-append text tail = grind (arith, is_free_text-append)

-- a word
word_at-is : (text word : List ℕ) → before_first is_star text ≡ word → list_any (is_forbidden_in_word word) word
    ≡ false → eqb (length word) (length text) ≡ false → word_at text ≡ Ok (WordCommand word)
word_at-is text word e fine ends = rw (e, fine, ends) refl

shorter : (xs : List ℕ) (y : ℕ) (ys : List ℕ) → eqb (length xs) (length (xs ++ y ∷ ys)) ≡ false
shorter xs y ys = ne_eqb _ _ (λ (same : length xs ≡ length (xs ++ y ∷ ys)). omega (arith, length-append xs (y ∷ ys)))

abbrev IsAllowedInWord : List ℕ → ℕ → Type 0
IsAllowedInWord text byte = (byte ≢ star) × (is_forbidden_in_word text byte ≡ false)

word_at-command : (text rest : List ℕ) → AllByRecursion (IsAllowedInWord text) text
    → word_at (text ++ star ∷ rest) ≡ Ok (WordCommand text)
word_at-command text rest allowed = grind (arith, word_at-is, before_first-at, all_map, differs, list_any-fails, shorter)

-- an extended command
command_within-is : (inside text tail : List ℕ) (len : ℕ) → length inside - suffix_len is_skipped inside ≡ len
    → eqb len 0 ≡ false → is_star (get_or inside (len - 1) 0) ≡ true → take (len - 1) inside ≡ text
    → drop len inside ≡ tail
    → command_within inside ≡ Ok (ExtendedCommand text tail)
command_within-is inside text tail len e some last t d = rw (e, some, last, t, d) refl

command_within-command : (text tail : List ℕ) → AllByRecursion IsSkipped tail → command_within (text ++ star ∷ tail)
    ≡ Ok (ExtendedCommand text tail)
command_within-command text tail skipped =
    let n : length (text ++ star ∷ tail) - suffix_len is_skipped (text ++ star ∷ tail) ≡ length text + 1 =
    omega (arith, suffix_len-at is_skipped text star tail skipped refl, length-append text (star ∷ tail)) in
    let m : length text ≡ length text + 1 - 1 = omega arith in
    let whole : (text ++ star ∷ []) ++ tail ≡ text ++ star ∷ tail = append_assoc text (star ∷ []) tail in
    command_within-is (text ++ star ∷ tail) text tail (length text + 1) n
    (ne_eqb _ _ (λ (z : length text + 1 ≡ 0). omega arith))
    (ap is_star (get_or_at text star tail 0 (length text + 1 - 1) m))
    (take_at text (star ∷ tail) (length text + 1 - 1) m)
    (ap (drop (length text + 1)) (sym whole)
    ∙ drop_at (text ++ star ∷ []) tail (length text + 1) (length-append text (star ∷ [])))

extended_at-is : (text inside : List ℕ) → before_first is_percent text ≡ inside
    → list_any (is_forbidden_in_extended inside) inside ≡ false → eqb (length inside) (length text) ≡ false
    → extended_at text ≡ command_within inside
extended_at-is text inside e fine ends = rw (e, fine, ends) refl

abbrev IsAllowedInExtended : List ℕ → ℕ → Type 0
IsAllowedInExtended text byte = (byte ≢ percent) × (is_forbidden_in_extended text byte ≡ false)

skipped_is_allowed : (free : Bool) (byte : ℕ) → IsSkipped byte → (is_percent byte ≡ false)
    × ((if free then is_control else is_forbidden_in_code) byte ≡ false)
skipped_is_allowed free byte h = grind (arith, nat_tests)

star_is_allowed : (free : Bool) → (if free then is_control else is_forbidden_in_code) star ≡ false
star_is_allowed free = grind arith

extended_at-command : (text tail rest : List ℕ) → AllByRecursion (IsAllowedInExtended text) text
    → AllByRecursion IsSkipped tail → extended_at ((text ++ star ∷ tail) ++ percent ∷ rest)
    ≡ Ok (ExtendedCommand text tail)
extended_at-command text tail rest allowed skipped =
    let inside : List ℕ = text ++ star ∷ tail in
    let behind = skipped_is_allowed (is_free_text text) in
    let no_percent : AllFail is_percent (text ++ star ∷ tail) =
    all-append _ text (star ∷ tail)
    (all_map _ (λ byte. is_percent byte ≡ false) (λ byte h. differs percent byte h.0) text allowed)
    (refl, all_map _ (λ byte. is_percent byte ≡ false) (λ byte h. (behind byte h).0) tail skipped) in
    let fine : AllFail (is_forbidden_in_extended text) (text ++ star ∷ tail) =
    all-append _ text (star ∷ tail)
    (all_map _ (λ byte. is_forbidden_in_extended text byte ≡ false) (λ byte h. h.1) text allowed) (
      star_is_allowed (is_free_text text),
      all_map _ (λ byte. is_forbidden_in_extended text byte ≡ false) (λ byte h. (behind byte h).1) tail skipped,
    ) in
    extended_at-is ((text ++ star ∷ tail) ++ percent ∷ rest) (text ++ star ∷ tail)
    (before_first-at is_percent (text ++ star ∷ tail) percent rest no_percent refl)
    (rw (forbidden-append text tail) (list_any-fails (is_forbidden_in_extended text) (text ++ star ∷ tail) fine))
    (shorter (text ++ star ∷ tail) percent rest)
    ∙ command_within-command text tail skipped

-- the command at the front of a text, if the text has a byte
abbrev pub found_at : List ℕ → Result Command Refusal
found_at [] = Err Unterminated
found_at (first ∷ rest) = command_at first rest

pub found_at-command : (command : Command) (rest : List ℕ) → IsCommand command
    → found_at (bytes_of_command command ++ rest) ≡ Ok command
found_at-command (WordCommand []) rest is = word_at-command [] rest tt
found_at-command (WordCommand (byte ∷ text)) rest is =
    let e : is_percent byte ≡ false = differs percent byte is.0.1 in
    ap (λ (bytes : List ℕ). found_at (byte ∷ bytes)) (append_assoc text (star ∷ []) rest)
    ∙ rw e (word_at-command (byte ∷ text) rest is.1)
found_at-command (ExtendedCommand text tail) rest is = grind (arith, append_assoc, extended_at-command)

-- it begins with a byte that is not skipped
pub unskipped_front : (command : Command) (rest : List ℕ) → IsCommand command
    → prefix_len is_skipped (bytes_of_command command ++ rest) ≡ 0
unskipped_front command rest is = grind arith
