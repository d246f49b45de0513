-- A text is cut as far as it goes.
use Rattle.std.proofs.Common.{◌≡◌, ℕ, zero, suc, ◌+◌, ◌<◌, ◌≤◌, List, [], ◌∷◌, ◌++◌, length, take, drop, true, false, Ok, Err}
use Rattle.std.proofs.Common.{refl, sym, ap, ◌∙◌, subst, ◌⊎◌, inl, inr, arith, length-append, length-drop, append_assoc}
use Rattle.std.specs.List.{prefix_len, flat_map, AllByRecursion}
use Rattle.std.proofs.lemmas.List.{take-append-drop, append-nil}
use Rattle.std.proofs.lemmas.List.Sums.{prefix_len-le-length}
use Rattle.cam_refusals.specs.declared.refusal.Refusal.{Refusal}
use Rattle.cam_words.specs.declared.word.TextFault.{TextFault}
use Rattle.cam_words.specs.Bytes.{is_skipped, IsSkipped}
use Rattle.cam_words.specs.Cutting.{Command, Piece, Blank, Whole, bytes_of_command, bytes_of, IsCommand, IsPiece}
use Rattle.cam_words.specs.Cutting.{IsApart, AreApart, IsCutting, FoundWord, words_of}
use Rattle.cam_words.specs.Reading.{WordAnswer, words_told, command_at, answers_at, answers_by, reading}
use Rattle.cam_words.specs.Laws.{BeginsCommand, TellsFault, IsCutUpTo, StopsAtTheLongestFront}
use Rattle.cam_words.proofs.Fronts.{begins_unskipped}
use Rattle.cam_words.proofs.Steps.{reading_is, has_a_byte}
use Rattle.cam_words.proofs.Commands.{found_at, found_at-command}
use Rattle.cam_words.proofs.Cuttings.{reading-pieces}
use Rattle.cam_words.proofs.Judged.{IsRight, command_at_is_right}

-- the run of skipped bytes at the front
run_skipped : (text : List ℕ) → AllByRecursion IsSkipped (take (prefix_len is_skipped text) text)
run_skipped [] = tt
run_skipped (byte ∷ text) =
    (elim (is_skipped byte) as
    (λ b. is_skipped byte ≡ b → AllByRecursion IsSkipped (take (prefix_len is_skipped (byte ∷ text)) (byte ∷ text))) [
      | true ↦ λ e. let n : 1 + prefix_len is_skipped text ≡ suc (prefix_len is_skipped text) = omega arith in
          rw (e, n) (e, run_skipped text)
      | false ↦ λ e. rw e tt
    ]) refl

-- pieces behind a run, which may be empty
with_run : List ℕ → List Piece → List Piece
with_run [] pieces = pieces
with_run (byte ∷ run) pieces = Blank (byte ∷ run) ∷ pieces

bytes-with_run : (run : List ℕ) (pieces : List Piece) → flat_map bytes_of (with_run run pieces)
    ≡ run ++ flat_map bytes_of pieces
unfolding with_run
bytes-with_run [] pieces = refl
bytes-with_run (byte ∷ run) pieces = refl

each-with_run : (run : List ℕ) (pieces : List Piece) → AllByRecursion IsSkipped run → AllByRecursion IsPiece pieces
    → AllByRecursion IsPiece (with_run run pieces)
unfolding with_run
each-with_run [] pieces skipped each = each
each-with_run (byte ∷ run) pieces skipped each = ((omega arith, skipped), each)

apart-with_run : (run : List ℕ) (pieces : List Piece) → ((run : List ℕ) → IsApart (Blank run) pieces)
    → AreApart pieces → AreApart (with_run run pieces)
unfolding with_run
apart-with_run [] pieces first apart = apart
apart-with_run (byte ∷ run) pieces first apart = (first (byte ∷ run), apart)

-- the pieces of a front, behind which a fault is found
record Stops (text : List ℕ) (front : List Piece) (behind : List ℕ) (code : Refusal) : Type 0 where
  joined : text ≡ flat_map bytes_of front ++ behind
  each : AllByRecursion IsPiece front
  apart : AreApart front
  begins : BeginsCommand behind
  found : found_at behind ≡ Err code

abbrev IsCut : List ℕ → Type 0
IsCut text = ((pieces : List Piece) × IsCutting text pieces)
    ⊎ ((front : List Piece) × (behind : List ℕ) × (code : Refusal) × Stops text front behind code)

-- one command more in front
cut_behind : (run after rest : List ℕ) (command : Command) → AllByRecursion IsSkipped run → IsCommand command
    → after ≡ bytes_of_command command ++ rest → IsCut rest → IsCut (run ++ after)
cut_behind run after rest command skipped is e (inl cut) = inl (
  with_run run (Whole command ∷ cut.0),
  record {
    joined =
        sym (bytes-with_run run (Whole command ∷ cut.0)
        ∙ ap (λ (bytes : List ℕ). run ++ bytes)
        (ap (λ (bytes : List ℕ). bytes_of_command command ++ bytes) (sym cut.1.joined) ∙ sym e));
    each = each-with_run run (Whole command ∷ cut.0) skipped (is, cut.1.each);
    apart = apart-with_run run (Whole command ∷ cut.0) (λ run. tt) (tt, cut.1.apart);
  },
)
cut_behind run after rest command skipped is e (inr stop) = inr (
  with_run run (Whole command ∷ stop.0),
  stop.1,
  stop.2,
  record {
    joined =
        ap (λ (bytes : List ℕ). run ++ bytes)
        (e ∙ ap (λ (bytes : List ℕ). bytes_of_command command ++ bytes) stop.3.joined
        ∙ sym (append_assoc (bytes_of_command command) (flat_map bytes_of stop.0) stop.1))
        ∙ sym (append_assoc run (bytes_of_command command ++ flat_map bytes_of stop.0) stop.1)
        ∙ ap (λ (bytes : List ℕ). bytes ++ stop.1) (sym (bytes-with_run run (Whole command ∷ stop.0)));
    each = each-with_run run (Whole command ∷ stop.0) skipped (is, stop.3.each);
    apart = apart-with_run run (Whole command ∷ stop.0) (λ run. tt) (tt, stop.3.apart);
    begins = stop.3.begins;
    found = stop.3.found;
  },
)

cut_at : (run after : List ℕ) → AllByRecursion IsSkipped run
    → ((byte : ℕ) (rest : List ℕ) → after ≡ byte ∷ rest → is_skipped byte ≡ false)
    → ((rest : List ℕ) → length rest < length after → IsCut rest) → IsCut (run ++ after)
cut_at run [] skipped kept cut = inl (
  with_run run [],
  record {
    joined = sym (bytes-with_run run []);
    each = each-with_run run [] skipped tt;
    apart = apart-with_run run [] (λ run. tt) tt;
  },
)
cut_at run (byte ∷ bytes) skipped kept cut =
    let right = command_at_is_right byte bytes (kept byte bytes refl) in
    (elim (command_at byte bytes) as
    (λ found. command_at byte bytes ≡ found → IsRight (byte ∷ bytes) found → IsCut (run ++ byte ∷ bytes)) [
      | Ok command ↦ λ e is.
          let shorter : length is.1.0 < length (byte ∷ bytes) =
          omega (arith, has_a_byte command, length-append (bytes_of_command command) is.1.0, ap length is.1.1) in
          cut_behind run (byte ∷ bytes) is.1.0 command skipped is.0 is.1.1 (cut is.1.0 shorter)
      | Err code ↦ λ e is. inr (
        with_run run [],
        byte ∷ bytes,
        code,
        record {
          joined = ap (λ (front : List ℕ). front ++ byte ∷ bytes) (sym (bytes-with_run run [] ∙ append-nil run));
          each = each-with_run run [] skipped tt;
          apart = apart-with_run run [] (λ run. tt) tt;
          begins = kept byte bytes refl;
          found = e;
        },
      )
    ]) refl right

cut_within : (limit : ℕ) (text : List ℕ) → length text < limit → IsCut text
cut_within zero text below = absurd (omega arith)
cut_within (suc limit) text below =
    subst IsCut (take-append-drop (prefix_len is_skipped text) text)
    (cut_at (take (prefix_len is_skipped text) text) (drop (prefix_len is_skipped text) text) (run_skipped text)
    (begins_unskipped text)
    (λ rest shorter. cut_within limit rest (omega (arith, length-drop (prefix_len is_skipped text) text))))

-- no piece begins where a fault is found
no_piece : (behind : List ℕ) (code : Refusal) → BeginsCommand behind → found_at behind ≡ Err code
    → (piece : Piece) (rest : List ℕ) → IsPiece piece → behind ≡ bytes_of piece ++ rest → ⊥
no_piece [] code begins found piece rest is e = begins
no_piece (byte ∷ bytes) code begins found (Blank []) rest is e = absurd (omega (arith, is.0))
no_piece (byte ∷ bytes) code begins found (Blank (first ∷ run)) rest is e =
    let same : byte ≡ first = cc in let skipped : is_skipped byte ≡ true = ap is_skipped same ∙ is.1.0 in cc
no_piece (byte ∷ bytes) code begins found (Whole command) rest is e =
    let other : found_at (byte ∷ bytes) ≡ Ok command = ap found_at e ∙ found_at-command command rest is in
    let clash : Ok command ≡ Err code = sym other ∙ found in cc

reading-fault : (at : ℕ) (behind : List ℕ) (code : Refusal) → BeginsCommand behind → found_at behind ≡ Err code
    → reading at behind ≡ Err (record { code = code; at = at }) ∷ []
reading-fault at [] code begins found = absurd begins
reading-fault at (byte ∷ bytes) code begins found =
    let here : at + 0 ≡ at = omega arith in
    let front : reading at (byte ∷ bytes) ≡ answers_at reading at (byte ∷ bytes) = reading_is at (byte ∷ bytes)
    ∙ rw begins (rw here refl) in
    front ∙ ap (answers_by reading at (byte ∷ bytes)) found

tells_fault : (behind : List ℕ) (code : Refusal) → BeginsCommand behind → found_at behind ≡ Err code → TellsFault code behind
tells_fault [] code begins found = absurd begins
tells_fault (byte ∷ bytes) code begins found =
    subst (IsRight (byte ∷ bytes)) found (command_at_is_right byte bytes begins)

-- where the first fault among the answers stands, or a place given for none
fault_place : ℕ → List WordAnswer → ℕ
fault_place none [] = none
fault_place none (Ok word ∷ answers) = fault_place none answers
fault_place none (Err fault ∷ answers) = fault.at

fault_place-told : (none : ℕ) (words : List FoundWord) (answers : List WordAnswer)
    → fault_place none (words_told words ++ answers) ≡ fault_place none answers
unfolding fault_place
fault_place-told none [] answers = refl
fault_place-told none (word ∷ words) answers = fault_place-told none words answers

abbrev PlacesFrom : ℕ → ℕ → Type 0
PlacesFrom none len = (at : ℕ) (text : List ℕ) → length text < len → at + length text ≤ none
    → at ≤ fault_place none (reading at text)

answers_from : (none at : ℕ) (text : List ℕ)
    → ((byte : ℕ) (rest : List ℕ) → text ≡ byte ∷ rest → is_skipped byte ≡ false) → at + length text ≤ none
    → PlacesFrom none (length text) → at ≤ fault_place none (answers_at reading at text)
unfolding fault_place
answers_from none at [] kept within behind = omega arith
answers_from none at (byte ∷ bytes) kept within behind =
    (elim (command_at byte bytes) as
    (λ found. IsRight (byte ∷ bytes) found → at ≤ fault_place none (answers_by reading at (byte ∷ bytes) found)) [
      | Ok command ↦ λ is.
          let len : ℕ = length (bytes_of_command command) in
          let some = has_a_byte command in
          let whole = length-append (bytes_of_command command) is.1.0 in
          let left = length-drop (length (bytes_of_command command)) (byte ∷ bytes) in
          let long : length (byte ∷ bytes) ≡ length (bytes_of_command command ++ is.1.0) = ap length is.1.1 in
          let after : at + length (bytes_of_command command) ≤ fault_place none
          (reading (at + length (bytes_of_command command)) (drop (length (bytes_of_command command)) (byte ∷ bytes))) =
          behind (at + length (bytes_of_command command)) (drop (length (bytes_of_command command)) (byte ∷ bytes))
          (omega arith) (omega arith) in
          omega arith
      | Err code ↦ λ is. omega arith
    ]) (command_at_is_right byte bytes (kept byte bytes refl))

places_within : (none limit at : ℕ) (text : List ℕ) → length text < limit → at + length text ≤ none
    → at ≤ fault_place none (reading at text)
places_within none zero at text below within = absurd (omega arith)
places_within none (suc limit) at text below within =
    let n : ℕ = prefix_len is_skipped text in
    let short = prefix_len-le-length is_skipped text in
    let left = length-drop (prefix_len is_skipped text) text in
    let after : at + prefix_len is_skipped text ≤ fault_place none
    (answers_at reading (at + prefix_len is_skipped text) (drop (prefix_len is_skipped text) text)) =
    answers_from none (at + prefix_len is_skipped text) (drop (prefix_len is_skipped text) text)
    (begins_unskipped text) (omega arith)
    (λ place rest shorter inside. places_within none limit place rest (omega arith) inside) in
    let same = ap (fault_place none) (reading_is at text) in omega arith

-- no pieces go on behind the place of the fault
longest_front : (text : List ℕ) (front pieces : List Piece) (rest : List ℕ) (fault : TextFault)
    → reading 0 text ≡ words_told (words_of 0 front) ++ Err fault ∷ [] → AllByRecursion IsPiece pieces
    → text ≡ flat_map bytes_of pieces ++ rest
    → length (flat_map bytes_of pieces) ≤ fault.at
unfolding fault_place
longest_front text front pieces rest fault read each e =
    let len : ℕ = length (flat_map bytes_of pieces) in
    let there : fault_place (length text) (reading 0 text) ≡ fault.at = ap (fault_place (length text)) read
    ∙ fault_place-told (length text) (words_of 0 front) (Err fault ∷ []) in
    let here : fault_place (length text) (reading 0 text)
    ≡ fault_place (length text) (reading (0 + length (flat_map bytes_of pieces)) rest) =
    ap (λ (bytes : List ℕ). fault_place (length text) (reading 0 bytes)) e
    ∙ ap (fault_place (length text)) (reading-pieces 0 pieces rest each)
    ∙ fault_place-told (length text) (words_of 0 pieces) (reading (0 + length (flat_map bytes_of pieces)) rest) in
    let long = ap length e in
    let whole = length-append (flat_map bytes_of pieces) rest in
    let bound : 0 + length (flat_map bytes_of pieces) ≤ fault_place (length text)
    (reading (0 + length (flat_map bytes_of pieces)) rest) =
    places_within (length text) (suc (length rest)) (0 + length (flat_map bytes_of pieces)) rest (omega arith)
    (omega arith) in
    omega arith

pub stops_at_the_longest_front : StopsAtTheLongestFront
stops_at_the_longest_front text =
    elim (cut_within (suc (length text)) text (omega arith)) [
      | inl cut ↦ inl cut
      | inr stop ↦
          inr (
            stop.0,
            stop.1,
            record { code = stop.2; at = length (flat_map bytes_of stop.0) },
            stopped stop.0 stop.1 stop.2 stop.3,
          )
    ]
  where
    stopped : (front : List Piece) (behind : List ℕ) (code : Refusal) → Stops text front behind code
        → IsCutUpTo text front behind (record { code = code; at = length (flat_map bytes_of front) })
    stopped front behind code stops =
        let place : 0 + length (flat_map bytes_of front) ≡ length (flat_map bytes_of front) = omega arith in
        let read : reading 0 text
        ≡ words_told (words_of 0 front) ++ Err (record { code = code; at = length (flat_map bytes_of front) }) ∷ [] =
        ap (reading 0) stops.joined ∙ reading-pieces 0 front behind stops.each
        ∙ ap (λ (n : ℕ). words_told (words_of 0 front) ++ reading n behind) place
        ∙ ap (λ (answers : List WordAnswer). words_told (words_of 0 front) ++ answers)
        (reading-fault (length (flat_map bytes_of front)) behind code stops.begins stops.found) in
        record {
          joined = stops.joined;
          cutting = record { joined = refl; each = stops.each; apart = stops.apart };
          begins = stops.begins;
          stuck = λ begins. no_piece behind code stops.begins stops.found begins.0 begins.1 begins.2 begins.3;
          longest =
              λ pieces rest each e. longest_front text front pieces rest
              (record { code = code; at = length (flat_map bytes_of front) }) read each e;
          read = read;
          place = refl;
          number = tells_fault behind code stops.begins stops.found;
        }
