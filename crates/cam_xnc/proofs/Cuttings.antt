-- A text has one cutting into lines, and that is the computed one.
use Rattle.std.proofs.lemmas.Grind.{common_steps}
use Rattle.std.proofs.Common.{◌≡◌, ℕ, suc, ◌+◌, ◌-◌, ◌<◌, ◌≤◌, not, List, [], ◌∷◌, ◌++◌, length, take, drop, Bool, true, false}
use Rattle.std.proofs.Common.{cond, eqb, refl, sym, ap, ◌∙◌, subst, arith, length-append, append_assoc, append-nil, inl, inr}
use Rattle.std.specs.List.{flat_map, AllByRecursion, position_or_len}
use Rattle.std.proofs.lemmas.List.{take-append-drop, drop-drop, length-take-le, take_rest}
use Rattle.std.proofs.lemmas.Bool.Decides.{eqb_tells}
use Rattle.cam_xnc.specs.Bytes.{is_line_end}
use Rattle.cam_xnc.specs.Lines.{LineEnd, LineFeed, CarriageReturn, ReturnAndFeed, InputEnd, TextLine, bytes_of_end}
use Rattle.cam_xnc.specs.Lines.{line_bytes, IsLine, BeginsWithFeed, IsEndedBefore, AreEnded, IsLineCutting, OneCutting}
use Rattle.cam_xnc.specs.Lines.{onto_line, empty_line, return_before, cut, found_at}
use Rattle.cam_xnc.specs.Machinery.Cutters.{end_len}

-- which byte stands at the front
data Front (byte : ℕ) : Type 0 where
  IsFeed : byte ≡ 10 → Front byte
  IsReturn : byte ≡ 13 → Front byte
  IsOther : eqb byte 10 ≡ false → eqb byte 13 ≡ false → Front byte

front : (byte : ℕ) → Front byte
front byte = grind (arith, eqb_tells)

cut-other : (byte : ℕ) (text : List ℕ) → eqb byte 10 ≡ false → eqb byte 13 ≡ false → cut (byte ∷ text) ≡ onto_line byte (cut text)
unfolding cut
cut-other byte text h k = rw (h, k) refl

cut-feed : (text : List ℕ) → cut (10 ∷ text) ≡ empty_line LineFeed ∷ cut text
unfolding cut
cut-feed text = refl

cut-return : (text : List ℕ) → cut (13 ∷ text) ≡ return_before (cut text)
unfolding cut
cut-return text = refl

pub cut-nil : cut [] ≡ []
unfolding cut
cut-nil = refl

-- CR before lines that do not begin with LF
return_alone : (lines : List TextLine) → ¬ BeginsWithFeed lines → return_before lines ≡ empty_line CarriageReturn ∷ lines
return_alone lines never = grind arith

-- what stands before a line end belongs to its line
onto_text : (front text : List ℕ) (ending : LineEnd) (lines : List TextLine) → AllByRecursion (λ byte. is_line_end byte ≡ false) front
    → cut text ≡ record { text = []; ending = ending } ∷ lines → cut (front ++ text) ≡ record { text = front; ending = ending } ∷ lines
onto_text [] text ending lines all e = e
onto_text (byte ∷ bytes) text ending lines all e = grind (arith, front, cut-other, onto_text bytes text ending lines all.1 e)

last_text : (text : List ℕ) → AllByRecursion (λ byte. is_line_end byte ≡ false) text → 0 < length text
    → cut text ≡ record { text = text; ending = InputEnd } ∷ []
last_text [] all h = absurd (omega (arith, h))
last_text (byte ∷ []) all h = grind (arith, front, cut-other, cut-nil)
last_text (byte ∷ next ∷ text) all h = grind (arith, front, cut-other, last_text (next ∷ text) all.1 (omega arith))

-- the lines of a cutting are found again
cut_line : (text : List ℕ) (ending : LineEnd) (lines : List TextLine) → AllByRecursion (λ byte. is_line_end byte ≡ false) text
    → IsEndedBefore (record { text = text; ending = ending }) lines ending
    → cut (flat_map line_bytes lines) ≡ lines → cut ((text ++ bytes_of_end ending) ++ flat_map line_bytes lines)
    ≡ record { text = text; ending = ending } ∷ lines
cut_line text LineFeed lines all here more =
    ap cut (append_assoc text (10 ∷ []) (flat_map line_bytes lines))
    ∙ onto_text text (10 ∷ flat_map line_bytes lines) LineFeed lines all
    (cut-feed (flat_map line_bytes lines) ∙ ap (λ (ls : List TextLine). empty_line LineFeed ∷ ls) more)
cut_line text CarriageReturn lines all here more =
    ap cut (append_assoc text (13 ∷ []) (flat_map line_bytes lines))
    ∙ onto_text text (13 ∷ flat_map line_bytes lines) CarriageReturn lines all
    (cut-return (flat_map line_bytes lines) ∙ ap return_before more ∙ return_alone lines here)
cut_line text ReturnAndFeed lines all here more =
    ap cut (append_assoc text (13 ∷ 10 ∷ []) (flat_map line_bytes lines))
    ∙ onto_text text (13 ∷ 10 ∷ flat_map line_bytes lines) ReturnAndFeed lines all
    (cut-return (10 ∷ flat_map line_bytes lines) ∙ ap return_before (cut-feed (flat_map line_bytes lines))
    ∙ ap (λ (ls : List TextLine). empty_line ReturnAndFeed ∷ ls) more)
cut_line text InputEnd lines all here more = grind (arith, append_assoc, append-nil, last_text)

cut_again : (lines : List TextLine) → AllByRecursion IsLine lines → AreEnded lines → cut (flat_map line_bytes lines) ≡ lines
cut_again [] each ended = cut-nil
cut_again (first ∷ lines) each ended = cut_line first.text first.ending lines each.0 ended.0 (cut_again lines each.1 ended.1)

-- a byte before a cutting
feed_before : (text : List ℕ) (lines : List TextLine) → IsLineCutting text lines → IsLineCutting (10 ∷ text) (empty_line LineFeed ∷ lines)
feed_before text lines is = record { joined = ap (λ (bytes : List ℕ). 10 ∷ bytes) is.joined; each = (tt, is.each); ended = (tt, is.ended) }

alone : (text : List ℕ) (lines : List TextLine) → ¬ BeginsWithFeed lines → IsLineCutting text lines
    → IsLineCutting (13 ∷ text) (return_before lines)
alone text lines never is = grind (arith, return_alone)

return_onto_cutting : (text : List ℕ) (lines : List TextLine) → IsLineCutting text lines → IsLineCutting (13 ∷ text) (return_before lines)
return_onto_cutting text lines is = grind (arith, alone, front)

no_end : (byte : ℕ) → eqb byte 10 ≡ false → eqb byte 13 ≡ false → is_line_end byte ≡ false
no_end byte h k = rw (h, k) refl

pub cut_is_cutting : (text : List ℕ) → IsLineCutting text (cut text)
cut_is_cutting [] = subst (IsLineCutting []) (sym cut-nil) (record { joined = refl; each = tt; ended = tt })
cut_is_cutting (byte ∷ text) =
    grind (arith, front, cut-feed, feed_before, cut-return, return_onto_cutting, cut-other, cut_is_cutting text)

pub one_cutting : OneCutting
one_cutting text = (cut_is_cutting text, λ others is. sym (cut_again others is.each is.ended) ∙ ap cut (sym is.joined))

-- a line end stands at the front, or nothing
abbrev EndsHere : List ℕ → Type 0
EndsHere [] = Unit {0}
EndsHere (byte ∷ text) = is_line_end byte ≡ true

-- so many bytes stand before the first line end
record IsFront (text : List ℕ) (len : ℕ) : Type 0 where
  lacks : AllByRecursion (λ byte. is_line_end byte ≡ false) (take len text)
  ends : EndsHere (drop len text)

front_of : (text : List ℕ) → IsFront text (position_or_len is_line_end text)
front_of [] = record { lacks = tt; ends = tt }
front_of (byte ∷ text) =
    let more = front_of text in
    let one : suc (position_or_len is_line_end text) ≡ 1 + position_or_len is_line_end text = omega arith in
    (elim (is_line_end byte)
    as (λ b. is_line_end byte ≡ b → IsFront (byte ∷ text) (cond (not b) (1 + position_or_len is_line_end text) 0)) [
      | true ↦ λ e. record { lacks = tt; ends = e }
      | false ↦ λ e. subst (IsFront (byte ∷ text)) one (record { lacks = (e, more.lacks); ends = more.ends })
    ]) refl

feed_first : (lines : List TextLine) → BeginsWithFeed lines → (rest : List ℕ) × (flat_map line_bytes lines ≡ 10 ∷ rest)
feed_first [] h = absurd h
feed_first (first ∷ lines) h = (
  flat_map line_bytes lines,
  ap (λ (text : List ℕ). (text ++ bytes_of_end first.ending) ++ flat_map line_bytes lines) h.0
      ∙ ap (λ (ending : LineEnd). bytes_of_end ending ++ flat_map line_bytes lines) h.1,
)

no_feed : (byte : ℕ) (text : List ℕ) → eqb byte 10 ≡ false → ¬ BeginsWithFeed (cut (byte ∷ text))
no_feed byte text h begins = grind (arith, feed_first, cut_is_cutting)

-- the line end at the front
record IsEnd (text : List ℕ) : Type 0 where
  ending : LineEnd
  cuts : cut text ≡ empty_line ending ∷ cut (drop (end_len text) text)
  len : length (bytes_of_end ending) ≡ end_len text

return_end : (text : List ℕ) → IsEnd (13 ∷ text)
return_end [] = grind (arith, cut-return, cut-nil)
return_end (byte ∷ text) = elim (eqb_tells byte 10) [
  | inl h ↦ subst (λ (b : ℕ). IsEnd (13 ∷ b ∷ text)) (sym h.1)
      (record { ending = ReturnAndFeed; cuts = cut-return (10 ∷ text) ∙ ap return_before (cut-feed text); len = refl })
  | inr h ↦ let one : end_len (13 ∷ byte ∷ text) ≡ 1 = rw h.0 refl in
      record {
        ending = CarriageReturn;
        cuts = cut-return (byte ∷ text) ∙ return_alone (cut (byte ∷ text)) (no_feed byte text h.0)
            ∙ ap (λ (n : ℕ). empty_line CarriageReturn ∷ cut (drop n (13 ∷ byte ∷ text))) (sym one);
        len = sym one;
      }
]

end_at : (byte : ℕ) (text : List ℕ) → is_line_end byte ≡ true → IsEnd (byte ∷ text)
end_at byte text is = grind (arith, front, cut-feed, return_end, no_end)

-- the line at the front of a text, of so many bytes without its end
record IsNext (text : List ℕ) (len : ℕ) : Type 0 where
  ending : LineEnd
  cuts : cut text ≡ record { text = take len text; ending = ending } ∷ cut (drop (len + end_len (drop len text)) text)
  ending_len : length (bytes_of_end ending) ≡ end_len (drop len text)

next_by : (text tail : List ℕ) (len : ℕ) → 0 < length text → drop len text ≡ tail
    → AllByRecursion (λ byte. is_line_end byte ≡ false) (take len text) → EndsHere tail → IsNext text len
next_by text [] len some is lacks ends =
    let whole : text ≡ take len text = sym (take-append-drop len text) ∙ ap (λ (rest : List ℕ). take len text ++ rest) is
    ∙ append-nil (take len text) in
    let none : drop (len + end_len (drop len text)) text ≡ [] = sym (drop-drop (end_len (drop len text)) len text) ∙ rw is refl in
    record {
      ending = InputEnd;
      cuts = ap cut whole ∙ last_text (take len text) lacks (subst (λ (t : List ℕ). 0 < length t) whole some)
          ∙ ap (λ (ls : List TextLine). record { text = take len text; ending = InputEnd } ∷ ls) (sym cut-nil ∙ ap cut (sym none));
      ending_len = rw is refl;
    }
next_by text (byte ∷ tail) len some is lacks ends =
    let end = end_at byte tail ends in
    let whole : text ≡ take len text ++ (byte ∷ tail) = sym (take-append-drop len text)
    ∙ ap (λ (rest : List ℕ). take len text ++ rest) is in
    let behind : drop (len + end_len (drop len text)) text ≡ drop (end_len (byte ∷ tail)) (byte ∷ tail) =
    sym (drop-drop (end_len (drop len text)) len text) ∙ rw is refl in
    record {
      ending = end.ending;
      cuts = ap cut whole
          ∙ onto_text (take len text) (byte ∷ tail) end.ending (cut (drop (end_len (byte ∷ tail)) (byte ∷ tail))) lacks end.cuts
          ∙ ap (λ (t : List ℕ). record { text = take len text; ending = end.ending } ∷ cut t) (sym behind);
      ending_len = end.len ∙ rw is refl;
    }

-- one line is found, and then those behind it
pub found_next : (at len : ℕ) (text : List ℕ) → 0 < length text → len ≡ position_or_len is_line_end text → len ≤ length text
    → found_at at (cut text) ≡ record { text = take len text; at = at }
    ∷ found_at (at + (len + end_len (drop len text))) (cut (drop (len + end_len (drop len text)) text))
found_next at len text some is within =
    let here : IsFront text len = subst (IsFront text) (sym is) (front_of text) in
    let next = next_by text (drop len text) len some refl here.lacks here.ends in
    let size : at + length (take len text ++ bytes_of_end next.ending) ≡ at + (len + end_len (drop len text)) =
    omega (arith, length-append (take len text) (bytes_of_end next.ending), length-take-le len text within, next.ending_len) in
    ap (found_at at) next.cuts
    ∙ ap (λ (n : ℕ). record { text = take len text; at = at } ∷ found_at n (cut (drop (len + end_len (drop len text)) text))) size

pub nothing_left : (at : ℕ) (text : List ℕ) → length text ≡ 0 → found_at at (cut text) ≡ []
nothing_left at text is = grind (arith, common_steps, cut-nil)

pub some_left : (n : ℕ) (empty : Bool) → empty ≡ eqb n 0 → empty ≡ false → 0 < n
some_left n empty is no_more = grind (arith, eqb_tells)

-- the same, of slices
pub given_next : (at len after : ℕ) (text : List ℕ) → 0 < length text → len ≡ position_or_len is_line_end text → len ≤ length text
    → after ≡ end_len (take (length text - len) (drop len text))
    → found_at at (cut text) ≡ record { text = take len text; at = at }
    ∷ found_at (at + (len + after)) (cut (take (length text - (len + after)) (drop (len + after) text)))
given_next at len after text some is within ends = grind (arith, take_rest, found_next)
