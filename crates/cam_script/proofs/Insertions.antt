-- A line of an insertion is read as the insertion.
use Rattle.std.proofs.Common.{◌≡◌, ℕ, ◌<◌, ◌≤◌, ◌^◌, Bool, true, false, List, [], ◌∷◌, ◌++◌, length}
use Rattle.std.proofs.Common.{Option, Some, Ok, Err, refl, ap, ◌∙◌, arith, subst, if◌then◌else◌}
use Rattle.std.specs.Prelude.{◌&&◌, codes, decimal, All, nat_le, nat_lt}
use Rattle.std.specs.List.{flat_map, list_all}
use Rattle.std.proofs.lemmas.Bool.{ltb-true}
use Rattle.std.proofs.lemmas.Bool.Decides.{nat_tests}
use Rattle.std.proofs.lemmas.List.Elements.{All-head, All-tail}
use Rattle.cam_units.specs.Board.{IsOnBoard}
use Rattle.cam_units.specs.declared.point.Point.{Point}
use Rattle.cam_shapes.specs.declared.segments.Seg.{Seg}
use Rattle.cam_objects.specs.Soundness.{points_of_seg}
use Rattle.cam_objects.specs.declared.drill_item.DrillItem.{DrillItem}
use Rattle.cam_objects.specs.declared.drill_item.DrillItem.TheVariants.{Hit, Rout}
use Rattle.cam_objects.specs.declared.item.Item.TheVariants.{One, Repeat}
use Rattle.cam_objects.specs.declared.object.Object.{Object}
use Rattle.cam_objects.specs.declared.object.Object.TheVariants.{Flash, Draw, Arc, Region}
use Rattle.cam_edits.specs.declared.edit.NewItem.{NewItem}
use Rattle.cam_edits.specs.declared.edit.NewItem.TheVariants as new_items
use Rattle.cam_refusals.specs.Limits.{line_limit}
use Rattle.cam_script.specs.declared.line.LineFault.TheVariants.{Memory}
use Rattle.cam_script.specs.Words.{is_name, is_name_byte, words}
use Rattle.cam_script.specs.Items.{item_in, region_of}
use Rattle.cam_script.specs.Parsing.{parsed, line_said_by}
use Rattle.cam_script.specs.Spelling.{IsSayable, IsSayableDrilling, WordsReadBack, drill_form, drill_item_text, drill_words, insertion, insertion_text, object_form, object_text, object_words, point_words, spaced}
use Rattle.cam_script.proofs.Spelled.{both_hold, decimal_word, is_solid, is_word, words_spelled}
use Rattle.cam_script.proofs.ReadBack.{
  count_reads,
  direction_is_word,
  direction_reads,
  point_reads,
  points_are_words,
  points_read,
  polarity_is_word,
  polarity_reads,
  segs_are_words,
  segs_read,
  tool_reads,
  turn_is_word,
  turn_reads,
  x_is_word,
  y_is_word,
}

-- ---- names are words

both : (a b : Bool) → (a && b) ≡ true → (a ≡ true) × (b ≡ true)
both true b e = (refl, e)
both false b e = absurd cc

solid_name_byte : (b : ℕ) → is_name_byte b ≡ true → is_solid b ≡ true
solid_name_byte b e = grind (arith, nat_tests)

solid_name : (name : List ℕ) → list_all is_name_byte name ≡ true → list_all is_solid name ≡ true
solid_name [] e = refl
solid_name (b ∷ bs) e =
    let parts = both (is_name_byte b) (list_all is_name_byte bs) e in
    both_hold (is_solid b) (list_all is_solid bs) (solid_name_byte b parts.0) (solid_name bs parts.1)

filled_name : (n : ℕ) → nat_le 1 n ≡ true → nat_lt 0 n ≡ true
filled_name n e = grind (arith, nat_tests)

name_word : (name : List ℕ) → is_name name ≡ true → is_word name ≡ true
name_word name e =
    let outer = both (nat_le 1 (length name) && nat_le (length name) 32) (list_all is_name_byte name) e in
    let inner = both (nat_le 1 (length name)) (nat_le (length name) 32) outer.0 in
    both_hold (nat_lt 0 (length name)) (list_all is_solid name) (filled_name (length name) inner.0) (solid_name name outer.1)

-- ---- the line

short_line : (n : ℕ) → n ≤ line_limit → nat_lt line_limit n ≡ false
short_line n h = grind (arith, nat_tests)

insertion_said : (name : List ℕ) (k : ℕ) (item : NewItem) (form : List ℕ) (rest : List (List ℕ)) (no_memory : Bool)
    → is_name name ≡ true → k < 2 ^ 32 → item_in form rest ≡ Some item
    → line_said_by (codes "insert" ∷ name ∷ decimal k ∷ form ∷ rest) no_memory
    ≡ (if no_memory then Err Memory else Ok (Some (insertion name k item)))
insertion_said name k item form rest true named small read = rw (named, count_reads k small, read) refl
insertion_said name k item form rest false named small read = rw (named, count_reads k small, read) refl

insertion_read : (name : List ℕ) (k : ℕ) (item : NewItem) (form : List ℕ) (rest : List (List ℕ)) (no_memory : Bool)
    → is_name name ≡ true → k < 2 ^ 32 → is_word form ≡ true → list_all is_word rest ≡ true
    → item_in form rest ≡ Some item → length (insertion_text name k (form ++ spaced rest)) ≤ line_limit
    → parsed (insertion_text name k (form ++ spaced rest)) no_memory
    ≡ (if no_memory then Err Memory else Ok (Some (insertion name k item)))
insertion_read name k item form rest no_memory named small form_word rest_words read short =
    let cut : words (insertion_text name k (form ++ spaced rest)) ≡ codes "insert" ∷ name ∷ decimal k ∷ form ∷ rest =
    words_spelled (codes "insert") (name ∷ decimal k ∷ form ∷ rest) refl
    (both_hold (is_word name) (list_all is_word (decimal k ∷ form ∷ rest)) (name_word name named)
    (both_hold (is_word (decimal k)) (list_all is_word (form ∷ rest)) (decimal_word k (omega arith))
    (both_hold (is_word form) (list_all is_word rest) form_word rest_words))) in
    rw (short_line (length (insertion_text name k (form ++ spaced rest))) short)
    (ap (λ ws. line_said_by ws no_memory) cut ∙ insertion_said name k item form rest no_memory named small read)

-- ---- objects

form_is_word : (object : Object) → is_word (object_form object) ≡ true
form_is_word (Flash n at turn dark) = refl
form_is_word (Draw n from to turn dark) = refl
form_is_word (Arc ccw dark n from to centre) = refl
form_is_word (Region contour dark) = refl

region_read : (dark : Bool) (start : Point) (segs : List Seg) → 0 < length segs
    → region_of dark start segs ≡ Some (Region (record { start = start; segs = segs }) dark)
region_read dark start [] h = absurd (omega (arith, h))
region_read dark start (seg ∷ segs) h = refl

-- of three points
module _ (a b c : Point) (on : All IsOnBoard (a ∷ b ∷ c ∷ [])) where
  three_first : IsOnBoard a
  three_first = All-head IsOnBoard a (b ∷ c ∷ []) on

  three_second : IsOnBoard b
  three_second = All-head IsOnBoard b (c ∷ []) (All-tail IsOnBoard a (b ∷ c ∷ []) on)

  three_third : IsOnBoard c
  three_third = All-head IsOnBoard c [] (All-tail IsOnBoard b (c ∷ []) (All-tail IsOnBoard a (b ∷ c ∷ []) on))

-- of two
module _ (a b : Point) (on : All IsOnBoard (a ∷ b ∷ [])) where
  two_first : IsOnBoard a
  two_first = All-head IsOnBoard a (b ∷ []) on

  two_second : IsOnBoard b
  two_second = All-head IsOnBoard b [] (All-tail IsOnBoard a (b ∷ []) on)

words_are_words : (object : Object) → IsSayable object → list_all is_word (object_words object) ≡ true
words_are_words (Flash n at turn dark) s =
    let on = All-head IsOnBoard at [] s.points in
    rw (decimal_word n (omega (arith, s.number)), x_is_word at on, y_is_word at on, turn_is_word turn, polarity_is_word dark) refl
words_are_words (Draw n from to turn dark) s =
    let on1 = two_first from to s.points in
    let on2 = two_second from to s.points in
    rw (
      decimal_word n (omega (arith, s.number)),
      x_is_word from on1,
      y_is_word from on1,
      x_is_word to on2,
      y_is_word to on2,
      turn_is_word turn,
      polarity_is_word dark,
    ) refl
words_are_words (Arc ccw dark n from to centre) s =
    let on1 = three_first from to centre s.points in
    let on2 = three_second from to centre s.points in
    let on3 = three_third from to centre s.points in
    rw (
      decimal_word n (omega (arith, s.number)),
      x_is_word from on1,
      y_is_word from on1,
      x_is_word to on2,
      y_is_word to on2,
      x_is_word centre on3,
      y_is_word centre on3,
      direction_is_word ccw,
      polarity_is_word dark,
    ) refl
words_are_words (Region contour dark) s =
    let on = All-head IsOnBoard contour.start (flat_map points_of_seg contour.segs) s.points in
    rw (polarity_is_word dark, x_is_word contour.start on, y_is_word contour.start on)
    (segs_are_words contour.segs (All-tail IsOnBoard contour.start (flat_map points_of_seg contour.segs) s.points))

object_read : (object : Object) → IsSayable object → item_in (object_form object) (object_words object) ≡ Some (new_items.Gerber (One object))
object_read (Flash n at turn dark) s =
    let on = All-head IsOnBoard at [] s.points in
    rw (count_reads n s.number, point_reads at on, turn_reads turn, polarity_reads dark) refl
object_read (Draw n from to turn dark) s =
    let on1 = two_first from to s.points in
    let on2 = two_second from to s.points in
    rw (count_reads n s.number, point_reads from on1, point_reads to on2, turn_reads turn, polarity_reads dark) refl
object_read (Arc ccw dark n from to centre) s =
    let on1 = three_first from to centre s.points in
    let on2 = three_second from to centre s.points in
    let on3 = three_third from to centre s.points in
    rw (count_reads n s.number, point_reads from on1, point_reads to on2, point_reads centre on3, direction_reads ccw, polarity_reads dark) refl
object_read (Region contour dark) s =
    let on = All-head IsOnBoard contour.start (flat_map points_of_seg contour.segs) s.points in
    let rest = All-tail IsOnBoard contour.start (flat_map points_of_seg contour.segs) s.points in
    rw (polarity_reads dark, point_reads contour.start on, segs_read contour.segs rest, region_read dark contour.start contour.segs (ltb-true 0 (length contour.segs) s.formed)) refl

-- ---- drill items

drill_form_is_word : (item : DrillItem) → is_word (drill_form item) ≡ true
drill_form_is_word (Hit tool at) = refl
drill_form_is_word (Rout tool points) = refl

drill_words_are_words : (item : DrillItem) → IsSayableDrilling item → list_all is_word (drill_words item) ≡ true
drill_words_are_words (Hit tool at) s =
    let on = All-head IsOnBoard at [] s.points in
    rw (decimal_word tool (omega (arith, s.tool)), x_is_word at on, y_is_word at on) refl
drill_words_are_words (Rout tool points) s =
    both_hold (is_word (decimal tool)) (list_all is_word (flat_map point_words points)) (decimal_word tool (omega (arith, s.tool)))
    (points_are_words points s.points)

drill_read : (item : DrillItem) → IsSayableDrilling item → item_in (drill_form item) (drill_words item) ≡ Some (new_items.Drill item)
drill_read (Hit tool at) s =
    let on = All-head IsOnBoard at [] s.points in
    rw (tool_reads tool s.tool, point_reads at on) refl
drill_read (Rout tool []) s = absurd (omega (arith, s.formed))
drill_read (Rout tool (p ∷ points)) s = rw (tool_reads tool s.tool, points_read (p ∷ points) s.points) refl

-- ---- items

same_words : (a b : List ℕ) → ◌≡◌ {A = Option (List ℕ)} (Some a) (Some b) → a ≡ b
same_words a b e = cc

pub words_read_back_lem : WordsReadBack
words_read_back_lem name k (new_items.Gerber (One object)) words no_memory named small said are short =
    let same : object_text object ≡ words = same_words (object_text object) words are in
    let P : List ℕ → Type 0 = λ ws. length (insertion_text name k ws) ≤ line_limit → parsed (insertion_text name k ws) no_memory
    ≡ (if no_memory then Err Memory else Ok (Some (insertion name k (new_items.Gerber (One object))))) in
    subst P same (insertion_read name k (new_items.Gerber (One object)) (object_form object) (object_words object) no_memory named small
    (form_is_word object) (words_are_words object said) (object_read object said)) short
words_read_back_lem name k (new_items.Gerber (Repeat columns rows i j objects)) words no_memory named small said are short =
    absurd said
words_read_back_lem name k (new_items.Drill item) words no_memory named small said are short =
    let same : drill_item_text item ≡ words = same_words (drill_item_text item) words are in
    let P : List ℕ → Type 0 = λ ws. length (insertion_text name k ws) ≤ line_limit → parsed (insertion_text name k ws) no_memory
    ≡ (if no_memory then Err Memory else Ok (Some (insertion name k (new_items.Drill item)))) in
    subst P same (insertion_read name k (new_items.Drill item) (drill_form item) (drill_words item) no_memory named small
    (drill_form_is_word item) (drill_words_are_words item said) (drill_read item said)) short
