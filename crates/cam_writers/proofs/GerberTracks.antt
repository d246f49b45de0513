-- The running state of the writer after one phrase more.
use Rattle.std.proofs.Common.{arith, ◌≡◌, ℕ, ◌+◌, ◌<◌, ◌≤◌, List, [], ◌∷◌, ◌++◌, length, take, Bool, true, false, Some, None}
use Rattle.std.proofs.Common.{append-nil, append_assoc, get_or, slice_index_or, refl, sym, subst, ap, ap₂, ◌∙◌}
use Rattle.std.specs.Prelude.{ℤ, pos, if◌then◌else◌}
use Rattle.std.specs.List.{fold, flat_map, All, AllByRecursion}
use Rattle.std.specs.Global.{Vec}
use Rattle.std.proofs.lemmas.List.{take_all, take_more}
use Rattle.std.proofs.lemmas.List.Elements.{All-cons, All-head, All-nil, All-tail}
use Rattle.cam_units.specs.declared.point.Point.{Point}
use Rattle.cam_units.specs.declared.turn.Turn.{Turn}
use Rattle.cam_units.specs.declared.turn.Turn.TheVariants.{R0}
use Rattle.cam_units.specs.Board.{IsOnBoard}
use Rattle.cam_shapes.specs.Contour.{end_of}
use Rattle.cam_shapes.specs.declared.segments.Seg.{Seg}
use Rattle.cam_shapes.specs.declared.segments.Seg.TheVariants.{Line, Curve}
use Rattle.cam_apertures.specs.declared.aperture.Aperture.{Aperture as Shape}
use Rattle.cam_objects.specs.declared.attribute.Attribute.{Attribute}
use Rattle.cam_objects.specs.declared.entry.Entry.{Entry}
use Rattle.cam_objects.specs.declared.entry.Entry.TheVariants.{Aperture, Block}
use Rattle.cam_objects.specs.declared.item.Item.{Item}
use Rattle.cam_objects.specs.declared.item.Item.TheVariants.{One}
use Rattle.cam_objects.specs.Attributes.{AreAttributes}
use Rattle.cam_objects.specs.Soundness.{IsSoundContent, IsSoundDictionary, MayAddEntry, objects_of, points_of_seg}
use Rattle.cam_objects.proofs.SoundItems.{meets}
use Rattle.cam_commands.specs.declared.parts.Mode.TheVariants.{Linear}
use Rattle.cam_commands.specs.declared.parts.OperationCode.{OperationCode}
use Rattle.cam_commands.specs.declared.parts.Slot.{Slot}
use Rattle.cam_gerber.specs.State.{Past}
use Rattle.cam_writers.specs.declared.gerber_state.GerberText.{GerberText}
use Rattle.cam_writers.specs.Phrases.{Phrase, line_of, mirror_of, operation_to, rotation_of, said, spelled, UseFormat}
use Rattle.cam_writers.specs.Phrases.{UseMillimetres, Attach, UseArcs, UsePolarity, UseMirror, UseRotation}
use Rattle.cam_writers.specs.Phrases.{UseAperture, UseMode, MoveTo, FlashAt, LineTo, ArcTo, Finish}
use Rattle.cam_writers.specs.GerberTexts.{Phrases, gerber_text, is_same_turn, opening, phrases_before_end, said_by, text_of}
use Rattle.cam_writers.specs.GerberTexts.{units, with_entry, with_attribute_of, with_rotation, with_segment, with_segments}
use Rattle.cam_writers.specs.Machinery.Tracking.{attribute_lines, AreEntryPoints, ArePoints, TracksPast, TracksPhrases}
use Rattle.cam_writers.proofs.GerberAttributes.{opens}
use Rattle.cam_writers.proofs.Walks.{sound_in}
use Rattle.cam_writers.proofs.GerberPlaces.{coordinate_again, dark_again, mirror_again, rotation_again}

-- ---- one phrase more

-- the values that a phrase leaves
abbrev pub set : Phrase → GerberText → GerberText
set (UsePolarity dark) w = record w { dark = dark }
set (UseMirror turn) w = record w { mirror = mirror_of turn }
set (UseRotation turn) w = record w { rotation = rotation_of turn }
set (UseAperture n) w = record w { aperture = Some n }
set (UseMode mode) w = record w { mode = mode }
set (MoveTo to) w = record w { point = to }
set (FlashAt at) w = record w { point = at }
set (LineTo to) w = record w { point = to }
set (ArcTo start to centre) w = record w { point = to }
set _ w = w

-- and its text
abbrev pub after : Phrase → GerberText → Vec ℕ → GerberText
after phrase w text = record (set phrase w) { text = text }

module _ (past : Past) (w : GerberText) (text : Vec ℕ) (h : TracksPast past w) where
  -- an operation goes to its point
  moved : (to : Point) (across up : Slot ℤ) (code : OperationCode)
      → TracksPast (operation_to to across up code ∷ past) (record w { text = text; point = to })
  moved to across up code = grind (arith, coordinate_again)

  values_after : (phrase : Phrase) → TracksPast (said phrase ∷ past) (after phrase w text)
  values_after (UsePolarity dark) = search (sym (dark_again dark), h)
  values_after (UseMirror turn) = search (sym (mirror_again turn), h)
  values_after (UseRotation turn) = search (sym (rotation_again turn), h)
  values_after (MoveTo to) = moved to _ _ _
  values_after (FlashAt at) = moved at _ _ _
  values_after (LineTo to) = moved to _ _ _
  values_after (ArcTo start to centre) = moved to _ _ _
  values_after _ = search h

-- a text with the line of one phrase more
abbrev pub IsLonger : Phrase → GerberText → Vec ℕ → Type 0
IsLonger phrase old text = text.items ≡ old.text.items ++ line_of (spelled phrase)

pub written : (phrase : Phrase) (phrases : Phrases) (w : GerberText) (text : Vec ℕ) → TracksPhrases phrases w
    → IsLonger phrase w text → TracksPhrases (phrase ∷ phrases) (after phrase w text)
written phrase phrases w text h longer = record {
  text = longer ∙ ap (λ (front : List ℕ). front ++ line_of (spelled phrase)) h.text;
  values = values_after (said_by phrases) w text h.values phrase;
}

-- the same of the definition of an aperture, behind that of its macro
pub defined : (phrases : Phrases) (w : GerberText) (text : Vec ℕ) (n : ℕ) (a : Shape) → TracksPhrases phrases w
    → text.items ≡ w.text.items ++ text_of (with_entry [] (n, Aperture a))
    → TracksPhrases (with_entry phrases (n, Aperture a)) (record w { text = text })
defined phrases w text n a h longer = grind (arith, append_assoc, written)

-- ---- settings of another value

setting_written : (same : Bool) (phrase : Phrase) (phrases : Phrases) (w : GerberText) (text : Vec ℕ) → same ≡ false
    → TracksPhrases phrases w → IsLonger phrase w text
    → TracksPhrases (if same then phrases else phrase ∷ phrases) (after phrase w text)
setting_written true phrase phrases w text other h longer = absurd cc
setting_written false phrase phrases w text other h longer = written phrase phrases w text h longer

module _ (phrases : Phrases) (w : GerberText) (text : Vec ℕ) (h : TracksPhrases phrases w) where
  pub rotation_written : (turn rotation : Turn) → rotation ≡ rotation_of turn
      → is_same_turn w.rotation rotation ≡ false → IsLonger (UseRotation turn) w text
      → TracksPhrases (with_rotation turn phrases) (record w { text = text; rotation = rotation })
  rotation_written turn rotation is other longer =
      subst (λ (r : Turn). TracksPhrases (with_rotation turn phrases) (record w { text = text; rotation = r })) (sym is)
      (setting_written _ (UseRotation turn) phrases w text
      (ap₂ is_same_turn (sym h.values.rotation) (sym is) ∙ other) h longer)

-- ---- segments, one more

-- where segments end
abbrev pub where_after : Point → List Seg → Point
where_after here [] = here
where_after here (seg ∷ segs) = where_after (end_of seg) segs

with_last : (here : Point) (segs : List Seg) (seg : Seg) (phrases : Phrases)
    → with_segments here (segs ++ seg ∷ []) phrases
    ≡ with_segment (where_after here segs) seg (with_segments here segs phrases)
with_last here [] seg phrases = refl
with_last here (first ∷ segs) seg phrases = with_last (end_of first) segs seg (with_segment here first phrases)

after_last : (here : Point) (segs : List Seg) (seg : Seg) → where_after here (segs ++ seg ∷ []) ≡ end_of seg
after_last here [] seg = refl
after_last here (first ∷ segs) seg = after_last (end_of first) segs seg

pub ends_on_board : (seg : Seg) → All IsOnBoard (points_of_seg seg) → IsOnBoard (end_of seg)
ends_on_board seg on = grind (arith, All-head)

pub end_more : (here : Point) (segs : List Seg) (place : ℕ) (seg : Seg) → place < length segs
    → where_after here (take (place + 1) segs) ≡ end_of (get_or segs place seg)
end_more here segs place seg below =
    ap (where_after here) (take_more segs place seg below)
    ∙ after_last here (take place segs) (get_or segs place seg)

pub segment_tracked : (start here : Point) (segs : List Seg) (place : ℕ) (seg : Seg) (phrases : Phrases)
    (w : GerberText) → place < length segs → here ≡ where_after start (take place segs)
    → TracksPhrases (with_segment here (get_or segs place seg) (with_segments start (take place segs) phrases)) w
    → TracksPhrases (with_segments start (take (place + 1) segs) phrases) w
segment_tracked start here segs place seg phrases w below is h =
    let one : Seg = get_or segs place seg in
    let before : Phrases = with_segments start (take place segs) phrases in
    subst (λ (ps : Phrases). TracksPhrases ps w)
    (ap (λ (p : Point). with_segment p one before) is ∙ sym (with_last start (take place segs) one phrases)
    ∙ sym (ap (λ (front : List Seg). with_segments start front phrases) (take_more segs place seg below))) h

-- ---- points lie on the board

pub segments_on_board : (segs : List Seg) → All IsOnBoard (flat_map points_of_seg segs)
    → AllByRecursion (λ seg. All IsOnBoard (points_of_seg seg)) segs
segments_on_board [] on = tt
segments_on_board (Line to ∷ segs) on =
    let rest : List Point = flat_map points_of_seg segs in (
      All-cons IsOnBoard to [] (All-head IsOnBoard to rest on) (All-nil IsOnBoard),
      segments_on_board segs (All-tail IsOnBoard to rest on),
    )
segments_on_board (Curve to centre ccw ∷ segs) on =
    let rest : List Point = flat_map points_of_seg segs in
    let others = All-tail IsOnBoard to (centre ∷ rest) on in
    let middle = All-cons IsOnBoard centre [] (All-head IsOnBoard centre rest others) (All-nil IsOnBoard) in (
      All-cons IsOnBoard to (centre ∷ []) (All-head IsOnBoard to (centre ∷ rest) on) middle,
      segments_on_board segs (All-tail IsOnBoard centre rest others),
    )

pub entry_points : (entries : List (ℕ × Entry)) → IsSoundDictionary entries → All (λ e. AreEntryPoints e.1) entries
entry_points entries sound k d below =
    let e = slice_index_or entries k d in by (take k entries) e.0 e.1 (sound k d below)
  where
    by : (before : List (ℕ × Entry)) (n : ℕ) (entry : Entry) → MayAddEntry before n entry → AreEntryPoints entry
    by before n (Aperture aperture) may = tt
    by before n (Block objects) may = λ place object within.
        let o = get_or objects place object in
        All-head ArePoints o [] (meets before (One o) (may.sound.each place object within)).inside.points

pub item_points : (entries : List (ℕ × Entry)) (items listed : List Item) (place : ℕ) (item : Item)
    → IsSoundContent entries listed → items ≡ listed → place < length items → item ≡ get_or items place item
    → All ArePoints (objects_of item)
item_points entries items listed place item sound same below is = grind (arith, meets, sound_in)

-- ---- the beginning and the end of a text

lines_told : (attributes : List Attribute) (phrases : Phrases)
    → text_of (fold with_attribute_of phrases attributes) ≡ text_of phrases ++ attribute_lines attributes
lines_told [] phrases = sym (append-nil (text_of phrases))
lines_told (a ∷ attributes) phrases =
    lines_told attributes (Attach a ∷ phrases)
    ∙ append_assoc (text_of phrases) (line_of (spelled (Attach a))) (attribute_lines attributes)

-- two commands, the lines of the attributes, and two commands more, one behind the other
pub opened : (attributes : List Attribute) (first second third fourth fifth : Vec ℕ) → AreAttributes attributes
    → first.items ≡ line_of (spelled UseFormat) → second.items ≡ first.items ++ line_of (spelled UseMillimetres)
    → third.items ≡ second.items ++ attribute_lines attributes
    → fourth.items ≡ third.items ++ line_of (spelled (UseMode Linear))
    → fifth.items ≡ fourth.items ++ line_of (spelled UseArcs)
    → TracksPhrases (opening attributes) (record {
      text = fifth;
      dark = true;
      mirror = R0;
      rotation = R0;
      aperture = None;
      mode = Linear;
      point = record { x = pos 0; y = pos 0 };
    })
unfolding opening
opened attributes first second third fourth fifth set e1 e2 e3 e4 e5 =
    let o = opens attributes set in
    let told = lines_told attributes units in
    record {
      text = cc;
      values = search (o, sym o.dark, sym o.mirror, sym o.rotation, sym o.aperture, sym o.point);
    }

pub ended : (attributes : List Attribute) (entries : List (ℕ × Entry)) (items listed : List Item) (n : ℕ) (w : GerberText)
    (text : Vec ℕ) → TracksPhrases (phrases_before_end attributes entries (take n items)) w → length items ≤ n
    → items ≡ listed → IsLonger Finish w text → text.items ≡ gerber_text attributes entries listed
unfolding gerber_text
ended attributes entries items listed n w text h all same longer = grind (arith, take_all)
