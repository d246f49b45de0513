-- Exact write, and loads of what was written.
use Rattle.std.proofs.Common.{◌≡◌, ℕ, ◌+◌, ◌<◌, ◌≤◌, Bool, true, false, cond, eqb, List, [], ◌∷◌, ◌++◌, length, Option}
use Rattle.std.proofs.Common.{None, Some, Ok, refl, sym, ap, ◌∙◌, subst, arith, nat_le, nat_lt, position, length-append}
use Rattle.std.specs.Prelude.{is_some, not, slice_get}
use Rattle.std.specs.List.{position_or_len}
use Rattle.std.specs.Option.{option_map}
use Rattle.std.specs.Str.{bytes_eq}
use Rattle.std.proofs.lemmas.Bool.{lt-leb, lt-ltb}
use Rattle.std.proofs.lemmas.Bool.Decides.{nat_tests}
use Rattle.std.proofs.lemmas.List.Folds.{position_or_len_push}
use Rattle.std.proofs.lemmas.List.Sums.{prefix_len-le-length}
use Rattle.std.proofs.lemmas.Slice.Eq.{bytes_eq-Decides}
use Rattle.cam_writers.proofs.GerberReadingBack.{gerber_reads_back}
use Rattle.cam_writers.proofs.ReadingBack.{reads_back}
use Rattle.cam_script.specs.declared.command.Command.TheVariants.{Load}
use Rattle.cam_script.specs.declared.command.FileKind.{FileKind}
use Rattle.cam_station.specs.declared.reply.Numbers.TheVariants.{One}
use Rattle.cam_station.specs.declared.reply.Reply.{Reply}
use Rattle.cam_station.specs.declared.reply.Reply.TheVariants.{Bytes, Numbers}
use Rattle.cam_edits.specs.Boards.{content_at, content_or_empty, place_named}
use Rattle.cam_edits.specs.Sheets.{AreSound, Content, Gerber, Drill, IsSound, Sheet, item_count, sheet}
use Rattle.cam_station.specs.Documents.{content_named}
use Rattle.cam_edits.specs.Images.{image_of}
use Rattle.cam_station.specs.Machine.{State, Outcome, MemoryGrant, Granted, RefusedToReader, RefusedToStation, fresh}
use Rattle.cam_station.specs.Machine.{load_read, reader_answer, refused, step, with_sheet, write_at}
use Rattle.cam_station.specs.Meanings.{drill_meaning, gerber_meaning, meaning_of}
use Rattle.cam_refusals.specs.declared.refusal.Refusal.{Refusal}
use Rattle.cam_refusals.specs.declared.refusal.Refusal.TheVariants.{GroupOpen, NameTaken, TooManyLayers}
use Rattle.cam_station.specs.Limits.{layer_limit}
use Rattle.cam_station.specs.Calls.{Call, state_after, states_after}
use Rattle.cam_station.specs.Writes.{ExactWrite, IsWriteOf, IsWritten, WrittenIsAccepted, WrittenLoadsAgain, load_of}
use Rattle.cam_station.specs.Writing.{kind_of, text_of}
use Rattle.cam_station.proofs.Reached.{IsReached, reached}
use Rattle.cam_station.proofs.SoundContents.{place_sound}
use Rattle.cam_tiles.specs.Picture.{plot_of}

-- ---- the last sheet

last_there : (sheets : List Sheet) (s : Sheet) → slice_get (sheets ++ s ∷ []) (length sheets) ≡ Some s
last_there [] s = refl
last_there (x ∷ sheets) s = last_there sheets s

past_end : (n m : ℕ) → cond (nat_lt n m) (Some n) None ≡ None → m ≤ n
past_end n m e = grind (arith, nat_tests)

at_end : (n m : ℕ) → m ≤ n → n ≤ m → eqb n m ≡ true
at_end n m low high = grind (arith, nat_tests)

before_end : (n m : ℕ) → m ≡ n + 1 → cond (nat_lt n m) (Some n) None ≡ Some n
before_end n m e = rw (lt-ltb n m (omega (arith, e))) refl

-- where none before it passes, the last one is the first
last_first : (test : Sheet → Bool) (sheets : List Sheet) (s : Sheet) → position test sheets ≡ None → test s ≡ true
    → position test (sheets ++ s ∷ []) ≡ Some (length sheets)
last_first test sheets s none passes =
    let n : ℕ = position_or_len test sheets in
    let low : length sheets ≤ n = past_end n (length sheets) none in
    let first : position_or_len test (sheets ++ s ∷ []) ≡ length sheets =
    position_or_len_push test sheets s
    ∙ rw (at_end n (length sheets) low (prefix_len-le-length (λ x. not (test x)) sheets), passes) (omega arith) in
    rw first (before_end (length sheets) (length (sheets ++ s ∷ [])) (length-append sheets (s ∷ [])))

own_name : (name : List ℕ) → bytes_eq name name ≡ true
own_name name = (bytes_eq-Decides name name).1 refl

last_place : (name : List ℕ) (sheets : List Sheet) (c : Content) → place_named name sheets ≡ None
    → place_named name (sheets ++ sheet name c ∷ []) ≡ Some (length sheets)
unfolding place_named
last_place name sheets c free = last_first (λ s. bytes_eq s.name name) sheets (sheet name c) free (own_name name)

last_named : (name : List ℕ) (sheets : List Sheet) (c : Content) → place_named name sheets ≡ None
    → content_named name (sheets ++ sheet name c ∷ []) ≡ Some c
last_named name sheets c free =
    let all : List Sheet = sheets ++ sheet name c ∷ [] in
    ap (option_map (content_at all)) (last_place name sheets c free)
    ∙ ap (λ o. Some (content_or_empty o)) (last_there sheets (sheet name c))

-- ---- loads

-- a load of a file of a known meaning, in its state
module _ (s : State) (name : List ℕ) (kind : FileKind) (file : List ℕ) (c : Content)
    (means : meaning_of kind file ≡ Ok c) where
  passed : (test : Bool) (refusal : Refusal) (after : State × Outcome) (reply : Reply)
      → (cond test (s, refused refusal) after).1 ≡ Ok reply → test ≡ false
  passed true refusal after reply h = absurd cc
  passed false refusal after reply h = refl

  read_in : MemoryGrant → State × Outcome
  read_in m = load_read s name m (reader_answer m (Ok c))

  read_adds : (m : MemoryGrant) (reply : Reply) → (read_in m).1 ≡ Ok reply → (read_in m).0 ≡ with_sheet s name c
  unfolding read_in
  read_adds Granted reply h = refl
  read_adds RefusedToReader reply h = absurd cc
  read_adds RefusedToStation reply h = absurd cc

  untaken : (place : Option ℕ) → is_some place ≡ false → place ≡ None
  untaken None e = refl
  untaken (Some n) e = absurd cc

  -- the name was free, and the layer stands last
  record Adds (m : MemoryGrant) : Type 0 where
    free : place_named name s.timeline.document ≡ None
    after : (step s (Load name kind file) m).0 ≡ with_sheet s name c

  load_adds : (m : MemoryGrant) (reply : Reply) → (step s (Load name kind file) m).1 ≡ Ok reply → Adds m
  unfolding read_in
  load_adds m reply h =
      let open_group : Bool = is_some s.timeline.group in
      let taken : Bool = is_some (place_named name s.timeline.document) in
      let full : Bool = nat_le layer_limit (length s.timeline.document) in
      let read : State × Outcome = load_read s name m (reader_answer m (meaning_of kind file)) in
      let fitting : State × Outcome = cond full (s, refused TooManyLayers) read in
      let named : State × Outcome = cond taken (s, refused NameTaken) fitting in
      let closed : open_group ≡ false = passed open_group GroupOpen named reply h in
      let free : taken ≡ false = passed taken NameTaken fitting reply (rw closed at h) in
      let few : full ≡ false = passed full TooManyLayers read reply (rw (closed, free) at h) in
      let h' : (read_in m).1 ≡ Ok reply = rw (closed, free, few, means) at h in
      record {
        free = untaken (place_named name s.timeline.document) free;
        after = rw (closed, free, few, means) (read_adds m reply h');
      }

  load_accepted : s.timeline.group ≡ None → place_named name s.timeline.document ≡ None
      → length s.timeline.document < layer_limit
      → (step s (Load name kind file) Granted).1 ≡ Ok (Numbers (One (item_count c)))
  load_accepted closed free few =
      let room : nat_le layer_limit (length s.timeline.document) ≡ false =
      lt-leb layer_limit (length s.timeline.document) few in
      rw (closed, free, room, means) refl

-- ---- what is written

read_back : (c : Content) → IsSound c → meaning_of (kind_of c) (text_of c) ≡ Ok c
read_back (Gerber c) sound = ap gerber_meaning (gerber_reads_back c sound.attributes sound.content)
read_back (Drill c) sound = ap drill_meaning (reads_back c sound)

written_here : (s : State) (m : MemoryGrant) (place : ℕ) (reply : Reply) → (write_at s m (Some place)).1 ≡ Ok reply
    → reply ≡ Bytes (text_of (content_at s.timeline.document place)) 0
written_here s Granted place reply h = cc
written_here s RefusedToReader place reply h = cc
written_here s RefusedToStation place reply h = absurd cc

written : (s : State) (m : MemoryGrant) (name : List ℕ) (place : Option ℕ) (reply : Reply) → AreSound s.timeline.document
    → place_named name s.timeline.document ≡ place → (write_at s m place).1 ≡ Ok reply → IsWriteOf s name reply
written s m name None reply sound e h = absurd cc
written s m name (Some place) reply sound e h = record {
  content = content_at s.timeline.document place;
  named = ap (option_map (content_at s.timeline.document)) e;
  answered = written_here s m place reply h;
  read_back = read_back (content_at s.timeline.document place) (place_sound s.timeline.document place sound);
}

pub exact_write : ExactWrite
exact_write depth before name m reply h =
    let s : State = states_after (fresh depth) before in
    let r : IsReached s = reached depth before in
    written s m name (place_named name s.timeline.document) reply r.sound.document refl h

same_content : (a b : Content) (o : Option Content) → o ≡ Some a → o ≡ Some b → a ≡ b
same_content a b o e f = cc

same_bytes : (a b : List ℕ) (m n : ℕ) → Bytes a m ≡ Bytes b n → a ≡ b
same_bytes a b m n e = cc

-- what a write answered means the layer that it was asked for
means_layer : (depth : ℕ) (before : List Call) (name : List ℕ) (c : Content) (bytes : List ℕ)
    → IsWritten (states_after (fresh depth) before) name c bytes → meaning_of (kind_of c) bytes ≡ Ok c
means_layer depth before name c bytes h =
    let w = exact_write depth before name h.memory (Bytes bytes h.drawn) h.answered in
    let s : State = states_after (fresh depth) before in
    let same : w.content ≡ c =
    same_content w.content c (content_named name s.timeline.document) w.named h.named in
    let text : bytes ≡ text_of c = same_bytes bytes (text_of w.content) h.drawn 0 w.answered ∙ ap text_of same in
    rw text (subst (λ (x : Content). meaning_of (kind_of x) (text_of x) ≡ Ok x) same w.read_back)

pub loads_again : WrittenLoadsAgain
loads_again depth before name c bytes h there other m reply accepted =
    let means : meaning_of (kind_of c) bytes ≡ Ok c = means_layer depth before name c bytes h in
    let after : State = state_after there (load_of other c bytes m) in
    let adds = load_adds there other (kind_of c) bytes c means m reply accepted in
    let added : after.timeline.document ≡ there.timeline.document ++ sheet other c ∷ [] =
    ap (λ (x : State). x.timeline.document) adds.after in
    let again : content_named other after.timeline.document ≡ Some c =
    ap (content_named other) added ∙ last_named other there.timeline.document c adds.free in
    record {
      added = added;
      named = again;
      pictures = λ w. ap (option_map (λ x. plot_of w (image_of x))) (again ∙ sym h.named);
    }

pub is_accepted : WrittenIsAccepted
is_accepted depth before name c bytes h there other closed free few =
    load_accepted there other (kind_of c) bytes c (means_layer depth before name c bytes h) closed free few
