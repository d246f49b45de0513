-- Inks of which some words take a polarity.
use Rattle.std.proofs.Common.{◌≡◌, ◌⊎◌, ℕ, ◌-◌, ◌*◌, ◌<◌, ◌≤◌, Bool, true, Option, Some, None, if◌then◌else◌}
use Rattle.std.proofs.Common.{List, length, slice_index, take, refl, ap, ◌∙◌, inl, inr, arith, rules}
use Rattle.std.specs.Option.{option_or}
use Rattle.std.proofs.lemmas.List.{get_or-take, places, with_items_is}
use Rattle.std.specs.Vec.{with_items}
use borrow.Rule.Slice.PartMut.{mid_of, put_mid}
use Rattle.cam_tiles.specs.Machinery.Marks.{is_marked, is_set}
use Rattle.cam_tiles.specs.declared.masks.inks.Inks.TheInside.{Inside}
use Rattle.cam_tiles.specs.Machinery.Inks.{Inked, IsInked, Takes, given, ink_of, inked_of}
use Rattle.cam_tiles.proofs.JoinedCentres.{before_part, behind_part, in_part, of_part}
use Rattle.cam_tiles.proofs.TurnedBands.{part_length}

-- the words from one to another take a polarity where bits say so, and all else stays
pub record TakesWords (from to : ℕ) (bits : ℕ → ℕ) (ink : Bool) (old new : Inked) : Type 0 where
  pub tiles : new.tiles ≡ old.tiles
  pub each : (k i : ℕ) → from ≤ k → k < to → i < 64
      → ink_of (slice_index new.decided k) (slice_index new.dark k) i
      ≡ option_or (ink_of (slice_index old.decided k) (slice_index old.dark k) i) (given (is_set (bits k) i) ink)
  pub decided : (k : ℕ) → (k < from) ⊎ (to ≤ k) → slice_index new.decided k ≡ slice_index old.decided k
  pub dark : (k : ℕ) → (k < from) ⊎ (to ≤ k) → slice_index new.dark k ≡ slice_index old.dark k

-- what is decided stays so
pub kept_set : (d k e n : Bool) (other : Option Bool)
    → (if e then Some n else None) ≡ option_or (if d then Some k else None) other → d ≡ true → e ≡ true
kept_set d k e n other told is = grind arith

-- what is kept holds on
inked_kept : (from to : ℕ) (bits : ℕ → ℕ) (ink : Bool) (s n : Inside) → IsInked s
    → TakesWords from to bits ink (inked_of s) (inked_of n) → n.known.items ≡ s.known.items → n.next ≡ s.next
    → length n.decided.items ≡ length s.decided.items → length n.dark.items ≡ length s.dark.items → IsInked n
inked_kept from to bits ink s n was taken known next size size_dark = grind arith

-- ---- a part of the words that was written

-- the words from one to another take a polarity where bits say so
pub record AreWritten (s : Inside) (from to : ℕ) (bits decided dark words others : List ℕ) (ink : Bool) : Type 0 where
  pub some : from < to
  pub within : to ≤ 64 * s.tiles
  pub lent : words ≡ s.decided.items
  pub lent_dark : others ≡ s.dark.items
  pub size : length decided ≡ length (mid_of from (to - from) words)
  pub size_dark : length dark ≡ length (mid_of from (to - from) words)
  pub full : length words ≡ s.decided.len
  pub full_dark : length others ≡ s.dark.len
  pub each : (k i : ℕ) → k < length (mid_of from (to - from) words) → i < 64
      → ink_of (slice_index decided k) (slice_index dark k) i
      ≡ option_or (ink_of (slice_index (mid_of from (to - from) words) k) (slice_index (mid_of from (to - from) others) k) i)
      (given (is_set (slice_index bits k) i) ink)

-- the words that were written are as many
written_size : (from to : ℕ) (old part : List ℕ) → from < to → to ≤ length old → length part ≡ to - from
    → length (put_mid from (to - from) old part) ≡ length old
written_size from to old part some long size = search (rules, places)

module _ (s : Inside) (from to : ℕ) (bits decided dark words others : List ℕ) (ink : Bool)
    (w : AreWritten s from to bits decided dark words others ink) (was : IsInked s) where
  abbrev pub written : Inside
  written = record {
    tiles = s.tiles;
    decided = with_items s.decided (put_mid from (to - from) words decided);
    dark = with_items s.dark (put_mid from (to - from) others dark);
    known = s.known;
    next = s.next;
  }

  long : to ≤ length words
  long = omega (arith, w.within, was.decided, ap length w.lent)

  long_dark : to ≤ length others
  long_dark = omega (arith, w.within, was.dark, ap length w.lent_dark)

  part : length (mid_of from (to - from) words) ≡ to - from
  part = part_length from to words w.some long

  size : length decided ≡ to - from
  size = w.size ∙ part

  size_dark : length dark ≡ to - from
  size_dark = w.size_dark ∙ part

  now : written.decided.items ≡ put_mid from (to - from) words decided
  now = with_items_is s.decided _ (written_size from to words decided w.some long size ∙ w.full)

  now_dark : written.dark.items ≡ put_mid from (to - from) others dark
  now_dark = with_items_is s.dark _ (written_size from to others dark w.some long_dark size_dark ∙ w.full_dark)

  pub words_taken : TakesWords from to (λ k. slice_index bits (k - from)) ink (inked_of s) (inked_of written)
  words_taken = record {
    tiles = refl;
    each = λ k i after until small.
        rw (
          now,
          now_dark,
          ← w.lent,
          ← w.lent_dark,
          in_part from to words decided w.some long size k after until,
          in_part from to others dark w.some long_dark size_dark k after until,
          ← of_part from to words decided w.some long size k after until,
          ← of_part from to others dark w.some long_dark size_dark k after until,
        )
        (w.each (k - from) i (omega (arith, part, after, until)) small);
    decided = λ k apart. rw (now, ← w.lent) (elim apart [
      | inl early ↦ before_part from to words decided w.some long size k early
      | inr late ↦ behind_part from to words decided w.some long size k late
    ]);
    dark = λ k apart. rw (now_dark, ← w.lent_dark) (elim apart [
      | inl early ↦ before_part from to others dark w.some long_dark size_dark k early
      | inr late ↦ behind_part from to others dark w.some long_dark size_dark k late
    ]);
  }

  pub still_inked : IsInked written
  still_inked =
      inked_kept from to _ ink s written was words_taken refl refl
      (ap length now ∙ written_size from to words decided w.some long size ∙ ap length w.lent)
      (ap length now_dark ∙ written_size from to others dark w.some long_dark size_dark ∙ ap length w.lent_dark)

-- ---- tiles by marks

pub takes_marks : (first end : ℕ) (marks : List ℕ) (ink : Bool) (old new seen : Inked) → first ≤ end → old ≡ seen
    → TakesWords (64 * first) (64 * end) (λ k. slice_index (take (64 * (end - first)) marks) (k - 64 * first)) ink old new
    → Takes first end (λ row column. is_marked marks row (column - 64 * first)) ink seen new
takes_marks first end marks ink old new seen some is taken = grind (arith, get_or-take)
