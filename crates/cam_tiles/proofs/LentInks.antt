-- Inks whose words are lent, all of them, and take a polarity there.
use Rattle.std.proofs.Common.{◌≡◌, ℕ, ◌*◌, ◌<◌, ◌≤◌, Bool, List, length, slice_index, take, ap, ◌∙◌, arith}
use Rattle.std.specs.Vec.{with_items}
use Rattle.std.proofs.lemmas.List.{get_or-take, length-take, with_items_is}
use Rattle.cam_tiles.specs.declared.masks.inks.Inks.TheInside.{Inside}
use Rattle.cam_tiles.specs.Machinery.Inks.{AreNext, Inked, IsInked, Takes, inked_of, words_of}
use Rattle.cam_tiles.proofs.RunInks.{known_stays, next_stays}

module _ (s : Inside) (was : IsInked s) (near words : List ℕ) (is_near : near ≡ s.next.items)
    (lent : words ≡ s.decided.items) where
  abbrev pub tiles : ℕ
  tiles = length (take s.tiles near)

  pub all_tiles : tiles ≡ s.tiles
  all_tiles = omega (arith, length-take s.tiles near, ap length is_near, was.pointed)

  pub few_tiles : tiles ≤ 512
  few_tiles = omega (arith, all_tiles, was.few)

  pub words_long : 64 * tiles ≤ length words
  words_long = omega (arith, all_tiles, ap length lent, was.decided)

  next_told : (tile : ℕ) → tile < s.tiles → slice_index (take s.tiles near) tile ≡ slice_index s.next.items tile
  next_told tile inside = get_or-take s.tiles near tile 0 inside ∙ ap (λ (l : List ℕ). slice_index l tile) is_near

  pub next_lent : AreNext tiles (take s.tiles near) words
  next_lent = rw (all_tiles, lent) (record {
    within = λ tile inside. rw (next_told tile inside) (was.next.within tile inside);
    known = λ tile other inside after until.
        was.next.known tile other inside after (omega (arith, until, next_told tile inside));
  })

  module _ (others : List ℕ) (lent_dark : others ≡ s.dark.items) where
    pub others_long : 64 * tiles ≤ length others
    others_long = omega (arith, all_tiles, ap length lent_dark, was.dark)

    module _ (decided dark : List ℕ) (holds : ℕ → ℕ → Bool) (ink : Bool) (full : length words ≡ s.decided.len)
        (full_dark : length others ≡ s.dark.len) (size : length decided ≡ length words) (size_dark : length dark ≡ length others)
        (taken : Takes 0 tiles holds ink (words_of tiles words others) (words_of tiles decided dark)) where
      abbrev pub written : Inside
      written = record {
        tiles = s.tiles;
        decided = with_items s.decided decided;
        dark = with_items s.dark dark;
        known = s.known;
        next = s.next;
      }

      now : written.decided.items ≡ decided
      now = with_items_is s.decided decided (size ∙ full)

      now_dark : written.dark.items ≡ dark
      now_dark = with_items_is s.dark dark (size_dark ∙ full_dark)

      taken_so : Takes 0 s.tiles holds ink (inked_of s) (inked_of written)
      taken_so = rw (now, now_dark, ← lent, ← lent_dark) (rw all_tiles at taken)

      pub still_inked : IsInked written
      still_inked = record {
        few = was.few;
        decided = rw (now, size, lent) was.decided;
        dark = rw (now_dark, size_dark, lent_dark) was.dark;
        each = was.each;
        known = λ tile inside. (
          (was.known tile inside).0,
          known_stays ink holds (inked_of s) (inked_of written) tile _ taken_so inside (was.known tile inside).0 (was.known tile inside).1,
        );
        pointed = was.pointed;
        next = next_stays ink holds (inked_of s) (inked_of written) s.next.items taken_so was.next;
      }

      pub takes_all : (seen : Inked) → inked_of s ≡ seen → Takes 0 seen.tiles holds ink seen (inked_of written)
      takes_all seen is = rw (← is) taken_so
