-- What a past without a fault has in hand is sound, and its innermost block may join the dictionary.
use Rattle.std.proofs.Common.{◌≡◌, ℕ, List, [], ◌∷◌, map, nat_eq, subst}
use Rattle.std.specs.List.{AllByRecursion}
use Rattle.std.specs.Map.{lookup}
use Rattle.cam_objects.specs.declared.entry.Entry.TheVariants.{Block}
use Rattle.cam_objects.specs.Soundness.{MayAddEntry}
use Rattle.cam_gerber.specs.State.{Past}
use Rattle.cam_gerber.specs.Homes.{InBlock, open_blocks}
use Rattle.cam_gerber.specs.Making.{home_objects}
use Rattle.cam_gerber.specs.Layers.{entries_in, home_leaves}
use Rattle.cam_gerber.specs.Laws.{IsFaultless}
use Rattle.cam_gerber.specs.Machinery.OpenNumbers.{AreWithin}
use Rattle.cam_gerber.proofs.Pasts.{AreFree, none_of, stay_apart}
use Rattle.cam_gerber.proofs.SoundParts.{closed}
use Rattle.cam_gerber.proofs.SoundViews.{IsBlockView, block_at}
use Rattle.cam_gerber.proofs.SoundPasts.{Sound, at_start, sound_step}

pub sound_past : (past : Past) → IsFaultless past → AreWithin past → Sound past
sound_past [] faultless within = at_start
sound_past (says ∷ past) faultless within = sound_step past says within.0 faultless.1 (sound_past past faultless.1 within.1) faultless.0

-- the innermost open block
pub block_may_join : (past : Past) (n : ℕ) (outer : List ℕ) → IsFaultless past → AreWithin past → open_blocks past ≡ n ∷ outer
    → MayAddEntry (entries_in past) n (Block (home_objects (InBlock n) past))
block_may_join past n outer faultless within e =
    let s = sound_past past faultless within in
    let blocks = subst (λ ns. AllByRecursion (IsBlockView (entries_in past)) (map (block_at past) ns)) e s.blocks in
    let free = subst (AreFree (entries_in past)) e (stay_apart past faultless).entries in
    record {
      least = blocks.0.0.0;
      greatest = blocks.0.0.1;
      absent = none_of (lookup (nat_eq n) (entries_in past)) free.0;
      sound = closed (entries_in past) (home_objects (InBlock n) past) (home_leaves (InBlock n) past) blocks.0.1;
    }
