-- What lies behind the pointers that C passes. Nothing lies at null.
use Rattle.std.specs.Prelude.{ℕ, ◌+◌, List, [], ◌∷◌, Option, None, Some}
use Rattle.std.specs.Box.Ownership.{box_owns}
use Rattle.std.specs.contracts.impls.GlobalAllocator.TheImpl.{ghosts}
use Rattle.cam_c.specs.declared.session.Session.{Session}
use Rattle.cam_c.specs.contracts.session.Session.{the_row}
use base.Fraction.{full_share}
use base.Fml.{Fml, Share, froom, fsep, ftrue}
use prog.Memory.{size}
use types.Share.{parts}
use denote.RattleType.{RattleType}
use denote.Memory.{lone, mem, part_at, shares}
use denote.RawPtr.{Ptr, block_ptr, null_ptr}

-- a session that was handed out, with the right to give its memory back
abbrev pub held : Session → Ptr → Fml
held s (block_ptr b o) = box_owns (ghosts.dealloc_token s.alloc) the_row (block_ptr b o) s
held s null_ptr = ftrue

-- values side by side that C lends for reading: a share of them, as small as may be
abbrev pub lent : (R : RattleType) → Share → List R.Denot → Ptr → Fml
lent R q xs (block_ptr b o) = parts (mem R) (shares R) q xs b o
lent R q xs null_ptr = ftrue

-- a place that C lends for writing: a value lies there, or none yet
abbrev pub place_lent : (R : RattleType) → Option R.Denot → ℕ → ℕ → Fml
place_lent R (Some x) b o = part_at R full_share x b o
place_lent R None b o = froom (lone R.mir) b o

-- places side by side
abbrev pub places : (R : RattleType) → List (Option R.Denot) → ℕ → ℕ → Fml
places R [] b o = ftrue
places R (x ∷ xs) b o = fsep (place_lent R x b o) (places R xs b (o + size (lone R.mir)))

abbrev pub lent_room : (R : RattleType) → List (Option R.Denot) → Ptr → Fml
lent_room R xs (block_ptr b o) = places R xs b o
lent_room R xs null_ptr = ftrue
