-- What the walks of the exports cite.
pub use Rattle.std.proofs.Common.{◌≡◌, ℕ, ◌<◌, ◌≤◌, ◌*◌, ◌^◌, List, [], ◌∷◌, length, true, false, Bool, None, Some, refl, sym, ap, subst, ◌∙◌, lit<, nltb→le, w8, w32, w64, Bor, MutBor, arith}
pub use Rattle.std.proofs.raw_atomic.Walks.{proved}
pub use base.Fraction.{full_share}
pub use base.Logic.{SProp, ent, sep, ex, emp, id⊢}
pub use base.Fml.{Fml, Share, ftrue, feq, fsep, fat, flft, fres, fbor, flent, fdead, Incl-refl}
pub use mir.Syntax.{ty_int, named}
pub use mir.Val.{Val, vunit, vbool, vint, vptr}
pub use contract.Monad.{fact, fact_i}
pub use contract.Running.{tables}
pub use types.Logic.{Logic, sem}
pub use types.Kit.{‵, raw, ◌⊛◌, some, later, prop, at_ret, Sq, ◌$◌, ◌∵◌, !, qed, by, done, move, keep, drop, use0, use1, use2, use3, split, split3, join, fsplit, fsplit3, fjoin, feq_i, feq_l, pick, await, rewrite, regoal, suffices, frame, group, show}
pub use types.Run.{assigns_last, enter, of_opd, lit, unit_lit, bin, addr, load, look, store, stop, fld, hop, no_more, and_then, assigns, first, blocks, branches, skips, exec, returns, returns_within, well_typed}
pub use types.ByLocal.{alloc_all, pass_all, free_all, look_at, get, through, sets, sets_last, lands_as, lands_last, env}
pub use types.Part.{agg}
pub use types.SemTy.{Body, Arr}
pub use types.Share.{parts, arr_parts}
pub use types.Tokens.{lft_new, lft_end, lent_back}
pub use denote.Builtin.{u8, u32, u64, usize, bool, unit}
pub use denote.Exit.{yes}
pub use denote.Laws.{Is, shows}
pub use denote.Lend.{Held, lends_ref, ref_back, lends_shr_slice, lends_slice, slice_back}
pub use denote.Copied.{uint_Copied}
pub use denote.Memory.{mem, shares, part_at}
pub use denote.Plain.{bool_Makes, bool_vals, bool_Tells, uint_in, uint_out, uint_Makes, uint_vals, uint_Tells, uint_Lawful}
pub use denote.RawPtr.{Ptr, RawPtr, block_ptr, null_ptr, Testable, lies_at, in_a_block, tests_null, rawptr_vals, rawptr_Makes, rawptr_Tells, rawptr_Lawful}
pub use denote.Ref.{MutRef, mut_vals, mut_Tells}
pub use denote.Slice.{ShrSlice, MutSlice, slice_val}
pub use denote.Signature.{plain}
pub use denote.Steps.{nothing, owned, heard, peeks, only}
pub use denote.Triple.Call.{calls_at, calls_at_last}
pub use denote.Triple.Clauses.{lasts}
pub use denote.Triple.Entry.{on_entry}
pub use denote.Triple.Spec.{triple_of}
pub use denote.Triple.Walked.{Stays, walk_of, says, stay_dropped, Goes-dropped, ends_at}
pub use denote.Triple.Table.{framed}
use seplogic.Ra.Ura.{Ura}
use mir.Syntax.{Width, int_big}
use mir.Val.{Fits}
use base.Logic.{via, guard_i}
use prog.Wp.{Env}
use types.Kit.{Item}
use types.Run.{Opd}
use lib.Dec.{T, ltb, ltb→lt, lt→ltb}
use mathlib.Core.Bool.{not, ◌&&◌}

module _ {M : Type 1} {𝓤 : Ura M} {𝓛 : Logic 𝓤} {K : Type 0} {Γ : List (Item 𝓤)} {E : Env 𝓤 𝓛.H} where
  -- a constant of many digits
  pub big_lit : K → {w : Width} {n : ℕ} → Fits w n → Opd K 𝓛 Γ E (int_big w n) (vint w n)
  big_lit t {w} {n} z = record { go = λ Kt h. via 𝓤 (Kt (vint w n)) h (guard_i 𝓤 (Fits w n) (Kt (vint w n)) z) }

holds_not : (b : Bool) → (T b → ⊥) → b ≡ false
holds_not true f = absurd (f tt)
holds_not false f = refl

holds : (b : Bool) → T b → b ≡ true
holds true t = refl
holds false t = absurd t

-- a length past the greatest one, and one that is not
pub long : (n : ℕ) → T (ltb 9223372036854775807 n) → ltb n (2 ^ 63) ≡ false
long n t = holds_not _ (λ u. let a : 9223372036854775807 < n = ltb→lt 9223372036854775807 n t in let b : n < 2 ^ 63 = ltb→lt n (2 ^ 63) u in omega (arith, a, b))

pub short : (n : ℕ) → T (not (ltb 9223372036854775807 n)) → n < 2 ^ 63
short n t = let a : n ≤ 9223372036854775807 = nltb→le 9223372036854775807 n t in omega (arith, a)

pub short_is : (n : ℕ) → n < 2 ^ 63 → ltb n (2 ^ 63) ≡ true
short_is n h = holds _ (lt→ltb n (2 ^ 63) h)

pub and_false : (b : Bool) → (b && false) ≡ false
and_false true = refl
and_false false = refl
