-- `camplot_version` meets its contract: a walk of its MIR by hand. The room is lent for the call, for a lifetime of its own, and
-- comes back once that is over.
use Rattle.cam_c.proofs.Steps.{big_lit, long, short, short_is, ◌≡◌, ℕ, ◌<◌, ◌*◌, ◌^◌, List, [], ◌∷◌, length, refl, sym, ap, subst, ◌∙◌, lit<, w64, arith, proved, full_share, SProp, ent, sep, ex, emp, id⊢, ftrue, flft, Val, vint, fact, fact_i, tables, Logic, sem, ‵, raw, ◌⊛◌, some, later, at_ret, ◌$◌, ◌∵◌, !, qed, by, done, move, drop, pick, await, split, split3, fsplit, rewrite, use0, use1, use2, join, suffices, group, show, enter, of_opd, lit, bin, stop, no_more, and_then, first, blocks, branches, skips, exec, returns, returns_within, alloc_all, pass_all, free_all, look_at, get, sets, lands_as, env, u8, usize, yes, uint_Makes, uint_vals, uint_Tells, Ptr, RawPtr, block_ptr, null_ptr, Testable, tests_null, rawptr_vals, rawptr_Tells, plain, nothing, owned, heard, peeks, on_entry, Stays, walk_of, stay_dropped, Goes-dropped, ends_at, lft_new, calls_at, lasts, triple_of, framed, Is, shows}
use seplogic.Ra.Ura.{Ura}
use prog.Model.{Model}
use contract.Running.{Running, MachineTables}
use denote.Triple.Statement.{Contract}
use denote.Triple.Clauses.{Lasts}
use prog.Wired.{Wired}
use prog.Wp.{WpFn}
use mathlib.Core.Bool.{Bool}
use mathlib.Core.List.{◌++◌}
use mir.Val.{WT, vstruct, of_list}
use base.Fml.{Fml, Lft}
use contract.BorrowLft.{⊑_static}
use types.Kit.{given, learn, fpick, feq_l, fsplit3}
use types.Part.{sub, whole}
use types.Run.{fld}
use types.ByLocal.{get_in, is, lands_last}
use denote.Steps.{only}
use denote.Struct.Tuple.{Tuple}
use denote.Triple.Call.{calls_at_last}
use Rattle.std.specs.Prelude.{if◌then◌else◌, Option, is_some, map, unwrap_or}
use Rattle.std.proofs.lemmas.List.{length-map}
use Rattle.core.specs.Mem.Slots.{slots_filled, slots_items, slots_len}
use Rattle.core.specs.declared.slots.Slots.{Slots}
use Rattle.core.proofs.slots.Opens.{row_val}
use Rattle.core.proofs.slots.Slots.from_raw_parts.Met as from-thm
use Rattle.core.proofs.slots.Slots.into_raw_parts.Met as into-thm
use Rattle.std_alloc.proofs.vec.Blocks.{all}
use Rattle.std_alloc.proofs.vec.Spares.{From, Into, Made, Row, Row-seen, at_from, at_into, from_gives, from_goes, Into-gives, Into-goes, parts_typed, row_Typed}
use Rattle.cam_c.proofs.Places.{Bytes, back, byte_laws, places_slots}
use Rattle.cam_c.specs.Lent.{lent_room}
use Rattle.cam_c.specs.Calls.{IsCopied, copied}
use Rattle.cam_c.specs.Pointers.{all_there}
use Rattle.cam_c.specs.Version.{VersionToldTo, version}
use Rattle.cam_c.specs.contracts.version.copy_version as h
use Rattle.cam_c.proofs.version.copy_version.Met as h-thm
use Rattle.cam_c.specs.contracts.version.camplot_version as f
use Rattle.cam_c.proofs.version.camplot_version.Symbol as symbol
use Rattle.cam_c.proofs.version.camplot_version.Statement.{statement}
use Rattle.cam_c.proofs.version.camplot_version.Code as code

abbrev stayed : Stays f.ended.signature.params f.ended.kept
stayed = (stay_dropped _ yes, (stay_dropped _ yes, tt))

module _ {M : Type 1} {𝓤 : Ura M} (𝓛 : Logic 𝓤) (𝓜 : Model 𝓤 𝓛.H) (𝓡 : Running 𝓤 𝓛.H 𝓜) (wired : Wired 𝓡.env symbol.code) (old : List (Option ℕ)) where
  open 𝓛 use {H}

  abbrev W : Contract 𝓤
  W = walk_of 𝓛 f.ended stayed (f.clauses 𝓛 𝓜.mem 𝓡.returns)

  abbrev 𝓣 : MachineTables 𝓤 H 𝓜
  𝓣 = tables 𝓤 H 𝓜 𝓡 𝓡.env

  module _ (p : Ptr) (m : ℕ) where
    abbrev bound : W.Ghost
    bound = ((tt, tt, tt, (p, (m, tt)), (rawptr_vals p, (uint_vals w64 m, tt))), old)

    abbrev Post : Val → SProp 𝓤
    Post = W.post bound

    abbrev Told : List (Option ℕ) → ℕ → SProp 𝓤
    Told new r = sep 𝓤 (sem 𝓛 (lent_room u8 new p)) (fact 𝓤 (VersionToldTo p old new r))

    told : (new : List (Option ℕ)) (r : ℕ) → VersionToldTo p old new r → ent 𝓤 (sem 𝓛 (lent_room u8 new p)) (ex 𝓤 (λ (xs : List (Option ℕ)). Told xs r))
    told new r is =
        qed 𝓛 (‵ (lent_room u8 new p) ∷ []) ∵
        use0 𝓛 (raw (fact 𝓤 (VersionToldTo p old new r))) (fact_i 𝓤 _ (emp 𝓤) is) $ show ! (λ (xs : List (Option ℕ)). Told xs r) new $ move ! (1 ∷ []) $ done !

    -- the room goes back, and the number is told
    leave : (new : List (Option ℕ)) (r : ℕ) (v : Val) → VersionToldTo p old new r → ent 𝓤 (sep 𝓤 (sem 𝓛 (usize.own_val r (v ∷ []))) (sem 𝓛 (lent_room u8 new p))) (Post v)
    leave new r v is =
        qed 𝓛 (‵ (usize.own_val r (v ∷ [])) ∷ ‵ (lent_room u8 new p) ∷ []) ∵ move ! (1 ∷ []) $
        use1 𝓛 (raw (ex 𝓤 (λ (xs : List (Option ℕ)). Told xs r))) (told new r is) $
        suffices ! _ (ends_at 𝓛 f.ended stayed (f.clauses 𝓛 𝓜.mem 𝓡.returns) bound v r (tt, (tt, tt)) (tt, (tt, tt))) $
        move ! (1 ∷ []) $ nothing ! $ nothing ! $ join ! $ nothing ! $ join ! $ nothing ! $ group ! 3 $ done !

    abbrev Runs : SProp 𝓤
    Runs = WpFn 𝓤 H 𝓣.C 𝓣.Λ code.function (mathlib.Core.List.◌++◌ (rawptr_vals p) (vint w64 m ∷ [])) Post

  -- no room
  no_room : (m : ℕ) → m < 2 ^ 64 → ent 𝓤 (sem 𝓛 (lent_room u8 old null_ptr)) (Runs null_ptr m)
  no_room m fm =
      qed 𝓛 (‵ (lent_room u8 old null_ptr) ∷ []) ∵ enter ! _ _ _ _ _ $
      alloc_all ! (λ i. pass_all ! refl ((tt, record { fits = lit< tt }), ((tt, record { fits = fm }), tt)) $
      sets ! (of_opd ! (get ! refl)) refl (tt, record { fits = lit< tt }) $ sets ! (bin ! (get ! refl) (lit ! tt) tt) refl (tt, tt) $
      first ! $ branches ! (get ! refl)
      (λ _. sets ! (of_opd ! (lit ! tt)) refl (tt, record { fits = lit< tt }) $
      owned ! usize _ (uint_Makes 𝓛 w64) 5 _ (refl, lit< tt) $
      returns_within ! (Post null_ptr m) refl (look_at ! 0 refl) $ free_all ! refl $ by ! (leave null_ptr m old 5 (vint w64 5) (record { count_is = refl; room_is = refl })))
      (λ wrong. absurd wrong))

  -- a room
  with_room : (b o : ℕ) → o < 2 ^ 63 → length old < 2 ^ 64 → ent 𝓤 (sem 𝓛 (lent_room u8 old (block_ptr b o))) (Runs (block_ptr b o) (length old))
  with_room b o low fm =
      let L : Ptr = block_ptr b o in let m : ℕ = length old in let P : Val → SProp 𝓤 = Post L m in
      qed 𝓛 (‵ (lent_room u8 old L) ∷ []) ∵ enter ! _ _ _ _ _ $
      alloc_all ! (λ i. pass_all ! refl ((tt, tt), ((tt, record { fits = fm }), tt)) $ let En = env code.Mir.locals i in
      sets ! (of_opd ! (get ! refl)) refl (tt, tt) $ sets ! (bin ! (get ! refl) (lit ! tt) (tests_null L low)) refl (tt, tt) $
      first ! $ branches ! (get ! refl) (λ wrong. absurd wrong) (λ _. skips ! $ exec ! 𝓣.C 𝓣.Λ En code.Mir.t-4 (at_ret En P) $
      sets ! (of_opd ! (get ! refl)) refl (tt, record { fits = fm }) $ sets ! (bin ! (big_lit ! (record { fits = lit< tt })) (get ! refl) tt) refl (tt, tt) $
      first ! $ branches ! (get ! refl)
      (λ big. sets ! (of_opd ! (lit ! tt)) refl (tt, record { fits = lit< tt }) $
      owned ! usize _ (uint_Makes 𝓛 w64) 5 _ (refl, lit< tt) $
      returns_within ! P refl (look_at ! 0 refl) $ free_all ! refl $
      by ! (leave L m old 5 (vint w64 5) (record { count_is = refl; room_is = sym (ap (λ (k : Bool). if k then copied (all_there version) old else old) (long m big)) })))
      (λ small. skips ! $ exec ! 𝓣.C 𝓣.Λ En code.Mir.t-7 (at_ret En P) $
      first ! $ blocks ! $ sets ! (of_opd ! (get ! refl)) refl (tt, tt) $ sets ! (of_opd ! (get ! refl)) refl (tt, record { fits = fm }) $
      let few : m < 2 ^ 63 = short m small in let size : m * 1 < 2 ^ 63 = omega (arith, few) in
      let xs : List ℕ = map (λ x. unwrap_or x 0) old in let fs : List Bool = map (λ x. is_some x) old in
      let lx : m ≡ length xs = sym (length-map old (λ x. unwrap_or x 0)) in let lf : m ≡ length fs = sym (length-map old (λ x. is_some x)) in
      rewrite ! 0 (λ (F : Fml). ‵ F) (places_slots u8 (λ n. n) refl old b o) refl $
      lft_new ! tt (λ τ. let ν : Lft = τ ∷ [] in let From = From Bytes 𝓛 𝓜.mem 𝓡.returns in let Into = Into Bytes 𝓛 𝓜.mem 𝓡.returns in
      -- [its token; the places]
      move ! (1 ∷ 0 ∷ []) $
      let y : From.Ghost = at_from Bytes 𝓛 𝓜.mem 𝓡.returns ν full_share b o m xs fs in
      use2 𝓛 (raw (From.pre y)) (from_goes Bytes 𝓛 𝓜.mem 𝓡.returns ν full_share b o m xs fs (⊑_static ν) lx lf fm size) $
      calls_at_last ! (framed 𝓤 H 𝓜 𝓣) From (from-thm.met 𝓤 𝓛 𝓜 𝓡 (code.calls-core::slots::Slots::from_raw_parts 𝓡.env wired) u8 byte_laws) y (and_then ! (get ! refl) (and_then ! (get ! refl) (no_more !))) (λ v.
      use1 𝓛 (later (some (λ (r : (Row Bytes).Denot). given ((v ≡ row_val b o m) × Made Bytes 𝓛 𝓜.mem 𝓡.returns ν full_share b o m xs fs r) (‵ ((Row Bytes).own_val r (row_val b o m ∷ [])) ⊛ ‵ (flft ν full_share)))))
      (from_gives Bytes 𝓛 𝓜.mem 𝓡.returns ν full_share b o m xs fs v) $ await ! tt $ pick ! (λ r. learn ! (λ got. split ! $ let made = got.1 in
      lands_last ! refl (row_Typed Bytes v b o m got.0 fm) $ exec ! 𝓣.C 𝓣.Λ En code.Mir.t-8 (at_ret En P) $
      sets ! (is ! (of_opd ! (get ! refl)) got.0) refl (tt, (tt, (record { fits = fm }, tt))) $
      -- [the row; its token]
      let G = triple_of 𝓛 h.signature (h.spec 𝓛 𝓜.mem 𝓡.returns) in
      let z : G.Ghost = ((tt, tt, tt, (r, tt), (row_val b o m ∷ [], tt)), tt) in
      nothing ! $ move ! (1 ∷ 0 ∷ []) $ join ! $ nothing ! $ join ! $ nothing ! $ move ! (1 ∷ 0 ∷ []) $ use2 𝓛 (raw (G.pre z)) (id⊢ 𝓤 _) $
      calls_at ! (framed 𝓤 H 𝓜 𝓣) G (h-thm.met 𝓤 𝓛 𝓜 𝓡 (code.calls-cam_c::version::copy_version 𝓡.env wired)) z (and_then ! (get ! refl) (no_more !)) (λ v.
      use1 𝓛 (later (some (λ (p : (Slots ℕ) × ℕ). (‵ ftrue ⊛ ‵ ((Tuple (Row Bytes ∷ usize ∷ [])).own_val p (v ∷ []))) ⊛
      some (λ (ws : Lasts h.ended z.0.0 z.0.3). ‵ (lasts h.ended z.0.0 z.0.3 ws) ⊛ raw (fact 𝓤 (p.1 ≡ length version)) ⊛ raw (fact 𝓤 (IsCopied version r p.0)))))) (id⊢ 𝓤 _) $
      await ! tt $ pick ! (λ p. split ! $ move ! (1 ∷ []) $ pick ! (λ _. split3 ! $ drop ! $
      heard ! (p.1 ≡ length version) (λ count. heard ! (IsCopied version r p.0) (λ wrote. split ! $ drop ! $
      -- [the result; the row's token]
      fpick ! (λ vss. fsplit ! $ feq_l ! (λ tuple. fsplit3 ! $ Row-seen Bytes ! p.0 vss.0 (λ c e at is_row fn. move ! (1 ∷ []) $
      peeks ! usize (Is usize) (shows 𝓛 usize) p.1 vss.1.0 (λ is_count.
      let n : ℕ = slots_len p.0 in let num : vss.1.0 ≡ vint w64 p.1 ∷ [] = uint_Tells w64 p.1 vss.1.0 is_count in let words : WT (row_val c e n) = (tt, (record { fits = fn }, tt)) in let number : WT (vint w64 p.1) = record { fits = is_count.1 } in
      lands_as ! (ap only (tuple ∙ (λ j. vstruct (of_list (is_row j ++ (num j ++ []))) ∷ []))) refl (tt, (words, (number, tt))) $
      sets ! (of_opd ! (get_in ! (fld ! refl (stop !)) (sub ! 0 refl (whole !)))) refl (tt, words) $ sets ! (of_opd ! (get_in ! (fld ! refl (stop !)) (sub ! 1 refl (whole !)))) refl (tt, number) $
      first ! $ blocks ! $ sets ! (of_opd ! (get ! refl)) refl (tt, words) $
      -- [the count; the row; nothing; the row's token]
      move ! (1 ∷ 3 ∷ []) $
      let y' : Into.Ghost = at_into Bytes 𝓛 𝓜.mem 𝓡.returns ν full_share p.0 c e in
      use2 𝓛 (raw (Into.pre y')) (Into-goes Bytes 𝓛 𝓜.mem 𝓡.returns ν full_share p.0 c e (⊑_static ν)) $
      calls_at_last ! (framed 𝓤 H 𝓜 𝓣) Into (into-thm.met 𝓤 𝓛 𝓜 𝓡 (code.calls-core::slots::Slots::into_raw_parts 𝓡.env wired) u8 byte_laws) y' (and_then ! (get ! refl) (no_more !)) (λ u.
      use1 𝓛 (later (given (u ≡ row_val c e n) (‵ (all Bytes c e (slots_items p.0) (slots_filled p.0)) ⊛ ‵ (flft ν full_share)))) (Into-gives Bytes 𝓛 𝓜.mem 𝓡.returns ν full_share p.0 c e u at) $ await ! tt $ learn ! (λ is_u. split ! $
      lands_last ! refl (parts_typed u c e n is_u fn) $ exec ! 𝓣.C 𝓣.Λ En code.Mir.t-13 (at_ret En P) $
      sets ! (is ! (of_opd ! (get ! refl)) is_u) refl (tt, words) $ sets ! (of_opd ! (get ! refl)) refl (tt, number) $
      -- [the places; the row's token; the count; nothing]
      move ! (1 ∷ []) $ drop ! $ move ! (2 ∷ []) $ drop ! $ rewrite ! 0 (λ (F : Fml). ‵ F) (back version old r p.0 b o c e made.0 made.2 made.3 at wrote) refl $
      move ! (1 ∷ []) $ rewrite ! 0 (λ (ws : List Val). ‵ (usize.own_val p.1 ws)) num refl $
      returns ! (look_at ! 0 refl) $ free_all ! refl $
      by ! (leave L m (copied (all_there version) old) p.1 (vint w64 p.1) (record { count_is = count; room_is = sym (ap (λ (k : Bool). if k then copied (all_there version) old else old) (short_is m few)) }))))))))))))))))))))

  -- by the pointer's form
  at_each : (p : Ptr) (m : ℕ) → m < 2 ^ 64 → length old ≡ m → Testable p → ent 𝓤 (sem 𝓛 (lent_room u8 old p)) (Runs p m)
  at_each null_ptr m fm count _ = no_room m fm
  at_each (block_ptr b o) m fm count low =
      let L : Ptr = block_ptr b o in
      subst (λ (k : ℕ). k < 2 ^ 64 → ent 𝓤 (sem 𝓛 (lent_room u8 old L)) (Runs L k)) count (λ fits. with_room b o low fits) fm

pub camplot_version_spec : {M : Type 1} → statement M
camplot_version_spec 𝓤 𝓛 𝓜 𝓡 wired =
    let c = f.clauses 𝓛 𝓜.mem 𝓡.returns in
    let ptr = Goes-dropped 𝓛 0 (plain (λ _. RawPtr)) yes (λ κs x w. refl) in let num = Goes-dropped 𝓛 0 (plain (λ _. usize)) yes (λ κs x w. refl) in
    proved 𝓛 f.ended stayed c 𝓜 𝓡 (ptr, (num, tt)) f.Key.name code.function (code.unfolded 𝓤 𝓛.H 𝓜 𝓡 wired)
    (λ κs. (rawptr_vals, (uint_vals w64, tt))) (λ κs. (rawptr_Tells, (uint_Tells w64, tt))) (λ κs qs bounds a g are.
    qed 𝓛 (raw (on_entry 𝓛 f.signature κs qs a (rawptr_vals a.0, (uint_vals w64 a.1.0, tt))) ∷ ‵ (lent_room u8 g a.0)
    ∷ raw (fact 𝓤 (Testable a.0)) ∷ raw (fact 𝓤 (length g ≡ a.1.0)) ∷ []) ∵ drop ! $
    move ! (1 ∷ 2 ∷ []) $ heard ! (Testable a.0) (λ test. heard ! (length g ≡ a.1.0) (λ count.
    by ! (at_each 𝓛 𝓜 𝓡 wired g a.0 a.1.0 are.1.0.1 count test))))
