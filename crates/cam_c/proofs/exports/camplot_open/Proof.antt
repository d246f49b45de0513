-- `camplot_open` meets its contract: a walk of its MIR by hand. Where there is a session its box is taken apart, and its
-- pointer written; else null is.
use Rattle.cam_c.proofs.Steps.{ℕ, ◌<◌, ◌^◌, List, [], ◌∷◌, refl, ap, subst, ◌∙◌, lit<, w32, proved, full_share, SProp, ent, sep, ex, emp, id⊢, ftrue, Val, vint, vptr, fact, fact_i, tables, Logic, sem, ‵, raw, ◌⊛◌, some, later, at_ret, ◌$◌, ◌∵◌, !, qed, by, done, move, drop, pick, await, split, split3, fsplit, use0, use1, use2, join, feq_i, show, suffices, group, enter, of_opd, lit, bin, stop, no_more, and_then, assigns_last, first, blocks, branches, skips, exec, returns, returns_within, alloc_all, pass_all, free_all, look_at, get, through, sets, sets_last, lands_as, env, u32, yes, uint_Makes, uint_vals, uint_Tells, Ptr, RawPtr, block_ptr, null_ptr, Testable, tests_null, rawptr_vals, rawptr_Tells, plain, nothing, owned, heard, peeks, only, Stays, walk_of, stay_dropped, Goes-dropped, ends_at, calls_at, lasts, triple_of, framed, Is, shows, part_at}
use mathlib.Core.List.{◌++◌}
use seplogic.Ra.Ura.{Ura}
use mir.Syntax.{Body}
use mir.Val.{vnull, of_list}
use prog.Model.{Model}
use contract.Running.{Running, MachineTables}
use denote.Laws.{Is as IsOf}
use denote.RattleType.{RattleType, owns}
use denote.RawPtr.{lies_at, room_at}
use denote.Triple.Statement.{Contract}
use denote.Triple.Clauses.{Lasts}
use prog.Wired.{Wired}
use prog.Wp.{WpFn}
use Rattle.std.specs.Prelude.{IfOk, IfErr}
use Rattle.std.specs.Ptr.{if_non_null}
use Rattle.std.specs.contracts.alloc.Global.{the_row as Z}
use Rattle.std.proofs.alloc.Global.TheLaws as global_laws
use Rattle.std.specs.declared.alloc.Global.{Global}
use Rattle.core.specs.contracts.result.Result as RS
use Rattle.core.proofs.alloc.Shapes.{after, arm_body}
use Rattle.std.specs.contracts.impls.GlobalAllocator.TheImpl.{ghosts}
use Rattle.std.proofs.ResultValues.{and_tt}
use borrow.Table.OneValue.{part_in}
use types.Match.{live, vrt, in_variant}
use types.Kit.{any_q, post}
use types.Run.{switches_on, fld, init}
use types.ByLocal.{get_tag, get_in}
use types.Part.{sub, whole}
use prog.Wp.{Wp, Env, Calls, Loops, after_seq}
use types.Kit.{Post as After}
use Rattle.cam_c.proofs.Results.{results}
use Rattle.cam_c.proofs.Values.{Loose, both, loose_good, loose_out}
use Rattle.std.specs.Prelude.{None}
use Rattle.cam_station.specs.Machine.{fresh}
use Rattle.cam_c.specs.declared.session.Session.{Session}
use Rattle.cam_c.specs.contracts.session.Session.{the_row as R}
use Rattle.cam_c.specs.Lent.{held}
use Rattle.cam_c.specs.Calls.{IsFresh, IsUnopened}
use Rattle.cam_c.specs.Pointers.{OpenedBy}
use Rattle.cam_c.specs.contracts.session.begin as g
use Rattle.cam_c.proofs.session.begin.Met as g-thm
use Rattle.cam_c.specs.contracts.exports.camplot_open as f
use Rattle.cam_c.proofs.exports.camplot_open.Symbol as symbol
use Rattle.cam_c.proofs.exports.camplot_open.Statement.{statement}
use Rattle.cam_c.proofs.exports.camplot_open.Code as code

abbrev stayed : Stays f.ended.signature.params f.ended.kept
stayed = (stay_dropped _ yes, (stay_dropped _ yes, (stay_dropped _ yes, tt)))

abbrev some_session : Global → Session
some_session a = record { alloc = a; station = fresh 0; reply = None; file = None }

abbrev then_runs : {M : Type 1} {𝓤 : Ura M} (𝓛 : Logic 𝓤) → Calls 𝓤 𝓛.H → Loops 𝓤 𝓛.H → Env 𝓤 𝓛.H → Body → After 𝓤 𝓛.H → After 𝓤 𝓛.H
then_runs {𝓤 = 𝓤} 𝓛 C Λ E b q = any_q (after_seq 𝓤 𝓛.H (Wp 𝓤 𝓛.H C Λ E b (post 𝓤 𝓛.H q)) (post 𝓤 𝓛.H q))

module _ {M : Type 1} {𝓤 : Ura M} (𝓛 : Logic 𝓤) (𝓜 : Model 𝓤 𝓛.H) (𝓡 : Running 𝓤 𝓛.H 𝓜) (wired : Wired 𝓡.env symbol.code) (a : Global) (depth : ℕ) (fd : depth < 2 ^ 32) where
  open 𝓛 use {H}

  abbrev W : Contract 𝓤
  W = walk_of 𝓛 f.ended stayed (f.clauses 𝓛 𝓜.mem 𝓡.returns)

  abbrev 𝓣 : MachineTables 𝓤 H 𝓜
  𝓣 = tables 𝓤 H 𝓜 𝓡 𝓡.env

  abbrev hv : Val
  hv = global_laws.lowers.lowered a

  module _ (t : Ptr) where
    abbrev bound : W.Ghost
    bound = ((tt, tt, tt, (a, (depth, (t, tt))), (hv ∷ [], (uint_vals w32 depth, (rawptr_vals t, tt)))), tt)

    abbrev Post : Val → SProp 𝓤
    Post = W.post bound

    abbrev Told : Ptr → Session → ℕ → SProp 𝓤
    Told p s r = sep 𝓤 (sem 𝓛 (if_non_null t (lies_at RawPtr full_share t p))) (sep 𝓤 (sem 𝓛 (held s p)) (fact 𝓤 (OpenedBy t depth p s r)))

    abbrev ToldSome : ℕ → SProp 𝓤
    ToldSome r = ex 𝓤 (λ (p : Ptr). ex 𝓤 (λ (s : Session). Told p s r))

    told : (p : Ptr) (s : Session) (r : ℕ) → OpenedBy t depth p s r → ent 𝓤 (sep 𝓤 (sem 𝓛 (if_non_null t (lies_at RawPtr full_share t p))) (sem 𝓛 (held s p))) (ToldSome r)
    told p s r is =
        qed 𝓛 (‵ (if_non_null t (lies_at RawPtr full_share t p)) ∷ ‵ (held s p) ∷ []) ∵
        use0 𝓛 (raw (fact 𝓤 (OpenedBy t depth p s r))) (fact_i 𝓤 _ (emp 𝓤) is) $ show ! (λ (q : Ptr). ex 𝓤 (λ (z : Session). Told q z r)) p $ show ! (λ (z : Session). Told p z r) s $ move ! (1 ∷ 2 ∷ []) $ done !

    leave : (p : Ptr) (s : Session) (r : ℕ) (v : Val) → OpenedBy t depth p s r
        → ent 𝓤 (sep 𝓤 (sem 𝓛 (u32.own_val r (v ∷ []))) (sep 𝓤 (sem 𝓛 (if_non_null t (lies_at RawPtr full_share t p))) (sem 𝓛 (held s p)))) (Post v)
    leave p s r v is =
        qed 𝓛 (‵ (u32.own_val r (v ∷ [])) ∷ ‵ (if_non_null t (lies_at RawPtr full_share t p)) ∷ ‵ (held s p) ∷ []) ∵ move ! (1 ∷ 2 ∷ []) $
        use2 𝓛 (raw (ToldSome r)) (told p s r is) $
        suffices ! _ (ends_at 𝓛 f.ended stayed (f.clauses 𝓛 𝓜.mem 𝓡.returns) bound v r (tt, (tt, (tt, tt))) (tt, (tt, (tt, tt)))) $
        move ! (1 ∷ []) $ nothing ! $ nothing ! $ join ! $ nothing ! $ join ! $ nothing ! $ join ! $ nothing ! $ group ! 3 $ done !

    abbrev Runs : SProp 𝓤
    Runs = WpFn 𝓤 H 𝓣.C 𝓣.Λ code.function (hv ∷ vint w32 depth ∷ mathlib.Core.List.◌++◌ (rawptr_vals t) []) Post

  abbrev Out : RattleType
  Out = RS.the_row (Loose R Z global_laws.the_row_laws ghosts) u32

  -- there is always some session to name where none is handed out
  abbrev none : Session
  none = some_session a

  at_each : (t : Ptr) → IsOf Z a (hv ∷ []) → Testable t → ent 𝓤 (sep 𝓤 (sem 𝓛 (Z.own_val a (hv ∷ []))) (sem 𝓛 (if_non_null t (room_at RawPtr t)))) (Runs t)
  at_each null_ptr isa _ =
      let good = ((global_laws.the_row_laws.lawful 𝓛).typed a (hv ∷ []) isa).0 in
      qed 𝓛 (‵ (Z.own_val a (hv ∷ [])) ∷ ‵ ftrue ∷ []) ∵ drop ! $ enter ! _ _ _ _ _ $
      alloc_all ! (λ i. pass_all ! refl (good, ((tt, record { fits = fd }), ((tt, record { fits = lit< tt }), tt))) $
      sets ! (bin ! (get ! refl) (lit ! tt) tt) refl (tt, tt) $
      first ! $ branches ! (get ! refl)
      (λ _. sets ! (of_opd ! (lit ! tt)) refl (tt, record { fits = lit< tt }) $ nothing ! $ owned ! u32 _ (uint_Makes 𝓛 w32) 90 _ (refl, lit< tt) $
      returns_within ! (Post null_ptr) refl (look_at ! 0 refl) $ free_all ! refl $ by ! (leave null_ptr null_ptr none 90 (vint w32 90) refl))
      (λ wrong. absurd wrong))
  at_each (block_ptr b o) isa low =
      let T : Ptr = block_ptr b o in let P : Val → SProp 𝓤 = Post T in
      let good = ((global_laws.the_row_laws.lawful 𝓛).typed a (hv ∷ []) isa).0 in
      qed 𝓛 (‵ (Z.own_val a (hv ∷ [])) ∷ ‵ (room_at RawPtr T) ∷ []) ∵ enter ! _ _ _ _ _ $
      alloc_all ! (λ i. pass_all ! refl (good, ((tt, record { fits = fd }), ((tt, tt), tt))) $ let En = env code.Mir.locals i in
      sets ! (bin ! (get ! refl) (lit ! tt) (tests_null T low)) refl (tt, tt) $
      first ! $ branches ! (get ! refl) (λ wrong. absurd wrong) (λ _. skips ! $ exec ! 𝓣.C 𝓣.Λ En code.Mir.t-3 (at_ret En P) $
      let G = triple_of 𝓛 g.signature (g.spec 𝓛 𝓜.mem 𝓡.returns) in
      let z : G.Ghost = ((tt, tt, tt, (a, (depth, tt)), (hv ∷ [], (vint w32 depth ∷ [], tt))), tt) in
      nothing ! $ owned ! u32 _ (uint_Makes 𝓛 w32) depth _ (refl, fd) $ join ! $ move ! (1 ∷ 0 ∷ []) $ join ! $ nothing ! $ join ! $ nothing ! $ move ! (1 ∷ 0 ∷ []) $
      use2 𝓛 (raw (G.pre z)) (id⊢ 𝓤 _) $
      calls_at ! (framed 𝓤 H 𝓜 𝓣) G (g-thm.met 𝓤 𝓛 𝓜 𝓡 (code.calls-cam_c::session::begin 𝓡.env wired)) z (and_then ! (get ! refl) (and_then ! (get ! refl) (no_more !))) (λ v.
      use1 𝓛 (later (some (λ (r : Out.Denot). (‵ ftrue ⊛ ‵ (Out.own_val r (v ∷ []))) ⊛ some (λ (ws : Lasts g.ended z.0.0 z.0.3). ‵ (lasts g.ended z.0.0 z.0.3 ws) ⊛
      raw (fact 𝓤 (IfOk r (λ l. IsFresh depth l.value))) ⊛ raw (fact 𝓤 (IfErr r (λ c. IsUnopened depth c))))))) (id⊢ 𝓤 _) $
      await ! tt $ pick ! (λ r. split ! $ move ! (1 ∷ []) $ pick ! (λ _. split3 ! $ drop ! $ heard ! (IfOk r (λ l. IsFresh depth l.value)) (λ fresh. heard ! (IfErr r (λ c. IsUnopened depth c)) (λ unopened.
      split ! $ drop ! $
      -- [what is answered; the room]
      results ! (Loose R Z global_laws.the_row_laws ghosts) u32 r v
      (λ d us is e. loose_out R Z global_laws.the_row_laws ghosts ! d us (λ bb oo hl el ws fits.
      let w : Val = both (vptr bb oo) hl in let typed = loose_good R Z global_laws.the_row_laws ghosts bb oo hl fits in let p : Ptr = block_ptr bb oo in
      let Then = then_runs 𝓛 𝓣.C 𝓣.Λ En code.Mir.t-5 (at_ret En P) in
      lands_as ! (ap only (e ∙ ap (λ (xs : List Val). live 0 (of_list (xs ++ [])) ∷ []) ws)) refl (and_tt _ typed.0, (record { fits = lit< tt }, (typed.1, tt))) $
      move ! (1 ∷ []) $ drop ! $
      first ! $ switches_on ! (get_tag ! (vrt ! refl (fld ! refl (stop !))) (whole !)) $ exec ! 𝓣.C 𝓣.Λ En (arm_body 0 code.Mir.s-4) Then $
      sets ! (of_opd ! (get_in ! (vrt ! refl (fld ! refl (stop !))) (in_variant ! 0 0 refl refl (whole !)))) refl typed $
      sets ! (of_opd ! (get_in ! (fld ! refl (stop !)) (sub ! 0 refl (whole !)))) refl (tt, tt) $
      first ! $ blocks ! $ sets ! (of_opd ! (get ! refl)) refl (tt, tt) $ assigns_last ! (of_opd ! (get ! refl)) (through ! refl (stop !)) (init ! 1 refl (tt, tt)) $
      exec ! 𝓣.C 𝓣.Λ En (after 3 (arm_body 0 code.Mir.s-4)) Then $ sets_last ! (of_opd ! (lit ! tt)) refl (tt, record { fits = lit< tt }) $
      exec ! 𝓣.C 𝓣.Λ En code.Mir.t-5 (at_ret En P) $ sets ! (of_opd ! (get ! refl)) refl (tt, record { fits = lit< tt }) $
      move ! (1 ∷ []) $ feq_i ! (List Val) (vptr bb oo ∷ []) (vptr bb oo ∷ []) refl $ move ! (1 ∷ 0 ∷ []) $
      use2 𝓛 (‵ (part_at RawPtr full_share p b o)) (part_in 𝓛 RawPtr refl full_share p b o (vptr bb oo)) $
      owned ! u32 _ (uint_Makes 𝓛 w32) 0 _ (refl, lit< tt) $
      returns ! (look_at ! 0 refl) $ free_all ! refl $
      by ! (leave T p d.value 0 (vint w32 0) (refl, subst (λ (q : Out.Denot). IfOk q (λ l. IsFresh depth l.value)) is fresh))))
      (λ x us is e. peeks ! u32 (Is u32) (shows 𝓛 u32) x us (λ known. drop ! $
      let Then = then_runs 𝓛 𝓣.C 𝓣.Λ En code.Mir.t-5 (at_ret En P) in
      lands_as ! (ap only (e ∙ ap (λ (xs : List Val). live 1 (of_list (xs ++ [])) ∷ []) known.0)) refl (tt, (record { fits = lit< tt }, (record { fits = known.1 }, tt))) $
      first ! $ switches_on ! (get_tag ! (vrt ! refl (fld ! refl (stop !))) (whole !)) $ exec ! 𝓣.C 𝓣.Λ En (arm_body 1 code.Mir.s-4) Then $
      sets ! (of_opd ! (get_in ! (vrt ! refl (fld ! refl (stop !))) (in_variant ! 1 0 refl refl (whole !)))) refl (tt, record { fits = known.1 }) $
      first ! $ blocks ! $ assigns_last ! (of_opd ! (lit ! tt)) (through ! refl (stop !)) (init ! 0 refl (tt, record { fits = lit< tt })) $
      exec ! 𝓣.C 𝓣.Λ En (after 2 (arm_body 1 code.Mir.s-4)) Then $ sets_last ! (of_opd ! (get ! refl)) refl (tt, record { fits = known.1 }) $
      exec ! 𝓣.C 𝓣.Λ En code.Mir.t-5 (at_ret En P) $ sets ! (of_opd ! (get ! refl)) refl (tt, record { fits = known.1 }) $
      nothing ! $ move ! (1 ∷ []) $ feq_i ! (List Val) (vnull ∷ []) (vnull ∷ []) refl $ move ! (1 ∷ 0 ∷ []) $
      use2 𝓛 (‵ (part_at RawPtr full_share null_ptr b o)) (part_in 𝓛 RawPtr refl full_share null_ptr b o vnull) $
      owned ! u32 _ (uint_Makes 𝓛 w32) x _ (refl, known.1) $
      returns ! (look_at ! 0 refl) $ free_all ! refl $
      by ! (leave T null_ptr none x (vint w32 x) (subst (λ (q : Out.Denot). IfErr q (λ c. IsUnopened depth c)) is unopened)))))))))))

pub camplot_open_spec : {M : Type 1} → statement M
camplot_open_spec 𝓤 𝓛 𝓜 𝓡 wired =
    let c = f.clauses 𝓛 𝓜.mem 𝓡.returns in
    proved 𝓛 f.ended stayed c 𝓜 𝓡 (Goes-dropped 𝓛 0 (plain (λ _. Z)) yes (λ κs x w. refl), (Goes-dropped 𝓛 0 (plain (λ _. u32)) yes (λ κs x w. refl), (Goes-dropped 𝓛 0 (plain (λ _. RawPtr)) yes (λ κs x w. refl), tt)))
    f.Key.name code.function (code.unfolded 𝓤 𝓛.H 𝓜 𝓡 wired)
    (λ κs. (λ x. global_laws.lowers.lowered x ∷ [], (uint_vals w32, (rawptr_vals, tt)))) (λ κs. (λ x vs is. global_laws.lowers.val_is x vs is, (uint_Tells w32, (rawptr_Tells, tt)))) (λ κs qs bounds a _ are.
    qed 𝓛 ((‵ ftrue ⊛ ‵ (owns (Z ∷ u32 ∷ RawPtr ∷ []) a (global_laws.lowers.lowered a.0 ∷ [], (uint_vals w32 a.1.0, (rawptr_vals a.1.1.0, tt))))) ∷ ‵ (if_non_null a.1.1.0 (room_at RawPtr a.1.1.0)) ∷ raw (fact 𝓤 (Testable a.1.1.0)) ∷ []) ∵
    split ! $ drop ! $ fsplit ! $ move ! (1 ∷ []) $ drop ! $ move ! (2 ∷ []) $ heard ! (Testable a.1.1.0) (λ low. by ! (at_each 𝓛 𝓜 𝓡 wired a.0 a.1.0 are.1.0.1 a.1.1.0 are.0 low)))
