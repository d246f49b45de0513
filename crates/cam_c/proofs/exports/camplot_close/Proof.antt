-- `camplot_close` meets its contract: a walk of its MIR by hand. The box is made again of its pointer, and given away.
use Rattle.cam_c.proofs.Steps.{◌≡◌, List, [], ◌∷◌, refl, sym, ap, subst, lit<, proved, full_share, SProp, ent, sep, emp, id⊢, ftrue, flft, Val, vunit, vptr, fact, fact_i, tables, Logic, sem, ‵, raw, ◌⊛◌, some, later, at_ret, ◌$◌, ◌∵◌, !, qed, by, done, move, drop, pick, await, split, fsplit, rewrite, use0, use1, use2, join, feq_i, feq_l, suffices, group, enter, of_opd, lit, unit_lit, bin, no_more, and_then, first, blocks, branches, skips, exec, returns, returns_within, alloc_all, pass_all, free_all, look_at, get, sets, lands_as, lands_last, env, unit, yes, Ptr, RawPtr, block_ptr, null_ptr, Testable, tests_null, rawptr_vals, rawptr_Tells, plain, nothing, heard, only, Stays, walk_of, stay_dropped, Goes-dropped, ends_at, lft_new, calls_at, calls_at_last, lasts, triple_of, framed}
use seplogic.Ra.Ura.{Ura}
use lib.Dec.{T as Holds}
use mir.Val.{has_ty, WT}
use mir.Raw.{raw as bare}
use mir.Syntax.{Dict, impl, dnil, tcons, tnil}
use prog.Model.{Model}
use contract.BorrowLft.{◌⊑◌}
use contract.Running.{Running, MachineTables, within}
use denote.Laws.{Is}
use denote.Exit.{no}
use denote.Param.{arg, layout}
use denote.Param.Laws.{Laws, arg_laws}
use denote.Param.NoDrop.{glues}
use denote.RattleType.{RattleType, owns}
use denote.Triple.Statement.{Contract}
use denote.Triple.Clauses.{Lasts}
use prog.Wired.{Wired}
use prog.Wp.{WpFn}
use Rattle.std.specs.contracts.alloc.Global.{the_row as Z}
use Rattle.std.proofs.alloc.Global.TheLaws as global_laws
use Rattle.std.specs.declared.alloc.Global.{Global}
use Rattle.std.specs.contracts.impls.GlobalAllocator.TheImpl.{ghosts, dict}
use Rattle.std.proofs.impls.GlobalAllocator.TheImpl.Met.{passed}
use Rattle.std.specs.contracts.boxed.Box.from_raw as made
use Rattle.std.proofs.boxed.Box.from_raw.Met as made-thm
use Rattle.std.proofs.BoxSteps.Form as box
use Rattle.std.proofs.BoxSteps.Steps.{box_out, box_in}
use Rattle.cam_c.specs.declared.session.Session.{Session}
use Rattle.cam_c.specs.contracts.session.Session.{the_row as R}
use Rattle.cam_c.proofs.session.Session.TheLaws as session_laws
use Rattle.cam_c.specs.Lent.{held}
use Rattle.cam_c.specs.contracts.session.end as g
use Rattle.cam_c.proofs.session.end.Met as g-thm
use Rattle.cam_c.specs.contracts.exports.camplot_close as f
use Rattle.cam_c.proofs.Destruct++none.drop.Code as undropped
use Rattle.cam_c.proofs.exports.camplot_close.Symbol as symbol
use Rattle.cam_c.proofs.exports.camplot_close.Statement.{statement}
use Rattle.cam_c.proofs.exports.camplot_close.Code as code

abbrev stayed : Stays f.ended.signature.params f.ended.kept
stayed = (stay_dropped _ yes, (stay_dropped _ yes, tt))

-- a session and the allocator as type arguments
abbrev S : RattleType
S = arg (bare (layout R)) no R

abbrev LS : Laws S
LS = arg_laws (bare (layout R)) no R session_laws.the_row_laws refl

abbrev A : RattleType
A = arg (bare (layout Z)) no Z

abbrev LA : Laws A
LA = arg_laws (bare (layout Z)) no Z global_laws.the_row_laws refl

abbrev drops : Dict
drops = impl ("cam_c::Destruct++none::drop" ∷ []) (tcons (layout A) tnil) dnil

abbrev E : box.Bx
E = record { row = S; laws = LS; al = record { row = A; laws = LA; g = ghosts; d = dict; drops = drops } }

module _ {M : Type 1} {𝓤 : Ura M} (𝓛 : Logic 𝓤) (𝓜 : Model 𝓤 𝓛.H) (𝓡 : Running 𝓤 𝓛.H 𝓜) (wired : Wired 𝓡.env symbol.code) (s : Session) (a : Global) where
  open 𝓛 use {H}

  abbrev W : Contract 𝓤
  W = walk_of 𝓛 f.ended stayed (f.clauses 𝓛 𝓜.mem 𝓡.returns)

  abbrev 𝓣 : MachineTables 𝓤 H 𝓜
  𝓣 = tables 𝓤 H 𝓜 𝓡 𝓡.env

  abbrev hv : Val
  hv = global_laws.lowers.lowered a

  abbrev Makes : Contract 𝓤
  Makes = triple_of 𝓛 (made.signature S A ghosts dict drops) (made.spec S A ghosts dict drops 𝓛 𝓜.mem 𝓡.returns)

  module _ (t : Ptr) where
    abbrev bound : W.Ghost
    bound = ((tt, tt, tt, (a, (t, tt)), (hv ∷ [], (rawptr_vals t, tt))), s)

    abbrev Post : Val → SProp 𝓤
    Post = W.post bound

    leave : ent 𝓤 (emp 𝓤) (Post vunit)
    leave =
        qed 𝓛 [] ∵
        suffices ! _ (ends_at 𝓛 f.ended stayed (f.clauses 𝓛 𝓜.mem 𝓡.returns) bound vunit tt (tt, (tt, tt)) (tt, (tt, tt))) $
        feq_i ! _ (vunit ∷ []) _ refl $ nothing ! $ nothing ! $ join ! $ nothing ! $ join ! $ nothing ! $ group ! 3 $ nothing ! $ move ! (1 ∷ 0 ∷ []) $ done !

    abbrev Runs : SProp 𝓤
    Runs = WpFn 𝓤 H 𝓣.C 𝓣.Λ code.function (hv ∷ mathlib.Core.List.◌++◌ (rawptr_vals t) []) Post

  abbrev Had : Ptr → SProp 𝓤
  Had t = sep 𝓤 (sem 𝓛 (Z.own_val a (hv ∷ []))) (sem 𝓛 (held s t))

  at_each : (t : Ptr) → Is Z a (hv ∷ []) → Testable t → ent 𝓤 (Had t) (Runs t)
  unfolding undropped.code
  at_each null_ptr isa _ =
      let good = ((global_laws.the_row_laws.lawful 𝓛).typed a (hv ∷ []) isa).0 in
      qed 𝓛 (‵ (Z.own_val a (hv ∷ [])) ∷ ‵ (held s null_ptr) ∷ []) ∵ drop ! $ drop ! $ enter ! _ _ _ _ _ $
      alloc_all ! (λ i. pass_all ! refl (good, ((tt, record { fits = lit< tt }), tt)) $
      sets ! (of_opd ! (get ! refl)) refl (tt, record { fits = lit< tt }) $ sets ! (bin ! (get ! refl) (lit ! tt) tt) refl (tt, tt) $
      first ! $ branches ! (get ! refl)
      (λ _. sets ! (of_opd ! (unit_lit !)) refl (tt, tt) $ returns_within ! (Post null_ptr) refl (look_at ! 0 refl) $ free_all ! refl $ by ! (leave null_ptr))
      (λ wrong. absurd wrong))
  at_each (block_ptr b o) isa low =
      let T : Ptr = block_ptr b o in let P : Val → SProp 𝓤 = Post T in let B : RattleType = box.B E in
      let good = ((global_laws.the_row_laws.lawful 𝓛).typed a (hv ∷ []) isa).0 in
      qed 𝓛 (‵ (Z.own_val a (hv ∷ [])) ∷ ‵ (held s T) ∷ []) ∵ enter ! _ _ _ _ _ $
      alloc_all ! (λ i. pass_all ! refl (good, ((tt, tt), tt)) $ let En = env code.Mir.locals i in
      sets ! (of_opd ! (get ! refl)) refl (tt, tt) $ sets ! (bin ! (get ! refl) (lit ! tt) (tests_null T low)) refl (tt, tt) $
      first ! $ branches ! (get ! refl) (λ wrong. absurd wrong) (λ _. skips ! $ exec ! 𝓣.C 𝓣.Λ En code.Mir.t-4 (at_ret En P) $
      first ! $ blocks ! $ sets ! (of_opd ! (get ! refl)) refl good $ sets ! (of_opd ! (get ! refl)) refl (tt, tt) $ sets ! (of_opd ! (get ! refl)) refl (tt, tt) $
      lft_new ! tt (λ α. lft_new ! tt (λ β.
      -- [the token of β; of α; the allocator; what is held]
      let y : Makes.Ghost = (((α ∷ [], (β ∷ [], tt)), (full_share, (full_share, tt)), tt, (a, (T, tt)), (hv ∷ [], (vptr b o ∷ [], tt))), s) in
      nothing ! $ feq_i ! (List Val) (vptr b o ∷ []) (vptr b o ∷ []) refl $ join ! $ move ! (3 ∷ 0 ∷ []) $ join ! $
      nothing ! $ move ! (2 ∷ 0 ∷ []) $ join ! $ move ! (2 ∷ 0 ∷ []) $ join ! $ join ! $ move ! (1 ∷ []) $
      use0 𝓛 (raw (fact 𝓤 ((β ∷ []) ⊑ A.lives))) (fact_i 𝓤 _ (emp 𝓤) (global_laws.the_within (β ∷ []))) $ join ! $
      use0 𝓛 (raw (fact 𝓤 ((α ∷ []) ⊑ S.lives))) (fact_i 𝓤 _ (emp 𝓤) (session_laws.the_within (α ∷ []))) $ join ! $
      move ! (1 ∷ 0 ∷ []) $ use2 𝓛 (raw (Makes.pre y)) (id⊢ 𝓤 _) $
      calls_at_last ! (framed 𝓤 H 𝓜 𝓣) Makes (made-thm.met 𝓤 𝓛 𝓜 (within 𝓤 H 𝓜 𝓡 𝓡.env) (code.calls-std_alloc::boxed::Box::from_raw 𝓡.env wired) S A LS LA ghosts dict drops
      (passed 𝓡.env (code.calls-std_heap::GlobalAllocator::allocate 𝓡.env wired) (code.calls-std_heap::GlobalAllocator::deallocate 𝓡.env wired)
      (code.calls-std_heap::GlobalAllocator::grow 𝓡.env wired) (code.calls-std_heap::GlobalAllocator::shrink 𝓡.env wired) M 𝓤 𝓛 𝓜 𝓡)
      (glues "cam_c::Destruct++none::drop" 𝓡.env (code.calls-cam_c::Destruct++none::drop 𝓡.env wired) A LA M 𝓤 𝓛 𝓜 𝓡)) y
      (and_then ! (get ! refl) (and_then ! (get ! refl) (no_more !))) (λ u.
      use1 𝓛 (later (some (λ (r : B.Denot). ((‵ (flft (α ∷ []) full_share) ⊛ ‵ (flft (β ∷ []) full_share) ⊛ ‵ ftrue) ⊛ ‵ (B.own_val r (u ∷ []))) ⊛
      some (λ (ls : Lasts (made.ended S A ghosts dict drops) y.0.0 y.0.3). ‵ (lasts (made.ended S A ghosts dict drops) y.0.0 y.0.3 ls) ⊛ (raw (fact 𝓤 (r.value ≡ s)) ⊛ raw (fact 𝓤 (r.alloc ≡ a))))))) (id⊢ 𝓤 (Makes.post y u)) $
      await ! tt $ pick ! (λ r. split ! $ split ! $ drop ! $ move ! (1 ∷ []) $ pick ! (λ _. split ! $ drop ! $ drop ! $
      box_out E ! r (u ∷ []) (λ b' o' h' e' us fits'. box_in E ! r b' o' r.value e' refl $ rewrite ! 0 (λ (vs : List Val). ‵ (B.own_val r vs)) (sym us) refl $
      let typed = subst (λ (w : Val). Holds (has_ty (layout B) w) × WT w) (sym (ap only us)) (box.box_typed E h' b' o' fits') in
      lands_last ! refl typed $ exec ! 𝓣.C 𝓣.Λ En code.Mir.t-5 (at_ret En P) $ sets ! (of_opd ! (get ! refl)) refl typed $
      let G = triple_of 𝓛 g.signature (g.spec 𝓛 𝓜.mem 𝓡.returns) in
      let z : G.Ghost = ((tt, tt, tt, (r, tt), (u ∷ [], tt)), tt) in
      nothing ! $ move ! (1 ∷ 0 ∷ []) $ join ! $ nothing ! $ join ! $ nothing ! $ move ! (1 ∷ 0 ∷ []) $ use2 𝓛 (raw (G.pre z)) (id⊢ 𝓤 _) $
      calls_at ! (framed 𝓤 H 𝓜 𝓣) G (g-thm.met 𝓤 𝓛 𝓜 𝓡 (code.calls-cam_c::session::end 𝓡.env wired)) z (and_then ! (get ! refl) (no_more !)) (λ v.
      use1 𝓛 (later (some (λ (x : Unit {0}). (‵ ftrue ⊛ ‵ (unit.own_val x (v ∷ []))) ⊛ some (λ (ws : Lasts g.ended z.0.0 z.0.3). ‵ (lasts g.ended z.0.0 z.0.3 ws) ⊛ ‵ ftrue)))) (id⊢ 𝓤 _) $
      await ! tt $ pick ! (λ x. split ! $ split ! $ drop ! $ feq_l ! (λ is_unit. drop ! $
      lands_as ! (ap only is_unit) refl (tt, tt) $ sets ! (of_opd ! (unit_lit !)) refl (tt, tt) $
      returns ! (look_at ! 0 refl) $ free_all ! refl $ by ! (leave T))))))))))))

pub camplot_close_spec : {M : Type 1} → statement M
camplot_close_spec 𝓤 𝓛 𝓜 𝓡 wired =
    let c = f.clauses 𝓛 𝓜.mem 𝓡.returns in
    proved 𝓛 f.ended stayed c 𝓜 𝓡 (Goes-dropped 𝓛 0 (plain (λ _. Z)) yes (λ κs x w. refl), (Goes-dropped 𝓛 0 (plain (λ _. RawPtr)) yes (λ κs x w. refl), tt))
    f.Key.name code.function (code.unfolded 𝓤 𝓛.H 𝓜 𝓡 wired)
    (λ κs. (λ x. global_laws.lowers.lowered x ∷ [], (rawptr_vals, tt))) (λ κs. (λ x vs is. global_laws.lowers.val_is x vs is, (rawptr_Tells, tt))) (λ κs qs bounds a g are.
    qed 𝓛 ((‵ ftrue ⊛ ‵ (owns (Z ∷ RawPtr ∷ []) a (global_laws.lowers.lowered a.0 ∷ [], (rawptr_vals a.1.0, tt)))) ∷ ‵ (held g a.1.0) ∷ raw (fact 𝓤 (Testable a.1.0)) ∷ []) ∵ split ! $ drop ! $ fsplit ! $ move ! (1 ∷ []) $ drop ! $ move ! (2 ∷ []) $ heard ! (Testable a.1.0) (λ low. by ! (at_each 𝓛 𝓜 𝓡 wired g a.0 a.1.0 are.0 low)))
