-- `camplot_redraw` meets its contract: a walk of its MIR by hand.
use Rattle.cam_c.proofs.Steps.{ℕ, ◌<◌, ◌^◌, [], ◌∷◌, refl, lit<, w32, proved, full_share, SProp, ent, sep, ex, emp, id⊢, ftrue, flft, flent, named, Val, vint, vptr, fact, fact_i, tables, Logic, sem, ‵, raw, ◌⊛◌, some, later, at_ret, ◌$◌, ◌∵◌, !, qed, by, done, move, drop, pick, await, split, fsplit, fjoin, use0, use1, use2, use3, join, suffices, group, show, enter, of_opd, lit, bin, addr, stop, no_more, and_then, first, blocks, branches, skips, exec, returns, returns_within, alloc_all, pass_all, free_all, look_at, get, through, sets, sets_last, lands_as, env, u32, yes, uint_Makes, uint_vals, uint_Tells, uint_Lawful, Ptr, RawPtr, block_ptr, null_ptr, Testable, tests_null, rawptr_vals, rawptr_Tells, plain, nothing, owned, heard, peeks, on_entry, Stays, walk_of, stay_dropped, Goes-dropped, ends_at, Body, lft_new, lft_end, lends_ref, ref_back, mem, part_at, MutRef, calls_at, lasts, triple_of, framed, Is, shows}
use seplogic.Ra.Ura.{Ura}
use prog.Model.{Model}
use contract.Running.{Running, MachineTables}
use denote.Triple.Statement.{Contract}
use denote.Triple.Clauses.{Lasts}
use prog.Wired.{Wired}
use prog.Wp.{WpFn}
use Rattle.cam_c.specs.declared.session.Session.{Session}
use Rattle.cam_c.specs.contracts.session.Session.{the_row as R}
use Rattle.cam_c.specs.Lent.{held}
use Rattle.cam_c.specs.Calls.{IsRedrawn}
use Rattle.cam_c.specs.Pointers.{RedrawnBy}
use Rattle.cam_c.specs.contracts.session.Session.redraw as g
use Rattle.cam_c.proofs.session.Session.redraw.Met as g-thm
use Rattle.cam_c.specs.contracts.exports.camplot_redraw as f
use Rattle.cam_c.proofs.exports.camplot_redraw.Symbol as symbol
use Rattle.cam_c.proofs.exports.camplot_redraw.Statement.{statement}
use Rattle.cam_c.proofs.exports.camplot_redraw.Code as code

abbrev stayed : Stays f.ended.signature.params f.ended.kept
stayed = (stay_dropped _ yes, (stay_dropped _ yes, tt))

module _ {M : Type 1} {𝓤 : Ura M} (𝓛 : Logic 𝓤) (𝓜 : Model 𝓤 𝓛.H) (𝓡 : Running 𝓤 𝓛.H 𝓜) (wired : Wired 𝓡.env symbol.code) (s : Session) (n : ℕ) where
  open 𝓛 use {H}

  abbrev W : Contract 𝓤
  W = walk_of 𝓛 f.ended stayed (f.clauses 𝓛 𝓜.mem 𝓡.returns)

  abbrev 𝓣 : MachineTables 𝓤 H 𝓜
  𝓣 = tables 𝓤 H 𝓜 𝓡 𝓡.env

  module _ (t : Ptr) where
    abbrev bound : W.Ghost
    bound = ((tt, tt, tt, (t, (n, tt)), (rawptr_vals t, (uint_vals w32 n, tt))), s)

    abbrev Post : Val → SProp 𝓤
    Post = W.post bound

    abbrev Told : Session → ℕ → SProp 𝓤
    Told s' r = sep 𝓤 (sem 𝓛 (held s' t)) (fact 𝓤 (RedrawnBy t n s s' r))

    told : (s' : Session) (r : ℕ) → RedrawnBy t n s s' r → ent 𝓤 (sem 𝓛 (held s' t)) (ex 𝓤 (λ (z : Session). Told z r))
    told s' r is =
        qed 𝓛 (‵ (held s' t) ∷ []) ∵
        use0 𝓛 (raw (fact 𝓤 (RedrawnBy t n s s' r))) (fact_i 𝓤 _ (emp 𝓤) is) $ show ! (λ (z : Session). Told z r) s' $ move ! (1 ∷ []) $ done !

    leave : (s' : Session) (r : ℕ) (v : Val) → RedrawnBy t n s s' r → ent 𝓤 (sep 𝓤 (sem 𝓛 (u32.own_val r (v ∷ []))) (sem 𝓛 (held s' t))) (Post v)
    leave s' r v is =
        qed 𝓛 (‵ (u32.own_val r (v ∷ [])) ∷ ‵ (held s' t) ∷ []) ∵ move ! (1 ∷ []) $
        use1 𝓛 (raw (ex 𝓤 (λ (z : Session). Told z r))) (told s' r is) $
        suffices ! _ (ends_at 𝓛 f.ended stayed (f.clauses 𝓛 𝓜.mem 𝓡.returns) bound v r (tt, (tt, tt)) (tt, (tt, tt))) $
        move ! (1 ∷ []) $ nothing ! $ nothing ! $ join ! $ nothing ! $ join ! $ nothing ! $ group ! 3 $ done !

    abbrev Runs : SProp 𝓤
    Runs = WpFn 𝓤 H 𝓣.C 𝓣.Λ code.function (mathlib.Core.List.◌++◌ (rawptr_vals t) (vint w32 n ∷ [])) Post

  -- by the pointer's form
  at_each : (t : Ptr) → n < 2 ^ 32 → Testable t → ent 𝓤 (sem 𝓛 (held s t)) (Runs t)
  at_each null_ptr fn _ =
      qed 𝓛 (‵ (held s null_ptr) ∷ []) ∵ enter ! _ _ _ _ _ $
      alloc_all ! (λ i. pass_all ! refl ((tt, record { fits = lit< tt }), ((tt, record { fits = fn }), tt)) $
      sets ! (of_opd ! (get ! refl)) refl (tt, record { fits = lit< tt }) $ sets ! (bin ! (get ! refl) (lit ! tt) tt) refl (tt, tt) $
      first ! $ branches ! (get ! refl)
      (λ _. sets ! (of_opd ! (lit ! tt)) refl (tt, record { fits = lit< tt }) $ owned ! u32 _ (uint_Makes 𝓛 w32) 90 _ (refl, lit< tt) $
      returns_within ! (Post null_ptr) refl (look_at ! 0 refl) $ free_all ! refl $ by ! (leave null_ptr s 90 (vint w32 90) (record { code_is = refl; same = refl })))
      (λ wrong. absurd wrong))
  at_each (block_ptr b o) fn low =
      let T : Ptr = block_ptr b o in let P : Val → SProp 𝓤 = Post T in
      qed 𝓛 (‵ (held s T) ∷ []) ∵ enter ! _ _ _ _ _ $
      alloc_all ! (λ i. pass_all ! refl ((tt, tt), ((tt, record { fits = fn }), tt)) $ let En = env code.Mir.locals i in
      sets ! (of_opd ! (get ! refl)) refl (tt, tt) $ sets ! (bin ! (get ! refl) (lit ! tt) (tests_null T low)) refl (tt, tt) $
      first ! $ branches ! (get ! refl) (λ wrong. absurd wrong) (λ _. skips ! $ exec ! 𝓣.C 𝓣.Λ En code.Mir.t-4 (at_ret En P) $
      first ! $ blocks ! $ sets ! (of_opd ! (get ! refl)) refl (tt, tt) $ sets ! (of_opd ! (get ! refl)) refl (tt, tt) $
      sets_last ! (addr ! (through ! refl (stop !))) refl (tt, tt) $ exec ! 𝓣.C 𝓣.Λ En code.Mir.t-5 (at_ret En P) $
      sets ! (of_opd ! (get ! refl)) refl (tt, tt) $ sets ! (of_opd ! (get ! refl)) refl (tt, record { fits = fn }) $
      fsplit ! $ lft_new ! tt (λ α. move ! (1 ∷ []) $
      use1 𝓛 (later (some (λ (γ : ℕ). ‵ ((MutRef (named 0) (α ∷ []) R).own_val (record { ref_ptr = (b, o); ghost_name = γ; now = s }) (vptr b o ∷ [])) ⊛ ‵ (flent (α ∷ []) (Body (mem R) b o γ)))))
      (lends_ref 𝓛 R (named 0) (α ∷ []) s b o) $ await ! tt $ pick ! (λ γ. split ! $
      -- [the loan; its lender's part; the token of α; the right to free]
      let G = triple_of 𝓛 g.signature (g.spec 𝓛 𝓜.mem 𝓡.returns) in
      let z : G.Ghost = (((α ∷ [], tt), (full_share, tt), tt, (record { ref_ptr = (b, o); ghost_name = γ; now = s }, (n, tt)), (vptr b o ∷ [], (vint w32 n ∷ [], tt))), tt) in
      nothing ! $ owned ! u32 _ (uint_Makes 𝓛 w32) n _ (refl, fn) $ join ! $ move ! (1 ∷ 0 ∷ []) $ join ! $
      nothing ! $ move ! (3 ∷ 0 ∷ []) $ join ! $ join ! $ nothing ! $ move ! (1 ∷ 0 ∷ []) $ use2 𝓛 (raw (G.pre z)) (id⊢ 𝓤 _) $
      calls_at ! (framed 𝓤 H 𝓜 𝓣) G (g-thm.met 𝓤 𝓛 𝓜 𝓡 (code.calls-cam_c::session::Session::redraw 𝓡.env wired)) z (and_then ! (get ! refl) (and_then ! (get ! refl) (no_more !))) (λ v.
      use1 𝓛 (later (some (λ (r : ℕ). ((‵ (flft (α ∷ []) full_share) ⊛ ‵ ftrue) ⊛ ‵ (u32.own_val r (v ∷ []))) ⊛
      some (λ (ws : Lasts g.ended z.0.0 z.0.3). ‵ (lasts g.ended z.0.0 z.0.3 ws) ⊛ raw (fact 𝓤 (IsRedrawn s n ws.0 r)))))) (id⊢ 𝓤 _) $
      await ! tt $ pick ! (λ r. split ! $ move ! (1 ∷ []) $ pick ! (λ ws. split ! $ move ! (1 ∷ []) $ heard ! (IsRedrawn s n ws.0 r) (λ did. fsplit ! $ fsplit ! $
      -- [the loan's last value; its borrow; nothing; the token and the result; the lender's part; the right to free]
      move ! (3 ∷ []) $ split ! $ split ! $ lft_end ! tt $ move ! (0 ∷ 6 ∷ 3 ∷ []) $
      use3 𝓛 (later (‵ (part_at R full_share ws.0 b o))) (ref_back 𝓛 R (α ∷ []) γ ws.0 b o) $ await ! tt $
      move ! (1 ∷ []) $ drop ! $ move ! (2 ∷ []) $ drop ! $ move ! (2 ∷ []) $ drop ! $ move ! (0 ∷ 2 ∷ []) $ fjoin ! $ move ! (1 ∷ []) $
      peeks ! u32 (Is u32) (shows 𝓛 u32) r (v ∷ []) (λ is. lands_as ! refl refl ((uint_Lawful 𝓛 w32).typed r _ is).0 $
      returns ! (look_at ! 0 refl) $ free_all ! refl $ by ! (leave T ws.0 r v did))))))))))

pub camplot_redraw_spec : {M : Type 1} → statement M
camplot_redraw_spec 𝓤 𝓛 𝓜 𝓡 wired =
    let c = f.clauses 𝓛 𝓜.mem 𝓡.returns in
    proved 𝓛 f.ended stayed c 𝓜 𝓡 (Goes-dropped 𝓛 0 (plain (λ _. RawPtr)) yes (λ κs x w. refl), (Goes-dropped 𝓛 0 (plain (λ _. u32)) yes (λ κs x w. refl), tt))
    f.Key.name code.function (code.unfolded 𝓤 𝓛.H 𝓜 𝓡 wired)
    (λ κs. (rawptr_vals, (uint_vals w32, tt))) (λ κs. (rawptr_Tells, (uint_Tells w32, tt))) (λ κs qs bounds a g are.
    qed 𝓛 (raw (on_entry 𝓛 f.signature κs qs a (rawptr_vals a.0, (uint_vals w32 a.1.0, tt))) ∷ ‵ (held g a.0) ∷ raw (fact 𝓤 (Testable a.0)) ∷ []) ∵ drop ! $
    move ! (1 ∷ []) $ heard ! (Testable a.0) (λ low. by ! (at_each 𝓛 𝓜 𝓡 wired g a.1.0 a.0 are.1.0.1 low)))
