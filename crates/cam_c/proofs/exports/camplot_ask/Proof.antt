-- `camplot_ask` meets its contract: a walk of its MIR by hand.
use Rattle.cam_c.proofs.Steps.{big_lit, long, short, short_is, ◌≡◌, ℕ, ◌<◌, ◌*◌, ◌^◌, List, [], ◌∷◌, length, false, refl, sym, subst, lit<, w8, w32, w64, arith, proved, full_share, SProp, ent, sep, ex, emp, id⊢, Share, ftrue, flft, flent, Incl-refl, named, Val, vint, vptr, fact, fact_i, tables, Logic, sem, ‵, raw, ◌⊛◌, some, later, at_ret, ◌$◌, ◌∵◌, !, qed, by, done, move, drop, pick, await, split, split3, fsplit, fjoin, feq_i, use0, use1, use2, use3, join, suffices, group, show, enter, of_opd, lit, bin, addr, agg, stop, no_more, and_then, first, blocks, branches, skips, exec, returns, returns_within, alloc_all, pass_all, free_all, look_at, get, through, sets, sets_last, lands_as, env, u8, u32, usize, yes, uint_Makes, uint_vals, uint_Tells, uint_Lawful, uint_Copied, Ptr, RawPtr, block_ptr, null_ptr, Testable, tests_null, rawptr_vals, rawptr_Tells, rawptr_Lawful, plain, nothing, owned, heard, peeks, on_entry, Stays, walk_of, stay_dropped, Goes-dropped, ends_at, Body, arr_parts, lft_new, lft_end, lent_back, lends_ref, ref_back, lends_shr_slice, mem, shares, part_at, MutRef, ShrSlice, slice_val, calls_at, lasts, triple_of, framed, Is, shows}
use seplogic.Ra.Ura.{Ura}
use prog.Model.{Model}
use contract.Running.{Running, MachineTables}
use denote.Triple.Statement.{Contract}
use denote.Triple.Clauses.{Lasts}
use prog.Wired.{Wired}
use prog.Wp.{WpFn}
use mathlib.Core.Bool.{Bool, ◌&&◌}
use Rattle.cam_c.specs.declared.session.Session.{Session}
use Rattle.cam_c.specs.contracts.session.Session.{the_row as R}
use Rattle.cam_c.specs.Lent.{held, lent}
use Rattle.cam_c.specs.Calls.{IsQuestioned}
use Rattle.cam_c.specs.Pointers.{AskedBy, AskedWhere, is_pointed_to, is_usable}
use Rattle.cam_c.specs.contracts.session.Session.ask as g
use Rattle.cam_c.proofs.session.Session.ask.Met as g-thm
use Rattle.cam_c.specs.contracts.exports.camplot_ask as f
use Rattle.cam_c.proofs.exports.camplot_ask.Symbol as symbol
use Rattle.cam_c.proofs.exports.camplot_ask.Statement.{statement}
use Rattle.cam_c.proofs.exports.camplot_ask.Code as code

abbrev stayed : Stays f.ended.signature.params f.ended.kept
stayed = (stay_dropped _ yes, (stay_dropped _ yes, (stay_dropped _ yes, tt)))

module _ {M : Type 1} {𝓤 : Ura M} (𝓛 : Logic 𝓤) (𝓜 : Model 𝓤 𝓛.H) (𝓡 : Running 𝓤 𝓛.H 𝓜) (wired : Wired 𝓡.env symbol.code)
    (s : Session) (q : Share) (xs : List ℕ) where
  open 𝓛 use {H}

  abbrev W : Contract 𝓤
  W = walk_of 𝓛 f.ended stayed (f.clauses 𝓛 𝓜.mem 𝓡.returns)

  abbrev 𝓣 : MachineTables 𝓤 H 𝓜
  𝓣 = tables 𝓤 H 𝓜 𝓡 𝓡.env

  module _ (t l : Ptr) (n : ℕ) where
    abbrev bound : W.Ghost
    bound = ((tt, tt, tt, (t, (l, (n, tt))), (rawptr_vals t, (rawptr_vals l, (uint_vals w64 n, tt)))), (s, (q, xs)))

    abbrev Post : Val → SProp 𝓤
    Post = W.post bound

    abbrev Told : Session → ℕ → SProp 𝓤
    Told s' r = sep 𝓤 (sem 𝓛 (held s' t)) (sep 𝓤 (sem 𝓛 (lent u8 q xs l)) (fact 𝓤 (AskedBy t l xs s s' r)))

    abbrev Lent : Session → SProp 𝓤
    Lent s' = sep 𝓤 (sem 𝓛 (held s' t)) (sem 𝓛 (lent u8 q xs l))

    told : (s' : Session) (r : ℕ) → AskedBy t l xs s s' r → ent 𝓤 (Lent s') (ex 𝓤 (λ (z : Session). Told z r))
    told s' r is =
        qed 𝓛 (‵ (held s' t) ∷ ‵ (lent u8 q xs l) ∷ []) ∵
        use0 𝓛 (raw (fact 𝓤 (AskedBy t l xs s s' r))) (fact_i 𝓤 _ (emp 𝓤) is) $ show ! (λ (z : Session). Told z r) s' $ move ! (1 ∷ 2 ∷ []) $ done !

    -- what is lent goes back, and the number is told
    leave : (s' : Session) (r : ℕ) (v : Val) → AskedBy t l xs s s' r → ent 𝓤 (sep 𝓤 (sem 𝓛 (u32.own_val r (v ∷ []))) (Lent s')) (Post v)
    leave s' r v is =
        qed 𝓛 (‵ (u32.own_val r (v ∷ [])) ∷ ‵ (held s' t) ∷ ‵ (lent u8 q xs l) ∷ []) ∵ move ! (1 ∷ 2 ∷ []) $
        use2 𝓛 (raw (ex 𝓤 (λ (z : Session). Told z r))) (told s' r is) $
        suffices ! _ (ends_at 𝓛 f.ended stayed (f.clauses 𝓛 𝓜.mem 𝓡.returns) bound v r (tt, (tt, (tt, tt))) (tt, (tt, (tt, tt)))) $
        move ! (1 ∷ []) $ nothing ! $ nothing ! $ join ! $ nothing ! $ join ! $ nothing ! $ join ! $ nothing ! $ group ! 3 $ done !

    -- the same station, and the number of a pointer that cannot be used
    refuse : (is_pointed_to t && is_usable l xs) ≡ false → ent 𝓤 (Lent s) (Post (vint w32 90))
    refuse not =
        qed 𝓛 (‵ (held s t) ∷ ‵ (lent u8 q xs l) ∷ []) ∵ owned ! u32 _ (uint_Makes 𝓛 w32) 90 _ (refl, lit< tt) $
        by ! (leave s 90 (vint w32 90) (subst (λ (b : Bool). AskedWhere b xs s s 90) (sym not) (record { code_is = refl; same = refl })))

    abbrev Runs : SProp 𝓤
    Runs = WpFn 𝓤 H 𝓣.C 𝓣.Λ code.function (mathlib.Core.List.◌++◌ (rawptr_vals t) (mathlib.Core.List.◌++◌ (rawptr_vals l) (vint w64 n ∷ []))) Post

  module _ (n : ℕ) (fn : n < 2 ^ 64) where
    -- no station
    bare : (l : Ptr) → ent 𝓤 (Lent null_ptr l n s) (Runs null_ptr l n)
    bare l =
        qed 𝓛 (‵ (held s null_ptr) ∷ ‵ (lent u8 q xs l) ∷ []) ∵ enter ! _ _ _ _ _ $
        alloc_all ! (λ i. pass_all ! refl ((tt, record { fits = lit< tt }), (((rawptr_Lawful 𝓛).typed l _ refl).0, ((tt, record { fits = fn }), tt))) $
        sets ! (bin ! (get ! refl) (lit ! tt) tt) refl (tt, tt) $
        first ! $ branches ! (get ! refl)
        (λ _. sets ! (of_opd ! (lit ! tt)) refl (tt, record { fits = lit< tt }) $
        returns_within ! (Post null_ptr l n) refl (look_at ! 0 refl) $ free_all ! refl $ by ! (refuse null_ptr l n refl))
        (λ wrong. absurd wrong))

    -- no question
    no_line : (b o : ℕ) → o < 2 ^ 63 → ent 𝓤 (Lent (block_ptr b o) null_ptr n s) (Runs (block_ptr b o) null_ptr n)
    no_line b o low =
        let T : Ptr = block_ptr b o in
        qed 𝓛 (‵ (held s T) ∷ ‵ (lent u8 q xs null_ptr) ∷ []) ∵ enter ! _ _ _ _ _ $
        alloc_all ! (λ i. pass_all ! refl ((tt, tt), ((tt, record { fits = lit< tt }), ((tt, record { fits = fn }), tt))) $
        let En = env code.Mir.locals i in
        sets ! (bin ! (get ! refl) (lit ! tt) (tests_null T low)) refl (tt, tt) $
        first ! $ branches ! (get ! refl) (λ wrong. absurd wrong) (λ _. skips ! $ exec ! 𝓣.C 𝓣.Λ En code.Mir.t-3 (at_ret En (Post T null_ptr n)) $
        sets ! (bin ! (get ! refl) (lit ! tt) tt) refl (tt, tt) $
        first ! $ branches ! (get ! refl)
        (λ _. sets ! (of_opd ! (lit ! tt)) refl (tt, record { fits = lit< tt }) $
        returns_within ! (Post T null_ptr n) refl (look_at ! 0 refl) $ free_all ! refl $ by ! (refuse T null_ptr n refl))
        (λ wrong. absurd wrong)))

  module _ (fn : length xs < 2 ^ 64) where
    abbrev n : ℕ
    n = length xs

    -- a station and a question
    with_question : (b o b' o' : ℕ) → o < 2 ^ 63 → o' < 2 ^ 63
        → ent 𝓤 (Lent (block_ptr b o) (block_ptr b' o') n s) (Runs (block_ptr b o) (block_ptr b' o') n)
    with_question b o b' o' low low' =
        let T : Ptr = block_ptr b o in let L : Ptr = block_ptr b' o' in let P : Val → SProp 𝓤 = Post T L n in
        qed 𝓛 (‵ (held s T) ∷ ‵ (lent u8 q xs L) ∷ []) ∵ enter ! _ _ _ _ _ $
        alloc_all ! (λ i. pass_all ! refl ((tt, tt), ((tt, tt), ((tt, record { fits = fn }), tt))) $
        let En = env code.Mir.locals i in
        sets ! (bin ! (get ! refl) (lit ! tt) (tests_null T low)) refl (tt, tt) $
        first ! $ branches ! (get ! refl) (λ wrong. absurd wrong) (λ _. skips ! $ exec ! 𝓣.C 𝓣.Λ En code.Mir.t-3 (at_ret En P) $
        sets ! (bin ! (get ! refl) (lit ! tt) (tests_null L low')) refl (tt, tt) $
        first ! $ branches ! (get ! refl) (λ wrong. absurd wrong) (λ _. skips ! $ exec ! 𝓣.C 𝓣.Λ En code.Mir.t-5 (at_ret En P) $
        sets ! (bin ! (big_lit ! (record { fits = lit< tt })) (get ! refl) tt) refl (tt, tt) $
        first ! $ branches ! (get ! refl)
        (λ big. sets ! (of_opd ! (lit ! tt)) refl (tt, record { fits = lit< tt }) $
        returns_within ! P refl (look_at ! 0 refl) $ free_all ! refl $ by ! (refuse T L n (long n big)))
        (λ small. skips ! $ exec ! 𝓣.C 𝓣.Λ En code.Mir.t-7 (at_ret En P) $
        first ! $ blocks ! $ sets ! (of_opd ! (get ! refl)) refl (tt, tt) $
        sets_last ! (addr ! (through ! refl (stop !))) refl (tt, tt) $ exec ! 𝓣.C 𝓣.Λ En code.Mir.t-8 (at_ret En P) $
        sets ! (of_opd ! (get ! refl)) refl (tt, tt) $
        first ! $ blocks ! $
        sets_last ! (agg ! (and_then ! (get ! refl) (and_then ! (get ! refl) (no_more !)))) refl (tt, (tt, (record { fits = fn }, tt))) $ exec ! 𝓣.C 𝓣.Λ En code.Mir.t-10 (at_ret En P) $
        sets ! (of_opd ! (get ! refl)) refl (tt, (tt, (record { fits = fn }, tt))) $
        sets ! (addr ! (through ! refl (stop !))) refl (tt, tt) $
        fsplit ! $ lft_new ! tt (λ α. lft_new ! tt (λ β.
        -- [the token of β; of α; the station; the right to free it; the question]
        let lent_line = (arr_parts (shares u8) (length xs)).part q xs b' o' in let small : n < 2 ^ 63 = short n small in
        let fits : length xs < 2 ^ 64 = omega (arith, small) in let room : length xs * 1 < 2 ^ 63 = omega (arith, small) in
        move ! (2 ∷ []) $
        use1 𝓛 (later (some (λ (γ : ℕ). ‵ ((MutRef (named 0) (α ∷ []) R).own_val (record { ref_ptr = (b, o); ghost_name = γ; now = s }) (vptr b o ∷ [])) ⊛ ‵ (flent (α ∷ []) (Body (mem R) b o γ)))))
        (lends_ref 𝓛 R (named 0) (α ∷ []) s b o) $ await ! tt $ pick ! (λ γ. split ! $
        -- [the loan; the lender's part; the token of β; of α; the right to free; the question]
        move ! (5 ∷ []) $ feq_i ! ℕ (length xs) (length xs) refl $ fjoin ! $ move ! (0 ∷ 3 ∷ []) $
        use2 𝓛 (later ((‵ ((ShrSlice (named 1) (β ∷ []) u8).own_val (record { ref_ptr = (b', o'); now = xs }) (slice_val (b', o') (length xs) ∷ [])) ⊛ ‵ (flent (β ∷ []) lent_line)) ⊛ ‵ (flft (β ∷ []) full_share)))
        (lends_shr_slice 𝓛 u8 (named 1) (β ∷ []) q xs b' o' (fits, room) (β ∷ []) ((uint_Copied 𝓛 w8).shares q (β ∷ [])) ((β ∷ [], full_share) ∷ []) (Incl-refl (β ∷ [])) (Incl-refl (β ∷ []))) $ await ! tt $ split ! $ split ! $
        -- [the slice; its lender's part; the token of β; the loan; its lender's part; the token of α; the right to free]
        let G = triple_of 𝓛 g.signature (g.spec 𝓛 𝓜.mem 𝓡.returns) in
        let z : G.Ghost = (((α ∷ [], (β ∷ [], tt)), (full_share, (full_share, tt)), tt, (record { ref_ptr = (b, o); ghost_name = γ; now = s }, (record { ref_ptr = (b', o'); now = xs }, tt)), (vptr b o ∷ [], (slice_val (b', o') (length xs) ∷ [], tt))), tt) in
        nothing ! $ move ! (1 ∷ 0 ∷ []) $ join ! $ move ! (3 ∷ 0 ∷ []) $ join ! $
        nothing ! $ move ! (3 ∷ 0 ∷ []) $ join ! $ move ! (4 ∷ 0 ∷ []) $ join ! $ join ! $
        nothing ! $ move ! (1 ∷ 0 ∷ []) $ use2 𝓛 (raw (G.pre z)) (id⊢ 𝓤 _) $
        calls_at ! (framed 𝓤 H 𝓜 𝓣) G (g-thm.met 𝓤 𝓛 𝓜 𝓡 (code.calls-cam_c::session::Session::ask 𝓡.env wired)) z (and_then ! (get ! refl) (and_then ! (get ! refl) (no_more !))) (λ v.
        use1 𝓛 (later (some (λ (r : ℕ). ((‵ (flft (α ∷ []) full_share) ⊛ ‵ (flft (β ∷ []) full_share) ⊛ ‵ ftrue) ⊛ ‵ (u32.own_val r (v ∷ []))) ⊛
        some (λ (ws : Lasts g.ended z.0.0 z.0.3). ‵ (lasts g.ended z.0.0 z.0.3 ws) ⊛ raw (fact 𝓤 (IsQuestioned s xs ws.0 r)))))) (id⊢ 𝓤 _) $
        await ! tt $ pick ! (λ r. split ! $ move ! (1 ∷ []) $ pick ! (λ ws. split ! $ move ! (1 ∷ []) $ heard ! (IsQuestioned s xs ws.0 r) (λ did. fsplit ! $ fsplit ! $
        -- [the loan's last value; its borrow; nothing; the tokens and the result; the two lender's parts; the right to free]
        move ! (3 ∷ []) $ split ! $ split3 ! $ lft_end ! tt $
        -- [α is over; the token of β; nothing; the result; the last value; its borrow; nothing; the lender's parts: of the question, of the station; the right to free]
        move ! (0 ∷ 8 ∷ 4 ∷ []) $ use3 𝓛 (later (‵ (part_at R full_share ws.0 b o))) (ref_back 𝓛 R (α ∷ []) γ ws.0 b o) $ await ! tt $
        move ! (1 ∷ []) $ lft_end ! tt $ move ! (0 ∷ 6 ∷ []) $ lent_back ! tt $ fsplit ! $ drop ! $
        -- [the question; the station; nothing; the result; the borrow; nothing; the right to free]
        move ! (4 ∷ []) $ drop ! $ move ! (4 ∷ []) $ drop ! $ move ! (2 ∷ []) $ drop ! $ move ! (1 ∷ 3 ∷ []) $ fjoin ! $ move ! (2 ∷ 0 ∷ 1 ∷ []) $
        -- [the result; what is held; the question]
        peeks ! u32 (Is u32) (shows 𝓛 u32) r (v ∷ []) (λ is. lands_as ! refl refl ((uint_Lawful 𝓛 w32).typed r _ is).0 $
        returns ! (look_at ! 0 refl) $ free_all ! refl $
        by ! (leave T L n ws.0 r v (subst (λ (k : Bool). AskedWhere k xs s ws.0 r) (sym (short_is n small)) did))))))))))))))

  -- by the pointers' forms
  at_each : (t l : Ptr) (n : ℕ) → n < 2 ^ 64 → length xs ≡ n → Testable t → Testable l → ent 𝓤 (Lent t l n s) (Runs t l n)
  at_each null_ptr l n fn cn _ _ = bare n fn l
  at_each (block_ptr b o) null_ptr n fn cn low _ = no_line n fn b o low
  at_each (block_ptr b o) (block_ptr b' o') n fn cn low low' =
      let T : Ptr = block_ptr b o in let L : Ptr = block_ptr b' o' in
      subst (λ (k : ℕ). k < 2 ^ 64 → ent 𝓤 (Lent T L k s) (Runs T L k)) cn (λ f. with_question f b o b' o' low low') fn

pub camplot_ask_spec : {M : Type 1} → statement M
camplot_ask_spec 𝓤 𝓛 𝓜 𝓡 wired =
    let c = f.clauses 𝓛 𝓜.mem 𝓡.returns in
    let ptr = Goes-dropped 𝓛 0 (plain (λ _. RawPtr)) yes (λ κs x w. refl) in let num = Goes-dropped 𝓛 0 (plain (λ _. usize)) yes (λ κs x w. refl) in
    proved 𝓛 f.ended stayed c 𝓜 𝓡 (ptr, (ptr, (num, tt)))
    f.Key.name code.function (code.unfolded 𝓤 𝓛.H 𝓜 𝓡 wired)
    (λ κs. (rawptr_vals, (rawptr_vals, (uint_vals w64, tt))))
    (λ κs. (rawptr_Tells, (rawptr_Tells, (uint_Tells w64, tt)))) (λ κs qs bounds a g are.
    qed 𝓛 (raw (on_entry 𝓛 f.signature κs qs a (rawptr_vals a.0, (rawptr_vals a.1.0, (uint_vals w64 a.1.1.0, tt)))) ∷ ‵ (held g.0 a.0) ∷ ‵ (lent u8 g.1.0 g.1.1 a.1.0)
    ∷ raw (fact 𝓤 (Testable a.0 × Testable a.1.0)) ∷ raw (fact 𝓤 (length g.1.1 ≡ a.1.1.0)) ∷ []) ∵ drop ! $
    move ! (2 ∷ 3 ∷ []) $ heard ! (Testable a.0 × Testable a.1.0) (λ tests. heard ! (length g.1.1 ≡ a.1.1.0) (λ count.
    by ! (at_each 𝓛 𝓜 𝓡 wired g.0 g.1.0 g.1.1 a.0 a.1.0 a.1.1.0 are.1.1.0.1 count tests.0 tests.1))))
