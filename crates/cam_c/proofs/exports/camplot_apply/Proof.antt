-- `camplot_apply` meets its contract: a walk of its MIR by hand.
use Rattle.cam_c.proofs.Steps.{and_false, big_lit, long, short, short_is, ◌≡◌, ℕ, ◌<◌, ◌*◌, ◌^◌, List, [], ◌∷◌, length, true, false, None, Some, refl, sym, ap, subst, ◌∙◌, lit<, w8, w32, w64, arith, proved, full_share, SProp, ent, sep, ex, emp, id⊢, Share, ftrue, flft, flent, Incl-refl, named, Val, vint, vptr, fact, fact_i, tables, Logic, sem, ‵, raw, ◌⊛◌, some, later, at_ret, ◌$◌, ◌∵◌, !, qed, by, done, move, drop, pick, await, split, split3, fsplit, fjoin, feq_i, use0, use1, use2, use3, join, suffices, group, show, enter, of_opd, lit, bin, addr, agg, stop, no_more, and_then, first, blocks, branches, skips, exec, returns, returns_within, alloc_all, pass_all, free_all, look_at, get, through, sets, sets_last, lands_as, env, u8, u32, usize, yes, uint_Makes, uint_vals, uint_Tells, uint_Lawful, uint_Copied, Ptr, RawPtr, block_ptr, null_ptr, Testable, tests_null, rawptr_vals, rawptr_Tells, rawptr_Lawful, plain, nothing, owned, heard, peeks, on_entry, Stays, walk_of, stay_dropped, Goes-dropped, ends_at, Body, arr_parts, lft_new, lft_end, lent_back, lends_ref, ref_back, lends_shr_slice, mem, shares, part_at, MutRef, ShrSlice, slice_val, calls_at, lasts, triple_of, framed, Is, shows}
use seplogic.Ra.Ura.{Ura}
use prog.Model.{Model}
use contract.Running.{Running, MachineTables}
use denote.Triple.Statement.{Contract}
use denote.Triple.Clauses.{Lasts}
use prog.Wired.{Wired}
use prog.Wp.{WpFn}
use mathlib.Core.Bool.{Bool, ◌&&◌}
use lib.Dec.{ltb}
use Rattle.cam_c.specs.declared.session.Session.{Session}
use Rattle.cam_c.specs.contracts.session.Session.{the_row as R}
use Rattle.cam_c.specs.Lent.{held, lent}
use Rattle.cam_c.specs.Calls.{IsApplied}
use Rattle.cam_c.specs.Pointers.{AppliedBy, AppliedWhere, is_pointed_to, is_usable, can_hand}
use Rattle.cam_c.specs.contracts.session.Session.apply as g
use Rattle.cam_c.proofs.session.Session.apply.Met as g-thm
use Rattle.cam_c.specs.contracts.session.Session.load as h
use Rattle.cam_c.proofs.session.Session.load.Met as h-thm
use Rattle.cam_c.specs.contracts.exports.camplot_apply as f
use Rattle.cam_c.proofs.exports.camplot_apply.Symbol as symbol
use Rattle.cam_c.proofs.exports.camplot_apply.Statement.{statement}
use Rattle.cam_c.proofs.exports.camplot_apply.Code as code

abbrev stayed : Stays f.ended.signature.params f.ended.kept
stayed = (stay_dropped _ yes, (stay_dropped _ yes, (stay_dropped _ yes, (stay_dropped _ yes, (stay_dropped _ yes, tt)))))

module _ {M : Type 1} {𝓤 : Ura M} (𝓛 : Logic 𝓤) (𝓜 : Model 𝓤 𝓛.H) (𝓡 : Running 𝓤 𝓛.H 𝓜) (wired : Wired 𝓡.env symbol.code)
    (s : Session) (q q' : Share) (xs ys : List ℕ) where
  open 𝓛 use {H}

  abbrev W : Contract 𝓤
  W = walk_of 𝓛 f.ended stayed (f.clauses 𝓛 𝓜.mem 𝓡.returns)

  abbrev 𝓣 : MachineTables 𝓤 H 𝓜
  𝓣 = tables 𝓤 H 𝓜 𝓡 𝓡.env

  module _ (t l : Ptr) (n : ℕ) (p : Ptr) (m : ℕ) where
    abbrev bound : W.Ghost
    bound = ((tt, tt, tt, (t, (l, (n, (p, (m, tt))))), (rawptr_vals t, (rawptr_vals l, (uint_vals w64 n, (rawptr_vals p, (uint_vals w64 m, tt)))))), (s, (q, xs), (q', ys)))

    abbrev Post : Val → SProp 𝓤
    Post = W.post bound

    abbrev Told : Session → ℕ → SProp 𝓤
    Told s' r = sep 𝓤 (sem 𝓛 (held s' t)) (sep 𝓤 (sem 𝓛 (lent u8 q xs l)) (sep 𝓤 (sem 𝓛 (lent u8 q' ys p)) (fact 𝓤 (AppliedBy t l xs p ys s s' r))))

    abbrev Lent : Session → SProp 𝓤
    Lent s' = sep 𝓤 (sem 𝓛 (held s' t)) (sep 𝓤 (sem 𝓛 (lent u8 q xs l)) (sem 𝓛 (lent u8 q' ys p)))

    told : (s' : Session) (r : ℕ) → AppliedBy t l xs p ys s s' r → ent 𝓤 (Lent s') (ex 𝓤 (λ (z : Session). Told z r))
    told s' r is =
        qed 𝓛 (‵ (held s' t) ∷ ‵ (lent u8 q xs l) ∷ ‵ (lent u8 q' ys p) ∷ []) ∵
        use0 𝓛 (raw (fact 𝓤 (AppliedBy t l xs p ys s s' r))) (fact_i 𝓤 _ (emp 𝓤) is) $ show ! (λ (z : Session). Told z r) s' $ move ! (1 ∷ 2 ∷ 3 ∷ []) $ done !

    -- what is lent goes back, and the number is told
    leave : (s' : Session) (r : ℕ) (v : Val) → AppliedBy t l xs p ys s s' r → ent 𝓤 (sep 𝓤 (sem 𝓛 (u32.own_val r (v ∷ []))) (Lent s')) (Post v)
    leave s' r v is =
        qed 𝓛 (‵ (u32.own_val r (v ∷ [])) ∷ ‵ (held s' t) ∷ ‵ (lent u8 q xs l) ∷ ‵ (lent u8 q' ys p) ∷ []) ∵ move ! (1 ∷ 2 ∷ 3 ∷ []) $
        use3 𝓛 (raw (ex 𝓤 (λ (z : Session). Told z r))) (told s' r is) $
        suffices ! _ (ends_at 𝓛 f.ended stayed (f.clauses 𝓛 𝓜.mem 𝓡.returns) bound v r (tt, (tt, (tt, (tt, (tt, tt))))) (tt, (tt, (tt, (tt, (tt, tt)))))) $
        move ! (1 ∷ []) $ nothing ! $ nothing ! $ join ! $ nothing ! $ join ! $ nothing ! $ join ! $ nothing ! $ join ! $ nothing ! $ join ! $ nothing ! $ group ! 3 $ done !

    -- the same station, and the number of a pointer that cannot be used
    refuse : (is_pointed_to t && (is_usable l xs && can_hand p ys)) ≡ false → ent 𝓤 (Lent s) (Post (vint w32 90))
    refuse not =
        qed 𝓛 (‵ (held s t) ∷ ‵ (lent u8 q xs l) ∷ ‵ (lent u8 q' ys p) ∷ []) ∵ owned ! u32 _ (uint_Makes 𝓛 w32) 90 _ (refl, lit< tt) $
        by ! (leave s 90 (vint w32 90) (subst (λ (b : Bool). AppliedWhere b l xs p ys s s 90) (sym not) (record { code_is = refl; same = refl })))

    abbrev Runs : SProp 𝓤
    Runs = WpFn 𝓤 H 𝓣.C 𝓣.Λ code.function (mathlib.Core.List.◌++◌ (rawptr_vals t) (mathlib.Core.List.◌++◌ (rawptr_vals l) (vint w64 n ∷ mathlib.Core.List.◌++◌ (rawptr_vals p) (vint w64 m ∷ [])))) Post

  module _ (n m : ℕ) (fn : n < 2 ^ 64) (fm : m < 2 ^ 64) where
    -- no station
    bare : (l p : Ptr) → ent 𝓤 (Lent null_ptr l n p m s) (Runs null_ptr l n p m)
    bare l p =
        qed 𝓛 (‵ (held s null_ptr) ∷ ‵ (lent u8 q xs l) ∷ ‵ (lent u8 q' ys p) ∷ []) ∵ enter ! _ _ _ _ _ $
        alloc_all ! (λ i. pass_all ! refl ((tt, record { fits = lit< tt }), (((rawptr_Lawful 𝓛).typed l _ refl).0, ((tt, record { fits = fn }), (((rawptr_Lawful 𝓛).typed p _ refl).0, ((tt, record { fits = fm }), tt))))) $
        sets ! (of_opd ! (get ! refl)) refl (tt, record { fits = lit< tt }) $ sets ! (bin ! (get ! refl) (lit ! tt) tt) refl (tt, tt) $
        first ! $ branches ! (get ! refl)
        (λ _. sets ! (of_opd ! (lit ! tt)) refl (tt, record { fits = lit< tt }) $
        returns_within ! (Post null_ptr l n p m) refl (look_at ! 0 refl) $ free_all ! refl $ by ! (refuse null_ptr l n p m refl))
        (λ wrong. absurd wrong))

    -- no line
    no_line : (b o : ℕ) → o < 2 ^ 63 → (p : Ptr) → ent 𝓤 (Lent (block_ptr b o) null_ptr n p m s) (Runs (block_ptr b o) null_ptr n p m)
    no_line b o low p =
        let T : Ptr = block_ptr b o in
        qed 𝓛 (‵ (held s T) ∷ ‵ (lent u8 q xs null_ptr) ∷ ‵ (lent u8 q' ys p) ∷ []) ∵ enter ! _ _ _ _ _ $
        alloc_all ! (λ i. pass_all ! refl ((tt, tt), ((tt, record { fits = lit< tt }), ((tt, record { fits = fn }), (((rawptr_Lawful 𝓛).typed p _ refl).0, ((tt, record { fits = fm }), tt))))) $
        let En = env code.Mir.locals i in
        sets ! (of_opd ! (get ! refl)) refl (tt, tt) $ sets ! (bin ! (get ! refl) (lit ! tt) (tests_null T low)) refl (tt, tt) $
        first ! $ branches ! (get ! refl) (λ wrong. absurd wrong) (λ _. skips ! $ exec ! 𝓣.C 𝓣.Λ En code.Mir.t-4 (at_ret En (Post T null_ptr n p m)) $
        sets ! (of_opd ! (get ! refl)) refl (tt, record { fits = lit< tt }) $ sets ! (bin ! (get ! refl) (lit ! tt) tt) refl (tt, tt) $
        first ! $ branches ! (get ! refl)
        (λ _. sets ! (of_opd ! (lit ! tt)) refl (tt, record { fits = lit< tt }) $
        returns_within ! (Post T null_ptr n p m) refl (look_at ! 0 refl) $ free_all ! refl $ by ! (refuse T null_ptr n p m refl))
        (λ wrong. absurd wrong)))

  module _ (m : ℕ) (fn : length xs < 2 ^ 64) (fm : m < 2 ^ 64) where
    abbrev n : ℕ
    n = length xs

    -- a line and no file
    no_file : (b o b' o' : ℕ) → o < 2 ^ 63 → o' < 2 ^ 63
        → ent 𝓤 (Lent (block_ptr b o) (block_ptr b' o') n null_ptr m s) (Runs (block_ptr b o) (block_ptr b' o') n null_ptr m)
    no_file b o b' o' low low' =
        let T : Ptr = block_ptr b o in let L : Ptr = block_ptr b' o' in let P : Val → SProp 𝓤 = Post T L n null_ptr m in
        qed 𝓛 (‵ (held s T) ∷ ‵ (lent u8 q xs L) ∷ ‵ (lent u8 q' ys null_ptr) ∷ []) ∵ enter ! _ _ _ _ _ $
        alloc_all ! (λ i. pass_all ! refl ((tt, tt), ((tt, tt), ((tt, record { fits = fn }), ((tt, record { fits = lit< tt }), ((tt, record { fits = fm }), tt))))) $
        let En = env code.Mir.locals i in
        sets ! (of_opd ! (get ! refl)) refl (tt, tt) $ sets ! (bin ! (get ! refl) (lit ! tt) (tests_null T low)) refl (tt, tt) $
        first ! $ branches ! (get ! refl) (λ wrong. absurd wrong) (λ _. skips ! $ exec ! 𝓣.C 𝓣.Λ En code.Mir.t-4 (at_ret En P) $
        sets ! (of_opd ! (get ! refl)) refl (tt, tt) $ sets ! (bin ! (get ! refl) (lit ! tt) (tests_null L low')) refl (tt, tt) $
        first ! $ branches ! (get ! refl) (λ wrong. absurd wrong) (λ _. skips ! $ exec ! 𝓣.C 𝓣.Λ En code.Mir.t-7 (at_ret En P) $
        sets ! (of_opd ! (get ! refl)) refl (tt, record { fits = fn }) $ sets ! (bin ! (big_lit ! (record { fits = lit< tt })) (get ! refl) tt) refl (tt, tt) $
        first ! $ branches ! (get ! refl)
        (λ big. sets ! (of_opd ! (lit ! tt)) refl (tt, record { fits = lit< tt }) $
        returns_within ! P refl (look_at ! 0 refl) $ free_all ! refl $ by ! (refuse T L n null_ptr m (ap (λ (b : Bool). b && true) (long n big))))
        (λ small. skips ! $ exec ! 𝓣.C 𝓣.Λ En code.Mir.t-10 (at_ret En P) $
        first ! $ blocks ! $ sets ! (of_opd ! (get ! refl)) refl (tt, tt) $ sets ! (of_opd ! (get ! refl)) refl (tt, tt) $
        sets_last ! (addr ! (through ! refl (stop !))) refl (tt, tt) $ exec ! 𝓣.C 𝓣.Λ En code.Mir.t-11 (at_ret En P) $
        sets ! (of_opd ! (get ! refl)) refl (tt, tt) $
        first ! $ blocks ! $ sets ! (of_opd ! (get ! refl)) refl (tt, tt) $ sets ! (of_opd ! (get ! refl)) refl (tt, record { fits = fn }) $
        sets_last ! (agg ! (and_then ! (get ! refl) (and_then ! (get ! refl) (no_more !)))) refl (tt, (tt, (record { fits = fn }, tt))) $ exec ! 𝓣.C 𝓣.Λ En code.Mir.t-13 (at_ret En P) $
        sets ! (of_opd ! (get ! refl)) refl (tt, (tt, (record { fits = fn }, tt))) $
        sets ! (of_opd ! (get ! refl)) refl (tt, record { fits = lit< tt }) $ sets ! (bin ! (get ! refl) (lit ! tt) tt) refl (tt, tt) $
        first ! $ branches ! (get ! refl) (λ _.
        sets ! (addr ! (through ! refl (stop !))) refl (tt, tt) $ sets ! (of_opd ! (get ! refl)) refl (tt, (tt, (record { fits = fn }, tt))) $
        fsplit ! $ lft_new ! tt (λ α. lft_new ! tt (λ β.
        -- [the token of β; of α; the station; the right to free it; the line; nothing]
        let lent_line = (arr_parts (shares u8) (length xs)).part q xs b' o' in let small : n < 2 ^ 63 = short n small in
        let fits : length xs < 2 ^ 64 = omega (arith, small) in let room : length xs * 1 < 2 ^ 63 = omega (arith, small) in
        move ! (2 ∷ []) $
        use1 𝓛 (later (some (λ (γ : ℕ). ‵ ((MutRef (named 0) (α ∷ []) R).own_val (record { ref_ptr = (b, o); ghost_name = γ; now = s }) (vptr b o ∷ [])) ⊛ ‵ (flent (α ∷ []) (Body (mem R) b o γ)))))
        (lends_ref 𝓛 R (named 0) (α ∷ []) s b o) $ await ! tt $ pick ! (λ γ. split ! $
        -- [the loan; the lender's part; the token of β; of α; the right to free; the line; nothing]
        move ! (5 ∷ []) $ feq_i ! ℕ (length xs) (length xs) refl $ fjoin ! $ move ! (0 ∷ 3 ∷ []) $
        use2 𝓛 (later ((‵ ((ShrSlice (named 1) (β ∷ []) u8).own_val (record { ref_ptr = (b', o'); now = xs }) (slice_val (b', o') (length xs) ∷ [])) ⊛ ‵ (flent (β ∷ []) lent_line)) ⊛ ‵ (flft (β ∷ []) full_share)))
        (lends_shr_slice 𝓛 u8 (named 1) (β ∷ []) q xs b' o' (fits, room) (β ∷ []) ((uint_Copied 𝓛 w8).shares q (β ∷ [])) ((β ∷ [], full_share) ∷ []) (Incl-refl (β ∷ [])) (Incl-refl (β ∷ []))) $ await ! tt $ split ! $ split ! $
        -- [the slice; its lender's part; the token of β; the loan; its lender's part; the token of α; the right to free; nothing]
        let G = triple_of 𝓛 g.signature (g.spec 𝓛 𝓜.mem 𝓡.returns) in
        let z : G.Ghost = (((α ∷ [], (β ∷ [], tt)), (full_share, (full_share, tt)), tt, (record { ref_ptr = (b, o); ghost_name = γ; now = s }, (record { ref_ptr = (b', o'); now = xs }, tt)), (vptr b o ∷ [], (slice_val (b', o') (length xs) ∷ [], tt))), tt) in
        nothing ! $ move ! (1 ∷ 0 ∷ []) $ join ! $ move ! (3 ∷ 0 ∷ []) $ join ! $
        nothing ! $ move ! (3 ∷ 0 ∷ []) $ join ! $ move ! (4 ∷ 0 ∷ []) $ join ! $ join ! $
        nothing ! $ move ! (1 ∷ 0 ∷ []) $ use2 𝓛 (raw (G.pre z)) (id⊢ 𝓤 _) $
        calls_at ! (framed 𝓤 H 𝓜 𝓣) G (g-thm.met 𝓤 𝓛 𝓜 𝓡 (code.calls-cam_c::session::Session::apply 𝓡.env wired)) z (and_then ! (get ! refl) (and_then ! (get ! refl) (no_more !))) (λ v.
        use1 𝓛 (later (some (λ (r : ℕ). ((‵ (flft (α ∷ []) full_share) ⊛ ‵ (flft (β ∷ []) full_share) ⊛ ‵ ftrue) ⊛ ‵ (u32.own_val r (v ∷ []))) ⊛
        some (λ (ws : Lasts g.ended z.0.0 z.0.3). ‵ (lasts g.ended z.0.0 z.0.3 ws) ⊛ raw (fact 𝓤 (IsApplied s xs None ws.0 r)))))) (id⊢ 𝓤 _) $
        await ! tt $ pick ! (λ r. split ! $ move ! (1 ∷ []) $ pick ! (λ ws. split ! $ move ! (1 ∷ []) $ heard ! (IsApplied s xs None ws.0 r) (λ did. fsplit ! $ fsplit ! $
        -- [the loan's last value; its borrow; nothing; the tokens and the result; the two lender's parts; the right to free; nothing]
        move ! (3 ∷ []) $ split ! $ split3 ! $ lft_end ! tt $
        -- [α is over; the token of β; nothing; the result; the last value; its borrow; nothing; the lender's parts: of the line, of the station; the right to free; nothing]
        move ! (0 ∷ 8 ∷ 4 ∷ []) $ use3 𝓛 (later (‵ (part_at R full_share ws.0 b o))) (ref_back 𝓛 R (α ∷ []) γ ws.0 b o) $ await ! tt $
        move ! (1 ∷ []) $ lft_end ! tt $ move ! (0 ∷ 6 ∷ []) $ lent_back ! tt $ fsplit ! $ drop ! $
        -- [the line; the station; nothing; the result; the borrow; nothing; the right to free; nothing]
        move ! (4 ∷ []) $ drop ! $ move ! (4 ∷ []) $ drop ! $ move ! (2 ∷ []) $ drop ! $ move ! (1 ∷ 3 ∷ []) $ fjoin ! $ move ! (2 ∷ 0 ∷ 1 ∷ []) $
        -- [the result; what is held; the line; nothing]
        peeks ! u32 (Is u32) (shows 𝓛 u32) r (v ∷ []) (λ is. lands_as ! refl refl ((uint_Lawful 𝓛 w32).typed r _ is).0 $
        returns_within ! P refl (look_at ! 0 refl) $ free_all ! refl $
        by ! (leave T L n null_ptr m ws.0 r v (subst (λ (k : Bool). AppliedWhere (k && true) L xs null_ptr ys s ws.0 r) (sym (short_is n small)) did)))))))))))
        (λ wrong. absurd wrong)))))

  module _ (fn : length xs < 2 ^ 64) (fm : length ys < 2 ^ 64) where
    abbrev x : ℕ
    x = length xs

    abbrev y : ℕ
    y = length ys

    -- a line and the bytes of its file
    with_file : (b o b' o' d e : ℕ) → o < 2 ^ 63 → o' < 2 ^ 63 → e < 2 ^ 63
        → ent 𝓤 (Lent (block_ptr b o) (block_ptr b' o') x (block_ptr d e) y s) (Runs (block_ptr b o) (block_ptr b' o') x (block_ptr d e) y)
    with_file b o b' o' d e low low' low'' =
        let T : Ptr = block_ptr b o in let L : Ptr = block_ptr b' o' in let F : Ptr = block_ptr d e in let P : Val → SProp 𝓤 = Post T L x F y in
        qed 𝓛 (‵ (held s T) ∷ ‵ (lent u8 q xs L) ∷ ‵ (lent u8 q' ys F) ∷ []) ∵ enter ! _ _ _ _ _ $
        alloc_all ! (λ i. pass_all ! refl ((tt, tt), ((tt, tt), ((tt, record { fits = fn }), ((tt, tt), ((tt, record { fits = fm }), tt))))) $
        let En = env code.Mir.locals i in
        sets ! (of_opd ! (get ! refl)) refl (tt, tt) $ sets ! (bin ! (get ! refl) (lit ! tt) (tests_null T low)) refl (tt, tt) $
        first ! $ branches ! (get ! refl) (λ wrong. absurd wrong) (λ _. skips ! $ exec ! 𝓣.C 𝓣.Λ En code.Mir.t-4 (at_ret En P) $
        sets ! (of_opd ! (get ! refl)) refl (tt, tt) $ sets ! (bin ! (get ! refl) (lit ! tt) (tests_null L low')) refl (tt, tt) $
        first ! $ branches ! (get ! refl) (λ wrong. absurd wrong) (λ _. skips ! $ exec ! 𝓣.C 𝓣.Λ En code.Mir.t-7 (at_ret En P) $
        sets ! (of_opd ! (get ! refl)) refl (tt, record { fits = fn }) $ sets ! (bin ! (big_lit ! (record { fits = lit< tt })) (get ! refl) tt) refl (tt, tt) $
        first ! $ branches ! (get ! refl)
        (λ big. sets ! (of_opd ! (lit ! tt)) refl (tt, record { fits = lit< tt }) $
        returns_within ! P refl (look_at ! 0 refl) $ free_all ! refl $ by ! (refuse T L x F y (ap (λ (k : Bool). k && ltb y (2 ^ 63)) (long x big))))
        (λ small. skips ! $ exec ! 𝓣.C 𝓣.Λ En code.Mir.t-10 (at_ret En P) $
        first ! $ blocks ! $ sets ! (of_opd ! (get ! refl)) refl (tt, tt) $ sets ! (of_opd ! (get ! refl)) refl (tt, tt) $
        sets_last ! (addr ! (through ! refl (stop !))) refl (tt, tt) $ exec ! 𝓣.C 𝓣.Λ En code.Mir.t-11 (at_ret En P) $
        sets ! (of_opd ! (get ! refl)) refl (tt, tt) $
        first ! $ blocks ! $ sets ! (of_opd ! (get ! refl)) refl (tt, tt) $ sets ! (of_opd ! (get ! refl)) refl (tt, record { fits = fn }) $
        sets_last ! (agg ! (and_then ! (get ! refl) (and_then ! (get ! refl) (no_more !)))) refl (tt, (tt, (record { fits = fn }, tt))) $ exec ! 𝓣.C 𝓣.Λ En code.Mir.t-13 (at_ret En P) $
        sets ! (of_opd ! (get ! refl)) refl (tt, (tt, (record { fits = fn }, tt))) $
        sets ! (of_opd ! (get ! refl)) refl (tt, tt) $ sets ! (bin ! (get ! refl) (lit ! tt) (tests_null F low'')) refl (tt, tt) $
        first ! $ branches ! (get ! refl) (λ wrong. absurd wrong) (λ _. skips ! $ exec ! 𝓣.C 𝓣.Λ En code.Mir.t-17 (at_ret En P) $
        sets ! (of_opd ! (get ! refl)) refl (tt, record { fits = fm }) $ sets ! (bin ! (big_lit ! (record { fits = lit< tt })) (get ! refl) tt) refl (tt, tt) $
        first ! $ branches ! (get ! refl)
        (λ big. sets ! (of_opd ! (lit ! tt)) refl (tt, record { fits = lit< tt }) $
        returns_within ! P refl (look_at ! 0 refl) $ free_all ! refl $
        by ! (refuse T L x F y (ap (λ (k : Bool). ltb x (2 ^ 63) && k) (long y big) ∙ and_false (ltb x (2 ^ 63)))))
        (λ small'. skips ! $ exec ! 𝓣.C 𝓣.Λ En code.Mir.t-20 (at_ret En P) $
        sets ! (addr ! (through ! refl (stop !))) refl (tt, tt) $ sets ! (of_opd ! (get ! refl)) refl (tt, (tt, (record { fits = fn }, tt))) $
        first ! $ blocks ! $ sets ! (of_opd ! (get ! refl)) refl (tt, tt) $ sets ! (of_opd ! (get ! refl)) refl (tt, record { fits = fm }) $
        sets_last ! (agg ! (and_then ! (get ! refl) (and_then ! (get ! refl) (no_more !)))) refl (tt, (tt, (record { fits = fm }, tt))) $ exec ! 𝓣.C 𝓣.Λ En code.Mir.t-23 (at_ret En P) $
        sets ! (of_opd ! (get ! refl)) refl (tt, (tt, (record { fits = fm }, tt))) $
        fsplit ! $ lft_new ! tt (λ α. lft_new ! tt (λ β. lft_new ! tt (λ δ.
        -- [the token of δ; of β; of α; the station; the right to free it; the line; the file]
        let lent_line = (arr_parts (shares u8) x).part q xs b' o' in let lent_file = (arr_parts (shares u8) y).part q' ys d e in
        let few : x < 2 ^ 63 = short x small in let few' : y < 2 ^ 63 = short y small' in
        let room : x * 1 < 2 ^ 63 = omega (arith, few) in let room' : y * 1 < 2 ^ 63 = omega (arith, few') in
        move ! (3 ∷ []) $
        use1 𝓛 (later (some (λ (γ : ℕ). ‵ ((MutRef (named 0) (α ∷ []) R).own_val (record { ref_ptr = (b, o); ghost_name = γ; now = s }) (vptr b o ∷ [])) ⊛ ‵ (flent (α ∷ []) (Body (mem R) b o γ)))))
        (lends_ref 𝓛 R (named 0) (α ∷ []) s b o) $ await ! tt $ pick ! (λ γ. split ! $
        -- [the loan; its lender's part; the token of δ; of β; of α; the right to free; the line; the file]
        move ! (6 ∷ []) $ feq_i ! ℕ x x refl $ fjoin ! $ move ! (0 ∷ 4 ∷ []) $
        use2 𝓛 (later ((‵ ((ShrSlice (named 1) (β ∷ []) u8).own_val (record { ref_ptr = (b', o'); now = xs }) (slice_val (b', o') x ∷ [])) ⊛ ‵ (flent (β ∷ []) lent_line)) ⊛ ‵ (flft (β ∷ []) full_share)))
        (lends_shr_slice 𝓛 u8 (named 1) (β ∷ []) q xs b' o' (fn, room) (β ∷ []) ((uint_Copied 𝓛 w8).shares q (β ∷ [])) ((β ∷ [], full_share) ∷ []) (Incl-refl (β ∷ [])) (Incl-refl (β ∷ []))) $ await ! tt $ split ! $ split ! $
        -- [the line; its lender's part; the token of β; the loan; its lender's part; the token of δ; of α; the right to free; the file]
        move ! (8 ∷ []) $ feq_i ! ℕ y y refl $ fjoin ! $ move ! (0 ∷ 6 ∷ []) $
        use2 𝓛 (later ((‵ ((ShrSlice (named 2) (δ ∷ []) u8).own_val (record { ref_ptr = (d, e); now = ys }) (slice_val (d, e) y ∷ [])) ⊛ ‵ (flent (δ ∷ []) lent_file)) ⊛ ‵ (flft (δ ∷ []) full_share)))
        (lends_shr_slice 𝓛 u8 (named 2) (δ ∷ []) q' ys d e (fm, room') (δ ∷ []) ((uint_Copied 𝓛 w8).shares q' (δ ∷ [])) ((δ ∷ [], full_share) ∷ []) (Incl-refl (δ ∷ [])) (Incl-refl (δ ∷ []))) $ await ! tt $ split ! $ split ! $
        -- [the file; its lender's part; the token of δ; the line; its lender's part; the token of β; the loan; its lender's part; the token of α; the right to free]
        let G = triple_of 𝓛 h.signature (h.spec 𝓛 𝓜.mem 𝓡.returns) in
        let z : G.Ghost = (
          (
            (α ∷ [], (β ∷ [], (δ ∷ [], tt))),
            (full_share, (full_share, (full_share, tt))),
            tt,
            (record { ref_ptr = (b, o); ghost_name = γ; now = s }, (record { ref_ptr = (b', o'); now = xs }, (record { ref_ptr = (d, e); now = ys }, tt))),
            (vptr b o ∷ [], (slice_val (b', o') x ∷ [], (slice_val (d, e) y ∷ [], tt))),
          ),
          tt,
        ) in
        nothing ! $ move ! (1 ∷ 0 ∷ []) $ join ! $ move ! (3 ∷ 0 ∷ []) $ join ! $ move ! (5 ∷ 0 ∷ []) $ join ! $
        nothing ! $ move ! (3 ∷ 0 ∷ []) $ join ! $ move ! (4 ∷ 0 ∷ []) $ join ! $ move ! (5 ∷ 0 ∷ []) $ join ! $ join ! $
        nothing ! $ move ! (1 ∷ 0 ∷ []) $ use2 𝓛 (raw (G.pre z)) (id⊢ 𝓤 _) $
        calls_at ! (framed 𝓤 H 𝓜 𝓣) G (h-thm.met 𝓤 𝓛 𝓜 𝓡 (code.calls-cam_c::session::Session::load 𝓡.env wired)) z (and_then ! (get ! refl) (and_then ! (get ! refl) (and_then ! (get ! refl) (no_more !)))) (λ v.
        use1 𝓛 (later (some (λ (r : ℕ). ((‵ (flft (α ∷ []) full_share) ⊛ ‵ (flft (β ∷ []) full_share) ⊛ ‵ (flft (δ ∷ []) full_share) ⊛ ‵ ftrue) ⊛ ‵ (u32.own_val r (v ∷ []))) ⊛
        some (λ (ws : Lasts h.ended z.0.0 z.0.3). ‵ (lasts h.ended z.0.0 z.0.3 ws) ⊛ raw (fact 𝓤 (IsApplied s xs (Some ys) ws.0 r)))))) (id⊢ 𝓤 _) $
        await ! tt $ pick ! (λ r. split ! $ move ! (1 ∷ []) $ pick ! (λ ws. split ! $ move ! (1 ∷ []) $ heard ! (IsApplied s xs (Some ys) ws.0 r) (λ did. fsplit ! $ fsplit ! $
        -- [the loan's last value; its borrow; nothing; the tokens and the result; the lender's parts: of the file, of the line, of the station; the right to free]
        move ! (3 ∷ []) $ split ! $ split3 ! $ lft_end ! tt $
        -- [α is over; the token of β; of δ; the result; the last value; its borrow; nothing; the lender's parts: of the file, of the line, of the station; the right to free]
        move ! (0 ∷ 9 ∷ 4 ∷ []) $ use3 𝓛 (later (‵ (part_at R full_share ws.0 b o))) (ref_back 𝓛 R (α ∷ []) γ ws.0 b o) $ await ! tt $
        move ! (1 ∷ []) $ lft_end ! tt $ move ! (0 ∷ 7 ∷ []) $ lent_back ! tt $ fsplit ! $ drop ! $
        move ! (2 ∷ []) $ split ! $ lft_end ! tt $ move ! (0 ∷ 7 ∷ []) $ lent_back ! tt $ fsplit ! $ drop ! $
        -- [the file; nothing; the line; the station; the result; the borrow; nothing; the right to free]
        move ! (6 ∷ []) $ drop ! $ move ! (5 ∷ []) $ drop ! $ move ! (1 ∷ []) $ drop ! $ move ! (2 ∷ 4 ∷ []) $ fjoin ! $ move ! (3 ∷ 0 ∷ 2 ∷ 1 ∷ []) $
        -- [the result; what is held; the line; the file]
        peeks ! u32 (Is u32) (shows 𝓛 u32) r (v ∷ []) (λ is. lands_as ! refl refl ((uint_Lawful 𝓛 w32).typed r _ is).0 $
        returns ! (look_at ! 0 refl) $ free_all ! refl $
        by ! (leave T L x F y ws.0 r v (subst (λ (k : Bool). AppliedWhere (k && ltb y (2 ^ 63)) L xs F ys s ws.0 r) (sym (short_is x few)) (subst (λ (k : Bool). AppliedWhere k L xs F ys s ws.0 r) (sym (short_is y few')) did))))))))))))))))))

  -- by the pointers' forms
  at_each : (t l : Ptr) (n : ℕ) (p : Ptr) (m : ℕ) → n < 2 ^ 64 → m < 2 ^ 64 → length xs ≡ n → length ys ≡ m → Testable t → Testable l → Testable p
      → ent 𝓤 (Lent t l n p m s) (Runs t l n p m)
  at_each null_ptr l n p m fn fm cn cm _ _ _ = bare n m fn fm l p
  at_each (block_ptr b o) null_ptr n p m fn fm cn cm low _ _ = no_line n m fn fm b o low p
  at_each (block_ptr b o) (block_ptr b' o') n null_ptr m fn fm cn cm low low' _ =
      let T : Ptr = block_ptr b o in let L : Ptr = block_ptr b' o' in
      subst (λ (k : ℕ). k < 2 ^ 64 → ent 𝓤 (Lent T L k null_ptr m s) (Runs T L k null_ptr m)) cn (λ f. no_file m f fm b o b' o' low low') fn
  at_each (block_ptr b o) (block_ptr b' o') n (block_ptr d e) m fn fm cn cm low low' low'' =
      let T : Ptr = block_ptr b o in let L : Ptr = block_ptr b' o' in let F : Ptr = block_ptr d e in
      subst (λ (k : ℕ). k < 2 ^ 64 → ent 𝓤 (Lent T L k F m s) (Runs T L k F m)) cn
      (subst (λ (j : ℕ). j < 2 ^ 64 → length xs < 2 ^ 64 → ent 𝓤 (Lent T L (length xs) F j s) (Runs T L (length xs) F j)) cm (λ f' f. with_file f f' b o b' o' d e low low' low'') fm) fn

pub camplot_apply_spec : {M : Type 1} → statement M
camplot_apply_spec 𝓤 𝓛 𝓜 𝓡 wired =
    let c = f.clauses 𝓛 𝓜.mem 𝓡.returns in let W = walk_of 𝓛 f.ended stayed c in let 𝓣 = tables 𝓤 𝓛.H 𝓜 𝓡 𝓡.env in
    let ptr = Goes-dropped 𝓛 0 (plain (λ _. RawPtr)) yes (λ κs x w. refl) in let num = Goes-dropped 𝓛 0 (plain (λ _. usize)) yes (λ κs x w. refl) in
    proved 𝓛 f.ended stayed c 𝓜 𝓡 (ptr, (ptr, (num, (ptr, (num, tt)))))
    f.Key.name code.function (code.unfolded 𝓤 𝓛.H 𝓜 𝓡 wired)
    (λ κs. (rawptr_vals, (rawptr_vals, (uint_vals w64, (rawptr_vals, (uint_vals w64, tt))))))
    (λ κs. (rawptr_Tells, (rawptr_Tells, (uint_Tells w64, (rawptr_Tells, (uint_Tells w64, tt)))))) (λ κs qs bounds a g are.
    qed 𝓛 (raw (on_entry 𝓛 f.signature κs qs a (rawptr_vals a.0, (rawptr_vals a.1.0, (uint_vals w64 a.1.1.0, (rawptr_vals a.1.1.1.0, (uint_vals w64 a.1.1.1.1.0, tt)))))) ∷ ‵ (held g.0 a.0) ∷ ‵ (lent u8 g.1.0 g.1.1 a.1.0) ∷ ‵ (lent u8 g.2.0 g.2.1 a.1.1.1.0)
    ∷ raw (fact 𝓤 (Testable a.0 × Testable a.1.0 × Testable a.1.1.1.0)) ∷ raw (fact 𝓤 ((length g.1.1 ≡ a.1.1.0) × (length g.2.1 ≡ a.1.1.1.1.0))) ∷ []) ∵ drop ! $
    move ! (3 ∷ 4 ∷ []) $ heard ! (Testable a.0 × Testable a.1.0 × Testable a.1.1.1.0) (λ tests. heard ! ((length g.1.1 ≡ a.1.1.0) × (length g.2.1 ≡ a.1.1.1.1.0)) (λ counts.
    by ! (at_each 𝓛 𝓜 𝓡 wired g.0 g.1.0 g.2.0 g.1.1 g.2.1 a.0 a.1.0 a.1.1.0 a.1.1.1.0 a.1.1.1.1.0 are.1.1.0.1 are.1.1.1.1.0.1 counts.0 counts.1 tests.0 tests.1 tests.2))))
