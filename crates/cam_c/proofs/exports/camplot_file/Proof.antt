-- `camplot_file` meets its contract: a walk of its MIR by hand, which is one call.
use Rattle.cam_c.proofs.Steps.{ℕ, List, [], ◌∷◌, true, refl, w64, proved, SProp, sep, ex, id⊢, ftrue, fact, tables, sem, ‵, raw, ◌⊛◌, some, later, ◌$◌, ◌∵◌, !, qed, done, move, drop, pick, await, split, use1, use2, join, suffices, group, enter, no_more, and_then, returns, alloc_all, pass_all, free_all, look_at, get, lands_as, u8, bool, usize, yes, bool_Makes, bool_vals, uint_Makes, uint_vals, uint_Tells, uint_Lawful, RawPtr, rawptr_vals, rawptr_Makes, rawptr_Tells, rawptr_Lawful, plain, nothing, owned, peeks, on_entry, Stays, walk_of, stay_dropped, Goes-dropped, ends_at, calls_at, lasts, triple_of, framed, Is, shows}
use types.Run.{true_lit}
use denote.Triple.Clauses.{Lasts}
use Rattle.std.specs.Prelude.{Option}
use Rattle.cam_c.specs.Lent.{held, lent_room}
use Rattle.cam_c.specs.Calls.{file_of}
use Rattle.cam_c.specs.Pointers.{ToldBy}
use Rattle.cam_c.specs.contracts.exports.tell as g
use Rattle.cam_c.proofs.exports.tell.Met as g-thm
use Rattle.cam_c.specs.contracts.exports.camplot_file as f
use Rattle.cam_c.proofs.exports.camplot_file.Statement.{statement}
use Rattle.cam_c.proofs.exports.camplot_file.Code as code

abbrev stayed : Stays f.ended.signature.params f.ended.kept
stayed = (stay_dropped _ yes, (stay_dropped _ yes, (stay_dropped _ yes, tt)))

pub camplot_file_spec : {M : Type 1} → statement M
camplot_file_spec 𝓤 𝓛 𝓜 𝓡 wired =
    let c = f.clauses 𝓛 𝓜.mem 𝓡.returns in
    let ptr = Goes-dropped 𝓛 0 (plain (λ _. RawPtr)) yes (λ κs x w. refl) in let num = Goes-dropped 𝓛 0 (plain (λ _. usize)) yes (λ κs x w. refl) in
    proved 𝓛 f.ended stayed c 𝓜 𝓡 (ptr, (ptr, (num, tt))) f.Key.name code.function (code.unfolded 𝓤 𝓛.H 𝓜 𝓡 wired)
    (λ κs. (rawptr_vals, (rawptr_vals, (uint_vals w64, tt)))) (λ κs. (rawptr_Tells, (rawptr_Tells, (uint_Tells w64, tt)))) (λ κs qs bounds a of are.
    let t = a.0 in let p = a.1.0 in let m = a.1.1.0 in
    let y : (walk_of 𝓛 f.ended stayed c).Ghost = ((κs, qs, bounds, a, (rawptr_vals t, (rawptr_vals p, (uint_vals w64 m, tt)))), of) in
    let G = triple_of 𝓛 g.signature (g.spec 𝓛 𝓜.mem 𝓡.returns) in
    let z : G.Ghost = ((tt, tt, tt, (t, (true, (p, (m, tt)))), (rawptr_vals t, (bool_vals true, (rawptr_vals p, (uint_vals w64 m, tt))))), of) in
    let Told : ℕ → SProp 𝓤 = λ r. ex 𝓤 (λ (xs : List (Option ℕ)). sep 𝓤 (sem 𝓛 (held of.0 t)) (sep 𝓤 (sem 𝓛 (lent_room u8 xs p)) (fact 𝓤 (ToldBy t p (file_of of.0) of.1 xs r)))) in
    qed 𝓛 (raw (on_entry 𝓛 f.signature κs qs a y.0.4) ∷ raw ((c κs a).requires of) ∷ []) ∵ drop ! $ enter ! _ _ _ _ _ $
    alloc_all ! (λ i. pass_all ! refl (((rawptr_Lawful 𝓛).typed t _ refl).0, (((rawptr_Lawful 𝓛).typed p _ refl).0, ((tt, record { fits = are.1.1.0.1 }), tt))) $
    nothing ! $ owned ! usize _ (uint_Makes 𝓛 w64) m _ (refl, are.1.1.0.1) $ join ! $ owned ! RawPtr _ (rawptr_Makes 𝓛) p _ refl $ join ! $
    owned ! bool _ (bool_Makes 𝓛) true _ refl $ join ! $ owned ! RawPtr _ (rawptr_Makes 𝓛) t _ refl $ join ! $ nothing ! $ join ! $ use2 𝓛 (raw (G.pre z)) (id⊢ 𝓤 _) $
    calls_at ! (framed 𝓤 𝓛.H 𝓜 (tables 𝓤 𝓛.H 𝓜 𝓡 𝓡.env)) G (g-thm.met 𝓤 𝓛 𝓜 𝓡 (code.calls-cam_c::exports::tell 𝓡.env wired)) z
    (and_then ! (get ! refl) (and_then ! (true_lit !) (and_then ! (get ! refl) (and_then ! (get ! refl) (no_more !))))) (λ v.
    use1 𝓛 (later (some (λ (r : ℕ). (‵ ftrue ⊛ ‵ (usize.own_val r (v ∷ []))) ⊛ some (λ (ws : Lasts g.ended z.0.0 z.0.3). ‵ (lasts g.ended z.0.0 z.0.3 ws) ⊛ raw (Told r))))) (id⊢ 𝓤 _) $
    await ! tt $ pick ! (λ r. split ! $ split ! $ drop ! $ move ! (1 ∷ []) $ pick ! (λ ws. split ! $ drop ! $ move ! (1 ∷ []) $
    -- [the number; what is told]
    peeks ! usize (Is usize) (shows 𝓛 usize) r (v ∷ []) (λ is. lands_as ! refl refl ((uint_Lawful 𝓛 w64).typed r _ is).0 $
    returns ! (look_at ! 0 refl) $ free_all ! refl $ suffices ! _ (ends_at 𝓛 f.ended stayed c y v r (tt, (tt, (tt, tt))) (tt, (tt, (tt, tt)))) $
    nothing ! $ nothing ! $ join ! $ nothing ! $ join ! $ nothing ! $ join ! $ nothing ! $ group ! 3 $ done !))))))
