-- The two cases of a `Result` by value: what its field owns, and the machine value. Assumes `Logic`.
use mathlib.Core.Path.{◌≡◌, refl, ap, ◌∙◌}
use mathlib.Core.List.{List, [], ◌∷◌, ◌++◌}
use seplogic.Ra.Ura.{Ura}
use mir.Val.{Val, of_list}
use types.Logic.{Logic}
use types.Kit.{Goal, Seq, Item, ‵, ◌$◌, move, drop, fsplit, fpick, feq_l}
use types.Match.{live}
use denote.RattleType.{RattleType}
use Rattle.core.specs.declared.result.Result.TheVariants.{Ok, Err}
use Rattle.core.specs.contracts.result.Result as RS

module _ {M : Type 1} {𝓤 : Ura M} {𝓛 : Logic 𝓤} {K : Type 0} {Γ : List (Item 𝓤)} {G : Goal 𝓤 𝓛.H} where
  pub results : K → (P Q : RattleType) (r : (RS.the_row P Q).Denot) (v : Val)
      → ((x : P.Denot) (us : List Val) → r ≡ Ok x → v ∷ [] ≡ live 0 (of_list (us ++ [])) ∷ [] → Seq K 𝓛 (‵ (P.own_val x us) ∷ Γ) G)
      → ((x : Q.Denot) (us : List Val) → r ≡ Err x → v ∷ [] ≡ live 1 (of_list (us ++ [])) ∷ [] → Seq K 𝓛 (‵ (Q.own_val x us) ∷ Γ) G)
      → Seq K 𝓛 (‵ ((RS.the_row P Q).own_val r (v ∷ [])) ∷ Γ) G
  results t P Q (Ok x) v ok err = fpick t (λ ws. fsplit t $ feq_l t (λ e. fpick t (λ vss. fsplit t $ feq_l t (λ e'. fsplit t $ move t (1 ∷ []) $ drop t $
      ok x vss.0 refl (e ∙ ap (λ (us : List Val). live 0 (of_list us) ∷ []) e')))))
  results t P Q (Err x) v ok err = fpick t (λ ws. fsplit t $ feq_l t (λ e. fpick t (λ vss. fsplit t $ feq_l t (λ e'. fsplit t $ move t (1 ∷ []) $ drop t $
      err x vss.0 refl (e ∙ ap (λ (us : List Val). live 1 (of_list us) ∷ []) e')))))
