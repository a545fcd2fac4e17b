-- Which error tells what, by why a node refuses the event slow.
use Rattle.std.proofs.Common.{◌≡◌, ◌↔◌, Bool, true, false, Result, Ok, Err, IfOk, IfErr, refl, sym, subst, ◌∙◌}
use Rattle.std.proofs.lemmas.Bool.{true≢false}
use Rattle.acc_node.specs.declared.error.NodeError.{NodeError}
use Rattle.acc_node.specs.declared.error.NodeError.TheVariants.{Begun, Unknown, NoQuorum, OutOfMemory}
use Rattle.acc_node.specs.Stands.{Refuses}

module _ {A : Type 0} (waits majority : Bool) where
  pub unknown_exactly : (result : Result A NodeError) → IfOk result (λ _. waits ≡ true)
      → IfErr result (λ error. Refuses waits majority error) → (result ≡ Err Unknown) ↔ (waits ≡ false)
  unknown_exactly (Ok value) granted refused = (λ h. cc, λ h. absurd (true≢false (sym granted ∙ h)))
  unknown_exactly (Err Begun) granted refused = absurd refused
  unknown_exactly (Err Unknown) granted refused = (λ h. refused, λ h. refl)
  unknown_exactly (Err NoQuorum) granted refused = (λ h. cc, λ h. absurd (true≢false (sym refused.0 ∙ h)))
  unknown_exactly (Err OutOfMemory) granted refused = (λ h. cc, λ h. absurd (true≢false (sym refused.0 ∙ h)))

  pub no_quorum_exactly : (result : Result A NodeError) → IfOk result (λ _. majority ≡ true)
      → IfErr result (λ error. Refuses waits majority error) → (result ≡ Err NoQuorum) ↔ ((waits ≡ true) × (majority ≡ false))
  no_quorum_exactly (Ok value) granted refused = (λ h. cc, λ h. absurd (true≢false (sym granted ∙ h.1)))
  no_quorum_exactly (Err Begun) granted refused = absurd refused
  no_quorum_exactly (Err Unknown) granted refused = (λ h. cc, λ h. absurd (true≢false (sym h.0 ∙ refused)))
  no_quorum_exactly (Err NoQuorum) granted refused = (λ h. refused, λ h. refl)
  no_quorum_exactly (Err OutOfMemory) granted refused = (λ h. cc, λ h. absurd (true≢false (sym refused.1 ∙ h.1)))

pub never_begun : (waits majority : Bool) (error : NodeError) → Refuses waits majority error → error ≡ Begun → ⊥
never_begun waits majority Begun refused h = refused
never_begun waits majority Unknown refused h = cc
never_begun waits majority NoQuorum refused h = cc
never_begun waits majority OutOfMemory refused h = cc

-- an error that is handed on
pub if_err_is : {A : Type 0} (result : Result A NodeError) (error : NodeError) (Q : NodeError → Type 0) → result ≡ Err error → Q error → IfErr result Q
if_err_is {A} result error Q is holds = subst (λ (r : Result A NodeError). IfErr r Q) (sym is) holds

pub refused_unknown : {A : Type 0} (waits majority : Bool) (result : Result A NodeError) (error : NodeError) → result ≡ Err error → Refuses waits majority error
    → (result ≡ Err Unknown) ↔ (waits ≡ false)
refused_unknown {A} waits majority result error is refused =
    subst (λ (r : Result A NodeError). (r ≡ Err Unknown) ↔ (waits ≡ false)) (sym is) (unknown_exactly waits majority (Err error) tt refused)

pub refused_no_quorum : {A : Type 0} (waits majority : Bool) (result : Result A NodeError) (error : NodeError) → result ≡ Err error → Refuses waits majority error
    → (result ≡ Err NoQuorum) ↔ ((waits ≡ true) × (majority ≡ false))
refused_no_quorum {A} waits majority result error is refused =
    subst (λ (r : Result A NodeError). (r ≡ Err NoQuorum) ↔ ((waits ≡ true) × (majority ≡ false))) (sym is) (no_quorum_exactly waits majority (Err error) tt refused)
