-- The view that goes first, from the last one on.
use Rattle.std.proofs.Common.{◌≡◌, true, false, cond, ◌||◌, IsTrue, is_some, List, [], ◌∷◌, ◌++◌, Option, None, Some, refl, sym, ◌∙◌, ap}
use Rattle.std.proofs.lemmas.Bool.{true≢false}
use Rattle.std.proofs.lemmas.List.{append-nil}
use Rattle.acc_stamp.specs.declared.actors.Actor.{Actor}
use Rattle.acc_deps.specs.declared.records.Accepted.{Accepted}
use Rattle.acc_deps.specs.declared.records.Settled.{Settled}
use Rattle.acc_deps.specs.declared.records.View.{View}
use Rattle.acc_deps.specs.Records.{Stably, stably_in, stably_all, lesser_of, least_stably, Claim, claim_in, claims_in, claims_of, higher_of, highest_claim}
use Rattle.acc_recover.specs.Rank.{has_record, claim_before, stable_before, goes_before, HasNone, GoesFirst}
use Rattle.acc_recover.proofs.ClaimOrder.{higher_opt, highest_claim-append}

-- ---- the parts of a view, beside what the earlier ones have

abbrev stably_at : Actor → Settled → Stably
stably_at a s = record { store = a; settled = s }

record LeadsBy (a : Actor) (r : Option Settled) (c : Option Claim) (least : Option Stably) (highest : Option Claim) : Type 0 where
  stable : least_stably (stably_in a r) ≡ least
  claim : least ≡ None → c ≡ highest

abbrev with_stable : Actor → Option Settled → Option Stably → Option Stably
with_stable b None least = least
with_stable b (Some s) least = Some (lesser_of (stably_at b s) least)

with_stable-is : (b : Actor) (s : Option Settled) (rest : List Stably) → least_stably (stably_in b s ++ rest) ≡ with_stable b s (least_stably rest)
with_stable-is b None rest = refl
with_stable-is b (Some s) rest = refl

no_some : {T : Type 0} (x : T) → None ≡ Some x → ⊥
no_some x e = cc

-- ---- claims

claim_stays : (c d highest : Option Claim) → c ≡ highest → claim_before c d ≡ true → c ≡ higher_opt d highest
claim_stays None d highest e h = absurd (true≢false (sym h))
claim_stays (Some f) None highest e h = e
claim_stays (Some f) (Some g) highest e h =
    ap (λ z. Some (cond z f g)) (sym h) ∙ ap (λ z. Some (higher_of g z)) e

claim_yields : (c d highest : Option Claim) → c ≡ highest → claim_before c d ≡ false → (c ≡ None → ⊥) → d ≡ higher_opt d highest
claim_yields None d highest e h some = absurd (some refl)
claim_yields (Some f) None highest e h some = absurd (true≢false h)
claim_yields (Some f) (Some g) highest e h some =
    ap (λ z. Some (cond z f g)) (sym h) ∙ ap (λ z. Some (higher_of g z)) e

-- ---- both

stays : (a : Actor) (r : Option Settled) (c : Option Claim) (b : Actor) (s : Option Settled) (d : Option Claim) (least : Option Stably) (highest : Option Claim)
    → LeadsBy a r c least highest → stable_before a r b s (claim_before c d) ≡ true → LeadsBy a r c (with_stable b s least) (higher_opt d highest)
stays a None c b None d least highest l h = record { stable = l.stable; claim = λ e. claim_stays c d highest (l.claim e) h }
stays a None c b (Some s) d least highest l h = absurd (true≢false (sym h))
stays a (Some r) c b None d least highest l h =
    record { stable = l.stable; claim = λ e. absurd (no_some (stably_at a r) (sym e ∙ sym l.stable)) }
stays a (Some r) c b (Some s) d least highest l h =
    record {
      stable = ap (λ z. Some (cond z (stably_at a r) (stably_at b s))) (sym h) ∙ ap (λ z. Some (lesser_of (stably_at b s) z)) l.stable;
      claim = λ e. absurd (no_some (lesser_of (stably_at b s) least) (sym e));
    }

yields : (a : Actor) (r : Option Settled) (c : Option Claim) (b : Actor) (s : Option Settled) (d : Option Claim) (least : Option Stably) (highest : Option Claim)
    → LeadsBy a r c least highest → stable_before a r b s (claim_before c d) ≡ false → (r ≡ None → c ≡ None → ⊥)
    → LeadsBy b s d (with_stable b s least) (higher_opt d highest)
yields a None c b None d least highest l h some =
    record { stable = l.stable; claim = λ e. claim_yields c d highest (l.claim e) h (some refl) }
yields a None c b (Some s) d least highest l h some =
    record {
      stable = ap (λ z. Some (lesser_of (stably_at b s) z)) l.stable;
      claim = λ e. absurd (no_some (lesser_of (stably_at b s) least) (sym e));
    }
yields a (Some r) c b None d least highest l h some = absurd (true≢false h)
yields a (Some r) c b (Some s) d least highest l h some =
    record {
      stable = ap (λ z. Some (cond z (stably_at a r) (stably_at b s))) (sym h) ∙ ap (λ z. Some (lesser_of (stably_at b s) z)) l.stable;
      claim = λ e. absurd (no_some (lesser_of (stably_at b s) least) (sym e));
    }

-- ---- views

claims-is : (v : View) (rest : List View) → highest_claim (claims_of (v ∷ rest)) ≡ higher_opt (highest_claim (claims_in v)) (highest_claim (claims_of rest))
claims-is v rest = highest_claim-append (claims_in v) (claims_of rest)

stable-is : (v : View) (rest : List View) → least_stably (stably_all (v ∷ rest)) ≡ with_stable v.store v.stable (least_stably (stably_all rest))
stable-is v rest = with_stable-is v.store v.stable (stably_all rest)

leads : (rest : List View) (w : View) → GoesFirst rest w → LeadsBy w.store w.stable (highest_claim (claims_in w)) (least_stably (stably_all rest)) (highest_claim (claims_of rest))
leads rest w g = record { stable = g.stable; claim = g.claim }

goes : (v w : View) (rest : List View) → IsTrue (has_record w)
    → LeadsBy w.store w.stable (highest_claim (claims_in w)) (with_stable v.store v.stable (least_stably (stably_all rest))) (higher_opt (highest_claim (claims_in v)) (highest_claim (claims_of rest)))
    → GoesFirst (v ∷ rest) w
goes v w rest recorded l =
    record {
      recorded = recorded;
      stable = l.stable ∙ sym (stable-is v rest);
      claim = λ e. l.claim (sym (stable-is v rest) ∙ e) ∙ sym (claims-is v rest);
    }

no_claim : (store : Actor) (committed accepted : Option Accepted) → highest_claim (claim_in store true committed ++ claim_in store false accepted) ≡ None
    → (committed ≡ None) × (accepted ≡ None)
no_claim store None None e = (refl, refl)
no_claim store None (Some a) e = absurd (no_some _ (sym e))
no_claim store (Some a) accepted e = absurd (no_some _ (sym e))

no_record : (stable : Option Settled) (committed accepted : Option Accepted) → IsTrue (is_some stable || is_some committed || is_some accepted)
    → stable ≡ None → committed ≡ None → accepted ≡ None → ⊥
no_record None None None h e f g = true≢false (sym h)
no_record (Some s) c a h e f g = no_some s (sym e)
no_record None (Some c) a h e f g = no_some c (sym f)
no_record None None (Some a) h e f g = no_some a (sym g)

shows_some : (w : View) → IsTrue (has_record w) → w.stable ≡ None → highest_claim (claims_in w) ≡ None → ⊥
shows_some w h e f =
    let none = no_claim w.store w.committed w.accepted f in
    no_record w.stable w.committed w.accepted h e none.0 none.1

-- ---- a view that goes before another one stays first, and else the other one does

pub first_stays : (v w : View) (rest : List View) → GoesFirst rest w → goes_before w v ≡ true → GoesFirst (v ∷ rest) w
first_stays v w rest g h =
    goes v w rest g.recorded
    (stays w.store w.stable (highest_claim (claims_in w)) v.store v.stable (highest_claim (claims_in v)) _ _ (leads rest w g) h)

pub first_yields : (v w : View) (rest : List View) → GoesFirst rest w → goes_before w v ≡ false → IsTrue (has_record v) → GoesFirst (v ∷ rest) v
first_yields v w rest g h recorded =
    goes v v rest recorded
    (yields w.store w.stable (highest_claim (claims_in w)) v.store v.stable (highest_claim (claims_in v)) _ _ (leads rest w g) h
    (shows_some w g.recorded))

-- where a view has no record, each other one that has goes before it
nothing_before : (a : Actor) (r : Option Settled) (c : Option Claim) (b : Actor) → (r ≡ None → c ≡ None → ⊥) → stable_before a r b None (claim_before c None) ≡ true
nothing_before a None None b some = absurd (some refl refl)
nothing_before a None (Some c) b some = refl
nothing_before a (Some r) c b some = refl

no_parts : (stable : Option Settled) (committed accepted : Option Accepted) → (is_some stable || is_some committed || is_some accepted) ≡ false
    → (stable ≡ None) × (committed ≡ None) × (accepted ≡ None)
no_parts None None None h = (refl, refl, refl)
no_parts (Some s) c a h = absurd (true≢false h)
no_parts None (Some c) a h = absurd (true≢false h)
no_parts None None (Some a) h = absurd (true≢false h)

claims_none : (store : Actor) (committed accepted : Option Accepted) → committed ≡ None → accepted ≡ None → claim_in store true committed ++ claim_in store false accepted ≡ []
claims_none store committed accepted e f = ap (λ z. claim_in store true z ++ claim_in store false accepted) e ∙ ap (claim_in store false) f

pub without_record : (v w : View) (rest : List View) → GoesFirst rest w → has_record v ≡ false → goes_before w v ≡ true
without_record v w rest g h =
    let parts = no_parts v.stable v.committed v.accepted h in
    ap (λ z. stable_before w.store w.stable v.store z (claim_before (highest_claim (claims_in w)) (highest_claim (claims_in v)))) parts.0
    ∙ ap (λ z. stable_before w.store w.stable v.store None (claim_before (highest_claim (claims_in w)) (highest_claim z))) (claims_none v.store v.committed v.accepted parts.1 parts.2)
    ∙ nothing_before w.store w.stable (highest_claim (claims_in w)) v.store (shows_some w g.recorded)

-- ---- no record among the earlier ones

pub none_with : (v : View) (rest : List View) → HasNone rest → has_record v ≡ false → HasNone (v ∷ rest)
none_with v rest n h =
    let parts = no_parts v.stable v.committed v.accepted h in
    record {
      stable = ap (λ z. stably_in v.store z ++ stably_all rest) parts.0 ∙ n.stable;
      claims = ap (λ z. z ++ claims_of rest) (claims_none v.store v.committed v.accepted parts.1 parts.2) ∙ n.claims;
    }

pub first_alone : (v : View) (rest : List View) → HasNone rest → IsTrue (has_record v) → GoesFirst (v ∷ rest) v
first_alone v rest n recorded =
    record {
      recorded = recorded;
      stable = ap least_stably (sym (append-nil (stably_in v.store v.stable)) ∙ ap (λ z. stably_in v.store v.stable ++ z) (sym n.stable));
      claim = λ _. ap highest_claim (sym (append-nil (claims_in v)) ∙ ap (λ z. claims_in v ++ z) (sym n.claims));
    }
