-- The record that a recovery adopts is that of some view, and the greatest.
use Rattle.std.proofs.Common.{◌≡◌, Bool, true, false, not, ◌&&◌, ◌||◌, cond, List, [], ◌∷◌, ◌++◌, Option, None, Some, Contains, refl, sym, ◌∙◌, ap, subst, ⊎_elim, ◌⊎◌, inl, inr, arith}
use Rattle.std.specs.List.{flat_map}
use Rattle.std.specs.Bool.{beq}
use Rattle.std.proofs.lemmas.Bool.{true≢false, and_parts, or_cases, or_parts, cond_both, and_from}
use Rattle.std.proofs.lemmas.List.Elements.{Contains-append_cases, Contains-push_cases, Contains-append_left, Contains-append_right, Contains-push}
use Rattle.acc_stamp.specs.declared.stamps.Ballot.{Ballot}
use Rattle.acc_stamp.specs.declared.actors.Actor.{Actor}
use Rattle.acc_stamp.specs.Stamp.{ballot_lt, ballot_eq}
use Rattle.acc_stamp.proofs.Order.{ballot_order, asym, le-trans}
use Rattle.acc_deps.specs.declared.records.Accepted.{Accepted}
use Rattle.acc_deps.specs.declared.records.Settled.{Settled}
use Rattle.acc_deps.specs.declared.records.View.{View}
use Rattle.acc_deps.specs.Records.{store_lt, Stably, stably_in, stably_all, lesser_of, least_stably, Claim, claim_in, claims_in, claims_of, is_committed_before, outranks, higher_of, highest_claim, ShowsStable, record_of, shown_as, ShowsClaim, IsAtLeast}

-- ---- elements

none_in : {T : Type 0} (x : T) → Contains [] x → ⊥
none_in x h = omega (arith, h.1)

one_in : {T : Type 0} (x y : T) → Contains (y ∷ []) x → y ≡ x
one_in x y h = ⊎_elim (λ none. absurd (none_in x none)) (λ same. same) (Contains-push_cases [] y x h)

pub first_or_rest : {T : Type 0} (y : T) (ys : List T) (x : T) → Contains (y ∷ ys) x → (y ≡ x) ⊎ Contains ys x
first_or_rest y ys x h = ⊎_elim (λ first. inl (one_in x y first)) inr (Contains-append_cases (y ∷ []) ys x h)

first_in : {T : Type 0} (y : T) (ys : List T) → Contains (y ∷ ys) y
first_in y ys = Contains-append_left (y ∷ []) ys y (Contains-push [] y)

later_in : {T : Type 0} (x y : T) (ys : List T) → Contains ys x → Contains (y ∷ ys) x
later_in x y ys h = Contains-append_right (y ∷ []) ys x h

same_some : {T : Type 0} (x y : T) → Some x ≡ Some y → x ≡ y
same_some x y e = cc

no_some : {T : Type 0} (x : T) → None ≡ Some x → ⊥
no_some x e = cc

-- ---- the stable record

lesser_one : (s : Stably) (o : Option Stably) (rest : List Stably) → ((t : Stably) → o ≡ Some t → Contains rest t) → Contains (s ∷ rest) (lesser_of s o)
lesser_one s None rest h = first_in s rest
lesser_one s (Some t) rest h =
    cond_both (store_lt t.store s.store) t s (Contains (s ∷ rest)) (λ _. later_in t s rest (h t refl)) (λ _. first_in s rest)

least_is_in : (list : List Stably) (s : Stably) → least_stably list ≡ Some s → Contains list s
least_is_in [] s is = absurd (no_some s is)
least_is_in (t ∷ rest) s is =
    subst (Contains (t ∷ rest)) (same_some (lesser_of t (least_stably rest)) s is) (lesser_one t (least_stably rest) rest (λ u. least_is_in rest u))

stable_in_view : (store : Actor) (o : Option Settled) (s : Stably) → Contains (stably_in store o) s → (store ≡ s.store) × (o ≡ Some s.settled)
stable_in_view store None s h = absurd (none_in s h)
stable_in_view store (Some settled) s h =
    let same = one_in s (record { store = store; settled = settled }) h in
    (ap (λ (t : Stably). t.store) same, ap (λ (t : Stably). Some t.settled) same)

stable_in_views : (views : List View) (s : Stably) → Contains (stably_all views) s → ShowsStable views s
stable_in_views [] s h = absurd (none_in s h)
stable_in_views (v ∷ views) s h =
    ⊎_elim
    (λ here. let parts = stable_in_view v.store v.stable s here in record { view = v; there = first_in v views; store_is = parts.0; shows = parts.1 })
    (λ rest.
    let r = stable_in_views views s rest in
    record { view = r.view; there = later_in r.view v views r.there; store_is = r.store_is; shows = r.shows })
    (Contains-append_cases (stably_in v.store v.stable) (stably_all views) s h)

pub stable_is_shown : (views : List View) (s : Stably) → least_stably (stably_all views) ≡ Some s → ShowsStable views s
stable_is_shown views s is = stable_in_views views s (least_is_in (stably_all views) s is)

-- ---- the claim

higher_one : (c : Claim) (o : Option Claim) (rest : List Claim) → ((d : Claim) → o ≡ Some d → Contains rest d) → Contains (c ∷ rest) (higher_of c o)
higher_one c None rest h = first_in c rest
higher_one c (Some d) rest h =
    cond_both (outranks d c) d c (Contains (c ∷ rest)) (λ _. later_in d c rest (h d refl)) (λ _. first_in c rest)

highest_is_in : (claims : List Claim) (c : Claim) → highest_claim claims ≡ Some c → Contains claims c
highest_is_in [] c is = absurd (no_some c is)
highest_is_in (d ∷ rest) c is =
    subst (Contains (d ∷ rest)) (same_some (higher_of d (highest_claim rest)) c is) (higher_one d (highest_claim rest) rest (λ e. highest_is_in rest e))

claim_in_view : (store : Actor) (is_committed : Bool) (o : Option Accepted) (c : Claim) → Contains (claim_in store is_committed o) c
    → (store ≡ c.store) × (is_committed ≡ c.is_committed) × (o ≡ Some (record_of c))
claim_in_view store is_committed None c h = absurd (none_in c h)
claim_in_view store is_committed (Some a) c h =
    let same =
    one_in c (record { store = store; ballot = a.ballot; is_committed = is_committed; settled = record { t = a.t; deps = a.deps } }) h in
    (ap (λ (d : Claim). d.store) same, ap (λ (d : Claim). d.is_committed) same, ap (λ (d : Claim). Some (record_of d)) same)

claim_in_views : (views : List View) (c : Claim) → Contains (claims_of views) c → ShowsClaim views c
claim_in_views [] c h = absurd (none_in c h)
claim_in_views (v ∷ views) c h =
    ⊎_elim
    (λ here.
    ⊎_elim
    (λ committed.
    let parts = claim_in_view v.store true v.committed c committed in
    record { view = v; there = first_in v views; store_is = parts.0; shows = ap (shown_as v) (sym parts.1) ∙ parts.2 })
    (λ accepted.
    let parts = claim_in_view v.store false v.accepted c accepted in
    record { view = v; there = first_in v views; store_is = parts.0; shows = ap (shown_as v) (sym parts.1) ∙ parts.2 })
    (Contains-append_cases (claim_in v.store true v.committed) (claim_in v.store false v.accepted) c here))
    (λ rest.
    let r = claim_in_views views c rest in
    record { view = r.view; there = later_in r.view v views r.there; store_is = r.store_is; shows = r.shows })
    (Contains-append_cases (claims_in v) (claims_of views) c h)

pub claim_is_shown : (views : List View) (c : Claim) → highest_claim (claims_of views) ≡ Some c → ShowsClaim views c
claim_is_shown views c is = claim_in_views views c (highest_is_in (claims_of views) c is)

-- ---- it is the greatest

at_least_itself : (c : Claim) → IsAtLeast c c
at_least_itself c = record { ballot = ballot_order.irrefl c.ballot; committed = λ same is. is }

at_least_trans : (c d e : Claim) → IsAtLeast c d → IsAtLeast d e → IsAtLeast c e
at_least_trans c d e h k =
    record {
      ballot = le-trans ballot_order e.ballot d.ballot c.ballot k.ballot h.ballot;
      committed = λ same is. by same (ballot_order.connected d.ballot e.ballot k.ballot (subst (λ b. ballot_lt b d.ballot ≡ false) same h.ballot)) is;
    }
  where
    by : c.ballot ≡ e.ballot → d.ballot ≡ e.ballot → e.is_committed ≡ true → c.is_committed ≡ true
    by same below is = h.committed (same ∙ sym below) (k.committed below is)

committed_first : (a b : Bool) (later : Bool) → ((a && not b) || (beq a b && later)) ≡ true → b ≡ true → a ≡ true
committed_first true b later h is = refl
committed_first false true later h is = absurd (true≢false (sym h))
committed_first false false later h is = is

committed_not_first : (a b : Bool) (later : Bool) → ((a && not b) || (beq a b && later)) ≡ false → a ≡ true → b ≡ true
committed_not_first true true later h is = refl
committed_not_first true false later h is = absurd (true≢false h)
committed_not_first false b later h is = absurd (true≢false (sym is))

higher_above : (d c : Claim) → outranks d c ≡ true → IsAtLeast d c
higher_above d c h =
    ⊎_elim
    (λ above.
    record {
      ballot = asym ballot_order c.ballot d.ballot above;
      committed = λ same is. absurd (true≢false (sym above ∙ ap (λ b. ballot_lt c.ballot b) same ∙ ballot_order.irrefl c.ballot));
    })
    (λ level.
    let parts = and_parts (ballot_eq d.ballot c.ballot) (is_committed_before d c) level in
    record {
      ballot = ap (λ b. ballot_lt b c.ballot) ((ballot_order.decides d.ballot c.ballot).0 parts.0) ∙ ballot_order.irrefl c.ballot;
      committed = λ same is. committed_first d.is_committed c.is_committed (store_lt d.store c.store) parts.1 is;
    })
    (or_cases (ballot_lt c.ballot d.ballot) (ballot_eq d.ballot c.ballot && is_committed_before d c) h)

not_higher_above : (d c : Claim) → outranks d c ≡ false → IsAtLeast c d
not_higher_above d c h =
    let parts = or_parts (ballot_lt c.ballot d.ballot) (ballot_eq d.ballot c.ballot && is_committed_before d c) h in
    record { ballot = parts.0; committed = λ same is. by parts.1 ((ballot_order.decides d.ballot c.ballot).1 (sym same)) is }
  where
    by : (ballot_eq d.ballot c.ballot && is_committed_before d c) ≡ false → ballot_eq d.ballot c.ballot ≡ true → d.is_committed ≡ true → c.is_committed ≡ true
    by none same is =
        committed_not_first d.is_committed c.is_committed (store_lt d.store c.store)
        (sym (ap (λ b. b && is_committed_before d c) same) ∙ none) is

higher_of_both : (c : Claim) (o : Option Claim) (e : Claim) → ((d : Claim) → o ≡ Some d → IsAtLeast d e) → (o ≡ None → ⊥) → IsAtLeast (higher_of c o) e
higher_of_both c None e h some = absurd (some refl)
higher_of_both c (Some d) e h some =
    cond_both (outranks d c) d c (λ z. IsAtLeast z e) (λ _. h d refl) (λ lower. at_least_trans c d e (not_higher_above d c lower) (h d refl))

higher_of_first : (c : Claim) (o : Option Claim) → IsAtLeast (higher_of c o) c
higher_of_first c None = at_least_itself c
higher_of_first c (Some d) = cond_both (outranks d c) d c (λ z. IsAtLeast z c) (λ higher. higher_above d c higher) (λ _. at_least_itself c)

some_highest : (claims : List Claim) (e : Claim) → Contains claims e → highest_claim claims ≡ None → ⊥
some_highest [] e h is = none_in e h
some_highest (c ∷ claims) e h is = no_some (higher_of c (highest_claim claims)) (sym is)

highest_above : (claims : List Claim) (e : Claim) → Contains claims e → (c : Claim) → highest_claim claims ≡ Some c → IsAtLeast c e
highest_above [] e h c is = absurd (none_in e h)
highest_above (d ∷ claims) e h c is =
    subst (λ z. IsAtLeast z e) (same_some (higher_of d (highest_claim claims)) c is)
    (⊎_elim
    (λ same. subst (λ z. IsAtLeast (higher_of d (highest_claim claims)) z) same (higher_of_first d (highest_claim claims)))
    (λ rest. higher_of_both d (highest_claim claims) e (highest_above claims e rest) (some_highest claims e rest))
    (first_or_rest d claims e h))

pub claim_is_greatest : (views : List View) (c d : Claim) → highest_claim (claims_of views) ≡ Some c → Contains (claims_of views) d → IsAtLeast c d
claim_is_greatest views c d is there = highest_above (claims_of views) d there c is
