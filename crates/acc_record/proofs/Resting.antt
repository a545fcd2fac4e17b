-- Of a transaction that isn't known a store has nothing but what a fresh record says.
use Rattle.std.proofs.Common.{◌≡◌, ℕ, Bool, true, false, ◌&&◌, cond, List, [], ◌∷◌, ◌++◌, Option, None, Some, is_some, refl, sym, ◌∙◌, ap}
use Rattle.std.specs.List.{flat_map}
use Rattle.std.proofs.lemmas.Bool.{true≢false, false_from_ne_true}
use Rattle.acc_base.specs.Faults.{or_else}
use Rattle.acc_stamp.specs.declared.stamps.Stamp.{Stamp}
use Rattle.acc_stamp.specs.declared.stamps.TxnId.{TxnId}
use Rattle.acc_stamp.specs.declared.stamps.Ballot.{Ballot}
use Rattle.acc_stamp.specs.declared.actors.Actor.{Actor}
use Rattle.acc_stamp.specs.Stamp.{id_eq, zero_ballot}
use Rattle.acc_stamp.specs.Rising.{id_among}
use Rattle.acc_stamp.proofs.Order.{id_order}
use Rattle.acc_topology.specs.Layout.{Layout}
use Rattle.acc_deps.specs.declared.shards.ShardDeps.{ShardDeps}
use Rattle.acc_deps.specs.declared.records.Accepted.{Accepted}
use Rattle.acc_deps.specs.declared.records.Settled.{Settled}
use Rattle.acc_txn.specs.declared.parts.BodyParts.{BodyParts}
use Rattle.acc_txn.specs.declared.outcome.Outcome.{Outcome}
use Rattle.acc_message.specs.declared.message.Message.{Message}
use Rattle.acc_message.specs.Fields.{id_of, ballot_of}
use Rattle.acc_message.specs.Taken.{Taken, body_in, body_known}
use Rattle.acc_message.specs.VoteRule.{first_vote, vote_of, times_in, stamps_of, stamps_of_vote}
use Rattle.acc_message.specs.BallotRules.{greater_ballot, promise_of, accepted_of, committed_of, settled_in, stable_of, kept_outcome}
use Rattle.acc_message.specs.Opening.{IsOpened, Stays, Opens, opened_of, is_opened}
use Rattle.acc_message.specs.StoreRules.{stable_ballots, store_answer, replay}
use Rattle.acc_record.specs.declared.record.Record.{Record}
use Rattle.acc_record.specs.Stands.{record_with, stamp_of_vote, deps_of_vote}
use Rattle.acc_record.specs.Steps.{fresh}
use Rattle.acc_actor_laws.proofs.Standing.{not_none}
use Rattle.acc_actor_laws.proofs.OpeningFacts.{opened_of-sound}
use Rattle.acc_record.proofs.Apart.{concerns, or_else-none, greater_ballot-zero, times_apart, settled_apart, outcome_apart, ballots_apart, grants_apart, accepted_apart, committed_apart, vote_apart, known_apart, known_here}

-- ---- a step about another one

-- what a step has to do with x, where its message doesn't concern it
pub record StaysAt (step : Taken) (past : List Taken) (x : TxnId) : Type 0 where
  pub known : body_known (step ∷ past) x ≡ body_known past x
  pub vote : vote_of (step ∷ past) x ≡ vote_of past x
  pub promise : promise_of (step ∷ past) x ≡ promise_of past x
  pub accepted : accepted_of (step ∷ past) x ≡ accepted_of past x
  pub committed : committed_of (step ∷ past) x ≡ committed_of past x
  pub stable : stable_of (step ∷ past) x ≡ stable_of past x
  pub outcome : kept_outcome (step ∷ past) x ≡ kept_outcome past x
  pub ballots : stable_ballots (step ∷ past) x ≡ stable_ballots past x
  pub stamps : stamps_of (step ∷ past) x ≡ stamps_of past x

pub stays_at : (layout : Layout) (own : Actor) (past : List Taken) (m : Message) (sent : List Message) (x : TxnId)
    → sent ≡ store_answer layout own past m → concerns x m ≡ false → StaysAt (record { message = m; sent = sent }) past x
stays_at layout own past m sent x answers apart =
    record {
      known = known_apart (record { message = m; sent = sent }) past x apart;
      vote = vote;
      promise = ap (λ b. greater_ballot (promise_of past x) (cond b (ballot_of m) zero_ballot)) (grants_apart x m sent apart) ∙ greater_ballot-zero (promise_of past x);
      accepted = ap (λ o. or_else o (accepted_of past x)) (accepted_apart x m sent apart);
      committed = ap (λ o. or_else o (committed_of past x)) (committed_apart x m sent apart);
      stable = ap (or_else (stable_of past x)) (settled_apart x m apart) ∙ or_else-none (stable_of past x);
      outcome = ap (or_else (kept_outcome past x)) (outcome_apart x m apart) ∙ or_else-none (kept_outcome past x);
      ballots = ballots_apart x m (stable_ballots past x) apart;
      stamps =
          ap (λ (s : List Stamp). x.0 ∷ (s ++ flat_map (λ (t : Taken). times_in x t.message) past) ++ stamps_of_vote (vote_of (record { message = m; sent = sent } ∷ past) x)) (times_apart x m apart)
          ∙ ap (λ v. x.0 ∷ flat_map (λ (t : Taken). times_in x t.message) past ++ stamps_of_vote v) vote;
    }
  where
    vote : vote_of (record { message = m; sent = sent } ∷ past) x ≡ vote_of past x
    vote = ap (or_else (vote_of past x)) (ap (first_vote x) answers ∙ vote_apart layout own past m x apart) ∙ or_else-none (vote_of past x)

-- ---- not known

-- a step after which x isn't known doesn't concern it
unknown_apart : (step : Taken) (past : List Taken) (x : TxnId) (o : Option BodyParts) (b : Bool) → body_in step.message ≡ o
    → id_eq (id_of step.message) x ≡ b → body_known (step ∷ past) x ≡ None → (is_some o && b) ≡ false
unknown_apart step past x None b brings about unknown = refl
unknown_apart step past x (Some body) false brings about unknown = refl
unknown_apart step past x (Some body) true brings about unknown =
    absurd
    (never (body_known past (id_of step.message)) body
    (sym (ap (or_else (body_known past (id_of step.message))) brings)
    ∙ sym (known_here step past)
    ∙ ap (body_known (step ∷ past)) ((id_order.decides (id_of step.message) x).0 about)
    ∙ unknown))
  where
    never : {T : Type 0} (p : Option T) (v : T) → or_else p (Some v) ≡ None → ⊥
    never None v e = not_none v (sym e)
    never (Some w) v e = not_none w (sym e)

pub unknown_apart_from : (step : Taken) (past : List Taken) (x : TxnId) → body_known (step ∷ past) x ≡ None → concerns x step.message ≡ false
unknown_apart_from step past x unknown = unknown_apart step past x (body_in step.message) (id_eq (id_of step.message) x) refl refl unknown

-- nothing was noted about x
pub record IsUntouched (history : List Taken) (x : TxnId) : Type 0 where
  pub vote : vote_of history x ≡ None
  pub promise : promise_of history x ≡ zero_ballot
  pub accepted : accepted_of history x ≡ None
  pub committed : committed_of history x ≡ None
  pub stable : stable_of history x ≡ None
  pub outcome : kept_outcome history x ≡ None
  pub ballots : stable_ballots history x ≡ []
  pub stamps : stamps_of history x ≡ x.0 ∷ []

pub untouched : (layout : Layout) (own : Actor) (messages : List Message) (x : TxnId)
    → body_known (replay layout own messages) x ≡ None → IsUntouched (replay layout own messages) x
untouched layout own [] x unknown =
    record { vote = refl; promise = refl; accepted = refl; committed = refl; stable = refl; outcome = refl; ballots = refl; stamps = refl }
untouched layout own (m ∷ ms) x unknown =
    let past : List Taken = replay layout own ms in
    let step : Taken = record { message = m; sent = store_answer layout own past m } in
    let s : StaysAt step past x = stays_at layout own past m (store_answer layout own past m) x refl (unknown_apart_from step past x unknown) in
    let u : IsUntouched past x = untouched layout own ms x (sym s.known ∙ unknown) in
    record {
      vote = s.vote ∙ u.vote;
      promise = s.promise ∙ u.promise;
      accepted = s.accepted ∙ u.accepted;
      committed = s.committed ∙ u.committed;
      stable = s.stable ∙ u.stable;
      outcome = s.outcome ∙ u.outcome;
      ballots = s.ballots ∙ u.ballots;
      stamps = s.stamps ∙ u.stamps;
    }

-- what isn't stable isn't opened
unstable_open : (shard : ℕ) (history : List Taken) (x : TxnId) (before : List TxnId) → stable_of history x ≡ None → id_among x before ≡ false
    → IsOpened shard history before x → ⊥
unstable_open shard history x before none un (Stays y h) = true≢false (sym h ∙ un)
unstable_open shard history x before none un (Opens y mine is stable outcome opens) = not_none mine (sym none ∙ is)

earlier_none : {T : Type 0} (a b : Option T) → or_else a b ≡ None → a ≡ None
earlier_none None b e = refl
earlier_none (Some v) b e = e

pub unstable_closed : (shard : ℕ) (history : List Taken) (x : TxnId) → stable_of history x ≡ None → is_opened shard history x ≡ false
unstable_closed shard [] x none = refl
unstable_closed shard (step ∷ past) x none =
    false_from_ne_true (is_opened shard (step ∷ past) x)
    (λ is. unstable_open shard (step ∷ past) x (opened_of shard past) none
    (unstable_closed shard past x (earlier_none (stable_of past x) (settled_in x step.message) none))
    (opened_of-sound shard step past x is))

-- ---- the record

-- records with equal parts
abbrev Equal : Record → Record → Type 0
Equal r s = r ≡ s

pub same_record : (id : TxnId) (body : BodyParts) (vote vote' : Option Stamp) (vote_deps vote_deps' : List ShardDeps) (promised promised' : Ballot) (accepted accepted' : Option Accepted) (committed committed' : Option Accepted) (stable stable' : Option Settled) (waiters waiters' : List Ballot) (opened opened' : Bool) (outcome outcome' : Option Outcome) (applied applied' : Bool)
    → vote ≡ vote' → vote_deps ≡ vote_deps' → promised ≡ promised' → accepted ≡ accepted' → committed ≡ committed' → stable ≡ stable' → waiters ≡ waiters' → opened ≡ opened' → outcome ≡ outcome' → applied ≡ applied'
    → Equal (record { id = id; body = body; vote = vote; vote_deps = vote_deps; promised = promised; accepted = accepted; committed = committed; stable = stable; waiters = waiters; opened = opened; outcome = outcome; applied = applied }) (record { id = id; body = body; vote = vote'; vote_deps = vote_deps'; promised = promised'; accepted = accepted'; committed = committed'; stable = stable'; waiters = waiters'; opened = opened'; outcome = outcome'; applied = applied' })
same_record id body vote vote' vote_deps vote_deps' promised promised' accepted accepted' committed committed' stable stable' waiters waiters' opened opened' outcome outcome' applied applied' a b c d e f g h i j = cc

-- what isn't known has a fresh record
pub fresh_record : (layout : Layout) (own : Actor) (shard : ℕ) (messages : List Message) (x : TxnId) (body : BodyParts)
    → body_known (replay layout own messages) x ≡ None → record_with shard (replay layout own messages) x body ≡ fresh x body
fresh_record layout own shard messages x body unknown =
    let history : List Taken = replay layout own messages in
    let u : IsUntouched history x = untouched layout own messages x unknown in
    let closed : is_opened shard history x ≡ false = unstable_closed shard history x u.stable in
    same_record x body _ _ _ _ _ _ _ _ _ _ _ _ _ _ _ _ _ _ _ _
    (ap stamp_of_vote u.vote) (ap deps_of_vote u.vote) u.promise u.accepted u.committed u.stable
    (ap (λ b. cond b [] (stable_ballots history x)) closed ∙ u.ballots) closed u.outcome (ap (λ b. b && is_some (kept_outcome history x)) closed)
