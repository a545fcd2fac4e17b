-- What a store's notions come from: the records from messages that it took, and a vote from the step that made it.
use Rattle.std.proofs.Common.{◌≡◌, true, ◌&&◌, cond, List, [], ◌∷◌, Option, None, Some, refl, sym, ◌∙◌, ap, subst}
use Rattle.std.specs.List.{list_any}
use Rattle.std.proofs.lemmas.Bool.{and_parts, cond_both}
use Rattle.acc_base.specs.Faults.{or_else}
use Rattle.acc_stamp.specs.declared.stamps.TxnId.{TxnId}
use Rattle.acc_stamp.specs.declared.stamps.Ballot.{Ballot}
use Rattle.acc_stamp.specs.declared.actors.Actor.{Actor}
use Rattle.acc_stamp.specs.Stamp.{id_eq}
use Rattle.acc_stamp.proofs.Order.{id_order}
use Rattle.acc_topology.specs.Layout.{Layout}
use Rattle.acc_deps.specs.declared.records.Accepted.{Accepted}
use Rattle.acc_deps.specs.declared.records.Settled.{Settled}
use Rattle.acc_deps.specs.declared.records.View.{View}
use Rattle.acc_txn.specs.declared.parts.BodyParts.{BodyParts}
use Rattle.acc_txn.specs.declared.outcome.Outcome.{Outcome}
use Rattle.acc_message.specs.declared.message.Message.{Message}
use Rattle.acc_message.specs.declared.message.Message.TheVariants.{PreAccept, PreAcceptOk, Accept, AcceptOk, Commit, CommitOk, Stable, ReadOk, Apply, Recover, RecoverOk, Nack, Decided, Inform}
use Rattle.acc_message.specs.Taken.{Taken, taking, body_known}
use Rattle.acc_message.specs.VoteRule.{Vote, vote_in, first_vote, vote_of, vote_given, vote_for, new_vote}
use Rattle.acc_message.specs.BallotRules.{is_accept_ok, is_commit_ok, accepted_by, accepted_of, committed_by, committed_of, settled_in, stable_of}
use Rattle.acc_actor_laws.proofs.Standing.{not_none}
use Rattle.acc_actor_laws.proofs.OpeningFacts.{some_is}
use Rattle.acc_safety.specs.Places.{IsIn, First, Later, StandsAt, Here, Back}
use Rattle.acc_safety.specs.Histories.{EachAnswers}
use Rattle.acc_safety.specs.StoreSends.{StoreSends, Votes, Accepts, Commits, Reveals, ReadsAtOnce, ReadsOnOpening, Refuses, Tells}
use Rattle.acc_safety.specs.StoreFactStatements.{VoteMade}
use Rattle.acc_safety.proofs.StoreSent.{store_sends}

-- of two options the first that has a value
or_cases_of : {T : Type 0} {R : Type 0} (o other : Option T) (x : T) → or_else o other ≡ Some x → (o ≡ Some x → R) → (o ≡ None → other ≡ Some x → R) → R
or_cases_of None other x is first second = second refl is
or_cases_of (Some y) other x is first second = first is

-- ---- the accepted record

-- the step in which it was accepted
pub record AcceptedIn (history : List Taken) (x : TxnId) (a : Accepted) : Type 0 where
  pub step : Taken
  pub past : List Taken
  pub at : StandsAt step past history
  pub from : Actor
  pub to : Actor
  pub body : BodyParts
  pub message_is : step.message ≡ Accept from to x a.ballot body a.t a.deps
  pub granted : list_any is_accept_ok step.sent ≡ true

accepted_here : (x : TxnId) (a : Accepted) (m : Message) (sent : List Message) (past : List Taken) → accepted_by x m sent ≡ Some a
    → AcceptedIn (record { message = m; sent = sent } ∷ past) x a
accepted_here x a (Accept from to id ballot body t deps) sent past =
    cond_both (id_eq id x && list_any is_accept_ok sent) (Some (record { ballot = ballot; t = t; deps = deps })) None
    (λ o. o ≡ Some a → AcceptedIn (record { message = Accept from to id ballot body t deps; sent = sent } ∷ past) x a)
    (λ both is.
    let parts = and_parts (id_eq id x) (list_any is_accept_ok sent) both in
    let same = some_is (record { ballot = ballot; t = t; deps = deps }) a is in
    record {
      step = record { message = Accept from to id ballot body t deps; sent = sent };
      past = past;
      at = Here (record { message = Accept from to id ballot body t deps; sent = sent }) past;
      from = from;
      to = to;
      body = body;
      message_is =
          ap (λ y. Accept from to y ballot body t deps) ((id_order.decides id x).0 parts.0)
          ∙ ap (λ (r : Accepted). Accept from to x r.ballot body r.t r.deps) same;
      granted = parts.1;
    })
    (λ _ is. absurd (not_none a is))
accepted_here x a (PreAccept from to id ballot body) sent past = λ is. absurd (not_none a is)
accepted_here x a (PreAcceptOk from to id ballot vote deps) sent past = λ is. absurd (not_none a is)
accepted_here x a (AcceptOk from to id ballot deps) sent past = λ is. absurd (not_none a is)
accepted_here x a (Commit from to id ballot body t deps) sent past = λ is. absurd (not_none a is)
accepted_here x a (CommitOk from to id ballot) sent past = λ is. absurd (not_none a is)
accepted_here x a (Stable from to id ballot body t deps) sent past = λ is. absurd (not_none a is)
accepted_here x a (ReadOk from to id ballot answer) sent past = λ is. absurd (not_none a is)
accepted_here x a (Apply from to id ballot body t deps outcome) sent past = λ is. absurd (not_none a is)
accepted_here x a (Recover from to id ballot body) sent past = λ is. absurd (not_none a is)
accepted_here x a (RecoverOk from to id ballot view) sent past = λ is. absurd (not_none a is)
accepted_here x a (Nack from to id ballot promised) sent past = λ is. absurd (not_none a is)
accepted_here x a (Decided from to id ballot t deps) sent past = λ is. absurd (not_none a is)
accepted_here x a (Inform from to id ballot outcome) sent past = λ is. absurd (not_none a is)

accepted_back : (step : Taken) (past : List Taken) (x : TxnId) (a : Accepted) → AcceptedIn past x a → AcceptedIn (step ∷ past) x a
accepted_back step past x a h =
    record { step = h.step; past = h.past; at = Back h.step step h.past past h.at; from = h.from; to = h.to; body = h.body; message_is = h.message_is; granted = h.granted }

pub accepted_from : (history : List Taken) (x : TxnId) (a : Accepted) → accepted_of history x ≡ Some a → AcceptedIn history x a
accepted_from [] x a is = absurd (not_none a is)
accepted_from (step ∷ past) x a is =
    or_cases_of (accepted_by x step.message step.sent) (accepted_of past x) a is
    (accepted_here x a step.message step.sent past)
    (λ _ before. accepted_back step past x a (accepted_from past x a before))

-- ---- the committed record

pub record CommittedIn (history : List Taken) (x : TxnId) (a : Accepted) : Type 0 where
  pub step : Taken
  pub past : List Taken
  pub at : StandsAt step past history
  pub from : Actor
  pub to : Actor
  pub body : BodyParts
  pub message_is : step.message ≡ Commit from to x a.ballot body a.t a.deps
  pub granted : list_any is_commit_ok step.sent ≡ true

committed_here : (x : TxnId) (a : Accepted) (m : Message) (sent : List Message) (past : List Taken) → committed_by x m sent ≡ Some a
    → CommittedIn (record { message = m; sent = sent } ∷ past) x a
committed_here x a (Commit from to id ballot body t deps) sent past =
    cond_both (id_eq id x && list_any is_commit_ok sent) (Some (record { ballot = ballot; t = t; deps = deps })) None
    (λ o. o ≡ Some a → CommittedIn (record { message = Commit from to id ballot body t deps; sent = sent } ∷ past) x a)
    (λ both is.
    let parts = and_parts (id_eq id x) (list_any is_commit_ok sent) both in
    let same = some_is (record { ballot = ballot; t = t; deps = deps }) a is in
    record {
      step = record { message = Commit from to id ballot body t deps; sent = sent };
      past = past;
      at = Here (record { message = Commit from to id ballot body t deps; sent = sent }) past;
      from = from;
      to = to;
      body = body;
      message_is =
          ap (λ y. Commit from to y ballot body t deps) ((id_order.decides id x).0 parts.0)
          ∙ ap (λ (r : Accepted). Commit from to x r.ballot body r.t r.deps) same;
      granted = parts.1;
    })
    (λ _ is. absurd (not_none a is))
committed_here x a (PreAccept from to id ballot body) sent past = λ is. absurd (not_none a is)
committed_here x a (PreAcceptOk from to id ballot vote deps) sent past = λ is. absurd (not_none a is)
committed_here x a (Accept from to id ballot body t deps) sent past = λ is. absurd (not_none a is)
committed_here x a (AcceptOk from to id ballot deps) sent past = λ is. absurd (not_none a is)
committed_here x a (CommitOk from to id ballot) sent past = λ is. absurd (not_none a is)
committed_here x a (Stable from to id ballot body t deps) sent past = λ is. absurd (not_none a is)
committed_here x a (ReadOk from to id ballot answer) sent past = λ is. absurd (not_none a is)
committed_here x a (Apply from to id ballot body t deps outcome) sent past = λ is. absurd (not_none a is)
committed_here x a (Recover from to id ballot body) sent past = λ is. absurd (not_none a is)
committed_here x a (RecoverOk from to id ballot view) sent past = λ is. absurd (not_none a is)
committed_here x a (Nack from to id ballot promised) sent past = λ is. absurd (not_none a is)
committed_here x a (Decided from to id ballot t deps) sent past = λ is. absurd (not_none a is)
committed_here x a (Inform from to id ballot outcome) sent past = λ is. absurd (not_none a is)

committed_back : (step : Taken) (past : List Taken) (x : TxnId) (a : Accepted) → CommittedIn past x a → CommittedIn (step ∷ past) x a
committed_back step past x a h =
    record { step = h.step; past = h.past; at = Back h.step step h.past past h.at; from = h.from; to = h.to; body = h.body; message_is = h.message_is; granted = h.granted }

pub committed_from : (history : List Taken) (x : TxnId) (a : Accepted) → committed_of history x ≡ Some a → CommittedIn history x a
committed_from [] x a is = absurd (not_none a is)
committed_from (step ∷ past) x a is =
    or_cases_of (committed_by x step.message step.sent) (committed_of past x) a is
    (committed_here x a step.message step.sent past)
    (λ _ before. committed_back step past x a (committed_from past x a before))

-- ---- the stable record

-- the message that settled x: a Stable or an Apply
pub data Settling (x : TxnId) (s : Settled) : Message → Type 0 where
  ByStable : (from to : Actor) (b : Ballot) (body : BodyParts) → Settling x s (Stable from to x b body s.t s.deps)
  ByApply : (from to : Actor) (b : Ballot) (body : BodyParts) (outcome : Outcome) → Settling x s (Apply from to x b body s.t s.deps outcome)

settled_here : (x : TxnId) (s : Settled) (m : Message) → settled_in x m ≡ Some s → Settling x s m
settled_here x s (Stable from to id ballot body t deps) =
    cond_both (id_eq id x) (Some (record { t = t; deps = deps })) None (λ o. o ≡ Some s → Settling x s (Stable from to id ballot body t deps))
    (λ same is.
    subst (Settling x s)
    (sym (ap (λ y. Stable from to y ballot body t deps) ((id_order.decides id x).0 same)
    ∙ ap (λ (r : Settled). Stable from to x ballot body r.t r.deps) (some_is (record { t = t; deps = deps }) s is)))
    (ByStable from to ballot body))
    (λ _ is. absurd (not_none s is))
settled_here x s (Apply from to id ballot body t deps outcome) =
    cond_both (id_eq id x) (Some (record { t = t; deps = deps })) None (λ o. o ≡ Some s → Settling x s (Apply from to id ballot body t deps outcome))
    (λ same is.
    subst (Settling x s)
    (sym (ap (λ y. Apply from to y ballot body t deps outcome) ((id_order.decides id x).0 same)
    ∙ ap (λ (r : Settled). Apply from to x ballot body r.t r.deps outcome) (some_is (record { t = t; deps = deps }) s is)))
    (ByApply from to ballot body outcome))
    (λ _ is. absurd (not_none s is))
settled_here x s (PreAccept from to id ballot body) = λ is. absurd (not_none s is)
settled_here x s (PreAcceptOk from to id ballot vote deps) = λ is. absurd (not_none s is)
settled_here x s (Accept from to id ballot body t deps) = λ is. absurd (not_none s is)
settled_here x s (AcceptOk from to id ballot deps) = λ is. absurd (not_none s is)
settled_here x s (Commit from to id ballot body t deps) = λ is. absurd (not_none s is)
settled_here x s (CommitOk from to id ballot) = λ is. absurd (not_none s is)
settled_here x s (ReadOk from to id ballot answer) = λ is. absurd (not_none s is)
settled_here x s (Recover from to id ballot body) = λ is. absurd (not_none s is)
settled_here x s (RecoverOk from to id ballot view) = λ is. absurd (not_none s is)
settled_here x s (Nack from to id ballot promised) = λ is. absurd (not_none s is)
settled_here x s (Decided from to id ballot t deps) = λ is. absurd (not_none s is)
settled_here x s (Inform from to id ballot outcome) = λ is. absurd (not_none s is)

pub record SettledIn (history : List Taken) (x : TxnId) (s : Settled) : Type 0 where
  pub step : Taken
  pub past : List Taken
  pub at : StandsAt step past history
  pub settling : Settling x s step.message

pub stable_from : (history : List Taken) (x : TxnId) (s : Settled) → stable_of history x ≡ Some s → SettledIn history x s
stable_from [] x s is = absurd (not_none s is)
stable_from (step ∷ past) x s is =
    or_cases_of (stable_of past x) (settled_in x step.message) s is
    (λ before.
    let h = stable_from past x s before in
    record { step = h.step; past = h.past; at = Back h.step step h.past past h.at; settling = h.settling })
    (λ _ now. record { step = step; past = past; at = Here step past; settling = settled_here x s step.message now })

-- ---- the vote

-- an answer with the first vote
pub record VoteSent (sent : List Message) (x : TxnId) (v : Vote) : Type 0 where
  pub message : Message
  pub there : IsIn message sent
  pub votes : vote_in x message ≡ Some v

pub first_vote_sent : (sent : List Message) (x : TxnId) (v : Vote) → first_vote x sent ≡ Some v → VoteSent sent x v
first_vote_sent [] x v is = absurd (not_none v is)
first_vote_sent (m ∷ ms) x v is =
    or_cases_of (vote_in x m) (first_vote x ms) v is
    (λ here. record { message = m; there = First m ms; votes = here })
    (λ _ rest. let h = first_vote_sent ms x v rest in record { message = h.message; there = Later h.message m ms h.there; votes = h.votes })

vote_same : (id x : TxnId) (w v : Vote) → cond (id_eq id x) (Some w) None ≡ Some v → (id ≡ x) × (w ≡ v)
vote_same id x w v =
    cond_both (id_eq id x) (Some w) None (λ o. o ≡ Some v → (id ≡ x) × (w ≡ v))
    (λ same is. ((id_order.decides id x).0 same, some_is w v is)) (λ _ is. absurd (not_none v is))

-- a vote that is made where there is none before is a new one
new_where_none : (layout : Layout) (own : Actor) (past now : List Taken) (x : TxnId) (body : BodyParts) → vote_of past x ≡ None
    → vote_for layout own past now x body ≡ new_vote layout own now x body
new_where_none layout own past now x body none = ap (λ o. vote_given o (new_vote layout own now x body)) none

made_by : (layout : Layout) (own : Actor) (past : List Taken) (taken m : Message) (sent : List Message) (x : TxnId) (v : Vote)
    → StoreSends layout own past taken m → vote_in x m ≡ Some v → vote_of past x ≡ None
    → VoteMade layout own (record { message = taken; sent = sent } ∷ past) x v
made_by layout own past taken m sent x v (Votes from to id b body counting w s p k e) is none =
    let same = vote_same id x w v is in
    record {
      step = record { message = PreAccept from to id b body; sent = sent };
      past = past;
      at = Here (record { message = PreAccept from to id b body; sent = sent }) past;
      unvoted = none;
      about = same.0;
      body = counting;
      body_is = ap (body_known (taking (PreAccept from to id b body) past)) (sym same.0) ∙ k;
      made =
          sym same.1 ∙ e ∙ ap (λ y. vote_for layout own past (taking (PreAccept from to id b body) past) y counting) same.0
          ∙ new_where_none layout own past (taking (PreAccept from to id b body) past) x counting none;
    }
made_by layout own past taken m sent x v (Reveals from to id b body counting view p k e) is none =
    let same = vote_same id x (record { vote = view.vote; deps = view.vote_deps }) v is in
    record {
      step = record { message = Recover from to id b body; sent = sent };
      past = past;
      at = Here (record { message = Recover from to id b body; sent = sent }) past;
      unvoted = none;
      about = same.0;
      body = counting;
      body_is = ap (body_known (taking (Recover from to id b body) past)) (sym same.0) ∙ k;
      made =
          sym same.1 ∙ ap (λ (w : View). record { vote = w.vote; deps = w.vote_deps }) e
          ∙ ap (λ y. vote_for layout own past (taking (Recover from to id b body) past) y counting) same.0
          ∙ new_where_none layout own past (taking (Recover from to id b body) past) x counting none;
    }
made_by layout own past taken m sent x v (Accepts from to id b body counting t proposed deps s p k e) is none = absurd (not_none v is)
made_by layout own past taken m sent x v (Commits from to id b body t deps s p) is none = absurd (not_none v is)
made_by layout own past taken m sent x v (ReadsAtOnce from to id b body t deps answer p e) is none = absurd (not_none v is)
made_by layout own past taken m sent x v (ReadsOnOpening n c b answer before among opens there e) is none = absurd (not_none v is)
made_by layout own past taken m sent x v (Refuses n promised e) is none = absurd (not_none v is)
made_by layout own past taken m sent x v (Tells n s e) is none = absurd (not_none v is)

vote_back : (layout : Layout) (own : Actor) (step : Taken) (past : List Taken) (x : TxnId) (v : Vote) → VoteMade layout own past x v → VoteMade layout own (step ∷ past) x v
vote_back layout own step past x v h =
    record { step = h.step; past = h.past; at = Back h.step step h.past past h.at; unvoted = h.unvoted; about = h.about; body = h.body; body_is = h.body_is; made = h.made }

-- every vote was made in some step
pub votes_are_made : (layout : Layout) (own : Actor) (history : List Taken) → EachAnswers layout own history → (x : TxnId) (v : Vote)
    → vote_of history x ≡ Some v → VoteMade layout own history x v
votes_are_made layout own [] h x v is = absurd (not_none v is)
votes_are_made layout own (step ∷ past) h x v is =
    or_cases_of (vote_of past x) (first_vote x step.sent) v is
    (λ before. vote_back layout own step past x v (votes_are_made layout own past h.1 x v before))
    (λ none now.
    let s = first_vote_sent step.sent x v now in
    made_by layout own past step.message s.message step.sent x v
    (store_sends layout own past step.message s.message (subst (IsIn s.message) h.0 s.there)) s.votes none)
