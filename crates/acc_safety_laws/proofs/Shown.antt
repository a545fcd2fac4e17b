-- What a store accepted or committed is in each later view: of the two kinds of record there is one proof.
use Rattle.std.proofs.Common.{◌≡◌, Bool, true, false, ◌&&◌, cond, List, [], ◌∷◌, Option, None, Some, refl, sym, ◌∙◌, ap, subst}
use Rattle.std.specs.List.{list_any}
use Rattle.std.proofs.lemmas.Bool.{true≢false, and_from, cond_both}
use Rattle.acc_base.specs.Faults.{or_else}
use Rattle.acc_stamp.specs.declared.stamps.TxnId.{TxnId}
use Rattle.acc_stamp.specs.declared.stamps.Ballot.{Ballot}
use Rattle.acc_stamp.specs.declared.actors.Actor.{Actor}
use Rattle.acc_stamp.specs.Stamp.{id_eq, ballot_lt, zero_ballot}
use Rattle.acc_stamp.proofs.Order.{id_order, ballot_order, eq_itself, le-trans, lt-le-trans, le-lt-trans}
use Rattle.acc_topology.specs.Layout.{Layout}
use Rattle.acc_deps.specs.declared.records.Accepted.{Accepted}
use Rattle.acc_deps.specs.declared.records.Settled.{Settled}
use Rattle.acc_deps.specs.declared.records.View.{View}
use Rattle.acc_deps.specs.declared.shards.ShardDeps.{ShardDeps}
use Rattle.acc_txn.specs.declared.parts.BodyParts.{BodyParts}
use Rattle.acc_message.specs.declared.message.Message.{Message}
use Rattle.acc_message.specs.declared.message.Message.TheVariants.{Accept, AcceptOk, Commit, CommitOk, Recover, RecoverOk}
use Rattle.acc_message.specs.Fields.{ballot_of}
use Rattle.acc_message.specs.Taken.{Taken}
use Rattle.acc_message.specs.BallotRules.{greater_ballot, is_accept_ok, is_commit_ok, is_recover_ok, grants, promise_of, accepted_by, accepted_of, committed_by, committed_of, settled_in, stable_of}
use Rattle.acc_actor_laws.proofs.Standing.{not_none}
use Rattle.acc_actor_laws.proofs.OpeningFacts.{some_is}
use Rattle.acc_actor_laws.proofs.StoreFacts.{promise_of-kept, granted_above}
use Rattle.acc_safety.specs.Places.{IsIn, StandsAt, IsPast, Whole, Behind, InOrder, IsOlder, IsSame, IsNewer}
use Rattle.acc_safety.specs.Histories.{EachAnswers}
use Rattle.acc_safety.specs.StoreFactStatements.{HasBetween}
use Rattle.acc_safety.proofs.PlaceOrder.{in_order, any_from, StandsAt-IsPast}
use Rattle.acc_safety_laws.proofs.Knowing.{step_answers, step_sends}
use Rattle.acc_safety_laws.proofs.Sent.{SentAcceptOk, sent_accept_ok, SentCommitOk, sent_commit_ok, SentView, sent_view}

-- ---- promises

pub promise_of-past : (x : TxnId) (past history : List Taken) → IsPast past history → ballot_lt (promise_of history x) (promise_of past x) ≡ false
promise_of-past x past history (Whole xs) = ballot_order.irrefl (promise_of xs x)
promise_of-past x past history (Behind step xs ys there) =
    le-trans ballot_order (promise_of xs x) (promise_of ys x) (promise_of (step ∷ ys) x) (promise_of-past x xs ys there) (promise_of-kept step ys x)

-- the greater ballot isn't below the second
greater_ballot-second : (a b : Ballot) → ballot_lt (greater_ballot a b) b ≡ false
greater_ballot-second a b =
    cond_both (ballot_lt a b) b a (λ z. ballot_lt z b ≡ false) (λ above. ballot_order.irrefl b) (λ below. below)

-- what a step grants isn't above the promise after it
pub granted_promised : (step : Taken) (past : List Taken) (x : TxnId) → grants x step.message step.sent ≡ true
    → ballot_lt (promise_of (step ∷ past) x) (ballot_of step.message) ≡ false
granted_promised step past x granted =
    ap (λ b. ballot_lt (greater_ballot (promise_of past x) (cond b (ballot_of step.message) zero_ballot)) (ballot_of step.message)) granted
    ∙ greater_ballot-second (promise_of past x) (ballot_of step.message)

-- ---- stable records

-- a stable record stays
pub stable_of-past : (x : TxnId) (s : Settled) (past history : List Taken) → stable_of past x ≡ Some s → IsPast past history → stable_of history x ≡ Some s
stable_of-past x s past history e (Whole xs) = e
stable_of-past x s past history e (Behind step xs ys there) = ap (λ o. or_else o (settled_in x step.message)) (stable_of-past x s xs ys e there)

-- ---- records of one kind

-- what the latest granted message of a kind says, where its ballot is granted
pub record IsKind (by : TxnId → Message → List Message → Option Accepted) (of : List Taken → TxnId → Option Accepted) : Type 0 where
  pub first : (x : TxnId) → of [] x ≡ None
  pub next : (step : Taken) (past : List Taken) (x : TxnId) → of (step ∷ past) x ≡ or_else (by x step.message step.sent) (of past x)
  pub granted : (x : TxnId) (m : Message) (sent : List Message) (a : Accepted) → by x m sent ≡ Some a
      → (grants x m sent ≡ true) × (a.ballot ≡ ballot_of m)

kept_if : (b : Bool) (a found : Accepted) → cond b (Some a) None ≡ Some found → (b ≡ true) × (found ≡ a)
kept_if true a found e = (refl, some_is found a (sym e))
kept_if false a found e = absurd (not_none found e)

kept_granted : (x id : TxnId) (sent : List Message) (test : Message → Bool) (a found : Accepted) (b : Ballot) → a.ballot ≡ b
    → cond (id_eq id x && list_any test sent) (Some a) None ≡ Some found
    → ((id_eq id x && list_any test sent) ≡ true) × (found.ballot ≡ b)
kept_granted x id sent test a found b is e =
    let k = kept_if (id_eq id x && list_any test sent) a found e in
    (k.0, ap (λ (z : Accepted). z.ballot) k.1 ∙ is)

accepted_granted : (x : TxnId) (m : Message) (sent : List Message) (a : Accepted) → accepted_by x m sent ≡ Some a
    → (grants x m sent ≡ true) × (a.ballot ≡ ballot_of m)
accepted_granted x (Accept from to id ballot body t deps) sent a e =
    kept_granted x id sent is_accept_ok (record { ballot = ballot; t = t; deps = deps }) a ballot refl e
accepted_granted x _ sent a e = absurd (not_none a e)

committed_granted : (x : TxnId) (m : Message) (sent : List Message) (a : Accepted) → committed_by x m sent ≡ Some a
    → (grants x m sent ≡ true) × (a.ballot ≡ ballot_of m)
committed_granted x (Commit from to id ballot body t deps) sent a e =
    kept_granted x id sent is_commit_ok (record { ballot = ballot; t = t; deps = deps }) a ballot refl e
committed_granted x _ sent a e = absurd (not_none a e)

pub accepted_kind : IsKind accepted_by accepted_of
accepted_kind = record { first = λ x. refl; next = λ step past x. refl; granted = accepted_granted }

pub committed_kind : IsKind committed_by committed_of
committed_kind = record { first = λ x. refl; next = λ step past x. refl; granted = committed_granted }

-- a record with a ballot from b on
pub record HasFrom (record_of : Option Accepted) (b : Ballot) : Type 0 where
  pub found : Accepted
  pub found_is : record_of ≡ Some found
  pub from_b : ballot_lt found.ballot b ≡ false

module _ (by : TxnId → Message → List Message → Option Accepted) (of : List Taken → TxnId → Option Accepted) (kind : IsKind by of) (layout : Layout) (own : Actor) where
  -- where the record of a step comes from
  pub data RecordIs (step : Taken) (past : List Taken) (x : TxnId) (a : Accepted) : Type 0 where
    Stays : of past x ≡ Some a → RecordIs step past x a
    Granted : grants x step.message step.sent ≡ true → a.ballot ≡ ballot_of step.message → RecordIs step past x a

  record_by : (step : Taken) (past : List Taken) (x : TxnId) (a : Accepted) (o : Option Accepted) → by x step.message step.sent ≡ o
      → or_else o (of past x) ≡ Some a → RecordIs step past x a
  record_by step past x a None is e = Stays e
  record_by step past x a (Some new) is e =
      let g = kind.granted x step.message step.sent a (is ∙ e) in
      Granted g.0 g.1

  pub record_is : (step : Taken) (past : List Taken) (x : TxnId) (a : Accepted) → of (step ∷ past) x ≡ Some a → RecordIs step past x a
  record_is step past x a e = record_by step past x a (by x step.message step.sent) refl (sym (kind.next step past x) ∙ e)

  -- a record has no ballot above the promise
  pub record_promised : (x : TxnId) (a : Accepted) (history : List Taken) → of history x ≡ Some a → ballot_lt (promise_of history x) a.ballot ≡ false
  record_promised x a [] e = absurd (not_none a (sym (kind.first x) ∙ e))
  record_promised x a (step ∷ past) e = promised (record_is step past x a e) (record_promised x a past)
    where
      promised : RecordIs step past x a → (of past x ≡ Some a → ballot_lt (promise_of past x) a.ballot ≡ false)
          → ballot_lt (promise_of (step ∷ past) x) a.ballot ≡ false
      promised (Stays was) rest =
          le-trans ballot_order a.ballot (promise_of past x) (promise_of (step ∷ past) x) (rest was) (promise_of-kept step past x)
      promised (Granted granted is) rest = ap (ballot_lt (promise_of (step ∷ past) x)) is ∙ granted_promised step past x granted

  -- once there is one from b on, there is
  from_by : (step : Taken) (past : List Taken) (x : TxnId) (b : Ballot) (o : Option Accepted) → EachAnswers layout own (step ∷ past)
      → by x step.message step.sent ≡ o → HasFrom (of past x) b → HasFrom (or_else o (of past x)) b
  from_by step past x b None each is h = h
  from_by step past x b (Some new) each is h =
      let g = kind.granted x step.message step.sent new is in
      let above : ballot_lt (ballot_of step.message) (promise_of past x) ≡ false =
      granted_above layout own past step.message x (subst (λ sent. grants x step.message sent ≡ true) each.0 g.0) in
      record {
        found = new;
        found_is = refl;
        from_b =
            ap (λ z. ballot_lt z b) g.1
            ∙ le-trans ballot_order b (promise_of past x) (ballot_of step.message)
            (le-trans ballot_order b h.found.ballot (promise_of past x) h.from_b (record_promised x h.found past h.found_is))
            above;
      }

  from_stays : (step : Taken) (past : List Taken) (x : TxnId) (b : Ballot) → EachAnswers layout own (step ∷ past)
      → HasFrom (of past x) b → HasFrom (of (step ∷ past) x) b
  from_stays step past x b each h =
      subst (λ o. HasFrom o b) (sym (kind.next step past x)) (from_by step past x b (by x step.message step.sent) each refl h)

  pub from_past : (x : TxnId) (b : Ballot) (past history : List Taken) → EachAnswers layout own history → HasFrom (of past x) b → IsPast past history
      → HasFrom (of history x) b
  from_past x b past history each h (Whole xs) = h
  from_past x b past history each h (Behind step xs ys there) = from_stays step ys x b each (from_past x b xs ys each.1 h there)

  -- a view that is revealed after the record was kept shows one between
  pub shown_later : (step late : Taken) (past before history : List Taken) (x : TxnId) (b above : Ballot) → EachAnswers layout own history
      → StandsAt step past before → StandsAt late before history → HasFrom (of (step ∷ past) x) b
      → ballot_lt (promise_of before x) above ≡ true → HasBetween (of before x) b above
  shown_later step late past before history x b above each older at kept allowed =
      record {
        found = now.found;
        found_is = now.found_is;
        from_b = now.from_b;
        below = le-lt-trans ballot_order now.found.ballot (promise_of before x) above (record_promised x now.found before now.found_is) allowed;
      }
    where
      now : HasFrom (of before x) b
      now = from_past x b (step ∷ past) before (step_answers layout own late before history each at).1 kept (StandsAt-IsPast step past before older)

-- ---- both kinds

view_granted : (f g from to : Actor) (x : TxnId) (above : Ballot) (body : BodyParts) (view : View) (late : Taken)
    → late.message ≡ Recover from to x above body → IsIn (RecoverOk f g x above view) late.sent
    → (grants x late.message late.sent ≡ true) × (ballot_of late.message ≡ above)
view_granted f g from to x above body view late is sent = (
  ap (λ m. grants x m late.sent) is
      ∙ and_from (id_eq x x) (list_any is_recover_ok late.sent) (eq_itself id_order x) (any_from is_recover_ok (RecoverOk f g x above view) late.sent sent refl),
  ap ballot_of is,
)

-- a message of a smaller ballot isn't allowed after a view
not_behind : (layout : Layout) (own : Actor) (late : Taken) (past before : List Taken) (f g : Actor) (x : TxnId) (b above : Ballot) (view : View)
    → EachAnswers layout own past → StandsAt late before past → IsIn (RecoverOk f g x above view) late.sent
    → ballot_lt b above ≡ true → ballot_lt b (promise_of past x) ≡ false → ⊥
not_behind layout own late past before f g x b above view each at sent smaller allowed =
    true≢false (sym (lt-le-trans ballot_order b above (promise_of past x) smaller promised) ∙ allowed)
  where
    s : SentView layout own before late.message x above view
    s = sent_view layout own before late.message f g x above view (step_sends layout own late before (RecoverOk f g x above view) (step_answers layout own late before past each at) sent)

    granted : (grants x late.message late.sent ≡ true) × (ballot_of late.message ≡ above)
    granted = view_granted f g s.from s.to x above s.body view late s.message_is sent

    promised : ballot_lt (promise_of past x) above ≡ false
    promised =
        le-trans ballot_order above (promise_of (late ∷ before) x) (promise_of past x)
        (ap (ballot_lt (promise_of (late ∷ before) x)) (sym granted.1) ∙ granted_promised late before x granted.0)
        (promise_of-past x (late ∷ before) past (StandsAt-IsPast late before past at))

module _ (layout : Layout) (own : Actor) where
  pub accepted_now : (step : Taken) (past : List Taken) (f g : Actor) (x : TxnId) (b : Ballot) (deps : List ShardDeps)
      → SentAcceptOk layout own past step.message x b deps → IsIn (AcceptOk f g x b deps) step.sent → HasFrom (accepted_of (step ∷ past) x) b
  accepted_now step past f g x b deps s sent =
      let granted : (id_eq x x && list_any is_accept_ok step.sent) ≡ true =
      and_from (id_eq x x) (list_any is_accept_ok step.sent) (eq_itself id_order x) (any_from is_accept_ok (AcceptOk f g x b deps) step.sent sent refl) in
      record {
        found = record { ballot = b; t = s.t; deps = s.proposed };
        found_is =
            ap (λ m. or_else (accepted_by x m step.sent) (accepted_of past x)) s.message_is
            ∙ ap (λ c. or_else (cond c (Some (record { ballot = b; t = s.t; deps = s.proposed })) None) (accepted_of past x)) granted;
        from_b = ballot_order.irrefl b;
      }

  pub committed_now : (step : Taken) (past : List Taken) (f g : Actor) (x : TxnId) (b : Ballot)
      → SentCommitOk past step.message x b → IsIn (CommitOk f g x b) step.sent → HasFrom (committed_of (step ∷ past) x) b
  committed_now step past f g x b s sent =
      let granted : (id_eq x x && list_any is_commit_ok step.sent) ≡ true =
      and_from (id_eq x x) (list_any is_commit_ok step.sent) (eq_itself id_order x) (any_from is_commit_ok (CommitOk f g x b) step.sent sent refl) in
      record {
        found = record { ballot = b; t = s.t; deps = s.deps };
        found_is =
            ap (λ m. or_else (committed_by x m step.sent) (committed_of past x)) s.message_is
            ∙ ap (λ c. or_else (cond c (Some (record { ballot = b; t = s.t; deps = s.deps })) None) (committed_of past x)) granted;
        from_b = ballot_order.irrefl b;
      }

  pub accepted_is_seen : (step late : Taken) (past before history : List Taken) (f g h k : Actor) (x : TxnId) (b above : Ballot) (deps : List ShardDeps) (view : View)
      → EachAnswers layout own history → StandsAt step past history → IsIn (AcceptOk f g x b deps) step.sent
      → StandsAt late before history → IsIn (RecoverOk h k x above view) late.sent → ballot_lt b above ≡ true
      → HasBetween view.accepted b above
  accepted_is_seen step late past before history f g h k x b above deps view each at sent seen shown smaller =
      by (in_order step late past before history at seen)
    where
      s : SentAcceptOk layout own past step.message x b deps
      s = sent_accept_ok layout own past step.message f g x b deps (step_sends layout own step past (AcceptOk f g x b deps) (step_answers layout own step past history each at) sent)

      v : SentView layout own before late.message x above view
      v = sent_view layout own before late.message h k x above view (step_sends layout own late before (RecoverOk h k x above view) (step_answers layout own late before history each seen) shown)

      apart : Accept s.from s.to x b s.body s.t s.proposed ≡ Recover v.from v.to x above v.body → ⊥
      apart e = cc

      by : InOrder step late past before → HasBetween view.accepted b above
      by (IsOlder older) =
          subst (λ o. HasBetween o b above) (sym (ap (λ (w : View). w.accepted) v.view_is))
          (shown_later accepted_by accepted_of accepted_kind layout own step late past before history x b above each older seen
          (accepted_now step past f g x b deps s sent) v.allowed)
      by (IsSame same rest) = absurd (apart (sym s.message_is ∙ ap (λ (d : Taken). d.message) same ∙ v.message_is))
      by (IsNewer newer) =
          absurd (not_behind layout own late past before h k x b above view (step_answers layout own step past history each at).1 newer shown smaller s.allowed)

  pub committed_is_seen : (step late : Taken) (past before history : List Taken) (f g h k : Actor) (x : TxnId) (b above : Ballot) (view : View)
      → EachAnswers layout own history → StandsAt step past history → IsIn (CommitOk f g x b) step.sent
      → StandsAt late before history → IsIn (RecoverOk h k x above view) late.sent → ballot_lt b above ≡ true
      → HasBetween view.committed b above
  committed_is_seen step late past before history f g h k x b above view each at sent seen shown smaller =
      by (in_order step late past before history at seen)
    where
      s : SentCommitOk past step.message x b
      s = sent_commit_ok layout own past step.message f g x b (step_sends layout own step past (CommitOk f g x b) (step_answers layout own step past history each at) sent)

      v : SentView layout own before late.message x above view
      v = sent_view layout own before late.message h k x above view (step_sends layout own late before (RecoverOk h k x above view) (step_answers layout own late before history each seen) shown)

      apart : Commit s.from s.to x b s.body s.t s.deps ≡ Recover v.from v.to x above v.body → ⊥
      apart e = cc

      by : InOrder step late past before → HasBetween view.committed b above
      by (IsOlder older) =
          subst (λ o. HasBetween o b above) (sym (ap (λ (w : View). w.committed) v.view_is))
          (shown_later committed_by committed_of committed_kind layout own step late past before history x b above each older seen
          (committed_now step past f g x b s sent) v.allowed)
      by (IsSame same rest) = absurd (apart (sym s.message_is ∙ ap (λ (d : Taken). d.message) same ∙ v.message_is))
      by (IsNewer newer) =
          absurd (not_behind layout own late past before h k x b above view (step_answers layout own step past history each at).1 newer shown smaller s.allowed)
