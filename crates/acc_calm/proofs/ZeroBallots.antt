-- In a calm run every ballot is zero: no other is drawn. So no promise is above zero, and nothing is refused.
use Rattle.std.proofs.Common.{◌≡◌, ℕ, ◌%◌, ◌+◌, ◌*◌, Bool, true, false, cond, if◌then◌else◌, List, [], ◌∷◌, Some, refl, sym, ◌∙◌, ap, subst, arith, ◌⊎◌, inl, inr, ⊎_elim}
use Rattle.std.proofs.lemmas.Bool.{true≢false, cond_both, eq-eqb}
use Rattle.acc_stamp.specs.declared.stamps.TxnId.{TxnId}
use Rattle.acc_stamp.specs.declared.stamps.Ballot.{Ballot}
use Rattle.acc_stamp.specs.declared.actors.Actor.{Actor}
use Rattle.acc_stamp.specs.Actor.{actor_of, node_of, node_of_stamp, home_of}
use Rattle.acc_stamp.specs.Stamp.{id_eq, ballot_lt, ballot_eq, zero_ballot}
use Rattle.acc_stamp.specs.Rising.{rising_with}
use Rattle.acc_stamp.specs.declared.stamps.Stamp.{Stamp}
use Rattle.acc_stamp.proofs.Order.{id_order}
use Rattle.acc_deps.specs.declared.shards.ShardDeps.{ShardDeps}
use Rattle.acc_txn.specs.declared.parts.BodyParts.{BodyParts}
use Rattle.acc_topology.specs.Layout.{Layout}
use Rattle.acc_message.specs.declared.message.Message.{Message}
use Rattle.acc_message.specs.declared.message.Message.TheVariants.{PreAccept, PreAcceptOk, Accept, AcceptOk, Commit, CommitOk, Stable, ReadOk, Apply, Recover, RecoverOk, Nack, Decided, Inform}
use Rattle.acc_message.specs.declared.item.Item.{Item}
use Rattle.acc_message.specs.declared.item.Item.TheVariants.{Step}
use Rattle.acc_message.specs.Fields.{from_of, id_of, ballot_of}
use Rattle.acc_message.specs.Taken.{Taken, taking}
use Rattle.acc_message.specs.BallotRules.{greater_ballot, promise_of, grants, granted_by}
use Rattle.acc_message.specs.Attempts.{Attempt}
use Rattle.acc_message.specs.StoreRules.{store_answer, stable_ballots_in, stable_ballots}
use Rattle.acc_message.specs.NodeRules.{Act, Deed, attempt_of}
use Rattle.acc_message.specs.Run.{Cluster, clock_start, deeds_of, taken_of, is_node, EachStands}
use Rattle.acc_safety.specs.Calm.{IsCalm}
use Rattle.acc_safety.specs.Places.{IsIn, First, Later, StandsAt, Here, Back, IsPast}
use Rattle.acc_safety.specs.Histories.{Sending, FromStore, FromNode, Sender, IsStore, IsNode}
use Rattle.acc_safety.specs.StoreSends.{StoreSends, Votes, Accepts, Commits, Reveals, ReadsAtOnce, ReadsOnOpening, Refuses, Tells}
use Rattle.acc_safety.specs.NodeMoves.{Move, Reacts, NodeSends, AsksForVotes, AsksForViews, Proposes, Commits as CommitsTo, Decides, Finishes, Informs}
use Rattle.acc_safety.specs.Attempted.{Origin, FromBegin, FromRecover}
use Rattle.acc_safety.proofs.PlaceOrder.{none_is_in, only, IsIn-cases, StandsAt-whole, StandsAt-IsPast, IsPast-rest}
use Rattle.acc_safety.proofs.Bridge.{store_step, each_answers, answers_at, sender, Sending-past}
use Rattle.acc_safety.proofs.Frame.{store_sent, node_sent, before_reacts, past_of}
use Rattle.acc_safety.proofs.Attempted.{origin_of}
use Rattle.acc_calm.proofs.Delivered.{IsCalmAct, acts_are_calm}

-- ---- requests

-- what a node asks of a store
abbrev pub is_request : Message → Bool
is_request (PreAccept from to id ballot body) = true
is_request (Accept from to id ballot body t deps) = true
is_request (Commit from to id ballot body t deps) = true
is_request (Stable from to id ballot body t deps) = true
is_request (Apply from to id ballot body t deps outcome) = true
is_request (Recover from to id ballot body) = true
is_request _ = false

-- a store asks nothing
pub store_asks_nothing : (layout : Layout) (own : Actor) (past : List Taken) (taken m : Message) → StoreSends layout own past taken m → is_request m ≡ false
store_asks_nothing layout own past taken m (Votes from to x b body counting v s p k e) = refl
store_asks_nothing layout own past taken m (Accepts from to x b body counting t proposed deps s p k e) = refl
store_asks_nothing layout own past taken m (Commits from to x b body t deps s p) = refl
store_asks_nothing layout own past taken m (Reveals from to x b body counting view p k e) = refl
store_asks_nothing layout own past taken m (ReadsAtOnce from to x b body t deps answer p e) = refl
store_asks_nothing layout own past taken m (ReadsOnOpening n c b answer before among opens there e) = refl
store_asks_nothing layout own past taken m (Refuses n promised e) = refl
store_asks_nothing layout own past taken m (Tells n s e) = refl

-- a store answers requests alone
pub answers_requests : (layout : Layout) (own : Actor) (past : List Taken) (m s : Message) → IsIn s (store_answer layout own past m) → is_request m ≡ true
answers_requests layout own past (PreAccept from to id ballot body) s h = refl
answers_requests layout own past (Accept from to id ballot body t deps) s h = refl
answers_requests layout own past (Commit from to id ballot body t deps) s h = refl
answers_requests layout own past (Stable from to id ballot body t deps) s h = refl
answers_requests layout own past (Apply from to id ballot body t deps outcome) s h = refl
answers_requests layout own past (Recover from to id ballot body) s h = refl
answers_requests layout own past (PreAcceptOk from to id ballot vote deps) s h = absurd (none_is_in s h)
answers_requests layout own past (AcceptOk from to id ballot deps) s h = absurd (none_is_in s h)
answers_requests layout own past (CommitOk from to id ballot) s h = absurd (none_is_in s h)
answers_requests layout own past (ReadOk from to id ballot answer) s h = absurd (none_is_in s h)
answers_requests layout own past (RecoverOk from to id ballot view) s h = absurd (none_is_in s h)
answers_requests layout own past (Nack from to id ballot promised) s h = absurd (none_is_in s h)
answers_requests layout own past (Decided from to id ballot t deps) s h = absurd (none_is_in s h)
answers_requests layout own past (Inform from to id ballot outcome) s h = absurd (none_is_in s h)

grants_request : (x : TxnId) (m : Message) (sent : List Message) → grants x m sent ≡ true → is_request m ≡ true
grants_request x (Accept from to id ballot body t deps) sent h = refl
grants_request x (Commit from to id ballot body t deps) sent h = refl
grants_request x (Recover from to id ballot body) sent h = refl
grants_request x m sent h = absurd (true≢false (sym h))

-- ---- the Stable after a ballot that waits

pub record AskedWith (x : TxnId) (b : Ballot) (history : List Taken) : Type 0 where
  pub step : Taken
  pub past : List Taken
  pub at : StandsAt step past history
  pub from : Actor
  pub to : Actor
  pub body : BodyParts
  pub t : Stamp
  pub deps : List ShardDeps
  pub message_is : step.message ≡ Stable from to x b body t deps

asked_back : (x : TxnId) (b : Ballot) (step : Taken) (past : List Taken) → AskedWith x b past → AskedWith x b (step ∷ past)
asked_back x b step past a =
    record { step = a.step; past = a.past; at = Back a.step step a.past past a.at; from = a.from; to = a.to; body = a.body; t = a.t; deps = a.deps; message_is = a.message_is }

with_cases : (b c : Ballot) (bs : List Ballot) → IsIn b (rising_with ballot_lt c bs) → (b ≡ c) ⊎ IsIn b bs
with_cases b c [] = λ h. inl (only b c h)
with_cases b c (d ∷ bs) =
    cond_both (ballot_lt c d) (c ∷ d ∷ bs) (cond (ballot_lt d c) (d ∷ rising_with ballot_lt c bs) (d ∷ bs)) (λ list. IsIn b list → (b ≡ c) ⊎ IsIn b (d ∷ bs))
    (λ _ h. IsIn-cases b c (d ∷ bs) h)
    (λ _. cond_both (ballot_lt d c) (d ∷ rising_with ballot_lt c bs) (d ∷ bs) (λ list. IsIn b list → (b ≡ c) ⊎ IsIn b (d ∷ bs))
    (λ _ h. ⊎_elim (λ is. inr (subst (λ e. IsIn e (d ∷ bs)) (sym is) (First d bs)))
    (λ rest. ⊎_elim inl (λ there. inr (Later b d bs there)) (with_cases b c bs rest)) (IsIn-cases b d (rising_with ballot_lt c bs) h))
    (λ _ h. inr h))

asked_now : (x : TxnId) (b : Ballot) (m : Message) (ballots : List Ballot) → IsIn b (stable_ballots_in x m ballots)
    → IsIn b ballots ⊎ ((from : Actor) × (to : Actor) × (body : BodyParts) × (t : Stamp) × (deps : List ShardDeps) × (m ≡ Stable from to x b body t deps))
asked_now x b (Stable from to id ballot body t deps) ballots =
    cond_both (id_eq id x) (rising_with ballot_lt ballot ballots) ballots
    (λ list. IsIn b list → IsIn b ballots ⊎ ((f : Actor) × (g : Actor) × (k : BodyParts) × (s : Stamp) × (more : List ShardDeps) × (Stable from to id ballot body t deps ≡ Stable f g x b k s more)))
    (λ same there.
    ⊎_elim
    (λ is. inr (from, to, body, t, deps, ap (λ y. Stable from to y ballot body t deps) ((id_order.decides id x).0 same) ∙ ap (λ c. Stable from to x c body t deps) (sym is)))
    inl (with_cases b ballot ballots there))
    (λ _ there. inl there)
asked_now x b m ballots = λ there. inl there

pub asked_with : (x : TxnId) (b : Ballot) (history : List Taken) → IsIn b (stable_ballots history x) → AskedWith x b history
asked_with x b [] h = absurd (none_is_in b h)
asked_with x b (step ∷ past) h =
    ⊎_elim (λ old. asked_back x b step past (asked_with x b past old))
    (λ now. record { step = step; past = past; at = Here step past; from = now.0; to = now.1; body = now.2; t = now.3; deps = now.4; message_is = now.5 })
    (asked_now x b step.message (stable_ballots past x) h)

-- the Stable after an opening: the step that takes it, or an older one
same_asked : (x : TxnId) (b : Ballot) (step : Taken) (past : List Taken) → AskedWith x b (taking step.message past) → AskedWith x b (step ∷ past)
same_asked x b step past k = by k.step k.past k.at k.message_is
  where
    by : (s : Taken) (before : List Taken) → StandsAt s before (taking step.message past) → s.message ≡ Stable k.from k.to x b k.body k.t k.deps → AskedWith x b (step ∷ past)
    by s before (Here d rest) is = record { step = step; past = past; at = Here step past; from = k.from; to = k.to; body = k.body; t = k.t; deps = k.deps; message_is = is }
    by s before (Back d e rest others there) is = record { step = s; past = before; at = Back s step before past there; from = k.from; to = k.to; body = k.body; t = k.t; deps = k.deps; message_is = is }

pub opening_asked : (x : TxnId) (b : Ballot) (step : Taken) (past : List Taken) → IsIn b (stable_ballots (taking step.message past) x) → AskedWith x b (step ∷ past)
opening_asked x b step past there = same_asked x b step past (asked_with x b (taking step.message past) there)

module _ (cluster : Cluster) (items : List Item) (h : EachStands cluster items) where
  -- what a store took in a step was sent
  pub step_sending : (a : Actor) (step : Taken) (past : List Taken) → StandsAt step past (taken_of cluster a items) → Sending items step.message
  step_sending a step past at =
      let s = store_step cluster a items h step past at in
      Sending-past s.earlier items step.message (past_of (Step s.entry) s.earlier items s.at) s.sending

-- ---- a calm run

node_of_home : (k : ℕ) → is_node (actor_of k 0) ≡ true
node_of_home k = eq-eqb ((k * 64 + 0) % 64) 0 (omega arith)

pub home_is_node : (x : TxnId) (b : Ballot) → is_node (home_of x b) ≡ true
home_is_node x b = node_of_home (if ballot_eq b zero_ballot then node_of_stamp x.0 else node_of_stamp b.0)

module _ (cluster : Cluster) (items : List Item) (h : EachStands cluster items) (calm : IsCalm items) where
  origin_zero : (a : Actor) (past : List Deed) (x : TxnId) (at : Attempt) → IsPast past (deeds_of cluster a items)
      → Origin cluster.layout (node_of a) (clock_start cluster.starts (node_of a)) x past at → at.ballot ≡ zero_ballot
  origin_zero a past x at within (FromBegin txn deed before there act_is drawn of_zero) = of_zero
  origin_zero a past x at within (FromRecover deed before there act_is drawn) =
      absurd (subst IsCalmAct act_is (acts_are_calm cluster items h calm a deed before (StandsAt-whole deed before past (deeds_of cluster a items) there within)))

  pub attempt_zero : (a : Actor) (past : List Deed) (x : TxnId) (at : Attempt) → IsPast past (deeds_of cluster a items)
      → attempt_of cluster.layout (node_of a) (clock_start cluster.starts (node_of a)) x past ≡ Some at → at.ballot ≡ zero_ballot
  attempt_zero a past x at within is = origin_zero a past x at within (origin_of cluster.layout (node_of a) (clock_start cluster.starts (node_of a)) x past at is)

  moving_zero : (a : Actor) (past : List Deed) (x : TxnId) (act : Act) (at : Attempt) (move : Move) → IsPast past (deeds_of cluster a items)
      → Reacts cluster.layout (node_of a) (clock_start cluster.starts (node_of a)) past x act at move → at.ballot ≡ zero_ballot
  moving_zero a past x act at move within reacts =
      let b = before_reacts cluster.layout (node_of a) (clock_start cluster.starts (node_of a)) past x act at move reacts in
      sym b.same_ballot ∙ attempt_zero a past x b.attempt within b.is

  node_zero : (a : Actor) (past : List Deed) (act : Act) (m : Message) → IsPast past (deeds_of cluster a items) → IsCalmAct act
      → NodeSends cluster.layout (node_of a) (clock_start cluster.starts (node_of a)) past act m → ballot_of m ≡ zero_ballot
  node_zero a past act m within c (AsksForVotes txn body store) = refl
  node_zero a past act m within c (AsksForViews x body store) = absurd c
  node_zero a past act m within c (Proposes on x at s store reacts) = moving_zero a past x on at _ within reacts
  node_zero a past act m within c (CommitsTo on x at s store reacts) = moving_zero a past x on at _ within reacts
  node_zero a past act m within c (Decides on x at path s store reacts noted) = moving_zero a past x on at _ within reacts
  node_zero a past act m within c (Finishes on x at s outcome store reacts) = moving_zero a past x on at _ within reacts
  node_zero a past act m within c (Informs on x at s outcome reacts) = moving_zero a past x on at _ within reacts

  from_node_zero : (a : Actor) (m : Message) → FromNode cluster items a m → ballot_of m ≡ zero_ballot
  from_node_zero a m f =
      node_zero a f.past f.deed.act m (past_of f.deed f.past (deeds_of cluster a items) f.at) (acts_are_calm cluster items h calm a f.deed f.past f.at) (node_sent cluster items a m h f)

  -- a request comes from a node and has ballot zero
  pub request_from : (m : Message) → Sending items m → is_request m ≡ true → FromNode cluster items (from_of m) m
  request_from m s is = by (sender cluster items m h s)
    where
      by : Sender cluster items m → FromNode cluster items (from_of m) m
      by (IsNode f) = f
      by (IsStore f) = absurd (true≢false (sym is ∙ store_asks_nothing cluster.layout (from_of m) f.past f.step.message m (store_sent cluster items (from_of m) m h f)))

  pub request_zero : (m : Message) → Sending items m → is_request m ≡ true → ballot_of m ≡ zero_ballot
  request_zero m s is = from_node_zero (from_of m) m (request_from m s is)

  -- a store that answers was asked
  pub asked_zero : (a : Actor) (m : Message) → (f : FromStore cluster items a m) → (is_request f.step.message ≡ true) × (ballot_of f.step.message ≡ zero_ballot)
  asked_zero a m f =
      let is = answers_requests cluster.layout a f.past f.step.message m
      (subst (IsIn m) (answers_at cluster.layout a (taken_of cluster a items) f.step f.past (each_answers cluster a items h f.is_store) f.at) f.sent) in
      (is, request_zero f.step.message (step_sending cluster items h a f.step f.past f.at) is)

  stable_zero : (a : Actor) (x : TxnId) (b : Ballot) (history : List Taken) → IsPast history (taken_of cluster a items) → AskedWith x b history → b ≡ zero_ballot
  stable_zero a x b history within k =
      sym (ap ballot_of k.message_is)
      ∙ request_zero k.step.message (step_sending cluster items h a k.step k.past (StandsAt-whole k.step k.past history (taken_of cluster a items) k.at within)) (ap is_request k.message_is)

  sent_zero : (a : Actor) (m : Message) (step : Taken) (past : List Taken) → StandsAt step past (taken_of cluster a items) → (taken : Message) → step.message ≡ taken
      → ballot_of taken ≡ zero_ballot → StoreSends cluster.layout a past taken m → ballot_of m ≡ zero_ballot
  sent_zero a m step past at taken is z (Votes from to x b body counting v s p k e) = z
  sent_zero a m step past at taken is z (Accepts from to x b body counting t proposed deps s p k e) = z
  sent_zero a m step past at taken is z (Commits from to x b body t deps s p) = z
  sent_zero a m step past at taken is z (Reveals from to x b body counting view p k e) = z
  sent_zero a m step past at taken is z (ReadsAtOnce from to x b body t deps answer p e) = z
  sent_zero a m step past at taken is z (ReadsOnOpening n c b answer before among opens there e) =
      stable_zero a c.id b (step ∷ past) (StandsAt-IsPast step past (taken_of cluster a items) at)
      (opening_asked c.id b step past (subst (λ k. IsIn b (stable_ballots (taking k past) c.id)) (sym is) there))
  sent_zero a m step past at taken is z (Refuses n promised e) = z
  sent_zero a m step past at taken is z (Tells n s e) = z

  pub answer_zero : (a : Actor) (m : Message) → FromStore cluster items a m → ballot_of m ≡ zero_ballot
  answer_zero a m f = sent_zero a m f.step f.past f.at f.step.message refl (asked_zero a m f).1 (store_sent cluster items a m h f)

  -- every message has ballot zero
  pub all_zero : (m : Message) → Sending items m → ballot_of m ≡ zero_ballot
  all_zero m s = by (sender cluster items m h s)
    where
      by : Sender cluster items m → ballot_of m ≡ zero_ballot
      by (IsNode f) = from_node_zero (from_of m) m f
      by (IsStore f) = answer_zero (from_of m) m f

  -- ---- promises

  promise_by : (a : Actor) (x : TxnId) (past : List Taken) → IsPast past (taken_of cluster a items) → promise_of past x ≡ zero_ballot
  promise_by a x [] within = refl
  promise_by a x (step ∷ past) within =
      ap (λ p. greater_ballot p (granted_by x step.message step.sent)) (promise_by a x past (IsPast-rest step past (taken_of cluster a items) within))
      ∙ ap (greater_ballot zero_ballot) granted
    where
      granted : granted_by x step.message step.sent ≡ zero_ballot
      granted =
          cond_both (grants x step.message step.sent) (ballot_of step.message) zero_ballot (λ b. b ≡ zero_ballot)
          (λ is. request_zero step.message (step_sending cluster items h a step past (StandsAt-whole step past (step ∷ past) (taken_of cluster a items) (Here step past) within))
          (grants_request x step.message step.sent is))
          (λ _. refl)

  pub promise_zero : (a : Actor) (x : TxnId) (past : List Taken) → IsPast past (taken_of cluster a items) → promise_of past x ≡ zero_ballot
  promise_zero a x past within = promise_by a x past within

  -- a refusal names ballot zero
  refusal_zero : (a : Actor) (from to : Actor) (id : TxnId) (b promised : Ballot) (past : List Taken) (taken m : Message) → IsPast past (taken_of cluster a items)
      → m ≡ Nack from to id b promised → StoreSends cluster.layout a past taken m → promised ≡ zero_ballot
  refusal_zero a from to id b promised past taken m within is (Votes f g x c body counting v s p k e) = absurd (grind arith)
  refusal_zero a from to id b promised past taken m within is (Accepts f g x c body counting t proposed deps s p k e) = absurd (grind arith)
  refusal_zero a from to id b promised past taken m within is (Commits f g x c body t deps s p) = absurd (grind arith)
  refusal_zero a from to id b promised past taken m within is (Reveals f g x c body counting view p k e) = absurd (grind arith)
  refusal_zero a from to id b promised past taken m within is (ReadsAtOnce f g x c body t deps answer p e) = absurd (grind arith)
  refusal_zero a from to id b promised past taken m within is (ReadsOnOpening n c d answer before among opens there e) = absurd (grind arith)
  refusal_zero a from to id b promised past taken m within is (Refuses n other e) = sym (same_promise is) ∙ e ∙ promise_zero a (id_of n) past within
    where
      same_promise : {f g k l : Actor} {y z : TxnId} {c d p q : Ballot} → Nack f g y c p ≡ Nack k l z d q → p ≡ q
      same_promise e = cc
  refusal_zero a from to id b promised past taken m within is (Tells n s e) = absurd (grind arith)

  node_never_refuses : (layout : Layout) (node start : ℕ) (past : List Deed) (act : Act) (m : Message) (from to : Actor) (id : TxnId) (b promised : Ballot)
      → m ≡ Nack from to id b promised → NodeSends layout node start past act m → ⊥
  node_never_refuses layout node start past act m from to id b promised is (AsksForVotes txn body store) = grind arith
  node_never_refuses layout node start past act m from to id b promised is (AsksForViews x body store) = grind arith
  node_never_refuses layout node start past act m from to id b promised is (Proposes on x at s store reacts) = grind arith
  node_never_refuses layout node start past act m from to id b promised is (CommitsTo on x at s store reacts) = grind arith
  node_never_refuses layout node start past act m from to id b promised is (Decides on x at path s store reacts noted) = grind arith
  node_never_refuses layout node start past act m from to id b promised is (Finishes on x at s outcome store reacts) = grind arith
  node_never_refuses layout node start past act m from to id b promised is (Informs on x at s outcome reacts) = grind arith

  pub nack_zero : (from to : Actor) (id : TxnId) (b promised : Ballot) → Sending items (Nack from to id b promised) → promised ≡ zero_ballot
  nack_zero from to id b promised s = by (sender cluster items (Nack from to id b promised) h s)
    where
      by : Sender cluster items (Nack from to id b promised) → promised ≡ zero_ballot
      by (IsStore f) =
          refusal_zero from from to id b promised f.past f.step.message (Nack from to id b promised) (past_of f.step f.past (taken_of cluster from items) f.at) refl
          (store_sent cluster items from (Nack from to id b promised) h f)
      by (IsNode f) =
          absurd (node_never_refuses cluster.layout (node_of from) (clock_start cluster.starts (node_of from)) f.past f.deed.act (Nack from to id b promised) from to id b promised refl
          (node_sent cluster items from (Nack from to id b promised) h f))
