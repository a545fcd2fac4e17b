-- What a majority accepted or committed stays: by induction over the prefixes of a run, and with no order on ballots but theirs.
use Rattle.std.proofs.Common.{◌≡◌, ℕ, Bool, true, false, List, None, Some, Contains, refl, sym, ◌∙◌, ap, subst, ⊎_elim, ◌⊎◌, inl, inr, arith}
use Rattle.std.proofs.lemmas.Bool.{true≢false, cases_Bool}
use Rattle.std.proofs.lemmas.Bool.Decides.{nat_tests}
use Rattle.acc_stamp.specs.declared.stamps.Stamp.{Stamp}
use Rattle.acc_stamp.specs.declared.stamps.TxnId.{TxnId}
use Rattle.acc_stamp.specs.declared.stamps.Ballot.{Ballot}
use Rattle.acc_stamp.specs.declared.actors.Actor.{Actor}
use Rattle.acc_stamp.specs.Stamp.{ballot_lt, zero_ballot}
use Rattle.acc_stamp.proofs.Order.{ballot_order, le-trans, le-lt-trans}
use Rattle.acc_topology.specs.Layout.{Layout, IsLayout}
use Rattle.acc_topology.specs.Sets.{is_among}
use Rattle.acc_deps.specs.declared.shards.ShardDeps.{ShardDeps}
use Rattle.acc_deps.specs.declared.records.Settled.{Settled}
use Rattle.acc_deps.specs.declared.records.View.{View}
use Rattle.acc_deps.specs.Records.{Claim, claims_of, highest_claim}
use Rattle.acc_deps.proofs.Adopted.{claim_is_greatest}
use Rattle.acc_txn.specs.declared.parts.BodyParts.{BodyParts}
use Rattle.acc_message.specs.declared.message.Message.{Message}
use Rattle.acc_message.specs.declared.message.Message.TheVariants.{Accept, AcceptOk, Commit, CommitOk, RecoverOk}
use Rattle.acc_message.specs.declared.note.Path.TheVariants.{Fast, Adopted}
use Rattle.acc_message.specs.declared.item.Item.{Item}
use Rattle.acc_message.specs.Fields.{from_of, id_of, ballot_of}
use Rattle.acc_message.specs.Shares.{shards_used}
use Rattle.acc_message.specs.Taken.{Taken, body_in}
use Rattle.acc_message.specs.Attempts.{Attempt, Voting, Recovering, Accepting, majority_everywhere}
use Rattle.acc_message.specs.BallotRules.{is_recover_ok, is_accept_ok, is_commit_ok}
use Rattle.acc_message.specs.RecoveryDecision.{view_in, views_in}
use Rattle.acc_message.specs.Coordinator.{own_stamp, highest_vote, agreed, path_of}
use Rattle.acc_message.specs.Run.{Cluster, taken_of, EachStands}
use Rattle.acc_actor_laws.proofs.Standing.{not_none}
use Rattle.acc_actor_laws.proofs.OpeningFacts.{some_is}
use Rattle.acc_safety.specs.Places.{IsIn, First, Later, IsPast}
use Rattle.acc_safety.specs.Valid.{IsStanding}
use Rattle.acc_safety.specs.Histories.{Sending, FromStore}
use Rattle.acc_safety.specs.StoreSends.{StoreSends, Accepts}
use Rattle.acc_safety.specs.NodeMoves.{Move, Wait, Propose, CommitTo, DecideBy, FinishWith, BlockBy, Moves, WaitsForMore, DecidesFast, SlowsDown, AdoptsStable, AdoptsCommitted, AdoptsAccepted, ProposesGreatest, ProposesOwn, IsBlocked, CommitsIt, DecidesCommitted, HasOutcome}
use Rattle.acc_safety.specs.Attempted.{kind_of}
use Rattle.acc_safety.specs.Polls.{IsBody, AreAnswers}
use Rattle.acc_safety.specs.Roots.{Proposed, Committed, AcceptedBy, CommittedBy}
use Rattle.acc_safety.specs.StoreFactStatements.{OfEachStore, AcceptedIsSeen, CommittedIsSeen}
use Rattle.acc_safety.specs.Statements.{AcceptedLast, CommittedLast, CommittedIsFinal}
use Rattle.acc_safety.proofs.PlaceOrder.{Contains-IsIn}
use Rattle.acc_safety.proofs.Bridge.{Sending-past, each_answers}
use Rattle.acc_safety.proofs.Frame.{store_sent, bodies_are_begun}
use Rattle.acc_safety.proofs.Meetings.{majorities_meet}
use Rattle.acc_safety.proofs.Prefixes.{IsBefore-past, SentBefore, store_took_before}
use Rattle.acc_safety_laws.proofs.Revealed.{views_in-IsIn}
use Rattle.acc_safety_laws.proofs.Stages.{one_proposal, one_commit}
use Rattle.acc_safety_laws.proofs.Recovered.{answers_whole, used_shard, proposing, committing, ClaimSent, WasAccept, WasCommit, claim_sent, accepted_claim, committed_claim, each_of_run}

-- ---- ballots

nothing_below_zero : (b : Ballot) → ballot_lt b zero_ballot ≡ false
nothing_below_zero b = grind (arith, nat_tests)

-- from a ballot on, it is the ballot or above it
same_or_above : (b c : Ballot) → ballot_lt c b ≡ false → (c ≡ b) ⊎ (ballot_lt b c ≡ true)
same_or_above b c h =
    ⊎_elim inr (λ no_more. inl (ballot_order.connected c b h no_more)) (cases_Bool (ballot_lt b c))

-- ---- bodies of one transaction

same_body : (cluster : Cluster) (items : List Item) (x : TxnId) (one other : BodyParts) → IsBody cluster items x one → IsBody cluster items x other → one ≡ other
same_body cluster items x one other h k = some_is one other (sym h ∙ k)

-- ---- the form of an answer

accept_ok_is : (m : Message) → is_accept_ok m ≡ true → (f : Actor) × (g : Actor) × (deps : List ShardDeps) × (m ≡ AcceptOk f g (id_of m) (ballot_of m) deps)
accept_ok_is (AcceptOk f g id b deps) h = (f, g, deps, refl)
accept_ok_is _ h = absurd (true≢false (sym h))

commit_ok_is : (m : Message) → is_commit_ok m ≡ true → (f : Actor) × (g : Actor) × (m ≡ CommitOk f g (id_of m) (ballot_of m))
commit_ok_is (CommitOk f g id b) h = (f, g, refl)
commit_ok_is _ h = absurd (true≢false (sym h))

recover_ok_is : (m : Message) → is_recover_ok m ≡ true → (f : Actor) × (g : Actor) × (view : View) × (m ≡ RecoverOk f g (id_of m) (ballot_of m) view)
recover_ok_is (RecoverOk f g id b view) h = (f, g, view, refl)
recover_ok_is _ h = absurd (true≢false (sym h))

-- ---- claims

some_claim : (claims : List Claim) (d : Claim) → IsIn d claims → highest_claim claims ≡ None → ⊥
some_claim claims d (First c rest) is = not_none _ (sym is)
some_claim claims d (Later c e rest there) is = not_none _ (sym is)

-- a claim of these views from a ballot on, of one kind
record ClaimFrom (views : List View) (b : Ballot) (kind : Bool) : Type 0 where
  pub claim : Claim
  pub there : Contains (claims_of views) claim
  pub from_b : ballot_lt claim.ballot b ≡ false
  pub of_kind : claim.is_committed ≡ kind

no_claims : (views : List View) (b : Ballot) (kind : Bool) → ClaimFrom views b kind → highest_claim (claims_of views) ≡ None → ⊥
no_claims views b kind d none = some_claim (claims_of views) d.claim (Contains-IsIn d.claim (claims_of views) d.there) none

-- the highest claim is from the ballot on too
highest_from : (views : List View) (b : Ballot) (kind : Bool) (c : Claim) → highest_claim (claims_of views) ≡ Some c → ClaimFrom views b kind → ballot_lt c.ballot b ≡ false
highest_from views b kind c is d =
    le-trans ballot_order b d.claim.ballot c.ballot d.from_b (claim_is_greatest views c d.claim is d.there).ballot

-- where it is an accepted one and a committed one is there, it is above
accepted_above : (views : List View) (b : Ballot) (c : Claim) → highest_claim (claims_of views) ≡ Some c → c.is_committed ≡ false → ClaimFrom views b true
    → ballot_lt b c.ballot ≡ true
accepted_above views b c is accepted d =
    let least = claim_is_greatest views c d.claim is d.there in
    ⊎_elim
    (λ above. le-lt-trans ballot_order b d.claim.ballot c.ballot d.from_b above)
    (λ not_above. absurd (true≢false (sym (least.committed (ballot_order.connected c.ballot d.claim.ballot least.ballot not_above) d.of_kind) ∙ accepted)))
    (cases_Bool (ballot_lt d.claim.ballot c.ballot))

-- ---- what was accepted or committed is met by each recovery of a greater ballot

module _ (cluster : Cluster) (items : List Item) (standing : IsStanding cluster items) where
  begun_body : (m : Message) (x : TxnId) (one other : BodyParts) → Sending items m → body_in m ≡ Some one → id_of m ≡ x → IsBody cluster items x other → one ≡ other
  begun_body m x one other s is about h =
      same_body cluster items x one other (subst (λ y. IsBody cluster items y one) about (bodies_are_begun cluster items standing.stands m one s is)) h

  accepted_met : OfEachStore AcceptedIsSeen → (x : TxnId) (body : BodyParts) (b above : Ballot) (answers others : List Message) (shard : ℕ)
      → is_among (shards_used cluster.layout body) shard ≡ true
      → AreAnswers cluster items x body b is_accept_ok answers → majority_everywhere cluster.layout x body answers ≡ true
      → AreAnswers cluster items x body above is_recover_ok others → majority_everywhere cluster.layout x body others ≡ true
      → ballot_lt b above ≡ true → ClaimFrom (views_in others) b false
  accepted_met seen x body b above answers others shard used are major are_too major_too lt =
      let m = majorities_meet cluster.layout x x body body answers others shard standing.valid.layout used used major major_too in
      let one = are m.first m.first_in in
      let two = are_too m.second m.second_in in
      let f = accept_ok_is m.first one.is in
      let g = recover_ok_is m.second two.is in
      let at_one : FromStore cluster items m.store m.first = subst (λ a. FromStore cluster items a m.first) m.first_from one.place in
      let at_two : FromStore cluster items m.store m.second = subst (λ a. FromStore cluster items a m.second) m.second_from two.place in
      let first_is : m.first ≡ AcceptOk f.0 f.1 x b f.2 = f.3 ∙ ap (λ y. AcceptOk f.0 f.1 y (ballot_of m.first) f.2) one.about ∙ ap (λ c. AcceptOk f.0 f.1 x c f.2) one.of_ballot in
      let second_is : m.second ≡ RecoverOk g.0 g.1 x above g.2 = g.3 ∙ ap (λ y. RecoverOk g.0 g.1 y (ballot_of m.second) g.2) two.about ∙ ap (λ c. RecoverOk g.0 g.1 x c g.2) two.of_ballot in
      let found =
      seen cluster.layout m.store (taken_of cluster m.store items) (each_answers cluster m.store items standing.stands at_one.is_store)
      at_one.step at_two.step at_one.past at_two.past f.0 f.1 g.0 g.1 x b above f.2 g.2
      at_one.at (subst (λ k. IsIn k at_one.step.sent) first_is at_one.sent) at_two.at (subst (λ k. IsIn k at_two.step.sent) second_is at_two.sent) lt in
      let there = views_in-IsIn g.2 m.second others m.second_in (ap view_in second_is) in
      record {
        claim = record { store = g.2.store; ballot = found.found.ballot; is_committed = false; settled = record { t = found.found.t; deps = found.found.deps } };
        there = accepted_claim (views_in others) g.2 found.found there found.found_is;
        from_b = found.from_b;
        of_kind = refl;
      }

  committed_met : OfEachStore CommittedIsSeen → (x : TxnId) (body : BodyParts) (b above : Ballot) (answers others : List Message) (shard : ℕ)
      → is_among (shards_used cluster.layout body) shard ≡ true
      → AreAnswers cluster items x body b is_commit_ok answers → majority_everywhere cluster.layout x body answers ≡ true
      → AreAnswers cluster items x body above is_recover_ok others → majority_everywhere cluster.layout x body others ≡ true
      → ballot_lt b above ≡ true → ClaimFrom (views_in others) b true
  committed_met seen x body b above answers others shard used are major are_too major_too lt =
      let m = majorities_meet cluster.layout x x body body answers others shard standing.valid.layout used used major major_too in
      let one = are m.first m.first_in in
      let two = are_too m.second m.second_in in
      let f = commit_ok_is m.first one.is in
      let g = recover_ok_is m.second two.is in
      let at_one : FromStore cluster items m.store m.first = subst (λ a. FromStore cluster items a m.first) m.first_from one.place in
      let at_two : FromStore cluster items m.store m.second = subst (λ a. FromStore cluster items a m.second) m.second_from two.place in
      let first_is : m.first ≡ CommitOk f.0 f.1 x b = f.2 ∙ ap (λ y. CommitOk f.0 f.1 y (ballot_of m.first)) one.about ∙ ap (λ c. CommitOk f.0 f.1 x c) one.of_ballot in
      let second_is : m.second ≡ RecoverOk g.0 g.1 x above g.2 = g.3 ∙ ap (λ y. RecoverOk g.0 g.1 y (ballot_of m.second) g.2) two.about ∙ ap (λ c. RecoverOk g.0 g.1 x c g.2) two.of_ballot in
      let found =
      seen cluster.layout m.store (taken_of cluster m.store items) (each_answers cluster m.store items standing.stands at_one.is_store)
      at_one.step at_two.step at_one.past at_two.past f.0 f.1 g.0 g.1 x b above g.2
      at_one.at (subst (λ k. IsIn k at_one.step.sent) first_is at_one.sent) at_two.at (subst (λ k. IsIn k at_two.step.sent) second_is at_two.sent) lt in
      let there = views_in-IsIn g.2 m.second others m.second_in (ap view_in second_is) in
      record {
        claim = record { store = g.2.store; ballot = found.found.ballot; is_committed = true; settled = record { t = found.found.t; deps = found.found.deps } };
        there = committed_claim (views_in others) g.2 found.found there found.found_is;
        from_b = found.from_b;
        of_kind = refl;
      }

-- the answers of a recovering attempt of a prefix, by the begun body
recovering_answers : (cluster : Cluster) (past : List Item) (x : TxnId) (a : Attempt) (body : BodyParts) (above : Ballot) → a.phase ≡ Recovering
    → a.body ≡ body → a.ballot ≡ above → AreAnswers cluster past x a.body a.ballot (kind_of a.phase) a.answers
    → AreAnswers cluster past x body above is_recover_ok a.answers
recovering_answers cluster past x a body above phase of_body of_ballot are =
    subst (λ c. AreAnswers cluster past x body c is_recover_ok a.answers) of_ballot
    (subst (λ z. AreAnswers cluster past x z a.ballot is_recover_ok a.answers) of_body
    (subst (λ p. AreAnswers cluster past x a.body a.ballot (kind_of p) a.answers) phase are))

by_body : (cluster : Cluster) (x : TxnId) (a : Attempt) (body : BodyParts) → a.body ≡ body → majority_everywhere cluster.layout x a.body a.answers ≡ true
    → majority_everywhere cluster.layout x body a.answers ≡ true
by_body cluster x a body same h = subst (λ z. majority_everywhere cluster.layout x z a.answers ≡ true) same h

proposal_same : (s r : Settled) → Propose s ≡ Propose r → s ≡ r
proposal_same s r e = cc

commitment_same : (s r : Settled) → CommitTo s ≡ CommitTo r → s ≡ r
commitment_same s r e = cc

-- ---- an Accept that a majority accepted was sent

-- a proposal of a prefix
record SomeProposal (cluster : Cluster) (past : List Item) (x : TxnId) (b : Ballot) : Type 0 where
  pub t : Stamp
  pub deps : List ShardDeps
  pub f : Actor
  pub g : Actor
  pub brought : BodyParts
  pub sending : Sending past (Accept f g x b brought t deps)

proposed_by : (layout : Layout) (own : Actor) (past : List Taken) (taken : Message) (f g : Actor) (x : TxnId) (b : Ballot) (deps : List ShardDeps)
    → StoreSends layout own past taken (AcceptOk f g x b deps)
    → (h : Actor) × (k : Actor) × (body : BodyParts) × (t : Stamp) × (proposed : List ShardDeps) × (taken ≡ Accept h k x b body t proposed)
proposed_by layout own past taken f g x b deps (Accepts h k y c body counting t proposed named s p known e) = (h, k, body, t, proposed, refl)

accepting_answers : (cluster : Cluster) (past : List Item) (x : TxnId) (a : Attempt) (body : BodyParts) (b : Ballot) (s : Settled) → a.phase ≡ Accepting s
    → a.body ≡ body → a.ballot ≡ b → AreAnswers cluster past x a.body a.ballot (kind_of a.phase) a.answers
    → AreAnswers cluster past x body b is_accept_ok a.answers
accepting_answers cluster past x a body b s phase of_body of_ballot are =
    subst (λ c. AreAnswers cluster past x body c is_accept_ok a.answers) of_ballot
    (subst (λ z. AreAnswers cluster past x z a.ballot is_accept_ok a.answers) of_body
    (subst (λ p. AreAnswers cluster past x a.body a.ballot (kind_of p) a.answers) phase are))

some_proposal : (cluster : Cluster) (past : List Item) (x : TxnId) (b : Ballot) (m : Message)
    → (h : Actor) × (k : Actor) × (body : BodyParts) × (t : Stamp) × (proposed : List ShardDeps) × (m ≡ Accept h k x b body t proposed)
    → Sending past m → SomeProposal cluster past x b
some_proposal cluster past x b m p s =
    record { t = p.3; deps = p.4; f = p.0; g = p.1; brought = p.2; sending = subst (Sending past) p.5 s }

accepted_somewhere : (cluster : Cluster) (past : List Item) → EachStands cluster past → (x : TxnId) (a : Attempt) (body : BodyParts) (b : Ballot) (s : Settled)
    → a.phase ≡ Accepting s → a.body ≡ body → a.ballot ≡ b → AreAnswers cluster past x a.body a.ballot (kind_of a.phase) a.answers
    → majority_everywhere cluster.layout x body a.answers ≡ true → (shard : ℕ) × (is_among (shards_used cluster.layout body) shard ≡ true)
    → IsLayout cluster.layout → SomeProposal cluster past x b
accepted_somewhere cluster past h x a body b s phase of_body of_ballot are major uses layout =
    let oks = accepting_answers cluster past x a body b s phase of_body of_ballot are in
    let m = majorities_meet cluster.layout x x body body a.answers a.answers uses.0 layout uses.1 uses.1 major major in
    let one = oks m.first m.first_in in
    let f = accept_ok_is m.first one.is in
    let is : m.first ≡ AcceptOk f.0 f.1 x b f.2 = f.3 ∙ ap (λ y. AcceptOk f.0 f.1 y (ballot_of m.first) f.2) one.about ∙ ap (λ c. AcceptOk f.0 f.1 x c f.2) one.of_ballot in
    let p =
    proposed_by cluster.layout (from_of m.first) one.place.past one.place.step.message f.0 f.1 x b f.2
    (subst (StoreSends cluster.layout (from_of m.first) one.place.past one.place.step.message) is (store_sent cluster past (from_of m.first) m.first h one.place)) in
    let before = store_took_before cluster (from_of m.first) past h one.place.step one.place.past one.place.at in
    some_proposal cluster past x b one.place.step.message p
    (Sending-past before.past past one.place.step.message (IsBefore-past before.past past before.before) before.sending)

proposed_whole : (cluster : Cluster) (items : List Item) → IsStanding cluster items → (past : List Item) (x : TxnId) (body : BodyParts) (b : Ballot) → IsPast past items
    → IsBody cluster items x body → (p : SomeProposal cluster past x b) → Proposed items x body b p.t p.deps
proposed_whole cluster items standing past x body b within begun p =
    let sending = Sending-past past items (Accept p.f p.g x b p.brought p.t p.deps) within p.sending in
    let same = begun_body cluster items standing (Accept p.f p.g x b p.brought p.t p.deps) x p.brought body sending refl refl begun in
    record { from = p.f; to = p.g; sending = subst (λ z. Sending items (Accept p.f p.g x b z p.t p.deps)) same sending }

-- the move proposes, or commits
is_proposal : Move → Bool
is_proposal (Propose s) = true
is_proposal _ = false

is_commitment : Move → Bool
is_commitment (CommitTo s) = true
is_commitment _ = false

not_proposal : (move : Move) (s : Settled) → is_proposal move ≡ false → move ≡ Propose s → ⊥
unfolding is_proposal
not_proposal move s no_one is = true≢false (sym (ap is_proposal is) ∙ no_one)

not_commitment : (move : Move) (s : Settled) → is_commitment move ≡ false → move ≡ CommitTo s → ⊥
unfolding is_commitment
not_commitment move s no_one is = true≢false (sym (ap is_commitment is) ∙ no_one)

-- ---- accepted values last

module _ (cluster : Cluster) (items : List Item) (standing : IsStanding cluster items) (seen : OfEachStore AcceptedIsSeen) (x : TxnId) (body : BodyParts)
    (b : Ballot) (t : Stamp) (deps : List ShardDeps) (answers : List Message) (accepted : AcceptedBy cluster items x body b (record { t = t; deps = deps }) answers) where
  abbrev Lasts : Message → Type 0
  Lasts m =
      (f g : Actor) (above : Ballot) (brought : BodyParts) (s : Stamp) (more : List ShardDeps) → m ≡ Accept f g x above brought s more
      → ballot_lt b above ≡ true → (s ≡ t) × (more ≡ deps)

  is_begun_body : IsBody cluster items x body
  is_begun_body =
      bodies_are_begun cluster items standing.stands (Accept accepted.proposal.from accepted.proposal.to x b body t deps) body accepted.proposal.sending refl

  uses_some : (shard : ℕ) × (is_among (shards_used cluster.layout body) shard ≡ true)
  uses_some =
      used_shard cluster.layout body
      (proposing cluster items standing.stands accepted.proposal.from accepted.proposal.to x b body t deps accepted.proposal.sending).uses

  -- the proposal of an older claim
  old_claim : (past : List Item) → IsPast past items → ((m : Message) → SentBefore past m → Lasts m) → (c : Claim) → ClaimSent past x c false
      → ballot_lt c.ballot b ≡ false → (c.settled.t ≡ t) × (c.settled.deps ≡ deps)
  old_claim past within earlier c (WasAccept f g brought before) from_b =
      ⊎_elim
      (λ same.
      one_proposal cluster items standing.stands x b brought body c.settled.t t c.settled.deps deps
      (record {
        from = f;
        to = g;
        sending =
            subst (λ k. Sending items (Accept f g x k brought c.settled.t c.settled.deps)) same
            (Sending-past past items (Accept f g x c.ballot brought c.settled.t c.settled.deps) within
            (Sending-past before.past past (Accept f g x c.ballot brought c.settled.t c.settled.deps) (IsBefore-past before.past past before.before) before.sending));
      })
      accepted.proposal)
      (λ above. earlier (Accept f g x c.ballot brought c.settled.t c.settled.deps) before f g c.ballot brought c.settled.t c.settled.deps refl above)
      (same_or_above b c.ballot from_b)

  -- a recovery of a greater ballot finds a claim
  finds_claim : (past : List Item) → IsPast past items → (a : Attempt) (above : Ballot) → a.phase ≡ Recovering → a.body ≡ body → a.ballot ≡ above
      → AreAnswers cluster past x a.body a.ballot (kind_of a.phase) a.answers → majority_everywhere cluster.layout x a.body a.answers ≡ true
      → ballot_lt b above ≡ true → ClaimFrom (views_in a.answers) b false
  finds_claim past within a above phase of_body of_ballot are major lt =
      accepted_met cluster items standing seen x body b above answers a.answers uses_some.0 uses_some.1 accepted.are accepted.majority
      (answers_whole cluster past items x body above is_recover_ok a.answers within (recovering_answers cluster past x a body above phase of_body of_ballot are))
      (by_body cluster x a body of_body major) lt

  last_move : (past : List Item) → IsPast past items → EachStands cluster past → ((m : Message) → SentBefore past m → Lasts m) → (a : Attempt) (above : Ballot) (s : Settled)
      → a.body ≡ body → a.ballot ≡ above → (a.phase ≡ Voting → above ≡ zero_ballot)
      → AreAnswers cluster past x a.body a.ballot (kind_of a.phase) a.answers → ballot_lt b above ≡ true
      → (move : Move) → Moves cluster.layout x a move → move ≡ Propose s → (s.t ≡ t) × (s.deps ≡ deps)
  unfolding is_proposal
  last_move past within h earlier a above s of_body of_ballot first are lt move (SlowsDown phase major) is =
      absurd (true≢false (sym lt ∙ ap (ballot_lt b) (first phase) ∙ nothing_below_zero b))
  last_move past within h earlier a above s of_body of_ballot first are lt move (AdoptsAccepted c phase major found kind) is =
      let d = finds_claim past within a above phase of_body of_ballot are major lt in
      let sent = subst (ClaimSent past x c) kind
      (claim_sent cluster past h x body above a.answers (recovering_answers cluster past x a body above phase of_body of_ballot are) c found) in
      let old = old_claim past within earlier c sent (highest_from (views_in a.answers) b false c found d) in
      let same = proposal_same c.settled s is in
      (sym (ap (λ (r : Settled). r.t) same) ∙ old.0, sym (ap (λ (r : Settled). r.deps) same) ∙ old.1)
  last_move past within h earlier a above s of_body of_ballot first are lt move (ProposesGreatest phase major none ruled_out) is =
      absurd (no_claims (views_in a.answers) b false (finds_claim past within a above phase of_body of_ballot are major lt) none.no_claim)
  last_move past within h earlier a above s of_body of_ballot first are lt move (ProposesOwn phase major none free) is =
      absurd (no_claims (views_in a.answers) b false (finds_claim past within a above phase of_body of_ballot are major lt) none.no_claim)
  last_move past within h earlier a above s of_body of_ballot first are lt move WaitsForMore is = absurd (not_proposal Wait s refl is)
  last_move past within h earlier a above s of_body of_ballot first are lt move (DecidesFast phase fast) is = absurd (not_proposal (DecideBy Fast (own_stamp x a)) s refl is)
  last_move past within h earlier a above s of_body of_ballot first are lt move (AdoptsStable r phase major found) is = absurd (not_proposal (DecideBy Adopted r.settled) s refl is)
  last_move past within h earlier a above s of_body of_ballot first are lt move (AdoptsCommitted c phase major found kind) is = absurd (not_proposal (CommitTo c.settled) s refl is)
  last_move past within h earlier a above s of_body of_ballot first are lt move (IsBlocked by phase major) is = absurd (not_proposal (BlockBy by) s refl is)
  last_move past within h earlier a above s of_body of_ballot first are lt move (CommitsIt r phase major) is = absurd (not_proposal (CommitTo (agreed x r a)) s refl is)
  last_move past within h earlier a above s of_body of_ballot first are lt move (DecidesCommitted r phase major) is = absurd (not_proposal (DecideBy (path_of a.ballot) r) s refl is)
  last_move past within h earlier a above s of_body of_ballot first are lt move (HasOutcome r outcome phase found) is = absurd (not_proposal (FinishWith r outcome) s refl is)

  lasts : (past : List Item) → IsPast past items → EachStands cluster past → ((m : Message) → SentBefore past m → Lasts m) → (m : Message) → Sending past m → Lasts m
  lasts past within h earlier m sent f g above brought s more is lt =
      let sending = subst (Sending past) is sent in
      let p = proposing cluster past h f g x above brought s more sending in
      let same = begun_body cluster items standing (Accept f g x above brought s more) x brought body (Sending-past past items (Accept f g x above brought s more) within sending) refl refl is_begun_body in
      last_move past within h earlier p.moving above (record { t = s; deps = more }) (p.of_body ∙ same) p.of_ballot p.first_zero p.are lt
      (Propose (record { t = s; deps = more })) p.moves refl

  pub accepted_lasts : (above : Ballot) (s : Stamp) (more : List ShardDeps) → Proposed items x body above s more → ballot_lt b above ≡ true → (s ≡ t) × (more ≡ deps)
  accepted_lasts above s more p lt =
      each_of_run cluster items Lasts lasts standing.stands (Accept p.from p.to x above body s more) p.sending p.from p.to above body s more refl lt

pub accepted_last : OfEachStore AcceptedIsSeen → (cluster : Cluster) (items : List Item) → IsStanding cluster items → AcceptedLast cluster items
accepted_last seen cluster items standing x body b above t s deps more answers accepted p lt =
    accepted_lasts cluster items standing seen x body b t deps answers accepted above s more p lt

-- ---- what is committed is final

module _ (cluster : Cluster) (items : List Item) (standing : IsStanding cluster items) (seen : OfEachStore CommittedIsSeen) (x : TxnId) (body : BodyParts)
    (b : Ballot) (t : Stamp) (deps : List ShardDeps) (answers : List Message) (committed : CommittedBy cluster items x body b (record { t = t; deps = deps }) answers) where
  is_committed_body : IsBody cluster items x body
  is_committed_body =
      bodies_are_begun cluster items standing.stands (Commit committed.commit.from committed.commit.to x b body t deps) body committed.commit.sending refl

  committed_uses : (shard : ℕ) × (is_among (shards_used cluster.layout body) shard ≡ true)
  committed_uses =
      used_shard cluster.layout body
      (committing cluster items standing.stands committed.commit.from committed.commit.to x b body t deps committed.commit.sending).uses

  -- a recovery of a greater ballot finds a committed claim
  finds_committed : (past : List Item) → IsPast past items → (a : Attempt) (above : Ballot) → a.phase ≡ Recovering → a.body ≡ body → a.ballot ≡ above
      → AreAnswers cluster past x a.body a.ballot (kind_of a.phase) a.answers → majority_everywhere cluster.layout x a.body a.answers ≡ true
      → ballot_lt b above ≡ true → ClaimFrom (views_in a.answers) b true
  finds_committed past within a above phase of_body of_ballot are major lt =
      committed_met cluster items standing seen x body b above answers a.answers committed_uses.0 committed_uses.1 committed.are committed.majority
      (answers_whole cluster past items x body above is_recover_ok a.answers within (recovering_answers cluster past x a body above phase of_body of_ballot are))
      (by_body cluster x a body of_body major) lt

  abbrev IsNone : Message → Type 0
  IsNone m =
      (f g : Actor) (above : Ballot) (brought : BodyParts) (s : Stamp) (more : List ShardDeps) → m ≡ Accept f g x above brought s more
      → ballot_lt b above ≡ true → ⊥

  final_claim : (past : List Item) → ((m : Message) → SentBefore past m → IsNone m) → (c : Claim) → ClaimSent past x c false → ballot_lt b c.ballot ≡ true → ⊥
  final_claim past earlier c (WasAccept f g brought before) above =
      earlier (Accept f g x c.ballot brought c.settled.t c.settled.deps) before f g c.ballot brought c.settled.t c.settled.deps refl above

  final_move : (past : List Item) → IsPast past items → EachStands cluster past → ((m : Message) → SentBefore past m → IsNone m) → (a : Attempt) (above : Ballot) (s : Settled)
      → a.body ≡ body → a.ballot ≡ above → (a.phase ≡ Voting → above ≡ zero_ballot)
      → AreAnswers cluster past x a.body a.ballot (kind_of a.phase) a.answers → ballot_lt b above ≡ true
      → (move : Move) → Moves cluster.layout x a move → move ≡ Propose s → ⊥
  unfolding is_proposal
  final_move past within h earlier a above s of_body of_ballot first are lt move (SlowsDown phase major) is =
      true≢false (sym lt ∙ ap (ballot_lt b) (first phase) ∙ nothing_below_zero b)
  final_move past within h earlier a above s of_body of_ballot first are lt move (AdoptsAccepted c phase major found kind) is =
      final_claim past earlier c
      (subst (ClaimSent past x c) kind
      (claim_sent cluster past h x body above a.answers (recovering_answers cluster past x a body above phase of_body of_ballot are) c found))
      (accepted_above (views_in a.answers) b c found kind (finds_committed past within a above phase of_body of_ballot are major lt))
  final_move past within h earlier a above s of_body of_ballot first are lt move (ProposesGreatest phase major none ruled_out) is =
      no_claims (views_in a.answers) b true (finds_committed past within a above phase of_body of_ballot are major lt) none.no_claim
  final_move past within h earlier a above s of_body of_ballot first are lt move (ProposesOwn phase major none free) is =
      no_claims (views_in a.answers) b true (finds_committed past within a above phase of_body of_ballot are major lt) none.no_claim
  final_move past within h earlier a above s of_body of_ballot first are lt move WaitsForMore is = not_proposal Wait s refl is
  final_move past within h earlier a above s of_body of_ballot first are lt move (DecidesFast phase fast) is = not_proposal (DecideBy Fast (own_stamp x a)) s refl is
  final_move past within h earlier a above s of_body of_ballot first are lt move (AdoptsStable r phase major found) is = not_proposal (DecideBy Adopted r.settled) s refl is
  final_move past within h earlier a above s of_body of_ballot first are lt move (AdoptsCommitted c phase major found kind) is = not_proposal (CommitTo c.settled) s refl is
  final_move past within h earlier a above s of_body of_ballot first are lt move (IsBlocked by phase major) is = not_proposal (BlockBy by) s refl is
  final_move past within h earlier a above s of_body of_ballot first are lt move (CommitsIt r phase major) is = not_proposal (CommitTo (agreed x r a)) s refl is
  final_move past within h earlier a above s of_body of_ballot first are lt move (DecidesCommitted r phase major) is = not_proposal (DecideBy (path_of a.ballot) r) s refl is
  final_move past within h earlier a above s of_body of_ballot first are lt move (HasOutcome r outcome phase found) is = not_proposal (FinishWith r outcome) s refl is

  finally : (past : List Item) → IsPast past items → EachStands cluster past → ((m : Message) → SentBefore past m → IsNone m) → (m : Message) → Sending past m → IsNone m
  finally past within h earlier m sent f g above brought s more is lt =
      let sending = subst (Sending past) is sent in
      let p = proposing cluster past h f g x above brought s more sending in
      let same = begun_body cluster items standing (Accept f g x above brought s more) x brought body (Sending-past past items (Accept f g x above brought s more) within sending) refl refl is_committed_body in
      final_move past within h earlier p.moving above (record { t = s; deps = more }) (p.of_body ∙ same) p.of_ballot p.first_zero p.are lt
      (Propose (record { t = s; deps = more })) p.moves refl

  pub none_above : (above : Ballot) (s : Stamp) (more : List ShardDeps) → Proposed items x body above s more → ballot_lt b above ≡ true → ⊥
  none_above above s more p lt =
      each_of_run cluster items IsNone finally standing.stands (Accept p.from p.to x above body s more) p.sending p.from p.to above body s more refl lt

  -- ---- committed values last

  abbrev Remains : Message → Type 0
  Remains m =
      (f g : Actor) (above : Ballot) (brought : BodyParts) (s : Stamp) (more : List ShardDeps) → m ≡ Commit f g x above brought s more
      → ballot_lt b above ≡ true → (s ≡ t) × (more ≡ deps)

  old_commit : (past : List Item) → IsPast past items → ((m : Message) → SentBefore past m → Remains m) → (c : Claim) → ClaimSent past x c true
      → ballot_lt c.ballot b ≡ false → (c.settled.t ≡ t) × (c.settled.deps ≡ deps)
  old_commit past within earlier c (WasCommit f g brought before) from_b =
      ⊎_elim
      (λ same.
      one_commit cluster items standing.stands x b brought body c.settled.t t c.settled.deps deps
      (record {
        from = f;
        to = g;
        sending =
            subst (λ k. Sending items (Commit f g x k brought c.settled.t c.settled.deps)) same
            (Sending-past past items (Commit f g x c.ballot brought c.settled.t c.settled.deps) within
            (Sending-past before.past past (Commit f g x c.ballot brought c.settled.t c.settled.deps) (IsBefore-past before.past past before.before) before.sending));
      })
      committed.commit)
      (λ above. earlier (Commit f g x c.ballot brought c.settled.t c.settled.deps) before f g c.ballot brought c.settled.t c.settled.deps refl above)
      (same_or_above b c.ballot from_b)

  remain_move : (past : List Item) → IsPast past items → EachStands cluster past → ((m : Message) → SentBefore past m → Remains m) → (a : Attempt) (above : Ballot) (s : Settled)
      → a.body ≡ body → a.ballot ≡ above
      → AreAnswers cluster past x a.body a.ballot (kind_of a.phase) a.answers → ballot_lt b above ≡ true
      → (move : Move) → Moves cluster.layout x a move → move ≡ CommitTo s → (s.t ≡ t) × (s.deps ≡ deps)
  unfolding is_commitment
  remain_move past within h earlier a above s of_body of_ballot are lt move (AdoptsCommitted c phase major found kind) is =
      let d = finds_committed past within a above phase of_body of_ballot are major lt in
      let sent = subst (ClaimSent past x c) kind
      (claim_sent cluster past h x body above a.answers (recovering_answers cluster past x a body above phase of_body of_ballot are) c found) in
      let old = old_commit past within earlier c sent (highest_from (views_in a.answers) b true c found d) in
      let same = commitment_same c.settled s is in
      (sym (ap (λ (r : Settled). r.t) same) ∙ old.0, sym (ap (λ (r : Settled). r.deps) same) ∙ old.1)
  remain_move past within h earlier a above s of_body of_ballot are lt move (CommitsIt r phase major) is =
      let p = accepted_somewhere cluster past h x a body above r phase of_body of_ballot are (by_body cluster x a body of_body major) committed_uses standing.valid.layout in
      absurd (none_above above p.t p.deps (proposed_whole cluster items standing past x body above within is_committed_body p) lt)
  remain_move past within h earlier a above s of_body of_ballot are lt move WaitsForMore is = absurd (not_commitment Wait s refl is)
  remain_move past within h earlier a above s of_body of_ballot are lt move (DecidesFast phase fast) is = absurd (not_commitment (DecideBy Fast (own_stamp x a)) s refl is)
  remain_move past within h earlier a above s of_body of_ballot are lt move (SlowsDown phase major) is = absurd (not_commitment (Propose (highest_vote x a)) s refl is)
  remain_move past within h earlier a above s of_body of_ballot are lt move (AdoptsStable r phase major found) is = absurd (not_commitment (DecideBy Adopted r.settled) s refl is)
  remain_move past within h earlier a above s of_body of_ballot are lt move (AdoptsAccepted c phase major found kind) is = absurd (not_commitment (Propose c.settled) s refl is)
  remain_move past within h earlier a above s of_body of_ballot are lt move (ProposesGreatest phase major none ruled_out) is = absurd (not_commitment (Propose (highest_vote x a)) s refl is)
  remain_move past within h earlier a above s of_body of_ballot are lt move (ProposesOwn phase major none free) is = absurd (not_commitment (Propose (own_stamp x a)) s refl is)
  remain_move past within h earlier a above s of_body of_ballot are lt move (IsBlocked by phase major) is = absurd (not_commitment (BlockBy by) s refl is)
  remain_move past within h earlier a above s of_body of_ballot are lt move (DecidesCommitted r phase major) is = absurd (not_commitment (DecideBy (path_of a.ballot) r) s refl is)
  remain_move past within h earlier a above s of_body of_ballot are lt move (HasOutcome r outcome phase found) is = absurd (not_commitment (FinishWith r outcome) s refl is)

  remains : (past : List Item) → IsPast past items → EachStands cluster past → ((m : Message) → SentBefore past m → Remains m) → (m : Message) → Sending past m → Remains m
  remains past within h earlier m sent f g above brought s more is lt =
      let sending = subst (Sending past) is sent in
      let p = committing cluster past h f g x above brought s more sending in
      let same = begun_body cluster items standing (Commit f g x above brought s more) x brought body (Sending-past past items (Commit f g x above brought s more) within sending) refl refl is_committed_body in
      remain_move past within h earlier p.moving above (record { t = s; deps = more }) (p.of_body ∙ same) p.of_ballot p.are lt
      (CommitTo (record { t = s; deps = more })) p.moves refl

  pub committed_remains : (above : Ballot) (s : Stamp) (more : List ShardDeps) → Committed items x body above s more → ballot_lt b above ≡ true → (s ≡ t) × (more ≡ deps)
  committed_remains above s more c lt =
      each_of_run cluster items Remains remains standing.stands (Commit c.from c.to x above body s more) c.sending c.from c.to above body s more refl lt

pub committed_is_final : OfEachStore CommittedIsSeen → (cluster : Cluster) (items : List Item) → IsStanding cluster items → CommittedIsFinal cluster items
committed_is_final seen cluster items standing x body b above t s deps more answers committed p lt =
    none_above cluster items standing seen x body b t deps answers committed above s more p lt

pub committed_last : OfEachStore CommittedIsSeen → (cluster : Cluster) (items : List Item) → IsStanding cluster items → CommittedLast cluster items
committed_last seen cluster items standing x body b above t s deps more answers committed c lt =
    committed_remains cluster items standing seen x body b t deps answers committed above s more c lt
