-- Every proposal goes back to the votes of a majority in every shard, by induction over prefixes: it is either of these very
-- answers, or of a proposal that some store showed.
use Rattle.std.proofs.Common.{◌≡◌, ℕ, List, refl, sym, ◌∙◌, subst}
use Rattle.acc_stamp.specs.declared.stamps.Stamp.{Stamp}
use Rattle.acc_stamp.specs.declared.stamps.TxnId.{TxnId}
use Rattle.acc_stamp.specs.declared.stamps.Ballot.{Ballot}
use Rattle.acc_stamp.specs.declared.actors.Actor.{Actor}
use Rattle.acc_stamp.specs.Actor.{node_of}
use Rattle.acc_topology.specs.Layout.{Layout}
use Rattle.acc_deps.specs.declared.shards.ShardDeps.{ShardDeps}
use Rattle.acc_deps.specs.declared.records.Settled.{Settled}
use Rattle.acc_txn.specs.declared.parts.BodyParts.{BodyParts}
use Rattle.acc_message.specs.declared.message.Message.{Message}
use Rattle.acc_message.specs.declared.message.Message.TheVariants.{Accept}
use Rattle.acc_message.specs.declared.item.Item.{Item}
use Rattle.acc_message.specs.Taken.{Taken}
use Rattle.acc_message.specs.Attempts.{Attempt, Voting, Recovering}
use Rattle.acc_message.specs.NodeRules.{Act, Deed}
use Rattle.acc_message.specs.Run.{Cluster, clock_start, EachStands}
use Rattle.acc_actor_laws.proofs.OpeningFacts.{some_is}
use Rattle.acc_safety.specs.Places.{IsPast, Whole}
use Rattle.acc_safety.specs.Histories.{Sending, Sender, IsStore, IsNode}
use Rattle.acc_safety.specs.StoreSends.{StoreSends}
use Rattle.acc_safety.specs.NodeMoves.{Propose, Moves, SlowsDown, AdoptsAccepted, ProposesGreatest, ProposesOwn, Counts, Reacts, ToSlow, ToMessage, NodeSends, Proposes}
use Rattle.acc_safety.specs.Attempted.{kind_of}
use Rattle.acc_safety.specs.Polls.{IsBody, AreAnswers}
use Rattle.acc_safety.specs.Roots.{Proposed, Root, GreatestOfVotes, GreatestOfViews, Own}
use Rattle.acc_safety.specs.Statements.{ProposalsHaveRoots}
use Rattle.acc_safety.specs.Valid.{IsStanding}
use Rattle.acc_safety.proofs.PlaceOrder.{IsPast-trans}
use Rattle.acc_safety.proofs.Bridge.{Sending-past, sender}
use Rattle.acc_safety.proofs.Frame.{store_sent, node_sent, bodies_are_begun}
use Rattle.acc_safety.proofs.Prefixes.{IsBefore-past, SentBefore}
use Rattle.acc_safety_laws.proofs.Within.{each_within}
use Rattle.acc_safety_laws.proofs.ShownBefore.{accepted_before}
use Rattle.acc_safety_laws.proofs.Moving.{Moving, moving, answers_in}

-- ---- who sends an Accept

store_proposes_none : (layout : Layout) (own : Actor) (past : List Taken) (taken : Message) (from to : Actor) (x : TxnId) (b : Ballot) (body : BodyParts) (t : Stamp) (deps : List ShardDeps)
    → StoreSends layout own past taken (Accept from to x b body t deps) → ⊥
store_proposes_none layout own past taken from to x b body t deps h = elim h [ ]

-- the attempt that proposes
record Proposal (layout : Layout) (node start : ℕ) (past : List Deed) (act : Act) (x : TxnId) (b : Ballot) (body : BodyParts) (s : Settled) : Type 0 where
  pub attempt : Attempt
  pub of_ballot : attempt.ballot ≡ b
  pub of_body : attempt.body ≡ body
  pub reacts : Reacts layout node start past x act attempt (Propose s)

proposal : (layout : Layout) (node start : ℕ) (past : List Deed) (act : Act) (from to : Actor) (x : TxnId) (b : Ballot) (body : BodyParts) (t : Stamp) (deps : List ShardDeps)
    → NodeSends layout node start past act (Accept from to x b body t deps) → Proposal layout node start past act x b body (record { t = t; deps = deps })
proposal layout node start past act from to x b body t deps (Proposes on y a s store reacts) =
    record { attempt = a; of_ballot = refl; of_body = refl; reacts = reacts }

proposal_moves : (layout : Layout) (node start : ℕ) (past : List Deed) (x : TxnId) (act : Act) (a : Attempt) (s : Settled)
    → Reacts layout node start past x act a (Propose s) → Moves layout x a (Propose s)
proposal_moves layout node start past x act a s (ToSlow b moved is moves) = moves
proposal_moves layout node start past x act a s (ToMessage before b m moved is about (Counts n moving same counting moves)) = moves

module _ (cluster : Cluster) (all : List Item) (whole : IsStanding cluster all) where
  -- a proposal has its root
  abbrev Rooted : Message → Type 0
  Rooted m =
      (from to : Actor) (x : TxnId) (b : Ballot) (body : BodyParts) (t : Stamp) (deps : List ShardDeps)
      → m ≡ Accept from to x b body t deps → Root cluster all x body t deps

  module _ (items : List Item) (h : EachStands cluster items) (within : IsPast items all) (earlier : (m : Message) → SentBefore items m → Rooted m) where
    root_of_move : (a : Actor) (past : List Deed) (x : TxnId) (at : Attempt) (s : Settled) → Moving cluster items a past x at → IsBody cluster all x at.body
        → Proposed all x at.body at.ballot s.t s.deps → Moves cluster.layout x at (Propose s) → Root cluster all x at.body s.t s.deps
    root_of_move a past x at s m begun proposed (SlowsDown phase major) =
        GreatestOfVotes at.answers
        (subst (λ b. AreAnswers cluster all x at.body b (kind_of Voting) at.answers) (m.first phase) (answers_in cluster all items x at Voting within m.are phase)) major
        (subst (λ b. Proposed all x at.body b s.t s.deps) (m.first phase) proposed)
    root_of_move a past x at s m begun proposed (AdoptsAccepted c phase major is kind) =
        let k =
        accepted_before cluster items h x at.body at.ballot at.answers m.begun (answers_in cluster items items x at Recovering (Whole items) m.are phase) c is kind in
        let accept : Message = Accept k.from k.to x c.ballot k.body c.settled.t c.settled.deps in
        let sending : Sending all accept =
        Sending-past k.sent.past all accept (IsPast-trans k.sent.past items all (IsBefore-past k.sent.past items k.sent.before) within) k.sent.sending in
        subst (λ other. Root cluster all x other c.settled.t c.settled.deps)
        (some_is k.body at.body (sym (bodies_are_begun cluster all whole.stands accept k.body sending refl) ∙ begun))
        (earlier accept k.sent k.from k.to x c.ballot k.body c.settled.t c.settled.deps refl)
    root_of_move a past x at s m begun proposed (ProposesGreatest phase major none ruled_out) =
        GreatestOfViews at.ballot at.answers (answers_in cluster all items x at Recovering within m.are phase) major ruled_out
    root_of_move a past x at s m begun proposed (ProposesOwn phase major none free) =
        Own at.ballot at.answers (answers_in cluster all items x at Recovering within m.are phase) major free

    root_of_sender : (from to : Actor) (x : TxnId) (b : Ballot) (body : BodyParts) (t : Stamp) (deps : List ShardDeps)
        → IsBody cluster all x body → Sending all (Accept from to x b body t deps) → Sender cluster items (Accept from to x b body t deps)
        → Root cluster all x body t deps
    root_of_sender from to x b body t deps begun sending (IsStore f) =
        absurd (store_proposes_none cluster.layout from f.past f.step.message from to x b body t deps (store_sent cluster items from (Accept from to x b body t deps) h f))
    root_of_sender from to x b body t deps begun sending (IsNode f) =
        let start : ℕ = clock_start cluster.starts (node_of from) in
        let s : Settled = record { t = t; deps = deps } in
        let p =
        proposal cluster.layout (node_of from) start f.past f.deed.act from to x b body t deps (node_sent cluster items from (Accept from to x b body t deps) h f) in
        let proposed : Proposed all x p.attempt.body p.attempt.ballot t deps =
        subst (λ other. Proposed all x other p.attempt.ballot t deps) (sym p.of_body)
        (subst (λ c. Proposed all x body c t deps) (sym p.of_ballot) (record { from = from; to = to; sending = sending })) in
        subst (λ other. Root cluster all x other t deps) p.of_body
        (root_of_move from f.past x p.attempt s
        (moving cluster items h from f.is_node f.deed f.past f.at x p.attempt (Propose s) p.reacts)
        (subst (IsBody cluster all x) (sym p.of_body) begun) proposed
        (proposal_moves cluster.layout (node_of from) start f.past x f.deed.act p.attempt s p.reacts))

    rooted : (m : Message) → Sending items m → Rooted m
    rooted m sent from to x b body t deps is =
        let accept : Message = Accept from to x b body t deps in
        let sending : Sending items accept = subst (Sending items) is sent in
        let in_all : Sending all accept = Sending-past items all accept within sending in
        root_of_sender from to x b body t deps (bodies_are_begun cluster all whole.stands accept body in_all refl) in_all (sender cluster items accept h sending)

  pub proposals_have_roots : ProposalsHaveRoots cluster all
  proposals_have_roots x body b t deps p =
      each_within cluster all Rooted rooted whole.stands (Accept p.from p.to x b body t deps) p.sending p.from p.to x b body t deps refl
