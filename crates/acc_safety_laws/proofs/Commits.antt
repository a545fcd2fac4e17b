-- Every commit goes back to a proposal that a majority in every shard accepted, by induction over prefixes: it is either of these
-- very answers, or of a commit that some store showed.
use Rattle.std.proofs.Common.{◌≡◌, ℕ, List, refl, sym, ◌∙◌, subst}
use Rattle.acc_stamp.specs.declared.stamps.Stamp.{Stamp}
use Rattle.acc_stamp.specs.declared.stamps.TxnId.{TxnId}
use Rattle.acc_stamp.specs.declared.stamps.Ballot.{Ballot}
use Rattle.acc_stamp.specs.declared.actors.Actor.{Actor}
use Rattle.acc_stamp.specs.Actor.{node_of, actor_of}
use Rattle.acc_topology.specs.Layout.{Layout}
use Rattle.acc_deps.specs.declared.shards.ShardDeps.{ShardDeps}
use Rattle.acc_deps.specs.declared.records.Settled.{Settled}
use Rattle.acc_txn.specs.declared.parts.BodyParts.{BodyParts}
use Rattle.acc_message.specs.declared.message.Message.{Message}
use Rattle.acc_message.specs.declared.message.Message.TheVariants.{Accept, Commit}
use Rattle.acc_message.specs.declared.item.Item.{Item}
use Rattle.acc_message.specs.Taken.{Taken}
use Rattle.acc_message.specs.Attempts.{Attempt, Recovering, Accepting}
use Rattle.acc_message.specs.NodeRules.{Act, Deed}
use Rattle.acc_message.specs.Run.{Cluster, clock_start, EachStands}
use Rattle.acc_actor_laws.proofs.OpeningFacts.{some_is}
use Rattle.acc_safety.specs.Places.{IsPast, Whole}
use Rattle.acc_safety.specs.Histories.{Sending, Sender, IsStore, IsNode}
use Rattle.acc_safety.specs.StoreSends.{StoreSends}
use Rattle.acc_safety.specs.NodeMoves.{CommitTo, Moves, AdoptsCommitted, CommitsIt, Counts, Reacts, ToSlow, ToMessage, NodeSends, Commits}
use Rattle.acc_safety.specs.Polls.{IsBody}
use Rattle.acc_safety.specs.Roots.{CommitRoot}
use Rattle.acc_safety.specs.Statements.{CommitsHaveRoots}
use Rattle.acc_safety.specs.Valid.{IsStanding}
use Rattle.acc_safety.proofs.PlaceOrder.{IsPast-trans}
use Rattle.acc_safety.proofs.Bridge.{Sending-past, sender}
use Rattle.acc_safety.proofs.Frame.{store_sent, node_sent, bodies_are_begun}
use Rattle.acc_safety.proofs.Prefixes.{IsBefore-past, SentBefore}
use Rattle.acc_safety_laws.proofs.Phased.{Entered}
use Rattle.acc_safety_laws.proofs.Within.{each_within}
use Rattle.acc_safety_laws.proofs.ShownBefore.{committed_before}
use Rattle.acc_safety_laws.proofs.Moving.{Moving, moving, answers_in, one_sent}

-- ---- who sends a Commit

store_commits_none : (layout : Layout) (own : Actor) (past : List Taken) (taken : Message) (from to : Actor) (x : TxnId) (b : Ballot) (body : BodyParts) (t : Stamp) (deps : List ShardDeps)
    → StoreSends layout own past taken (Commit from to x b body t deps) → ⊥
store_commits_none layout own past taken from to x b body t deps h = elim h [ ]

-- the attempt that commits
record Commitment (layout : Layout) (node start : ℕ) (past : List Deed) (act : Act) (x : TxnId) (b : Ballot) (body : BodyParts) (s : Settled) : Type 0 where
  pub attempt : Attempt
  pub of_ballot : attempt.ballot ≡ b
  pub of_body : attempt.body ≡ body
  pub reacts : Reacts layout node start past x act attempt (CommitTo s)

commitment : (layout : Layout) (node start : ℕ) (past : List Deed) (act : Act) (from to : Actor) (x : TxnId) (b : Ballot) (body : BodyParts) (t : Stamp) (deps : List ShardDeps)
    → NodeSends layout node start past act (Commit from to x b body t deps) → Commitment layout node start past act x b body (record { t = t; deps = deps })
commitment layout node start past act from to x b body t deps (Commits on y a s store reacts) =
    record { attempt = a; of_ballot = refl; of_body = refl; reacts = reacts }

commitment_moves : (layout : Layout) (node start : ℕ) (past : List Deed) (x : TxnId) (act : Act) (a : Attempt) (s : Settled)
    → Reacts layout node start past x act a (CommitTo s) → Moves layout x a (CommitTo s)
commitment_moves layout node start past x act a s (ToSlow b moved is moves) = moves
commitment_moves layout node start past x act a s (ToMessage before b m moved is about (Counts n moving same counting moves)) = moves

module _ (cluster : Cluster) (all : List Item) (whole : IsStanding cluster all) where
  -- a commit has its root
  abbrev Rooted : Message → Type 0
  Rooted m =
      (from to : Actor) (x : TxnId) (b : Ballot) (body : BodyParts) (t : Stamp) (deps : List ShardDeps)
      → m ≡ Commit from to x b body t deps → CommitRoot cluster all x body t deps

  module _ (items : List Item) (h : EachStands cluster items) (within : IsPast items all) (earlier : (m : Message) → SentBefore items m → Rooted m) where
    root_of_move : (a : Actor) (past : List Deed) (x : TxnId) (at : Attempt) (s : Settled) → Moving cluster items a past x at → IsBody cluster all x at.body
        → Moves cluster.layout x at (CommitTo s) → CommitRoot cluster all x at.body s.t s.deps
    root_of_move a past x at s m begun (AdoptsCommitted c phase major is kind) =
        let k =
        committed_before cluster items h x at.body at.ballot at.answers m.begun (answers_in cluster items items x at Recovering (Whole items) m.are phase) c is kind in
        let commit : Message = Commit k.from k.to x c.ballot k.body c.settled.t c.settled.deps in
        let sending : Sending all commit =
        Sending-past k.sent.past all commit (IsPast-trans k.sent.past items all (IsBefore-past k.sent.past items k.sent.before) within) k.sent.sending in
        subst (λ other. CommitRoot cluster all x other c.settled.t c.settled.deps)
        (some_is k.body at.body (sym (bodies_are_begun cluster all whole.stands commit k.body sending refl) ∙ begun))
        (earlier commit k.sent k.from k.to x c.ballot k.body c.settled.t c.settled.deps refl)
    root_of_move a past x at s m begun (CommitsIt p phase major) =
        let start : ℕ = clock_start cluster.starts (node_of a) in
        let own : Actor = actor_of (node_of a) 0 in
        let one =
        one_sent cluster items h whole.valid a past x at (λ store. Accept own store x at.ballot at.body p.t p.deps) m
        (subst (Entered cluster.layout (node_of a) start x past at.ballot at.body) phase m.entered) in
        record {
          ballot = at.ballot;
          proposed = p.deps;
          answers = at.answers;
          accepted =
              record {
                proposal =
                    record {
                      from = own;
                      to = one.0;
                      sending = Sending-past items all (Accept own one.0 x at.ballot at.body p.t p.deps) within one.1;
                    };
                are = answers_in cluster all items x at (Accepting p) within m.are phase;
                majority = major;
              };
          deps_are = refl;
        }

    root_of_sender : (from to : Actor) (x : TxnId) (b : Ballot) (body : BodyParts) (t : Stamp) (deps : List ShardDeps)
        → IsBody cluster all x body → Sender cluster items (Commit from to x b body t deps) → CommitRoot cluster all x body t deps
    root_of_sender from to x b body t deps begun (IsStore f) =
        absurd (store_commits_none cluster.layout from f.past f.step.message from to x b body t deps (store_sent cluster items from (Commit from to x b body t deps) h f))
    root_of_sender from to x b body t deps begun (IsNode f) =
        let start : ℕ = clock_start cluster.starts (node_of from) in
        let s : Settled = record { t = t; deps = deps } in
        let c =
        commitment cluster.layout (node_of from) start f.past f.deed.act from to x b body t deps (node_sent cluster items from (Commit from to x b body t deps) h f) in
        subst (λ other. CommitRoot cluster all x other t deps) c.of_body
        (root_of_move from f.past x c.attempt s
        (moving cluster items h from f.is_node f.deed f.past f.at x c.attempt (CommitTo s) c.reacts)
        (subst (IsBody cluster all x) (sym c.of_body) begun)
        (commitment_moves cluster.layout (node_of from) start f.past x f.deed.act c.attempt s c.reacts))

    rooted : (m : Message) → Sending items m → Rooted m
    rooted m sent from to x b body t deps is =
        let commit : Message = Commit from to x b body t deps in
        let sending : Sending items commit = subst (Sending items) is sent in
        root_of_sender from to x b body t deps
        (bodies_are_begun cluster all whole.stands commit body (Sending-past items all commit within sending) refl)
        (sender cluster items commit h sending)

  pub commits_have_roots : CommitsHaveRoots cluster all
  commits_have_roots x body b t deps c =
      each_within cluster all Rooted rooted whole.stands (Commit c.from c.to x b body t deps) c.sending c.from c.to x b body t deps refl
