-- The attempt that moves in a step of a run: its body is the begun one, its phase and ballot are those before, its answers are
-- those of stores, and what brought it to its phase was sent.
use Rattle.std.proofs.Common.{◌≡◌, ℕ, true, List, Some, refl, sym, ◌∙◌, subst}
use Rattle.acc_stamp.specs.declared.stamps.TxnId.{TxnId}
use Rattle.acc_stamp.specs.declared.actors.Actor.{Actor}
use Rattle.acc_stamp.specs.Actor.{node_of}
use Rattle.acc_stamp.specs.Stamp.{zero_ballot}
use Rattle.acc_topology.specs.Layout.{Layout}
use Rattle.acc_message.specs.declared.message.Message.{Message}
use Rattle.acc_message.specs.declared.item.Item.{Item}
use Rattle.acc_message.specs.Attempts.{Attempt, Phase, Voting}
use Rattle.acc_message.specs.NodeRules.{Act, Deed, attempt_of}
use Rattle.acc_message.specs.Run.{Cluster, clock_start, deeds_of, is_node, EachStands}
use Rattle.acc_actor_laws.proofs.PhaseFacts.{first_has_zero}
use Rattle.acc_safety.specs.Places.{StandsAt, IsPast}
use Rattle.acc_safety.specs.Histories.{Sending}
use Rattle.acc_safety.specs.NodeMoves.{Move, Hears, Ignores, Counts, IsEnded, TakesOver, Reacts, ToSlow, ToMessage}
use Rattle.acc_safety.specs.Attempted.{kind_of}
use Rattle.acc_safety.specs.Polls.{IsBody, AreAnswers}
use Rattle.acc_safety.specs.Valid.{IsValidCluster}
use Rattle.acc_safety.proofs.BodiesBegun.{attempt_body}
use Rattle.acc_safety.proofs.Frame.{past_of}
use Rattle.acc_safety.proofs.Polled.{moving_polled}
use Rattle.acc_safety_laws.proofs.Phased.{SentToAll, HasEntered, has_entered}
use Rattle.acc_safety_laws.proofs.Within.{AreAnswers-past, begun_has_store, sent_to_one}

-- the attempt before the step
record Former (layout : Layout) (node start : ℕ) (past : List Deed) (x : TxnId) (a : Attempt) : Type 0 where
  pub attempt : Attempt
  pub is : attempt_of layout node start x past ≡ Some attempt
  pub same_body : attempt.body ≡ a.body
  pub same_ballot : attempt.ballot ≡ a.ballot
  pub same_phase : attempt.phase ≡ a.phase

former_hears : (layout : Layout) (node start : ℕ) (past : List Deed) (x : TxnId) (before : Attempt) (m : Message) (a : Attempt) (move : Move)
    → attempt_of layout node start x past ≡ Some before → Hears layout x before m a move → Former layout node start past x a
former_hears layout node start past x before m a move is (Ignores n) =
    record { attempt = before; is = is; same_body = refl; same_ballot = refl; same_phase = refl }
former_hears layout node start past x before m a move is (Counts n moved same counting moves) =
    record { attempt = before; is = is; same_body = refl; same_ballot = refl; same_phase = refl }
former_hears layout node start past x before m a move is (IsEnded from to id ballot promised same above) =
    record { attempt = before; is = is; same_body = refl; same_ballot = refl; same_phase = refl }
former_hears layout node start past x before m a move is (TakesOver from to id ballot t deps same undecided ready) =
    record { attempt = before; is = is; same_body = refl; same_ballot = refl; same_phase = refl }

former : (layout : Layout) (node start : ℕ) (past : List Deed) (x : TxnId) (act : Act) (a : Attempt) (move : Move)
    → Reacts layout node start past x act a move → Former layout node start past x a
former layout node start past x act a move (ToSlow b moved is moves) =
    record { attempt = b; is = is; same_body = refl; same_ballot = refl; same_phase = refl }
former layout node start past x act a move (ToMessage before b m moved is about hears) = former_hears layout node start past x before m b moved is hears

-- what holds of the attempt at x that moves, in a prefix of the whole
pub record Moving (cluster : Cluster) (items : List Item) (a : Actor) (past : List Deed) (x : TxnId) (at : Attempt) : Type 0 where
  pub is_node : is_node a ≡ true
  pub within : IsPast past (deeds_of cluster a items)
  pub begun : IsBody cluster items x at.body
  pub first : at.phase ≡ Voting → at.ballot ≡ zero_ballot
  pub are : AreAnswers cluster items x at.body at.ballot (kind_of at.phase) at.answers
  pub entered : HasEntered cluster.layout (node_of a) (clock_start cluster.starts (node_of a)) x past at

pub moving : (cluster : Cluster) (items : List Item) (h : EachStands cluster items) (a : Actor) → is_node a ≡ true → (deed : Deed) (past : List Deed)
    → StandsAt deed past (deeds_of cluster a items) → (x : TxnId) (at : Attempt) (move : Move)
    → Reacts cluster.layout (node_of a) (clock_start cluster.starts (node_of a)) past x deed.act at move → Moving cluster items a past x at
moving cluster items h a node deed past there x at move reacts =
    let start : ℕ = clock_start cluster.starts (node_of a) in
    let f = former cluster.layout (node_of a) start past x deed.act at move reacts in
    record {
      is_node = node;
      within = past_of deed past (deeds_of cluster a items) there;
      begun =
          subst (IsBody cluster items x) f.same_body
          (attempt_body cluster items h a node past x f.attempt (past_of deed past (deeds_of cluster a items) there) f.is);
      first = λ voting. sym f.same_ballot ∙ first_has_zero cluster.layout (node_of a) start x past f.attempt f.is (f.same_phase ∙ voting);
      are = moving_polled cluster items h a node deed past x at move there reacts;
      entered = has_entered cluster.layout (node_of a) start x past deed.act at move reacts;
    }

-- the answers of a phase, in the whole
pub answers_in : (cluster : Cluster) (all items : List Item) (x : TxnId) (at : Attempt) (phase : Phase) → IsPast items all
    → AreAnswers cluster items x at.body at.ballot (kind_of at.phase) at.answers → at.phase ≡ phase
    → AreAnswers cluster all x at.body at.ballot (kind_of phase) at.answers
answers_in cluster all items x at phase within are is =
    AreAnswers-past cluster items all x at.body at.ballot (kind_of phase) at.answers within
    (subst (λ p. AreAnswers cluster items x at.body at.ballot (kind_of p) at.answers) is are)

-- a message that went to all stores of a begun body went to one
pub one_sent : (cluster : Cluster) (items : List Item) (h : EachStands cluster items) → IsValidCluster cluster → (a : Actor) (past : List Deed) (x : TxnId) (at : Attempt)
    (message_to : Actor → Message) → Moving cluster items a past x at
    → SentToAll cluster.layout (node_of a) (clock_start cluster.starts (node_of a)) past at.body message_to
    → (store : Actor) × Sending items (message_to store)
one_sent cluster items h valid a past x at message_to m sent =
    let store = begun_has_store cluster items x at.body valid m.begun in
    (store.0, sent_to_one cluster items h a m.is_node past at.body message_to store.0 m.within sent store.1)
