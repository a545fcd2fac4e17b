-- The answers of an attempt, in a run, are answers of stores, each with its place in its store's history.
use Rattle.std.proofs.Common.{◌≡◌, ℕ, Bool, true, false, List, ◌∷◌, refl, sym, ◌∙◌}
use Rattle.std.proofs.lemmas.Bool.{true≢false}
use Rattle.acc_stamp.specs.declared.stamps.TxnId.{TxnId}
use Rattle.acc_stamp.specs.declared.actors.Actor.{Actor}
use Rattle.acc_stamp.specs.Actor.{node_of}
use Rattle.acc_topology.specs.Layout.{Layout}
use Rattle.acc_message.specs.declared.message.Message.{Message}
use Rattle.acc_message.specs.declared.message.Message.TheVariants.{PreAcceptOk, AcceptOk, CommitOk, ReadOk, RecoverOk}
use Rattle.acc_message.specs.declared.item.Item.{Item}
use Rattle.acc_message.specs.Fields.{from_of}
use Rattle.acc_message.specs.Attempts.{Attempt, Phase, Voting, Recovering, Accepting, Committing, Executing, fits}
use Rattle.acc_message.specs.NodeRules.{Act, Deed}
use Rattle.acc_message.specs.Run.{Cluster, clock_start, deeds_of, is_node, EachStands}
use Rattle.acc_safety.specs.Places.{StandsAt, IsPast}
use Rattle.acc_safety.specs.Histories.{Sending, FromStore, Sender, IsStore, IsNode}
use Rattle.acc_safety.specs.NodeMoves.{Move, Reacts, NodeSends, AsksForVotes, AsksForViews, Proposes, Commits, Decides, Finishes, Informs}
use Rattle.acc_safety.specs.Attempted.{Took, AreAnswersOf, kind_of}
use Rattle.acc_safety.specs.Polls.{AreAnswers}
use Rattle.acc_safety.proofs.PlaceOrder.{StandsAt-whole, StandsAt-IsPast}
use Rattle.acc_safety.proofs.Bridge.{Sending-past, sender}
use Rattle.acc_safety.proofs.Attempted.{answers_kept, of_moving}
use Rattle.acc_safety.proofs.Frame.{node_sent}
use Rattle.acc_safety.proofs.Prefixes.{IsBefore-past, node_took_before}

-- a store answers by a message of one of these kinds
is_answer : Message → Bool
is_answer (PreAcceptOk from to id ballot vote deps) = true
is_answer (AcceptOk from to id ballot deps) = true
is_answer (CommitOk from to id ballot) = true
is_answer (ReadOk from to id ballot answer) = true
is_answer (RecoverOk from to id ballot view) = true
is_answer m = false

fits-answer : (phase : Phase) (m : Message) → fits phase m ≡ true → is_answer m ≡ true
unfolding is_answer
fits-answer Voting (PreAcceptOk from to id ballot vote deps) h = refl
fits-answer Voting m h = absurd (true≢false (sym h))
fits-answer Recovering (RecoverOk from to id ballot view) h = refl
fits-answer Recovering m h = absurd (true≢false (sym h))
fits-answer (Accepting s) (AcceptOk from to id ballot deps) h = refl
fits-answer (Accepting s) m h = absurd (true≢false (sym h))
fits-answer (Committing s) (CommitOk from to id ballot) h = refl
fits-answer (Committing s) m h = absurd (true≢false (sym h))
fits-answer (Executing s) (ReadOk from to id ballot answer) h = refl
fits-answer (Executing s) m h = absurd (true≢false (sym h))

-- no node sends one
node_sends_none : (layout : Layout) (node start : ℕ) (past : List Deed) (act : Act) (m : Message) → NodeSends layout node start past act m
    → is_answer m ≡ false
unfolding is_answer
node_sends_none layout node start past act m (AsksForVotes txn body store) = refl
node_sends_none layout node start past act m (AsksForViews x body store) = refl
node_sends_none layout node start past act m (Proposes on x a s store reacts) = refl
node_sends_none layout node start past act m (Commits on x a s store reacts) = refl
node_sends_none layout node start past act m (Decides on x a path s store reacts noted) = refl
node_sends_none layout node start past act m (Finishes on x a s outcome store reacts) = refl
node_sends_none layout node start past act m (Informs on x a s outcome reacts) = refl

answer_from_store : (cluster : Cluster) (items : List Item) (m : Message) → EachStands cluster items → is_answer m ≡ true → Sender cluster items m
    → FromStore cluster items (from_of m) m
answer_from_store cluster items m h answers (IsStore f) = f
answer_from_store cluster items m h answers (IsNode f) =
    absurd (true≢false (sym answers
    ∙ node_sends_none cluster.layout (node_of (from_of m)) (clock_start cluster.starts (node_of (from_of m))) f.past f.deed.act m (node_sent cluster items (from_of m) m h f)))

-- an answer that fits a phase was sent by its store
pub answer_place : (cluster : Cluster) (items : List Item) (phase : Phase) (m : Message) → EachStands cluster items → fits phase m ≡ true → Sending items m
    → FromStore cluster items (from_of m) m
answer_place cluster items phase m h fitting s = answer_from_store cluster items m h (fits-answer phase m fitting) (sender cluster items m h s)

fits-kind : (phase : Phase) (m : Message) → fits phase m ≡ true → kind_of phase m ≡ true
fits-kind Voting m h = h
fits-kind Recovering m h = h
fits-kind (Accepting s) m h = h
fits-kind (Committing s) m h = h
fits-kind (Executing s) m h = h

module _ (cluster : Cluster) (items : List Item) (h : EachStands cluster items) (a : Actor) where
  -- the answers of an attempt are those of stores
  pub polled : (past : List Deed) (x : TxnId) (at : Attempt) → IsPast past (deeds_of cluster a items) → AreAnswersOf cluster.layout x past at
      → AreAnswers cluster items x at.body at.ballot (kind_of at.phase) at.answers
  polled past x at within are m there =
      let answer = are m there in
      let took : Took (deeds_of cluster a items) m =
      record {
        deed = answer.took.deed;
        past = answer.took.past;
        at = StandsAt-whole answer.took.deed answer.took.past past (deeds_of cluster a items) answer.took.at within;
        act_is = answer.took.act_is;
      } in
      let before = node_took_before cluster a items h m took in
      record {
        is = fits-kind at.phase m answer.fitting;
        about = answer.about;
        of_ballot = answer.of_ballot;
        of_store = answer.of_store;
        place = answer_place cluster items at.phase m h answer.fitting (Sending-past before.past items m (IsBefore-past before.past items before.before) before.sending);
      }

  -- those of the attempt that moves in a step
  pub moving_polled : (is : is_node a ≡ true) (deed : Deed) (past : List Deed) (x : TxnId) (at : Attempt) (move : Move) → StandsAt deed past (deeds_of cluster a items)
      → Reacts cluster.layout (node_of a) (clock_start cluster.starts (node_of a)) past x deed.act at move
      → AreAnswers cluster items x at.body at.ballot (kind_of at.phase) at.answers
  moving_polled is deed past x at move there reacts =
      polled (deed ∷ past) x at (StandsAt-IsPast deed past (deeds_of cluster a items) there)
      (of_moving cluster.layout (node_of a) (clock_start cluster.starts (node_of a)) x (AreAnswersOf cluster.layout x)
      (answers_kept cluster.layout x (node_of a) (clock_start cluster.starts (node_of a))) deed.act deed.emitted past at move reacts)
