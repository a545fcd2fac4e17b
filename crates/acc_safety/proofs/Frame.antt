-- The frame: what every message of a run brings, and from where it comes.
use Rattle.std.proofs.Common.{◌≡◌, ℕ, ◌*◌, ◌/◌, true, false, if◌then◌else◌, List, ◌∷◌, Some, refl, sym, ◌∙◌, ap, subst, arith}
use Rattle.std.proofs.lemmas.Bool.{true≢false, false_from_ne_true}
use Rattle.acc_stamp.specs.declared.stamps.TxnId.{TxnId}
use Rattle.acc_stamp.specs.declared.stamps.Ballot.{Ballot}
use Rattle.acc_stamp.specs.declared.actors.Actor.{Actor}
use Rattle.acc_stamp.specs.Actor.{actor_of, node_of, node_of_stamp, home_of}
use Rattle.acc_stamp.specs.Stamp.{ballot_eq, zero_ballot}
use Rattle.acc_stamp.specs.History.{Draw}
use Rattle.acc_stamp.proofs.Order.{ballot_order}
use Rattle.acc_stamp.proofs.History.{draws_are_of_node}
use Rattle.acc_topology.specs.Layout.{Layout}
use Rattle.acc_txn.specs.declared.parts.BodyParts.{BodyParts}
use Rattle.acc_message.specs.declared.message.Message.{Message}
use Rattle.acc_message.specs.declared.note.Note.{Note}
use Rattle.acc_message.specs.declared.item.Item.{Item}
use Rattle.acc_message.specs.Fields.{from_of, id_of, ballot_of}
use Rattle.acc_message.specs.Taken.{Taken, body_in}
use Rattle.acc_message.specs.Attempts.{Attempt}
use Rattle.acc_message.specs.NodeRules.{Act, Deed, next_draw, next_id, next_ballot, clock_events, attempt_of}
use Rattle.acc_message.specs.Run.{Cluster, clock_start, deeds_of, taken_of, is_node, EachStands}
use Rattle.acc_actor_laws.proofs.Standing.{not_none}
use Rattle.acc_actor_laws.proofs.OpeningFacts.{some_is}
use Rattle.acc_safety.specs.Places.{IsIn, StandsAt, IsPast}
use Rattle.acc_safety.specs.Histories.{FromStore, FromNode, Sender, IsStore, IsNode, NotedBy}
use Rattle.acc_safety.specs.StoreSends.{StoreSends, Votes, Accepts, Commits, Reveals, ReadsAtOnce, ReadsOnOpening, Refuses, Tells}
use Rattle.acc_safety.specs.NodeMoves.{Move, Hears, Ignores, Counts, IsEnded, TakesOver, Reacts, ToSlow, ToMessage, NodeSends, AsksForVotes, AsksForViews, Proposes, Commits as CommitsTo, Decides, Finishes, Informs, NodeNotes}
use Rattle.acc_safety.specs.Polls.{IsBody}
use Rattle.acc_safety.specs.Attempted.{Origin, FromBegin, FromRecover}
use Rattle.acc_safety.specs.Statements.{BodiesAreBegun, HomesAreOne}
use Rattle.acc_safety.proofs.PlaceOrder.{StandsAt-IsPast, IsPast-rest}
use Rattle.acc_safety.proofs.StoreSent.{store_sends}
use Rattle.acc_safety.proofs.NodeSent.{node_sends, node_notes}
use Rattle.acc_safety.proofs.Bridge.{each_answers, each_emits, answers_at, emits_at, sender, node_is_actor}
use Rattle.acc_safety.proofs.Attempted.{origin_of}
use Rattle.acc_safety.proofs.BodiesBegun.{begin_body, recover_body, attempt_body}

-- ---- what a message of a store or of a node is, in a run

pub store_sent : (cluster : Cluster) (items : List Item) (a : Actor) (m : Message) → EachStands cluster items → (f : FromStore cluster items a m)
    → StoreSends cluster.layout a f.past f.step.message m
store_sent cluster items a m h f =
    store_sends cluster.layout a f.past f.step.message m
    (subst (IsIn m) (answers_at cluster.layout a (taken_of cluster a items) f.step f.past (each_answers cluster a items h f.is_store) f.at) f.sent)

pub node_sent : (cluster : Cluster) (items : List Item) (a : Actor) (m : Message) → EachStands cluster items → (f : FromNode cluster items a m)
    → NodeSends cluster.layout (node_of a) (clock_start cluster.starts (node_of a)) f.past f.deed.act m
node_sent cluster items a m h f =
    node_sends cluster.layout (node_of a) (clock_start cluster.starts (node_of a)) f.past f.deed.act m
    (subst (λ e. IsIn m e.out)
    (emits_at cluster.layout (node_of a) (clock_start cluster.starts (node_of a)) (deeds_of cluster a items) f.deed f.past (each_emits cluster a items h f.is_node) f.at)
    f.sent)

pub node_noted : (cluster : Cluster) (items : List Item) (note : Note) → EachStands cluster items → (f : NotedBy cluster items note)
    → NodeNotes cluster.layout (node_of f.actor) (clock_start cluster.starts (node_of f.actor)) f.past f.deed.act note
node_noted cluster items note h f =
    node_notes cluster.layout (node_of f.actor) (clock_start cluster.starts (node_of f.actor)) f.past f.deed.act note
    (subst (λ e. IsIn note e.notes)
    (emits_at cluster.layout (node_of f.actor) (clock_start cluster.starts (node_of f.actor)) (deeds_of cluster f.actor items) f.deed f.past
    (each_emits cluster f.actor items h f.is_node) f.at)
    f.noted)

-- the past of a place is a past of the whole
pub past_of : {T : Type 0} (x : T) (past xs : List T) → StandsAt x past xs → IsPast past xs
past_of x past xs at = IsPast-rest x past xs (StandsAt-IsPast x past xs at)

-- ---- the attempt before a reaction

-- the attempt that stands before the step, with the same body and ballot as the one that moves
pub record Before (layout : Layout) (node start : ℕ) (past : List Deed) (x : TxnId) (a : Attempt) : Type 0 where
  pub attempt : Attempt
  pub is : attempt_of layout node start x past ≡ Some attempt
  pub same_body : attempt.body ≡ a.body
  pub same_ballot : attempt.ballot ≡ a.ballot

before_hears : (layout : Layout) (node start : ℕ) (past : List Deed) (x : TxnId) (before : Attempt) (m : Message) (a : Attempt) (move : Move)
    → attempt_of layout node start x past ≡ Some before → Hears layout x before m a move → Before layout node start past x a
before_hears layout node start past x before m a move is (Ignores n) = record { attempt = before; is = is; same_body = refl; same_ballot = refl }
before_hears layout node start past x before m a move is (Counts n moved same counting moves) =
    record { attempt = before; is = is; same_body = refl; same_ballot = refl }
before_hears layout node start past x before m a move is (IsEnded from to id ballot promised same above) =
    record { attempt = before; is = is; same_body = refl; same_ballot = refl }
before_hears layout node start past x before m a move is (TakesOver from to id ballot t deps same undecided ready) =
    record { attempt = before; is = is; same_body = refl; same_ballot = refl }

pub before_reacts : (layout : Layout) (node start : ℕ) (past : List Deed) (x : TxnId) (act : Act) (a : Attempt) (move : Move)
    → Reacts layout node start past x act a move → Before layout node start past x a
before_reacts layout node start past x act a move (ToSlow b moved is moves) = record { attempt = b; is = is; same_body = refl; same_ballot = refl }
before_reacts layout node start past x act a move (ToMessage before b m moved is about hears) =
    before_hears layout node start past x before m b moved is hears

-- ---- bodies

store_brings_none : (layout : Layout) (own : Actor) (past : List Taken) (taken m : Message) (body : BodyParts) → StoreSends layout own past taken m
    → body_in m ≡ Some body → ⊥
store_brings_none layout own past taken m body (Votes from to x b sent counting v s p k e) is = not_none body is
store_brings_none layout own past taken m body (Accepts from to x b sent counting t proposed deps s p k e) is = not_none body is
store_brings_none layout own past taken m body (Commits from to x b sent t deps s p) is = not_none body is
store_brings_none layout own past taken m body (Reveals from to x b sent counting view p k e) is = not_none body is
store_brings_none layout own past taken m body (ReadsAtOnce from to x b sent t deps answer p e) is = not_none body is
store_brings_none layout own past taken m body (ReadsOnOpening n c b answer before among opens there e) is = not_none body is
store_brings_none layout own past taken m body (Refuses n promised e) is = not_none body is
store_brings_none layout own past taken m body (Tells n s e) is = not_none body is

module _ (cluster : Cluster) (items : List Item) (h : EachStands cluster items) where
  reacts_body : (a : Actor) (node : is_node a ≡ true) (deed : Deed) (past : List Deed) (x : TxnId) (act : Act) (at : Attempt) (move : Move)
      → StandsAt deed past (deeds_of cluster a items)
      → Reacts cluster.layout (node_of a) (clock_start cluster.starts (node_of a)) past x act at move → IsBody cluster items x at.body
  reacts_body a node deed past x act at move there reacts =
      let before = before_reacts cluster.layout (node_of a) (clock_start cluster.starts (node_of a)) past x act at move reacts in
      subst (IsBody cluster items x) before.same_body
      (attempt_body cluster items h a node past x before.attempt (past_of deed past (deeds_of cluster a items) there) before.is)

  node_brings : (a : Actor) (node : is_node a ≡ true) (deed : Deed) (past : List Deed) (act : Act) (m : Message) (body : BodyParts) → deed.act ≡ act
      → StandsAt deed past (deeds_of cluster a items)
      → NodeSends cluster.layout (node_of a) (clock_start cluster.starts (node_of a)) past act m → body_in m ≡ Some body
      → IsBody cluster items (id_of m) body
  node_brings a node deed past act m body same there (AsksForVotes txn sent store) is =
      subst (IsBody cluster items (next_id (node_of a) (clock_start cluster.starts (node_of a)) past)) (some_is sent body is)
      (begin_body cluster items h a node deed past txn sent there same)
  node_brings a node deed past act m body same there (AsksForViews x sent store) is =
      subst (IsBody cluster items x) (some_is sent body is) (recover_body cluster items h a node deed past x sent there same)
  node_brings a node deed past act m body same there (Proposes on x at s store reacts) is =
      subst (IsBody cluster items x) (some_is at.body body is) (reacts_body a node deed past x on at _ there reacts)
  node_brings a node deed past act m body same there (CommitsTo on x at s store reacts) is =
      subst (IsBody cluster items x) (some_is at.body body is) (reacts_body a node deed past x on at _ there reacts)
  node_brings a node deed past act m body same there (Decides on x at path s store reacts noted) is =
      subst (IsBody cluster items x) (some_is at.body body is) (reacts_body a node deed past x on at _ there reacts)
  node_brings a node deed past act m body same there (Finishes on x at s outcome store reacts) is =
      subst (IsBody cluster items x) (some_is at.body body is) (reacts_body a node deed past x on at _ there reacts)
  node_brings a node deed past act m body same there (Informs on x at s outcome reacts) is = absurd (not_none body is)

  brings : (m : Message) (body : BodyParts) → Sender cluster items m → body_in m ≡ Some body → IsBody cluster items (id_of m) body
  brings m body (IsStore f) is = absurd (store_brings_none cluster.layout (from_of m) f.past f.step.message m body (store_sent cluster items (from_of m) m h f) is)
  brings m body (IsNode f) is = node_brings (from_of m) f.is_node f.deed f.past f.deed.act m body refl f.at (node_sent cluster items (from_of m) m h f) is

  -- every message that brings a body brings the begun one
  pub bodies_are_begun : BodiesAreBegun cluster items
  bodies_are_begun m body s is = brings m body (sender cluster items m h s) is

-- ---- homes

node_of_draw : (node start : ℕ) (past : List Deed) → node_of_stamp (next_draw node start past) ≡ node
node_of_draw node start past = number (next_draw node start past).origin (draws_are_of_node node start (Draw ∷ clock_events past)).0
  where
    number : (origin : ℕ) → origin ≡ node * 64 → origin / 64 ≡ node
    number origin is = omega arith

not_zero : (node start : ℕ) (past : List Deed) → ballot_eq (next_ballot node start past) zero_ballot ≡ false
not_zero node start past =
    false_from_ne_true (ballot_eq (next_ballot node start past) zero_ballot)
    (λ same. above (ap (λ (b : Ballot). b.0.h) ((ballot_order.decides (next_ballot node start past) zero_ballot).0 same)))
  where
    above : (next_draw node start past).h ≡ 0 → ⊥
    above e = omega arith

-- the home of a drawn ballot is the node that drew it
home_of_draw : (node start : ℕ) (past : List Deed) (x : TxnId) → actor_of node 0 ≡ home_of x (next_ballot node start past)
home_of_draw node start past x =
    ap (λ n. actor_of n 0) (sym (node_of_draw node start past))
    ∙ ap (λ b. actor_of (if b then node_of_stamp x.0 else node_of_stamp (next_draw node start past)) 0) (sym (not_zero node start past))

origin_home : (layout : Layout) (node start : ℕ) (past : List Deed) (x : TxnId) (a : Attempt) → Origin layout node start x past a
    → actor_of node 0 ≡ home_of x a.ballot
origin_home layout node start past x a (FromBegin txn deed before at act_is drawn of_zero) =
    ap (λ n. actor_of n 0) (sym (node_of_draw node start before)) ∙ ap (λ y. home_of y zero_ballot) drawn ∙ ap (home_of x) (sym of_zero)
origin_home layout node start past x a (FromRecover deed before at act_is drawn) = home_of_draw node start before x ∙ ap (home_of x) (sym drawn)

reacts_home : (layout : Layout) (node start : ℕ) (past : List Deed) (x : TxnId) (act : Act) (a : Attempt) (move : Move)
    → Reacts layout node start past x act a move → actor_of node 0 ≡ home_of x a.ballot
reacts_home layout node start past x act a move reacts =
    let before = before_reacts layout node start past x act a move reacts in
    origin_home layout node start past x before.attempt (origin_of layout node start x past before.attempt before.is) ∙ ap (home_of x) before.same_ballot

node_home : (layout : Layout) (node start : ℕ) (past : List Deed) (act : Act) (m : Message) → NodeSends layout node start past act m
    → actor_of node 0 ≡ home_of (id_of m) (ballot_of m)
node_home layout node start past act m (AsksForVotes txn body store) = ap (λ n. actor_of n 0) (sym (node_of_draw node start past))
node_home layout node start past act m (AsksForViews x body store) = home_of_draw node start past x
node_home layout node start past act m (Proposes on x at s store reacts) = reacts_home layout node start past x on at _ reacts
node_home layout node start past act m (CommitsTo on x at s store reacts) = reacts_home layout node start past x on at _ reacts
node_home layout node start past act m (Decides on x at path s store reacts noted) = reacts_home layout node start past x on at _ reacts
node_home layout node start past act m (Finishes on x at s outcome store reacts) = reacts_home layout node start past x on at _ reacts
node_home layout node start past act m (Informs on x at s outcome reacts) = reacts_home layout node start past x on at _ reacts

home_by : (cluster : Cluster) (items : List Item) (m : Message) → EachStands cluster items → Sender cluster items m → is_node (from_of m) ≡ true
    → from_of m ≡ home_of (id_of m) (ballot_of m)
home_by cluster items m h (IsStore f) node = absurd (true≢false (sym node ∙ f.is_store))
home_by cluster items m h (IsNode f) node =
    sym (node_is_actor (from_of m) node)
    ∙ node_home cluster.layout (node_of (from_of m)) (clock_start cluster.starts (node_of (from_of m))) f.past f.deed.act m (node_sent cluster items (from_of m) m h f)

-- a message of a node comes from the home of its ballot
pub homes_are_one : (cluster : Cluster) (items : List Item) → EachStands cluster items → HomesAreOne cluster items
homes_are_one cluster items h m s node = home_by cluster items m h (sender cluster items m h s) node
