-- What ends an attempt: a store that has promised a greater ballot.
use Rattle.std.proofs.Common.{◌≡◌, ℕ, Bool, true, false, cond, if◌then◌else◌, List, ◌∷◌, Some, refl, sym, ◌∙◌, ap, subst, arith}
use Rattle.std.proofs.lemmas.Bool.{true≢false, and_parts}
use Rattle.acc_stamp.specs.declared.stamps.TxnId.{TxnId}
use Rattle.acc_stamp.specs.declared.stamps.Ballot.{Ballot}
use Rattle.acc_stamp.specs.declared.actors.Actor.{Actor}
use Rattle.acc_stamp.specs.Actor.{node_of}
use Rattle.acc_stamp.specs.Stamp.{id_eq, ballot_eq, ballot_lt, zero_ballot}
use Rattle.acc_stamp.proofs.Order.{id_order, ballot_order, le-trans}
use Rattle.acc_topology.specs.Layout.{Layout}
use Rattle.acc_txn.specs.declared.parts.BodyParts.{BodyParts}
use Rattle.acc_message.specs.declared.message.Message.{Message}
use Rattle.acc_message.specs.declared.message.Message.TheVariants.{Accept, Commit, Recover, Nack}
use Rattle.acc_message.specs.declared.item.Item.{Item}
use Rattle.acc_message.specs.declared.note.Note.{Note}
use Rattle.acc_message.specs.declared.note.Note.TheVariants.{Begin as BeginNote, Recover as RecoverNote, Blocked, Ended, Decide as DecideNote, Outcome as OutcomeNote, Reply as ReplyNote}
use Rattle.acc_message.specs.Fields.{id_of, ballot_of}
use Rattle.acc_message.specs.Items.{notes_of}
use Rattle.acc_message.specs.Taken.{Taken, body_in}
use Rattle.acc_message.specs.BallotRules.{greater_ballot, grants, promise_of}
use Rattle.acc_message.specs.Attempts.{Attempt}
use Rattle.acc_message.specs.Coordinator.{with_answer}
use Rattle.acc_message.specs.NodeRules.{Act, Takes, Deed}
use Rattle.acc_message.specs.Run.{Cluster, clock_start, deeds_of, taken_of, is_node, EachStands}
use Rattle.acc_actor_laws.proofs.StoreFacts.{promise_of-kept}
use Rattle.acc_safety.specs.Places.{IsIn, StandsAt, IsPast, Whole, Behind}
use Rattle.acc_safety.specs.Histories.{Sending, Sender, IsStore, IsNode}
use Rattle.acc_safety.specs.NodeMoves.{EndBy, Moves, Hears, Counts, IsEnded, Reacts, ToSlow, ToMessage, NodeSends, AsksForVotes, AsksForViews, Proposes, Commits as CommitsTo, Decides, Finishes, Informs, NodeNotes, NotesBegin, NotesRecover, NotesDecision, NotesOutcome, NotesReply, NotesTold, NotesBlocked, NotesEnded}
use Rattle.acc_safety.specs.StoreSends.{StoreSends, Votes, Accepts, Commits, Reveals, ReadsAtOnce, ReadsOnOpening, Refuses, Tells}
use Rattle.acc_safety.proofs.PlaceOrder.{passing, StandsAt-whole}
use Rattle.acc_safety.proofs.Bridge.{node_step, taken_was_sent, sender, noted_by}
use Rattle.acc_safety.proofs.Frame.{past_of, store_sent, node_sent, node_noted}
use Rattle.acc_safety_laws.proofs.Noted.{noting}
use Rattle.acc_calm.proofs.ZeroBallots.{is_request}
use Rattle.acc_delivered.proofs.Started.{past, body}
use Rattle.acc_delivered.specs.Ends.{tells_ended, is_ended}
use Rattle.acc_delivered.specs.Laws.{is_read_or_later}

-- ---- a refusal

pub nack_promised : (own : Actor) (past : List Taken) (layout : Layout) (taken m : Message) (from to : Actor) (id : TxnId) (b promised : Ballot) → StoreSends layout own past taken m
    → m ≡ Nack from to id b promised → promised ≡ promise_of past id
nack_promised own past layout taken m from to id b promised (Votes f g x c body counting v s p k e) is = absurd (grind arith)
nack_promised own past layout taken m from to id b promised (Accepts f g x c body counting t proposed deps s p k e) is = absurd (grind arith)
nack_promised own past layout taken m from to id b promised (Commits f g x c body t deps s p) is = absurd (grind arith)
nack_promised own past layout taken m from to id b promised (Reveals f g x c body counting view p k e) is = absurd (grind arith)
nack_promised own past layout taken m from to id b promised (ReadsAtOnce f g x c body t deps answer p e) is = absurd (grind arith)
nack_promised own past layout taken m from to id b promised (ReadsOnOpening n change d answer before among opens there e) is = absurd (grind arith)
nack_promised own past layout taken m from to id b promised (Refuses n other e) is = sym (same_promise is) ∙ e ∙ ap (promise_of past) (same_id is)
  where
    same_promise : {f g k l : Actor} {y z : TxnId} {c d p q : Ballot} → Nack f g y c p ≡ Nack k l z d q → p ≡ q
    same_promise e = cc

    same_id : {f g k l : Actor} {y z : TxnId} {c d p q : Ballot} → Nack f g y c p ≡ Nack k l z d q → y ≡ z
    same_id e = cc
nack_promised own past layout taken m from to id b promised (Tells n s e) is = absurd (grind arith)

pub nodes_refuse_nothing : (layout : Layout) (node start : ℕ) (past : List Deed) (act : Act) (m : Message) (from to : Actor) (id : TxnId) (b promised : Ballot)
    → m ≡ Nack from to id b promised → NodeSends layout node start past act m → ⊥
nodes_refuse_nothing layout node start past act m from to id b promised is (AsksForVotes txn body store) = grind arith
nodes_refuse_nothing layout node start past act m from to id b promised is (AsksForViews x body store) = grind arith
nodes_refuse_nothing layout node start past act m from to id b promised is (Proposes on x k s store reacts) = grind arith
nodes_refuse_nothing layout node start past act m from to id b promised is (CommitsTo on x k s store reacts) = grind arith
nodes_refuse_nothing layout node start past act m from to id b promised is (Decides on x k path s store reacts noted) = grind arith
nodes_refuse_nothing layout node start past act m from to id b promised is (Finishes on x k s outcome store reacts) = grind arith
nodes_refuse_nothing layout node start past act m from to id b promised is (Informs on x k s outcome reacts) = grind arith

pub never_ends : (layout : Layout) (x : TxnId) (a : Attempt) (above : Ballot) → Moves layout x a (EndBy above) → ⊥
never_ends layout x a above moves = elim moves [ ]

-- a store refused the attempt at x with this ballot for a greater promise
pub record Refused (cluster : Cluster) (items : List Item) (x : TxnId) (c : Ballot) : Type 0 where
  pub store : Actor
  pub is_store : is_node store ≡ false
  pub step : Taken
  pub past : List Taken
  pub at : StandsAt step past (taken_of cluster store items)
  pub above : ballot_lt c (promise_of past x) ≡ true

module _ (cluster : Cluster) (items : List Item) (h : EachStands cluster items) (x : TxnId) (c : Ballot) where
  refused_by : (from to : Actor) (promised : Ballot) → Sending items (Nack from to x c promised) → ballot_lt c promised ≡ true → Refused cluster items x c
  refused_by from to promised s above = by (sender cluster items (Nack from to x c promised) h s)
    where
      by : Sender cluster items (Nack from to x c promised) → Refused cluster items x c
      by (IsStore f) =
          record {
            store = from;
            is_store = f.is_store;
            step = f.step;
            past = f.past;
            at = f.at;
            above =
                subst (λ p. ballot_lt c p ≡ true)
                (nack_promised from f.past cluster.layout f.step.message (Nack from to x c promised) from to x c promised (store_sent cluster items from (Nack from to x c promised) h f) refl)
                above;
          }
      by (IsNode f) =
          absurd (nodes_refuse_nothing cluster.layout (node_of from) (clock_start cluster.starts (node_of from)) f.past f.deed.act (Nack from to x c promised) from to x c promised refl
          (node_sent cluster items from (Nack from to x c promised) h f))

  heard_end : (a : Actor) (deed : Deed) (past : List Deed) → StandsAt deed past (deeds_of cluster a items) → (y : TxnId) (k : Attempt) (above : Ballot)
      → Reacts cluster.layout (node_of a) (clock_start cluster.starts (node_of a)) past y deed.act k (EndBy above) → y ≡ x → k.ballot ≡ c → Refused cluster items x c
  heard_end a deed past at y k above reacts same of_ballot = by deed.act refl reacts
    where
      of_message : (m : Message) (before j : Attempt) → deed.act ≡ Takes m → id_of m ≡ y → j.ballot ≡ c → Hears cluster.layout y before m j (EndBy above) → Refused cluster items x c
      of_message m before j act_is about of_c (Counts n moved same_ballot counting moves) = absurd (never_ends cluster.layout y (with_answer before n) above moves)
      of_message m before j act_is about of_c (IsEnded from to id ballot promised same_ballot higher) =
          let n = node_step cluster a items h deed past at in
          let was = taken_was_sent cluster a items deed past (Nack from to id ballot promised) n act_is in
          refused_by from to promised
          (subst (λ z. Sending items (Nack from to z c promised)) (about ∙ same)
          (subst (λ d. Sending items (Nack from to id d promised)) (same_ballot ∙ of_c)
          (record { entry = was.sending.entry; earlier = was.sending.earlier; at = StandsAt-whole _ was.sending.earlier n.earlier items was.sending.at (past_of _ n.earlier items n.at); sent = was.sending.sent })))
          (subst (λ d. ballot_lt d promised ≡ true) of_c higher)

      by : (act : Act) → deed.act ≡ act → Reacts cluster.layout (node_of a) (clock_start cluster.starts (node_of a)) past y act k (EndBy above) → Refused cluster items x c
      by act act_is (ToMessage before j m moved is about hears) = of_message m before j act_is about of_ballot hears
      by act act_is (ToSlow j moved is moves) = absurd (never_ends cluster.layout y j above moves)

  ended_note : (note : Note) → tells_ended x c note ≡ true → (by : Ballot) × (note ≡ Ended x c by)
  ended_note (Ended id ballot by) is =
      let parts = and_parts (id_eq id x) (ballot_eq ballot c) is in
      (by, ap (λ y. Ended y ballot by) ((id_order.decides id x).0 parts.0) ∙ ap (λ d. Ended x d by) ((ballot_order.decides ballot c).0 parts.1))
  ended_note (BeginNote id) is = absurd (true≢false (sym is))
  ended_note (RecoverNote id ballot) is = absurd (true≢false (sym is))
  ended_note (Blocked id ballot by) is = absurd (true≢false (sym is))
  ended_note (DecideNote id t path deps) is = absurd (true≢false (sym is))
  ended_note (OutcomeNote id reply) is = absurd (true≢false (sym is))
  ended_note (ReplyNote id reply) is = absurd (true≢false (sym is))

  pub was_refused : is_ended x c items ≡ true → Refused cluster items x c
  was_refused ended =
      let p = passing (tells_ended x c) (notes_of items) ended in
      let k = ended_note p.element p.passes in
      let f = noted_by cluster items (Ended x c k.0) h (noting items (Ended x c k.0) (subst (λ n. IsIn n (notes_of items)) k.1 p.there)) in
      by f.actor f.deed f.past f.at (Ended x c k.0) refl (node_noted cluster items (Ended x c k.0) h f)
    where
      same_id : {y z : TxnId} {d e : Ballot} {u v : Ballot} → Ended y d u ≡ Ended z e v → y ≡ z
      same_id e = cc

      same_ballot : {y z : TxnId} {d e : Ballot} {u v : Ballot} → Ended y d u ≡ Ended z e v → d ≡ e
      same_ballot e = cc

      by : (a : Actor) (deed : Deed) (past : List Deed) → StandsAt deed past (deeds_of cluster a items) → {above : Ballot} (note : Note) → note ≡ Ended x c above
          → NodeNotes cluster.layout (node_of a) (clock_start cluster.starts (node_of a)) past deed.act note → Refused cluster items x c
      by a deed past at note is (NotesBegin txn body) = absurd (grind arith)
      by a deed past at note is (NotesRecover y body) = absurd (grind arith)
      by a deed past at note is (NotesDecision act y k path s reacts) = absurd (grind arith)
      by a deed past at note is (NotesOutcome act y k s outcome reacts) = absurd (grind arith)
      by a deed past at note is (NotesReply act y k s outcome reacts client) = absurd (grind arith)
      by a deed past at note is (NotesTold from to y d outcome client) = absurd (grind arith)
      by a deed past at note is (NotesBlocked act y k ids reacts) = absurd (grind arith)
      by a deed past at note is (NotesEnded act y k above reacts) = heard_end a deed past at y k above reacts (same_id is) (same_ballot is)

pub in_other : (m : Message) (xs ys : List Message) (o : Bool) → o ≡ false → IsIn m ys → IsIn m (cond o xs ys)
in_other m xs ys true h there = absurd (true≢false h)
in_other m xs ys false h there = there

-- ---- promises

pub promise_past : (x : TxnId) (past history : List Taken) → IsPast past history → ballot_lt (promise_of history x) (promise_of past x) ≡ false
promise_past x past history (Whole xs) = ballot_order.irrefl (promise_of xs x)
promise_past x past history (Behind step ys xs there) =
    le-trans ballot_order (promise_of ys x) (promise_of xs x) (promise_of (step ∷ xs) x) (promise_past x ys xs there) (promise_of-kept step xs x)

-- a granted ballot isn't above the promise that it leaves
pub granted_kept : (x : TxnId) (step : Taken) (past : List Taken) → grants x step.message step.sent ≡ true → ballot_lt (promise_of (step ∷ past) x) (ballot_of step.message) ≡ false
granted_kept x step past granted =
    subst (λ b. ballot_lt (greater_ballot (promise_of past x) b) (ballot_of step.message) ≡ false) (sym (ap (λ o. cond o (ballot_of step.message) zero_ballot) granted))
    (by (ballot_lt (promise_of past x) (ballot_of step.message)) refl)
  where
    by : (o : Bool) → ballot_lt (promise_of past x) (ballot_of step.message) ≡ o
        → ballot_lt (if o then ballot_of step.message else promise_of past x) (ballot_of step.message) ≡ false
    by true lower = ballot_order.irrefl (ballot_of step.message)
    by false higher = higher

-- what is granted is a request with a body, and no answer to a read
pub granted_request : (x : TxnId) (m : Message) (sent : List Message) → grants x m sent ≡ true
    → (id_of m ≡ x) × (is_request m ≡ true) × (is_read_or_later m ≡ false) × ((body : BodyParts) × (body_in m ≡ Some body))
granted_request x (Accept from to id ballot body t deps) sent h = ((id_order.decides id x).0 (and_parts (id_eq id x) _ h).0, refl, refl, (body, refl))
granted_request x (Commit from to id ballot body t deps) sent h = ((id_order.decides id x).0 (and_parts (id_eq id x) _ h).0, refl, refl, (body, refl))
granted_request x (Recover from to id ballot body) sent h = ((id_order.decides id x).0 (and_parts (id_eq id x) _ h).0, refl, refl, (body, refl))
granted_request x m sent h = absurd (true≢false (sym h))
