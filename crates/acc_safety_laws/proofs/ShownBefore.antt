-- The records that views show, and what stores tell, come from messages that were sent before.
use Rattle.std.proofs.Common.{◌≡◌, ℕ, true, false, List, Some, sym, ◌∙◌, ap, subst}
use Rattle.acc_stamp.specs.declared.stamps.Stamp.{Stamp}
use Rattle.acc_stamp.specs.declared.stamps.TxnId.{TxnId}
use Rattle.acc_stamp.specs.declared.stamps.Ballot.{Ballot}
use Rattle.acc_stamp.specs.declared.actors.Actor.{Actor}
use Rattle.acc_stamp.specs.Actor.{node_of}
use Rattle.acc_topology.specs.Layout.{Layout}
use Rattle.acc_deps.specs.declared.shards.ShardDeps.{ShardDeps}
use Rattle.acc_deps.specs.declared.records.Settled.{Settled}
use Rattle.acc_deps.specs.declared.records.View.{View}
use Rattle.acc_deps.specs.Records.{Stably, stably_all, least_stably, Claim, claims_of, highest_claim, record_of, shown_as}
use Rattle.acc_deps.proofs.Adopted.{stable_is_shown, claim_is_shown}
use Rattle.acc_txn.specs.declared.parts.BodyParts.{BodyParts}
use Rattle.acc_message.specs.declared.message.Message.{Message}
use Rattle.acc_message.specs.declared.message.Message.TheVariants.{Accept, Commit, Decided}
use Rattle.acc_message.specs.declared.item.Item.{Item}
use Rattle.acc_message.specs.Fields.{from_of}
use Rattle.acc_message.specs.Taken.{Taken}
use Rattle.acc_message.specs.BallotRules.{is_recover_ok, accepted_of, committed_of, stable_of}
use Rattle.acc_message.specs.RecoveryDecision.{views_in}
use Rattle.acc_message.specs.NodeRules.{Act, Deed}
use Rattle.acc_message.specs.Run.{Cluster, clock_start, taken_of, EachStands}
use Rattle.acc_safety.specs.Places.{IsIn, IsPast}
use Rattle.acc_safety.specs.Histories.{Sending, Sender, IsStore, IsNode}
use Rattle.acc_safety.specs.StoreSends.{StoreSends, Tells}
use Rattle.acc_safety.specs.NodeMoves.{NodeSends}
use Rattle.acc_safety.specs.Polls.{IsBody, AreAnswers}
use Rattle.acc_safety.proofs.PlaceOrder.{Contains-IsIn, StandsAt-whole}
use Rattle.acc_safety.proofs.Bridge.{sender}
use Rattle.acc_safety.proofs.Frame.{store_sent, node_sent, past_of}
use Rattle.acc_safety.proofs.StoreNotions.{accepted_from, committed_from, Settling, stable_from}
use Rattle.acc_safety.proofs.Prefixes.{SentBefore, store_took_before}
use Rattle.acc_safety_laws.proofs.Revealed.{view_from, view_there}

-- a message that settled x so was sent before
pub record SettledBefore (items : List Item) (x : TxnId) (s : Settled) : Type 0 where
  pub message : Message
  pub settling : Settling x s message
  pub sent : SentBefore items message

-- a message of this kind, from and to some actors and with some body, was sent before
pub record KindBefore (items : List Item) (kind : Actor → Actor → BodyParts → Message) : Type 0 where
  pub from : Actor
  pub to : Actor
  pub body : BodyParts
  pub sent : SentBefore items (kind from to body)

module _ (cluster : Cluster) (items : List Item) (h : EachStands cluster items) where
  -- what settled x at a store was sent before
  pub settled_before : (a : Actor) (past : List Taken) (x : TxnId) (s : Settled) → IsPast past (taken_of cluster a items) → stable_of past x ≡ Some s
      → SettledBefore items x s
  settled_before a past x s within is =
      let f = stable_from past x s is in
      record {
        message = f.step.message;
        settling = f.settling;
        sent = store_took_before cluster a items h f.step f.past (StandsAt-whole f.step f.past past (taken_of cluster a items) f.at within);
      }

  module _ (x : TxnId) (body : BodyParts) (b : Ballot) (answers : List Message) (begun : IsBody cluster items x body)
      (are : AreAnswers cluster items x body b is_recover_ok answers) where
    -- a view has its records from a past of its store
    record ViewOf (view : View) : Type 0 where
      pub store : Actor
      pub past : List Taken
      pub within : IsPast past (taken_of cluster store items)
      pub stable_is : view.stable ≡ stable_of past x
      pub accepted_is : view.accepted ≡ accepted_of past x
      pub committed_is : view.committed ≡ committed_of past x

    view_of_answer : (view : View) → IsIn view (views_in answers) → ViewOf view
    view_of_answer view there =
        let f = view_from answers view there in
        let v = view_there cluster items h x body b f.message view begun (are f.message f.there) f.is in
        record {
          store = from_of f.message;
          past = v.past;
          within = past_of v.step v.past (taken_of cluster (from_of f.message) items) v.at;
          stable_is = ap (λ (w : View). w.stable) v.answer.view_is;
          accepted_is = ap (λ (w : View). w.accepted) v.answer.view_is;
          committed_is = ap (λ (w : View). w.committed) v.answer.view_is;
        }

    pub stable_before : (s : Stably) → least_stably (stably_all (views_in answers)) ≡ Some s → SettledBefore items x s.settled
    stable_before s is =
        let shown = stable_is_shown (views_in answers) s is in
        let v = view_of_answer shown.view (Contains-IsIn shown.view (views_in answers) shown.there) in
        settled_before v.store v.past x s.settled v.within (sym v.stable_is ∙ shown.shows)

    pub committed_before : (c : Claim) → highest_claim (claims_of (views_in answers)) ≡ Some c → c.is_committed ≡ true
        → KindBefore items (λ from to other. Commit from to x c.ballot other c.settled.t c.settled.deps)
    committed_before c is kind =
        let shown = claim_is_shown (views_in answers) c is in
        let v = view_of_answer shown.view (Contains-IsIn shown.view (views_in answers) shown.there) in
        let f = committed_from v.past x (record_of c) (sym v.committed_is ∙ sym (ap (shown_as shown.view) kind) ∙ shown.shows) in
        record {
          from = f.from;
          to = f.to;
          body = f.body;
          sent =
              subst (SentBefore items) f.message_is
              (store_took_before cluster v.store items h f.step f.past (StandsAt-whole f.step f.past v.past (taken_of cluster v.store items) f.at v.within));
        }

    pub accepted_before : (c : Claim) → highest_claim (claims_of (views_in answers)) ≡ Some c → c.is_committed ≡ false
        → KindBefore items (λ from to other. Accept from to x c.ballot other c.settled.t c.settled.deps)
    accepted_before c is kind =
        let shown = claim_is_shown (views_in answers) c is in
        let v = view_of_answer shown.view (Contains-IsIn shown.view (views_in answers) shown.there) in
        let f = accepted_from v.past x (record_of c) (sym v.accepted_is ∙ sym (ap (shown_as shown.view) kind) ∙ shown.shows) in
        record {
          from = f.from;
          to = f.to;
          body = f.body;
          sent =
              subst (SentBefore items) f.message_is
              (store_took_before cluster v.store items h f.step f.past (StandsAt-whole f.step f.past v.past (taken_of cluster v.store items) f.at v.within));
        }

-- ---- what a store tells

told : (layout : Layout) (own : Actor) (past : List Taken) (taken : Message) (from to : Actor) (x : TxnId) (b : Ballot) (t : Stamp) (deps : List ShardDeps)
    → StoreSends layout own past taken (Decided from to x b t deps) → stable_of past x ≡ Some (record { t = t; deps = deps })
told layout own past taken from to x b t deps (Tells m s is) = is

-- no node tells so
node_tells_none : (layout : Layout) (node start : ℕ) (past : List Deed) (act : Act) (from to : Actor) (x : TxnId) (b : Ballot) (t : Stamp) (deps : List ShardDeps)
    → NodeSends layout node start past act (Decided from to x b t deps) → ⊥
node_tells_none layout node start past act from to x b t deps h = elim h [ ]

-- the record of which a store tells was sent before
pub told_before : (cluster : Cluster) (items : List Item) (from to : Actor) (x : TxnId) (b : Ballot) (t : Stamp) (deps : List ShardDeps) → EachStands cluster items
    → Sending items (Decided from to x b t deps) → SettledBefore items x (record { t = t; deps = deps })
told_before cluster items from to x b t deps h s = by (sender cluster items (Decided from to x b t deps) h s)
  where
    by : Sender cluster items (Decided from to x b t deps) → SettledBefore items x (record { t = t; deps = deps })
    by (IsStore f) =
        settled_before cluster items h from f.past x (record { t = t; deps = deps }) (past_of f.step f.past (taken_of cluster from items) f.at)
        (told cluster.layout from f.past f.step.message from to x b t deps (store_sent cluster items from (Decided from to x b t deps) h f))
    by (IsNode f) =
        absurd (node_tells_none cluster.layout (node_of from) (clock_start cluster.starts (node_of from)) f.past f.deed.act from to x b t deps
        (node_sent cluster items from (Decided from to x b t deps) h f))
