-- Where an Apply of a transaction was sent the transaction is decided and has its outcome.
use Rattle.std.proofs.Common.{◌≡◌, Bool, true, false, ◌&&◌, List, [], ◌∷◌, Option, None, Some, refl, sym, ◌∙◌, ap, subst, arith}
use Rattle.std.proofs.lemmas.Bool.{true≢false, and_parts}
use Rattle.acc_stamp.specs.declared.stamps.Stamp.{Stamp}
use Rattle.acc_stamp.specs.declared.stamps.TxnId.{TxnId}
use Rattle.acc_stamp.specs.declared.stamps.Ballot.{Ballot}
use Rattle.acc_stamp.specs.declared.actors.Actor.{Actor}
use Rattle.acc_stamp.specs.Actor.{actor_of, node_of}
use Rattle.acc_stamp.proofs.Order.{ballot_order}
use Rattle.acc_topology.specs.Layout.{Layout}
use Rattle.acc_deps.specs.declared.shards.ShardDeps.{ShardDeps}
use Rattle.acc_deps.specs.declared.records.Settled.{Settled}
use Rattle.acc_txn.specs.declared.parts.BodyParts.{BodyParts}
use Rattle.acc_txn.specs.declared.outcome.Outcome.{Outcome}
use Rattle.acc_message.specs.declared.message.Message.{Message}
use Rattle.acc_message.specs.declared.message.Message.TheVariants.{Accept, ReadOk, Apply}
use Rattle.acc_message.specs.declared.entry.Emitted.{Emitted}
use Rattle.acc_message.specs.declared.item.Item.{Item}
use Rattle.acc_message.specs.declared.note.Note.TheVariants.{Decide as DecideNote, Outcome as OutcomeNote}
use Rattle.acc_message.specs.Fields.{from_of, id_of, ballot_of}
use Rattle.acc_message.specs.Shares.{stores_used, is_store_of}
use Rattle.acc_message.specs.Attempts.{Attempt, Executing, fits, counts, outcome_from}
use Rattle.acc_message.specs.Coordinator.{Reaction, when, slow_down, highest_vote, may_slow_down, slow_reaction, with_answer, finish, finish_with, after_answer, on_message, reaction}
use Rattle.acc_message.specs.NodeRules.{Act, Takes, Deed, attempt_of, is_open, emitted_by, with_reply, node_emits}
use Rattle.acc_message.specs.Run.{Cluster, clock_start, deeds_of, is_node, EachStands}
use Rattle.acc_safety.specs.Places.{IsIn, First, StandsAt}
use Rattle.acc_safety.specs.Histories.{Sending, Sender, IsStore, IsNode}
use Rattle.acc_safety.specs.NodeMoves.{FinishWith, HasOutcome, Hears, Counts, Reacts, ToSlow, ToMessage, NodeSends, AsksForVotes, AsksForViews, Proposes, Commits as CommitsTo, Decides, Finishes, Informs}
use Rattle.acc_safety.proofs.PlaceOrder.{none_is_in, IsIn-map, StandsAt-whole}
use Rattle.acc_safety.proofs.Bridge.{EachEmits-past, each_emits, emits_at, node_step, sender}
use Rattle.acc_safety.proofs.Frame.{past_of, store_sent, node_sent}
use Rattle.acc_calm.proofs.ZeroBallots.{store_asks_nothing}
use Rattle.acc_delivered.specs.Ends.{was_decided, had_outcome}
use Rattle.acc_delivered.specs.Laws.{AppliesAreTold}
use Rattle.acc_delivered.proofs.Courses.{is_inform}
use Rattle.acc_delivered.proofs.Asked.{asked, taking_reacts}
use Rattle.acc_delivered.proofs.Overs.{note_stays}
use Rattle.acc_delivered.proofs.Decided.{decide_noted, outcome_noted}

read_message : (layout : Layout) (own : Actor) (x : TxnId) (before : Attempt) (s : Settled) (m : Message) → fits (Executing s) m ≡ true
    → (on_message layout own x before m ≡ when (counts layout before m) (λ a. after_answer layout own x (with_answer a m) a.phase) before) × (is_inform m ≡ false)
read_message layout own x before s (ReadOk from to id ballot answer) h = (refl, refl)
read_message layout own x before s m h = absurd (true≢false (sym h))

module _ (layout : Layout) (own : Actor) (x : TxnId) (before : Attempt) (m : Message) (s : Settled) (outcome : Outcome) (same : ballot_of m ≡ before.ballot)
    (counting : counts layout before m ≡ true) (phase : before.phase ≡ Executing s) (from : outcome_from layout before.body (m ∷ before.answers) ≡ Some outcome) where
  fit : fits (Executing s) m ≡ true
  fit =
      subst (λ p. fits p m ≡ true) phase
      (and_parts (fits before.phase m) (is_store_of layout before.body (from_of m)) (and_parts (fits before.phase m && is_store_of layout before.body (from_of m)) _ counting).0).0

  pub no_inform : is_inform m ≡ false
  no_inform = (read_message layout own x before s m fit).1

  pub finishes_it : reaction layout own x before m ≡ finish layout own x (with_answer before m) s outcome
  finishes_it =
      ap (λ o. when o (λ a. on_message layout own x a m) before) ((ballot_order.decides (ballot_of m) before.ballot).1 same)
      ∙ (read_message layout own x before s m fit).0
      ∙ ap (λ o. when o (λ a. after_answer layout own x (with_answer a m) a.phase) before) counting
      ∙ ap (λ p. after_answer layout own x (with_answer before m) p) phase
      ∙ ap (finish_with layout own x (with_answer before m) s) from

module _ (cluster : Cluster) (items : List Item) (h : EachStands cluster items) (x : TxnId) where
  abbrev IsTold : Type 0
  IsTold = (was_decided x items ≡ true) × (had_outcome x items ≡ true)

  module _ (a : Actor) (node : is_node a ≡ true) (deed : Deed) (past : List Deed) (at : StandsAt deed past (deeds_of cluster a items)) where
    -- an attempt that executes is decided
    decided : (k : Attempt) (s : Settled) → attempt_of cluster.layout (node_of a) (clock_start cluster.starts (node_of a)) x past ≡ Some k → k.phase ≡ Executing s → was_decided x items ≡ true
    decided k s is phase =
        let q = asked cluster.layout (node_of a) (clock_start cluster.starts (node_of a)) x past
        (EachEmits-past cluster.layout (node_of a) (clock_start cluster.starts (node_of a)) past (deeds_of cluster a items) (past_of deed past (deeds_of cluster a items) at)
        (each_emits cluster a items h node)) k is in
        let n = node_step cluster a items h q.deed q.before (StandsAt-whole q.deed q.before past (deeds_of cluster a items) q.at (past_of deed past (deeds_of cluster a items) at)) in
        let noted = q.notes s phase in
        decide_noted items n.earlier n.entry x s noted.0 n.at (subst (λ (w : Emitted). IsIn (DecideNote x s.t noted.0 s.deps) w.notes) (sym n.emitted_is) noted.1)

    by_message : (m : Message) (before k : Attempt) (s : Settled) (outcome : Outcome) → deed.act ≡ Takes m
        → attempt_of cluster.layout (node_of a) (clock_start cluster.starts (node_of a)) x past ≡ Some before → id_of m ≡ x
        → Hears cluster.layout x before m k (FinishWith s outcome) → IsTold
    by_message m before k s outcome act_is is about (Counts n moved same counting (HasOutcome r o phase from)) =
        let own : Actor = actor_of (node_of a) 0 in
        let emitted_is = emits_at cluster.layout (node_of a) (clock_start cluster.starts (node_of a)) (deeds_of cluster a items) deed past (each_emits cluster a items h node) at
        ∙ ap (node_emits cluster.layout (node_of a) (clock_start cluster.starts (node_of a)) past) act_is
        ∙ taking_reacts cluster.layout (node_of a) (clock_start cluster.starts (node_of a)) x deed past m before (no_inform cluster.layout own x before m s outcome same counting phase from) about is
        ∙ ap (λ (w : Reaction). with_reply (is_open (id_of m) past) w.emitted) (finishes_it cluster.layout own x before m s outcome same counting phase from) in
        let n = node_step cluster a items h deed past at in (
          decided before s is phase,
          outcome_noted items n.earlier n.entry x outcome.reply n.at
              (subst (λ (w : Emitted). IsIn (OutcomeNote x outcome.reply) w.notes) (sym (n.emitted_is ∙ emitted_is))
              (note_stays (is_open (id_of m) past) (finish cluster.layout own x (with_answer before m) s outcome).emitted (OutcomeNote x outcome.reply) (First (OutcomeNote x outcome.reply) []))),
        )

    no_slow_apply : (y : TxnId) (o : Option Attempt) (f g : Actor) (z : TxnId) (b : Ballot) (body : BodyParts) (t : Stamp) (deps : List ShardDeps) (outcome : Outcome)
        → IsIn (Apply f g z b body t deps outcome) (emitted_by (slow_reaction cluster.layout (actor_of (node_of a) 0) y) o).out → ⊥
    no_slow_apply y None f g z b body t deps outcome there = none_is_in (Apply f g z b body t deps outcome) there
    no_slow_apply y (Some k) f g z b body t deps outcome there = by (may_slow_down cluster.layout y k k.phase) there
      where
        no_accept : {h store : Actor} {c : Ballot} {other : BodyParts} {r : Stamp} {more : List ShardDeps} → Apply f g z b body t deps outcome ≡ Accept h store y c other r more → ⊥
        no_accept e = cc

        by : (o : Bool) → IsIn (Apply f g z b body t deps outcome) (when o (slow_down cluster.layout (actor_of (node_of a) 0) y) k).emitted.out → ⊥
        by true there =
            let s : Settled = highest_vote y k in
            no_accept (IsIn-map (λ store. Accept (actor_of (node_of a) 0) store y k.ballot k.body s.t s.deps) (Apply f g z b body t deps outcome) (stores_used cluster.layout k.body) there).is
        by false there = none_is_in (Apply f g z b body t deps outcome) there

    by_reaction : (act : Act) (y : TxnId) (k : Attempt) (s : Settled) (outcome : Outcome) (f g : Actor) (b : Ballot) (body : BodyParts) (t : Stamp) (deps : List ShardDeps) → deed.act ≡ act
        → IsIn (Apply f g x b body t deps outcome) (node_emits cluster.layout (node_of a) (clock_start cluster.starts (node_of a)) past act).out → y ≡ x
        → Reacts cluster.layout (node_of a) (clock_start cluster.starts (node_of a)) past y act k (FinishWith s outcome) → IsTold
    by_reaction act y k s outcome f g b body t deps act_is there same (ToMessage before j m moved is about hears) =
        by_message m before j s outcome act_is
        (subst (λ z. attempt_of cluster.layout (node_of a) (clock_start cluster.starts (node_of a)) z past ≡ Some before) same is) (about ∙ same)
        (subst (λ z. Hears cluster.layout z before m j (FinishWith s outcome)) same hears)
    by_reaction act y k s outcome f g b body t deps act_is there same (ToSlow j moved is moves) =
        absurd (no_slow_apply y (attempt_of cluster.layout (node_of a) (clock_start cluster.starts (node_of a)) y past) f g x b body t deps outcome there)

    by_sending : (m : Message) (f g : Actor) (b : Ballot) (body : BodyParts) (t : Stamp) (deps : List ShardDeps) (outcome : Outcome) (act : Act) → deed.act ≡ act
        → m ≡ Apply f g x b body t deps outcome → IsIn m (node_emits cluster.layout (node_of a) (clock_start cluster.starts (node_of a)) past act).out
        → NodeSends cluster.layout (node_of a) (clock_start cluster.starts (node_of a)) past act m → IsTold
    by_sending m f g b body t deps outcome act act_is is there (AsksForVotes txn brought store) = absurd (grind arith)
    by_sending m f g b body t deps outcome act act_is is there (AsksForViews y brought store) = absurd (grind arith)
    by_sending m f g b body t deps outcome act act_is is there (Proposes on y k s store reacts) = absurd (grind arith)
    by_sending m f g b body t deps outcome act act_is is there (CommitsTo on y k s store reacts) = absurd (grind arith)
    by_sending m f g b body t deps outcome act act_is is there (Decides on y k path s store reacts noted) = absurd (grind arith)
    by_sending m f g b body t deps outcome act act_is is there (Finishes on y k s o store reacts) =
        by_reaction on y k s o f g b body t deps act_is
        (subst (λ w. IsIn w (node_emits cluster.layout (node_of a) (clock_start cluster.starts (node_of a)) past on).out)
        (is ∙ ap (Apply f g x b body t deps) (sym (same_outcome is))) there) (same_id is) reacts
      where
        same_outcome : {f g h i : Actor} {y z : TxnId} {b c : Ballot} {body other : BodyParts} {t r : Stamp} {deps more : List ShardDeps} {o p : Outcome}
            → Apply f g y b body t deps o ≡ Apply h i z c other r more p → o ≡ p
        same_outcome e = cc

        same_id : {f g h i : Actor} {y z : TxnId} {b c : Ballot} {body other : BodyParts} {t r : Stamp} {deps more : List ShardDeps} {o p : Outcome}
            → Apply f g y b body t deps o ≡ Apply h i z c other r more p → y ≡ z
        same_id e = cc
    by_sending m f g b body t deps outcome act act_is is there (Informs on y k s o reacts) = absurd (grind arith)

  pub told : (f g : Actor) (b : Ballot) (body : BodyParts) (t : Stamp) (deps : List ShardDeps) (outcome : Outcome) → Sending items (Apply f g x b body t deps outcome)
      → (was_decided x items ≡ true) × (had_outcome x items ≡ true)
  told f g b body t deps outcome s = by (sender cluster items (Apply f g x b body t deps outcome) h s)
    where
      by : Sender cluster items (Apply f g x b body t deps outcome) → (was_decided x items ≡ true) × (had_outcome x items ≡ true)
      by (IsStore k) =
          absurd (true≢false
          (store_asks_nothing cluster.layout f k.past k.step.message (Apply f g x b body t deps outcome) (store_sent cluster items f (Apply f g x b body t deps outcome) h k)))
      by (IsNode k) =
          by_sending f k.is_node k.deed k.past k.at (Apply f g x b body t deps outcome) f g b body t deps outcome k.deed.act refl refl
          (subst (λ (w : Emitted). IsIn (Apply f g x b body t deps outcome) w.out)
          (emits_at cluster.layout (node_of f) (clock_start cluster.starts (node_of f)) (deeds_of cluster f items) k.deed k.past (each_emits cluster f items h k.is_node) k.at) k.sent)
          (node_sent cluster items f (Apply f g x b body t deps outcome) h k)

pub applies_are_told : (cluster : Cluster) → AppliesAreTold cluster
applies_are_told cluster items x f g b body t deps outcome standing s = told cluster items standing.stands x f g b body t deps outcome s
