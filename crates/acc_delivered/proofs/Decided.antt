-- An attempt that executes is decided, and where all its messages are delivered each of its stores took its Stable.
use Rattle.std.proofs.Common.{◌≡◌, ℕ, true, List, [], ◌∷◌, ◌++◌, Some, refl, sym, ◌∙◌, ap, subst}
use Rattle.acc_stamp.specs.declared.stamps.TxnId.{TxnId}
use Rattle.acc_stamp.specs.declared.stamps.Ballot.{Ballot}
use Rattle.acc_stamp.specs.declared.actors.Actor.{Actor}
use Rattle.acc_stamp.specs.Actor.{actor_of, node_of}
use Rattle.acc_stamp.specs.Stamp.{id_eq}
use Rattle.acc_stamp.proofs.Order.{id_order, eq_itself}
use Rattle.acc_deps.specs.declared.records.Settled.{Settled}
use Rattle.acc_txn.specs.declared.outcome.Reply.{Reply}
use Rattle.acc_message.specs.declared.message.Message.{Message}
use Rattle.acc_message.specs.declared.message.Message.TheVariants.{Stable}
use Rattle.acc_message.specs.declared.entry.Entry.{Entry}
use Rattle.acc_message.specs.declared.entry.Emitted.{Emitted}
use Rattle.acc_message.specs.declared.item.Item.{Item}
use Rattle.acc_message.specs.declared.item.Item.TheVariants.{Step}
use Rattle.acc_message.specs.declared.note.Note.TheVariants.{Decide as DecideNote, Outcome as OutcomeNote}
use Rattle.acc_message.specs.declared.note.Path.{Path}
use Rattle.acc_message.specs.Items.{notes_of}
use Rattle.acc_message.specs.Shares.{stores_used}
use Rattle.acc_message.specs.Taken.{Taken}
use Rattle.acc_message.specs.Attempts.{Attempt, Executing}
use Rattle.acc_message.specs.NodeRules.{Takes, Deed, attempt_of}
use Rattle.acc_message.specs.Run.{Cluster, act_of, taken_from, taken_of}
use Rattle.acc_actor_laws.proofs.OpeningFacts.{some_is}
use Rattle.acc_safety.specs.Decisions.{Decision, decisions_in, decisions_of, Answered, outcomes_in, outcomes_of}
use Rattle.acc_safety.specs.Places.{IsIn, First, StandsAt, Here, IsPast}
use Rattle.acc_safety.specs.Histories.{Sending, NodeStep}
use Rattle.acc_safety.specs.Polls.{IsBody}
use Rattle.acc_safety.specs.Valid.{IsStanding}
use Rattle.acc_safety.proofs.PlaceOrder.{any_from, flat_map-IsIn, StandsAt-whole, StandsAt-IsPast}
use Rattle.acc_safety.proofs.Bridge.{node_step, each_emits, EachEmits-past, taken_of-past}
use Rattle.acc_safety.proofs.BodiesBegun.{attempt_body}
use Rattle.acc_calm.proofs.Finished.{noted_there}
use Rattle.acc_calm.proofs.ReadsAnswered.{waits_there}
use Rattle.acc_delivered.specs.Stretches.{TakesAll}
use Rattle.acc_delivered.specs.Rounds.{IsRecover}
use Rattle.acc_delivered.specs.Ends.{was_decided, had_outcome, took_stable, IsDecidedAt}
use Rattle.acc_delivered.proofs.Courses.{request}
use Rattle.acc_delivered.proofs.Asked.{Asked, asked}
use Rattle.acc_delivered.proofs.Started.{start, deeds, is_of_node}
use Rattle.acc_delivered.proofs.Resting.{deeds_here, delivered}

-- ---- notes

pub decide_noted : (items earlier : List Item) (e : Entry) (x : TxnId) (s : Settled) (path : Path) → StandsAt (Step e) earlier items
    → IsIn (DecideNote x s.t path s.deps) e.emitted.notes → was_decided x items ≡ true
decide_noted items earlier e x s path at there =
    let d : Decision = record { id = x; t = s.t; deps = s.deps } in
    any_from (λ (k : Decision). id_eq k.id x) d (decisions_of (notes_of items))
    (flat_map-IsIn decisions_in d (DecideNote x s.t path s.deps) (notes_of items) (noted_there items earlier (Step e) (DecideNote x s.t path s.deps) at there) (First d []))
    (eq_itself id_order x)

pub outcome_noted : (items earlier : List Item) (e : Entry) (x : TxnId) (reply : Reply) → StandsAt (Step e) earlier items
    → IsIn (OutcomeNote x reply) e.emitted.notes → had_outcome x items ≡ true
outcome_noted items earlier e x reply at there =
    let d : Answered = record { id = x; reply = reply } in
    any_from (λ (k : Answered). id_eq k.id x) d (outcomes_of (notes_of items))
    (flat_map-IsIn outcomes_in d (OutcomeNote x reply) (notes_of items) (noted_there items earlier (Step e) (OutcomeNote x reply) at there) (First d []))
    (eq_itself id_order x)

-- ---- what a store took in an entry

pub taken_here : (cluster : Cluster) (store : Actor) (before : List Item) (t : Entry) (m : Message) → t.actor ≡ store → act_of cluster before t.event ≡ Some (Takes m)
    → taken_of cluster store (Step t ∷ before) ≡ record { message = m; sent = t.emitted.out } ∷ taken_of cluster store before
taken_here cluster store before t m actor_is act_is =
    ap taken_from (deeds_here cluster store before t (record { act = Takes m; emitted = t.emitted }) actor_is act_is refl)

pub taken_place : (cluster : Cluster) (store : Actor) (items before : List Item) (t : Entry) (m : Message) → StandsAt (Step t) before items → t.actor ≡ store
    → act_of cluster before t.event ≡ Some (Takes m) → StandsAt (record { message = m; sent = t.emitted.out }) (taken_of cluster store before) (taken_of cluster store items)
taken_place cluster store items before t m at actor_is act_is =
    let step : Taken = record { message = m; sent = t.emitted.out } in
    StandsAt-whole step (taken_of cluster store before) (taken_of cluster store (Step t ∷ before)) (taken_of cluster store items)
    (subst (StandsAt step (taken_of cluster store before)) (sym (taken_here cluster store before t m actor_is act_is)) (Here step (taken_of cluster store before)))
    (taken_of-past cluster store (Step t ∷ before) items (StandsAt-IsPast (Step t) before items at))

module _ (cluster : Cluster) (base since : List Item) (e : Entry) (x : TxnId) (b : Ballot) (standing : IsStanding cluster ((since ++ Step e ∷ []) ++ base))
    (recover : IsRecover e.actor x b e) (all : TakesAll base (since ++ Step e ∷ [])) where
  abbrev whole : List Item
  whole = (since ++ Step e ∷ []) ++ base

  abbrev the_deeds : List Deed
  the_deeds = deeds cluster base since e x b standing recover

  abbrev the_start : ℕ
  the_start = start cluster base since e x b standing recover

  abbrev own : Actor
  own = actor_of (node_of e.actor) 0

  module _ (p : List Deed) (within : IsPast p the_deeds) (at : Attempt) (is : attempt_of cluster.layout (node_of e.actor) the_start x p ≡ Some at)
      (at_ballot : at.ballot ≡ b) (s : Settled) (phase : at.phase ≡ Executing s) where
    k : Asked cluster.layout (node_of e.actor) the_start x p at
    k =
        asked cluster.layout (node_of e.actor) the_start x p
        (EachEmits-past cluster.layout (node_of e.actor) the_start p the_deeds within
        (each_emits cluster e.actor whole standing.stands (is_of_node cluster base since e x b standing recover))) at is

    n : NodeStep cluster e.actor whole k.deed k.before
    n = node_step cluster e.actor whole standing.stands k.deed k.before (StandsAt-whole k.deed k.before p the_deeds k.at within)

    abbrev stable_for : Actor → Message
    stable_for store = Stable own store x b at.body s.t s.deps

    stable_sent : (store : Actor) → IsIn store (stores_used cluster.layout at.body) → Sending whole (stable_for store)
    stable_sent store there =
        record {
          entry = n.entry;
          earlier = n.earlier;
          at = n.at;
          sent =
              subst (λ (w : Emitted). IsIn (stable_for store) w.out) (sym n.emitted_is)
              (subst (λ c. IsIn (request own x c at.body (Executing s) store) k.deed.emitted.out) at_ballot
              (subst (λ q. IsIn (request own x at.ballot at.body q store) k.deed.emitted.out) phase (k.asks store there)));
        }

    stable_taken : (store : Actor) → IsIn store (stores_used cluster.layout at.body) → took_stable cluster whole x b store ≡ true
    stable_taken store there =
        let s_at = stable_sent store there in
        let t = delivered cluster base since e x b standing recover all (stable_for store) refl refl s_at in
        waits_there cluster.layout store x b own store at.body s.t s.deps (taken_of cluster store whole)
        (record {
          step = record { message = stable_for store; sent = t.entry.emitted.out };
          past = taken_of cluster store t.before;
          at = taken_place cluster store whole t.before t.entry (stable_for store) t.at t.actor_is t.act_is;
          message_is = refl;
        })

    pub is_decided_at : IsDecidedAt cluster whole x b
    is_decided_at =
        record {
          decided =
              let noted = k.notes s phase in
              decide_noted whole n.earlier n.entry x s noted.0 n.at (subst (λ (w : Emitted). IsIn (DecideNote x s.t noted.0 s.deps) w.notes) (sym n.emitted_is) noted.1);
          stable = λ body store body_is there.
              stable_taken store (subst (λ c. IsIn store (stores_used cluster.layout c)) (some_is body at.body (sym body_is ∙ at_body)) there);
        }
      where
        at_body : IsBody cluster whole x at.body
        at_body = attempt_body cluster whole standing.stands e.actor (is_of_node cluster base since e x b standing recover) p x at within is
