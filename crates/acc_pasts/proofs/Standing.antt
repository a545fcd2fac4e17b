-- What may come next, each event with what it takes; and that the items stand with it.
use Rattle.std.proofs.Common.{◌≡◌, ℕ, ◌≤◌, ◌-◌, nat_lt, Bool, true, false, not, cond, max, ◌&&◌, ◌||◌, List, ◌∷◌, length, Option, None, Some, unwrap_or, refl, sym, ◌∙◌, ap, arith, ⊎_elim}
use Rattle.std.specs.Bool.{beq}
use Rattle.std.specs.List.{slice_get}
use Rattle.std.specs.Option.{option_map}
use Rattle.std.proofs.lemmas.Bool.{true≢false, and_from}
use Rattle.std.proofs.lemmas.Bool.Decides.{nat_tests}
use Rattle.std.proofs.lemmas.Option.{slice_get_cases}
use Rattle.acc_stamp.specs.declared.stamps.TxnId.{TxnId}
use Rattle.acc_stamp.specs.declared.actors.Actor.{Actor}
use Rattle.acc_stamp.specs.Actor.{actor_of}
use Rattle.acc_stamp.specs.Stamp.{ballot_eq, zero_ballot}
use Rattle.acc_topology.specs.Layout.{Layout}
use Rattle.acc_topology.specs.Sets.{is_among}
use Rattle.acc_txn.specs.declared.parts.BodyParts.{BodyParts}
use Rattle.acc_message.specs.declared.message.Message.{Message}
use Rattle.acc_message.specs.declared.entry.Event.{Event}
use Rattle.acc_message.specs.declared.entry.Event.TheVariants.{Begin as BeginEvent, Recover as RecoverEvent, Slow as SlowEvent, Message as MessageEvent, Restart as RestartEvent}
use Rattle.acc_message.specs.declared.item.Skip.{Skip}
use Rattle.acc_message.specs.declared.item.Skip.TheVariants.{Unknown, NoQuorum}
use Rattle.acc_message.specs.declared.item.Item.{Item}
use Rattle.acc_message.specs.declared.item.Item.TheVariants.{Skipped, Down}
use Rattle.acc_message.specs.Fields.{to_of}
use Rattle.acc_message.specs.Items.{same_actor, sent_of, message_at, is_begun, id_of_txn}
use Rattle.acc_message.specs.Attempts.{Attempt, Phase, Voting, Recovering, Accepting, Committing, Executing, majority_everywhere}
use Rattle.acc_message.specs.Coordinator.{may_slow_down}
use Rattle.acc_message.specs.NodeRules.{Act, Begins, Recovers, Slows, Takes, Restarts}
use Rattle.acc_message.specs.Run.{Cluster, act_of, recovers, attempt_at, is_slowable, StandsOn, EachStands, kept_of, lost_fit, is_down, IsRun}
use Rattle.acc_actor_laws.proofs.Standing.{not_none}
use Rattle.acc_safety.specs.Valid.{IsStanding}
use Rattle.acc_safety.proofs.Bridge.{same_itself}
use Rattle.acc_safety.proofs.BegunFacts.{WasBegun, begun_has, id_was_begun}
use Rattle.acc_run_laws.specs.Asks.{home_of_txn, skip_if, slow_skip_in, slow_skip_at, slow_skip, emits_if}
use Rattle.acc_run_laws.specs.AskLaws.{HasTxn}
use Rattle.acc_run_laws.proofs.AskFacts.{lost_by}
use Rattle.acc_run_laws.specs.Next.{MayDo}
use Rattle.acc_pasts.specs.Entries.{entering, MayTake}

-- ---- events

module _ (cluster : Cluster) (items : List Item) where
  pub begin_may : (txn : ℕ) (has : HasTxn cluster txn) → is_begun items txn ≡ false
      → MayTake cluster items (home_of_txn cluster txn) (BeginEvent txn) (Begins txn has.body)
  begin_may txn has none =
      record {
        act_is = ap (option_map (Begins txn)) has.body_is;
        place = ((has.home, has.home_is, ap (λ o. actor_of (unwrap_or o 0) 0) has.home_is), ap not none);
      }

  -- what has an id was begun
  pub recover_may : (txn node : ℕ) (x : TxnId) (body : BodyParts) → is_among cluster.layout.nodes node ≡ true → id_of_txn items txn ≡ Some x
      → slice_get cluster.bodies txn ≡ Some body → MayTake cluster items (actor_of node 0) (RecoverEvent txn) (Recovers x body)
  recover_may txn node x body among is has =
      record {
        act_is = ap (λ o. recovers o (slice_get cluster.bodies txn)) is ∙ ap (recovers (Some x)) has;
        place = ((node, among, refl), id_was_begun items txn x is);
      }

  pub slow_may : (txn : ℕ) (x : TxnId) → EachStands cluster items → id_of_txn items txn ≡ Some x → slow_skip cluster items txn (Some x) ≡ None
      → MayTake cluster items (home_of_txn cluster txn) (SlowEvent txn) (Slows x)
  slow_may txn x stands is none =
      let begun : WasBegun cluster items txn = begun_has cluster items txn stands (id_was_begun items txn x is) in
      record {
        act_is = ap (option_map Slows) is;
        place = (
          (begun.home, begun.home_is, ap (λ o. actor_of (unwrap_or o 0) 0) begun.home_is),
          slowable cluster.layout txn x (attempt_at cluster items (home_of_txn cluster txn) x) none,
        );
      }
    where
      slowable : (layout : Layout) (txn : ℕ) (x : TxnId) (o : Option Attempt) → slow_skip_at layout txn x o ≡ None → is_slowable layout x o ≡ true
      slowable layout txn x None e = absurd (not_none (Unknown txn) (sym e))
      slowable layout txn x (Some a) e = by a.phase e
        where
          both : (zero_is majority : Bool) → cond zero_is (skip_if (not majority) (NoQuorum txn)) (Some (Unknown txn)) ≡ None
              → (zero_is && majority) ≡ true
          both true true k = refl
          both true false k = absurd (not_none (NoQuorum txn) (sym k))
          both false majority k = absurd (not_none (Unknown txn) (sym k))

          by : (phase : Phase) → slow_skip_in layout txn x a phase ≡ None → (ballot_eq a.ballot zero_ballot && may_slow_down layout x a phase) ≡ true
          by Voting k = both (ballot_eq a.ballot zero_ballot) (majority_everywhere layout x a.body a.answers) k
          by Recovering k = absurd (not_none (Unknown txn) (sym k))
          by (Accepting s) k = absurd (not_none (Unknown txn) (sym k))
          by (Committing s) k = absurd (not_none (Unknown txn) (sym k))
          by (Executing s) k = absurd (not_none (Unknown txn) (sym k))

  -- a slow that isn't passed over has a transaction with an id
  pub slow_has_id : (txn : ℕ) → slow_skip cluster items txn (id_of_txn items txn) ≡ None → (x : TxnId) × (id_of_txn items txn ≡ Some x)
  slow_has_id txn none = by (id_of_txn items txn) refl none
    where
      by : (o : Option TxnId) → id_of_txn items txn ≡ o → slow_skip cluster items txn o ≡ None → (x : TxnId) × (id_of_txn items txn ≡ Some x)
      by None is e = absurd (not_none (Unknown txn) (sym e))
      by (Some x) is e = (x, is)

  pub deliver_may : (number : ℕ) (m : Message) → message_at items number ≡ Some m → MayTake cluster items (to_of m) (MessageEvent number) (Takes m)
  deliver_may number m is = record { act_is = ap (option_map Takes) is; place = same_itself (to_of m) }

  pub restart_may : (a : Actor) (kept : ℕ) → MayTake cluster items a (RestartEvent kept) Restarts
  restart_may a kept = record { act_is = refl; place = tt }

  pub may_do : (a : Actor) (event : Event) (act : Act) → MayTake cluster items a event act → MayDo cluster items a act
  may_do a event act may = record { event = event; act_is = may.act_is; place = may.place }

-- so many messages were sent, and each has its number
pub message_there : (items : List Item) (number : ℕ) → nat_lt number (length (sent_of items)) ≡ true → (m : Message) × (message_at items number ≡ Some m)
message_there items number less =
    ⊎_elim (λ found. (found.0, found.2)) (λ past. absurd (beyond less past.0)) (slice_get_cases (sent_of items) number).1
  where
    beyond : {n k : ℕ} → nat_lt n k ≡ true → k ≤ n → ⊥
    beyond p q = grind (arith, nat_tests, p, q)

-- ---- with the entry

module _ (cluster : Cluster) (items : List Item) (a : Actor) (event : Event) (act : Act) (may : MayTake cluster items a event act) where
  pub entry_stands : (lost : Bool) → StandsOn cluster items (record { actor = a; event = event; emitted = emits_if cluster items a (act_of cluster items event); lost = lost })
  entry_stands lost = record { act = act; act_is = may.act_is; place = may.place; emitted = ap (emits_if cluster items a) may.act_is }

  pub entry_standing : (lost : Bool) → IsStanding cluster items → IsStanding cluster (entering cluster items a event lost ∷ items)
  entry_standing lost standing = record { valid = standing.valid; stands = (entry_stands lost, standing.stands) }

  -- an entry that isn't lost, of an actor that is up, and no restart
  pub entry_run : kept_of event ≡ 0 → is_down a items ≡ false → IsRun cluster items → IsRun cluster (entering cluster items a event false ∷ items)
  entry_run none up run =
      record {
        stands = (entry_stands false, run.stands);
        lost = λ b.
            ap (λ kept. (not (same_actor a b) || beq false (nat_lt 0 0)) && lost_fit b (cond (same_actor a b) (max (0 - 1) kept) 0) items) none
            ∙ lost_by b items (same_actor a b) (run.lost b);
        downs = and_from _ _ (follows (is_down a items) _ up) run.downs;
      }
    where
      follows : (down restart : Bool) → down ≡ false → (not down || false || restart) ≡ true
      follows true restart e = absurd (true≢false e)
      follows false restart e = refl

pub skip_standing : (cluster : Cluster) (items : List Item) (number : ℕ) (cause : Skip) → IsStanding cluster items → IsStanding cluster (Skipped number cause ∷ items)
skip_standing cluster items number cause standing = record { valid = standing.valid; stands = (tt, standing.stands) }

pub down_standing : (cluster : Cluster) (items : List Item) (a : Actor) → IsStanding cluster items → IsStanding cluster (Down a ∷ items)
down_standing cluster items a standing = record { valid = standing.valid; stands = (tt, standing.stands) }
