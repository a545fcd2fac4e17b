-- What each event needs so that its actor may take it next.
use Rattle.std.proofs.Common.{◌≡◌, ℕ, ◌+◌, ◌<◌, ◌≤◌, Bool, true, false, Contains, List, Some, None, length, refl, sym, ◌∙◌, ap, subst, ⊎_elim, arith}
use Rattle.std.specs.List.{slice_get, slice_index_or}
use Rattle.std.proofs.lemmas.Option.{slice_get_cases, slice_get_read, slice_get_within}
use Rattle.acc_stamp.specs.declared.actors.Actor.{Actor}
use Rattle.acc_stamp.specs.declared.stamps.TxnId.{TxnId}
use Rattle.acc_txn.specs.declared.parts.BodyParts.{BodyParts}
use Rattle.acc_message.specs.declared.message.Message.{Message}
use Rattle.acc_message.specs.declared.entry.Event.TheVariants.{Begin as BeginEvent, Recover as RecoverEvent, Message as MessageEvent}
use Rattle.acc_message.specs.Fields.{to_of}
use Rattle.acc_message.specs.Items.{sent_of, message_at, id_of_txn}
use Rattle.acc_message.specs.NodeRules.{Begins, Recovers, Takes}
use Rattle.acc_message.specs.declared.item.Item.{Item}
use Rattle.acc_message.specs.Items.{is_begun}
use Rattle.acc_message.specs.Run.{Cluster, EachStands, is_down, IsNodeOf}
use Rattle.acc_actor_laws.proofs.Standing.{not_none}
use Rattle.acc_safety.proofs.BegunFacts.{WasBegun, begun_has}
use Rattle.acc_run_laws.specs.Asks.{home_of_txn}
use Rattle.acc_run_laws.specs.AskLaws.{HasTxn}
use Rattle.acc_safety.proofs.PlaceOrder.{IsIn-Contains}
use Rattle.acc_run_laws.proofs.Layouts.{at_node, at_home}
use Rattle.acc_run_laws.proofs.ReceiverFacts.{goes_to_actor}
use Rattle.acc_schedule.specs.Actors.{actors}
use Rattle.acc_schedule.specs.Content.{Content}
use Rattle.acc_schedule.specs.Plan.{IsPlan}
use Rattle.acc_pasts.specs.Entries.{MayTake}
use Rattle.acc_pasts.specs.Stopped.{IsSound}
use Rattle.acc_pasts.proofs.Standing.{recover_may}
use Rattle.acc_pasts.proofs.Situations.{message_whole}
use Rattle.acc_pasts.proofs.Skips.{begin_goes, take_goes, deliver_up}
use Rattle.acc_pasts.proofs.Sound.{sound_standing}
use Rattle.acc_schedule_runs.specs.Situations.{Situation, whole}
use Rattle.acc_schedule_runs.specs.Moves.{event_in, begin_skip, deliver_skip}
use Rattle.acc_schedule_runs.specs.Schedules.{cluster_of}
use Rattle.acc_cluster.proofs.Taken.{Goes}

-- ---- plans

pub there_is : {X : Type 0} (xs : List X) (i : ℕ) → i < length xs → (x : X) × (slice_get xs i ≡ Some x)
there_is xs i less = ⊎_elim (λ found. (found.0, found.2)) (λ past. absurd (beyond less past.0)) (slice_get_cases xs i).1
  where
    beyond : {n k : ℕ} → n < k → k ≤ n → ⊥
    beyond p q = omega (arith, p, q)

-- a body that was read from the plan
pub body_read : (plan inside : Content) (bodies : List BodyParts) (txn : ℕ) (body : BodyParts) → inside ≡ plan → bodies ≡ inside.bodies → IsPlan inside → txn < length plan.names
    → body ≡ slice_index_or bodies txn body → slice_get plan.bodies txn ≡ Some body
body_read plan inside bodies txn body view same valid less is =
    subst (λ (l : List BodyParts). slice_get l txn ≡ Some body) (same ∙ ap (λ (p : Content). p.bodies) view) (slice_get_read bodies (length bodies) txn body refl within is)
  where
    within : txn < length bodies
    within = subst (λ n. txn < n) (sym (ap (λ (l : List BodyParts). length l) same ∙ valid.bodies_as_many ∙ ap (λ (p : Content). length p.names) view)) less

abbrev pub has_txn : (plan : Content) → IsPlan plan → (txn : ℕ) → txn < length plan.names → (body : BodyParts) → slice_get plan.bodies txn ≡ Some body → HasTxn (cluster_of plan) txn
has_txn plan valid txn less body is =
    let home = there_is plan.homes txn (subst (λ n. txn < n) (sym valid.homes_as_many) less) in
    record { home = home.0; home_is = home.1; body = body; body_is = is }

-- ---- events

pub goes_begin : (plan : Content) → IsPlan plan → (txn : ℕ) → txn < length plan.names → (body : BodyParts) → slice_get plan.bodies txn ≡ Some body → (a : Actor)
    → a ≡ home_of_txn (cluster_of plan) txn → (s : Situation) → IsSound (cluster_of plan) s → begin_skip (cluster_of plan) s txn ≡ None → Goes plan s a (BeginEvent txn) (Begins txn body)
goes_begin plan valid txn less body body_is a a_is s sound none =
    let goes = begin_goes (cluster_of plan) s txn (has_txn plan valid txn less body body_is) none in
    let may : MayTake (cluster_of plan) (whole s) a (event_in s (BeginEvent txn)) (Begins txn body) =
    subst (λ (b : Actor). MayTake (cluster_of plan) (whole s) b (event_in s (BeginEvent txn)) (Begins txn body)) (sym a_is) goes.2 in
    record {
      known = IsIn-Contains a (actors plan.topology) (at_home (cluster_of plan) sound.valid txn a may.place.0);
      may = may;
      none = refl;
      up = ap (λ (b : Actor). is_down b (whole s)) a_is ∙ goes.0;
      sent = tt;
    }

pub goes_recover : (plan : Content) (txn : ℕ) (id : TxnId) (body : BodyParts) → slice_get plan.bodies txn ≡ Some body → (a : Actor) → IsNodeOf plan.topology a → (s : Situation)
    → is_down a (whole s) ≡ false → id_of_txn (whole s) txn ≡ Some id → Goes plan s a (RecoverEvent txn) (Recovers id body)
goes_recover plan txn id body body_is a at s up is =
    record {
      known = IsIn-Contains a (actors plan.topology) (at_node plan.topology a at);
      may = subst (λ (b : Actor). MayTake (cluster_of plan) (whole s) b (RecoverEvent txn) (Recovers id body)) (sym at.2) (recover_may (cluster_of plan) (whole s) txn at.0 id body at.1 is body_is);
      none = refl;
      up = up;
      sent = tt;
    }

pub goes_take : (plan : Content) (message : ℕ) (m : Message) (a : Actor) → a ≡ to_of m → (s : Situation) → IsSound (cluster_of plan) s → message_at s.own message ≡ Some m
    → deliver_skip s message ≡ None → Goes plan s a (MessageEvent message) (Takes m)
goes_take plan message m a a_is s sound found none =
    let goes = take_goes (cluster_of plan) s message m found in
    record {
      known =
          subst (λ (b : Actor). Contains (actors plan.topology) b) (sym a_is)
          (goes_to_actor (cluster_of plan) (whole s) (length (sent_of s.earlier) + message) m (sound_standing (cluster_of plan) s sound) (message_whole s message ∙ found));
      may = subst (λ (b : Actor). MayTake (cluster_of plan) (whole s) b (event_in s (MessageEvent message)) (Takes m)) (sym a_is) goes.1;
      none = refl;
      up = ap (λ (b : Actor). is_down b (whole s)) (a_is ∙ sym goes.0) ∙ deliver_up (cluster_of plan) s message none;
      sent = slice_get_within (sent_of s.own) message m found;
    }

-- what has no id wasn't begun
pub unknown_not_begun : (cluster : Cluster) (items : List Item) (txn : ℕ) → EachStands cluster items → id_of_txn items txn ≡ None → is_begun items txn ≡ false
unknown_not_begun cluster items txn stands none = by (is_begun items txn) refl
  where
    by : (begun : Bool) → is_begun items txn ≡ begun → begun ≡ false
    by true is = let w : WasBegun cluster items txn = begun_has cluster items txn stands is in absurd (not_none w.id (sym none ∙ w.id_is))
    by false is = refl
