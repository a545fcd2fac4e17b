-- What the tables of items tell with one item more.
use Rattle.std.proofs.Common.{◌≡◌, ℕ, suc, ◌+◌, ◌&&◌, ◌||◌, Bool, true, false, cond, List, ◌∷◌, ◌++◌, length, map, take, reverse, Option, None, Some, is_some, refl, sym, ◌∙◌, ap, arith}
use Rattle.std.specs.List.{list_any, slice_get}
use Rattle.std.specs.Option.{option_flatten, option_map}
use Rattle.std.specs.Ordering.{is_eq}
use Rattle.std.proofs.lemmas.Bool.Decides.{nat_tests}
use Rattle.std.proofs.lemmas.List.{map-append, reverse-append, reverse-reverse, length-reverse, take-append-le, take_all}
use Rattle.std.proofs.lemmas.List.Folds.{list_any-append}
use Rattle.std.proofs.lemmas.Option.{slice_get-map}
use Rattle.acc_base.specs.Faults.{or_else}
use Rattle.acc_stamp.specs.declared.stamps.TxnId.{TxnId}
use Rattle.acc_stamp.specs.declared.stamps.Ballot.{Ballot}
use Rattle.acc_stamp.specs.declared.actors.Actor.{Actor}
use Rattle.acc_stamp.specs.Stamp.{id_eq, ballot_eq}
use Rattle.acc_txn.specs.declared.parts.BodyParts.{BodyParts}
use Rattle.acc_message.specs.declared.message.Message.{Message}
use Rattle.acc_message.specs.declared.message.Message.TheVariants.{PreAccept, PreAcceptOk, Accept, AcceptOk, Commit, CommitOk, Stable, ReadOk, Apply, Recover as RecoverMessage, RecoverOk, Nack, Decided, Inform}
use Rattle.acc_message.specs.declared.entry.Entry.{Entry}
use Rattle.acc_message.specs.declared.entry.Event.{Event}
use Rattle.acc_message.specs.declared.entry.Event.TheVariants.{Begin, Recover, Slow, Message as TakesMessage, Restart}
use Rattle.acc_message.specs.declared.item.Item.{Item}
use Rattle.acc_message.specs.declared.item.Item.TheVariants.{Step, Skipped, Down}
use Rattle.acc_message.specs.Items.{same_actor, sent_in, sent_of, noted_in, notes_of, message_at, id_of_txn}
use Rattle.acc_message.specs.NodeRules.{Begins, Slows, Takes}
use Rattle.acc_message.specs.Taken.{Taken}
use Rattle.acc_message.specs.BallotRules.{kept_outcome, outcome_in}
use Rattle.acc_message.specs.Run.{Cluster, act_of, recovers, deed_with, deed_if, deeds_of, taken_from, taken_of}
use Rattle.acc_delivered.specs.Ends.{took_apply, is_ended, tells_ended}
use Rattle.acc_heal.specs.declared.seen.Seen.{Seen}
use Rattle.acc_heal.specs.Applies.{applied_by, apply_at, AreApplies}
use Rattle.acc_heal.specs.Seen.{is_id, taker_cmp, attempt_cmp, takes, takes_apply, takes_in, has_taker, has_attempt, Tells}

-- ---- keys

pub taker_at : (x y : TxnId) (a b : Actor) → is_eq (taker_cmp (x, a) (y, b)) ≡ (same_actor a b && id_eq x y)
taker_at x y a b = grind (arith, nat_tests)

pub attempt_at : (x y : TxnId) (a b : Ballot) → is_eq (attempt_cmp (x, a) (y, b)) ≡ (id_eq x y && ballot_eq a b)
attempt_at x y a b = grind (arith, nat_tests)

-- a key more
pub one_key : (here before : Bool) → cond here true before ≡ (before || here)
one_key true true = refl
one_key true false = refl
one_key false true = refl
one_key false false = refl

-- ---- messages that were sent

abbrev applied_in : Option Message → Option TxnId
applied_in None = None
applied_in (Some m) = applied_by m

apply_is : (applies : List (Option TxnId)) (sent : List Message) (number : ℕ) → AreApplies applies sent → apply_at applies number ≡ applied_in (slice_get sent number)
apply_is applies sent number are =
    ap (λ l. apply_at l number) are ∙ ap option_flatten (slice_get-map applied_by sent number) ∙ flat (slice_get sent number)
  where
    flat : (o : Option Message) → option_flatten (option_map applied_by o) ≡ applied_in o
    flat None = refl
    flat (Some m) = refl

-- ---- what stores took

-- with one message more an outcome is kept where it was, or where the message brings it
outcome_is : (x : TxnId) (m : Message) → is_some (outcome_in x m) ≡ is_id (applied_by m) x
outcome_is x (PreAccept from to id ballot body) = refl
outcome_is x (PreAcceptOk from to id ballot vote deps) = refl
outcome_is x (Accept from to id ballot body t deps) = refl
outcome_is x (AcceptOk from to id ballot deps) = refl
outcome_is x (Commit from to id ballot body t deps) = refl
outcome_is x (CommitOk from to id ballot) = refl
outcome_is x (Stable from to id ballot body t deps) = refl
outcome_is x (ReadOk from to id ballot answer) = refl
outcome_is x (Apply from to id ballot body t deps outcome) = by (id_eq id x)
  where
    by : (o : Bool) → is_some (cond o (Some outcome) None) ≡ o
    by true = refl
    by false = refl
outcome_is x (RecoverMessage from to id ballot body) = refl
outcome_is x (RecoverOk from to id ballot view) = refl
outcome_is x (Nack from to id ballot promised) = refl
outcome_is x (Decided from to id ballot t deps) = refl
outcome_is x (Inform from to id ballot outcome) = refl

some_or : {X : Type 0} (o p : Option X) → is_some (or_else o p) ≡ (is_some o || is_some p)
some_or None p = refl
some_or (Some x) p = refl

or_false : (o : Bool) → o ≡ (o || false)
or_false true = refl
or_false false = refl

module _ (cluster : Cluster) (x : TxnId) (a : Actor) (earlier : List Item) where
  abbrev past : List Taken
  past = taken_of cluster a earlier

  -- the entry of a, by its event
  taken_now : (applies : List (Option TxnId)) (e : Entry) → AreApplies applies (sent_of earlier) → (event : Event) → e.event ≡ event
      → is_some (kept_outcome (taken_from (deed_with (act_of cluster earlier event) e.emitted ++ deeds_of cluster a earlier)) x) ≡ (is_some (kept_outcome past x) || takes applies event x)
  taken_now applies e are (Begin txn) is = by (slice_get cluster.bodies txn)
    where
      by : (o : Option BodyParts)
          → is_some (kept_outcome (taken_from (deed_with (option_map (Begins txn) o) e.emitted ++ deeds_of cluster a earlier)) x) ≡ (is_some (kept_outcome past x) || false)
      by None = or_false (is_some (kept_outcome past x))
      by (Some body) = or_false (is_some (kept_outcome past x))
  taken_now applies e are (Recover txn) is = by (id_of_txn earlier txn) (slice_get cluster.bodies txn)
    where
      by : (o : Option TxnId) (p : Option BodyParts)
          → is_some (kept_outcome (taken_from (deed_with (recovers o p) e.emitted ++ deeds_of cluster a earlier)) x) ≡ (is_some (kept_outcome past x) || false)
      by None p = or_false (is_some (kept_outcome past x))
      by (Some y) None = or_false (is_some (kept_outcome past x))
      by (Some y) (Some body) = or_false (is_some (kept_outcome past x))
  taken_now applies e are (Slow txn) is = by (id_of_txn earlier txn)
    where
      by : (o : Option TxnId)
          → is_some (kept_outcome (taken_from (deed_with (option_map Slows o) e.emitted ++ deeds_of cluster a earlier)) x) ≡ (is_some (kept_outcome past x) || false)
      by None = or_false (is_some (kept_outcome past x))
      by (Some y) = or_false (is_some (kept_outcome past x))
  taken_now applies e are (Restart kept) is = or_false (is_some (kept_outcome past x))
  taken_now applies e are (TakesMessage number) is = by (message_at earlier number) ∙ ap (λ o. is_some (kept_outcome past x) || is_id o x) (sym (apply_is applies (sent_of earlier) number are))
    where
      by : (o : Option Message)
          → is_some (kept_outcome (taken_from (deed_with (option_map Takes o) e.emitted ++ deeds_of cluster a earlier)) x)
          ≡ (is_some (kept_outcome past x) || is_id (applied_in o) x)
      by None = or_false (is_some (kept_outcome past x))
      by (Some m) = some_or (kept_outcome past x) (outcome_in x m) ∙ ap (λ o. is_some (kept_outcome past x) || o) (outcome_is x m)

  pub took_more : (applies : List (Option TxnId)) (e : Entry) → AreApplies applies (sent_of earlier)
      → took_apply cluster (Step e ∷ earlier) x a ≡ (took_apply cluster earlier x a || takes_apply applies e.actor e.event x a)
  took_more applies e are = by (same_actor e.actor a)
    where
      by : (o : Bool)
          → is_some (kept_outcome (taken_from (deed_if o cluster earlier e ++ deeds_of cluster a earlier)) x) ≡ (is_some (kept_outcome past x) || (o && takes applies e.event x))
      by true = taken_now applies e are e.event refl
      by false = or_false (is_some (kept_outcome past x))

  pub took_with : (applies : List (Option TxnId)) (item : Item) → AreApplies applies (sent_of earlier)
      → took_apply cluster (item ∷ earlier) x a ≡ (took_apply cluster earlier x a || takes_in applies item x a)
  took_with applies (Step e) are = took_more applies e are
  took_with applies (Skipped step cause) are = or_false (is_some (kept_outcome past x))
  took_with applies (Down actor) are = or_false (is_some (kept_outcome past x))

-- ---- attempts that were ended

pub ended_more : (x : TxnId) (b : Ballot) (item : Item) (earlier : List Item)
    → is_ended x b (item ∷ earlier) ≡ (is_ended x b earlier || list_any (tells_ended x b) (noted_in item))
ended_more x b item earlier = list_any-append (tells_ended x b) (notes_of earlier) (noted_in item)

-- ---- one item more

pub one_item : (old new : Seen) (item : Item) (earlier : List Item) → new.items ≡ old.items + 1 → new.applies ≡ old.applies ++ map applied_by (sent_in item)
    → ((x : TxnId) (a : Actor) → has_taker new.taken.keys x a ≡ (has_taker old.taken.keys x a || takes_in old.applies item x a))
    → ((x : TxnId) (b : Ballot) → has_attempt new.ended.keys x b ≡ (has_attempt old.ended.keys x b || list_any (tells_ended x b) (noted_in item)))
    → Tells old earlier → Tells new (item ∷ earlier)
one_item old new item earlier count applies taken ended tells =
    record {
      count = count ∙ ap (λ n. n + 1) tells.count ∙ more (length earlier);
      applies = applies ∙ ap (λ l. l ++ map applied_by (sent_in item)) tells.applies ∙ sym (map-append applied_by (sent_of earlier) (sent_in item));
      taken = λ cluster x a.
          taken x a ∙ ap (λ o. o || takes_in old.applies item x a) (tells.taken cluster x a)
          ∙ sym (took_with cluster x a earlier old.applies item tells.applies);
      ended = λ x b. ended x b ∙ ap (λ o. o || list_any (tells_ended x b) (noted_in item)) (tells.ended x b) ∙ sym (ended_more x b item earlier);
    }
  where
    more : (n : ℕ) → n + 1 ≡ suc n
    more n = omega arith

-- ---- the oldest items

pub oldest_items : (items later oldest : List Item) → reverse items ≡ later ++ oldest → reverse (take (length oldest) items) ≡ oldest
oldest_items items later oldest is =
    let front : length oldest ≡ length (reverse oldest) = sym (length-reverse oldest) in
    let whole : items ≡ reverse oldest ++ reverse later = sym (reverse-reverse items) ∙ ap reverse is ∙ reverse-append later oldest in
    ap (λ l. reverse (take (length oldest) l)) whole
    ∙ ap reverse (take-append-le (length oldest) (reverse oldest) (reverse later) (omega (arith, front)) ∙ take_all (length oldest) (reverse oldest) (omega (arith, front)))
    ∙ reverse-reverse oldest
