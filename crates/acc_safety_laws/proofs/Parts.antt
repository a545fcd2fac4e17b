-- What a part of a run has the whole run has too, what is begun is noted, and what a store took was sent.
use Rattle.std.proofs.Common.{◌≡◌, ℕ, true, List, [], ◌∷◌, Option, None, Some, Contains, refl, ◌∙◌, subst, ◌⊎◌, inl, inr, ⊎_elim}
use Rattle.std.specs.List.{AllByRecursion, list_any, slice_get}
use Rattle.std.proofs.lemmas.Bool.{or_left, or_right, cond_both}
use Rattle.std.proofs.lemmas.List.Folds.{list_any-append}
use Rattle.acc_stamp.specs.declared.stamps.TxnId.{TxnId}
use Rattle.acc_stamp.specs.declared.actors.Actor.{Actor}
use Rattle.acc_txn.specs.declared.parts.BodyParts.{BodyParts}
use Rattle.acc_txn.specs.declared.outcome.Outcome.{Outcome}
use Rattle.acc_message.specs.declared.message.Message.{Message}
use Rattle.acc_message.specs.declared.entry.Event.{Event}
use Rattle.acc_message.specs.declared.entry.Event.TheVariants.{Begin as BeginEvent, Recover as RecoverEvent, Slow as SlowEvent, Message as MessageEvent, Restart as RestartEvent}
use Rattle.acc_message.specs.declared.item.Item.{Item}
use Rattle.acc_message.specs.declared.item.Item.TheVariants.{Step, Skipped, Down}
use Rattle.acc_message.specs.Items.{sent_in, sent_of, noted_in, notes_of, begins, txn_begun, txn_in, txn_of, message_at, id_of_txn}
use Rattle.acc_message.specs.NodeRules.{Begins, Slows, Takes, Restarts}
use Rattle.acc_actor_laws.proofs.OpeningFacts.{some_is}
use Rattle.std.specs.Option.{option_map}
use Rattle.std.proofs.Common.{zero, suc, ap}
use Rattle.acc_message.specs.Taken.{Taken}
use Rattle.acc_message.specs.Run.{Cluster, recovers, act_of, taken_of, EachStands}
use Rattle.acc_safety.specs.Decisions.{Decision, decisions_of, body_at}
use Rattle.acc_safety.specs.Places.{IsIn, First, Later, StandsAt, Here, Back}
use Rattle.acc_safety.specs.Histories.{Sending}
use Rattle.acc_safety.proofs.PlaceOrder.{each_from, IsIn-append_left, IsIn-append_right, StandsAt-IsPast, IsPast-rest}
use Rattle.acc_safety.proofs.Bridge.{Sending-past, store_step}
use Rattle.acc_actor_laws.proofs.Standing.{not_none}
use Rattle.acc_safety.specs.Polls.{IsBody}
use Rattle.acc_safety_laws.proofs.Notions.{first_apply, outcome_first}
use Rattle.acc_safety_laws.proofs.Facts.{or_else_cases}
use Rattle.acc_safety_laws.proofs.Frame.{body_kept, decision_kept, first_apply-more}

-- ---- a part of a run

pub record IsWithin (cluster : Cluster) (whole part : List Item) : Type 0 where
  pub body : (x : TxnId) (body : BodyParts) → IsBody cluster part x body → IsBody cluster whole x body
  pub decision : (d : Decision) → Contains (decisions_of (notes_of part)) d → Contains (decisions_of (notes_of whole)) d
  pub first : (x : TxnId) (o : Outcome) → first_apply (sent_of part) x ≡ Some o → outcome_first cluster whole x ≡ Some o

pub within_itself : (cluster : Cluster) (whole : List Item) → IsWithin cluster whole whole
within_itself cluster whole = record { body = λ x body h. h; decision = λ d h. h; first = λ x o e. e }

pub within_earlier : (cluster : Cluster) (whole : List Item) (item : Item) (earlier : List Item) → IsWithin cluster whole (item ∷ earlier) → IsWithin cluster whole earlier
within_earlier cluster whole item earlier w =
    record {
      body = λ x body h. w.body x body (body_kept cluster item earlier x body h);
      decision = λ d h. w.decision d (decision_kept cluster item earlier d h);
      first = λ x o e. w.first x o (first_apply-more (sent_of earlier) (sent_in item) x o e);
    }

-- ---- begins are noted

txn_in-begun : (x : TxnId) (item : Item) (n : ℕ) → txn_in x item ≡ Some n → list_any (begins x) (noted_in item) ≡ true
txn_in-begun x (Step e) n k =
    cond_both (list_any (begins x) e.emitted.notes) (txn_begun e.event) None (λ o. o ≡ Some n → list_any (begins x) e.emitted.notes ≡ true)
    (λ is _. is) (λ _ e. absurd (not_none n e)) k
txn_in-begun x (Skipped step cause) n e = absurd (not_none n e)
txn_in-begun x (Down actor) n e = absurd (not_none n e)

pub numbered_is_begun : (items : List Item) (x : TxnId) (n : ℕ) → txn_of items x ≡ Some n → list_any (begins x) (notes_of items) ≡ true
numbered_is_begun [] x n e = absurd (not_none n e)
numbered_is_begun (item ∷ earlier) x n e =
    list_any-append (begins x) (notes_of earlier) (noted_in item)
    ∙ ⊎_elim (λ old. or_left (list_any (begins x) (notes_of earlier)) _ (numbered_is_begun earlier x n old))
    (λ new. or_right (list_any (begins x) (notes_of earlier)) _ (txn_in-begun x item n new))
    (or_else_cases (txn_of earlier x) (txn_in x item) n e)

pub body_is_begun : (cluster : Cluster) (items : List Item) (x : TxnId) (body : BodyParts) → IsBody cluster items x body → list_any (begins x) (notes_of items) ≡ true
body_is_begun cluster items x body = by (txn_of items x) refl
  where
    by : (o : Option ℕ) → txn_of items x ≡ o → body_at cluster o ≡ Some body → list_any (begins x) (notes_of items) ≡ true
    by None is e = absurd (not_none body e)
    by (Some n) is e = numbered_is_begun items x n is

-- ---- messages

place_cases : {T : Type 0} (x y : T) (past xs : List T) → StandsAt x past (y ∷ xs) → (x ≡ y) ⊎ StandsAt x past xs
place_cases x y past xs (Here z zs) = inl refl
place_cases x y past xs (Back z w zs ws at) = inr at

-- a message was sent earlier, or by the newest item
pub sending_cases : (item : Item) (earlier : List Item) (m : Message) → Sending (item ∷ earlier) m → Sending earlier m ⊎ IsIn m (sent_in item)
sending_cases item earlier m s =
    ⊎_elim (λ here. inr (subst (λ i. IsIn m (sent_in i)) here s.sent))
    (λ back. inl (record { entry = s.entry; earlier = s.earlier; at = back; sent = s.sent })) (place_cases (Step s.entry) item s.earlier earlier s.at)

pub sending_is_sent : (items : List Item) (m : Message) → Sending items m → IsIn m (sent_of items)
sending_is_sent [] m s = absurd (nowhere s.at)
  where
    nowhere : {x : Item} {past : List Item} → StandsAt x past [] → ⊥
    nowhere at = elim at [ ]
sending_is_sent (item ∷ earlier) m s =
    ⊎_elim (λ old. IsIn-append_left m (sent_of earlier) (sent_in item) (sending_is_sent earlier m old)) (IsIn-append_right m (sent_of earlier) (sent_in item))
    (sending_cases item earlier m s)

stands_somewhere : {T : Type 0} (x : T) (xs : List T) → IsIn x xs → (past : List T) × StandsAt x past xs
stands_somewhere x xs (First y ys) = (ys, Here y ys)
stands_somewhere x xs (Later y z ys there) = let at = stands_somewhere y ys there in (at.0, Back y z at.0 ys at.1)

-- what holds of each message sent holds of each message that a store took
pub each_taken : (P : Message → Type 0) (cluster : Cluster) (a : Actor) (items : List Item) → EachStands cluster items → ((m : Message) → Sending items m → P m)
    → AllByRecursion (λ (step : Taken). P step.message) (taken_of cluster a items)
each_taken P cluster a items stands each =
    each_from (λ (step : Taken). P step.message) (taken_of cluster a items)
    (λ step there.
    let at = stands_somewhere step (taken_of cluster a items) there in
    let s = store_step cluster a items stands step at.0 at.1 in
    each step.message
    (Sending-past s.earlier items step.message (IsPast-rest (Step s.entry) s.earlier items (StandsAt-IsPast (Step s.entry) s.earlier items s.at)) s.sending))

-- ---- a message that an entry takes

numbered_is_sent : (ms : List Message) (number : ℕ) (m : Message) → slice_get ms number ≡ Some m → IsIn m ms
numbered_is_sent [] number m e = absurd (not_none m e)
numbered_is_sent (n ∷ ms) zero m e = subst (λ k. IsIn k (n ∷ ms)) (some_is n m e) (First n ms)
numbered_is_sent (n ∷ ms) (suc number) m e = Later m n ms (numbered_is_sent ms number m e)

took_same : (n m : Message) → Takes n ≡ Takes m → n ≡ m
took_same n m e = cc

module _ (cluster : Cluster) (earlier : List Item) (m : Message) where
  takes_number : (number : ℕ) (o : Option Message) → message_at earlier number ≡ o → option_map Takes o ≡ Some (Takes m) → IsIn m (sent_of earlier)
  takes_number number None is e = absurd (not_none (Takes m) e)
  takes_number number (Some n) is e = numbered_is_sent (sent_of earlier) number m (is ∙ ap (λ k. Some k) (took_same n m (some_is (Takes n) (Takes m) e)))

  begins_apart : (txn : ℕ) (o : Option BodyParts) → option_map (Begins txn) o ≡ Some (Takes m) → ⊥
  begins_apart txn None e = not_none (Takes m) e
  begins_apart txn (Some body) e = cc

  recovers_apart : (o : Option TxnId) (p : Option BodyParts) → recovers o p ≡ Some (Takes m) → ⊥
  recovers_apart None p e = not_none (Takes m) e
  recovers_apart (Some x) None e = not_none (Takes m) e
  recovers_apart (Some x) (Some body) e = cc

  slows_apart : (o : Option TxnId) → option_map Slows o ≡ Some (Takes m) → ⊥
  slows_apart None e = not_none (Takes m) e
  slows_apart (Some x) e = cc

  restarts_apart : Some Restarts ≡ Some (Takes m) → ⊥
  restarts_apart e = cc

  -- what an entry takes was sent earlier
  pub takes_sent : (event : Event) → act_of cluster earlier event ≡ Some (Takes m) → IsIn m (sent_of earlier)
  takes_sent (MessageEvent number) e = takes_number number (message_at earlier number) refl e
  takes_sent (BeginEvent txn) e = absurd (begins_apart txn (slice_get cluster.bodies txn) e)
  takes_sent (RecoverEvent txn) e = absurd (recovers_apart (id_of_txn earlier txn) (slice_get cluster.bodies txn) e)
  takes_sent (SlowEvent txn) e = absurd (slows_apart (id_of_txn earlier txn) e)
  takes_sent (RestartEvent kept) e = absurd (restarts_apart e)
