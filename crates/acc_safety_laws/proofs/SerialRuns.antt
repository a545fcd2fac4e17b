-- In every run with agreement and coverage all messages are right, and all notes are in order.
use Rattle.std.proofs.Common.{◌≡◌, Bool, true, false, List, [], ◌∷◌, ◌++◌, Option, None, Some, refl, sym, ◌∙◌, ap, subst, ⊎_elim}
use Rattle.acc_stamp.specs.declared.stamps.TxnId.{TxnId}
use Rattle.acc_stamp.specs.declared.actors.Actor.{Actor}
use Rattle.acc_stamp.specs.Actor.{node_of}
use Rattle.acc_txn.specs.declared.outcome.Outcome.{Outcome}
use Rattle.acc_base.specs.Faults.{or_else}
use Rattle.acc_message.specs.declared.message.Message.{Message}
use Rattle.acc_message.specs.declared.note.Note.{Note}
use Rattle.acc_message.specs.declared.entry.Emitted.{Emitted}
use Rattle.acc_message.specs.declared.entry.Entry.{Entry}
use Rattle.acc_message.specs.declared.item.Item.{Item}
use Rattle.acc_message.specs.declared.item.Item.TheVariants.{Step, Skipped, Down}
use Rattle.acc_message.specs.Fields.{id_of}
use Rattle.acc_message.specs.Items.{sent_in, sent_of, noted_in, notes_of}
use Rattle.acc_message.specs.BallotRules.{outcome_in}
use Rattle.acc_message.specs.Attempts.{Attempt}
use Rattle.acc_message.specs.NodeRules.{Act, Begins, Takes}
use Rattle.acc_message.specs.Run.{Cluster, clock_start, deeds_of, taken_from, taken_of, store_emits, is_node, emits_by, attempt_at, StandsOn, EachStands}
use Rattle.acc_actor_laws.proofs.Standing.{not_none}
use Rattle.acc_safety_laws.proofs.Facts.{Premises, or_else_cases}
use Rattle.acc_safety_laws.proofs.Histories.{outcome_about}
use Rattle.acc_safety_laws.proofs.NotesInOrder.{InOrder, right_more, in_order_join}
use Rattle.acc_message.specs.Attempts.{fits}
use Rattle.acc_message.specs.StoreRules.{store_answer}
use Rattle.acc_safety.specs.Places.{IsIn, First, Later}
use Rattle.acc_safety.specs.Histories.{Sending}
use Rattle.acc_safety.proofs.PlaceOrder.{each_at, each_from, none_is_in, StandsAt-IsPast, IsPast-rest}
use Rattle.acc_safety.proofs.Bridge.{node_step, taken_was_sent, sent_is_sending, Sending-past}
use Rattle.acc_safety.proofs.StoreSent.{store_sends}
use Rattle.acc_safety.proofs.Attempted.{answers_of}
use Rattle.acc_safety.proofs.Frame.{bodies_are_begun}
use Rattle.acc_safety_laws.proofs.Notions.{first_apply, outcome_first, IsOutcome, IsRight, SettlesDecided}
use Rattle.acc_safety_laws.proofs.StoreRight.{IsSound, right_outcome, one_outcome, sent_right}
use Rattle.acc_safety_laws.proofs.Steps.{node_emitted}
use Rattle.acc_safety_laws.proofs.Framed.{has_body, run_framed}
use Rattle.acc_safety_laws.proofs.NodeReads.{IsReadOf}
use Rattle.acc_safety_laws.proofs.NodeRight.{EachRight, ReadsRight, IsRightAttempt}
use Rattle.acc_safety_laws.proofs.SerialEntries.{entry_right}
use Rattle.acc_safety_laws.proofs.Parts.{IsWithin, within_earlier, body_is_begun, sending_cases, sending_is_sent, each_taken, takes_sent}

-- a part of the run whose messages are right and whose notes are in order
pub record IsSerialRun (cluster : Cluster) (whole : List Item) (given : Premises cluster whole) (part : List Item) : Type 0 where
  pub messages : (m : Message) → Sending part m → IsRight cluster whole (notes_of part) m
  pub noted : InOrder cluster whole [] (notes_of part)

module _ (cluster : Cluster) (whole : List Item) (given : Premises cluster whole) where
  -- ---- the first outcome is that of every Apply

  pub each_sent_right : (part : List Item) → ((m : Message) → Sending part m → IsRight cluster whole (notes_of part) m) → EachRight cluster whole given (notes_of part) (sent_of part)
  each_sent_right part right = each_from (IsRight cluster whole (notes_of part)) (sent_of part) (λ m there. right m (sent_is_sending part m there))

  pub first_is_right : (notes : List Note) (ms : List Message) (x : TxnId) (o : Outcome) → EachRight cluster whole given notes ms → first_apply ms x ≡ Some o
      → IsOutcome cluster whole notes x o
  first_is_right notes [] x o right e = absurd (not_none o e)
  first_is_right notes (m ∷ ms) x o right e =
      ⊎_elim
      (λ here. let about = outcome_about x m o here in
      subst (λ y. IsOutcome cluster whole notes y o) about.0 (right_outcome cluster whole notes m o right.0 about.1))
      (first_is_right notes ms x o right.1) (or_else_cases (outcome_in x m) (first_apply ms x) o e)

  -- a message that was sent has a first one
  sent_has_first : (ms : List Message) (m : Message) (x : TxnId) (o : Outcome) → IsIn m ms → outcome_in x m ≡ Some o → (p : Outcome) × (first_apply ms x ≡ Some p)
  sent_has_first ms m x o (First n ns) e = (o, ap (λ k. or_else k (first_apply ns x)) e)
  sent_has_first ms m x o (Later n k ns there) e =
      let f = sent_has_first ns n x o there e in some_first (outcome_in x k) (first_apply ns x) f.0 f.1
    where
      some_first : (k first : Option Outcome) (o : Outcome) → first ≡ Some o → (p : Outcome) × (or_else k first ≡ Some p)
      some_first None first o e = (o, e)
      some_first (Some p) first o e = (p, refl)

  module _ (part : List Item) (stands : EachStands cluster part) (within : IsWithin cluster whole part)
      (right : (m : Message) → Sending part m → IsRight cluster whole (notes_of part) m) where
    first_known : (m : Message) (x : TxnId) (o : Outcome) → IsIn m (sent_of part) → outcome_in x m ≡ Some o → outcome_first cluster whole x ≡ Some o
    first_known m x o there e =
        let about = outcome_about x m o e in
        let found = sent_has_first (sent_of part) m x o there e in
        let mine = subst (λ y. IsOutcome cluster whole (notes_of part) y o) about.0
        (right_outcome cluster whole (notes_of part) m o (right m (sent_is_sending part m there)) about.1) in
        let theirs = first_is_right (notes_of part) (sent_of part) x found.0 (each_sent_right part right) found.1 in
        within.first x found.0 found.1
        ∙ ap (λ q. Some q) (one_outcome cluster whole given (notes_of part) (notes_of part) x found.0 o theirs.finished mine.finished)

    pub sound : (m : Message) → Sending part m → IsSound cluster whole (notes_of part) m
    sound m s =
        let there = sending_is_sent part m s in
        record {
          body = λ body e. within.body (id_of m) body (bodies_are_begun cluster part stands m body s e);
          settled = λ r e. within.decision _ (each_at (SettlesDecided cluster part) m (sent_of part) (run_framed cluster part stands).messages there r e);
          right = right m s;
          first = λ x o e. first_known m x o there e;
        }

    -- the attempts of nodes
    answers_right : (a : Actor) (x : TxnId) (t : Attempt) → is_node a ≡ true → attempt_at cluster part a x ≡ Some t → ReadsRight cluster whole given (notes_of part) x t
    answers_right a x t node at s executes =
        each_from (IsReadOf cluster whole given (notes_of part) x) t.answers
        (λ m there.
        let answer = answers_of cluster.layout x (node_of a) (clock_start cluster.starts (node_of a)) (deeds_of cluster a part) t at m there in
        let n = node_step cluster a part stands answer.took.deed answer.took.past answer.took.at in
        let sent = (taken_was_sent cluster a part answer.took.deed answer.took.past m n answer.took.act_is).sending in
        record {
          about = answer.about;
          reads = subst (λ phase. fits phase m ≡ true) executes answer.fitting;
          right = right m (Sending-past n.earlier part m (IsPast-rest (Step n.entry) n.earlier part (StandsAt-IsPast (Step n.entry) n.earlier part n.at)) sent);
        })

    attempt_right : (a : Actor) → is_node a ≡ true → (x : TxnId) (t : Attempt) → attempt_at cluster part a x ≡ Some t → IsRightAttempt cluster whole given (notes_of part) x t
    attempt_right a node x t at =
        let has = has_body cluster part stands a x t node at in
        record {
          body = within.body x t.body has;
          begun = body_is_begun cluster part x t.body has;
          decided = λ r is. within.decision _ ((run_framed cluster part stands).reads a x t node at r is);
          reads = answers_right a x t node at;
        }

  -- ---- one entry more

  module _ (e : Entry) (earlier : List Item) (stands : EachStands cluster earlier) (within : IsWithin cluster whole earlier) (s : StandsOn cluster earlier e)
      (run : IsSerialRun cluster whole given earlier) where
    taken_sound : (m : Message) → s.act ≡ Takes m → IsSound cluster whole (notes_of earlier) m
    taken_sound m same =
        sound earlier stands within run.messages m
        (sent_is_sending earlier m (takes_sent cluster earlier m e.event (s.act_is ∙ ap (λ k. Some k) same)))

    -- what the entry emits
    record Emits (emitted : Emitted) : Type 0 where
      out : EachRight cluster whole given (notes_of earlier ++ emitted.notes) emitted.out
      noted : InOrder cluster whole (notes_of earlier) emitted.notes

    store_emits_right : (act : Act) → ((m : Message) → act ≡ Takes m → IsSound cluster whole (notes_of earlier) m)
        → Emits (store_emits cluster.layout e.actor (taken_from (deeds_of cluster e.actor earlier)) act)
    store_emits_right (Takes m) taken =
        record {
          out = each_from (IsRight cluster whole (notes_of earlier ++ [])) (store_answer cluster.layout e.actor (taken_of cluster e.actor earlier) m)
              (λ n there. right_more cluster whole (notes_of earlier) [] n
              (sent_right cluster whole given (notes_of earlier) e.actor (taken_of cluster e.actor earlier) m n
              (each_taken (IsSound cluster whole (notes_of earlier)) cluster e.actor earlier stands (sound earlier stands within run.messages)) (taken m refl)
              (store_sends cluster.layout e.actor (taken_of cluster e.actor earlier) m n there)));
          noted = tt;
        }
    store_emits_right (Begins txn body) taken = record { out = tt; noted = tt }
    store_emits_right _ taken = record { out = tt; noted = tt }

    emits_right : Emits e.emitted
    emits_right = by (is_node e.actor) refl
      where
        by : (b : Bool) → is_node e.actor ≡ b → Emits e.emitted
        by false store =
            subst Emits (sym (s.emitted ∙ ap (λ b. emits_by b cluster e.actor (deeds_of cluster e.actor earlier) s.act) store)) (store_emits_right s.act taken_sound)
        by true node =
            let same = node_emitted cluster earlier e s e.actor s.act node refl s.act_is in
            let r = entry_right cluster whole given (notes_of earlier) e.emitted.notes (node_of e.actor) (clock_start cluster.starts (node_of e.actor)) (deeds_of cluster e.actor earlier)
            (attempt_right earlier stands within run.messages e.actor node) s.act (λ m takes. (taken_sound m takes).right) (ap (λ (t : Emitted). t.notes) same) in
            record {
              out = subst (λ (t : Emitted). EachRight cluster whole given (notes_of earlier ++ e.emitted.notes) t.out) (sym same) r.out;
              noted = subst (λ (t : Emitted). InOrder cluster whole (notes_of earlier) t.notes) (sym same) r.noted;
            }

    step_serial : IsSerialRun cluster whole given (Step e ∷ earlier)
    step_serial =
        record {
          messages = λ m sent. ⊎_elim (λ old. right_more cluster whole (notes_of earlier) e.emitted.notes m (run.messages m old))
              (λ new. each_at (IsRight cluster whole (notes_of (Step e ∷ earlier))) m e.emitted.out emits_right.out new) (sending_cases (Step e) earlier m sent);
          noted = in_order_join cluster whole [] (notes_of earlier) e.emitted.notes run.noted emits_right.noted;
        }

  quiet_serial : (item : Item) (earlier : List Item) → sent_in item ≡ [] → noted_in item ≡ [] → IsSerialRun cluster whole given earlier → IsSerialRun cluster whole given (item ∷ earlier)
  quiet_serial item earlier none silent run =
      record {
        messages = λ m sent. ⊎_elim (λ old. right_more cluster whole (notes_of earlier) (noted_in item) m (run.messages m old))
            (λ new. absurd (none_is_in m (subst (IsIn m) none new))) (sending_cases item earlier m sent);
        noted = in_order_join cluster whole [] (notes_of earlier) (noted_in item) run.noted (subst (InOrder cluster whole (notes_of earlier)) (sym silent) tt);
      }

  pub run_serial : (items : List Item) → IsWithin cluster whole items → EachStands cluster items → IsSerialRun cluster whole given items
  run_serial [] within stands = record { messages = λ m sent. absurd (none_is_in m (sending_is_sent [] m sent)); noted = tt }
  run_serial (Step e ∷ earlier) within stands =
      let old = within_earlier cluster whole (Step e) earlier within in
      step_serial e earlier stands.1 old stands.0 (run_serial earlier old stands.1)
  run_serial (Skipped step cause ∷ earlier) within stands =
      quiet_serial (Skipped step cause) earlier refl refl (run_serial earlier (within_earlier cluster whole (Skipped step cause) earlier within) stands.1)
  run_serial (Down actor ∷ earlier) within stands =
      quiet_serial (Down actor) earlier refl refl (run_serial earlier (within_earlier cluster whole (Down actor) earlier within) stands.1)
