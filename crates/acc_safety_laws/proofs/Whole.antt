-- Every run with agreement and coverage has serial outcomes.
use Rattle.std.proofs.Common.{◌≡◌, Bool, true, false, List, [], ◌∷◌, Option, None, Some, refl, sym, ◌∙◌, ap, subst}
use Rattle.std.specs.List.{AllByRecursion}
use Rattle.std.proofs.lemmas.Bool.{or_left, or_right, cond-true, cond-false}
use Rattle.acc_stamp.specs.declared.stamps.TxnId.{TxnId}
use Rattle.acc_stamp.specs.Stamp.{id_eq}
use Rattle.acc_stamp.proofs.Order.{id_order}
use Rattle.acc_stamp.proofs.Rising.{each_weaker}
use Rattle.acc_topology.specs.Layout.{IsLayout}
use Rattle.acc_value.specs.declared.key.Key.{Key}
use Rattle.acc_value.specs.Pairs.{find}
use Rattle.acc_txn.specs.declared.parts.BodyParts.{BodyParts}
use Rattle.acc_txn.specs.declared.outcome.Outcome.{Outcome}
use Rattle.acc_txn.specs.Uses.{is_updated}
use Rattle.acc_txn.proofs.Writes.{find-outcome_of}
use Rattle.acc_message.specs.declared.note.Note.{Note}
use Rattle.acc_message.specs.declared.item.Item.{Item}
use Rattle.acc_message.specs.Items.{sent_of, notes_of}
use Rattle.acc_message.specs.Run.{Cluster, EachStands}
use Rattle.acc_safety.specs.Decisions.{Answered as Answer, outcomes_of, is_answered, first_outcomes}
use Rattle.acc_safety.specs.Agreement.{Agreement}
use Rattle.acc_safety.specs.Coverage.{Coverage}
use Rattle.acc_safety.specs.SerialOutcomes.{SerialOutcomes}
use Rattle.acc_actor_laws.proofs.OpeningFacts.{some_is}
use Rattle.acc_safety_laws.proofs.Notions.{written_at, outcome_first, wrote, Answered, Finished}
use Rattle.acc_safety_laws.proofs.Facts.{Premises, updated_is_found}
use Rattle.acc_safety_laws.proofs.StoreRight.{one_outcome}
use Rattle.acc_safety_laws.proofs.Frame.{HasApply}
use Rattle.acc_safety_laws.proofs.Framed.{IsFramedRun, run_framed}
use Rattle.acc_safety_laws.proofs.Parts.{within_itself}
use Rattle.acc_safety_laws.proofs.SerialRuns.{IsSerialRun, each_sent_right, first_is_right, run_serial}
use Rattle.acc_safety_laws.proofs.Stores.{used_key_has_stores}
use Rattle.acc_safety_laws.proofs.Outcomes.{outcomes_agree, replies_agree, notes_in_place}
use Rattle.acc_safety_laws.proofs.InTheirTurn.{outcomes_in_order, RunsSerially, runs_serially, start_so_far}

each_answered : (answers : List Answer) → AllByRecursion (λ (a : Answer). is_answered a.id answers ≡ true) answers
each_answered [] = tt
each_answered (a ∷ answers) = (
  or_left (id_eq a.id a.id) _ ((id_order.decides a.id a.id).1 refl),
  each_weaker (λ (b : Answer). is_answered b.id answers ≡ true) (λ (b : Answer). is_answered b.id (a ∷ answers) ≡ true) answers (λ b h. or_right (id_eq a.id b.id) _ h) (each_answered answers),
)

nothing_written : (body : BodyParts) (o : Option Outcome) (key : Key) → is_updated body key ≡ false → written_at (Some body) o key ≡ None
nothing_written body None key none = refl
nothing_written body (Some outcome) key none = cond-false (is_updated body key) (find outcome.writes key) None none

module _ (cluster : Cluster) (items : List Item) (given : Premises cluster items) (framed : IsFramedRun cluster items) (run : IsSerialRun cluster items given items) where
  pub written : (x : TxnId) (notes : List Note) (o : Outcome) (key : Key) → Answered (notes_of items) x → Finished cluster items notes x o → find o.writes key ≡ wrote cluster items x key
  written x notes o key answered f = by (is_updated f.body key) refl ∙ ap (λ b. written_at b (outcome_first cluster items x) key) (sym f.body_is)
    where
      by : (b : Bool) → is_updated f.body key ≡ b → find o.writes key ≡ written_at (Some f.body) (outcome_first cluster items x) key
      by false none =
          ap (λ (p : Outcome). find p.writes key) f.outcome_is ∙ find-outcome_of f.body f.cells key none ∙ sym (nothing_written f.body (outcome_first cluster items x) key none)
      by true updates =
          sym (cond-true (is_updated f.body key) (find o.writes key) None updates) ∙ ap (λ p. written_at (Some f.body) p key) (sym first_is)
        where
          applied : HasApply cluster items (sent_of items) x
          applied = framed.applied x answered

          found : (p : Outcome) × (outcome_first cluster items x ≡ Some p)
          found =
              applied.sent (λ none. used_key_has_stores cluster.layout applied.body key true given.layout
              (updated_is_found cluster items given applied.body key (subst (λ body. is_updated body key ≡ true) (some_is f.body applied.body (sym f.body_is ∙ applied.body_is)) updates)) none)

          first_is : outcome_first cluster items x ≡ Some o
          first_is =
              found.1
              ∙ ap (λ p. Some p) (one_outcome cluster items given (notes_of items) notes x found.0 o
              (first_is_right cluster items given (notes_of items) (sent_of items) x found.0 (each_sent_right cluster items given items run.messages) found.1).finished f)

  serially : RunsSerially cluster items (λ key. None) (first_outcomes (notes_of items))
  serially =
      runs_serially cluster items given (record { written = written }) [] [] (λ key. None) (outcomes_of (notes_of items)) (start_so_far cluster items given (record { written = written }))
      (outcomes_in_order cluster items [] (notes_of items) run.noted) (each_answered (outcomes_of (notes_of items)))

  outcomes_are_serial : SerialOutcomes cluster items
  outcomes_are_serial =
      record {
        bodies = serially.bodies;
        bodies_are = serially.bodies_are;
        serial_run = serially.replies_are;
        outcomes_agree = outcomes_agree cluster items given (notes_of items) run.noted;
        replies_agree = replies_agree cluster items given (notes_of items) run.noted;
        in_place = notes_in_place cluster items given (notes_of items) run.noted;
      }

pub serial_outcomes : (cluster : Cluster) (items : List Item) → IsLayout cluster.layout → EachStands cluster items → Agreement items
    → Coverage cluster items → SerialOutcomes cluster items
serial_outcomes cluster items layout stands agreement coverage =
    let framed = run_framed cluster items stands in
    let given : Premises cluster items = record { layout = layout; agreement = agreement; coverage = coverage; settled = framed.messages } in
    outcomes_are_serial cluster items given framed (run_serial cluster items given items (within_itself cluster items) stands)
