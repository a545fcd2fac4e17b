-- A step that is planned: what the shelf that is changed by it has learnt, and when it answers by the rules.
use Rattle.std.proofs.Common.{◌≡◌, ℕ, Bool, false, cond, List, [], ◌∷◌, ◌++◌, Option, None, Some, IfSome, max, refl, sym, ◌∙◌, ap, subst}
use Rattle.std.specs.Option.{option_map}
use Rattle.acc_base.specs.Faults.{or_else}
use Rattle.acc_stamp.specs.declared.stamps.Stamp.{Stamp}
use Rattle.acc_stamp.specs.declared.stamps.TxnId.{TxnId}
use Rattle.acc_stamp.specs.Stamp.{id_eq}
use Rattle.acc_topology.specs.Layout.{Layout}
use Rattle.acc_value.specs.declared.key.Key.{Key}
use Rattle.acc_txn.specs.declared.parts.BodyParts.{BodyParts}
use Rattle.acc_message.specs.declared.message.Message.{Message}
use Rattle.acc_message.specs.Opening.{may_open}
use Rattle.acc_message.specs.StoreRules.{store_answer, replay}
use Rattle.acc_record.specs.declared.plan.QuietParts.{QuietParts}
use Rattle.acc_record.specs.declared.record.Record.{Record}
use Rattle.acc_record.specs.declared.shelf.Shelf.{Shelf}
use Rattle.acc_record.specs.Changes.{changed}
use Rattle.acc_record.specs.Learning.{known_or_fresh, notes_of}
use Rattle.acc_record.specs.LearntAs.{IsLearntAs}
use Rattle.acc_record.specs.Planned.{made_for, IsNewIn, IsPlannedAs, IsChangedBy, IsPlanned}
use Rattle.acc_record.specs.Shelf.{record_at}
use Rattle.acc_record.specs.Stands.{StandsFor, AnswersByRules}
use Rattle.acc_record.specs.Steps.{QuietStep}
use Rattle.acc_record.proofs.QuietSteps.{quiet_answers}

module _ (old : Shelf) (x : TxnId) (body : BodyParts) (share : List (Key × Bool)) (stamp : Option Stamp) (top : ℕ) (plan : QuietParts)
    (p : IsPlannedAs old x body share stamp top plan) where
  abbrev before : Option Record
  before = record_at old.records x

  begun : (o : Option Record) → or_else o (made_for o x body) ≡ Some (known_or_fresh o x body)
  begun None = refl
  begun (Some r) = refl

  begins : or_else (record_at old.records plan.id) plan.made ≡ Some (known_or_fresh before x body)
  begins = (λ i. or_else (record_at old.records (p.id_is i)) (p.made_is i)) ∙ begun before

  pub learnt_as_planned : (new : Shelf) → IsChangedBy old new plan → IsLearntAs old new x share stamp top (changed plan.change (known_or_fresh before x body))
  learnt_as_planned new c =
      record {
        actor = c.actor;
        records = λ y. c.records y ∙ (λ i. cond (id_eq (p.id_is i) y) (option_map (changed plan.change) (begins i)) (record_at old.records y));
        index = c.index ∙ (λ i. old.index ++ notes_of (p.id_is i) (p.note_is i));
        cells = c.cells;
        waits = c.waits;
        greatest = c.greatest ∙ ap (max old.greatest) p.top_is;
      }

  made_new : (o : Option Record) → before ≡ o → IfSome (made_for o x body) (λ made. (made.id ≡ x) × (before ≡ None))
  made_new None e = (refl, e)
  made_new (Some r) e = tt

  new_there : IsNewIn old plan
  new_there =
      subst (λ y. IfSome plan.made (λ made. (made.id ≡ y) × (record_at old.records y ≡ None))) (sym p.id_is)
      (subst (λ o. IfSome o (λ made. (made.id ≡ x) × (before ≡ None))) (sym p.made_is) (made_new before refl))

  -- the plan of a message that opens nothing
  module _ (layout : Layout) (m : Message) (answer : Message) (quiet : may_open m ≡ false) (sends : plan.sent ≡ answer ∷ [])
      (answers : (messages : List Message) → StandsFor layout old (replay layout old.actor messages)
      → answer ∷ [] ≡ store_answer layout old.actor (replay layout old.actor messages) m)
      (steps : (new : Shelf) → IsLearntAs old new x share stamp top (changed plan.change (known_or_fresh before x body)) → QuietStep layout old new m (answer ∷ [])) where
    pub planned : IsPlanned layout old m plan
    planned =
        record {
          quiet = quiet;
          new = new_there;
          answers = λ messages stands. sends ∙ answers messages stands;
          stands = λ after c.
              subst (AnswersByRules layout old after m) (sym sends)
              (quiet_answers layout old after m (answer ∷ []) quiet answers (steps after (learnt_as_planned after c)));
        }
