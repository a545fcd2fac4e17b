-- The recovery decision by the record that is adopted.
use Rattle.std.proofs.Common.{◌≡◌, List, [], ◌∷◌, Option, None, Some, refl, sym, ◌∙◌, ap}
use Rattle.acc_base.specs.Faults.{or_else}
use Rattle.acc_stamp.specs.declared.stamps.Stamp.{Stamp}
use Rattle.acc_stamp.specs.declared.stamps.TxnId.{TxnId}
use Rattle.acc_stamp.specs.Stamp.{zero_stamp}
use Rattle.acc_topology.specs.Layout.{Layout}
use Rattle.acc_quorum.specs.Answers.{Answer, greatest}
use Rattle.acc_tally.specs.Stands.{greatest_if}
use Rattle.acc_deps.specs.declared.records.View.{View}
use Rattle.acc_deps.specs.declared.records.Choice.{Choice}
use Rattle.acc_deps.specs.Records.{Stably, stably_all, least_stably, Claim, claims_of, highest_claim}
use Rattle.acc_txn.specs.declared.parts.BodyParts.{BodyParts}
use Rattle.acc_message.specs.declared.message.Message.{Message}
use Rattle.acc_message.specs.RecoveryDecision.{Ruling, Go, by_claim, by_stable, views_in, without_records, recovery_decision}
use Rattle.acc_recover.specs.Rank.{stable_choice, claimed_choice, adopted}

abbrev decided_by : Option Choice → Ruling → Ruling
decided_by None other = other
decided_by (Some choice) other = Go choice

by_both : (s : Option Stably) (c : Option Claim) (other : Ruling) → by_stable s (by_claim c other) ≡ decided_by (or_else (stable_choice s) (claimed_choice c)) other
by_both None None other = refl
by_both None (Some c) other = refl
by_both (Some s) c other = refl

decision_is : (layout : Layout) (x : TxnId) (body : BodyParts) (answers : List Message)
    → recovery_decision layout x body answers ≡ decided_by (adopted (views_in answers)) (without_records layout x body answers)
decision_is layout x body answers =
    by_both (least_stably (stably_all (views_in answers))) (highest_claim (claims_of (views_in answers))) (without_records layout x body answers)

pub decision_adopts : (layout : Layout) (x : TxnId) (body : BodyParts) (answers : List Message) (views : List View) (choice : Choice)
    → views_in answers ≡ views → Some choice ≡ adopted views → Go choice ≡ recovery_decision layout x body answers
decision_adopts layout x body answers views choice e f =
    ap (λ o. decided_by o (without_records layout x body answers)) (f ∙ ap adopted (sym e)) ∙ sym (decision_is layout x body answers)

pub decision_without : (layout : Layout) (x : TxnId) (body : BodyParts) (answers : List Message) (views : List View)
    → views_in answers ≡ views → None ≡ adopted views → without_records layout x body answers ≡ recovery_decision layout x body answers
decision_without layout x body answers views e f =
    ap (λ o. decided_by o (without_records layout x body answers)) (f ∙ ap adopted (sym e)) ∙ sym (decision_is layout x body answers)

pub greatest_some : (answers : List Answer) (t : Stamp) → Some t ≡ greatest_if answers → t ≡ greatest answers
greatest_some [] t e = absurd cc
greatest_some (a ∷ answers) t e = cc

pub greatest_none : (answers : List Answer) → None ≡ greatest_if answers → zero_stamp ≡ greatest answers
greatest_none [] e = refl
greatest_none (a ∷ answers) e = absurd cc
