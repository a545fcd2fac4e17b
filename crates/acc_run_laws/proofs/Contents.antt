-- What of a message has no text value.
use Rattle.std.proofs.Common.{◌≡◌, Bool, false, List, [], ◌∷◌, refl}
use Rattle.std.specs.List.{list_any, AllByRecursion}
use Rattle.std.proofs.lemmas.Bool.{or_from}
use Rattle.acc_txn.specs.declared.outcome.Outcome.{Outcome}
use Rattle.acc_message.specs.declared.answer.ReadAnswer.{ReadAnswer}
use Rattle.acc_message.specs.declared.answer.ReadAnswer.TheVariants.{Values, Known}
use Rattle.acc_message.specs.declared.message.Message.{Message}
use Rattle.acc_message.specs.declared.message.Message.TheVariants.{PreAccept, PreAcceptOk, Accept, AcceptOk, Commit, CommitOk, Stable, ReadOk, Apply, Recover, RecoverOk, Nack, Decided, Inform}
use Rattle.acc_message.specs.NodeRules.{Act, Begins, Recovers, Slows, Takes, Restarts}
use Rattle.acc_payloads.specs.Texts.{is_text_cell, outcome_has_text, has_text}
use Rattle.acc_lang.specs.Texts.{has_text_value}
use Rattle.acc_run_laws.proofs.AloneOutcomes.{ArePlainPairs, IsPlainOutcome, IsPlainBody}

abbrev pub IsPlainAnswer : ReadAnswer → Type 0
IsPlainAnswer (Values cells) = ArePlainPairs cells
IsPlainAnswer (Known outcome) = IsPlainOutcome outcome

abbrev pub HasPlainContent : Message → Type 0
HasPlainContent (PreAccept from to id ballot body) = IsPlainBody body
HasPlainContent (PreAcceptOk from to id ballot vote deps) = Unit {0}
HasPlainContent (Accept from to id ballot body t deps) = IsPlainBody body
HasPlainContent (AcceptOk from to id ballot deps) = Unit {0}
HasPlainContent (Commit from to id ballot body t deps) = IsPlainBody body
HasPlainContent (CommitOk from to id ballot) = Unit {0}
HasPlainContent (Stable from to id ballot body t deps) = IsPlainBody body
HasPlainContent (ReadOk from to id ballot answer) = IsPlainAnswer answer
HasPlainContent (Apply from to id ballot body t deps outcome) = IsPlainBody body × IsPlainOutcome outcome
HasPlainContent (Recover from to id ballot body) = IsPlainBody body
HasPlainContent (RecoverOk from to id ballot view) = Unit {0}
HasPlainContent (Nack from to id ballot promised) = Unit {0}
HasPlainContent (Decided from to id ballot t deps) = Unit {0}
HasPlainContent (Inform from to id ballot outcome) = IsPlainOutcome outcome

abbrev pub IsPlainAct : Act → Type 0
IsPlainAct (Begins txn body) = IsPlainBody body
IsPlainAct (Recovers x body) = IsPlainBody body
IsPlainAct (Slows x) = Unit {0}
IsPlainAct (Takes m) = HasPlainContent m
IsPlainAct Restarts = Unit {0}

none_passes : {T : Type 0} (test : T → Bool) (xs : List T) → AllByRecursion (λ x. test x ≡ false) xs → list_any test xs ≡ false
none_passes test [] h = refl
none_passes test (x ∷ xs) h = or_from (test x) (list_any test xs) h.0 (none_passes test xs h.1)

outcome_has_none : (o : Outcome) → IsPlainOutcome o → outcome_has_text o ≡ false
outcome_has_none o h =
    or_from (list_any is_text_cell o.reply.values) (list_any (λ pair. is_text_cell pair.1) o.writes) (none_passes is_text_cell o.reply.values h.values)
    (none_passes (λ pair. is_text_cell pair.1) o.writes h.writes)

pub has_none : (m : Message) → HasPlainContent m → has_text m ≡ false
has_none (PreAccept from to id ballot body) h = h
has_none (PreAcceptOk from to id ballot vote deps) h = refl
has_none (Accept from to id ballot body t deps) h = h
has_none (AcceptOk from to id ballot deps) h = refl
has_none (Commit from to id ballot body t deps) h = h
has_none (CommitOk from to id ballot) h = refl
has_none (Stable from to id ballot body t deps) h = h
has_none (ReadOk from to id ballot answer) h = refl
has_none (Apply from to id ballot body t deps outcome) h = or_from (has_text_value body) (outcome_has_text outcome) h.0 (outcome_has_none outcome h.1)
has_none (Recover from to id ballot body) h = h
has_none (RecoverOk from to id ballot view) h = refl
has_none (Nack from to id ballot promised) h = refl
has_none (Decided from to id ballot t deps) h = refl
has_none (Inform from to id ballot outcome) h = refl
