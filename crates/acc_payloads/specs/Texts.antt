-- Whether a message to a store has a text value.
use Rattle.std.specs.Prelude.{Bool, true, false, ◌||◌, Option, None, Some}
use Rattle.std.specs.List.{list_any}
use Rattle.acc_value.specs.declared.key.Key.{Key}
use Rattle.acc_value.specs.declared.value.Value.{Value}
use Rattle.acc_value.specs.declared.value.Value.TheVariants.{Number, Text}
use Rattle.acc_txn.specs.declared.outcome.Outcome.{Outcome}
use Rattle.acc_lang.specs.Texts.{has_text_value}
use Rattle.acc_message.specs.declared.message.Message.{Message}
use Rattle.acc_message.specs.declared.message.Message.TheVariants.{PreAccept, PreAcceptOk, Accept, AcceptOk, Commit, CommitOk, Stable, ReadOk, Apply, Recover, RecoverOk, Nack, Decided, Inform}

abbrev pub is_text_cell : Option Value → Bool
is_text_cell None = false
is_text_cell (Some (Number number)) = false
is_text_cell (Some (Text text)) = true

abbrev pub outcome_has_text : Outcome → Bool
outcome_has_text o = list_any is_text_cell o.reply.values || list_any (λ (pair : Key × Option Value). is_text_cell pair.1) o.writes

-- in its body or in its outcome
abbrev pub has_text : Message → Bool
has_text (PreAccept from to id ballot body) = has_text_value body
has_text (PreAcceptOk from to id ballot vote deps) = false
has_text (Accept from to id ballot body t deps) = has_text_value body
has_text (AcceptOk from to id ballot deps) = false
has_text (Commit from to id ballot body t deps) = has_text_value body
has_text (CommitOk from to id ballot) = false
has_text (Stable from to id ballot body t deps) = has_text_value body
has_text (ReadOk from to id ballot answer) = false
has_text (Apply from to id ballot body t deps outcome) = has_text_value body || outcome_has_text outcome
has_text (Recover from to id ballot body) = has_text_value body
has_text (RecoverOk from to id ballot view) = false
has_text (Nack from to id ballot promised) = false
has_text (Decided from to id ballot t deps) = false
has_text (Inform from to id ballot outcome) = false
