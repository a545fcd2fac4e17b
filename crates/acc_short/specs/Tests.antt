-- What has a spelling, as a test. Each of these holds only where the fact of its name in acc_code or acc_message_code does.
use Rattle.std.specs.Prelude.{nat_le, nat_lt, Bool, true, ◌&&◌, List, length, Option, None, Some}
use Rattle.std.specs.List.{list_all}
use Rattle.acc_stamp.specs.Stamp.{id_lt}
use Rattle.acc_stamp.specs.Rising.{is_rising_by}
use Rattle.acc_deps.specs.declared.shards.ShardDeps.{ShardDeps}
use Rattle.acc_deps.specs.declared.records.Accepted.{Accepted}
use Rattle.acc_deps.specs.declared.records.Settled.{Settled}
use Rattle.acc_deps.specs.declared.records.View.{View}
use Rattle.acc_value.specs.declared.key.Key.{Key}
use Rattle.acc_value.specs.declared.value.Value.{Value}
use Rattle.acc_value.specs.declared.value.Value.TheVariants.{Number, Text}
use Rattle.acc_txn.specs.Words.{is_text_value}
use Rattle.acc_txn.specs.declared.outcome.Outcome.{Outcome}
use Rattle.acc_message.specs.declared.answer.ReadAnswer.{ReadAnswer}
use Rattle.acc_message.specs.declared.answer.ReadAnswer.TheVariants.{Values, Known}
use Rattle.acc_message.specs.declared.message.Message.{Message}
use Rattle.acc_message.specs.declared.message.Message.TheVariants.{PreAccept, PreAcceptOk, Accept, AcceptOk, Commit, CommitOk, Stable, ReadOk, Apply, Recover, RecoverOk, Nack, Decided, Inform}
use Rattle.acc_message.specs.Fields.{from_of, to_of}

abbrev pub is_short_shard : ShardDeps → Bool
is_short_shard d = nat_le 1 d.shard && (nat_le d.shard 15 && nat_lt (length d.ids) 65536)

abbrev pub are_short_deps : List ShardDeps → Bool
are_short_deps deps = nat_le (length deps) 15 && list_all is_short_shard deps

abbrev pub has_short_deps : Option Accepted → Bool
has_short_deps None = true
has_short_deps (Some a) = are_short_deps a.deps

abbrev pub has_short_settled : Option Settled → Bool
has_short_settled None = true
has_short_settled (Some s) = are_short_deps s.deps

abbrev pub is_short_view : View → Bool
is_short_view v =
    nat_lt v.store.0 65536
    && (are_short_deps v.vote_deps
    && (has_short_deps v.accepted
    && (has_short_deps v.committed
    && (has_short_settled v.stable && (nat_lt (length v.waits) 65536 && is_rising_by id_lt v.waits)))))

abbrev pub is_short_key : Key → Bool
is_short_key key = nat_lt (length key.table) 256 && nat_lt (length key.key) 256

abbrev pub holds_text : Option Value → Bool
holds_text None = true
holds_text (Some (Number number)) = true
holds_text (Some (Text text)) = is_text_value text

abbrev pub is_short_pair : Key × Option Value → Bool
is_short_pair pair = is_short_key pair.0 && holds_text pair.1

abbrev pub are_short_cells : List (Key × Option Value) → Bool
are_short_cells pairs = nat_lt (length pairs) 256 && list_all is_short_pair pairs

abbrev pub is_short_outcome : Outcome → Bool
is_short_outcome o = nat_lt (length o.reply.values) 256 && (list_all holds_text o.reply.values && are_short_cells o.writes)

abbrev pub is_short_answer : ReadAnswer → Bool
is_short_answer (Values cells) = are_short_cells cells
is_short_answer (Known outcome) = is_short_outcome outcome

abbrev pub has_short_content : Message → Bool
has_short_content (PreAccept from to id ballot body) = true
has_short_content (PreAcceptOk from to id ballot vote deps) = are_short_deps deps
has_short_content (Accept from to id ballot body t deps) = are_short_deps deps
has_short_content (AcceptOk from to id ballot deps) = are_short_deps deps
has_short_content (Commit from to id ballot body t deps) = are_short_deps deps
has_short_content (CommitOk from to id ballot) = true
has_short_content (Stable from to id ballot body t deps) = are_short_deps deps
has_short_content (ReadOk from to id ballot answer) = is_short_answer answer
has_short_content (Apply from to id ballot body t deps outcome) = are_short_deps deps && is_short_outcome outcome
has_short_content (Recover from to id ballot body) = true
has_short_content (RecoverOk from to id ballot view) = is_short_view view
has_short_content (Nack from to id ballot promised) = true
has_short_content (Decided from to id ballot t deps) = are_short_deps deps
has_short_content (Inform from to id ballot outcome) = is_short_outcome outcome

abbrev pub is_short_message : Message → Bool
is_short_message m = nat_lt (from_of m).0 65536 && (nat_lt (to_of m).0 65536 && has_short_content m)
