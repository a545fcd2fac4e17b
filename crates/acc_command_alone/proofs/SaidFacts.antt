-- How a command ends whose text was said.
use Rattle.std.proofs.Common.{◌≡◌, ◌≢◌, ◌⊎◌, ℕ, List, Option, Result, Ok, Err, sym, subst, inl, inr}
use Rattle.std.specs.Prelude.{IfOk}
use Rattle.acc_base.specs.declared.memory.OutOfMemory.{OutOfMemory as NoMemory}
use Rattle.acc_ports.specs.Faults.{Rose}
use Rattle.acc_command_alone.specs.Streams.{Streams}
use Rattle.acc_command_alone.specs.declared.reply.Reply.{Reply}
use Rattle.acc_command_alone.specs.declared.status.Status.{Status}
use Rattle.acc_command_alone.specs.declared.status.Status.TheVariants.{Done, No, Usage, ReadFault, WriteFault, BadInput, Limit, OutOfMemory}
use Rattle.acc_command_alone.specs.Ends.{Ends, Says, TellsFaults, Writes}
use Rattle.acc_command_alone.specs.Responds.{IsVerdict, SaysReply}
use Rattle.acc_command_alone.specs.Command.{IsGenerated, IsUsage}

-- a fact of each status that may come
pub either : (P : Status → Type 0) (status : Status) (text : List ℕ) (result : Status) (old new : Option (List ℕ)) → P status → P WriteFault → P OutOfMemory
    → Says status text result old new → P result
either P status text result old new p w o (inl said) = subst P (sym said.0) p
either P status text result old new p w o (inr (inl failed, part)) = subst P (sym failed) w
either P status text result old new p w o (inr (inr no_memory, part)) = subst P (sym no_memory) o

module _ (P : Status → List ℕ → Type 0) (status : Status) (text : List ℕ) (result : Status) (old new : Option (List ℕ)) (due : P status text) where
  pub ends : (Writes P status old new → Ends P status old new) → Says status text result old new → Ends P result old new
  ends whole (inl said) = subst (λ r. Ends P r old new) (sym said.0) (whole (text, due, said.1))
  ends whole (inr (inl failed, part)) = subst (λ r. Ends P r old new) (sym failed) (status, text, due, part)
  ends whole (inr (inr no_memory, part)) = subst (λ r. Ends P r old new) (sym no_memory) (inr (status, text, due, part))

pub ends_usage : (text : List ℕ) (result : Status) (old new : Option (List ℕ)) → IsUsage Usage text → Says Usage text result old new → Ends IsUsage result old new
ends_usage text result old new due = ends IsUsage Usage text result old new due (λ w. w)

-- it comes without a fault of a source
pub usage_reads : (text : List ℕ) (result : Status) (old new : Option (List ℕ)) → Says Usage text result old new → result ≢ ReadFault
usage_reads text result old new said = either (λ s. s ≢ ReadFault) Usage text result old new (λ e. cc) (λ e. cc) (λ e. cc) said

pub usage_faults : (before after : Streams) (text : List ℕ) (result : Status) → Says Usage text result before.written after.written
    → after.read_faults ≡ before.read_faults → (result ≡ WriteFault → (Usage ≡ WriteFault) ⊎ Rose before.write_faults after.write_faults)
    → (result ≢ WriteFault → after.write_faults ≡ before.write_faults) → TellsFaults before after result
usage_faults before after text result said reads cause still = record {
  read_fault = λ e. absurd (usage_reads text result before.written after.written said e);
  read_first = λ _. reads;
  unwritten = λ e. absurd (usage_reads text result before.written after.written said e);
  write_fault = λ e. risen (cause e);
  no_write_fault = still;
} where
  risen : (Usage ≡ WriteFault) ⊎ Rose before.write_faults after.write_faults → Rose before.write_faults after.write_faults
  risen (inl e) = absurd cc
  risen (inr rose) = rose

pub ends_generated : (seed txns : ℕ) (text : List ℕ) (result : Status) (old new : Option (List ℕ)) → IsGenerated seed txns Done text
    → Says Done text result old new → Ends (IsGenerated seed txns) result old new
ends_generated seed txns text result old new due = ends (IsGenerated seed txns) Done text result old new due (λ w. w)

-- ---- replies

whole : (P : Status → List ℕ → Type 0) (status : Status) (old new : Option (List ℕ)) → IsVerdict status → Writes P status old new → Ends P status old new
whole P Done old new is w = w
whole P No old new is w = w
whole P BadInput old new is w = w
whole P Limit old new is w = w
whole P Usage old new is w = absurd is
whole P ReadFault old new is w = absurd is
whole P WriteFault old new is w = absurd is
whole P OutOfMemory old new is w = absurd is

pub reply_ends : (P : Status → List ℕ → Type 0) (reply : Result Reply NoMemory) (result : Status) (old new : Option (List ℕ))
    → IfOk reply (λ r. IsVerdict r.status) → IfOk reply (λ r. P r.status r.text) → SaysReply reply result old new → Ends P result old new
reply_ends P (Ok reply) result old new is due said = ends P reply.status reply.text result old new due (whole P reply.status old new is) said
reply_ends P (Err none) result old new is due said = subst (λ r. Ends P r old new) (sym said.0) (inl said.1)

-- a fact of each status that may come
pub reply_either : (P : Status → Type 0) (reply : Result Reply NoMemory) (result : Status) (old new : Option (List ℕ)) → IfOk reply (λ r. P r.status) → P WriteFault
    → P OutOfMemory → SaysReply reply result old new → P result
reply_either P (Ok reply) result old new p w o said = either P reply.status reply.text result old new p w o said
reply_either P (Err none) result old new p w o said = subst P (sym said.0) o

-- of verdicts
pub each : (P : Status → Type 0) (reply : Result Reply NoMemory) → ((status : Status) → IsVerdict status → P status) → IfOk reply (λ r. IsVerdict r.status)
    → IfOk reply (λ r. P r.status)
each P (Ok reply) p is = p reply.status is
each P (Err none) p is = tt

pub not_usage : (status : Status) → IsVerdict status → status ≢ Usage
not_usage Done is e = cc
not_usage No is e = cc
not_usage BadInput is e = cc
not_usage Limit is e = cc
not_usage Usage is e = is
not_usage ReadFault is e = is
not_usage WriteFault is e = is
not_usage OutOfMemory is e = is

pub not_read_fault : (status : Status) → IsVerdict status → status ≢ ReadFault
not_read_fault Done is e = cc
not_read_fault No is e = cc
not_read_fault BadInput is e = cc
not_read_fault Limit is e = cc
not_read_fault Usage is e = is
not_read_fault ReadFault is e = is
not_read_fault WriteFault is e = is
not_read_fault OutOfMemory is e = is
