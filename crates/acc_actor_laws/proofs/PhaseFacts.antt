-- An attempt in its first phase has ballot zero.
use Rattle.std.proofs.Common.{◌≡◌, ℕ, Bool, true, false, not, ◌&&◌, ◌||◌, List, [], ◌∷◌, Option, None, Some, refl, subst}
use Rattle.std.proofs.lemmas.Bool.{cond_both}
use Rattle.acc_stamp.specs.declared.stamps.TxnId.{TxnId}
use Rattle.acc_stamp.specs.declared.actors.Actor.{Actor}
use Rattle.acc_stamp.specs.Actor.{actor_of}
use Rattle.acc_stamp.specs.Stamp.{id_eq, ballot_eq, ballot_lt, zero_ballot}
use Rattle.acc_topology.specs.Layout.{Layout}
use Rattle.acc_deps.specs.declared.records.Settled.{Settled}
use Rattle.acc_deps.specs.declared.records.Choice.{Choice}
use Rattle.acc_deps.specs.declared.records.Choice.TheVariants.{Accept as GoAccept, Commit as GoCommit, Stable as GoStable}
use Rattle.acc_txn.specs.declared.outcome.Outcome.{Outcome}
use Rattle.acc_message.specs.declared.message.Message.{Message}
use Rattle.acc_message.specs.declared.message.Message.TheVariants.{PreAccept, PreAcceptOk, Accept, AcceptOk, Commit, CommitOk, Stable, ReadOk, Apply, Recover, RecoverOk, Nack, Decided, Inform}
use Rattle.acc_message.specs.declared.note.Path.TheVariants.{Adopted}
use Rattle.acc_message.specs.Fields.{id_of, ballot_of}
use Rattle.acc_message.specs.Attempts.{Attempt, Phase, Voting, Recovering, Accepting, Committing, Executing, counts, majority_everywhere, fast_everywhere, fast_lost_somewhere, outcome_from}
use Rattle.acc_message.specs.RecoveryDecision.{Ruling, Go, Blocks, recovery_decision}
use Rattle.acc_message.specs.Coordinator.{Reaction, when, either, begun, recovering, slow_down, decide, go, follow_ruling, finish_with, after_answer, with_answer, on_message, reaction, may_slow_down, slow_reaction, is_decided, is_past_recover, end}
use Rattle.acc_message.specs.NodeRules.{Act, Begins, Recovers, Slows, Takes, Restarts, Deed, next_id, next_ballot, next_by, where_about, attempt_after, attempt_of}

abbrev Fine : Attempt → Type 0
Fine a = a.phase ≡ Voting → a.ballot ≡ zero_ballot

abbrev IsFine : Option Attempt → Type 0
IsFine None = Unit {0}
IsFine (Some a) = Fine a

abbrev Goes_well : Reaction → Type 0
Goes_well r = IsFine r.next

accepting : (s : Settled) → Accepting s ≡ Voting → ⊥
accepting s e = cc

committing : (s : Settled) → Committing s ≡ Voting → ⊥
committing s e = cc

executing : (s : Settled) → Executing s ≡ Voting → ⊥
executing s e = cc

recovering_phase : Recovering ≡ Voting → ⊥
recovering_phase e = cc

when_well : (b : Bool) (go_on : Attempt → Reaction) (a : Attempt) → Fine a → Goes_well (go_on a) → Goes_well (when b go_on a)
when_well true go_on a f h = h
when_well false go_on a f h = f

either_well : (b : Bool) (one other : Attempt → Reaction) (a : Attempt) → Goes_well (one a) → Goes_well (other a) → Goes_well (either b one other a)
either_well true one other a h k = h
either_well false one other a h k = k

module _ (layout : Layout) (own : Actor) (x : TxnId) where
  go_well : (a : Attempt) (choice : Choice) → Goes_well (go layout own x a choice)
  go_well a (GoAccept s) = λ e. absurd (accepting s e)
  go_well a (GoCommit s) = λ e. absurd (committing s e)
  go_well a (GoStable s) = λ e. absurd (executing s e)

  ruling_well : (a : Attempt) (r : Ruling) → Goes_well (follow_ruling layout own x a r)
  ruling_well a (Go choice) = go_well a choice
  ruling_well a (Blocks by) = tt

  finish_well : (a : Attempt) (s : Settled) (o : Option Outcome) → Fine a → Goes_well (finish_with layout own x a s o)
  finish_well a s None f = f
  finish_well a s (Some outcome) f = tt

  answer_well : (a : Attempt) (phase : Phase) → Fine a → Goes_well (after_answer layout own x a phase)
  answer_well a Voting f =
      either_well (fast_everywhere layout x a.body a.answers) _ _ a (λ e. absurd (executing _ e))
      (when_well (majority_everywhere layout x a.body a.answers && fast_lost_somewhere layout x a.body a.answers) (slow_down layout own x) a f
      (λ e. absurd (accepting _ e)))
  answer_well a Recovering f =
      when_well (majority_everywhere layout x a.body a.answers) _ a f (ruling_well a (recovery_decision layout x a.body a.answers))
  answer_well a (Accepting s) f = when_well (majority_everywhere layout x a.body a.answers) _ a f (λ e. absurd (committing _ e))
  answer_well a (Committing s) f = when_well (majority_everywhere layout x a.body a.answers) _ a f (λ e. absurd (executing _ e))
  answer_well a (Executing s) f = finish_well a s (outcome_from layout a.body a.answers) f

  counted_well : (a : Attempt) (m : Message) → Fine a
      → Goes_well (when (counts layout a m) (λ a. after_answer layout own x (with_answer a m) a.phase) a)
  counted_well a m f = when_well (counts layout a m) _ a f (answer_well (with_answer a m) a.phase f)

  message_well : (a : Attempt) (m : Message) → Fine a → Goes_well (on_message layout own x a m)
  message_well a (Nack from to id ballot promised) f =
      when_well (not (is_decided a.phase) && ballot_lt a.ballot promised) (λ b. end x b promised) a f tt
  message_well a (Decided from to id ballot t deps) f =
      when_well (not (is_decided a.phase) && (is_past_recover a.phase || ballot_eq a.ballot zero_ballot))
      (λ b. decide layout own x b Adopted (record { t = t; deps = deps })) a f (λ e. absurd (executing _ e))
  message_well a (PreAccept from to id ballot body) f = counted_well a (PreAccept from to id ballot body) f
  message_well a (PreAcceptOk from to id ballot vote deps) f = counted_well a (PreAcceptOk from to id ballot vote deps) f
  message_well a (Accept from to id ballot body t deps) f = counted_well a (Accept from to id ballot body t deps) f
  message_well a (AcceptOk from to id ballot deps) f = counted_well a (AcceptOk from to id ballot deps) f
  message_well a (Commit from to id ballot body t deps) f = counted_well a (Commit from to id ballot body t deps) f
  message_well a (CommitOk from to id ballot) f = counted_well a (CommitOk from to id ballot) f
  message_well a (Stable from to id ballot body t deps) f = counted_well a (Stable from to id ballot body t deps) f
  message_well a (ReadOk from to id ballot answer) f = counted_well a (ReadOk from to id ballot answer) f
  message_well a (Apply from to id ballot body t deps outcome) f = counted_well a (Apply from to id ballot body t deps outcome) f
  message_well a (Recover from to id ballot body) f = counted_well a (Recover from to id ballot body) f
  message_well a (RecoverOk from to id ballot view) f = counted_well a (RecoverOk from to id ballot view) f
  message_well a (Inform from to id ballot outcome) f = counted_well a (Inform from to id ballot outcome) f

  reaction_well : (a : Attempt) (m : Message) → Fine a → Goes_well (reaction layout own x a m)
  reaction_well a m f = when_well (ballot_eq (ballot_of m) a.ballot) (λ b. on_message layout own x b m) a f (message_well a m f)

  slow_well : (a : Attempt) → Fine a → Goes_well (slow_reaction layout own x a)
  slow_well a f = when_well (may_slow_down layout x a a.phase) (slow_down layout own x) a f (λ e. absurd (accepting _ e))

next_fine : (react : Attempt → Reaction) (o : Option Attempt) → ((a : Attempt) → Fine a → Goes_well (react a)) → IsFine o → IsFine (next_by react o)
next_fine react None h f = tt
next_fine react (Some a) h f = h a f

about_fine : (b : Bool) (react : Attempt → Reaction) (o : Option Attempt) → ((a : Attempt) → Fine a → Goes_well (react a)) → IsFine o
    → IsFine (where_about b (next_by react) o)
about_fine true react o h f = next_fine react o h f
about_fine false react o h f = f

after_fine : (layout : Layout) (node start : ℕ) (x : TxnId) (past : List Deed) (before : Option Attempt) (act : Act) → IsFine before
    → IsFine (attempt_after layout node start x past before act)
after_fine layout node start x past before (Begins txn body) f =
    cond_both (id_eq (next_id node start past) x) (Some (begun body)) before IsFine (λ _ e. refl) (λ _. f)
after_fine layout node start x past before (Recovers y body) f =
    cond_both (id_eq y x) (Some (recovering (next_ballot node start past) body)) before IsFine (λ _ e. absurd (recovering_phase e)) (λ _. f)
after_fine layout node start x past before (Slows y) f =
    about_fine (id_eq y x) (slow_reaction layout (actor_of node 0) x) before (slow_well layout (actor_of node 0) x) f
after_fine layout node start x past before (Takes m) f =
    about_fine (id_eq (id_of m) x) (λ a. reaction layout (actor_of node 0) x a m) before (λ a. reaction_well layout (actor_of node 0) x a m) f
after_fine layout node start x past before Restarts f = tt

all_fine : (layout : Layout) (node start : ℕ) (x : TxnId) (past : List Deed) → IsFine (attempt_of layout node start x past)
all_fine layout node start x [] = tt
all_fine layout node start x (deed ∷ past) =
    after_fine layout node start x past (attempt_of layout node start x past) deed.act (all_fine layout node start x past)

pub first_has_zero : (layout : Layout) (node start : ℕ) (x : TxnId) (past : List Deed) (a : Attempt)
    → attempt_of layout node start x past ≡ Some a → a.phase ≡ Voting → a.ballot ≡ zero_ballot
first_has_zero layout node start x past a is = subst IsFine is (all_fine layout node start x past)
