-- The course of an attempt, in every history of a node: the step that brought it to its phase asked all stores of its transaction, and it
-- knows every message of it that was taken since, and waits for more.
use Rattle.std.proofs.Common.{◌≡◌, Bool, true, false, not, ◌&&◌, ◌||◌, [], ◌∷◌, Option, None, Some, refl, sym, ◌∙◌, ap, subst}
use Rattle.std.specs.List.{list_any}
use Rattle.std.proofs.lemmas.Bool.{true≢false, and_parts, and_from, or_left, or_right, eq-eqb}
use Rattle.acc_stamp.specs.declared.stamps.TxnId.{TxnId}
use Rattle.acc_stamp.specs.declared.stamps.Ballot.{Ballot}
use Rattle.acc_stamp.specs.declared.actors.Actor.{Actor}
use Rattle.acc_stamp.specs.Actor.{shard_of}
use Rattle.acc_stamp.specs.Stamp.{ballot_eq, ballot_lt, zero_ballot}
use Rattle.acc_stamp.proofs.Order.{ballot_order}
use Rattle.acc_topology.specs.Layout.{Layout}
use Rattle.acc_deps.specs.declared.records.Settled.{Settled}
use Rattle.acc_deps.specs.declared.records.Choice.TheVariants.{Accept as GoAccept, Commit as GoCommit, Stable as GoStable}
use Rattle.acc_txn.specs.declared.parts.BodyParts.{BodyParts}
use Rattle.acc_txn.specs.declared.outcome.Outcome.{Outcome}
use Rattle.acc_message.specs.declared.message.Message.{Message}
use Rattle.acc_message.specs.declared.message.Message.TheVariants.{PreAccept, PreAcceptOk, Accept, AcceptOk, Commit, CommitOk, Stable, ReadOk, Apply, Recover, RecoverOk, Nack, Decided, Inform}
use Rattle.acc_message.specs.declared.note.Note.TheVariants.{Decide as DecideNote}
use Rattle.acc_message.specs.declared.note.Path.{Path}
use Rattle.acc_message.specs.declared.note.Path.TheVariants.{Fast, Adopted}
use Rattle.acc_message.specs.Fields.{from_of, ballot_of}
use Rattle.acc_message.specs.Shares.{is_store_of}
use Rattle.acc_message.specs.Attempts.{Attempt, Phase, Voting, Recovering, Accepting, Committing, Executing, fits, same_seat, counts, majority_everywhere, fast_everywhere, fast_lost_somewhere, outcome_from}
use Rattle.acc_message.specs.RecoveryDecision.{Ruling, Go, Blocks, recovery_decision}
use Rattle.acc_message.specs.Coordinator.{Reaction, stay, in_phase, to_all, propose, commit, decide, finish, finish_with, block, end, when, either, own_stamp, highest_vote, slow_down, follow_ruling, agreed, path_of, after_answer, with_answer, is_decided, is_past_recover, on_message, reaction}
use Rattle.acc_safety.specs.Places.{IsIn, First}
use Rattle.acc_safety.proofs.Bridge.{same_itself}
use Rattle.acc_calm.proofs.Reactions.{is_told, unfit_told}
use Rattle.acc_delivered.specs.Laws.{LacksIn}

-- ---- what asks for a phase

-- the message that asks a store for the phase of an attempt
abbrev pub request : Actor → TxnId → Ballot → BodyParts → Phase → Actor → Message
request own x b body Voting store = PreAccept own store x b body
request own x b body Recovering store = Recover own store x b body
request own x b body (Accepting s) store = Accept own store x b body s.t s.deps
request own x b body (Committing s) store = Commit own store x b body s.t s.deps
request own x b body (Executing s) store = Stable own store x b body s.t s.deps

-- ---- what an attempt knows

-- a refusal by a ballot above this one
abbrev pub refuses : Ballot → Message → Bool
refuses b (Nack from to id ballot promised) = ballot_lt b promised
refuses b _ = false

unfit_refusal : (phase : Phase) (b : Ballot) (m : Message) → refuses b m ≡ true → fits phase m ≡ false
unfit_refusal Voting b (Nack from to id ballot promised) h = refl
unfit_refusal Voting b m h = absurd (true≢false (sym h))
unfit_refusal Recovering b (Nack from to id ballot promised) h = refl
unfit_refusal Recovering b m h = absurd (true≢false (sym h))
unfit_refusal (Accepting s) b (Nack from to id ballot promised) h = refl
unfit_refusal (Accepting s) b m h = absurd (true≢false (sym h))
unfit_refusal (Committing s) b (Nack from to id ballot promised) h = refl
unfit_refusal (Committing s) b m h = absurd (true≢false (sym h))
unfit_refusal (Executing s) b (Nack from to id ballot promised) h = refl
unfit_refusal (Executing s) b m h = absurd (true≢false (sym h))

unfit_nack : (phase : Phase) (from to : Actor) (id : TxnId) (ballot promised : Ballot) → fits phase (Nack from to id ballot promised) ≡ false
unfit_nack Voting from to id ballot promised = refl
unfit_nack Recovering from to id ballot promised = refl
unfit_nack (Accepting s) from to id ballot promised = refl
unfit_nack (Committing s) from to id ballot promised = refl
unfit_nack (Executing s) from to id ballot promised = refl

-- another node tells the outcome
abbrev pub is_inform : Message → Bool
is_inform (Inform from to id ballot outcome) = true
is_inform _ = false

pub unfit_inform : (phase : Phase) (m : Message) → fits phase m ≡ true → is_inform m ≡ false
unfit_inform Voting (PreAcceptOk from to id ballot vote deps) h = refl
unfit_inform Voting m h = absurd (true≢false (sym h))
unfit_inform Recovering (RecoverOk from to id ballot view) h = refl
unfit_inform Recovering m h = absurd (true≢false (sym h))
unfit_inform (Accepting s) (AcceptOk from to id ballot deps) h = refl
unfit_inform (Accepting s) m h = absurd (true≢false (sym h))
unfit_inform (Committing s) (CommitOk from to id ballot) h = refl
unfit_inform (Committing s) m h = absurd (true≢false (sym h))
unfit_inform (Executing s) (ReadOk from to id ballot answer) h = refl
unfit_inform (Executing s) m h = absurd (true≢false (sym h))

seat_itself : (phase : Phase) (a : Actor) → same_seat phase a a ≡ true
seat_itself Voting a = same_itself a
seat_itself Recovering a = same_itself a
seat_itself (Accepting s) a = same_itself a
seat_itself (Committing s) a = same_itself a
seat_itself (Executing s) a = eq-eqb (shard_of a) (shard_of a) refl

-- the attempt takes a decision over that it is told
abbrev pub takes_over : Attempt → Bool
takes_over a = is_past_recover a.phase || ballot_eq a.ballot zero_ballot

module _ (layout : Layout) where
  -- What a message of its ballot tells isn't news to the attempt: a greater ballot or a decision where it is decided, and an answer whose
  -- seat is taken.
  pub record Knows (a : Attempt) (m : Message) : Type 0 where
    pub refused : refuses a.ballot m ≡ true → is_decided a.phase ≡ true
    pub told : is_told m ≡ true → takes_over a ≡ true → is_decided a.phase ≡ true
    pub seated :
        fits a.phase m ≡ true → is_store_of layout a.body (from_of m) ≡ true
        → list_any (λ earlier. same_seat a.phase (from_of earlier) (from_of m)) a.answers ≡ true

  pub knows_more : (a : Attempt) (m k : Message) → Knows a k → Knows (with_answer a m) k
  knows_more a m k known =
      record {
        refused = known.refused;
        told = known.told;
        seated = λ fit store. or_right (same_seat a.phase (from_of m) (from_of k)) _ (known.seated fit store);
      }

  -- ---- what an attempt makes of a message

  module _ (own : Actor) (x : TxnId) where
    -- it comes to a new phase, and asks all stores for it
    pub record Enters (a : Attempt) (phase : Phase) (r : Reaction) : Type 0 where
      pub next_is : r.next ≡ Some (in_phase a phase)
      pub out_is : r.emitted.out ≡ to_all layout a.body (request own x a.ballot a.body phase)
      pub notes_are : (s : Settled) → phase ≡ Executing s → (path : Path) × IsIn (DecideNote x s.t path s.deps) r.emitted.notes
      pub further : phase ≡ Recovering → ⊥

    pub data Result (a : Attempt) (m : Message) : Reaction → Type 0 where
      Stays : Knows a m → Result a m (stay a)
      Adds : counts layout a m ≡ true → LacksIn layout x (with_answer a m) a.phase → Result a m (stay (with_answer a m))
      Moves :
          (r : Reaction) (moving : Attempt) (phase : Phase) → is_inform m ≡ false → moving.ballot ≡ a.ballot → moving.body ≡ a.body → Enters moving phase r
          → Result a m r
      Ends : (r : Reaction) → r.next ≡ None → Result a m r

    no_execution : (s t : Settled) → Accepting s ≡ Executing t → ⊥
    no_execution s t e = cc

    no_commit_execution : (s t : Settled) → Committing s ≡ Executing t → ⊥
    no_commit_execution s t e = cc

    no_view : (s : Settled) → Accepting s ≡ Recovering → ⊥
    no_view s e = cc

    no_commit_view : (s : Settled) → Committing s ≡ Recovering → ⊥
    no_commit_view s e = cc

    no_decided_view : (s : Settled) → Executing s ≡ Recovering → ⊥
    no_decided_view s e = cc

    same_settled : (s t : Settled) → Executing s ≡ Executing t → s ≡ t
    same_settled s t e = cc

    pub proposes : (a : Attempt) (s : Settled) → Enters a (Accepting s) (propose layout own x a s)
    proposes a s = record { next_is = refl; out_is = refl; notes_are = λ t e. absurd (no_execution s t e); further = λ e. no_view s e }

    commits : (a : Attempt) (s : Settled) → Enters a (Committing s) (commit layout own x a s)
    commits a s = record { next_is = refl; out_is = refl; notes_are = λ t e. absurd (no_commit_execution s t e); further = λ e. no_commit_view s e }

    decides : (a : Attempt) (path : Path) (s : Settled) → Enters a (Executing s) (decide layout own x a path s)
    decides a path s =
        record {
          next_is = refl;
          out_is = refl;
          notes_are = λ t e. (path, subst (λ k. IsIn (DecideNote x k.t path k.deps) (DecideNote x s.t path s.deps ∷ [])) (same_settled s t e) (First (DecideNote x s.t path s.deps) []));
          further = λ e. no_decided_view s e;
        }

    module _ (a : Attempt) (m : Message) (counting : counts layout a m ≡ true) where
      abbrev more : Attempt
      more = with_answer a m

      moves : (r : Reaction) (phase : Phase) → Enters more phase r → Result a m r
      moves r phase enters = Moves r more phase (unfit_inform a.phase m fit) refl refl enters
        where
          fit : fits a.phase m ≡ true
          fit =
              (and_parts (fits a.phase m) (is_store_of layout a.body (from_of m))
              (and_parts (fits a.phase m && is_store_of layout a.body (from_of m)) (not (list_any (λ earlier. same_seat a.phase (from_of earlier) (from_of m)) a.answers)) counting).0).0

      slowed : a.phase ≡ Voting → (b : Bool) → Result a m (when b (slow_down layout own x) more)
      slowed is true = moves (slow_down layout own x more) (Accepting (highest_vote x more)) (proposes more (highest_vote x more))
      slowed is false = Adds counting (subst (LacksIn layout x more) (sym is) tt)

      either_result : (b : Bool) (one other : Attempt → Reaction) → Result a m (one more) → Result a m (other more) → Result a m (either b one other more)
      either_result true one other f g = f
      either_result false one other f g = g

      ruled : (ruling : Ruling) → Result a m (follow_ruling layout own x more ruling)
      ruled (Go (GoAccept s)) = moves (propose layout own x more s) (Accepting s) (proposes more s)
      ruled (Go (GoCommit s)) = moves (commit layout own x more s) (Committing s) (commits more s)
      ruled (Go (GoStable s)) = moves (decide layout own x more Adopted s) (Executing s) (decides more Adopted s)
      ruled (Blocks by) = Ends (block x more by) refl

      viewed : a.phase ≡ Recovering → (b : Bool) → majority_everywhere layout x a.body (m ∷ a.answers) ≡ b
          → Result a m (when b (λ k. follow_ruling layout own x k (recovery_decision layout x k.body k.answers)) more)
      viewed is true f = ruled (recovery_decision layout x a.body (m ∷ a.answers))
      viewed is false f = Adds counting (subst (LacksIn layout x more) (sym is) f)

      accepted : (s : Settled) → a.phase ≡ Accepting s → (b : Bool) → majority_everywhere layout x a.body (m ∷ a.answers) ≡ b
          → Result a m (when b (λ k. commit layout own x k (agreed x s k)) more)
      accepted s is true f = moves (commit layout own x more (agreed x s more)) (Committing (agreed x s more)) (commits more (agreed x s more))
      accepted s is false f = Adds counting (subst (LacksIn layout x more) (sym is) f)

      committed : (s : Settled) → a.phase ≡ Committing s → (b : Bool) → majority_everywhere layout x a.body (m ∷ a.answers) ≡ b
          → Result a m (when b (λ k. decide layout own x k (path_of k.ballot) s) more)
      committed s is true f = moves (decide layout own x more (path_of a.ballot) s) (Executing s) (decides more (path_of a.ballot) s)
      committed s is false f = Adds counting (subst (LacksIn layout x more) (sym is) f)

      read : (s : Settled) → a.phase ≡ Executing s → (o : Option Outcome) → outcome_from layout a.body (m ∷ a.answers) ≡ o
          → Result a m (finish_with layout own x more s o)
      read s is None f = Adds counting (subst (LacksIn layout x more) (sym is) f)
      read s is (Some outcome) f = Ends (finish layout own x more s outcome) refl

      answered : (phase : Phase) → a.phase ≡ phase → Result a m (after_answer layout own x more phase)
      answered Voting is =
          either_result (fast_everywhere layout x a.body (m ∷ a.answers)) _ _
          (moves (decide layout own x more Fast (own_stamp x more)) (Executing (own_stamp x more)) (decides more Fast (own_stamp x more)))
          (slowed is (majority_everywhere layout x a.body (m ∷ a.answers) && fast_lost_somewhere layout x a.body (m ∷ a.answers)))
      answered Recovering is = viewed is (majority_everywhere layout x a.body (m ∷ a.answers)) refl
      answered (Accepting s) is = accepted s is (majority_everywhere layout x a.body (m ∷ a.answers)) refl
      answered (Committing s) is = committed s is (majority_everywhere layout x a.body (m ∷ a.answers)) refl
      answered (Executing s) is = read s is (outcome_from layout a.body (m ∷ a.answers)) refl

    -- ---- a message of any kind

    module _ (a : Attempt) (m : Message) (untold : is_told m ≡ false) (unrefused : refuses a.ballot m ≡ false) where
      seated_by : counts layout a m ≡ false → fits a.phase m ≡ true → is_store_of layout a.body (from_of m) ≡ true
          → (b : Bool) → list_any (λ earlier. same_seat a.phase (from_of earlier) (from_of m)) a.answers ≡ b
          → list_any (λ earlier. same_seat a.phase (from_of earlier) (from_of m)) a.answers ≡ true
      seated_by none fit store true is = is
      seated_by none fit store false is =
          absurd (true≢false
          (sym (and_from (fits a.phase m && is_store_of layout a.body (from_of m)) (not (list_any (λ earlier. same_seat a.phase (from_of earlier) (from_of m)) a.answers))
          (and_from (fits a.phase m) (is_store_of layout a.body (from_of m)) fit store) (ap not is)) ∙ none))

      counted : (b : Bool) → counts layout a m ≡ b → Result a m (when b (λ k. after_answer layout own x (with_answer k m) k.phase) a)
      counted true is = answered a m is a.phase refl
      counted false is =
          Stays (record {
            refused = λ h. absurd (true≢false (sym h ∙ unrefused));
            told = λ h over. absurd (true≢false (sym h ∙ untold));
            seated = λ fit store. seated_by is fit store (list_any (λ earlier. same_seat a.phase (from_of earlier) (from_of m)) a.answers) refl;
          })

      counts_or_not : Result a m (when (counts layout a m) (λ k. after_answer layout own x (with_answer k m) k.phase) a)
      counts_or_not = counted (counts layout a m) refl

    refused_by : (a : Attempt) (from to : Actor) (id : TxnId) (ballot promised : Ballot) → (decided above : Bool) → is_decided a.phase ≡ decided → ballot_lt a.ballot promised ≡ above
        → Result a (Nack from to id ballot promised) (when (not decided && above) (λ k. end x k promised) a)
    refused_by a from to id ballot promised false true d h = Ends (end x a promised) refl
    refused_by a from to id ballot promised true above d h =
        Stays (record {
          refused = λ _. d;
          told = λ is over. absurd (true≢false (sym is));
          seated = λ fit store. absurd (true≢false (sym fit ∙ unfit_nack a.phase from to id ballot promised));
        })
    refused_by a from to id ballot promised false false d h =
        Stays (record {
          refused = λ is. absurd (true≢false (sym is ∙ h));
          told = λ is over. absurd (true≢false (sym is));
          seated = λ fit store. absurd (true≢false (sym fit ∙ unfit_nack a.phase from to id ballot promised));
        })

    told_by : (a : Attempt) (from to : Actor) (id : TxnId) (ballot : Ballot) (s : Settled) → (decided over : Bool) → is_decided a.phase ≡ decided → takes_over a ≡ over
        → Result a (Decided from to id ballot s.t s.deps) (when (not decided && over) (λ k. decide layout own x k Adopted s) a)
    told_by a from to id ballot s false true d h = Moves (decide layout own x a Adopted s) a (Executing s) refl refl refl (decides a Adopted s)
    told_by a from to id ballot s true over d h =
        Stays (record {
          refused = λ is. absurd (true≢false (sym is));
          told = λ is over. d;
          seated = λ fit store. absurd (true≢false (sym fit ∙ unfit_told a.phase (Decided from to id ballot s.t s.deps) refl));
        })
    told_by a from to id ballot s false false d h =
        Stays (record {
          refused = λ is. absurd (true≢false (sym is));
          told = λ is over. absurd (true≢false (sym over ∙ h));
          seated = λ fit store. absurd (true≢false (sym fit ∙ unfit_told a.phase (Decided from to id ballot s.t s.deps) refl));
        })

    heard : (a : Attempt) (m : Message) → Result a m (on_message layout own x a m)
    heard a (Nack from to id ballot promised) = refused_by a from to id ballot promised (is_decided a.phase) (ballot_lt a.ballot promised) refl refl
    heard a (Decided from to id ballot t deps) = told_by a from to id ballot (record { t = t; deps = deps }) (is_decided a.phase) (takes_over a) refl refl
    heard a (PreAccept from to id ballot body) = counts_or_not a (PreAccept from to id ballot body) refl refl
    heard a (PreAcceptOk from to id ballot vote deps) = counts_or_not a (PreAcceptOk from to id ballot vote deps) refl refl
    heard a (Accept from to id ballot body t deps) = counts_or_not a (Accept from to id ballot body t deps) refl refl
    heard a (AcceptOk from to id ballot deps) = counts_or_not a (AcceptOk from to id ballot deps) refl refl
    heard a (Commit from to id ballot body t deps) = counts_or_not a (Commit from to id ballot body t deps) refl refl
    heard a (CommitOk from to id ballot) = counts_or_not a (CommitOk from to id ballot) refl refl
    heard a (Stable from to id ballot body t deps) = counts_or_not a (Stable from to id ballot body t deps) refl refl
    heard a (ReadOk from to id ballot answer) = counts_or_not a (ReadOk from to id ballot answer) refl refl
    heard a (Apply from to id ballot body t deps outcome) = counts_or_not a (Apply from to id ballot body t deps outcome) refl refl
    heard a (Recover from to id ballot body) = counts_or_not a (Recover from to id ballot body) refl refl
    heard a (RecoverOk from to id ballot view) = counts_or_not a (RecoverOk from to id ballot view) refl refl
    heard a (Inform from to id ballot outcome) = counts_or_not a (Inform from to id ballot outcome) refl refl

    -- of another ballot it changes nothing, and else it comes to this
    pub result : (a : Attempt) (m : Message) → ballot_of m ≡ a.ballot → Result a m (reaction layout own x a m)
    result a m same =
        subst (λ b. Result a m (when b (λ k. on_message layout own x k m) a)) (sym ((ballot_order.decides (ballot_of m) a.ballot).1 same)) (heard a m)

    pub of_another : (a : Attempt) (m : Message) → ballot_eq (ballot_of m) a.ballot ≡ false → reaction layout own x a m ≡ stay a
    of_another a m other = ap (λ b. when b (λ k. on_message layout own x k m) a) other

    -- a message that counts is known then
    pub adds_knows : (a : Attempt) (m : Message) → counts layout a m ≡ true → Knows (with_answer a m) m
    adds_knows a m counting =
        record {
          refused = λ h. absurd (true≢false (sym fit ∙ unfit_refusal a.phase a.ballot m h));
          told = λ h over. absurd (true≢false (sym fit ∙ unfit_told a.phase m h));
          seated = λ f store. or_left (same_seat a.phase (from_of m) (from_of m)) _ (seat_itself a.phase (from_of m));
        }
      where
        fit : fits a.phase m ≡ true
        fit =
            (and_parts (fits a.phase m) (is_store_of layout a.body (from_of m))
            (and_parts (fits a.phase m && is_store_of layout a.body (from_of m)) (not (list_any (λ earlier. same_seat a.phase (from_of earlier) (from_of m)) a.answers)) counting).0).0
