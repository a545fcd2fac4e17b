-- What an attempt at ballot zero makes of a message of a calm run: it has heard it already, counts it and waits for more, comes
-- to a further phase, or has its outcome.
use Rattle.std.proofs.Common.{◌≡◌, ℕ, suc, ◌≤◌, Bool, true, false, not, ◌&&◌, ◌||◌, ◌∷◌, Option, None, Some, refl, sym, ◌∙◌, ap, subst, arith}
use Rattle.std.specs.List.{list_any}
use Rattle.std.proofs.lemmas.Bool.{true≢false, and_from, or_right}
use Rattle.acc_stamp.specs.declared.stamps.TxnId.{TxnId}
use Rattle.acc_stamp.specs.declared.stamps.Ballot.{Ballot}
use Rattle.acc_stamp.specs.declared.actors.Actor.{Actor}
use Rattle.acc_stamp.specs.Stamp.{ballot_lt, ballot_eq, zero_ballot}
use Rattle.acc_stamp.proofs.Order.{ballot_order}
use Rattle.acc_topology.specs.Layout.{Layout}
use Rattle.acc_deps.specs.declared.records.Settled.{Settled}
use Rattle.acc_txn.specs.declared.outcome.Outcome.{Outcome}
use Rattle.acc_message.specs.declared.message.Message.{Message}
use Rattle.acc_message.specs.declared.message.Message.TheVariants.{PreAccept, PreAcceptOk, Accept, AcceptOk, Commit, CommitOk, Stable, ReadOk, Apply, Recover, RecoverOk, Nack, Decided, Inform}
use Rattle.acc_message.specs.declared.note.Path.TheVariants.{Fast, Adopted}
use Rattle.acc_message.specs.Fields.{from_of, ballot_of}
use Rattle.acc_message.specs.Shares.{is_store_of}
use Rattle.acc_message.specs.Attempts.{Attempt, Phase, Voting, Recovering, Accepting, Committing, Executing, fits, same_seat, counts, majority_everywhere, fast_everywhere, fast_lost_somewhere, outcome_from}
use Rattle.acc_message.specs.Coordinator.{Reaction, stay, when, either, in_phase, with_answer, decide, commit, slow_down, finish, finish_with, own_stamp, highest_vote, agreed, path_of, end, after_answer, is_decided, is_past_recover, on_message, reaction}
use Rattle.acc_safety_laws.proofs.Ranks.{rank}
use Rattle.acc_calm.proofs.AttemptCounts.{undecided_low}

-- every phase but Recovering
abbrev pub IsCalmPhase : Phase → Type 0
IsCalmPhase Voting = Unit {0}
IsCalmPhase Recovering = ⊥
IsCalmPhase (Accepting s) = Unit {0}
IsCalmPhase (Committing s) = Unit {0}
IsCalmPhase (Executing s) = Unit {0}

-- the message tells of a decision
abbrev pub is_told : Message → Bool
is_told (Decided from to id ballot t deps) = true
is_told _ = false

-- a refusal names ballot zero
abbrev pub RefusesZero : Message → Type 0
RefusesZero (Nack from to id ballot promised) = promised ≡ zero_ballot
RefusesZero _ = Unit {0}

unfit_nack : (phase : Phase) (from to : Actor) (id : TxnId) (ballot promised : Ballot) → fits phase (Nack from to id ballot promised) ≡ false
unfit_nack Voting from to id ballot promised = refl
unfit_nack Recovering from to id ballot promised = refl
unfit_nack (Accepting s) from to id ballot promised = refl
unfit_nack (Committing s) from to id ballot promised = refl
unfit_nack (Executing s) from to id ballot promised = refl

pub unfit_told : (phase : Phase) (m : Message) → is_told m ≡ true → fits phase m ≡ false
unfit_told Voting (Decided from to id ballot t deps) h = refl
unfit_told Voting m h = absurd (true≢false (sym h))
unfit_told Recovering (Decided from to id ballot t deps) h = refl
unfit_told Recovering m h = absurd (true≢false (sym h))
unfit_told (Accepting s) (Decided from to id ballot t deps) h = refl
unfit_told (Accepting s) m h = absurd (true≢false (sym h))
unfit_told (Committing s) (Decided from to id ballot t deps) h = refl
unfit_told (Committing s) m h = absurd (true≢false (sym h))
unfit_told (Executing s) (Decided from to id ballot t deps) h = refl
unfit_told (Executing s) m h = absurd (true≢false (sym h))

one_more : {n : ℕ} → n ≤ 2 → suc n ≤ 3
one_more h = omega (arith, h)

and_none : (b c : Bool) → c ≡ false → (b && c) ≡ false
and_none true c h = h
and_none false c h = refl

module _ (layout : Layout) (own : Actor) (x : TxnId) where
  -- the answers aren't enough to go on
  abbrev pub NotReadyIn : Attempt → Phase → Type 0
  NotReadyIn a Voting =
      (fast_everywhere layout x a.body a.answers ≡ false)
      × ((majority_everywhere layout x a.body a.answers && fast_lost_somewhere layout x a.body a.answers) ≡ false)
  NotReadyIn a Recovering = Unit {0}
  NotReadyIn a (Accepting s) = majority_everywhere layout x a.body a.answers ≡ false
  NotReadyIn a (Committing s) = majority_everywhere layout x a.body a.answers ≡ false
  NotReadyIn a (Executing s) = outcome_from layout a.body a.answers ≡ None

  abbrev pub NotReady : Attempt → Type 0
  NotReady a = NotReadyIn a a.phase

  -- the attempt has heard the message: what it tells is known, and an answer's seat is taken
  pub record IsHeard (a : Attempt) (m : Message) : Type 0 where
    pub told : is_told m ≡ true → is_decided a.phase ≡ true
    pub seated :
        fits a.phase m ≡ true → is_store_of layout a.body (from_of m) ≡ true
        → list_any (λ earlier. same_seat a.phase (from_of earlier) (from_of m)) a.answers ≡ true

  pub data Result (a : Attempt) (m : Message) : Reaction → Type 0 where
    Stays : IsHeard a m → Result a m (stay a)
    Adds : counts layout a m ≡ true → is_told m ≡ false → NotReady (with_answer a m) → Result a m (stay (with_answer a m))
    Enters :
        (r : Reaction) (phase : Phase) → r.next ≡ Some (in_phase a phase) → suc (rank a.phase) ≤ rank phase
        → (is_told m ≡ true → is_decided phase ≡ true) → IsCalmPhase phase
        → Result a m r
    Ends : (s : Settled) (outcome : Outcome) → a.phase ≡ Executing s → Result a m (finish layout own x (with_answer a m) s outcome)

  low : (phase other : Phase) (n : ℕ) → phase ≡ other → suc (rank other) ≤ n → suc (rank phase) ≤ n
  low phase other n is h = subst (λ p. suc (rank p) ≤ n) (sym is) h

  not_told : (m : Message) (phase : Phase) → is_told m ≡ false → is_told m ≡ true → is_decided phase ≡ true
  not_told m phase h is = absurd (true≢false (sym is ∙ h))

  module _ (a : Attempt) (m : Message) (untold : is_told m ≡ false) where
    abbrev more : Attempt
    more = with_answer a m

    seated_by : counts layout a m ≡ false → fits a.phase m ≡ true → is_store_of layout a.body (from_of m) ≡ true
        → (b : Bool) → list_any (λ earlier. same_seat a.phase (from_of earlier) (from_of m)) a.answers ≡ b
        → list_any (λ earlier. same_seat a.phase (from_of earlier) (from_of m)) a.answers ≡ true
    seated_by none fit store true is = is
    seated_by none fit store false is =
        absurd (true≢false
        (sym (and_from (fits a.phase m && is_store_of layout a.body (from_of m)) (not (list_any (λ earlier. same_seat a.phase (from_of earlier) (from_of m)) a.answers))
        (and_from (fits a.phase m) (is_store_of layout a.body (from_of m)) fit store) (ap not is)) ∙ none))

    slowed : counts layout a m ≡ true → a.phase ≡ Voting → fast_everywhere layout x a.body (m ∷ a.answers) ≡ false → (both : Bool)
        → (majority_everywhere layout x a.body (m ∷ a.answers) && fast_lost_somewhere layout x a.body (m ∷ a.answers)) ≡ both
        → Result a m (when both (slow_down layout own x) more)
    slowed counting is f true g =
        Enters (slow_down layout own x more) (Accepting (highest_vote x more)) refl (low a.phase Voting 1 is (omega arith))
        (not_told m (Accepting (highest_vote x more)) untold) tt
    slowed counting is f false g = Adds counting untold (subst (NotReadyIn more) (sym is) (f, g))

    either_result : (b : Bool) (one other : Attempt → Reaction) → (b ≡ true → Result a m (one more)) → (b ≡ false → Result a m (other more))
        → Result a m (either b one other more)
    either_result true one other f g = f refl
    either_result false one other f g = g refl

    accepted : (s : Settled) → counts layout a m ≡ true → a.phase ≡ Accepting s → (b : Bool) → majority_everywhere layout x a.body (m ∷ a.answers) ≡ b
        → Result a m (when b (λ k. commit layout own x k (agreed x s k)) more)
    accepted s counting is true f = Enters (commit layout own x more (agreed x s more)) (Committing (agreed x s more)) refl (low a.phase (Accepting s) 2 is (omega arith)) (not_told m (Committing (agreed x s more)) untold) tt
    accepted s counting is false f = Adds counting untold (subst (NotReadyIn more) (sym is) f)

    committed : (s : Settled) → counts layout a m ≡ true → a.phase ≡ Committing s → (b : Bool) → majority_everywhere layout x a.body (m ∷ a.answers) ≡ b
        → Result a m (when b (λ k. decide layout own x k (path_of k.ballot) s) more)
    committed s counting is true f = Enters (decide layout own x more (path_of a.ballot) s) (Executing s) refl (low a.phase (Committing s) 3 is (omega arith)) (λ _. refl) tt
    committed s counting is false f = Adds counting untold (subst (NotReadyIn more) (sym is) f)

    read : (s : Settled) → counts layout a m ≡ true → a.phase ≡ Executing s → (o : Option Outcome) → outcome_from layout a.body (m ∷ a.answers) ≡ o
        → Result a m (finish_with layout own x more s o)
    read s counting is None f = Adds counting untold (subst (NotReadyIn more) (sym is) f)
    read s counting is (Some outcome) f = Ends s outcome is

    answered : (phase : Phase) → counts layout a m ≡ true → a.phase ≡ phase → IsCalmPhase phase → Result a m (after_answer layout own x more phase)
    answered Voting counting is calm =
        either_result (fast_everywhere layout x a.body (m ∷ a.answers)) _ _
        (λ _. Enters (decide layout own x more Fast (own_stamp x more)) (Executing (own_stamp x more)) refl (low a.phase Voting 3 is (omega arith)) (λ _. refl) tt)
        (λ f. slowed counting is f (majority_everywhere layout x a.body (m ∷ a.answers) && fast_lost_somewhere layout x a.body (m ∷ a.answers)) refl)
    answered Recovering counting is calm = absurd calm
    answered (Accepting s) counting is calm = accepted s counting is (majority_everywhere layout x a.body (m ∷ a.answers)) refl
    answered (Committing s) counting is calm = committed s counting is (majority_everywhere layout x a.body (m ∷ a.answers)) refl
    answered (Executing s) counting is calm = read s counting is (outcome_from layout a.body (m ∷ a.answers)) refl

    counted : IsCalmPhase a.phase → (b : Bool) → counts layout a m ≡ b → Result a m (when b (λ k. after_answer layout own x (with_answer k m) k.phase) a)
    counted calm true is = answered a.phase is refl calm
    counted calm false is =
        Stays (record {
          told = not_told m a.phase untold;
          seated = λ fit store. seated_by is fit store (list_any (λ earlier. same_seat a.phase (from_of earlier) (from_of m)) a.answers) refl;
        })

    counts_or_not : IsCalmPhase a.phase → Result a m (when (counts layout a m) (λ k. after_answer layout own x (with_answer k m) k.phase) a)
    counts_or_not calm = counted calm (counts layout a m) refl

  refused : (a : Attempt) (from to : Actor) (id : TxnId) (ballot promised : Ballot) → a.ballot ≡ zero_ballot → promised ≡ zero_ballot
      → Result a (Nack from to id ballot promised) (on_message layout own x a (Nack from to id ballot promised))
  refused a from to id ballot promised z p =
      subst (λ b. Result a (Nack from to id ballot promised) (when b (λ k. end x k promised) a)) (sym never)
      (Stays (record {
        told = λ is. absurd (true≢false (sym is));
        seated = λ fit store. absurd (true≢false (sym fit ∙ unfit_nack a.phase from to id ballot promised));
      }))
    where
      never : (not (is_decided a.phase) && ballot_lt a.ballot promised) ≡ false
      never = and_none (not (is_decided a.phase)) (ballot_lt a.ballot promised) (ap (λ b. ballot_lt b promised) z ∙ ap (ballot_lt zero_ballot) p)

  adopts : (a : Attempt) (from to : Actor) (id : TxnId) (ballot : Ballot) (s : Settled) → a.ballot ≡ zero_ballot → (b : Bool) → is_decided a.phase ≡ b
      → Result a (Decided from to id ballot s.t s.deps)
      (when (not b && (is_past_recover a.phase || ballot_eq a.ballot zero_ballot)) (λ k. decide layout own x k Adopted s) a)
  adopts a from to id ballot s z true is =
      Stays (record {
        told = λ _. is;
        seated = λ fit store. absurd (true≢false (sym fit ∙ unfit_told a.phase (Decided from to id ballot s.t s.deps) refl));
      })
  adopts a from to id ballot s z false is =
      subst (λ b. Result a (Decided from to id ballot s.t s.deps) (when b (λ k. decide layout own x k Adopted s) a))
      (sym (or_right (is_past_recover a.phase) (ballot_eq a.ballot zero_ballot) ((ballot_order.decides a.ballot zero_ballot).1 z)))
      (Enters (decide layout own x a Adopted s) (Executing s) refl (one_more (undecided_low a.phase is)) (λ _. refl) tt)

  heard : (a : Attempt) (m : Message) → a.ballot ≡ zero_ballot → IsCalmPhase a.phase → RefusesZero m → Result a m (on_message layout own x a m)
  heard a (Nack from to id ballot promised) z calm refusing = refused a from to id ballot promised z refusing
  heard a (Decided from to id ballot t deps) z calm refusing = adopts a from to id ballot (record { t = t; deps = deps }) z (is_decided a.phase) refl
  heard a (PreAccept from to id ballot body) z calm refusing = counts_or_not a (PreAccept from to id ballot body) refl calm
  heard a (PreAcceptOk from to id ballot vote deps) z calm refusing = counts_or_not a (PreAcceptOk from to id ballot vote deps) refl calm
  heard a (Accept from to id ballot body t deps) z calm refusing = counts_or_not a (Accept from to id ballot body t deps) refl calm
  heard a (AcceptOk from to id ballot deps) z calm refusing = counts_or_not a (AcceptOk from to id ballot deps) refl calm
  heard a (Commit from to id ballot body t deps) z calm refusing = counts_or_not a (Commit from to id ballot body t deps) refl calm
  heard a (CommitOk from to id ballot) z calm refusing = counts_or_not a (CommitOk from to id ballot) refl calm
  heard a (Stable from to id ballot body t deps) z calm refusing = counts_or_not a (Stable from to id ballot body t deps) refl calm
  heard a (ReadOk from to id ballot answer) z calm refusing = counts_or_not a (ReadOk from to id ballot answer) refl calm
  heard a (Apply from to id ballot body t deps outcome) z calm refusing = counts_or_not a (Apply from to id ballot body t deps outcome) refl calm
  heard a (Recover from to id ballot body) z calm refusing = counts_or_not a (Recover from to id ballot body) refl calm
  heard a (RecoverOk from to id ballot view) z calm refusing = counts_or_not a (RecoverOk from to id ballot view) refl calm
  heard a (Inform from to id ballot outcome) z calm refusing = counts_or_not a (Inform from to id ballot outcome) refl calm

  pub result : (a : Attempt) (m : Message) → ballot_of m ≡ zero_ballot → a.ballot ≡ zero_ballot → IsCalmPhase a.phase → RefusesZero m
      → Result a m (reaction layout own x a m)
  result a m of_zero z calm refusing =
      subst (λ b. Result a m (when b (λ k. on_message layout own x k m) a)) (sym ((ballot_order.decides (ballot_of m) a.ballot).1 (of_zero ∙ sym z)))
      (heard a m z calm refusing)
