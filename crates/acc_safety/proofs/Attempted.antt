-- Facts of attempts by induction over what a node did: an attempt begins, takes answers, and goes on to phases.
use Rattle.std.proofs.Common.{◌≡◌, ℕ, true, not, ◌&&◌, List, [], ◌∷◌, Option, None, Some, refl, sym, ◌∙◌, ap, subst, ⊎_elim}
use Rattle.std.specs.List.{list_any}
use Rattle.std.proofs.lemmas.Bool.{and_parts}
use Rattle.acc_stamp.specs.declared.stamps.Stamp.{Stamp}
use Rattle.acc_stamp.specs.declared.stamps.TxnId.{TxnId}
use Rattle.acc_stamp.specs.declared.stamps.Ballot.{Ballot}
use Rattle.acc_stamp.specs.declared.actors.Actor.{Actor}
use Rattle.acc_stamp.specs.Actor.{actor_of}
use Rattle.acc_topology.specs.Layout.{Layout}
use Rattle.acc_deps.specs.declared.shards.ShardDeps.{ShardDeps}
use Rattle.acc_deps.specs.declared.records.Settled.{Settled}
use Rattle.acc_txn.specs.declared.parts.BodyParts.{BodyParts}
use Rattle.acc_message.specs.declared.message.Message.{Message}
use Rattle.acc_message.specs.declared.message.Message.TheVariants.{Nack, Decided}
use Rattle.acc_message.specs.declared.note.Path.{Path}
use Rattle.acc_message.specs.declared.entry.Emitted.{Emitted}
use Rattle.acc_message.specs.Fields.{from_of, id_of, ballot_of}
use Rattle.acc_message.specs.Shares.{is_store_of}
use Rattle.acc_message.specs.Attempts.{Attempt, Phase, Accepting, Committing, Executing, fits, same_seat, counts}
use Rattle.acc_message.specs.Coordinator.{begun, recovering, with_answer, in_phase}
use Rattle.acc_message.specs.NodeRules.{Act, Begins, Recovers, Slows, Takes, Deed, next_id, next_ballot, attempt_of}
use Rattle.acc_safety.specs.Places.{Here, Back}
use Rattle.acc_safety.specs.NodeMoves.{Move, Wait, Propose, CommitTo, DecideBy, FinishWith, BlockBy, EndBy, made, Moves, Hears, Ignores, Counts, IsEnded, TakesOver, Reacts, ToSlow, ToMessage, AttemptMoves, Keeps, BeginsIt, RecoversIt, MovesOn, Forgets}
use Rattle.acc_safety.specs.Attempted.{OnAttempt, Took, AnswerOf, AreAnswersOf, Origin, FromBegin, FromRecover}
use Rattle.acc_safety.proofs.PlaceOrder.{IsIn-cases, none_is_in}
use Rattle.acc_safety.proofs.NodeMoved.{attempt_moves}

-- a step of a node
abbrev pub doing : Act → Emitted → Deed
doing act emitted = record { act = act; emitted = emitted }

pub on_attempt : (P : Attempt → Type 0) (o : Option Attempt) (a : Attempt) → o ≡ Some a → OnAttempt P o → P a
on_attempt P o a is h = subst (OnAttempt P) is h

-- ---- the induction

-- a fact of the attempt at x that holds when it begins, stays in later steps, with an answer more, and in a new phase
pub record IsKept (layout : Layout) (node start : ℕ) (x : TxnId) (P : List Deed → Attempt → Type 0) : Type 0 where
  pub stays : (deed : Deed) (past : List Deed) (a : Attempt) → P past a → P (deed ∷ past) a
  pub begins :
      (txn : ℕ) (body : BodyParts) (emitted : Emitted) (past : List Deed) → next_id node start past ≡ x
      → P (doing (Begins txn body) emitted ∷ past) (begun body)
  pub recovers :
      (body : BodyParts) (emitted : Emitted) (past : List Deed)
      → P (doing (Recovers x body) emitted ∷ past) (recovering (next_ballot node start past) body)
  pub counts :
      (m : Message) (emitted : Emitted) (past : List Deed) (a : Attempt) → attempt_of layout node start x past ≡ Some a
      → id_of m ≡ x → ballot_of m ≡ a.ballot → counts layout a m ≡ true → P past a
      → P (doing (Takes m) emitted ∷ past) (with_answer a m)
  pub proposes : (deeds : List Deed) (a : Attempt) (s : Settled) → P deeds a → Moves layout x a (Propose s) → P deeds (in_phase a (Accepting s))
  pub commits : (deeds : List Deed) (a : Attempt) (s : Settled) → P deeds a → Moves layout x a (CommitTo s) → P deeds (in_phase a (Committing s))
  pub decides :
      (deeds : List Deed) (a : Attempt) (path : Path) (s : Settled) → P deeds a → Moves layout x a (DecideBy path s)
      → P deeds (in_phase a (Executing s))
  pub takes_over :
      (from to : Actor) (id : TxnId) (ballot : Ballot) (t : Stamp) (deps : List ShardDeps) (emitted : Emitted) (past : List Deed) (a : Attempt)
      → attempt_of layout node start x past ≡ Some a → id ≡ x → P past a
      → P (doing (Takes (Decided from to id ballot t deps)) emitted ∷ past) (in_phase a (Executing (record { t = t; deps = deps })))

module _ (layout : Layout) (node start : ℕ) (x : TxnId) (P : List Deed → Attempt → Type 0) (kept : IsKept layout node start x P) where
  stays_on : (deed : Deed) (past : List Deed) (o : Option Attempt) → OnAttempt (P past) o → OnAttempt (P (deed ∷ past)) o
  stays_on deed past None h = tt
  stays_on deed past (Some a) h = kept.stays deed past a h

  next_on : (deeds : List Deed) (a : Attempt) (move : Move) → P deeds a → Moves layout x a move
      → OnAttempt (P deeds) (made layout (actor_of node 0) x a move).next
  next_on deeds a Wait h moves = h
  next_on deeds a (Propose s) h moves = kept.proposes deeds a s h moves
  next_on deeds a (CommitTo s) h moves = kept.commits deeds a s h moves
  next_on deeds a (DecideBy path s) h moves = kept.decides deeds a path s h moves
  next_on deeds a (FinishWith s outcome) h moves = tt
  next_on deeds a (BlockBy by) h moves = tt
  next_on deeds a (EndBy by) h moves = tt

  heard_on : (emitted : Emitted) (past : List Deed) (before : Attempt) (m : Message) (a : Attempt) (move : Move)
      → attempt_of layout node start x past ≡ Some before → id_of m ≡ x → P past before → Hears layout x before m a move
      → OnAttempt (P (doing (Takes m) emitted ∷ past)) (made layout (actor_of node 0) x a move).next
  heard_on emitted past before m a move is about h (Ignores n) = kept.stays (doing (Takes n) emitted) past before h
  heard_on emitted past before m a move is about h (Counts n moved of_ballot counting moves) =
      next_on (doing (Takes n) emitted ∷ past) (with_answer before n) moved
      (kept.counts n emitted past before is about of_ballot counting h) moves
  heard_on emitted past before m a move is about h (IsEnded from to id ballot promised same above) = tt
  heard_on emitted past before m a move is about h (TakesOver from to id ballot t deps same undecided ready) =
      kept.takes_over from to id ballot t deps emitted past before is about h

  moving : (emitted : Emitted) (past : List Deed) (before : Attempt) (m : Message) (a : Attempt) (move : Move)
      → attempt_of layout node start x past ≡ Some before → id_of m ≡ x → P past before → Hears layout x before m a move
      → P (doing (Takes m) emitted ∷ past) a
  moving emitted past before m a move is about h (Ignores n) = kept.stays (doing (Takes n) emitted) past before h
  moving emitted past before m a move is about h (Counts n moved of_ballot counting moves) = kept.counts n emitted past before is about of_ballot counting h
  moving emitted past before m a move is about h (IsEnded from to id ballot promised same above) =
      kept.stays (doing (Takes (Nack from to id ballot promised)) emitted) past before h
  moving emitted past before m a move is about h (TakesOver from to id ballot t deps same undecided ready) =
      kept.stays (doing (Takes (Decided from to id ballot t deps)) emitted) past before h

  reacts_on : (act : Act) (emitted : Emitted) (past : List Deed) (a : Attempt) (move : Move)
      → OnAttempt (P past) (attempt_of layout node start x past) → Reacts layout node start past x act a move
      → OnAttempt (P (doing act emitted ∷ past)) (made layout (actor_of node 0) x a move).next
  reacts_on act emitted past a move h (ToSlow b moved is moves) =
      next_on (doing (Slows x) emitted ∷ past) b moved
      (kept.stays (doing (Slows x) emitted) past b (on_attempt (P past) (attempt_of layout node start x past) b is h)) moves
  reacts_on act emitted past a move h (ToMessage before b m moved is about hears) =
      heard_on emitted past before m b moved is about (on_attempt (P past) (attempt_of layout node start x past) before is h) hears

  moves_on : (act : Act) (emitted : Emitted) (past : List Deed) (o : Option Attempt)
      → OnAttempt (P past) (attempt_of layout node start x past) → AttemptMoves layout node start past x act o
      → OnAttempt (P (doing act emitted ∷ past)) o
  moves_on act emitted past o h (Keeps done) = stays_on (doing done emitted) past (attempt_of layout node start x past) h
  moves_on act emitted past o h (BeginsIt txn body is) = kept.begins txn body emitted past is
  moves_on act emitted past o h (RecoversIt body) = kept.recovers body emitted past
  moves_on act emitted past o h (MovesOn done a move reacts) = reacts_on done emitted past a move h reacts
  moves_on act emitted past o h Forgets = tt

  each_attempt : (deeds : List Deed) → OnAttempt (P deeds) (attempt_of layout node start x deeds)
  each_attempt [] = tt
  each_attempt (deed ∷ past) =
      moves_on deed.act deed.emitted past (attempt_of layout node start x (deed ∷ past)) (each_attempt past)
      (attempt_moves layout node start past x deed.act)

  -- it holds of the attempt that moves, once the step is done
  pub of_moving : (act : Act) (emitted : Emitted) (past : List Deed) (a : Attempt) (move : Move) → Reacts layout node start past x act a move
      → P (doing act emitted ∷ past) a
  of_moving act emitted past a move (ToSlow b moved is moves) =
      kept.stays (doing (Slows x) emitted) past b (on_attempt (P past) (attempt_of layout node start x past) b is (each_attempt past))
  of_moving act emitted past a move (ToMessage before b m moved is about hears) =
      moving emitted past before m b moved is about (on_attempt (P past) (attempt_of layout node start x past) before is (each_attempt past)) hears

  pub of_attempt : (deeds : List Deed) (a : Attempt) → attempt_of layout node start x deeds ≡ Some a → P deeds a
  of_attempt deeds a is = on_attempt (P deeds) (attempt_of layout node start x deeds) a is (each_attempt deeds)

-- ---- answers

pub Took-back : (deed : Deed) (past : List Deed) (m : Message) → Took past m → Took (deed ∷ past) m
Took-back deed past m t = record { deed = t.deed; past = t.past; at = Back t.deed deed t.past past t.at; act_is = t.act_is }

module _ (layout : Layout) (x : TxnId) where
  answer_back : (deed : Deed) (past : List Deed) (a : Attempt) (m : Message) → AnswerOf layout x a past m → AnswerOf layout x a (deed ∷ past) m
  answer_back deed past a m h =
      record { fitting = h.fitting; about = h.about; of_ballot = h.of_ballot; of_store = h.of_store; took = Took-back deed past m h.took }

  new_answer : (m : Message) (emitted : Emitted) (past : List Deed) (a : Attempt) → id_of m ≡ x → ballot_of m ≡ a.ballot → counts layout a m ≡ true
      → AnswerOf layout x (with_answer a m) (doing (Takes m) emitted ∷ past) m
  new_answer m emitted past a about of_ballot counting =
      let all = and_parts (fits a.phase m && is_store_of layout a.body (from_of m)) (not (list_any (λ earlier. same_seat a.phase (from_of earlier) (from_of m)) a.answers)) counting in
      let parts = and_parts (fits a.phase m) (is_store_of layout a.body (from_of m)) all.0 in
      record {
        fitting = parts.0;
        about = about;
        of_ballot = of_ballot;
        of_store = parts.1;
        took = record { deed = doing (Takes m) emitted; past = past; at = Here (doing (Takes m) emitted) past; act_is = refl };
      }

  with_new_answer : (m : Message) (emitted : Emitted) (past : List Deed) (a : Attempt) → id_of m ≡ x → ballot_of m ≡ a.ballot → counts layout a m ≡ true
      → AreAnswersOf layout x past a → AreAnswersOf layout x (doing (Takes m) emitted ∷ past) (with_answer a m)
  with_new_answer m emitted past a about of_ballot counting h n there =
      ⊎_elim
      (λ same. subst (λ k. AnswerOf layout x (with_answer a m) (doing (Takes m) emitted ∷ past) k) (sym same) (new_answer m emitted past a about of_ballot counting))
      (λ older.
      let w = answer_back (doing (Takes m) emitted) past a n (h n older) in
      record { fitting = w.fitting; about = w.about; of_ballot = w.of_ballot; of_store = w.of_store; took = w.took })
      (IsIn-cases n m a.answers there)

  pub no_answers : (deeds : List Deed) (a : Attempt) (phase : Phase) → AreAnswersOf layout x deeds (in_phase a phase)
  no_answers deeds a phase m there = absurd (none_is_in m there)

  pub answers_kept : (node start : ℕ) → IsKept layout node start x (AreAnswersOf layout x)
  answers_kept node start =
      record {
        stays = λ deed past a h m there. answer_back deed past a m (h m there);
        begins = λ txn body emitted past is m there. absurd (none_is_in m there);
        recovers = λ body emitted past m there. absurd (none_is_in m there);
        counts = λ m emitted past a is about of_ballot counting h. with_new_answer m emitted past a about of_ballot counting h;
        proposes = λ deeds a s h moves. no_answers deeds a (Accepting s);
        commits = λ deeds a s h moves. no_answers deeds a (Committing s);
        decides = λ deeds a path s h moves. no_answers deeds a (Executing s);
        takes_over = λ from to id ballot t deps emitted past a is about h. no_answers (doing (Takes (Decided from to id ballot t deps)) emitted ∷ past) a (Executing (record { t = t; deps = deps }));
      }

  -- the answers of an attempt were taken, each of its kind, of its ballot, and from a store of x
  pub answers_of : (node start : ℕ) (deeds : List Deed) (a : Attempt) → attempt_of layout node start x deeds ≡ Some a → AreAnswersOf layout x deeds a
  answers_of node start deeds a is = of_attempt layout node start x (AreAnswersOf layout x) (answers_kept node start) deeds a is

-- ---- where an attempt comes from

module _ (layout : Layout) (node start : ℕ) (x : TxnId) where
  origin_back : (deed : Deed) (past : List Deed) (a : Attempt) → Origin layout node start x past a → Origin layout node start x (deed ∷ past) a
  origin_back deed past a (FromBegin txn d before at act_is drawn zero) = FromBegin txn d before (Back d deed before past at) act_is drawn zero
  origin_back deed past a (FromRecover d before at act_is drawn) = FromRecover d before (Back d deed before past at) act_is drawn

  -- it is that of each attempt with the same body and ballot
  origin_same : (deeds : List Deed) (a b : Attempt) → a.body ≡ b.body → a.ballot ≡ b.ballot → Origin layout node start x deeds a → Origin layout node start x deeds b
  origin_same deeds a b body ballot (FromBegin txn d before at act_is drawn zero) =
      FromBegin txn d before at (act_is ∙ ap (Begins txn) body) drawn (sym ballot ∙ zero)
  origin_same deeds a b body ballot (FromRecover d before at act_is drawn) =
      FromRecover d before at (act_is ∙ ap (Recovers x) body) (sym ballot ∙ drawn)

  origin_kept : IsKept layout node start x (Origin layout node start x)
  origin_kept =
      record {
        stays = origin_back;
        begins = λ txn body emitted past is. FromBegin txn (doing (Begins txn body) emitted) past (Here (doing (Begins txn body) emitted) past) refl is refl;
        recovers = λ body emitted past. FromRecover (doing (Recovers x body) emitted) past (Here (doing (Recovers x body) emitted) past) refl refl;
        counts = λ m emitted past a is about of_ballot counting h.
            origin_same (doing (Takes m) emitted ∷ past) a (with_answer a m) refl refl (origin_back (doing (Takes m) emitted) past a h);
        proposes = λ deeds a s h moves. origin_same deeds a (in_phase a (Accepting s)) refl refl h;
        commits = λ deeds a s h moves. origin_same deeds a (in_phase a (Committing s)) refl refl h;
        decides = λ deeds a path s h moves. origin_same deeds a (in_phase a (Executing s)) refl refl h;
        takes_over = λ from to id ballot t deps emitted past a is about h.
            let deed : Deed = doing (Takes (Decided from to id ballot t deps)) emitted in
            origin_same (deed ∷ past) a (in_phase a (Executing (record { t = t; deps = deps }))) refl refl (origin_back deed past a h);
      }

  -- an attempt comes from a begin or from a recover
  pub origin_of : (deeds : List Deed) (a : Attempt) → attempt_of layout node start x deeds ≡ Some a → Origin layout node start x deeds a
  origin_of deeds a is = of_attempt layout node start x (Origin layout node start x) origin_kept deeds a is
