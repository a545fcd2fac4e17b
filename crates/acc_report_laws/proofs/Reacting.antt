-- What a node notes of its attempts is in bounds, where its messages are and the attempt is ready.
use Rattle.std.proofs.Common.{◌≡◌, ℕ, cond, Bool, true, false, List, [], ◌∷◌, Option, None, Some, subst}
use Rattle.std.specs.List.{AllByRecursion, flat_map}
use Rattle.acc_stamp.specs.declared.stamps.TxnId.{TxnId}
use Rattle.acc_stamp.specs.declared.actors.Actor.{Actor}
use Rattle.acc_stamp.specs.Stamp.{id_lt}
use Rattle.acc_topology.specs.Layout.{Layout}
use Rattle.acc_deps.specs.declared.shards.ShardDeps.{ShardDeps}
use Rattle.acc_deps.specs.declared.records.Settled.{Settled}
use Rattle.acc_deps.specs.declared.records.View.{View}
use Rattle.acc_deps.specs.declared.records.Choice.{Choice}
use Rattle.acc_deps.specs.declared.records.Choice.TheVariants.{Accept as GoAccept, Commit as GoCommit, Stable as GoStable}
use Rattle.acc_deps.specs.Deps.{all_ids}
use Rattle.acc_deps.specs.Records.{Stably, Claim, stably_all, least_stably, claims_of, highest_claim, choice_of_claim, waits_of}
use Rattle.acc_txn.specs.declared.outcome.Outcome.{Outcome}
use Rattle.acc_message.specs.declared.message.Message.{Message}
use Rattle.acc_message.specs.declared.message.Message.TheVariants.{PreAccept, PreAcceptOk, Accept, AcceptOk, Commit, CommitOk, Stable, ReadOk, Apply, Recover, RecoverOk, Nack, Decided, Inform}
use Rattle.acc_message.specs.declared.note.Path.{Path}
use Rattle.acc_message.specs.declared.note.Path.TheVariants.{Fast, Adopted}
use Rattle.acc_message.specs.declared.note.Note.{Note}
use Rattle.acc_message.specs.declared.note.Note.TheVariants.{Begin as BeginNote, Recover as RecoverNote, Blocked as BlockedNote, Ended as EndedNote, Decide as DecideNote, Outcome as OutcomeNote, Reply as ReplyNote}
use Rattle.acc_message.specs.Shares.{stores_used}
use Rattle.acc_message.specs.Attempts.{Attempt, Phase, Voting, Recovering, Accepting, Committing, Executing, counts, majority_everywhere, fast_everywhere, outcome_from}
use Rattle.acc_message.specs.RecoveryDecision.{Go, view_in, views_in, unless_blocked, without_records, by_claim, by_stable, recovery_decision}
use Rattle.acc_message.specs.Coordinator.{Reaction, when, either, decide, commit, end, finish_with, slow_down, go, follow_ruling, after_answer, own_stamp, agreed, path_of, with_answer, on_message, reaction}
use Rattle.acc_message.specs.NodeRules.{replied}
use Rattle.acc_actor_laws.proofs.Standing.{not_none}
use Rattle.acc_actor_laws.proofs.OpeningFacts.{some_is}
use Rattle.acc_safety.specs.Places.{IsIn, First, Later}
use Rattle.acc_safety.proofs.PlaceOrder.{IsIn-filter_map, map-IsIn}
use Rattle.acc_run_laws.proofs.Bounded.{IsLow, AreBegunDeps, HasBoundedContent, IsBounded}
use Rattle.acc_run_laws.proofs.Unions.{each_union}

module _ (most : ℕ) (begun : List TxnId) where
  -- the transactions that a note names were begun, and its stamps are low
  abbrev pub NoteIsBounded : Note → Type 0
  NoteIsBounded (BeginNote id) = IsIn id begun × IsLow most id.0
  NoteIsBounded (RecoverNote id ballot) = IsIn id begun × IsLow most ballot.0
  NoteIsBounded (BlockedNote id ballot by) = IsIn id begun × IsLow most ballot.0 × AllByRecursion (λ y. IsIn y begun) by
  NoteIsBounded (EndedNote id ballot by) = IsIn id begun × IsLow most ballot.0 × IsLow most by.0
  NoteIsBounded (DecideNote id t path deps) = IsIn id begun × IsLow most t × AreBegunDeps begun deps
  NoteIsBounded (OutcomeNote id reply) = IsIn id begun
  NoteIsBounded (ReplyNote id reply) = IsIn id begun

  abbrev pub AreBoundedNotes : List Note → Type 0
  AreBoundedNotes notes = AllByRecursion NoteIsBounded notes

  pub deps_known : (deps : List ShardDeps) → AreBegunDeps begun deps → AllByRecursion (λ y. IsIn y begun) (all_ids deps)
  deps_known [] h = tt
  deps_known (d ∷ deps) h = each_union (λ y. IsIn y begun) id_lt d.ids (all_ids deps) h.0.ids (deps_known deps h.1)

  -- a reply after an outcome is of the same transaction
  pub replied_bounded : (is_open : Bool) (notes : List Note) → AreBoundedNotes notes → AreBoundedNotes (flat_map (replied is_open) notes)
  replied_bounded is_open [] h = tt
  replied_bounded true (OutcomeNote id reply ∷ notes) h = (h.0, (h.0, replied_bounded true notes h.1))
  replied_bounded false (OutcomeNote id reply ∷ notes) h = (h.0, replied_bounded false notes h.1)
  replied_bounded is_open (BeginNote id ∷ notes) h = (h.0, replied_bounded is_open notes h.1)
  replied_bounded is_open (RecoverNote id ballot ∷ notes) h = (h.0, replied_bounded is_open notes h.1)
  replied_bounded is_open (BlockedNote id ballot by ∷ notes) h = (h.0, replied_bounded is_open notes h.1)
  replied_bounded is_open (EndedNote id ballot by ∷ notes) h = (h.0, replied_bounded is_open notes h.1)
  replied_bounded is_open (DecideNote id t path deps ∷ notes) h = (h.0, replied_bounded is_open notes h.1)
  replied_bounded is_open (ReplyNote id reply ∷ notes) h = (h.0, replied_bounded is_open notes h.1)

  -- ---- what a recovery waits for

  view_waits : (m : Message) (v : View) → view_in m ≡ Some v → HasBoundedContent most begun m → AllByRecursion (λ y. IsIn y begun) v.waits
  view_waits (RecoverOk from to id ballot view) v is h = subst (λ (w : View). AllByRecursion (λ y. IsIn y begun) w.waits) (some_is view v is) h.waits
  view_waits (PreAccept from to id ballot body) v is h = absurd (not_none v is)
  view_waits (PreAcceptOk from to id ballot vote deps) v is h = absurd (not_none v is)
  view_waits (Accept from to id ballot body t deps) v is h = absurd (not_none v is)
  view_waits (AcceptOk from to id ballot deps) v is h = absurd (not_none v is)
  view_waits (Commit from to id ballot body t deps) v is h = absurd (not_none v is)
  view_waits (CommitOk from to id ballot) v is h = absurd (not_none v is)
  view_waits (Stable from to id ballot body t deps) v is h = absurd (not_none v is)
  view_waits (ReadOk from to id ballot answer) v is h = absurd (not_none v is)
  view_waits (Apply from to id ballot body t deps outcome) v is h = absurd (not_none v is)
  view_waits (Recover from to id ballot body) v is h = absurd (not_none v is)
  view_waits (Nack from to id ballot promised) v is h = absurd (not_none v is)
  view_waits (Decided from to id ballot t deps) v is h = absurd (not_none v is)
  view_waits (Inform from to id ballot outcome) v is h = absurd (not_none v is)

  each_waits : (views : List View) → ((v : View) → IsIn v views → AllByRecursion (λ y. IsIn y begun) v.waits) → AllByRecursion (λ y. IsIn y begun) (waits_of views)
  each_waits [] h = tt
  each_waits (v ∷ views) h =
      each_union (λ y. IsIn y begun) id_lt (waits_of views) v.waits (each_waits views (λ w there. h w (Later w v views there))) (h v (First v views))

  pub waits_known : (answers : List Message) → ((m : Message) → IsIn m answers → IsBounded most begun m) → AllByRecursion (λ y. IsIn y begun) (waits_of (views_in answers))
  waits_known answers h =
      each_waits (views_in answers)
      (λ v there.
      let from = IsIn-filter_map view_in v answers there in
      view_waits from.source v from.gives (h from.source from.there).content)

  -- ---- reactions

  -- an attempt with a low ballot, which has some store, and whose answers wait for what was begun
  pub record IsReady (layout : Layout) (a : Attempt) : Type 0 where
    pub ballot : IsLow most a.ballot.0
    pub store : Actor
    pub used : IsIn store (stores_used layout a.body)
    pub waits : AllByRecursion (λ y. IsIn y begun) (waits_of (views_in a.answers))

  module _ (layout : Layout) (own : Actor) (x : TxnId) (known : IsIn x begun) where
    abbrev pub Fits : Reaction → Type 0
    Fits r = ((m : Message) → IsIn m r.emitted.out → IsBounded most begun m) → AreBoundedNotes r.emitted.notes

    when_fits : (b : Bool) (f : Attempt → Reaction) (a : Attempt) → Fits (f a) → Fits (when b f a)
    when_fits true f a h = h
    when_fits false f a h = λ sent. tt

    either_fits : (b : Bool) (f g : Attempt → Reaction) (a : Attempt) → Fits (f a) → Fits (g a) → Fits (either b f g a)
    either_fits true f g a h k = h
    either_fits false f g a h k = k

    decide_fits : (a : Attempt) (path : Path) (s : Settled) → IsReady layout a → Fits (decide layout own x a path s)
    decide_fits a path s ready sent =
        let stable : IsBounded most begun (Stable own ready.store x a.ballot a.body s.t s.deps) =
        sent (Stable own ready.store x a.ballot a.body s.t s.deps)
        (map-IsIn (λ store. Stable own store x a.ballot a.body s.t s.deps) ready.store (stores_used layout a.body) ready.used) in
        ((known, stable.content.t_low, stable.content.deps_begun), tt)

    choice_fits : (a : Attempt) (choice : Choice) → IsReady layout a → Fits (go layout own x a choice)
    choice_fits a (GoAccept s) ready = λ sent. tt
    choice_fits a (GoCommit s) ready = λ sent. tt
    choice_fits a (GoStable s) ready = decide_fits a Adopted s ready

    unless_fits : (a : Attempt) (ids : List TxnId) → IsReady layout a → AllByRecursion (λ y. IsIn y begun) ids
        → Fits (follow_ruling layout own x a (unless_blocked x a.answers ids))
    unless_fits a [] ready h = λ sent. tt
    unless_fits a (y ∷ ids) ready h = λ sent. ((known, ready.ballot, h), tt)

    bare_fits : (a : Attempt) (b : Bool) (s : Settled) → IsReady layout a
        → Fits (follow_ruling layout own x a (cond b (Go (GoAccept s)) (unless_blocked x a.answers (waits_of (views_in a.answers)))))
    bare_fits a true s ready = λ sent. tt
    bare_fits a false s ready = unless_fits a (waits_of (views_in a.answers)) ready ready.waits

    claims_fit : (a : Attempt) (o : Option Claim) → IsReady layout a → Fits (follow_ruling layout own x a (by_claim o (without_records layout x a.body a.answers)))
    claims_fit a None ready = bare_fits a _ _ ready
    claims_fit a (Some c) ready = choice_fits a (choice_of_claim c) ready

    stables_fit : (a : Attempt) (o : Option Stably) → IsReady layout a
        → Fits (follow_ruling layout own x a (by_stable o (by_claim (highest_claim (claims_of (views_in a.answers))) (without_records layout x a.body a.answers))))
    stables_fit a None ready = claims_fit a (highest_claim (claims_of (views_in a.answers))) ready
    stables_fit a (Some s) ready = choice_fits a (GoStable s.settled) ready

    outcome_fits : (a : Attempt) (s : Settled) (o : Option Outcome) → Fits (finish_with layout own x a s o)
    outcome_fits a s None = λ sent. tt
    outcome_fits a s (Some outcome) = λ sent. (known, tt)

    answer_fits : (a : Attempt) (phase : Phase) → IsReady layout a → Fits (after_answer layout own x a phase)
    answer_fits a Voting ready =
        either_fits (fast_everywhere layout x a.body a.answers) (λ a. decide layout own x a Fast (own_stamp x a)) _ a (decide_fits a Fast (own_stamp x a) ready)
        (when_fits _ (slow_down layout own x) a (λ sent. tt))
    answer_fits a Recovering ready =
        when_fits (majority_everywhere layout x a.body a.answers) (λ a. follow_ruling layout own x a (recovery_decision layout x a.body a.answers)) a
        (stables_fit a (least_stably (stably_all (views_in a.answers))) ready)
    answer_fits a (Accepting s) ready =
        when_fits (majority_everywhere layout x a.body a.answers) (λ a. commit layout own x a (agreed x s a)) a (λ sent. tt)
    answer_fits a (Committing s) ready =
        when_fits (majority_everywhere layout x a.body a.answers) (λ a. decide layout own x a (path_of a.ballot) s) a (decide_fits a (path_of a.ballot) s ready)
    answer_fits a (Executing s) ready = outcome_fits a s (outcome_from layout a.body a.answers)

    -- an answer that counts stands among the answers then
    counted_fits : (a : Attempt) (m : Message) → IsReady layout (with_answer a m)
        → Fits (when (counts layout a m) (λ a. after_answer layout own x (with_answer a m) a.phase) a)
    counted_fits a m more = when_fits (counts layout a m) (λ a. after_answer layout own x (with_answer a m) a.phase) a (answer_fits (with_answer a m) a.phase more)

    message_fits : (a : Attempt) (m : Message) → IsReady layout a → IsReady layout (with_answer a m) → HasBoundedContent most begun m → Fits (on_message layout own x a m)
    message_fits a (Nack from to id ballot promised) ready more h = when_fits _ (λ a. end x a promised) a (λ sent. ((known, ready.ballot, h), tt))
    message_fits a (Decided from to id ballot t deps) ready more h =
        when_fits _ (λ a. decide layout own x a Adopted (record { t = t; deps = deps })) a (decide_fits a Adopted (record { t = t; deps = deps }) ready)
    message_fits a (PreAccept from to id ballot body) ready more h = counted_fits a (PreAccept from to id ballot body) more
    message_fits a (PreAcceptOk from to id ballot vote deps) ready more h = counted_fits a (PreAcceptOk from to id ballot vote deps) more
    message_fits a (Accept from to id ballot body t deps) ready more h = counted_fits a (Accept from to id ballot body t deps) more
    message_fits a (AcceptOk from to id ballot deps) ready more h = counted_fits a (AcceptOk from to id ballot deps) more
    message_fits a (Commit from to id ballot body t deps) ready more h = counted_fits a (Commit from to id ballot body t deps) more
    message_fits a (CommitOk from to id ballot) ready more h = counted_fits a (CommitOk from to id ballot) more
    message_fits a (Stable from to id ballot body t deps) ready more h = counted_fits a (Stable from to id ballot body t deps) more
    message_fits a (ReadOk from to id ballot answer) ready more h = counted_fits a (ReadOk from to id ballot answer) more
    message_fits a (Apply from to id ballot body t deps outcome) ready more h = counted_fits a (Apply from to id ballot body t deps outcome) more
    message_fits a (Recover from to id ballot body) ready more h = counted_fits a (Recover from to id ballot body) more
    message_fits a (RecoverOk from to id ballot view) ready more h = counted_fits a (RecoverOk from to id ballot view) more
    message_fits a (Inform from to id ballot outcome) ready more h = counted_fits a (Inform from to id ballot outcome) more

    pub reaction_fits : (a : Attempt) (m : Message) → IsReady layout a → IsReady layout (with_answer a m) → HasBoundedContent most begun m
        → Fits (reaction layout own x a m)
    reaction_fits a m ready more h = when_fits _ (λ a. on_message layout own x a m) a (message_fits a m ready more h)
