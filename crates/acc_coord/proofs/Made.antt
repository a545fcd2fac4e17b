-- A coordinator after its step stands for what becomes of the attempt.
use Rattle.std.proofs.Common.{◌≡◌, Bool, true, false, ◌&&◌, not, List, [], ◌∷◌, refl, sym, ap, subst, ◌∙◌}
use Rattle.std.proofs.lemmas.Bool.{false≢true}
use Rattle.std.specs.Prelude.{Option, is_none}
use Rattle.std.specs.List.{list_any}
use Rattle.acc_topology.specs.Layout.{Layout}
use Rattle.acc_message.specs.declared.message.Message.{Message}
use Rattle.acc_message.specs.declared.message.Message.TheVariants.{PreAccept, PreAcceptOk, Accept, AcceptOk, Commit, CommitOk, Stable, ReadOk, Apply, Recover, RecoverOk, Nack, Decided, Inform}
use Rattle.acc_message.specs.declared.note.Note.TheVariants.{Decide}
use Rattle.acc_message.specs.declared.note.Path.TheVariants.{Fast}
use Rattle.acc_message.specs.declared.entry.Emitted.{Emitted}
use Rattle.acc_message.specs.Fields.{ballot_of, from_of}
use Rattle.acc_message.specs.Items.{same_actor}
use Rattle.acc_message.specs.Shares.{is_store_of}
use Rattle.acc_message.specs.Attempts.{Attempt, Phase, Voting, counts, is_preaccept_ok, fast_everywhere, majority_everywhere, fast_lost_somewhere, union_of}
use Rattle.acc_message.specs.Coordinator.{Reaction, reaction, on_message, when, either, after_answer, with_answer, decide, own_stamp, slow_down, go}
use Rattle.acc_stamp.specs.Actor.{home_of}
use Rattle.acc_stamp.specs.Stamp.{ballot_eq, zero_ballot}
use Rattle.acc_stamp.specs.declared.stamps.Ballot.{Ballot}
use Rattle.acc_stamp.specs.declared.stamps.TxnId.{TxnId}
use Rattle.acc_stamp.specs.declared.actors.Actor.{Actor}
use Rattle.acc_txn.specs.declared.parts.BodyParts.{BodyParts}
use Rattle.acc_deps.specs.declared.records.Choice.{Choice}
use Rattle.acc_deps.specs.declared.records.Choice.TheVariants.{Accept as GoAccept, Commit as GoCommit, Stable as GoStable}
use Rattle.acc_coord.specs.declared.coord.Coord.{Coord}
use Rattle.acc_coord.specs.declared.step.Next.{Next}
use Rattle.acc_coord.specs.declared.step.Next.TheVariants.{Same, Stage as Stands, Ended as Ends}
use Rattle.acc_coord.specs.declared.step.Step.{Step}
use Rattle.acc_coord.specs.Stands.{own_of, attempt_in, Keeps, NextIs, GoesOn, StandsFor, Follows, Answers, MakesFastQuorum, DecidesFast, after_step, in_stage, is_end}

pub made_goes_on : (layout : Layout) (c : Coord) (answers : List Message) (next : Next) (o : Option Attempt) → Keeps layout c answers → NextIs layout c answers next o → GoesOn layout c.id (after_step c next) o
made_goes_on layout c answers Same o keeps e = subst (GoesOn layout c.id c) (sym e) (record { id = refl; attempt = refl; keeps = keeps })
made_goes_on layout c answers (Stands stage) o keeps n =
    subst (GoesOn layout c.id (in_stage c stage)) (sym n.1)
    (record { id = refl; attempt = refl; keeps = record { placed = record { stores = keeps.placed.stores; shards = keeps.placed.shards; exist = keeps.placed.exist }; stage = n.2 } })
made_goes_on layout c answers Ends o keeps e = subst (GoesOn layout c.id c) (sym e) tt

pub made_ends : (layout : Layout) (c : Coord) (answers : List Message) (next : Next) (o : Option Attempt) → NextIs layout c answers next o → is_end next ≡ is_none o
made_ends layout c answers Same o e = sym (ap is_none e)
made_ends layout c answers (Stands stage) o n = sym (ap is_none n.1)
made_ends layout c answers Ends o e = sym (ap is_none e)

abbrev react : Layout → TxnId → Message → Attempt → Reaction
react layout x m a = reaction layout (home_of x a.ballot) x a m

-- a step that is made, in the words of the attempt
module _ (layout : Layout) (old : Coord) (x : TxnId) (a : Attempt) (m : Message) (stands : StandsFor layout x old a) where
  same_reaction : react layout old.id m (attempt_in old a.answers) ≡ react layout x m a
  same_reaction = ap (react layout old.id m) stands.attempt ∙ ap (λ (id : TxnId). react layout id m a) stands.id

  pub made_answers : (new : Coord) (step : Step) (emitted : Emitted) (has_ended : Bool) → Follows layout old a.answers step (reaction layout (own_of old) old.id (attempt_in old a.answers) m)
      → new ≡ after_step old step.next → emitted ≡ step.emitted → has_ended ≡ is_end step.next → Answers layout x new emitted has_ended (reaction layout (home_of x a.ballot) x a m)
  made_answers new step emitted has_ended f made emits ends =
      let first : Reaction = react layout old.id m (attempt_in old a.answers) in
      record {
        emits = emits ∙ f.emitted ∙ ap (λ (r : Reaction). r.emitted) same_reaction;
        ends = ends ∙ made_ends layout old a.answers step.next first.next f.next ∙ ap (λ (r : Reaction). is_none r.next) same_reaction;
        goes_on =
            subst (λ (r : Reaction). GoesOn layout x new r.next) same_reaction
            (subst (λ (id : TxnId). GoesOn layout id new first.next) stands.id
            (subst (λ (c : Coord). GoesOn layout old.id c first.next) (sym made) (made_goes_on layout old a.answers step.next first.next stands.keeps f.next)));
      }

-- where the attempt ends, the coordinator stays
pub ended_stays : (c : Coord) (next : Next) → is_end next ≡ true → after_step c next ≡ c
ended_stays c Same e = refl
ended_stays c (Stands stage) e = absurd (false≢true e)
ended_stays c Ends e = refl

-- ---- a fast quorum

abbrev voting : Ballot → BodyParts → List Message → Attempt
voting ballot body answers = record { ballot = ballot; body = body; phase = Voting; answers = answers }

abbrev attempt_with : Attempt → Phase → Attempt
attempt_with a phase = record { ballot = a.ballot; body = a.body; phase = phase; answers = a.answers }

abbrev FastIs : Layout → Actor → TxnId → Ballot → BodyParts → List Message → Message → Type 0
FastIs layout own x ballot body answers m =
    counts layout (voting ballot body answers) m ≡ true → fast_everywhere layout x body (m ∷ answers) ≡ true → (on_message layout own x (voting ballot body answers) m).emitted.notes ≡ Decide x x.0 Fast (union_of x (m ∷ answers)) ∷ []

module _ (layout : Layout) (own : Actor) (x : TxnId) (b : Ballot) (body : BodyParts) (answers : List Message) where
  vote_is_fast : (m : Message) → is_preaccept_ok m ≡ true → FastIs layout own x b body answers m
  vote_is_fast (PreAcceptOk from to id ballot vote deps) is counted fast =
      let m : Message = PreAcceptOk from to id ballot vote deps in
      ap (λ (t : Bool). (when t (λ a. after_answer layout own x (with_answer a m) a.phase) (voting b body answers)).emitted.notes) counted
      ∙ ap
      (λ (t : Bool).
      (either t (λ a. decide layout own x a Fast (own_stamp x a))
      (λ a. when (majority_everywhere layout x a.body a.answers && fast_lost_somewhere layout x a.body a.answers) (slow_down layout own x) a)
      (voting b body (m ∷ answers))).emitted.notes)
      fast
  vote_is_fast (PreAccept from to id ballot body) is counted fast = absurd (false≢true is)
  vote_is_fast (Accept from to id ballot body t deps) is counted fast = absurd (false≢true is)
  vote_is_fast (AcceptOk from to id ballot deps) is counted fast = absurd (false≢true is)
  vote_is_fast (Commit from to id ballot body t deps) is counted fast = absurd (false≢true is)
  vote_is_fast (CommitOk from to id ballot) is counted fast = absurd (false≢true is)
  vote_is_fast (Stable from to id ballot body t deps) is counted fast = absurd (false≢true is)
  vote_is_fast (ReadOk from to id ballot answer) is counted fast = absurd (false≢true is)
  vote_is_fast (Apply from to id ballot body t deps outcome) is counted fast = absurd (false≢true is)
  vote_is_fast (Recover from to id ballot body) is counted fast = absurd (false≢true is)
  vote_is_fast (RecoverOk from to id ballot view) is counted fast = absurd (false≢true is)
  vote_is_fast (Nack from to id ballot promised) is counted fast = absurd (false≢true is)
  vote_is_fast (Decided from to id ballot t deps) is counted fast = absurd (false≢true is)
  vote_is_fast (Inform from to id ballot outcome) is counted fast = absurd (false≢true is)

first_of : (a b : Bool) → (a && b) ≡ true → a ≡ true
first_of true b e = refl
first_of false b e = absurd (false≢true e)

pub decides_fast : (layout : Layout) (own : Actor) (x : TxnId) (a : Attempt) (m : Message) → MakesFastQuorum layout x a m → DecidesFast x a m (reaction layout own x a m).emitted
decides_fast layout own x a m q =
    let ballots : ballot_eq (ballot_of m) a.ballot ≡ true = ap (λ (b : Ballot). ballot_eq b a.ballot) q.same ∙ ap (ballot_eq zero_ballot) q.first in
    let phased : voting a.ballot a.body a.answers ≡ a = ap (λ (p : Phase). attempt_with a p) (sym q.voting) in
    let counted : counts layout (voting a.ballot a.body a.answers) m ≡ true = ap (λ (b : Attempt). counts layout b m) phased ∙ q.is_counted in
    let a_vote : is_preaccept_ok m ≡ true = first_of (is_preaccept_ok m) _ (first_of (is_preaccept_ok m && is_store_of layout a.body (from_of m)) (not (list_any (λ earlier. same_actor (from_of earlier) (from_of m)) a.answers)) counted) in
    ap (λ (t : Bool). (when t (λ a. on_message layout own x a m) a).emitted.notes) ballots
    ∙ ap (λ (b : Attempt). (on_message layout own x b m).emitted.notes) (sym phased)
    ∙ vote_is_fast layout own x a.ballot a.body a.answers m a_vote counted q.fast

-- ---- what a recovery has chosen depends on the ballot and the body of the attempt alone

abbrev bare : Ballot → BodyParts → Attempt
bare ballot body = record { ballot = ballot; body = body; phase = Voting; answers = [] }

go_bare : (layout : Layout) (own : Actor) (x : TxnId) (a : Attempt) (choice : Choice) → go layout own x a choice ≡ go layout own x (bare a.ballot a.body) choice
go_bare layout own x a (GoAccept s) = refl
go_bare layout own x a (GoCommit s) = refl
go_bare layout own x a (GoStable s) = refl

pub go_same : (layout : Layout) (own : Actor) (x : TxnId) (a b : Attempt) (choice : Choice) → a.ballot ≡ b.ballot → a.body ≡ b.body → go layout own x a choice ≡ go layout own x b choice
go_same layout own x a b choice e f =
    go_bare layout own x a choice ∙ ap (λ (t : Ballot). go layout own x (bare t a.body) choice) e ∙ ap (λ (d : BodyParts). go layout own x (bare b.ballot d) choice) f
    ∙ sym (go_bare layout own x b choice)

pub go_goes_on : (layout : Layout) (own : Actor) (x : TxnId) (a : Attempt) (choice : Choice) → false ≡ is_none (go layout own x a choice).next
go_goes_on layout own x a (GoAccept s) = refl
go_goes_on layout own x a (GoCommit s) = refl
go_goes_on layout own x a (GoStable s) = refl
