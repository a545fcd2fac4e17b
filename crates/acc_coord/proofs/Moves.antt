-- The steps of a coordinator are those of the attempt that it is at.
use Rattle.std.proofs.Common.{◌≡◌, ℕ, Bool, true, false, eqb, not, List, [], ◌∷◌, ◌++◌, map, Some, refl, sym, ap, subst, ◌∙◌}
use Rattle.acc_stamp.specs.declared.stamps.Ballot.{Ballot}
use Rattle.acc_stamp.specs.Stamp.{ballot_lt, zero_stamp}
use Rattle.acc_stamp.specs.declared.stamps.Stamp.{Stamp}
use Rattle.acc_deps.specs.declared.shards.ShardDeps.{ShardDeps}
use Rattle.acc_quorum.specs.Answers.{Answer, greatest}
use Rattle.acc_tally.specs.Stands.{greatest_if}
use Rattle.std.specs.Prelude.{unwrap_or}
use Rattle.acc_topology.specs.Layout.{Layout}
use Rattle.acc_topology.specs.Sets.{members}
use Rattle.acc_deps.specs.declared.records.Settled.{Settled}
use Rattle.acc_txn.specs.declared.outcome.Outcome.{Outcome}
use Rattle.acc_message.specs.declared.message.Message.{Message}
use Rattle.acc_message.specs.declared.note.Note.{Note}
use Rattle.acc_message.specs.declared.note.Note.TheVariants.{Decide, Ended as EndedNote, Outcome as OutcomeNote}
use Rattle.acc_message.specs.declared.note.Path.{Path}
use Rattle.acc_message.specs.declared.note.Path.TheVariants.{Adopted}
use Rattle.acc_stamp.specs.declared.actors.Actor.{Actor}
use Rattle.std.proofs.lemmas.Bool.{and_from, and_left, and_right}
use Rattle.std.proofs.lemmas.Nat.Bits.{bit_at-zero}
use Rattle.acc_topology.specs.Sets.{in_set}
use Rattle.acc_message.specs.declared.entry.Emitted.{Emitted}
use Rattle.acc_message.specs.Shares.{shards_used, stores_used}
use Rattle.acc_message.specs.Attempts.{Attempt}
use Rattle.acc_message.specs.Coordinator.{Reaction, silence, stay, when, either, propose, commit, decide, finish, end, inform, on_nack, on_decided}
use Rattle.acc_tally.specs.Stands.{StandsFor as Tallies}
use Rattle.acc_coord.specs.declared.coord.Coord.{Coord}
use Rattle.acc_coord.specs.declared.reads.Reads.{Reads as ReadSoFar}
use Rattle.acc_tally.specs.declared.tally.Tally.{Tally}
use Rattle.acc_coord.specs.declared.rounds.Round.TheVariants.{Propose, Fix, Decided}
use Rattle.acc_coord.specs.declared.step.Stage.{Stage}
use Rattle.acc_coord.specs.declared.step.Stage.TheVariants.{Accepts, Commits, Reads}
use Rattle.acc_coord.specs.declared.step.Next.{Next}
use Rattle.acc_coord.specs.declared.step.Next.TheVariants.{Same, Stage as Stands, Ended as Ends}
use Rattle.acc_coord.specs.declared.step.Step.{Step}
use Rattle.acc_coord.specs.Rounds.{message_to, apply_to}
use Rattle.acc_coord.specs.Stands.{own_of, attempt_in, attempt_at, phase_in, IsPlaced, StageKeeps, Follows, NextIs, ReadsAre, has_decided_in, may_adopt_in}

abbrev emitted_of : List Note → List Message → Emitted
emitted_of notes out = record { notes = notes; out = out }

abbrev step_of : List Note → List Message → Next → Step
step_of notes out next = record { emitted = record { notes = notes; out = out }; next = next }

emits : (notes more : List Note) (out other : List Message) → notes ≡ more → out ≡ other → emitted_of notes out ≡ emitted_of more other
emits notes more out other e f = ap (λ (n : List Note). emitted_of n out) e ∙ ap (emitted_of more) f

-- ---- conditions

module _ (layout : Layout) (c : Coord) (answers : List Message) (step : Step) where
  pub stays : step.emitted ≡ silence → step.next ≡ Same → Follows layout c answers step (stay (attempt_in c answers))
  stays quiet same = record { emitted = quiet; next = subst (λ (n : Next). NextIs layout c answers n (Some (attempt_in c answers))) (sym same) refl }

  pub when_stays : (b : Bool) (go_on : Attempt → Reaction) → b ≡ false → step.emitted ≡ silence → step.next ≡ Same → Follows layout c answers step (when b go_on (attempt_in c answers))
  when_stays b go_on e quiet same = subst (λ (t : Bool). Follows layout c answers step (when t go_on (attempt_in c answers))) (sym e) (stays quiet same)

  pub when_goes : (b : Bool) (go_on : Attempt → Reaction) (a : Attempt) → b ≡ true → Follows layout c answers step (go_on a) → Follows layout c answers step (when b go_on a)
  when_goes b go_on a e h = subst (λ (t : Bool). Follows layout c answers step (when t go_on a)) (sym e) h

  -- the attempt waits on, in a stage that has kept its answers
  pub waits_on : (stage : Stage) (more : List Message) → step.emitted ≡ silence → step.next ≡ Stands stage → StageKeeps layout c.id c.body stage more → Follows layout c answers step (stay (attempt_at c (phase_in stage) more))
  waits_on stage more quiet e keeps =
      record { emitted = quiet; next = subst (λ (n : Next). NextIs layout c answers n (Some (attempt_at c (phase_in stage) more))) (sym e) (more, refl, keeps) }

nothing : (shard : ℕ) → in_set 0 shard ≡ false
nothing shard = ap (λ (b : ℕ). eqb b 1) (bit_at-zero shard)

module _ (layout : Layout) (c : Coord) (answers : List Message) (step : Step) where
  pub when_waits : (stage : Stage) (more : List Message) (b : Bool) (go_on : Attempt → Reaction) → b ≡ false → step.emitted ≡ silence → step.next ≡ Stands stage → StageKeeps layout c.id c.body stage more
      → Follows layout c answers step (when b go_on (attempt_at c (phase_in stage) more))
  when_waits stage more b go_on e quiet next keeps =
      subst (λ (t : Bool). Follows layout c answers step (when t go_on (attempt_at c (phase_in stage) more))) (sym e) (waits_on layout c answers step stage more quiet next keeps)

  pub either_one : (b : Bool) (one other : Attempt → Reaction) (a : Attempt) → b ≡ true → Follows layout c answers step (one a) → Follows layout c answers step (either b one other a)
  either_one b one other a e h = subst (λ (t : Bool). Follows layout c answers step (either t one other a)) (sym e) h

  pub either_other : (b : Bool) (one other : Attempt → Reaction) (a : Attempt) → b ≡ false → Follows layout c answers step (other a) → Follows layout c answers step (either b one other a)
  either_other b one other a e h = subst (λ (t : Bool). Follows layout c answers step (either t one other a)) (sym e) h

abbrev settled_of : Stamp → List ShardDeps → Settled
settled_of t deps = record { t = t; deps = deps }

pub same_settled : {t u : Stamp} {deps others : List ShardDeps} → t ≡ u → deps ≡ others → settled_of t deps ≡ settled_of u others
same_settled {u = u} {deps = deps} e f = ap (λ (s : Stamp). settled_of s deps) e ∙ ap (settled_of u) f

pub unwrap-greatest_if : (answers : List Answer) → unwrap_or (greatest_if answers) zero_stamp ≡ greatest answers
unwrap-greatest_if [] = refl
unwrap-greatest_if (a ∷ answers) = refl

-- ---- the messages to all stores

module _ (layout : Layout) (c : Coord) (answers : List Message) (placed : IsPlaced layout c) (notes : List Note) (out : List Message) (s : Settled) where
  no_answer : (tally : Tally) → Tallies tally (members c.shards) [] → Tallies tally (shards_used layout c.body) []
  no_answer tally none = subst (λ (ns : List ℕ). Tallies tally ns []) placed.shards none

  pub proposes : (tally : Tally) → notes ≡ [] → out ≡ map (message_to c Propose s) c.stores → Tallies tally (members c.shards) []
      → Follows layout c answers (step_of notes out (Stands (Accepts s tally))) (propose layout (own_of c) c.id (attempt_in c answers) s)
  proposes tally quiet sends none =
      record {
        emitted = emits notes [] out (map (message_to c Propose s) (stores_used layout c.body)) quiet (sends ∙ ap (map (message_to c Propose s)) placed.stores);
        next = ([], refl, no_answer tally none);
      }

  pub commits : (tally : Tally) → notes ≡ [] → out ≡ map (message_to c Fix s) c.stores → Tallies tally (members c.shards) []
      → Follows layout c answers (step_of notes out (Stands (Commits s tally))) (commit layout (own_of c) c.id (attempt_in c answers) s)
  commits tally quiet sends none =
      record {
        emitted = emits notes [] out (map (message_to c Fix s) (stores_used layout c.body)) quiet (sends ∙ ap (map (message_to c Fix s)) placed.stores);
        next = ([], refl, no_answer tally none);
      }

  pub decides : (path : Path) (reads : ReadSoFar) → notes ≡ Decide c.id s.t path s.deps ∷ [] → out ≡ map (message_to c Decided s) c.stores → reads ≡ record { heard = 0; cells = [] }
      → Follows layout c answers (step_of notes out (Stands (Reads s reads))) (decide layout (own_of c) c.id (attempt_in c answers) path s)
  decides path reads noted sends none =
      record {
        emitted = emits notes (Decide c.id s.t path s.deps ∷ []) out (map (message_to c Decided s) (stores_used layout c.body)) noted (sends ∙ ap (map (message_to c Decided s)) placed.stores);
        next = ([], refl, subst (λ (r : ReadSoFar). ReadsAre layout r []) (sym none) (record { heard = λ shard small. nothing shard; unknown = refl; cells = λ key. refl }));
      }

  pub finishes : (outcome : Outcome) → notes ≡ OutcomeNote c.id outcome.reply ∷ [] → out ≡ map (apply_to c s outcome) c.stores ++ inform (own_of c) c.id c.ballot outcome
      → Follows layout c answers (step_of notes out Ends) (finish layout (own_of c) c.id (attempt_in c answers) s outcome)
  finishes outcome noted sends =
      record {
        emitted = emits notes (OutcomeNote c.id outcome.reply ∷ []) out (map (apply_to c s outcome) (stores_used layout c.body) ++ inform (own_of c) c.id c.ballot outcome) noted
            (sends ∙ ap (λ (stores : List Actor). map (apply_to c s outcome) stores ++ inform (own_of c) c.id c.ballot outcome) placed.stores);
        next = refl;
      }

-- ---- refusals

module _ (layout : Layout) (c : Coord) (answers : List Message) (promised : Ballot) where
  pub ends : (notes : List Note) (out : List Message) → has_decided_in c ≡ false → ballot_lt c.ballot promised ≡ true → notes ≡ EndedNote c.id c.ballot promised ∷ [] → out ≡ []
      → Follows layout c answers (step_of notes out Ends) (on_nack c.id (attempt_in c answers) promised)
  ends notes out undecided greater noted quiet =
      when_goes layout c answers (step_of notes out Ends) _ (λ a. end c.id a promised) (attempt_in c answers) (and_from _ _ (ap not undecided) greater)
      (record { emitted = emits notes (EndedNote c.id c.ballot promised ∷ []) out [] noted quiet; next = refl })

  pub nack_of_decided : (step : Step) → has_decided_in c ≡ true → step.emitted ≡ silence → step.next ≡ Same → Follows layout c answers step (on_nack c.id (attempt_in c answers) promised)
  nack_of_decided step decided quiet same = when_stays layout c answers step _ _ (and_left _ _ (ap not decided)) quiet same

  pub nack_below : (step : Step) → ballot_lt c.ballot promised ≡ false → step.emitted ≡ silence → step.next ≡ Same → Follows layout c answers step (on_nack c.id (attempt_in c answers) promised)
  nack_below step below quiet same = when_stays layout c answers step _ _ (and_right _ _ below) quiet same

module _ (layout : Layout) (c : Coord) (answers : List Message) (s : Settled) (step : Step) where
  pub adopts_not : may_adopt_in c ≡ false → step.emitted ≡ silence → step.next ≡ Same → Follows layout c answers step (on_decided layout (own_of c) c.id (attempt_in c answers) s)
  adopts_not closed quiet same = when_stays layout c answers step _ _ closed quiet same

  pub adopts : may_adopt_in c ≡ true → Follows layout c answers step (decide layout (own_of c) c.id (attempt_in c answers) Adopted s) → Follows layout c answers step (on_decided layout (own_of c) c.id (attempt_in c answers) s)
  adopts may h = when_goes layout c answers step _ _ (attempt_in c answers) may h
