-- What an attempt that a node runs makes of a message.
use Rattle.std.proofs.Common.{◌≡◌, ◌&&◌, Bool, true, false, not, cond, List, [], ◌∷◌, ◌++◌, Option, None, Some, refl, sym, ap, subst, ◌∙◌}
use Rattle.std.proofs.lemmas.Bool.{false≢true, true≢false}
use Rattle.std.specs.Prelude.{is_none}
use Rattle.std.specs.List.{list_any, flat_map}
use Rattle.acc_stamp.specs.declared.stamps.TxnId.{TxnId}
use Rattle.acc_stamp.specs.declared.stamps.Ballot.{Ballot}
use Rattle.acc_stamp.specs.Actor.{home_of}
use Rattle.acc_topology.specs.Layout.{Layout}
use Rattle.acc_txn.specs.declared.parts.BodyParts.{BodyParts}
use Rattle.acc_deps.specs.declared.records.Choice.{Choice}
use Rattle.acc_deps.specs.declared.records.Choice.TheVariants.{Accept as GoAccept, Commit as GoCommit, Stable as GoStable}
use Rattle.acc_message.specs.declared.message.Message.{Message}
use Rattle.acc_message.specs.declared.note.Note.{Note}
use Rattle.acc_message.specs.declared.note.Note.TheVariants.{Blocked as BlockedNote, Ended as EndedNote}
use Rattle.acc_message.specs.declared.entry.Emitted.{Emitted}
use Rattle.acc_message.specs.Items.{replies}
use Rattle.acc_message.specs.Attempts.{Attempt}
use Rattle.acc_message.specs.Coordinator.{Reaction, silence, reaction, go, block, end}
use Rattle.acc_message.specs.NodeRules.{replied, with_reply}
use Rattle.acc_coord.specs.declared.coord.Coord.{Coord}
use Rattle.acc_coord.specs.Stands.{Answers, GoesOn}
use Rattle.acc_recover.specs.declared.recovery.Recovery.{Recovery}
use Rattle.acc_recover.specs.declared.judged.Judged.{Judged}
use Rattle.acc_recover.specs.declared.judged.Judged.TheVariants.{Wait, Go as Goes, Blocked as IsBlocked, Ended as IsEnded}
use Rattle.acc_recover.specs.Stands.{StandsFor as Recovers, StandsForNext, JudgesAs, Judges, KeepsUnlessWaits}
use Rattle.acc_node.specs.declared.heard.Heard.{Heard}
use Rattle.acc_node.specs.declared.running.Running.{Running}
use Rattle.acc_node.specs.declared.running.Running.TheVariants.{Coordinating, Recovering as IsRecovering}
use Rattle.acc_node.specs.Notes.{Noted, Replies}
use Rattle.acc_node.specs.Stands.{RunsAs, Runs, RunsOn, Hears, StandsUnlessWaits, JudgedAs, FollowsIt, turned, waits}
use Rattle.acc_node.proofs.Noting.{noted}

-- ---- a coordinator

module _ (layout : Layout) (x : TxnId) where
  runs_on : (coord : Coord) (o : Option Attempt) → GoesOn layout x coord o → RunsOn layout x (Coordinating coord) o
  runs_on coord None h = tt
  runs_on coord (Some a) h = h

  pub coordinated : (coord : Coord) (a : Attempt) (m : Message) (emitted : Emitted) (notes : List Note) (has_ended is_open has_replied : Bool)
      → Answers layout x coord emitted has_ended (reaction layout (home_of x a.ballot) x a m)
      → ((y : TxnId) → Noted y emitted.notes has_ended → Replies y is_open emitted.notes notes has_replied)
      → Hears layout x (Coordinating coord) is_open (record { emitted = record { notes = notes; out = emitted.out }; has_ended = has_ended; has_replied = has_replied })
      (reaction layout (home_of x a.ballot) x a m)
  coordinated coord a m emitted notes has_ended is_open has_replied h told =
      let r : Reaction = reaction layout (home_of x a.ballot) x a m in
      let n : Noted x emitted.notes has_ended =
      subst (λ (e : Emitted). Noted x e.notes has_ended) (sym h.emits)
      (subst (λ b. Noted x r.emitted.notes b) (sym h.ends) (noted layout (home_of x a.ballot) x a m)) in
      record {
        emits = ap (λ (list : List Note). record { notes = list; out = emitted.out }) (told x n).notes ∙ ap (with_reply is_open) h.emits;
        ends = h.ends;
        answers = (told x n).answers;
        goes_on = runs_on coord r.next h.goes_on;
      }

  -- ---- a recovery

  -- what it emits is no outcome
  abbrev HasNoOutcome : Emitted → Type 0
  HasNoOutcome e = (is_open : Bool) → (with_reply is_open e ≡ e) × (list_any (replies x) e.notes ≡ false)

  go_bare : (a : Attempt) (choice : Choice) → HasNoOutcome (go layout (home_of x a.ballot) x a choice).emitted
  go_bare a (GoAccept s) is_open = (refl, refl)
  go_bare a (GoCommit s) is_open = (refl, refl)
  go_bare a (GoStable s) is_open = (refl, refl)

  judged_bare : (new : Recovery) (a : Attempt) (r : Reaction) (judged : Judged) → JudgesAs layout x new a r judged → HasNoOutcome r.emitted
  judged_bare new a r Wait h = subst HasNoOutcome (sym h.0) (λ is_open. (refl, refl))
  judged_bare new a r (Goes choice) h = subst (λ (q : Reaction). HasNoOutcome q.emitted) (sym h) (go_bare a choice)
  judged_bare new a r (IsBlocked by) h = subst (λ (q : Reaction). HasNoOutcome q.emitted) (sym h) (λ is_open. (refl, refl))
  judged_bare new a r (IsEnded by) h = subst (λ (q : Reaction). HasNoOutcome q.emitted) (sym h) (λ is_open. (refl, refl))

  still_stands : (old new : Recovery) (a : Attempt) (judged : Judged) → KeepsUnlessWaits old new judged → Recovers layout x old a → StandsUnlessWaits layout x new a judged
  still_stands old new a Wait kept s = tt
  still_stands old new a (Goes choice) kept s = subst (λ (r : Recovery). Recovers layout x r a) (sym kept) s
  still_stands old new a (IsBlocked by) kept s = subst (λ (r : Recovery). Recovers layout x r a) (sym kept) s
  still_stands old new a (IsEnded by) kept s = subst (λ (r : Recovery). Recovers layout x r a) (sym kept) s

  pub recovered : (old new : Recovery) (a : Attempt) (m : Message) (judged : Judged) (heard : Heard) (coord : Option Coord) (is_open : Bool)
      → Judges layout x new a m judged → KeepsUnlessWaits old new judged → JudgedAs layout x new judged heard coord → Recovers layout x old a
      → Hears layout x (turned (IsRecovering new) coord) is_open heard (reaction layout (home_of x a.ballot) x a m)
  recovered old new a m judged heard coord is_open judges kept follows s =
      let r : Reaction = reaction layout (home_of x a.ballot) x a m in
      let f : FollowsIt layout x new heard coord r = follows a r (still_stands old new a judged kept s) judges in
      let bare = judged_bare new a r judged judges is_open in
      record {
        emits = f.emits ∙ sym bare.0;
        ends = f.ends;
        answers = f.no_reply ∙ sym (ap (λ (e : Emitted). list_any (replies x) e.notes) f.emits ∙ bare.1);
        goes_on = f.goes_on;
      }

  -- ---- how it goes on

  waits_on : (recovery : Recovery) (o : Option Attempt) → StandsForNext layout x recovery o → (false ≡ is_none o) × RunsOn layout x (IsRecovering recovery) o
  waits_on recovery None h = absurd h
  waits_on recovery (Some a) h = (refl, h)

  pub follows_waiting : (recovery : Recovery) (heard : Heard) → heard ≡ record { emitted = silence; has_ended = false; has_replied = false }
      → JudgedAs layout x recovery Wait heard None
  follows_waiting recovery heard is = λ a r s h.
      let w = waits_on recovery r.next h.1 in
      record {
        emits = ap (λ (d : Heard). d.emitted) is ∙ sym h.0;
        ends = ap (λ (d : Heard). d.has_ended) is ∙ w.0;
        no_reply = ap (λ (d : Heard). d.has_replied) is;
        goes_on = w.1;
      }

  pub follows_choice : (recovery : Recovery) (choice : Choice) (ballot : Ballot) (body : BodyParts) (coord : Coord) (emitted : Emitted)
      → ((a : Attempt) → Recovers layout x recovery a → ballot ≡ a.ballot) → ((a : Attempt) → Recovers layout x recovery a → body ≡ a.body)
      → ((a : Attempt) → a.ballot ≡ ballot → a.body ≡ body → Answers layout x coord emitted false (go layout (home_of x ballot) x a choice))
      → JudgedAs layout x recovery (Goes choice) (record { emitted = emitted; has_ended = false; has_replied = false }) (Some coord)
  follows_choice recovery choice ballot body coord emitted of_ballot of_body gone = λ a r s h.
      let same : ballot ≡ a.ballot = of_ballot a s in
      let q : Reaction = go layout (home_of x a.ballot) x a choice in
      let g : Answers layout x coord emitted false q =
      subst (λ (b : Ballot). Answers layout x coord emitted false (go layout (home_of x b) x a choice)) same (gone a (sym same) (sym (of_body a s))) in
      record {
        emits = g.emits ∙ ap (λ (k : Reaction). k.emitted) (sym h);
        ends = g.ends ∙ ap (λ (k : Reaction). is_none k.next) (sym h);
        no_reply = refl;
        goes_on = subst (λ (k : Reaction). RunsOn layout x (Coordinating coord) k.next) (sym h) (runs_on coord q.next g.goes_on);
      }

  pub follows_blocked : (recovery : Recovery) (ballot : Ballot) (by : List TxnId) (heard : Heard)
      → ((a : Attempt) → Recovers layout x recovery a → ballot ≡ a.ballot)
      → heard ≡ record { emitted = record { notes = BlockedNote x ballot by ∷ []; out = [] }; has_ended = true; has_replied = false }
      → JudgedAs layout x recovery (IsBlocked by) heard None
  follows_blocked recovery ballot by heard of_ballot is = λ a r s h.
      record {
        emits = ap (λ (d : Heard). d.emitted) is ∙ ap (λ (b : Ballot). record { notes = BlockedNote x b by ∷ []; out = [] }) (of_ballot a s) ∙ ap (λ (k : Reaction). k.emitted) (sym h);
        ends = ap (λ (d : Heard). d.has_ended) is ∙ ap (λ (k : Reaction). is_none k.next) (sym h);
        no_reply = ap (λ (d : Heard). d.has_replied) is;
        goes_on = subst (λ (k : Reaction). RunsOn layout x (IsRecovering recovery) k.next) (sym h) tt;
      }

  pub follows_end : (recovery : Recovery) (ballot by : Ballot) (heard : Heard)
      → ((a : Attempt) → Recovers layout x recovery a → ballot ≡ a.ballot)
      → heard ≡ record { emitted = record { notes = EndedNote x ballot by ∷ []; out = [] }; has_ended = true; has_replied = false }
      → JudgedAs layout x recovery (IsEnded by) heard None
  follows_end recovery ballot by heard of_ballot is = λ a r s h.
      record {
        emits = ap (λ (d : Heard). d.emitted) is ∙ ap (λ (b : Ballot). record { notes = EndedNote x b by ∷ []; out = [] }) (of_ballot a s) ∙ ap (λ (k : Reaction). k.emitted) (sym h);
        ends = ap (λ (d : Heard). d.has_ended) is ∙ ap (λ (k : Reaction). is_none k.next) (sym h);
        no_reply = ap (λ (d : Heard). d.has_replied) is;
        goes_on = subst (λ (k : Reaction). RunsOn layout x (IsRecovering recovery) k.next) (sym h) tt;
      }

-- a recovery that doesn't wait is as before
pub stays_unless_waits : (old new : Recovery) (judged : Judged) → KeepsUnlessWaits old new judged → waits judged ≡ false → new ≡ old
stays_unless_waits old new Wait kept e = absurd (true≢false e)
stays_unless_waits old new (Goes choice) kept e = kept
stays_unless_waits old new (IsBlocked by) kept e = kept
stays_unless_waits old new (IsEnded by) kept e = kept
