-- What an attempt that asks for evidence does with a RecoverOk of its ballot.
use Rattle.std.proofs.Common.{◌≡◌, ℕ, ◌+◌, ◌*◌, Bool, true, false, not, ◌&&◌, ◌||◌, nat_eq, List, [], ◌∷◌, refl, sym, ◌∙◌, ap, subst, arith}
use Rattle.std.specs.List.{list_any}
use Rattle.acc_stamp.specs.declared.stamps.TxnId.{TxnId}
use Rattle.acc_stamp.specs.declared.actors.Actor.{Actor}
use Rattle.acc_stamp.specs.Actor.{home_of, node_of, shard_of}
use Rattle.acc_stamp.specs.Stamp.{stamp_eq}
use Rattle.acc_stamp.proofs.Order.{ballot_order, eq_itself}
use Rattle.acc_topology.specs.Layout.{Layout}
use Rattle.acc_quorum.specs.Answers.{Answer, has_answered}
use Rattle.acc_tally.specs.declared.tally.Tally.{Tally}
use Rattle.acc_tally.specs.Stands.{StandsFor as Counted, Counts, answer_of}
use Rattle.acc_deps.specs.declared.records.View.{View}
use Rattle.acc_deps.specs.declared.records.Choice.{Choice}
use Rattle.acc_deps.specs.declared.records.Choice.TheVariants.{Accept as GoAccept, Commit as GoCommit, Stable as GoStable}
use Rattle.acc_message.specs.declared.message.Message.{Message}
use Rattle.acc_message.specs.declared.message.Message.TheVariants.{RecoverOk}
use Rattle.acc_message.specs.Fields.{from_of}
use Rattle.acc_message.specs.Items.{same_actor}
use Rattle.acc_message.specs.Shares.{shards_used, is_store_of}
use Rattle.acc_message.specs.Attempts.{Attempt, counts, plain, plainly, majority_everywhere}
use Rattle.acc_message.specs.Coordinator.{Reaction, stay, when, go, follow_ruling, after_answer, with_answer, on_message, reaction}
use Rattle.acc_message.specs.RecoveryDecision.{Ruling, Go, Blocks, recovery_decision}
use Rattle.acc_recover.specs.declared.recovery.Recovery.{Recovery}
use Rattle.acc_recover.specs.declared.judged.Judged.{Judged}
use Rattle.acc_recover.specs.declared.judged.Judged.TheVariants.{Wait}
use Rattle.acc_recover.specs.Rulings.{judged_of}
use Rattle.acc_recover.specs.Stands.{attempt_with, StandsFor, JudgesAs, Judges}

-- ---- whether it counts

same_number : (store e : Actor) → nat_eq e.0 store.0 ≡ nat_eq e.0 (node_of store * 64 + shard_of store)
same_number store e = let number : store.0 ≡ node_of store * 64 + shard_of store = omega arith in ap (nat_eq e.0) number

answered_is : (x : TxnId) (store : Actor) (answers : List Message)
    → list_any (λ earlier. same_actor (from_of earlier) store) answers ≡ has_answered (plainly x answers) (shard_of store) (node_of store)
answered_is x store [] = refl
answered_is x store (e ∷ answers) =
    ap (λ b. b || list_any (λ earlier. same_actor (from_of earlier) store) answers) (same_number store (from_of e))
    ∙ ap (λ b. nat_eq (from_of e).0 (node_of store * 64 + shard_of store) || b) (answered_is x store answers)

module _ (layout : Layout) (x y : TxnId) (r : Recovery) (store to : Actor) (view : View) where
  own : Actor
  own = home_of x r.ballot

  answer : Message
  answer = RecoverOk store to y r.ballot view

  counts_is : (answers : List Message) (is_store answered : Bool) → is_store_of layout r.body store ≡ is_store
      → has_answered (plainly x answers) (shard_of store) (node_of store) ≡ answered
      → counts layout (attempt_with r answers) answer ≡ (is_store && not answered)
  unfolding answer
  counts_is answers is_store answered e f =
      ap (λ b. b && not (list_any (λ earlier. same_actor (from_of earlier) store) answers)) e
      ∙ ap (λ b. is_store && not b) (answered_is x store answers ∙ f)

  heard : (answers : List Message) → reaction layout own x (attempt_with r answers) answer
      ≡ when (counts layout (attempt_with r answers) answer) (λ a. after_answer layout own x (with_answer a answer) a.phase) (attempt_with r answers)
  unfolding answer own
  heard answers = ap (λ b. when b (λ a. on_message layout own x a answer) (attempt_with r answers)) (eq_itself ballot_order r.ballot)

  reaction_by : (answers : List Message) (b : Bool) → counts layout (attempt_with r answers) answer ≡ b
      → reaction layout own x (attempt_with r answers) answer ≡ when b (λ a. after_answer layout own x (with_answer a answer) a.phase) (attempt_with r answers)
  reaction_by answers b e =
      heard answers ∙ ap (λ c. when c (λ a. after_answer layout own x (with_answer a answer) a.phase) (attempt_with r answers)) e

  same_go : (answers : List Message) (choice : Choice) → go layout own x (with_answer (attempt_with r answers) answer) choice ≡ go layout own x (attempt_with r answers) choice
  same_go answers (GoAccept s) = refl
  same_go answers (GoCommit s) = refl
  same_go answers (GoStable s) = refl

  ruled : (new : Recovery) (answers : List Message) (ruling : Ruling) (reacts : Reaction)
      → reacts ≡ follow_ruling layout own x (with_answer (attempt_with r answers) answer) ruling
      → JudgesAs layout x new (attempt_with r answers) reacts (judged_of ruling)
  unfolding own
  ruled new answers (Go choice) reacts e = e ∙ same_go answers choice
  ruled new answers (Blocks by) reacts e = e

  -- ---- in each case

  stays : (new : Recovery) (a : Attempt) → StandsFor layout x r a → StandsFor layout x new a → counts layout (attempt_with r a.answers) answer ≡ false
      → Judges layout x new a answer Wait
  unfolding own
  stays new a s t e =
      let reacts : reaction layout own x a answer ≡ stay a = subst (λ z. reaction layout own x z answer ≡ stay z) (sym s.is_attempt) (reaction_by a.answers false e) in
      subst (λ (b : Attempt). JudgesAs layout x new a (reaction layout (home_of x b.ballot) x a answer) Wait) (sym s.is_attempt)
      (subst (λ z. JudgesAs layout x new a z Wait) (sym reacts) (refl, t))

  counts_on : (new : Recovery) (a : Attempt) → StandsFor layout x r a → StandsFor layout x new (with_answer (attempt_with r a.answers) answer)
      → counts layout (attempt_with r a.answers) answer ≡ true → majority_everywhere layout x r.body (answer ∷ a.answers) ≡ false
      → Judges layout x new a answer Wait
  unfolding own
  counts_on new a s t e f =
      subst (λ z. Judges layout x new z answer Wait) (sym s.is_attempt)
      (subst (λ z. JudgesAs layout x new (attempt_with r a.answers) z Wait)
      (sym (reaction_by a.answers true e ∙ ap (λ b. when b (λ z. follow_ruling layout own x z (recovery_decision layout x z.body z.answers)) (with_answer (attempt_with r a.answers) answer)) f))
      (refl, t))

  rules_on : (new : Recovery) (a : Attempt) (judged : Judged) → StandsFor layout x r a → counts layout (attempt_with r a.answers) answer ≡ true
      → majority_everywhere layout x r.body (answer ∷ a.answers) ≡ true → judged ≡ judged_of (recovery_decision layout x r.body (answer ∷ a.answers))
      → Judges layout x new a answer judged
  unfolding own
  rules_on new a judged s e f g =
      subst (λ z. Judges layout x new z answer judged) (sym s.is_attempt)
      (subst (λ z. Judges layout x new (attempt_with r a.answers) answer z) (sym g)
      (ruled new a.answers (recovery_decision layout x r.body (answer ∷ a.answers)) _
      (reaction_by a.answers true e ∙ ap (λ b. when b (λ z. follow_ruling layout own x z (recovery_decision layout x z.body z.answers)) (with_answer (attempt_with r a.answers) answer)) f)))

  -- ---- by what a tally tells

  plain_is : (unchanged : Bool) → r.id ≡ x → unchanged ≡ stamp_eq view.vote r.id.0 → answer_of store unchanged view.vote view.vote_deps ≡ plain x answer
  unfolding answer
  plain_is unchanged e f = ap (λ b. answer_of store b view.vote view.vote_deps) (f ∙ ap (λ (z : TxnId). stamp_eq view.vote z.0) e)

  -- the store of a shard has answered before
  pub not_first : (a : Attempt) (unchanged : Bool) (new : Tally) → StandsFor layout x r a → is_store_of layout r.body store ≡ true
      → ((shards : List ℕ) (answers : List Answer) → Counted r.tally shards answers → Counts r.tally new shards answers (answer_of store unchanged view.vote view.vote_deps) false)
      → Judges layout x r a (RecoverOk store to y r.ballot view) Wait
  unfolding answer
  not_first a unchanged new s e f =
      stays r a s s (counts_is a.answers true true e (f (shards_used layout r.body) (plainly x a.answers) s.counted).0)

  pub other_store : (a : Attempt) → StandsFor layout x r a → is_store_of layout r.body store ≡ false → Judges layout x r a (RecoverOk store to y r.ballot view) Wait
  unfolding answer
  other_store a s e = by_answered (has_answered (plainly x a.answers) (shard_of store) (node_of store)) refl
    where
      by_answered : (b : Bool) → has_answered (plainly x a.answers) (shard_of store) (node_of store) ≡ b → Judges layout x r a (RecoverOk store to y r.ballot view) Wait
      by_answered b f = stays r a s s (counts_is a.answers false b e f)

  pub counted_now : (a : Attempt) (unchanged : Bool) (new : Tally) → StandsFor layout x r a → unchanged ≡ stamp_eq view.vote r.id.0
      → ((shards : List ℕ) (answers : List Answer) → Counted r.tally shards answers → Counts r.tally new shards answers (answer_of store unchanged view.vote view.vote_deps) true)
      → Counted new (shards_used layout r.body) (plainly x (RecoverOk store to y r.ballot view ∷ a.answers))
  unfolding answer
  counted_now a unchanged new s e f =
      subst (λ z. Counted new (shards_used layout r.body) (z ∷ plainly x a.answers)) (plain_is unchanged s.is_of e)
      (f (shards_used layout r.body) (plainly x a.answers) s.counted).1

  pub waits_on : (a : Attempt) (unchanged : Bool) (new : Tally) (views : List View) → StandsFor layout x r a → is_store_of layout r.body store ≡ true
      → unchanged ≡ stamp_eq view.vote r.id.0
      → ((shards : List ℕ) (answers : List Answer) → Counted r.tally shards answers → Counts r.tally new shards answers (answer_of store unchanged view.vote view.vote_deps) true)
      → views ≡ view ∷ r.views → majority_everywhere layout x r.body (RecoverOk store to y r.ballot view ∷ a.answers) ≡ false
      → Judges layout x (record { id = r.id; ballot = r.ballot; body = r.body; shards = r.shards; tally = new; views = views }) a (RecoverOk store to y r.ballot view) Wait
  unfolding answer
  waits_on a unchanged new views s e f g v m =
      counts_on (record { id = r.id; ballot = r.ballot; body = r.body; shards = r.shards; tally = new; views = views }) a s
      (record {
        is_of = s.is_of;
        is_attempt = refl;
        is_recovery = s.is_recovery;
        shards_are = s.shards_are;
        counted = counted_now a unchanged new s f g;
        views_are = v ∙ ap (λ z. view ∷ z) s.views_are;
      })
      (counts_is a.answers true false e (g (shards_used layout r.body) (plainly x a.answers) s.counted).0) m

  pub rules_now : (next : Recovery) (a : Attempt) (unchanged : Bool) (new : Tally) (judged : Judged) → StandsFor layout x r a → is_store_of layout r.body store ≡ true
      → ((shards : List ℕ) (answers : List Answer) → Counted r.tally shards answers → Counts r.tally new shards answers (answer_of store unchanged view.vote view.vote_deps) true)
      → majority_everywhere layout x r.body (RecoverOk store to y r.ballot view ∷ a.answers) ≡ true
      → judged ≡ judged_of (recovery_decision layout x r.body (RecoverOk store to y r.ballot view ∷ a.answers))
      → Judges layout x next a (RecoverOk store to y r.ballot view) judged
  unfolding answer
  rules_now next a unchanged new judged s e g m d =
      rules_on next a judged s (counts_is a.answers true false e (g (shards_used layout r.body) (plainly x a.answers) s.counted).0) m d
