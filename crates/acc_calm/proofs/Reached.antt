-- In a calm run a message of a phase is sent only once its transaction's attempt has come to this phase.
use Rattle.std.proofs.Common.{◌≡◌, ℕ, ◌≤◌, Bool, true, false, cond, List, [], ◌∷◌, Option, None, Some, map, refl, sym, ◌∙◌, ap, subst, arith, ⊎_elim}
use Rattle.std.proofs.lemmas.Bool.{true≢false}
use Rattle.acc_stamp.specs.declared.stamps.TxnId.{TxnId}
use Rattle.acc_stamp.specs.declared.actors.Actor.{Actor}
use Rattle.acc_stamp.specs.Actor.{actor_of, node_of, home_of}
use Rattle.acc_stamp.specs.Stamp.{zero_ballot}
use Rattle.acc_stamp.proofs.Order.{id_order, eq_itself}
use Rattle.acc_topology.specs.Layout.{Layout}
use Rattle.acc_deps.specs.declared.records.Settled.{Settled}
use Rattle.acc_txn.specs.declared.parts.BodyParts.{BodyParts}
use Rattle.acc_txn.specs.declared.outcome.Outcome.{Outcome}
use Rattle.acc_message.specs.declared.message.Message.{Message}
use Rattle.acc_message.specs.declared.message.Message.TheVariants.{PreAccept, PreAcceptOk, Accept, AcceptOk, Commit, CommitOk, Stable, ReadOk, Apply, Decided, Inform}
use Rattle.acc_message.specs.declared.entry.Emitted.{Emitted}
use Rattle.acc_message.specs.declared.item.Item.{Item}
use Rattle.acc_message.specs.Fields.{from_of, id_of}
use Rattle.acc_message.specs.Items.{same_actor}
use Rattle.acc_message.specs.Shares.{stores_used}
use Rattle.acc_message.specs.Taken.{Taken, taking}
use Rattle.acc_message.specs.StoreRules.{stable_ballots}
use Rattle.acc_message.specs.Attempts.{Attempt, Accepting, Committing, Executing}
use Rattle.acc_message.specs.Coordinator.{Reaction, begun, in_phase, home_node, inform, reaction}
use Rattle.acc_message.specs.NodeRules.{Act, Begins, Recovers, Slows, Takes, Restarts, Deed, next_id, next_by, where_about, attempt_after, attempt_of, emitted_by, on_taking, node_emits}
use Rattle.acc_message.specs.Run.{Cluster, clock_start, deeds_of, taken_of, EachStands}
use Rattle.acc_safety.specs.Calm.{IsCalm}
use Rattle.acc_safety.specs.Places.{IsIn, StandsAt, IsPast}
use Rattle.acc_safety.specs.Histories.{Sending, FromNode, Sender, IsStore, IsNode}
use Rattle.acc_safety.specs.StoreSends.{StoreSends, Votes, Accepts, Commits, Reveals, ReadsAtOnce, ReadsOnOpening, Refuses, Tells}
use Rattle.acc_safety.specs.NodeMoves.{Move, Wait, Propose, CommitTo, DecideBy, FinishWith, BlockBy, EndBy, made, HasOutcome, Hears, Counts, NodeSends, AsksForVotes, AsksForViews, Proposes, Commits as CommitsTo, Decides, Finishes, Informs}
use Rattle.acc_safety.proofs.PlaceOrder.{none_is_in, only, IsIn-map, IsIn-append_cases, IsIn-cond_cases, StandsAt-IsPast, StandsAt-whole}
use Rattle.acc_safety.proofs.NodeMoved.{hears_all}
use Rattle.acc_safety.proofs.Bridge.{EachStands-past, each_emits, emits_at, each_answers, answers_at, sender, Sending-past, deeds_of-past}
use Rattle.acc_safety.proofs.Frame.{store_sent, node_sent, homes_are_one, past_of}
use Rattle.acc_safety_laws.proofs.Ranks.{rank}
use Rattle.acc_safety_laws.proofs.Steps.{Told, Outcome_told, Other_told, told}
use Rattle.acc_calm.proofs.Delivered.{IsCalmAct, acts_are_calm}
use Rattle.acc_calm.proofs.ZeroBallots.{is_request, store_asks_nothing, answers_requests, step_sending, opening_asked, all_zero}

-- the phase for which a request goes out
abbrev pub request_rank : Message → ℕ
request_rank (Accept from to id ballot body t deps) = 1
request_rank (Commit from to id ballot body t deps) = 2
request_rank (Stable from to id ballot body t deps) = 3
request_rank (Apply from to id ballot body t deps outcome) = 3
request_rank _ = 0

-- what answers a request, and for which phase
abbrev pub is_answering : Message → Bool
is_answering (PreAcceptOk from to id ballot vote deps) = true
is_answering (AcceptOk from to id ballot deps) = true
is_answering (CommitOk from to id ballot) = true
is_answering (ReadOk from to id ballot answer) = true
is_answering (Decided from to id ballot t deps) = true
is_answering _ = false

abbrev pub answer_rank : Message → ℕ
answer_rank (AcceptOk from to id ballot deps) = 1
answer_rank (CommitOk from to id ballot) = 2
answer_rank (ReadOk from to id ballot answer) = 3
answer_rank _ = 0

node_answers_nothing : (layout : Layout) (node start : ℕ) (past : List Deed) (act : Act) (m : Message) → NodeSends layout node start past act m → is_answering m ≡ false
node_answers_nothing layout node start past act m (AsksForVotes txn body store) = refl
node_answers_nothing layout node start past act m (AsksForViews x body store) = refl
node_answers_nothing layout node start past act m (Proposes on x a s store reacts) = refl
node_answers_nothing layout node start past act m (CommitsTo on x a s store reacts) = refl
node_answers_nothing layout node start past act m (Decides on x a path s store reacts noted) = refl
node_answers_nothing layout node start past act m (Finishes on x a s outcome store reacts) = refl
node_answers_nothing layout node start past act m (Informs on x a s outcome reacts) = refl

finish_phase : (layout : Layout) (x : TxnId) (before a : Attempt) (m : Message) (s : Settled) (outcome : Outcome) → Hears layout x before m a (FinishWith s outcome)
    → before.phase ≡ Executing s
finish_phase layout x before a m s outcome (Counts n moved same counting (HasOutcome r o phase is)) = phase

module _ (cluster : Cluster) where
  abbrev pub at_node : Actor → TxnId → List Deed → Option Attempt
  at_node a x past = attempt_of cluster.layout (node_of a) (clock_start cluster.starts (node_of a)) x past

  -- the attempt of an actor at x came to the rank in some of these deeds
  pub record ReachedIn (a : Actor) (x : TxnId) (r : ℕ) (deeds : List Deed) : Type 0 where
    pub past : List Deed
    pub within : IsPast past deeds
    pub attempt : Attempt
    pub is : at_node a x past ≡ Some attempt
    pub high : r ≤ rank attempt.phase

  module _ (a : Actor) (deed : Deed) (past deeds : List Deed) (at : StandsAt deed past deeds) where
    abbrev own : Actor
    own = actor_of (node_of a) 0

    abbrev start : ℕ
    start = clock_start cluster.starts (node_of a)

    begin_reached : (txn : ℕ) (body : BodyParts) → deed.act ≡ Begins txn body → ReachedIn a (next_id (node_of a) start past) 0 deeds
    begin_reached txn body act_is =
        record {
          past = deed ∷ past;
          within = StandsAt-IsPast deed past deeds at;
          attempt = begun body;
          is =
              ap (attempt_after cluster.layout (node_of a) start (next_id (node_of a) start past) past (at_node a (next_id (node_of a) start past) past)) act_is
              ∙ ap (λ b. cond b (Some (begun body)) (at_node a (next_id (node_of a) start past) past)) (eq_itself id_order (next_id (node_of a) start past));
          high = omega arith;
        }

    module _ (n : Message) (act_is : deed.act ≡ Takes n) (before : Attempt) (before_is : at_node a (id_of n) past ≡ Some before) where
      entered : (after : Attempt) (r : ℕ) → (reaction cluster.layout own (id_of n) before n).next ≡ Some after → r ≡ rank after.phase → ReachedIn a (id_of n) r deeds
      entered after r next rank_is =
          record {
            past = deed ∷ past;
            within = StandsAt-IsPast deed past deeds at;
            attempt = after;
            is =
                ap (attempt_after cluster.layout (node_of a) start (id_of n) past (at_node a (id_of n) past)) act_is
                ∙ ap (λ b. where_about b (next_by (λ k. reaction cluster.layout own (id_of n) k n)) (at_node a (id_of n) past)) (eq_itself id_order (id_of n))
                ∙ ap (next_by (λ k. reaction cluster.layout own (id_of n) k n)) before_is ∙ next;
            high = subst (λ k. k ≤ rank after.phase) (sym rank_is) (omega arith);
          }

      abbrev Reaches : Message → Type 0
      Reaches m = ReachedIn a (id_of m) (request_rank m) deeds

      sent_to : (f : Actor → Message) (stores : List Actor) (m : Message) → ((store : Actor) → Reaches (f store)) → IsIn m (map f stores) → Reaches m
      sent_to f stores m each there = let one = IsIn-map f m stores there in subst Reaches (sym one.is) (each one.source)

      finished : (s : Settled) → before.phase ≡ Executing s → (r : ℕ) → r ≤ 3 → ReachedIn a (id_of n) r deeds
      finished s phase r low =
          record {
            past = past;
            within = past_of deed past deeds at;
            attempt = before;
            is = before_is;
            high = subst (λ p. r ≤ rank p) (sym phase) low;
          }

      by_move : (moving : Attempt) (move : Move) → Hears cluster.layout (id_of n) before n moving move
          → reaction cluster.layout own (id_of n) before n ≡ made cluster.layout own (id_of n) moving move
          → (m : Message) → IsIn m (made cluster.layout own (id_of n) moving move).emitted.out → Reaches m
      by_move moving Wait hears is m there = absurd (none_is_in m there)
      by_move moving (Propose s) hears is m there =
          sent_to (λ store. Accept own store (id_of n) moving.ballot moving.body s.t s.deps) (stores_used cluster.layout moving.body) m
          (λ store. entered (in_phase moving (Accepting s)) 1 (ap (λ (r : Reaction). r.next) is) refl) there
      by_move moving (CommitTo s) hears is m there =
          sent_to (λ store. Commit own store (id_of n) moving.ballot moving.body s.t s.deps) (stores_used cluster.layout moving.body) m
          (λ store. entered (in_phase moving (Committing s)) 2 (ap (λ (r : Reaction). r.next) is) refl) there
      by_move moving (DecideBy path s) hears is m there =
          sent_to (λ store. Stable own store (id_of n) moving.ballot moving.body s.t s.deps) (stores_used cluster.layout moving.body) m
          (λ store. entered (in_phase moving (Executing s)) 3 (ap (λ (r : Reaction). r.next) is) refl) there
      by_move moving (FinishWith s outcome) hears is m there =
          ⊎_elim
          (λ applies. sent_to (λ store. Apply own store (id_of n) moving.ballot moving.body s.t s.deps outcome) (stores_used cluster.layout moving.body) m
          (λ store. finished s (finish_phase cluster.layout (id_of n) before moving n s outcome hears) 3 (omega arith)) applies)
          (λ informs.
          ⊎_elim (λ none. absurd (none_is_in m none.1))
          (λ one. subst Reaches (sym (only m (Inform own (home_node (id_of n)) (id_of n) moving.ballot outcome) one.1))
          (finished s (finish_phase cluster.layout (id_of n) before moving n s outcome hears) 0 (omega arith)))
          (IsIn-cond_cases m (same_actor own (home_node (id_of n))) [] (Inform own (home_node (id_of n)) (id_of n) moving.ballot outcome ∷ []) informs))
          (IsIn-append_cases m (map (λ store. Apply own store (id_of n) moving.ballot moving.body s.t s.deps outcome) (stores_used cluster.layout moving.body))
          (inform own (id_of n) moving.ballot outcome) there)
      by_move moving (BlockBy by) hears is m there = absurd (none_is_in m there)
      by_move moving (EndBy by) hears is m there = absurd (none_is_in m there)

    taking_reached : (n : Message) → deed.act ≡ Takes n → (o : Option Attempt) → at_node a (id_of n) past ≡ o → (m : Message)
        → IsIn m (emitted_by (λ k. reaction cluster.layout own (id_of n) k n) o).out → ReachedIn a (id_of m) (request_rank m) deeds
    taking_reached n act_is None is m there = absurd (none_is_in m there)
    taking_reached n act_is (Some before) is m there =
        let r = hears_all cluster.layout own (id_of n) before n in
        by_move n act_is before is r.moving r.move r.hears r.is m (subst (λ (k : Reaction). IsIn m k.emitted.out) r.is there)

    told_reached : (n : Message) → deed.act ≡ Takes n → Told cluster.layout (node_of a) start past n → (m : Message)
        → IsIn m (on_taking cluster.layout (node_of a) start past n).out → ReachedIn a (id_of m) (request_rank m) deeds
    told_reached n act_is (Outcome_told from to id b o) m there = absurd (none_is_in m there)
    told_reached n act_is (Other_told k is) m there =
        taking_reached n act_is (at_node a (id_of n) past) refl m (subst (λ (e : Emitted). IsIn m e.out) is there)

    node_reached : (act : Act) → IsCalmAct act → deed.act ≡ act → (m : Message) → IsIn m (node_emits cluster.layout (node_of a) start past act).out
        → ReachedIn a (id_of m) (request_rank m) deeds
    node_reached (Begins txn body) c act_is m there =
        let one = IsIn-map (λ store. PreAccept own store (next_id (node_of a) start past) zero_ballot body) m (stores_used cluster.layout body) there in
        subst (λ k. ReachedIn a (id_of k) (request_rank k) deeds) (sym one.is) (begin_reached txn body act_is)
    node_reached (Takes n) c act_is m there = told_reached n act_is (told cluster.layout (node_of a) start past n) m there
    node_reached (Recovers x body) c act_is m there = absurd c
    node_reached (Slows x) c act_is m there = absurd c
    node_reached Restarts c act_is m there = absurd c

module _ (cluster : Cluster) (items : List Item) (h : EachStands cluster items) (calm : IsCalm items) (part : List Item) (within : IsPast part items) where
  abbrev Reached : Message → ℕ → Type 0
  Reached m r = ReachedIn cluster (home_of (id_of m) zero_ballot) (id_of m) r (deeds_of cluster (home_of (id_of m) zero_ballot) part)

  h_part : EachStands cluster part
  h_part = EachStands-past cluster part items within h

  request_from_node : (m : Message) → Sending part m → FromNode cluster part (from_of m) m → Reached m (request_rank m)
  request_from_node m s f =
      subst (λ a. ReachedIn cluster a (id_of m) (request_rank m) (deeds_of cluster a part))
      (homes_are_one cluster part h_part m s f.is_node ∙ ap (home_of (id_of m)) (all_zero cluster items h calm m (Sending-past part items m within s)))
      (node_reached cluster (from_of m) f.deed f.past (deeds_of cluster (from_of m) part) f.at f.deed.act
      (acts_are_calm cluster items h calm (from_of m) f.deed f.past
      (StandsAt-whole f.deed f.past (deeds_of cluster (from_of m) part) (deeds_of cluster (from_of m) items) f.at (deeds_of-past cluster (from_of m) part items within)))
      refl m
      (subst (λ (e : Emitted). IsIn m e.out)
      (emits_at cluster.layout (node_of (from_of m)) (clock_start cluster.starts (node_of (from_of m))) (deeds_of cluster (from_of m) part) f.deed f.past
      (each_emits cluster (from_of m) part h_part f.is_node) f.at) f.sent))

  pub request_reached : (m : Message) → Sending part m → is_request m ≡ true → Reached m (request_rank m)
  request_reached m s is = by (sender cluster part m h_part s)
    where
      by : Sender cluster part m → Reached m (request_rank m)
      by (IsNode f) = request_from_node m s f
      by (IsStore f) =
          absurd (true≢false (sym is ∙ store_asks_nothing cluster.layout (from_of m) f.past f.step.message m (store_sent cluster part (from_of m) m h_part f)))

  lower : (x : TxnId) (r : ℕ) → ReachedIn cluster (home_of x zero_ballot) x r (deeds_of cluster (home_of x zero_ballot) part)
      → ReachedIn cluster (home_of x zero_ballot) x 0 (deeds_of cluster (home_of x zero_ballot) part)
  lower x r k = record { past = k.past; within = k.within; attempt = k.attempt; is = k.is; high = omega arith }

  by_answer : (store : Actor) (step : Taken) (past : List Taken) (taken m : Message) → StandsAt step past (taken_of cluster store part) → step.message ≡ taken
      → Sending part taken → is_request taken ≡ true → is_answering m ≡ true → StoreSends cluster.layout store past taken m → Reached m (answer_rank m)
  by_answer store step past taken m at is sending asks answering (Votes from to x b body counting v s p k e) = request_reached taken sending refl
  by_answer store step past taken m at is sending asks answering (Accepts from to x b body counting t proposed deps s p k e) = request_reached taken sending refl
  by_answer store step past taken m at is sending asks answering (Commits from to x b body t deps s p) = request_reached taken sending refl
  by_answer store step past taken m at is sending asks answering (Reveals from to x b body counting view p k e) = absurd (true≢false (sym answering))
  by_answer store step past taken m at is sending asks answering (ReadsAtOnce from to x b body t deps answer p e) = request_reached taken sending refl
  by_answer store step past taken m at is sending asks answering (ReadsOnOpening n c b answer before among opens there e) =
      let k = opening_asked c.id b step past (subst (λ q. IsIn b (stable_ballots (taking q past) c.id)) (sym is) there) in
      request_reached (Stable k.from k.to c.id b k.body k.t k.deps)
      (subst (Sending part) k.message_is
      (step_sending cluster part h_part store k.step k.past
      (StandsAt-whole k.step k.past (step ∷ past) (taken_of cluster store part) k.at (StandsAt-IsPast step past (taken_of cluster store part) at)))) refl
  by_answer store step past taken m at is sending asks answering (Refuses n promised e) = absurd (true≢false (sym answering))
  by_answer store step past taken m at is sending asks answering (Tells n s e) = lower (id_of n) (request_rank n) (request_reached n sending asks)

  pub answer_reached : (m : Message) → Sending part m → is_answering m ≡ true → Reached m (answer_rank m)
  answer_reached m s is = by (sender cluster part m h_part s)
    where
      by : Sender cluster part m → Reached m (answer_rank m)
      by (IsNode f) =
          absurd (true≢false (sym is
          ∙ node_answers_nothing cluster.layout (node_of (from_of m)) (clock_start cluster.starts (node_of (from_of m))) f.past f.deed.act m (node_sent cluster part (from_of m) m h_part f)))
      by (IsStore f) =
          by_answer (from_of m) f.step f.past f.step.message m f.at refl (step_sending cluster part h_part (from_of m) f.step f.past f.at)
          (answers_requests cluster.layout (from_of m) f.past f.step.message m
          (subst (IsIn m) (answers_at cluster.layout (from_of m) (taken_of cluster (from_of m) part) f.step f.past (each_answers cluster (from_of m) part h_part f.is_store) f.at) f.sent))
          is (store_sent cluster part (from_of m) m h_part f)
