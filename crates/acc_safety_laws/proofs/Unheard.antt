-- A store that gave an answer about one transaction without naming a rival hadn't heard of the rival, and votes for it above.
use Rattle.std.proofs.Common.{◌≡◌, ℕ, true, false, cond, List, [], ◌∷◌, Option, None, Some, refl, sym, ◌∙◌, ap, subst}
use Rattle.std.proofs.lemmas.Bool.{true≢false}
use Rattle.acc_stamp.specs.declared.stamps.Stamp.{Stamp}
use Rattle.acc_stamp.specs.declared.stamps.TxnId.{TxnId}
use Rattle.acc_stamp.specs.declared.stamps.Ballot.{Ballot}
use Rattle.acc_stamp.specs.declared.actors.Actor.{Actor}
use Rattle.acc_stamp.specs.Actor.{shard_of}
use Rattle.acc_stamp.specs.Stamp.{stamp_lt}
use Rattle.acc_stamp.proofs.Order.{id_order, eq_itself}
use Rattle.acc_deps.specs.declared.shards.ShardDeps.{ShardDeps}
use Rattle.acc_deps.specs.declared.records.Accepted.{Accepted}
use Rattle.acc_deps.specs.Deps.{deps_has}
use Rattle.acc_txn.specs.declared.parts.BodyParts.{BodyParts}
use Rattle.acc_message.specs.declared.message.Message.{Message}
use Rattle.acc_message.specs.declared.message.Message.TheVariants.{Accept, AcceptOk}
use Rattle.acc_message.specs.declared.item.Item.{Item}
use Rattle.acc_message.specs.Fields.{from_of, to_of, id_of, ballot_of}
use Rattle.acc_message.specs.Shares.{conflict_in}
use Rattle.acc_message.specs.Taken.{Taken, body_known}
use Rattle.acc_message.specs.VoteRule.{Vote, vote_of, times_in, stamps_of}
use Rattle.acc_message.specs.Attempts.{deps_in_answer}
use Rattle.acc_message.specs.BallotRules.{is_accept_ok, accepted_of}
use Rattle.acc_message.specs.Run.{Cluster, taken_of, is_node, EachStands}
use Rattle.acc_actor_laws.proofs.OpeningFacts.{some_is}
use Rattle.acc_safety.specs.Places.{IsIn, First, StandsAt, IsPast}
use Rattle.acc_safety.specs.Histories.{Sending}
use Rattle.acc_safety.specs.Polls.{IsBody, IsAnswer, AreRivals}
use Rattle.acc_safety.specs.Roots.{Proposed}
use Rattle.acc_safety.specs.Statements.{OneProposal}
use Rattle.acc_safety.specs.StoreFactStatements.{VoteMade, IsKnownRival}
use Rattle.acc_safety.proofs.PlaceOrder.{StandsAt-IsPast, StandsAt-whole}
use Rattle.acc_safety.proofs.Bridge.{each_answers}
use Rattle.acc_safety.proofs.Frame.{bodies_are_begun}
use Rattle.acc_safety.proofs.StoreNotions.{votes_are_made, AcceptedIn, accepted_from}
use Rattle.acc_safety_laws.proofs.Knowing.{body_known-past, step_answers, step_sends}
use Rattle.acc_safety_laws.proofs.Sent.{SentAcceptOk, sent_accept_ok}
use Rattle.acc_safety_laws.proofs.Named.{votes_name_known, accepts_name_known}
use Rattle.acc_safety_laws.proofs.Late.{own_stamp_is_in, time_is_in, late_votes_above}
use Rattle.acc_safety_laws.proofs.Polled.{known_body, known_is_begun, step_taken}

-- an AcceptOk by its fields
pub accept_ok_is : (m : Message) → is_accept_ok m ≡ true → m ≡ AcceptOk (from_of m) (to_of m) (id_of m) (ballot_of m) (deps_in_answer m)
accept_ok_is (AcceptOk from to id ballot deps) h = refl
accept_ok_is _ h = absurd (true≢false (sym h))

module _ (cluster : Cluster) (items : List Item) (h : EachStands cluster items) where
  -- ---- what a store knows

  -- the body by which a transaction is known after a step of a store
  pub body_there : (a : Actor) (step : Taken) (past : List Taken) (x : TxnId) (known body : BodyParts) → StandsAt step past (taken_of cluster a items)
      → body_known (step ∷ past) x ≡ Some known → IsBody cluster items x body → known ≡ body
  body_there a step past x known body at e is =
      known_is_begun cluster items h (bodies_are_begun cluster items h) a x known body
      (body_known-past x known (step ∷ past) (taken_of cluster a items) e (StandsAt-IsPast step past (taken_of cluster a items) at)) is

  pub known_there : (a : Actor) (step : Taken) (past : List Taken) (x : TxnId) (known : BodyParts) → StandsAt step past (taken_of cluster a items)
      → body_known (step ∷ past) x ≡ Some known → IsBody cluster items x known
  known_there a step past x known at e =
      known_body cluster items h (bodies_are_begun cluster items h) a x known
      (body_known-past x known (step ∷ past) (taken_of cluster a items) e (StandsAt-IsPast step past (taken_of cluster a items) at))

  -- after some step of the store x is known and has the stamp, and y isn't known
  pub record Unheard (a : Actor) (x y : TxnId) (body : BodyParts) (s : Stamp) : Type 0 where
    pub step : Taken
    pub past : List Taken
    pub at : StandsAt step past (taken_of cluster a items)
    pub knows : body_known (step ∷ past) x ≡ Some body
    pub unknown : body_known (step ∷ past) y ≡ None
    pub stamp : IsIn s (stamps_of (step ∷ past) x)

  -- then it votes for y above the stamp
  pub votes_above : (a : Actor) (shard : ℕ) (x y : TxnId) (body theirs : BodyParts) (s : Stamp) (v : Vote) → is_node a ≡ false → shard_of a ≡ shard
      → AreRivals cluster items shard y x theirs body → Unheard a x y body s → stamp_lt s y.0 ≡ false
      → vote_of (taken_of cluster a items) y ≡ Some v → stamp_lt s v.vote ≡ true
  votes_above a shard x y body theirs s v store in_shard r u over voted =
      late_votes_above cluster.layout a u.step u.past (taken_of cluster a items) x y body theirs s v (each_answers cluster a items h store)
      u.at u.knows u.unknown u.stamp over
      (body_known-past y theirs (made.step ∷ made.past) (taken_of cluster a items)
      (made.body_is ∙ ap Some (body_there a made.step made.past y made.body theirs made.at made.body_is r.first_is))
      (StandsAt-IsPast made.step made.past (taken_of cluster a items) made.at))
      (ap (λ n. conflict_in cluster.layout n body theirs) in_shard ∙ r.conflict_back) voted
    where
      made : VoteMade cluster.layout a (taken_of cluster a items) y v
      made = votes_are_made cluster.layout a (taken_of cluster a items) (each_answers cluster a items h store) y v voted

  -- ---- a vote without y

  known_rival : (a : Actor) (shard : ℕ) (x y : TxnId) (body theirs known : BodyParts) (step : Taken) (past : List Taken)
      → StandsAt step past (taken_of cluster a items) → shard_of a ≡ shard → AreRivals cluster items shard y x theirs body
      → body_known (step ∷ past) y ≡ Some known → IsKnownRival cluster.layout a (step ∷ past) y theirs x body
  known_rival a shard x y body theirs known step past at in_shard r e =
      record {
        different = r.different;
        known = e ∙ ap Some (body_there a step past y known theirs at e r.first_is);
        conflict = ap (λ n. conflict_in cluster.layout n theirs body) in_shard ∙ r.conflict;
      }

  pub vote_unheard : (a : Actor) (shard : ℕ) (x y : TxnId) (body theirs : BodyParts) (v : Vote) → is_node a ≡ false → shard_of a ≡ shard
      → AreRivals cluster items shard y x theirs body → vote_of (taken_of cluster a items) x ≡ Some v → deps_has v.deps shard y ≡ false
      → stamp_lt y.0 x.0 ≡ true → Unheard a x y body x.0
  vote_unheard a shard x y body theirs v store in_shard r voted lacks below =
      record {
        step = made.step;
        past = made.past;
        at = made.at;
        knows = made.body_is ∙ ap Some same;
        unknown = none (body_known (made.step ∷ made.past) y) refl;
        stamp = own_stamp_is_in (made.step ∷ made.past) x;
      }
    where
      made : VoteMade cluster.layout a (taken_of cluster a items) x v
      made = votes_are_made cluster.layout a (taken_of cluster a items) (each_answers cluster a items h store) x v voted

      same : made.body ≡ body
      same = body_there a made.step made.past x made.body body made.at made.body_is r.second_is

      none : (o : Option BodyParts) → body_known (made.step ∷ made.past) y ≡ o → o ≡ None
      none None e = refl
      none (Some known) e =
          absurd
          (true≢false
          (sym (votes_name_known cluster.layout a (taken_of cluster a items) x y v theirs made
          (subst (λ z. IsKnownRival cluster.layout a (made.step ∷ made.past) y theirs x z) (sym same)
          (known_rival a shard x y body theirs known made.step made.past made.at in_shard r e)) below)
          ∙ ap (λ n. deps_has v.deps n y) in_shard ∙ lacks))

  -- ---- an AcceptOk without y

  -- what the answer accepted, by the step in which it was sent
  pub record AcceptedThere (a : Actor) (x : TxnId) (body : BodyParts) (b : Ballot) (t : Stamp) (deps : List ShardDeps) : Type 0 where
    pub step : Taken
    pub past : List Taken
    pub at : StandsAt step past (taken_of cluster a items)
    pub from : Actor
    pub to : Actor
    pub brought : BodyParts
    pub proposed : List ShardDeps
    pub message_is : step.message ≡ Accept from to x b brought t proposed
    pub to_node : Actor
    pub sent : IsIn (AcceptOk a to_node x b deps) step.sent
    pub knows : body_known (step ∷ past) x ≡ Some body
    pub answer : SentAcceptOk cluster.layout a past step.message x b deps

  pub accepted_there : OneProposal items → (x : TxnId) (body : BodyParts) (b : Ballot) (t : Stamp) (proposed : List ShardDeps) (m : Message)
      → IsBody cluster items x body → Proposed items x body b t proposed → IsAnswer cluster items x body b is_accept_ok m
      → AcceptedThere (from_of m) x body b t (deps_in_answer m)
  accepted_there one x body b t proposed m is p a =
      record {
        step = a.place.step;
        past = a.place.past;
        at = a.place.at;
        from = s.from;
        to = s.to;
        brought = s.body;
        proposed = s.proposed;
        message_is = s.message_is ∙ ap (λ z. Accept s.from s.to x b s.body z s.proposed) t_is;
        to_node = to_of m;
        sent = sent;
        knows = s.known ∙ ap Some (body_there (from_of m) a.place.step a.place.past x s.counting body a.place.at s.known is);
        answer = s;
      }
    where
      sent : IsIn (AcceptOk (from_of m) (to_of m) x b (deps_in_answer m)) a.place.step.sent
      sent =
          subst (λ z. IsIn z a.place.step.sent)
          (accept_ok_is m a.is
          ∙ ap (λ z. AcceptOk (from_of m) (to_of m) z (ballot_of m) (deps_in_answer m)) a.about
          ∙ ap (λ z. AcceptOk (from_of m) (to_of m) x z (deps_in_answer m)) a.of_ballot)
          a.place.sent

      s : SentAcceptOk cluster.layout (from_of m) a.place.past a.place.step.message x b (deps_in_answer m)
      s =
          sent_accept_ok cluster.layout (from_of m) a.place.past a.place.step.message (from_of m) (to_of m) x b (deps_in_answer m)
          (step_sends cluster.layout (from_of m) a.place.step a.place.past (AcceptOk (from_of m) (to_of m) x b (deps_in_answer m))
          (step_answers cluster.layout (from_of m) a.place.step a.place.past (taken_of cluster (from_of m) items)
          (each_answers cluster (from_of m) items h a.place.is_store) a.place.at)
          sent)

      t_is : s.t ≡ t
      t_is =
          (one x b s.body body s.t t s.proposed proposed
          (record {
            from = s.from;
            to = s.to;
            sending = subst (λ z. Sending items z) s.message_is (step_taken cluster items h (from_of m) a.place.step a.place.past a.place.at);
          })
          p).0

  accept_time : (x : TxnId) (from to : Actor) (b : Ballot) (body : BodyParts) (t : Stamp) (deps : List ShardDeps) → IsIn t (times_in x (Accept from to x b body t deps))
  accept_time x from to b body t deps = subst (λ c. IsIn t (cond c (t ∷ []) [])) (sym (eq_itself id_order x)) (First t [])

  pub accept_unknown : (a : Actor) (shard : ℕ) (x y : TxnId) (body theirs : BodyParts) (b : Ballot) (t : Stamp) (deps : List ShardDeps)
      → is_node a ≡ false → shard_of a ≡ shard → AreRivals cluster items shard y x theirs body → (s : AcceptedThere a x body b t deps)
      → deps_has deps shard y ≡ false → stamp_lt y.0 t ≡ true → body_known (s.step ∷ s.past) y ≡ None
  accept_unknown a shard x y body theirs b t deps store in_shard r s lacks below = none (body_known (s.step ∷ s.past) y) refl
    where
      none : (o : Option BodyParts) → body_known (s.step ∷ s.past) y ≡ o → o ≡ None
      none None e = refl
      none (Some known) e =
          absurd
          (true≢false
          (sym (accepts_name_known cluster.layout a s.step s.past (taken_of cluster a items) s.from s.to a s.to_node x y b s.brought body theirs t s.proposed deps
          (each_answers cluster a items h store) s.at s.message_is s.sent s.knows
          (known_rival a shard x y body theirs known s.step s.past s.at in_shard r e) below)
          ∙ ap (λ n. deps_has deps n y) in_shard ∙ lacks))

  pub accept_unheard : (a : Actor) (shard : ℕ) (x y : TxnId) (body theirs : BodyParts) (b : Ballot) (t : Stamp) (deps : List ShardDeps)
      → is_node a ≡ false → shard_of a ≡ shard → AreRivals cluster items shard y x theirs body → AcceptedThere a x body b t deps
      → deps_has deps shard y ≡ false → stamp_lt y.0 t ≡ true → Unheard a x y body t
  accept_unheard a shard x y body theirs b t deps store in_shard r s lacks below =
      record {
        step = s.step;
        past = s.past;
        at = s.at;
        knows = s.knows;
        unknown = accept_unknown a shard x y body theirs b t deps store in_shard r s lacks below;
        stamp =
            time_is_in (s.step ∷ s.past) x t s.step (First s.step s.past)
            (subst (λ m. IsIn t (times_in x m)) (sym s.message_is) (accept_time x s.from s.to b s.brought t s.proposed));
      }

  -- ---- an accepted record

  -- it says what was proposed at its ballot
  pub proposed_there : (a : Actor) (x : TxnId) (body : BodyParts) (past : List Taken) (found : Accepted) → IsBody cluster items x body
      → IsPast past (taken_of cluster a items) → accepted_of past x ≡ Some found → Proposed items x body found.ballot found.t found.deps
  proposed_there a x body past found is within found_is =
      record {
        from = i.from;
        to = i.to;
        sending =
            subst (λ z. Sending items (Accept i.from i.to x found.ballot z found.t found.deps))
            (some_is i.body body (sym (bodies_are_begun cluster items h (Accept i.from i.to x found.ballot i.body found.t found.deps) i.body sending refl) ∙ is))
            sending;
      }
    where
      i : AcceptedIn past x found
      i = accepted_from past x found found_is

      sending : Sending items (Accept i.from i.to x found.ballot i.body found.t found.deps)
      sending =
          subst (λ m. Sending items m) i.message_is
          (step_taken cluster items h a i.step i.past (StandsAt-whole i.step i.past past (taken_of cluster a items) i.at within))
