-- What an answer of a poll tells of the store that sent it.
use Rattle.std.proofs.Common.{◌≡◌, ℕ, Bool, true, false, cond, List, [], ◌∷◌, Option, None, Some, refl, sym, ◌∙◌, ap, subst}
use Rattle.std.specs.List.{AllByRecursion}
use Rattle.std.proofs.lemmas.Bool.{true≢false, false_from_ne_true}
use Rattle.acc_stamp.specs.declared.stamps.TxnId.{TxnId}
use Rattle.acc_stamp.specs.declared.stamps.Ballot.{Ballot}
use Rattle.acc_stamp.specs.declared.actors.Actor.{Actor}
use Rattle.acc_stamp.specs.Stamp.{id_eq, stamp_lt}
use Rattle.acc_stamp.proofs.Order.{id_order, eq_itself}
use Rattle.acc_deps.specs.Deps.{AreDeps, deps_has}
use Rattle.acc_deps.proofs.ByShard.{AreDeps-nil}
use Rattle.acc_quorum.specs.Answers.{Answer}
use Rattle.acc_quorum.proofs.Together.{greatest-above, union_of-has, AreDeps-union_of}
use Rattle.acc_txn.specs.declared.parts.BodyParts.{BodyParts}
use Rattle.acc_message.specs.declared.message.Message.{Message}
use Rattle.acc_message.specs.declared.message.Message.TheVariants.{PreAcceptOk, AcceptOk, RecoverOk}
use Rattle.acc_message.specs.declared.item.Item.{Item}
use Rattle.acc_message.specs.declared.item.Item.TheVariants.{Step}
use Rattle.acc_message.specs.Fields.{from_of, id_of}
use Rattle.acc_message.specs.Taken.{Taken, body_known}
use Rattle.acc_message.specs.VoteRule.{Vote, vote_in, vote_of}
use Rattle.acc_message.specs.Attempts.{is_preaccept_ok, vote_in_answer, deps_in_answer, plain, plainly, greatest_vote, union_of}
use Rattle.acc_message.specs.BallotRules.{is_recover_ok}
use Rattle.acc_message.specs.Run.{Cluster, taken_of, EachStands}
use Rattle.acc_actor_laws.proofs.Standing.{not_none}
use Rattle.acc_actor_laws.proofs.OpeningFacts.{some_is}
use Rattle.acc_safety.specs.Places.{IsIn, StandsAt, Here, Back}
use Rattle.acc_safety.specs.Histories.{Sending, FromStore}
use Rattle.acc_safety.specs.Polls.{IsBody, IsAnswer, AreAnswers}
use Rattle.acc_safety.specs.Statements.{BodiesAreBegun, DepsAreSets}
use Rattle.acc_safety.proofs.PlaceOrder.{IsIn-Contains, map-IsIn, IsIn-map, each_from, StandsAt-IsPast, IsPast-rest}
use Rattle.acc_safety.proofs.Bridge.{each_answers, store_step, Sending-past}
use Rattle.acc_safety_laws.proofs.Knowing.{Learns, body_known-new, body_known-stays}
use Rattle.acc_safety_laws.proofs.VoteFacts.{votes_once}

-- ---- the vote that an answer says

abbrev pub vote_said : Message → Vote
vote_said m = record { vote = vote_in_answer m; deps = deps_in_answer m }

-- answers of this kind have votes
abbrev pub HaveVotes : (Message → Bool) → Type 0
HaveVotes kind = (m : Message) → kind m ≡ true → vote_in (id_of m) m ≡ Some (vote_said m)

said_itself : (x : TxnId) (v : Vote) → cond (id_eq x x) (Some v) None ≡ Some v
said_itself x v = ap (λ b. cond b (Some v) None) (eq_itself id_order x)

pub preaccept_oks_vote : HaveVotes is_preaccept_ok
preaccept_oks_vote (PreAcceptOk from to id ballot vote deps) h = said_itself id (record { vote = vote; deps = deps })
preaccept_oks_vote _ h = absurd (true≢false (sym h))

pub recover_oks_vote : HaveVotes is_recover_ok
recover_oks_vote (RecoverOk from to id ballot view) h = said_itself id (record { vote = view.vote; deps = view.vote_deps })
recover_oks_vote _ h = absurd (true≢false (sym h))

-- ---- what the answers say together

-- the greatest vote isn't below the vote of an answer
pub greatest_vote-above : (x : TxnId) (answers : List Message) (m : Message) → IsIn m answers → stamp_lt (greatest_vote x answers) (vote_in_answer m) ≡ false
greatest_vote-above x answers m there =
    greatest-above (plainly x answers) (plain x m) (IsIn-Contains (plain x m) (plainly x answers) (map-IsIn (plain x) m answers there))

-- the step in which a transaction became known
pub record LearntIn (history : List Taken) (x : TxnId) (body : BodyParts) : Type 0 where
  pub step : Taken
  pub past : List Taken
  pub at : StandsAt step past history
  pub learns : Learns step.message x body

pub learnt_in : (x : TxnId) (body : BodyParts) (history : List Taken) → body_known history x ≡ Some body → LearntIn history x body
learnt_in x body [] e = absurd (not_none body e)
learnt_in x body (step ∷ past) e = by (body_known past x) refl (λ b known. learnt_in x b past known)
  where
    by : (o : Option BodyParts) → body_known past x ≡ o → ((b : BodyParts) → body_known past x ≡ Some b → LearntIn past x b) → LearntIn (step ∷ past) x body
    by None unknown rest = record { step = step; past = past; at = Here step past; learns = body_known-new step past x body unknown e }
    by (Some b) known rest =
        let l = rest b known in
        let same : b ≡ body = some_is b body (sym (body_known-stays step past x b known) ∙ e) in
        record {
          step = l.step;
          past = l.past;
          at = Back l.step step l.past past l.at;
          learns = subst (Learns l.step.message x) same l.learns;
        }

module _ (cluster : Cluster) (items : List Item) (h : EachStands cluster items) where
  pub store_sent : (a : Actor) (m : Message) → FromStore cluster items a m → Sending items m
  store_sent a m f =
      let s = store_step cluster a items h f.step f.past f.at in
      record { entry = s.entry; earlier = s.earlier; at = s.at; sent = subst (IsIn m) (sym s.out_is) f.sent }

  -- the one vote of its store
  pub answer_votes : (x : TxnId) (body : BodyParts) (b : Ballot) (kind : Message → Bool) (m : Message) → HaveVotes kind
      → IsAnswer cluster items x body b kind m → vote_of (taken_of cluster (from_of m) items) x ≡ Some (vote_said m)
  answer_votes x body b kind m have a =
      votes_once cluster.layout (from_of m) a.place.step a.place.past (taken_of cluster (from_of m) items) m x (vote_said m)
      (each_answers cluster (from_of m) items h a.place.is_store) a.place.at a.place.sent
      (ap (λ z. vote_in z m) (sym a.about) ∙ have m a.is)

  -- the message that a store took in a step
  pub step_taken : (a : Actor) (step : Taken) (past : List Taken) → StandsAt step past (taken_of cluster a items) → Sending items step.message
  step_taken a step past at =
      let s = store_step cluster a items h step past at in
      Sending-past s.earlier items step.message (IsPast-rest (Step s.entry) s.earlier items (StandsAt-IsPast (Step s.entry) s.earlier items s.at)) s.sending

  -- the body by which a store knows a transaction is the begun one
  pub known_body : BodiesAreBegun cluster items → (a : Actor) (x : TxnId) (known : BodyParts) → body_known (taken_of cluster a items) x ≡ Some known
      → IsBody cluster items x known
  known_body begun a x known e =
      let l = learnt_in x known (taken_of cluster a items) e in
      subst (λ z. IsBody cluster items z known) l.learns.about (begun l.step.message known (step_taken a l.step l.past l.at) l.learns.brings)

  pub known_is_begun : BodiesAreBegun cluster items → (a : Actor) (x : TxnId) (known body : BodyParts)
      → body_known (taken_of cluster a items) x ≡ Some known → IsBody cluster items x body → known ≡ body
  known_is_begun begun a x known body e is = some_is known body (sym (known_body begun a x known e) ∙ is)

  -- ---- the dependencies of answers

  answer_deps : DepsAreSets items → (m : Message) → Sending items m → AreDeps (deps_in_answer m)
  answer_deps sets (PreAcceptOk from to id ballot vote deps) s = (sets.messages (PreAcceptOk from to id ballot vote deps) s).0
  answer_deps sets (AcceptOk from to id ballot deps) s = (sets.messages (AcceptOk from to id ballot deps) s).0
  answer_deps sets (RecoverOk from to id ballot view) s = (sets.messages (RecoverOk from to id ballot view) s).0
  answer_deps sets _ s = AreDeps-nil

  answers_deps : DepsAreSets items → (x : TxnId) (body : BodyParts) (b : Ballot) (kind : Message → Bool) (answers : List Message)
      → AreAnswers cluster items x body b kind answers → AllByRecursion (λ (a : Answer). AreDeps a.deps) (plainly x answers)
  answers_deps sets x body b kind answers are =
      each_from (λ (a : Answer). AreDeps a.deps) (plainly x answers)
      (λ a there.
      let from = IsIn-map (plain x) a answers there in
      subst (λ (z : Answer). AreDeps z.deps) (sym from.is)
      (answer_deps sets from.source (store_sent (from_of from.source) from.source (are from.source from.there).place)))

  pub answers_union : DepsAreSets items → (x : TxnId) (body : BodyParts) (b : Ballot) (kind : Message → Bool) (answers : List Message)
      → AreAnswers cluster items x body b kind answers → AreDeps (union_of x answers)
  answers_union sets x body b kind answers are = AreDeps-union_of (plainly x answers) (answers_deps sets x body b kind answers are)

  -- what the union lacks each answer lacks
  pub answer_lacks : DepsAreSets items → (x y : TxnId) (body : BodyParts) (b : Ballot) (kind : Message → Bool) (answers : List Message) (m : Message) (shard : ℕ)
      → AreAnswers cluster items x body b kind answers → IsIn m answers → deps_has (union_of x answers) shard y ≡ false
      → deps_has (deps_in_answer m) shard y ≡ false
  answer_lacks sets x y body b kind answers m shard are there lacks =
      false_from_ne_true (deps_has (deps_in_answer m) shard y)
      (λ has.
      true≢false
      (sym (union_of-has (plainly x answers) (plain x m) shard y (answers_deps sets x body b kind answers are)
      (IsIn-Contains (plain x m) (plainly x answers) (map-IsIn (plain x) m answers there)) has)
      ∙ lacks))
