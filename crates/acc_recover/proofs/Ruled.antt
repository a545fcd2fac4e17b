-- What the ruling of a recovery is about, and what is answered then.
use Rattle.std.proofs.Common.{◌≡◌, ℕ, Bool, true, false, not, List, ◌∷◌, Result, Ok, Err, IfOk, refl, sym, ◌∙◌, ap, subst}
use Rattle.acc_base.specs.declared.memory.OutOfMemory.{OutOfMemory}
use Rattle.acc_stamp.specs.declared.stamps.TxnId.{TxnId}
use Rattle.acc_stamp.specs.declared.actors.Actor.{Actor}
use Rattle.acc_stamp.specs.declared.stamps.Ballot.{Ballot}
use Rattle.acc_stamp.specs.Stamp.{stamp_eq, ballot_eq}
use Rattle.acc_stamp.proofs.Order.{ballot_order}
use Rattle.std.proofs.lemmas.Bool.{true≢false}
use Rattle.acc_message.specs.Fields.{ballot_of}
use Rattle.acc_topology.specs.Layout.{Layout, IsLayout}
use Rattle.acc_quorum.specs.Answers.{Answer, majority_everywhere as majority_of}
use Rattle.acc_tally.specs.declared.tally.Tally.{Tally}
use Rattle.acc_tally.specs.Stands.{StandsFor as Counted, Counts, HasShards, answer_of}
use Rattle.acc_tally.proofs.Exist.{shards_of-exist}
use Rattle.acc_deps.specs.declared.records.View.{View}
use Rattle.acc_txn.specs.declared.parts.BodyParts.{BodyParts}
use Rattle.acc_txn.specs.Uses.{footprint_of}
use Rattle.acc_message.specs.declared.message.Message.{Message}
use Rattle.acc_message.specs.declared.message.Message.TheVariants.{RecoverOk}
use Rattle.acc_message.specs.Shares.{shards_used, is_store_of}
use Rattle.acc_message.specs.Attempts.{Attempt, plainly}
use Rattle.acc_message.specs.Coordinator.{Reaction}
use Rattle.acc_message.specs.RecoveryDecision.{Ruling, views_in, recovery_decision}
use Rattle.acc_recover.specs.declared.recovery.Recovery.{Recovery}
use Rattle.acc_recover.specs.declared.judged.Judged.{Judged}
use Rattle.acc_recover.specs.declared.judged.Judged.TheVariants.{Wait, Go as JudgedGo, Blocked, Ended}
use Rattle.acc_recover.specs.Rulings.{judged_of}
use Rattle.acc_recover.specs.Stands.{StandsFor, Judges, JudgesAs, WouldJudge, WouldJudgeAs}
use Rattle.acc_recover.proofs.Judging.{counted_now, waits_on, rules_now}

abbrev pub ToldBy : Layout → TxnId → Tally → List View → (Layout → TxnId → BodyParts → List Message → Ruling) → Judged → Type 0
ToldBy layout x tally views decision judged =
    (body : BodyParts) (answers : List Message) → Counted tally (shards_used layout body) (plainly x answers) → HasShards layout (shards_used layout body)
    → views_in answers ≡ views → judged ≡ judged_of (decision layout x body answers)

-- the recovery is asked with each answer that a store may send
abbrev pub JudgesAll : Layout → Recovery → Recovery → Actor → View → Judged → Type 0
JudgesAll layout r next store view judged =
    (x y : TxnId) (a : Attempt) (to : Actor) → StandsFor layout x r a → is_store_of layout r.body store ≡ true
    → Judges layout x next a (RecoverOk store to y r.ballot view) judged

abbrev pub CountsFirst : Recovery → Tally → Actor → Bool → View → Type 0
CountsFirst r new store unchanged view =
    (shards : List ℕ) (answers : List Answer) → Counted r.tally shards answers → Counts r.tally new shards answers (answer_of store unchanged view.vote view.vote_deps) true

abbrev pub TellsMajority : Layout → Tally → Bool → Type 0
TellsMajority layout new majority =
    (shards : List ℕ) (answers : List Answer) → HasShards layout shards → Counted new shards answers → majority ≡ majority_of layout shards answers

module _ (layout : Layout) (valid : IsLayout layout) (r : Recovery) (store : Actor) (view : View) (unchanged majority : Bool) (new : Tally) where
  exist : HasShards layout (shards_used layout r.body)
  exist = shards_of-exist layout valid (footprint_of r.body)

  pub rules_all : (result : Result Judged OutOfMemory) (next : Recovery) (earlier : List View) → earlier ≡ r.views
      → unchanged ≡ stamp_eq view.vote r.id.0 → CountsFirst r new store unchanged view → TellsMajority layout new majority → majority ≡ true
      → IfOk result (ToldBy layout r.id new (view ∷ earlier) recovery_decision)
      → IfOk result (JudgesAll layout r next store view)
  rules_all (Err e) next earlier same u g m holds told = told
  rules_all (Ok judged) next earlier same u g m holds told = λ x y a to s e.
      let now = counted_now layout x y r store to view a unchanged new s u g in
      rules_now layout x y r store to view next a unchanged new judged s e g
      (sym (m (shards_used layout r.body) _ exist now) ∙ holds)
      (subst (λ z. ToldBy layout z new (view ∷ earlier) recovery_decision judged) s.is_of told r.body (RecoverOk store to y r.ballot view ∷ a.answers) now exist
      (ap (λ z. view ∷ z) (sym s.views_are ∙ sym same)))

  pub waits_all : (views : List View) → unchanged ≡ stamp_eq view.vote r.id.0 → CountsFirst r new store unchanged view
      → TellsMajority layout new majority → majority ≡ false → views ≡ view ∷ r.views
      → JudgesAll layout r (record { id = r.id; ballot = r.ballot; body = r.body; shards = r.shards; tally = new; views = views }) store view Wait
  waits_all views u g m fails v = λ x y a to s e.
      let now = counted_now layout x y r store to view a unchanged new s u g in
      waits_on layout x y r store to view a unchanged new views s e u g v (sym (m (shards_used layout r.body) _ exist now) ∙ fails)

-- what the copy of a tally counts, by whether the answer was the first
pub counts_with : (old copy new : Tally) (a : Answer) (first b : Bool) → copy ≡ old → first ≡ b
    → ((shards : List ℕ) (answers : List Answer) → Counted copy shards answers → Counts copy new shards answers a first)
    → (shards : List ℕ) (answers : List Answer) → Counted old shards answers → Counts old new shards answers a b
counts_with old copy new a first b e f h =
    subst (λ z. (shards : List ℕ) (answers : List Answer) → Counted old shards answers → Counts old new shards answers a z) f
    (subst (λ z. (shards : List ℕ) (answers : List Answer) → Counted z shards answers → Counts z new shards answers a first) e h)

-- ---- what would be answered

pub would : (layout : Layout) (x : TxnId) (new : Recovery) (a : Attempt) (r : Reaction) (judged : Judged) → JudgesAs layout x new a r judged → WouldJudgeAs layout x a r judged
would layout x new a r Wait h = h.0
would layout x new a r (JudgedGo choice) h = h
would layout x new a r (Blocked by) h = h
would layout x new a r (Ended by) h = h

abbrev pub WouldJudgeAll : Layout → Recovery → Actor → View → Judged → Type 0
WouldJudgeAll layout r store view judged =
    (x y : TxnId) (a : Attempt) (to : Actor) → StandsFor layout x r a → is_store_of layout r.body store ≡ true
    → WouldJudge layout x a (RecoverOk store to y r.ballot view) judged

pub would_all : (layout : Layout) (r next : Recovery) (store : Actor) (view : View) (judged : Judged) → JudgesAll layout r next store view judged → WouldJudgeAll layout r store view judged
would_all layout r next store view judged h = λ x y a to s e. would layout x next a _ judged (h x y a to s e)

-- ---- a message that is a RecoverOk of the recovery's ballot

not_differs : (b : Bool) → not b ≡ false → b ≡ true
not_differs true h = refl
not_differs false h = absurd (true≢false h)

pub same_ballot : (a b : Ballot) (differs : Bool) → differs ≡ not (ballot_eq a b) → differs ≡ false → a ≡ b
same_ballot a b differs e f = (ballot_order.decides a b).0 (not_differs (ballot_eq a b) (sym e ∙ f))

pub for_message : (layout : Layout) (x y : TxnId) (r new : Recovery) (a : Attempt) (m : Message) (from to : Actor) (b : Ballot) (view : View) (judged : Judged)
    → m ≡ RecoverOk from to y b view → ballot_of m ≡ r.ballot → Judges layout x new a (RecoverOk from to y r.ballot view) judged → Judges layout x new a m judged
for_message layout x y r new a m from to b view judged is same h =
    let e : b ≡ r.ballot = sym (ap ballot_of is) ∙ same in
    subst (λ z. Judges layout x new a z judged) (sym (is ∙ ap (λ z. RecoverOk from to y z view) e)) h

pub would_for_message : (layout : Layout) (x y : TxnId) (r : Recovery) (a : Attempt) (m : Message) (from to : Actor) (b : Ballot) (view : View) (judged : Judged)
    → m ≡ RecoverOk from to y b view → ballot_of m ≡ r.ballot → WouldJudge layout x a (RecoverOk from to y r.ballot view) judged → WouldJudge layout x a m judged
would_for_message layout x y r a m from to b view judged is same h =
    let e : b ≡ r.ballot = sym (ap ballot_of is) ∙ same in
    subst (λ z. WouldJudge layout x a z judged) (sym (is ∙ ap (λ z. RecoverOk from to y z view) e)) h
