-- What is sent on a Stable or an Apply are answers to reads, which grant nothing and have no vote.
use Rattle.std.proofs.Common.{◌≡◌, ℕ, true, false, max, List, [], ◌∷◌, Option, None, map, refl, sym, ◌∙◌, ap}
use Rattle.std.specs.List.{AllByRecursion}
use Rattle.std.proofs.lemmas.Bool.{true≢false, cond_both}
use Rattle.acc_base.specs.Faults.{or_else}
use Rattle.acc_stamp.specs.declared.stamps.TxnId.{TxnId}
use Rattle.acc_stamp.specs.declared.stamps.Ballot.{Ballot}
use Rattle.acc_stamp.specs.declared.actors.Actor.{Actor}
use Rattle.acc_stamp.specs.Actor.{shard_of}
use Rattle.acc_stamp.proofs.Rising.{each_append}
use Rattle.acc_topology.specs.Layout.{Layout}
use Rattle.acc_value.specs.declared.key.Key.{Key}
use Rattle.acc_value.specs.declared.value.Value.{Value}
use Rattle.acc_message.specs.declared.answer.ReadAnswer.{ReadAnswer}
use Rattle.acc_message.specs.declared.message.Message.{Message}
use Rattle.acc_message.specs.declared.message.Message.TheVariants.{Stable, Apply}
use Rattle.acc_message.specs.Taken.{Taken, taking, known, heard_body}
use Rattle.acc_message.specs.VoteRule.{first_vote, vote_in, drawn_in, greatest_drawn}
use Rattle.acc_message.specs.BallotRules.{grants, accepted_by, committed_by}
use Rattle.acc_message.specs.Opening.{Change, may_open, changes_of, is_opened, cells_at, written_by}
use Rattle.acc_message.specs.StoreRules.{read_ok, read_by, stable_ballots, opening_of, release, released, at_once, store_answer}

-- a message without a vote
pub record IsRead (m : Message) : Type 0 where
  pub no_vote : (x : TxnId) → vote_in x m ≡ None
  pub undrawn : (origin : ℕ) → drawn_in origin m ≡ 0

abbrev pub AreReads : List Message → Type 0
AreReads sent = AllByRecursion IsRead sent

is_read : (own : Actor) (x : TxnId) (b : Ballot) (answer : ReadAnswer) → IsRead (read_ok own x b answer)
is_read own x b answer = record { no_vote = λ y. refl; undrawn = λ origin. refl }

each_read : (own : Actor) (x : TxnId) (answer : ReadAnswer) (bs : List Ballot) → AreReads (map (λ b. read_ok own x b answer) bs)
each_read own x answer [] = tt
each_read own x answer (b ∷ bs) = (is_read own x b answer, each_read own x answer bs)

module _ (layout : Layout) (own : Actor) where
  reads_opening : (now : List Taken) (c : Change) (cells : Key → Option Value) → AreReads (opening_of layout own now c cells)
  reads_opening now c cells =
      cond_both c.opens _ [] AreReads
      (λ _. each_read own c.id (read_by layout (shard_of own) (heard_body c.id (known now)) cells) (stable_ballots now c.id))
      (λ _. tt)

  reads_release : (now : List Taken) (changes : List Change) (cells : Key → Option Value) → AreReads (release layout own now changes cells)
  reads_release now [] cells = tt
  reads_release now (c ∷ changes) cells =
      each_append IsRead (opening_of layout own now c cells) (release layout own now changes (written_by layout (shard_of own) now c cells))
      (reads_opening now c cells) (reads_release now changes (written_by layout (shard_of own) now c cells))

  reads_released : (past : List Taken) (m : Message) → AreReads (released layout own past m)
  reads_released past m =
      reads_release (taking m past) (changes_of (shard_of own) (record { message = m; sent = [] }) past) (cells_at layout (shard_of own) past)

  pub reads_answered : (past : List Taken) (m : Message) → may_open m ≡ true → AreReads (store_answer layout own past m)
  reads_answered past (Stable from to id ballot body t deps) h =
      each_append IsRead (at_once layout own past id ballot) (released layout own past (Stable from to id ballot body t deps))
      (cond_both (is_opened (shard_of own) past id) _ [] AreReads (λ _. (is_read own id ballot _, tt)) (λ _. tt))
      (reads_released past (Stable from to id ballot body t deps))
  reads_answered past (Apply from to id ballot body t deps outcome) h = reads_released past (Apply from to id ballot body t deps outcome)
  reads_answered past _ h = absurd (true≢false (sym h))

pub reads_vote : (x : TxnId) (sent : List Message) → AreReads sent → first_vote x sent ≡ None
reads_vote x [] h = refl
reads_vote x (m ∷ ms) h = ap (λ o. or_else o (first_vote x ms)) (h.0.no_vote x) ∙ reads_vote x ms h.1

pub reads_drawn : (origin : ℕ) (sent : List Message) → AreReads sent → greatest_drawn origin sent ≡ 0
reads_drawn origin [] h = refl
reads_drawn origin (m ∷ ms) h = ap (λ n. max n (greatest_drawn origin ms)) (h.0.undrawn origin) ∙ ap (max 0) (reads_drawn origin ms h.1)

pub opening_grants : (x : TxnId) (m : Message) (sent : List Message) → may_open m ≡ true → grants x m sent ≡ false
opening_grants x (Stable from to id ballot body t deps) sent h = refl
opening_grants x (Apply from to id ballot body t deps outcome) sent h = refl
opening_grants x _ sent h = absurd (true≢false (sym h))

pub opening_accepts : (x : TxnId) (m : Message) (sent : List Message) → may_open m ≡ true → accepted_by x m sent ≡ None
opening_accepts x (Stable from to id ballot body t deps) sent h = refl
opening_accepts x (Apply from to id ballot body t deps outcome) sent h = refl
opening_accepts x _ sent h = absurd (true≢false (sym h))

pub opening_commits : (x : TxnId) (m : Message) (sent : List Message) → may_open m ≡ true → committed_by x m sent ≡ None
opening_commits x (Stable from to id ballot body t deps) sent h = refl
opening_commits x (Apply from to id ballot body t deps outcome) sent h = refl
opening_commits x _ sent h = absurd (true≢false (sym h))
