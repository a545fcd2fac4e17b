-- What the laws of healings say.
use Rattle.std.specs.Prelude.{◌≡◌, ◌≤◌, Bool, true, false, not, ◌&&◌, List, [], ◌++◌, length, is_some, filter}
use Rattle.std.specs.List.{list_any, AllByRecursion}
use Rattle.acc_stamp.specs.declared.stamps.TxnId.{TxnId}
use Rattle.acc_stamp.specs.declared.stamps.Ballot.{Ballot}
use Rattle.acc_stamp.specs.declared.actors.Actor.{Actor}
use Rattle.acc_stamp.specs.Actor.{shard_of}
use Rattle.acc_stamp.specs.Stamp.{id_eq, id_lt}
use Rattle.acc_message.specs.declared.note.Note.{Note}
use Rattle.acc_message.specs.declared.note.Note.TheVariants.{Recover as RecoverNote}
use Rattle.acc_message.specs.declared.item.Item.{Item}
use Rattle.acc_message.specs.declared.item.Item.TheVariants.{Step, Skipped, Down}
use Rattle.acc_message.specs.Items.{notes_of}
use Rattle.acc_message.specs.BallotRules.{stable_of}
use Rattle.acc_message.specs.Opening.{is_applied}
use Rattle.acc_message.specs.Coordinator.{home_node}
use Rattle.acc_message.specs.Run.{Cluster, IsRun, taken_of}
use Rattle.acc_schedule.specs.declared.plan.Step.{Step as PlanStep}
use Rattle.acc_schedule.specs.Content.{Content}
use Rattle.acc_schedule.specs.Plan.{IsPlan}
use Rattle.acc_schedule_runs.specs.Situations.{Situation, opened}
use Rattle.acc_schedule_runs.specs.Moves.{Answers}
use Rattle.acc_schedule_runs.specs.Schedules.{Follows, cluster_of}
use Rattle.acc_schedule_runs.specs.Laws.{NobodyIsDown, NothingIsLost}
use Rattle.acc_safety.specs.Valid.{IsStanding}
use Rattle.acc_delivered.specs.Rounds.{IsRound}
use Rattle.acc_delivered.specs.Ends.{AtEachStore, has_opened, is_blocked, KeepsClient, is_replied}
use Rattle.acc_heal_laws.specs.Healed.{IsHealed, TellsEach, was_begun}
use Rattle.acc_schedule_runs.specs.StrictMoves.{StrictSituation, opened_strictly}
use Rattle.acc_schedule_runs.specs.StrictSchedules.{FollowsStrictly}
use Rattle.acc_heal_laws.specs.Healings.{IsHealing, IsStrictHealing}
use Rattle.acc_heal_laws.specs.Turned.{EachTookApply, Turned, HasTurned}
use Rattle.acc_heal_laws.specs.Stages.{begun_ids}

-- ---- lemmas, of which the theorem is made

-- x is stable at each of its stores
abbrev pub IsStableEverywhere : Cluster → List Item → TxnId → Type 0
IsStableEverywhere cluster items x = AtEachStore cluster items x (λ store. is_some (stable_of (taken_of cluster store items) x) ≡ true)

abbrev pub IsAppliedEverywhere : Cluster → List Item → TxnId → Type 0
IsAppliedEverywhere cluster items x =
    AtEachStore cluster items x (λ store. is_applied (shard_of store) (taken_of cluster store items) x ≡ true)

abbrev pub IsOpenedEverywhere : Cluster → List Item → TxnId → Type 0
IsOpenedEverywhere cluster items x = AtEachStore cluster items x (λ store. has_opened cluster items x store ≡ true)

-- a fact of every transaction that was begun
abbrev pub OfEachBegun : List Item → (TxnId → Type 0) → Type 0
OfEachBegun items Fact = (x : TxnId) → was_begun x items ≡ true → Fact x

-- when the base ended the transaction was stable at each of its stores
abbrev pub WasStable : Cluster → List Item → List Item → TxnId → Type 0
WasStable cluster base items x = AtEachStore cluster items x (λ store. is_some (stable_of (taken_of cluster store base) x) ≡ true)

-- a round of x isn't blocked where each older transaction was stable at its stores
abbrev pub RoundsAreNotBlocked : Cluster → Type 0
RoundsAreNotBlocked cluster =
    (a : Actor) (x : TxnId) (b : Ballot) (base later : List Item) → IsStanding cluster (later ++ base) → IsRound a x b base later
    → OfEachBegun (later ++ base) (λ y. id_lt y x ≡ true → WasStable cluster base (later ++ base) y)
    → is_blocked x b (later ++ base) ≡ false

-- where each transaction is stable at its stores, and these take its Apply once they have all opened it, it is applied at each
abbrev pub StableIsApplied : Cluster → Type 0
StableIsApplied cluster =
    (items : List Item) → IsStanding cluster items → OfEachBegun items (IsStableEverywhere cluster items)
    → OfEachBegun items (λ x. IsOpenedEverywhere cluster items x → EachTookApply cluster items x)
    → OfEachBegun items (IsAppliedEverywhere cluster items)

-- items are healed where each transaction has had its turn
abbrev pub TurnedIsHealed : Cluster → Type 0
TurnedIsHealed cluster =
    (items base : List Item) → IsStanding cluster items → Turned cluster items (begun_ids base) base → IsHealed cluster items

-- ---- healings

-- A plan's healing with the items that it adds, of which none is a down.
pub record IsHealingWithoutDowns (plan : Content) (answers : Answers) (steps : List PlanStep) (between last : Situation) : Type 0 where
  pub is_plan : IsPlan plan
  pub healing : IsHealing plan answers steps between last
  pub later : List Item
  pub items_are : last.own ≡ later ++ between.own
  pub nobody_down : NobodyIsDown later

-- its turns are those of every begun transaction
abbrev pub HealingTurns : Type 0
HealingTurns =
    (plan : Content) (answers : Answers) (steps : List PlanStep) (between last : Situation)
    → IsHealingWithoutDowns plan answers steps between last → HasTurned (cluster_of plan) between.own last.own

-- over any disks the items after a healing are healed, where none after the plan's own is a down
abbrev pub HealingHeals : Type 0
HealingHeals =
    (plan : Content) (answers : Answers) (steps : List PlanStep) (between last : Situation)
    → IsHealingWithoutDowns plan answers steps between last → IsHealed (cluster_of plan) last.own

-- the notes of healed items tell of each transaction that they begin
abbrev pub HealedItemsTell : Type 0
HealedItemsTell = (cluster : Cluster) (items : List Item) → IsHealed cluster items → TellsEach (notes_of items)

-- the plan and the answers fix a healing, and over strict disks the plan alone
abbrev pub OneHealing : Type 0
OneHealing =
    (plan : Content) (answers : Answers) (steps others : List PlanStep) (between other last end : Situation)
    → IsHealing plan answers steps between last → IsHealing plan answers others other end
    → (steps ≡ others) × (between ≡ other) × (last ≡ end)

abbrev pub OneStrictHealing : Type 0
OneStrictHealing =
    (plan : Content) (steps others : List PlanStep) (between other last end : StrictSituation)
    → IsStrictHealing plan steps between last → IsStrictHealing plan others other end
    → (steps ≡ others) × (between ≡ other) × (last ≡ end)

-- The items before a healing are the oldest of those after it, which are one run, and the plan's steps and those of the healing are one
-- schedule.
pub record GoesOn (plan : Content) (answers : Answers) (steps : List PlanStep) (between last : Situation) : Type 0 where
  pub run : IsRun (cluster_of plan) last.own
  pub later : List Item
  pub items_are : last.own ≡ later ++ between.own
  pub follows : Follows (cluster_of plan) answers 0 (plan.steps ++ steps) (opened []) last

abbrev pub HealingGoesOn : Type 0
HealingGoesOn =
    (plan : Content) (answers : Answers) (steps : List PlanStep) (between last : Situation)
    → IsPlan plan → IsHealing plan answers steps between last → GoesOn plan answers steps between last

-- a healing over strict disks is one with some answers of the disks
abbrev pub StrictHealingsAreAnswered : Type 0
StrictHealingsAreAnswered =
    (plan : Content) (steps : List PlanStep) (between last : StrictSituation)
    → IsStrictHealing plan steps between last → (answers : Answers) × IsHealing plan answers steps between.found last.found

-- and the plan's steps and those of the healing are one schedule over strict disks
abbrev pub StrictHealingGoesOn : Type 0
StrictHealingGoesOn =
    (plan : Content) (steps : List PlanStep) (between last : StrictSituation)
    → IsStrictHealing plan steps between last → FollowsStrictly (cluster_of plan) 0 (plan.steps ++ steps) (opened_strictly []) last

-- ---- recovers

abbrev pub recovers_it : TxnId → Note → Bool
recovers_it x (RecoverNote id ballot) = id_eq id x
recovers_it x _ = false

-- an entry that recovers x and isn't lost: a lost one was begun before the healing and kept by a journal
abbrev pub is_recover_of : TxnId → Item → Bool
is_recover_of x (Step e) = not e.lost && list_any (recovers_it x) e.emitted.notes
is_recover_of x (Skipped step cause) = false
is_recover_of x (Down actor) = false

abbrev pub is_at_home : TxnId → Item → Type 0
is_at_home x (Step e) = e.actor ≡ home_node x
is_at_home x (Skipped step cause) = ⊥
is_at_home x (Down actor) = ⊥

-- the items recover x at most twice, each time at the node of its id
pub record RecoversTwiceAtMost (x : TxnId) (items : List Item) : Type 0 where
  pub few : length (filter (is_recover_of x) items) ≤ 2
  pub at_home : AllByRecursion (is_at_home x) (filter (is_recover_of x) items)

-- After the plan's items each transaction is recovered at most twice, beside recovers that a fault had stopped and that a journal kept.
abbrev pub HealingRecoversTwiceAtMost : Type 0
HealingRecoversTwiceAtMost =
    (plan : Content) (answers : Answers) (steps : List PlanStep) (between last : Situation) (later : List Item)
    → IsPlan plan → IsHealing plan answers steps between last → last.own ≡ later ++ between.own
    → (x : TxnId) → RecoversTwiceAtMost x later

-- ---- clients

-- After a healing a transaction that one of its turns recovers has its reply, where its client is kept.
abbrev pub WhoWaitsIsAnswered : Type 0
WhoWaitsIsAnswered =
    (plan : Content) (answers : Answers) (steps : List PlanStep) (between last : Situation)
    → (h : IsHealingWithoutDowns plan answers steps between last) (x : TxnId)
    → list_any (is_recover_of x) h.later ≡ true → KeepsClient x last.own → is_replied x last.own ≡ true

-- ---- strict disks

-- Over strict disks nobody goes down in a healing and no entry is lost, so the items after it are healed.
pub record HealsStrictly (plan : Content) (between last : StrictSituation) : Type 0 where
  pub later : List Item
  pub items_are : last.found.own ≡ later ++ between.found.own
  pub nobody_down : NobodyIsDown later
  pub nothing_lost : NothingIsLost later
  pub healed : IsHealed (cluster_of plan) last.found.own

abbrev pub StrictDisksHeal : Type 0
StrictDisksHeal =
    (plan : Content) (steps : List PlanStep) (between last : StrictSituation)
    → IsPlan plan → IsStrictHealing plan steps between last → HealsStrictly plan between last
