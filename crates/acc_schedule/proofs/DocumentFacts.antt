-- The rules of a document, one after another.
use Rattle.std.proofs.Common.{◌≡◌, ℕ, List, None, Result, Ok, Err, sym, ap, subst, ◌∙◌}
use Rattle.acc_stamp.specs.declared.actors.Actor.{Actor}
use Rattle.acc_topology.specs.Layout.{Layout}
use Rattle.acc_topology.specs.Sets.{in_set, is_among}
use Rattle.acc_schedule.specs.declared.cast.Cast.{Cast as Held}
use Rattle.serde_json.specs.Data.{Data}
use Rattle.acc_schedule.specs.declared.plan.Step.{Step}
use Rattle.acc_schedule.specs.Actors.{actor_named, actors, at_name}
use Rattle.acc_schedule.specs.Seen.{seen}
use Rattle.acc_schedule.specs.Steps.{Cast, cast_in, schedule_fault, steps_of}
use Rattle.acc_schedule.specs.declared.error.PlanError.{PlanError}
use Rattle.acc_base.specs.Faults.{◌then◌}
use Rattle.acc_base.proofs.Faults.{both_none}
use Rattle.acc_schedule.specs.Faults.{Fault, Gives, IsFault}
use Rattle.acc_schedule.proofs.EachFacts.{before, behind}

-- a fault of the first, second, .. of five rules
module _ (a b c d f : Fault) (e : PlanError) where
  pub first_of_five : IsFault a e → IsFault (a then b then c then d then f) e
  first_of_five h = before (a then b then c then d) f e (before (a then b then c) d e (before (a then b) c e (before a b e h)))

  pub second_of_five : a ≡ None → IsFault b e → IsFault (a then b then c then d then f) e
  second_of_five n h = before (a then b then c then d) f e (before (a then b then c) d e (before (a then b) c e (behind a b e n h)))

  pub third_of_five : a ≡ None → b ≡ None → IsFault c e → IsFault (a then b then c then d then f) e
  third_of_five n m h = before (a then b then c then d) f e (before (a then b then c) d e (behind (a then b) c e (both_none a b n m) h))

  pub fourth_of_five : a ≡ None → b ≡ None → c ≡ None → IsFault d e → IsFault (a then b then c then d then f) e
  fourth_of_five n m k h = before (a then b then c then d) f e (behind (a then b then c) d e (both_none (a then b) c (both_none a b n m) k) h)

  pub fifth_of_five : a ≡ None → b ≡ None → c ≡ None → d ≡ None → IsFault f e → IsFault (a then b then c then d then f) e
  fifth_of_five n m k l h = behind (a then b then c then d) f e (both_none (a then b then c) d (both_none (a then b) c (both_none a b n m) k) l) h

pub none_of_five : (a b c d f : Fault) → a ≡ None → b ≡ None → c ≡ None → d ≡ None → f ≡ None → (a then b then c then d then f) ≡ None
none_of_five a b c d f n m k l j = both_none (a then b then c then d) f (both_none (a then b then c) d (both_none (a then b) c (both_none a b n m) k) l) j

-- of three rules
module _ (a b c : Fault) (e : PlanError) where
  pub first_of_three : IsFault a e → IsFault (a then b then c) e
  first_of_three h = before (a then b) c e (before a b e h)

  pub second_of_three : a ≡ None → IsFault b e → IsFault (a then b then c) e
  second_of_three n h = before (a then b) c e (behind a b e n h)

  pub third_of_three : a ≡ None → b ≡ None → IsFault c e → IsFault (a then b then c) e
  third_of_three n m h = behind (a then b) c e (both_none a b n m) h

pub none_of_three : (a b c : Fault) → a ≡ None → b ≡ None → c ≡ None → (a then b then c) ≡ None
none_of_three a b c n m k = both_none (a then b) c (both_none a b n m) k

-- what is answered after a rule that holds
pub given_behind : {X : Type 0} (first second : Fault) (P : X → Type 0) (r : Result X PlanError) → first ≡ None → Gives second P r → Gives (first then second) P r
given_behind first second P (Ok x) n h = (both_none first second n h.0, h.1)
given_behind first second P (Err e) n h = behind first second e n h

-- what is answered, by an equal fault and an equal value
pub given_same : {X : Type 0} (first second : Fault) (said told : X) (r : Result X PlanError) → first ≡ second → said ≡ told → Gives first (λ x. x ≡ said) r → Gives second (λ x. x ≡ told) r
given_same first second said told (Ok x) f v h = (sym f ∙ h.0, h.1 ∙ v)
given_same first second said told (Err e) f v h = subst (λ (g : Fault). IsFault g e) f h

-- ---- what the steps of a document may speak of

pub same_cast : (held : Held) (names : List (List ℕ)) (set : ℕ) (table : List (List ℕ × Actor)) (topology : Layout) → held.names.now ≡ names → held.nodes ≡ set → held.actors ≡ table
    → ((n : ℕ) → in_set set n ≡ is_among topology.nodes n) → ((name : List ℕ) → at_name table name ≡ actor_named (actors topology) name) → seen held ≡ cast_in names topology
same_cast held names set table topology has_names has_nodes has_actors nodes_are actors_are =
    let its_nodes : in_set held.nodes ≡ is_among topology.nodes = ap in_set has_nodes ∙ (λ i n. nodes_are n i) in
    let its_actors : at_name held.actors ≡ actor_named (actors topology) = ap at_name has_actors ∙ (λ i name. actors_are name i) in
    λ i. record { names = has_names i; is_node = its_nodes i; actor = its_actors i }

-- what the steps give, by equal things to speak of
pub given_steps : (cast cast' : Cast) (d : Data) (r : Result (List Step) PlanError) → cast ≡ cast' → Gives (schedule_fault cast d) (λ steps. steps ≡ steps_of cast d) r → Gives (schedule_fault cast' d) (λ steps. steps ≡ steps_of cast' d) r
given_steps cast cast' d r same h = subst (λ (x : Cast). Gives (schedule_fault x d) (λ steps. steps ≡ steps_of x d) r) same h

pub same_nodes : (set : ℕ) (topology layout : Layout) → ((n : ℕ) → in_set set n ≡ is_among topology.nodes n) → topology ≡ layout → in_set set ≡ is_among layout.nodes
same_nodes set topology layout nodes same = (λ i n. nodes n i) ∙ ap (λ (l : Layout). is_among l.nodes) same
