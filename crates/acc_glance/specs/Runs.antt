-- Looks over the run of a plan, with any disks and with strict ones.
use Rattle.std.specs.Prelude.{◌≡◌, ℕ, Bool, true, false, List, [], ◌∷◌, length, map, take}
use Rattle.acc_ports.specs.declared.disk.Disk.{Ghosts}
use Rattle.acc_message.specs.declared.item.Item.{Item}
use Rattle.acc_schedule.specs.Content.{Content}
use Rattle.acc_schedule_runs.specs.Situations.{Situation, opened}
use Rattle.acc_schedule_runs.specs.Moves.{Answers}
use Rattle.acc_schedule_runs.specs.Schedules.{Follows, cluster_of}
use Rattle.acc_schedule_runs.specs.StrictMoves.{StrictSituation, opened_strictly}
use Rattle.acc_schedule_runs.specs.StrictSchedules.{FollowsStrictly}
use Rattle.acc_cluster.specs.declared.cluster.Cluster.{Cluster}
use Rattle.acc_cluster.specs.Stands.{StandsFor, StandsStrictly}
use Rattle.acc_run.specs.Given.{GivesBack}
use Rattle.acc_glance.specs.declared.looks.Look.{Look}
use Rattle.acc_glance.specs.declared.seen.Seen.{Seen}
use Rattle.acc_glance.specs.Seen.{AreSeen}

-- ---- over any disks, and over strict ones

abbrev pub At : Bool → Type 0
At false = Situation
At true = StrictSituation

abbrev pub found_in : (strictly : Bool) → At strictly → Situation
found_in false s = s
found_in true s = s.found

-- so many steps of the plan, or all where there are no more, lead to this
abbrev pub LeadsTo : (strictly : Bool) → Content → Answers → ℕ → At strictly → Type 0
LeadsTo false plan answers count s = Follows (cluster_of plan) answers 0 (take count plan.steps) (opened []) s
LeadsTo true plan answers count s = FollowsStrictly (cluster_of plan) 0 (take count plan.steps) (opened_strictly []) s

-- all steps lead to this
abbrev pub RunsTo : (strictly : Bool) → Content → Answers → At strictly → Type 0
RunsTo false plan answers s = Follows (cluster_of plan) answers 0 plan.steps (opened []) s
RunsTo true plan answers s = FollowsStrictly (cluster_of plan) 0 plan.steps (opened_strictly []) s

abbrev pub StandsOver : {D : Type 0} (strictly : Bool) → Ghosts D → Content → Cluster D → At strictly → Type 0
StandsOver false port plan cluster s = StandsFor port plan cluster s
StandsOver true port plan cluster s = StandsStrictly port plan cluster s

-- where a cluster begins
abbrev pub beginning : (strictly : Bool) → At strictly
beginning false = opened []
beginning true = opened_strictly []

-- ---- moments

-- These are the situations in the moments so far, the newest first: each is where the steps lead before which it stands, and after the last
-- step it is the last one again and again.
abbrev pub ArePassed : (strictly : Bool) → Content → Answers → List (At strictly) → Type 0
ArePassed strictly plan answers [] = Unit {0}
ArePassed strictly plan answers (s ∷ earlier) = LeadsTo strictly plan answers (length earlier) s × ArePassed strictly plan answers earlier

-- ---- the whole run

-- All steps lead to the last situation, and this is what the looks have seen on the way, at moments that were enough for each of them.
pub record HaveSeen (strictly : Bool) (plan : Content) (looks : List Look) (answers : Answers) (last : At strictly) (seens : List Seen) : Type 0 where
  pub moments : List (At strictly)
  pub passed : ArePassed strictly plan answers moments
  pub follows : RunsTo strictly plan answers last
  pub seen : AreSeen (cluster_of plan) (found_in strictly last).own (length plan.steps) (map (found_in strictly) moments) looks seens

-- the cluster has taken the plan's steps, with some answers of the disks, and the looks have seen this
pub record HasLooked {D : Type 0} (strictly : Bool) (port : Ghosts D) (plan : Content) (looks : List Look) (cluster : Cluster D) (seens : List Seen) : Type 0 where
  pub answers : Answers
  pub last : At strictly
  pub seen : HaveSeen strictly plan looks answers last seens
  pub stands : StandsOver strictly port plan cluster last

-- ---- items

-- The items, newest first, are those of the plan's run, with some answers of the disks. These came back, each keeping its actor where the
-- schedule ends, and the looks have seen this.
pub record HasRunWithLooks {D : Type 0} (port : Ghosts D) (plan : Content) (looks : List Look) (items : List Item) (seens : List Seen) (before after : List (ℕ × D)) : Type 0 where
  pub answers : Answers
  pub last : Situation
  pub seen : HaveSeen false plan looks answers last seens
  pub items_are : items ≡ last.own
  pub back : GivesBack port plan last before after

-- over strict disks
pub record AreSeenStrictly (plan : Content) (looks : List Look) (items : List Item) (seens : List Seen) : Type 0 where
  pub answers : Answers
  pub last : StrictSituation
  pub seen : HaveSeen true plan looks answers last seens
  pub items_are : items ≡ last.found.own
