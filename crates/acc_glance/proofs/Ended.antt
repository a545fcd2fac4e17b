-- After the moments that follow the last step each look has ended.
use Rattle.std.proofs.Common.{◌≡◌, ℕ, ◌+◌, ◌≤◌, Bool, true, false, ◌&&◌, List, [], ◌∷◌, length, map, sym, ◌∙◌, ap, subst}
use Rattle.std.specs.List.{AllByRecursion, list_all}
use Rattle.std.proofs.lemmas.Bool.{and_parts}
use Rattle.std.proofs.lemmas.List.{length-map}
use Rattle.acc_ports.specs.declared.disk.Disk.{Ghosts}
use Rattle.acc_topology.proofs.Bits.{length-members}
use Rattle.acc_schedule.specs.Content.{Content}
use Rattle.acc_schedule_runs.specs.Schedules.{cluster_of}
use Rattle.acc_schedule_runs.specs.Situations.{Situation}
use Rattle.acc_cluster.specs.declared.cluster.Cluster.{Cluster}
use Rattle.acc_glance.specs.declared.looks.Look.{Look}
use Rattle.acc_glance.specs.declared.sights.Finding.{Finding}
use Rattle.acc_glance.specs.declared.stages.Stage.{Stage}
use Rattle.acc_glance.specs.declared.visits.Visitor.{Visitor}
use Rattle.acc_glance.specs.Documents.{AreInTime}
use Rattle.acc_glance.specs.Runs.{found_in}
use Rattle.acc_glance.specs.Stages.{has_ended}
use Rattle.acc_glance.specs.UnderWay.{IsUnderWay}
use Rattle.acc_glance.specs.Visits.{HasReplicas, IsLed}
use Rattle.acc_glance.proofs.Fewer.{ended}

pub all_pass : {X : Type 0} (p : X → Bool) (xs : List X) → list_all p xs ≡ true → AllByRecursion (λ x. p x ≡ true) xs
all_pass p [] h = tt
all_pass p (x ∷ xs) h = let parts = and_parts _ _ h in (parts.0, all_pass p xs parts.1)

all_ended : (plan : Content) (moments : List Situation) (visitors : List Visitor) → length moments ≡ length plan.steps + 33 → AllByRecursion (HasReplicas plan) visitors
    → AreInTime plan (map (λ (v : Visitor). v.look) visitors) → AllByRecursion (IsLed plan moments) visitors → AllByRecursion (λ (v : Visitor). has_ended v.stage ≡ true) visitors
all_ended plan moments [] many replicas in_time led = tt
all_ended plan moments (v ∷ visitors) many replicas in_time led = (
  ap has_ended led.0
      ∙ ended (cluster_of plan) v.look (length plan.steps)
      (subst (λ (nodes : List ℕ). length nodes ≤ 16) replicas.0.listed (length-members v.replicas.nodes)) in_time.0 moments many,
  all_ended plan moments visitors many replicas.1 in_time.1 led.1,
)

pub under_way_ended : {D : Type 0} (port : Ghosts D) (plan : Content) (cluster : Cluster D) (before visitors : List Visitor) (more : ℕ) → more ≡ 33
    → map (λ (v : Visitor). v.look) visitors ≡ map (λ (v : Visitor). v.look) before → AllByRecursion (HasReplicas plan) visitors
    → AreInTime plan (map (λ (v : Visitor). v.look) before) → IsUnderWay false port plan cluster visitors (length plan.steps + more)
    → AllByRecursion (λ (v : Visitor). has_ended v.stage ≡ true) visitors
under_way_ended port plan cluster before visitors more all looks replicas in_time h =
    all_ended plan (map (found_in false) h.moments) visitors
    (length-map h.moments (found_in false) ∙ h.count_is ∙ ap (λ (n : ℕ). length plan.steps + n) all) replicas
    (subst (AreInTime plan) (sym looks) in_time) h.led

-- what holds of the stages of looks
pub found_ended : (findings : List Finding) (visitors : List Visitor) → map (λ (f : Finding). f.stage) findings ≡ map (λ (v : Visitor). v.stage) visitors
    → AllByRecursion (λ (v : Visitor). has_ended v.stage ≡ true) visitors → AllByRecursion (λ (f : Finding). has_ended f.stage ≡ true) findings
found_ended findings visitors same all = from findings (subst (AllByRecursion (λ (stage : Stage). has_ended stage ≡ true)) (sym same) (onto visitors all))
  where
    onto : (vs : List Visitor) → AllByRecursion (λ (v : Visitor). has_ended v.stage ≡ true) vs
        → AllByRecursion (λ (stage : Stage). has_ended stage ≡ true) (map (λ (v : Visitor). v.stage) vs)
    onto [] h = tt
    onto (v ∷ vs) h = (h.0, onto vs h.1)

    from : (fs : List Finding) → AllByRecursion (λ (stage : Stage). has_ended stage ≡ true) (map (λ (f : Finding). f.stage) fs)
        → AllByRecursion (λ (f : Finding). has_ended f.stage ≡ true) fs
    from [] h = tt
    from (f ∷ fs) h = (h.0, from fs h.1)
