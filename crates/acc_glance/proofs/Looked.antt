-- What the looks have seen at the end of a run.
use Rattle.std.proofs.Common.{◌≡◌, ℕ, ◌≤◌, ◌+◌, Bool, true, false, List, [], ◌∷◌, length, map, take, ◌++◌, reverse, sym, ◌∙◌, ap, subst}
use Rattle.std.specs.List.{AllByRecursion}
use Rattle.std.proofs.lemmas.List.{length-reverse, reverse-reverse}
use Rattle.acc_ports.specs.declared.disk.Disk.{Ghosts}
use Rattle.acc_message.specs.declared.item.Item.{Item}
use Rattle.acc_schedule.specs.Content.{Content}
use Rattle.acc_schedule.specs.declared.plan.Step.{Step}
use Rattle.acc_schedule_runs.specs.Moves.{Answers}
use Rattle.acc_schedule_runs.specs.Situations.{Situation, joined, opened, whole}
use Rattle.acc_message.specs.Run.{IsRun}
use Rattle.acc_pasts.proofs.Situations.{joined_alone}
use Rattle.acc_run.proofs.Earlier.{same_earlier}
use Rattle.acc_schedule_runs.specs.Limits.{IsWithin}
use Rattle.acc_schedule_runs.specs.Schedules.{Follows, cluster_of}
use Rattle.acc_cluster.specs.declared.cluster.Cluster.{Cluster}
use Rattle.acc_cluster.specs.declared.ending.Ended.{Ended}
use Rattle.acc_cluster.specs.Ends.{IsEndOf}
use Rattle.acc_cluster.specs.Stands.{StandsFor}
use Rattle.acc_run.specs.Given.{numbered}
use Rattle.acc_glance.specs.declared.looks.Look.{Look}
use Rattle.acc_glance.specs.declared.seen.Seen.{Seen}
use Rattle.acc_glance.specs.declared.sights.Finding.{Finding}
use Rattle.acc_glance.specs.declared.stages.Stage.{Stage}
use Rattle.acc_glance.specs.declared.visits.Visitor.{Visitor}
use Rattle.acc_glance.specs.Seen.{AreSeen, EndsAs}
use Rattle.acc_glance.specs.Sights.{AreEnded, HasMoment, IsSettled}
use Rattle.acc_glance.specs.Stages.{stage_of}
use Rattle.acc_glance.specs.Visits.{IsLed}
use Rattle.acc_glance.specs.Runs.{found_in, ArePassed, AreSeenStrictly, HasLooked, HasRunWithLooks}
use Rattle.acc_glance.specs.UnderWay.{GrowTo, IsUnderWay}
use Rattle.acc_glance.proofs.ReadCells.{AreInTurn, LookLaws, have_moments}
use Rattle.acc_glance.proofs.Passing.{all_led, stands_found}

module _ {X : Type 0} where
  heads : (x y : X) (xs ys : List X) → x ∷ xs ≡ y ∷ ys → x ≡ y
  heads x y xs ys same = ap first same
    where
      first : List X → X
      first [] = x
      first (z ∷ zs) = z

  tails : (x y : X) (xs ys : List X) → x ∷ xs ≡ y ∷ ys → xs ≡ ys
  tails x y xs ys same = ap others same
    where
      others : List X → List X
      others [] = []
      others (z ∷ zs) = zs

-- the look stands where the moments have led it
abbrev FoundAt : Content → List Situation → Finding → Type 0
FoundAt plan moments finding = finding.stage ≡ stage_of (cluster_of plan) finding.look (length plan.steps) moments

all_found : (plan : Content) (moments : List Situation) (findings : List Finding) (visitors : List Visitor)
    → map (λ (f : Finding). f.look) findings ≡ map (λ (v : Visitor). v.look) visitors → map (λ (f : Finding). f.stage) findings ≡ map (λ (v : Visitor). v.stage) visitors
    → AllByRecursion (IsLed plan moments) visitors → AllByRecursion (FoundAt plan moments) findings
all_found plan moments [] visitors looks stages led = tt
all_found plan moments (f ∷ findings) [] looks stages led = absurd cc
all_found plan moments (f ∷ findings) (v ∷ visitors) looks stages led =
    let look = heads f.look v.look _ _ looks in (
      heads f.stage v.stage _ _ stages ∙ led.0 ∙ ap (λ (l : Look). stage_of (cluster_of plan) l (length plan.steps) moments) (sym look),
      all_found plan moments findings visitors (tails f.look v.look _ _ looks) (tails f.stage v.stage _ _ stages) led.1,
    )

all_seen : (plan : Content) (items : List Item) (moments : List Situation) (findings : List Finding) (seens : List Seen) → AllByRecursion (FoundAt plan moments) findings
    → AreEnded (cluster_of plan) items findings seens
    → AreSeen (cluster_of plan) items (length plan.steps) moments (map (λ (f : Finding). f.look) findings) seens
all_seen plan items moments [] [] found ended = tt
all_seen plan items moments [] (seen ∷ seens) found ended = absurd ended
all_seen plan items moments (f ∷ findings) [] found ended = absurd ended
all_seen plan items moments (f ∷ findings) (seen ∷ seens) found ended = (
  subst (λ (stage : Stage). EndsAs (cluster_of plan) items f.look.key stage seen) found.0 ended.0,
  all_seen plan items moments findings seens found.1 ended.1,
)

module _ {D : Type 0} (port : Ghosts D) (plan : Content) where
  pub looked : (strictly : Bool) (cluster : Cluster D) (looks : List Look) (visitors : List Visitor) (findings : List Finding) (items : List Item) (seens : List Seen)
      → map (λ (f : Finding). f.look) findings ≡ map (λ (v : Visitor). v.look) visitors → map (λ (f : Finding). f.stage) findings ≡ map (λ (v : Visitor). v.stage) visitors
      → map (λ (v : Visitor). v.look) visitors ≡ looks
      → ((plan : Content) (s : Situation) → StandsFor port plan cluster s → items ≡ reverse s.own)
      → AreEnded (cluster_of plan) (reverse items) findings seens
      → (count : ℕ) × (length plan.steps ≤ count) × IsUnderWay strictly port plan cluster visitors count
      → HasLooked strictly port plan looks cluster seens
  looked strictly cluster looks visitors findings items seens same_looks same_stages looks_are items_are ended (count, past, h) =
      let s = found_in strictly h.now in
      let moments = map (found_in strictly) h.moments in
      let own : reverse items ≡ s.own = ap reverse (items_are plan s (stands_found port plan strictly cluster h.now h.stands)) ∙ reverse-reverse s.own in
      record {
        answers = h.answers;
        last = h.now;
        seen = record {
          moments = h.moments;
          passed = h.passed.1;
          follows = all_led port plan strictly cluster visitors count past h;
          seen =
              subst (λ (ls : List Look). AreSeen (cluster_of plan) s.own (length plan.steps) moments ls seens) (same_looks ∙ looks_are)
              (all_seen plan s.own moments findings seens (all_found plan moments findings visitors same_looks same_stages h.led)
              (subst (λ (own : List Item). AreEnded (cluster_of plan) own findings seens) own ended));
        };
        stands = h.stands;
      }

  -- ---- each look that has read a cell has its moment

  alone : (answers : Answers) (steps : List Step) (s : Situation) → Follows (cluster_of plan) answers 0 steps (opened []) s → whole s ≡ s.own
  alone answers steps s follows = ap (λ (earlier : List Item). joined earlier s.own) (same_earlier (cluster_of plan) answers 0 steps (opened []) s follows) ∙ joined_alone s.own

  in_turn : (answers : Answers) (own : List Item) (moments : List Situation) → ArePassed false plan answers moments → GrowTo false own moments
      → AreInTurn own (map (found_in false) moments)
  in_turn answers own [] passed grow = tt
  in_turn answers own (s ∷ earlier) passed grow =
      (alone answers (take (length earlier) plan.steps) s passed.0, grow.0, in_turn answers s.own earlier passed.1 grow.1)

  pub all_have : (laws : LookLaws) (cluster : Cluster D) (visitors : List Visitor) (findings : List Finding) (items : List Item)
      → map (λ (f : Finding). f.look) findings ≡ map (λ (v : Visitor). v.look) visitors → map (λ (f : Finding). f.stage) findings ≡ map (λ (v : Visitor). v.stage) visitors
      → ((plan : Content) (s : Situation) → StandsFor port plan cluster s → items ≡ reverse s.own)
      → AllByRecursion (IsSettled (cluster_of plan) (reverse items) (length items + 1)) findings
      → (count : ℕ) × (length plan.steps ≤ count) × IsUnderWay false port plan cluster visitors count → AllByRecursion HasMoment findings
  all_have laws cluster visitors findings items same_looks same_stages items_are settled (count, past, h) =
      let moments = map (found_in false) h.moments in
      let are : items ≡ reverse h.now.own = items_are plan h.now h.stands in
      let own : reverse items ≡ h.now.own = ap reverse are ∙ reverse-reverse h.now.own in
      let many : length items ≡ length h.now.own = ap length are ∙ length-reverse h.now.own in
      let valid = h.stands.sound.valid in
      let run : IsRun (cluster_of plan) h.now.own =
      subst (λ (l : List Item). IsRun (cluster_of plan) l) (alone h.answers (take (length h.moments) plan.steps) h.now h.passed.0) h.stands.sound.run in
      have_moments laws (cluster_of plan) h.now.own (length plan.steps) moments valid run (in_turn h.answers h.now.own h.moments h.passed.1 h.goes_on) findings
      (all_found plan moments findings visitors same_looks same_stages h.led)
      (subst (λ (n : ℕ). AllByRecursion (IsSettled (cluster_of plan) h.now.own (n + 1)) findings) many
      (subst (λ (l : List Item). AllByRecursion (IsSettled (cluster_of plan) l (length items + 1)) findings) own settled))

  -- ---- the items and the disks at the end

  pub ran_with_looks : (cluster : Cluster D) (looks : List Look) (seens : List Seen) (ended : Ended D) (before after : List (ℕ × D)) → HasLooked false port plan looks cluster seens
      → ((plan : Content) (s : Situation) → StandsFor port plan cluster s → IsEndOf port plan s.own s ended)
      → after ≡ before ++ map numbered ended.disks.items → HasRunWithLooks port plan looks (reverse ended.items) seens before after
  ran_with_looks cluster looks seens ended before after l ends given =
      let end = ends plan l.last l.stands in
      record {
        answers = l.answers;
        last = l.last;
        seen = l.seen;
        items_are = ap reverse end.items_are ∙ reverse-reverse l.last.own;
        back = record { disks = ended.disks.items; given = given; disks_are = end.disks_are; kept = end.kept };
      }

  pub seen_strictly : (cluster : Cluster D) (looks : List Look) (seens : List Seen) (ended : Ended D) → HasLooked true port plan looks cluster seens
      → ((plan : Content) (s : Situation) → StandsFor port plan cluster s → IsEndOf port plan s.own s ended)
      → AreSeenStrictly plan looks (reverse ended.items) seens
  seen_strictly cluster looks seens ended l ends =
      let end = ends plan l.last.found l.stands.stands in
      record { answers = l.answers; last = l.last; seen = l.seen; items_are = ap reverse end.items_are ∙ reverse-reverse l.last.found.own }

  pub looked_within : (cluster : Cluster D) (looks : List Look) (seens : List Seen) (ended : Ended D) → HasLooked false port plan looks cluster seens
      → ((plan : Content) (s : Situation) → StandsFor port plan cluster s → IsEndOf port plan s.own s ended)
      → IsWithin (reverse ended.items)
  looked_within cluster looks seens ended l ends =
      subst IsWithin (sym (ap reverse (ends plan l.last l.stands).items_are ∙ reverse-reverse l.last.own)) l.stands.past.within
