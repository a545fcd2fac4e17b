-- Over strict disks a look sees one thing, over however many moments it is told.
use Rattle.std.proofs.Common.{◌≡◌, ℕ, ◌<◌, ◌≤◌, List, [], ◌∷◌, ◌++◌, length, map, take, Option, Some, Bool, true, ◌⊎◌, inl, inr, refl, sym, ◌∙◌, ap, subst, arith}
use Rattle.std.proofs.lemmas.List.{map-append}
use Rattle.acc_value.specs.declared.key.Key.{Key}
use Rattle.acc_value.specs.declared.value.Value.{Value}
use Rattle.acc_message.specs.declared.item.Item.{Item}
use Rattle.acc_message.specs.Run.{Cluster}
use Rattle.acc_schedule.specs.Content.{Content}
use Rattle.acc_schedule.specs.declared.plan.Step.{Step}
use Rattle.acc_schedule_runs.specs.Moves.{Answers}
use Rattle.acc_schedule_runs.specs.Schedules.{cluster_of}
use Rattle.acc_schedule_runs.specs.Situations.{Situation}
use Rattle.acc_schedule_runs.specs.StrictMoves.{StrictSituation, opened_strictly}
use Rattle.acc_schedule_runs.specs.StrictSchedules.{FollowsStrictly}
use Rattle.acc_glance.specs.declared.looks.Look.{Look}
use Rattle.acc_glance.specs.declared.seen.Seen.{Seen}
use Rattle.acc_glance.specs.declared.stages.Stage.{Stage}
use Rattle.acc_glance.specs.declared.stages.Stage.TheVariants.{Waiting, Visiting, Read, Open}
use Rattle.acc_glance.specs.Stages.{moved, stage_of}
use Rattle.acc_glance.specs.Seen.{AreSeen, EndsAs, IsLeast}
use Rattle.acc_glance.specs.Runs.{ArePassed, AreSeenStrictly, found_in}

-- ---- a look that has ended

-- a stage that ends so stays
stays : (cluster : Cluster) (items : List Item) (key : Key) (look : Look) (over : Bool) (number : ℕ) (s : Situation) (stage : Stage) (seen : Seen)
    → EndsAs cluster items key stage seen → moved cluster look over number s stage ≡ stage
stays cluster items key look over number s (Read from to cell) seen ends = refl
stays cluster items key look over number s (Open from) seen ends = refl
stays cluster items key look over number s Waiting seen ends = absurd ends
stays cluster items key look over number s (Visiting course) seen ends = absurd ends

module _ (cluster : Cluster) (items : List Item) (look : Look) (steps : ℕ) where
  -- after more moments too
  more_stay : (more moments : List Situation) (seen : Seen) → EndsAs cluster items look.key (stage_of cluster look steps moments) seen
      → stage_of cluster look steps (more ++ moments) ≡ stage_of cluster look steps moments
  more_stay [] moments seen ends = refl
  more_stay (s ∷ more) moments seen ends =
      let before = more_stay more moments seen ends in
      ap (moved cluster look _ _ s) before ∙ stays cluster items look.key look _ _ s (stage_of cluster look steps moments) seen ends

-- ---- one sight of a stage

-- of two least moments none is below the other
not_below : (cluster : Cluster) (items : List Item) (key : Key) (from : ℕ) (cell : Option Value) (at other : ℕ) → IsLeast cluster items key from cell at
    → IsLeast cluster items key from cell other → other < at → ⊥
not_below cluster items key from cell at other a b below = a.none_before other b.since below b.shows

one_least : (cluster : Cluster) (items : List Item) (key : Key) (from : ℕ) (cell : Option Value) (at other : ℕ) → IsLeast cluster items key from cell at
    → IsLeast cluster items key from cell other → at ≡ other
one_least cluster items key from cell at other a b =
    let above = not_below cluster items key from cell at other a b in
    let below = not_below cluster items key from cell other at b a in
    omega (arith, above, below)

one_end : (cluster : Cluster) (items : List Item) (key : Key) (stage : Stage) (one other : Seen) → EndsAs cluster items key stage one → EndsAs cluster items key stage other
    → one ≡ other
one_end cluster items key (Read from to cell) one other a b =
    a.is ∙ ap (λ (at : ℕ). record { from = from; end = Some (record { at = at; to = to; cell = cell }) }) (one_least cluster items key from cell a.at b.at a.least b.least)
    ∙ sym b.is
one_end cluster items key (Open from) one other a b = a ∙ sym b
one_end cluster items key Waiting one other a b = absurd a
one_end cluster items key (Visiting course) one other a b = absurd a

-- ---- one sight of each look

module _ (cluster : Cluster) (items : List Item) (steps : ℕ) (more moments : List Situation) where
  all_alike : (looks : List Look) (one other : List Seen) → AreSeen cluster items steps moments looks one → AreSeen cluster items steps (more ++ moments) looks other → one ≡ other
  all_alike [] [] [] a b = refl
  all_alike [] [] (seen ∷ seens) a b = absurd b
  all_alike [] (seen ∷ seens) other a b = absurd a
  all_alike (look ∷ looks) [] other a b = absurd a
  all_alike (look ∷ looks) (seen ∷ seens) [] a b = absurd b
  all_alike (look ∷ looks) (one ∷ ones) (other ∷ others) a b =
      let stage = more_stay cluster items look steps more moments one a.0 in
      let ended = subst (λ (stage : Stage). EndsAs cluster items look.key stage other) stage b.0 in
      let first : one ≡ other = one_end cluster items look.key (stage_of cluster look steps moments) one other a.0 ended in
      let rest : ones ≡ others = all_alike looks ones others a.1 b.1 in
      ap (λ (seen : Seen). seen ∷ ones) first ∙ ap (λ (seens : List Seen). other ∷ seens) rest

-- ---- the moments over strict disks

module _ (law : (cluster : Cluster) (number : ℕ) (steps : List Step) (s one other : StrictSituation) → FollowsStrictly cluster number steps s one
    → FollowsStrictly cluster number steps s other → one ≡ other) where
  module _ (plan : Content) (answers other_answers : Answers) where
    -- as many moments are the same
    passed_alike : (one other : List StrictSituation) → ArePassed true plan answers one → ArePassed true plan other_answers other → length one ≡ length other → one ≡ other
    passed_alike [] [] a b same = refl
    passed_alike [] (s ∷ other) a b same = absurd (omega (arith, same))
    passed_alike (s ∷ one) [] a b same = absurd (omega (arith, same))
    passed_alike (s ∷ one) (t ∷ other) a b same =
        let fewer : length one ≡ length other = omega (arith, same) in
        let rest : one ≡ other = passed_alike one other a.1 b.1 fewer in
        let here = subst (λ (n : ℕ). FollowsStrictly (cluster_of plan) 0 (take n plan.steps) (opened_strictly []) t) (sym fewer) b.0 in
        let first : s ≡ t = law (cluster_of plan) 0 (take (length one) plan.steps) (opened_strictly []) s t a.0 here in
        ap (λ (s : StrictSituation). s ∷ one) first ∙ ap (λ (l : List StrictSituation). t ∷ l) rest

    -- of more moments the oldest are the same
    begins_with : (one other : List StrictSituation) → ArePassed true plan answers one → ArePassed true plan other_answers other → length one ≤ length other
        → (more : List StrictSituation) × (other ≡ more ++ one)
    begins_with one [] a b few =
        let none : length one ≡ 0 = omega (arith, few) in
        ([], sym (passed_alike one [] a b none))
    begins_with one (s ∷ other) a b few = by_length (λ fewer. begins_with one other a b.1 fewer) (compare (length one) (length (s ∷ other)) few)
      where
        compare : (n m : ℕ) → n ≤ m → (n ≡ m) ⊎ (n < m)
        compare n m few = grind arith

        by_length : (length one ≤ length other → (more : List StrictSituation) × (other ≡ more ++ one))
            → (length one ≡ length (s ∷ other)) ⊎ (length one < length (s ∷ other)) → (more : List StrictSituation) × (s ∷ other ≡ more ++ one)
        by_length goes_on (inl same) = ([], sym (passed_alike one (s ∷ other) a b same))
        by_length goes_on (inr less) =
            let rest = goes_on (omega (arith, less)) in
            (s ∷ rest.0, ap (λ (l : List StrictSituation). s ∷ l) rest.1)

  -- ---- the whole run

  module _ (plan : Content) (looks : List Look) (one other : List Item) (seens other_seens : List Seen) (a : AreSeenStrictly plan looks one seens)
      (b : AreSeenStrictly plan looks other other_seens) where
    same_last : a.last ≡ b.last
    same_last = law (cluster_of plan) 0 plan.steps (opened_strictly []) a.last b.last a.seen.follows b.seen.follows

    pub one_run : one ≡ other
    one_run = a.items_are ∙ ap (λ (s : StrictSituation). s.found.own) same_last ∙ sym b.items_are

  -- the first is told over no more moments than the second
  fewer_moments : (plan : Content) (looks : List Look) (one other : List Item) (seens other_seens : List Seen) (a : AreSeenStrictly plan looks one seens)
      (b : AreSeenStrictly plan looks other other_seens) → length a.seen.moments ≤ length b.seen.moments → seens ≡ other_seens
  fewer_moments plan looks one other seens other_seens a b few =
      let more = begins_with plan a.answers b.answers a.seen.moments b.seen.moments a.seen.passed b.seen.passed few in
      let items = (a.last).found.own in
      let of_other : AreSeen (cluster_of plan) items (length plan.steps) (map (found_in true) b.seen.moments) looks other_seens =
      subst (λ (s : StrictSituation). AreSeen (cluster_of plan) s.found.own (length plan.steps) (map (found_in true) b.seen.moments) looks other_seens)
      (sym (same_last plan looks one other seens other_seens a b)) b.seen.seen in
      all_alike (cluster_of plan) items (length plan.steps) (map (found_in true) more.0) (map (found_in true) a.seen.moments) looks seens other_seens a.seen.seen
      (subst (λ (moments : List Situation). AreSeen (cluster_of plan) items (length plan.steps) moments looks other_seens)
      (ap (map (found_in true)) more.1 ∙ map-append (found_in true) more.0 a.seen.moments) of_other)

  pub one_sight : (plan : Content) (looks : List Look) (one other : List Item) (seens other_seens : List Seen) → AreSeenStrictly plan looks one seens
      → AreSeenStrictly plan looks other other_seens → seens ≡ other_seens
  one_sight plan looks one other seens other_seens a b = by_length (either_way (length a.seen.moments) (length b.seen.moments))
    where
      either_way : (n m : ℕ) → (n ≤ m) ⊎ (m ≤ n)
      either_way n m = grind arith

      by_length : (length a.seen.moments ≤ length b.seen.moments) ⊎ (length b.seen.moments ≤ length a.seen.moments) → seens ≡ other_seens
      by_length (inl few) = fewer_moments plan looks one other seens other_seens a b few
      by_length (inr few) = sym (fewer_moments plan looks other one other_seens seens b a few)
