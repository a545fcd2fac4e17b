-- The fronts of a plan's run stand in one line.
use Rattle.std.proofs.Common.{◌≤◌, ◌⊎◌, inl, inr, List, [], length, sym, subst}
use Rattle.acc_message.specs.declared.item.Item.{Item}
use Rattle.acc_schedule.specs.Content.{Content}
use Rattle.acc_schedule_runs.specs.Situations.{opened}
use Rattle.acc_schedule_runs.specs.Moves.{Answers}
use Rattle.acc_schedule_runs.specs.Schedules.{cluster_of, Obeys}
use Rattle.acc_schedule_runs.specs.Fronts.{Begins, IsFront}
use Rattle.acc_schedule_runs.proofs.Beginnings.{begins_itself, begins_chain, both_begin}
use Rattle.acc_schedule_runs.proofs.Reached.{reached_in_line, follows_reaches, reached_within}

module _ (plan : Content) (answers : Answers) where
  pub fronts_in_line : (one other : List Item) → IsFront plan answers one → IsFront plan answers other → length one ≤ length other → Begins one other
  fronts_in_line one other a b less =
      by (reached_in_line (cluster_of plan) answers 0 plan.steps (opened []) a.reached b.reached a.reaches b.reaches)
    where
      by : Begins a.reached.own b.reached.own ⊎ Begins b.reached.own a.reached.own → Begins one other
      by (inl first) = both_begin one other b.reached.own (begins_chain one a.reached.own b.reached.own a.begins first) b.begins less
      by (inr first) = both_begin one other a.reached.own a.begins (begins_chain other b.reached.own a.reached.own b.begins first) less

  pub whole_is_front : (items : List Item) → Obeys plan answers items → IsFront plan answers items
  whole_is_front items obeys =
      record {
        reached = obeys.last;
        reaches = follows_reaches (cluster_of plan) answers 0 plan.steps (opened []) obeys.last obeys.follows;
        begins = subst (λ (own : List Item). Begins own obeys.last.own) (sym obeys.items_are) (begins_itself obeys.last.own);
      }

  pub whole_is_longest : (items front : List Item) → Obeys plan answers items → IsFront plan answers front → Begins front items
  whole_is_longest items front obeys is =
      subst (Begins front) (sym obeys.items_are)
      (begins_chain front is.reached.own obeys.last.own is.begins
      (reached_within (cluster_of plan) answers 0 plan.steps (opened []) is.reached obeys.last is.reaches obeys.follows))

  pub part_is_front : (front items : List Item) → Begins front items → IsFront plan answers items → IsFront plan answers front
  part_is_front front items begins is =
      record { reached = is.reached; reaches = is.reaches; begins = begins_chain front items is.reached.own begins is.begins }
