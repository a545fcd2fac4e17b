-- Each situation and step have one next situation at most.
use Rattle.std.proofs.Common.{◌≡◌, ℕ, ◌+◌, List, [], ◌∷◌, ◌<◌, sym, ◌∙◌, ap, subst, arith, ◌⊎◌, inl, inr}
use Rattle.std.proofs.lemmas.Bool.{true≢false}
use Rattle.acc_message.specs.declared.item.Item.{Item}
use Rattle.acc_message.specs.declared.entry.Event.TheVariants.{Message as MessageEvent}
use Rattle.acc_message.specs.Run.{Cluster}
use Rattle.acc_schedule.specs.Content.{Content}
use Rattle.acc_schedule.specs.declared.plan.Step.{Step}
use Rattle.acc_schedule.specs.declared.plan.Step.TheVariants.{Begin, Deliver, Drop, Recover, Slow, Restart, Fail, Drain}
use Rattle.acc_schedule_runs.specs.Situations.{Situation, IsOldestWaiting, receiver_in, opened}
use Rattle.acc_schedule_runs.specs.Moves.{Answers, tried, Drains, stops, delivers, IsNext}
use Rattle.acc_schedule_runs.specs.Schedules.{Follows, cluster_of, Obeys}

pub one_oldest : (s : Situation) (n k : ℕ) → IsOldestWaiting s n → IsOldestWaiting s k → n ≡ k
one_oldest s n k a b = by (order n k)
  where
    order : (n k : ℕ) → (n < k) ⊎ ((k < n) ⊎ (n ≡ k))
    order n k = grind arith

    by : (n < k) ⊎ ((k < n) ⊎ (n ≡ k)) → n ≡ k
    by (inl less) = absurd (true≢false (sym a.0 ∙ b.1 n less))
    by (inr (inl less)) = absurd (true≢false (sym b.0 ∙ a.1 k less))
    by (inr (inr same)) = same

module _ (cluster : Cluster) (answers : Answers) where
  one_drain : (one other s : Situation) → Drains cluster answers one s → Drains cluster answers other s → one ≡ other
  one_drain one other s (stops _ none is) (stops _ none' is') = is ∙ sym is'
  one_drain one other s (stops _ none is) (delivers _ n oldest rest) = absurd (true≢false (sym oldest.0 ∙ none n))
  one_drain one other s (delivers _ n oldest rest) (stops _ none is) = absurd (true≢false (sym oldest.0 ∙ none n))
  one_drain one other s (delivers _ n oldest rest) (delivers _ k oldest' rest') =
      one_drain one other (tried cluster answers s (receiver_in s n) (MessageEvent n)) rest
      (subst (λ m. Drains cluster answers other (tried cluster answers s (receiver_in s m) (MessageEvent m)))
      (one_oldest s k n oldest' oldest) rest')

pub one_next : (cluster : Cluster) (answers : Answers) (number : ℕ) (step : Step) (s one other : Situation) → IsNext cluster answers number step s one
    → IsNext cluster answers number step s other → one ≡ other
one_next cluster answers number (Begin txn) s one other a b = a ∙ sym b
one_next cluster answers number (Deliver message) s one other a b = a ∙ sym b
one_next cluster answers number (Drop message) s one other a b = a ∙ sym b
one_next cluster answers number (Recover txn node) s one other a b = a ∙ sym b
one_next cluster answers number (Slow txn) s one other a b = a ∙ sym b
one_next cluster answers number (Restart actor choice) s one other a b = a ∙ sym b
one_next cluster answers number (Fail actor calls) s one other a b = a ∙ sym b
one_next cluster answers number Drain s one other a b = one_drain cluster answers one other s a b

pub one_last : (cluster : Cluster) (answers : Answers) (number : ℕ) (steps : List Step) (s one other : Situation)
    → Follows cluster answers number steps s one → Follows cluster answers number steps s other → one ≡ other
one_last cluster answers number [] s one other a b = a ∙ sym b
one_last cluster answers number (step ∷ steps) s one other a b =
    one_last cluster answers (number + 1) steps a.0 one other a.2
    (subst (λ next. Follows cluster answers (number + 1) steps next other) (one_next cluster answers number step s b.0 a.0 b.1 a.1) b.2)

pub one_list : (plan : Content) (answers : Answers) (one other : List Item) → Obeys plan answers one → Obeys plan answers other → one ≡ other
one_list plan answers one other a b =
    a.items_are
    ∙ ap (λ (s : Situation). s.own) (one_last (cluster_of plan) answers 0 plan.steps (opened []) a.last b.last a.follows b.follows)
    ∙ sym b.items_are
