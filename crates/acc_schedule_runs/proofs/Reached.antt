-- The items of a run are only added to, and a step comes only to beginnings of what it ends with.
use Rattle.std.proofs.Common.{◌≡◌, ℕ, ◌+◌, Bool, true, false, ◌&&◌, ◌⊎◌, inl, inr, List, [], ◌∷◌, length, Option, None, Some, sym, ◌∙◌, subst}
use Rattle.std.proofs.lemmas.Bool.{true≢false}
use Rattle.acc_stamp.specs.declared.actors.Actor.{Actor}
use Rattle.acc_stamp.specs.Actor.{actor_of}
use Rattle.acc_message.specs.declared.entry.Event.{Event}
use Rattle.acc_message.specs.declared.entry.Event.TheVariants.{Begin as BeginEvent, Recover as RecoverEvent, Slow as SlowEvent, Message as MessageEvent, Restart as RestartEvent}
use Rattle.acc_message.specs.declared.item.Item.TheVariants.{Skipped, Down}
use Rattle.acc_message.specs.declared.item.Skip.{Skip}
use Rattle.acc_message.specs.Run.{Cluster}
use Rattle.acc_run_laws.specs.Asks.{home_of_txn}
use Rattle.acc_schedule.specs.declared.plan.Step.{Step}
use Rattle.acc_schedule.specs.declared.plan.Step.TheVariants.{Begin, Deliver, Drop, Recover, Slow, Restart, Fail, Drain}
use Rattle.acc_schedule_runs.specs.Situations.{Situation, receiver_in}
use Rattle.acc_schedule_runs.specs.Moves.{Answers, fails_in, is_journalled, entry_of, tried_if, tried, stepped_unless, dropped_unless, begin_skip, recover_skip, slowing_skip, message_skip, deliver_skip, kept_if, entered, entered_all, with_kept, reopened, restarted_if, Drains, stops, delivers, IsNext}
use Rattle.acc_schedule_runs.specs.Schedules.{Follows}
use Rattle.acc_schedule_runs.proofs.OneRun.{one_oldest, one_next}
use Rattle.acc_schedule_runs.specs.Fronts.{DrainsTo, comes, goes_on, ComesTo, Reaches, Begins}
use Rattle.acc_schedule_runs.proofs.Beginnings.{begins_itself, begins_longer, begins_chain}

-- ---- items are added

-- where the second situation is known
pub along : (s t u : Situation) → u ≡ t → Begins s.own t.own → Begins s.own u.own
along s t u is h = subst (λ (v : Situation). Begins s.own v.own) (sym is) h

module _ (cluster : Cluster) (answers : Answers) where
  pub tried_adds : (s : Situation) (a : Actor) (event : Event) → Begins s.own (tried cluster answers s a event).own
  tried_adds s a event = by (is_journalled a event && fails_in answers s)
    where
      by : (test : Bool) → Begins s.own (tried_if test cluster s a event).own
      by true = begins_longer (Down a) s.own
      by false = begins_longer (entry_of cluster s a event false) s.own

  module _ (number : ℕ) where
    stepped_adds : (skip : Option Skip) (s : Situation) (a : Actor) (event : Event)
        → Begins s.own (stepped_unless skip cluster answers number s a event).own
    stepped_adds (Some cause) s a event = begins_longer (Skipped number cause) s.own
    stepped_adds None s a event = tried_adds s a event

    dropped_adds : (skip : Option Skip) (s : Situation) (message : ℕ) → Begins s.own (dropped_unless skip number s message).own
    dropped_adds (Some cause) s message = begins_longer (Skipped number cause) s.own
    dropped_adds None s message = begins_itself s.own

    all_add : (s : Situation) (a : Actor) (events : List Event) (lost : Bool) → Begins s.own (entered_all cluster s a events lost).own
    all_add s a [] lost = begins_itself s.own
    all_add s a (event ∷ events) lost =
        let next : Situation = entered cluster s a event lost in
        begins_chain s.own next.own (entered_all cluster next a events lost).own (begins_longer (entry_of cluster s a event lost) s.own)
        (all_add next a events lost)

    reopened_adds : (s : Situation) (a : Actor) (kept : List Event) → Begins s.own (reopened cluster s a kept).own
    reopened_adds s a kept =
        let between : Situation = with_kept cluster s a kept in
        begins_chain s.own between.own (reopened cluster s a kept).own (all_add s a kept true)
        (begins_longer (entry_of cluster between a (RestartEvent (length kept)) false) between.own)

    restarted_adds : (fails : Bool) (s : Situation) (a : Actor) → Begins s.own (restarted_if fails cluster answers s a).own
    restarted_adds true s a = begins_longer (Down a) s.own
    restarted_adds false s a = reopened_adds s a (kept_if (answers.keeps (length s.own)) a s)

  drained_adds : (last s : Situation) → Drains cluster answers last s → Begins s.own last.own
  drained_adds last s (stops _ none is) = along s s last is (begins_itself s.own)
  drained_adds last s (delivers _ n oldest rest) =
      let t : Situation = tried cluster answers s (receiver_in s n) (MessageEvent n) in
      begins_chain s.own t.own last.own (tried_adds s (receiver_in s n) (MessageEvent n)) (drained_adds last t rest)

  pub next_adds : (number : ℕ) (step : Step) (s next : Situation) → IsNext cluster answers number step s next → Begins s.own next.own
  next_adds number (Begin txn) s next is =
      along s _ next is (stepped_adds number (begin_skip cluster s txn) s (home_of_txn cluster txn) (BeginEvent txn))
  next_adds number (Deliver message) s next is =
      along s _ next is (stepped_adds number (deliver_skip s message) s (receiver_in s message) (MessageEvent message))
  next_adds number (Drop message) s next is = along s _ next is (dropped_adds number (message_skip s message) s message)
  next_adds number (Recover txn node) s next is =
      along s _ next is (stepped_adds number (recover_skip s txn node) s (actor_of node 0) (RecoverEvent txn))
  next_adds number (Slow txn) s next is =
      along s _ next is (stepped_adds number (slowing_skip cluster s txn) s (home_of_txn cluster txn) (SlowEvent txn))
  next_adds number (Restart actor choice) s next is = along s _ next is (restarted_adds number (fails_in answers s) s actor)
  next_adds number (Fail actor calls) s next is = along s s next is (begins_itself s.own)
  next_adds number Drain s next drains = drained_adds next s drains

  drained_to_adds : (reached s : Situation) → DrainsTo cluster answers reached s → Begins s.own reached.own
  drained_to_adds reached s (comes _ is) = along s s reached is (begins_itself s.own)
  drained_to_adds reached s (goes_on _ n oldest rest) =
      let t : Situation = tried cluster answers s (receiver_in s n) (MessageEvent n) in
      begins_chain s.own t.own reached.own (tried_adds s (receiver_in s n) (MessageEvent n)) (drained_to_adds reached t rest)

  pub comes_adds : (number : ℕ) (step : Step) (s reached : Situation) → ComesTo cluster answers number step s reached → Begins s.own reached.own
  comes_adds number (Begin txn) s reached is = next_adds number (Begin txn) s reached is
  comes_adds number (Deliver message) s reached is = next_adds number (Deliver message) s reached is
  comes_adds number (Drop message) s reached is = next_adds number (Drop message) s reached is
  comes_adds number (Recover txn node) s reached is = next_adds number (Recover txn node) s reached is
  comes_adds number (Slow txn) s reached is = next_adds number (Slow txn) s reached is
  comes_adds number (Restart actor choice) s reached is = next_adds number (Restart actor choice) s reached is
  comes_adds number (Fail actor calls) s reached is = next_adds number (Fail actor calls) s reached is
  comes_adds number Drain s reached drains = drained_to_adds reached s drains

  pub reaches_adds : (number : ℕ) (steps : List Step) (s reached : Situation) → Reaches cluster answers number steps s reached
      → Begins s.own reached.own
  reaches_adds number [] s reached is = along s s reached is (begins_itself s.own)
  reaches_adds number (step ∷ steps) s reached (inl part) = comes_adds number step s reached part
  reaches_adds number (step ∷ steps) s reached (inr more) =
      begins_chain s.own more.0.own reached.own (next_adds number step s more.0 more.1) (reaches_adds (number + 1) steps more.0 reached more.2)

  -- ---- a step that ends comes to beginnings of its end

  drained_within : (reached next s : Situation) → DrainsTo cluster answers reached s → Drains cluster answers next s → Begins reached.own next.own
  drained_within reached next s (comes _ is) drains = subst (λ (t : Situation). Begins t.own next.own) (sym is) (drained_adds next s drains)
  drained_within reached next s (goes_on _ n oldest rest) (stops _ none is) = absurd (true≢false (sym oldest.0 ∙ none n))
  drained_within reached next s (goes_on _ n oldest rest) (delivers _ k oldest' rest') =
      drained_within reached next (tried cluster answers s (receiver_in s n) (MessageEvent n)) rest
      (subst (λ m. Drains cluster answers next (tried cluster answers s (receiver_in s m) (MessageEvent m)))
      (one_oldest s k n oldest' oldest) rest')

  same_end : (number : ℕ) (step : Step) (s reached next : Situation) → IsNext cluster answers number step s reached
      → IsNext cluster answers number step s next → Begins reached.own next.own
  same_end number step s reached next a b =
      subst (λ (t : Situation). Begins reached.own t.own) (one_next cluster answers number step s reached next a b) (begins_itself reached.own)

  pub comes_within : (number : ℕ) (step : Step) (s reached next : Situation) → ComesTo cluster answers number step s reached
      → IsNext cluster answers number step s next → Begins reached.own next.own
  comes_within number (Begin txn) s reached next a b = same_end number (Begin txn) s reached next a b
  comes_within number (Deliver message) s reached next a b = same_end number (Deliver message) s reached next a b
  comes_within number (Drop message) s reached next a b = same_end number (Drop message) s reached next a b
  comes_within number (Recover txn node) s reached next a b = same_end number (Recover txn node) s reached next a b
  comes_within number (Slow txn) s reached next a b = same_end number (Slow txn) s reached next a b
  comes_within number (Restart actor choice) s reached next a b = same_end number (Restart actor choice) s reached next a b
  comes_within number (Fail actor calls) s reached next a b = same_end number (Fail actor calls) s reached next a b
  comes_within number Drain s reached next a b = drained_within reached next s a b

  -- ---- of two, one begins the other

  abbrev InLine : Situation → Situation → Type 0
  InLine one other = Begins one.own other.own ⊎ Begins other.own one.own

  drained_in_line : (one other s : Situation) → DrainsTo cluster answers one s → DrainsTo cluster answers other s → InLine one other
  drained_in_line one other s (comes _ is) b = inl (subst (λ (t : Situation). Begins t.own other.own) (sym is) (drained_to_adds other s b))
  drained_in_line one other s (goes_on _ n oldest rest) (comes _ is) =
      inr (subst (λ (t : Situation). Begins t.own one.own) (sym is) (drained_to_adds one s (goes_on s n oldest rest)))
  drained_in_line one other s (goes_on _ n oldest rest) (goes_on _ k oldest' rest') =
      drained_in_line one other (tried cluster answers s (receiver_in s n) (MessageEvent n)) rest
      (subst (λ m. DrainsTo cluster answers other (tried cluster answers s (receiver_in s m) (MessageEvent m)))
      (one_oldest s k n oldest' oldest) rest')

  comes_in_line : (number : ℕ) (step : Step) (s one other : Situation) → ComesTo cluster answers number step s one
      → ComesTo cluster answers number step s other → InLine one other
  comes_in_line number (Begin txn) s one other a b = inl (same_end number (Begin txn) s one other a b)
  comes_in_line number (Deliver message) s one other a b = inl (same_end number (Deliver message) s one other a b)
  comes_in_line number (Drop message) s one other a b = inl (same_end number (Drop message) s one other a b)
  comes_in_line number (Recover txn node) s one other a b = inl (same_end number (Recover txn node) s one other a b)
  comes_in_line number (Slow txn) s one other a b = inl (same_end number (Slow txn) s one other a b)
  comes_in_line number (Restart actor choice) s one other a b = inl (same_end number (Restart actor choice) s one other a b)
  comes_in_line number (Fail actor calls) s one other a b = inl (same_end number (Fail actor calls) s one other a b)
  comes_in_line number Drain s one other a b = drained_in_line one other s a b

  pub reached_in_line : (number : ℕ) (steps : List Step) (s one other : Situation) → Reaches cluster answers number steps s one
      → Reaches cluster answers number steps s other → InLine one other
  reached_in_line number [] s one other a b =
      inl (subst (λ (t : Situation). Begins one.own t.own) (a ∙ sym b) (begins_itself one.own))
  reached_in_line number (step ∷ steps) s one other (inl a) (inl b) = comes_in_line number step s one other a b
  reached_in_line number (step ∷ steps) s one other (inl a) (inr b) =
      inl
      (begins_chain one.own b.0.own other.own (comes_within number step s one b.0 a b.1)
      (reaches_adds (number + 1) steps b.0 other b.2))
  reached_in_line number (step ∷ steps) s one other (inr a) (inl b) =
      inr
      (begins_chain other.own a.0.own one.own (comes_within number step s other a.0 b a.1)
      (reaches_adds (number + 1) steps a.0 one a.2))
  reached_in_line number (step ∷ steps) s one other (inr a) (inr b) =
      reached_in_line (number + 1) steps a.0 one other a.2
      (subst (λ next. Reaches cluster answers (number + 1) steps next other) (one_next cluster answers number step s b.0 a.0 b.1 a.1) b.2)

  -- ---- the whole run

  whole_drain : (last s : Situation) → Drains cluster answers last s → DrainsTo cluster answers last s
  whole_drain last s (stops _ none is) = comes s is
  whole_drain last s (delivers _ n oldest rest) =
      goes_on s n oldest (whole_drain last (tried cluster answers s (receiver_in s n) (MessageEvent n)) rest)

  pub follows_reaches : (number : ℕ) (steps : List Step) (s last : Situation) → Follows cluster answers number steps s last
      → Reaches cluster answers number steps s last
  follows_reaches number [] s last is = is
  follows_reaches number (step ∷ steps) s last follows =
      inr (follows.0, follows.1, follows_reaches (number + 1) steps follows.0 last follows.2)

  -- nothing is reached that the whole run doesn't begin with
  pub reached_within : (number : ℕ) (steps : List Step) (s reached last : Situation) → Reaches cluster answers number steps s reached
      → Follows cluster answers number steps s last → Begins reached.own last.own
  reached_within number [] s reached last a b = subst (λ (t : Situation). Begins reached.own t.own) (a ∙ sym b) (begins_itself reached.own)
  reached_within number (step ∷ steps) s reached last (inl part) follows =
      begins_chain reached.own follows.0.own last.own (comes_within number step s reached follows.0 part follows.1)
      (reaches_adds (number + 1) steps follows.0 last (follows_reaches (number + 1) steps follows.0 last follows.2))
  reached_within number (step ∷ steps) s reached last (inr more) follows =
      reached_within (number + 1) steps follows.0 reached last
      (subst (λ next. Reaches cluster answers (number + 1) steps next reached)
      (one_next cluster answers number step s more.0 follows.0 more.1 follows.1) more.2) follows.2
