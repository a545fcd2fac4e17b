-- The fronts of a plan's run over strict disks stand in one line, and are fronts with some answers of the disks.
use Rattle.std.proofs.Common.{◌≡◌, ℕ, suc, ◌+◌, ◌<◌, ◌≤◌, ◌⊎◌, inl, inr, List, [], ◌∷◌, length, refl, sym, ◌∙◌, ap, subst, arith}
use Rattle.std.proofs.lemmas.Bool.{true≢false}
use Rattle.acc_stamp.specs.declared.actors.Actor.{Actor}
use Rattle.acc_message.specs.declared.entry.Event.{Event}
use Rattle.acc_message.specs.declared.entry.Event.TheVariants.{Message as MessageEvent}
use Rattle.acc_message.specs.declared.error.Which.{Which}
use Rattle.acc_message.specs.declared.item.Item.{Item}
use Rattle.acc_message.specs.Run.{Cluster}
use Rattle.acc_schedule.specs.Content.{Content}
use Rattle.acc_schedule.specs.declared.plan.Step.{Step}
use Rattle.acc_schedule.specs.declared.plan.Step.TheVariants.{Begin, Deliver, Drop, Recover, Slow, Restart, Fail, Drain}
use Rattle.acc_schedule_runs.specs.Situations.{receiver_in}
use Rattle.acc_schedule_runs.specs.Moves.{Answers, tried}
use Rattle.acc_schedule_runs.specs.Schedules.{cluster_of}
use Rattle.acc_schedule_runs.specs.Laws.{AgreeBelow}
use Rattle.acc_schedule_runs.proofs.OneRun.{one_oldest}
use Rattle.acc_schedule_runs.proofs.Answered.{tried_length, next_grows, next_same}
use Rattle.acc_schedule_runs.specs.Disks.{step_answers}
use Rattle.acc_schedule_runs.specs.StrictMoves.{StrictSituation, opened_strictly, tried_strictly, StrictDrains, stops, delivers as delivers_one, IsStrictNext}
use Rattle.acc_schedule_runs.specs.StrictLaws.{no_faults}
use Rattle.acc_schedule_runs.proofs.OneStrictRun.{one_next}
use Rattle.acc_schedule_runs.proofs.Answering.{behind, agree_behind, fails_behind, agree_on, tried_with, next_answered}
use Rattle.acc_schedule_runs.specs.Fronts.{DrainsTo, comes as arrives, goes_on as delivers, ComesTo, Reaches, Begins, IsFront, LimitEnds}
use Rattle.acc_schedule_runs.specs.StrictFronts.{StrictlyDrainsTo, comes, goes_on, StrictlyComesTo, StrictlyReaches, IsStrictFront, StrictLimitEnds}
use Rattle.acc_schedule_runs.proofs.Beginnings.{begins_itself, begins_chain, both_begin}
use Rattle.acc_schedule_runs.proofs.Reached.{tried_adds, next_adds}
use Rattle.acc_schedule_runs.proofs.Ended.{one_end}

module _ (cluster : Cluster) where
  -- ---- items are added

  strict_tried_adds : (s : StrictSituation) (a : Actor) (event : Event) → Begins s.found.own (tried_strictly cluster s a event).found.own
  strict_tried_adds s a event = tried_adds cluster (step_answers s.disks a) s.found a event

  pub strict_next_adds : (number : ℕ) (step : Step) (s next : StrictSituation) → IsStrictNext cluster number step s next
      → Begins s.found.own next.found.own
  strict_next_adds number step s next is =
      let found = next_answered cluster no_faults number s next step is in next_adds cluster found.0 number step s.found next.found found.2

  same_adds : (s reached : StrictSituation) → reached ≡ s → Begins s.found.own reached.found.own
  same_adds s reached is = subst (λ (t : StrictSituation). Begins s.found.own t.found.own) (sym is) (begins_itself s.found.own)

  drained_adds : (reached s : StrictSituation) → StrictlyDrainsTo cluster reached s → Begins s.found.own reached.found.own
  drained_adds reached s (comes _ is) = same_adds s reached is
  drained_adds reached s (goes_on _ n oldest rest) =
      let t : StrictSituation = tried_strictly cluster s (receiver_in s.found n) (MessageEvent n) in
      begins_chain s.found.own t.found.own reached.found.own (strict_tried_adds s (receiver_in s.found n) (MessageEvent n)) (drained_adds reached t rest)

  comes_adds : (number : ℕ) (step : Step) (s reached : StrictSituation) → StrictlyComesTo cluster number step s reached
      → Begins s.found.own reached.found.own
  comes_adds number (Begin txn) s reached is = strict_next_adds number (Begin txn) s reached is
  comes_adds number (Deliver message) s reached is = strict_next_adds number (Deliver message) s reached is
  comes_adds number (Drop message) s reached is = strict_next_adds number (Drop message) s reached is
  comes_adds number (Recover txn node) s reached is = strict_next_adds number (Recover txn node) s reached is
  comes_adds number (Slow txn) s reached is = strict_next_adds number (Slow txn) s reached is
  comes_adds number (Restart actor choice) s reached is = strict_next_adds number (Restart actor choice) s reached is
  comes_adds number (Fail actor calls) s reached is = strict_next_adds number (Fail actor calls) s reached is
  comes_adds number Drain s reached drains = drained_adds reached s drains

  pub reaches_adds : (number : ℕ) (steps : List Step) (s reached : StrictSituation) → StrictlyReaches cluster number steps s reached
      → Begins s.found.own reached.found.own
  reaches_adds number [] s reached is = same_adds s reached is
  reaches_adds number (step ∷ steps) s reached (inl part) = comes_adds number step s reached part
  reaches_adds number (step ∷ steps) s reached (inr more) =
      begins_chain s.found.own more.0.found.own reached.found.own (strict_next_adds number step s more.0 more.1)
      (reaches_adds (number + 1) steps more.0 reached more.2)

  -- ---- of two, one begins the other

  abbrev InLine : StrictSituation → StrictSituation → Type 0
  InLine one other = Begins one.found.own other.found.own ⊎ Begins other.found.own one.found.own

  same_end : (number : ℕ) (step : Step) (s reached next : StrictSituation) → IsStrictNext cluster number step s reached
      → IsStrictNext cluster number step s next → Begins reached.found.own next.found.own
  same_end number step s reached next a b =
      subst (λ (t : StrictSituation). Begins reached.found.own t.found.own) (one_next cluster number step s reached next a b)
      (begins_itself reached.found.own)

  drained_in_line : (one other s : StrictSituation) → StrictlyDrainsTo cluster one s → StrictlyDrainsTo cluster other s → InLine one other
  drained_in_line one other s (comes _ is) b =
      inl (subst (λ (t : StrictSituation). Begins t.found.own other.found.own) (sym is) (drained_adds other s b))
  drained_in_line one other s (goes_on _ n oldest rest) (comes _ is) =
      inr (subst (λ (t : StrictSituation). Begins t.found.own one.found.own) (sym is) (drained_adds one s (goes_on s n oldest rest)))
  drained_in_line one other s (goes_on _ n oldest rest) (goes_on _ k oldest' rest') =
      drained_in_line one other (tried_strictly cluster s (receiver_in s.found n) (MessageEvent n)) rest
      (subst (λ m. StrictlyDrainsTo cluster other (tried_strictly cluster s (receiver_in s.found m) (MessageEvent m)))
      (one_oldest s.found k n oldest' oldest) rest')

  comes_in_line : (number : ℕ) (step : Step) (s one other : StrictSituation) → StrictlyComesTo cluster number step s one
      → StrictlyComesTo cluster number step s other → InLine one other
  comes_in_line number (Begin txn) s one other a b = inl (same_end number (Begin txn) s one other a b)
  comes_in_line number (Deliver message) s one other a b = inl (same_end number (Deliver message) s one other a b)
  comes_in_line number (Drop message) s one other a b = inl (same_end number (Drop message) s one other a b)
  comes_in_line number (Recover txn node) s one other a b = inl (same_end number (Recover txn node) s one other a b)
  comes_in_line number (Slow txn) s one other a b = inl (same_end number (Slow txn) s one other a b)
  comes_in_line number (Restart actor choice) s one other a b = inl (same_end number (Restart actor choice) s one other a b)
  comes_in_line number (Fail actor calls) s one other a b = inl (same_end number (Fail actor calls) s one other a b)
  comes_in_line number Drain s one other a b = drained_in_line one other s a b

  -- a step that ends comes only to beginnings of its end
  pub whole_drain : (next s : StrictSituation) → StrictDrains cluster next s → StrictlyDrainsTo cluster next s
  whole_drain next s (stops _ none is) = comes s is
  whole_drain next s (delivers_one _ n oldest rest) =
      goes_on s n oldest (whole_drain next (tried_strictly cluster s (receiver_in s.found n) (MessageEvent n)) rest)

  drained_within : (reached next s : StrictSituation) → StrictlyDrainsTo cluster reached s → StrictDrains cluster next s
      → Begins reached.found.own next.found.own
  drained_within reached next s (comes _ is) drains =
      subst (λ (t : StrictSituation). Begins t.found.own next.found.own) (sym is) (drained_adds next s (whole_drain next s drains))
  drained_within reached next s (goes_on _ n oldest rest) (stops _ none is) = absurd (true≢false (sym oldest.0 ∙ none n))
  drained_within reached next s (goes_on _ n oldest rest) (delivers_one _ k oldest' rest') =
      drained_within reached next (tried_strictly cluster s (receiver_in s.found n) (MessageEvent n)) rest
      (subst (λ m. StrictDrains cluster next (tried_strictly cluster s (receiver_in s.found m) (MessageEvent m)))
      (one_oldest s.found k n oldest' oldest) rest')

  pub comes_within : (number : ℕ) (step : Step) (s reached next : StrictSituation) → StrictlyComesTo cluster number step s reached
      → IsStrictNext cluster number step s next → Begins reached.found.own next.found.own
  comes_within number (Begin txn) s reached next a b = same_end number (Begin txn) s reached next a b
  comes_within number (Deliver message) s reached next a b = same_end number (Deliver message) s reached next a b
  comes_within number (Drop message) s reached next a b = same_end number (Drop message) s reached next a b
  comes_within number (Recover txn node) s reached next a b = same_end number (Recover txn node) s reached next a b
  comes_within number (Slow txn) s reached next a b = same_end number (Slow txn) s reached next a b
  comes_within number (Restart actor choice) s reached next a b = same_end number (Restart actor choice) s reached next a b
  comes_within number (Fail actor calls) s reached next a b = same_end number (Fail actor calls) s reached next a b
  comes_within number Drain s reached next a b = drained_within reached next s a b

  reached_in_line : (number : ℕ) (steps : List Step) (s one other : StrictSituation) → StrictlyReaches cluster number steps s one
      → StrictlyReaches cluster number steps s other → InLine one other
  reached_in_line number [] s one other a b =
      inl (subst (λ (t : StrictSituation). Begins one.found.own t.found.own) (a ∙ sym b) (begins_itself one.found.own))
  reached_in_line number (step ∷ steps) s one other (inl a) (inl b) = comes_in_line number step s one other a b
  reached_in_line number (step ∷ steps) s one other (inl a) (inr b) =
      inl
      (begins_chain one.found.own b.0.found.own other.found.own (comes_within number step s one b.0 a b.1)
      (reaches_adds (number + 1) steps b.0 other b.2))
  reached_in_line number (step ∷ steps) s one other (inr a) (inl b) =
      inr
      (begins_chain other.found.own a.0.found.own one.found.own (comes_within number step s other a.0 b a.1)
      (reaches_adds (number + 1) steps a.0 one a.2))
  reached_in_line number (step ∷ steps) s one other (inr a) (inr b) =
      reached_in_line (number + 1) steps a.0 one other a.2
      (subst (λ next. StrictlyReaches cluster (number + 1) steps next other) (one_next cluster number step s b.0 a.0 b.1 a.1) b.2)

  -- ---- with some answers

  drained_answered : (reached : StrictSituation) (before : Answers) (s : StrictSituation) → StrictlyDrainsTo cluster reached s
      → (answers : Answers) × AgreeBelow before answers (length s.found.own) × DrainsTo cluster answers reached.found s.found
  drained_answered reached before s (comes _ is) =
      (before, λ place low. (refl, refl), arrives s.found (ap (λ (t : StrictSituation). t.found) is))
  drained_answered reached before s (goes_on _ n oldest rest) =
      let a : Actor = receiver_in s.found n in
      let now : Answers = step_answers s.disks a in
      let count : ℕ = length s.found.own in
      let first : Answers = behind count before now in
      let more = drained_answered reached first (tried_strictly cluster s a (MessageEvent n)) rest in
      let adds : length (tried cluster now s.found a (MessageEvent n)).own ≡ suc count = tried_length cluster now s.found a (MessageEvent n) in
      let here = more.1 count (next_below adds) in (
        more.0,
        agree_on before first more.0 count (length (tried cluster now s.found a (MessageEvent n)).own) (next_most adds)
            (agree_behind count before now) more.1,
        delivers s.found n oldest
            (subst (DrainsTo cluster more.0 reached.found)
            (tried_with cluster now more.0 s.found a (MessageEvent n) (sym (fails_behind count before now) ∙ here.0)) more.2),
      )
    where
      next_below : {n k : ℕ} → k ≡ suc n → n < k
      next_below h = omega arith

      next_most : {n k : ℕ} → k ≡ suc n → n ≤ k
      next_most h = omega arith

  module _ (before : Answers) (number : ℕ) (s reached : StrictSituation) where
    comes_answered : (step : Step) → StrictlyComesTo cluster number step s reached
        → (answers : Answers) × AgreeBelow before answers (length s.found.own) × ComesTo cluster answers number step s.found reached.found
    comes_answered (Begin txn) is = next_answered cluster before number s reached (Begin txn) is
    comes_answered (Deliver message) is = next_answered cluster before number s reached (Deliver message) is
    comes_answered (Drop message) is = next_answered cluster before number s reached (Drop message) is
    comes_answered (Recover txn node) is = next_answered cluster before number s reached (Recover txn node) is
    comes_answered (Slow txn) is = next_answered cluster before number s reached (Slow txn) is
    comes_answered (Restart actor choice) is = next_answered cluster before number s reached (Restart actor choice) is
    comes_answered (Fail actor calls) is = next_answered cluster before number s reached (Fail actor calls) is
    comes_answered Drain drains = drained_answered reached before s drains

  reaches_answered : (before : Answers) (number : ℕ) (steps : List Step) (s reached : StrictSituation) → StrictlyReaches cluster number steps s reached
      → (answers : Answers) × AgreeBelow before answers (length s.found.own) × Reaches cluster answers number steps s.found reached.found
  reaches_answered before number [] s reached is = (before, λ place low. (refl, refl), ap (λ (t : StrictSituation). t.found) is)
  reaches_answered before number (step ∷ steps) s reached (inl part) =
      let found = comes_answered before number s reached step part in (found.0, found.1, inl found.2)
  reaches_answered before number (step ∷ steps) s reached (inr further) =
      let next : StrictSituation = further.0 in
      let one = next_answered cluster before number s next step further.1 in
      let more = reaches_answered one.0 (number + 1) steps next reached further.2 in (
        more.0,
        agree_on before one.0 more.0 (length s.found.own) (length next.found.own)
            (next_grows cluster one.0 number step s.found next.found one.2) one.1 more.1,
        inr (next.found, next_same cluster one.0 more.0 number step s.found next.found more.1 one.2, more.2),
      )

-- ---- laws

module _ (plan : Content) where
  pub strict_fronts_in_line : (one other : List Item) → IsStrictFront plan one → IsStrictFront plan other → length one ≤ length other → Begins one other
  strict_fronts_in_line one other a b less =
      by (reached_in_line (cluster_of plan) 0 plan.steps (opened_strictly []) a.reached b.reached a.reaches b.reaches)
    where
      by : Begins a.reached.found.own b.reached.found.own ⊎ Begins b.reached.found.own a.reached.found.own → Begins one other
      by (inl first) = both_begin one other b.reached.found.own (begins_chain one a.reached.found.own b.reached.found.own a.begins first) b.begins less
      by (inr first) = both_begin one other a.reached.found.own a.begins (begins_chain other b.reached.found.own a.reached.found.own b.begins first) less

  pub part_is_strict_front : (front items : List Item) → Begins front items → IsStrictFront plan items → IsStrictFront plan front
  part_is_strict_front front items begins is =
      record { reached = is.reached; reaches = is.reaches; begins = begins_chain front items is.reached.found.own begins is.begins }

  pub one_strict_front : (one other : List Item) (which which_other : Which) (n k : ℕ) → StrictLimitEnds plan one which n
      → StrictLimitEnds plan other which_other k → (one ≡ other) × (which ≡ which_other) × (n ≡ k)
  one_strict_front = one_end (IsStrictFront plan) strict_fronts_in_line part_is_strict_front

  pub strict_front_answered : (items : List Item) → IsStrictFront plan items → (answers : Answers) × IsFront plan answers items
  strict_front_answered items is =
      let found = reaches_answered (cluster_of plan) no_faults 0 plan.steps (opened_strictly []) is.reached is.reaches in
      (found.0, record { reached = is.reached.found; reaches = found.2; begins = is.begins })

  pub strict_limit_answered : (items : List Item) (which : Which) (number : ℕ) → StrictLimitEnds plan items which number
      → (answers : Answers) × LimitEnds plan answers items which number
  strict_limit_answered items which number ends =
      let found = strict_front_answered (ends.next ∷ items) ends.front in
      (found.0, record { next = ends.next; front = found.1; within = ends.within; passed = ends.passed })
