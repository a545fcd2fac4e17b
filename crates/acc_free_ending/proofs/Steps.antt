-- The next command of an actor, as a cluster takes it.
use Rattle.std.proofs.Common.{◌≡◌, ℕ, ◌+◌, ◌<◌, ◌≤◌, Bool, true, false, List, [], ◌∷◌, reverse, length, drop, get_or, Contains, IsTrue, Result, Ok, Err, IfErr, OnOk, refl, sym, ◌∙◌, ap, subst, arith, ◌⊎◌, ⊎_elim}
use Rattle.std.specs.Result.{IsErrAnd}
use Rattle.std.proofs.lemmas.Bool.{true≢false}
use Rattle.std.proofs.lemmas.List.{reverse-reverse}
use Rattle.std.proofs.lemmas.Result.{err_from_is_err_and}
use Rattle.acc_stamp.specs.declared.actors.Actor.{Actor}
use Rattle.acc_ports.specs.declared.disk.Disk.{Ghosts}
use Rattle.acc_message.specs.declared.item.Item.{Item}
use Rattle.acc_message.specs.declared.error.Which.{Which}
use Rattle.acc_message.specs.declared.error.RunError.{RunError}
use Rattle.acc_message.specs.declared.error.RunError.TheVariants.{Limit, OutOfMemory}
use Rattle.acc_message.specs.Items.{same_actor}
use Rattle.acc_safety.specs.Places.{IsIn, First}
use Rattle.acc_safety.proofs.Bridge.{same}
use Rattle.acc_safety.proofs.PlaceOrder.{IsIn-append_right, IsIn-filter, each_at}
use Rattle.acc_schedule.specs.Actors.{actors}
use Rattle.acc_schedule.specs.Content.{Content}
use Rattle.acc_schedule.specs.Plan.{IsStep, IsPlan}
use Rattle.acc_schedule.specs.declared.plan.Step.{Step}
use Rattle.acc_schedule.specs.declared.plan.Step.TheVariants.{Begin, Deliver, Drop, Recover, Slow, Restart, Fail, Drain}
use Rattle.acc_pasts.proofs.Situations.{whole_alone}
use Rattle.acc_schedule_runs.specs.Situations.{Situation, whole}
use Rattle.acc_schedule_runs.specs.Moves.{Answers, IsNext}
use Rattle.acc_schedule_runs.specs.Schedules.{cluster_of}
use Rattle.acc_schedule_runs.specs.Laws.{NobodyIsDown}
use Rattle.acc_schedule_runs.specs.StrictMoves.{StrictSituation, IsStrictNext}
use Rattle.acc_schedule_runs.specs.Limits.{EndsAt}
use Rattle.acc_schedule_runs.proofs.Answering.{next_answered}
use Rattle.acc_schedule_runs.specs.Fronts.{ComesTo, Begins}
use Rattle.acc_schedule_runs.specs.StrictFronts.{StrictlyComesTo}
use Rattle.acc_schedule_runs.proofs.Beginnings.{begins_itself, begins_chain}
use Rattle.acc_schedule_runs.proofs.Reached.{next_adds}
use Rattle.acc_cluster.specs.declared.cluster.Cluster.{Cluster}
use Rattle.acc_cluster.specs.Stands.{StandsFor, StandsStrictly}
use Rattle.acc_cluster.specs.Steps.{change, StepsTo, StepsStrictly, IfLimit, EndsIn, LimitLeaves, EndsStrictlyIn}
use Rattle.acc_cluster.specs.Limits.{HasEntered}
use Rattle.acc_cluster.proofs.Limited.{entered_there}
use Rattle.acc_free_laws.specs.Commands.{is_command_of, IsPassed, IsReady, IsHeld}
use Rattle.acc_free_laws.specs.Serving.{IsServing, HasGone}
use Rattle.acc_free_ending.specs.declared.rest.Queue.{Queue}
use Rattle.acc_free_ending.specs.Queues.{left_in}
use Rattle.acc_free_ending.proofs.Lists.{none_left, one_left}
use Rattle.acc_free_ending.specs.declared.command.Turn.TheVariants.{Takes, Passes, Waits}
use Rattle.acc_free_ending.specs.Moves.{progress, StaysUp, Serves, IsTurn, HasMoved, EachWent, IsFreeFront, StopsFreely}
use Rattle.acc_free_ending.proofs.Strictly.{up_command}

-- an error that is handed on
pub handed_on : {X : Type 0} (P : RunError → Type 0) (result : Result X RunError) (error : RunError) → IsErrAnd result (λ e. e ≡ error) → P error → IfErr result P
handed_on P result error is p =
    let found = err_from_is_err_and result is in
    subst (λ r. IfErr r P) (sym (found.1 ∙ ap Err found.2)) p

-- what follows in each case
pub on_ok : {X E : Type 0} (P Q : Type 0) (result : Result X E) → (P → Q) → OnOk result P → OnOk result Q
on_ok P Q (Ok x) f h = f h
on_ok P Q (Err e) f h = tt

pub map_limit : (P Q : Which → ℕ → Type 0) → ((which : Which) (number : ℕ) → P which number → Q which number) → (error : RunError) → IfLimit P error → IfLimit Q error
map_limit P Q f (Limit which number) h = f which number h
map_limit P Q f OutOfMemory h = tt

pub on_limit : {X : Type 0} (P Q : Which → ℕ → Type 0) (result : Result X RunError) → ((which : Which) (number : ℕ) → P which number → Q which number)
    → IfErr result (IfLimit P) → IfErr result (IfLimit Q)
on_limit P Q (Ok x) f h = tt
on_limit P Q (Err error) f h = map_limit P Q f error h

pub limit_handed : {X : Type 0} (P Q : Which → ℕ → Type 0) (result : Result X RunError) (error : RunError) → IsErrAnd result (λ e. e ≡ error)
    → ((which : Which) (number : ℕ) → P which number → Q which number) → IfLimit P error → IfErr result (IfLimit Q)
limit_handed P Q result error is f p = handed_on (IfLimit Q) result error is (map_limit P Q f error p)

pub both_limits : (P Q : Which → ℕ → Type 0) (error : RunError) → IfLimit P error → IfLimit Q error → IfLimit (λ which number. P which number × Q which number) error
both_limits P Q (Limit which number) p q = (p, q)
both_limits P Q OutOfMemory p q = tt

pub both_on_limit : {X : Type 0} (P Q : Which → ℕ → Type 0) (result : Result X RunError) → IfErr result (IfLimit P) → IfErr result (IfLimit Q)
    → IfErr result (IfLimit (λ which number. P which number × Q which number))
both_on_limit P Q (Ok x) p q = tt
both_on_limit P Q (Err error) p q = both_limits P Q error p q

pub both_on_ok : {X E : Type 0} (P Q : Type 0) (result : Result X E) → OnOk result P → OnOk result Q → OnOk result (P × Q)
both_on_ok P Q (Ok x) p q = (p, q)
both_on_ok P Q (Err e) p q = tt

-- any answers
pub some_answers : Answers
some_answers = record { fails = λ place. false; keeps = λ place. false }

-- a limit of a later front
pub ends_later : {D : Type 0} (port : Ghosts D) (strict_run : Bool) (plan : Content) (one other : List Item) (cluster : Cluster D) (which : Which) (number : ℕ) → Begins one other
    → StopsFreely port strict_run plan other cluster which number → StopsFreely port strict_run plan one cluster which number
ends_later port strict_run plan one other cluster which number begins e =
    let f = e.ends.front in
    record {
      items = e.items;
      ends =
          record {
            next = e.ends.next;
            front =
                record {
                  reached = f.reached;
                  serving = f.serving;
                  went = f.went;
                  behind = begins_chain one other f.reached.own begins f.behind;
                  begins = f.begins;
                  stayed = f.stayed;
                };
            within = e.ends.within;
            passed = e.ends.passed;
          };
      reached = e.reached;
      serving = e.serving;
      stops = e.stops;
    }

-- a cluster has entered one list
pub same_entered : {D : Type 0} (cluster : Cluster D) (items other : List Item) → HasEntered cluster items → HasEntered cluster other → items ≡ other
same_entered cluster items other is also = sym (reverse-reverse items) ∙ ap reverse (sym is ∙ also) ∙ reverse-reverse other

-- one actor's commands go by, and all others' stay
pub each_goes_on : (plan : Content) (a : Actor) (s reached : Situation) (now : List Step) → HasGone plan reached a now
    → ((b : Actor) (left : List Step) → same_actor a b ≡ false → HasGone plan s b left → HasGone plan reached b left) → EachWent plan s → EachWent plan reached
each_goes_on plan a s reached now own others each b member = by (same_actor a b) refl (each b member)
  where
    by : (test : Bool) → same_actor a b ≡ test → (left : List Step) × HasGone plan s b left → (left : List Step) × HasGone plan reached b left
    by true is h = (now, subst (λ (c : Actor). HasGone plan reached c now) (same a b is) own)
    by false is h = (h.0, others b h.0 is h.1)

-- ---- whose command it is

module _ (plan : Content) (valid : IsPlan plan) (s : Situation) (a : Actor) (command : Step) (left : List Step) (gone : HasGone plan s a (command ∷ left)) where
  own_step : (is_command_of (cluster_of plan) a command ≡ true) × IsStep (length plan.names) plan.topology command
  own_step =
      let found = IsIn-filter (is_command_of (cluster_of plan) a) command plan.steps
      (subst (λ (l : List Step). IsIn command l) (sym gone.split) (IsIn-append_right command (reverse gone.gone) (command ∷ left) (First command left))) in
      (found.1, each_at (IsStep (length plan.names) plan.topology) command plan.steps valid.steps_known found.0)

  pub is_own : is_command_of (cluster_of plan) a command ≡ true
  is_own = own_step.0

  pub is_known : IsStep (length plan.names) plan.topology command
  is_known = own_step.1

-- the next command of a queue
pub next_in : (queue : Queue) (items : List Step) (other : Step) → items ≡ queue.commands → queue.gone < length items
    → left_in queue ≡ get_or items queue.gone other ∷ drop (queue.gone + 1) queue.commands
next_in queue items other same within =
    subst (λ (l : List Step). drop queue.gone l ≡ get_or items queue.gone other ∷ drop (queue.gone + 1) l) same (one_left items queue.gone other within)

-- the queue is done
pub none_in : (queue : Queue) (items : List Step) → items ≡ queue.commands → length items ≤ queue.gone → left_in queue ≡ []
none_in queue items same past = subst (λ (l : List Step). drop queue.gone l ≡ []) same (none_left items queue.gone past)

-- ---- what a command leads to

-- the law of commands that go by
abbrev pub PassedLaw : Type 0
PassedLaw =
    (plan : Content) (s : Situation) (a : Actor) (command : Step) (left : List Step) → IsServing plan s → IsPassed a (whole s) command → HasGone plan s a (command ∷ left)
    → HasGone plan s a left

-- the law of commands that are taken
abbrev pub CommandLaw : Type 0
CommandLaw =
    (plan : Content) (answers : Answers) (number : ℕ) (s next : Situation) (a : Actor) (command : Step) (left : List Step) → IsPlan plan
    → Contains (actors plan.topology) a → IsReady a (whole s) command → IsNext (cluster_of plan) answers number command s next → IsServing plan s
    → HasGone plan s a (command ∷ left)
    → IsServing plan next × HasGone plan next a left
    × ((b : Actor) (other : List Step) → same_actor a b ≡ false → HasGone plan s b other → HasGone plan next b other)

one_less : {X : Type 0} (before now : List X) (x : X) → before ≡ x ∷ now → length now < length before
one_less {X} before now x is = subst (λ (l : List X). length now < length l) (sym is) (omega arith)

less_or : (n m : ℕ) → n < m → n ≤ m
less_or n m lt = omega (arith, lt)

not_less : (n : ℕ) → n ≤ n
not_less n = omega arith

module _ {D : Type 0} (port : Ghosts D) (strict_run : Bool) (plan : Content) (a : Actor) (s : Situation) where
  -- nothing went by
  pub stays : (cluster : Cluster D) (before : List Step) → Serves port strict_run plan cluster s → HasGone plan s a before → IsHeld s.own before
      → HasMoved port strict_run plan a (progress before before false) cluster s
  stays cluster before serves gone held = record {
    next = s;
    serves = serves;
    gone = gone;
    others = λ b left apart went. went;
    behind = begins_itself s.own;
    less = not_less (length before);
    fewer = λ is. absurd (true≢false (sym is));
    held = λ is. (refl, held);
  }

  -- none is left
  pub nothing_left : (cluster : Cluster D) (before : List Step) → Serves port strict_run plan cluster s → HasGone plan s a before → before ≡ []
      → HasMoved port strict_run plan a (progress before before false) cluster s
  nothing_left cluster before serves gone none = stays cluster before serves gone (subst (IsHeld s.own) (sym none) tt)

  module _ (before now : List Step) (command : Step) (is : before ≡ command ∷ now) (gone : HasGone plan s a before) where
    pub gone_on : HasGone plan s a (command ∷ now)
    gone_on = subst (HasGone plan s a) is gone

    pub waits_still : (cluster : Cluster D) → Serves port strict_run plan cluster s → IsTurn Waits a (whole s) command → HasMoved port strict_run plan a (progress before before false) cluster s
    waits_still cluster serves turn =
        stays cluster before serves gone
        (subst (IsHeld s.own) (sym is) (subst (λ (items : List Item). IsHeld items (command ∷ now)) (whole_alone s serves.serving.earlier) (turn now)))

    pub passes_on : PassedLaw → (cluster : Cluster D) → Serves port strict_run plan cluster s → IsTurn Passes a (whole s) command
        → HasMoved port strict_run plan a (progress before now true) cluster s
    passes_on law cluster serves turn =
        let less : length now < length before = one_less before now command is in
        record {
          next = s;
          serves = serves;
          gone = law plan s a command now serves.serving turn gone_on;
          others = λ b left apart went. went;
          behind = begins_itself s.own;
          less = less_or (length now) (length before) less;
          fewer = λ _. less;
          held = λ is. absurd (true≢false is);
        }

    -- the command's next situation
    taken_to : CommandLaw → IsPlan plan → Contains (actors plan.topology) a → (new : Cluster D) → IsServing plan s → IsTurn Takes a (whole s) command
        → (answers : Answers) (next : Situation) → IsNext (cluster_of plan) answers 0 command s next → StandsFor port plan new next
        → (strict_run ≡ true → StaysUp port plan new next)
        → HasMoved port strict_run plan a (progress before now true) new s
    taken_to law valid there new serving turn answers next is_next stands stayed =
        let less : length now < length before = one_less before now command is in
        let goes = law plan answers 0 s next a command now valid there turn is_next serving gone_on in
        record {
          next = next;
          serves = record { stands = stands; serving = goes.0; stayed = stayed };
          gone = goes.1;
          others = goes.2;
          behind = next_adds (cluster_of plan) answers 0 command s next is_next;
          less = less_or (length now) (length before) less;
          fewer = λ _. less;
          held = λ is. absurd (true≢false is);
        }

    pub goes_on : CommandLaw → IsPlan plan → Contains (actors plan.topology) a → (answers : Answers) (old new : Cluster D)
        → Serves port strict_run plan old s → IsTurn Takes a (whole s) command
        → StepsTo port plan answers 0 command (change old new) s
        → ((t : StrictSituation) → StandsStrictly port plan old t
        → StepsStrictly port plan 0 command new t)
        → HasMoved port strict_run plan a (progress before now true) new s
    goes_on law valid there answers old new serves turn steps strictly = by strict_run refl
      where
        by : (test : Bool) → strict_run ≡ test → HasMoved port strict_run plan a (progress before now true) new s
        by false off =
            taken_to law valid there new serves.serving turn steps.other steps.next steps.next_is steps.stands
            (λ on. absurd (true≢false (sym on ∙ off)))
        by true on =
            let up = serves.stayed on in
            let t : StrictSituation = record { found = s; disks = up.disks } in
            let n = strictly t (record { stands = serves.stands; strictly = up.strictly }) in
            let found = next_answered (cluster_of plan) some_answers 0 t n.next command n.next_is in
            let later = up_command (cluster_of plan) 0 a command t n.next (is_own plan valid s a command now gone_on) n.next_is
            (record { unarmed = up.unarmed; up = up.up }) in
            taken_to law valid there new serves.serving turn found.0 n.next.found found.2 n.stands.stands
            (λ _. record { disks = n.next.disks; strictly = n.stands.strictly; unarmed = later.unarmed; up = later.up })

    -- ---- limits

    -- a command comes to its end
    comes_next : (answers : Answers) (reached : Situation) → IsReady a (whole s) command → ComesTo (cluster_of plan) answers 0 command s reached
        → IsNext (cluster_of plan) answers 0 command s reached
    comes_next = by command
      where
        by : (command : Step) (answers : Answers) (reached : Situation) → IsReady a (whole s) command → ComesTo (cluster_of plan) answers 0 command s reached
            → IsNext (cluster_of plan) answers 0 command s reached
        by (Begin txn) answers reached ready comes = comes
        by (Recover txn node) answers reached ready comes = comes
        by (Restart actor choice) answers reached ready comes = comes
        by (Deliver message) answers reached ready comes = absurd ready
        by (Drop message) answers reached ready comes = absurd ready
        by (Slow txn) answers reached ready comes = absurd ready
        by (Fail actor calls) answers reached ready comes = absurd ready
        by Drain answers reached ready comes = absurd ready

    strictly_next : (reached t : StrictSituation) → IsReady a (whole s) command → StrictlyComesTo (cluster_of plan) 0 command t reached
        → IsStrictNext (cluster_of plan) 0 command t reached
    strictly_next = by command
      where
        by : (command : Step) (reached t : StrictSituation) → IsReady a (whole s) command → StrictlyComesTo (cluster_of plan) 0 command t reached
            → IsStrictNext (cluster_of plan) 0 command t reached
        by (Begin txn) reached t ready comes = comes
        by (Recover txn node) reached t ready comes = comes
        by (Restart actor choice) reached t ready comes = comes
        by (Deliver message) reached t ready comes = absurd ready
        by (Drop message) reached t ready comes = absurd ready
        by (Slow txn) reached t ready comes = absurd ready
        by (Fail actor calls) reached t ready comes = absurd ready
        by Drain reached t ready comes = absurd ready

    -- the front after the command
    front_of : CommandLaw → IsPlan plan → Contains (actors plan.topology) a → IsServing plan s → IsTurn Takes a (whole s) command → EachWent plan s
        → (front : List Item) (answers : Answers) (reached : Situation) → IsNext (cluster_of plan) answers 0 command s reached → Begins front reached.own
        → (IsTrue strict_run → NobodyIsDown reached.own) → IsFreeFront strict_run plan s.own front
    front_of law valid there serving turn each front answers reached next begins stayed =
        let goes = law plan answers 0 s reached a command now valid there turn next serving gone_on in
        record {
          reached = reached;
          serving = goes.0;
          went = each_goes_on plan a s reached now goes.1 goes.2 each;
          behind = next_adds (cluster_of plan) answers 0 command s reached next;
          begins = begins;
          stayed = stayed;
        }

    -- where the actors were led to
    led_serves : CommandLaw → IsPlan plan → Contains (actors plan.topology) a → IsServing plan s → IsTurn Takes a (whole s) command → (answers : Answers) (reached : Situation)
        → (reached ≡ s) ⊎ ComesTo (cluster_of plan) answers 0 command s reached → IsServing plan reached
    led_serves law valid there serving turn answers reached =
        ⊎_elim (λ same. subst (IsServing plan) (sym same) serving)
        (λ comes. (law plan answers 0 s reached a command now valid there turn (comes_next answers reached turn comes) serving gone_on).0)

    pub limit_in : CommandLaw → IsPlan plan → Contains (actors plan.topology) a → (answers : Answers) (which : Which) (number : ℕ) (old new : Cluster D)
        → Serves port strict_run plan old s → IsTurn Takes a (whole s) command
        → (e : EndsIn plan answers 0 command s which number) → LimitLeaves port plan old new s e.items e.reached
        → ((t : StrictSituation) → StandsStrictly port plan old t
        → (ends : EndsStrictlyIn plan 0 command t which number) × HasEntered new ends.items) → EachWent plan s → StopsFreely port strict_run plan s.own new which number
    limit_in law valid there answers which number old new serves turn e leaves strictly each = record {
      items = e.items;
      ends = by strict_run refl;
      reached = e.reached;
      serving = led_serves law valid there serves.serving turn e.other e.reached e.led;
      stops = leaves.stops;
    }
      where
        by : (test : Bool) → strict_run ≡ test → EndsAt (IsFreeFront strict_run plan s.own) e.items which number
        by false off =
            let ends = e.ends e.other (λ place below. (refl, refl)) in
            let f = ends.front in
            record {
              next = ends.next;
              front =
                  front_of law valid there serves.serving turn each (ends.next ∷ e.items) e.other f.0 (comes_next e.other f.0 turn f.1) f.2
                  (λ on. absurd (true≢false (sym on ∙ off)));
              within = ends.within;
              passed = ends.passed;
            }
        by true on =
            let up = serves.stayed on in
            let t : StrictSituation = record { found = s; disks = up.disks } in
            let said = strictly t (record { stands = serves.stands; strictly = up.strictly }) in
            let told = said.0 in
            let f = told.ends.front in
            let next : IsStrictNext (cluster_of plan) 0 command t f.0 = strictly_next f.0 t turn f.1 in
            let found = next_answered (cluster_of plan) some_answers 0 t f.0 command next in
            let later = up_command (cluster_of plan) 0 a command t f.0 (is_own plan valid s a command now gone_on) next
            (record { unarmed = up.unarmed; up = up.up }) in
            let ends : EndsAt (IsFreeFront strict_run plan s.own) told.items which number =
            record {
              next = told.ends.next;
              front =
                  front_of law valid there serves.serving turn each (told.ends.next ∷ told.items) found.0 f.0.found found.2 f.2 (λ _. later.up);
              within = told.ends.within;
              passed = told.ends.passed;
            } in
            subst (λ (items : List Item). EndsAt (IsFreeFront strict_run plan s.own) items which number)
            (same_entered new told.items e.items said.1 (entered_there port plan new e.items e.reached leaves.stops)) ends
