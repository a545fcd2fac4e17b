-- Several commands of an actor, one after another.
use Rattle.std.proofs.Common.{◌≡◌, ℕ, ◌<◌, ◌≤◌, Bool, true, false, List, length, refl, sym, ◌∙◌, subst, arith}
use Rattle.std.proofs.lemmas.Bool.{true≢false}
use Rattle.acc_stamp.specs.declared.actors.Actor.{Actor}
use Rattle.acc_ports.specs.declared.disk.Disk.{Ghosts}
use Rattle.acc_message.specs.declared.error.Which.{Which}
use Rattle.acc_message.specs.Items.{same_actor}
use Rattle.acc_schedule.specs.Content.{Content}
use Rattle.acc_schedule.specs.declared.plan.Step.{Step}
use Rattle.acc_schedule_runs.specs.Situations.{Situation}
use Rattle.acc_schedule_runs.specs.Fronts.{Begins}
use Rattle.acc_schedule_runs.proofs.Beginnings.{begins_itself, begins_chain}
use Rattle.acc_cluster.specs.declared.cluster.Cluster.{Cluster}
use Rattle.acc_free_laws.specs.Commands.{IsHeld}
use Rattle.acc_free_laws.specs.Serving.{HasGone}
use Rattle.acc_free_ending.specs.Moves.{progress, Serves, HasMoved, EachWent, StopsFreely}
use Rattle.acc_free_ending.proofs.Steps.{ends_later, each_goes_on}

-- some commands went by so far
pub record IsMoving {D : Type 0} (port : Ghosts D) (strict_run : Bool) (plan : Content) (a : Actor) (before now : List Step) (went : Bool) (cluster : Cluster D) (s : Situation) : Type 0 where
  pub reached : Situation
  pub serves : Serves port strict_run plan cluster reached
  pub gone : HasGone plan reached a now
  pub others : (b : Actor) (left : List Step) → same_actor a b ≡ false → HasGone plan s b left → HasGone plan reached b left
  pub behind : Begins s.own reached.own
  pub less : length now ≤ length before
  pub fewer : went ≡ true → length now < length before
  pub still : went ≡ false → reached ≡ s

le_chain : (a b c : ℕ) → a ≤ b → b ≤ c → a ≤ c
le_chain a b c p q = omega (arith, p, q)

lt_chain : (a b c : ℕ) → a < b → b ≤ c → a < c
lt_chain a b c p q = omega (arith, p, q)

le_lt_chain : (a b c : ℕ) → a ≤ b → b < c → a < c
le_lt_chain a b c p q = omega (arith, p, q)

module _ {D : Type 0} (port : Ghosts D) (strict_run : Bool) (plan : Content) (a : Actor) (s : Situation) where
  pub moving_none : (before : List Step) (cluster : Cluster D) → Serves port strict_run plan cluster s → HasGone plan s a before → IsMoving port strict_run plan a before before false cluster s
  moving_none before cluster serves gone = record {
    reached = s;
    serves = serves;
    gone = gone;
    others = λ b left apart went. went;
    behind = begins_itself s.own;
    less = omega arith;
    fewer = λ is. absurd (true≢false (sym is));
    still = λ is. refl;
  }

  -- the same actor, by another name
  module _ (before mid : List Step) (went : Bool) (cluster : Cluster D) (m : IsMoving port strict_run plan a before mid went cluster s) (b : Actor) (is : b ≡ a) where
    pub gone_so_far : HasGone plan m.reached b mid
    gone_so_far = subst (λ (c : Actor). HasGone plan m.reached c mid) (sym is) m.gone

    -- a limit of what follows
    pub moved_limit : (new : Cluster D) (which : Which) (number : ℕ)
        → ((t : Situation) → Serves port strict_run plan cluster t → HasGone plan t b mid → EachWent plan t → StopsFreely port strict_run plan t.own new which number) → EachWent plan s
        → StopsFreely port strict_run plan s.own new which number
    moved_limit new which number ends each =
        ends_later port strict_run plan s.own m.reached.own new which number m.behind (ends m.reached m.serves gone_so_far (each_goes_on plan a s m.reached mid m.gone m.others each))

    module _ (now : List Step) (moved : Bool) (new : Cluster D) (told : HasMoved port strict_run plan b (progress mid now moved) new m.reached) where
      move : HasMoved port strict_run plan a (progress mid now moved) new m.reached
      move = subst (λ (c : Actor). HasMoved port strict_run plan c (progress mid now moved) new m.reached) is told

      pub fewer_left : moved ≡ true → length now < length mid
      fewer_left = told.fewer

      pub moving_on : moved ≡ true → IsMoving port strict_run plan a before now true new s
      moving_on is_true =
          let fewer = lt_chain (length now) (length mid) (length before) (move.fewer is_true) m.less in
          record {
            reached = move.next;
            serves = move.serves;
            gone = move.gone;
            others = λ c left apart g. move.others c left apart (m.others c left apart g);
            behind = begins_chain s.own m.reached.own move.next.own m.behind move.behind;
            less = le_chain (length now) (length mid) (length before) move.less m.less;
            fewer = λ _. fewer;
            still = λ e. absurd (true≢false e);
          }

      pub moving_ended : moved ≡ false → HasMoved port strict_run plan a (progress before now went) new s
      moving_ended is_false =
          let kept = move.held is_false in
          record {
            next = move.next;
            serves = move.serves;
            gone = move.gone;
            others = λ c left apart g. move.others c left apart (m.others c left apart g);
            behind = begins_chain s.own m.reached.own move.next.own m.behind move.behind;
            less = le_chain (length now) (length mid) (length before) move.less m.less;
            fewer = λ e. le_lt_chain (length now) (length mid) (length before) move.less (m.fewer e);
            held = λ e. (kept.0 ∙ m.still e, subst (λ (t : Situation). IsHeld t.own now) (m.still e) kept.1);
          }
