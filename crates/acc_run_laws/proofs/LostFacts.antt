-- A run goes on with a step that was passed over, with a down, and with lost entries and their restart.
use Rattle.std.proofs.Common.{◌≡◌, ◌==◌, ℕ, suc, ◌-◌, Bool, true, false, not, cond, max, nat_lt, ◌&&◌, ◌||◌, List, [], ◌∷◌, length, refl, ◌∙◌, ap, subst, arith}
use Rattle.std.specs.Bool.{beq}
use Rattle.std.proofs.lemmas.Bool.{or_left, or_right, and_from, eq-eqb}
use Rattle.std.proofs.lemmas.Bool.Decides.{nat_tests}
use Rattle.acc_stamp.specs.declared.actors.Actor.{Actor}
use Rattle.acc_message.specs.declared.entry.Entry.{Entry}
use Rattle.acc_message.specs.declared.entry.Event.TheVariants.{Restart as RestartEvent}
use Rattle.acc_message.specs.declared.item.Skip.{Skip}
use Rattle.acc_message.specs.declared.item.Item.{Item}
use Rattle.acc_message.specs.declared.item.Item.TheVariants.{Skipped, Down}
use Rattle.acc_message.specs.Items.{same_actor}
use Rattle.acc_message.specs.NodeRules.{Restarts}
use Rattle.acc_message.specs.Run.{Cluster, EachStands, kept_of, lost_fit, is_down, is_restart_event, downs_end, IsRun}
use Rattle.acc_run_laws.specs.AskLaws.{with_entries, AreLostOf, restart_at}
use Rattle.acc_run_laws.proofs.AskFacts.{stands_by}

pub skip_is_run : (cluster : Cluster) (items : List Item) (step : ℕ) (cause : Skip) → IsRun cluster items → IsRun cluster (Skipped step cause ∷ items)
skip_is_run cluster items step cause run = record { stands = (tt, run.stands); lost = run.lost; downs = run.downs }

pub down_is_run : (cluster : Cluster) (items : List Item) (a : Actor) → IsRun cluster items → IsRun cluster (Down a ∷ items)
down_is_run cluster items a run =
    record {
      stands = (tt, run.stands);
      lost = λ b. and_from (not (same_actor a b) || true) (lost_fit b 0 items) (or_right (not (same_actor a b)) true refl) (run.lost b);
      downs = run.downs;
    }

-- ---- lost entries

lost_stand : (cluster : Cluster) (a : Actor) (items : List Item) (entries : List Entry) → EachStands cluster items → AreLostOf cluster a items entries
    → EachStands cluster (with_entries entries items)
lost_stand cluster a items [] h l = h
lost_stand cluster a items (e ∷ entries) h l = (l.0.stands, lost_stand cluster a items entries h l.1)

lost_follow : (cluster : Cluster) (a : Actor) (items : List Item) (entries : List Entry) → downs_end items ≡ true → AreLostOf cluster a items entries
    → downs_end (with_entries entries items) ≡ true
lost_follow cluster a items [] h l = h
lost_follow cluster a items (e ∷ entries) h l =
    and_from _ _ (or_left (not (is_down e.actor (with_entries entries items)) || e.lost) (is_restart_event e.event)
    (or_right (not (is_down e.actor (with_entries entries items))) e.lost l.0.lost))
    (lost_follow cluster a items entries h l.1)

-- of the actor, so many are owed
lost_fit_own : (cluster : Cluster) (a : Actor) (items : List Item) (entries : List Entry) → lost_fit a 0 items ≡ true → AreLostOf cluster a items entries
    → lost_fit a (length entries) (with_entries entries items) ≡ true
lost_fit_own cluster a items [] h l = h
lost_fit_own cluster a items (e ∷ entries) h l =
    let here : same_actor e.actor a ≡ true = eq-eqb e.actor.0 a.0 (ap (λ (b : Actor). b.0) l.0.actor_is) in
    and_from _ _
    (or_right (not (same_actor e.actor a)) _ (ap (λ b. beq b (nat_lt 0 (suc (length entries)))) l.0.lost ∙ ap (beq true) (some_owed (length entries))))
    (ap (λ b. lost_fit a (cond b (max (suc (length entries) - 1) (kept_of e.event)) (suc (length entries))) (with_entries entries items)) here
    ∙ ap (λ n. lost_fit a n (with_entries entries items)) (ap (max (suc (length entries) - 1)) l.0.kept_none ∙ one_less (length entries))
    ∙ lost_fit_own cluster a items entries h l.1)
  where
    some_owed : (n : ℕ) → nat_lt 0 (suc n) ≡ true
    some_owed n = grind (arith, nat_tests)

    one_less : (n : ℕ) → max (suc n - 1) 0 ≡ n
    one_less n = omega arith

-- of another actor nothing is
lost_fit_other : (cluster : Cluster) (a b : Actor) (items : List Item) (entries : List Entry) → same_actor a b ≡ false → lost_fit b 0 items ≡ true
    → AreLostOf cluster a items entries → lost_fit b 0 (with_entries entries items) ≡ true
lost_fit_other cluster a b items [] apart h l = h
lost_fit_other cluster a b items (e ∷ entries) apart h l =
    let there : same_actor e.actor b ≡ false = ap (λ c. same_actor c b) l.0.actor_is ∙ apart in
    ap (λ s. (not s || beq e.lost (nat_lt 0 0)) && lost_fit b (cond s (max (0 - 1) (kept_of e.event)) 0) (with_entries entries items)) there
    ∙ lost_fit_other cluster a b items entries apart h l.1

restart_fits : (cluster : Cluster) (a b : Actor) (items : List Item) (entries : List Entry) → (same : Bool) → same_actor a b ≡ same
    → lost_fit b 0 items ≡ true → AreLostOf cluster a items entries
    → ((not same || beq false (nat_lt 0 0)) && lost_fit b (cond same (max (0 - 1) (length entries)) 0) (with_entries entries items)) ≡ true
restart_fits cluster a b items entries false is h l = lost_fit_other cluster a b items entries is h l
restart_fits cluster a b items entries true is h l =
    ap (λ n. lost_fit b n (with_entries entries items)) (no_less (length entries))
    ∙ lost_fit_own cluster b items entries h (subst (λ c. AreLostOf cluster c items entries) (same a b is) l)
  where
    no_less : (n : ℕ) → max (0 - 1) n ≡ n
    no_less n = omega arith

    same : (c d : Actor) → same_actor c d ≡ true → c ≡ d
    same c d k = place (number k)
      where
        number : (c.0 == d.0) ≡ true → c.0 ≡ d.0
        number h = grind (arith, nat_tests)

        place : c.0 ≡ d.0 → c ≡ d
        place p = λ i. record { 0 = p i }

pub restart_is_run : (cluster : Cluster) (a : Actor) (items : List Item) (entries : List Entry) → IsRun cluster items → AreLostOf cluster a items entries
    → IsRun cluster (restart_at cluster (with_entries entries items) a (length entries) ∷ with_entries entries items)
restart_is_run cluster a items entries run l =
    let before : List Item = with_entries entries items in
    record {
      stands = (stands_by cluster before a (RestartEvent (length entries)) Restarts refl tt, lost_stand cluster a items entries run.stands l);
      lost = λ b. restart_fits cluster a b items entries (same_actor a b) refl (run.lost b) l;
      downs = and_from _ _ (restarts (is_down a before)) (lost_follow cluster a items entries run.downs l);
    }
  where
    restarts : (down : Bool) → (not down || false || true) ≡ true
    restarts true = refl
    restarts false = refl
