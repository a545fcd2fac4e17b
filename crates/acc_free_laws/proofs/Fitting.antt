-- A free run stays one with what its actors enter.
use Rattle.std.proofs.Common.{◌≡◌, ℕ, ◌≤◌, true, false, IsTrue, List, [], ◌∷◌, Contains, refl, sym, ◌∙◌, ap, subst, arith}
use Rattle.std.specs.List.{AllByRecursion, list_all}
use Rattle.std.proofs.lemmas.Bool.{true≢false, and_from}
use Rattle.acc_stamp.specs.declared.actors.Actor.{Actor}
use Rattle.acc_message.specs.declared.entry.Entry.{Entry}
use Rattle.acc_message.specs.declared.entry.Event.{Event}
use Rattle.acc_message.specs.declared.entry.Event.TheVariants.{Begin, Recover, Slow, Message as TakesMessage, Restart}
use Rattle.acc_message.specs.declared.item.Item.{Item}
use Rattle.acc_message.specs.declared.item.Item.TheVariants.{Step, Down}
use Rattle.acc_message.specs.NodeRules.{Act}
use Rattle.acc_message.specs.Run.{kept_of, is_down, IsRun}
use Rattle.acc_run_laws.proofs.AskFacts.{nothing_is_run}
use Rattle.acc_run_laws.proofs.LostFacts.{down_is_run}
use Rattle.acc_schedule.specs.Actors.{actors}
use Rattle.acc_schedule.specs.Content.{Content}
use Rattle.acc_schedule_runs.specs.Moves.{is_journalled}
use Rattle.acc_schedule_runs.specs.Schedules.{cluster_of}
use Rattle.acc_pasts.specs.Entries.{entering, MayTake}
use Rattle.acc_pasts.proofs.Standing.{entry_run}
use Rattle.acc_free_laws.specs.FreeRun.{is_plain_event, is_plain, AreKnown, IsUntaken, TakenOnce, LostBehindDowns, IsJournalledIfLost, KeepsSixteen, IsFreeRun}

pub plain_if_journalled : (a : Actor) (event : Event) → is_journalled a event ≡ true → is_plain_event event ≡ true
plain_if_journalled a (Begin txn) journalled = refl
plain_if_journalled a (Recover txn) journalled = refl
plain_if_journalled a (Slow txn) journalled = absurd (true≢false (sym journalled))
plain_if_journalled a (TakesMessage number) journalled = refl
plain_if_journalled a (Restart kept) journalled = refl

pub kept_if_journalled : (a : Actor) (event : Event) → is_journalled a event ≡ true → kept_of event ≡ 0
kept_if_journalled a (Begin txn) journalled = refl
kept_if_journalled a (Recover txn) journalled = refl
kept_if_journalled a (Slow txn) journalled = refl
kept_if_journalled a (TakesMessage number) journalled = refl
kept_if_journalled a (Restart kept) journalled = absurd (true≢false (sym journalled))

few_if_none : (count : ℕ) → count ≡ 0 → count ≤ 16
few_if_none count none = omega (arith, none)

module _ (plan : Content) where
  pub nothing_fits : IsFreeRun plan []
  nothing_fits = record { run = (nothing_is_run (cluster_of plan)).run; plain = refl; known = tt; once = tt; behind = tt; journalled = tt; kept = tt }

  module _ (items : List Item) (a : Actor) (there : Contains (actors plan.topology) a) (h : IsFreeRun plan items) where
    -- an entry that isn't lost, of an actor that is up
    pub entry_fits : (event : Event) (act : Act) → MayTake (cluster_of plan) items a event act → is_plain_event event ≡ true → kept_of event ≡ 0
        → is_down a items ≡ false → IsUntaken items event → IsFreeRun plan (entering (cluster_of plan) items a event false ∷ items)
    entry_fits event act may plain none up untaken =
        record {
          run = entry_run (cluster_of plan) items a event act may none up h.run;
          plain = and_from (is_plain_event event) _ plain h.plain;
          known = (there, h.known);
          once = (untaken, h.once);
          behind = (λ lost. absurd (true≢false (sym lost)), h.behind);
          journalled = (λ lost. absurd (true≢false (sym lost)), h.journalled);
          kept = (few_if_none (kept_of event) none, h.kept);
        }

    pub down_fits : IsFreeRun plan (Down a ∷ items)
    down_fits =
        record {
          run = down_is_run (cluster_of plan) items a h.run;
          plain = h.plain;
          known = (there, h.known);
          once = (tt, h.once);
          behind = (tt, h.behind);
          journalled = (tt, h.journalled);
          kept = (tt, h.kept);
        }

-- what a free run has beside that it is a run
pub record IsFree (plan : Content) (items : List Item) : Type 0 where
  pub plain : IsTrue (list_all is_plain items)
  pub known : AreKnown plan.topology items
  pub once : TakenOnce items
  pub behind : LostBehindDowns items
  pub journalled : AllByRecursion IsJournalledIfLost items
  pub kept : AllByRecursion KeepsSixteen items

module _ (plan : Content) where
  pub free_part : (items : List Item) → IsFreeRun plan items → IsFree plan items
  free_part items h = record { plain = h.plain; known = h.known; once = h.once; behind = h.behind; journalled = h.journalled; kept = h.kept }

  pub free_whole : (items : List Item) → IsRun (cluster_of plan) items → IsFree plan items → IsFreeRun plan items
  free_whole items run h = record { run = run; plain = h.plain; known = h.known; once = h.once; behind = h.behind; journalled = h.journalled; kept = h.kept }

  module _ (items : List Item) (e : Entry) (there : Contains (actors plan.topology) e.actor) (h : IsFree plan items) where
    -- a step that was kept, of an actor that is down
    pub lost_fits : is_journalled e.actor e.event ≡ true → is_down e.actor items ≡ true → IsUntaken items e.event → IsFree plan (Step e ∷ items)
    lost_fits journalled down untaken =
        record {
          plain = and_from (is_plain_event e.event) _ (plain_if_journalled e.actor e.event journalled) h.plain;
          known = (there, h.known);
          once = (untaken, h.once);
          behind = (λ lost. down, h.behind);
          journalled = (λ lost. journalled, h.journalled);
          kept = (few_if_none (kept_of e.event) (kept_if_journalled e.actor e.event journalled), h.kept);
        }

    -- a restart
    pub restart_fits : (count : ℕ) → e.event ≡ Restart count → e.lost ≡ false → count ≤ 16 → IsFree plan (Step e ∷ items)
    restart_fits count event_is kept few =
        record {
          plain = and_from (is_plain_event e.event) _ (ap is_plain_event event_is) h.plain;
          known = (there, h.known);
          once = (subst (IsUntaken items) (sym event_is) tt, h.once);
          behind = (λ lost. absurd (true≢false (sym lost ∙ kept)), h.behind);
          journalled = (λ lost. absurd (true≢false (sym lost ∙ kept)), h.journalled);
          kept = (subst (λ event. kept_of event ≤ 16) (sym event_is) few, h.kept);
        }
