-- What a desk enters of a group, and what it releases.
use Rattle.std.proofs.Common.{◌≡◌, ℕ, ◌-◌, ◌≤◌, Bool, false, List, [], ◌∷◌, ◌++◌, length, map, take, drop, reverse, sym, ◌∙◌, ap, subst, arith, length-append}
use Rattle.std.specs.Prelude.{All, sum_by}
use Rattle.std.proofs.lemmas.List.{length-map, length-reverse, reverse-append}
use Rattle.acc_stamp.specs.declared.actors.Actor.{Actor}
use Rattle.acc_ports.specs.declared.disk.Disk.{Ghosts}
use Rattle.acc_message.specs.declared.entry.Event.{Event}
use Rattle.acc_message.specs.declared.item.Item.{Item}
use Rattle.acc_message.specs.declared.item.Item.TheVariants.{Down}
use Rattle.acc_message.specs.Items.{sent_in, noted_in}
use Rattle.acc_message.specs.Run.{is_down}
use Rattle.acc_message_code.specs.Short.{IsShortMessage}
use Rattle.acc_message_code.specs.Weight.{weight_of}
use Rattle.acc_payloads.specs.declared.stops.Unsent.{Unsent}
use Rattle.acc_schedule.specs.Content.{Content}
use Rattle.acc_schedule.specs.declared.plan.Step.{Step}
use Rattle.acc_schedule_runs.specs.Limits.{most_items}
use Rattle.acc_actors.specs.declared.slot.Slot.{Slot}
use Rattle.acc_free_laws.specs.FreeRun.{IsFreeRun, alone}
use Rattle.acc_free_laws.proofs.Fitting.{down_fits}
use Rattle.acc_free_laws.proofs.Others.{untouched_by}
use Rattle.acc_schedule_runs.specs.Schedules.{cluster_of}
use Rattle.acc_tape.specs.ItemViews.{actor_of_item}
use Rattle.acc_tape.specs.Seats.{TapeName, SeatView, Turns, FitsBehind, FitAllBehind, ComesLast, ComeLast}
use Rattle.acc_desk.specs.declared.hold.Hold.{Hold}
use Rattle.acc_desk.specs.Desks.{desk_with, run_with, newest, held_of, no_hold, IsSeated, IsAt, IsDesk}
use Rattle.acc_desk.specs.Fits.{fits_plan}
use Rattle.acc_desk.specs.Groups.{gathered, Joining, CanAllJoin, IsGathering, IsStopping, IsEnteringDesk, item_of_unsent}
use Rattle.acc_desk.proofs.Moving.{at_on}
use Rattle.acc_desk.proofs.Seating.{held_none, reverse_last, seen_few, seated_on, others_since, came, newest_few, desk_on}
use Rattle.acc_desk.proofs.Entered.{entering_on, all_fit, all_short, all_weigh, all_at, all_own}
use Rattle.acc_desk.proofs.Noting.{all_noted}
use Rattle.acc_desk.proofs.Gathering.{joined_over, went_down}

module _ {D : Type 0} (port : Ghosts D) (strict_run : Bool) (plan : Content) (tape : TapeName) (limits : tape.limits.items ≤ most_items) (a : Actor) (commands : List Step) (gone : ℕ) where
  abbrev TurnsOf : SeatView Item → SeatView Item → Type 0
  TurnsOf old new = Turns actor_of_item weight_of (fits_plan plan) old new

  -- ---- what was settled is entered at once

  module _ (slot : Slot D) (held : Hold) (events : List Event) (unsent : List Unsent) (seat : SeatView Item)
      (desk : IsEnteringDesk port (run_with strict_run plan tape) held (desk_with a seat slot commands gone) events unsent) where
    abbrev items : List Item
    items = map (item_of_unsent a) unsent

    pub puts_few : length items ≤ held.items
    puts_few = let n = length-map unsent (item_of_unsent a) in let f = desk.few in omega arith

    pub puts_own : All (λ item. actor_of_item item ≡ seat.actor) items
    puts_own = all_own a seat.actor unsent desk.seated.actor_is

    pub puts_short : All (λ item. All IsShortMessage (sent_in item)) items
    puts_short =
        all_short port strict_run plan a slot (drop gone commands) desk.known (newest seat) events unsent desk.weights desk.entering
        (let n = newest_few plan tape limits a held seat desk.seated in let l = desk.most in omega arith)

    pub puts_noted : All (λ item. length (noted_in item) ≤ 2) items
    puts_noted = all_noted (cluster_of plan) (alone desk.entering.before desk.entering.stopped) a events false unsent desk.entering.steps

    pub puts_weigh : sum_by weight_of items ≤ held.weight
    puts_weigh =
        let w = all_weigh port strict_run plan a slot (drop gone commands) desk.known (newest seat) events unsent desk.weights desk.entering in
        let l = desk.light in
        omega arith

    pub puts_fit : FitAllBehind actor_of_item (fits_plan plan) seat items
    puts_fit before begins mine free k =
        let b = others_since plan tape limits a held seat desk.seated before begins mine in
        let run = subst (IsFreeRun plan) b.items_are free in
        subst (IsFreeRun plan) (sym (reverse-append before (take k items) ∙ ap (λ all. reverse (take k items) ++ all) b.items_are))
        (all_fit port strict_run plan a slot (drop gone commands) desk.known (b.others ++ newest seat) events unsent desk.weights
        (entering_on port strict_run plan a slot (drop gone commands) (newest seat) b.others events unsent desk.weights b.apart run desk.entering) run k)

    pub puts_on : (new : SeatView Item) → TurnsOf seat new → held_of new ≡ no_hold → ComeLast actor_of_item (fits_plan plan) seat new.seen items
        → IsDesk port (run_with strict_run plan tape) no_hold (desk_with a new slot commands gone)
    puts_on new turns free last =
        let b = others_since plan tape limits a held seat desk.seated last.before last.begins last.mine in
        let there = entering_on port strict_run plan a slot (drop gone commands) (newest seat) b.others events unsent desk.weights b.apart (subst (IsFreeRun plan) b.items_are last.fitting) desk.entering in
        record {
          known = desk.known;
          all = desk.all;
          seated = seated_on plan tape limits a held no_hold seat new desk.seated turns free;
          at = subst (λ all. IsAt port strict_run plan a all slot (drop gone commands)) (sym (ap reverse last.seen_is ∙ reverse-append last.before items ∙ ap (λ all. reverse items ++ all) b.items_are))
              (all_at port strict_run plan a slot (drop gone commands) desk.known (b.others ++ newest seat) events unsent desk.weights there);
        }

  -- ---- the disk failed

  module _ (first slot : Slot D) (joinings : List Joining) (held : Hold) (seat : SeatView Item)
      (stopping : IsStopping port (run_with strict_run plan tape) (desk_with a seat slot commands gone) first joinings held) where
    pub down_own : actor_of_item (Down a) ≡ seat.actor
    down_own = sym stopping.desk.seated.actor_is

    pub down_short : All IsShortMessage (sent_in (Down a))
    down_short = λ k d low. absurd (omega arith)

    pub down_weighs : weight_of (Down a) ≤ held.weight
    down_weighs = omega arith

    pub down_fits_behind : FitsBehind actor_of_item (fits_plan plan) seat (Down a)
    down_fits_behind before begins mine free =
        subst (IsFreeRun plan) (sym (reverse_last before (Down a))) (down_fits plan (reverse before) a stopping.desk.known free)

    pub down_on : (new : SeatView Item) → TurnsOf seat new → held_of new ≡ no_hold → ComesLast actor_of_item (fits_plan plan) seat new.seen (Down a)
        → IsDesk port (run_with strict_run plan tape) no_hold (desk_with a new slot commands gone)
    down_on new turns free last =
        let b = others_since plan tape limits a held seat stopping.desk.seated last.before last.begins last.mine in
        let items = b.others ++ newest seat in
        let run = subst (IsFreeRun plan) b.items_are last.fitting in
        let at' = at_on port strict_run plan a (newest seat) b.others first (drop gone commands) b.apart run stopping.desk.at in
        let joined' = joined_over plan a (newest seat) b.others (drop gone commands) joinings b.apart run stopping.joined in
        let up' : is_down a items ≡ false = (untouched_by (cluster_of plan) (newest seat) a b.others b.apart).down ∙ stopping.up in
        let few' : length items ≤ most_items =
        (let n = ap length b.items_are in let r = length-reverse last.before in let l = ap length last.seen_is in let m = length-append last.before (Down a ∷ []) in let f = seen_few plan tape limits a seat new turns (turns.tape ∙ stopping.desk.seated.tape_is) in omega arith) in
        record {
          known = stopping.desk.known;
          all = stopping.desk.all;
          seated = seated_on plan tape limits a held no_hold seat new stopping.desk.seated turns free;
          at = subst (λ all. IsAt port strict_run plan a all slot (drop gone commands)) (sym (ap reverse last.seen_is ∙ reverse_last last.before (Down a) ∙ ap (λ all. Down a ∷ all) b.items_are))
              (went_down port strict_run plan a items first (drop gone commands) joinings stopping.desk.known few' up' at' joined' slot stopping.settles stopping.strictly);
        }

  -- ---- while messages are staged

  module _ (first slot : Slot D) (joinings : List Joining) (used : ℕ) (held later : Hold) (old new : SeatView Item)
      (gathering : IsGathering port (run_with strict_run plan tape) (desk_with a old slot commands gone) (gathered first joinings used held))
      (turns : TurnsOf old new) (same : new.mine ≡ old.mine) (is : held_of new ≡ later) where
    -- the desk as it was before, and what may be taken
    pub desk_moves : IsDesk port (run_with strict_run plan tape) later (desk_with a new first commands gone)
    desk_moves = desk_on plan tape limits a port strict_run commands gone first held later old new gathering.desk turns same is

    pub up_moves : is_down a (newest new) ≡ false
    up_moves =
        let b = came plan tape limits a held old new gathering.desk.seated turns same in
        ap (is_down a) b.items_are ∙ (untouched_by (cluster_of plan) (newest old) a b.others b.apart).down ∙ gathering.up

    pub joined_moves : CanAllJoin plan (newest new) a (drop gone commands) joinings
    joined_moves =
        let b = came plan tape limits a held old new gathering.desk.seated turns same in
        subst (λ items. CanAllJoin plan items a (drop gone commands) joinings) (sym b.items_are)
        (joined_over plan a (newest old) b.others (drop gone commands) joinings b.apart (subst (IsFreeRun plan) b.items_are turns.fitting) gathering.joined)

    -- with the same slot, where what is staged is within what the seat holds now
    pub gathering_moves : used ≤ later.weight → length joinings ≤ later.items
        → IsGathering port (run_with strict_run plan tape) (desk_with a new slot commands gone) (gathered first joinings used later)
    gathering_moves within few =
        record {
          kind = gathering.kind;
          desk = desk_moves;
          up = up_moves;
          joined = joined_moves;
          weights = gathering.weights;
          long = gathering.long;
          staged = gathering.staged;
          used_is = gathering.used_is;
          within = within;
          few = few;
        }

  -- ---- what is reserved is given up, or used

  module _ (hold : Hold) (old new : SeatView Item) (turns : TurnsOf old new) (items_less : new.held_items ≡ old.held_items - hold.items) (weight_less : new.held_weight ≡ old.held_weight - hold.weight) where
    pub released_seat : IsSeated tape a hold old → IsSeated tape a no_hold new
    released_seat seated = seated_on plan tape limits a hold no_hold old new seated turns (held_none old new hold seated.held_is items_less weight_less)

    pub released_desk : (slot : Slot D) → new.mine ≡ old.mine → IsDesk port (run_with strict_run plan tape) hold (desk_with a old slot commands gone)
        → IsDesk port (run_with strict_run plan tape) no_hold (desk_with a new slot commands gone)
    released_desk slot same desk =
        desk_on plan tape limits a port strict_run commands gone slot hold no_hold old new desk turns same
        (held_none old new hold desk.seated.held_is items_less weight_less)
