-- Desks are made, dealt, served and closed.
use Rattle.std.proofs.Common.{◌≡◌, ℕ, ◌≤◌, ap, arith}
use Rattle.acc_tape.specs.declared.content.Limits.{Limits}
use Rattle.acc_schedule_runs.specs.Limits.{most_items, most_bytes}
use Rattle.acc_free.specs.Dealing.{all_in}
use Rattle.acc_free.proofs.Parting.{are_all, all_dealt, sound_dealt, as_many}
use Rattle.acc_free.proofs.running.entered_by.Goals as goal

items_within : (limits : Limits) (items weight : ℕ) → limits ≡ record { items = items; weight = weight } → items ≤ most_items → limits.items ≤ most_items
items_within limits items weight is low = let e = ap (λ (l : Limits). l.items) is in omega (arith, low, e)

weight_within : (limits : Limits) (items weight : ℕ) → limits ≡ record { items = items; weight = weight } → weight ≤ most_bytes → limits.weight ≤ most_bytes
weight_within limits items weight is low = let e = ap (λ (l : Limits). l.weight) is in omega (arith, low, e)

pub serve_all-requires-clause-limits : goal.serve_all-requires-clause-limits
serve_all-requires-clause-limits g c κs within = items_within _ 1000000 268435456 c.in_ok-tape.ensures.limits (omega arith)

pub serve_all-requires-clause-sound : goal.serve_all-requires-clause-sound
serve_all-requires-clause-sound g c κs within =
    let d = g.M.D.Disk in
    sound_dealt c.args.plan.now d g.J.Planned.strict c.in_ok-tape.tape c.in_ok-all.all.items (all_in c.in_ok-hands.hands.items)
    c.in_ok-hands.ensures.all c.in_ok-all.ensures.ok.sound

pub closed-requires-clause-limits : goal.closed-requires-clause-limits
closed-requires-clause-limits g c =
    (items_within _ 1000000 268435456 c.in_ok-tape.ensures.limits (omega arith), weight_within _ 1000000 268435456 c.in_ok-tape.ensures.limits (omega arith))

pub closed-requires-clause-first : goal.closed-requires-clause-first
closed-requires-clause-first g c = (c.in_ok-all.ensures.ok.tape_is, c.in_ok-all.ensures.ok.actor_is)

pub closed-requires-clause-all : goal.closed-requires-clause-all
closed-requires-clause-all g c =
    as_many c.args.plan.now _ _ c.in_ok-all.all.items (all_in c.in_ok-hands.hands.items) c.in_ok-served.served.items c.in_ok-all.ensures.ok.made c.in_ok-all.ensures.ok.named c.in_ok-hands.ensures.all
    c.in_ok-served.ensures.same

pub closed-requires-clause-actors : goal.closed-requires-clause-actors
closed-requires-clause-actors g c =
    let d = g.M.D.Disk in
    all_dealt c.args.plan.now c.in_ok-all.all.items (all_in c.in_ok-hands.hands.items) c.in_ok-served.served.items c.in_ok-hands.ensures.all c.in_ok-served.ensures.same
    (are_all c.args.plan.now d g.J.Planned.strict _ _ _ c.in_ok-all.all.items c.in_ok-all.ensures.ok)

pub closed-requires-clause-sound : goal.closed-requires-clause-sound
closed-requires-clause-sound g c = c.in_ok-served.ensures.sound
