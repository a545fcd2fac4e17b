use Rattle.std.proofs.Common.{◌≡◌, Some, None, cond, sym, ap, ◌∙◌, rules}
use mathlib.Core.Bool.{true≢false}
use Rattle.std.specs.HashMap as table
use Rattle.acc_value.specs.Key.{key_eq}
use Rattle.acc_index.proofs.UserFacts.{places_same, room_kept}
use Rattle.acc_index.proofs.users.reserve.Goals as goal

pub returns-in-Some-clause-same : goal.returns-in-Some-clause-same
returns-in-Some-clause-same c =
    places_same c.args.users.now (c.get_mut.follows.lender c.reserve.new.self) c.args.key.now c.reserve.new.self (Some c.in-Some.there.now) c.in-Some.ensures.value ((c.get_mut.follows.holds c.reserve.new.self).3 (search rules)).0 c.reserve.ensures.same

pub returns-in-Some-clause-kept : goal.returns-in-Some-clause-kept
returns-in-Some-clause-kept c =
    room_kept c.args.users.now (c.get_mut.follows.lender c.reserve.new.self) c.args.key.now c.reserve.new.self (Some c.in-Some.there.now) c.in-Some.ensures.value ((c.get_mut.follows.holds c.reserve.new.self).3 (search rules)).0 c.reserve.ensures.kept

pub returns-clause-same : goal.returns-clause-same
returns-clause-same c =
    let was : None ≡ table.get key_eq c.args.users.now c.in_ok-key.key = c.in_default.ensures.value ∙ ap (table.get key_eq c.args.users.now) (sym c.in_ok-key.ensures) in
    places_same c.args.users.now c.insert.new.self c.in_ok-key.key c.reserve-2.new.self None was (λ q. c.in_ok-insert.ensures.updates.0 q ∙ ap (λ m. cond (key_eq c.in_ok-key.key q) (Some c.reserve-2.new.self) (table.get key_eq m q)) c.get_mut.follows.holds-at-none)
    (λ w. c.reserve-2.ensures.same w ∙ c.new-there.ensures w)

pub returns-clause-kept : goal.returns-clause-kept
returns-clause-kept c =
    let was : None ≡ table.get key_eq c.args.users.now c.in_ok-key.key = c.in_default.ensures.value ∙ ap (table.get key_eq c.args.users.now) (sym c.in_ok-key.ensures) in
    room_kept c.args.users.now c.insert.new.self c.in_ok-key.key c.reserve-2.new.self None was (λ q. c.in_ok-insert.ensures.updates.0 q ∙ ap (λ m. cond (key_eq c.in_ok-key.key q) (Some c.reserve-2.new.self) (table.get key_eq m q)) c.get_mut.follows.holds-at-none)
    (λ w had. absurd (true≢false (sym had)))
