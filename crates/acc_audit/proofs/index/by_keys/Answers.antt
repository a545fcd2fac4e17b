use Rattle.std.proofs.Common.{◌≡◌, ℕ, ◌==◌, ◌&&◌, nat_le, length, List, Option, map, reverse, ap, ◌∙◌}
use Rattle.std.specs.List.{list_any}
use Rattle.acc_stamp.specs.Stamp.{stamp_lt}
use Rattle.acc_stamp.specs.declared.stamps.Stamp.{Stamp}
use Rattle.acc_audit.specs.Kept.{least_in}
use Rattle.acc_audit.proofs.LeastFacts.{are_least}
use Rattle.acc_audit.proofs.index.by_keys.Goals as goal

pub returns : goal.returns
returns c =
    let least : List (Option Stamp) = c.as_slice.result.now in
    let are : least ≡ map (λ name. least_in name (reverse c.args.lines.now)) c.args.numbers.now = c.as_slice.ensures.value ∙ c.in_ok-least.ensures in
    let order : List (Stamp × ℕ) = c.as_slice-2.result.now in
    let its : order ≡ c.in_ok-order.order.items = c.as_slice-2.ensures.value in
    record {
      order = order;
      are_least = are_least c.args.numbers.now c.args.lines.now least order are (ap (list_any (λ (entry : Stamp × ℕ). nat_le (length least) entry.1)) its ∙ c.in_ok-order.ensures.within)
          (λ (number : ℕ) (t : Stamp). ap (list_any (λ (entry : Stamp × ℕ). (entry.1 == number) && stamp_lt entry.0 t)) its ∙ c.in_ok-order.ensures.least number t);
      are_users = c.in_ok-users.ensures.users;
      rise = c.in_ok-users.ensures.rise;
    }
