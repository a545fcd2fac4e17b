use Rattle.std.proofs.Common.{◌≡◌, ◌≤◌, List, drop, length, sym, ap, subst, ◌∙◌, arith}
use Rattle.acc_stamp.specs.declared.stamps.Ballot.{Ballot}
use Rattle.acc_execute.specs.Owned.{is_first, IsSplit}
use Rattle.acc_execute.proofs.Ballots.{kept_there, put_there}
use Rattle.acc_execute.proofs.own.add_waiter.Goals as goal

pub returns-then-is_at : goal.returns-then-is_at
returns-then-is_at c =
    kept_there c.args.ballot c.args.waiters.now c.place_of-place.result
    (subst (λ list. IsSplit c.args.ballot list c.place_of-place.result) c.as_slice.ensures c.place_of-place.ensures)
    (ap (λ list. is_first c.args.ballot (drop c.place_of-place.result list)) (sym c.as_slice-2.ensures) ∙ sym c.is_at.ensures ∙ c.if-is_at.true)

pub insert-requires : goal.insert-requires
insert-requires c =
    (omega arith, subst (λ (list : List Ballot). c.place_of-place.result ≤ length list) c.as_slice.ensures c.place_of-place.ensures.within)

pub returns : goal.returns
returns c =
    c.in_ok-insert.ensures.ok
    ∙ put_there c.args.ballot c.args.waiters.now c.place_of-place.result
    (subst (λ list. IsSplit c.args.ballot list c.place_of-place.result) c.as_slice.ensures c.place_of-place.ensures)
    (ap (λ list. is_first c.args.ballot (drop c.place_of-place.result list)) (sym c.as_slice-2.ensures) ∙ sym c.is_at.ensures ∙ c.if-is_at.false)
