-- One entry more.
use Rattle.std.proofs.Common.{rules, ◌++◌, sym, ◌∙◌, ap}
use Rattle.std.specs.Vec.Iter.{into_iter_items}
use Rattle.acc_cluster.proofs.RestartItems.{lost_sendable, lost_begins, lost_goes_on, lost_ends_among, lost_all_in}
use Rattle.acc_cluster.proofs.Turns.{one_more, all_out}
use Rattle.acc_cluster.proofs.restarting.enter_kept.Goals as goal

pub enter_lost-requires : goal.enter_lost-requires
enter_lost-requires c =
    let seam = ap (λ l. c.loop-unsent.yielded ++ l) (sym c.in-Some.ensures.steps.0) ∙ c.loop-unsent.invariant.rest in
    record { sendable = lost_sendable c.args.actor c.loop-unsent.yielded c.in-Some.unsent (into_iter_items c.next.new.self) c.args.kept c.args.history.now c.loop-unsent.history seam c.loop-unsent.invariant.past c.requires.back }

pub loop-unsent-init : goal.loop-unsent-init
loop-unsent-init c = record {
  can_next = tt;
  is_finite = tt;
  rest = search rules;
  past = lost_begins c.args.actor c.args.kept c.args.history.now;
}

pub loop-unsent-preserved : goal.loop-unsent-preserved
loop-unsent-preserved c =
    let seam = ap (λ l. c.loop-unsent.yielded ++ l) (sym c.in-Some.ensures.steps.0) ∙ c.loop-unsent.invariant.rest in record {
      can_next = tt;
      is_finite = tt;
      rest = one_more c.loop-unsent.yielded c.in-Some.unsent (into_iter_items c.loop-unsent.unsent-iterator) (into_iter_items c.next.new.self) c.args.kept c.loop-unsent.invariant.rest c.in-Some.ensures.steps.0;
      past = lost_goes_on c.args.actor c.loop-unsent.yielded c.in-Some.unsent (into_iter_items c.next.new.self) c.args.kept c.args.history.now c.loop-unsent.history seam
          c.loop-unsent.invariant.past c.enter_lost.new.history c.in_ok-enter_lost.ensures.ok;
    }

pub returns-clause-ok : goal.returns-clause-ok
returns-clause-ok c =
    let left = c.loop-unsent.unsent-iterator in
    let all = all_out c.loop-unsent.yielded (into_iter_items left) c.args.kept left.rest.len c.loop-unsent.invariant.rest left.rest.ok.0 c.in-None.ensures.steps.0 in
    lost_all_in c.args.actor c.loop-unsent.yielded c.args.kept c.args.history.now c.loop-unsent.history all c.loop-unsent.invariant.past

pub returns-in_err-enter_lost-clause-limit : goal.returns-in_err-enter_lost-clause-limit
returns-in_err-enter_lost-clause-limit c =
    let seam = ap (λ l. c.loop-unsent.yielded ++ l) (sym c.in-Some.ensures.steps.0) ∙ c.loop-unsent.invariant.rest in
    lost_ends_among c.args.actor c.loop-unsent.yielded c.in-Some.unsent (into_iter_items c.next.new.self) c.args.kept c.args.history.now c.loop-unsent.history seam c.loop-unsent.invariant.past
    c.enter_lost.new.history c.from_residual.result c.in_err-enter_lost.field-0.0 c.from_residual.ensures.1 c.in_err-enter_lost.ensures.limit
