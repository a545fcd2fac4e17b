use Rattle.std.proofs.Common.{subst, sym, ap, ◌∙◌, [], true, ◌++◌}
use Rattle.acc_stamp.specs.Rising.{ids_union}
use Rattle.acc_index.specs.Noted.{writer_ids}
use Rattle.acc_index.specs.Places.{InRange, ids_of}
use Rattle.acc_index.proofs.KeptFacts.{in_columns, kept_writers}
use Rattle.acc_index.proofs.index.Index.writers.Goals as goal

pub collect-requires-clause-in_range : goal.collect-requires-clause-in_range
collect-requires-clause-in_range c =
    let x = c.self.inside in
    subst (InRange x.columns) (sym c.users_of.ensures.writers) (in_columns x.columns x.shares.items x.users c.self.invariant c.args.key.now true)

pub returns-clause-ids : goal.returns-clause-ids
returns-clause-ids c =
    let x = c.self.inside in
    c.in_ok-ids.ensures.ids ∙ ap (ids_union []) (c.in_ok-collect.ensures ∙ ap (λ zs. zs ++ ids_of x.columns c.users_of.result.0.now) c.new-found.ensures.items ∙ ap (ids_of x.columns) c.users_of.ensures.writers) ∙ kept_writers x.columns x.shares.items x.users c.self.invariant c.args.key.now
    ∙ ap (λ noted. writer_ids noted c.args.key.now) c.self.view_is
