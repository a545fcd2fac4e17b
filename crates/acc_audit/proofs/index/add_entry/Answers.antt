use Rattle.std.proofs.Common.{ℕ, Bool, List, ◌&&◌, ◌||◌, ap, ◌∙◌}
use Rattle.std.specs.List.{list_any}
use Rattle.acc_stamp.specs.declared.stamps.Stamp.{Stamp}
use Rattle.acc_value.specs.declared.key.Key.{Key}
use Rattle.acc_txn.specs.Uses.{footprint_of}
use Rattle.acc_audit.specs.Fronts.{no_body}
use Rattle.acc_audit.specs.Users.{touches, users_at}
use Rattle.acc_audit.proofs.UserFacts.{no_uses}
use Rattle.acc_audit.proofs.index.add_entry.Goals as goal

pub returns-in_ok-add_uses-in-Some-clause-users : goal.returns-in_ok-add_uses-in-Some-clause-users
returns-in_ok-add_uses-in-Some-clause-users c = λ (key : Key) (writes : Bool) (test : Stamp × ℕ → Bool).
    let its = c.pairs.ensures.pairs ∙ c.uses.ensures ∙ ap footprint_of (c.in-Some.ensures.lookup.3.1 no_body) in
    c.in_ok-add_uses-in-Some.ensures.users key writes test
    ∙ ap (λ (uses : List (Key × Bool)). list_any test (users_at c.args.users.now key writes) || (touches key writes uses && test c.args.entry)) its

pub returns-in-None-clause-users : goal.returns-in-None-clause-users
returns-in-None-clause-users c = λ (key : Key) (writes : Bool) (test : Stamp × ℕ → Bool).
    no_uses c.args.bodies.now c.args.entry.1 key writes (list_any test (users_at c.args.users.now key writes)) (test c.args.entry) c.in-None.ensures.lookup.3
