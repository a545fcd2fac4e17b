use Rattle.std.proofs.Common.{ℕ, ◌==◌, ◌&&◌, nat_le, length, sym, ◌∙◌}
use Rattle.std.proofs.lemmas.List.Sorted.{list_any-IsPermutation}
use Rattle.acc_stamp.specs.declared.stamps.Stamp.{Stamp}
use Rattle.acc_stamp.specs.Stamp.{stamp_lt}
use Rattle.acc_audit.proofs.LeastFacts.{sorted_rise}
use Rattle.acc_audit.proofs.decisions.ordered.Goals as goal

pub returns-clause-rise : goal.returns-clause-rise
returns-clause-rise c = sorted_rise c.sort_unstable.new.self.items c.sort_unstable.ensures.sorted

pub returns-clause-within : goal.returns-clause-within
returns-clause-within c =
    sym (list_any-IsPermutation (λ (entry : Stamp × ℕ). nat_le (length c.args.least.now) entry.1) c.in_ok-entries.entries.items c.sort_unstable.new.self.items c.sort_unstable.ensures.permutation) ∙ c.in_ok-entries.ensures.within

pub returns-clause-least : goal.returns-clause-least
returns-clause-least c = λ (number : ℕ) (t : Stamp).
    sym (list_any-IsPermutation (λ (entry : Stamp × ℕ). (entry.1 == number) && stamp_lt entry.0 t) c.in_ok-entries.entries.items c.sort_unstable.new.self.items c.sort_unstable.ensures.permutation) ∙ c.in_ok-entries.ensures.least number t
