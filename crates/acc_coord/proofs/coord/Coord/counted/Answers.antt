use Rattle.std.proofs.Common.{◌≡◌, Bool, true, false, refl, sym, subst, ◌∙◌}
use Rattle.acc_message.specs.Attempts.{plainly}
use Rattle.acc_message.specs.Shares.{shards_used, is_store_of}
use Rattle.acc_tally.specs.declared.tally.Tally.{Tally}
use Rattle.acc_tally.specs.Stands.{StandsFor as Tallies, Counts, answer_of}
use Rattle.acc_coord.proofs.Counting.{other_actor, one_again, one_more}
use Rattle.acc_coord.proofs.coord.Coord.counted.Goals as goal

pub returns-then-not-is_store : goal.returns-then-not-is_store
returns-then-not-is_store c = λ m answers from vote deps placed stands.
    let self = c.args.self.now in
    let layout = c.args.topology.now in
    let value = c.is_store.ensures.value self.body placed.shards in
    let apart : is_store_of layout self.body c.args.store ≡ false = cc in
    other_actor layout self m answers c.args.store from apart

pub returns-then-branch : goal.returns-then-branch
returns-then-branch c = λ m answers from vote deps placed stands.
    let self = c.args.self.now in
    let layout = c.args.topology.now in
    let value = c.is_store.ensures.value self.body placed.shards in
    let is : is_store_of layout self.body c.args.store ≡ true = cc in
    let shards = shards_used layout self.body in
    let same : c.get_mut.result.now ≡ c.args.tally.now = c.get_mut.ensures.value ∙ c.in_ok-more.ensures ∙ c.in_ok-copy.ensures ∙ c.get.ensures in
    let before : Tallies c.get_mut.result.now shards (plainly self.id answers) = subst (λ (t : Tally). Tallies t shards (plainly self.id answers)) (sym same) stands in
    let told : c.in_ok-first.field-0 ≡ true = cc in
    let counts = subst (λ (b : Bool). Counts c.get_mut.result.now c.first.new.self shards (plainly self.id answers) (answer_of c.args.store c.eq.result c.args.vote c.args.deps.now) b) told (c.in_ok-first.ensures.ok shards (plainly self.id answers) before) in
    one_more layout self m answers c.args.store from c.get_mut.result.now c.first.new.self c.eq.result c.args.vote c.args.deps.now is vote deps c.eq.ensures counts

pub returns-else-branch : goal.returns-else-branch
returns-else-branch c = λ m answers from vote deps placed stands.
    let self = c.args.self.now in
    let layout = c.args.topology.now in
    let shards = shards_used layout self.body in
    let same : c.get_mut.result.now ≡ c.args.tally.now = c.get_mut.ensures.value ∙ c.in_ok-more.ensures ∙ c.in_ok-copy.ensures ∙ c.get.ensures in
    let before : Tallies c.get_mut.result.now shards (plainly self.id answers) = subst (λ (t : Tally). Tallies t shards (plainly self.id answers)) (sym same) stands in
    let told : c.in_ok-first.field-0 ≡ false = cc in
    let a = answer_of c.args.store c.eq.result c.args.vote c.args.deps.now in
    let counts = subst (λ (b : Bool). Counts c.get_mut.result.now c.first.new.self shards (plainly self.id answers) a b) told (c.in_ok-first.ensures.ok shards (plainly self.id answers) before) in
    one_again layout self m answers c.args.store from c.get_mut.result.now c.first.new.self a refl counts
