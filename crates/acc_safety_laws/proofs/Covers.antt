-- Coverage of a run, from the two kinds of decision.
use Rattle.std.proofs.Common.{◌≡◌, ℕ, true, List}
use Rattle.acc_stamp.specs.declared.stamps.Stamp.{Stamp}
use Rattle.acc_stamp.specs.declared.stamps.TxnId.{TxnId}
use Rattle.acc_stamp.specs.Stamp.{stamp_lt}
use Rattle.acc_deps.specs.declared.shards.ShardDeps.{ShardDeps}
use Rattle.acc_deps.specs.Deps.{deps_has}
use Rattle.acc_txn.specs.declared.parts.BodyParts.{BodyParts}
use Rattle.acc_message.specs.declared.item.Item.{Item}
use Rattle.acc_message.specs.Run.{Cluster}
use Rattle.acc_safety.specs.Coverage.{Coverage}
use Rattle.acc_safety.specs.Polls.{AreRivals}
use Rattle.acc_safety.specs.Roots.{DecisionRoot, ByFastVotes, ByCommits}
use Rattle.acc_safety.specs.Valid.{IsStanding}
use Rattle.acc_safety_laws.proofs.Noted.{decision_noted}
use Rattle.acc_safety.proofs.Meetings.{are_rivals}
use Rattle.acc_safety_laws.specs.CoveragePremises.{Premises}
use Rattle.acc_safety_laws.proofs.FastCovers.{covered_by_fast}
use Rattle.acc_safety_laws.proofs.CommitCovers.{covered_by_commits}

-- whatever a decision goes back to, it names each rival that is decided at a smaller timestamp
covered : (cluster : Cluster) (items : List Item) → IsStanding cluster items → Premises cluster items → (shard : ℕ) (x y : TxnId)
    (body theirs : BodyParts) (t s : Stamp) (deps more : List ShardDeps) → AreRivals cluster items shard y x theirs body
    → DecisionRoot cluster items x body t deps → DecisionRoot cluster items y theirs s more → stamp_lt s t ≡ true
    → deps_has deps shard y ≡ true
covered cluster items stands p shard x y body theirs t s deps more r (ByFastVotes answers fast) other below =
    covered_by_fast cluster items stands p shard x y body theirs answers s more r fast other below
covered cluster items stands p shard x y body theirs t s deps more r (ByCommits b u ds answers committed) other below =
    covered_by_commits cluster items stands p shard x y body theirs b u s ds more answers r committed other below

pub coverage : (cluster : Cluster) (items : List Item) → IsStanding cluster items → Premises cluster items → Coverage cluster items
coverage cluster items stands p shard a b a_is b_is conflict below =
    let first = decision_noted items a a_is in
    let second = decision_noted items b b_is in
    covered cluster items stands p shard b.id a.id conflict.second conflict.first b.t a.t b.deps a.deps
    (are_rivals cluster items shard a.id b.id conflict.first conflict.second stands.valid.layout conflict.first_is conflict.second_is conflict.different conflict.conflict)
    (p.decisions b.id conflict.second second.path b.t b.deps conflict.second_is second.noted)
    (p.decisions a.id conflict.first first.path a.t a.deps conflict.first_is first.noted) below
