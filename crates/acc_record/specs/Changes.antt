-- What a step that opens nothing makes of the record of its transaction.
use Rattle.std.specs.Prelude.{Some}
use Rattle.acc_base.specs.Faults.{or_else}
use Rattle.acc_stamp.specs.declared.stamps.Ballot.{Ballot}
use Rattle.acc_deps.specs.declared.records.Accepted.{Accepted}
use Rattle.acc_message.specs.BallotRules.{greater_ballot}
use Rattle.acc_record.specs.declared.change.Change.{Change}
use Rattle.acc_record.specs.declared.change.Change.TheVariants.{Stays, Votes, Grants, Accepts, Commits}
use Rattle.acc_record.specs.declared.record.Record.{Record}
use Rattle.acc_record.specs.declared.vote.Vote.{Vote}
use Rattle.acc_record.specs.Steps.{deps_kept}

-- with a vote, where it has none
abbrev pub with_vote : Vote → Record → Record
with_vote v r =
    record r { vote = or_else r.vote (Some v.stamp); vote_deps = deps_kept r.vote r.vote_deps (Some (record { vote = v.stamp; deps = v.deps })) }

-- with a ballot that is promised, where it is greater
abbrev pub promising : Ballot → Record → Record
promising b r = record r { promised = greater_ballot r.promised b }

abbrev pub with_accepted : Accepted → Record → Record
with_accepted a r = record r { promised = greater_ballot r.promised a.ballot; accepted = Some a }

abbrev pub with_committed : Accepted → Record → Record
with_committed a r = record r { promised = greater_ballot r.promised a.ballot; committed = Some a }

abbrev pub changed : Change → Record → Record
changed Stays r = r
changed (Votes v) r = with_vote v r
changed (Grants b v) r = promising b (with_vote v r)
changed (Accepts a) r = with_accepted a r
changed (Commits a) r = with_committed a r
