use Rattle.acc_safety_laws.proofs.FastCovers.{covered_by_fast}
use Rattle.acc_safety_laws.proofs.CommitCovers.{covered_by_commits}
use Rattle.acc_safety_laws.proofs.Covers.{coverage}
use Rattle.acc_safety_laws.proofs.coverage.decisions_cover.Goals as goal

pub returns : goal.returns
returns c = record { fast = covered_by_fast; commits = covered_by_commits; coverage = coverage }
