use Rattle.acc_safety.proofs.StoreNotions.{votes_are_made}
use Rattle.acc_safety_laws.proofs.VoteFacts.{votes_once}
use Rattle.acc_safety_laws.proofs.Drawn.{own_or_drawn}
use Rattle.acc_safety_laws.proofs.store_facts.stores_vote_once.Goals as goal

pub returns : goal.returns
returns c =
    record {
      once = λ layout own history each step past m x v. votes_once layout own step past history m x v each;
      made = votes_are_made;
      own_or_drawn = λ layout own history each x v. own_or_drawn layout own x v history each;
    }
