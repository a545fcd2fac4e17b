use Rattle.acc_safety_laws.proofs.Named.{votes_name_known, accepts_name_known}
use Rattle.acc_safety_laws.proofs.store_facts.known_rivals_are_named.Goals as goal

pub returns : goal.returns
returns c =
    record {
      votes = λ layout own history each. votes_name_known layout own history;
      accepts = λ layout own history each step past from to f g x y b sent body theirs t proposed deps.
          accepts_name_known layout own step past history from to f g x y b sent body theirs t proposed deps each;
    }
