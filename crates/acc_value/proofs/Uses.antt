-- A footprint with one use more.
use Rattle.std.proofs.Common.{◌≡◌, ℕ, Bool, false, ◌||◌, List, get_or, set, insert, Option, Some, unwrap_or, ap, ◌∙◌}
use Rattle.acc_value.specs.declared.key.Key.{Key}
use Rattle.acc_value.specs.Pairs.{IsRising, put, find, HasKeyAt, LacksKeyAt}
use Rattle.acc_value.specs.Footprint.{used}
use Rattle.acc_value.proofs.Rising.{find-at, find-lacks, put-at, put-lacks}

-- the test of the pair that is found
written : (found : Option Bool) (b : Bool) → found ≡ Some b → unwrap_or found false ≡ b
written found b is = ap (λ (o : Option Bool). unwrap_or o false) is

pub used-at : (uses : List (Key × Bool)) (key : Key) (writes : Bool) (i : ℕ) (x : Key × Bool) → IsRising uses → HasKeyAt uses key i → x ≡ get_or uses i x → used uses key writes ≡ set uses i (x.0, x.1 || writes)
used-at uses key writes i x rises here is =
    ap (λ b. put uses key (b || writes)) (written (find uses key) x.1 (find-at uses key i x rises here is))
    ∙ put-at uses key (x.1 || writes) i x rises here is

pub used-lacks : (uses : List (Key × Bool)) (key : Key) (writes : Bool) (i : ℕ) → LacksKeyAt uses key i → used uses key writes ≡ insert uses i (key, writes)
used-lacks uses key writes i nowhere =
    ap (λ (o : Option Bool). put uses key (unwrap_or o false || writes)) (find-lacks uses key i nowhere)
    ∙ put-lacks uses key writes i nowhere
