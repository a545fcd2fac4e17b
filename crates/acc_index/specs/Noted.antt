-- What an index has noted, and the transactions among it that conflict with one.
--     rivals noted id share      what was noted of other transactions that conflict
--     rival_stamps, rival_ids, rival_ids_below      their stamps; their names, rising; those names below a bound
--     writer_ids noted key      the names of all that write a key
use Rattle.std.specs.Prelude.{◌≡◌, Bool, not, ◌&&◌, List, [], map, filter, Option, MatchOption}
use Rattle.acc_stamp.specs.declared.stamps.Stamp.{Stamp}
use Rattle.acc_stamp.specs.declared.stamps.TxnId.{TxnId}
use Rattle.acc_stamp.specs.Stamp.{stamp_lt, stamp_le, id_eq}
use Rattle.acc_stamp.specs.Rising.{ids_union}
use Rattle.acc_value.specs.declared.key.Key.{Key}
use Rattle.acc_value.specs.Footprint.{clashes, is_written}
use Rattle.acc_lanes.specs.Greatest.{IsGreatest}

-- a stamp of a transaction, with the keys that the transaction uses
pub record Noted : Type 0 where
  pub id : TxnId
  pub share : List (Key × Bool)
  pub stamp : Stamp

abbrev pub is_rival : TxnId → List (Key × Bool) → Noted → Bool
is_rival id share t = not (id_eq t.id id) && clashes t.share share

abbrev pub rivals : List Noted → TxnId → List (Key × Bool) → List Noted
rivals noted id share = filter (is_rival id share) noted

abbrev pub rival_stamps : List Noted → TxnId → List (Key × Bool) → List Stamp
rival_stamps noted id share = map (λ (t : Noted). t.stamp) (rivals noted id share)

-- names, each once, rising
abbrev pub names : List Noted → List TxnId
names noted = ids_union [] (map (λ (t : Noted). t.id) noted)

abbrev pub rival_ids : List Noted → TxnId → List (Key × Bool) → List TxnId
rival_ids noted id share = names (rivals noted id share)

abbrev pub rival_ids_below : List Noted → TxnId → List (Key × Bool) → Stamp → List TxnId
rival_ids_below noted id share bound = names (filter (λ (t : Noted). stamp_lt t.id.0 bound) (rivals noted id share))

abbrev pub writer_ids : List Noted → Key → List TxnId
writer_ids noted key = names (filter (λ (t : Noted). is_written t.share key) noted)

-- the answer is the greatest of these stamps, and None where there are none
abbrev pub IsGreatestStamp : List Stamp → Option Stamp → Type 0
IsGreatestStamp stamps answer = MatchOption answer (stamps ≡ []) (IsGreatest stamp_le stamps)
