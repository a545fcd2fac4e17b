-- The transactions that use a key, after the least timestamp that is decided for each.
use Rattle.std.specs.Prelude.{◌≡◌, ℕ, ◌<◌, ◌==◌, nat_le, Bool, true, false, not, ◌&&◌, ◌||◌, IsTrue, List, [], ◌∷◌, length, map, Option, Some, None, Vec, is_some, slice_get, slice_index_or}
use Rattle.std.specs.Borrow.{Bor}
use Rattle.std.specs.Global.{Global}
use Rattle.std.specs.List.{list_any, list_all}
use Rattle.std.specs.Option.{option_copied}
use Rattle.std.specs.BTreeMap as tree
use Rattle.acc_stamp.specs.declared.stamps.Stamp.{Stamp}
use Rattle.acc_stamp.specs.Stamp.{stamp_lt}
use Rattle.acc_value.specs.declared.key.Key.{Key}
use Rattle.acc_value.specs.Key.{key_cmp, key_eq}
use Rattle.acc_txn.specs.declared.parts.BodyParts.{BodyParts}
use Rattle.acc_txn.specs.Uses.{footprint_of}
use Rattle.acc_report_line.specs.declared.line.Line.{Line}
use Rattle.acc_audit.specs.declared.users.Users.{Users}
use Rattle.acc_audit.specs.Said.{decides_below}
use Rattle.acc_audit.specs.Fronts.{no_body}

abbrev pub Map : Type 0
Map = tree.BTreeMap Key Users

-- all of them, or those that write the key
abbrev pub chosen : Bool → Option Users → List (Stamp × ℕ)
chosen writes None = []
chosen true (Some users) = users.all.items
chosen false (Some users) = users.writers.items

-- those that conflict over the key with one that uses it so
abbrev pub users_at : Map → Key → Bool → List (Stamp × ℕ)
users_at users key writes = chosen writes (tree.get key_cmp users key)

abbrev pub has_entry : Map → Key → Bool
has_entry users key = is_some (tree.get key_cmp users key)

-- the timestamps do not fall
abbrev pub rises : List (Stamp × ℕ) → Bool
rises [] = true
rises (entry ∷ entries) = list_all (λ other. not (stamp_lt other.0 entry.0)) entries && rises entries

abbrev pub is_mark : ℕ → Option ℕ → Bool
is_mark mark None = false
is_mark mark (Some held) = held == mark

-- the transaction with this number has the mark
abbrev pub has_mark : List ℕ → ℕ → ℕ → Bool
has_mark marks number mark = is_mark mark (slice_get marks number)

abbrev pub is_before : Stamp → Stamp × ℕ → Bool
is_before t entry = stamp_lt entry.0 t

-- an entry below the timestamp, of another transaction and without the mark
abbrev pub is_lacking : ℕ → Stamp → List ℕ → ℕ → Stamp × ℕ → Bool
is_lacking number t marks mark entry = stamp_lt entry.0 t && not (entry.1 == number) && not (has_mark marks entry.1 mark)

-- a footprint has the key, and one of the two writes it
abbrev pub touches : Key → Bool → List (Key × Bool) → Bool
touches key writes uses = list_any (λ other. key_eq key other.0 && (writes || other.1)) uses

-- some key of these uses has such an entry
abbrev pub lacks_some : Map → ℕ → Stamp → List ℕ → ℕ → List (Key × Bool) → Bool
lacks_some users number t marks mark uses = list_any (λ used. list_any (is_lacking number t marks mark) (users_at users used.0 used.1)) uses

-- the uses of the transaction with this number
abbrev pub uses_at : List BodyParts → ℕ → List (Key × Bool)
uses_at bodies number = footprint_of (slice_index_or bodies number no_body)

abbrev pub AllRise : Map → Type 0
AllRise users = (key : Key) (writes : Bool) → IsTrue (rises (users_at users key writes))

-- no entry is above this timestamp
abbrev pub NoneAbove : Stamp → Map → Type 0
NoneAbove t users = (key : Key) (writes : Bool) → list_any (λ entry. stamp_lt t entry.0) (users_at users key writes) ≡ false

-- of these entries, those that use a key stand by it
abbrev pub AreUsers : List BodyParts → List (Stamp × ℕ) → Map → Type 0
AreUsers bodies order users =
    (key : Key) (writes : Bool) (test : Stamp × ℕ → Bool) →
    list_any test (users_at users key writes) ≡ list_any (λ entry. touches key writes (uses_at bodies entry.1) && test entry) order

-- the transactions that lines decide, by their least timestamps
pub record AreLeast (names : List (List ℕ)) (lines : List Line) (order : List (Stamp × ℕ)) : Type 0 where
  pub within : list_any (λ entry. nat_le (length names) entry.1) order ≡ false
  pub least : (number : ℕ) (t : Stamp) → number < length names
      → list_any (λ entry. (entry.1 == number) && stamp_lt entry.0 t) order ≡ list_any (decides_below (slice_index_or names number []) t) lines

-- the transactions that lines decide, by the keys that they use
pub record IsIndex (names : List (List ℕ)) (bodies : List BodyParts) (lines : List Line) (users : Map) : Type 0 where
  pub order : List (Stamp × ℕ)
  pub are_least : AreLeast names lines order
  pub are_users : AreUsers bodies order users
  pub rise : AllRise users

-- ---- what stands by the keys of a transaction

-- what stands by a key that a transaction uses, and whether it writes the key
abbrev pub Stood : Type 0
Stood = Option Users × Bool

abbrev pub stands_at : Map → Key × Bool → Stood
stands_at users used = (tree.get key_cmp users used.0, used.1)

-- the same of each key of a transaction
abbrev pub stand_by : Map → BodyParts → List Stood
stand_by users body = map (stands_at users) (footprint_of body)

abbrev pub shown : Option (Bor Users) × Bool → Stood
shown pair = (option_copied pair.0, pair.1)

abbrev pub shown_all : List (Vec (Option (Bor Users) × Bool) Global) → List (List Stood)
shown_all lists = map (λ list. map shown list.items) lists

-- some of it has an entry below the timestamp, of another transaction and without the mark
abbrev pub lacks_at : ℕ → Stamp → List ℕ → ℕ → Stood → Bool
lacks_at number t marks mark stood = list_any (is_lacking number t marks mark) (chosen stood.1 stood.0)

abbrev pub stood_at : List (List Stood) → ℕ → List Stood
stood_at all number = slice_index_or all number []

abbrev pub lacks_in : List (List Stood) → ℕ → Stamp → List ℕ → ℕ → Bool
lacks_in all number t marks mark = list_any (lacks_at number t marks mark) (stood_at all number)

abbrev pub rises_at : Stood → Bool
rises_at stood = rises (chosen stood.1 stood.0)

abbrev pub AllStoodRise : List (List Stood) → Type 0
AllStoodRise all = (number : ℕ) → IsTrue (list_all rises_at (stood_at all number))

-- by the numbers of transactions, what stands by their keys
pub record IsLookup (names : List (List ℕ)) (bodies : List BodyParts) (lines : List Line) (all : List (List Stood)) : Type 0 where
  pub users : Map
  pub index : IsIndex names bodies lines users
  pub stands : all ≡ map (stand_by users) bodies
