-- The places that use each key, as a map holds them and as the noted shares give them.
use Rattle.std.specs.Prelude.{ℕ, ◌+◌, Bool, true, false, cond, nat_lt, IsTrue, List, [], ◌∷◌, ◌++◌, length, Option, None, Some}
use Rattle.std.specs.Bool.{beq}
use Rattle.std.specs.List.{list_all}
use Rattle.std.specs.Vec.{vec_capacity}
use Rattle.std.specs.HashMap as table
use Rattle.std.specs.declared.hash.BuildHasherDefault.{BuildHasherDefault}
use Rattle.std.specs.declared.hash.FoldHasher.{FoldHasher}
use Rattle.acc_value.specs.declared.key.Key.{Key}
use Rattle.acc_value.specs.Key.{key_eq}
use Rattle.acc_value.specs.Pairs.{find}
use Rattle.acc_index.specs.declared.users.Users.{Users}

abbrev pub Map : Type 0
Map = table.HashMap Key Users (BuildHasherDefault FoldHasher)

-- ---- the map: the places that write a key, or only read it

abbrev pub places_in : Users → Bool → List ℕ
places_in u true = u.writers.items
places_in u false = u.readers.items

abbrev pub places_of : Option Users → Bool → List ℕ
places_of None w = []
places_of (Some u) w = places_in u w

abbrev pub places_at : Map → Key → Bool → List ℕ
places_at m key w = places_of (table.get key_eq m key) w

-- there is room for one more place
abbrev pub room_in : Users → Bool → Bool
room_in u true = nat_lt (length u.writers.items) (vec_capacity u.writers)
room_in u false = nat_lt (length u.readers.items) (vec_capacity u.readers)

abbrev pub room_of : Option Users → Bool → Bool
room_of None w = false
room_of (Some u) w = room_in u w

abbrev pub has_room : Map → Key → Bool → Bool
has_room m key w = room_of (table.get key_eq m key) w

abbrev pub HasRooms : Map → List (Key × Bool) → Type 0
HasRooms m uses = IsTrue (list_all (λ u. has_room m u.0 u.1) uses)

-- ---- the shares: whether one uses a key, writing it or only reading it

abbrev pub is_use : Option Bool → Bool → Bool
is_use None w = false
is_use (Some b) w = beq b w

abbrev pub uses_as : List (Key × Bool) → Key → Bool → Bool
uses_as share key w = is_use (find share key) w

-- the places with one more, where the share uses the key so
abbrev pub placed : List ℕ → List (Key × Bool) → Key → Bool → ℕ → List ℕ
placed places share key w place = cond (uses_as share key w) (places ++ place ∷ []) places

-- the places of the shares that use the key so, the first of which has this place
abbrev pub places_from : ℕ → List (List (Key × Bool)) → Key → Bool → List ℕ
places_from n [] key w = []
places_from n (share ∷ shares) key w =
    cond (uses_as share key w) (n ∷ places_from (n + 1) shares key w) (places_from (n + 1) shares key w)
