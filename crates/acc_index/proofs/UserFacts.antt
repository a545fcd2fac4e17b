-- The map of the users of each key, and what a step makes of it.
use Rattle.std.proofs.Common.{◌≡◌, ℕ, ◌+◌, ◌<◌, Bool, true, false, cond, ◌&&◌, List, [], ◌∷◌, ◌++◌, Option, Some, None, length, get_or, take, drop, refl, sym, ap, subst, ◌∙◌, IsTrue}
use Rattle.std.specs.Bool.{beq}
use Rattle.std.specs.Cmp.{first_so, second_so}
use Rattle.std.specs.Ordering.{is_eq}
use Rattle.std.specs.HashMap as table
use Rattle.std.specs.FinMap.Entries.{below_all}
use Rattle.std.proofs.lemmas.List.{take_more, drop_more}
use Rattle.std.proofs.lemmas.List.Folds.{list_all-append}
use Rattle.acc_value.specs.declared.key.Key.{Key}
use Rattle.acc_value.specs.Key.{key_cmp, key_eq}
use Rattle.acc_value.specs.Pairs.{IsRising, find}
use Rattle.acc_value.proofs.KeyOrder.{key_eq-symm, key_eq-true}
use Rattle.acc_value.proofs.Rising.{find-below, both, less}
use Rattle.acc_index.specs.declared.users.Users.{Users}
use Rattle.acc_index.specs.Users.{Map, places_in, places_of, places_at, room_in, room_of, has_room, HasRooms, is_use, placed}

-- the map with these users at a key
abbrev pub Puts : Map → Map → Key → Users → Type 0
Puts old new key v = (q : Key) → table.get key_eq new q ≡ cond (key_eq key q) (Some v) (table.get key_eq old q)

places_put : (b : Bool) (v : Users) (o : Option Users) (w : Bool) → places_of (cond b (Some v) o) w ≡ cond b (places_in v w) (places_of o w)
places_put true v o w = refl
places_put false v o w = refl

room_put : (b : Bool) (v : Users) (o : Option Users) (w : Bool) → room_of (cond b (Some v) o) w ≡ cond b (room_in v w) (room_of o w)
room_put true v o w = refl
room_put false v o w = refl

-- what the key itself had
here : (old : Map) (key k : Key) (o : Option Users) → o ≡ table.get key_eq old key → key_eq key k ≡ true → table.get key_eq old k ≡ o
here old key k o is same = ap (table.get key_eq old) (sym (key_eq-true key k same)) ∙ sym is

module _ (old new : Map) (key : Key) (v : Users) (o : Option Users) (was : o ≡ table.get key_eq old key) (puts : Puts old new key v) where
  -- the places that every key has then
  pub places_then : (f : Bool → List ℕ → List ℕ) → ((w : Bool) → places_in v w ≡ f w (places_of o w)) → (k : Key) (w : Bool) → places_at new k w ≡ cond (key_eq key k) (f w (places_at old k w)) (places_at old k w)
  places_then f is k w =
      ap (λ p. places_of p w) (puts k) ∙ places_put (key_eq key k) v (table.get key_eq old k) w
      ∙ elim (key_eq key k) as (λ b. key_eq key k ≡ b → cond b (places_in v w) (places_at old k w) ≡ cond b (f w (places_at old k w)) (places_at old k w)) [
        | true ↦ λ same. is w ∙ ap (λ p. f w (places_of p w)) (sym (here old key k o was same))
        | false ↦ λ same. refl
      ] refl

  pub places_same : ((w : Bool) → places_in v w ≡ places_of o w) → (k : Key) (w : Bool) → places_at new k w ≡ places_at old k w
  places_same is k w = places_then (λ _ p. p) is k w ∙ unchanged (key_eq key k) (places_at old k w)
    where
      unchanged : (b : Bool) (p : List ℕ) → cond b p p ≡ p
      unchanged true p = refl
      unchanged false p = refl

  -- a key has the room that it had, or more
  pub room_kept : ((w : Bool) → IsTrue (room_of o w) → IsTrue (room_in v w)) → (k : Key) (w : Bool) → IsTrue (has_room old k w) → IsTrue (has_room new k w)
  room_kept kept k w had =
      (ap (λ p. room_of p w) (puts k) ∙ room_put (key_eq key k) v (table.get key_eq old k) w)
      ∙ elim (key_eq key k) as (λ b. key_eq key k ≡ b → cond b (room_in v w) (has_room old k w) ≡ true) [
        | true ↦ λ same. kept w (ap (λ p. room_of p w) (sym (here old key k o was same)) ∙ had)
        | false ↦ λ same. had
      ] refl

  -- another key has the room that it had
  pub room_apart : (k : Key) → key_eq key k ≡ false → (w : Bool) → has_room new k w ≡ has_room old k w
  room_apart k apart w =
      ap (λ p. room_of p w) (puts k) ∙ room_put (key_eq key k) v (table.get key_eq old k) w
      ∙ ap (λ b. cond b (room_in v w) (has_room old k w)) apart

-- a place that is added to one kind
pub set_here : (a b : Bool) (p q : List ℕ) → cond a (cond b q p) p ≡ cond (a && b) q p
set_here true b p q = refl
set_here false b p q = refl

-- ---- room at each of some keys

pub HasRooms-kept : (old new : Map) (uses : List (Key × Bool)) → ((k : Key) (w : Bool) → IsTrue (has_room old k w) → IsTrue (has_room new k w)) → HasRooms old uses → HasRooms new uses
HasRooms-kept old new [] kept room = refl
HasRooms-kept old new (u ∷ uses) kept room = both _ _ (kept u.0 u.1 (first_so _ _ room)) (HasRooms-kept old new uses kept (second_so _ _ room))

-- one more key has room
pub rooms_step : (old new : Map) (uses : List (Key × Bool)) (i : ℕ) (u : Key × Bool) → i < length uses → u ≡ get_or uses i u → ((k : Key) (w : Bool) → IsTrue (has_room old k w) → IsTrue (has_room new k w)) → IsTrue (has_room new u.0 u.1) → HasRooms old (take i uses) → HasRooms new (take (i + 1) uses)
rooms_step old new uses i u within is kept one room =
    let more : take (i + 1) uses ≡ take i uses ++ u ∷ [] = take_more uses i u within ∙ ap (λ x. take i uses ++ x ∷ []) (sym is) in
    let before : HasRooms new (take i uses) = HasRooms-kept old new (take i uses) kept room in
    subst (HasRooms new) (sym more) (list_all-append _ (take i uses) (u ∷ []) ∙ both _ _ before (both _ true one refl))

rooms_apart : (old new : Map) (key : Key) (uses : List (Key × Bool)) → ((k : Key) → key_eq key k ≡ false → (w : Bool) → has_room new k w ≡ has_room old k w) → IsTrue (below_all key_cmp key uses) → HasRooms old uses → HasRooms new uses
rooms_apart old new key [] kept below room = refl
rooms_apart old new key (u ∷ uses) kept below room =
    let apart : key_eq key u.0 ≡ false = ap is_eq (less _ (first_so _ _ below)) in
    both _ _ (kept u.0 apart u.1 ∙ first_so _ _ room) (rooms_apart old new key uses kept (second_so _ _ below) (second_so _ _ room))

-- ---- the places of all uses, one after another

abbrev pub Added : Map → Map → Key → Bool → ℕ → Type 0
Added old new key writes place = (k : Key) (w : Bool) → places_at new k w ≡ cond (key_eq key k && beq writes w) (places_at old k w ++ place ∷ []) (places_at old k w)

no_use : (o : Option Bool) (w : Bool) → o ≡ None → is_use o w ≡ false
no_use o w none = ap (λ p. is_use p w) none

placed_first : (a : Bool) (u : Key × Bool) (rest : List (Key × Bool)) (p : List ℕ) (k : Key) (w : Bool) (place : ℕ) → (a ≡ true → find rest k ≡ None)
    → placed (cond (a && beq u.1 w) (p ++ place ∷ []) p) rest k w place ≡ cond (is_use (cond a (Some u.1) (find rest k)) w) (p ++ place ∷ []) p
placed_first true u rest p k w place none =
    ap (λ b. cond b (cond (beq u.1 w) (p ++ place ∷ []) p ++ place ∷ []) (cond (beq u.1 w) (p ++ place ∷ []) p)) (no_use (find rest k) w (none refl))
placed_first false u rest p k w place none = refl

add_step : (old new : Map) (u : Key × Bool) (rest : List (Key × Bool)) (place : ℕ) → Added old new u.0 u.1 place → IsRising (u ∷ rest) → (k : Key) (w : Bool) → placed (places_at new k w) rest k w place ≡ placed (places_at old k w) (u ∷ rest) k w place
add_step old new u rest place added rises k w =
    ap (λ p. placed p rest k w place) (added k w ∙ ap (λ b. cond (b && beq u.1 w) (places_at old k w ++ place ∷ []) (places_at old k w)) (key_eq-symm u.0 k))
    ∙ placed_first (key_eq k u.0) u rest (places_at old k w) k w place
    (λ same. ap (find rest) (key_eq-true k u.0 same) ∙ find-below rest u.0 (first_so _ _ rises))

-- the loop that adds: what is left, with the facts on it
abbrev pub Left : (Key → Bool → List ℕ) → Map → List (Key × Bool) → ℕ → Type 0
Left goal m uses place = ((k : Key) (w : Bool) → placed (places_at m k w) uses k w place ≡ goal k w) × IsRising uses × HasRooms m uses

split_at : (uses : List (Key × Bool)) (i : ℕ) (u : Key × Bool) → i < length uses → u ≡ get_or uses i u → drop i uses ≡ u ∷ drop (i + 1) uses
split_at uses i u within is = drop_more uses i u within ∙ ap (λ x. x ∷ drop (i + 1) uses) (sym is)

pub left_step : (goal : Key → Bool → List ℕ) (old new : Map) (uses : List (Key × Bool)) (place i : ℕ) (u : Key × Bool) → i < length uses → u ≡ get_or uses i u → Added old new u.0 u.1 place
    → ((k : Key) → key_eq u.0 k ≡ false → (w : Bool) → has_room new k w ≡ has_room old k w) → Left goal old (drop i uses) place → Left goal new (drop (i + 1) uses) place
left_step goal old new uses place i u within is added kept left =
    let rest = drop (i + 1) uses in
    let now : Left goal old (u ∷ rest) place = subst (λ us. Left goal old us place) (split_at uses i u within is) left in (
      (λ k w. add_step old new u rest place added now.1 k w ∙ now.0 k w),
      second_so _ _ now.1,
      rooms_apart old new u.0 rest kept (first_so _ _ now.1) (second_so _ _ now.2),
    )

pub room_at : (goal : Key → Bool → List ℕ) (m : Map) (uses : List (Key × Bool)) (place i : ℕ) (u : Key × Bool) → i < length uses → u ≡ get_or uses i u → Left goal m (drop i uses) place → IsTrue (has_room m u.0 u.1)
room_at goal m uses place i u within is left = first_so _ _ (subst (HasRooms m) (split_at uses i u within is) left.2)
