-- A message that the later items sent is taken after it, in one of them, where it goes to.
use Rattle.std.proofs.Common.{◌≡◌, ℕ, suc, ◌+◌, ◌<◌, ◌≤◌, true, List, [], ◌∷◌, ◌++◌, length, Some, refl, sym, ◌∙◌, ap, subst, arith, ◌⊎◌, inl, inr, ⊎_elim}
use Rattle.std.specs.List.{slice_get}
use Rattle.std.proofs.lemmas.List.{length-append}
use Rattle.std.proofs.lemmas.Option.{slice_get_within}
use Rattle.acc_message.specs.declared.message.Message.{Message}
use Rattle.acc_message.specs.declared.entry.Entry.{Entry}
use Rattle.acc_message.specs.declared.entry.Event.TheVariants.{Message as TakesMessage}
use Rattle.acc_message.specs.declared.item.Item.{Item}
use Rattle.acc_message.specs.declared.item.Item.TheVariants.{Step}
use Rattle.acc_message.specs.Fields.{to_of}
use Rattle.acc_message.specs.Items.{sent_in, sent_of, message_at}
use Rattle.acc_message.specs.NodeRules.{Takes}
use Rattle.acc_message.specs.Run.{Cluster, act_of, goes_to, MayStand, StandsOn, EachStands}
use Rattle.acc_safety.specs.Calm.{item_takes}
use Rattle.acc_safety.specs.Places.{IsIn, First, Later, StandsAt, Here, Back, IsPast, Whole, Behind, InOrder, IsOlder, IsSame, IsNewer}
use Rattle.acc_safety.proofs.PlaceOrder.{in_order, passing, StandsAt-IsPast}
use Rattle.acc_safety.proofs.Bridge.{same, stands_at}
use Rattle.acc_safety.proofs.Frame.{past_of}
use Rattle.acc_calm.proofs.Delivered.{place_of, numbered, get-past, taking_item, mapped}
use Rattle.acc_calm.proofs.Courses.{first_same, rest_same}
use Rattle.acc_delivered.specs.Stretches.{TakesAll}

-- ---- lists

pub get_behind : (xs ys : List Message) (n : ℕ) → slice_get (xs ++ ys) (length xs + n) ≡ slice_get ys n
get_behind [] ys n =
    let none : 0 + n ≡ n = omega arith in ap (slice_get ys) none
get_behind (x ∷ xs) ys n =
    let one_less : suc (length xs) + n ≡ suc (length xs + n) = omega arith in
    ap (slice_get (x ∷ xs ++ ys)) one_less ∙ get_behind xs ys n

pub place_append : {T : Type 0} (x : T) (past xs zs : List T) → StandsAt x past xs → StandsAt x (past ++ zs) (xs ++ zs)
place_append x past xs zs (Here y ys) = Here y (ys ++ zs)
place_append x past xs zs (Back y w ys ws there) = Back y w (ys ++ zs) (ws ++ zs) (place_append y ys ws zs there)

pub append_is_past : {T : Type 0} (xs zs : List T) → IsPast zs (xs ++ zs)
append_is_past [] zs = Whole zs
append_is_past (x ∷ xs) zs = Behind x zs (xs ++ zs) (append_is_past xs zs)

-- what stands in front of some items, or among them
pub place_cases : {T : Type 0} (x : T) (past xs zs : List T) → StandsAt x past (xs ++ zs) → (IsIn x xs × IsPast zs past) ⊎ StandsAt x past zs
place_cases x past [] zs at = inr at
place_cases {T} x past (y ∷ xs) zs at = by x past (y ∷ xs ++ zs) at refl (λ w p there. place_cases w p xs zs there)
  where
    by : (w : T) (p all : List T) → StandsAt w p all → all ≡ y ∷ xs ++ zs
        → ((v : T) (vs : List T) → StandsAt v vs (xs ++ zs) → (IsIn v xs × IsPast zs vs) ⊎ StandsAt v vs zs) → (IsIn w (y ∷ xs) × IsPast zs p) ⊎ StandsAt w p zs
    by w p all (Here v vs) is rest = inl (subst (λ k. IsIn k (y ∷ xs)) (sym (first_same is)) (First y xs), subst (IsPast zs) (sym (rest_same is)) (append_is_past xs zs))
    by w p all (Back v u vs us there) is rest =
        ⊎_elim (λ front. inl (Later v y xs front.0, front.1)) inr (rest v vs (subst (StandsAt v vs) (rest_same is) there))

module _ (earlier items : List Item) (within : IsPast earlier items) where
  sent_more : length (sent_of earlier) ≤ length (sent_of items)
  sent_more = grow earlier items within
    where
      grow : (past all : List Item) → IsPast past all → length (sent_of past) ≤ length (sent_of all)
      grow past all (Whole xs) = omega arith
      grow past all (Behind y ys xs there) = omega (arith, grow ys xs there, length-append (sent_of xs) (sent_in y))

-- the number of a message that an entry sends
pub record Numbered (items earlier : List Item) (e : Entry) (m : Message) : Type 0 where
  pub number : ℕ
  pub is : message_at items number ≡ Some m
  pub from : length (sent_of earlier) ≤ number
  pub within : number < length (sent_of items)

pub numbered_at : (items earlier : List Item) (e : Entry) (m : Message) → StandsAt (Step e) earlier items → IsIn m e.emitted.out → Numbered items earlier e m
numbered_at items earlier e m at there =
    let n = numbered m e.emitted.out there in
    let here : message_at (Step e ∷ earlier) (length (sent_of earlier) + n.0) ≡ Some m = get_behind (sent_of earlier) e.emitted.out n.0 ∙ n.1.0 in
    let whole = get-past (Step e ∷ earlier) items (length (sent_of earlier) + n.0) m (StandsAt-IsPast (Step e) earlier items at) here in
    record {
      number = length (sent_of earlier) + n.0;
      is = whole;
      from = omega arith;
      within = slice_get_within (sent_of items) (length (sent_of earlier) + n.0) m whole;
    }

-- ---- who takes it

-- an entry of the items takes the message where it goes to, after these items
pub record TakenBehind (cluster : Cluster) (behind items : List Item) (m : Message) : Type 0 where
  pub entry : Entry
  pub before : List Item
  pub at : StandsAt (Step entry) before items
  pub newer : IsPast behind before
  pub actor_is : entry.actor ≡ to_of m
  pub act_is : act_of cluster before entry.event ≡ Some (Takes m)

module _ (cluster : Cluster) (base later : List Item) (h : EachStands cluster (later ++ base)) (all : TakesAll base later) where
  abbrev items : List Item
  items = later ++ base

  module _ (earlier : List Item) (e : Entry) (m : Message) (at : StandsAt (Step e) earlier items) (within : IsPast base earlier) (there : IsIn m e.emitted.out) where
    n : Numbered items earlier e m
    n = numbered_at items earlier e m at there

    taken_by : (taker : Entry) (before : List Item) → StandsAt (Step taker) before items → taker.event ≡ TakesMessage n.number
        → TakenBehind cluster (Step e ∷ earlier) items m
    taken_by taker before place takes =
        let on : StandsOn cluster before taker = stands_at cluster items before taker place h in
        let found = mapped (message_at before n.number) on.act (subst (λ event. act_of cluster before event ≡ Some on.act) takes on.act_is) in
        let past = past_of (Step taker) before items place in
        let same_message : found.0 ≡ m = some_same (sym (get-past before items n.number found.0 past found.1.0) ∙ n.is) in
        let act_is : on.act ≡ Takes m = found.1.1 ∙ ap Takes same_message in
        let to : goes_to taker.actor on.act ≡ true = subst (λ event. MayStand cluster before taker.actor on.act event) takes on.place in
        record {
          entry = taker;
          before = before;
          at = place;
          newer = order (slice_get_within (sent_of before) n.number found.0 found.1.0) (in_order (Step e) (Step taker) earlier before items at place);
          actor_is = sym (same (to_of m) taker.actor (subst (λ act. goes_to taker.actor act ≡ true) act_is to));
          act_is = on.act_is ∙ ap Some act_is;
        }
      where
        some_same : {a b : Message} → Some a ≡ Some b → a ≡ b
        some_same is = cc

        order : n.number < length (sent_of before) → InOrder (Step e) (Step taker) earlier before → IsPast (Step e ∷ earlier) before
        order low (IsOlder older) = StandsAt-IsPast (Step e) earlier before older
        order low (IsSame one same_past) = absurd (late low n.from (ap (λ k. length (sent_of k)) same_past))
          where
            late : {k b l : ℕ} → k < b → l ≤ k → l ≡ b → ⊥
            late p q r = omega (arith, p, q, r)
        order low (IsNewer newer) = absurd (late low n.from (sent_more before earlier (past_of (Step taker) before earlier newer)))
          where
            late : {k b l : ℕ} → k < b → l ≤ k → b ≤ l → ⊥
            late p q r = omega (arith, p, q, r)

    pub taken_behind : TakenBehind cluster (Step e ∷ earlier) items m
    taken_behind =
        let p = passing (item_takes n.number) later (all n.number (up (sent_more base earlier within) n.from) n.within) in
        let t = taking_item n.number p.element p.passes in
        let place = place_of p.element later p.there in
        taken_by t.entry (place.0 ++ base) (subst (λ i. StandsAt i (place.0 ++ base) items) t.is (place_append p.element place.0 later base place.1)) t.takes
      where
        up : {a b c : ℕ} → a ≤ b → b ≤ c → a ≤ c
        up p q = omega (arith, p, q)
