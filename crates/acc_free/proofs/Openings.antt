-- One desk more.
use Rattle.std.proofs.Common.{◌≡◌, ℕ, ◌+◌, ◌*◌, ◌/◌, ◌%◌, ◌<◌, ◌≤◌, Bool, true, false, List, [], ◌∷◌, ◌++◌, map, Contains, refl, sym, ◌∙◌, ap, subst, arith}
use Rattle.std.specs.Prelude.{All}
use Rattle.std.specs.List.{AllByRecursion, IsDistinct}
use Rattle.std.proofs.lemmas.List.{map-append}
use Rattle.std.proofs.lemmas.List.Elements.{All-nil, All-push}
use Rattle.acc_stamp.specs.declared.actors.Actor.{Actor}
use Rattle.acc_stamp.specs.Actor.{actor_of}
use Rattle.acc_stamp.proofs.Rising.{each_append, each_weaker}
use Rattle.acc_ports.specs.declared.disk.Disk.{Ghosts}
use Rattle.acc_message.specs.declared.item.Item.{Item}
use Rattle.acc_message.specs.Items.{same_actor}
use Rattle.acc_safety.proofs.Bridge.{same}
use Rattle.acc_safety.proofs.PlaceOrder.{Contains-IsIn, IsIn-map, each_at}
use Rattle.acc_schedule.specs.Content.{Content}
use Rattle.acc_tape.specs.Seats.{TapeName, SeatView}
use Rattle.acc_desk.specs.declared.desk.Desk.{Desk}
use Rattle.acc_desk.specs.Desks.{run_with, IsSound, state_of}
use Rattle.acc_free.specs.Opened.{desk_actor, number_of, rank_of, AreBefore, AreOpened}

-- ---- ranks

pub node_rank : (node : ℕ) → node ≤ 15 → rank_of (actor_of node 0) ≡ node
node_rank node low = omega (arith, low)

pub store_rank : (node shard : ℕ) → node ≤ 15 → shard ≤ 15 → rank_of (actor_of node shard) ≡ shard * 16 + node
store_rank node shard low few = omega (arith, low, few)

apart_by_rank : (b a : Actor) → rank_of b < rank_of a → same_actor b a ≡ false
apart_by_rank b a lower = by (same_actor b a) refl
  where
    differ : b ≡ a → ⊥
    differ is = let e : rank_of b ≡ rank_of a = ap rank_of is in omega (arith, lower, e)

    by : (test : Bool) → same_actor b a ≡ test → test ≡ false
    by true is = absurd (differ (same b a is))
    by false is = refl

less_more : (m n : ℕ) → m < n → m < n + 1
less_more m n h = omega (arith, h)

own_less : (n : ℕ) → n < n + 1
own_less n = omega arith

less_later : (m n k : ℕ) → m < n → n ≤ k → m < k
less_later m n k h le = omega (arith, h, le)

distinct_more : (names : List Actor) (a : Actor) → AllByRecursion (λ (b : Actor). same_actor b a ≡ false) names → IsDistinct same_actor names → IsDistinct same_actor (names ++ a ∷ [])
unfolding IsDistinct
distinct_more [] a all apart = (tt, tt)
distinct_more (x ∷ names) a all apart =
    (each_append (λ (y : Actor). same_actor x y ≡ false) names (a ∷ []) apart.0 (all.0, tt), distinct_more names a all.1 apart.1)

none_distinct : IsDistinct same_actor []
unfolding IsDistinct
none_distinct = tt

before_more : (names : List Actor) (a : Actor) → AreBefore (rank_of a) names → AreBefore (rank_of a + 1) (names ++ a ∷ [])
before_more names a h = record {
  lower =
      each_append (λ (b : Actor). rank_of b < rank_of a + 1) names (a ∷ [])
      (each_weaker (λ (b : Actor). rank_of b < rank_of a) (λ (b : Actor). rank_of b < rank_of a + 1) names (λ b. less_more (rank_of b) (rank_of a)) h.lower)
      (own_less (rank_of a), tt);
  apart =
      distinct_more names a
      (each_weaker (λ (b : Actor). rank_of b < rank_of a) (λ (b : Actor). same_actor b a ≡ false) names (λ b. apart_by_rank b a) h.lower) h.apart;
}

before_later : (rank later : ℕ) (names : List Actor) → rank ≤ later → AreBefore rank names → AreBefore later names
before_later rank later names le h = record {
  lower = each_weaker (λ (b : Actor). rank_of b < rank) (λ (b : Actor). rank_of b < later) names (λ b less. less_later (rank_of b) rank later less le) h.lower;
  apart = h.apart;
}

-- no seat was made for an actor of a later rank
pub not_made : (names : List Actor) (made : List ℕ) (a : Actor) → made ≡ map number_of names → AreBefore (rank_of a) names → Contains made a.0 → ⊥
not_made names made a is before there =
    let from = IsIn-map number_of a.0 names (Contains-IsIn a.0 (map number_of names) (subst (λ (l : List ℕ). Contains l a.0) is there)) in
    let less : rank_of from.source < rank_of a = each_at (λ (b : Actor). rank_of b < rank_of a) from.source names before.lower from.there in
    let e : rank_of a ≡ rank_of from.source = ap (λ (n : ℕ). n % 64 * 16 + n / 64) from.is in
    never (rank_of from.source) (rank_of a) less e
  where
    never : (m n : ℕ) → m < n → n ≡ m → ⊥
    never m n less e = omega (arith, less, e)

-- ---- desks

module _ {D J : Type 0} (port : Ghosts D) (strict_run : Bool) (plan : Content) (tape : TapeName) where
  abbrev Opened : List Actor → ℕ → SeatView Item → List (Desk D J) → Type 0
  Opened names rank first desks = AreOpened port (run_with strict_run plan tape) names rank first desks

  abbrev Sound : Desk D J → Type 0
  Sound desk = IsSound port (run_with strict_run plan tape) (state_of desk)

  pub none_opened : (first : SeatView Item) (desks : List (Desk D J)) → first.tape ≡ tape → first.actor ≡ 0 → first.made ≡ [] → desks ≡ [] → Opened [] 0 first desks
  none_opened first desks tape_is actor_is made none = record {
    named = ap (map desk_actor) none;
    sound = subst (All Sound) (sym none) (All-nil Sound);
    tape_is = tape_is;
    actor_is = actor_is;
    made = made;
    before = record { lower = tt; apart = none_distinct };
  }

  pub one_opened : (a : Actor) (first new : SeatView Item) (desks now : List (Desk D J)) (desk : Desk D J) → Opened (map desk_actor desks) (rank_of a) first desks
      → new.tape ≡ first.tape → new.actor ≡ first.actor → new.made ≡ first.made ++ a.0 ∷ [] → now ≡ desks ++ desk ∷ [] → desk.actor ≡ a → Sound desk
      → Opened (map desk_actor desks ++ a ∷ []) (rank_of a + 1) new now
  one_opened a first new desks now desk h tape_is actor_is made is own sound = record {
    named = ap (map desk_actor) is ∙ map-append desk_actor desks (desk ∷ []) ∙ ap (λ (b : Actor). map desk_actor desks ++ b ∷ []) own;
    sound = subst (All Sound) (sym is) (All-push Sound desks desk h.sound sound);
    tape_is = tape_is ∙ h.tape_is;
    actor_is = actor_is ∙ h.actor_is;
    made = made ∙ ap (λ (l : List ℕ). l ++ a.0 ∷ []) h.made ∙ sym (map-append number_of (map desk_actor desks) (a ∷ []));
    before = before_more (map desk_actor desks) a h.before;
  }

  -- the same, by other names and a later rank
  pub opened_as : (names other : List Actor) (rank later : ℕ) (first : SeatView Item) (desks : List (Desk D J)) → names ≡ other → rank ≤ later
      → Opened names rank first desks → Opened other later first desks
  opened_as names other rank later first desks is le h = record {
    named = h.named ∙ is;
    sound = h.sound;
    tape_is = h.tape_is;
    actor_is = h.actor_is;
    made = h.made ∙ ap (map number_of) is;
    before = subst (AreBefore later) is (before_later rank later names le h.before);
  }

  -- and by the names that the desks have
  pub opened_named : (names : List Actor) (rank later : ℕ) (first : SeatView Item) (desks : List (Desk D J)) → rank ≤ later → Opened names rank first desks
      → Opened (map desk_actor desks) later first desks
  opened_named names rank later first desks le h = opened_as names (map desk_actor desks) rank later first desks (sym h.named) le h

  pub opened_still : (names other : List Actor) (rank later : ℕ) (first now : SeatView Item) (desks left : List (Desk D J)) → names ≡ other → rank ≤ later → now ≡ first → left ≡ desks
      → Opened names rank first desks → Opened other later now left
  opened_still names other rank later first now desks left is le same kept h =
      subst (λ (seat : SeatView Item). Opened other later seat left) (sym same)
      (subst (λ (l : List (Desk D J)). Opened other later first l) (sym kept) (opened_as names other rank later first desks is le h))
