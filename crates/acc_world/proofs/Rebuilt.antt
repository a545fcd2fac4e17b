-- What was entered, taken again in its order.
use Rattle.std.proofs.Common.{◌≡◌, ◌+◌, ◌-◌, ◌<◌, ◌≤◌, ℕ, suc, Bool, true, false, not, List, [], ◌∷◌, ◌++◌, length, take, drop, drop-cons, get_or, reverse, Some, Result, Ok, Err, IfOk, is_err, refl, sym, ◌∙◌, ap, subst, arith}
use Rattle.std.proofs.lemmas.Bool.{true≢false}
use Rattle.std.proofs.lemmas.List.{length-append, get_or-reverse, take-append-drop, drop_all, length-reverse}
use Rattle.std.specs.List.{slice_get}
use Rattle.std.proofs.lemmas.Option.{slice_get_within, get_or_from_slice_get}
use Rattle.acc_stamp.specs.declared.actors.Actor.{Actor}
use Rattle.acc_message.specs.declared.entry.Emitted.{Emitted}
use Rattle.acc_message.specs.declared.entry.Entry.{Entry}
use Rattle.acc_message.specs.declared.entry.Event.{Event}
use Rattle.acc_message.specs.declared.entry.Event.TheVariants.{Begin, Recover, Slow, Message as TakesMessage, Restart}
use Rattle.acc_message.specs.declared.item.Item.{Item}
use Rattle.acc_message.specs.declared.item.Item.TheVariants.{Step, Skipped, Down}
use Rattle.acc_message.specs.Items.{same_actor}
use Rattle.acc_message.specs.NodeRules.{Act, Deed}
use Rattle.acc_message.specs.Run.{Cluster, act_of, deeds_of, emits, MayStand, StandsOn, EachStands}
use Rattle.acc_safety.proofs.Bridge.{same, same_itself}
use Rattle.acc_run_laws.specs.Sends.{AreFew}
use Rattle.acc_pasts.proofs.Deeds.{deeds_more, deeds_same}
use Rattle.acc_pasts.proofs.Stops.{act_still}
use Rattle.acc_history.specs.declared.history.History.{History}
use Rattle.acc_world.specs.declared.setup.Setup.{Setup}
use Rattle.acc_world.specs.declared.held.Held.{Held}
use Rattle.acc_world.specs.Held.{moment, cluster_of, HeldStands, IsPast, IsAsked, MayAsk, MayTryAt, HasTaken, IsRedone}

-- ---- the items after others

module _ (cluster : Cluster) where
  pub each_behind : (front earlier : List Item) → EachStands cluster (front ++ earlier) → EachStands cluster earlier
  each_behind [] earlier h = h
  each_behind (item ∷ front) earlier h = each_behind front earlier h.1

  pub act_behind : (front earlier : List Item) (event : Event) (act : Act) → act_of cluster earlier event ≡ Some act → act_of cluster (front ++ earlier) event ≡ Some act
  act_behind [] earlier event act is = is
  act_behind (item ∷ front) earlier event act is = act_still cluster (front ++ earlier) item event act (act_behind front earlier event act is)

fewer : (front earlier : List Item) → AreFew (front ++ earlier) → AreFew earlier
fewer front earlier few = let both = length-append front earlier in omega (arith, both, few)

home_alone : (cluster : Cluster) (items : List Item) (a : Actor) (act : Act) (event : Event) → MayStand cluster items a act event → MayTryAt cluster items a act event
home_alone cluster items a act (Begin txn) h = h
home_alone cluster items a act (Recover txn) h = h
home_alone cluster items a act (Slow txn) h = h.0
home_alone cluster items a act (TakesMessage number) h = h
home_alone cluster items a act (Restart kept) h = h

-- ---- an entry

module _ (setup : Setup) (history : History) (items earlier : List Item) (e : Entry) (item : Item) (is : item ≡ Step e) (a : Actor) (here : e.actor ≡ a) (old : Held)
    (r : IsRedone setup history items earlier item a old) where
  abbrev of : Cluster
  of = cluster_of setup

  place : items ≡ r.front ++ (Step e ∷ earlier)
  place = r.place ∙ ap (λ i. r.front ++ (i ∷ earlier)) is

  standing_there : EachStands of (Step e ∷ earlier)
  standing_there = each_behind of r.front (Step e ∷ earlier) (subst (EachStands of) place r.past.standing.stands)

  pub stands_on : StandsOn of earlier e
  stands_on = standing_there.0

  few_there : AreFew (Step e ∷ earlier)
  few_there = fewer r.front (Step e ∷ earlier) (subst AreFew place r.past.few)

  pub asked_again : IsAsked setup history a e.event old (moment items earlier) stands_on.act
  asked_again =
      record {
        past = r.past.past;
        known =
            subst (λ l. act_of of l e.event ≡ Some stands_on.act) (sym place)
            (act_behind of r.front (Step e ∷ earlier) e.event stands_on.act (act_still of earlier (Step e) e.event stands_on.act stands_on.act_is));
        standing = record { valid = r.past.standing.valid; stands = standing_there.1 };
        few = let few = few_there in omega (arith, few);
        may = record {
          act_is = stands_on.act_is;
          place = home_alone of earlier a stands_on.act e.event (subst (λ x. MayStand of earlier x stands_on.act e.event) here stands_on.place);
        };
        stands = r.stands;
      }

  pub may_again : MayAsk setup history a e.event old
  may_again = record { items = items; earlier = earlier; act = stands_on.act; asked = asked_again }

  pub did_again : (emitted : Emitted) (new : Held) → HasTaken of earlier a e.event stands_on.act emitted new → HeldStands of a (deeds_of of a (item ∷ earlier)) new
  did_again emitted new took =
      subst (λ i. HeldStands of a (deeds_of of a (i ∷ earlier)) new) (sym is)
      (subst (λ (deeds : List Deed). HeldStands of a deeds new)
      (ap (λ (m : Emitted). record { act = stands_on.act; emitted = m } ∷ deeds_of of a earlier)
      (took.emits_it ∙ ap (λ x. emits of earlier x stands_on.act) (sym here) ∙ sym stands_on.emitted)
      ∙ sym (deeds_more of earlier e a stands_on.act (ap (λ x. same_actor x a) here ∙ same_itself a) stands_on.act_is))
      took.stands)

unequal : (b : Bool) → false ≡ not b → b ≡ true
unequal true h = refl
unequal false h = absurd (true≢false (sym h))

pub same_as : (a b : Actor) → false ≡ not (same_actor a b) → a ≡ b
same_as a b h = same a b (unequal (same_actor a b) h)

-- what holds of a result that is no error
pub ok_with : {A E : Type 0} (r : Result A E) (P : A → Type 0) → is_err r ≡ false → IfOk r P → (x : A) × P x
ok_with (Ok x) P fine h = (x, h)
ok_with (Err error) P fine h = absurd (true≢false fine)

-- an entry of another actor, or none
pub other_again : (cluster : Cluster) (earlier : List Item) (item : Item) (a : Actor) (held : Held) → ((e : Entry) → item ≡ Step e → same_actor e.actor a ≡ false)
    → HeldStands cluster a (deeds_of cluster a earlier) held → HeldStands cluster a (deeds_of cluster a (item ∷ earlier)) held
other_again cluster earlier (Step e) a held other h = subst (λ (deeds : List Deed). HeldStands cluster a deeds held) (sym (deeds_same cluster earlier e a (other e refl))) h
other_again cluster earlier (Skipped step cause) a held other h = h
other_again cluster earlier (Down actor) a held other h = h

-- ---- the items, the oldest first

-- those that were entered first
abbrev pub oldest : ℕ → List Item → List Item
oldest count items = drop (length items - count) items

pub none_yet : (items : List Item) → oldest 0 items ≡ []
none_yet items = drop_all (length items - 0) items (omega arith)

pub all_now : (items : List Item) (count : ℕ) → length items ≤ count → oldest count items ≡ items
all_now items count le = let is : length items - count ≡ 0 = omega (arith, le) in ap (λ n. drop n items) is

pub one_more : (items : List Item) (count : ℕ) (item : Item) → count < length items → item ≡ get_or (reverse items) count item
    → oldest (count + 1) items ≡ item ∷ oldest count items
one_more items count item less is =
    let k : ℕ = length items - (count + 1) in
    let low : k < length items = omega (arith, less) in
    let next : suc k ≡ length items - count = omega (arith, less) in
    let mirrored : length items - 1 - count ≡ k = omega arith in
    drop-cons items k item low
    ∙ ap (λ x. x ∷ drop (suc k) items) (ap (λ n. get_or items n item) (sym mirrored) ∙ sym (get_or-reverse items count item less) ∙ sym is)
    ∙ ap (λ n. item ∷ drop n items) next

-- what is read of the history's items
pub read_many : {U : Type 0} (read items : List U) → read ≡ reverse items → length read ≡ length items
read_many read items all = ap length all ∙ length-reverse items

pub item_read : {U : Type 0} (read items : List U) (count : ℕ) (item : U) → read ≡ reverse items → slice_get read count ≡ Some item
    → (count < length items) × (item ≡ get_or (reverse items) count item)
item_read read items count item all at =
    let there = ap (λ l. slice_get l count) (sym all) ∙ at in (
      subst (λ n. count < n) (length-reverse items) (slice_get_within (reverse items) count item there),
      sym (get_or_from_slice_get (reverse items) count item item there),
    )

pub redone_at : (setup : Setup) (history : History) (items : List Item) (count : ℕ) (item : Item) (a : Actor) (held : Held) → IsPast (cluster_of setup) history items
    → count < length items → item ≡ get_or (reverse items) count item → HeldStands (cluster_of setup) a (deeds_of (cluster_of setup) a (oldest count items)) held
    → IsRedone setup history items (oldest count items) item a held
redone_at setup history items count item a held past less is stands =
    record {
      past = past;
      front = take (length items - (count + 1)) items;
      place = sym (take-append-drop (length items - (count + 1)) items) ∙ ap (λ l. take (length items - (count + 1)) items ++ l) (one_more items count item less is);
      stands = stands;
    }
