-- Counts: items, downs and faults, and what is armed on the disk of one actor.
use Rattle.std.proofs.Common.{◌≡◌, ℕ, suc, ◌+◌, ◌<◌, ◌≤◌, ◌^◌, Bool, true, false, cond, List, [], ◌∷◌, length, inl, inr, Option, None, Some, Result, Ok, Err, refl, sym, ap, subst, arith, ⊎_elim}
use Rattle.acc_stamp.specs.declared.actors.Actor.{Actor}
use Rattle.acc_ports.specs.Faults.{Rose, CountsFaults, greatest_count}
use Rattle.acc_message.specs.declared.item.Item.{Item}
use Rattle.acc_message.specs.declared.item.Item.TheVariants.{Down}
use Rattle.acc_message.specs.Items.{same_actor}
use Rattle.acc_run_laws.specs.Sends.{AreFew}
use Rattle.acc_payloads.specs.declared.stops.Restarted.{Restarted}
use Rattle.acc_payloads.specs.declared.stops.Restarted.TheVariants.{Up as RestartedUp, Down as RestartedDown}
use Rattle.acc_payloads.specs.Items.{is_down_of, downs_in}
use Rattle.acc_safety.proofs.Bridge.{same_itself}
use Rattle.acc_schedule_runs.specs.Situations.{Situation, joined, whole}
use Rattle.acc_payloads.specs.Appends.{after_append, passed_in}
use Rattle.acc_schedule_runs.specs.Disks.{Disks, with_entry, after_step}
use Rattle.acc_schedule_runs.specs.Limits.{most_items}
use Rattle.acc_actors.specs.Asked.{IsFew}

pub less_than : (n : ℕ) → n < 2 ^ 63 → n < 2 ^ 64
less_than n less = omega (arith, less)

length_joined : (earlier own : List Item) → length (joined earlier own) ≡ length earlier + length own
length_joined earlier [] = omega arith
length_joined earlier (item ∷ own) = let rest = length_joined earlier own in omega (arith, rest)

pub length_whole : (s : Situation) → length (whole s) ≡ length s.earlier + length s.own
length_whole s = length_joined s.earlier s.own

few_sum : (e o : ℕ) → e + most_items < 2 ^ 31 → o ≤ most_items → e + o < 2 ^ 31
few_sum e o room low = omega (arith, room, low)

pub few_whole : (s : Situation) → IsFew s → AreFew (whole s)
few_whole s few = subst (λ n. n < 2 ^ 31) (sym (length_joined s.earlier s.own)) (few_sum (length s.earlier) (length s.own) few.0 few.1)

-- ---- downs

pub downs_low : (a : Actor) (items : List Item) → downs_in a items ≤ length items
downs_low a [] = omega arith
downs_low a (item ∷ items) = by (is_down_of a item) (downs_low a items)
  where
    by : (down : Bool) → downs_in a items ≤ length items → cond down (1 + downs_in a items) (downs_in a items) ≤ suc (length items)
    by true low = omega (arith, low)
    by false low = omega (arith, low)

risen : (d before now : ℕ) → d ≤ most_items → d ≤ before → Rose before now → 1 + d ≤ now
risen d before now low counted rose = ⊎_elim (λ more. above more) (λ still. full still.1) rose
  where
    above : before < now → 1 + d ≤ now
    above more = omega (arith, more, counted)

    full : now ≡ greatest_count → 1 + d ≤ now
    full is = omega (arith, is, low)

-- a disk that failed has counted one more
pub rose_counted : (a : Actor) (own : List Item) (before now : ℕ) → length own ≤ most_items → downs_in a own ≤ before → Rose before now → downs_in a (Down a ∷ own) ≤ now
rose_counted a own before now few counted rose =
    let low = downs_low a own in
    let one : 1 + downs_in a own ≤ now = risen (downs_in a own) before now (omega (arith, low, few)) counted rose in
    subst (λ b. cond b (1 + downs_in a own) (downs_in a own) ≤ now) (sym (same_itself a)) one

pub le_on : {a b c : ℕ} → a ≤ b → b ≤ c → a ≤ c
le_on p q = omega (arith, p, q)

-- ---- entries

pub entry_own : {T : Type 0} (a : Actor) (value : T) (entries : Actor → T) → with_entry a value entries a ≡ value
entry_own a value entries = ap (λ b. cond b value (entries a)) (same_itself a)

pub entry_other : {T : Type 0} (a b : Actor) (value : T) (entries : Actor → T) → same_actor b a ≡ false → with_entry a value entries b ≡ entries b
entry_other a b value entries apart = ap (λ t. cond t value (entries b)) apart

-- a journalled step
pub armed_after : (journalled : Bool) (a : Actor) (disks : Disks) → journalled ≡ true → (after_step journalled a disks).armed a ≡ after_append (disks.armed a)
armed_after true a disks is = entry_own a (after_append (disks.armed a)) disks.armed
armed_after false a disks is = cc

pub passed_after : (journalled : Bool) (a : Actor) (disks : Disks) → journalled ≡ true → (after_step journalled a disks).passed a ≡ passed_in (disks.armed a)
passed_after true a disks is = entry_own a (passed_in (disks.armed a)) disks.passed
passed_after false a disks is = cc

-- ---- counts of faults never fall

rose_up : (before now : ℕ) → Rose before now → before ≤ now
rose_up before now (inl more) = omega arith
rose_up before now (inr still) = omega (arith, still.0, still.1)

same_up : (before now : ℕ) → now ≡ before → before ≤ now
same_up before now is = omega (arith, is)

-- whether a step went down by its disk
pub steps_up : {T E : Type 0} (result : Result (Option T) E) (before now : ℕ) → CountsFaults (result ≡ Ok None) before now → before ≤ now
steps_up (Ok None) before now counts = rose_up before now (counts.cause refl)
steps_up (Ok (Some given)) before now counts = same_up before now (counts.unfailed (λ none. cc none))
steps_up (Err e) before now counts = same_up before now (counts.unfailed (λ none. cc none))

-- a call that gave something, or had no memory, left the count
pub given_counts : {T E : Type 0} (given : T) (before now : ℕ) → now ≡ before → CountsFaults (◌≡◌ {A = Result (Option T) E} (Ok (Some given)) (Ok None)) before now
given_counts given before now same = record { cause = λ none. absurd (cc none); unfailed = λ some. same }

pub refused_counts : {T E : Type 0} (e : E) (before now : ℕ) → now ≡ before → CountsFaults (◌≡◌ {A = Result (Option T) E} (Err e) (Ok None)) before now
refused_counts e before now same = record { cause = λ none. absurd (cc none); unfailed = λ some. same }

-- and a restart
pub restarts_up : {E : Type 0} (result : Result Restarted E) (before now : ℕ) → CountsFaults (result ≡ Ok RestartedDown) before now → before ≤ now
restarts_up (Ok RestartedDown) before now counts = rose_up before now (counts.cause refl)
restarts_up (Ok (RestartedUp kept)) before now counts = same_up before now (counts.unfailed (λ down. cc down))
restarts_up (Err e) before now counts = same_up before now (counts.unfailed (λ down. cc down))
