-- What the links of the index lead to, after each change.
use Rattle.std.proofs.Common.{◌≡◌, ◌≢◌, ℕ, ◌+◌, ◌<◌, ◌≤◌, ◌%◌, zero, suc, false, List, [], ◌∷◌, ◌++◌, length, min, cond, nat_lt, get_or, set, replicate, refl, sym, ap, ◌∙◌, subst, arith, length-append}
use Rattle.std.proofs.Math.ListN.{length-set, length-replicate, get_or-append}
use Rattle.std.proofs.Math.Seq.{get_or-append_seam}
use Rattle.std.proofs.lemmas.List.{get_or-set_same, get_or-set_other, get_or-replicate}
use Rattle.std.proofs.lemmas.Bool.{cond_below, cond_above}
use Rattle.std.proofs.Math.Nat.{min-le_left, min-le_right, min-eq_left, min-eq_right}
use mathlib.Core.Logic.{dite}
use native.Mathlib.Decide.{dec_lt, ℕ_discrete}
use Rattle.acc_message_index.specs.declared.posting.Posting.{Posting}
use Rattle.acc_message_index.specs.Mail.{posting_at, nothing, taken}
use Rattle.acc_message_index.specs.Indexed.{none, lane_at, AreNowhere, Indexed}

-- no messages, and a place of none for each lane
pub of_nothing : (sent : List Posting) (links firsts lasts : List ℕ) → sent ≡ [] → links ≡ [] → AreNowhere 1024 firsts → AreNowhere 1024 lasts → Indexed sent links firsts lasts
of_nothing sent links firsts lasts a b f l = rw (a, b) record {
  linked = refl;
  first_of_each = f.count;
  last_of_each = l.count;
  link_or_none = λ k h. absurd (omega arith);
  first_or_none = λ lane h past. f.nowhere lane h;
  last_or_none = λ lane h past. l.nowhere lane h;
  rises = λ k h. absurd (omega arith);
  follows = λ k h. absurd (omega arith);
  between = λ k j h past low. absurd (omega arith);
  starts = λ lane h low. absurd (omega arith);
  before = λ j h. absurd (omega arith);
  ends = λ lane h low. absurd (omega arith);
  behind = λ j h. absurd (omega arith);
}

-- all places of a new list are nowhere
pub all_nowhere : (lanes : ℕ) (places : List ℕ) → places ≡ replicate lanes none → AreNowhere lanes places
all_nowhere lanes places is = record {
  count = ap length is ∙ length-replicate lanes none;
  nowhere = λ lane low. ap (λ l. get_or l lane 0) is ∙ get_or-replicate lanes lane none 0 low;
}

-- the first message of a lane may go on to a later one, before which none of the lane is open
pub moved : {sent : List Posting} {links firsts lasts : List ℕ} → (i : Indexed sent links firsts lasts) → (lane first : ℕ) → lane < 1024
    → (first < length sent → lane_at sent first ≡ lane) → ((j : ℕ) → j < length sent → j < first → lane_at sent j ≡ lane → (posting_at sent j).is_open ≡ false) → (length sent ≤ first → first ≡ none)
    → Indexed sent links (set firsts lane first) lasts
moved {sent} {links} {firsts} {lasts} i lane first low on_lane passed or_none = record {
  linked = i.linked;
  first_of_each = length-set firsts lane first ∙ i.first_of_each;
  last_of_each = i.last_of_each;
  link_or_none = i.link_or_none;
  first_or_none = λ l h. at_lane (λ place. length sent ≤ place → place ≡ none) l or_none (i.first_or_none l h);
  last_or_none = i.last_or_none;
  rises = i.rises;
  follows = i.follows;
  between = i.between;
  starts = λ l h. at_starts l h (ℕ_discrete l lane);
  before = λ j h. at_before j h (ℕ_discrete (lane_at sent j) lane);
  ends = i.ends;
  behind = i.behind;
}
  where
    here : get_or (set firsts lane first) lane 0 ≡ first
    here = get_or-set_same firsts lane first 0 (omega (arith, i.first_of_each))

    there : (l : ℕ) → l ≢ lane → get_or (set firsts lane first) l 0 ≡ get_or firsts l 0
    there l apart = get_or-set_other firsts lane l first 0 apart

    at_lane : (P : ℕ → Type 0) (l : ℕ) → P first → P (get_or firsts l 0) → P (get_or (set firsts lane first) l 0)
    at_lane P l new old = dite (ℕ_discrete l lane) (λ same. subst (λ m. P (get_or (set firsts lane first) m 0)) (sym same) (subst P (sym here) new)) (λ apart. subst P (sym (there l apart)) old)

    at_starts : (l : ℕ) → l < 1024 → Dec (l ≡ lane) → get_or (set firsts lane first) l 0 < length sent → lane_at sent (get_or (set firsts lane first) l 0) ≡ l
    at_starts l h (yes same) = subst (λ m. get_or (set firsts lane first) m 0 < length sent → lane_at sent (get_or (set firsts lane first) m 0) ≡ m) (sym same) (subst (λ p. p < length sent → lane_at sent p ≡ lane) (sym here) on_lane)
    at_starts l h (no apart) = subst (λ p. p < length sent → lane_at sent p ≡ l) (sym (there l apart)) (i.starts l h)

    at_before : (j : ℕ) → j < length sent → Dec (lane_at sent j ≡ lane) → j < get_or (set firsts lane first) (lane_at sent j) 0 → (posting_at sent j).is_open ≡ false
    at_before j h (yes same) = λ earlier. passed j h (subst (λ p. j < p) (ap (λ m. get_or (set firsts lane first) m 0) same ∙ here) earlier) same
    at_before j h (no apart) = λ earlier. i.before j h (subst (λ p. j < p) (there (lane_at sent j) apart) earlier)

-- a message that is taken keeps its lane
module _ (sent : List Posting) (number : ℕ) where
  abbrev closed : Posting
  closed = record (posting_at sent number) { is_open = false }

  taken_lane : (k : ℕ) → lane_at (taken number sent) k ≡ lane_at sent k
  taken_lane k = dite (ℕ_discrete k number)
      (λ same. dite (dec_lt k (length sent))
      (λ low. ap (λ (p : Posting). p.to % 1024) (ap (λ m. get_or (set sent number closed) m nothing) same ∙ get_or-set_same sent number closed nothing (subst (λ m. m < length sent) same low)) ∙ ap (λ m. lane_at sent m) (sym same))
      (λ high. ap (λ l. lane_at l k) (past sent number closed (subst (λ m. ¬ (m < length sent)) same high))))
      (λ apart. ap (λ (p : Posting). p.to % 1024) (get_or-set_other sent number k closed nothing apart))
    where
      past : (l : List Posting) (n : ℕ) (p : Posting) → ¬ (n < length l) → set l n p ≡ l
      past [] n p high = refl
      past (x ∷ xs) zero p high = absurd (high (omega arith))
      past (x ∷ xs) (suc n) p high = ap (λ l. x ∷ l) (past xs n p (λ low. high (omega arith)))

  taken_open : (k : ℕ) → k < length sent → (posting_at sent k).is_open ≡ false → (posting_at (taken number sent) k).is_open ≡ false
  taken_open k low is = dite (ℕ_discrete k number)
      (λ same. ap (λ (p : Posting). p.is_open) (ap (λ m. get_or (set sent number closed) m nothing) same ∙ get_or-set_same sent number closed nothing (subst (λ m. m < length sent) same low)))
      (λ apart. ap (λ (p : Posting). p.is_open) (get_or-set_other sent number k closed nothing apart) ∙ is)

pub closes : {sent : List Posting} {links firsts lasts : List ℕ} → (i : Indexed sent links firsts lasts) → (number : ℕ) → Indexed (taken number sent) links firsts lasts
closes {sent} {links} {firsts} {lasts} i number =
    let n : length (taken number sent) ≡ length sent = length-set sent number (closed sent number) in
    let lane : (k : ℕ) → lane_at (taken number sent) k ≡ lane_at sent k = taken_lane sent number in record {
      linked = i.linked ∙ sym n;
      first_of_each = i.first_of_each;
      last_of_each = i.last_of_each;
      link_or_none = λ k h past. i.link_or_none k (omega arith) (omega arith);
      first_or_none = λ l h past. i.first_or_none l h (omega arith);
      last_or_none = λ l h past. i.last_or_none l h (omega arith);
      rises = λ k h. i.rises k (omega arith);
      follows = λ k h low. lane (get_or links k 0) ∙ i.follows k (omega arith) (omega arith) ∙ sym (lane k);
      between = λ k j h past low same. i.between k j h past (omega arith) (sym (lane j) ∙ same ∙ lane k);
      starts = λ l h low. lane (get_or firsts l 0) ∙ i.starts l h (omega arith);
      before = λ j h earlier. taken_open sent number j (omega arith) (i.before j (omega arith) (subst (λ m. j < get_or firsts m 0) (lane j) earlier));
      ends = λ l h low. lane (get_or lasts l 0) ∙ i.ends l h (omega arith);
      behind = λ j h. let b = i.behind j (omega arith) in (
        subst (λ m. j ≤ get_or lasts m 0) (sym (lane j)) b.0,
        subst (λ m. get_or lasts m 0 < length (taken number sent)) (sym (lane j)) (subst (λ m. get_or lasts (lane_at sent j) 0 < m) (sym n) b.1),
      );
    }

-- the links after a message with the number n joined the lane whose last message is `last`
abbrev pub links_after : List ℕ → ℕ → ℕ → List ℕ
links_after links last n = cond (nat_lt last n) (set links last n) links ++ none ∷ []

module _ (links : List ℕ) (last n : ℕ) (count : length links ≡ n) where
  length-kept : length (cond (nat_lt last n) (set links last n) links) ≡ n
  length-kept = dite (dec_lt last n)
      (λ low. ap length (sym (cond_below last n (set links last n) links low)) ∙ length-set links last n ∙ count)
      (λ high. ap length (sym (cond_above last n (set links last n) links links (omega arith) refl)) ∙ count)

  length-links_after : length (links_after links last n) ≡ n + 1
  length-links_after = omega (arith, length-append (cond (nat_lt last n) (set links last n) links) (none ∷ []), length-kept)

  link_new : get_or (links_after links last n) n 0 ≡ none
  link_new = ap (λ m. get_or (links_after links last n) m 0) (sym length-kept) ∙ get_or-append_seam (cond (nat_lt last n) (set links last n) links) none [] 0

  link_last : last < n → get_or (links_after links last n) last 0 ≡ n
  link_last low =
      get_or-append (cond (nat_lt last n) (set links last n) links) (none ∷ []) 0 last (omega (arith, length-kept))
      ∙ ap (λ l. get_or l last 0) (sym (cond_below last n (set links last n) links low))
      ∙ get_or-set_same links last n 0 (omega (arith, count))

  link_else : (k : ℕ) → k < n → k ≢ last → get_or (links_after links last n) k 0 ≡ get_or links k 0
  link_else k low apart =
      get_or-append (cond (nat_lt last n) (set links last n) links) (none ∷ []) 0 k (omega (arith, length-kept))
      ∙ dite (dec_lt last n)
      (λ is. ap (λ l. get_or l k 0) (sym (cond_below last n (set links last n) links is)) ∙ get_or-set_other links last k n 0 apart)
      (λ not. ap (λ l. get_or l k 0) (sym (cond_above last n (set links last n) links links (omega arith) refl)))

module _ {sent : List Posting} {links firsts lasts : List ℕ} (i : Indexed sent links firsts lasts) (p : Posting) (small : length sent < none) where
  abbrev n : ℕ
  n = length sent

  abbrev lane : ℕ
  lane = p.to % 1024

  abbrev last : ℕ
  last = get_or lasts lane 0

  abbrev first : ℕ
  first = min (get_or firsts lane 0) n

  abbrev sent' : List Posting
  sent' = sent ++ p ∷ []

  abbrev links' : List ℕ
  links' = links_after links last n

  abbrev firsts' : List ℕ
  firsts' = set firsts lane first

  abbrev lasts' : List ℕ
  lasts' = set lasts lane n

  in_range : lane < 1024
  in_range = omega arith

  more : length sent' ≡ n + 1
  more = length-append sent (p ∷ [])

  old_at : (k : ℕ) → k < n → posting_at sent' k ≡ posting_at sent k
  old_at k low = get_or-append sent (p ∷ []) nothing k low

  old_lane : (k : ℕ) → k < n → lane_at sent' k ≡ lane_at sent k
  old_lane k low = ap (λ (q : Posting). q.to % 1024) (old_at k low)

  new_lane : (k : ℕ) → k ≡ n → lane_at sent' k ≡ lane
  new_lane k same = ap (λ m. lane_at sent' m) same ∙ ap (λ (q : Posting). q.to % 1024) (get_or-append_seam sent p [] nothing)

  new_link : (k : ℕ) → k ≡ n → get_or links' k 0 ≡ none
  new_link k same = ap (λ m. get_or links' m 0) same ∙ link_new links last n i.linked

  last_link : (k : ℕ) → k ≡ last → k < n → get_or links' k 0 ≡ n
  last_link k same low = ap (λ m. get_or links' m 0) same ∙ link_last links last n i.linked (subst (λ m. m < n) same low)

  else_link : (k : ℕ) → k < n → k ≢ last → get_or links' k 0 ≡ get_or links k 0
  else_link k = link_else links last n i.linked k

  -- the lane of the last message of the new message's lane
  last_lane : (k : ℕ) → k ≡ last → k < n → lane_at sent k ≡ lane
  last_lane k same low = ap (λ m. lane_at sent m) same ∙ i.ends lane in_range (subst (λ m. m < n) same low)

  first_here : get_or firsts' lane 0 ≡ first
  first_here = get_or-set_same firsts lane first 0 (omega (arith, i.first_of_each))

  first_else : (l : ℕ) → l ≢ lane → get_or firsts' l 0 ≡ get_or firsts l 0
  first_else l apart = get_or-set_other firsts lane l first 0 apart

  last_here : get_or lasts' lane 0 ≡ n
  last_here = get_or-set_same lasts lane n 0 (omega (arith, i.last_of_each))

  last_else : (l : ℕ) → l ≢ lane → get_or lasts' l 0 ≡ get_or lasts l 0
  last_else l apart = get_or-set_other lasts lane l n 0 apart

  -- a fact of each link: of the new message's, of that of the last one of its lane, and of the others
  link_cases : (P : ℕ → ℕ → Type 0) → P n none → ((k : ℕ) → k ≡ last → k < n → P k n) → ((k : ℕ) → k < n → k ≢ last → P k (get_or links k 0)) → (k : ℕ) → k < length sent' → P k (get_or links' k 0)
  link_cases P new ended other k low = dite (ℕ_discrete k n)
      (λ same. subst (λ m. P m (get_or links' m 0)) (sym same) (subst (P n) (sym (link_new links last n i.linked)) new))
      (λ apart. let low' : k < n = omega (arith, more) in dite (ℕ_discrete k last)
      (λ same. subst (P k) (sym (last_link k same low')) (ended k same low'))
      (λ else. subst (P k) (sym (else_link k low' else)) (other k low' else)))

  -- a fact of each lane's first and last message
  first_cases : (P : ℕ → ℕ → Type 0) → P lane first → ((l : ℕ) → l ≢ lane → P l (get_or firsts l 0)) → (l : ℕ) → P l (get_or firsts' l 0)
  first_cases P here other l = dite (ℕ_discrete l lane)
      (λ same. subst (λ m. P m (get_or firsts' m 0)) (sym same) (subst (P lane) (sym first_here) here))
      (λ apart. subst (P l) (sym (first_else l apart)) (other l apart))

  last_cases : (P : ℕ → ℕ → Type 0) → P lane n → ((l : ℕ) → l ≢ lane → P l (get_or lasts l 0)) → (l : ℕ) → P l (get_or lasts' l 0)
  last_cases P here other l = dite (ℕ_discrete l lane)
      (λ same. subst (λ m. P m (get_or lasts' m 0)) (sym same) (subst (P lane) (sym last_here) here))
      (λ apart. subst (P l) (sym (last_else l apart)) (other l apart))

  first_low : first ≤ n
  first_low = min-le_right (get_or firsts lane 0) n

  first_before : first ≤ get_or firsts lane 0
  first_before = min-le_left (get_or firsts lane 0) n

  first_lane : lane_at sent' first ≡ lane
  first_lane = dite (dec_lt (get_or firsts lane 0) n)
      (λ low. let e : first ≡ get_or firsts lane 0 = min-eq_left (omega arith) in ap (λ m. lane_at sent' m) e ∙ old_lane (get_or firsts lane 0) low ∙ i.starts lane in_range low)
      (λ high. new_lane first (min-eq_right (omega arith)))

  apart_between : (k j : ℕ) → k < n → k ≢ last → k < j → j < get_or links k 0 → j < length sent' → lane_at sent' j ≢ lane_at sent' k
  apart_between k j low else past before small' same = dite (ℕ_discrete j n)
      (λ is.
      let of : lane_at sent k ≡ lane = sym (old_lane k low) ∙ sym same ∙ new_lane j is in
      let b = i.behind k low in
      let b0 : k ≤ last = subst (λ m. k ≤ get_or lasts m 0) of b.0 in
      let b1 : last < n = subst (λ m. get_or lasts m 0 < n) of b.1 in
      i.between k last (omega arith) (omega arith) b1 (i.ends lane in_range b1 ∙ sym of))
      (λ not. let low' : j < n = omega (arith, more) in i.between k j past before low' (sym (old_lane j low') ∙ same ∙ old_lane k low))

  ended_between : (k j : ℕ) → k ≡ last → k < n → k < j → j < n → lane_at sent' j ≢ lane_at sent' k
  ended_between k j is low past before same =
      let of : lane_at sent j ≡ lane = sym (old_lane j before) ∙ same ∙ old_lane k low ∙ last_lane k is low in
      let b : j ≤ last = subst (λ m. j ≤ get_or lasts m 0) of (i.behind j before).0 in
      omega arith

  pub joins : Indexed sent' links' firsts' lasts'
  joins = record {
    linked = length-links_after links last n i.linked ∙ sym more;
    first_of_each = length-set firsts lane first ∙ i.first_of_each;
    last_of_each = length-set lasts lane n ∙ i.last_of_each;
    link_or_none = link_cases (λ k to. length sent' ≤ to → to ≡ none) (λ past. refl) (λ k is low past. absurd (omega (arith, more))) (λ k low else past. i.link_or_none k low (omega (arith, more)));
    first_or_none = λ l h. first_cases (λ l to. l < 1024 → length sent' ≤ to → to ≡ none) (λ h past. absurd (omega (arith, more, first_low))) (λ l apart h past. i.first_or_none l h (omega (arith, more))) l h;
    last_or_none = λ l h. last_cases (λ l to. l < 1024 → length sent' ≤ to → to ≡ none) (λ h past. absurd (omega (arith, more))) (λ l apart h past. i.last_or_none l h (omega (arith, more))) l h;
    rises = link_cases (λ k to. k < to) small (λ k is low. low) (λ k low else. i.rises k low);
    follows = link_cases (λ k to. to < length sent' → lane_at sent' to ≡ lane_at sent' k)
        (λ past. absurd (omega (arith, more)))
        (λ k is low past. new_lane n refl ∙ sym (last_lane k is low) ∙ sym (old_lane k low))
        (λ k low else past. let in' : get_or links k 0 < n = dite (dec_lt (get_or links k 0) n) (λ h. h) (λ h. let e = i.link_or_none k low (omega arith) in absurd (omega (arith, more))) in old_lane (get_or links k 0) in' ∙ i.follows k low in' ∙ sym (old_lane k low));
    between = λ k j past before low. link_cases (λ k to. k < j → j < to → lane_at sent' j ≢ lane_at sent' k)
        (λ past before. absurd (omega (arith, more)))
        (λ k is low' past before. ended_between k j is low' past before)
        (λ k low' else past before. apart_between k j low' else past before low)
        k (omega arith) past before;
    starts = first_cases (λ l to. l < 1024 → to < length sent' → lane_at sent' to ≡ l)
        (λ h low. first_lane)
        (λ l apart h low. let in' : get_or firsts l 0 < n = dite (dec_lt (get_or firsts l 0) n) (λ h'. h') (λ h'. let e = i.first_or_none l h (omega arith) in absurd (omega (arith, more))) in old_lane (get_or firsts l 0) in' ∙ i.starts l h in');
    before = λ j low. first_cases (λ l to. lane_at sent' j ≡ l → j < to → (posting_at sent' j).is_open ≡ false)
        (λ of earlier. let low' : j < n = omega (arith, first_low) in ap (λ (q : Posting). q.is_open) (old_at j low') ∙ i.before j low' (subst (λ m. j < get_or firsts m 0) (sym of ∙ old_lane j low') (omega (arith, first_before))))
        (λ l apart of earlier. let low' : j < n = dite (ℕ_discrete j n) (λ same. absurd (apart (sym of ∙ new_lane j same))) (λ else. omega (arith, more)) in ap (λ (q : Posting). q.is_open) (old_at j low') ∙ i.before j low' (subst (λ m. j < get_or firsts m 0) (sym of ∙ old_lane j low') earlier))
        (lane_at sent' j) refl;
    ends = last_cases (λ l to. l < 1024 → to < length sent' → lane_at sent' to ≡ l)
        (λ h low. new_lane n refl)
        (λ l apart h low. let in' : get_or lasts l 0 < n = dite (dec_lt (get_or lasts l 0) n) (λ h'. h') (λ h'. let e = i.last_or_none l h (omega arith) in absurd (omega (arith, more))) in old_lane (get_or lasts l 0) in' ∙ i.ends l h in');
    behind = λ j low. last_cases (λ l to. lane_at sent' j ≡ l → (j ≤ to) × (to < length sent'))
        (λ of. (omega (arith, more), omega (arith, more)))
        (λ l apart of.
        let low' : j < n = dite (ℕ_discrete j n) (λ same. absurd (apart (sym of ∙ new_lane j same))) (λ else. omega (arith, more)) in
        let b = i.behind j low' in
        let e : lane_at sent j ≡ l = sym (old_lane j low') ∙ of in
        let b0 : j ≤ get_or lasts l 0 = subst (λ m. j ≤ get_or lasts m 0) e b.0 in
        let b1 : get_or lasts l 0 < n = subst (λ m. get_or lasts m 0 < n) e b.1 in
        (b0, omega (arith, more)))
        (lane_at sent' j) refl;
  }

pub joins_as : {sent : List Posting} {links firsts lasts : List ℕ} → (i : Indexed sent links firsts lasts) → (p : Posting) → length sent < none → (sent' : List Posting) (links' firsts' lasts' : List ℕ) (lane : ℕ) → lane ≡ p.to % 1024 → sent' ≡ sent ++ p ∷ []
    → links' ≡ links_after links (get_or lasts lane 0) (length links) → firsts' ≡ set firsts lane (min (get_or firsts lane 0) (length links)) → lasts' ≡ set lasts lane (length links) → Indexed sent' links' firsts' lasts'
joins_as i p small sent' links' firsts' lasts' lane is a b c d = rw (a, b, c, d, is, i.linked) (joins i p small)
