-- Which late messages stay the first ones to their actors, where others are added or closed, where an actor goes down or comes up, and
-- where the first message that waits goes on.
use Rattle.std.proofs.Common.{◌≡◌, ◌≢◌, inl, inr, ℕ, ◌+◌, ◌<◌, ◌≤◌, Bool, true, false, not, ◌&&◌, List, [], ◌∷◌, ◌++◌, length, set, refl, sym, ap, ◌∙◌, subst, arith, length-append}
use Rattle.std.proofs.Math.ListN.{length-set, get_or-append}
use Rattle.std.proofs.Math.Seq.{get_or-append_seam}
use Rattle.std.proofs.lemmas.List.{get_or-set_same, get_or-set_other}
use Rattle.std.proofs.lemmas.Bool.{true≢false}
use mathlib.Core.Logic.{dite}
use native.Mathlib.Decide.{dec_lt, ℕ_discrete}
use Rattle.acc_message_index.specs.declared.posting.Posting.{Posting}
use Rattle.acc_message_index.specs.Mail.{Mail, nothing, posting_at, taken, IsOpenTo}
use Rattle.acc_message_index.specs.Trees.{none, leaf, IsTree}
use Rattle.acc_message_index.specs.Standing.{is_down_at, waits_in}
use Rattle.acc_message_index.specs.Heads.{AreCovered, IsNextWaiting, IsFirst, IsHead, Kept}

-- ---- a message is added

pub old_posting : (sent : List Posting) (p : Posting) (n : ℕ) → n < length sent → posting_at (sent ++ p ∷ []) n ≡ posting_at sent n
old_posting sent p n low = get_or-append sent (p ∷ []) nothing n low

pub new_posting : (sent : List Posting) (p : Posting) (n : ℕ) → n ≡ length sent → posting_at (sent ++ p ∷ []) n ≡ p
new_posting sent p n is = ap (λ m. posting_at (sent ++ p ∷ []) m) is ∙ get_or-append_seam sent p [] nothing

pub added_to : (sent : List Posting) (p : Posting) (count : ℕ) → p.to < count → AreCovered sent count → AreCovered (sent ++ p ∷ []) count
added_to sent p count low each n within = dite (dec_lt n (length sent))
    (λ old. subst (λ (q : Posting). q.to < count) (sym (old_posting sent p n old)) (each n old))
    (λ new. subst (λ (q : Posting). q.to < count) (sym (new_posting sent p n (omega (arith, length-append sent (p ∷ []))))) low)

module _ (sent : List Posting) (p : Posting) (actor : ℕ) where
  open_before : (n : ℕ) → n < length sent → IsOpenTo (sent ++ p ∷ []) actor n → IsOpenTo sent actor n
  open_before n low o =
      let e : posting_at (sent ++ p ∷ []) n ≡ posting_at sent n = old_posting sent p n low in
      (low, ap (λ (q : Posting). q.to) (sym e) ∙ o.1, ap (λ (q : Posting). q.is_open) (sym e) ∙ o.2)

  open_behind : (n : ℕ) → IsOpenTo sent actor n → IsOpenTo (sent ++ p ∷ []) actor n
  open_behind n o =
      let e : posting_at (sent ++ p ∷ []) n ≡ posting_at sent n = old_posting sent p n o.0 in
      (omega (arith, length-append sent (p ∷ []), o.0), ap (λ (q : Posting). q.to) e ∙ o.1, ap (λ (q : Posting). q.is_open) e ∙ o.2)

  -- a message that is added isn't late
  pub head_added : (first : ℕ) → first ≤ length sent → (is_down : Bool) (head : ℕ) → IsHead sent first actor is_down head → IsHead (sent ++ p ∷ []) first actor is_down head
  head_added first within true head h = h
  head_added first within false head (inl h) = inl (h.0, λ n low o. h.1 n low (open_before n (omega arith) o))
  head_added first within false head (inr h) = inr (
    record {
      is_open = open_behind head h.0.is_open;
      oldest = λ older low o. h.0.oldest older low (open_before older (omega (arith, h.1)) o);
    },
    h.1,
  )

-- ---- the first message that waits goes on

not_open : (sent : List Posting) (downs : List Bool) (actor n : ℕ) → is_down_at downs actor ≡ false → waits_in sent downs n ≡ false → ¬ IsOpenTo sent actor n
not_open sent downs actor n is_up not_waiting o = true≢false (
    sym (ap (λ d. true && not d) is_up)
    ∙ sym (ap (λ a. true && not (is_down_at downs a)) o.1)
    ∙ sym (ap (λ b. b && not (is_down_at downs (posting_at sent n).to)) o.2)
    ∙ not_waiting)

pub head_passed : (sent : List Posting) (downs : List Bool) (first first' actor : ℕ) → first ≤ first' → ((older : ℕ) → first ≤ older → older < first' → waits_in sent downs older ≡ false)
    → (is_down : Bool) (head : ℕ) → is_down_at downs actor ≡ is_down → IsHead sent first actor is_down head → IsHead sent first' actor is_down head
head_passed sent downs first first' actor on passed true head is h = h
head_passed sent downs first first' actor on passed false head is (inl h) = inl (h.0, λ n low. dite (dec_lt n first) (λ before. h.1 n before) (λ behind. not_open sent downs actor n is (passed n (omega arith) low)))
head_passed sent downs first first' actor on passed false head is (inr h) = inr (h.0, omega (arith, h.1))

-- each actor has its head
abbrev pub HaveHeads : List Posting → List Bool → List ℕ → ℕ → Type 0
HaveHeads sent downs heads first = (actor : ℕ) → actor < length downs → IsHead sent first actor (is_down_at downs actor) (leaf (length downs) heads actor)

pub settled : (mail : Mail) (downs slice : List Bool) (heads : List ℕ) (first first' : ℕ) → slice ≡ downs → mail.early ≡ [] → mail.takings ≡ 0 → AreCovered mail.sent (length slice)
    → IsTree (length slice) heads → HaveHeads mail.sent slice heads first → IsNextWaiting mail.sent slice first first' → Kept mail downs heads first'
settled mail downs slice heads first first' same early takings covered tree each next = subst (λ d. Kept mail d heads first') same (record {
  early = early;
  takings = takings;
  tree = tree;
  covered = covered;
  within = next.within;
  waits = next.waits;
  heads_are = λ actor low. head_passed mail.sent slice first first' actor next.from_on next.passed (is_down_at slice actor) (leaf (length slice) heads actor) refl (each actor low);
})

-- the same messages, which another list has
abbrev pub SameMail : Mail → Mail → List Posting → Type 0
SameMail mid mail sent = (mid.sent ≡ sent) × (mid.early ≡ mail.early) × (mid.takings ≡ mail.takings)

pub added_kept : {mail : Mail} {downs : List Bool} {heads : List ℕ} {first : ℕ} (k : Kept mail downs heads first) (p : Posting) (after : Mail) (slice : List Bool) (first' : ℕ)
    → SameMail after mail (mail.sent ++ p ∷ []) → p.to < length downs → slice ≡ downs → IsNextWaiting after.sent slice first first' → Kept after downs heads first'
added_kept {mail} {downs} {heads} {first} k p after slice first' same low is next = settled after downs slice heads first first' is (same.1 ∙ k.early) (same.2 ∙ k.takings)
    (subst (λ (l : List Posting). AreCovered l (length slice)) (sym same.0) (subst (λ d. AreCovered (mail.sent ++ p ∷ []) (length d)) (sym is) (added_to mail.sent p (length downs) low k.covered)))
    (subst (λ d. IsTree (length d) heads) (sym is) k.tree)
    (subst (λ (l : List Posting). HaveHeads l slice heads first) (sym same.0) (subst (λ d. HaveHeads (mail.sent ++ p ∷ []) d heads first) (sym is)
    (λ actor within. head_added mail.sent p actor first k.within (is_down_at downs actor) (leaf (length downs) heads actor) (k.heads_are actor within))))
    next

-- a message that waits still does
pub waits_added : {mail : Mail} {downs : List Bool} {heads : List ℕ} {first : ℕ} (k : Kept mail downs heads first) (p : Posting) (sent : List Posting) (slice : List Bool)
    → sent ≡ mail.sent ++ p ∷ [] → slice ≡ downs → first + 1 < length sent → waits_in sent slice first ≡ true
waits_added {mail} {downs} {heads} {first} k p sent slice same is low =
    let before : first < length mail.sent = omega (arith, ap length same, length-append mail.sent (p ∷ []), low) in
    ap (λ (l : List Posting). waits_in l slice first) same
    ∙ ap (λ d. waits_in (mail.sent ++ p ∷ []) d first) is
    ∙ ap (λ (q : Posting). q.is_open && not (is_down_at downs q.to)) (old_posting mail.sent p first before)
    ∙ k.waits before

-- ---- a change that concerns one actor

pub heads_after : (sent after : List Posting) (downs downs' : List Bool) (heads heads' : List ℕ) (first actor : ℕ) → length downs' ≡ length downs → HaveHeads sent downs heads first
    → IsHead after first actor (is_down_at downs' actor) (leaf (length downs') heads' actor)
    → ((a : ℕ) → a ≢ actor → leaf (length downs') heads' a ≡ leaf (length downs') heads a)
    → ((a head : ℕ) → a ≢ actor → IsHead sent first a (is_down_at downs a) head → IsHead after first a (is_down_at downs' a) head)
    → HaveHeads after downs' heads' first
heads_after sent after downs downs' heads heads' first actor count each here others stays a low = dite (ℕ_discrete a actor)
    (λ is. subst (λ m. IsHead after first m (is_down_at downs' m) (leaf (length downs') heads' m)) (sym is) here)
    (λ else.
    let e : leaf (length downs) heads a ≡ leaf (length downs') heads' a = ap (λ m. leaf m heads a) (sym count) ∙ sym (others a else) in
    subst (λ head. IsHead after first a (is_down_at downs' a) head) e (stays a (leaf (length downs) heads a) else (each a (omega (arith, count, low)))))

-- ---- a message is closed

module _ (sent : List Posting) (number : ℕ) where
  abbrev closed : Posting
  closed = record (posting_at sent number) { is_open = false }

  closed_same : (n : ℕ) → n ≡ number → n < length sent → posting_at (taken number sent) n ≡ closed
  closed_same n is low = ap (λ m. posting_at (taken number sent) m) is ∙ get_or-set_same sent number closed nothing (subst (λ m. m < length sent) is low)

  closed_other : (n : ℕ) → n ≢ number → posting_at (taken number sent) n ≡ posting_at sent n
  closed_other n else = get_or-set_other sent number n closed nothing else

  closed_to : (n : ℕ) → n < length sent → (posting_at (taken number sent) n).to ≡ (posting_at sent n).to
  closed_to n low = dite (ℕ_discrete n number)
      (λ is. ap (λ (q : Posting). q.to) (closed_same n is low) ∙ ap (λ m. (posting_at sent m).to) (sym is))
      (λ else. ap (λ (q : Posting). q.to) (closed_other n else))

  pub closed_covered : (count : ℕ) → AreCovered sent count → AreCovered (taken number sent) count
  closed_covered count each n within =
      let low : n < length sent = omega (arith, within, length-set sent number closed) in
      subst (λ m. m < count) (sym (closed_to n low)) (each n low)

  -- what was open to another actor still is, and nothing else
  still_open : (actor : ℕ) → actor ≢ (posting_at sent number).to → (n : ℕ) → IsOpenTo sent actor n → IsOpenTo (taken number sent) actor n
  still_open actor else n o =
      let apart : n ≢ number = λ is. else (sym o.1 ∙ ap (λ m. (posting_at sent m).to) is) in
      let e : posting_at (taken number sent) n ≡ posting_at sent n = closed_other n apart in
      (omega (arith, o.0, length-set sent number closed), ap (λ (q : Posting). q.to) e ∙ o.1, ap (λ (q : Posting). q.is_open) e ∙ o.2)

  was_open : (actor n : ℕ) → IsOpenTo (taken number sent) actor n → IsOpenTo sent actor n
  was_open actor n o =
      let low : n < length sent = omega (arith, o.0, length-set sent number closed) in
      let apart : n ≢ number = λ is. true≢false (sym o.2 ∙ ap (λ (q : Posting). q.is_open) (closed_same n is low)) in
      let e : posting_at (taken number sent) n ≡ posting_at sent n = closed_other n apart in
      (low, ap (λ (q : Posting). q.to) (sym e) ∙ o.1, ap (λ (q : Posting). q.is_open) (sym e) ∙ o.2)

  head_closed : (first actor : ℕ) → actor ≢ (posting_at sent number).to → (is_down : Bool) (head : ℕ) → IsHead sent first actor is_down head → IsHead (taken number sent) first actor is_down head
  head_closed first actor else true head h = h
  head_closed first actor else false head (inl h) = inl (h.0, λ n low o. h.1 n low (was_open actor n o))
  head_closed first actor else false head (inr h) =
      inr (record { is_open = still_open actor else head h.0.is_open; oldest = λ older low o. h.0.oldest older low (was_open actor older o) }, h.1)

  -- the first late message to the same actor is another one
  pub head_stays : (first actor : ℕ) → actor ≡ (posting_at sent number).to → (is_down : Bool) (head : ℕ) → head ≢ number → IsHead sent first actor is_down head → IsHead (taken number sent) first actor is_down head
  head_stays first actor is true head apart h = h
  head_stays first actor is false head apart (inl h) = inl (h.0, λ n low o. h.1 n low (was_open actor n o))
  head_stays first actor is false head apart (inr h) =
      let e : posting_at (taken number sent) head ≡ posting_at sent head = closed_other head apart in
      let o = h.0.is_open in inr (
        record {
          is_open = (omega (arith, o.0, length-set sent number closed), ap (λ (q : Posting). q.to) e ∙ o.1, ap (λ (q : Posting). q.is_open) e ∙ o.2);
          oldest = λ older low later. h.0.oldest older low (was_open actor older later);
        },
        h.1,
      )

pub closed_kept : {mail : Mail} {downs : List Bool} {heads : List ℕ} {first : ℕ} (k : Kept mail downs heads first) (number actor : ℕ) (mid after : Mail) (slice slice' : List Bool) (heads' : List ℕ) (first' : ℕ)
    → after ≡ mid → SameMail mid mail (taken number mail.sent) → slice ≡ downs → slice' ≡ downs → actor ≡ (posting_at mail.sent number).to
    → IsTree (length slice) heads' → IsHead mid.sent first actor (is_down_at slice actor) (leaf (length slice) heads' actor)
    → ((a : ℕ) → a ≢ actor → leaf (length slice) heads' a ≡ leaf (length slice) heads a)
    → IsNextWaiting after.sent slice' first first' → Kept after downs heads' first'
closed_kept {mail} {downs} {heads} {first} k number actor mid after slice slice' heads' first' as_mid same is is' to tree here others next = subst (λ (m : Mail). Kept m downs heads' first') (sym as_mid) (settled mid downs slice heads' first first' is (same.1 ∙ k.early) (same.2 ∙ k.takings)
    (subst (λ (l : List Posting). AreCovered l (length slice)) (sym same.0) (subst (λ d. AreCovered (taken number mail.sent) (length d)) (sym is) (closed_covered mail.sent number (length downs) k.covered)))
    tree
    (heads_after mail.sent mid.sent downs slice heads heads' first actor (ap length is) k.heads_are here others
    (λ a head else h. subst (λ (l : List Posting). IsHead l first a (is_down_at slice a) head) (sym same.0)
    (head_closed mail.sent number first a (λ e. else (e ∙ sym to)) (is_down_at slice a) head (subst (λ d. IsHead mail.sent first a (is_down_at d a) head) (sym is) h))))
    (subst (λ (m : Mail). IsNextWaiting m.sent slice first first') as_mid (subst (λ d. IsNextWaiting after.sent d first first') (is' ∙ sym is) next)))

-- ---- an actor goes down or comes up

pub turned_kept : {mail : Mail} {downs : List Bool} {heads : List ℕ} {first : ℕ} (k : Kept mail downs heads first) (actor : ℕ) (is_down : Bool) (after : Mail) (downs' slice slice' : List Bool) (heads' : List ℕ) (first' : ℕ)
    → after ≡ mail → downs' ≡ set downs actor is_down → slice ≡ downs' → slice' ≡ downs'
    → IsTree (length slice) heads' → IsHead mail.sent first actor (is_down_at slice actor) (leaf (length slice) heads' actor)
    → ((a : ℕ) → a ≢ actor → leaf (length slice) heads' a ≡ leaf (length slice) heads a)
    → IsNextWaiting after.sent slice' first first' → Kept after downs' heads' first'
turned_kept {mail} {downs} {heads} {first} k actor is_down after downs' slice slice' heads' first' same set_is is is' tree here others next =
    let turned : slice ≡ set downs actor is_down = is ∙ set_is in
    let count : length slice ≡ length downs = ap length turned ∙ length-set downs actor is_down in
    settled after downs' slice heads' first first' is (ap (λ (m : Mail). m.early) same ∙ k.early) (ap (λ (m : Mail). m.takings) same ∙ k.takings)
    (subst (λ (m : Mail). AreCovered m.sent (length slice)) (sym same) (subst (λ n. AreCovered mail.sent n) (sym count) k.covered))
    tree
    (subst (λ (m : Mail). HaveHeads m.sent slice heads' first) (sym same) (heads_after mail.sent mail.sent downs slice heads heads' first actor count k.heads_are here others
    (λ a head else h. subst (λ d. IsHead mail.sent first a d head) (sym (ap (λ d. is_down_at d a) turned ∙ get_or-set_other downs actor a is_down false else)) h)))
    (subst (λ d. IsNextWaiting after.sent d first first') (is' ∙ sym is) next)
