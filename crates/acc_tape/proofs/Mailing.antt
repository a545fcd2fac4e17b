-- The index of messages is that of the items, also after one more.
use Rattle.std.proofs.Common.{◌≡◌, ℕ, zero, suc, ◌+◌, ◌-◌, ◌<◌, ◌≤◌, ◌==◌, ◌&&◌, ◌||◌, not, Bool, true, false, List, [], ◌∷◌, ◌++◌, length, Option, None, Some, MatchOption, All, get_or, take, refl, sym, ap, ◌∙◌, subst, arith, length-append, append-nil, append_assoc, eq-eqb, ne_eqb}
use Rattle.std.specs.Prelude.{slice_get, sum_by}
use Rattle.std.specs.List.{list_any}
use Rattle.std.proofs.Math.Bool.{or-false}
use Rattle.std.proofs.Math.ListN.{length-set}
use Rattle.std.proofs.lemmas.List.Elements.{All-append}
use Rattle.std.proofs.lemmas.List.Folds.{list_any-append}
use Rattle.std.proofs.lemmas.Option.{slice_get_within, slice_get-get_or}
use Rattle.std.proofs.lemmas.Bool.{cond_below, cond_above}
use mathlib.Core.Logic.{dite}
use native.Mathlib.Decide.{dec_lt}
use Rattle.acc_message_index.specs.declared.posting.Posting.{Posting}
use Rattle.acc_message_index.specs.declared.posting.Post.{Post}
use Rattle.acc_message_index.specs.Mail.{Mail, posting_at, nothing, taken, IsOpenTo, IsNext as IsNextOf, HasNone as HasNoneOf}
use Rattle.acc_tape.specs.Messages.{is_number, messages_from, messages_of, is_taken, IsWaiting, HasNone, IsOldest, AreOldest, IsSentBy, behind_all, posts_in}
use Rattle.std.proofs.lemmas.List.Sums.{sum_by-cons, sum_by_push}
use Rattle.acc_tape.specs.declared.content.Limits.{Limits}
use Rattle.acc_tape.specs.Kept.{closed_from, after_taking, after_messages, IsIndexOf, IsKept}

-- a message, closed where it is taken
abbrev pub closed : Bool → Posting → Posting
closed t p = record { to = p.to; place = p.place; index = p.index; is_open = p.is_open && not t }

-- ---- lists of messages

pub closed_from-append : (n : ℕ) (t : ℕ → Bool) (xs ys : List Posting) → closed_from n t (xs ++ ys) ≡ closed_from n t xs ++ closed_from (n + length xs) t ys
closed_from-append n t [] ys = ap (λ m. closed_from m t ys) (omega arith)
closed_from-append n t (x ∷ xs) ys = ap (λ l. closed (t n) x ∷ l) (closed_from-append (n + 1) t xs ys ∙ ap (λ m. closed_from (n + 1) t xs ++ closed_from m t ys) (omega arith))

pub length-closed_from : (n : ℕ) (t : ℕ → Bool) (xs : List Posting) → length (closed_from n t xs) ≡ length xs
length-closed_from n t [] = refl
length-closed_from n t (x ∷ xs) = ap suc (length-closed_from (n + 1) t xs)

closed_from-same : (n : ℕ) (t u : ℕ → Bool) (xs : List Posting) → ((k : ℕ) → n ≤ k → k < n + length xs → t k ≡ u k) → closed_from n t xs ≡ closed_from n u xs
closed_from-same n t u [] same = refl
closed_from-same n t u (x ∷ xs) same = ap (λ (b : Bool). closed b x ∷ closed_from (n + 1) t xs) (same n (omega arith) (omega arith)) ∙ ap (λ l. closed (u n) x ∷ l) (closed_from-same (n + 1) t u xs (λ k low high. same k (omega arith) (omega arith)))

pub closed_at : (n : ℕ) (t : ℕ → Bool) (xs : List Posting) (k : ℕ) (p : Posting) → slice_get xs k ≡ Some p → posting_at (closed_from n t xs) k ≡ closed (t (n + k)) p
closed_at n t [] k p e = absurd (cc)
closed_at n t (x ∷ xs) zero p e = let same : x ≡ p = cc in ap (λ q. closed (t n) q) same ∙ ap (λ m. closed (t m) p) (omega arith)
closed_at n t (x ∷ xs) (suc k) p e = closed_at (n + 1) t xs k p e ∙ ap (λ m. closed (t m) p) (omega arith)

pub messages_from-snoc : (place index : ℕ) (lost : Bool) (xs : List ℕ) (x : ℕ) → messages_from place index lost (xs ++ x ∷ []) ≡ messages_from place index lost xs ++ record { to = x; place = place; index = index + length xs; is_open = not lost } ∷ []
messages_from-snoc place index lost [] x = ap (λ (i : ℕ). record { to = x; place = place; index = i; is_open = not lost } ∷ []) (omega arith)
messages_from-snoc place index lost (y ∷ ys) x =
    ap (λ l. record { to = y; place = place; index = index; is_open = not lost } ∷ l)
    (messages_from-snoc place (index + 1) lost ys x ∙ ap (λ (i : ℕ). messages_from place (index + 1) lost ys ++ record { to = x; place = place; index = i; is_open = not lost } ∷ []) (omega arith))

pub length-messages_from : (place index : ℕ) (lost : Bool) (xs : List ℕ) → length (messages_from place index lost xs) ≡ length xs
length-messages_from place index lost [] = refl
length-messages_from place index lost (x ∷ xs) = ap suc (length-messages_from place (index + 1) lost xs)

-- one more message of an item is noted
take_more : (tos : List ℕ) (i to : ℕ) → slice_get tos i ≡ Some to → (take (i + 1) tos ≡ take i tos ++ to ∷ []) × (length (take i tos) ≡ i)
take_more [] i to e = absurd (cc)
take_more (x ∷ xs) zero to e = (ap (λ (y : ℕ). y ∷ []) (let s : x ≡ to = cc in s), refl)
take_more (x ∷ xs) (suc i) to e = let r = take_more xs i to e in (ap (λ m. take m (x ∷ xs)) (let s : suc i + 1 ≡ suc (i + 1) = omega arith in s) ∙ ap (λ l. x ∷ l) r.0, ap suc r.1)

abbrev pub noted : Mail → ℕ → ℕ → Bool → ℕ → Mail
noted now to place lost i = record now { sent = now.sent ++ record { to = to; place = place; index = i; is_open = not lost && not (list_any (λ n. n == length now.sent) now.early) } ∷ []; room = now.room - 1 }

pub notes_one : (mail : Mail) (place : ℕ) (lost : Bool) (tos : List ℕ) (i to : ℕ) → slice_get tos i ≡ Some to → (now : Mail) → now ≡ after_messages (messages_from place 0 lost (take i tos)) mail → noted now to place lost i ≡ after_messages (messages_from place 0 lost (take (i + 1) tos)) mail
notes_one mail place lost tos i to e now is =
    let t : ℕ → Bool = λ n. list_any (λ m. m == n) mail.early in
    let ms = messages_from place 0 lost (take i tos) in
    let p : Posting = record { to = to; place = place; index = i; is_open = not lost } in
    let more = take_more tos i to e in
    let all : messages_from place 0 lost (take (i + 1) tos) ≡ ms ++ p ∷ [] =
    ap (λ l. messages_from place 0 lost l) more.0 ∙ messages_from-snoc place 0 lost (take i tos) to ∙ ap (λ (j : ℕ). ms ++ record { to = to; place = place; index = j; is_open = not lost } ∷ []) (let q = more.1 in omega arith) in
    let n : length (mail.sent ++ closed_from (length mail.sent) t ms) ≡ length mail.sent + length ms = length-append mail.sent (closed_from (length mail.sent) t ms) ∙ ap (λ m. length mail.sent + m) (length-closed_from (length mail.sent) t ms) in
    let sent : (mail.sent ++ closed_from (length mail.sent) t ms) ++ closed (t (length (mail.sent ++ closed_from (length mail.sent) t ms))) p ∷ [] ≡ mail.sent ++ closed_from (length mail.sent) t (messages_from place 0 lost (take (i + 1) tos)) =
    ap (λ m. (mail.sent ++ closed_from (length mail.sent) t ms) ++ closed (t m) p ∷ []) n
    ∙ append_assoc mail.sent (closed_from (length mail.sent) t ms) (closed (t (length mail.sent + length ms)) p ∷ [])
    ∙ ap (λ l. mail.sent ++ l) (sym (closed_from-append (length mail.sent) t ms (p ∷ [])) ∙ ap (λ l. closed_from (length mail.sent) t l) (sym all)) in
    let room : mail.room - length ms - 1 ≡ mail.room - length (messages_from place 0 lost (take (i + 1) tos)) = (let l = ap length all ∙ length-append ms (p ∷ []) in omega arith) in
    ap (λ x. noted x to place lost i) is ∙ (λ k. record mail { sent = sent k; room = room k })

-- where a message of an item stands
message_from_at : (place index : ℕ) (lost : Bool) (xs : List ℕ) (k : ℕ) (p : Posting) → slice_get (messages_from place index lost xs) k ≡ Some p → (p.place ≡ place) × (p.index ≡ index + k) × (slice_get xs k ≡ Some p.to)
message_from_at place index lost [] k p e = absurd (cc)
message_from_at place index lost (x ∷ xs) zero p e =
    let same : record { to = x; place = place; index = index; is_open = not lost } ≡ p = cc in
    (ap (λ (q : Posting). q.place) (sym same), ap (λ (q : Posting). q.index) (sym same) ∙ omega arith, ap (λ (q : Posting). Some q.to) same)
message_from_at place index lost (x ∷ xs) (suc k) p e = let r = message_from_at place (index + 1) lost xs k p e in (r.0, r.1 ∙ omega arith, r.2)

slice_get_left : {X : Type 0} (xs ys : List X) (k : ℕ) → k < length xs → slice_get (xs ++ ys) k ≡ slice_get xs k
slice_get_left [] ys k low = absurd (omega arith)
slice_get_left (x ∷ xs) ys zero low = refl
slice_get_left (x ∷ xs) ys (suc k) low = slice_get_left xs ys k (omega arith)

slice_get_right : {X : Type 0} (xs ys : List X) (k : ℕ) → slice_get (xs ++ ys) (length xs + k) ≡ slice_get ys k
slice_get_right [] ys k = ap (λ m. slice_get ys m) (omega arith)
slice_get_right (x ∷ xs) ys k = ap (λ m. slice_get (x ∷ (xs ++ ys)) m) (let e : suc (length xs) + k ≡ suc (length xs + k) = omega arith in e) ∙ slice_get_right xs ys k

posts_in-snoc : {M : Type 0} (found : List (Post × M)) (pair : Post × M) → posts_in (found ++ pair ∷ []) ≡ posts_in found ++ pair.0 ∷ []
posts_in-snoc [] pair = refl
posts_in-snoc (x ∷ found) pair = ap (λ l. x.0 ∷ l) (posts_in-snoc found pair)

all_one : {X : Type 0} (P : X → Type 0) (x : X) → P x → All P (x ∷ [])
all_one P x is zero d low = is
all_one P x is (suc k) d low = absurd (omega arith)

module _ {E : Type 0} (took : E → Option ℕ) (sent_to : E → List ℕ) (is_lost : E → Bool) where
  abbrev count : List E → ℕ
  count items = sum_by (λ i. length (sent_to i)) items

  abbrev of_item : ℕ → E → List Posting
  of_item place item = messages_from place 0 (is_lost item) (sent_to item)

  pub messages_of-snoc : (place : ℕ) (items : List E) (item : E) → messages_of sent_to is_lost place (items ++ item ∷ []) ≡ messages_of sent_to is_lost place items ++ of_item (place + length items) item
  messages_of-snoc place [] item = append-nil (of_item place item) ∙ ap (λ m. of_item m item) (omega arith)
  messages_of-snoc place (x ∷ xs) item =
      ap (λ l. of_item place x ++ l) (messages_of-snoc (place + 1) xs item ∙ ap (λ m. messages_of sent_to is_lost (place + 1) xs ++ of_item m item) (omega arith)) ∙ sym (append_assoc (of_item place x) (messages_of sent_to is_lost (place + 1) xs) (of_item (place + length (x ∷ xs)) item))

  is_taken-snoc : (items : List E) (item : E) (n : ℕ) → is_taken took (items ++ item ∷ []) n ≡ (is_taken took items n || is_number n (took item))
  is_taken-snoc items item n = list_any-append (λ i. is_number n (took i)) items (item ∷ []) ∙ ap (λ b. is_taken took items n || b) (or-false (is_number n (took item)))

  count_first : (j : ℕ) (x : E) (xs : List E) → count (take (suc j) (x ∷ xs)) ≡ length (sent_to x) + count (take j xs)
  count_first j x xs = sum_by-cons (λ i. length (sent_to i)) x (take j xs)

  -- the item that sent a message, and its place among that item's messages
  pub stands : (place : ℕ) (items : List E) (n : ℕ) (p : Posting) → slice_get (messages_of sent_to is_lost place items) n ≡ Some p
      → (j : ℕ) × (p.place ≡ place + j) × ((item : E) × (slice_get items j ≡ Some item) × (slice_get (sent_to item) p.index ≡ Some p.to) × (n ≡ count (take j items) + p.index))
  stands place [] n p e = absurd (cc)
  stands place (x ∷ xs) n p e = dite (dec_lt n (length (of_item place x)))
      (λ low. let m = message_from_at place 0 (is_lost x) (sent_to x) n p (sym (slice_get_left (of_item place x) (messages_of sent_to is_lost (place + 1) xs) n low) ∙ e) in
      let i : p.index ≡ n = m.1 ∙ omega arith in
      (0, m.0 ∙ omega arith, (x, refl, ap (λ k. slice_get (sent_to x) k) i ∙ m.2, omega arith)))
      (λ high.
      let k : n ≡ length (of_item place x) + (n - length (of_item place x)) = omega arith in
      let r = stands (place + 1) xs (n - length (of_item place x)) p (sym (slice_get_right (of_item place x) (messages_of sent_to is_lost (place + 1) xs) (n - length (of_item place x))) ∙ ap (λ m. slice_get (of_item place x ++ messages_of sent_to is_lost (place + 1) xs) m) (sym k) ∙ e) in
      (suc r.0, r.1 ∙ omega arith, (r.2.0, r.2.1, r.2.2, (let l = length-messages_from place 0 (is_lost x) (sent_to x) in let q = r.2.3 in let f = count_first r.0 x xs in omega arith))))

  -- ---- the index finds what waits

  module _ (items : List E) (mail : Mail) (i : IsIndexOf took sent_to is_lost items mail) where
    abbrev messages : List Posting
    messages = messages_of sent_to is_lost 0 items

    count_of_all : length mail.sent ≡ length messages
    count_of_all = ap length i.sent ∙ length-closed_from 0 (is_taken took items) messages

    found_at : (n : ℕ) (p : Posting) → slice_get messages n ≡ Some p → posting_at mail.sent n ≡ closed (is_taken took items n) p
    found_at n p e = ap (λ l. posting_at l n) i.sent ∙ closed_at 0 (is_taken took items) messages n p e ∙ ap (λ m. closed (is_taken took items m) p) (omega arith)

    both : (a b : Bool) → (a && not b) ≡ true → (a ≡ true) × (b ≡ false)
    both true false e = (refl, refl)
    both true true e = absurd (cc)
    both false b e = absurd (cc)

    pub open_waits : (actor n : ℕ) → IsOpenTo mail.sent actor n → IsWaiting took sent_to is_lost items actor n
    open_waits actor n o =
        let p = get_or messages n nothing in
        let e : slice_get messages n ≡ Some p = slice_get-get_or messages n nothing (omega (arith, count_of_all)) in
        let f = found_at n p e in
        let b = both p.is_open (is_taken took items n) (ap (λ (q : Posting). q.is_open) (sym f) ∙ o.2) in
        (p, e, ap (λ (q : Posting). q.to) (sym f) ∙ o.1, b.0, b.1)

    pub waits_open : (actor n : ℕ) → IsWaiting took sent_to is_lost items actor n → IsOpenTo mail.sent actor n
    waits_open actor n w =
        let low = slice_get_within messages n w.0 w.1 in
        let f = found_at n w.0 w.1 in
        (omega (arith, count_of_all), ap (λ (q : Posting). q.to) f ∙ w.2, ap (λ (q : Posting). q.is_open) f ∙ ap (λ b. b && not (is_taken took items n)) w.3 ∙ ap (λ b. true && not b) w.4)

    pub none_waits : (actor from : ℕ) → HasNoneOf mail.sent actor from → HasNone took sent_to is_lost items actor from
    none_waits actor from h n late w = h n late (waits_open actor n w)

    pub oldest_waits : (actor from : ℕ) (post : Post) → IsNextOf mail.sent actor from post → IsOldest took sent_to is_lost items actor from post
    oldest_waits actor from post h =
        let w = open_waits actor post.number h.is_open in
        let p : Posting = w.0 in
        let f = found_at post.number p w.1 in
        let place : post.place ≡ p.place = h.stands.0 ∙ ap (λ (q : Posting). q.place) f in
        let index : post.index ≡ p.index = h.stands.1 ∙ ap (λ (q : Posting). q.index) f in
        let s = stands 0 items post.number p w.1 in
        let at : post.place ≡ s.0 = place ∙ s.1 ∙ omega arith in
        record {
          late_enough = h.late_enough;
          waits = w;
          oldest = λ n late earlier x. h.oldest n late earlier (waits_open actor n x);
          stands = (s.2.0, ap (λ k. slice_get items k) at ∙ s.2.1, ap (λ k. slice_get (sent_to s.2.0) k) index ∙ s.2.2 ∙ ap (λ t. Some t) w.2, s.2.3 ∙ (λ k. count (take (sym at k) items) + sym index k));
        }

    pub next_waits : (actor from : ℕ) (r : Option Post) → MatchOption r (HasNoneOf mail.sent actor from) (IsNextOf mail.sent actor from) → MatchOption r (HasNone took sent_to is_lost items actor from) (IsOldest took sent_to is_lost items actor from)
    next_waits actor from None h = none_waits actor from h
    next_waits actor from (Some post) h = oldest_waits actor from post h

  -- ---- messages that wait, one after another

  pub behind_all-snoc : (from : ℕ) (posts : List Post) (post : Post) → behind_all from (posts ++ post ∷ []) ≡ post.number + 1
  behind_all-snoc from [] post = refl
  behind_all-snoc from (p ∷ posts) post = behind_all-snoc (p.number + 1) posts post

  pub oldest_more : (items : List E) (actor from : ℕ) (posts : List Post) (post : Post) → AreOldest took sent_to is_lost items actor from posts → IsOldest took sent_to is_lost items actor (behind_all from posts) post → AreOldest took sent_to is_lost items actor from (posts ++ post ∷ [])
  oldest_more items actor from [] post old new = (new, tt)
  oldest_more items actor from (p ∷ posts) post old new = (old.0, oldest_more items actor (p.number + 1) posts post old.1 new)

  -- one more is found, after those that were
  pub found_more : {M : Type 0} (is_sent : E → ℕ → M → Type 0) (items : List E) (actor : ℕ) (found found' : List (Post × M)) (post : Post) (message : M) (last : ℕ) → found' ≡ found ++ (post, message) ∷ [] → last ≡ behind_all 0 (posts_in found)
      → AreOldest took sent_to is_lost items actor 0 (posts_in found) → All (IsSentBy is_sent items) found → IsOldest took sent_to is_lost items actor last post → IsSentBy is_sent items (post, message)
      → (post.number + 1 ≡ behind_all 0 (posts_in found')) × AreOldest took sent_to is_lost items actor 0 (posts_in found') × All (IsSentBy is_sent items) found'
  found_more is_sent items actor found found' post message last is behind oldest sent next by =
      let more = ap posts_in is ∙ posts_in-snoc found (post, message) in (
        sym (ap (behind_all 0) more ∙ behind_all-snoc 0 (posts_in found) post),
        subst (AreOldest took sent_to is_lost items actor 0) (sym more) (oldest_more items actor 0 (posts_in found) post oldest (subst (λ n. IsOldest took sent_to is_lost items actor n post) behind next)),
        subst (All (IsSentBy is_sent items)) (sym is) (All-append (IsSentBy is_sent items) found ((post, message) ∷ []) sent (all_one (IsSentBy is_sent items) (post, message) by)),
      )

  -- ---- one more item

  -- a message that is taken is closed, the others are as before
  takes_one : (k m : ℕ) (t u : ℕ → Bool) (ps : List Posting) (i : ℕ) → m ≡ k + i → ((n : ℕ) → u n ≡ (t n || (m == n))) → closed_from k u ps ≡ taken i (closed_from k t ps)
  takes_one k m t u [] i e f = refl
  takes_one k m t u (p ∷ ps) zero e f =
      let same : u k ≡ true = f k ∙ ap (λ b. t k || b) (eq-eqb m k (omega arith)) ∙ or-true (t k) in
      ap (λ (b : Bool). closed b p ∷ closed_from (k + 1) u ps) same
      ∙ ap (λ (b : Bool). record { to = p.to; place = p.place; index = p.index; is_open = b } ∷ closed_from (k + 1) u ps) (and-false p.is_open)
      ∙ ap (λ l. record { to = p.to; place = p.place; index = p.index; is_open = false } ∷ l) (closed_from-same (k + 1) u t ps (λ n low high. f n ∙ ap (λ b. t n || b) (ne_eqb m n (λ is. omega arith)) ∙ or-false (t n)))
    where
      or-true : (b : Bool) → (b || true) ≡ true
      or-true true = refl
      or-true false = refl

      and-false : (b : Bool) → (b && not true) ≡ false
      and-false true = refl
      and-false false = refl
  takes_one k m t u (p ∷ ps) (suc i) e f =
      let same : u k ≡ t k = f k ∙ ap (λ b. t k || b) (ne_eqb m k (λ is. omega arith)) ∙ or-false (t k) in
      ap (λ (b : Bool). closed b p ∷ closed_from (k + 1) u ps) same ∙ ap (λ l. closed (t k) p ∷ l) (takes_one (k + 1) m t u ps i (omega arith) f)

  module _ (items : List E) (item : E) (mail : Mail) (i : IsIndexOf took sent_to is_lost items mail) where
    abbrev items' : List E
    items' = items ++ item ∷ []

    taken_by : (x : Option ℕ) → took item ≡ x → (n : ℕ) → is_taken took items' n ≡ (is_taken took items n || is_number n x)
    taken_by x e n = is_taken-snoc items item n ∙ ap (λ y. is_taken took items n || is_number n y) e

    -- after the taking the messages so far are closed as they are to be, and the others are known
    after : (x : Option ℕ) → took item ≡ x → (length (after_taking x mail).sent ≡ length mail.sent) × ((after_taking x mail).sent ≡ closed_from 0 (is_taken took items') (messages_of sent_to is_lost 0 items)) × ((n : ℕ) → length mail.sent ≤ n → list_any (λ m. m == n) (after_taking x mail).early ≡ is_taken took items' n)
    after None e = (
      refl,
      i.sent ∙ closed_from-same 0 (is_taken took items) (is_taken took items') (messages_of sent_to is_lost 0 items) (λ k low high. sym (taken_by None e k ∙ or-false (is_taken took items k))),
      λ n past. i.early n past ∙ sym (taken_by None e n ∙ or-false (is_taken took items n)),
    )
    after (Some m) e = (
      length-set mail.sent m (record (posting_at mail.sent m) { is_open = false }),
      ap (λ l. taken m l) i.sent ∙ sym (takes_one 0 m (is_taken took items) (is_taken took items') (messages_of sent_to is_lost 0 items) m (omega arith) (taken_by (Some m) e)),
      λ n past. dite (dec_lt m (length mail.sent))
          (λ low. ap (λ l. list_any (λ m. m == n) l) (sym (cond_below m (length mail.sent) mail.early (mail.early ++ m ∷ []) low)) ∙ i.early n past ∙ sym (taken_by (Some m) e n ∙ ap (λ b. is_taken took items n || b) (ne_eqb m n (λ is. omega arith)) ∙ or-false (is_taken took items n)))
          (λ high. ap (λ l. list_any (λ m. m == n) l) (sym (cond_above m (length mail.sent) mail.early (mail.early ++ m ∷ []) (mail.early ++ m ∷ []) (omega arith) refl)) ∙ list_any-append (λ m. m == n) mail.early (m ∷ []) ∙ (λ k. i.early n past k || or-false (m == n) k) ∙ sym (taken_by (Some m) e n)),
    )

    pub more : (x : Option ℕ) → took item ≡ x → (mid : Mail) → mid.sent ≡ (after_taking x mail).sent → mid.early ≡ (after_taking x mail).early → IsIndexOf took sent_to is_lost items' (after_messages (of_item (length items) item) mid)
    more x e mid sent early =
        let a = after x e in
        let M = of_item (length items) item in
        let n : length mid.sent ≡ length (messages_of sent_to is_lost 0 items) = ap length (sent ∙ a.1) ∙ length-closed_from 0 (is_taken took items') (messages_of sent_to is_lost 0 items) in
        let is : length mid.sent ≡ length mail.sent = ap length sent ∙ a.0 in
        let same : (k : ℕ) → length mid.sent ≤ k → list_any (λ m. m == k) mid.early ≡ is_taken took items' k = λ k past. ap (λ l. list_any (λ m. m == k) l) early ∙ a.2 k (omega arith) in record {
          sent =
              (λ k. (sent ∙ a.1) k ++ closed_from-same (length mid.sent) (λ n. list_any (λ m. m == n) mid.early) (is_taken took items') M (λ j low high. same j low) k)
              ∙ ap (λ m. closed_from 0 (is_taken took items') (messages_of sent_to is_lost 0 items) ++ closed_from m (is_taken took items') M) (n ∙ omega arith)
              ∙ sym (closed_from-append 0 (is_taken took items') (messages_of sent_to is_lost 0 items) M)
              ∙ ap (λ l. closed_from 0 (is_taken took items') l) (sym (messages_of-snoc 0 items item ∙ ap (λ m. messages_of sent_to is_lost 0 items ++ of_item m item) (omega arith)));
          early = λ k past. same k (let l = length-append mid.sent (closed_from (length mid.sent) (λ n. list_any (λ m. m == n) mid.early) M) in omega arith);
        }

  -- what a board keeps, after an item entered it
  pub keeps_more : (bytes : E → ℕ) (fits : List E → Type 0) (items : List E) (weight reserved reserved_weight : ℕ) (limits : Limits) (room : ℕ) (mail : Mail) → IsKept took sent_to is_lost bytes fits items weight reserved reserved_weight limits room mail
      → (item : E) (k w size : ℕ) → size ≡ bytes item → size ≤ w → length (sent_to item) ≤ bytes item → 1 ≤ k → k ≤ reserved → w ≤ reserved_weight
      → (taking mid last : Mail) → taking ≡ after_taking (took item) mail → mid ≡ record taking { room = taking.room - (w - length (sent_to item)); takings = taking.takings - (k - 1) } → last ≡ after_messages (messages_from (length items) 0 (is_lost item) (sent_to item)) mid
      → (room' : ℕ) → room' ≡ room - (1 + length (sent_to item)) - (k - 1) - (w - length (sent_to item))
      → (fits items → fits (items ++ item ∷ [])) → (items' : List E) → items' ≡ items ++ item ∷ []
      → IsKept took sent_to is_lost bytes fits items' (weight + size) (reserved - k) (reserved_weight - w) limits room' last
  keeps_more bytes fits items weight reserved reserved_weight limits room mail i item k w size is low_size short some low low' taking mid last a b c room' same next items' so =
      let rooms : (x : Option ℕ) → ((after_taking x mail).room ≡ mail.room) × ((after_taking x mail).takings ≡ mail.takings - 1) = after_room mail in
      let r = rooms (took item) in
      let n = length-messages_from (length items) 0 (is_lost item) (sent_to item) in
      let l = length-append items (item ∷ []) in
      rw (so, c, b, a, same) record {
        weighs = (λ j. i.weighs j + is j) ∙ sym (sum_by_push bytes items item);
        within_items = (let q = i.within_items in omega arith);
        within_places = (let q = i.within_places in omega arith);
        within_weight = (let q = i.within_weight in omega arith);
        has_room = (let q = i.has_room in omega arith);
        messages = (let q = i.messages in let r0 = r.0 in omega arith);
        takings = (let q = i.takings in let r1 = r.1 in omega arith);
        index = more items item mail i.index (took item) refl _ refl refl;
        fitting = next i.fitting;
      }
    where
      after_room : (mail : Mail) (x : Option ℕ) → ((after_taking x mail).room ≡ mail.room) × ((after_taking x mail).takings ≡ mail.takings - 1)
      after_room mail None = (refl, refl)
      after_room mail (Some m) = (refl, refl)

  -- what a board keeps, after more or less is reserved
  module _ (bytes : E → ℕ) (fits : List E → Type 0) (items : List E) (weight reserved reserved_weight : ℕ) (limits : Limits) (room : ℕ) (mail : Mail) (i : IsKept took sent_to is_lost bytes fits items weight reserved reserved_weight limits room mail) where
    abbrev Kept : List E → ℕ → ℕ → ℕ → Mail → Type 0
    Kept items' reserved' reserved_weight' room' mail' = IsKept took sent_to is_lost bytes fits items' weight reserved' reserved_weight' limits room' mail'

    pub keeps_reserved : (k w room' : ℕ) (items' : List E) (mail' : Mail) → items' ≡ items → mail' ≡ record mail { room = mail.room + w; takings = mail.takings + k } → room' ≡ room + (k + w) → length items + (reserved + k) ≤ limits.items → length items + (reserved + k) ≤ 4294967295 → weight + (reserved_weight + w) ≤ limits.weight
        → Kept items' (reserved + k) (reserved_weight + w) room' mail'
    keeps_reserved k w room' items' mail' same is more within_items within_places within_weight = rw (same, is) record {
      weighs = i.weighs;
      within_items = within_items;
      within_places = within_places;
      within_weight = within_weight;
      has_room = (let q = i.has_room in omega arith);
      messages = (let q = i.messages in omega arith);
      takings = (let q = i.takings in omega arith);
      index = record { sent = i.index.sent; early = i.index.early };
      fitting = i.fitting;
    }

    pub keeps_released : (k w room' : ℕ) (items' : List E) (mail' : Mail) → k ≤ reserved → w ≤ reserved_weight → items' ≡ items → mail' ≡ record mail { room = mail.room - w; takings = mail.takings - k } → room' ≡ room - k - w → Kept items' (reserved - k) (reserved_weight - w) room' mail'
    keeps_released k w room' items' mail' low low' same is less = rw (same, is) record {
      weighs = i.weighs;
      within_items = (let q = i.within_items in omega arith);
      within_places = (let q = i.within_places in omega arith);
      within_weight = (let q = i.within_weight in omega arith);
      has_room = (let q = i.has_room in omega arith);
      messages = (let q = i.messages in omega arith);
      takings = (let q = i.takings in omega arith);
      index = record { sent = i.index.sent; early = i.index.early };
      fitting = i.fitting;
    }

    pub keeps_same : (room' : ℕ) (items' : List E) (mail' : Mail) → items' ≡ items → mail' ≡ mail → room' ≡ room → Kept items' reserved reserved_weight room' mail'
    keeps_same room' items' mail' same is room_is = rw (same, is, room_is) i

    -- what was reserved is given up again
    pub keeps_again : (k w room' : ℕ) (items' : List E) (mail' : Mail) → items' ≡ items → mail' ≡ record mail { room = mail.room + w - w; takings = mail.takings + k - k } → room' ≡ room → Kept items' reserved reserved_weight room' mail'
    keeps_again k w room' items' mail' same is room_is =
        keeps_same room' items' mail' same (is ∙ (λ j. record mail { room = (let e : mail.room + w - w ≡ mail.room = omega arith in e) j; takings = (let e : mail.takings + k - k ≡ mail.takings = omega arith in e) j })) room_is
