-- Places of lists that go on, and the messages of an item as postings.
use Rattle.std.proofs.Common.{◌≡◌, ℕ, zero, suc, ◌+◌, ◌-◌, ◌<◌, ◌≤◌, Bool, true, false, not, ◌&&◌, ◌==◌, List, [], ◌∷◌, ◌++◌, Some, length, get_or, take, drop, drop-cons, append_assoc, refl, sym, ap, ◌∙◌, arith}
use Rattle.std.specs.List.{slice_get}
use Rattle.std.proofs.Math.ListN.{length-set}
use Rattle.std.proofs.lemmas.List.{get_or-set_same, get_or-set_other}
use Rattle.std.proofs.lemmas.Bool.Decides.{nat_tests}
use mathlib.Core.Logic.{dite}
use native.Mathlib.Decide.{ℕ_discrete}
use Rattle.acc_message_index.specs.declared.posting.Posting.{Posting}
use Rattle.acc_message_index.specs.Mail.{nothing, posting_at, taken}
use Rattle.acc_message.specs.declared.message.Message.{Message}
use Rattle.acc_stamp.specs.declared.stamps.TxnId.{TxnId}
use Rattle.acc_stamp.specs.declared.actors.Actor.{Actor}
use Rattle.acc_message.specs.declared.note.Note.{Note}
use Rattle.acc_message.specs.declared.note.Note.TheVariants.{Begin as BeginNote}
use Rattle.acc_message.specs.Fields.{to_of}
use Rattle.acc_message.specs.Items.{id_drawn}
use Rattle.acc_history.specs.Entering.{posting_of, postings_of}

module _ {A : Type 0} where
  pub get_front : (xs ys : List A) (n : ℕ) → n < length xs → slice_get (xs ++ ys) n ≡ slice_get xs n
  get_front [] ys n low = absurd (omega arith)
  get_front (x ∷ xs) ys zero low = refl
  get_front (x ∷ xs) ys (suc n) low = get_front xs ys n (omega arith)

  pub get_behind : (xs ys : List A) (n : ℕ) → length xs ≤ n → slice_get (xs ++ ys) n ≡ slice_get ys (n - length xs)
  get_behind [] ys n high = let e : n ≡ n - 0 = omega arith in ap (slice_get ys) e
  get_behind (x ∷ xs) ys zero high = absurd (omega arith)
  get_behind (x ∷ xs) ys (suc n) high =
      let e : n - length xs ≡ suc n - suc (length xs) = omega arith in
      get_behind xs ys n (omega arith) ∙ ap (slice_get ys) e

  pub get_or_behind : (xs ys : List A) (d : A) (n : ℕ) → length xs ≤ n → get_or (xs ++ ys) n d ≡ get_or ys (n - length xs) d
  get_or_behind [] ys d n high = let e : n ≡ n - 0 = omega arith in ap (λ m. get_or ys m d) e
  get_or_behind (x ∷ xs) ys d zero high = absurd (omega arith)
  get_or_behind (x ∷ xs) ys d (suc n) high =
      let e : n - length xs ≡ suc n - suc (length xs) = omega arith in
      get_or_behind xs ys d n (omega arith) ∙ ap (λ m. get_or ys m d) e

  -- what stands at a place stands there behind more items too
  pub get_more : (xs ys : List A) (n : ℕ) (x : A) → slice_get xs n ≡ Some x → slice_get (xs ++ ys) n ≡ Some x
  get_more [] ys n x e = cc
  get_more (y ∷ xs) ys zero x e = e
  get_more (y ∷ xs) ys (suc n) x e = get_more xs ys n x e

  pub get_last : (xs : List A) (x : A) → slice_get (xs ++ x ∷ []) (length xs) ≡ Some x
  get_last [] x = refl
  get_last (y ∷ xs) x = get_last xs x

  pub get_some : (xs : List A) (n : ℕ) → n < length xs → (x : A) × (slice_get xs n ≡ Some x)
  get_some [] n low = absurd (omega arith)
  get_some (x ∷ xs) zero low = (x, refl)
  get_some (x ∷ xs) (suc n) low = get_some xs n (omega arith)

-- ---- a message is taken

-- the message after it was taken, or not
abbrev pub closed_if : Bool → Posting → Posting
closed_if is p = record { place = p.place; index = p.index; to = p.to; is_open = not is && p.is_open }

pub taken_at : (number : ℕ) (sent : List Posting) (n : ℕ) → n < length sent → posting_at (taken number sent) n ≡ closed_if (number == n) (posting_at sent n)
taken_at number sent n low = dite (ℕ_discrete n number)
    (λ same.
    let t : (number == n) ≡ true = grind (arith, nat_tests) in
    ap (λ m. posting_at (taken number sent) m) same
    ∙ get_or-set_same sent number (record (posting_at sent number) { is_open = false }) nothing (omega arith)
    ∙ ap (λ m. closed_if true (posting_at sent m)) (sym same)
    ∙ ap (λ b. closed_if b (posting_at sent n)) (sym t))
    (λ else.
    let f : (number == n) ≡ false = grind (arith, nat_tests) in
    get_or-set_other sent number n (record (posting_at sent number) { is_open = false }) nothing else
    ∙ ap (λ b. closed_if b (posting_at sent n)) (sym f))

pub length-taken : (number : ℕ) (sent : List Posting) → length (taken number sent) ≡ length sent
length-taken number sent = length-set sent number (record (posting_at sent number) { is_open = false })

-- ---- messages are sent

pub length-postings_of : (place index : ℕ) (lost : Bool) (messages : List Message) → length (postings_of place index lost messages) ≡ length messages
length-postings_of place index lost [] = refl
length-postings_of place index lost (m ∷ messages) = ap suc (length-postings_of place (index + 1) lost messages)

pub posting_in : (place index : ℕ) (lost : Bool) (messages : List Message) (n : ℕ) (m : Message) → slice_get messages n ≡ Some m
    → posting_at (postings_of place index lost messages) n ≡ posting_of place (index + n) lost m
posting_in place index lost [] n m e = cc
posting_in place index lost (x ∷ messages) zero m e =
    let same : x ≡ m = cc in
    let none : index ≡ index + 0 = omega arith in
    ap (λ y. posting_of place index lost y) same ∙ ap (λ i. posting_of place i lost m) none
posting_in place index lost (x ∷ messages) (suc n) m e =
    let more : index + 1 + n ≡ index + suc n = omega arith in
    posting_in place (index + 1) lost messages n m e ∙ ap (λ i. posting_of place i lost m) more

pub postings_more : (place index : ℕ) (lost : Bool) (messages : List Message) (n : ℕ) (m : Message) → slice_get messages n ≡ Some m
    → postings_of place index lost (take (suc n) messages) ≡ postings_of place index lost (take n messages) ++ posting_of place (index + n) lost m ∷ []
postings_more place index lost [] n m e = cc
postings_more place index lost (x ∷ messages) zero m e =
    let same : x ≡ m = cc in
    let none : index ≡ index + 0 = omega arith in
    ap (λ y. posting_of place index lost y ∷ []) same ∙ ap (λ i. posting_of place i lost m ∷ []) none
postings_more place index lost (x ∷ messages) (suc n) m e =
    let more : index + 1 + n ≡ index + suc n = omega arith in
    ap (λ l. posting_of place index lost x ∷ l) (postings_more place (index + 1) lost messages n m e ∙ ap (λ i. postings_of place (index + 1) lost (take n messages) ++ posting_of place i lost m ∷ []) more)

pub sent_more : (before now : List Posting) (place : ℕ) (lost : Bool) (messages : List Message) (index : ℕ) (m : Message) (to : Actor) → to ≡ to_of m → slice_get messages index ≡ Some m
    → now ≡ before ++ postings_of place 0 lost (take index messages)
    → now ++ record { place = place; index = index; to = to.0; is_open = not lost } ∷ [] ≡ before ++ postings_of place 0 lost (take (index + 1) messages)
sent_more before now place lost messages index m to goes is sent =
    let from : index ≡ 0 + index = omega arith in
    let next : suc index ≡ index + 1 = omega arith in
    ap (λ l. l ++ record { place = place; index = index; to = to.0; is_open = not lost } ∷ []) sent
    ∙ append_assoc before (postings_of place 0 lost (take index messages)) (record { place = place; index = index; to = to.0; is_open = not lost } ∷ [])
    ∙ ap (λ (a : Actor). before ++ (postings_of place 0 lost (take index messages) ++ record { place = place; index = index; to = a.0; is_open = not lost } ∷ [])) goes
    ∙ ap (λ i. before ++ (postings_of place 0 lost (take index messages) ++ posting_of place i lost m ∷ [])) from
    ∙ ap (λ l. before ++ l) (sym (postings_more place 0 lost messages index m is))
    ∙ ap (λ i. before ++ postings_of place 0 lost (take i messages)) next

-- ---- the id that a begin drew

pub drawn_at : (notes : List Note) (index : ℕ) (x : Note) (id : TxnId) → index < length notes → x ≡ get_or notes index x → x ≡ BeginNote id → id_drawn (drop index notes) ≡ Some id
drawn_at notes index x id low at is =
    ap id_drawn (drop-cons notes index x low) ∙ ap (λ y. id_drawn (y ∷ drop (suc index) notes)) (sym at ∙ is)
