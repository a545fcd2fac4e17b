-- The oldest message that waits at a tape is one that its actor may take.
use Rattle.std.proofs.Common.{◌≡◌, ℕ, zero, suc, ◌+◌, Bool, true, false, ◌||◌, List, [], ◌∷◌, ◌++◌, length, reverse, map, take, Some, refl, sym, ◌∙◌, ap, arith}
use Rattle.std.specs.Prelude.{slice_get, sum_by}
use Rattle.std.specs.List.{list_any}
use Rattle.std.proofs.lemmas.List.{reverse-append, length-map, append_assoc}
use Rattle.std.proofs.lemmas.List.Folds.{list_any-append}
use Rattle.std.proofs.lemmas.List.Sums.{sum_by-cons}
use Rattle.std.proofs.Math.Bool.{or-false}
use Rattle.acc_message.specs.declared.message.Message.{Message}
use Rattle.acc_message.specs.declared.entry.Event.{Event}
use Rattle.acc_message.specs.declared.entry.Event.TheVariants.{Begin, Recover, Slow, Message as TakesMessage, Restart}
use Rattle.acc_message.specs.declared.item.Item.{Item}
use Rattle.acc_message.specs.declared.item.Item.TheVariants.{Step, Skipped, Down}
use Rattle.acc_message.specs.Items.{sent_in, sent_of}
use Rattle.acc_safety.specs.Calm.{event_takes, item_takes}
use Rattle.acc_tape.specs.Messages.{is_number, is_taken}
use Rattle.acc_tape.specs.ItemViews.{addressee, taken_by_event, taken_by_item}

-- the messages of items, the oldest item first
abbrev pub sent_through : List Item → List Message
sent_through [] = []
sent_through (item ∷ items) = sent_in item ++ sent_through items

sent_append : (xs ys : List Item) → sent_of (xs ++ ys) ≡ sent_of ys ++ sent_of xs
sent_append [] ys = sym (nil (sent_of ys))
  where
    nil : (ms : List Message) → ms ++ [] ≡ ms
    nil [] = refl
    nil (m ∷ ms) = ap (λ l. m ∷ l) (nil ms)
sent_append (x ∷ xs) ys = ap (λ ms. ms ++ sent_in x) (sent_append xs ys) ∙ append_assoc (sent_of ys) (sent_of xs) (sent_in x)

pub sent_reversed : (items : List Item) → sent_of (reverse items) ≡ sent_through items
sent_reversed [] = refl
sent_reversed (x ∷ xs) = ap sent_of (reverse-append (x ∷ []) xs) ∙ sent_append (reverse xs) (x ∷ []) ∙ ap (λ ms. sent_in x ++ ms) (sent_reversed xs)

pub get_left : {X : Type 0} (xs ys : List X) (k : ℕ) (x : X) → slice_get xs k ≡ Some x → slice_get (xs ++ ys) k ≡ Some x
get_left [] ys k x e = absurd (cc)
get_left (y ∷ xs) ys zero x e = e
get_left (y ∷ xs) ys (suc k) x e = get_left xs ys k x e

get_right : {X : Type 0} (xs ys : List X) (k : ℕ) → slice_get (xs ++ ys) (length xs + k) ≡ slice_get ys k
get_right [] ys k = ap (λ m. slice_get ys m) (omega arith)
get_right (x ∷ xs) ys k = ap (λ m. slice_get (x ∷ (xs ++ ys)) m) (let e : suc (length xs) + k ≡ suc (length xs + k) = omega arith in e) ∙ get_right xs ys k

-- the message with its number is the one that its item sent
pub message_through : (items : List Item) (place index : ℕ) (item : Item) (m : Message) → slice_get items place ≡ Some item → slice_get (sent_in item) index ≡ Some m
    → slice_get (sent_through items) (sum_by (λ i. length (map addressee (sent_in i))) (take place items) + index) ≡ Some m
message_through [] place index item m there is = absurd (cc)
message_through (x ∷ xs) zero index item m there is =
    let same : x ≡ item = cc in
    ap (λ k. slice_get (sent_in x ++ sent_through xs) k) (let e : 0 + index ≡ index = omega arith in e)
    ∙ get_left (sent_in x) (sent_through xs) index m (ap (λ i. slice_get (sent_in i) index) same ∙ is)
message_through (x ∷ xs) (suc place) index item m there is =
    let s = sum_by-cons (λ i. length (map addressee (sent_in i))) x (take place xs) in
    let l = length-map (sent_in x) addressee in
    let n = sum_by (λ i. length (map addressee (sent_in i))) (take place xs) in
    ap (λ k. slice_get (sent_in x ++ sent_through xs) k) (let e : sum_by (λ i. length (map addressee (sent_in i))) (x ∷ take place xs) + index ≡ length (sent_in x) + (n + index) = omega arith in e)
    ∙ get_right (sent_in x) (sent_through xs) (n + index)
    ∙ message_through xs place index item m there is

-- no item took it
takes_is : (number : ℕ) (item : Item) → item_takes number item ≡ is_number number (taken_by_item item)
takes_is number (Step e) = by e.event
  where
    by : (event : Event) → event_takes number event ≡ is_number number (taken_by_event event)
    by (Begin txn) = refl
    by (Recover txn) = refl
    by (Slow txn) = refl
    by (TakesMessage n) = refl
    by (Restart kept) = refl
takes_is number (Skipped step cause) = refl
takes_is number (Down actor) = refl

pub untaken_reversed : (items : List Item) (number : ℕ) → list_any (item_takes number) (reverse items) ≡ is_taken taken_by_item items number
untaken_reversed [] number = refl
untaken_reversed (x ∷ xs) number =
    ap (list_any (item_takes number)) (reverse-append (x ∷ []) xs)
    ∙ list_any-append (item_takes number) (reverse xs) (x ∷ [])
    ∙ (λ i. untaken_reversed xs number i || or-false (item_takes number x) i)
    ∙ flip (is_taken taken_by_item xs number) (item_takes number x)
    ∙ ap (λ b. b || is_taken taken_by_item xs number) (takes_is number x)
  where
    flip : (a b : Bool) → (a || b) ≡ (b || a)
    flip true true = refl
    flip true false = refl
    flip false true = refl
    flip false false = refl
