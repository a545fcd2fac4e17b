-- Items that are joined of heads and of the lists of their notes and messages.
use Rattle.std.proofs.Common.{◌≡◌, ◌≢◌, ℕ, ◌+◌, ◌-◌, ◌<◌, ◌≤◌, zero, suc, true, false, List, [], ◌∷◌, ◌++◌, Option, Some, None, length, take, drop, get_or, slice_index_or, IfSome, MatchOption, Bor, refl, sym, ap, ap₂, ◌∙◌, subst, arith, map, length-append}
use Rattle.std.specs.List.{slice_get, slice_range}
use Rattle.std.specs.Option.{option_copied}
use Rattle.std.proofs.lemmas.List.{length-drop, length-map, take-append-le, drop-append-le}
use Rattle.std.proofs.lemmas.Option.{slice_get_past, slice_get_read}
use Rattle.std.proofs.Math.Seq.{drop-append_seam, take-length}
use Rattle.acc_message.specs.declared.message.Message.{Message}
use Rattle.acc_message.specs.declared.note.Note.{Note}
use Rattle.acc_message.specs.declared.item.Item.{Item}
use Rattle.acc_message.specs.declared.bare.Bare.{Bare}
use Rattle.acc_message.specs.declared.bare.Bare.TheVariants.{Step, NoMessage, ToDown, Begun, Unknown, NoQuorum, Down}
use Rattle.acc_message.specs.declared.head.Head.{Head}
use Rattle.acc_message.specs.declared.shown.Shown.{Shown}
use Rattle.acc_message.specs.Items.{sent_in}
use Rattle.acc_message.specs.Shown.{with_sent}
use Rattle.acc_message.specs.Growing.{message_in}
use Rattle.acc_message.specs.Joined.{item_of, is_step_of, noted_of, until_of, joined, IsStretch, begin_of}

-- ---- ranges

range_front : {X : Type 0} (list more : List X) (from to : ℕ) → from ≤ to → to ≤ length list → slice_range (list ++ more) from to ≡ slice_range list from to
range_front list more from to ordered within =
    ap (take (to - from)) (drop-append-le from list more (omega (arith, ordered, within)))
    ∙ take-append-le (to - from) (drop from list) more (omega (arith, ordered, within, length-drop from list))

range_last : {X : Type 0} (list more : List X) (from to : ℕ) → from ≡ length list → to ≡ length list + length more → slice_range (list ++ more) from to ≡ more
range_last list more from to f t =
    let count : to - from ≡ length more = omega (arith, f, t) in
    ap₂ take count (ap (λ n. drop n (list ++ more)) f ∙ drop-append_seam list more) ∙ take-length more

-- ---- one head more

reaches : (end : Head → ℕ) (heads : List Head) (from to : ℕ) → IsStretch end from heads to → from ≤ to
reaches end [] from to s = omega (arith, s)
reaches end (h ∷ heads) from to s = omega (arith, s.0, reaches end heads (end h) to s.1)

pub stretch_more : (end : Head → ℕ) (heads : List Head) (h : Head) (from to : ℕ) → IsStretch end from heads to → to ≤ end h → IsStretch end from (heads ++ h ∷ []) (end h)
stretch_more end [] h from to s low = (omega (arith, s, low), refl)
stretch_more end (g ∷ heads) h from to s low = (s.0, stretch_more end heads h (end g) to s.1 low)

-- the last head ends after what is appended
pub stretch_by : {X : Type 0} (end : Head → ℕ) (heads heads' : List Head) (h : Head) (list more list' : List X) → IsStretch end 0 heads (length list) → end h ≡ length list + length more → heads' ≡ heads ++ h ∷ [] → list' ≡ list ++ more
    → IsStretch end 0 heads' (length list')
stretch_by end heads heads' h list more list' s ends more_heads appended =
    let all : end h ≡ length list' = omega (arith, ends, ap length appended, length-append list more) in
    subst (λ l. IsStretch end 0 l (length list')) (sym more_heads)
    (subst (IsStretch end 0 (heads ++ h ∷ [])) all (stretch_more end heads h 0 (length list) s (omega (arith, ends))))

pub joined_more : (heads : List Head) (h : Head) (noted from : ℕ) (notes more_notes : List Note) (messages more : List Message)
    → IsStretch noted_of noted heads (length notes) → noted_of h ≡ length notes + length more_notes → IsStretch until_of from heads (length messages) → until_of h ≡ length messages + length more
    → joined noted from (heads ++ h ∷ []) (notes ++ more_notes) (messages ++ more) ≡ joined noted from heads notes messages ++ item_of h.bare more_notes more ∷ []
joined_more [] h noted from notes more_notes messages more t v s u =
    ap₂ (λ made out. item_of h.bare made out ∷ []) (range_last notes more_notes noted (noted_of h) t v) (range_last messages more from (until_of h) s u)
joined_more (g ∷ heads) h noted from notes more_notes messages more t v s u =
    ap₂ (λ made rest. item_of g.bare made (slice_range (messages ++ more) from (until_of g)) ∷ rest)
    (range_front notes more_notes noted (noted_of g) t.0 (reaches noted_of heads (noted_of g) (length notes) t.1))
    (joined_more heads h (noted_of g) (until_of g) notes more_notes messages more t.1 v s.1 u)
    ∙ ap (λ out. item_of g.bare (slice_range notes noted (noted_of g)) out ∷ (joined (noted_of g) (until_of g) heads notes messages ++ item_of h.bare more_notes more ∷ []))
    (range_front messages more from (until_of g) s.0 (reaches until_of heads (until_of g) (length messages) s.1))

-- ---- the item at a place

same : {X : Type 0} (x y : X) → Some x ≡ Some y → x ≡ y
same x y e = cc

found : (heads : List Head) (h : Head) (noted from place : ℕ) (notes : List Note) (messages : List Message) → slice_get heads place ≡ Some h
    → slice_get (joined noted from heads notes messages) place ≡ Some (item_of h.bare (slice_range notes (begin_of noted_of noted heads place) (noted_of h)) (slice_range messages (begin_of until_of from heads place) (until_of h)))
found [] h noted from place notes messages at = let none : None ≡ Some h = at in cc
found (g ∷ heads) h noted from zero notes messages at = ap (λ x. Some (item_of x.bare (slice_range notes noted (noted_of x)) (slice_range messages from (until_of x)))) (same g h at)
found (g ∷ heads) h noted from (suc place) notes messages at = found heads h (noted_of g) (until_of g) place notes messages at

-- what isn't a step sent nothing
sent_by_step : (b : Bare) (notes : List Note) (out : List Message) → is_step_of b ≡ true → sent_in (item_of b notes out) ≡ out
sent_by_step (Step lost actor event) notes out is = refl
sent_by_step (NoMessage step number sent) notes out is = cc
sent_by_step (ToDown step actor) notes out is = cc
sent_by_step (Begun step txn) notes out is = cc
sent_by_step (Unknown step txn) notes out is = cc
sent_by_step (NoQuorum step txn) notes out is = cc
sent_by_step (Down actor) notes out is = cc

sent_by_none : (b : Bare) (notes : List Note) (out : List Message) → is_step_of b ≡ false → sent_in (item_of b notes out) ≡ []
sent_by_none (Step lost actor event) notes out isnt = cc
sent_by_none (NoMessage step number sent) notes out isnt = refl
sent_by_none (ToDown step actor) notes out isnt = refl
sent_by_none (Begun step txn) notes out isnt = refl
sent_by_none (Unknown step txn) notes out isnt = refl
sent_by_none (NoQuorum step txn) notes out isnt = refl
sent_by_none (Down actor) notes out isnt = refl

there_is : {X : Type 0} (xs : List X) (place : ℕ) → place < length xs → slice_get xs place ≢ None
there_is [] place low e = absurd (omega (arith, low))
there_is (x ∷ xs) zero low e = let none : Some x ≡ None = e in cc
there_is (x ∷ xs) (suc place) low e = there_is xs place (omega (arith, low)) e

within : (end : Head → ℕ) (heads : List Head) (h : Head) (from to place : ℕ) → IsStretch end from heads to → slice_get heads place ≡ Some h → (begin_of end from heads place ≤ end h) × (end h ≤ to)
within end [] h from to place s at = let none : None ≡ Some h = at in cc
within end (g ∷ heads) h from to zero s at = let is = same g h at in (subst (λ x. from ≤ end x) is s.0, subst (λ x. end x ≤ to) is (reaches end heads (end g) to s.1))
within end (g ∷ heads) h from to (suc place) s at = within end heads h (end g) to place s.1 at

begins_behind : (end : Head → ℕ) (heads : List Head) (g : Head) (from before : ℕ) → slice_get heads before ≡ Some g → begin_of end from heads (suc before) ≡ end g
begins_behind end [] g from before at = let none : None ≡ Some g = at in cc
begins_behind end (x ∷ heads) g from zero at = ap end (same x g at)
begins_behind end (x ∷ heads) g from (suc before) at = begins_behind end heads g (end x) before at

pub length-joined : (heads : List Head) (noted from : ℕ) (notes : List Note) (messages : List Message) → length (joined noted from heads notes messages) ≡ length heads
length-joined [] noted from notes messages = refl
length-joined (h ∷ heads) noted from notes messages = ap suc (length-joined heads (noted_of h) (until_of h) notes messages)

-- ---- what is read at a place

read : {X : Type 0} (xs : List X) (place : ℕ) (d : X) → place < length xs → slice_get xs place ≡ Some (slice_index_or xs place d)
read [] place d low = absurd (omega (arith, low))
read (x ∷ xs) zero d low = refl
read (x ∷ xs) (suc place) d low = read xs place d (omega (arith, low))

pub begins_read : (end : Head → ℕ) (heads : List Head) (d : Head) (before n : ℕ) → before < length heads → n ≡ end (slice_index_or heads before d) → n ≡ begin_of end 0 heads (suc before)
begins_read end heads d before n low is = is ∙ sym (begins_behind end heads (slice_index_or heads before d) 0 before (read heads before d low))

pub within_read : (end : Head → ℕ) (heads : List Head) (d : Head) (to place n : ℕ) → IsStretch end 0 heads to → place < length heads → n ≡ end (slice_index_or heads place d) → (begin_of end 0 heads place ≤ n) × (n ≤ to)
within_read end heads d to place n s low is =
    let w = within end heads (slice_index_or heads place d) 0 to place s (read heads place d low) in (omega (arith, w.0, is), omega (arith, w.1, is))

pub ends_read : (end : Head → ℕ) (heads : List Head) (d : Head) (head : Head) (place n : ℕ) → place < length heads → slice_get heads place ≡ Some head → n ≡ end (slice_index_or heads place d) → n ≡ end head
ends_read end heads d head place n low at is = is ∙ ap end (same (slice_index_or heads place d) head (sym (read heads place d low) ∙ at))

module _ (heads : List Head) (d : Head) (place : ℕ) (low : place < length heads) where
  abbrev here : Head
  here = slice_index_or heads place d

  pub sent_read : (notes : List Note) (messages sent : List Message) (item : Item) → is_step_of here.bare ≡ true
      → ((head : Head) → slice_get heads place ≡ Some head → sent ≡ slice_range messages (begin_of until_of 0 heads place) (until_of head))
      → slice_get (joined 0 0 heads notes messages) place ≡ Some item → sent ≡ sent_in item
  sent_read notes messages sent item is range at =
      let there = read heads place d low in
      range here there
      ∙ sym (sent_by_step here.bare (slice_range notes (begin_of noted_of 0 heads place) (noted_of here)) (slice_range messages (begin_of until_of 0 heads place) (until_of here)) is)
      ∙ ap sent_in (same _ item (sym (found heads here 0 0 place notes messages there) ∙ at))

  pub none_read : (notes : List Note) (messages : List Message) (item : Item) → is_step_of here.bare ≡ false → slice_get (joined 0 0 heads notes messages) place ≡ Some item → [] ≡ sent_in item
  none_read notes messages item isnt at =
      sym (sent_by_none here.bare (slice_range notes (begin_of noted_of 0 heads place) (noted_of here)) (slice_range messages (begin_of until_of 0 heads place) (until_of here)) isnt)
      ∙ ap sent_in (same _ item (sym (found heads here 0 0 place notes messages (read heads place d low)) ∙ at))

  pub shown_read : (notes made : List Note) (messages : List Message) (shown : Shown) → ((head : Head) → slice_get heads place ≡ Some head → made ≡ slice_range notes (begin_of noted_of 0 heads place) (noted_of head))
      → ((out : List Message) → with_sent shown out ≡ item_of here.bare made out) → (out : List Message) × (slice_get (joined 0 0 heads notes messages) place ≡ Some (with_sent shown out))
  shown_read notes made messages shown range is =
      let there = read heads place d low in
      let out = slice_range messages (begin_of until_of 0 heads place) (until_of here) in
      (out, found heads here 0 0 place notes messages there ∙ ap (λ l. Some (item_of here.bare l out)) (sym (range here there)) ∙ ap Some (sym (is out)))

-- what the item at a place sent, among which is the message with an index
pub sent_there : (heads : List Head) (notes : List Note) (messages sent : List Message) (place index : ℕ) → place < length heads
    → ((item : Item) → slice_get (joined 0 0 heads notes messages) place ≡ Some item → sent ≡ sent_in item) → slice_get sent index ≡ message_in (slice_get (joined 0 0 heads notes messages) place) index
sent_there heads notes messages sent place index low is = at (slice_get (joined 0 0 heads notes messages) place) refl
  where
    at : (there : Option Item) → slice_get (joined 0 0 heads notes messages) place ≡ there → slice_get sent index ≡ message_in there index
    at None e = absurd (there_is (joined 0 0 heads notes messages) place (omega (arith, low, length-joined heads 0 0 notes messages)) e)
    at (Some item) e = ap (λ l. slice_get l index) (is item e)

-- after the last head there is no item
pub nothing_behind : (heads : List Head) (notes : List Note) (messages : List Message) (place index : ℕ) → length heads ≤ place → None ≡ message_in (slice_get (joined 0 0 heads notes messages) place) index
nothing_behind heads notes messages place index high =
    ap (λ item. message_in item index) (sym (slice_get_past (joined 0 0 heads notes messages) place (omega (arith, high, length-joined heads 0 0 notes messages))))

-- what a look-up lends is what stands at the place
pub lent : {X : Type 0} (xs : List X) (i : ℕ) (S : Bor X → Type 0) (r : Option (Bor X)) → IfSome r (λ x. x.now ≡ get_or xs i x.now) → MatchOption r (length xs ≤ i) (λ x. (i < length xs) × S x) → option_copied r ≡ slice_get xs i
lent xs i S None is m = sym (slice_get_past xs i m)
lent xs i S (Some x) is m = sym (slice_get_read xs (length xs) i x.now refl m.0 is)

-- ---- after other items

pub get_behind : {A : Type 0} (xs ys : List A) (n : ℕ) → length xs ≤ n → slice_get (xs ++ ys) n ≡ slice_get ys (n - length xs)
get_behind [] ys n high = let e : n ≡ n - 0 = omega arith in ap (slice_get ys) e
get_behind (x ∷ xs) ys zero high = absurd (omega (arith, high))
get_behind (x ∷ xs) ys (suc n) high = let e : n - length xs ≡ suc n - suc (length xs) = omega arith in get_behind xs ys n (omega (arith, high)) ∙ ap (slice_get ys) e

module _ {X : Type 0} (value : X → Item) (shared : List X) (heads : List Head) (notes : List Note) (messages : List Message) (place : ℕ) (high : length shared ≤ place) where
  abbrev own : List Item
  own = joined 0 0 heads notes messages

  pub behind_shared : slice_get (map value shared ++ own) place ≡ slice_get own (place - length shared)
  behind_shared =
      get_behind (map value shared) own place (omega (arith, high, length-map shared value))
      ∙ (let e : place - length (map value shared) ≡ place - length shared = omega (arith, length-map shared value) in ap (slice_get own) e)

  pub head_below : place < length (map value shared ++ own) → place - length shared < length heads
  head_below low = omega (arith, low, high, length-append (map value shared) own, length-map shared value, length-joined heads 0 0 notes messages)
