-- The least moments of looks, stretch by stretch.
use Rattle.std.proofs.Common.{◌≡◌, ◌⊎◌, ℕ, zero, suc, ◌+◌, ◌<◌, ◌≤◌, true, false, List, [], ◌∷◌, ◌++◌, length, take, drop, reverse, get_or, max, Option, None, Some, Result, Ok, Err, IfOk, is_some, refl, sym, ◌∙◌, ap, subst, inl, inr, ⊎_elim, arith}
use Rattle.std.specs.List.{AllByRecursion, list_any, slice_get}
use Rattle.std.proofs.lemmas.List.{take-append-drop, take_more, reverse-append, length-take-le, length-reverse}
use Rattle.std.specs.Option.{option_eq}
use Rattle.std.proofs.lemmas.Bool.{true≢false}
use Rattle.acc_value.specs.Value.{value_eq}
use Rattle.acc_glance.proofs.SameCells.{cell_itself}
use Rattle.acc_value.specs.declared.key.Key.{Key}
use Rattle.acc_value.specs.declared.value.Value.{Value}
use Rattle.acc_message.specs.declared.item.Item.{Item}
use Rattle.acc_message.specs.Items.{noted_in}
use Rattle.acc_message.specs.Run.{Cluster}
use Rattle.acc_glance_laws.specs.SerialCells.{cell_after, oldest, serial_cell}
use Rattle.acc_glance.specs.declared.seen.Seen.{Seen}
use Rattle.acc_glance.specs.declared.sights.Finding.{Finding}
use Rattle.acc_glance.specs.declared.stages.Stage.{Stage}
use Rattle.acc_glance.specs.declared.stages.Stage.TheVariants.{Waiting, Visiting, Read, Open}
use Rattle.acc_glance.specs.Seen.{EndsAs}
use Rattle.acc_glance.specs.declared.serial.Serial.{Serial}
use Rattle.acc_glance.specs.Serial.{outcome_id, Tells}
use Rattle.acc_glance.specs.Sights.{AreEnded, SettledBelow, ShowsFrom, StartsAfter}
use Rattle.acc_glance.proofs.SerialFacts.{quiet_cells}
use Rattle.acc_report.proofs.Steps.{reverse_more}
use Rattle.acc_value.specs.Cells.{cells_of}
use Rattle.acc_message.specs.declared.note.Note.{Note}

-- ---- the oldest items

-- that the oldest items stay, and that all items are the oldest ones
abbrev pub Stays : Type 0
Stays = (more items : List Item) (n : ℕ) → n ≤ length items → oldest n (more ++ items) ≡ oldest n items

abbrev pub AreAll : Type 0
AreAll = (items : List Item) → oldest (length items) items ≡ items

pub oldest_taken : Stays → AreAll → (items : List Item) (n : ℕ) → n ≤ length items → oldest n (reverse items) ≡ reverse (take n items)
oldest_taken oldest_stays all_are_oldest items n le =
    ap (oldest n) (ap reverse (sym (take-append-drop n items)) ∙ reverse-append (take n items) (drop n items))
    ∙ oldest_stays (reverse (drop n items)) (reverse (take n items)) n (as_long (length (take n items)) (length-take-le n items le) (length-reverse (take n items)))
    ∙ ap (λ k. oldest k (reverse (take n items))) (sym (length-reverse (take n items) ∙ length-take-le n items le))
    ∙ all_are_oldest (reverse (take n items))
  where
    as_long : (m : ℕ) → m ≡ n → length (reverse (take n items)) ≡ m → n ≤ length (reverse (take n items))
    as_long m is same = omega (arith, is, same)

-- ---- one look

module _ (cluster : Cluster) (items : List Item) (first last : ℕ) (cells : Key → Option Value) (order : first ≤ last) (shows : ShowsFrom cluster items first last cells) (key : Key) (from to : ℕ)
    (cell : Option Value) (none : SettledBelow cluster items first key (Read from to cell) None) where
  -- its cell is shown there
  found : from ≤ last → cells key ≡ cell → SettledBelow cluster items (last + 1) key (Read from to cell) (Some (max from first))
  found le is =
      record {
        since = since from first;
        shows = shows (max from first) (after from first) (until from first last le order) key ∙ is;
        none_before = λ n low less same. by n low less same;
      }
    where
      since : (a b : ℕ) → a ≤ max a b
      since a b = omega arith

      after : (a b : ℕ) → b ≤ max a b
      after a b = omega arith

      until : (a b c : ℕ) → a ≤ c → b ≤ c → max a b ≤ c
      until a b c p q = omega (arith, p, q)

      below : (n a b : ℕ) → a ≤ n → n < max a b → n < b
      below n a b p q = omega (arith, p, q)

      by : (n : ℕ) → from ≤ n → n < max from first → cell_after cluster items n key ≡ cell → ⊥
      by n low less same = none n low (below n from first low less) same

  lower_or : (n : ℕ) → n < last + 1 → (n < first) ⊎ ((first ≤ n) × (n ≤ last))
  lower_or n less = grind arith

  -- it is another cell
  pub not_shown : (cells key ≡ cell → ⊥) → SettledBelow cluster items (last + 1) key (Read from to cell) None
  not_shown isnt = λ n low less same.
      ⊎_elim (λ earlier. none n low earlier same) (λ here. isnt (sym (shows n here.0 here.1 key) ∙ same)) (lower_or n less)

  -- the look begins later
  pub too_late : last < from → SettledBelow cluster items (last + 1) key (Read from to cell) None
  too_late late = λ n low less same. absurd (beyond n low less late)
    where
      beyond : (n : ℕ) → from ≤ n → n < last + 1 → last < from → ⊥
      beyond n low less late = omega (arith, low, less, late)

  -- the moment that is answered
  pub at_greater : from ≤ last → (at : ℕ) → at ≡ max from first → cells key ≡ cell → SettledBelow cluster items (last + 1) key (Read from to cell) (Some at)
  at_greater le at is same = subst (λ (n : ℕ). SettledBelow cluster items (last + 1) key (Read from to cell) (Some n)) (sym is) (found le same)

-- cells that differ
pub differs : (one other : Option Value) → false ≡ option_eq value_eq one other → one ≡ other → ⊥
differs one other isnt same = true≢false (sym (ap (λ c. option_eq value_eq c other) same ∙ cell_itself other) ∙ sym isnt)

-- what is found stays
pub stays_found : (cluster : Cluster) (items : List Item) (next later : ℕ) (key : Key) (stage : Stage) (at : ℕ) → SettledBelow cluster items next key stage (Some at)
    → SettledBelow cluster items later key stage (Some at)
stays_found cluster items next later key Waiting at h = tt
stays_found cluster items next later key (Visiting course) at h = tt
stays_found cluster items next later key (Read from to cell) at h = h
stays_found cluster items next later key (Open from) at h = tt

-- ---- what looks have seen

pub ended_push : (cluster : Cluster) (items : List Item) (findings : List Finding) (seens : List Seen) (finding : Finding) (seen : Seen)
    → AreEnded cluster items findings seens → EndsAs cluster items finding.look.key finding.stage seen → AreEnded cluster items (findings ++ finding ∷ []) (seens ++ seen ∷ [])
ended_push cluster items [] [] finding seen all ends = (ends, tt)
ended_push cluster items [] (s ∷ seens) finding seen all ends = absurd all
ended_push cluster items (f ∷ findings) [] finding seen all ends = absurd all
ended_push cluster items (f ∷ findings) (s ∷ seens) finding seen all ends = (all.0, ended_push cluster items findings seens finding seen all.1 ends)

-- a look that has its moment
pub kept_settled : (cluster : Cluster) (items : List Item) (next later : ℕ) (key : Key) (stage : Stage) (at : Option ℕ) → true ≡ is_some at
    → SettledBelow cluster items next key stage at → SettledBelow cluster items later key stage at
kept_settled cluster items next later key stage (Some at) is h = stays_found cluster items next later key stage at h
kept_settled cluster items next later key stage None is h = absurd (true≢false is)

pub none_is : (at : Option ℕ) → false ≡ is_some at → at ≡ None
none_is None is = refl
none_is (Some at) is = absurd (true≢false (sym is))

-- ---- from one stretch to the next

pub shows_start : (cluster : Cluster) (items : List Item) (cells : Key → Option Value) (n : ℕ) → ((key : Key) → cell_after cluster items n key ≡ cells key) → ShowsFrom cluster items n n cells
shows_start cluster items cells n is = λ m low high key. subst (λ (k : ℕ). cell_after cluster items k key ≡ cells key) (same m low high) (is key)
  where
    same : (m : ℕ) → n ≤ m → m ≤ n → n ≡ m
    same m low high = omega (arith, low, high)

pub shows_more : (cluster : Cluster) (items : List Item) (cells more : Key → Option Value) (first n : ℕ) → ShowsFrom cluster items first n cells
    → ((key : Key) → more key ≡ cells key) → ((key : Key) → cell_after cluster items (n + 1) key ≡ more key) → ShowsFrom cluster items first (n + 1) more
shows_more cluster items cells more first n shows same is = λ m low high key.
    ⊎_elim (λ below. shows m low below key ∙ sym (same key)) (λ now. subst (λ (k : ℕ). cell_after cluster items k key ≡ more key) (sym now) (is key)) (cases m high)
  where
    cases : (m : ℕ) → m ≤ n + 1 → (m ≤ n) ⊎ (m ≡ n + 1)
    cases m high = grind arith

pub ended_more : (cluster : Cluster) (items : List Item) (findings : List Finding) (i : ℕ) (finding : Finding) (seens : List Seen) (seen : Seen) → i < length findings
    → finding ≡ get_or findings i finding → AreEnded cluster items (take i findings) seens → EndsAs cluster items finding.look.key finding.stage seen
    → AreEnded cluster items (take (i + 1) findings) (seens ++ seen ∷ [])
ended_more cluster items findings i finding seens seen less is all ends =
    subst (λ fs. AreEnded cluster items fs (seens ++ seen ∷ []))
    (ap (λ f. take i findings ++ f ∷ []) is ∙ sym (take_more findings i finding less))
    (ended_push cluster items (take i findings) seens finding seen all ends)

pub each_in : {X : Type 0} (P : X → Type 0) (xs : List X) (i : ℕ) (d : X) → i < length xs → d ≡ get_or xs i d → AllByRecursion P xs → P d
each_in {X = X} P xs i d less is all = subst P (sym is) (at xs i less all)
  where
    at : (ys : List X) (k : ℕ) → k < length ys → AllByRecursion P ys → P (get_or ys k d)
    at [] k less all = absurd (omega arith)
    at (y ∷ ys) zero less all = all.0
    at (y ∷ ys) (suc k) less all = at ys k (omega arith) all.1

-- ---- an item more

pub shown_by : Stays → AreAll → (cluster : Cluster) (xs : List Item) (n : ℕ) → n ≤ length xs → (serial : Serial) → Tells serial cluster (reverse (take n xs)) → (key : Key)
    → cell_after cluster (reverse xs) n key ≡ cells_of serial.cells key
shown_by stays all cluster xs n le serial tells key = ap (λ items. serial_cell cluster items key) (oldest_taken stays all xs n le) ∙ sym (tells.cells key)

pub next_shows : Stays → AreAll → (cluster : Cluster) (xs : List Item) (place start next : ℕ) (item : Item) (notes : List Note) (old new : Serial) → slice_get xs place ≡ Some item
    → place < length xs → notes ≡ noted_in item → Tells old cluster (reverse (take place xs)) → Tells new cluster (item ∷ reverse (take place xs))
    → ShowsFrom cluster (reverse xs) start place (cells_of old.cells) → StartsAfter notes place start next → ShowsFrom cluster (reverse xs) next (place + 1) (cells_of new.cells)
next_shows stays all cluster xs place start next item notes old new at within noted told tells shows (inl anew) =
    subst (λ (n : ℕ). ShowsFrom cluster (reverse xs) n (place + 1) (cells_of new.cells)) (sym anew)
    (shows_start cluster (reverse xs) (cells_of new.cells) (place + 1)
    (shown_by stays all cluster xs (place + 1) (up place (length xs) within) new (subst (Tells new cluster) (sym (reverse_more xs place item at)) tells)))
  where
    up : (a b : ℕ) → a < b → a + 1 ≤ b
    up a b less = omega (arith, less)
next_shows stays all cluster xs place start next item notes old new at within noted told tells shows (inr same) =
    subst (λ (n : ℕ). ShowsFrom cluster (reverse xs) n (place + 1) (cells_of new.cells)) (sym same.0)
    (shows_more cluster (reverse xs) (cells_of old.cells) (cells_of new.cells) start place shows
    (λ key.
    tells.cells key
    ∙ quiet_cells old cluster (reverse (take place xs)) item key told (ap (list_any (λ note. is_some (outcome_id note))) (sym noted) ∙ same.1)
    ∙ sym (told.cells key))
    (shown_by stays all cluster xs (place + 1) (up place (length xs) within) new (subst (Tells new cluster) (sym (reverse_more xs place item at)) tells)))
  where
    up : (a b : ℕ) → a < b → a + 1 ≤ b
    up a b less = omega (arith, less)

pub next_order : (notes : List Note) (place start next : ℕ) → start ≤ place → StartsAfter notes place start next → next ≤ place + 1
next_order notes place start next le (inl anew) = omega (arith, anew)
next_order notes place start next le (inr same) = omega (arith, le, same.0)

-- a value that is handed on
pub handed : {X E : Type 0} (result : Result X E) (P Q : X → Type 0) → IfOk result P → ((x : X) → P x → Q x) → IfOk result Q
handed (Ok x) P Q p f = f x p
handed (Err e) P Q p f = tt
