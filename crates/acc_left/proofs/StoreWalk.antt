-- The journal of a store, payload after payload.
use Rattle.std.proofs.Common.{◌≡◌, ℕ, ◌+◌, Bool, true, false, ◌||◌, List, [], ◌∷◌, ◌++◌, length, take, Option, Some, refl, sym, ap, subst, ◌∙◌}
use Rattle.std.specs.Prelude.{IfSome}
use Rattle.std.proofs.lemmas.List.Folds.{list_any-append}
use Rattle.acc_stamp.specs.declared.actors.Actor.{Actor}
use Rattle.acc_message.specs.declared.message.Message.{Message}
use Rattle.acc_payloads.specs.declared.store.StorePayload.{StorePayload}
use Rattle.acc_payloads.specs.declared.store.StorePayload.TheVariants.{Mark, Takes}
use Rattle.acc_payloads.specs.Journals.{IsBadRecord}
use Rattle.acc_payloads.specs.Store.{FitsStore, has_mark, is_mark, store_bytes}
use Rattle.acc_payloads.proofs.StoreJournals.{no_mark, same_message}
use Rattle.acc_schedule.specs.Content.{Content}
use Rattle.acc_left.specs.declared.image.Image.{Image}
use Rattle.acc_left.specs.Rules.{StoreMayLeave}
use Rattle.acc_left.specs.Told.{IsKeptBy}
use Rattle.acc_left.proofs.PayloadFacts.{IsNext, IsReadTo, bad_record, may_not, read_more, read_none}

pub same_store : (x y : StorePayload) → FitsStore x → FitsStore y → store_bytes x ≡ store_bytes y → x ≡ y
same_store Mark Mark f g e = refl
same_store Mark (Takes m) f g e = absurd (no_mark m g e)
same_store (Takes m) Mark f g e = absurd (no_mark m f (sym e))
same_store (Takes m) (Takes n) f g e = ap Takes (same_message m n f g e)

or_false : (b : Bool) → (b || false) ≡ b
or_false true = refl
or_false false = refl

or_true : (b : Bool) → (b || true) ≡ true
or_true true = refl
or_true false = refl

pub mark_marks : (marked : Bool) (p : StorePayload) → p ≡ Mark → true ≡ (marked || is_mark p)
mark_marks marked p is = sym (ap (λ (q : StorePayload). marked || is_mark q) is ∙ or_true marked)

pub message_marks : (marked : Bool) (p : StorePayload) (m : Message) → p ≡ Takes m → marked ≡ (marked || is_mark p)
message_marks marked p m is = sym (ap (λ (q : StorePayload). marked || is_mark q) is ∙ or_false marked)

pub at_some : {A : Type 0} (P : A → Type 0) (o : Option A) (x : A) → o ≡ Some x → IfSome o P → P x
at_some {A = A} P o x is holds = subst (λ (v : Option A). IfSome v P) is holds

-- these payloads of the store are read, and this tells whether a mark is among them
pub record StoreIsRead (plan : Content) (images : List Image) (own : Actor) (payloads : List (List ℕ)) (marked : Bool) (gate : ℕ) : Type 0 where
  pub items : List StorePayload
  pub read : IsReadTo store_bytes (StoreMayLeave plan images own) payloads items gate
  pub mark : has_mark items ≡ marked

pub store_none : (plan : Content) (images : List Image) (own : Actor) → StoreIsRead plan images own [] false 1
store_none plan images own = record { items = []; read = read_none store_bytes (StoreMayLeave plan images own); mark = refl }

module _ (plan : Content) (images : List Image) (own : Actor) (payloads : List (List ℕ)) (i : ℕ) (marked : Bool) (gate : ℕ) (payload : List ℕ)
    (so_far : StoreIsRead plan images own (take i payloads) marked gate) (is_next : IsNext payloads i payload) where
  pub store_more : (p : StorePayload) (now : Bool) (next : ℕ) → payload ≡ store_bytes p → StoreMayLeave plan images own so_far.items p → now ≡ (marked || is_mark p)
      → next ≡ gate + (5 + length payload) → StoreIsRead plan images own (take (i + 1) payloads) now next
  store_more p now next spelled may mark next_is = record {
    items = so_far.items ++ p ∷ [];
    read = read_more store_bytes (StoreMayLeave plan images own) payloads i so_far.items gate payload so_far.read is_next p next spelled may next_is;
    mark =
        list_any-append is_mark so_far.items (p ∷ []) ∙ ap (λ (b : Bool). has_mark so_far.items || b) (or_false (is_mark p))
        ∙ ap (λ (b : Bool). b || is_mark p) so_far.mark ∙ sym mark;
  }

  pub store_unread : ((p : StorePayload) → FitsStore p → payload ≡ store_bytes p → ⊥) → IsBadRecord store_bytes (StoreMayLeave plan images own) payloads gate
  store_unread none =
      bad_record store_bytes (StoreMayLeave plan images own) payloads i so_far.items gate payload so_far.read is_next (λ p spelled may. none p may.0 spelled)

  pub store_may_not : (p : StorePayload) → payload ≡ store_bytes p → FitsStore p → (StoreMayLeave plan images own so_far.items p → ⊥)
      → IsBadRecord store_bytes (StoreMayLeave plan images own) payloads gate
  store_may_not p spelled fits refused =
      may_not store_bytes (StoreMayLeave plan images own) payloads i so_far.items gate payload so_far.read is_next p
      (λ q q_spelled may. same_store p q fits may.0 (sym spelled ∙ q_spelled)) refused

pub store_all : (plan : Content) (images : List Image) (own : Actor) (payloads : List (List ℕ)) (marked : Bool) (gate : ℕ) → StoreIsRead plan images own payloads marked gate
    → IsKeptBy plan images own payloads
store_all plan images own payloads marked gate read = record { items = read.items; journal = read.read.journal }
