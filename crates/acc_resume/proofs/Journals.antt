-- What an actor's journal holds, where no journal breaks a rule.
use Rattle.std.proofs.Common.{◌≡◌, ◌⊎◌, ℕ, Bool, true, false, cond, List, [], ◌∷◌, Option, None, Some, Contains, refl, ◌∙◌, ap, subst, inl, inr, arith}
use Rattle.std.specs.Prelude.{option_map, unwrap_or}
use Rattle.std.specs.List.{find}
use Rattle.std.proofs.lemmas.Bool.{eqb-true}
use Rattle.std.proofs.lemmas.Option.{none-some, same_Some}
use Rattle.acc_stamp.specs.declared.actors.Actor.{Actor}
use Rattle.acc_stamp.specs.Actor.{actor_eq, node_of}
use Rattle.acc_safety.specs.Places.{IsIn, First, Later}
use Rattle.acc_safety.proofs.PlaceOrder.{IsIn-Contains}
use Rattle.acc_journal.specs.Layout.{Reads}
use Rattle.acc_journal.proofs.Unique.{one_list}
use Rattle.acc_message.specs.Run.{is_node}
use Rattle.acc_payloads.specs.declared.node.NodePayload.{NodePayload}
use Rattle.acc_payloads.specs.declared.store.StorePayload.{StorePayload}
use Rattle.acc_payloads.specs.Journals.{IsJournalOf}
use Rattle.acc_payloads.specs.Node.{node_bytes}
use Rattle.acc_payloads.specs.Store.{store_bytes}
use Rattle.acc_schedule.specs.Content.{Content}
use Rattle.acc_left.specs.declared.image.Image.{Image}
use Rattle.acc_left.specs.Rules.{AreLeft, NodeMayLeave, StoreMayLeave}
use Rattle.acc_left_laws.specs.Left.{journal_at}

-- ---- where it stands

-- the first that passes is among them, and passes
record IsFirst {T : Type 0} (p : T → Bool) (xs : List T) (x : T) : Type 0 where
  among : IsIn x xs
  passes : p x ≡ true

module _ {T : Type 0} (p : T → Bool) where
  later : (x y : T) (xs : List T) → IsFirst p xs x → IsFirst p (y ∷ xs) x
  later x y xs first = record { among = Later x y xs first.among; passes = first.passes }

  of_one : (b : Bool) (x y : T) (xs : List T) → p y ≡ b → (find p xs ≡ Some x → IsFirst p xs x) → cond b (Some y) (find p xs) ≡ Some x → IsFirst p (y ∷ xs) x
  of_one true x y xs test rest is =
      let same : y ≡ x = same_Some y x is in
      subst (λ (z : T). IsFirst p (y ∷ xs) z) same (record { among = First y xs; passes = test })
  of_one false x y xs test rest is = later x y xs (rest is)

  first_found : (xs : List T) (x : T) → find p xs ≡ Some x → IsFirst p xs x
  first_found [] x is = absurd (none-some x is)
  first_found (y ∷ xs) x is = of_one (p y) x y xs refl (first_found xs x) is

-- the journal is that of an image of the actor, or it has nothing
pub record IsOf (images : List Image) (a : Actor) (image : Image) : Type 0 where
  pub among : Contains images image
  pub actor : image.actor ≡ a
  pub bytes : journal_at images a ≡ image.bytes

abbrev of_actor : Actor → Image → Bool
of_actor a image = actor_eq image.actor a

same_actor : (a b : Actor) → actor_eq a b ≡ true → a ≡ b
same_actor a b is = ap (λ (n : ℕ). record { 0 = n }) (eqb-true a.0 b.0 is)

abbrev journal_of : Option Image → List ℕ
journal_of found = unwrap_or (option_map (λ (image : Image). image.bytes) found) (1 ∷ 0 ∷ [])

abbrev bytes_of : Option Image → List ℕ
bytes_of None = 1 ∷ 0 ∷ []
bytes_of (Some image) = image.bytes

told_by : (found : Option Image) (images : List Image) (a : Actor) → find (of_actor a) images ≡ found → journal_at images a ≡ bytes_of found
told_by None images a is = ap journal_of is
told_by (Some image) images a is = ap journal_of is

by_found : (found : Option Image) (images : List Image) (a : Actor) → find (of_actor a) images ≡ found
    → ((image : Image) × IsOf images a image) ⊎ (journal_at images a ≡ 1 ∷ 0 ∷ [])
by_found None images a is = inr (told_by None images a is)
by_found (Some image) images a is =
    let first = first_found (of_actor a) images image is in
    inl (
      image,
      record {
        among = IsIn-Contains image images first.among;
        actor = same_actor image.actor a first.passes;
        bytes = told_by (Some image) images a is;
      },
    )

pub where_journal_is : (images : List Image) (a : Actor) → ((image : Image) × IsOf images a image) ⊎ (journal_at images a ≡ 1 ∷ 0 ∷ [])
where_journal_is images a = by_found (find (of_actor a) images) images a refl

-- ---- what it holds

no_payload : Reads (1 ∷ 0 ∷ []) []
no_payload = record { gate = 0; behind = []; closed = λ e. omega (arith, e); short = tt; spelled = refl }

nothing_is_read : (bytes : List ℕ) (payloads : List (List ℕ)) → bytes ≡ 1 ∷ 0 ∷ [] → Reads bytes payloads → payloads ≡ []
nothing_is_read bytes payloads is reads = one_list (1 ∷ 0 ∷ []) payloads [] (subst (λ (l : List ℕ). Reads l payloads) is reads) no_payload

no_items : {A : Type 0} (bytes : A → List ℕ) (May : List A → A → Type 0) (payloads : List (List ℕ)) → payloads ≡ [] → IsJournalOf bytes May payloads []
no_items bytes May payloads none = record { spelled = none; each = tt }

module _ (plan : Content) (images : List Image) (left : AreLeft plan images) (a : Actor) (payloads : List (List ℕ)) (reads : Reads (journal_at images a) payloads) where
  abbrev NodeItems : Type 0
  NodeItems = (items : List NodePayload) × IsJournalOf node_bytes (NodeMayLeave plan (node_of a)) payloads items

  abbrev StoreItems : Type 0
  StoreItems = (items : List StorePayload) × IsJournalOf store_bytes (StoreMayLeave plan images a) payloads items

  node_in : is_node a ≡ true → (image : Image) → IsOf images a image → NodeItems
  node_in kind image of =
      let there = left.nodes image of.among (ap is_node of.actor ∙ kind) in
      let read = there.1 in
      let same : read.payloads ≡ payloads = one_list image.bytes read.payloads payloads read.reads (subst (λ (l : List ℕ). Reads l payloads) of.bytes reads) in (
        there.0,
        subst (λ (l : List (List ℕ)). IsJournalOf node_bytes (NodeMayLeave plan (node_of a)) l there.0) same
            (subst (λ (b : Actor). IsJournalOf node_bytes (NodeMayLeave plan (node_of b)) read.payloads there.0) of.actor read.journal),
      )

  store_in : is_node a ≡ false → (image : Image) → IsOf images a image → StoreItems
  store_in kind image of =
      let read = left.stores image of.among (ap is_node of.actor ∙ kind) in
      let same : read.payloads ≡ payloads = one_list image.bytes read.payloads payloads read.reads (subst (λ (l : List ℕ). Reads l payloads) of.bytes reads) in (
        read.items,
        subst (λ (l : List (List ℕ)). IsJournalOf store_bytes (StoreMayLeave plan images a) l read.items) same
            (subst (λ (b : Actor). IsJournalOf store_bytes (StoreMayLeave plan images b) read.payloads read.items) of.actor read.journal),
      )

  -- the payloads of a node
  pub node_items : is_node a ≡ true → NodeItems
  node_items kind = by (where_journal_is images a)
    where
      by : ((image : Image) × IsOf images a image) ⊎ (journal_at images a ≡ 1 ∷ 0 ∷ []) → NodeItems
      by (inl there) = node_in kind there.0 there.1
      by (inr none) = ([], no_items node_bytes (NodeMayLeave plan (node_of a)) payloads (nothing_is_read (journal_at images a) payloads none reads))

  -- the payloads of a store
  pub store_items : is_node a ≡ false → StoreItems
  store_items kind = by (where_journal_is images a)
    where
      by : ((image : Image) × IsOf images a image) ⊎ (journal_at images a ≡ 1 ∷ 0 ∷ []) → StoreItems
      by (inl there) = store_in kind there.0 there.1
      by (inr none) = ([], no_items store_bytes (StoreMayLeave plan images a) payloads (nothing_is_read (journal_at images a) payloads none reads))
