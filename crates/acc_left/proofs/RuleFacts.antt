-- The rules on all journals, one journal after another.
use Rattle.std.proofs.Common.{◌≡◌, ℕ, ◌+◌, ◌<◌, ◌≤◌, Bool, true, false, List, [], ◌∷◌, ◌++◌, length, take, drop, get_or, refl, sym, ap, subst, ◌∙◌, inl, inr, ⊎_elim, Option}
use Rattle.std.proofs.lemmas.Bool.{true≢false, eqb-true}
use Rattle.std.proofs.lemmas.List.{take-append-drop, drop_more, take_all}
use Rattle.std.proofs.lemmas.List.Elements.{Contains-push_cases}
use Rattle.std.proofs.lemmas.Option.{same_Some}
use Rattle.acc_stamp.specs.declared.actors.Actor.{Actor}
use Rattle.acc_stamp.specs.Actor.{node_of, shard_of}
use Rattle.acc_journal.specs.Layout.{Reads}
use Rattle.acc_message.specs.Run.{is_node}
use Rattle.acc_payloads.specs.declared.node.NodePayload.{NodePayload}
use Rattle.acc_payloads.specs.Journals.{IsBadRecord}
use Rattle.acc_payloads.specs.Node.{node_bytes}
use Rattle.acc_payloads.specs.Store.{store_bytes}
use Rattle.acc_schedule.specs.declared.error.PlanKind.TheVariants.{Journal}
use Rattle.acc_schedule.specs.declared.error.PlanError.{PlanError}
use Rattle.acc_schedule.specs.declared.error.PlanError.TheVariants.{Bad, OutOfMemory}
use Rattle.acc_schedule.specs.Actors.{actor_text}
use Rattle.acc_schedule.specs.Content.{Content}
use Rattle.acc_schedule.specs.Faults.{IsFault}
use Rattle.acc_schedule.specs.Paths.{path_text}
use Rattle.std.specs.Prelude.{Some, ◌==◌}
use Rattle.acc_left.specs.declared.image.Image.{Image}
use Rattle.acc_left.specs.declared.refusal.JournalFault.{JournalFault}
use Rattle.acc_left.specs.Answers.{IsRefusal, NodeIsEntered, Refuses, RefusesAt, detail_of, place_of}
use Rattle.acc_left.specs.Leaves.{AreApart}
use Rattle.acc_left.specs.Reading.{member_path}
use Rattle.acc_left.specs.Rules.{AreLeft, IsFirstFault, IsNodeFault, IsNodeImage, IsStoreFault, IsStoreImage, NodeIsFirst, NodeMayLeave, NodesAreLeft, StoreMayLeave, StoresAreLeft}
use Rattle.acc_left.specs.Told.{Draws, FindsInNode, FindsInStore, IsEntered, IsKeptBy, TellDraws}
use Rattle.acc_left.proofs.TableFacts.{no_element, next_images, tell_node, tell_store}

-- ---- refusals

-- the detailed fault of the path of an actor's journal
pub says_refusal : (actor : Actor) (fault : JournalFault) (path : List ℕ) (detail at : ℕ) (e : PlanError) → path ≡ path_text (member_path (actor_text actor)) → detail ≡ detail_of fault
    → at ≡ place_of fault → IsFault (Some (Bad Journal path detail at)) e → IsRefusal actor fault e
says_refusal actor fault path detail at OutOfMemory p d a h = tt
says_refusal actor fault path detail at (Bad kind path' detail' at') p d a h =
    same_Some (Bad kind path' detail' at') (Bad Journal path detail at) (sym h) ∙ λ k. Bad Journal (p k) (d k) (a k)

pub refuses_for : (Has : ℕ → ℕ → Type 0) (image : Image) (fault : JournalFault) (e : PlanError) → Has (detail_of fault) (place_of fault) → IsRefusal image.actor fault e → Refuses Has image e
refuses_for Has image fault OutOfMemory has is = tt
refuses_for Has image fault (Bad kind path detail at) has is = record { detail = detail_of fault; at = place_of fault; has = has; says = is }

pub refuses_more : (Has More : ℕ → ℕ → Type 0) (image : Image) (e : PlanError) → ((detail at : ℕ) → Has detail at → More detail at) → Refuses Has image e → Refuses More image e
refuses_more Has More image OutOfMemory to h = tt
refuses_more Has More image (Bad kind path detail at) to h = record { detail = h.detail; at = h.at; has = to h.detail h.at h.has; says = h.says }

refuses_at : (Has : ℕ → ℕ → Type 0) (Is : Image → ℕ → ℕ → Type 0) (image : Image) (e : PlanError) → ((detail at : ℕ) → Has detail at → Is image detail at) → Refuses Has image e → RefusesAt Is e
refuses_at Has Is image OutOfMemory to h = tt
refuses_at Has Is image (Bad kind path detail at) to h = record { image = image; detail = h.detail; at = h.at; first = to h.detail h.at h.has; says = h.says }

pub refuses_later : (Is More : Image → ℕ → ℕ → Type 0) (e : PlanError) → ((image : Image) (detail at : ℕ) → Is image detail at → More image detail at) → RefusesAt Is e → RefusesAt More e
refuses_later Is More OutOfMemory to h = tt
refuses_later Is More (Bad kind path detail at) to h = record { image = h.image; detail = h.detail; at = h.at; first = to h.image h.detail h.at h.first; says = h.says }

-- ---- one journal

pub bad_draw : (plan : Content) (image : Image) (payloads : List (List ℕ)) (gate : ℕ) → Reads image.bytes payloads
    → IsBadRecord node_bytes (NodeMayLeave plan (node_of image.actor)) payloads gate → IsNodeFault plan image 3 gate
bad_draw plan image payloads gate reads bad = inr (record { kind = refl; payloads = payloads; reads = reads; bad = bad })

pub bad_message : (plan : Content) (images : List Image) (image : Image) (payloads : List (List ℕ)) (gate : ℕ) → Reads image.bytes payloads
    → IsBadRecord store_bytes (StoreMayLeave plan images image.actor) payloads gate → IsStoreFault plan images image 3 gate
bad_message plan images image payloads gate reads bad = inr (record { kind = refl; payloads = payloads; reads = reads; bad = bad })

pub node_entered : (plan : Content) (image : Image) (payloads : List (List ℕ)) (before after : Draws) → Reads image.bytes payloads → IsEntered plan (node_of image.actor) payloads before after
    → NodeIsEntered plan image before after
node_entered plan image payloads before after reads entered =
    record { items = entered.items; journal = record { payloads = payloads; reads = reads; journal = entered.journal }; draws = entered.draws }

pub store_kept : (plan : Content) (images : List Image) (image : Image) (payloads : List (List ℕ)) → Reads image.bytes payloads → IsKeptBy plan images image.actor payloads
    → IsStoreImage plan images image
store_kept plan images image payloads reads kept = record { payloads = payloads; items = kept.items; reads = reads; journal = kept.journal }

-- what was found in the payloads that were read
pub node_found : (plan : Content) (image : Image) (payloads given : List (List ℕ)) (node : ℕ) (before after : Draws) (o found : Option ℕ) → given ≡ payloads → node ≡ node_of image.actor
    → o ≡ found → FindsInNode plan node given before after o → FindsInNode plan (node_of image.actor) payloads before after found
node_found plan image payloads given node before after o found same at is finds =
    subst (λ (l : List (List ℕ)). FindsInNode plan (node_of image.actor) l before after found) same
    (subst (λ (n : ℕ). FindsInNode plan n given before after found) at (subst (FindsInNode plan node given before after) is finds))

pub store_found : (plan : Content) (images : List Image) (own : Actor) (payloads given : List (List ℕ)) (o found : Option ℕ) → given ≡ payloads → o ≡ found
    → FindsInStore plan images own given o → FindsInStore plan images own payloads found
store_found plan images own payloads given o found same is finds =
    subst (λ (l : List (List ℕ)). FindsInStore plan images own l found) same (subst (FindsInStore plan images own given) is finds)

-- ---- whose journal it is

pub kind_node : (a : Actor) (shard : ℕ) → shard ≡ shard_of a → shard ≡ 0 → is_node a ≡ true
kind_node a shard is none = ap (λ (n : ℕ). n == 0) (sym is ∙ none)

pub kind_store : (a : Actor) (shard : ℕ) → shard ≡ shard_of a → (shard ≡ 0 → ⊥) → is_node a ≡ false
kind_store a shard is some_shard = by (is_node a) refl
  where
    by : (b : Bool) → is_node a ≡ b → b ≡ false
    by true e = absurd (some_shard (is ∙ eqb-true (shard_of a) 0 e))
    by false e = refl

-- ---- the journals before a place

pub split_at : (images : List Image) (i : ℕ) (image : Image) → i < length images → image ≡ get_or images i image → images ≡ take i images ++ image ∷ drop (i + 1) images
split_at images i image within is =
    sym (take-append-drop i images)
    ∙ ap (λ (l : List Image). take i images ++ l) (drop_more images i image within ∙ ap (λ (x : Image). x ∷ drop (i + 1) images) (sym is))

pub record AreDrawn (plan : Content) (images : List Image) (i : ℕ) (draws : Draws) : Type 0 where
  pub left : NodesAreLeft plan (take i images)
  pub tells : TellDraws plan draws (take i images)

pub drawn_none : (plan : Content) (images : List Image) (draws : Draws) → TellDraws plan draws [] → AreDrawn plan images 0 draws
drawn_none plan images draws tells = record { left = λ image there node. absurd (no_element image there); tells = tells }

pub drawn_all : (plan : Content) (images : List Image) (i : ℕ) (draws : Draws) → length images ≤ i → AreDrawn plan images i draws → NodesAreLeft plan images × TellDraws plan draws images
drawn_all plan images i draws long are = (
  subst (NodesAreLeft plan) (take_all i images long) are.left,
  subst (TellDraws plan draws) (take_all i images long) are.tells,
)

module _ (plan : Content) (images : List Image) (i : ℕ) (image : Image) (within : i < length images) (is : image ≡ get_or images i image) where
  nodes_more : NodesAreLeft plan (take i images) → (is_node image.actor ≡ true → (items : List NodePayload) × IsNodeImage plan image items) → NodesAreLeft plan (take (i + 1) images)
  nodes_more left own =
      subst (NodesAreLeft plan) (sym (next_images images i image within is))
      (λ other there node.
      ⊎_elim (λ old. left other old node)
      (λ new.
      let mine = own (ap (λ (x : Image). is_node x.actor) new ∙ node) in
      (mine.0, subst (λ (x : Image). IsNodeImage plan x mine.0) new mine.1)) (Contains-push_cases (take i images) image other there))

  pub drawn_node : (before after : Draws) → AreApart images → is_node image.actor ≡ true → AreDrawn plan images i before → NodeIsEntered plan image before after
      → AreDrawn plan images (i + 1) after
  drawn_node before after apart node are entered = record {
    left = nodes_more are.left (λ _. (entered.items, entered.journal));
    tells = tell_node plan images i image before after entered.items within is apart node entered.journal entered.draws are.tells;
  }

  pub drawn_store : (draws : Draws) → is_node image.actor ≡ false → AreDrawn plan images i draws → AreDrawn plan images (i + 1) draws
  drawn_store draws store are = record {
    left = nodes_more are.left (λ node. absurd (true≢false (sym node ∙ store)));
    tells = tell_store plan images i image draws within is store are.tells;
  }

  pub node_fails : (draws : Draws) (e : PlanError) → is_node image.actor ≡ true → AreDrawn plan images i draws → Refuses (IsNodeFault plan image) image e → RefusesAt (NodeIsFirst plan images) e
  node_fails draws e node are refuses =
      refuses_at (IsNodeFault plan image) (NodeIsFirst plan images) image e
      (λ detail at breaks.
      record { before = take i images; after = drop (i + 1) images; whole = split_at images i image within is; node = node; keep = are.left; breaks = breaks }) refuses

  pub stores_more : StoresAreLeft plan images (take i images) → (is_node image.actor ≡ false → IsStoreImage plan images image) → StoresAreLeft plan images (take (i + 1) images)
  stores_more left own =
      subst (StoresAreLeft plan images) (sym (next_images images i image within is))
      (λ other there store.
      ⊎_elim (λ old. left other old store) (λ new. subst (IsStoreImage plan images) new (own (ap (λ (x : Image). is_node x.actor) new ∙ store)))
      (Contains-push_cases (take i images) image other there))

  pub stores_skip : is_node image.actor ≡ true → StoresAreLeft plan images (take i images) → StoresAreLeft plan images (take (i + 1) images)
  stores_skip node left = stores_more left (λ store. absurd (true≢false (sym node ∙ store)))

  pub store_fails : (e : PlanError) → is_node image.actor ≡ false → NodesAreLeft plan images → StoresAreLeft plan images (take i images) → Refuses (IsStoreFault plan images image) image e
      → RefusesAt (IsFirstFault plan images) e
  store_fails e store nodes left refuses =
      refuses_at (IsStoreFault plan images image) (IsFirstFault plan images) image e
      (λ detail at breaks.
      inr (record { before = take i images; after = drop (i + 1) images; whole = split_at images i image within is; store = store; nodes = nodes; keep = left; breaks = breaks })) refuses

pub stores_none : (plan : Content) (images : List Image) → StoresAreLeft plan images (take 0 images)
stores_none plan images image there store = absurd (no_element image there)

pub stores_all : (plan : Content) (images : List Image) (i : ℕ) → length images ≤ i → NodesAreLeft plan images → StoresAreLeft plan images (take i images) → AreLeft plan images
stores_all plan images i long nodes left = record { nodes = nodes; stores = subst (StoresAreLeft plan images) (take_all i images long) left }

pub nodes_fail : (plan : Content) (images : List Image) (e : PlanError) → RefusesAt (NodeIsFirst plan images) e → RefusesAt (IsFirstFault plan images) e
nodes_fail plan images e = refuses_later (NodeIsFirst plan images) (IsFirstFault plan images) e (λ image detail at first. inl first)
