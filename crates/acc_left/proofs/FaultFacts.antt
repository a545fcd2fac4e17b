-- Journals that break no rule have no first one that breaks one, and others have one first.
use Rattle.std.proofs.Common.{◌≡◌, ℕ, ◌+◌, List, [], ◌∷◌, ◌++◌, length, map, Contains, refl, sym, ap, subst, ◌∙◌, ◌⊎◌, inl, inr, ⊎_elim}
use Rattle.std.proofs.lemmas.List.{append-nil, append_assoc}
use Rattle.std.proofs.lemmas.List.Elements.{Contains-append_right}
use Rattle.acc_stamp.specs.declared.actors.Actor.{Actor}
use Rattle.acc_stamp.specs.Actor.{node_of}
use Rattle.acc_journal.specs.Layout.{Reads, records}
use Rattle.acc_journal.proofs.Unique.{foreign_or_cut, not_cut, not_foreign, one_list, one_place, one_version}
use Rattle.acc_payloads.specs.declared.node.NodePayload.{NodePayload}
use Rattle.acc_payloads.specs.declared.store.StorePayload.{StorePayload}
use Rattle.acc_payloads.specs.Journals.{EachMay, IsBadRecord, IsJournalOf}
use Rattle.acc_payloads.specs.Node.{node_bytes}
use Rattle.acc_payloads.specs.Store.{store_bytes}
use Rattle.acc_payloads.proofs.Journals.{never}
use Rattle.acc_payloads.proofs.NodeJournals.{same_node}
use Rattle.acc_schedule.specs.Content.{Content}
use Rattle.acc_left.specs.declared.image.Image.{Image}
use Rattle.acc_left.specs.Rules.{AreLeft, IsFirstFault, IsNodeFault, IsNodeImage, IsStoreFault, IsStoreImage, IsUnreadable, NodeIsFirst, NodeMayLeave, StoreIsFirst, StoreMayLeave}
use Rattle.acc_left.proofs.StoreWalk.{same_store}
use Rattle.acc_left.proofs.TableFacts.{at_head, behind_head}

node_payload : (plan : Content) (node : ℕ) (b c : List NodePayload) (x y : NodePayload) → NodeMayLeave plan node b x → NodeMayLeave plan node c y → node_bytes x ≡ node_bytes y → x ≡ y
node_payload plan node b c x y f g e = same_node x y f.0.0 g.0.0 e

store_payload : (plan : Content) (images : List Image) (own : Actor) (b c : List StorePayload) (x y : StorePayload) → StoreMayLeave plan images own b x → StoreMayLeave plan images own c y
    → store_bytes x ≡ store_bytes y → x ≡ y
store_payload plan images own b c x y f g e = same_store x y f.0 g.0 e

-- ---- journals that break no rule

readable : (bytes : List ℕ) (payloads : List (List ℕ)) (detail at : ℕ) → Reads bytes payloads → IsUnreadable bytes detail at → ⊥
readable bytes payloads detail at reads h = ⊎_elim (λ foreign. not_foreign bytes payloads at reads foreign.1) (λ cut. not_cut bytes payloads at reads cut.1) h

node_keeps : (plan : Content) (image : Image) (items : List NodePayload) (detail at : ℕ) → IsNodeImage plan image items → IsNodeFault plan image detail at → ⊥
node_keeps plan image items detail at is h =
    ⊎_elim (readable image.bytes is.payloads detail at is.reads)
    (λ found.
    let one : is.payloads ≡ found.payloads = one_list image.bytes is.payloads found.payloads is.reads found.reads in
    never (NodeMayLeave plan (node_of image.actor)) node_bytes (node_payload plan (node_of image.actor)) found.payloads items
    (subst (λ p. IsJournalOf node_bytes (NodeMayLeave plan (node_of image.actor)) p items) one is.journal) at found.bad) h

store_keeps : (plan : Content) (images : List Image) (image : Image) (detail at : ℕ) → IsStoreImage plan images image → IsStoreFault plan images image detail at → ⊥
store_keeps plan images image detail at is h =
    ⊎_elim (readable image.bytes is.payloads detail at is.reads)
    (λ found.
    let one : is.payloads ≡ found.payloads = one_list image.bytes is.payloads found.payloads is.reads found.reads in
    never (StoreMayLeave plan images image.actor) store_bytes (store_payload plan images image.actor) found.payloads is.items
    (subst (λ p. IsJournalOf store_bytes (StoreMayLeave plan images image.actor) p is.items) one is.journal) at found.bad) h

among : (before after : List Image) (image : Image) → Contains (before ++ image ∷ after) image
among before after image = Contains-append_right before (image ∷ after) image (at_head image after)

pub no_fault : (plan : Content) (images : List Image) (image : Image) (detail at : ℕ) → AreLeft plan images → IsFirstFault plan images image detail at → ⊥
no_fault plan images image detail at left h =
    ⊎_elim
    (λ first.
    let keeps = left.nodes image (subst (λ l. Contains l image) (sym first.whole) (among first.before first.after image)) first.node in
    node_keeps plan image keeps.0 detail at keeps.1 first.breaks)
    (λ first.
    let keeps = left.stores image (subst (λ l. Contains l image) (sym first.whole) (among first.before first.after image)) first.store in
    store_keeps plan images image detail at keeps first.breaks) h

-- ---- one place

module _ {A : Type 0} (May : List A → A → Type 0) (bytes : A → List ℕ) (same : (b c : List A) (x y : A) → May b x → May c y → bytes x ≡ bytes y → x ≡ y) where
  abbrev IsBad : List A → List ℕ → Type 0
  IsBad before payload = (x : A) → payload ≡ bytes x → May before x → ⊥

  one_front : (front before others : List A) (payload other : List ℕ) (behind rest : List (List ℕ)) → map bytes before ++ payload ∷ behind ≡ map bytes others ++ other ∷ rest
      → EachMay May front before → EachMay May front others → IsBad (front ++ before) payload → IsBad (front ++ others) other → map bytes before ≡ map bytes others
  one_front front [] [] payload other behind rest e each more bad worse = refl
  one_front front [] (y ∷ others) payload other behind rest e each more bad worse =
      let is : payload ≡ bytes y = cc in
      absurd (bad y is (subst (λ (b : List A). May b y) (sym (append-nil front)) more.0))
  one_front front (x ∷ before) [] payload other behind rest e each more bad worse =
      let is : other ≡ bytes x = cc in
      absurd (worse x is (subst (λ (b : List A). May b x) (sym (append-nil front)) each.0))
  one_front front (x ∷ before) (y ∷ others) payload other behind rest e each more bad worse =
      let heads : bytes x ≡ bytes y = cc in
      let tails : map bytes before ++ payload ∷ behind ≡ map bytes others ++ other ∷ rest = cc in
      let one : x ≡ y = same front front x y each.0 more.0 heads in
      let here : EachMay May (front ++ y ∷ []) before = subst (λ (z : A). EachMay May (front ++ z ∷ []) before) one each.1 in
      let joined : front ++ x ∷ before ≡ (front ++ y ∷ []) ++ before = ap (λ (z : A). front ++ z ∷ before) one ∙ sym (append_assoc front (y ∷ []) before) in
      let later : map bytes before ≡ map bytes others =
      one_front (front ++ y ∷ []) before others payload other behind rest tails here more.1 (subst (λ (b : List A). IsBad b payload) joined bad)
      (subst (λ (b : List A). IsBad b other) (sym (append_assoc front (y ∷ []) others)) worse) in
      λ k. heads k ∷ later k

  one_bad : (payloads : List (List ℕ)) (place other : ℕ) → IsBadRecord bytes May payloads place → IsBadRecord bytes May payloads other → place ≡ other
  one_bad payloads place other b c =
      b.at
      ∙ ap (λ (l : List (List ℕ)). 1 + length (records l)) (one_front [] b.before c.before b.payload c.payload b.behind c.behind (sym b.whole ∙ c.whole) b.each c.each b.bad c.bad)
      ∙ sym c.at

-- a fault of one journal
abbrev Alike : ℕ → ℕ → ℕ → ℕ → Type 0
Alike detail at other place = (detail ≡ other) × (at ≡ place)

unreadable_once : (bytes : List ℕ) (detail at other place : ℕ) → IsUnreadable bytes detail at → IsUnreadable bytes other place → Alike detail at other place
unreadable_once bytes detail at other place (inl x) (inl y) = (x.0 ∙ sym y.0, one_version bytes at place x.1 y.1)
unreadable_once bytes detail at other place (inl x) (inr y) = absurd (foreign_or_cut bytes at place x.1 y.1)
unreadable_once bytes detail at other place (inr x) (inl y) = absurd (foreign_or_cut bytes place at y.1 x.1)
unreadable_once bytes detail at other place (inr x) (inr y) = (x.0 ∙ sym y.0, one_place bytes at place x.1 y.1)

node_once : (plan : Content) (image : Image) (detail at other place : ℕ) → IsNodeFault plan image detail at → IsNodeFault plan image other place → Alike detail at other place
node_once plan image detail at other place (inl x) (inl y) = unreadable_once image.bytes detail at other place x y
node_once plan image detail at other place (inl x) (inr y) = absurd (readable image.bytes y.payloads detail at y.reads x)
node_once plan image detail at other place (inr x) (inl y) = absurd (readable image.bytes x.payloads other place x.reads y)
node_once plan image detail at other place (inr x) (inr y) = (
  x.kind ∙ sym y.kind,
  one_bad (NodeMayLeave plan (node_of image.actor)) node_bytes (node_payload plan (node_of image.actor)) y.payloads at place
      (subst (λ (p : List (List ℕ)). IsBadRecord node_bytes (NodeMayLeave plan (node_of image.actor)) p at) (one_list image.bytes x.payloads y.payloads x.reads y.reads) x.bad) y.bad,
)

store_once : (plan : Content) (images : List Image) (image : Image) (detail at other place : ℕ) → IsStoreFault plan images image detail at → IsStoreFault plan images image other place
    → Alike detail at other place
store_once plan images image detail at other place (inl x) (inl y) = unreadable_once image.bytes detail at other place x y
store_once plan images image detail at other place (inl x) (inr y) = absurd (readable image.bytes y.payloads detail at y.reads x)
store_once plan images image detail at other place (inr x) (inl y) = absurd (readable image.bytes x.payloads other place x.reads y)
store_once plan images image detail at other place (inr x) (inr y) = (
  x.kind ∙ sym y.kind,
  one_bad (StoreMayLeave plan images image.actor) store_bytes (store_payload plan images image.actor) y.payloads at place
      (subst (λ (p : List (List ℕ)). IsBadRecord store_bytes (StoreMayLeave plan images image.actor) p at) (one_list image.bytes x.payloads y.payloads x.reads y.reads) x.bad) y.bad,
)

-- ---- one journal is first

where_is : (before others after rest : List Image) (x y : Image) → before ++ x ∷ after ≡ others ++ y ∷ rest → (x ≡ y) ⊎ (Contains others x ⊎ Contains before y)
where_is [] [] after rest x y e = let same : x ≡ y = cc in inl same
where_is [] (z ∷ others) after rest x y e = let same : z ≡ x = cc in inr (inl (subst (Contains (z ∷ others)) same (at_head z others)))
where_is (z ∷ before) [] after rest x y e = let same : z ≡ y = cc in inr (inr (subst (Contains (z ∷ before)) same (at_head z before)))
where_is (z ∷ before) (w ∷ others) after rest x y e =
    let tails : before ++ x ∷ after ≡ others ++ y ∷ rest = cc in
    ⊎_elim inl (λ there. inr (⊎_elim (λ one. inl (behind_head w others x one)) (λ two. inr (behind_head z before y two)) there)) (where_is before others after rest x y tails)

-- the same journal, with the same fault
pub record IsOneFault (image other : Image) (detail at kind place : ℕ) : Type 0 where
  pub image_is : image ≡ other
  pub detail_is : detail ≡ kind
  pub at_is : at ≡ place

module _ (plan : Content) (images : List Image) (image other : Image) (detail at kind place : ℕ) where
  both_nodes : NodeIsFirst plan images image detail at → NodeIsFirst plan images other kind place → IsOneFault image other detail at kind place
  both_nodes x y =
      ⊎_elim
      (λ same.
      let one = node_once plan other detail at kind place (subst (λ (i : Image). IsNodeFault plan i detail at) same x.breaks) y.breaks in
      record { image_is = same; detail_is = one.0; at_is = one.1 })
      (λ apart.
      absurd
      (⊎_elim (λ there. let keeps = y.keep image there x.node in node_keeps plan image keeps.0 detail at keeps.1 x.breaks)
      (λ there. let keeps = x.keep other there y.node in node_keeps plan other keeps.0 kind place keeps.1 y.breaks) apart))
      (where_is x.before y.before x.after y.after image other (sym x.whole ∙ y.whole))

  both_stores : StoreIsFirst plan images image detail at → StoreIsFirst plan images other kind place → IsOneFault image other detail at kind place
  both_stores x y =
      ⊎_elim
      (λ same.
      let one = store_once plan images other detail at kind place (subst (λ (i : Image). IsStoreFault plan images i detail at) same x.breaks) y.breaks in
      record { image_is = same; detail_is = one.0; at_is = one.1 })
      (λ apart.
      absurd
      (⊎_elim (λ there. store_keeps plan images image detail at (y.keep image there x.store) x.breaks)
      (λ there. store_keeps plan images other kind place (x.keep other there y.store) y.breaks) apart))
      (where_is x.before y.before x.after y.after image other (sym x.whole ∙ y.whole))

one_of_each : (plan : Content) (images : List Image) (image other : Image) (detail at kind place : ℕ) → NodeIsFirst plan images image detail at → StoreIsFirst plan images other kind place → ⊥
one_of_each plan images image other detail at kind place x y =
    let keeps = y.nodes image (subst (λ l. Contains l image) (sym x.whole) (among x.before x.after image)) x.node in
    node_keeps plan image keeps.0 detail at keeps.1 x.breaks

pub one_first : (plan : Content) (images : List Image) (image other : Image) (detail at kind place : ℕ) → IsFirstFault plan images image detail at → IsFirstFault plan images other kind place
    → IsOneFault image other detail at kind place
one_first plan images image other detail at kind place (inl x) (inl y) = both_nodes plan images image other detail at kind place x y
one_first plan images image other detail at kind place (inl x) (inr y) = absurd (one_of_each plan images image other detail at kind place x y)
one_first plan images image other detail at kind place (inr x) (inl y) = absurd (one_of_each plan images other image kind place detail at y x)
one_first plan images image other detail at kind place (inr x) (inr y) = both_stores plan images image other detail at kind place x y
