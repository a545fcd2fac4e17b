-- The draws of nodes in a table, journal after journal.
use Rattle.std.proofs.Common.{◌≡◌, ℕ, ◌+◌, ◌*◌, ◌/◌, ◌%◌, ◌<◌, max, Bool, true, false, cond, ◌&&◌, List, [], ◌∷◌, ◌++◌, length, map, take, get_or, Contains, Option, None, Some, refl, sym, ap, subst, ◌∙◌, ◌⊎◌, inl, inr, ⊎_elim, arith}
use Rattle.std.specs.List.{find}
use Rattle.std.proofs.lemmas.Bool.{true≢false, and_parts, eq-eqb, eqb-true, ltb-true}
use Rattle.std.proofs.lemmas.List.{take_more, get_or-take, get_or_default, length-take-le}
use Rattle.std.proofs.lemmas.List.Elements.{Contains-append_left, Contains-append_right, Contains-push, Contains-push_cases, Contains-append_cases}
use Rattle.std.proofs.lemmas.Option.{none-some, same_Some}
use Rattle.acc_base.specs.Faults.{or_else}
use Rattle.acc_journal.proofs.Unique.{one_list}
use Rattle.acc_message.specs.Run.{clock_start, is_node}
use Rattle.acc_stamp.specs.declared.actors.Actor.{Actor}
use Rattle.acc_stamp.specs.declared.stamps.Stamp.{Stamp}
use Rattle.acc_stamp.specs.Actor.{actor_eq, node_of}
use Rattle.acc_stamp.specs.Stamp.{stamp_eq}
use Rattle.acc_payloads.specs.declared.draw.Draw.{Draw}
use Rattle.acc_payloads.specs.declared.node.NodePayload.{NodePayload}
use Rattle.acc_payloads.specs.declared.node.NodePayload.TheVariants.{Mark, Draws as DrawsPayload}
use Rattle.acc_payloads.specs.Journals.{EachMay}
use Rattle.acc_payloads.specs.Node.{draws_in, greatest_drawn, node_bytes}
use Rattle.acc_payloads.proofs.NodeJournals.{same_node}
use Rattle.acc_payloads.proofs.Nodes.{draws_more, draws_marked, greatest_more}
use Rattle.acc_schedule.specs.Content.{Content}
use Rattle.acc_left.specs.declared.image.Image.{Image}
use Rattle.acc_left.specs.Leaves.{AreApart}
use Rattle.acc_left.specs.Rules.{HasDrawn, IsNodeImage, NodeMayLeave}
use Rattle.acc_left.specs.Told.{AddsDraws, Draws, TellDraws, draw_at, stamp_drawn}

-- ---- what is found

pub behind_head : {A : Type 0} (x : A) (xs : List A) (y : A) → Contains xs y → Contains (x ∷ xs) y
behind_head x xs y there = Contains-append_right (x ∷ []) xs y there

pub at_head : {A : Type 0} (x : A) (xs : List A) → Contains (x ∷ xs) x
at_head x xs = Contains-append_left (x ∷ []) xs x (Contains-push [] x)

pub no_element : {A : Type 0} (z : A) → Contains [] z → ⊥
no_element z none = absurd (omega (arith, none.1))

pub head_or_behind : {A : Type 0} (x : A) (xs : List A) (y : A) → Contains (x ∷ xs) y → (x ≡ y) ⊎ Contains xs y
head_or_behind x xs y there =
    ⊎_elim (λ alone. inl (⊎_elim (λ none. absurd (no_element y none)) (λ same. same) (Contains-push_cases [] x y alone))) inr (Contains-append_cases (x ∷ []) xs y there)

found_is : (p : Draw → Bool) (xs : List Draw) (d : Draw) → find p xs ≡ Some d → Contains xs d × (p d ≡ true)
found_is p [] d e = absurd cc
found_is p (x ∷ xs) d e = by (λ h. found_is p xs d h) (p x) refl e
  where
    by : (find p xs ≡ Some d → Contains xs d × (p d ≡ true)) → (b : Bool) → p x ≡ b → cond b (Some x) (find p xs) ≡ Some d → Contains (x ∷ xs) d × (p d ≡ true)
    by later true is h =
        let same : x ≡ d = same_Some x d h in
        (subst (λ (y : Draw). Contains (x ∷ xs) y) same (at_head x xs), ap p (sym same) ∙ is)
    by later false is h = let rest = later h in (behind_head x xs d rest.0, rest.1)

find_only : (p : Draw → Bool) (xs : List Draw) (d : Draw) → Contains xs d → p d ≡ true → ((c : Draw) → Contains xs c → p c ≡ true → c ≡ d) → find p xs ≡ Some d
find_only p [] d there holds only = absurd (no_element d there)
find_only p (x ∷ xs) d there holds only = by (λ rest. find_only p xs d rest holds (λ c within passes. only c (behind_head x xs c within) passes)) (p x) refl
  where
    by : (Contains xs d → find p xs ≡ Some d) → (b : Bool) → p x ≡ b → cond b (Some x) (find p xs) ≡ Some d
    by later true is = ap Some (only x (at_head x xs) is)
    by later false is =
        later
        (⊎_elim (λ same. absurd (true≢false (sym holds ∙ ap p (sym same) ∙ is))) (λ rest. rest) (head_or_behind x xs d there))

-- ---- the draws of one node rise

module _ (plan : Content) (node : ℕ) where
  abbrev start : ℕ
  start = clock_start plan.starts node

  abbrev May : List NodePayload → NodePayload → Type 0
  May = NodeMayLeave plan node

  is_above : (before : List NodePayload) (d : Draw) → May before (DrawsPayload d) → greatest_drawn start (draws_in before) < d.h
  is_above before d may = ltb-true (greatest_drawn start (draws_in before)) d.h (and_parts _ _ (and_parts _ _ may.0.1).0).0

  above_more : (before : List NodePayload) (y : Draw) → max (greatest_drawn start (draws_in before)) y.h ≡ greatest_drawn start (draws_in (before ++ DrawsPayload y ∷ []))
  above_more before y = sym (ap (greatest_drawn start) (draws_more before y) ∙ greatest_more start (draws_in before) y)

  later_above : (items before : List NodePayload) (d : Draw) → EachMay May before items → Contains (draws_in items) d → greatest_drawn start (draws_in before) < d.h
  later_above [] before d each there = absurd (no_element d there)
  later_above (Mark ∷ items) before d each there =
      subst (λ (l : List Draw). greatest_drawn start l < d.h) (draws_marked before) (later_above items (before ++ Mark ∷ []) d each.1 there)
  later_above (DrawsPayload y ∷ items) before d each there =
      ⊎_elim
      (λ same. subst (λ (c : Draw). greatest_drawn start (draws_in before) < c.h) same (is_above before y each.0))
      (λ rest.
      let later = later_above items (before ++ DrawsPayload y ∷ []) d each.1 rest in
      let more = above_more before y in
      omega (arith, later, more)) (head_or_behind y (draws_in items) d there)

  one_draw : (items before : List NodePayload) (c d : Draw) → EachMay May before items → Contains (draws_in items) c → Contains (draws_in items) d → c.h ≡ d.h → c ≡ d
  one_draw [] before c d each first second same = absurd (no_element c first)
  one_draw (Mark ∷ items) before c d each first second same = one_draw items (before ++ Mark ∷ []) c d each.1 first second same
  one_draw (DrawsPayload y ∷ items) before c d each first second same =
      let higher : (x : Draw) → Contains (draws_in items) x → y.h < x.h = λ x there.
      let later = later_above items (before ++ DrawsPayload y ∷ []) x each.1 there in
      let more = above_more before y in
      omega (arith, later, more) in
      ⊎_elim
      (λ is.
      ⊎_elim (λ also. sym is ∙ also)
      (λ rest. let up = higher d rest in let here : y.h ≡ c.h = ap (λ (x : Draw). x.h) is in absurd (omega (arith, up, here, same)))
      (head_or_behind y (draws_in items) d second))
      (λ more.
      ⊎_elim (λ also. let up = higher c more in let here : y.h ≡ d.h = ap (λ (x : Draw). x.h) also in absurd (omega (arith, up, here, same)))
      (λ rest. one_draw items (before ++ DrawsPayload y ∷ []) c d each.1 more rest same) (head_or_behind y (draws_in items) d second))
      (head_or_behind y (draws_in items) c first)

  -- the payloads of a journal spell one list
  one_spelling : (items others before also : List NodePayload) → map node_bytes items ≡ map node_bytes others → EachMay May before items → EachMay May also others → items ≡ others
  one_spelling [] [] before also e each other = refl
  one_spelling [] (y ∷ others) before also e each other = absurd cc
  one_spelling (x ∷ items) [] before also e each other = absurd cc
  one_spelling (x ∷ items) (y ∷ others) before also e each other =
      let heads : node_bytes x ≡ node_bytes y = cc in
      let tails : map node_bytes items ≡ map node_bytes others = cc in
      let one : x ≡ y = same_node x y each.0.0.0 other.0.0.0 heads in
      let rest : items ≡ others = one_spelling items others (before ++ x ∷ []) (also ++ y ∷ []) tails each.1 other.1 in
      λ k. one k ∷ rest k

pub one_journal : (plan : Content) (image : Image) (items others : List NodePayload) → IsNodeImage plan image items → IsNodeImage plan image others → items ≡ others
one_journal plan image items others is other =
    one_spelling plan (node_of image.actor) items others [] []
    (sym is.journal.spelled ∙ one_list image.bytes is.payloads other.payloads is.reads other.reads ∙ other.journal.spelled) is.journal.each other.journal.each

-- ---- stamps

stamp_is : (node : ℕ) (stamp : Stamp) (d : Draw) → stamp_eq (stamp_drawn node d) stamp ≡ true → stamp ≡ stamp_drawn node d
stamp_is node stamp d e =
    let parts = and_parts _ _ e in
    let h : d.h ≡ stamp.h = eqb-true d.h stamp.h parts.0 in
    let origin : node * 64 ≡ stamp.origin = eqb-true (node * 64) stamp.origin parts.1 in
    λ k. record { h = sym h k; origin = sym origin k }

stamp_was : (node : ℕ) (stamp : Stamp) (d : Draw) → stamp ≡ stamp_drawn node d → stamp_eq (stamp_drawn node d) stamp ≡ true
stamp_was node stamp d e = ap (λ (s : Stamp). stamp_eq (stamp_drawn node d) s) e ∙ (λ k. eq-eqb d.h d.h refl k && eq-eqb (node * 64) (node * 64) refl k)

-- nodes that draw one stamp are one
same_node_actor : (a b : Actor) → is_node a ≡ true → is_node b ≡ true → node_of a * 64 ≡ node_of b * 64 → actor_eq a b ≡ true
same_node_actor a b first second e =
    let none : a.0 % 64 ≡ 0 = eqb-true (a.0 % 64) 0 first in
    let nought : b.0 % 64 ≡ 0 = eqb-true (b.0 % 64) 0 second in
    let same : (a.0 / 64) * 64 ≡ (b.0 / 64) * 64 = e in
    eq-eqb a.0 b.0 (omega (arith, none, nought, same))

-- ---- one journal more

more_drawn : (plan : Content) (images more : List Image) (stamp : Stamp) (d : Draw) → HasDrawn plan images stamp d → HasDrawn plan (images ++ more) stamp d
more_drawn plan images more stamp d h = record {
  image = h.image;
  among = Contains-append_left images more h.image h.among;
  node = h.node;
  items = h.items;
  journal = h.journal;
  draws = h.draws;
  stamp_is = h.stamp_is;
}

pub tell_none : (plan : Content) (draws : Draws) → ((stamp : Stamp) → draw_at draws stamp ≡ None) → TellDraws plan draws []
tell_none plan draws none stamp d = (λ e. absurd (none-some d (sym (none stamp) ∙ e)), λ h. absurd (no_element h.image h.among))

pub next_images : (images : List Image) (i : ℕ) (image : Image) → i < length images → image ≡ get_or images i image → take (i + 1) images ≡ take i images ++ image ∷ []
next_images images i image within is = take_more images i image within ∙ ap (λ (x : Image). take i images ++ x ∷ []) (sym is)

-- the journal of a store tells nothing
pub tell_store : (plan : Content) (images : List Image) (i : ℕ) (image : Image) (draws : Draws) → i < length images → image ≡ get_or images i image → is_node image.actor ≡ false
    → TellDraws plan draws (take i images) → TellDraws plan draws (take (i + 1) images)
tell_store plan images i image draws within is store tells =
    subst (TellDraws plan draws) (sym (next_images images i image within is))
    (λ stamp d. (
      λ e. more_drawn plan (take i images) (image ∷ []) stamp d ((tells stamp d).0 e),
      λ h.
          ⊎_elim
          (λ old.
          (tells stamp d).1
          (record { image = h.image; among = old; node = h.node; items = h.items; journal = h.journal; draws = h.draws; stamp_is = h.stamp_is }))
          (λ new. absurd (true≢false (sym h.node ∙ ap (λ (x : Image). is_node x.actor) (sym new) ∙ store)))
          (Contains-push_cases (take i images) image h.image h.among),
    ))

-- no other journal before it is of its actor
apart_before : (images : List Image) (i : ℕ) (image other : Image) → i < length images → image ≡ get_or images i image → AreApart images → Contains (take i images) other
    → actor_eq other.actor image.actor ≡ false
apart_before images i image other within is apart there =
    let k = there.0 in
    let shorter : length (take i images) ≡ i = length-take-le i images (omega (arith, within)) in
    let before : k < i = omega (arith, there.1, shorter) in
    let at_k : get_or images k other ≡ other = sym (get_or-take i images k other before) ∙ there.2 in
    let pair = apart k i other before within in
    ap (λ (x : Image). actor_eq x.actor image.actor) (sym at_k)
    ∙ ap (λ (x : Image). actor_eq (get_or images k other).actor x.actor) (is ∙ get_or_default images i image other within) ∙ pair

module _ (plan : Content) (images : List Image) (i : ℕ) (image : Image) (before after : Draws) (items : List NodePayload) (within : i < length images)
    (is : image ≡ get_or images i image) (apart : AreApart images) (node : is_node image.actor ≡ true) (journal : IsNodeImage plan image items)
    (adds : AddsDraws before after (node_of image.actor) items) (tells : TellDraws plan before (take i images)) where
  abbrev of : Stamp → Draw → Bool
  of stamp d = stamp_eq (stamp_drawn (node_of image.actor) d) stamp

  draws_it : (stamp : Stamp) (d : Draw) → find (of stamp) (draws_in items) ≡ Some d → HasDrawn plan (take i images ++ image ∷ []) stamp d
  draws_it stamp d found =
      let there = found_is (of stamp) (draws_in items) d found in
      record {
        image = image;
        among = Contains-push (take i images) image;
        node = node;
        items = items;
        journal = journal;
        draws = there.0;
        stamp_is = stamp_is (node_of image.actor) stamp d there.1;
      }

  has : (stamp : Stamp) (d : Draw) (o : Option Draw) → find (of stamp) (draws_in items) ≡ o → or_else o (draw_at before stamp) ≡ Some d
      → HasDrawn plan (take i images ++ image ∷ []) stamp d
  has stamp d None none e = more_drawn plan (take i images) (image ∷ []) stamp d ((tells stamp d).0 e)
  has stamp d (Some c) found e = draws_it stamp d (found ∙ e)

  own : (stamp : Stamp) (d : Draw) → Contains (draws_in items) d → stamp ≡ stamp_drawn (node_of image.actor) d → draw_at after stamp ≡ Some d
  own stamp d there drew =
      let found : find (of stamp) (draws_in items) ≡ Some d =
      find_only (of stamp) (draws_in items) d there (stamp_was (node_of image.actor) stamp d drew)
      (λ c within_too passes.
      one_draw plan (node_of image.actor) items [] c d journal.journal.each within_too there
      (ap (λ (s : Stamp). s.h) (sym (stamp_is (node_of image.actor) stamp c passes) ∙ drew))) in
      adds stamp ∙ ap (λ (o : Option Draw). or_else o (draw_at before stamp)) found

  -- no draw of this node has the stamp of another
  none_of_it : (stamp : Stamp) (h : (d : Draw) × HasDrawn plan (take i images) stamp d) (o : Option Draw) → find (of stamp) (draws_in items) ≡ o → o ≡ None
  none_of_it stamp h None found = refl
  none_of_it stamp h (Some c) found =
      let passes = (found_is (of stamp) (draws_in items) c found).1 in
      let mine : stamp.origin ≡ node_of image.actor * 64 = ap (λ (s : Stamp). s.origin) (stamp_is (node_of image.actor) stamp c passes) in
      let theirs : stamp.origin ≡ node_of h.1.image.actor * 64 = ap (λ (s : Stamp). s.origin) h.1.stamp_is in
      absurd
      (true≢false
      (sym (same_node_actor h.1.image.actor image.actor h.1.node node (sym theirs ∙ mine)) ∙ apart_before images i image h.1.image within is apart h.1.among))

  told : (stamp : Stamp) (d : Draw) → HasDrawn plan (take i images ++ image ∷ []) stamp d → draw_at after stamp ≡ Some d
  told stamp d h =
      ⊎_elim
      (λ old.
      let earlier : HasDrawn plan (take i images) stamp d =
      record { image = h.image; among = old; node = h.node; items = h.items; journal = h.journal; draws = h.draws; stamp_is = h.stamp_is } in
      adds stamp ∙ ap (λ (o : Option Draw). or_else o (draw_at before stamp)) (none_of_it stamp (d, earlier) (find (of stamp) (draws_in items)) refl)
      ∙ (tells stamp d).1 earlier)
      (λ new.
      let same : h.items ≡ items = one_journal plan image h.items items (subst (λ (x : Image). IsNodeImage plan x h.items) (sym new) h.journal) journal in
      own stamp d (subst (λ (l : List NodePayload). Contains (draws_in l) d) same h.draws) (h.stamp_is ∙ ap (λ (x : Image). stamp_drawn (node_of x.actor) d) (sym new)))
      (Contains-push_cases (take i images) image h.image h.among)

  pub tell_node : TellDraws plan after (take (i + 1) images)
  tell_node =
      subst (TellDraws plan after) (sym (next_images images i image within is))
      (λ stamp d. (
        λ e. has stamp d (find (of stamp) (draws_in items)) refl (sym (adds stamp) ∙ e),
        λ h. told stamp d h,
      ))
