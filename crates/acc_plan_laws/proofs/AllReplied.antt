-- Where each begun transaction has its reply, there are as many replies as begins, since none is begun twice.
use Rattle.std.proofs.Common.{◌≡◌, suc, ◌+◌, ◌-◌, ◌≤◌, Bool, true, false, ◌⊎◌, inl, inr, ⊎_elim, List, [], ◌∷◌, ◌++◌, length, count_by, refl, sym, ◌∙◌, ap, subst, arith}
use Rattle.std.specs.List.{flat_map}
use Rattle.std.proofs.lemmas.Bool.{true≢false}
use Rattle.std.proofs.lemmas.List.{length-append}
use Rattle.std.proofs.lemmas.List.Sums.{sum_by-append}
use Rattle.acc_stamp.specs.declared.stamps.Stamp.{Stamp}
use Rattle.acc_stamp.specs.declared.stamps.TxnId.{TxnId}
use Rattle.acc_stamp.specs.Stamp.{stamp_eq}
use Rattle.acc_stamp.specs.Rising.{is_among}
use Rattle.acc_stamp.proofs.Order.{stamp_eq-Decides}
use Rattle.acc_topology.proofs.Bits.{one_if, count_by-cons}
use Rattle.acc_message.specs.declared.note.Note.{Note}
use Rattle.acc_message.specs.declared.note.Note.TheVariants.{Begin as BeginNote, Recover as RecoverNote, Blocked, Ended, Decide, Outcome as OutcomeNote, Reply as ReplyNote}
use Rattle.acc_message.specs.declared.item.Item.{Item}
use Rattle.acc_message.specs.Items.{noted_in, notes_of, begins, replies}
use Rattle.acc_message.specs.Run.{Cluster, EachStands}
use Rattle.acc_safety.specs.Places.{IsIn, First, Later}
use Rattle.acc_safety.specs.Calm.{EachBegunIsAnswered}
use Rattle.acc_safety.specs.RunLaws.{drawn_in, drawn_of, AreDistinct}
use Rattle.acc_safety.proofs.BodiesBegun.{distinct_draws}
use Rattle.acc_safety.proofs.PlaceOrder.{only, none_is_in, IsIn-cases, IsIn-append_cases, IsIn-append_left, IsIn-append_right, Passing, passing, any_from, FromList, IsIn-flat_map, flat_map-IsIn}
use Rattle.acc_report_line.specs.declared.line.Line.TheVariants.{End}
use Rattle.acc_report.specs.Report.{is_begin, is_reply, last_line}

-- ---- lists of which one has no element twice and no element that the other lacks

module _ {T : Type 0} where
  abbrev AllApart : List T → Type 0
  AllApart [] = Unit {0}
  AllApart (x ∷ xs) = (IsIn x xs → ⊥) × AllApart xs

  -- the list without one place of the element
  record Without (x : T) (xs : List T) : Type 0 where
    rest : List T
    shorter : length xs ≡ suc (length rest)
    others : (y : T) → (x ≡ y → ⊥) → IsIn y xs → IsIn y rest

  without : (x : T) (xs : List T) → IsIn x xs → Without x xs
  without _ _ (First a rest) =
      record {
        rest = rest;
        shorter = refl;
        others = λ y apart there. ⊎_elim (λ same. absurd (apart (sym same))) (λ later. later) (IsIn-cases y a rest there);
      }
  without _ _ (Later a b rest there) =
      let w : Without a rest = without a rest there in
      record {
        rest = b ∷ w.rest;
        shorter = ap suc w.shorter;
        others = λ y apart in_it.
            ⊎_elim (λ same. subst (λ z. IsIn z (b ∷ w.rest)) (sym same) (First b w.rest)) (λ later. Later y b w.rest (w.others y apart later))
            (IsIn-cases y b rest in_it);
      }

  fits : (xs ys : List T) → AllApart xs → ((y : T) → IsIn y xs → IsIn y ys) → length xs ≤ length ys
  fits [] ys apart within = omega arith
  fits (x ∷ xs) ys apart within =
      let w : Without x ys = without x ys (within x (First x xs)) in
      let fewer : length xs ≤ length w.rest =
      fits xs w.rest apart.1
      (λ y there. w.others y (λ same. apart.0 (subst (λ z. IsIn z xs) (sym same) there)) (within y (Later y x xs there))) in
      omega (arith, w.shorter, fewer)

-- ---- begun and replied

abbrev begun_in : Note → List Stamp
begun_in (BeginNote id) = id.0 ∷ []
begun_in (RecoverNote id ballot) = []
begun_in (Blocked id ballot by) = []
begun_in (Ended id ballot by) = []
begun_in (Decide id t path deps) = []
begun_in (OutcomeNote id reply) = []
begun_in (ReplyNote id reply) = []

abbrev replied_in : Note → List Stamp
replied_in (BeginNote id) = []
replied_in (RecoverNote id ballot) = []
replied_in (Blocked id ballot by) = []
replied_in (Ended id ballot by) = []
replied_in (Decide id t path deps) = []
replied_in (OutcomeNote id reply) = []
replied_in (ReplyNote id reply) = id.0 ∷ []

-- those of the newest items first
abbrev begun_of : List Item → List Stamp
begun_of [] = []
begun_of (item ∷ earlier) = flat_map begun_in (noted_in item) ++ begun_of earlier

-- ---- none is begun twice

not_in : (s : Stamp) (more : List Stamp) → is_among stamp_eq s more ≡ false → IsIn s more → ⊥
not_in s more none there = true≢false (sym (any_from (λ y. stamp_eq y s) s more there ((stamp_eq-Decides s s).1 refl)) ∙ none)

-- some of the stamps, in their order
record Thin (less more : List Stamp) : Type 0 where
  within : (s : Stamp) → IsIn s less → IsIn s more
  apart : AreDistinct more → AllApart less

with_both : (s : Stamp) (less more : List Stamp) → Thin less more → Thin (s ∷ less) (s ∷ more)
with_both s less more t =
    record {
      within = λ y there.
          ⊎_elim (λ same. subst (λ z. IsIn z (s ∷ more)) (sym same) (First s more)) (λ later. Later y s more (t.within y later)) (IsIn-cases y s less there);
      apart = λ d. (λ there. not_in s more d.0 (t.within s there), t.apart d.1);
    }

with_more : (s : Stamp) (less more : List Stamp) → Thin less more → Thin less (s ∷ more)
with_more s less more t = record { within = λ y there. Later y s more (t.within y there); apart = λ d. t.apart d.1 }

thin_notes : (notes : List Note) (less more : List Stamp) → Thin less more → Thin (flat_map begun_in notes ++ less) (flat_map drawn_in notes ++ more)
thin_notes [] less more t = t
thin_notes (BeginNote id ∷ notes) less more t =
    with_both id.0 (flat_map begun_in notes ++ less) (flat_map drawn_in notes ++ more) (thin_notes notes less more t)
thin_notes (RecoverNote id ballot ∷ notes) less more t =
    with_more ballot.0 (flat_map begun_in notes ++ less) (flat_map drawn_in notes ++ more) (thin_notes notes less more t)
thin_notes (Blocked id ballot by ∷ notes) less more t = thin_notes notes less more t
thin_notes (Ended id ballot by ∷ notes) less more t = thin_notes notes less more t
thin_notes (Decide id t path deps ∷ notes) less more h = thin_notes notes less more h
thin_notes (OutcomeNote id reply ∷ notes) less more t = thin_notes notes less more t
thin_notes (ReplyNote id reply ∷ notes) less more t = thin_notes notes less more t

thin_items : (items : List Item) → Thin (begun_of items) (drawn_of items)
thin_items [] = record { within = λ s there. there; apart = λ d. tt }
thin_items (item ∷ earlier) = thin_notes (noted_in item) (begun_of earlier) (drawn_of earlier) (thin_items earlier)

-- ---- each has its reply

record Begun (items : List Item) (s : Stamp) : Type 0 where
  note : Note
  there : IsIn note (notes_of items)
  begun : IsIn s (begun_in note)

begun_noted : (items : List Item) (s : Stamp) → IsIn s (begun_of items) → Begun items s
begun_noted [] s there = absurd (none_is_in s there)
begun_noted (item ∷ earlier) s there =
    by (IsIn-append_cases s (flat_map begun_in (noted_in item)) (begun_of earlier) there) (λ before. begun_noted earlier s before)
  where
    by : IsIn s (flat_map begun_in (noted_in item)) ⊎ IsIn s (begun_of earlier) → (IsIn s (begun_of earlier) → Begun earlier s) → Begun (item ∷ earlier) s
    by (inl here) rest =
        let found : FromList begun_in s (noted_in item) = IsIn-flat_map begun_in s (noted_in item) here in
        record { note = found.source; there = IsIn-append_right found.source (notes_of earlier) (noted_in item) found.there; begun = found.within }
    by (inr before) rest =
        let found : Begun earlier s = rest before in
        record { note = found.note; there = IsIn-append_left found.note (notes_of earlier) (noted_in item) found.there; begun = found.begun }

abbrev of_stamp : Stamp → TxnId
of_stamp s = record { 0 = s }

begins_it : (note : Note) (s : Stamp) → IsIn s (begun_in note) → begins (of_stamp s) note ≡ true
begins_it (BeginNote id) s there = (stamp_eq-Decides id.0 s).1 (sym (only s id.0 there))
begins_it (RecoverNote id ballot) s there = absurd (none_is_in s there)
begins_it (Blocked id ballot by) s there = absurd (none_is_in s there)
begins_it (Ended id ballot by) s there = absurd (none_is_in s there)
begins_it (Decide id t path deps) s there = absurd (none_is_in s there)
begins_it (OutcomeNote id reply) s there = absurd (none_is_in s there)
begins_it (ReplyNote id reply) s there = absurd (none_is_in s there)

replies_it : (note : Note) (s : Stamp) → replies (of_stamp s) note ≡ true → IsIn s (replied_in note)
replies_it (BeginNote id) s is = absurd (true≢false (sym is))
replies_it (RecoverNote id ballot) s is = absurd (true≢false (sym is))
replies_it (Blocked id ballot by) s is = absurd (true≢false (sym is))
replies_it (Ended id ballot by) s is = absurd (true≢false (sym is))
replies_it (Decide id t path deps) s is = absurd (true≢false (sym is))
replies_it (OutcomeNote id reply) s is = absurd (true≢false (sym is))
replies_it (ReplyNote id reply) s is = subst (λ z. IsIn z (id.0 ∷ [])) ((stamp_eq-Decides id.0 s).0 is) (First id.0 [])

has_reply : (items : List Item) → EachBegunIsAnswered items → (s : Stamp) → IsIn s (begun_of items) → IsIn s (flat_map replied_in (notes_of items))
has_reply items answered s there =
    let found : Begun items s = begun_noted items s there in
    let reply : Passing (replies (of_stamp s)) (notes_of items) =
    passing (replies (of_stamp s)) (notes_of items)
    (answered (of_stamp s) (any_from (begins (of_stamp s)) found.note (notes_of items) found.there (begins_it found.note s found.begun))) in
    flat_map-IsIn replied_in s reply.element (notes_of items) reply.there (replies_it reply.element s reply.passes)

-- ---- counts

counted : (f : Note → List Stamp) (p : Note → Bool) → ((note : Note) → length (f note) ≡ one_if (p note)) → (notes : List Note)
    → length (flat_map f notes) ≡ count_by p notes
counted f p each [] = refl
counted f p each (note ∷ notes) =
    omega (arith, length-append (f note) (flat_map f notes), count_by-cons p note notes, each note, counted f p each notes)

one_begun : (note : Note) → length (begun_in note) ≡ one_if (is_begin note)
one_begun (BeginNote id) = refl
one_begun (RecoverNote id ballot) = refl
one_begun (Blocked id ballot by) = refl
one_begun (Ended id ballot by) = refl
one_begun (Decide id t path deps) = refl
one_begun (OutcomeNote id reply) = refl
one_begun (ReplyNote id reply) = refl

one_replied : (note : Note) → length (replied_in note) ≡ one_if (is_reply note)
one_replied (BeginNote id) = refl
one_replied (RecoverNote id ballot) = refl
one_replied (Blocked id ballot by) = refl
one_replied (Ended id ballot by) = refl
one_replied (Decide id t path deps) = refl
one_replied (OutcomeNote id reply) = refl
one_replied (ReplyNote id reply) = refl

count_append : (p : Note → Bool) (notes more : List Note) → count_by p (notes ++ more) ≡ count_by p notes + count_by p more
count_append p notes more = sum_by-append (λ note. one_if (p note)) notes more

begun_counted : (items : List Item) → length (begun_of items) ≡ count_by is_begin (notes_of items)
begun_counted [] = refl
begun_counted (item ∷ earlier) =
    omega (
      arith,
      length-append (flat_map begun_in (noted_in item)) (begun_of earlier),
      counted begun_in is_begin one_begun (noted_in item),
      count_append is_begin (notes_of earlier) (noted_in item),
      begun_counted earlier,
    )

-- ---- none is open

pub none_is_open : (cluster : Cluster) (items : List Item) → EachStands cluster items → EachBegunIsAnswered items
    → last_line (notes_of items) ≡ End (count_by is_begin (notes_of items)) (count_by is_reply (notes_of items)) 0
none_is_open cluster items stands answered =
    let few : length (begun_of items) ≤ length (flat_map replied_in (notes_of items)) =
    fits (begun_of items) (flat_map replied_in (notes_of items)) ((thin_items items).apart (distinct_draws cluster items stands))
    (has_reply items answered) in
    let none : count_by is_begin (notes_of items) - count_by is_reply (notes_of items) ≡ 0 =
    omega (arith, few, begun_counted items, counted replied_in is_reply one_replied (notes_of items)) in
    ap (λ more. End (count_by is_begin (notes_of items)) (count_by is_reply (notes_of items)) more) none
