-- Agreement is decided by a test of each two decisions.
use Rattle.std.proofs.Common.{◌≡◌, ◌≢◌, Bool, true, not, cond, List, refl, sym, ◌∙◌, ap}
use Rattle.std.specs.List.{list_all}
use Rattle.std.proofs.lemmas.Bool.{true≢false, false_from_ne_true, cond_both}
use Rattle.acc_stamp.specs.Stamp.{stamp_eq, id_eq}
use Rattle.acc_stamp.proofs.Order.{stamp_order, id_order}
use Rattle.acc_message.specs.declared.item.Item.{Item}
use Rattle.acc_message.specs.Items.{notes_of}
use Rattle.acc_safety.specs.Decisions.{Decision, decisions_of}
use Rattle.acc_safety.specs.Agreement.{Agrees, Agreement}
use Rattle.acc_examples.specs.Refusals.{HoldsOfEach, HoldsOfNone}
use Rattle.acc_examples.specs.DecidedOnce.{agreeing, disagreeing}
use Rattle.acc_examples.proofs.Tested.{all_sound, all_complete, each_by, none_by}

abbrev agree : Decision → Decision → Bool
agree a b = cond (id_eq a.id b.id) (stamp_eq a.t b.t) (not (stamp_eq a.t b.t))

abbrev pub all_agree : List Decision → Bool
all_agree ds = list_all (λ a. list_all (agree a) ds) ds

agree-sound : (a b : Decision) → agree a b ≡ true → Agrees a b
agree-sound a b h = record { same = same; different = different }
  where
    same : a.id ≡ b.id → a.t ≡ b.t
    same e =
        (stamp_order.decides a.t b.t).0
        (sym (ap (λ c. cond c (stamp_eq a.t b.t) (not (stamp_eq a.t b.t))) ((id_order.decides a.id b.id).1 e)) ∙ h)

    different : a.id ≢ b.id → a.t ≢ b.t
    different n e =
        true≢false (sym h
        ∙ ap (λ c. cond c (stamp_eq a.t b.t) (not (stamp_eq a.t b.t))) (false_from_ne_true (id_eq a.id b.id) (λ k. n ((id_order.decides a.id b.id).0 k)))
        ∙ ap not ((stamp_order.decides a.t b.t).1 e))

agree-complete : (a b : Decision) → Agrees a b → agree a b ≡ true
agree-complete a b h =
    cond_both (id_eq a.id b.id) (stamp_eq a.t b.t) (not (stamp_eq a.t b.t)) (λ r. r ≡ true)
    (λ is. (stamp_order.decides a.t b.t).1 (h.same ((id_order.decides a.id b.id).0 is)))
    (λ isnt. ap not (false_from_ne_true (stamp_eq a.t b.t)
    (λ k. h.different (λ e. true≢false (sym ((id_order.decides a.id b.id).1 e) ∙ isnt)) ((stamp_order.decides a.t b.t).0 k))))

abbrev pub agreement_test : List Item → Bool
agreement_test items = all_agree (decisions_of (notes_of items))

pub agreement-sound : (items : List Item) → agreement_test items ≡ true → Agreement items
agreement-sound items h a b a_in b_in =
    let ds : List Decision = decisions_of (notes_of items) in
    agree-sound a b (all_sound (agree a) ds b (all_sound (λ c. list_all (agree c) ds) ds a h a_in) b_in)

agreement-complete : (items : List Item) → Agreement items → agreement_test items ≡ true
agreement-complete items h =
    let ds : List Decision = decisions_of (notes_of items) in
    all_complete (λ c. list_all (agree c) ds) ds (λ a a_in. all_complete (agree a) ds (λ b b_in. agree-complete a b (h a b a_in b_in)))

-- ---- the examples

pub agreeing-hold : HoldsOfEach Agreement agreeing
agreeing-hold = each_by agreement_test Agreement agreement-sound agreeing refl

pub disagreeing-refused : HoldsOfNone Agreement disagreeing
disagreeing-refused = none_by agreement_test Agreement agreement-complete disagreeing refl
