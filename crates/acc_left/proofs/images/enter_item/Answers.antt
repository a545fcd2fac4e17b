use Rattle.std.proofs.Common.{◌≡◌, ◌+◌, ◌<◌, ◌≤◌, false, List, length, get_or, set, sym, ap, subst, ◌∙◌, arith}
use Rattle.std.proofs.lemmas.Bool.{true≢false, eq-eqb, eqb-true, ne_eqb}
use Rattle.acc_stamp.specs.declared.actors.Actor.{Actor}
use Rattle.acc_message.specs.declared.entry.Entry.{Entry}
use Rattle.acc_message.specs.Items.{same_actor}
use Rattle.acc_left.specs.declared.image.Image.{Image}
use Rattle.acc_left.proofs.ItemFacts.{all_entered, other_entered, own_entered, shown_step, AreEnteredUpTo}
use Rattle.acc_left.proofs.images.enter_item.Goals.{then-eq+in_ok-enter, else-eq}
use Rattle.acc_left.proofs.images.enter_item.Goals as goal

pub loop-image-preserved : goal.loop-image-preserved
loop-image-preserved c = λ entered item actors tells here are.
    let x : Image = c.image-item.result in
    let i = c.loop-image.image-index in
    let now = c.loop-image.images in
    let at : x ≡ get_or now i x = c.image-item.is in
    let whose : x.actor ≡ (get_or now i x).actor = ap (λ (image : Image). image.actor) at in
    let long = c.loop-image.auto.images in
    let test = c.loop-image-test.true in
    let within : i < length now = omega (arith, long, test) in
    let e : Entry = record { actor = c.in-Step.actor; lost = c.in-Step.lost; event = c.in-Step.event; emitted = record { notes = c.in-Step.notes.now; out = c.shown.ensures.0 } } in
    let step = shown_step c.args.items.now c.args.place item c.shown.result c.shown.ensures.0 c.in-Step.actor c.in-Step.lost c.in-Step.event c.in-Step.notes c.shown.ensures.1 here c.in-Step.is in
    let before = c.loop-image.invariant entered item actors tells here are in
    elim c.if-eq.branch [
      | then-eq+in_ok-enter w ↦
          let number : (get_or now i x).actor.0 ≡ c.in-Step.actor.0 = eqb-true (get_or now i x).actor.0 c.in-Step.actor.0 (sym w.if-eq.ensures) in
          let one : c.in-Step.actor ≡ (get_or now i x).actor = λ k. record { 0 = sym number k } in
          let x' : Image = record { actor = (get_or now i x).actor; bytes = w.enter.new.journal } in
          subst (λ (l : List Image). AreEnteredUpTo c.args.version entered item actors (i + 1) l) (sym w.images-is)
          (own_entered c.args.version entered item e actors now i x x' step within before at (one ∙ sym whose) (sym whose)
          (λ payloads is. w.in_ok-enter.ensures entered payloads tells (ap (λ (image : Image). image.bytes) (sym at) ∙ is)))
      | else-eq w ↦
          let differs : same_actor c.in-Step.actor x.actor ≡ false =
          ne_eqb c.in-Step.actor.0 x.actor.0
          (λ same.
          true≢false (sym (eq-eqb (get_or now i x).actor.0 c.in-Step.actor.0 (ap (λ (a : Actor). a.0) (sym whose) ∙ sym same)) ∙ sym w.if-eq.ensures)) in
          subst (λ (l : List Image). AreEnteredUpTo c.args.version entered item actors (i + 1) l) (ap (set now i) at ∙ sym w.images-is)
          (other_entered c.args.version entered item e actors now i x step within before at differs)
    ]

pub returns : goal.returns
returns c = λ entered item actors tells here are.
    let long = c.loop-image.auto.images in
    let test = c.loop-image-test.false in
    let all : length c.loop-image.images ≤ c.loop-image.image-index = omega (arith, long, test) in
    all_entered c.args.version entered item actors c.loop-image.images c.loop-image.image-index all (c.loop-image.invariant entered item actors tells here are)
