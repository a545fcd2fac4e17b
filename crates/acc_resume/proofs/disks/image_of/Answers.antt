-- The first of these that is the actor's, or none.
use Rattle.std.proofs.Common.{◌≡◌, true, false, Some, refl, sym, ◌∙◌, ap, subst}
use Rattle.acc_stamp.specs.Actor.{actor_eq}
use Rattle.acc_left.specs.declared.image.Image.{Image}
use Rattle.acc_resume.proofs.Found.{found_at, none_up_to, none_at_all}
use Rattle.acc_resume.proofs.disks.image_of.Goals as goal

pub returns-then-eq : goal.returns-then-eq
returns-then-eq c =
    let x : Image = c.image-item.result in
    let at = c.image-item.is in
    let is : actor_eq x.actor c.args.actor ≡ true = sym c.if-eq.ensures in
    ap (λ (image : Image). Some image) at
    ∙ found_at (λ (image : Image). actor_eq image.actor c.args.actor) c.args.images.now c.args.images.now c.loop-image.image-index x refl c.loop-image-test.true c.loop-image.invariant
    (subst (λ (image : Image). actor_eq image.actor c.args.actor ≡ true) at is)

pub loop-image-preserved : goal.loop-image-preserved
loop-image-preserved c =
    let x : Image = c.image-item.result in
    let is : actor_eq x.actor c.args.actor ≡ false = sym c.if-eq.ensures in
    none_up_to (λ (image : Image). actor_eq image.actor c.args.actor) c.args.images.now c.loop-image.image-index x c.loop-image-test.true c.loop-image.invariant
    (subst (λ (image : Image). actor_eq image.actor c.args.actor ≡ false) c.image-item.is is)

pub returns : goal.returns
returns c =
    none_at_all (λ (image : Image). actor_eq image.actor c.args.actor) c.args.images.now c.args.images.now c.loop-image.image-index refl c.loop-image-test.false c.loop-image.invariant
