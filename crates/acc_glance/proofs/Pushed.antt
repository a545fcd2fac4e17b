-- Looks that are not settled yet, and lists that grow together.
use Rattle.std.proofs.Common.{◌≡◌, ℕ, List, [], ◌∷◌, ◌++◌, map, Option, Some, None, refl, sym, ◌∙◌, ap, arith}
use Rattle.acc_value.specs.declared.key.Key.{Key}
use Rattle.acc_message.specs.declared.item.Item.{Item}
use Rattle.acc_message.specs.Run.{Cluster}
use Rattle.acc_glance.specs.declared.sights.Finding.{Finding}
use Rattle.acc_glance.specs.declared.stages.Stage.{Stage}
use Rattle.acc_glance.specs.declared.stages.Stage.TheVariants.{Waiting, Visiting, Read, Open}
use Rattle.acc_glance.specs.Sights.{IsSettled, SettledBelow}

pub map_push : {X Z : Type 0} (f : X → Z) (xs : List X) (x : X) → map f (xs ++ x ∷ []) ≡ map f xs ++ f x ∷ []
map_push f [] x = refl
map_push f (z ∷ zs) x = ap (λ l. f z ∷ l) (map_push f zs x)

pub both_push : {X Y Z : Type 0} (f : X → Z) (g : Y → Z) (xs all : List X) (x : X) (ys : List Y) (y : Y) → all ≡ xs ++ x ∷ [] → map f xs ≡ map g ys → f x ≡ g y
    → map f all ≡ map g (ys ++ y ∷ [])
both_push f g xs all x ys y is so_far same =
    ap (map f) is ∙ map_push f xs x ∙ ap (λ l. l ++ f x ∷ []) so_far ∙ ap (λ z. map g ys ++ z ∷ []) same ∙ sym (map_push g ys y)

none_below : (cluster : Cluster) (items : List Item) (key : Key) (stage : Stage) (at : Option ℕ) → at ≡ None → SettledBelow cluster items 0 key stage at
none_below cluster items key (Read from to cell) None is = λ n since less shows. absurd (omega (arith, less))
none_below cluster items key (Read from to cell) (Some at) is = absurd cc
none_below cluster items key Waiting at is = tt
none_below cluster items key (Visiting course) at is = tt
none_below cluster items key (Open from) at is = tt

pub not_settled : (cluster : Cluster) (items : List Item) (finding : Finding) → finding.at ≡ None → IsSettled cluster items 0 finding
not_settled cluster items finding is = none_below cluster items finding.look.key finding.stage finding.at is
