-- A step of the world, by the ask that it was.
use Rattle.std.proofs.Common.{◌≡◌, List, Some, Result, Ok, Err, IfOk, IfErr, OnErr, sym, ◌∙◌, ap, subst}
use Rattle.acc_message.specs.declared.entry.Entry.{Entry}
use Rattle.acc_message.specs.declared.item.Item.{Item}
use Rattle.acc_message.specs.declared.item.Skip.{Skip}
use Rattle.acc_message.specs.Run.{Cluster}
use Rattle.acc_run_laws.specs.declared.ask.Ask.{Ask}
use Rattle.acc_run_laws.specs.Asks.{skip_of}
use Rattle.acc_run_laws.specs.AskLaws.{IsAskOf}
use Rattle.acc_world.specs.declared.error.WorldError.{WorldError}
use Rattle.acc_world.specs.declared.error.WorldError.TheVariants.{Skip as SkipError, OutOfMemory}
use Rattle.acc_world.specs.declared.world.World.{World}
use Rattle.acc_world.specs.Held.{cluster_of}
use Rattle.acc_world.specs.Stands.{Stands, StandsFor}
use Rattle.acc_world.specs.Steps.{HasPlace, IsAsked, IsAnswered, Steps, Skips, IsSkip}
use Rattle.acc_world.proofs.Asks.{steps}

abbrev Told : World → World → Ask → Entry → Type 0
Told old new ask entry = (cluster : Cluster) (items : List Item) → StandsFor old cluster items → HasPlace items → IsAskOf cluster ask → Steps old new cluster items ask entry

-- what is asked of any name of the cluster
asked : (w : World) (cluster : Cluster) (items : List Item) (ask : Ask) → StandsFor w cluster items → HasPlace items → IsAskOf cluster ask → IsAsked w items ask
asked w cluster items ask s place known = record { stands = s.stands; place = place; known = subst (λ k. IsAskOf k ask) (sym s.cluster_is) known }

pub told : (old new : World) (r : Result Entry WorldError) (ask is : Ask) → ask ≡ is → new.setup ≡ old.setup → IfOk r (IsAnswered old new is) → IfOk r (Told old new ask)
told old new (Ok entry) ask is e same h = λ cluster items s place known.
    steps old new cluster items ask entry same s (subst (λ x. IsAnswered old new x entry) (sym e) h items (asked old cluster items ask s place known))
told old new (Err error) ask is e same h = tt

abbrev Passed : World → Ask → Skip → Type 0
Passed old ask cause = (cluster : Cluster) (items : List Item) → StandsFor old cluster items → HasPlace items → IsAskOf cluster ask → skip_of cluster items ask ≡ Some cause

pub passed : (old : World) (r : Result Entry WorldError) (ask is : Ask) → ask ≡ is → IfErr r (IsSkip (λ cause. Skips old is cause)) → IfErr r (IsSkip (λ cause. Passed old ask cause))
passed old (Ok entry) ask is e h = tt
passed old (Err OutOfMemory) ask is e h = tt
passed old (Err (SkipError cause)) ask is e h = λ cluster items s place known.
    subst (λ k. skip_of k items ask ≡ Some cause) s.cluster_is (subst (λ x. Skips old x cause) (sym e) h items (asked old cluster items ask s place known))

pub still_for : (old new : World) (r : Result Entry WorldError) → new.setup ≡ old.setup → OnErr r ((items : List Item) → Stands old items → Stands new items)
    → OnErr r ((cluster : Cluster) (items : List Item) → StandsFor old cluster items → StandsFor new cluster items)
still_for old new (Ok entry) same h = tt
still_for old new (Err error) same h = λ cluster items s. record { cluster_is = ap cluster_of same ∙ s.cluster_is; stands = h items s.stands }
