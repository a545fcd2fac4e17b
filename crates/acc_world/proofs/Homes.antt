-- The homes of transactions.
use Rattle.std.proofs.Common.{◌≡◌, ◌<◌, ◌≤◌, ℕ, zero, suc, List, [], ◌∷◌, None, Some, IsTrue, length, sym, ◌∙◌, ap, subst}
use Rattle.std.specs.List.{slice_get, slice_index_or, AllByRecursion}
use Rattle.std.specs.Option.{option_map}
use Rattle.std.proofs.lemmas.Option.{slice_get_past}
use Rattle.acc_stamp.specs.declared.actors.Actor.{Actor}
use Rattle.acc_stamp.specs.Actor.{actor_of}
use Rattle.acc_topology.specs.Sets.{is_among}
use Rattle.acc_actor_laws.proofs.Standing.{not_none}
use Rattle.acc_actor_laws.proofs.OpeningFacts.{some_is}
use Rattle.acc_safety.specs.Valid.{IsValidCluster}
use Rattle.acc_run_laws.proofs.Addresses.{node_low}
use Rattle.acc_world.specs.declared.setup.Setup.{Setup}
use Rattle.acc_world.specs.Held.{cluster_of}
use Rattle.acc_world.proofs.Acting.{read_is}

pub each_got : {T : Type 0} (P : T → Type 0) (xs : List T) (i : ℕ) (x : T) → AllByRecursion P xs → slice_get xs i ≡ Some x → P x
each_got P [] i x all is = absurd (not_none x is)
each_got P (y ∷ ys) zero x all is = subst P (some_is y x is) all.0
each_got P (y ∷ ys) (suc i) x all is = each_got P ys i x all.1 is

module _ (setup : Setup) where
  pub home_low : IsValidCluster (cluster_of setup) → (read : List ℕ) (txn node : ℕ) → read ≡ setup.homes → txn < length read → node ≡ slice_index_or read txn node → node ≤ 15
  home_low valid read txn node same less is =
      node_low setup.topology node valid.layout
      (each_got (λ home. IsTrue (is_among setup.topology.nodes home)) setup.homes txn node valid.homes (read_is read setup.homes txn node same less is))

  pub home_is : (read : List ℕ) (txn node : ℕ) → read ≡ setup.homes → txn < length read → node ≡ slice_index_or read txn node → (a : Actor) → a ≡ actor_of node 0
      → Some a ≡ option_map (λ home. actor_of home 0) (slice_get setup.homes txn)
  home_is read txn node same less is a at =
      ap Some at ∙ sym (ap (option_map (λ home. actor_of home 0)) (read_is read setup.homes txn node same less is))

  pub no_home : (read : List ℕ) (txn : ℕ) → read ≡ setup.homes → length read ≤ txn → None ≡ option_map (λ home. actor_of home 0) (slice_get setup.homes txn)
  no_home read txn same past = sym (ap (option_map (λ home. actor_of home 0)) (subst (λ l. slice_get l txn ≡ None) same (slice_get_past read txn past)))
