-- What is to be done with a command.
use Rattle.std.proofs.Common.{◌≡◌, ◌⊎◌, ℕ, Bool, true, false, List, refl, sym, ◌∙◌, ap, subst, inl, inr}
use Rattle.std.proofs.lemmas.Bool.{true≢false}
use Rattle.acc_stamp.specs.declared.actors.Actor.{Actor}
use Rattle.acc_message.specs.declared.item.Item.{Item}
use Rattle.acc_message.specs.Items.{is_begun}
use Rattle.acc_message.specs.Run.{Cluster as RunCluster, is_down}
use Rattle.acc_schedule.specs.declared.plan.Step.{Step}
use Rattle.acc_schedule.specs.declared.plan.Step.TheVariants.{Begin, Deliver, Drop, Recover, Slow, Fail, Drain}
use Rattle.acc_free_laws.specs.Commands.{is_command_of}
use Rattle.acc_free_ending.specs.declared.command.Turn.{Turn}
use Rattle.acc_free_ending.specs.declared.command.Turn.TheVariants.{Takes, Passes, Waits}
use Rattle.acc_free_ending.specs.Moves.{IsTurn}

module _ (a : Actor) (items : List Item) where
  pub begin_down : (txn : ℕ) (down : Bool) → down ≡ is_down a items → down ≡ true → IsTurn Passes a items (Begin txn)
  begin_down txn down told is = inl (sym told ∙ is, refl)

  pub begin_again : (txn : ℕ) (begun : Bool) → begun ≡ is_begun items txn → begun ≡ true → IsTurn Passes a items (Begin txn)
  begin_again txn begun told is = inr (sym told ∙ is)

  pub begin_ready : (txn : ℕ) (down begun : Bool) → down ≡ is_down a items → down ≡ false → begun ≡ is_begun items txn → begun ≡ false → IsTurn Takes a items (Begin txn)
  begin_ready txn down begun told up told_too new = (sym told ∙ up, sym told_too ∙ new)

  pub recover_down : (txn node : ℕ) (down : Bool) → down ≡ is_down a items → down ≡ true → IsTurn Passes a items (Recover txn node)
  recover_down txn node down told is = inl (sym told ∙ is, refl)

  pub recover_ready : (txn node : ℕ) (down begun : Bool) → down ≡ is_down a items → down ≡ false → begun ≡ is_begun items txn → begun ≡ true → IsTurn Takes a items (Recover txn node)
  recover_ready txn node down begun told up told_too is = (sym told ∙ up, sym told_too ∙ is)

  pub recover_waits : (txn node : ℕ) (begun : Bool) → begun ≡ is_begun items txn → begun ≡ false → IsTurn Waits a items (Recover txn node)
  recover_waits txn node begun told new = λ left. sym told ∙ new

  -- a command, by which it is
  pub turned : (turn : Turn) (command is : Step) → command ≡ is → IsTurn turn a items is → IsTurn turn a items command
  turned turn command is same h = subst (IsTurn turn a items) (sym same) h

  pub never : (cluster : RunCluster) (turn : Turn) (command is : Step) → command ≡ is → is_command_of cluster a command ≡ true → is_command_of cluster a is ≡ false → IsTurn turn a items command
  never cluster turn command is same own other = absurd (true≢false (sym own ∙ ap (is_command_of cluster a) same ∙ other))

  -- a step that nobody takes by himself
  pub never_any : (cluster : RunCluster) (turn : Turn) (command : Step) → is_command_of cluster a command ≡ true
      → ((number : ℕ) × (command ≡ Deliver number))
      ⊎ (((number : ℕ) × (command ≡ Drop number))
      ⊎ (((txn : ℕ) × (command ≡ Slow txn))
      ⊎ (((actor : Actor) × (calls : ℕ) × (command ≡ Fail actor calls))
      ⊎ (command ≡ Drain))))
      → IsTurn turn a items command
  never_any cluster turn command own (inl h) = never cluster turn command (Deliver h.0) h.1 own refl
  never_any cluster turn command own (inr (inl h)) = never cluster turn command (Drop h.0) h.1 own refl
  never_any cluster turn command own (inr (inr (inl h))) = never cluster turn command (Slow h.0) h.1 own refl
  never_any cluster turn command own (inr (inr (inr (inl h)))) = never cluster turn command (Fail h.0 h.1) h.2 own refl
  never_any cluster turn command own (inr (inr (inr (inr h)))) = never cluster turn command Drain h own refl
