use Rattle.acc_world.proofs.laws.calm.Goals as goal

pub returns : goal.returns
returns c = c.calm.ensures _ _ c.requires.valid c.requires.run c.requires.calm
