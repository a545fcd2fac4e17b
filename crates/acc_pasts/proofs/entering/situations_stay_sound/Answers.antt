use Rattle.acc_pasts.proofs.Sound.{sound_skip, sound_down, sound_entered, sound_stopped, sound_reopened, sound_kept}
use Rattle.acc_pasts.proofs.entering.situations_stay_sound.Goals as goal

pub returns-clause-skipped : goal.returns-clause-skipped
returns-clause-skipped c = sound_skip

pub returns-clause-down : goal.returns-clause-down
returns-clause-down c = sound_down

pub returns-clause-entry : goal.returns-clause-entry
returns-clause-entry c = sound_entered

pub returns-clause-stopped : goal.returns-clause-stopped
returns-clause-stopped c = sound_stopped

pub returns-clause-reopened : goal.returns-clause-reopened
returns-clause-reopened c = sound_reopened

pub returns-clause-kept : goal.returns-clause-kept
returns-clause-kept c = sound_kept
