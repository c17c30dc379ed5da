-- `promised::of_sched::effect_of` meets its contract. Assumes nothing.
use Rattle.page.proofs.Laws.{effect_does}
use Rattle.promised.proofs.of_sched.effect_of.Goals as goal

pub returns : goal.returns
returns c = effect_does _ _ _ _ _ _ _ c.effect_of.ensures
