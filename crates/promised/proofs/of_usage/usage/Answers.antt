-- `promised::of_usage::usage` meets its contract. Assumes nothing.
use Rattle.page.proofs.Laws.{usage-is, whole_is}
use Rattle.promised.proofs.of_usage.usage.Goals as goal

pub returns : goal.returns
returns c =
    let e = whole_is _ _ _ c.usage.ensures.held c.usage.ensures.exact (usage-is _ _ _) in
    record { limbs = e.0; exact = e.1 }
