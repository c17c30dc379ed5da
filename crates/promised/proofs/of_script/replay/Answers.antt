-- `promised::of_script::replay` meets its contract. Assumes nothing.
use Rattle.page.proofs.Laws.{replayed-is}
use Rattle.promised.proofs.of_script.replay.Goals as goal

pub returns : goal.returns
returns c =
    let e = replayed-is _ _ _ _ _ _ _ c.replay.ensures in
    record { script = e.script; handed_back = e.handed_back; bytes_after = e.bytes_after }
