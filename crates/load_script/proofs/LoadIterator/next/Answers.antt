-- `next` of a `Load` meets its contract: a record less is left. Assumes nothing.
use Rattle.std.proofs.Common.{◌<◌, arith, rules}
use Rattle.load_script.specs.Loads.{size}
use Rattle.load_script.proofs.Sizes.{size-rest}
use Rattle.load_script.proofs.LoadIterator.next.Goals as goal

pub returns-clause-goes : goal.returns-clause-goes
returns-clause-goes c =
    let fewer : size c.hand_out.new.self < size c.args.self.now =
    rw c.hand_out.ensures.load (omega (arith, size-rest c.args.self.now)) in
    search (rules, fewer)
