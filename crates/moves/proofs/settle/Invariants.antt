-- The loop of `moves::settle`: what is logged, and then what settling gives from here, is what it gave at the start. Assumes nothing.
use Rattle.std.proofs.Common.{min}
use Rattle.moves.proofs.SettleLoop.{Going}
use Rattle.moves.proofs.settle.Given as goal

abbrev pub invariant-loop-left : goal.invariant-loop-left
invariant-loop-left l = Going l.slice (min l.n 128) l.initial.left l.initial.table l.initial.idle l.table l.log l.idle l.count l.left

abbrev pub decreases-loop-left : goal.decreases-loop-left
decreases-loop-left l = l.left
