-- What `moves::make_move` leaves to show. Assumes nothing.
use Rattle.std.proofs.Common.{ℕ, ◌≤◌, ◌<◌, refl, sym, subst, add-one, arith}
use Rattle.moves.specs.DecideLaws.{run_fits, preempt-beaten}
use Rattle.moves.specs.Table.{tabled}
use Rattle.moves.specs.TableWrites.{dispatched_in, left_in}
use Rattle.moves.specs.SettlingLaws.{settled-run, settled-preempt, settled-rest}
use Rattle.moves.proofs.IdleSets.{leaves}
use Rattle.moves.proofs.make_move.Goals as goal
use Rattle.moves.proofs.make_move.Goals.{In-Run, In-Preempt}

-- whoever is dispatched is a slot of the table, and goes onto a pCPU of the word
run : (c : In-Run) → (c.in-Run.at < 128) × (c.in-Run.pcpu < 64)
run c = let f = run_fits _ _ _ _ (sym c.in-Run.ensures) in (omega (arith, f.0), f.1.word)

-- so is whoever is preempted
off : (c : In-Preempt) → c.in-Preempt.at < 128
off c = omega (arith, (preempt-beaten _ _ _ _ (sym c.in-Preempt.ensures)).below)

pub offset_bounds-table-at : goal.offset_bounds-table-at
offset_bounds-table-at c = record { fits = omega (arith, run c) }

pub bounds-table-at : goal.bounds-table-at
bounds-table-at c = (run c).0

pub overflow_sub-idle : goal.overflow_sub-idle
unfolding tabled
overflow_sub-idle c =
    let f = run_fits _ _ _ _ (sym c.in-Run.ensures) in
    let idle = c.args.idle.now in
    subst (λ (b : ℕ). b ≤ idle) (sym c.pcpu_bit.ensures) (leaves idle c.in-Run.pcpu f.1.idle)

pub returns-in-Run-clause-table : goal.returns-in-Run-clause-table
unfolding dispatched_in
returns-in-Run-clause-table c = rw c.dispatch.ensures refl

pub returns-in-Run-clause-within : goal.returns-in-Run-clause-within
returns-in-Run-clause-within c = run (goal.at.returns-in-Run-clause-within c).In-Run

pub returns-in-Run-clause-next : goal.returns-in-Run-clause-next
unfolding dispatched_in
returns-in-Run-clause-next c = λ k. rw (add-one, c.pcpu_bit.ensures, c.dispatch.ensures) (settled-run _ _ k _ _ _ _ (sym c.in-Run.ensures))

pub offset_bounds-table-at-in-Preempt : goal.offset_bounds-table-at-in-Preempt
offset_bounds-table-at-in-Preempt c = record { fits = omega (arith, off c) }

pub bounds-table-at-in-Preempt : goal.bounds-table-at-in-Preempt
bounds-table-at-in-Preempt c = off c

pub returns-in-Preempt-clause-table : goal.returns-in-Preempt-clause-table
unfolding left_in
returns-in-Preempt-clause-table c = rw c.leave.ensures refl

pub returns-in-Preempt-clause-within : goal.returns-in-Preempt-clause-within
returns-in-Preempt-clause-within c = (off (goal.at.returns-in-Preempt-clause-within c).In-Preempt, omega arith)

pub returns-in-Preempt-clause-next : goal.returns-in-Preempt-clause-next
unfolding left_in
returns-in-Preempt-clause-next c = λ k. rw (add-one, c.with_pcpu.ensures, c.leave.ensures) (settled-preempt _ _ k _ _ _ _ (sym c.in-Preempt.ensures))

pub returns-in-Rest-clause-next : goal.returns-in-Rest-clause-next
returns-in-Rest-clause-next c = λ k. rw add-one (settled-rest _ _ k _ _ (sym c.in-Rest.ensures))
