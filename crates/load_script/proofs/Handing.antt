-- What is handed out, one record or a stretch, and what is left of the load make its script. Assumes nothing.
use Prim.Native.Nat.{ℕ}
use mathlib.Core.Path.{sym, ap}
use native.Mathlib.Omega.{arith}
use borrow.Author.Tests.{eq-eqb, ne_eqb}
use Rattle.load_script.specs.Loads.{size, load_after, stretch, fitting}
use Rattle.load_script.specs.LoadLaws.{OverIsOver, NextIsTheFirst, NextThenTheRest, FilledThenTheRest, WrittenAsLong}
use Rattle.load_script.proofs.Sizes.{stretch-length}
use Rattle.load_script.proofs.Stretches.{script_splits}

pub over : OverIsOver
unfolding stretch
over l e = (rw (eq-eqb (size l) 0 e), ap (λ (n : ℕ). stretch n l) e)

pub next-is : NextIsTheFirst
unfolding load_after
next-is l h = rw (ne_eqb (size l) 0 (λ e. omega arith))

pub next-then : NextThenTheRest
unfolding stretch
next-then l h = script_splits 1 l (omega arith)

pub fill-then : FilledThenTheRest
fill-then l out = script_splits (fitting l out) l (omega arith)

pub fill-written : WrittenAsLong
fill-written l out = sym (stretch-length (fitting l out) l)
