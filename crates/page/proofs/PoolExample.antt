-- A pool list in the page's words, at which demand 3's bound on the lag is attained: its hypotheses can be met. Assumes nothing.
use Prim.Native.Nat.{ℕ, ◌+◌, ◌-◌, ◌*◌, ◌≤◌}
use mathlib.Core.List.{List, [], ◌∷◌, ◌++◌}
use mathlib.Core.Path.{◌≡◌, refl}
use native.Mathlib.Omega.{arith}
use Rattle.rows.specs.Rows.{Row, row, rows, AllDue}
use Rattle.host.specs.declared.Host.{Host}
use Rattle.calls.specs.declared.Call.{Call}
use Rattle.calls.specs.Asked as call
use Rattle.page.specs.Book as book
use Rattle.page.specs.Steps.{step}
use Rattle.page.specs.Lists as lists
use Rattle.page.specs.Lists.{Fresh, AllTyped, PoolList, PoolFrom, PoolRest, Prepares, Departs}
use Rattle.page.specs.Lists.{host_after, book_after, service_of, weight_after}
use Rattle.page.proofs.Demand3.{demand_3}
use Rattle.page.proofs.SituationHosts.{computing}

-- two on one pCPU, slice 10
abbrev two : Fresh
two = record { shape = record { domains = 1; vcpus = 2; pcpus = 1 }; domains = 1; vcpus = 2; slice = 10 }

-- advances at 0 and 9, when the one that runs has not yet run its slice; then a run at a clock that runs back, which is refused
abbrev before : List Call
before = call.admit 0 0 ∷ call.admit 0 1 ∷ Call.Advance 0 ∷ Call.Advance 9 ∷ call.run 0 1 0 3 ∷ []

-- the one that waits departs
abbrev rest : List Call
rest = call.block 0 1 12 ∷ []

-- the host at that run, which is told 5
abbrev then : Host
then = host_after two (call.admit 0 0 ∷ call.admit 0 1 ∷ Call.Advance 0 ∷ Call.Advance 9 ∷ [])

busy : (step then (call.run 0 1 0 3)).number ≡ 0 → ⊥
unfolding computing
busy e = omega (arith, e)

a-pool : PoolList two 9 (before ++ rest)
unfolding computing
a-pool =
    PoolFrom.prepares (Prepares.admit 0 0) (PoolFrom.prepares (Prepares.admit 0 1)
    (PoolFrom.starts (PoolRest.advances {t = 0} {n = 9} (omega arith) (omega arith)
    (PoolRest.refused {h = then} busy (PoolRest.departs (Departs.block 0 1 12) PoolRest.done)))))

typed : AllTyped (before ++ rest)
typed = (
  (omega arith, omega arith, _),
  (
    (omega arith, omega arith, _),
    (
      omega arith,
      (
        omega arith,
        ((omega arith, omega arith, (omega arith, omega arith)), ((omega arith, omega arith, omega arith), _)),
      ),
    ),
  ),
)

abbrev S : ℕ → ℕ
S v = service_of (book_after two before) 18 0 v

abbrev w : ℕ → ℕ
w v = weight_after two before 0 v

-- at reading 18 the lag is bounded, and the bound is attained
pub bounded : S 0 * w 1 ≤ S 1 * w 0 + (10 + 9 - 1) * w 1
unfolding computing book.enter book.holder book.moving_all lists.book_from lists.latest
bounded =
    ((demand_3 two (record { domains = omega arith; vcpus = omega arith; pcpus = omega arith }) (before ++ rest) typed before rest refl
    ).pools 9 a-pool).lag (omega arith) 9 18 refl (omega arith) 0 0 0 1 (omega arith) (omega arith) (omega arith) (omega arith) refl refl

abbrev pub figures : List Row
figures =
    rows (S 0 ∷ S 1 ∷ w 0 ∷ w 1 ∷ []) (18 ∷ 0 ∷ 256 ∷ 256 ∷ [])
    ∷ row (S 0 * w 1) 4608
    ∷ row (S 1 * w 0 + (10 + 9 - 1) * w 1) 4608
    ∷ []

pub figures-due : AllDue figures
unfolding computing book.enter book.holder book.moving_all lists.book_from lists.weight_from
figures-due = refl
