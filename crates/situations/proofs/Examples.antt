-- Lists that meet the hypotheses of demand 3, one of any kind and one at which two moves a pCPU are made, and one
-- whose clocks do not run back, with their moves and figures: the theorems are not empty, and the bound on moves is
-- attained. One of who goes back onto the pCPU that it was last on. Assumes nothing.
use Prim.Native.Nat.{ℕ, ◌*◌}
use mathlib.Core.Path.{◌≡◌, refl}
use mathlib.Core.List.{List, [], ◌∷◌, ◌++◌, map}
use lib.ListN.{length}
use native.Mathlib.Omega.{arith}
use borrow.Author.Rules.{rules}
use Rattle.system.specs.declared.RunState.TheVariants.{Running}
use Rattle.system.specs.Records.{no_pcpu}
use Rattle.system.specs.Reads.{last_at}
use Rattle.moves.specs.declared.Choice.TheVariants.{Run, Preempt}
use Rattle.rules.specs.Settle.{moves_on}
use Rattle.host.specs.declared.Host.{Host}
use Rattle.calls.specs.declared.Call.{Call}
use Rattle.calls.specs.Asked as call
use Rattle.host.specs.Computing.{computing}
use Rattle.host.specs.Step.{Step, step}
use Rattle.demand3.specs.Dated.{onto, off, dated}
use Rattle.demand3.specs.Book.{Book, Shape, blank_book, holder, enter, moved_all, offline_lines}
use Rattle.demand3.specs.ServiceMachine.{service_machine}
use Rattle.demand3.specs.Lists.{after_all, book_after, moves_after, Forward}
use Rattle.demand3.specs.Lists as lists
use Rattle.demand3.specs.Fresh.{Sized, Fresh, first_host, host_at, book_at, moves_at}
use Rattle.demand3.specs.Demand3.{Demand-3}
use Rattle.demand3.specs.Uncut.{Uncut}
use Rattle.demand3.specs.LastPcpu.{latest_onto, last_after, LastKept}
use Rattle.demand3.proofs.Laws.{demand_3, uncut, last-kept}

-- each call's step
unfoldable pub steps : Host → List Call → List Step
steps h [] = []
steps h (c ∷ cs) = step h c ∷ steps (step h c).host cs

-- ---- any list: two vCPUs on one pCPU, slice 10, then a dispatch that is refused

abbrev pub one-pcpu : Shape
one-pcpu = record { domains = 1; vcpus = 2; pcpus = 1 }

pub one-sizes : Sized one-pcpu
one-sizes = record { domains = omega arith; vcpus = omega arith; pcpus = omega arith }

abbrev pub built : Fresh
built = record { shape = one-pcpu; domains = 1; vcpus = 2; slice = 10; sized = one-sizes }

abbrev pub calls : List Call
calls = call.admit 0 0 ∷ call.admit 0 1 ∷ Call.Advance 100 ∷ Call.Advance 105 ∷ Call.Advance 110 ∷ call.run 0 0 0 110 ∷ []

pub calls-hold : Demand-3 built calls
calls-hold = demand_3 built calls (search rules)

-- what each call is told, and the moves of each
pub calls_do : (map (λ (r : Step). r.number) (steps (first_host built) calls) ≡ 0 ∷ 0 ∷ 0 ∷ 0 ∷ 0 ∷ 5 ∷ [])
    × (map (λ (r : Step). r.moves) (steps (first_host built) calls) ≡ [] ∷ [] ∷ (Run 0 0 ∷ []) ∷ [] ∷ (Preempt 0 0 ∷ Run 1 0 ∷ []) ∷ [] ∷ [])
unfolding computing steps
calls_do = (refl, refl)

-- ---- two moves a pCPU: four vCPUs on two pCPUs, slice 10. Who runs from 0 has expired at 10, and both who wait beat both

abbrev pub four : Fresh
four =
    record {
      shape = record { domains = 1; vcpus = 4; pcpus = 2 };
      domains = 1;
      vcpus = 4;
      slice = 10;
      sized = record { domains = omega arith; vcpus = omega arith; pcpus = omega arith };
    }

abbrev pub four-start : List Call
four-start = call.admit 0 0 ∷ call.admit 0 1 ∷ call.admit 0 2 ∷ call.admit 0 3 ∷ Call.Advance 0 ∷ []

pub two-moves-made : let ms = (step (host_at four four-start) (Call.Advance 10)).moves in
    (ms ≡ Preempt 0 0 ∷ Run 2 0 ∷ Preempt 1 1 ∷ Run 3 1 ∷ []) × (length ms ≡ 2 * 2) × (moves_on 0 ms ≡ 2) × (moves_on 1 ms ≡ 2)
unfolding computing after_all moves_on
two-moves-made = (refl, refl, refl, refl)

-- ---- a list whose clocks do not run back: two vCPUs on two pCPUs, slice 0; a dispatch at a later clock is refused, both go offline, and
-- 0/0 runs again

abbrev pub two-pcpus : Shape
two-pcpus = record { domains = 1; vcpus = 2; pcpus = 2 }

pub two-sizes : Sized two-pcpus
two-sizes = record { domains = omega arith; vcpus = omega arith; pcpus = omega arith }

abbrev pub unsliced : Fresh
unsliced = record { shape = two-pcpus; domains = 1; vcpus = 2; slice = 0; sized = two-sizes }

abbrev pub forward-start : List Call
forward-start = call.admit 0 0 ∷ call.admit 0 1 ∷ Call.Advance 0 ∷ []

abbrev pub forward : List Call
forward = forward-start ++ (call.run 0 0 1 99 ∷ Call.OfflineAll 0 7 ∷ call.admit 0 0 ∷ Call.Advance 7 ∷ [])

abbrev pub forward-book : Book
forward-book = book_at unsliced forward

-- what each call is told, its dated moves, and that 0/0 has a run time equal to the clock of its run and to the latest
pub forward-does : (map (λ (r : Step). r.number) (steps (first_host unsliced) forward) ≡ 0 ∷ 0 ∷ 0 ∷ 11 ∷ 0 ∷ 0 ∷ 0 ∷ [])
    × (moves_at unsliced forward
    ≡ dated onto 0 0 0 ∷ dated onto 1 1 0 ∷ dated off 0 0 7 ∷ dated off 1 1 7 ∷ dated onto 0 0 7 ∷ [])
    × ((forward-book 0).state ≡ Running 0) × ((forward-book 0).time ≡ 7) × ((forward-book 0).clock ≡ 7)
unfolding computing steps book_after moves_after enter moved_all offline_lines holder
forward-does = (refl, refl, refl, refl, refl)

pub forward_list : Forward service_machine (first_host unsliced) 0 forward 7
unfolding computing after_all steps
forward_list =
    lists.untimed refl (lists.untimed refl (lists.timed {c = 0} {n = 0} refl refl (omega arith)
    (lists.refused {h = host_at unsliced forward-start} {x = call.run 0 0 1 99} (λ e. omega arith)
    (lists.timed {c = 0} {n = 7} refl refl (omega arith)
    (lists.untimed refl (lists.timed {c = 7} {n = 7} refl refl (omega arith) lists.done))))))

pub forward-holds : Uncut two-pcpus forward-book 7
forward-holds = uncut unsliced forward 7 forward_list

-- ---- who goes back onto the pCPU that it was last on: two vCPUs on two pCPUs, slice 10. 0/1 runs on pCPU 1, blocks, and wakes while both
-- pCPUs are idle; in the end it goes offline

abbrev pub two : Fresh
two = record { shape = two-pcpus; domains = 1; vcpus = 2; slice = 10; sized = two-sizes }

abbrev pub back : List Call
back = call.admit 0 1 ∷ call.run 0 1 1 0 ∷ call.block 0 1 5 ∷ call.wake 0 1 ∷ Call.Advance 7 ∷ []

abbrev pub back-offline : List Call
back-offline = back ++ (call.offline 0 1 9 ∷ [])

-- by the calls alone, of 0/1
abbrev pub last-by-calls : List Call → ℕ
last-by-calls cs = last_after service_machine two-pcpus (first_host two) (blank_book two-pcpus) 1 no_pcpu cs

-- its dated moves; where it was last, by its record and by the calls: on pCPU 1, and on none once it is Offline
pub back-does : (moves_at two back ≡ dated onto 1 1 0 ∷ dated off 1 1 5 ∷ dated onto 1 1 7 ∷ [])
    × (last_at (host_at two back).system 1 ≡ 1) × (last-by-calls back ≡ 1)
    × (last_at (host_at two back-offline).system 1 ≡ 64) × (last-by-calls back-offline ≡ 64)
unfolding computing after_all moves_after enter moved_all holder latest_onto last_after
back-does = (refl, refl, refl, refl, refl)

pub back-holds : (cs : List Call) → LastKept (host_at two cs).system 1 (last-by-calls cs)
back-holds cs = last-kept two cs 1 (record { domain = omega arith; vcpu = omega arith })
