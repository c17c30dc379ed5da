-- What a script does of each record of a load: it builds the host that was asked for, then makes each call that is meant. Assumes nothing.
use Prim.Native.Nat.{ℕ, suc, ◌*◌, ◌^◌, ◌<◌}
use mathlib.Core.Bool.{Bool, true}
use mathlib.Core.Path.{◌≡◌, ap, ◌∙◌, subst}
use mathlib.Core.List.{◌++◌}
use native.Mathlib.Omega.{arith}
use lib.ListN.{drop}
use Rattle.system.specs.Shape.{within_sizes}
use Rattle.verdict.specs.Sound.{within-sizes}
use Rattle.records.specs.declared.Record.{Record}
use Rattle.records.specs.declared.Shape.{Shape}
use Rattle.records.specs.declared.Plan.{Plan}
use Rattle.records.specs.Bytes.{record_bytes}
use Rattle.records.specs.Records.{plan_of}
use Rattle.records.proofs.Laws.{plan-back}
use Rattle.load_calls.proofs.Laws.{read_as_meant}
use Rattle.load_script.specs.declared.Load.{Load}
use Rattle.load_script.specs.Loads.{build_record, begin, chain, meant_at, first, load_after, script}
use Rattle.load_script.specs.LoadLaws.{Typed}
use Rattle.load_script.proofs.Chain.{after_record, record_is}
use Rattle.load_script.proofs.Stretches.{from_record}
use Rattle.load_script.proofs.Typed.{begin-typed, after-typed}

module _ (seed : ℕ) (s : Shape) (count : ℕ) (fits : seed < 2 ^ 64) (slice : s.quantum < 2 ^ 64)
    (within : within_sizes s.num_domains s.vcpus_per_domain s.num_pcpus ≡ true) where
  abbrev load : Load
  load = begin seed s count

  typed : Typed load
  typed = begin-typed seed s count fits slice within

  pub build-read : (built : Bool) → plan_of built (script load) ≡ Plan.Build s
  unfolding first load_after
  build-read built =
      ap (plan_of built) (from_record 0 load (omega arith))
      ∙ plan-back built (build_record s) typed.build (script (load_after 1 load)) ∙ rw within

  -- call n stands behind the build and the n calls before it
  pub call-read : (n : ℕ) → n < count → plan_of true (drop (suc n * 20) (script load)) ≡ Plan.Call (meant_at seed s n)
  unfolding chain
  call-read n h =
      let sizes = within-sizes s.num_domains s.vcpus_per_domain s.num_pcpus within in
      let there = subst Typed (after_record seed s count n) (after-typed load typed (suc n)) in
      let left = script (load_after (suc (suc n)) load) in
      ap (plan_of true) (from_record (suc n) load (omega arith) ∙ ap (λ (r : Record). record_bytes r ++ left) (record_is seed s count (suc n)))
      ∙ read_as_meant s.num_domains s.vcpus_per_domain _ _ (omega arith) (omega arith) there.state there.clock left
