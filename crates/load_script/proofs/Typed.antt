-- Every record of a load fits its 20 bytes, so what is read from the script is what was handed out. Assumes nothing.
use mathlib.Core.Path.{◌≡◌, ap, ◌∙◌}
use mathlib.Core.Bool.{true}
use Prim.Native.Nat.{ℕ, zero, suc, ◌*◌, ◌^◌, ◌<◌}
use native.Mathlib.Omega.{arith}
use lib.Dec.{lit<}
use lib.ListN.{drop}
use Rattle.generator.specs.declared.Generator.{Generator}
use Rattle.system.specs.Shape.{within_sizes}
use Rattle.records.specs.declared.Record.{Record}
use Rattle.records.specs.declared.Shape.{Shape}
use Rattle.records.specs.Records.{record_of}
use Rattle.records.specs.Bytes.{FitsRecord}
use Rattle.records.proofs.Laws.{read_back}
use Rattle.load_calls.proofs.Laws.{call_fits, state-below, clock-below}
use Rattle.load_script.specs.declared.Load.{Load}
use Rattle.load_script.specs.Loads.{begin, size, first, rest, load_after, nth_record, script}
use Rattle.load_script.specs.LoadLaws.{Typed}
use Rattle.load_script.proofs.Sizes.{by-built}
use Rattle.load_script.proofs.Stretches.{from_record}
use Rattle.verdict.specs.Sound.{within-sizes}

pub begin-typed : (seed : ℕ) (s : Shape) (count : ℕ) → seed < 2 ^ 64 → s.quantum < 2 ^ 64
    → within_sizes s.num_domains s.vcpus_per_domain s.num_pcpus ≡ true → Typed (begin seed s count)
begin-typed seed s count h q small =
    let w = within-sizes s.num_domains s.vcpus_per_domain s.num_pcpus small in
    record {
      build = record { kind = lit< tt; dom = omega arith; vcpu = omega arith; third = omega arith; value = q };
      state = h;
      clock = lit< tt;
    }

-- what is handed out fits, and what is left stays typed
one : (l : Load) → Typed l → FitsRecord (first l) × Typed (rest l)
unfolding first rest
one = by-built (λ l. Typed l → FitsRecord (first l) × Typed (rest l)) call (λ b g t n typed. (typed.build, record { build = typed.build; state = typed.state; clock = typed.clock }))
  where
    call : (b : Record) (g : Generator) (t n : ℕ) → let l : Load = record { build = b; generator = g; clock = t; built = true; left = n } in
        Typed l → FitsRecord (first l) × Typed (rest l)
    call b g t n typed =
        let f = typed.build in (
          call_fits b.dom b.vcpu g.state t f.dom f.vcpu typed.state typed.clock,
          record {
            build = f;
            state = state-below b.dom b.vcpu g.state t typed.state;
            clock = clock-below b.dom b.vcpu g.state t typed.clock;
          },
        )

module _ (l : Load) (typed : Typed l) where
  pub after-typed : (n : ℕ) → Typed (load_after n l)
  unfolding load_after
  after-typed zero = typed
  after-typed (suc n) = (one (load_after n l) (after-typed n)).1

  pub record_fits : (n : ℕ) → FitsRecord (nth_record l n)
  record_fits n = (one (load_after n l) (after-typed n)).0

  -- what is read of the script as record n is record n
  pub nth_read : (n : ℕ) → n < size l → record_of (drop (n * 20) (script l)) ≡ nth_record l n
  nth_read n h = ap record_of (from_record n l h) ∙ read_back (nth_record l n) (record_fits n) (script (load_after (suc n) l))
