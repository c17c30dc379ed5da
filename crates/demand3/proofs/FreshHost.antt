-- What holds of a fresh host. Assumes nothing.
use Prim.Native.Nat.{ℕ, ◌/◌, ◌%◌, ◌^◌, ◌<◌, min}
use mathlib.Core.Path.{◌≡◌, refl, sym, ap, subst}
use native.Mathlib.Omega.{arith}
use native.Mathlib.Nat.{min-eq_left}
use lib.Pow.{ones_lt}
use native.Mathlib.Decide.{dec_lt}
use lib.ListN.{get_or, replicate, length-replicate, get_or-replicate, get_or-eq_default}
use Rattle.masks.specs.Masks.{full_mask}
use Rattle.service.specs.Service.{value}
use Rattle.system.specs.declared.VirtualCpu.{VirtualCpu}
use Rattle.system.specs.Records.{no_pcpu}
use Rattle.system.specs.Shape.{no_vcpu, fresh}
use Rattle.system.specs.Shape as shape
use Rattle.system.specs.Reads.{vcpu_at, runtime_at, last_at}
use Rattle.system.specs.Slots.{Present, slot-below}
use Rattle.policy.specs.declared.Account.{Account}
use Rattle.policy.specs.Accounts.{default_weight, fresh_policy}
use Rattle.policy.proofs.Laws.{new-account, new-tabled, defaults}
use Rattle.sched.proofs.Laws.{off_nr, fresh-tables, fresh-vcpu, fresh-sound}
use Rattle.demand3.specs.Book.{Shape, blank_book}
use Rattle.demand3.specs.Agreement.{PresentIn, LineSays, InStep}
use Rattle.demand3.specs.ServiceMachine.{service_machine}
use Rattle.demand3.specs.Fresh.{Fresh, first_host}
use Rattle.demand3.proofs.Holders.{shaped-present}
use Rattle.demand3.proofs.EveryCall.{Kept}
use Rattle.demand3.proofs.WeightCalls.{Weighs}
use Rattle.demand3.proofs.BeforeFirstAdvance.{New}
use Rattle.demand3.proofs.Preparing.{Prepared}

module _ (f : Fresh) where
  abbrev k : Shape
  k = f.shape

  at_slot : {i : ℕ} → Present (first_host f).system i → vcpu_at (first_host f).system i ≡ shape.blank k.pcpus
  at_slot {i} h = fresh-vcpu k.domains k.vcpus k.pcpus i (slot-below h)

  pub fresh_in_step : InStep k (blank_book k) (first_host f).system
  unfolding fresh
  fresh_in_step =
      let z = f.sized in
      record {
        tables = fresh-tables k.domains k.vcpus k.pcpus;
        sound = fresh-sound k.domains k.vcpus k.pcpus z.domains z.vcpus z.pcpus;
        shaped = record { domains = refl; vcpus = refl; pcpus = refl };
        lines =
            record {
              says = λ i h.
                  subst (LineSays (blank_book k i)) (sym (at_slot h))
                  (record { state = refl; time = refl; mask = refl; clock = λ x y. absurd (off_nr x y) });
            };
      }

  pub fresh_kept : Kept service_machine k (blank_book k) (first_host f)
  fresh_kept = record { in_step = fresh_in_step }

  -- the masks of its book are full
  pub fresh-clipped : (i : ℕ) → (blank_book k i).mask < 2 ^ k.pcpus
  fresh-clipped i = subst (λ (n : ℕ). full_mask k.pcpus < 2 ^ n) (min-eq_left f.sized.pcpus) (ones_lt (min k.pcpus 64))

  pub fresh-weighs : Weighs f.domains f.vcpus (λ d v. default_weight) (first_host f).scheduler
  unfolding fresh_policy
  fresh-weighs =
      record {
        tabled = new-tabled f.domains f.vcpus f.slice;
        domains = refl;
        vcpus = refl;
        covered = λ d v c. defaults.new-weight f.domains f.vcpus f.slice d v;
      }

  time-zero : (j : ℕ) → runtime_at (first_host f).system j ≡ 0
  unfolding fresh vcpu_at
  time-zero j = go (dec_lt j 128)
    where
      go : Dec (j < 128) → (get_or (replicate 128 (shape.blank k.pcpus)) j no_vcpu).runtime ≡ 0
      go (yes l) = ap (λ (x : VirtualCpu). x.runtime) (get_or-replicate 128 j (shape.blank k.pcpus) no_vcpu l)
      go (no n) = ap (λ (x : VirtualCpu). x.runtime) (get_or-eq_default (replicate 128 (shape.blank k.pcpus)) no_vcpu {n = j} (omega (arith, length-replicate 128 (shape.blank k.pcpus))))

  pub fresh_prepared : Prepared (first_host f)
  unfolding fresh fresh_policy value
  fresh_prepared =
      record {
        unrun =
            record {
              new = λ i h. subst (New (full_mask k.pcpus)) (sym (at_slot h)) (record { rests = off_nr; none = refl; mask = refl });
            };
        plain =
            record {
              offsets = λ i. ap (λ (a : Account). value a.offset) (new-account f.domains f.vcpus f.slice (i / 8) (i % 8));
              weights = λ i. omega (arith, defaults.new-weight f.domains f.vcpus f.slice (i / 8) (i % 8));
            };
        tabled = fresh-weighs.tabled;
        words = λ j. omega (arith, time-zero j);
        unseen = λ i. ap (λ (a : Account). a.was_schedulable) (new-account f.domains f.vcpus f.slice (i / 8) (i % 8));
      }

  -- nobody was on a pCPU
  pub fresh-last : (i : ℕ) → PresentIn k i → last_at (first_host f).system i ≡ no_pcpu
  fresh-last i x =
      let T = fresh_in_step in ap (λ (v : VirtualCpu). v.last) (at_slot (shaped-present T.shaped T.sound x))
