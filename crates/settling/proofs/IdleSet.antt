-- The set of idle pCPUs: of a system, and one pCPU at a time. Assumes nothing.
use Prim.Native.Nat.{ℕ, zero, suc, ◌+◌, ◌-◌, ◌^◌, ◌<◌, min}
use mathlib.Core.Bool.{Bool, true, false}
use mathlib.Core.Path.{◌≡◌, refl, sym, ◌∙◌, ap}
use mathlib.Core.List.{List}
use native.Mathlib.Nat.{zero-add, suc-add, add-zero, lt_of_lt_of_le}
use native.Mathlib.Omega.{arith}
use lib.ListN.{get_or}
use lib.Pow.{pow_mono}
use borrow.Author.Tests.{lt-ltb, le-ltb}
use Rattle.masks.specs.Masks.{pcpu_bit}
use Rattle.masks.specs.Laws.{pcpu-bit-is}
use Rattle.masks.specs.Sets.{set_of, set_of-below}
use Rattle.system.specs.declared.PhysicalCpu.{PhysicalCpu}
use Rattle.system.specs.Reads.{is_idle, occupant_at}
use Rattle.system.specs.Shape.{idle}
use Rattle.settling.specs.IdleSet.{idle_in, idle_set}
use Rattle.settling.specs.TableLaws.{IdleSetIs}

pub idle-set-is : IdleSetIs
unfolding idle_set occupant_at
idle-set-is s = refl

-- of a table of which the first m count
module _ (held : List PhysicalCpu) (m : ℕ) where
  abbrev vacant : ℕ → Bool
  vacant q = is_idle (get_or held q idle).occupant

  module _ (q : ℕ) (l : q < min m 64) where
    here : (b : Bool) → vacant q ≡ b → idle_in held m q ≡ b
    here b e = rw (lt-ltb q (min m 64) l, e)

    -- an idle pCPU joins
    pub joins : vacant q ≡ true → set_of (idle_in held m) q + pcpu_bit q ≡ set_of (idle_in held m) (suc q)
    unfolding set_of
    joins e = rw (here true e, pcpu-bit-is q (omega arith))

    -- the sum is below the next power
    pub joins-below : vacant q ≡ true → set_of (idle_in held m) q + pcpu_bit q < 2 ^ 64
    joins-below e = rw (joins e) (lt_of_lt_of_le (set_of-below (idle_in held m) (suc q)) (pow_mono {i = suc q} {j = 64} (omega arith)))

    pub passes : vacant q ≡ false → set_of (idle_in held m) q ≡ set_of (idle_in held m) (suc q)
    unfolding set_of
    passes e = rw (here false e) (sym (add-zero _))

  -- past the last pCPU nothing joins
  past : (d : ℕ) → set_of (idle_in held m) (d + min m 64) ≡ set_of (idle_in held m) (min m 64)
  unfolding set_of
  past zero = rw (zero-add (min m 64))
  past (suc d) = rw (suc-add d (min m 64)) (last ∙ past d)
    where
      last : set_of (idle_in held m) (suc (d + min m 64)) ≡ set_of (idle_in held m) (d + min m 64)
      last = rw (le-ltb (d + min m 64) (min m 64) (omega arith)) (add-zero _)

  pub whole : set_of (idle_in held m) (min m 64) ≡ set_of (idle_in held m) 64
  whole = let e : 64 - min m 64 + min m 64 ≡ 64 = omega arith in sym (past (64 - min m 64)) ∙ ap (set_of (idle_in held m)) e
