-- How many records are left after n, and how long their bytes are. Assumes nothing.
use mathlib.Core.Path.{◌≡◌, refl, ◌∙◌}
use mathlib.Core.Bool.{Bool, true, false}
use Prim.Native.Nat.{ℕ, zero, suc, ◌*◌, ◌-◌}
use native.Mathlib.Omega.{arith}
use lib.ListN.{length, length-append}
use Rattle.generator.specs.declared.Generator.{Generator}
use Rattle.records.specs.declared.Record.{Record}
use Rattle.records.specs.Bytes.{record_bytes}
use Rattle.records.proofs.Laws.{record_length}
use Rattle.load_script.specs.declared.Load.{Load}
use Rattle.load_script.specs.Loads.{size, rest, load_after, nth_record, stretch, script}

-- what holds of loads whose build is out, and of those whose is not, holds of every load
pub by-built : (P : Load → Type 0)
    → ((b : Record) (g : Generator) (t n : ℕ) → P (record { build = b; generator = g; clock = t; built = true; left = n }))
    → ((b : Record) (g : Generator) (t n : ℕ) → P (record { build = b; generator = g; clock = t; built = false; left = n })) → (l : Load) → P l
by-built P calls build l = go l.built
  where
    go : (built : Bool) → P (record { build = l.build; generator = l.generator; clock = l.clock; built = built; left = l.left })
    go true = calls l.build l.generator l.clock l.left
    go false = build l.build l.generator l.clock l.left

pub size-rest : (l : Load) → size (rest l) ≡ size l - 1
unfolding rest
size-rest = by-built (λ l. size (rest l) ≡ size l - 1) (λ b g t n. refl) (λ b g t n. omega arith)

pub size-after : (n : ℕ) (l : Load) → size (load_after n l) ≡ size l - n
unfolding load_after
size-after zero l = omega arith
size-after (suc n) l = size-rest (load_after n l) ∙ omega (arith, size-after n l)

pub stretch-length : (n : ℕ) (l : Load) → length (stretch n l) ≡ n * 20
unfolding stretch
stretch-length zero l = refl
stretch-length (suc n) l =
    omega (arith, length-append (stretch n l) (record_bytes (nth_record l n)), stretch-length n l, record_length (nth_record l n))

pub script-length : (l : Load) → length (script l) ≡ size l * 20
script-length l = stretch-length (size l) l
