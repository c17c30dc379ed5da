-- What a stretch has stored and left after i of its records. Assumes nothing.
use mathlib.Core.Path.{◌≡◌, refl, ap, ◌∙◌}
use mathlib.Core.List.{List, ◌++◌}
use Prim.Native.Nat.{ℕ, ◌+◌, ◌*◌, ◌≤◌, ◌<◌}
use native.Mathlib.Numerals.{add-one}
use native.Mathlib.Omega.{arith}
use lib.ListN.{length}
use lib.Seq.{sets, length-sets}
use borrow.Author.Tests.{le-leb}
use Rattle.records.specs.declared.Record.{Record}
use Rattle.records.specs.Bytes.{record_bytes, put_record}
use Rattle.big_endian.specs.Stores.{stored-behind}
use Rattle.load_script.specs.declared.Load.{Load}
use Rattle.load_script.specs.Loads.{size, first, rest, load_after, stretch, fitting}
use Rattle.load_script.proofs.Sizes.{size-after, stretch-length}

-- of the stretch that fits: l is what is left of the load l₀, and `out` is what became of out₀
pub record Stored (l₀ : Load) (out₀ : List ℕ) (l : Load) (out : List ℕ) (i : ℕ) : Type 0 where
  pub within : i ≤ fitting l₀ out₀
  pub left : l ≡ load_after i l₀
  pub held : out ≡ sets out₀ 0 (stretch i l₀)

pub none-stored : (l₀ : Load) (out₀ : List ℕ) → Stored l₀ out₀ l₀ out₀ 0
unfolding load_after stretch
none-stored l₀ out₀ = record { within = omega arith; left = refl; held = refl }

module _ {l₀ : Load} {out₀ : List ℕ} {l : Load} {out : List ℕ} {i : ℕ} (s : Stored l₀ out₀ l out i) where
  -- the buffer keeps its length
  pub length-stays : length out ≡ length out₀
  length-stays = ap length s.held ∙ length-sets out₀ 0 (stretch i l₀)

  pub some_left : i < fitting l₀ out₀ → 0 < size l
  some_left h = rw s.left (omega (arith, size-after i l₀))

  pub one-stored : i < fitting l₀ out₀ → {r : Record} {m : Load} {x : List ℕ} → r ≡ first l → m ≡ rest l → x ≡ put_record out (i * 20) r
      → Stored l₀ out₀ m x (i + 1)
  unfolding load_after stretch
  one-stored h {r} {m} {x} e₁ e₂ e₃ =
      let room = le-leb (i * 20 + 20) (length out) (omega (arith, length-stays)) in
      let one : x ≡ sets out (i * 20) (record_bytes r) = e₃ ∙ rw room in
      let here : r ≡ first (load_after i l₀) = e₁ ∙ ap first s.left in
      record {
        within = omega arith;
        left = rw add-one (e₂ ∙ ap rest s.left);
        held = rw add-one
            (stored-behind out₀ 0 (stretch i l₀) (record_bytes r) s.held one (omega (arith, stretch-length i l₀))
            ∙ ap (λ (q : Record). sets out₀ 0 (stretch i l₀ ++ record_bytes q)) here);
      }
