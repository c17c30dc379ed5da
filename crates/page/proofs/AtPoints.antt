-- A fresh host, and the host, the book and the moves that a list leaves, are those of demand 3. Assumes nothing.
use Prim.Native.Nat.{ℕ, ◌+◌, ◌-◌, ◌*◌, ◌<◌}
use mathlib.Core.List.{List, map}
use mathlib.Core.Path.{◌≡◌, refl, sym, ◌∙◌, ap, ap₂}
use native.Mathlib.Omega.{arith}
use Rattle.system.specs.declared.RunState.{RunState}
use Rattle.system.specs.declared.RunState.TheVariants.{Offline, Runnable, Running, Blocked}
use Rattle.system.specs.declared.System.{System}
use Rattle.policy.specs.declared.Scheduler.{Scheduler}
use Rattle.host.specs.declared.Host.{Host}
use Rattle.calls.specs.declared.Call.{Call}
use Rattle.demand3.specs.Dated.{Dated}
use Rattle.demand3.specs.Book as slots
use Rattle.demand3.specs.Agreement.{PresentIn}
use Rattle.demand3.specs.Lists as lists
use Rattle.demand3.specs.Fresh as points
use Rattle.demand3.proofs.Laws.{host-after-same}
use Rattle.page.specs.Book as book
use Rattle.page.specs.Page.{in_flight}
use Rattle.page.specs.Steps.{after}
use Rattle.page.specs.Lists as page
use Rattle.page.specs.Lists.{Fresh, Sized}
use Rattle.page.proofs.Policy.{new-system-is, new-policy-is}
use Rattle.page.proofs.Steps.{after_is}
use Rattle.page.proofs.ByIds.{shape, booked, dated, line-is, blank-is}
use Rattle.page.proofs.Entries.{book-from-is, moves-from-is}

pub present : (k : book.Shape) → Sized k → {d v : ℕ} → d < k.domains → v < k.vcpus → PresentIn (shape k) (d * 8 + v)
present k sized x y = record { domain = omega (arith, sized.vcpus); vcpu = omega (arith, sized.vcpus) }

-- S, by the line
pub service-of-is : (k : book.Shape) (b : slots.Book) (r d v : ℕ) → v < 8
    → page.service_of (booked k b) r d v ≡ lists.book_service b r (d * 8 + v)
service-of-is k b r d v small =
    ap (λ (l : book.Line). l.time + in_flight l.state (r - l.clock)) (line-is k b d v small)
    ∙ ap (λ (n : ℕ). (b (d * 8 + v)).time + n) (go (b (d * 8 + v)).state)
  where
    go : (st : RunState) → in_flight st (r - (b (d * 8 + v)).clock) ≡ lists.open_part (b (d * 8 + v)) r st
    go Offline = refl
    go Runnable = refl
    go (Running p) = refl
    go Blocked = refl

module _ (f : Fresh) (sized : Sized f.shape) where
  -- the fresh host as demand 3 has it
  abbrev pub whole : points.Fresh
  whole =
      record {
        shape = shape f.shape;
        domains = f.domains;
        vcpus = f.vcpus;
        slice = f.slice;
        sized = record { domains = sized.domains; vcpus = sized.vcpus; pcpus = sized.pcpus };
      }

  abbrev pub fresh : Host
  fresh = points.first_host whole

  abbrev pub left : List Call → Host
  left cs = points.host_at whole cs

  abbrev pub kept : List Call → slots.Book
  kept cs = points.book_at whole cs

  abbrev pub made : List Call → List Dated
  made cs = points.moves_at whole cs

  pub host-is : fresh ≡ page.host f
  host-is =
      let k = f.shape in
      ap₂ (λ (s : System) (π : Scheduler). record { system = s; scheduler = π })
      (new-system-is k.domains k.vcpus k.pcpus) (new-policy-is f.domains f.vcpus f.slice)

  pub host-after-is : (cs : List Call) → page.host_after f cs ≡ left cs
  host-after-is cs = sym (host-after-same fresh cs ∙ after_is fresh cs ∙ ap (λ (h : Host). after h cs) host-is)

  pub book-after-is : (cs : List Call) → page.book_after f cs ≡ booked f.shape (kept cs)
  book-after-is cs =
      ap₂ (λ (h : Host) (b : book.Book). page.book_from f.shape h b cs) (sym host-is) (blank-is f.shape sized.pcpus)
      ∙ book-from-is f.shape sized cs fresh _

  pub moves-after-is : (cs : List Call) → page.moves_after f cs ≡ map dated (made cs)
  moves-after-is cs =
      ap₂ (λ (h : Host) (b : book.Book). page.moves_from f.shape h b cs) (sym host-is) (blank-is f.shape sized.pcpus)
      ∙ moves-from-is f.shape sized cs fresh _
