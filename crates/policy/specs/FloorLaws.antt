-- Who sets the floor: there is one exactly if some vCPU stayed in the pool, and where no product is held it is the one that has had the
-- least service for its weight, the earliest of those that have. Assumes nothing.
use Rattle.std.specs.Prelude.{ℕ, ◌*◌, ◌/◌, ◌%◌, ◌≤◌, ◌<◌, Bool, true, ◌&&◌, ◌≡◌}
use Rattle.std.proofs.Math.Path.{refl}
use Rattle.std.proofs.Common.{le_refl}
use Rattle.scans.specs.Booleans.{both, all_two}
use Rattle.scans.specs.Scan.{Pick, nobody, at, scan-sound, scan_complete, scan-least, scan-earliest}
use Rattle.system.specs.declared.System.{System}
use Rattle.system.specs.Reads.{pooled}
use Rattle.system.specs.Slots.{Present, slots, present, is-present, present-is}
use Rattle.policy.specs.declared.Scheduler.{Scheduler}
use Rattle.policy.specs.Accounts.{was_schedulable}
use Rattle.policy.specs.Standing.{weight_at, service_at, deserves}
use Rattle.policy.specs.Accounting.{floor}
use Rattle.policy.specs.Exact.{Unheld, before, not-before, unheld-ranks}

-- the vCPU of slot i is in the pool, and was at the last snapshot
pub record Stayed (s : System) (π : Scheduler) (i : ℕ) : Type 0 where
  pub present : Present s i
  pub is-pooled : pooled s i ≡ true
  pub was-pooled : was_schedulable π (i / 8) (i % 8) ≡ true

-- the floor's test says so
abbrev stays : System → Scheduler → ℕ → Bool
stays s π i = present s i && (pooled s i && was_schedulable π (i / 8) (i % 8))

stays-is : (s : System) (π : Scheduler) (i : ℕ) → i < slots s → stays s π i ≡ true → Stayed s π i
stays-is s π i l e =
    let p = both (present s i) _ e in
    let q = both (pooled s i) _ p.1 in
    record { present = is-present s i l p.0; is-pooled = q.0; was-pooled = q.1 }

is-stays : {s : System} {π : Scheduler} {i : ℕ} → Stayed s π i → stays s π i ≡ true
is-stays h = all_two (present-is h.present).1 (all_two h.is-pooled h.was-pooled)

module _ (s : System) (π : Scheduler) (now : ℕ) where
  -- only one that stayed sets the floor: no waker of this call does
  pub floor-stayed : (f : ℕ) → floor s π now ≡ at f → Stayed s π f
  unfolding floor
  floor-stayed f e = let h = scan-sound (stays s π) (deserves s π now) (slots s) f e in stays-is s π f h.0 h.1

  -- and if one stayed there is a floor
  pub floor-found : (i : ℕ) → Stayed s π i → (f : ℕ) × (floor s π now ≡ at f)
  unfolding floor
  floor-found i h = go (floor s π now) refl
    where
      go : (r : Pick) → floor s π now ≡ r → (f : ℕ) × (r ≡ at f)
      go nobody e = absurd (scan_complete (stays s π) (deserves s π now) (slots s) i (present-is h.present).0 (is-stays h) e)
      go (at f) e = (f, refl)

  module _ (U : Unheld s π now (Stayed s π)) (f j : ℕ) (e : floor s π now ≡ at f) (h : Stayed s π j) where
    -- whoever else stayed has had no less
    pub floor-least : service_at s π now f * weight_at π j ≤ service_at s π now j * weight_at π f
    unfolding floor
    floor-least =
        not-before U j f h (floor-stayed f e)
        (scan-least (stays s π) (deserves s π now) (unheld-ranks U) (slots s) (stays-is s π) (slots s) f j (le_refl _) e
        (present-is h.present).0 (is-stays h))

    -- and more, if it comes earlier
    pub floor-earliest : j < f → service_at s π now f * weight_at π j < service_at s π now j * weight_at π f
    unfolding floor
    floor-earliest l =
        before U f j (floor-stayed f e) h
        (scan-earliest (stays s π) (deserves s π now) (unheld-ranks U) (slots s) (stays-is s π) (slots s) f j (le_refl _) e l (is-stays h))
