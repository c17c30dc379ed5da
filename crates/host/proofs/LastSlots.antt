-- No wake edge at the last slot, that of 15/7, whatever is called between two advances: written out, so that a law of fewer slots or calls
-- would not give it. Assumes nothing.
use Prim.Native.Nat.{ℕ}
use mathlib.Core.Bool.{true}
use mathlib.Core.Path.{◌≡◌}
use mathlib.Core.List.{[], ◌∷◌}
use lib.ListN.{length}
use Rattle.scans.specs.Booleans.{zero_one}
use Rattle.system.specs.Reads.{pooled}
use Rattle.system.specs.Slots.{Present}
use Rattle.system.specs.Writes.{Tables}
use Rattle.policy.specs.Accounts.{offset_of}
use Rattle.host.specs.declared.Host.{Host}
use Rattle.calls.specs.declared.Call.{Call}
use Rattle.calls.specs.declared.Request.{Request}
use Rattle.host.specs.Step.{step, host_after}
use Rattle.host.proofs.WakeEdges.{stayed_no_edge, block-and-wake_no_edge}

-- any host, sound or not, whose tables are as long as the code's; advances at any clocks
module _ (h : Host) (T : Tables h.system) (L : length h.scheduler.accounts ≡ 128) (t₁ t₂ : ℕ) where
  abbrev a : Host
  a = (step h (Call.Advance t₁)).host

  -- a block, any call but an advance, and a wake
  module _ (now : ℕ) (x : Call) (n : (t : ℕ) → x ≡ Call.Advance t → ⊥) where
    abbrev b : Host
    b = host_after a (Call.Ask 15 7 (Request.Block now) ∷ x ∷ Call.Ask 15 7 Request.Wake ∷ [])

    pub last-stayed : (step h (Call.Advance t₁)).number ≡ 0 → Present h.system 127 → pooled h.system 127 ≡ true
        → offset_of (step b (Call.Advance t₂)).host.scheduler 15 7 ≡ offset_of b.scheduler 15 7
    last-stayed e =
        stayed_no_edge h (record { system = T; accounts = L }) t₁ t₂ (Call.Ask 15 7 (Request.Block now) ∷ x ∷ Call.Ask 15 7 Request.Wake ∷ [])
        ((λ t e. zero_one cc), (n, ((λ t e. zero_one cc), tt))) e 127

  pub last-woken : (now : ℕ)
      → let b = step a (Call.Ask 15 7 (Request.Block now)) in
      let c = (step b.host (Call.Ask 15 7 Request.Wake)).host in
      b.number ≡ 0 → offset_of (step c (Call.Advance t₂)).host.scheduler 15 7 ≡ offset_of a.scheduler 15 7
  last-woken now = block-and-wake_no_edge h (record { system = T; accounts = L }) t₁ now t₂ 15 7
