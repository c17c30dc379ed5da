-- Demand 3 in the page's words holds: one theorem over every list of calls of every fresh host. Assumes nothing.
use Rattle.std.specs.Prelude.{Some}
use Prim.Native.Nat.{ℕ, ◌+◌, ◌-◌, ◌*◌, ◌/◌, ◌%◌, ◌^◌, ◌≤◌, ◌<◌, min}
use mathlib.Core.Bool.{Bool, true, false, cond, and-false}
use mathlib.Core.List.{List, [], ◌∷◌, ◌++◌, map}
use mathlib.Core.Path.{◌≡◌, refl, sym, ◌∙◌, ap, ap₂, subst}
use native.Mathlib.Omega.{arith}
use lib.Dec.{ltb}
use borrow.Author.Tests.{ltb-true, ltb-false, le-ltb}
use Rattle.system.specs.declared.RunState.{RunState}
use Rattle.system.specs.declared.RunState.TheVariants.{Offline, Runnable, Running, Blocked}
use Rattle.system.specs.States.{schedulable}
use Rattle.scans.specs.Scan as scans
use Rattle.scans.specs.Scan.{Pick}
use Rattle.moves.specs.declared.Choice.{Choice}
use Rattle.moves.specs.declared.Choice.TheVariants.{Run, Preempt, Rest}
use Rattle.policy.specs.Accounts.{offset_of}
use Rattle.rules.specs.Settle as settle
use Rattle.advance.specs.Advance.{named}
use Rattle.host.specs.declared.Host.{Host}
use Rattle.calls.specs.declared.Call.{Call}
use Rattle.host.specs.Step as host
use Rattle.demand3.specs.Book as slots
use Rattle.demand3.specs.Lists as lists
use Rattle.demand3.specs.Weights as weights
use Rattle.demand3.specs.InPool.{InPool}
use Rattle.demand3.specs.Demand3.{Point}
use Rattle.demand3.proofs.Laws as laws
use Rattle.page.specs.Book as book
use Rattle.page.specs.Page as page
use Rattle.page.specs.Page.{account, number, pooled, service, admits}
use Rattle.page.specs.Steps as steps
use Rattle.page.specs.Lists.{Fresh, Sized, AllTyped, PoolList, weight_after, latest, service_of}
use Rattle.page.specs.Demand3.{Demand3, At, Advances, is_on, moves_on}
use Rattle.page.proofs.Loops.{who}
use Rattle.page.proofs.Standing.{weight_is, offset-is, service-is}
use Rattle.page.proofs.Steps.{step_is, as_many}
use Rattle.page.proofs.ByIds.{booked, line-is, holder-is}
use Rattle.page.proofs.Entries.{entry-is}
use Rattle.page.proofs.CallLists.{same-clock, all_typed, weight-after-is, latest-is}
use Rattle.page.proofs.Agreement.{agrees}
use Rattle.page.proofs.Hypotheses.{same-pools}
use Rattle.page.proofs.AtPoints.{whole, left, kept, host-after-is, book-after-is, present, service-of-is}

moves-on-is : (p : ℕ) (ms : List Choice) → settle.moves_on p ms ≡ moves_on p (map named ms)
unfolding settle.moves_on moves_on
moves-on-is p [] = refl
moves-on-is p (m ∷ ms) = ap₂ ◌+◌ (on-is m) (moves-on-is p ms)
  where
    on-is : (m : Choice) → settle.on_pcpu p m ≡ cond (is_on p (named m)) 1 0
    on-is (Run i q) = refl
    on-is (Preempt i q) = refl
    on-is Rest = refl

pooled-is : (st : RunState) → schedulable st ≡ pooled st
pooled-is Offline = refl
pooled-is Runnable = refl
pooled-is (Running p) = refl
pooled-is Blocked = refl

nobody-is : (r : Pick) → who r ≡ page.nobody → r ≡ scans.nobody
nobody-is scans.nobody e = refl
nobody-is (scans.at i) e = absurd (let z : ◌≡◌ {A = ℕ} 0 1 = cc in omega arith)

module _ (f : Fresh) (sized : Sized f.shape) (cs before rest : List Call) (typed : AllTyped cs)
    (split : cs ≡ before ++ rest) where
  abbrev k : book.Shape
  k = f.shape

  abbrev h : Host
  h = left f sized before

  abbrev b : slots.Book
  b = kept f sized before

  D : Point (whole f sized) cs before
  D = laws.demand_3 (whole f sized) cs ((all_typed cs).0 typed) before rest split

  small : {v : ℕ} → v < k.vcpus → v < 8
  small l = omega (arith, sized.vcpus)

  advances : 1 ≤ f.slice → (now : ℕ) (cs' : List Call) → rest ≡ Call.Advance now ∷ cs'
      → let a = before ++ (Call.Advance now ∷ []) in
      Advances k (booked k (kept f sized a)) (steps.step h (Call.Advance now)).moves
  advances s now cs' e =
      rw (← step_is h (Call.Advance now))
      (record {
        few = subst (λ (n : ℕ). n ≤ 2 * k.pcpus) (as_many ms) (D.advance s now).moves;
        few_on = λ p l. subst (λ (n : ℕ). n ≤ 2) (moves-on-is p ms) ((D.advance s now).moves-on p l);
        placed = λ d v p x y z st free on.
            let l = line-is k a d v (small y) in
            (D.advance s now).placed (d * 8 + v) p (present k sized x y) z (ap (λ (m : book.Line). m.state) (sym l) ∙ st)
            (nobody-is _ (sym (holder-is k a sized.vcpus p) ∙ free))
            (ap (λ (m : book.Line). admits m.mask p) (sym l) ∙ on);
      })
    where
      a : slots.Book
      a = kept f sized (before ++ (Call.Advance now ∷ []))

      ms : List Choice
      ms = (host.step h (Call.Advance now)).moves

  -- ---- in a pool

  pool : (g : ℕ) → PoolList f g cs → InPool (whole f sized) before g
  pool g P = D.pool g ((same-pools f sized cs g).0 P)

  -- the weight at a slot is that of its ids
  slot-weight : (d v : ℕ) → v < k.vcpus
      → weights.weight_after f.domains f.vcpus before ((d * 8 + v) / 8) ((d * 8 + v) % 8) ≡ weight_after f before d v
  slot-weight d v l =
      let x : (d * 8 + v) / 8 ≡ d = omega (arith, small l) in
      let y : (d * 8 + v) % 8 ≡ v = omega (arith, small l) in
      ap₂ (weights.weight_after f.domains f.vcpus before) x y ∙ weight-after-is f before d v

  lag : (g : ℕ) → PoolList f g cs → 1 ≤ f.slice → (t r : ℕ) → latest before ≡ Some t → r ≤ t + g
      → (d v e u : ℕ) → d < k.domains → v < k.vcpus → e < k.domains → u < k.vcpus
      → pooled (booked k b d v).state ≡ true → (booked k b e u).state ≡ Runnable
      → let w = weight_after f before in
      service_of (booked k b) r d v * w e u ≤ service_of (booked k b) r e u * w d v + (f.slice + g - 1) * w e u
  lag g P s t r late early d v e u xd xv xe xu is_in_pool waits =
      rw (service-of-is k b r d v (small xv), service-of-is k b r e u (small xu), ← slot-weight d v xv, ← slot-weight e u xu)
      ((pool g P).lag s t r (same-clock _ (lists.at t) (latest-is before ∙ late)) early (d * 8 + v) (e * 8 + u)
      (present k sized xd xv) (present k sized xe xu)
      (pooled-is (b (d * 8 + v)).state
      ∙ (ap (λ (l : book.Line). pooled l.state) (sym (line-is k b d v (small xv))) ∙ is_in_pool))
      (ap (λ (l : book.Line). l.state) (sym (line-is k b e u (small xu))) ∙ waits))

  offsets : (g : ℕ) → PoolList f g cs → (d v : ℕ) → number (account h.scheduler d v).offset ≡ 0
  offsets g P d v = go (ltb v 8) refl
    where
      go : (t : Bool) → ltb v 8 ≡ t → number (account h.scheduler d v).offset ≡ 0
      go true e =
          let l = ltb-true v 8 e in
          let x : (d * 8 + v) / 8 ≡ d = omega arith in
          let y : (d * 8 + v) % 8 ≡ v = omega arith in
          sym (offset-is h.scheduler d v)
          ∙ (ap₂ (offset_of h.scheduler) (sym x) (sym y) ∙ (pool g P).offsets (d * 8 + v))
      -- no account has such an id
      go false e =
          let l = ltb-false v 8 e in
          rw (le-ltb v (min h.scheduler.vcpus_per_domain 8) (omega arith), and-false)

  services : (g : ℕ) → PoolList f g cs → (d v r : ℕ) → d < k.domains → v < k.vcpus → r < 2 ^ 64
      → service h.system h.scheduler r d v ≡ service_of (booked k b) r d v
  services g P d v r xd xv l =
      let x : (d * 8 + v) / 8 ≡ d = omega (arith, small xv) in
      let y : (d * 8 + v) % 8 ≡ v = omega (arith, small xv) in
      ap₂ (service h.system h.scheduler r) (sym x) (sym y)
      ∙ (sym (service-is h.system h.scheduler r (d * 8 + v))
      ∙ ((pool g P).services r l (d * 8 + v) (present k sized xd xv)
      ∙ sym (service-of-is k b r d v (small xv))))

  point : At f cs before rest
  point =
      record {
        agrees =
            rw (host-after-is f sized before, book-after-is f sized before)
            (agrees k sized b h.system D.here.agrees D.here.reads D.here.admits);
        clipped = λ d v x y.
            rw (book-after-is f sized before, line-is k b d v (small y))
            (D.here.masks (d * 8 + v) (present k sized x y));
        weights = λ d v.
            rw (host-after-is f sized before)
            (sym (weight_is h.scheduler d v) ∙ (D.set.weights d v ∙ weight-after-is f before d v));
        slice = rw (host-after-is f sized before) D.set.slice;
        told = λ c cs' e.
            rw (host-after-is f sized before, book-after-is f sized before)
            (sym (ap (λ (r : steps.Step). r.number) (step_is h c))
            ∙ ((D.call c).told
            ∙ sym (ap (λ (x : book.Entry). x.number) (entry-is k sized h b c))));
        advances = λ s now cs' e.
            rw (host-after-is f sized before, book-after-is f sized (before ++ (Call.Advance now ∷ []))) (advances s now cs' e);
        pools = λ g P.
            record {
              offsets = rw (host-after-is f sized before) (offsets g P);
              services = rw (host-after-is f sized before, book-after-is f sized before) (services g P);
              lag = rw (book-after-is f sized before) (lag g P);
            };
      }

pub demand_3 : Demand3
demand_3 f sized cs typed before rest split = point f sized cs before rest typed split
