-- Along a pool list no offset is set, and with a slice of 1 or more the lag is bounded at every point after the first
-- advance. Assumes nothing.
use Prim.Native.Nat.{ℕ, ◌+◌, ◌^◌, ◌≤◌, ◌<◌}
use mathlib.Core.Bool.{Bool}
use mathlib.Core.Path.{◌≡◌, refl, sym, ap, subst}
use mathlib.Core.List.{List, [], ◌∷◌, ◌++◌}
use Rattle.scans.specs.Booleans.{zero_one}
use Rattle.sched.proofs.Laws.{requested-keeps, offline-all-keeps}
use Rattle.policy.specs.declared.Scheduler.{Scheduler}
use Rattle.policy.specs.Standing.{weight_at}
use Rattle.demand3.proofs.LagMoves.{Plain}
use Rattle.host.specs.declared.Host.{Host}
use Rattle.calls.specs.declared.Call.{Call}
use Rattle.host.specs.Step.{step}
use Rattle.demand3.specs.ServiceMachine.{service_machine}
use Rattle.demand3.specs.Book.{Book, Shape}
use Rattle.demand3.specs.Lists.{AllTyped, Prepares, Departs, after_all, PoolRest, PoolList, Clock, or_earlier}
use Rattle.demand3.specs.Lists.{advance_clock, latest}
use Rattle.demand3.specs.Lists as lists
use Rattle.demand3.proofs.EveryCall.{Kept, step-goes}
use Rattle.demand3.proofs.ServiceMachine.{advance-traced, advance-rests-here, service_lawful}
use Rattle.demand3.proofs.Departures.{block_shrinks, offline_shrinks, offline-all_shrinks}
use Rattle.demand3.proofs.BeforeFirstAdvance.{unrun-lag}
use Rattle.demand3.proofs.Preparing.{Prepared, Next, prepare}
use Rattle.demand3.proofs.Pool.{Words, slack, Pooling, first-advance, next-advance, departure, boosted}

-- ---- along the list

abbrev pub Bounded : ℕ → ℕ → Host → Type 0
Bounded g t h = Pooling g t h.system h.scheduler

start : {k : Shape} {b : Book} {h : Host} (g now : ℕ) → now < 2 ^ 64 → Kept service_machine k b h → Prepared h
    → Bounded g now (Next h (Call.Advance now))
start {h = h} g now fit K P =
    let A = advance-traced h now K.in_step.sound in
    let T = K.in_step in
    subst (λ (π : Scheduler). Pooling g now (Next h (Call.Advance now)).system π) (sym A.policy)
    (first-advance now g fit T.tables T.sound P.words P.tabled P.plain P.unseen
    (unrun-lag _ T.tables T.sound P.unrun (weight_at h.scheduler) (slack h.scheduler g) now) A.trace (advance-rests-here h now T.tables T.sound))

go_on_lem : {k : Shape} {b : Book} {h : Host} (g t now : ℕ) → now < 2 ^ 64 → t ≤ now → now ≤ t + g
    → Kept service_machine k b h → Bounded g t h → Bounded g now (Next h (Call.Advance now))
go_on_lem {h = h} g t now fit lo up K p =
    let A = advance-traced h now K.in_step.sound in
    let T = K.in_step in
    subst (λ (π : Scheduler). Pooling g now (Next h (Call.Advance now)).system π) (sym A.policy)
    (next-advance t now g fit T.tables T.sound p lo up A.trace (advance-rests-here h now T.tables T.sound))

depart : {k : Shape} {b : Book} {h : Host} {c : Call} {g t : ℕ} → Kept service_machine k b h → Departs c
    → Bounded g t h → Bounded g t (Next h c)
unfolding step
depart K (lists.Departs.block d v now) p =
    let T = K.in_step in departure (block_shrinks _ T.tables T.sound d v now) (requested-keeps _ T.sound T.tables d v _) p
depart K (lists.Departs.offline d v now) p =
    let T = K.in_step in departure (offline_shrinks _ T.tables T.sound d v now) (requested-keeps _ T.sound T.tables d v _) p
depart K (lists.Departs.offline-all d now) p =
    let T = K.in_step in departure (offline-all_shrinks _ T.tables T.sound d now) (offline-all-keeps _ T.sound T.tables d now) p

boost-on : {h : Host} {g t : ℕ} (on : Bool) → Bounded g t h → Bounded g t (Next h (Call.SetWakeBoost on))
unfolding step
boost-on on p = boosted on p

-- the clock of the latest advance, t where there is none
abbrev since : ℕ → Clock → ℕ
since t lists.none = t
since t (lists.at u) = u

-- a refused call leaves the host as it was, and is no advance
refused-same : {k : Shape} {b : Book} {h : Host} → Kept service_machine k b h → (c : Call) → ((step h c).number ≡ 0 → ⊥) → Next h c ≡ h
refused-same {h = h} K c n = service_lawful.refused h c K.in_step.tables K.in_step.sound n

not-advance : {c : Call} → Departs c → advance_clock c ≡ lists.none
not-advance (lists.Departs.block d v now) = refl
not-advance (lists.Departs.offline d v now) = refl
not-advance (lists.Departs.offline-all d now) = refl

refused_no_advance : {k : Shape} {b : Book} {h : Host} (c : Call) → Kept service_machine k b h
    → ((step h c).number ≡ 0 → ⊥) → advance_clock c ≡ lists.none
refused_no_advance (Call.Ask d v q) K n = refl
refused_no_advance (Call.OfflineAll d now) K n = refl
refused_no_advance (Call.SetWeight d v w) K n = refl
refused_no_advance (Call.SetWakeBoost on) K n = refl
refused_no_advance {h = h} (Call.Advance now) K n = absurd (n (advance-traced h now K.in_step.sound).told)

-- an advance renews the latest clock, and no other call does
since-advance : (t n : ℕ) (l : Clock) → since t (or_earlier l (lists.at n)) ≡ since n l
since-advance t n lists.none = refl
since-advance t n (lists.at u) = refl

since-other : (t : ℕ) {e : Clock} (l : Clock) → e ≡ lists.none → since t (or_earlier l e) ≡ since t l
since-other t lists.none h = ap (since t) h
since-other t (lists.at u) h = refl

rest-along : {k : Shape} {b : Book} {h : Host} {g t : ℕ} (before rest : List Call)
    → PoolRest service_machine g h t (before ++ rest) → AllTyped (before ++ rest) → Kept service_machine k b h
    → Bounded g t h → Bounded g (since t (latest before)) (after_all service_machine h before)
unfolding after_all latest
rest-along [] rest r f K p = p
rest-along {k = k} {b = b} {h = h} {g = g} {t = t} (c ∷ bs) rest (lists.PoolRest.advances {n = n} lo up r) f K p =
    subst (λ (u : ℕ). Bounded g u (after_all service_machine (Next h (Call.Advance n)) bs)) (sym (since-advance t n (latest bs)))
    (rest-along {b = (lists.entry_of service_machine k h b (Call.Advance n)).book} bs rest r f.1 (step-goes service_lawful (Call.Advance n) K).kept (go_on_lem g t n f.0 lo up K p))
rest-along {k = k} {b = b} {h = h} {g = g} {t = t} (c ∷ bs) rest (lists.PoolRest.departs d r) f K p =
    subst (λ (u : ℕ). Bounded g u (after_all service_machine (Next h c) bs)) (sym (since-other t (latest bs) (not-advance d)))
    (rest-along {b = (lists.entry_of service_machine k h b c).book} bs rest r f.1 (step-goes service_lawful c K).kept (depart K d p))
rest-along {k = k} {b = b} {h = h} {g = g} {t = t} (c ∷ bs) rest (lists.PoolRest.boosts {on = on} r) f K p =
    subst (λ (u : ℕ). Bounded g u (after_all service_machine (Next h (Call.SetWakeBoost on)) bs)) (sym (since-other t (latest bs) refl))
    (rest-along {b = (lists.entry_of service_machine k h b (Call.SetWakeBoost on)).book} bs rest r f.1 (step-goes service_lawful (Call.SetWakeBoost on) K).kept (boost-on on p))
rest-along {k = k} {b = b} {h = h} {g = g} {t = t} (c ∷ bs) rest (lists.PoolRest.refused n r) f K p =
    subst (λ (u : ℕ). Bounded g u (after_all service_machine (Next h c) bs)) (sym (since-other t (latest bs) (refused_no_advance c K n)))
    (rest-along {b = (lists.entry_of service_machine k h b c).book} bs rest r f.1 (step-goes service_lawful c K).kept (subst (Bounded g t) (sym (refused-same K c n)) p))

prepares_no_advance : {n : ℕ} {c : Call} → Prepares n c → advance_clock c ≡ lists.none
prepares_no_advance (lists.Prepares.admit d v) = refl
prepares_no_advance (lists.Prepares.block d v now) = refl
prepares_no_advance (lists.Prepares.wake d v) = refl
prepares_no_advance (lists.Prepares.offline d v now) = refl
prepares_no_advance (lists.Prepares.offline-all d now) = refl
prepares_no_advance (lists.Prepares.mask d v m e) = refl
prepares_no_advance (lists.Prepares.weigh d v w) = refl
prepares_no_advance (lists.Prepares.boost on) = refl

-- the latest advance of a list that begins with another call is that of its rest
latest-rest : {e : Clock} (l : Clock) → e ≡ lists.none → l ≡ or_earlier l e
latest-rest lists.none h = sym h
latest-rest (lists.at u) h = refl

-- ... and of one that begins with an advance is its own, if the rest has none
latest-first : (n : ℕ) (l : Clock) → lists.at (since n l) ≡ or_earlier l (lists.at n)
latest-first n lists.none = refl
latest-first n (lists.at u) = refl

-- at a point of a pool list, by the clock of the latest advance
pub data At (g : ℕ) (h : Host) : Clock → Type 0 where
  before : Prepared h → At g h lists.none
  after : {t : ℕ} → Bounded g t h → At g h (lists.at t)

pub list_along : {k : Shape} {b : Book} {h : Host} {g : ℕ} (xs rest : List Call)
    → PoolList service_machine g h (xs ++ rest) → AllTyped (xs ++ rest)
    → Kept service_machine k b h → Prepared h → At g (after_all service_machine h xs) (latest xs)
unfolding after_all latest
list_along [] rest r f K P = before P
list_along {k = k} {b = b} {h = h} {g = g} (c ∷ xs) rest (lists.PoolList.prepares d r) f K P =
    subst (At g (after_all service_machine (Next h c) xs)) (latest-rest (latest xs) (prepares_no_advance d))
    (list_along {b = (lists.entry_of service_machine k h b c).book} xs rest r f.1 (step-goes service_lawful c K).kept (prepare K P f.0 d))
list_along {k = k} {b = b} {h = h} {g = g} (c ∷ xs) rest (lists.PoolList.refused n r) f K P =
    subst (At g (after_all service_machine (Next h c) xs)) (latest-rest (latest xs) (refused_no_advance c K n))
    (list_along {b = (lists.entry_of service_machine k h b c).book} xs rest r f.1 (step-goes service_lawful c K).kept (subst Prepared (sym (refused-same K c n)) P))
list_along {k = k} {b = b} {h = h} {g = g} (c ∷ xs) rest (lists.PoolList.starts {n = n} r) f K P =
    subst (At g (after_all service_machine (Next h (Call.Advance n)) xs)) (latest-first n (latest xs))
    (after (rest-along xs rest r f.1 (step-goes service_lawful (Call.Advance n) K).kept (start g n f.0 K P)))

-- where there is one
pub bounded_at : {g : ℕ} {h : Host} {c : Clock} (t : ℕ) → At g h c → c ≡ lists.at t → Bounded g t h
bounded_at t (before P) e = absurd (zero_one cc)
bounded_at {g} {h} t (after {t = u} p) e = let x : u ≡ t = cc in subst (λ (n : ℕ). Bounded g n h) x p

-- at every point no offset is set, and run times are words
pub record Even (h : Host) : Type 0 where
  pub plain : Plain h.scheduler
  pub words : Words h.system

pub even-at : {g : ℕ} {h : Host} {c : Clock} → At g h c → Even h
even-at (before P) = record { plain = P.plain; words = P.words }
even-at (after p) = record { plain = p.plain; words = p.words }
