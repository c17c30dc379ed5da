-- A call is told in which state it found its vCPU exactly where it does not accept it. Assumes nothing.
use Rattle.std.specs.Prelude.{Option, None, Some, is_none, Result, Ok, Err}
use Prim.Native.Nat.{ℕ, ◌<◌}
use mathlib.Core.Bool.{Bool, true, false, true≢false}
use mathlib.Core.Path.{◌≡◌, refl, sym, ◌∙◌, ap, subst}
use lib.Dec.{ltb}
use borrow.Author.Tests.{ltb-true, lt-ltb}
use Rattle.system.specs.declared.RunState.{RunState}
use Rattle.system.specs.declared.RunState.TheVariants.{Offline, Runnable, Running, Blocked}
use Rattle.system.specs.declared.System.{System}
use Rattle.system.specs.declared.Answer.{Answer}
use Rattle.system.specs.declared.Answer.TheVariants.{Done, BadDomain, BadVcpu, BadPcpu, PcpuBusy, Unsound}
use Rattle.system.specs.Answers.{told, SystemOutcome}
use Rattle.system.specs.Reads.{vcpu_at, state_at, occupant_at, is_idle, vcpu_of, state_of}
use Rattle.system.specs.Slots.{domains, vcpus, pcpus, slot}
use Rattle.verdict.specs.Violations.{first_violation, invariants_hold}
use Rattle.verdict.specs.Sound.{is-none}
use Rattle.calls.specs.declared.Request.{Request}
use Rattle.changes.specs.declared.Change.{Change}
use Rattle.changes.specs.declared.Change.TheVariants.{Write, Enter, Leave}
use Rattle.changes.specs.Changes.{found_in, reaches}
use Rattle.changes.specs.StateTold.{TellsState, done-tells, unsound-tells}
use Rattle.sched.specs.Steps.{done, tested, applied, made, requested}
use Rattle.sched.specs.StateTold.{requested-tells, offline-all-tells}
use Rattle.advance.specs.Answered.{advance-answered}
use Rattle.calls.specs.declared.Call.{Call}
use Rattle.host.specs.Step.{step}
use Rattle.host.specs.FoundStates.{accepts, Finds, ToldWhere, EveryFound}
use Rattle.host.proofs.Accepting.{ordinary, Ordinary, View, refuses, takes, changed-view}

module _ (s : System) (d v : ℕ) (q : Request) where
  abbrev st : RunState
  st = state_at s (slot d v)

  applied-unfound : (c : Result Change Answer) → Ordinary c → ordinary (applied s (slot d v) c).number ≡ true
  unfolding applied
  applied-unfound (Err a) o = o
  applied-unfound (Ok (Write w)) o = refl
  applied-unfound (Ok (Enter w p)) o = go (is_idle (occupant_at s p)) _
    where
      go : (b : Bool) (t : System) → ordinary (tested b PcpuBusy s (done t)).number ≡ true
      go true t = refl
      go false t = refl
  applied-unfound (Ok (Leave w p)) o = refl

  -- a test that is told otherwise has passed
  passed : (b : Bool) (a : Answer) (r : SystemOutcome) → ordinary (told a) ≡ true → ordinary (tested b a s r).number ≡ false
      → (b ≡ true) × (ordinary r.number ≡ false)
  passed true a r u f = (refl, f)
  passed false a r u f = absurd (true≢false (sym u ∙ f))

  state-read : d < domains s → v < vcpus s → state_of s d v ≡ Some st
  unfolding vcpu_of
  state-read l m = rw (lt-ltb d (domains s) l, lt-ltb v (vcpus s) m)

  -- told one of the four, it has passed every test before the state, and does not accept the state
  finds : (x : RunState) → state_of s d v ≡ Some x → ordinary (requested s d v q).number ≡ false → Finds s d v q x
  unfolding requested invariants_hold
  finds x e f =
      let it = made s (slot d v) q in
      let by-vcpu = tested (ltb v (vcpus s)) BadVcpu s it in
      let by-domain = tested (ltb d (domains s)) BadDomain s by-vcpu in
      let by-pcpu = tested (reaches q (pcpus s)) BadPcpu s by-domain in
      let a = passed (invariants_hold s) Unsound by-pcpu refl f in
      let b = passed (reaches q (pcpus s)) BadPcpu by-domain refl a.1 in
      let c = passed (ltb d (domains s)) BadDomain by-vcpu refl b.1 in
      let g = passed (ltb v (vcpus s)) BadVcpu it refl c.1 in
      let l = ltb-true d (domains s) c.0 in
      let m = ltb-true v (vcpus s) g.0 in
      let same : Some st ≡ Some x = sym (state-read l m) ∙ e in
      let there : st ≡ x = cc in
      record {
        sound = is-none (first_violation s) a.0;
        pcpu = b.0;
        domain = l;
        vcpu = m;
        state = e;
        unaccepted = ap (accepts q) (sym there) ∙ go (changed-view (vcpu_at s (slot d v)) s.pcpu_count q) g.1;
      }
    where
      go : {c : Result Change Answer} → View (accepts q st) st c → ordinary (applied s (slot d v) c).number ≡ false → accepts q st ≡ false
      go (refuses e) f = e
      go {c} (takes e o) f = absurd (true≢false (sym (applied-unfound c o) ∙ f))

  -- and where it does, that is what it is told
  found-told : (x : RunState) → Finds s d v q x → (requested s d v q).number ≡ told (found_in x)
  unfolding requested invariants_hold applied
  found-told x F =
      let same : Some st ≡ Some x = sym (state-read F.domain F.vcpu) ∙ F.state in
      let there : st ≡ x = cc in
      rw (ap is_none F.sound, F.pcpu, lt-ltb d (domains s) F.domain, lt-ltb v (vcpus s) F.vcpu)
      (go (changed-view (vcpu_at s (slot d v)) s.pcpu_count q) (ap (accepts q) there ∙ F.unaccepted)
      ∙ ap (λ (y : RunState). told (found_in y)) there)
    where
      go : {c : Result Change Answer} → View (accepts q st) st c → accepts q st ≡ false → (applied s (slot d v) c).number ≡ told (found_in st)
      go (refuses e) n = refl
      go (takes e o) n = absurd (true≢false (sym e ∙ n))

  requested-found : ToldWhere (Finds s d v q) (requested s d v q).number
  requested-found =
      let T = requested-tells s d v q in
      record {
        offline = ((λ e. finds Offline (T.offline e) (ap ordinary e)), found-told Offline);
        runnable = ((λ e. finds Runnable (T.runnable e) (ap ordinary e)), found-told Runnable);
        running = (
          (λ e. let x = T.running e in (x.0, finds (Running x.0) x.1 (ap ordinary e))),
          (λ x. found-told (Running x.0) x.1),
        );
        blocked = ((λ e. finds Blocked (T.blocked e) (ap ordinary e)), found-told Blocked);
      }

-- ---- the other calls are never told so

-- what names no vCPU tells no state
never : {n : ℕ} → TellsState None n → ToldWhere (λ st. ⊥) n
never T =
    record {
      offline = ((λ e. none-some (T.offline e)), (λ x. absurd x));
      runnable = ((λ e. none-some (T.runnable e)), (λ x. absurd x));
      running = ((λ e. absurd (none-some (T.running e).1)), (λ x. absurd x.1));
      blocked = ((λ e. none-some (T.blocked e)), (λ x. absurd x));
    }
  where
    none-some : {st : RunState} → None ≡ Some st → ⊥
    none-some e = cc

-- done of a sound system, 8 of any other
either-tells : (m : Option RunState) {n : ℕ} (b : Bool) → (b ≡ true → n ≡ told Done) → (b ≡ false → n ≡ told Unsound) → TellsState m n
either-tells m true f g = subst (TellsState m) (sym (f refl)) (done-tells m)
either-tells m false f g = subst (TellsState m) (sym (g refl)) (unsound-tells m)

pub step-found : EveryFound
unfolding step
step-found h (Call.Ask d v q) = requested-found h.system d v q
step-found h (Call.OfflineAll d now) = never (offline-all-tells h.system d now)
step-found h (Call.SetWeight d v w) = never (done-tells None)
step-found h (Call.SetWakeBoost on) = never (done-tells None)
step-found h (Call.Advance now) =
    let a = advance-answered h.system h.scheduler now in
    never (either-tells None (invariants_hold h.system) a.tells.sound a.tells.unsound)
