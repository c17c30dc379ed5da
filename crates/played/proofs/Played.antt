-- What a script holds is the host of its latest build after the calls since, and demand 3 holds of it. Assumes
-- nothing.
use Rattle.std.proofs.Common.{ℕ, zero, suc, ◌+◌, ◌*◌, ◌%◌, ◌^◌, Bool, false, ◌≡◌, refl, sym, ◌∙◌, ap, ap₂, List, [], ◌∷◌, ◌++◌, drop, add-one, arith}
use Rattle.std.proofs.lemmas.Bool.{false≢true}
use native.Mathlib.Nat.{mod-add-mod}
use Rattle.host.specs.declared.Host.{Host}
use Rattle.calls.specs.declared.Call.{Call}
use Rattle.host.specs.Step.{step, host_after}
use Rattle.calls.specs.Typed.{Typed}
use Rattle.demand3.specs.Lists.{AllTyped}
use Rattle.demand3.specs.Built.{asked}
use Rattle.demand3.proofs.Laws.{demand_3, host-after-same}
use Rattle.records.specs.declared.Plan.{Plan}
use Rattle.script.specs.declared.Script.{Script}
use Rattle.script.specs.Script.{begun, carried, built_after, script_next, line_told, host_shown, entry, script_after, text}
use Rattle.played.specs.Played.{Played, nothing, with, plan_at, played, host_built, host_of, answer_to, moves_of}
use Rattle.played.specs.Played.{line_of, written}
use Rattle.big_endian.specs.Numbers.{AllBytes}
use Rattle.big_endian.specs.Laws.{bytes_left}
use Rattle.played.specs.Played.{shape_built, Sized, EveryScript}
use Rattle.played.proofs.Plans.{Fit, refuse, build, call, plan-fits}

-- the script after n records that came to r
abbrev script_of : ℕ → Played → Script
script_of n r = record { number = n % 2 ^ 64; built = r.built; host = host_of r }

-- one call more
call-more : (cs : List Call) (h : Host) (c : Call) → host_after h (cs ++ (c ∷ [])) ≡ (step (host_after h cs) c).host
unfolding host_after
call-more [] h c = refl
call-more (x ∷ cs) h c = call-more cs (step h x).host c

typed-more : (cs : List Call) (c : Call) → AllTyped cs → Typed c → AllTyped (cs ++ (c ∷ []))
typed-more [] c a t = (t, tt)
typed-more (x ∷ cs) c a t = (a.0, typed-more cs c a.1 t)

-- the host that a record leaves, what it is told, and its line
host-with : (r : Played) {p : Plan} → Fit r.built p → (carried (host_of r) p).host ≡ host_of (with r p)
unfolding carried host_after
host-with r (refuse a) = refl
host-with r (build s w z) = rw w
host-with r (call c b t) = sym (call-more r.calls (host_built r.shape) c)

built-with : (r : Played) {p : Plan} → Fit r.built p → built_after r.built p ≡ (with r p).built
built-with r (refuse a) = refl
built-with r (build s w z) = refl
built-with r (call c b t) = refl

answer-with : (r : Played) {p : Plan} → Fit r.built p → (carried (host_of r) p).number ≡ answer_to r p
unfolding carried
answer-with r (refuse a) = refl
answer-with r (build s w z) = rw w
answer-with r (call c b t) = refl

moves-with : (r : Played) {p : Plan} → Fit r.built p → (carried (host_of r) p).count ≡ moves_of r p
unfolding carried
moves-with r (refuse a) = refl
moves-with r (build s w z) = rw w
moves-with r (call c b t) = refl

-- what is kept: before a build nothing was played; sizes and types
record Kept (r : Played) : Type 0 where
  unbuilt : r.built ≡ false → r ≡ nothing
  sized : Sized r.shape
  typed : AllTyped r.calls

kept-with : (r : Played) {p : Plan} → Fit r.built p → Kept r → Kept (with r p)
kept-with r (refuse a) k = k
kept-with r (build s w z) k = record { unbuilt = λ e. absurd (false≢true (sym e)); sized = z; typed = tt }
kept-with r (call c b t) k =
    record {
      unbuilt = λ e. absurd (false≢true (sym e ∙ b));
      sized = k.sized;
      typed = typed-more r.calls c k.typed t;
    }

counted : (n : ℕ) → (n % 2 ^ 64 + 1) % 2 ^ 64 ≡ suc n % 2 ^ 64
counted n = mod-add-mod n (2 ^ 64) 1 ∙ ap (λ (k : ℕ). k % 2 ^ 64) (add-one n)

module _ (bs : List ℕ) (bytes : AllBytes bs) where
  fits : (n : ℕ) → Fit (played bs n).built (plan_at (played bs n) bs n)
  fits n = plan-fits (played bs n).built (drop (n * 20) bs) (bytes_left (n * 20) bs bytes)

  script-after : (n : ℕ) → script_after begun bs n ≡ script_of n (played bs n)
  unfolding script_after script_next played host_after
  script-after zero = refl
  script-after (suc n) =
      let r = played bs n in
      ap (λ (c : Script). script_next c (drop (n * 20) bs)) (script-after n)
      ∙ rw (counted n, built-with r (fits n), host-with r (fits n))

  kept : (n : ℕ) → Kept (played bs n)
  unfolding played
  kept zero =
      record {
        unbuilt = λ e. refl;
        sized = record { sizes = record { domains = omega arith; vcpus = omega arith; pcpus = omega arith }; slice = omega arith };
        typed = tt;
      }
  kept (suc n) = kept-with (played bs n) (fits n) (kept n)

  line_after : (n : ℕ) → line_told (script_after begun bs n) (drop (n * 20) bs) ≡ line_of bs n
  line_after n =
      let r = played bs n in
      ap (λ (c : Script). line_told c (drop (n * 20) bs)) (script-after n)
      ∙ rw (counted n, answer-with r (fits n), moves-with r (fits n))

  text-after : (states : Bool) (n : ℕ) → text states begun bs n ≡ written states bs n
  unfolding text entry script_after written
  text-after states zero = refl
  text-after states (suc n) =
      ap₂ ◌++◌ (text-after states n) (ap₂ ◌++◌ (line_after n) (ap (host_shown states) (script-after (suc n))))

pub as_played : EveryScript
as_played bs bytes n =
    let r = played bs n in
    let k = kept bs bytes n in
    let s = r.shape in
    record {
      script = script-after bs bytes n;
      unbuilt = k.unbuilt;
      text = λ states. text-after bs bytes states n;
      sized = k.sized;
      typed = k.typed;
      holds =
          record {
            host = λ before. sym (host-after-same (host_built s) before);
            holds = demand_3 (asked (shape_built s) s.quantum k.sized.sizes) r.calls k.typed;
          };
    }
