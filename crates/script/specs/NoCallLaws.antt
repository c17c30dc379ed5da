-- What is no call by its bytes is told 9 by the script that comes to it. Assumes nothing.
use Rattle.std.specs.Prelude.{◌≡◌, ℕ, zero, suc, ◌*◌, true, List, drop, refl}
use Rattle.std.proofs.lemmas.Bool.{false≢true}
use Rattle.std.proofs.Common.{◌∙◌, ap, eqb-true}
use Rattle.system.specs.declared.Answer.TheVariants.{BadScript}
use Rattle.system.specs.Answers.{told}
use Rattle.host.specs.declared.Host.{Host}
use Rattle.records.specs.declared.Plan.{Plan}
use Rattle.records.specs.Records.{plan_of}
use Rattle.script.specs.declared.Script.{Script}
use Rattle.script.specs.Script.{carried, built_after, answered, script_next, script_after}
use Rattle.script.specs.NoCall.{is_no_call, built_at, no_call_at}

pub built-at : (c : Script) (bs : List ℕ) (n : ℕ) → (script_after c bs n).built ≡ built_at c.built bs n
unfolding script_after script_next built_at
built-at c bs zero = refl
built-at c bs (suc n) = ap (λ b. built_after b (plan_of b (drop (n * 20) bs))) (built-at c bs n)

no_call-carried : (h : Host) (p : Plan) → is_no_call p ≡ true → (carried h p).number ≡ told BadScript
unfolding carried
no_call-carried h (Plan.Refuse a) e = eqb-true (told a) (told BadScript) e
no_call-carried h (Plan.Build s) e = absurd (false≢true e)
no_call-carried h (Plan.Call c) e = absurd (false≢true e)

pub no_call-told : (c : Script) (bs : List ℕ) (n : ℕ) → no_call_at c.built bs n ≡ true
    → (answered (script_after c bs n) (drop (n * 20) bs)).number ≡ told BadScript
no_call-told c bs n e =
    no_call-carried (script_after c bs n).host _ (ap (λ b. is_no_call (plan_of b (drop (n * 20) bs))) (built-at c bs n) ∙ e)
