-- A load, its records one by one and its whole script are the page's, of any seed, shape and count. Assumes nothing.
use Rattle.std.specs.Prelude.{None, Some}
use Prim.Native.Nat.{ℕ, zero, suc, ◌-◌, ◌*◌}
use mathlib.Core.Bool.{Bool, true, false, cond, ◌&&◌}
use mathlib.Core.List.{List, ◌++◌}
use mathlib.Core.Path.{◌≡◌, refl, sym, ◌∙◌, ap, ap₂}
use native.Mathlib.Omega.{arith}
use lib.Dec.{leb, eqb}
use lib.Seq.{sets}
use borrow.Author.Tests.{le-leb, ne_eqb}
use Rattle.records.specs.declared.Record.{Record}
use Rattle.records.specs.declared.Shape.{Shape}
use Rattle.records.specs.Bytes as written
use Rattle.load_calls.specs.declared.Called.{Called}
use Rattle.load_script.specs.declared.Load.{Load}
use Rattle.load_script.specs.declared.Opened.{Opened}
use Rattle.load_calls.specs.Calls as calls
use Rattle.load_script.specs.Loads as loads
use Rattle.load_script.proofs.Laws.{record_is}
use Rattle.page.specs.Page.{times}
use Rattle.page.specs.Handed.{HandsLoad}
use Rattle.page.specs.Numbers.{parts}
use Rattle.page.specs.Script.{record_bytes}
use Rattle.page.specs.Load as page
use Rattle.page.proofs.Steps.{answer-is}
use Rattle.page.proofs.ScriptLaws.{record_bytes_are}
use Rattle.page.proofs.DrawLaws.{called_is}

-- ---- opened: the number told, and the load
abbrev opening : loads.LoadOutcome → page.Opening
opening r = record { number = r.number; load = r.load }

opened-is : (seed : ℕ) (s : Shape) (count : ℕ) → opening (loads.opened seed s count) ≡ page.opened seed s count
unfolding loads.opened page.opened
opened-is seed s count =
    go (eqb seed 0) (leb s.num_domains 16 && (leb s.vcpus_per_domain 8 && leb s.num_pcpus 64))
  where
    done : loads.LoadOutcome
    done = record { number = 0; load = loads.begin seed s count }

    go : (a b : Bool)
        → opening (cond a (record { number = 15; load = loads.no_load }) (cond b done (record { number = 7; load = loads.no_load })))
        ≡ cond a (page.refused 15) (cond b (opening done) (page.refused 7))
    go true b = refl
    go false true = refl
    go false false = refl

-- what the code hands back
pub hands-load : (seed : ℕ) (s : Shape) (count : ℕ) (r : Opened) → loads.load_outcome r ≡ loads.opened seed s count
    → HandsLoad r (page.opened seed s count)
hands-load seed s count r e =
    let same = ap opening e ∙ opened-is seed s count in
    record {
      number = sym (answer-is r.answer) ∙ ap (λ (x : page.Opening). x.number) same;
      load = ap (λ (x : page.Opening). x.load) same;
    }

-- ---- handed out, of any load
abbrev pub handing : loads.Handed → page.Handed
handing r = record { next = r.next; load = r.load }

abbrev pub filling : loads.Filled → page.Filled
filling r = record { load = r.load; written = r.written }

module _ (l : Load) where
  next-call-is : loads.next_call l ≡ page.next_call l
  next-call-is = called_is l.build.dom l.build.vcpu l.generator.state l.clock

  first-is : loads.first l ≡ page.first l
  unfolding loads.first
  first-is = ap (λ (c : Called). cond l.built c.call l.build) next-call-is

  rest-is : loads.rest l ≡ page.rest l
  unfolding loads.rest
  rest-is = ap (λ (c : Called). cond l.built (past c) (loads.past_build l)) next-call-is
    where
      past : Called → Load
      past c = record { build = l.build; generator = record { state = c.state }; clock = c.clock; built = true; left = l.left - 1 }

  pub left_is : loads.size l ≡ page.left l
  left_is = refl

  pub handed-is : handing (loads.handed l) ≡ page.handed l
  handed-is =
      over (eqb (loads.size l) 0)
      ∙ (ap₂ (λ (r : Record) (m : Load). cond (eqb (loads.size l) 0) none (some r m)) first-is rest-is ∙ go (page.left l))
    where
      none : page.Handed
      none = record { next = None; load = l }

      some : Record → Load → page.Handed
      some r m = record { next = Some r; load = m }

      over : (b : Bool)
          → handing (cond b (record { next = None; load = l }) (record { next = Some (loads.first l); load = loads.rest l }))
          ≡ cond b none (some (loads.first l) (loads.rest l))
      over true = refl
      over false = refl

      go : (n : ℕ) → cond (eqb n 0) none (some (page.first l) (page.rest l))
          ≡ cond (leb 1 n) (some (page.first l) (page.rest l)) none
      go zero = refl
      go (suc n) = rw (ne_eqb (suc n) 0 (λ e. omega arith), le-leb 1 (suc n) (omega arith))

module _ (l : Load) where
  after_is : (n : ℕ) → loads.load_after n l ≡ page.load_after n l
  unfolding loads.load_after page.load_after times
  after_is zero = refl
  after_is (suc n) = ap loads.rest (after_is n) ∙ rest-is (page.load_after n l)

  stretch-is : (n : ℕ) → loads.stretch n l ≡ page.stretch n l
  unfolding loads.stretch page.stretch times
  stretch-is zero = refl
  stretch-is (suc n) =
      ap₂ ◌++◌ (stretch-is n)
      (ap (λ (m : Load). written.record_bytes (loads.first m)) (after_is n)
      ∙ (ap written.record_bytes (first-is (page.load_after n l)) ∙ record_bytes_are (page.first (page.load_after n l))))

  -- what `fill` hands back, and what it leaves of the bytes that it writes over
  pub filled_is : (out : List ℕ) → filling (loads.filled l out) ≡ page.filled l out
  filled_is out = ap filled (after_is (page.fitting l out))
    where
      filled : Load → page.Filled
      filled m = record { load = m; written = page.fitting l out * 20 }

  pub filled-out-is : (out : List ℕ) → sets out 0 (loads.stretch (loads.fitting l out) l) ≡ page.filled_out l out
  filled-out-is out = ap (sets out 0) (stretch-is (page.fitting l out))

-- ---- the records by the load's numbers alone, and the whole script
module _ (seed : ℕ) (s : Shape) where
  pub nth-is : (n : ℕ) → loads.chain seed s n ≡ page.nth seed s n
  unfolding loads.chain page.nth times
  nth-is zero = refl
  nth-is (suc n) =
      ap (λ (c : Called). calls.called s.num_domains s.vcpus_per_domain c.state c.clock) (nth-is n)
      ∙ called_is s.num_domains s.vcpus_per_domain (page.nth seed s n).state (page.nth seed s n).clock

  pub script-is : (count : ℕ) → loads.script (loads.begin seed s count) ≡ page.script seed s count
  unfolding loads.stretch page.script times
  script-is count = go (suc count)
    where
      go : (n : ℕ) → loads.stretch n (loads.begin seed s count) ≡ parts n (λ k. record_bytes (page.nth seed s k).call)
      go zero = refl
      go (suc n) =
          ap₂ ◌++◌ (go n)
          (record_bytes_are (loads.nth_record (loads.begin seed s count) n)
          ∙ ap record_bytes (record_is seed s count n ∙ ap (λ (c : Called). c.call) (nth-is n)))

  -- what is handed out record by record is the whole script
  pub handed_out_lem : (count : ℕ) → page.stretch (suc count) (loads.begin seed s count) ≡ page.script seed s count
  handed_out_lem count = sym (stretch-is (loads.begin seed s count) (suc count)) ∙ script-is count
