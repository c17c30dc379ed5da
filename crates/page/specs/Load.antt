-- The test load of 2.7: a script drawn from a seed.
use Rattle.std.specs.Prelude.{ℕ, ◌+◌, ◌-◌, ◌*◌, ◌/◌, ◌%◌, ◌^◌, suc, min, Bool, true, false, cond, ◌&&◌, List, [], ◌∷◌, leb, eqb, length, get_or, Option, None, Some}
use Rattle.std.specs.Int.Bits.{bit_xor}
use Rattle.std.proofs.lemmas.List.Edits.{sets}
use Rattle.records.specs.declared.Record.{Record}
use Rattle.records.specs.declared.Shape.{Shape}
use Rattle.load_calls.specs.declared.Drawn.{Drawn}
use Rattle.load_calls.specs.declared.Called.{Called}
use Rattle.load_script.specs.declared.Load.{Load}
use Rattle.page.specs.Host.{times}
use Rattle.page.specs.Numbers.{parts}
use Rattle.page.specs.Script.{record_bytes}

-- ---- Marsaglia's 64-bit xorshift: left 13, right 7, left 17. The number drawn is the next state.
unfoldable pub draw : ℕ → ℕ
draw x =
    let a = bit_xor x (x * 2 ^ 13 % 2 ^ 64) in
    let b = bit_xor a (a / 2 ^ 7) in
    bit_xor b (b * 2 ^ 17 % 2 ^ 64)

-- a draw that may be left out: the number, 0 then, and the state after it
abbrev pub draw_if : Bool → ℕ → ℕ
draw_if wanted x = cond wanted (draw x) 0

abbrev pub state_if : Bool → ℕ → ℕ
state_if wanted x = cond wanted (draw x) x

-- ---- What a call draws on a host of d domains of v vCPUs: its kind modulo 5; all but an advance then domain and vCPU,
-- where there is one to draw; last a mask its value, a block and an advance a step
unfoldable pub drawn : ℕ → ℕ → ℕ → Drawn
drawn d v x =
    let kind = draw x in
    let past = state_if (leb 1 d) kind in
    let end = state_if (leb 1 v) past in
    let ids : ℕ → ℕ → Drawn = λ last state. record {
      numbers = record { kind = kind; dom = draw_if (leb 1 d) kind; vcpu = draw_if (leb 1 v) past; last = last };
      state = state;
    } in
    get_or (ids 0 end ∷ ids (draw end) (draw end) ∷ ids 0 end ∷ ids (draw end) (draw end) ∷ []) (kind % 5)
    (record { numbers = record { kind = kind; dom = 0; vcpu = 0; last = draw kind }; state = draw kind })

-- ---- The record of a call, from a state and a clock, and both after it: admit, block, wake, mask, advance
abbrev pub remainder : ℕ → ℕ → ℕ
remainder x n = cond (leb 1 n) (x % n) 0

-- held at the last reading there is, which no load reaches
abbrev pub later : ℕ → ℕ → ℕ
later clock x = min (clock + x % 100) (2 ^ 64 - 1)

unfoldable pub called : ℕ → ℕ → ℕ → ℕ → Called
called d v x clock =
    let n = (drawn d v x).numbers in
    let now = later clock n.last in
    let made : ℕ → ℕ → ℕ → Called = λ kind value clock. record {
      call =
          record { kind = kind; dom = remainder n.dom d; vcpu = remainder n.vcpu v; third = 0; value = value };
      state = (drawn d v x).state;
      clock = clock;
    } in
    get_or (made 1 0 clock ∷ made 4 now now ∷ made 5 0 clock ∷ made 7 n.last clock ∷ []) (n.kind % 5) (made 9 now now)

-- ---- A load: a build, then as many calls as its count says, from the seed and clock 0
abbrev pub build_record : Shape → Record
build_record s =
    record { kind = 0; dom = s.num_domains; vcpu = s.vcpus_per_domain; third = s.num_pcpus; value = s.quantum }

-- record n, from 0 on, and the state and the clock after it
unfoldable pub nth : ℕ → Shape → ℕ → Called
nth seed s n =
    times (λ _ c. called s.num_domains s.vcpus_per_domain c.state c.clock) n
    (record { call = build_record s; state = seed; clock = 0 })

unfoldable pub script : ℕ → Shape → ℕ → List ℕ
script seed s count = parts (suc count) (λ n. record_bytes (nth seed s n).call)

-- ---- Handed out record by record: the build first
pub record Opening : Type 0 where
  pub number : ℕ
  pub load : Load

abbrev pub refused : ℕ → Opening
refused n =
    record {
      number = n;
      load =
          record {
            build = record { kind = 0; dom = 0; vcpu = 0; third = 0; value = 0 };
            generator = record { state = 0 };
            clock = 0;
            built = true;
            left = 0;
          };
    }

-- a seed of 0 is told 15, then a shape above the sizes 7; a refused load has no records
unfoldable pub opened : ℕ → Shape → ℕ → Opening
opened seed s count =
    cond (eqb seed 0) (refused 15)
    (cond (leb s.num_domains 16 && (leb s.vcpus_per_domain 8 && leb s.num_pcpus 64))
    (record {
      number = 0;
      load = record { build = build_record s; generator = record { state = seed }; clock = 0; built = false; left = count };
    })
    (refused 7))

-- how many records are to come
abbrev pub left : Load → ℕ
left l = cond l.built l.left (suc l.left)

-- the one that comes next, and the load after it
abbrev pub next_call : Load → Called
next_call l = called l.build.dom l.build.vcpu l.generator.state l.clock

abbrev pub first : Load → Record
first l = cond l.built (next_call l).call l.build

abbrev pub rest : Load → Load
rest l =
    cond l.built
    (record {
      build = l.build;
      generator = record { state = (next_call l).state };
      clock = (next_call l).clock;
      built = true;
      left = l.left - 1;
    })
    (record { build = l.build; generator = l.generator; clock = l.clock; built = true; left = l.left })

-- what is handed out, if anything, and the load after it; one that is over stays as it is
pub record Handed : Type 0 where
  pub next : Option Record
  pub load : Load

abbrev pub handed : Load → Handed
handed l =
    cond (leb 1 (left l)) (record { next = Some (first l); load = rest l })
    (record { next = None; load = l })

-- after n records, and their bytes
unfoldable pub load_after : ℕ → Load → Load
load_after n l = times (λ _ m. rest m) n l

unfoldable pub stretch : ℕ → Load → List ℕ
stretch n l = parts n (λ k. record_bytes (first (load_after k l)))

-- as many as there are and as there is room for
abbrev pub fitting : Load → List ℕ → ℕ
fitting l out = min (left l) (length out / 20)

-- the load after them, and how many bytes they are
pub record Filled : Type 0 where
  pub load : Load
  pub written : ℕ

abbrev pub filled : Load → List ℕ → Filled
filled l out = record { load = load_after (fitting l out) l; written = fitting l out * 20 }

abbrev pub filled_out : Load → List ℕ → List ℕ
filled_out l out = sets out 0 (stretch (fitting l out) l)
