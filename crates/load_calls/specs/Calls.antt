-- A call of a load: what it draws, and the record that this makes.
use Rattle.std.specs.Prelude.{ℕ, ◌+◌, ◌-◌, ◌%◌, ◌^◌, min, Bool, true, false, cond, not, ◌&&◌, [], ◌∷◌, eqb, get_or}
use Rattle.generator.specs.Xorshift.{after, drawn_if, state_if}
use Rattle.load_calls.specs.declared.Kind.{Kind}
use Rattle.load_calls.specs.declared.Kind.TheVariants.{Admit, Block, Wake, Mask, Advance}
use Rattle.load_calls.specs.declared.Numbers.{Numbers}
use Rattle.load_calls.specs.declared.Drawn.{Drawn}
use Rattle.load_calls.specs.declared.Called.{Called}

-- ---- what is drawn

-- the kind that a number drawn stands for, by its remainder
unfoldable pub kind_of : ℕ → Kind
kind_of n = get_or (Admit ∷ Block ∷ Wake ∷ Mask ∷ []) (n % 5) Advance

-- all but an advance have a domain and a vCPU
abbrev pub has_ids : Kind → Bool
has_ids Admit = true
has_ids Block = true
has_ids Wake = true
has_ids Mask = true
has_ids Advance = false

-- a mask has its value, a block and an advance a step of the clock
abbrev pub has_last : Kind → Bool
has_last Admit = false
has_last Block = true
has_last Wake = false
has_last Mask = true
has_last Advance = true

-- an id is drawn where the kind has one and there is one to draw
abbrev pub id_drawn : Kind → ℕ → Bool
id_drawn k count = has_ids k && not (eqb count 0)

abbrev pub draws_id : ℕ → ℕ → Bool
draws_id n count = id_drawn (kind_of n) count

abbrev pub draws_last : ℕ → Bool
draws_last n = has_last (kind_of n)

-- the states after the kind, the domain, the vCPU and the last number, where a host has d domains of v vCPUs
abbrev pub after_dom : ℕ → ℕ → ℕ
after_dom d x = state_if (draws_id (after x) d) (after x)

abbrev pub after_vcpu : ℕ → ℕ → ℕ → ℕ
after_vcpu d v x = state_if (draws_id (after x) v) (after_dom d x)

unfoldable pub state_drawn : ℕ → ℕ → ℕ → ℕ
state_drawn d v x = state_if (draws_last (after x)) (after_vcpu d v x)

-- the numbers drawn on the way
unfoldable pub numbers_drawn : ℕ → ℕ → ℕ → Numbers
numbers_drawn d v x =
    record {
      kind = after x;
      dom = drawn_if (draws_id (after x) d) (after x);
      vcpu = drawn_if (draws_id (after x) v) (after_dom d x);
      last = drawn_if (draws_last (after x)) (after_vcpu d v x);
    }

abbrev pub drawn : ℕ → ℕ → ℕ → Drawn
drawn d v x = record { numbers = numbers_drawn d v x; state = state_drawn d v x }

-- ---- what is made of it

-- an id by remainder
abbrev pub id_of : ℕ → ℕ → ℕ
id_of n count = cond (eqb count 0) 0 (n % count)

-- the clock moved on by a step, and no further than the last reading there is, which a load does not reach
unfoldable pub later : ℕ → ℕ → ℕ
later t n = min (t + n % 100) (2 ^ 64 - 1)

-- the clock after a call whose last number is n: the step is added before use
abbrev pub clock_after : Kind → ℕ → ℕ → ℕ
clock_after Admit t n = t
clock_after Block t n = later t n
clock_after Wake t n = t
clock_after Mask t n = t
clock_after Advance t n = later t n

-- a script's number for the kind
abbrev pub kind_number : Kind → ℕ
kind_number Admit = 1
kind_number Block = 4
kind_number Wake = 5
kind_number Mask = 7
kind_number Advance = 9

-- the record's value, where the clock is t and the last number n
abbrev pub value_of : Kind → ℕ → ℕ → ℕ
value_of Admit t n = 0
value_of Block t n = t
value_of Wake t n = 0
value_of Mask t n = n
value_of Advance t n = t

-- a call of that kind with those numbers, made as the clock was t
abbrev pub called_by : ℕ → ℕ → ℕ → Kind → Numbers → ℕ → Called
called_by d v t k m x =
    record {
      call =
          record {
            kind = kind_number k;
            dom = id_of m.dom d;
            vcpu = id_of m.vcpu v;
            third = 0;
            value = value_of k (clock_after k t m.last) m.last;
          };
      state = x;
      clock = clock_after k t m.last;
    }

-- the call drawn from the state x as the clock was t
unfoldable pub called : ℕ → ℕ → ℕ → ℕ → Called
called d v x t = called_by d v t (kind_of (after x)) (numbers_drawn d v x) (state_drawn d v x)
