-- A fresh host of the service policy, and what a list of calls leaves of it.
use Rattle.std.specs.Prelude.{ℕ, ◌≤◌, List}
use Rattle.host.specs.declared.Host.{Host}
use Rattle.calls.specs.declared.Call.{Call}
use Rattle.host.specs.Step.{fresh_host}
use Rattle.demand3.specs.Dated.{Dated}
use Rattle.demand3.specs.Book.{Book, Shape, blank_book}
use Rattle.demand3.specs.ServiceMachine.{service_machine}
use Rattle.demand3.specs.Lists.{after_all, book_after, moves_after}

-- a shape within the sizes
pub record Sized (k : Shape) : Type 0 where
  pub domains : k.domains ≤ 16
  pub vcpus : k.vcpus ≤ 8
  pub pcpus : k.pcpus ≤ 64

-- a system of a shape within the sizes; a policy of any shape, so many domains of so many vCPUs; any slice, 0 included
pub record Fresh : Type 0 where
  pub shape : Shape
  pub domains : ℕ
  pub vcpus : ℕ
  pub slice : ℕ
  pub sized : Sized shape

module _ (f : Fresh) where
  -- as built
  abbrev pub first_host : Host
  first_host = let k = f.shape in fresh_host k.domains k.vcpus k.pcpus f.domains f.vcpus f.slice

  -- after a list of calls: the host, its book, and the dated moves
  abbrev pub host_at : List Call → Host
  host_at cs = after_all service_machine first_host cs

  abbrev pub book_at : List Call → Book
  book_at cs = book_after service_machine f.shape first_host (blank_book f.shape) cs

  abbrev pub moves_at : List Call → List Dated
  moves_at cs = moves_after service_machine f.shape first_host (blank_book f.shape) cs
