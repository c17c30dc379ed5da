-- A dated move: that a vCPU went onto a pCPU or came off it, and at what clock.
use Rattle.std.specs.Prelude.{ℕ}

pub data Direction : Type 0 where
  onto : Direction
  off : Direction

pub record Dated : Type 0 where
  pub direction : Direction
  pub slot : ℕ
  pub pcpu : ℕ
  pub clock : ℕ

abbrev pub dated : Direction → ℕ → ℕ → ℕ → Dated
dated w i p now = record { direction = w; slot = i; pcpu = p; clock = now }
