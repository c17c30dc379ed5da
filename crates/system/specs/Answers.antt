-- What a call can be told.
use Rattle.std.specs.Prelude.{ℕ}
use Rattle.system.specs.declared.Answer.{Answer}
use Rattle.system.specs.declared.Answer.TheVariants.{Done, BadDomain, BadVcpu, BadPcpu, PcpuBusy, NotAffine}
use Rattle.system.specs.declared.Answer.TheVariants.{TooLarge, Unsound, BadScript, BadFile, NotInFile, BadSeed}
use Rattle.system.specs.declared.Answer.TheVariants.{FoundOffline, FoundRunnable, FoundRunning, FoundBlocked}
use Rattle.system.specs.declared.System.{System}

-- each answer's number; 4, 10, 11 and 12 are told of a vCPU found in a state that the call does not accept
abbrev pub told : Answer → ℕ
told Done = 0
told BadDomain = 1
told BadVcpu = 2
told BadPcpu = 3
told FoundRunnable = 4
told PcpuBusy = 5
told NotAffine = 6
told TooLarge = 7
told Unsound = 8
told BadScript = 9
told FoundOffline = 10
told FoundRunning = 11
told FoundBlocked = 12
told BadFile = 13
told NotInFile = 14
told BadSeed = 15

-- the number told, and the system that the call leaves
pub record SystemOutcome : Type 0 where
  pub number : ℕ
  pub system : System

abbrev pub system_outcome : Answer → System → SystemOutcome
system_outcome a s = record { number = told a; system = s }
