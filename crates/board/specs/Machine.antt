-- A machine, as a specification sees a board: the processor, and what its bus means.
use Rattle.std.specs.Prelude.{Ok, Err, Result}
use Rattle.cpu.specs.declared.processor.Processor.{Processor}
use Rattle.board.specs.declared.machine.Board.{Board}

pub record Machine (M : Type 0) : Type 0 where
  pub cpu : Processor
  pub bus : M

abbrev pub machine : {M : Type 0} → Processor → M → Machine M
machine p m = record { cpu = p; bus = m }

abbrev pub with_cpu : {M : Type 0} → Machine M → Processor → Machine M
with_cpu s p = machine p s.bus

-- the machine after something that may fail: as it was where it has failed
abbrev pub or_stay : {M E : Type 0} → Machine M → Result (Machine M) E → Machine M
or_stay s (Ok t) = t
or_stay s (Err e) = s

-- whether it failed, and why
abbrev pub told : {M E : Type 0} → Result (Machine M) E → Result (Unit {0}) E
told (Ok t) = Ok tt
told (Err e) = Err e

-- a board as a machine, by what its bus means
abbrev pub seen : {B M : Type 0} → (B → M) → Board B → Machine M
seen means b = machine b.processor (means b.bus)
