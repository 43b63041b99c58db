-- What every processor keeps: the PC is a multiple of 4, the exception bases are multiples of 256.
use Rattle.std.specs.Prelude.{◌≡◌, ◌%◌}
use Rattle.cpu.specs.declared.processor.Processor.{Processor}

pub record Aligned (p : Processor) : Type 0 where
  pub pc : p.pc % 4 ≡ 0
  pub eba : p.status.eba % 256 ≡ 0
  pub deba : p.status.deba % 256 ≡ 0
