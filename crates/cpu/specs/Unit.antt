-- The optional units, and which of them a configuration has.
use Rattle.std.specs.Prelude.{ℕ, Bool}
use Rattle.cpu.specs.Config.{has_bit}
use Rattle.cpu.specs.declared.config.Config.{Config}
use Rattle.cpu.specs.declared.unit.Unit.{Unit}
use Rattle.cpu.specs.declared.unit.Unit.TheVariants.{Multiplier, Divider, Shifter, SignExtension, CycleCounter, Debug}

abbrev pub unit_bit : Unit → ℕ
unit_bit Multiplier = 0
unit_bit Divider = 1
unit_bit Shifter = 2
unit_bit SignExtension = 4
unit_bit CycleCounter = 5
unit_bit Debug = 8

-- `multiplies` to `debugs` of Config, one for each unit
abbrev pub has_unit : Config → Unit → Bool
has_unit c u = has_bit (unit_bit u) c.cfg
