-- The numbers of the causes of a fault and of the layers.
use Rattle.std.specs.Prelude.{ℕ}
use Rattle.bus.specs.declared.fault.Cause.{Cause}
use Rattle.bus.specs.declared.fault.Cause.TheVariants.{Misaligned, Unmapped, ReadOnly}
use Rattle.bus.specs.declared.fault.Layer.{Layer}
use Rattle.bus.specs.declared.fault.Layer.TheVariants.{Ram, Rom, Timer, Port}

abbrev pub cause_number : Cause → ℕ
cause_number Misaligned = 5
cause_number Unmapped = 6
cause_number ReadOnly = 7

abbrev pub layer_number : Layer → ℕ
layer_number Ram = 1
layer_number Rom = 2
layer_number Timer = 3
layer_number Port = 4
