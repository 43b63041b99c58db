-- Loads and stores: how many bytes they move, where, and what a load makes of them.
use Rattle.std.specs.Prelude.{ℕ, ◌+◌, ◌%◌, ◌^◌}
use Rattle.isa.specs.declared.operation.LoadOp.{LoadOp}
use Rattle.isa.specs.declared.operation.LoadOp.TheVariants.{Lb, Lh, Lw, Lhu, Lbu}
use Rattle.isa.specs.declared.operation.StoreOp.{StoreOp}
use Rattle.isa.specs.declared.operation.StoreOp.TheVariants.{Sh, Sb, Sw}
use Rattle.isa.specs.declared.register.Register.{Register}
use Rattle.isa.specs.declared.operation.ExtendOp.TheVariants.{Sextb, Sexth}
use Rattle.alu.specs.Extend.{sign_extended, extended}
use Rattle.bus.specs.declared.size.Size.{Size}
use Rattle.bus.specs.declared.size.Size.TheVariants.{Byte, Half, Word}
use Rattle.cpu.specs.State.{reg}
use Rattle.cpu.specs.declared.processor.Processor.{Processor}

abbrev pub load_size : LoadOp → Size
load_size Lb = Byte
load_size Lh = Half
load_size Lw = Word
load_size Lhu = Half
load_size Lbu = Byte

abbrev pub store_size : StoreOp → Size
store_size Sb = Byte
store_size Sh = Half
store_size Sw = Word

abbrev pub loaded : LoadOp → ℕ → ℕ
loaded Lb v = extended Sextb v
loaded Lh v = extended Sexth v
loaded Lw v = v
loaded Lhu v = v
loaded Lbu v = v

abbrev pub data_address : Processor → Register → ℕ → ℕ
data_address p base offset = (reg p base + sign_extended 16 offset) % 2 ^ 32
