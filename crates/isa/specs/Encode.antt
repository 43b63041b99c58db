-- How an instruction lies in its word. Only a private function cites this: what encoding answers is said by decoding.
use Rattle.std.specs.Prelude.{◌≡◌, ℕ, ◌+◌, ◌*◌, ◌^◌, ◌<◌}
use Rattle.isa.specs.declared.instruction.Instruction.{Instruction}
use Rattle.isa.specs.declared.operation.RaiseOp.{RaiseOp}

-- a number with these fields A and B and low 16 bits, and nothing above
abbrev pub Packed : ℕ → ℕ → ℕ → ℕ → Type 0
Packed a b low n = (n ≡ a * 2 ^ 21 + b * 2 ^ 16 + low) × (low < 2 ^ 16)

abbrev pub raise_code : RaiseOp → ℕ
raise_code RaiseOp.Break = 2
raise_code RaiseOp.Scall = 7

-- a number is the 26 bits of an instruction that stand below the opcode
abbrev pub Laid : Instruction → ℕ → Type 0
Laid (Instruction.Immediate op from value to) n = Packed from.number to.number value n
Laid (Instruction.ShiftImmediate op from amount to) n = Packed from.number to.number amount.places n
Laid (Instruction.Load op base offset to) n = Packed base.number to.number offset n
Laid (Instruction.Store op base offset from) n = Packed base.number from.number offset n
Laid (Instruction.Branch op left right offset) n = Packed left.number right.number offset n
Laid (Instruction.Register op left right to) n = Packed left.number right.number (to.number * 2 ^ 11) n
Laid (Instruction.Extend op from to) n = Packed from.number 0 (to.number * 2 ^ 11) n
Laid (Instruction.Jump op target) n = Packed target.number 0 0 n
Laid (Instruction.JumpOffset op offset) n = n ≡ offset.bits
Laid (Instruction.ReadCsr csr to) n = Packed csr.number 0 (to.number * 2 ^ 11) n
Laid (Instruction.WriteCsr csr from) n = Packed csr.number from.number 0 n
Laid (Instruction.Raise op) n = Packed 0 0 (raise_code op) n
