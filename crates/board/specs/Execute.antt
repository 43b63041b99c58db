-- What each form of instruction does to a machine, or what keeps it from being done.
use Rattle.std.specs.Prelude.{ℕ, ◌%◌, Bool, true, cond, Some, None, Ok, Err, Option, Result, ◌==◌}
use Rattle.std.specs.Option.{ok_or}
use Rattle.isa.specs.declared.instruction.Instruction.{Instruction}
use Rattle.isa.specs.declared.operation.LoadOp.{LoadOp}
use Rattle.isa.specs.declared.operation.RaiseOp.{RaiseOp}
use Rattle.isa.specs.declared.operation.RegisterOp.{RegisterOp}
use Rattle.isa.specs.declared.register.Register.{Register}
use Rattle.alu.specs.Arithmetic.{computed, difference, quotient, with_immediate}
use Rattle.alu.specs.Extend.{extended}
use Rattle.alu.specs.Shift.{shifted}
use Rattle.bus.specs.Bytes.{width}
use Rattle.bus.specs.Rules.{Rules, read_answer, write_answer, written}
use Rattle.bus.specs.declared.fault.Fault.{Fault}
use Rattle.cpu.specs.Configured.{configured}
use Rattle.cpu.specs.Csr.{csr_named, csr_read, csr_written}
use Rattle.cpu.specs.Flow.{advanced, resulting, branched, jumped, jumped_by}
use Rattle.cpu.specs.State.{reg}
use Rattle.cpu.specs.declared.answer.Stop.{Stop}
use Rattle.cpu.specs.declared.answer.Stop.TheVariants.{NotConfigured, Misaligned}
use Rattle.cpu.specs.declared.processor.Processor.{Processor}
use Rattle.cpu.specs.declared.reason.Trouble.{Trouble}
use Rattle.cpu.specs.declared.reason.Trouble.TheVariants as troubles
use Rattle.board.specs.Data.{load_size, store_size, loaded, data_address}
use Rattle.board.specs.Machine.{Machine, machine, with_cpu}

-- a load's or a store's address is a multiple of its size
abbrev pub aligned : Processor → Instruction → Bool
aligned p (Instruction.Immediate op from value to) = true
aligned p (Instruction.ShiftImmediate op from amount to) = true
aligned p (Instruction.Load op base offset to) = data_address p base offset % width (load_size op) == 0
aligned p (Instruction.Store op base offset from) = data_address p base offset % width (store_size op) == 0
aligned p (Instruction.Branch op left right offset) = true
aligned p (Instruction.Register op left right to) = true
aligned p (Instruction.Extend op from to) = true
aligned p (Instruction.Jump op target) = true
aligned p (Instruction.JumpOffset op offset) = true
aligned p (Instruction.ReadCsr csr to) = true
aligned p (Instruction.WriteCsr csr from) = true
aligned p (Instruction.Raise op) = true

-- what stops an instruction before it does anything
abbrev pub barred : Processor → Instruction → Option Stop
barred p i = cond (configured p.config i) (cond (aligned p i) None (Some Misaligned)) (Some NotConfigured)

-- what a three-register form computes
abbrev pub register_result : RegisterOp → ℕ → ℕ → Result ℕ Trouble
register_result (RegisterOp.Binary op) x y = Ok (computed op x y)
register_result (RegisterOp.Shift op) x y = Ok (shifted op x (y % 32))
register_result RegisterOp.Sub x y = Ok (difference x y)
register_result (RegisterOp.Divide op) x y = ok_or (quotient op x y) troubles.Divisor

abbrev pub raised : RaiseOp → Trouble
raised RaiseOp.Break = troubles.Break
raised RaiseOp.Scall = troubles.Scall

module _ {M : Type 0} where
  -- a value into a register, where there is one
  abbrev pub put : Machine M → Register → Result ℕ Trouble → Result (Machine M) Trouble
  put s to (Ok v) = Ok (with_cpu s (resulting s.cpu to v))
  put s to (Err t) = Err t

  abbrev pub after_load : Machine M → LoadOp → Register → Result ℕ Fault → Result (Machine M) Trouble
  after_load s op to (Ok v) = Ok (with_cpu s (resulting s.cpu to (loaded op v)))
  after_load s op to (Err f) = Err (troubles.Bus f)

  -- m is what the bus means after the store
  abbrev pub after_store : Machine M → M → Result (Unit {0}) Fault → Result (Machine M) Trouble
  after_store s m (Ok v) = Ok (machine (advanced s.cpu) m)
  after_store s m (Err f) = Err (troubles.Bus f)

  abbrev pub executed : Rules M → Machine M → Instruction → Result (Machine M) Trouble
  executed r s (Instruction.Immediate op from value to) = Ok (with_cpu s (resulting s.cpu to (with_immediate op (reg s.cpu from) value)))
  executed r s (Instruction.ShiftImmediate op from amount to) = Ok (with_cpu s (resulting s.cpu to (shifted op (reg s.cpu from) amount.places)))
  executed r s (Instruction.Load op base offset to) =
      after_load s op to (read_answer r s.bus (load_size op) (data_address s.cpu base offset))
  executed r s (Instruction.Store op base offset from) =
      after_store s
      (written r s.bus (store_size op) (data_address s.cpu base offset) (reg s.cpu from))
      (write_answer r s.bus (store_size op) (data_address s.cpu base offset))
  executed r s (Instruction.Branch op left right offset) = Ok (with_cpu s (branched s.cpu op left right offset))
  executed r s (Instruction.Register op left right to) = put s to (register_result op (reg s.cpu left) (reg s.cpu right))
  executed r s (Instruction.Extend op from to) = Ok (with_cpu s (resulting s.cpu to (extended op (reg s.cpu from))))
  executed r s (Instruction.Jump op target) = Ok (with_cpu s (jumped s.cpu op target))
  executed r s (Instruction.JumpOffset op offset) = Ok (with_cpu s (jumped_by s.cpu op offset.bits))
  executed r s (Instruction.ReadCsr csr to) = Ok (with_cpu s (resulting s.cpu to (csr_read s.cpu (csr_named csr.number))))
  executed r s (Instruction.WriteCsr csr from) =
      Ok (with_cpu s (advanced (csr_written s.cpu (csr_named csr.number) (reg s.cpu from))))
  executed r s (Instruction.Raise op) = Err (raised op)
