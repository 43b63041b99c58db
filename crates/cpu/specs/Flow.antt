-- Where a program goes on: after an instruction, at a branch, a jump, a call or a return.
use Rattle.std.specs.Prelude.{ℕ, ◌+◌, ◌*◌, ◌/◌, ◌%◌, ◌^◌, cond, ◌==◌}
use Rattle.isa.specs.declared.operation.BranchOp.{BranchOp}
use Rattle.isa.specs.declared.operation.JumpOp.{JumpOp}
use Rattle.isa.specs.declared.operation.JumpOp.TheVariants.{B, Call}
use Rattle.isa.specs.declared.register.Register.{Register}
use Rattle.alu.specs.Compare.{branches}
use Rattle.alu.specs.Extend.{sign_extended}
use Rattle.cpu.specs.Enable.{after_eret, after_bret}
use Rattle.cpu.specs.State.{with_pc, with_status, with_enable, reg, set_reg}
use Rattle.cpu.specs.declared.enable.Enable.{Enable}
use Rattle.cpu.specs.declared.processor.Processor.{Processor}

abbrev pub following : ℕ → ℕ
following pc = (pc + 4) % 2 ^ 32

abbrev pub advanced : Processor → Processor
advanced p = with_pc p (following p.pc)

-- a value put into a register, and on to the next instruction
abbrev pub resulting : Processor → Register → ℕ → Processor
resulting p r v = advanced (set_reg p r.number v)

-- an offset in words, from the instruction's own address
abbrev pub reached : ℕ → ℕ → ℕ
reached pc offset = (pc + offset * 4) % 2 ^ 32

abbrev pub branched : Processor → BranchOp → Register → Register → ℕ → Processor
branched p op l r offset =
    cond (branches op (reg p l) (reg p r)) (with_pc p (reached p.pc (sign_extended 16 offset))) (advanced p)

-- a call puts the address of the next instruction into r29
abbrev pub linked : JumpOp → Processor → Processor
linked B p = p
linked Call p = set_reg p 29 (following p.pc)

-- b with r30 is eret and brings back EIE, b with r31 is bret and brings back BIE
abbrev pub returned : JumpOp → Register → Enable → Enable
returned B r e = cond (r.number == 30) (after_eret e) (cond (r.number == 31) (after_bret e) e)
returned Call r e = e

-- the target is read before the link is written; the PC keeps no low two bits
abbrev pub jumped : Processor → JumpOp → Register → Processor
jumped p op r =
    with_pc (with_status (linked op p) (with_enable p.status (returned op r p.status.enable))) (reg p r / 4 * 4)

abbrev pub jumped_by : Processor → JumpOp → ℕ → Processor
jumped_by p op offset = with_pc (linked op p) (reached p.pc (sign_extended 26 offset))
