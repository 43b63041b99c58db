-- The ways in which an instruction that is done changes the processor: what holds after each of them holds after every instruction. Assumes nothing.
use Rattle.std.proofs.Common.{◌≡◌, ℕ, Some, Ok, Err, Result, refl, subst}
use Rattle.isa.specs.declared.csr_number.CsrNumber.{CsrNumber}
use Rattle.isa.specs.declared.instruction.Instruction.{Instruction}
use Rattle.isa.specs.declared.offset26.Offset26.{Offset26}
use Rattle.isa.specs.declared.operation.BranchOp.{BranchOp}
use Rattle.isa.specs.declared.operation.JumpOp.{JumpOp}
use Rattle.isa.specs.declared.operation.JumpOp.TheVariants.{B, Call}
use Rattle.isa.specs.declared.operation.LoadOp.{LoadOp}
use Rattle.isa.specs.declared.register.Register.{Register}
use Rattle.bus.specs.Rules.{Rules}
use Rattle.bus.specs.declared.fault.Fault.{Fault}
use Rattle.cpu.specs.Csr.{csr_named, csr_written}
use Rattle.cpu.specs.Flow.{advanced, resulting, branched, linked, jumped, jumped_by}
use Rattle.cpu.specs.State.{reg}
use Rattle.cpu.specs.declared.processor.Processor.{Processor}
use Rattle.cpu.specs.declared.reason.Trouble.{Trouble}
use Rattle.board.specs.Execute.{executed, put, after_load, after_store}
use Rattle.board.specs.Machine.{Machine}
use Rattle.board.specs.Writers.{destination}

-- a link changes no status
pub linked_status : (op : JumpOp) (p : Processor) → (linked op p).status ≡ p.status
linked_status B p = refl
linked_status Call p = refl

module _ {M : Type 0} (r : Rules M) (s : Machine M) (P : Instruction → Processor → Type 0)
    (results : (i : Instruction) (to : Register) (v : ℕ) → destination i ≡ Some to.number → P i (resulting s.cpu to v))
    (advances : (i : Instruction) → P i (advanced s.cpu))
    (branches : (op : BranchOp) (left right : Register) (offset : ℕ) → P (Instruction.Branch op left right offset) (branched s.cpu op left right offset))
    (jumps : (op : JumpOp) (target : Register) → P (Instruction.Jump op target) (jumped s.cpu op target))
    (jumps_by : (op : JumpOp) (offset : Offset26) → P (Instruction.JumpOffset op offset) (jumped_by s.cpu op offset.bits))
    (writes : (csr : CsrNumber) (from : Register) → P (Instruction.WriteCsr csr from) (advanced (csr_written s.cpu (csr_named csr.number) (reg s.cpu from)))) where
  HoldsIf : Instruction → Result (Machine M) Trouble → Type 0
  HoldsIf i (Ok t) = P i t.cpu
  HoldsIf i (Err e) = Unit {0}

  loading : (i : Instruction) (op : LoadOp) (to : Register) (x : Result ℕ Fault) → destination i ≡ Some to.number → HoldsIf i (after_load s op to x)
  unfolding HoldsIf
  loading i op to (Ok v) d = results i to _ d
  loading i op to (Err f) d = tt

  storing : (i : Instruction) (m : M) (x : Result (Unit {0}) Fault) → HoldsIf i (after_store s m x)
  unfolding HoldsIf
  storing i m (Ok v) = advances i
  storing i m (Err f) = tt

  putting : (i : Instruction) (to : Register) (x : Result ℕ Trouble) → destination i ≡ Some to.number → HoldsIf i (put s to x)
  unfolding HoldsIf
  putting i to (Ok v) d = results i to _ d
  putting i to (Err t) d = tt

  executing : (i : Instruction) → HoldsIf i (executed r s i)
  unfolding HoldsIf
  executing (Instruction.Immediate op from value to) = results _ to _ refl
  executing (Instruction.ShiftImmediate op from amount to) = results _ to _ refl
  executing (Instruction.Load op base offset to) = loading (Instruction.Load op base offset to) op to _ refl
  executing (Instruction.Store op base offset from) = storing (Instruction.Store op base offset from) _ _
  executing (Instruction.Branch op left right offset) = branches op left right offset
  executing (Instruction.Register op left right to) = putting (Instruction.Register op left right to) to _ refl
  executing (Instruction.Extend op from to) = results _ to _ refl
  executing (Instruction.Jump op target) = jumps op target
  executing (Instruction.JumpOffset op offset) = jumps_by op offset
  executing (Instruction.ReadCsr csr to) = results _ to _ refl
  executing (Instruction.WriteCsr csr from) = writes csr from
  executing (Instruction.Raise op) = tt

  pub after_done : (i : Instruction) (t : Machine M) → executed r s i ≡ Ok t → P i t.cpu
  unfolding HoldsIf
  after_done i t e = subst (HoldsIf i) e (executing i)
