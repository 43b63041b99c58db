-- How an exception is entered: what it saves, and where the program goes on.
use Rattle.std.specs.Prelude.{ℕ, ◌+◌, ◌*◌, ◌%◌, ◌^◌, cond, ◌&&◌, ◌||◌}
use Rattle.cpu.specs.Config.{debugs}
use Rattle.cpu.specs.Enable.{saved_by_exception, saved_by_breakpoint}
use Rattle.cpu.specs.Exception.{exception_number, is_breakpoint}
use Rattle.cpu.specs.State.{with_pc, with_status, with_enable, set_reg}
use Rattle.cpu.specs.declared.enable.Enable.{Enable}
use Rattle.cpu.specs.declared.exception.Exception.{Exception}
use Rattle.cpu.specs.declared.processor.Processor.{Processor}

-- DEBA for a breakpoint, and for all where DC remaps; EBA else, or with no debugging
abbrev pub base : Processor → Exception → ℕ
base p e = cond (debugs p.config && (is_breakpoint e || p.status.remap)) p.status.deba p.status.eba

abbrev pub handler : Processor → Exception → ℕ
handler p e = (base p e + 32 * exception_number e) % 2 ^ 32

-- the register that keeps the PC
abbrev pub saved_in : Exception → ℕ
saved_in e = cond (is_breakpoint e) 31 30

abbrev pub saved : Exception → Enable → Enable
saved e bits = cond (is_breakpoint e) (saved_by_breakpoint bits) (saved_by_exception bits)

abbrev pub entered : Processor → Exception → Processor
entered p e =
    with_pc (with_status (set_reg p (saved_in e) p.pc) (with_enable p.status (saved e p.status.enable))) (handler p e)
