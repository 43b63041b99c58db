-- The control and status registers: which number is which, what each reads, and what a write to each does.
use Rattle.std.specs.Prelude.{ℕ, ◌-◌, ◌*◌, ◌/◌, ◌%◌, Bool, cond, ◌&&◌, List, [], ◌∷◌, bit_and, nat_lt, slice_index_or, slice_set}
use Rattle.alu.specs.Arithmetic.{complement}
use Rattle.cpu.specs.Config.{has_bit, counts, debugs, breakpoint_count}
use Rattle.cpu.specs.Enable.{enable_word, enable_of}
use Rattle.cpu.specs.State.{base_of, with_status, with_enable, with_im, with_ip, with_eba, with_deba, with_remap, with_breakpoints}
use Rattle.cpu.specs.declared.config.Config.{Config}
use Rattle.cpu.specs.declared.csr.Csr.{Csr}
use Rattle.cpu.specs.declared.csr.Csr.TheVariants.{Ie, Im, Ip, Cc, Cfg, Eba, Dc, Deba, Breakpoint, Other}
use Rattle.cpu.specs.declared.processor.Status.{Status}
use Rattle.cpu.specs.declared.processor.Processor.{Processor}

-- by number, from 0x00; those past the end of the list are others too
abbrev pub csrs : List Csr
csrs =
    Ie ∷ Im ∷ Ip ∷ Other ∷ Other ∷ Cc ∷ Cfg ∷ Eba
    ∷ Dc ∷ Deba ∷ Other ∷ Other ∷ Other ∷ Other ∷ Other ∷ Other
    ∷ Breakpoint 0 ∷ Breakpoint 1 ∷ Breakpoint 2 ∷ Breakpoint 3 ∷ []

abbrev pub csr_named : ℕ → Csr
csr_named n = slice_index_or csrs n Other

abbrev pub csr_read : Processor → Csr → ℕ
csr_read p Ie = enable_word p.status.enable
csr_read p Im = p.status.im
csr_read p Ip = p.status.ip
csr_read p Cc = cond (counts p.config) p.status.cc 0
csr_read p Cfg = p.config.cfg
csr_read p Eba = p.status.eba
csr_read p Dc = 0
csr_read p Deba = cond (debugs p.config) p.status.deba 0
csr_read p (Breakpoint k) = 0
csr_read p Other = 0

-- a breakpoint register does not keep its bit 1
abbrev pub breakpoint_of : ℕ → ℕ
breakpoint_of v = v - v / 2 % 2 * 2

-- of the four breakpoint registers the first ones are configured, as many as BP says, with debugging
abbrev pub configured_breakpoint : Config → ℕ → Bool
configured_breakpoint c k = debugs c && nat_lt k 4 && nat_lt k (breakpoint_count c.cfg)

abbrev pub status_written : Processor → Csr → ℕ → Status
status_written p Ie v = with_enable p.status (enable_of v)
status_written p Im v = with_im p.status (bit_and v p.config.mask)
status_written p Ip v = with_ip p.status (bit_and p.status.ip (complement v))
status_written p Cc v = p.status
status_written p Cfg v = p.status
status_written p Eba v = with_eba p.status (base_of v)
status_written p Dc v = cond (debugs p.config) (with_remap p.status (has_bit 1 v)) p.status
status_written p Deba v = cond (debugs p.config) (with_deba p.status (base_of v)) p.status
status_written p (Breakpoint k) v =
    cond (configured_breakpoint p.config k)
    (with_breakpoints p.status (slice_set p.status.breakpoints k (breakpoint_of v)))
    p.status
status_written p Other v = p.status

abbrev pub csr_written : Processor → Csr → ℕ → Processor
csr_written p c v = with_status p (status_written p c v)
