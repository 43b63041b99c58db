-- The parts of a processor, one replaced at a time, and the state that power gives.
use Rattle.std.specs.Prelude.{ℕ, ◌+◌, ◌*◌, ◌/◌, ◌%◌, ◌^◌, Bool, false, List, [], ◌∷◌, slice_index, slice_set}
use Rattle.isa.specs.declared.register.Register.{Register}
use Rattle.cpu.specs.Enable.{enabling}
use Rattle.cpu.specs.declared.config.Config.{Config}
use Rattle.cpu.specs.declared.enable.Enable.{Enable}
use Rattle.cpu.specs.declared.processor.Status.{Status}
use Rattle.cpu.specs.declared.processor.Processor.{Processor}

abbrev pub with_registers : Processor → List ℕ → Processor
with_registers p rs = record { config = p.config; registers = rs; pc = p.pc; status = p.status; outside = p.outside }

abbrev pub with_pc : Processor → ℕ → Processor
with_pc p a = record { config = p.config; registers = p.registers; pc = a; status = p.status; outside = p.outside }

abbrev pub with_status : Processor → Status → Processor
with_status p s = record { config = p.config; registers = p.registers; pc = p.pc; status = s; outside = p.outside }

abbrev pub with_outside : Processor → ℕ → Processor
with_outside p w = record { config = p.config; registers = p.registers; pc = p.pc; status = p.status; outside = w }

abbrev pub with_enable : Status → Enable → Status
with_enable s e = record {
  enable = e;
  im = s.im;
  ip = s.ip;
  eba = s.eba;
  deba = s.deba;
  remap = s.remap;
  cc = s.cc;
  breakpoints = s.breakpoints;
}

abbrev pub with_im : Status → ℕ → Status
with_im s v = record {
  enable = s.enable;
  im = v;
  ip = s.ip;
  eba = s.eba;
  deba = s.deba;
  remap = s.remap;
  cc = s.cc;
  breakpoints = s.breakpoints;
}

abbrev pub with_ip : Status → ℕ → Status
with_ip s v = record {
  enable = s.enable;
  im = s.im;
  ip = v;
  eba = s.eba;
  deba = s.deba;
  remap = s.remap;
  cc = s.cc;
  breakpoints = s.breakpoints;
}

abbrev pub with_eba : Status → ℕ → Status
with_eba s v = record {
  enable = s.enable;
  im = s.im;
  ip = s.ip;
  eba = v;
  deba = s.deba;
  remap = s.remap;
  cc = s.cc;
  breakpoints = s.breakpoints;
}

abbrev pub with_deba : Status → ℕ → Status
with_deba s v = record {
  enable = s.enable;
  im = s.im;
  ip = s.ip;
  eba = s.eba;
  deba = v;
  remap = s.remap;
  cc = s.cc;
  breakpoints = s.breakpoints;
}

abbrev pub with_remap : Status → Bool → Status
with_remap s b = record {
  enable = s.enable;
  im = s.im;
  ip = s.ip;
  eba = s.eba;
  deba = s.deba;
  remap = b;
  cc = s.cc;
  breakpoints = s.breakpoints;
}

abbrev pub with_cc : Status → ℕ → Status
with_cc s v = record {
  enable = s.enable;
  im = s.im;
  ip = s.ip;
  eba = s.eba;
  deba = s.deba;
  remap = s.remap;
  cc = v;
  breakpoints = s.breakpoints;
}

abbrev pub with_breakpoints : Status → List ℕ → Status
with_breakpoints s bs = record {
  enable = s.enable;
  im = s.im;
  ip = s.ip;
  eba = s.eba;
  deba = s.deba;
  remap = s.remap;
  cc = s.cc;
  breakpoints = bs;
}

-- a register, r0 like any other
abbrev pub reg : Processor → Register → ℕ
reg p r = slice_index p.registers r.number

abbrev pub set_reg : Processor → ℕ → ℕ → Processor
set_reg p n v = with_registers p (slice_set p.registers n v)

-- a base keeps no low byte
abbrev pub base_of : ℕ → ℕ
base_of v = v / 256 * 256

-- PC and EBA at EBA's reset value, DEBA at its own, the registers as given, all else 0
abbrev pub reset : Config → List ℕ → Processor
reset c rs = record {
  config = c;
  registers = rs;
  pc = base_of c.eba;
  status = record {
    enable = enabling false false false;
    im = 0;
    ip = 0;
    eba = base_of c.eba;
    deba = base_of c.deba;
    remap = false;
    cc = 0;
    breakpoints = 0 ∷ 0 ∷ 0 ∷ 0 ∷ [];
  };
  outside = 0;
}

-- the cycle counter grows by one
abbrev pub counted : Processor → Processor
counted p = with_status p (with_cc p.status ((p.status.cc + 1) % 2 ^ 32))
