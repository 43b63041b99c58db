-- The CFG word, and which configurations the emulator runs.
use Rattle.std.specs.Prelude.{ℕ, ◌-◌, ◌/◌, ◌%◌, ◌^◌, Bool, cond, not, ◌&&◌, ◌||◌, Ok, Err, Result, ◌==◌, nat_lt}
use Rattle.cpu.specs.declared.config.Config.{Config}
use Rattle.cpu.specs.declared.config.ConfigRefusal.{ConfigRefusal}
use Rattle.cpu.specs.declared.config.ConfigRefusal.TheVariants.{Unsupported, TooMany, BreakpointsWithoutDebug, BaseUnaligned}

-- bit k of a word
abbrev pub has_bit : ℕ → ℕ → Bool
has_bit k w = w / 2 ^ k % 2 == 1

abbrev pub multiplies : Config → Bool
multiplies c = has_bit 0 c.cfg

abbrev pub divides : Config → Bool
divides c = has_bit 1 c.cfg

abbrev pub shifts : Config → Bool
shifts c = has_bit 2 c.cfg

abbrev pub extends : Config → Bool
extends c = has_bit 4 c.cfg

abbrev pub counts : Config → Bool
counts c = has_bit 5 c.cfg

-- G: debugging, with DC, DEBA and the breakpoint registers
abbrev pub debugs : Config → Bool
debugs c = has_bit 8 c.cfg

-- INT: how many interrupt lines there are
abbrev pub line_count : ℕ → ℕ
line_count w = w / 2 ^ 12 % 64

-- BP: how many breakpoint registers there are
abbrev pub breakpoint_count : ℕ → ℕ
breakpoint_count w = w / 2 ^ 18 % 16

-- U, IC, H, R, J or a bit of WP is set
abbrev pub unsupported : ℕ → Bool
unsupported w = has_bit 3 w || has_bit 6 w || has_bit 9 w || has_bit 10 w || has_bit 11 w || not (w / 2 ^ 22 % 16 == 0)

abbrev pub too_many : ℕ → Bool
too_many w = nat_lt 32 (line_count w) || nat_lt 4 (breakpoint_count w)

abbrev pub breakpoints_without_debug : ℕ → Bool
breakpoints_without_debug w = nat_lt 0 (breakpoint_count w) && not (has_bit 8 w)

abbrev pub unaligned : ℕ → Bool
unaligned base = not (base % 256 == 0)

-- the bits of the configured lines: the lowest ones
abbrev pub line_mask : ℕ → ℕ
line_mask w = 2 ^ line_count w - 1

abbrev pub configuration : ℕ → ℕ → ℕ → Config
configuration w eba deba = record { cfg = w; eba = eba; deba = deba; mask = line_mask w }

-- the lowest refusal that applies is told
abbrev pub vetted : ℕ → ℕ → ℕ → Result Config ConfigRefusal
vetted w eba deba =
    cond (unsupported w) (Err Unsupported)
    (cond (too_many w) (Err TooMany)
    (cond (breakpoints_without_debug w) (Err BreakpointsWithoutDebug)
    (cond (unaligned eba || unaligned deba) (Err BaseUnaligned) (Ok (configuration w eba deba)))))

abbrev pub refusal_number : ConfigRefusal → ℕ
refusal_number Unsupported = 1
refusal_number TooMany = 2
refusal_number BreakpointsWithoutDebug = 3
refusal_number BaseUnaligned = 4
