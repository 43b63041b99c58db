-- What a refusal of a configuration says.
use Rattle.std.specs.Prelude.{ℕ, List, codes}
use Rattle.cpu.specs.declared.config.ConfigRefusal.{ConfigRefusal}
use Rattle.cpu.specs.declared.config.ConfigRefusal.TheVariants.{Unsupported, TooMany, BreakpointsWithoutDebug, BaseUnaligned}

abbrev pub refusal_text : ConfigRefusal → List ℕ
refusal_text Unsupported = codes "the CFG word asks for what is not supported"
refusal_text TooMany = codes "the CFG word has too many interrupt lines or breakpoint registers"
refusal_text BreakpointsWithoutDebug = codes "the CFG word has breakpoint registers without debugging"
refusal_text BaseUnaligned = codes "an exception base is not a multiple of 256"
