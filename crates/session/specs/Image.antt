-- What is said of the image that a call loads.
use Rattle.std.specs.Prelude.{◌≡◌}
use Rattle.script.specs.declared.call.Call.{Call}
use Rattle.script.specs.declared.call.Call.TheVariants.{Load, Lines, Look, Show, Step, Run}

-- P of the image, if the call loads one
abbrev pub ForImage : {I : Type 0} → Call I → (I → Type 0) → Type 0
ForImage {I} call P = (image : I) → call ≡ Load image → P image

-- the second call is the first, but for its image, which R ties to that of the first
abbrev pub Maps : {I J : Type 0} → (I → J → Type 0) → Call I → Call J → Type 0
Maps {I} {J} R (Load image) call = (made : J) × R image made × (call ≡ Load made)
Maps R (Lines word) call = call ≡ Lines word
Maps R (Look address) call = call ≡ Look address
Maps R (Show index) call = call ≡ Show index
Maps R Step call = call ≡ Step
Maps R (Run budget) call = call ≡ Run budget
