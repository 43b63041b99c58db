-- What is left of the digits goes on from `number`, which the digits so far give.
use Rattle.std.proofs.Common.{◌≡◌, ◌^◌, ◌<◌, drop}
use Rattle.hex_text.specs.Digits.{hex_number}
use Rattle.hex_text.proofs.Reading.{hex_after}
use Rattle.hex_text.proofs.read.number.Given as goal

abbrev pub invariant-loop-b : goal.invariant-loop-b
invariant-loop-b g l = (hex_after l.number (drop l.b-index l.digits) ≡ hex_number l.digits) × (l.number < 16 ^ l.b-index)
