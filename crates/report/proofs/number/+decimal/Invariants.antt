-- The tenth part of a number of two digits or more is smaller.
use Rattle.report.proofs.number.+decimal.Given as goal

abbrev pub decreases-decimal : goal.decreases-decimal
decreases-decimal l = l.n
