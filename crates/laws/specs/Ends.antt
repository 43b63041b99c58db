-- Signed comparison, arithmetic right shift and sign extension at the ends of the range.
use Rattle.std.specs.Prelude.{◌≡◌, true, false}
use Rattle.isa.specs.declared.operation.ExtendOp.TheVariants.{Sextb, Sexth}
use Rattle.isa.specs.declared.operation.ShiftOp.TheVariants.{Sr}
use Rattle.alu.specs.Compare.{greater, greater_equal, greater_u, greater_equal_u}
use Rattle.alu.specs.Extend.{sign_extended, extended}
use Rattle.alu.specs.Shift.{shifted}

-- the least signed word is 80000000, the greatest 7FFFFFFF, and FFFFFFFF is -1
pub record Compares : Type 0 where
  pub greatest : greater 0x7FFFFFFF 0x80000000 ≡ true
  pub least : greater 0x80000000 0x7FFFFFFF ≡ false
  pub minus_one : greater 0x00000000 0xFFFFFFFF ≡ true
  pub equal : greater 0x80000000 0x80000000 ≡ false
  pub equal_least : greater_equal 0x80000000 0x80000000 ≡ true
  pub under_least : greater_equal 0x80000000 0xFFFFFFFF ≡ false
  pub unsigned : greater_u 0x80000000 0x7FFFFFFF ≡ true
  pub unsigned_equal : greater_equal_u 0xFFFFFFFF 0xFFFFFFFF ≡ true
  pub unsigned_zero : greater_u 0x00000000 0xFFFFFFFF ≡ false

pub record Shifts : Type 0 where
  pub none : shifted Sr 0x80000000 0 ≡ 0x80000000
  pub one : shifted Sr 0x80000000 1 ≡ 0xC0000000
  pub all : shifted Sr 0x80000000 31 ≡ 0xFFFFFFFF
  pub minus_one : shifted Sr 0xFFFFFFFF 31 ≡ 0xFFFFFFFF
  pub greatest : shifted Sr 0x7FFFFFFF 31 ≡ 0x00000000

pub record Extensions : Type 0 where
  pub greatest_half : sign_extended 16 0x7FFF ≡ 0x00007FFF
  pub least_half : sign_extended 16 0x8000 ≡ 0xFFFF8000
  pub minus_one : sign_extended 16 0xFFFF ≡ 0xFFFFFFFF
  pub greatest_offset : sign_extended 26 0x1FFFFFF ≡ 0x01FFFFFF
  pub least_offset : sign_extended 26 0x2000000 ≡ 0xFE000000
  pub byte : extended Sextb 0x12345680 ≡ 0xFFFFFF80
  pub half : extended Sexth 0x12348000 ≡ 0xFFFF8000
  pub small_byte : extended Sextb 0xFFFFFF7F ≡ 0x0000007F

pub record SignedEnds : Type 0 where
  pub compares : Compares
  pub shifts : Shifts
  pub extensions : Extensions
