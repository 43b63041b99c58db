pub mod SignBit
