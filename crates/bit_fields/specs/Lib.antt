pub mod Bits
pub mod BitsBack
pub mod BytesAsNumbers
pub mod Xors
