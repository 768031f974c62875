pub mod FirstByte
