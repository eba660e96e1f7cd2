mod Arguments
mod ByteVecs
mod Claims
mod Cutting
mod LodgeCalls
mod Numbering
mod Zeros
