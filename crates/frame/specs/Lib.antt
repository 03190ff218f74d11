-- Definitions of `frame`: the default frame by its bits.
pub mod Default
