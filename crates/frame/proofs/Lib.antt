-- Laws of `frame`: how long the default frame is.
pub mod Length
