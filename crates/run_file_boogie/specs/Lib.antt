pub mod BoogieLines
pub mod BoogieReading
pub mod BoogieRun
pub mod BoogieProgress
pub mod BoogieView
pub mod BoogiePrinted
pub mod BoogiePrintable
pub mod MovedView
