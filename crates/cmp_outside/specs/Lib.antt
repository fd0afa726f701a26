pub mod Faults
pub mod Source
pub mod Sink
pub mod FilesState
pub mod SinkState
