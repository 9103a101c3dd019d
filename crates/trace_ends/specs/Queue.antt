-- How many bytes of those on their way a line asks for.
pub use Rattle.trace_wires.specs.Queue.{is_none, count_of}
