-- What is noted of one part of a step and of the next.
pub use Rattle.wire.proofs.Noting.{noted_none, noted_then, noted_sent, noted_cut, noted_closed}
