-- Octets that come on a line.
pub use Rattle.packet_laws.specs.Readable.{AreOctets}
