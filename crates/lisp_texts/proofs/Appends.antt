-- Appending to a text.
use Rattle.std.proofs.Common.{append_assoc}
use Rattle.std.proofs.lemmas.Fmt.{hex_byte}

pub ruleset octets = (hex_byte, append_assoc)
