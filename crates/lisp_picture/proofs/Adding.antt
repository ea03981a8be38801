-- Appending to a text.
use Rattle.std.proofs.Common.{append_assoc}
use Rattle.std.proofs.lemmas.List.{append-nil, flat_map_more}

pub ruleset steps = (append_assoc, append-nil, flat_map_more)
