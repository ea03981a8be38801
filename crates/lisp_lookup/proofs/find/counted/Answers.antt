use Rattle.lisp_lookup.proofs.find.counted.Goals as goal

pub find-requires : goal.find-requires
find-requires g c = record { falls = rw c.new.ensures c.requires.falls }
