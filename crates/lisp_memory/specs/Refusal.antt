-- Whether the machine's memory may be refused: open. No proof may use `Witness` but that of `Global`, where
-- std refused.
pub mod Witness

pub MachineMayRefuse : Type 0
MachineMayRefuse = Unit {0}
