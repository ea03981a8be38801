use Rattle.lisp_memory.specs.Refusal.{MachineMayRefuse}

pub it_may : MachineMayRefuse
unfolding MachineMayRefuse
it_may = tt
