-- What a buffer that only grows still begins with.
use Rattle.std.proofs.Common.{◌≡◌, ℕ, List, ◌++◌, length, take, Result, Ok, Err, ap, ◌∙◌, append_assoc}
use Rattle.std.specs.Prelude.{OnErr}
use Rattle.std.proofs.Math.Seq.{take-append_seam}
use Rattle.lisp_records.specs.Grown.{Grew}

pub Grew-step : (old mid new more : List ℕ) → mid ≡ old ++ more → Grew mid new → Grew old new
Grew-step old mid new more e g = record { more = more ++ g.more; parts = g.parts ∙ ap (λ (xs : List ℕ). xs ++ g.more) e ∙ append_assoc old more g.more }

-- what was appended to is a longer buffer
pub Grew-to : (old new more : List ℕ) → new ≡ old ++ more → Grew old new
Grew-to old new more e = record { more = more; parts = e }

-- what holds, holds where an answer is an error
pub on_err : {T E P : Type 0} (r : Result T E) → P → OnErr r P
on_err (Ok x) holds = tt
on_err (Err e) holds = holds

-- a buffer to which a part and then more was appended, and that was cut back to its old length, is the old one
pub cut_back : (cut old mid new part : List ℕ) (n : ℕ) → n ≡ length old → mid ≡ old ++ part → Grew mid new → cut ≡ take n new → cut ≡ old
cut_back cut old mid new part n e first g is =
    let all = Grew-step old mid new part first g in
    is ∙ rw (e, all.parts) (take-append_seam old all.more)
