-- Writing a text in several writes.
use Rattle.std.proofs.Common.{◌≡◌, ℕ, ◌+◌, List, [], ◌∷◌, ◌++◌, length, take, drop, false, Option, Some, None, sym, ap, ◌∙◌, append_assoc, append-nil, length-append, take-append-drop, arith}
use Rattle.std.specs.Prelude.{◌==◌}
use Rattle.std.specs.Io.KnownBytes.{Appends, Keeps}
use Rattle.std.proofs.Math.Seq.{take-append_seam}
use Rattle.lisp_lines.specs.Output.{WroteFront}

-- a front of the text went out, and the rest is left
pub record Wrote (before after : Option (List ℕ)) (text rest : List ℕ) : Type 0 where
  pub front : List ℕ
  pub parts : text ≡ front ++ rest
  pub written : Appends before after front

-- a write that failed took nothing
pub wrote_none : (before mid after : Option (List ℕ)) (text rest : List ℕ) → Wrote before mid text rest → Keeps mid after → Wrote before after text rest
wrote_none None mid after text rest wrote keeps = record { front = wrote.front; parts = wrote.parts; written = tt }
wrote_none (Some old) None after text rest wrote keeps = absurd wrote.written
wrote_none (Some old) (Some mid) None text rest wrote keeps = absurd keeps
wrote_none (Some old) (Some mid) (Some new) text rest wrote keeps = record { front = wrote.front; parts = wrote.parts; written = keeps ∙ wrote.written }

-- a write took a front of what was left
pub wrote_more : (before mid after : Option (List ℕ)) (text rest : List ℕ) (n : ℕ) → Wrote before mid text rest → Appends mid after (take n rest) → Wrote before after text (drop n rest)
wrote_more before mid after text rest n wrote more =
    record {
      front = wrote.front ++ take n rest;
      parts = wrote.parts ∙ ap (λ t. wrote.front ++ t) (sym (take-append-drop n rest)) ∙ sym (append_assoc wrote.front (take n rest) (drop n rest));
      written = appended before mid after wrote.front (take n rest) wrote.written more;
    }
  where
    appended : (before mid after : Option (List ℕ)) (front more : List ℕ) → Appends before mid front → Appends mid after more → Appends before after (front ++ more)
    appended None mid after front more one other = tt
    appended (Some old) None after front more one other = absurd one
    appended (Some old) (Some mid) None front more one other = absurd other
    appended (Some old) (Some mid) (Some new) front more one other = other ∙ ap (λ t. t ++ more) one ∙ append_assoc old front more

-- a write took nothing
pub wrote_zero : (before mid after : Option (List ℕ)) (text rest : List ℕ) (n : ℕ) → n ≡ 0 → Wrote before mid text rest → Appends mid after (take n rest) → Wrote before after text rest
wrote_zero before mid after text rest n none wrote more = rw none at (wrote_more before mid after text rest n wrote more)

-- all of it went out where nothing is left
pub wrote_all : (before after : Option (List ℕ)) (text : List ℕ) → Wrote before after text [] → Appends before after text
wrote_all before after text wrote = rw (wrote.parts, append-nil wrote.front) wrote.written

-- less than all of it where something is left
pub wrote_front : (before after : Option (List ℕ)) (text rest : List ℕ) → false ≡ (length rest == 0) → Wrote before after text rest → WroteFront before after text
wrote_front before after text [] some wrote = absurd cc
wrote_front before after text (b ∷ rest) some wrote =
    let size : length text ≡ length wrote.front + length (b ∷ rest) = ap length wrote.parts ∙ length-append wrote.front (b ∷ rest) in
    let front : take (length wrote.front) text ≡ wrote.front = rw wrote.parts (take-append_seam wrote.front (b ∷ rest)) in
    (length wrote.front, omega (arith, size), rw front wrote.written)
