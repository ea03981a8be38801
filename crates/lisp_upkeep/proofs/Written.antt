-- What a writer has after a text was written and flushed.
use Rattle.std.proofs.Common.{ℕ, List, [], length, Option, Some, None, Result, Ok, Err, OnErr, sym, ◌∙◌, append-nil}
use Rattle.std.proofs.Math.Seq.{take-length}
use Rattle.std.specs.Io.KnownBytes.{Appends, Keeps}
use Rattle.lisp_lines.specs.Output.{WroteFront}
use Rattle.lisp_upkeep.specs.Printing.{WroteSome}

-- a flush adds nothing
pub flushed : (before mid after : Option (List ℕ)) (bytes : List ℕ) → Appends before mid bytes → Keeps mid after → Appends before after bytes
flushed None mid after bytes wrote keeps = tt
flushed (Some old) None after bytes wrote keeps = absurd wrote
flushed (Some old) (Some mid) None bytes wrote keeps = absurd keeps
flushed (Some old) (Some mid) (Some new) bytes wrote keeps = keeps ∙ wrote

-- all of a text is a front of it
pub all_of_it : (before after : Option (List ℕ)) (bytes : List ℕ) → Appends before after bytes → WroteSome before after bytes
all_of_it before after bytes wrote = (length bytes, rw (take-length bytes) wrote)

-- so is what is less than all of it
pub front_of_it : (before after : Option (List ℕ)) (bytes : List ℕ) → WroteFront before after bytes → WroteSome before after bytes
front_of_it before after bytes front = (front.0, front.2)

-- what was written and flushed is a front, too
pub flushed_some : (before mid after : Option (List ℕ)) (bytes : List ℕ) → Appends before mid bytes → Keeps mid after → WroteSome before after bytes
flushed_some before mid after bytes wrote keeps = all_of_it before after bytes (flushed before mid after bytes wrote keeps)

-- where nothing was written
pub nothing : (contents : Option (List ℕ)) → Appends contents contents []
nothing None = tt
nothing (Some old) = sym (append-nil old)

-- where there is an error this holds, since it holds in any case
pub holds_on_err : {X E P : Type 0} (result : Result X E) → P → OnErr result P
holds_on_err (Ok x) holds = tt
holds_on_err (Err e) holds = holds
