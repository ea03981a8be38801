use Rattle.std.proofs.Common.{◌++◌, List, ℕ, codes, subst, sym, ap, ◌∙◌}
use Rattle.std.specs.Str.{IsUtf8}
use Rattle.hex.specs.Hex.{encode_lower}
use Rattle.lisp_store.proofs.PairNames.{name_of_parts, name_is_text}
use Rattle.lisp_store.proofs.name.pair_name.Goals as goal

pub returns-clause-name : goal.returns-clause-name
returns-clause-name c =
    let front = c.copy_from_slice.ensures.after ∙ ap (λ (l : List ℕ). l ++ codes "-") c.letter.ensures in
    let site = c.put_part.ensures ∙ ap (λ (bytes : List ℕ). encode_lower bytes ++ codes "-") c.to_be_bytes.ensures in
    name_of_parts c.args.pair.now c.copy_from_slice.new.self c.put_part.new.text c.put_part-2.new.text c.put_part-3.new.text front site c.put_part-2.ensures c.put_part-3.ensures

pub returns-clause-text : goal.returns-clause-text
returns-clause-text c =
    let front = c.copy_from_slice.ensures.after ∙ ap (λ (l : List ℕ). l ++ codes "-") c.letter.ensures in
    let site = c.put_part.ensures ∙ ap (λ (bytes : List ℕ). encode_lower bytes ++ codes "-") c.to_be_bytes.ensures in
    subst IsUtf8 (sym (name_of_parts c.args.pair.now c.copy_from_slice.new.self c.put_part.new.text c.put_part-2.new.text c.put_part-3.new.text front site c.put_part-2.ensures c.put_part-3.ensures)) (name_is_text c.args.pair.now)
