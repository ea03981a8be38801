use Rattle.std.proofs.Common.{◌∙◌, slice_index, Some, refl, ap, sym}
use Rattle.std.proofs.lemmas.Option.{same_Some, none-some}
use Rattle.lisp_store.proofs.PairNames.{read_site, read_xtr, read_key, read_pair}
use Rattle.lisp_store.proofs.name.pair_in.Goals as goal

-- src/name.rt:103:16
pub returns-in_err-site : goal.returns-in_err-site
returns-in_err-site c = λ p is same. absurd (none-some _ (sym c.in_err-site.was ∙ read_site c.args.text.now p c.bytes_of.result c.bytes_of.ensures is same))

-- src/name.rt:104:15
pub returns-in_err-xtr : goal.returns-in_err-xtr
returns-in_err-xtr c = λ p is same. absurd (none-some _ (sym c.in_err-xtr.was ∙ read_xtr c.args.text.now p c.bytes_of-2.result c.bytes_of-2.ensures is same))

-- src/name.rt:105:15
pub returns-in_err-key : goal.returns-in_err-key
returns-in_err-key c = λ p is same. absurd (none-some _ (sym c.in_err-key.was ∙ read_key c.args.text.now p c.bytes_of-3.result c.bytes_of-3.ensures is same))

-- src/name.rt:99:1
pub returns : goal.returns
returns c = λ p is same.
    let site = same_Some _ _ (sym c.in_ok-site.was ∙ read_site c.args.text.now p c.bytes_of.result c.bytes_of.ensures is same) in
    let xtr = same_Some _ _ (sym c.in_ok-xtr.was ∙ read_xtr c.args.text.now p c.bytes_of-2.result c.bytes_of-2.ensures is same) in
    let key = same_Some _ _ (sym c.in_ok-key.was ∙ read_key c.args.text.now p c.bytes_of-3.result c.bytes_of-3.ensures is same) in
    let made = read_pair c.args.text.now c.in_ok-site.site c.in_ok-xtr.xtr c.in_ok-key.field-0 _ p is same refl site xtr key in
    ap Some ((λ i. record { kind = c.kind_of_letter.ensures i; router = record { site = c.from_be_bytes.ensures i; xtr = c.in_ok-xtr.xtr }; key = slice_index c.in_ok-key.field-0 0 }) ∙ made)
