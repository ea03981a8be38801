use Rattle.std.proofs.Common.{arith}
use Rattle.lisp_messages.specs.Reading.{nonce_of}
use Rattle.lisp_embedded.proofs.Ends.{ends_name, key_read, pair_read}
use Rattle.lisp_embedded.proofs.pair.pair_at_ends.Goals as goal

pub returns-in_default : goal.returns-in_default
returns-in_default c pair needed =
    let ends = ends_name c.args.bytes.now pair (λ i. omega (arith, c.type_inv.bytes i)) needed in
    absurd (c.in_default.not-Some (record { key_id = pair.key; nonce = nonce_of c.args.bytes.now }) (key_read c.args.bytes.now c.read.result pair ends c.read.ensures))

pub returns-in_default-split_last_chunk : goal.returns-in_default-split_last_chunk
returns-in_default-split_last_chunk c pair needed =
    let ends = ends_name c.args.bytes.now pair (λ i. omega (arith, c.type_inv.bytes i)) needed in
    absurd (omega (arith, ends.long, c.in_default-split_last_chunk.ensures.cases))

pub returns-in_default-split_last_chunk-2 : goal.returns-in_default-split_last_chunk-2
returns-in_default-split_last_chunk-2 c pair needed =
    let ends = ends_name c.args.bytes.now pair (λ i. omega (arith, c.type_inv.bytes i)) needed in
    absurd (omega (arith, ends.long, c.in-Some-split_last_chunk.ensures.cases.2, c.in_default-split_last_chunk-2.ensures.cases))

pub returns : goal.returns
returns c pair needed =
    let ends = ends_name c.args.bytes.now pair (λ i. omega (arith, c.type_inv.bytes i)) needed in
    let last = c.in-Some-split_last_chunk.ensures.cases in
    pair_read c.args.bytes.now c.in-Some-split_last_chunk.front.now c.in-Some-split_last_chunk-2.xtr.now c.in-Some-split_last_chunk.site.now c.in-Some.head c.from_be_bytes.result pair ends
    c.in-Some.ensures last.0 last.1 c.in-Some-split_last_chunk-2.ensures.cases.1 c.from_be_bytes.ensures
