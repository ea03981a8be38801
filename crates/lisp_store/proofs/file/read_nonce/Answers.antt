use Rattle.std.proofs.Common.{◌≡◌, List, ℕ, Some, None, Contains, subst, ◌∙◌}
use Rattle.std.proofs.lemmas.Result.{MatchResult-at_ok}
use Rattle.lisp_store.specs.Folder.{contents_at}
use Rattle.lisp_store.specs.KeptFiles.{content_of, nonce_in}
use Rattle.lisp_store.proofs.KeptFiles.{front_says, front_damaged}
use Rattle.lisp_store.proofs.file.read_nonce.Goals as goal

pub returns-in-Some-nonce_from_text-clause-nonce : goal.returns-in-Some-nonce_from_text-clause-nonce
returns-in-Some-nonce_from_text-clause-nonce g c honest =
    let files = (g.F.Folder.seen c.args.folder.now).files in
    let content = c.in_ok-count.ensures.content honest in
    let name = (MatchResult-at_ok _ _ c.unwrap-name.result c.unwrap-name.ensures c.from_utf8.ensures.cases).0 ∙ c.pair_name-name.ensures.name in
    subst (λ (n : List ℕ). Contains (contents_at files n) (content_of (Some c.in-Some-nonce_from_text.nonce))) name (front_says (contents_at files c.unwrap-name.result.now) _ c.in-Some.count c.in-Some-nonce_from_text.nonce c.read.new.buffer c.in_ok-count.field-0 content.0 c.read.ensures.room c.in-Some.is content.1 content.2 c.in-Some-nonce_from_text.ensures.text)

pub returns-in-None-nonce_from_text-clause-damaged : goal.returns-in-None-nonce_from_text-clause-damaged
returns-in-None-nonce_from_text-clause-damaged g c honest failed =
    let files = (g.F.Folder.seen c.args.folder.now).files in
    let content = c.in_ok-count.ensures.content honest in
    let name = (MatchResult-at_ok _ _ c.unwrap-name.result c.unwrap-name.ensures c.from_utf8.ensures.cases).0 ∙ c.pair_name-name.ensures.name in
    subst (λ (n : List ℕ). (text : List ℕ) × Contains (contents_at files n) (Some text) × (nonce_in (Some text) ≡ None)) name (front_damaged (contents_at files c.unwrap-name.result.now) _ c.in-Some.count c.read.new.buffer c.in_ok-count.field-0 content.0 c.read.ensures.room c.in-Some.is content.1 content.2 c.in-None-nonce_from_text.ensures.only)
