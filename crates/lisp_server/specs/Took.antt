-- What a Map-Server took, and what it answers.
use Rattle.std.specs.Prelude.{ℕ, List, Option, None}
use Rattle.lisp_server.specs.declared.took.Took.{Took}
use Rattle.lisp_server.specs.declared.took.Took.TheVariants.{Accepted, NoticeDone}

abbrev pub reply_in : {A : Type 0} → Took A → Option (List ℕ)
reply_in (Accepted router key nonce reply) = reply
reply_in (NoticeDone router nonce) = None
