use Rattle.lisp_requests.specs.Meaning.{encapsulated_value}
use Rattle.lisp_requests.proofs.PlaceLaws.{message_stands}
use Rattle.lisp_requests.proofs.encapsulated.message_place.Goals as goal

pub returns-clause-stands : goal.returns-clause-stands
returns-clause-stands c = rw (c.ip_header_len.ensures, c.split_at.ensures.back) (message_stands c.args.bytes.now (encapsulated_value c.args.request.now) c.requires)
