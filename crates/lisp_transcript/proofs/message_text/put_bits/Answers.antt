use Rattle.lisp_transcript.specs.Message.{bits_text}
use Rattle.lisp_transcript.proofs.Appends.{three}
use Rattle.lisp_transcript.proofs.message_text.put_bits.Goals as goal

pub returns-clause-text : goal.returns-clause-text
unfolding bits_text
returns-clause-text g c =
    rw (← c.message.view_is) (three c.put_word-3.result _ _ _ _ _ _ _ c.in_ok-put_word.ensures.text c.in_ok-put_word-2.ensures.text c.put_word-3.ensures.text)
