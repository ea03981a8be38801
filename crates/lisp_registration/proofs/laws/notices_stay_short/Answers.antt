use Rattle.lisp_registration.proofs.Standing.{expire_keeps, notify_keeps, receive_keeps, reload_keeps, resend_keeps, restart_keeps, start_keeps}
use Rattle.lisp_registration.proofs.laws.notices_stay_short.Goals as goal

pub returns-clause-start : goal.returns-clause-start
returns-clause-start c = start_keeps

pub returns-clause-restart : goal.returns-clause-restart
returns-clause-restart c = restart_keeps

pub returns-clause-reload : goal.returns-clause-reload
returns-clause-reload c = reload_keeps

pub returns-clause-receive : goal.returns-clause-receive
returns-clause-receive c = λ kept from bytes now buffer buffer' received received'. receive_keeps buffer buffer' kept from bytes now received received'

pub returns-clause-notify : goal.returns-clause-notify
returns-clause-notify c = λ kept router now buffer buffer' notice notice'. notify_keeps buffer buffer' kept router now notice notice'

pub returns-clause-resend : goal.returns-clause-resend
returns-clause-resend c = λ router now buffer buffer' notice notice'. resend_keeps buffer buffer' router now notice notice'

pub returns-clause-expire : goal.returns-clause-expire
returns-clause-expire c = expire_keeps
