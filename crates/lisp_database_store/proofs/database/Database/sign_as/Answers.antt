use Rattle.std.proofs.Common.{subst, Some}
use Rattle.lisp_database_store.specs.Table.{FindsWriter}
use Rattle.lisp_database_store.proofs.database.Database.sign_as.Goals as goal

pub returns-in_ok-save_writer-2 : goal.returns-in_ok-save_writer-2
returns-in_ok-save_writer-2 g c = record {
  read = c.load_writer.new.self.table;
  last = Some c.in-Some.last;
  found = subst (FindsWriter g.T.Table.means c.args.self.now.table c.load_writer.new.self.table) c.in-Some.is c.in_ok-last.ensures.found;
  compares = (
    c.between-change.ensures,
    record {
      news = λ _. (c.joined.result, record { machine = c.joined.ensures.machine; boot = c.joined.ensures.boot }, c.in_ok-save_writer-2.ensures.saved);
      none = λ none. absurd (none (c.is_news.ensures.0 c.if-is_news.true));
    },
  );
}
