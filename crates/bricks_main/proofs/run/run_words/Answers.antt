use Rattle.std.proofs.Common.{rules}
use Rattle.std.specs.Prelude.{IsTrue, map, string_bytes}
use Rattle.run_spec.specs.Seen.{held, printed, seen}
use Rattle.command_line.specs.View.{line_view}
use Rattle.bricks_main.proofs.Generating.{early_gen}
use Rattle.bricks_main.proofs.LanePromises.{early_inline, early_run}
use Rattle.bricks_main.proofs.Words.{spelt_of, command_line_kept, usage_kept, run_kept, generated_kept, books_kept}
use Rattle.bricks_main.proofs.run.run_words.Goals as goal

pub returns-in-Err-clause-run : goal.returns-in-Err-clause-run
returns-in-Err-clause-run g c = λ line is mode.
    early_run (IsTrue g.S.Store.tells) (IsTrue g.P.Sink.tells) line.chains line.out line.workers (g.K.LaneKit.books c.args.kit.now) (held (g.S.Store.file c.args.store.now) (g.S.Store.faults c.args.store.now))
    (printed (g.P.Sink.written c.args.out.now) (g.P.Sink.faults c.args.out.now)) (printed (g.P.Sink.written c.tell_no_memory.new.sink) (g.P.Sink.faults c.tell_no_memory.new.sink)) c.tell_no_memory.result
    c.tell_no_memory.ensures.status c.tell_no_memory.ensures.shown

pub returns-in-Err-clause-inline : goal.returns-in-Err-clause-inline
returns-in-Err-clause-inline g c = λ line is mode.
    early_inline (IsTrue g.S.Store.tells) (IsTrue g.P.Sink.tells) line.chains line.out (held (g.S.Store.file c.args.store.now) (g.S.Store.faults c.args.store.now))
    (printed (g.P.Sink.written c.args.out.now) (g.P.Sink.faults c.args.out.now)) (printed (g.P.Sink.written c.tell_no_memory.new.sink) (g.P.Sink.faults c.tell_no_memory.new.sink)) c.tell_no_memory.result
    c.tell_no_memory.ensures.status c.tell_no_memory.ensures.shown

pub returns-in-Err-clause-generated : goal.returns-in-Err-clause-generated
returns-in-Err-clause-generated g c = λ line number is mode spelt.
    early_gen (IsTrue g.S.Store.tells) (IsTrue g.P.Sink.tells) number line.out (held (g.S.Store.file c.args.store.now) (g.S.Store.faults c.args.store.now))
    (printed (g.P.Sink.written c.args.out.now) (g.P.Sink.faults c.args.out.now)) (printed (g.P.Sink.written c.tell_no_memory.new.sink) (g.P.Sink.faults c.tell_no_memory.new.sink)) c.tell_no_memory.result
    c.tell_no_memory.ensures.status c.tell_no_memory.ensures.shown

pub returns-in-Ok-Some-clause-command_line : goal.returns-in-Ok-Some-clause-command_line
returns-in-Ok-Some-clause-command_line g c = command_line_kept (IsTrue g.S.Store.tells) (IsTrue g.P.Sink.tells) (map string_bytes c.args.words.now) (line_view c.in-Ok-Some.line)
    (seen (g.S.Store.file c.args.store.now) (g.S.Store.faults c.args.store.now) (g.P.Sink.written c.args.out.now) (g.P.Sink.faults c.args.out.now))
    (seen (g.S.Store.file c.run_line.new.store) (g.S.Store.faults c.run_line.new.store) (g.P.Sink.written c.run_line.new.out) (g.P.Sink.faults c.run_line.new.out))
    (g.K.LaneKit.books c.args.kit.now) (g.K.LaneKit.books c.run_line.new.kit) c.run_line.result (search rules)
    (spelt_of c.in-Ok-Some.line.mode c.in-Ok-Some.line.chains.now c.in-Ok-Some.line.out.now (search rules)) c.run_line.ensures.line

pub returns-in-Ok-Some-clause-usage : goal.returns-in-Ok-Some-clause-usage
returns-in-Ok-Some-clause-usage g c = λ shows. usage_kept (IsTrue g.S.Store.tells) (IsTrue g.P.Sink.tells) (map string_bytes c.args.words.now) (line_view c.in-Ok-Some.line)
    (seen (g.S.Store.file c.args.store.now) (g.S.Store.faults c.args.store.now) (g.P.Sink.written c.args.out.now) (g.P.Sink.faults c.args.out.now))
    (seen (g.S.Store.file c.run_line.new.store) (g.S.Store.faults c.run_line.new.store) (g.P.Sink.written c.run_line.new.out) (g.P.Sink.faults c.run_line.new.out))
    (g.K.LaneKit.books c.args.kit.now) (g.K.LaneKit.books c.run_line.new.kit) c.run_line.result (search rules)
    (spelt_of c.in-Ok-Some.line.mode c.in-Ok-Some.line.chains.now c.in-Ok-Some.line.out.now (search rules)) c.run_line.ensures.line

pub returns-in-Ok-Some-clause-run : goal.returns-in-Ok-Some-clause-run
returns-in-Ok-Some-clause-run g c = run_kept (IsTrue g.S.Store.tells) (IsTrue g.P.Sink.tells) (map string_bytes c.args.words.now) (line_view c.in-Ok-Some.line)
    (seen (g.S.Store.file c.args.store.now) (g.S.Store.faults c.args.store.now) (g.P.Sink.written c.args.out.now) (g.P.Sink.faults c.args.out.now))
    (seen (g.S.Store.file c.run_line.new.store) (g.S.Store.faults c.run_line.new.store) (g.P.Sink.written c.run_line.new.out) (g.P.Sink.faults c.run_line.new.out))
    (g.K.LaneKit.books c.args.kit.now) (g.K.LaneKit.books c.run_line.new.kit) c.run_line.result (search rules)
    (spelt_of c.in-Ok-Some.line.mode c.in-Ok-Some.line.chains.now c.in-Ok-Some.line.out.now (search rules)) c.run_line.ensures.line

pub returns-in-Ok-Some-clause-generated : goal.returns-in-Ok-Some-clause-generated
returns-in-Ok-Some-clause-generated g c = generated_kept (IsTrue g.S.Store.tells) (IsTrue g.P.Sink.tells) (map string_bytes c.args.words.now) (line_view c.in-Ok-Some.line)
    (seen (g.S.Store.file c.args.store.now) (g.S.Store.faults c.args.store.now) (g.P.Sink.written c.args.out.now) (g.P.Sink.faults c.args.out.now))
    (seen (g.S.Store.file c.run_line.new.store) (g.S.Store.faults c.run_line.new.store) (g.P.Sink.written c.run_line.new.out) (g.P.Sink.faults c.run_line.new.out))
    (g.K.LaneKit.books c.args.kit.now) (g.K.LaneKit.books c.run_line.new.kit) c.run_line.result (search rules)
    (spelt_of c.in-Ok-Some.line.mode c.in-Ok-Some.line.chains.now c.in-Ok-Some.line.out.now (search rules)) c.run_line.ensures.line

pub returns-in-Ok-Some-clause-books : goal.returns-in-Ok-Some-clause-books
returns-in-Ok-Some-clause-books g c = books_kept (IsTrue g.S.Store.tells) (IsTrue g.P.Sink.tells) (map string_bytes c.args.words.now) (line_view c.in-Ok-Some.line)
    (seen (g.S.Store.file c.args.store.now) (g.S.Store.faults c.args.store.now) (g.P.Sink.written c.args.out.now) (g.P.Sink.faults c.args.out.now))
    (seen (g.S.Store.file c.run_line.new.store) (g.S.Store.faults c.run_line.new.store) (g.P.Sink.written c.run_line.new.out) (g.P.Sink.faults c.run_line.new.out))
    (g.K.LaneKit.books c.args.kit.now) (g.K.LaneKit.books c.run_line.new.kit) c.run_line.result (search rules)
    (spelt_of c.in-Ok-Some.line.mode c.in-Ok-Some.line.chains.now c.in-Ok-Some.line.out.now (search rules)) c.run_line.ensures.line
