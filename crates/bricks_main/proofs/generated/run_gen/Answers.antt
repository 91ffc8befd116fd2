use Rattle.std.proofs.Common.{rules, ◌≡◌, refl}
use Rattle.std.specs.Prelude.{IsTrue}
use Rattle.chain_types.specs.View.{chain_view}
use Rattle.run_spec.specs.Seen.{held, seen}
use Rattle.capture_gen.proofs.Generator.{none_reads}
use Rattle.bricks_main.proofs.Generating.{fault_kept, memory_kept, one_kept, none_kept, made_captured}
use Rattle.bricks_main.proofs.generated.run_gen.Goals as goal

pub returns-in-Err-Failed : goal.returns-in-Err-Failed
returns-in-Err-Failed g c = fault_kept (IsTrue g.S.Store.tells) (IsTrue g.P.Sink.tells) c.args.number c.args.out_dir.now c.requires.plain (seen (g.S.Store.file c.args.store.now) (g.S.Store.faults c.args.store.now) (g.P.Sink.written c.args.out.now) (g.P.Sink.faults c.args.out.now))
    (seen (g.S.Store.file c.write_generated.new.store) (g.S.Store.faults c.write_generated.new.store) (g.P.Sink.written c.tell.new.sink) (g.P.Sink.faults c.tell.new.sink)) c.tell.result
    (none_reads (g.S.Store.faults c.args.store.now) (g.S.Store.faults c.write_generated.new.store) (g.S.Store.faults c.write_generated.new.store) c.write_generated.ensures.others (λ a n e. refl))
    c.in-Err-Failed.ensures.stopped (c.in-Err-Failed.ensures.cause (search rules)) c.tell.ensures.told c.tell.ensures.shown

pub returns-in-Err-NoMemory : goal.returns-in-Err-NoMemory
returns-in-Err-NoMemory g c = memory_kept (IsTrue g.S.Store.tells) (IsTrue g.P.Sink.tells) c.args.number c.args.out_dir.now c.requires.plain (seen (g.S.Store.file c.args.store.now) (g.S.Store.faults c.args.store.now) (g.P.Sink.written c.args.out.now) (g.P.Sink.faults c.args.out.now))
    (seen (g.S.Store.file c.write_generated.new.store) (g.S.Store.faults c.write_generated.new.store) (g.P.Sink.written c.tell-in-Err-NoMemory.new.sink) (g.P.Sink.faults c.tell-in-Err-NoMemory.new.sink)) c.tell-in-Err-NoMemory.result
    (none_reads (g.S.Store.faults c.args.store.now) (g.S.Store.faults c.write_generated.new.store) (g.S.Store.faults c.write_generated.new.store) c.write_generated.ensures.others (λ a n e. refl))
    c.in-Err-NoMemory.ensures.stopped c.tell-in-Err-NoMemory.ensures.told c.tell-in-Err-NoMemory.ensures.shown

pub returns-in-Ok-run_one : goal.returns-in-Ok-run_one
returns-in-Ok-run_one g c = one_kept (IsTrue g.S.Store.tells) (IsTrue g.P.Sink.tells) c.args.number c.args.out_dir.now c.requires.plain (seen (g.S.Store.file c.args.store.now) (g.S.Store.faults c.args.store.now) (g.P.Sink.written c.args.out.now) (g.P.Sink.faults c.args.out.now))
    (seen (g.S.Store.file c.run_one.new.store) (g.S.Store.faults c.run_one.new.store) (g.P.Sink.written c.tell-in-Ok-run_one.new.sink) (g.P.Sink.faults c.tell-in-Ok-run_one.new.sink)) (held (g.S.Store.file c.write_generated.new.store) (g.S.Store.faults c.write_generated.new.store)) c.tell-in-Ok-run_one.result
    c.in-Ok.ensures.written c.write_generated.ensures.later c.write_generated.ensures.others c.run_one.ensures.others c.tell-in-Ok-run_one.ensures.fault
    (chain_view c.in-Ok.generated.chain) c.in-Ok-run_one.lines c.in-Ok.ensures.chain
    (c.in-Ok-run_one.ensures.ran (λ x. made_captured c.args.number c.args.out_dir.now (g.S.Store.file c.write_generated.new.store) (chain_view c.in-Ok.generated.chain) c.in-Ok.generated.capture c.in-Ok.ensures.chain c.in-Ok.ensures.capture (c.in-Ok.ensures.written x).0.0))
    c.tell-in-Ok-run_one.ensures.told c.tell-in-Ok-run_one.ensures.shown

pub returns-in-Err : goal.returns-in-Err
returns-in-Err g c = none_kept (IsTrue g.S.Store.tells) (IsTrue g.P.Sink.tells) c.args.number c.args.out_dir.now c.requires.plain (seen (g.S.Store.file c.args.store.now) (g.S.Store.faults c.args.store.now) (g.P.Sink.written c.args.out.now) (g.P.Sink.faults c.args.out.now))
    (seen (g.S.Store.file c.run_one.new.store) (g.S.Store.faults c.run_one.new.store) (g.P.Sink.written c.tell-in-Err.new.sink) (g.P.Sink.faults c.tell-in-Err.new.sink)) (held (g.S.Store.file c.write_generated.new.store) (g.S.Store.faults c.write_generated.new.store)) c.tell-in-Err.result
    c.in-Ok.ensures.written c.write_generated.ensures.later c.write_generated.ensures.others c.run_one.ensures.others c.tell-in-Err.ensures.fault
    (chain_view c.in-Ok.generated.chain) c.in-Ok.ensures.chain
    (c.in-Err.ensures.ran (λ x. made_captured c.args.number c.args.out_dir.now (g.S.Store.file c.write_generated.new.store) (chain_view c.in-Ok.generated.chain) c.in-Ok.generated.capture c.in-Ok.ensures.chain c.in-Ok.ensures.capture (c.in-Ok.ensures.written x).0.0))
    c.tell-in-Err.ensures.told c.tell-in-Err.ensures.shown
