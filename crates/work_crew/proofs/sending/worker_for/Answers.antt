use Rattle.std.proofs.Common.{arith}
use Rattle.work_crew.proofs.Jobs.{classes_count, hash_is}
use Rattle.work_crew.proofs.sending.worker_for.Goals as goal

pub index-requires : goal.index-requires
index-requires c = let many = classes_count _ c.args.job.now.capture _ c.args.job.now.classed in let there = c.requires.there in omega arith

pub returns-clause-worker : goal.returns-clause-worker
returns-clause-worker c = hash_is _ c.args.job.now.capture c.args.job.now.classes.items c.args.k c.args.workers c.index.result.now c.args.job.now.classed c.requires.there c.index.ensures
