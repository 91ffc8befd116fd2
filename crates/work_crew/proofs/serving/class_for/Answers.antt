use Rattle.std.proofs.Common.{ap, ◌∙◌, arith}
use Rattle.brick_base.specs.Flow.{class_view}
use Rattle.work_crew.proofs.Jobs.{classes_count, class_is}
use Rattle.work_crew.proofs.serving.class_for.Goals as goal

pub index-requires : goal.index-requires
index-requires c = let many = classes_count _ c.args.job.now.capture _ c.args.job.now.classed in let there = c.requires.there in omega arith

pub returns : goal.returns
returns c = ap class_view c.index.ensures ∙ class_is _ c.args.job.now.capture c.args.job.now.classes.items c.args.number c.index.result.now c.args.job.now.classed c.requires.there
