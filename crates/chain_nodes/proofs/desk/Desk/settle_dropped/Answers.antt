use Rattle.std.proofs.Common.{◌∙◌, ◌∷◌, ◌++◌, ap, sym, slice_index}
use Rattle.flow_work.specs.Buffers.{AreOut, Recycled}
use Rattle.chain_nodes.specs.Desk.{dropped_buffer}
use Rattle.chain_nodes.proofs.Settles.{out_next, recycled_next, popped_whole, counts_next}
use Rattle.chain_nodes.proofs.desk.Desk.settle_dropped.Goals as goal

pub put_back-requires : goal.put_back-requires
put_back-requires c =
    let v = c.each.invariant in
    out_next dropped_buffer c.args.self.now.out.dropped.items c.pop.new.self.items v.0 c.in-Some.field-0 c.each.self.out.dropped.items c.args.self.now.back c.each.self.back c.args.self.now.out.spare c.each.self.out.spare v.1 c.in-Some.ensures.items c.requires v.2

pub each-preserved : goal.each-preserved
each-preserved c =
    let v = c.each.invariant in
    let x = c.in-Some.field-0 in
    let all = popped_whole dropped_buffer c.args.self.now.out.dropped.items c.pop.new.self.items v.0 x c.each.self.out.dropped.items v.1 c.in-Some.ensures.items in
    let l = c.put_back.ensures.lists in (
      x ∷ v.0,
      all ∙ ap (λ ds. ds.items ++ (x ∷ v.0)) (sym l.dropped),
      recycled_next dropped_buffer v.0 x c.args.self.now.back c.each.self.back c.put_back.new.self.back c.args.self.now.out.spare c.each.self.out.spare c.put_back.new.self.out.spare v.2 c.put_back.ensures.recycled,
      counts_next c.args.self.now.counts c.each.self.counts c.put_back.new.self.counts v.0 x v.3 (λ k l. ap (λ cs. slice_index cs k) c.put_back.ensures.counts ∙ c.count.ensures k l),
      l.passed ∙ v.4,
      l.consumed ∙ v.5,
    )
