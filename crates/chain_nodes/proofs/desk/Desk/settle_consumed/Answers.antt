use Rattle.std.proofs.Common.{◌∙◌, ◌∷◌, ◌++◌, ap, sym}
use Rattle.batch_ops.specs.Outlet.{buffer_of}
use Rattle.chain_nodes.proofs.Settles.{out_next, recycled_next, popped_whole}
use Rattle.chain_nodes.proofs.desk.Desk.settle_consumed.Goals as goal

pub put_back-requires : goal.put_back-requires
put_back-requires c =
    let v = c.each.invariant in
    out_next buffer_of c.args.self.now.out.consumed.items c.pop.new.self.items v.0 c.in-Some.packet c.each.self.out.consumed.items c.args.self.now.back c.each.self.back c.args.self.now.out.spare c.each.self.out.spare v.1 c.in-Some.ensures.items c.requires v.2

pub each-preserved : goal.each-preserved
each-preserved c =
    let v = c.each.invariant in
    let x = c.in-Some.packet in
    let all = popped_whole buffer_of c.args.self.now.out.consumed.items c.pop.new.self.items v.0 x c.each.self.out.consumed.items v.1 c.in-Some.ensures.items in
    let l = c.put_back.ensures.lists in (
      x ∷ v.0,
      all ∙ ap (λ ds. ds.items ++ (x ∷ v.0)) (sym l.consumed),
      recycled_next buffer_of v.0 x c.args.self.now.back c.each.self.back c.put_back.new.self.back c.args.self.now.out.spare c.each.self.out.spare c.put_back.new.self.out.spare v.2 c.put_back.ensures.recycled,
      c.put_back.ensures.counts ∙ v.3,
      l.passed ∙ v.4,
      l.dropped ∙ v.5,
    )
