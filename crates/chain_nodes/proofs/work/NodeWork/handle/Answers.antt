use Rattle.std.proofs.Common.{◌≡◌, ◌∙◌, ◌∷◌, [], refl, ap, sym}
use Rattle.std.specs.Result.{is_err}
use Rattle.chain_nodes.proofs.Worked.{handled_failed, handled_took}
use Rattle.chain_nodes.proofs.work.NodeWork.handle.Goals as goal

pub returns-then-self : goal.returns-then-self
returns-then-self g c =
    let n = g.N.Node in
    handled_failed n.stands n.makes n.results n.serves g.met.N.Node.more c.args.self.now _ c.args.work c.requires.ready c.requires.out c.if-self.true refl refl refl c.put_back.ensures.recycled c.put_back.ensures.lists

pub returns-then-is_err : goal.returns-then-is_err
returns-then-is_err g c =
    let n = g.N.Node in
    handled_took n.stands n.makes n.results n.serves g.met.N.Node.more c.args.self.now _ c.args.work c.note-noted.result c.take-taken.result c.requires.ready c.requires.out c.if-self.false (sym c.if-is_err.true ∙ c.is_err.ensures.value ∙ ap is_err c.both.ensures) refl c.note-noted.ensures.seen c.note-noted.ensures.list c.take-taken.ensures

pub returns-else-is_err : goal.returns-else-is_err
returns-else-is_err g c =
    let n = g.N.Node in
    handled_took n.stands n.makes n.results n.serves g.met.N.Node.more c.args.self.now _ c.args.work c.note-noted.result c.take-taken.result c.requires.ready c.requires.out c.if-self.false (c.if-self.false ∙ sym c.if-is_err.false ∙ c.is_err.ensures.value ∙ ap is_err c.both.ensures) refl c.note-noted.ensures.seen c.note-noted.ensures.list c.take-taken.ensures
