use Rattle.std.proofs.Common.{◌≡◌, ◌++◌, rules, sym, ap, ◌∙◌}
use Rattle.store_files.proofs.Pieces.{puts_none, puts_then, puts_grows, grows_then, record_cut, same_given, puts_end}
use Rattle.store_files.proofs.writing.put_item_pieces.Goals as goal

pub returns-in_err-put_pieces-clause-grows : goal.returns-in_err-put_pieces-clause-grows
returns-in_err-put_pieces-clause-grows g c = λ tells.
    grows_then _ _ _ _ _ _ _ _ (puts_none _ _ _ (c.requires.there tells)) (c.put_pieces.ensures.grows tells) (record_cut _ _ c.args.item.now (search rules))

pub returns-in_err-put_pieces-2-clause-grows : goal.returns-in_err-put_pieces-2-clause-grows
returns-in_err-put_pieces-2-clause-grows g c = λ tells.
    grows_then _ _ _ _ _ _ _ _ (puts_then _ _ _ _ _ _ _ _ _ (puts_none _ _ _ (c.requires.there tells)) (c.in_ok-put_pieces.ensures.ok tells) (record_cut _ _ c.args.item.now (search rules)))
    (c.put_pieces-2.ensures.grows tells) (same_given c.put_pieces.new.waiting.items c.as_slice-2.result.now c.args.item.now.frame (search rules))

pub returns-clause-ok : goal.returns-clause-ok
returns-clause-ok g c = λ tells.
    puts_end _ _ c.put_pieces.new.waiting.items c.as_slice-2.result.now c.args.item.now.frame _ _ _ _ (puts_then _ _ _ _ _ _ _ _ _ (puts_none _ _ _ (c.requires.there tells)) (c.in_ok-put_pieces.ensures.ok tells) (record_cut _ _ c.args.item.now (search rules)))
    (c.in_ok-put_pieces-2.ensures.ok tells) (search rules)

pub returns-clause-grows : goal.returns-clause-grows
returns-clause-grows g c = λ tells. puts_grows _ _ _ _ _ (returns-clause-ok g c tells)
