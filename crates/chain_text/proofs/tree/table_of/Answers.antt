use Rattle.std.proofs.Common.{◌≡◌, ◌∙◌, arith, Some, None}
use Rattle.toml.specs.Parse.{parse_document}
use Rattle.toml.specs.View.{table_view}
use Rattle.chain_text.proofs.Trees.{document_text, document_none, tree_is}
use Rattle.chain_text.proofs.tree.table_of.Goals as goal

pub returns-in-Err : goal.returns-in-Err
returns-in-Err c = tree_is c.args.bytes.now None (omega arith) (document_none c.args.bytes.now c.in-Err.ensures.cases.0)

pub returns-in-Ok-table_from_str : goal.returns-in-Ok-table_from_str
returns-in-Ok-table_from_str c =
    let is = c.in-Ok.ensures.cases in
    let read : parse_document c.args.bytes.now ≡ Some (table_view c.in-Ok-table_from_str.table) = rw (← is.0) c.in-Ok-table_from_str.ensures.ok in
    tree_is c.args.bytes.now _ (omega arith) (document_text c.args.bytes.now is.1 ∙ read)
