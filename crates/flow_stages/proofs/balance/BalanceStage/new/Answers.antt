use Rattle.flow_stages.proofs.EpochRows.{stage_built, rows_named, macs_there}
use Rattle.flow_stages.proofs.balance.BalanceStage.new.Goals as goal

pub build-requires-clause-named : goal.build-requires-clause-named
build-requires-clause-named c = rows_named c.args.backends.now c.args.changes.now c.in_ok-rows.rows.items c.in_ok-rows.ensures.names c.requires.first c.requires.later

pub invariant_of-result : goal.invariant_of-result
invariant_of-result c = record {
  each = macs_there c.args.backends.now c.args.changes.now c.in_ok-rows.rows.items c.in_ok-epochs.epochs c.in_ok-macs.macs.items c.in_ok-rows.ensures.begins c.in_ok-rows.ensures.names c.in_ok-epochs.ensures.tables c.in_ok-macs.ensures
      c.in_ok-epochs.ensures.backends;
}

pub returns : goal.returns
returns c = λ flow.
    stage_built c.args.backends.now c.args.changes.now c.in_ok-rows.rows.items c.in_ok-epochs.epochs c.in_ok-macs.macs.items flow c.in_ok-rows.ensures.begins c.in_ok-rows.ensures.names c.in_ok-epochs.ensures.tables c.in_ok-macs.ensures
