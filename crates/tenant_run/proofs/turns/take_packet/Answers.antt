use Rattle.tenant_run.proofs.turns.take_packet.Goals as goal

pub take_buffer-requires-clause-ready : goal.take_buffer-requires-clause-ready
take_buffer-requires-clause-ready g c = (c.in_ok-make_way.ensures.carries c.args.bytes c.requires.carries).lying

pub returns-clause-carries : goal.returns-clause-carries
returns-clause-carries g c =
    let way = c.in_ok-make_way.ensures.carries c.args.bytes c.requires.carries in
    record {
      usable = way.usable;
      open_work = way.open_work;
      works = way.works;
      waiting = way.waiting;
      lying = c.take_buffer.ensures.ready;
    }
