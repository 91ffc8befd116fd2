use Rattle.flow_stages.proofs.Translations.{translated_read, refused_read}
use Rattle.flow_stages.proofs.translation.translate_read.Goals as goal

pub returns-clause-read : goal.returns-clause-read
returns-clause-read c =
    translated_read c.args.plan.now c.args.class.now c.args.packet.now c.frame_mut.result.now c.translate_bytes.new.frame c.translate_bytes.result c.requires c.frame_mut.ensures.value c.translate_bytes.auto.frame c.translate_bytes.ensures.ok c.translate_bytes.ensures.err

pub returns-clause-err : goal.returns-clause-err
returns-clause-err c =
    refused_read c.args.plan.now c.args.class.now c.args.packet.now c.frame_mut.result.now c.translate_bytes.new.frame c.translate_bytes.result c.frame_mut.ensures.value c.translate_bytes.ensures.err
