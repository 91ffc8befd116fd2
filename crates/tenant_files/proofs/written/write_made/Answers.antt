use Rattle.std.proofs.Common.{◌≡◌, Err, map, refl, ap, ◌∙◌, sym, subst}
use Rattle.std.proofs.lemmas.Bool.{false≢true}
use Rattle.brick_spec.specs.Cause.{Rose, writing_account}
use Rattle.brick_spec.specs.Texts.{AreDistinct}
use Rattle.chain_spec.specs.ChainSet.{file_names}
use Rattle.chain_types.specs.View.{chain_view}
use Rattle.tenant_spec.specs.Tenant.{texts_of}
use Rattle.tenant_spec.proofs.Texts.{names_of_texts}
use Rattle.run_spec.specs.Seen.{held}
use Rattle.store_files.specs.WholeFiles.{text_view}
use Rattle.store_files.proofs.TextLists.{stops_for}
use Rattle.tenant_files.specs.Written.{texts_with}
use Rattle.tenant_files.proofs.Made.{texts_are, tally_is}
use Rattle.tenant_files.proofs.OutputFiles.{distinct_texts, file_others}
use Rattle.tenant_files.proofs.Steps.{wrote_none, stops_may, writes_same, rose_names}
use Rattle.tenant_files.proofs.written.write_made.Goals as goal

pub write_texts-requires-clause-distinct : goal.write_texts-requires-clause-distinct
write_texts-requires-clause-distinct g c =
    let refused = c.args.done.now.refused in
    let texts = ap (map text_view) c.deref-2.ensures.value ∙ (c.in_ok-texts.ensures refused (c.as_str.ensures.value ∙ c.in_ok-refused.ensures) ∙ (ap (λ n. texts_with c.args.out.now (chain_view c.args.chain.now) n refused c.deref.result.now) c.nano.ensures
    ∙ (ap (texts_with c.args.out.now (chain_view c.args.chain.now) c.args.capture.now.nano refused) c.deref.ensures.value ∙ texts_are c.args.out.now (chain_view c.args.chain.now) refused c.args.capture.now c.args.done.now c.requires.made))) in
    subst AreDistinct (sym texts) (distinct_texts c.args.out.now (chain_view c.args.chain.now) refused c.args.capture.now c.args.chain.now.outputs_distinct)

pub returns-in-Ok-clause-wrote : goal.returns-in-Ok-clause-wrote
returns-in-Ok-clause-wrote g c =
    let chain = chain_view c.args.chain.now in
    let refused = c.args.done.now.refused in
    let texts = ap (map text_view) c.deref-2.ensures.value ∙ (c.in_ok-texts.ensures refused (c.as_str.ensures.value ∙ c.in_ok-refused.ensures) ∙ (ap (λ n. texts_with c.args.out.now chain n refused c.deref.result.now) c.nano.ensures
    ∙ (ap (texts_with c.args.out.now chain c.args.capture.now.nano refused) c.deref.ensures.value ∙ texts_are c.args.out.now chain refused c.args.capture.now c.args.done.now c.requires.made))) in (
      c.in_ok-tally.ensures ∙ tally_is chain refused c.args.capture.now c.args.done.now c.requires.made,
      λ tells.
          let wrote = writes_same _ _ _ (texts_of c.args.out.now chain refused c.args.capture.now) _ _ texts (c.in-Ok.ensures.files tells) in
          (wrote.all refl, file_others c.args.out.now chain refused c.args.capture.now _ _ wrote.others),
    )

pub returns-in-Err-Failed-clause-wrote : goal.returns-in-Err-Failed-clause-wrote
returns-in-Err-Failed-clause-wrote g c =
    let chain = chain_view c.args.chain.now in
    let refused = c.args.done.now.refused in
    let failed = ap Err c.in-Err-Failed.field-0-is in
    let texts = ap (map text_view) c.deref-2.ensures.value ∙ (c.in_ok-texts.ensures refused (c.as_str.ensures.value ∙ c.in_ok-refused.ensures) ∙ (ap (λ n. texts_with c.args.out.now chain n refused c.deref.result.now) c.nano.ensures
    ∙ (ap (texts_with c.args.out.now chain c.args.capture.now.nano refused) c.deref.ensures.value ∙ texts_are c.args.out.now chain refused c.args.capture.now c.args.done.now c.requires.made))) in (
      rose_names _ (writing_account c.args.tenant) _ (texts_of c.args.out.now chain refused c.args.capture.now) (file_names c.args.out.now chain) _ _ c.writing_account.ensures texts (names_of_texts c.args.out.now chain refused c.args.capture.now) (c.in-Err-Failed.ensures.cause failed),
      λ tells.
          let wrote = writes_same _ _ _ (texts_of c.args.out.now chain refused c.args.capture.now) _ _ texts (c.in-Err-Failed.ensures.files tells) in (
            stops_for _ _ (λ text why. subst (λ account. Rose (g.S.Store.faults c.args.store.now account text.name) (g.S.Store.faults c.write_texts.new.store account text.name)) c.writing_account.ensures (why failed)) _ _
                (texts_of c.args.out.now chain refused c.args.capture.now) (wrote.stops false≢true),
            file_others c.args.out.now chain refused c.args.capture.now _ _ wrote.others,
          ),
    )

pub returns-clause-wrote : goal.returns-clause-wrote
returns-clause-wrote g c = λ tells.
    let chain = chain_view c.args.chain.now in
    let refused = c.args.done.now.refused in
    let texts = ap (map text_view) c.deref-2.ensures.value ∙ (c.in_ok-texts.ensures refused (c.as_str.ensures.value ∙ c.in_ok-refused.ensures) ∙ (ap (λ n. texts_with c.args.out.now chain n refused c.deref.result.now) c.nano.ensures
    ∙ (ap (texts_with c.args.out.now chain c.args.capture.now.nano refused) c.deref.ensures.value ∙ texts_are c.args.out.now chain refused c.args.capture.now c.args.done.now c.requires.made))) in
    let wrote = writes_same _ _ _ (texts_of c.args.out.now chain refused c.args.capture.now) _ _ texts (c.in-Err-NoMemory.ensures.files tells) in
    (stops_may _ _ _ (texts_of c.args.out.now chain refused c.args.capture.now) (wrote.stops false≢true), file_others c.args.out.now chain refused c.args.capture.now _ _ wrote.others)
