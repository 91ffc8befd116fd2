use Rattle.std.proofs.Common.{◌≡◌, ◌∷◌, List, map, inr, rules, subst, arith}
use Rattle.std.proofs.lemmas.Bool.{false≢true}
use Rattle.brick_spec.specs.Texts.{AreDistinct}
use Rattle.store_files.specs.WholeFiles.{text_view}
use Rattle.store_files.proofs.TextLists.{writes_then, writes_stopped, some_then}
use Rattle.store_files.proofs.writing.+write_texts.Goals as goal

pub returns-in-Err-clause-files : goal.returns-in-Err-clause-files
returns-in-Err-clause-files g t c = λ tells.
    let is : c.args.texts.now ≡ c.in-Some.first.now ∷ c.in-Some.rest.now = search rules in
    let distinct = subst (λ (ts : List _). AreDistinct (map text_view ts)) is c.requires.distinct in
    rw is (writes_stopped _ _ (text_view c.in-Some.first.now) (map text_view c.in-Some.rest.now) (g.S.Store.file c.args.store.now) (g.S.Store.file c.write_text.new.store)
    false≢true
    (λ failed. (c.write_text.ensures.cause.cause (search rules))) distinct
    ((c.write_text.ensures.at_most tells)) ((c.write_text.ensures.others tells)))

pub returns-in-Ok-clause-files : goal.returns-in-Ok-clause-files
returns-in-Ok-clause-files g t c = λ tells.
    let is : c.args.texts.now ≡ c.in-Some.first.now ∷ c.in-Some.rest.now = search rules in
    let distinct = subst (λ (ts : List _). AreDistinct (map text_view ts)) is c.requires.distinct in
    rw is (writes_then _ _ _ (λ u rose failed. omega (arith, rose failed, c.in-Ok.ensures.cause.later c.args.account u.name)) (text_view c.in-Some.first.now) (map text_view c.in-Some.rest.now) (g.S.Store.file c.args.store.now) (g.S.Store.file c.write_text.new.store) (g.S.Store.file c.write_texts.new.store)
    distinct
    ((c.in-Ok.ensures.ok tells)) ((c.in-Ok.ensures.others tells)) (c.write_texts.ensures.files tells))

pub returns-in-Ok-clause-cause : goal.returns-in-Ok-clause-cause
returns-in-Ok-clause-cause g t c = λ failed.
    let is : c.args.texts.now ≡ c.in-Some.first.now ∷ c.in-Some.rest.now = search rules in
    rw is (inr (some_then c.args.account (map (λ t. t.name) (map text_view c.in-Some.rest.now)) (g.S.Store.faults c.args.store.now) (g.S.Store.faults c.write_text.new.store) (g.S.Store.faults c.write_texts.new.store)
    c.in-Ok.ensures.cause.later (c.write_texts.ensures.cause failed)))
