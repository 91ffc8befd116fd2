use Rattle.std.proofs.Common.{◌≡◌, ℕ, ◌+◌, ◌∷◌, [], ◌++◌, arith, sym, ap, ◌∙◌, rules, true, cond, List, vec_len}
use Rattle.std.specs.Result.{is_ok}
use mathlib.Core.Option.{some-injective}
use lib.ListN.{get_elem?}
use Rattle.packet_owner.specs.Buffer.{BufferModel}
use Rattle.lane_table.specs.Rule.{numbers_from}
use Rattle.lane_table.proofs.Starts.{numbers_last}
use Rattle.lane_table.proofs.WordCalls.{same_buffer}
use Rattle.lane_table.proofs.shut.emptied.Goals as goal

pub unreachable-requires : goal.unreachable-requires
unreachable-requires c = let f = c.requires.full c.loop-i.i (omega arith) in let t = c.take.ensures.value in
    c.in_default.not-Free f.0 (some-injective _ _ (sym t ∙ ap (λ l. get_elem? l c.loop-i.i) c.loop-i.invariant.items ∙ f.1))

pub loop-i-preserved : goal.loop-i-preserved
loop-i-preserved c = let v = c.loop-i.invariant in let o = c.take.ensures.others in let xs : List ℕ = c.loop-i.home.items in let i : ℕ = c.loop-i.i in
    let slot : c.slot.result ≡ i = c.slot.ensures ∙ (let f = c.requires.full i (omega arith) in let t = c.take.ensures.value in
    let same = some-injective _ _ (sym t ∙ ap (λ l. get_elem? l i) v.items ∙ f.1) in ap (λ (b : BufferModel). b.slot) (same_buffer c.in-Free.b f.0 (sym c.in-Free.is ∙ same)) ∙ f.2) in
    let ok : true ≡ is_ok c.push-pushed.result = c.if-prove.ensures.value in
    let items : c.push-pushed.new.self.items ≡ xs ++ c.slot.result ∷ [] = c.push-pushed.ensures.items ∙ ap (λ b. cond b (xs ++ c.slot.result ∷ []) xs) (sym ok) in
    let len : vec_len c.push-pushed.new.self ≡ vec_len c.loop-i.home + 1 = c.push-pushed.ensures.len ∙ ap (λ b. cond b (vec_len c.loop-i.home + 1) (vec_len c.loop-i.home)) (sym ok) in record {
      left = search rules;
      taken = search rules;
      items = o.0 ∙ v.items;
      len = o.2 ∙ v.len;
      home = items ∙ ap (λ n. xs ++ n ∷ []) slot ∙ ap (λ l. l ++ i ∷ []) v.home ∙ ap (λ n. numbers_from 0 i ++ n ∷ []) (let e : i ≡ 0 + i = omega arith in e) ∙ sym (numbers_last 0 i);
      count = let e = v.count in omega arith;
      room = search rules;
    }
