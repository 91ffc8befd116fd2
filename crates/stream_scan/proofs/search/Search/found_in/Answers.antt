use Rattle.std.proofs.Common.{ℕ, ◌≡◌, ◌+◌, ◌-◌, ◌++◌, ◌<◌, List, length, take, Option, Some, None, refl, ap, sym, ◌∙◌, arith}
use Rattle.memchr.specs.Find.{FindsNeedle}
use Rattle.stream_scan.proofs.Finding.{stays, Read, in_seam, in_piece}
use Rattle.stream_scan.proofs.search.Search.found_in.Goals as goal

no_answer : {hay needle : List ℕ} (r : Option ℕ) → ((x : ℕ) → r ≡ Some x → ⊥) → FindsNeedle hay needle 0 r → FindsNeedle hay needle 0 None
no_answer None h f = f
no_answer (Some x) h f = absurd (h x refl)

pub returns-then-is_some : goal.returns-then-is_some
returns-then-is_some c = λ bytes h. stays c.args.self.now.needle.items (omega (arith, c.args.self.now.length)) bytes c.args.piece.now c.args.self.now.found h.found (sym c.is_some.ensures ∙ c.if-is_some.true)

pub returns-in-Some : goal.returns-in-Some
returns-in-Some c = λ bytes h.
    let s = c.args.self.now in
    let text = c.as_slice-needle.result.now in
    let some : 0 < length s.needle.items = omega (arith, s.length) in
    let read : Read s.needle.items some bytes c.args.piece.now s.found s.tail.items c.as_slice-2.result.now text = record {
      found_is = h.found;
      found_none = sym c.is_some.ensures ∙ c.if-is_some.false;
      kept_is = h.tail;
      seam_is = c.as_slice-2.ensures.value
          ∙ c.seam_of-seam.ensures
          ∙ ap (λ (l : List ℕ). l ++ take (length text - 1) c.args.piece.now) c.as_slice.ensures.value
          ∙ ap (λ (l : List ℕ). s.tail.items ++ take (length l - 1) c.args.piece.now) c.as_slice-needle.ensures.value;
      text_is = c.as_slice-needle.ensures.value;
    } in
    ap (λ (n : ℕ). Some (s.searched - n + c.in-Some.at)) c.len.ensures.value
    ∙ ap (λ (n : ℕ). Some (n - length s.tail.items + c.in-Some.at)) h.count
    ∙ in_seam s.needle.items some bytes c.args.piece.now s.found s.tail.items c.as_slice-2.result.now text read c.in-Some.at c.in-Some.ensures

pub returns-in-Some-find : goal.returns-in-Some-find
returns-in-Some-find c = λ bytes h.
    let s = c.args.self.now in
    let text = c.as_slice-needle.result.now in
    let some : 0 < length s.needle.items = omega (arith, s.length) in
    let read : Read s.needle.items some bytes c.args.piece.now s.found s.tail.items c.as_slice-2.result.now text = record {
      found_is = h.found;
      found_none = sym c.is_some.ensures ∙ c.if-is_some.false;
      kept_is = h.tail;
      seam_is = c.as_slice-2.ensures.value
          ∙ c.seam_of-seam.ensures
          ∙ ap (λ (l : List ℕ). l ++ take (length text - 1) c.args.piece.now) c.as_slice.ensures.value
          ∙ ap (λ (l : List ℕ). s.tail.items ++ take (length l - 1) c.args.piece.now) c.as_slice-needle.ensures.value;
      text_is = c.as_slice-needle.ensures.value;
    } in
    ap (λ (n : ℕ). Some (n + c.in-Some-find.at)) h.count
    ∙ in_piece s.needle.items some bytes c.args.piece.now s.found s.tail.items c.as_slice-2.result.now text read (Some c.in-Some-find.at) (no_answer c.find.result c.in_default.not-Some c.find.ensures) c.in-Some-find.ensures

pub returns-in-None : goal.returns-in-None
returns-in-None c = λ bytes h.
    let s = c.args.self.now in
    let text = c.as_slice-needle.result.now in
    let some : 0 < length s.needle.items = omega (arith, s.length) in
    let read : Read s.needle.items some bytes c.args.piece.now s.found s.tail.items c.as_slice-2.result.now text = record {
      found_is = h.found;
      found_none = sym c.is_some.ensures ∙ c.if-is_some.false;
      kept_is = h.tail;
      seam_is = c.as_slice-2.ensures.value
          ∙ c.seam_of-seam.ensures
          ∙ ap (λ (l : List ℕ). l ++ take (length text - 1) c.args.piece.now) c.as_slice.ensures.value
          ∙ ap (λ (l : List ℕ). s.tail.items ++ take (length l - 1) c.args.piece.now) c.as_slice-needle.ensures.value;
      text_is = c.as_slice-needle.ensures.value;
    } in
    in_piece s.needle.items some bytes c.args.piece.now s.found s.tail.items c.as_slice-2.result.now text read None (no_answer c.find.result c.in_default.not-Some c.find.ensures) c.in-None.ensures
