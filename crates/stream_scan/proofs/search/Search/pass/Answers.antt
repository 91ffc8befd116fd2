use Rattle.std.proofs.Common.{ℕ, ◌≡◌, ◌-◌, ◌+◌, ◌++◌, List, length, ap, sym, ◌∙◌, length-append, arith}
use Rattle.stream_scan.specs.LastBytes.{last_bytes}
use Rattle.stream_scan.proofs.Lasts.{last_run}
use Rattle.stream_scan.proofs.search.Search.pass.Goals as goal

pub returns-clause-goes_on : goal.returns-clause-goes_on
returns-clause-goes_on c = λ bytes h.
    let most = length c.args.self.now.needle.items - 1 in
    let tail : c.as_slice.result.now ≡ last_bytes most bytes = c.as_slice.ensures.value ∙ h.tail in
    record {
      count = omega (arith, h.count, length-append bytes c.args.piece.now);
      tail = c.last_of-self.ensures
          ∙ ap (λ (n : ℕ). last_bytes (n - 1) (c.as_slice.result.now ++ c.args.piece.now)) c.len.ensures.value
          ∙ ap (λ (l : List ℕ). last_bytes most (l ++ c.args.piece.now)) tail
          ∙ last_run most bytes c.args.piece.now;
      found = c.found_in-self.ensures bytes h;
    }
