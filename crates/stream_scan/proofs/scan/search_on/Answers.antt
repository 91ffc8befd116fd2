use Rattle.std.proofs.Common.{ℕ, ◌≡◌, ◌+◌, ◌-◌, ◌*◌, ◌/◌, ◌%◌, ◌<◌, ◌≤◌, max, ap, subst, sym, ◌∙◌, lit≤, arith}
use Rattle.brick_spec.specs.Stream.{reassembly, bytes_of}
use Rattle.stream_scan.proofs.Runs.{run_searched, run_end, window_at, window_whole, next_max, rest_at, rest_from, quotient_le}
use Rattle.stream_scan.proofs.scan.search_on.Goals as goal

same_le : (m n : ℕ) → m ≡ n → m ≤ n
same_le m n e = omega arith

pub windows-preserved : goal.windows-preserved
windows-preserved c =
    let before = c.args.search.now.searched in
    let ready = c.args.stream.now.ready in
    let q = c.windows.search.searched in
    let j = c.windows.j in
    let size : c.from-size.result ≡ 1460 = c.from-size.ensures in
    let from : q - j * c.from-size.result ≡ q - j * 1460 = ap (λ (s : ℕ). q - j * s) size in
    let after : before / 1460 ≤ j = subst (λ (s : ℕ). before / s ≤ j) size c.windows.auto.j in
    let at : (j * 1460 ≤ q) × (q ≤ j * 1460 + 1460) = subst (λ (x : ℕ). (j * 1460 ≤ x) × (x ≤ j * 1460 + 1460)) (sym c.windows.invariant.searched) (window_at before j 1460 (lit≤ tt) after) in
    let below : j < ready / 1460 = subst (λ (r : ℕ). j < r / 1460) c.ready.ensures.value (subst (λ (s : ℕ). j < c.ready.result / s) size c.windows-test.true) in
    let whole : j * 1460 + 1460 ≤ ready = window_whole ready j 1460 (lit≤ tt) below in
    let end : c.pass.new.self.searched ≡ j * 1460 + 1460 = c.pass.ensures.searched ∙ run_end q (q - j * c.from-size.result) (j * 1460) 1460 c.in-Some.window.now (c.in-Some.ensures.some.0 ∙ c.requires.size) from at.0 at.1 in
    record {
      searched = end ∙ next_max before j 1460 (lit≤ tt) after;
      needle = c.pass.ensures.needle ∙ c.windows.invariant.needle;
      goes_on = λ segments h b. run_searched (reassembly c.args.stream.now.reach segments).payloads ready h.in_order c.pass.new.self (j * 1460) 1460 q (q - j * c.from-size.result) c.in-Some.window.now
          at.0 at.1 whole from (c.in-Some.ensures.bytes segments h ∙ ap (λ (s : ℕ). bytes_of (reassembly c.args.stream.now.reach segments).payloads (j * s) s) c.requires.size) end
          (c.pass.ensures.goes_on (bytes_of (reassembly c.args.stream.now.reach segments).payloads 0 q) (c.windows.invariant.goes_on segments h b));
    }

pub returns-clause-goes_on : goal.returns-clause-goes_on
returns-clause-goes_on c = λ segments h b.
    let before = c.args.search.now.searched in
    let ready = c.args.stream.now.ready in
    let q = c.windows.search.searched in
    let j = c.windows.j in
    let a = ready - ready % 1460 in
    let payloads = (reassembly c.args.stream.now.reach segments).payloads in
    let size : c.from-size.result ≡ 1460 = c.from-size.ensures in
    let place : c.ready.result / c.from-size.result ≡ ready / 1460 = ap (λ (s : ℕ). c.ready.result / s) size ∙ ap (λ (r : ℕ). r / 1460) c.ready.ensures.value in
    let after : before / 1460 ≤ j = subst (λ (s : ℕ). before / s ≤ j) size c.windows.auto.j in
    let past : ready / 1460 ≤ j = subst (λ (x : ℕ). x ≤ j) place c.windows-test.false in
    let up : j ≤ ready / 1460 = subst (λ (x : ℕ). j ≤ x) place (c.windows.auto.j-end (quotient_le before c.ready.result c.from-size.result (subst (λ (s : ℕ). 0 < s) (sym size) (lit≤ tt)) (subst (λ (r : ℕ). before ≤ r) (sym c.ready.ensures.value) c.requires.before))) in
    let at : (a ≤ q) × (q ≤ a + ready % 1460) = subst (λ (x : ℕ). (a ≤ x) × (x ≤ a + ready % 1460)) (sym c.windows.invariant.searched) (rest_from before ready j 1460 (lit≤ tt) c.requires.before after past up) in
    let from : q - c.ready.result / c.from-size.result * c.from-size.result ≡ q - a =
    ap (λ (s : ℕ). q - c.ready.result / c.from-size.result * s) size ∙ ap (λ (m : ℕ). q - m * 1460) place ∙ ap (λ (m : ℕ). q - m) (rest_at ready 1460 (lit≤ tt)).0 in
    let end : c.pass-2.new.self.searched ≡ a + ready % 1460 =
    c.pass-2.ensures.searched ∙ run_end q (q - c.ready.result / c.from-size.result * c.from-size.result) a (ready % 1460) c.rest.result.now (c.rest.ensures.len ∙ ap (λ (s : ℕ). ready % s) c.requires.size) from at.0 at.1 in
    run_searched payloads ready h.in_order c.pass-2.new.self a (ready % 1460) q (q - c.ready.result / c.from-size.result * c.from-size.result) c.rest.result.now
    at.0 at.1 (same_le (a + ready % 1460) ready (rest_at ready 1460 (lit≤ tt)).1) from
    (c.rest.ensures.bytes segments h ∙ ap (λ (s : ℕ). bytes_of payloads (ready - ready % s) (ready % s)) c.requires.size) end
    (c.pass-2.ensures.goes_on (bytes_of payloads 0 q) (c.windows.invariant.goes_on segments h b))
