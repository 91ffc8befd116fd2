-- A record that is written is read again, and nothing else is read.
use Rattle.std.proofs.Common.{◌≡◌, inl, inr, ℕ, ◌+◌, ◌<◌, ◌≤◌, List, [], ◌∷◌, ◌++◌, length, take, drop, refl, sym, ◌∙◌, ap, subst, append_assoc, length-append, length-take-le, arith}
use Rattle.std.specs.Prelude.{flat_map}
use Rattle.std.specs.List.{AllByRecursion}
use Rattle.std.proofs.lemmas.List.{take-append-drop, take_at, drop_at}
use Rattle.brick_spec.specs.Bytes.{Order, four_bytes, number_of_four, after_four, IsBytes}
use Rattle.brick_spec.specs.Capture.{Entry, Fits, record_text}
use Rattle.brick_spec.specs.CaptureFault.{captured_length}
use Rattle.brick_spec.proofs.Numbers.{length-four_bytes, number-four_bytes, after-four_bytes, takes_four, number_small, length-after_four, after_four_fits}
use Rattle.pcap_io.specs.Reading.{body, front_entry, IsRecord, IsStuck}

length-body : (bytes : List ℕ) → 16 ≤ length bytes → length (body bytes) + 16 ≡ length bytes
length-body bytes long =
    let a : length (after_four bytes) + 4 ≡ length bytes = length-after_four bytes (omega arith) in
    let b : length (after_four (after_four bytes)) + 4 ≡ length (after_four bytes) = length-after_four (after_four bytes) (omega arith) in
    let c : length (after_four (after_four (after_four bytes))) + 4 ≡ length (after_four (after_four bytes)) = length-after_four (after_four (after_four bytes)) (omega arith) in
    let d : length (body bytes) + 4 ≡ length (after_four (after_four (after_four bytes))) = length-after_four (after_four (after_four (after_four bytes))) (omega arith) in
    omega arith

join : (bytes r1 r2 r3 r4 w0 w1 w2 w3 f z : List ℕ) → bytes ≡ w0 ++ r1 → r1 ≡ w1 ++ r2 → r2 ≡ w2 ++ r3 → r3 ≡ w3 ++ r4 → r4 ≡ f ++ z
    → bytes ≡ (w0 ++ (w1 ++ (w2 ++ (w3 ++ f)))) ++ z
join bytes r1 r2 r3 r4 w0 w1 w2 w3 f z a b c d e =
    a ∙ ap (λ (l : List ℕ). w0 ++ l) (b ∙ ap (λ (l : List ℕ). w1 ++ l) (c ∙ ap (λ (l : List ℕ). w2 ++ l) (d ∙ ap (λ (l : List ℕ). w3 ++ l) e))) ∙ sym (simp append_assoc)

-- what is read is written so
pub record_takes : (o : Order) (bytes : List ℕ) → IsBytes bytes → IsRecord o bytes
    → bytes ≡ record_text o (front_entry o bytes) ++ drop (captured_length o bytes) (body bytes)
record_takes o bytes fits whole =
    let r1 : List ℕ = after_four bytes in
    let r2 : List ℕ = after_four r1 in
    let r3 : List ℕ = after_four r2 in
    let r4 : List ℕ = after_four r3 in
    let a : length r1 + 4 ≡ length bytes = length-after_four bytes (omega (arith, whole.long)) in
    let b : length r2 + 4 ≡ length r1 = length-after_four r1 (omega (arith, whole.long)) in
    let c : length r3 + 4 ≡ length r2 = length-after_four r2 (omega (arith, whole.long)) in
    let d : length r4 + 4 ≡ length r3 = length-after_four r3 (omega (arith, whole.long)) in
    let n : ℕ = captured_length o bytes in
    let size : length (take n r4) ≡ n = length-take-le n r4 (omega (arith, whole.there)) in
    let f1 : IsBytes r1 = after_four_fits bytes fits in
    let f2 : IsBytes r2 = after_four_fits r1 f1 in
    let f3 : IsBytes r3 = after_four_fits r2 f2 in
    let e0 : bytes ≡ four_bytes o (number_of_four o bytes) ++ r1 = takes_four o bytes (omega (arith, whole.long)) fits in
    let e1 : r1 ≡ four_bytes o (number_of_four o r1) ++ r2 = takes_four o r1 (omega (arith, whole.long)) f1 in
    let e2 : r2 ≡ four_bytes o (length (take n r4)) ++ r3 = takes_four o r2 (omega (arith, whole.long)) f2 ∙ ap (λ (m : ℕ). four_bytes o m ++ r3) (sym size) in
    let e3 : r3 ≡ four_bytes o (number_of_four o r3) ++ r4 = takes_four o r3 (omega (arith, whole.long)) f3 in
    join bytes r1 r2 r3 r4 _ _ _ _ (take n r4) (drop n r4) e0 e1 e2 e3 (sym (take-append-drop n r4))

-- and fits
pub record_fits : (o : Order) (bytes : List ℕ) → IsBytes bytes → IsRecord o bytes → Fits (front_entry o bytes)
record_fits o bytes fits whole =
    let f1 : IsBytes (after_four bytes) = after_four_fits bytes fits in
    let f2 : IsBytes (after_four (after_four bytes)) = after_four_fits (after_four bytes) f1 in
    let f3 : IsBytes (after_four (after_four (after_four bytes))) = after_four_fits (after_four (after_four bytes)) f2 in
    let size : length (take (captured_length o bytes) (body bytes)) ≡ captured_length o bytes = length-take-le (captured_length o bytes) (body bytes) (omega (arith, length-body bytes whole.long, whole.there)) in
    record {
      seconds = number_small o bytes fits;
      fraction = number_small o (after_four bytes) f1;
      original = number_small o (after_four (after_four (after_four bytes))) f3;
      short = omega (arith, size, whole.short);
    }

-- what is written is read again, whatever follows it
onto : (o : Order) (e : Entry) (x : List ℕ) → record_text o e ++ x ≡ four_bytes o e.seconds ++ (four_bytes o e.fraction ++ (four_bytes o (length e.frame) ++ (four_bytes o e.original ++ (e.frame ++ x))))
onto o e x = simp append_assoc

-- the numbers of a text
pub record Reads (o : Order) (e : Entry) (x bytes : List ℕ) : Type 0 where
  pub seconds : number_of_four o bytes ≡ e.seconds
  pub fraction : number_of_four o (after_four bytes) ≡ e.fraction
  pub captured : captured_length o bytes ≡ length e.frame
  pub original : number_of_four o (after_four (after_four (after_four bytes))) ≡ e.original
  pub body : body bytes ≡ e.frame ++ x

text_reads : (o : Order) (e : Entry) (x bytes : List ℕ) → Fits e → bytes ≡ record_text o e ++ x → Reads o e x bytes
text_reads o e x bytes fits is =
    let all : bytes ≡ four_bytes o e.seconds ++ (four_bytes o e.fraction ++ (four_bytes o (length e.frame) ++ (four_bytes o e.original ++ (e.frame ++ x)))) = is ∙ onto o e x in
    let one : after_four bytes ≡ four_bytes o e.fraction ++ (four_bytes o (length e.frame) ++ (four_bytes o e.original ++ (e.frame ++ x))) = ap after_four all ∙ after-four_bytes o _ _ in
    let two : after_four (after_four bytes) ≡ four_bytes o (length e.frame) ++ (four_bytes o e.original ++ (e.frame ++ x)) = ap after_four one ∙ after-four_bytes o _ _ in
    let three : after_four (after_four (after_four bytes)) ≡ four_bytes o e.original ++ (e.frame ++ x) = ap after_four two ∙ after-four_bytes o _ _ in
    record {
      seconds = ap (number_of_four o) all ∙ number-four_bytes o e.seconds _ fits.seconds;
      fraction = ap (number_of_four o) one ∙ number-four_bytes o e.fraction _ fits.fraction;
      captured = ap (number_of_four o) two ∙ number-four_bytes o (length e.frame) _ (omega (arith, fits.short));
      original = ap (number_of_four o) three ∙ number-four_bytes o e.original _ fits.original;
      body = ap after_four three ∙ after-four_bytes o _ _;
    }

pub length-record_text : (o : Order) (e : Entry) (x : List ℕ) → length (record_text o e ++ x) ≡ 16 + length e.frame + length x
length-record_text o e x = ap length (onto o e x) ∙ simp (length-append, length-four_bytes) (omega arith)

-- the text of an entry is that entry's alone
pub text_again : (o : Order) (e : Entry) (x bytes : List ℕ) → Fits e → bytes ≡ record_text o e ++ x → (front_entry o bytes ≡ e) × (drop (captured_length o bytes) (body bytes) ≡ x) × IsRecord o bytes
text_again o e x bytes fits is =
    let r : Reads o e x bytes = text_reads o e x bytes fits is in
    let frame : take (captured_length o bytes) (body bytes) ≡ e.frame = ap (λ (n : ℕ). take n (body bytes)) r.captured ∙ ap (take (length e.frame)) r.body ∙ take_at e.frame x (length e.frame) refl in
    let rest : drop (captured_length o bytes) (body bytes) ≡ x = ap (λ (n : ℕ). drop n (body bytes)) r.captured ∙ ap (drop (length e.frame)) r.body ∙ drop_at e.frame x (length e.frame) refl in
    let long : length bytes ≡ 16 + length e.frame + length x = ap length is ∙ length-record_text o e x in (
      λ i. record { seconds = r.seconds i; fraction = r.fraction i; original = r.original i; frame = frame i },
      rest,
      record { long = omega arith; short = omega (arith, r.captured, fits.short); there = omega (arith, r.captured) },
    )

-- where no record is at the front no text is
pub stuck_none : (o : Order) (bytes : List ℕ) → IsStuck o bytes → (e : Entry) (x : List ℕ) → Fits e → bytes ≡ record_text o e ++ x → ⊥
stuck_none o bytes (inl (some, inl few)) e x fits is = let w = (text_again o e x bytes fits is).2 in omega (arith, w.long)
stuck_none o bytes (inl (some, inr (short, cut))) e x fits is = let w = (text_again o e x bytes fits is).2 in omega (arith, w.there)
stuck_none o bytes (inr (there, long)) e x fits is = let w = (text_again o e x bytes fits is).2 in omega (arith, w.short)

pub stuck_some : (o : Order) (bytes : List ℕ) → IsStuck o bytes → 0 < length bytes
stuck_some o bytes (inl (some, why)) = some
stuck_some o bytes (inr (there, long)) = omega (arith, there)

-- texts of entries that begin with other entries' texts begin with those entries
pub texts_again : (o : Order) (first es : List Entry) (rest : List ℕ) → AllByRecursion Fits first → AllByRecursion Fits es
    → flat_map (record_text o) es ≡ flat_map (record_text o) first ++ rest
    → (more : List Entry) × (es ≡ first ++ more) × (flat_map (record_text o) more ≡ rest)
texts_again o [] es rest f g is = (es, refl, is)
texts_again o (e ∷ first) [] rest f g is =
    let n : 0 ≡ 16 + length e.frame + length (flat_map (record_text o) first ++ rest) = ap length is ∙ ap length (append_assoc (record_text o e) (flat_map (record_text o) first) rest) ∙ length-record_text o e _ in
    absurd (omega arith)
texts_again o (e ∷ first) (d ∷ es) rest f g is =
    let bytes : List ℕ = flat_map (record_text o) (d ∷ es) in
    let a = text_again o d (flat_map (record_text o) es) bytes g.0 refl in
    let b = text_again o e (flat_map (record_text o) first ++ rest) bytes f.0 (is ∙ append_assoc (record_text o e) (flat_map (record_text o) first) rest) in
    let same : d ≡ e = sym a.0 ∙ b.0 in
    let tail : flat_map (record_text o) es ≡ flat_map (record_text o) first ++ rest = sym a.1 ∙ b.1 in
    let r = texts_again o first es rest f.1 g.1 tail in
    (r.0, (λ i. same i ∷ r.1 i), r.2)

fit_at : (first : List Entry) (e : Entry) (more : List Entry) → AllByRecursion Fits (first ++ e ∷ more) → Fits e
fit_at [] e more all = all.0
fit_at (d ∷ first) e more all = fit_at first e more all.1

-- nothing is a capture that begins with whole records and then has bytes that are none
pub no_capture : (o : Order) (first : List Entry) (records rest : List ℕ) → AllByRecursion Fits first → records ≡ flat_map (record_text o) first ++ rest
    → IsStuck o rest → (es : List Entry) → AllByRecursion Fits es → records ≡ flat_map (record_text o) es → ⊥
no_capture o first records rest fit is stuck es fits text = none (texts_again o first es rest fit fits (sym text ∙ is))
  where
    none : ((more : List Entry) × (es ≡ first ++ more) × (flat_map (record_text o) more ≡ rest)) → ⊥
    none ([], e, t) = omega (arith, ap length t, stuck_some o rest stuck)
    none (d ∷ more, e, t) = stuck_none o rest stuck d (flat_map (record_text o) more) (fit_at first d more (subst (AllByRecursion Fits) e fits)) (sym t)

-- texts of entries with bytes behind them that are no record are those entries' and those bytes alone
pub stuck_again : (o : Order) (first second : List Entry) (rest rest2 : List ℕ) → AllByRecursion Fits first → AllByRecursion Fits second
    → flat_map (record_text o) first ++ rest ≡ flat_map (record_text o) second ++ rest2 → IsStuck o rest → IsStuck o rest2 → (first ≡ second) × (rest ≡ rest2)
stuck_again o [] [] rest rest2 f g is s t = (refl, is)
stuck_again o [] (d ∷ second) rest rest2 f g is s t = absurd (stuck_none o rest s d (flat_map (record_text o) second ++ rest2) g.0 (is ∙ append_assoc (record_text o d) (flat_map (record_text o) second) rest2))
stuck_again o (e ∷ first) [] rest rest2 f g is s t = absurd (stuck_none o rest2 t e (flat_map (record_text o) first ++ rest) f.0 (sym is ∙ append_assoc (record_text o e) (flat_map (record_text o) first) rest))
stuck_again o (e ∷ first) (d ∷ second) rest rest2 f g is s t =
    let bytes : List ℕ = flat_map (record_text o) (e ∷ first) ++ rest in
    let a = text_again o e (flat_map (record_text o) first ++ rest) bytes f.0 (append_assoc (record_text o e) (flat_map (record_text o) first) rest) in
    let b = text_again o d (flat_map (record_text o) second ++ rest2) bytes g.0 (is ∙ append_assoc (record_text o d) (flat_map (record_text o) second) rest2) in
    let same : e ≡ d = sym a.0 ∙ b.0 in
    let more = stuck_again o first second rest rest2 f.1 g.1 (sym a.1 ∙ b.1) s t in
    (λ i. same i ∷ more.0 i, more.1)
