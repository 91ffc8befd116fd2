-- The sequence, record after record.
use Rattle.std.proofs.Common.{◌≡◌, ℕ, zero, suc, ◌+◌, ◌/◌, ◌%◌, ◌^◌, ◌<◌, ◌≤◌, Bool, true, false, cond, ◌&&◌, nat_le, nat_eq, if◌then◌else◌, List, [], ◌∷◌, ◌++◌, length, refl, ap, sym, ◌∙◌, subst, arith, lit<}
use Rattle.std.specs.Prelude.{slice_index, slice_set, count_by}
use Rattle.std.specs.List.{range_with_len}
use Rattle.std.proofs.lemmas.Grind.{common_steps}
use Rattle.std.proofs.lemmas.Nat.{mod_below}
use Rattle.std.proofs.lemmas.List.FromFn.{length-range_with_len}
use Rattle.std.proofs.lemmas.List.Sums.{count_by-le-length, sum_by_push}
use Rattle.std.proofs.lemmas.Bool.Decides.{nat_tests}
use Rattle.run_spec.specs.Generated.{next_number, number_at, kind_at, host_at, is_tcp, tcp_before, frame_at}
use Rattle.capture_gen.specs.Sequence.{kind_of, frame_of}
use Rattle.capture_gen.specs.declared.sequence.Kind.{Kind}
use Rattle.capture_gen.proofs.MadeFrames.{frame_by_choice}

-- the number of the record before record k, and the first number before all of them
abbrev pub number_before : ℕ → ℕ → ℕ
number_before first zero = first
number_before first (suc k) = number_at first k

number_next : (first k : ℕ) → next_number (number_before first k) ≡ number_at first k
number_next first zero = refl
number_next first (suc k) = refl

-- record i is a TCP record of the host
abbrev pub is_tcp_of : ℕ → ℕ → ℕ → Bool
is_tcp_of first host i = is_tcp first i && nat_eq (host_at first i) host

-- how many TCP records of the host are among the first k
abbrev pub tcp_among : ℕ → ℕ → ℕ → ℕ
tcp_among first host k = count_by (is_tcp_of first host) (range_with_len 0 k)

pub tcp_among_few : (first host k : ℕ) → tcp_among first host k ≤ k
tcp_among_few first host k = omega (arith, count_by-le-length (is_tcp_of first host) (range_with_len 0 k), length-range_with_len 0 k)

range_more : (a n : ℕ) → range_with_len a (suc n) ≡ range_with_len a n ++ (a + n) ∷ []
range_more a zero = let e : a ≡ a + 0 = omega arith in ap (λ m. m ∷ []) e
range_more a (suc n) =
    let e : a + 1 + n ≡ a + suc n = omega arith in
    ap (λ ms. a ∷ ms) (range_more (a + 1) n) ∙ ap (λ m. a ∷ (range_with_len (a + 1) n ++ m ∷ [])) e

count_more : (p : ℕ → Bool) (n : ℕ) → count_by p (range_with_len 0 (suc n)) ≡ count_by p (range_with_len 0 n) + cond (p n) 1 0
count_more p n =
    let e : 0 + n ≡ n = omega arith in
    ap (count_by p) (range_more 0 n)
    ∙ (sum_by_push (λ x. cond (p x) 1 0) (range_with_len 0 n) (0 + n) ∙ ap (λ m. count_by p (range_with_len 0 n) + cond (p m) 1 0) e)

tcp_among_more : (first host k : ℕ) → tcp_among first host (suc k) ≡ tcp_among first host k + cond (is_tcp_of first host k) 1 0
tcp_among_more first host k = count_more (is_tcp_of first host) k

-- The last number and the counts, behind the first k records.
pub record IsAt (first k last : ℕ) (counts : List ℕ) : Type 0 where
  pub last_is : last ≡ number_before first k
  pub size : length counts ≡ 8
  pub each : (host : ℕ) → host < 8 → slice_index counts host ≡ tcp_among first host k

pub starts : (first : ℕ) → IsAt first 0 first (0 ∷ 0 ∷ 0 ∷ 0 ∷ 0 ∷ 0 ∷ 0 ∷ 0 ∷ [])
starts first = record { last_is = refl; size = refl; each = none }
  where
    none : (host : ℕ) → host < 8 → slice_index (0 ∷ 0 ∷ 0 ∷ 0 ∷ 0 ∷ 0 ∷ 0 ∷ 0 ∷ []) host ≡ 0
    none zero h = refl
    none (suc zero) h = refl
    none (suc (suc zero)) h = refl
    none (suc (suc (suc zero))) h = refl
    none (suc (suc (suc (suc zero)))) h = refl
    none (suc (suc (suc (suc (suc zero))))) h = refl
    none (suc (suc (suc (suc (suc (suc zero)))))) h = refl
    none (suc (suc (suc (suc (suc (suc (suc zero))))))) h = refl
    none (suc (suc (suc (suc (suc (suc (suc (suc n)))))))) h = absurd (omega arith)

counted : (b : Bool) (counts counts2 : List ℕ) (host h earlier m : ℕ) → length counts ≡ 8 → host < 8 → h < 8 → slice_index counts h ≡ m → earlier ≡ slice_index counts host
    → counts2 ≡ (if b then slice_set counts host (earlier + 1) else counts) → slice_index counts2 h ≡ m + cond (b && nat_eq host h) 1 0
counted true counts counts2 host h earlier m size small low there was is = grind (arith, common_steps, nat_tests)
counted false counts counts2 host h earlier m size small low there was is = grind (arith, common_steps)

sized : (b : Bool) (counts counts2 : List ℕ) (host v : ℕ) → length counts ≡ 8 → counts2 ≡ (if b then slice_set counts host v else counts) → length counts2 ≡ 8
sized true counts counts2 host v size is = grind (arith, common_steps)
sized false counts counts2 host v size is = grind (arith, common_steps)

-- One record more: its kind, its host and its number among the TCP records of its host are those that the number tells.
pub record IsDrawn (first k last : ℕ) (counts : List ℕ) (kind : Kind) (host earlier : ℕ) : Type 0 where
  pub at : IsAt first (k + 1) last counts
  pub kind_is : kind ≡ kind_of (kind_at first k)
  pub host_is : host ≡ host_at first k
  pub earlier_is : earlier ≡ tcp_before first k

pub drawn : (first k last last2 : ℕ) (counts counts2 : List ℕ) (kind : Kind) (host earlier : ℕ) → IsAt first k last counts → last2 ≡ next_number last
    → kind ≡ kind_of (last2 / 2 ^ 32 % 20) → host ≡ last2 / 2 ^ 32 / 256 % 8 → earlier ≡ slice_index counts host
    → counts2 ≡ (if nat_le 10 (last2 / 2 ^ 32 % 20) then slice_set counts host (earlier + 1) else counts) → IsDrawn first k last2 counts2 kind host earlier
drawn first k last last2 counts counts2 kind host earlier at next kind_is host_is earlier_is counts_is =
    let number : last2 ≡ number_at first k = next ∙ (ap next_number at.last_is ∙ number_next first k) in
    let choice : last2 / 2 ^ 32 % 20 ≡ kind_at first k = ap (λ x. x / 2 ^ 32 % 20) number in
    let from : host ≡ host_at first k = host_is ∙ ap (λ x. x / 2 ^ 32 / 256 % 8) number in
    let low : host < 8 = subst (λ h. h < 8) (sym host_is) (mod_below (last2 / 2 ^ 32 / 256) 8 (lit< tt)) in
    let set : counts2 ≡ (if is_tcp first k then slice_set counts host (earlier + 1) else counts) = counts_is ∙ ap (λ c. if nat_le 10 c then slice_set counts host (earlier + 1) else counts) choice in
    let more : (h : ℕ) → h < 8 → slice_index counts2 h ≡ tcp_among first h (suc k) =
    λ h small. counted (is_tcp first k) counts counts2 host h earlier (tcp_among first h k) at.size low small (at.each h small) earlier_is set
    ∙ (ap (λ m. tcp_among first h k + cond (is_tcp first k && nat_eq m h) 1 0) from ∙ sym (tcp_among_more first h k)) in
    let after : IsAt first (suc k) last2 counts2 = record { last_is = number; size = sized (is_tcp first k) counts counts2 host (earlier + 1) at.size set; each = more } in
    let e : suc k ≡ k + 1 = omega arith in
    record {
      at = subst (λ m. IsAt first m last2 counts2) e after;
      kind_is = kind_is ∙ ap kind_of choice;
      host_is = from;
      earlier_is = earlier_is ∙ (at.each host low ∙ ap (λ m. tcp_among first m k) from);
    }

-- The frame of record k is the one that is made of what was drawn.
pub drawn_frame : (first k last : ℕ) (counts : List ℕ) (kind : Kind) (host earlier : ℕ) → IsDrawn first k last counts kind host earlier → frame_of kind host earlier k ≡ frame_at first k
drawn_frame first k last counts kind host earlier d =
    ap (λ c. frame_of c host earlier k) d.kind_is
    ∙ (ap (λ h. frame_of (kind_of (kind_at first k)) h earlier k) d.host_is
    ∙ (ap (λ n. frame_of (kind_of (kind_at first k)) (host_at first k) n k) d.earlier_is
    ∙ frame_by_choice (kind_at first k) (host_at first k) (tcp_before first k) k))
