use Rattle.std.proofs.Common.{◌≡◌, refl, ℕ, ◌%◌, ◌/◌, ◌^◌, arith, List, [], ◌∷◌, length}
use Rattle.brick_spec.specs.Bytes.{Little, four_bytes}
use Rattle.pcap_io.proofs.writer.low_length.Goals as goal

four : (a b c d e f g h : ℕ) → a ≡ e → b ≡ f → c ≡ g → d ≡ h → ◌≡◌ {A = List ℕ} (a ∷ b ∷ c ∷ d ∷ []) (e ∷ f ∷ g ∷ h ∷ [])
four a b c d e f g h p q r s = cc

-- the lowest four bytes are those of the lowest 32 bits
low_four : (n m : ℕ) → m ≡ n % 4294967296 → four_bytes Little m ≡ four_bytes Little n
unfolding four_bytes
low_four n m e =
    let a : m % 256 ≡ n % 256 = omega arith in
    let b : m / 256 ^ 1 % 256 ≡ n / 256 ^ 1 % 256 = omega arith in
    let c : m / 256 ^ 2 % 256 ≡ n / 256 ^ 2 % 256 = omega arith in
    let d : m / 256 ^ 3 % 256 ≡ n / 256 ^ 3 % 256 = omega arith in
    four _ _ _ _ _ _ _ _ a b c d

pub returns : goal.returns
returns c = low_four (length c.args.bytes.now) (length c.args.bytes.now % 4294967296) refl
