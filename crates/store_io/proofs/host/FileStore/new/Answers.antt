use Rattle.std.proofs.Common.{◌≡◌, ℕ, zero, suc, get_or, replicate, refl}
use Rattle.store_io.proofs.host.FileStore.new.Goals as goal

get_or-zeros : (n i : ℕ) → get_or {A = ℕ} (replicate n 0) i 0 ≡ 0
get_or-zeros zero i = refl
get_or-zeros (suc n) zero = refl
get_or-zeros (suc n) (suc i) = get_or-zeros n i

pub returns : goal.returns
returns g c = record { no_faults = λ account name. get_or-zeros 34 account }
