use Rattle.std.proofs.Common.{◌≡◌, ◌<◌, Err, Option, Some, None, IsSomeAnd, List, ℕ, length, map, ap, sym, subst, rules}
use Rattle.brick_spec.specs.Files.{Files}
use Rattle.chain_spec.specs.ChainFault.{TooLong}
use Rattle.chain_spec.specs.ChainWalk.{read_chains}
use Rattle.chain_spec.proofs.Walks.{long_is_refused}
use Rattle.run_spec.specs.Seen.{Refuses}
use Rattle.run_spec.specs.Tenants.{AllApart}
use Rattle.chain_types.specs.View.{chain_view}
use Rattle.chain_laws.proofs.Sets.{accepted_apart}
use Rattle.tenant_files.proofs.chains.read_chains.Goals as goal

some_map : {X : Type 0} (o : Option X) (P Q : X → Type 0) → ((x : X) → P x → Q x) → IsSomeAnd o P → IsSomeAnd o Q
some_map None P Q f h = h
some_map (Some x) P Q f h = f x h

-- a file that is longer than a chain file is refused
long_refused : (chains out : List ℕ) (files : Files) → IsSomeAnd (files chains) (λ content. 1048576 < length content) → Refuses chains out files TooLong
long_refused chains out files h = some_map (files chains) (λ content. 1048576 < length content) (λ bytes. read_chains chains out bytes ≡ Err TooLong) (long_is_refused chains out) h

pub returns-in-Err-TooLong-clause-reads : goal.returns-in-Err-TooLong-clause-reads
returns-in-Err-TooLong-clause-reads g c = λ tells.
    long_refused c.args.chains.now c.args.out.now (g.S.Store.file c.args.store.now) (c.in-Err-TooLong.ensures.too_long tells (ap Err c.in-Err-TooLong.field-0-is))

pub returns-in-Ok-read-clause-apart : goal.returns-in-Ok-read-clause-apart
returns-in-Ok-read-clause-apart g c =
    subst (λ (set : List _). AllApart c.args.out.now (map chain_view set)) (sym c.into_chains.ensures.same) (accepted_apart c.args.chains.now c.args.out.now _ _ c.in-Ok-read.ensures.value)
