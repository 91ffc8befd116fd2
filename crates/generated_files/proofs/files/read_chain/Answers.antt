use Rattle.std.proofs.Common.{◌≡◌, ◌∙◌, List, [], ◌∷◌, ◌++◌, map, Ok, sym, ap, ap₂}
use Rattle.std.specs.Prelude.{Result, ℕ}
use Rattle.chain_spec.specs.ChainFault.{ChainFault}
use Rattle.chain_spec.specs.ChainSet as spec
use Rattle.chain_spec.specs.ChainWalk.{read_chains}
use Rattle.run_spec.specs.Generated.{chains_name, generated_chains}
use Rattle.chain_types.specs.View.{chain_view}
use Rattle.chain_types.specs.declared.chain.Chain.{Chain}
use Rattle.capture_gen.specs.Accepted.{generated_chain}
use Rattle.capture_gen.proofs.Accepted.{accepted}
use Rattle.generated_files.proofs.files.read_chain.Goals as goal

last_is : (front : List Chain) (chain : Chain) (only : spec.Chain) → map chain_view (front ++ chain ∷ []) ≡ only ∷ [] → chain_view chain ≡ only
last_is [] chain only e = cc
last_is (c ∷ []) chain only e = cc
last_is (c ∷ (d ∷ front)) chain only e = cc

same_set : (a b : List spec.Chain) → ◌≡◌ {A = Result (List spec.Chain) ChainFault} (Ok a) (Ok b) → a ≡ b
same_set a b e = cc

pub returns : goal.returns
returns c =
    let out : List ℕ = c.args.out.now in
    let alike : read_chains c.args.own.now out c.as_bytes.result.now ≡ read_chains (chains_name out) out (generated_chains out) =
    ap₂ (λ own bytes. read_chains own out bytes) c.requires.own (c.as_bytes.ensures.value ∙ c.requires.text) in
    let all : map chain_view c.in-Ok.set ≡ generated_chain out ∷ [] = same_set _ _ (sym c.in-Ok.ensures.value ∙ (alike ∙ accepted out c.requires.plain)) in
    let items : c.into_chains-chains.result.items ≡ c.pop.new.self.items ++ c.in-Some.chain ∷ [] = c.in-Some.ensures.items in
    last_is c.pop.new.self.items c.in-Some.chain (generated_chain out) (ap (map chain_view) (sym items) ∙ (ap (map chain_view) c.into_chains-chains.ensures.same ∙ all))
