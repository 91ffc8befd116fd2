-- The chain file beside the generated capture is accepted for every plain folder, and what it says.
use Rattle.std.specs.Prelude.{◌≡◌, ℕ, List, [], ◌∷◌, Some, None, Ok, codes, IsTrue}
use Rattle.words_spec.specs.AcceptedWords.{is_plain_folder}
use Rattle.chain_spec.specs.ChainSet.{Chain, DryWait, UnparsedPass, Ttl, Window, Output}
use Rattle.chain_spec.specs.ChainWalk.{read_chains}
use Rattle.run_spec.specs.Generated.{capture_name, chains_name, generated_chains}

-- One tenant, whose TCP records from or to port 80 leave in windows of 512 bytes, and all others as they are, but for
-- the time to live.
abbrev pub generated_chain : List ℕ → Chain
generated_chain out = record {
  name = codes "gen";
  capture = capture_name out;
  buffers = 256;
  bytes = 65600;
  dry = DryWait;
  unparsed = UnparsedPass;
  nat = None;
  stages = Ttl ∷ [];
  groups =
      record {
        name = codes "web";
        wanted = Some (record { proto = Some 6; src = None; dst = None; sport = None; dport = None; port = Some 80 });
        stages = Window 512 65536 ∷ [];
        below = Output 0;
      }
      ∷ record { name = codes "rest"; wanted = None; stages = []; below = Output 1 }
      ∷ [];
  outputs = codes "web" ∷ codes "rest" ∷ [];
}

abbrev pub GeneratedChainsAreAccepted : Type 0
GeneratedChainsAreAccepted = (out : List ℕ) → IsTrue (is_plain_folder out)
    → read_chains (chains_name out) out (generated_chains out) ≡ Ok (generated_chain out ∷ [])
