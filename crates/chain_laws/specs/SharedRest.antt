-- A WORKED EXAMPLE: a flow's two windows in two groups leave a rest each, under one key. Record 0 goes out; a reply
-- comes to the address outside, and one to the address inside, which nothing translates here.
use Rattle.std.specs.Prelude.{◌≡◌, ℕ, List, [], ◌∷◌, map, None, Some, Ok, codes, false}
use Rattle.brick_spec.specs.Capture.{Entry, Contents}
use Rattle.brick_spec.specs.Item.{Item}
use Rattle.chain_spec.specs.ChainSet.{Chain, DryWait, UnparsedPass, Window, Output}
use Rattle.chain_spec.specs.ChainWalk.{read_chains}
use Rattle.chain_laws.specs.Keys.{lists_left, times_left}

abbrev pub two_windows_file : List ℕ
two_windows_file = codes "version = 1\n[[tenant]]\nname = \"a\"\ncapture = \"a.pcap\"\nnat = { inside = \"10.0.0.0/8\", outside = \"203.0.113.1\", base = 40000, ports = 2 }\n\n[[tenant.group]]\nname = \"outside\"\nmatch = { dst = \"203.0.113.1/32\" }\nstages = [{ stage = \"window\", size = 64 }]\n[[tenant.group]]\nname = \"inside\"\nstages = [{ stage = \"window\", size = 64 }]\n"

abbrev pub two_windows : Chain
two_windows = record {
  name = codes "a";
  capture = codes "a.pcap";
  buffers = 256;
  bytes = 65600;
  dry = DryWait;
  unparsed = UnparsedPass;
  nat = Some (record { inside = record { addr = 167772160; bits = 8 }; outside = 3405803777; base = 40000; ports = 2 });
  stages = [];
  groups = record {
    name = codes "outside";
    wanted = Some (record {
      proto = None;
      src = None;
      dst = Some (record { addr = 3405803777; bits = 32 });
      sport = None;
      dport = None;
      port = None;
    });
    stages = Window 64 65536 ∷ [];
    below = Output 0;
  }
      ∷ record { name = codes "inside"; wanted = None; stages = Window 64 65536 ∷ []; below = Output 1 } ∷ [];
  outputs = codes "outside" ∷ codes "inside" ∷ [];
}

-- a record of this frame, which is as long on the link
abbrev pub entry_with : ℕ → List ℕ → Entry
entry_with original frame = record { seconds = 0; fraction = 0; original = original; frame = frame }

abbrev pub two_replies : Contents
two_replies = record {
  nano = false;
  entries =
      entry_with 54 (
      2 ∷ 0 ∷ 0 ∷ 0 ∷ 0 ∷ 1 ∷ 2 ∷ 0 ∷ 0 ∷ 0 ∷ 0 ∷ 2 ∷ 8 ∷ 0 ∷ 69 ∷ 0 ∷ 0 ∷ 40 ∷ 0 ∷ 0 ∷ 64 ∷ 0 ∷ 64 ∷ 6 ∷ 6 ∷ 154 ∷ 10
      ∷ 0 ∷ 0 ∷ 1 ∷ 198 ∷ 51 ∷ 100 ∷ 2 ∷ 3 ∷ 232 ∷ 0 ∷ 80 ∷ 0 ∷ 0 ∷ 0 ∷ 1 ∷ 0 ∷ 0 ∷ 0 ∷ 0 ∷ 80
      ∷ 16 ∷ 255 ∷ 255 ∷ 119 ∷ 101 ∷ 0 ∷ 0 ∷ []
      )
      ∷ entry_with 57 (
      2 ∷ 0 ∷ 0 ∷ 0 ∷ 0 ∷ 1 ∷ 2 ∷ 0 ∷ 0 ∷ 0 ∷ 0 ∷ 2 ∷ 8 ∷ 0 ∷ 69 ∷ 0 ∷ 0 ∷ 43 ∷ 0 ∷ 0 ∷ 64 ∷ 0 ∷ 64 ∷ 6 ∷ 212 ∷ 149
      ∷ 198 ∷ 51 ∷ 100 ∷ 2 ∷ 203 ∷ 0 ∷ 113 ∷ 1 ∷ 0 ∷ 80 ∷ 156 ∷ 64 ∷ 0 ∷ 0 ∷ 0 ∷ 1 ∷ 0 ∷ 0 ∷ 0 ∷ 0 ∷ 80
      ∷ 16 ∷ 255 ∷ 255 ∷ 232 ∷ 165 ∷ 0 ∷ 0 ∷ 97 ∷ 98 ∷ 99 ∷ []
      )
      ∷ entry_with 57 (
      2 ∷ 0 ∷ 0 ∷ 0 ∷ 0 ∷ 1 ∷ 2 ∷ 0 ∷ 0 ∷ 0 ∷ 0 ∷ 2 ∷ 8 ∷ 0 ∷ 69 ∷ 0 ∷ 0 ∷ 43 ∷ 0 ∷ 0 ∷ 64 ∷ 0 ∷ 64 ∷ 6 ∷ 6 ∷ 151 ∷ 198
      ∷ 51 ∷ 100 ∷ 2 ∷ 10 ∷ 0 ∷ 0 ∷ 1 ∷ 0 ∷ 80 ∷ 3 ∷ 232 ∷ 0 ∷ 0 ∷ 0 ∷ 1 ∷ 0 ∷ 0 ∷ 0 ∷ 0 ∷ 80
      ∷ 16 ∷ 255 ∷ 255 ∷ 178 ∷ 255 ∷ 0 ∷ 0 ∷ 97 ∷ 98 ∷ 99 ∷ []
      )
      ∷ [];
}

abbrev pub key_in : Item → ℕ × ℕ
key_in i = (i.a, i.j)

pub record RestsMayShare : Type 0 where
  -- the chain file is accepted
  pub read : read_chains (codes "c.toml") (codes "out") two_windows_file ≡ Ok (two_windows ∷ [])
  -- the keys of each leaf group
  pub keys : map (λ items. map key_in items) (lists_left two_windows [] two_replies)
      ≡ ((3, 1) ∷ []) ∷ ((0, 0) ∷ (3, 1) ∷ []) ∷ []
  pub twice : times_left two_windows [] two_replies 3 1 ≡ 2
