-- Some chain files and what they give, and the lines of faults.
use Rattle.std.specs.Prelude.{◌≡◌, ◌<◌, ℕ, true, List, [], ◌∷◌, ◌++◌, length, Some, None, Result, Ok, Err, is_ok, codes}
use Rattle.std.specs.List.{repeat}
use Rattle.brick_spec.specs.Route.{SamePrefix, HostBits}
use Rattle.chain_spec.specs.ChainFault.{ChainFault, NotToml, Missing, Unknown, Range, Name, SecondWindow, Route}
use Rattle.chain_spec.specs.ChainFault.{TooManyTenants, Collides, TooLong, fault_text}
use Rattle.chain_spec.specs.ChainSet.{Chain, DryWait, UnparsedPass, UnparsedDrop, Ttl, SetTos, Only, Output}
use Rattle.chain_spec.specs.ChainWalk.{longest_chain_file, read_chains}

-- what a chain file `c.toml` gives for the folder `out`
abbrev read : List ℕ → Result (List Chain) ChainFault
read bytes = read_chains (codes "c.toml") (codes "out") bytes

-- a tenant `a` with the group `web`, and one more line
abbrev with_line : List ℕ → List ℕ
with_line line = codes "version = 1\n[[tenant]]\nname = \"a\"\ncapture = \"in.pcap\"\n"
    ++ (line ++ codes "\n[[tenant.group]]\nname = \"web\"\n")

-- the same with this value of `name`
abbrev named : List ℕ → List ℕ
named value = codes "version = 1\n[[tenant]]\nname = " ++ value

-- the same with this prefix in a match
abbrev matched : List ℕ → List ℕ
matched prefix = with_line (codes "stages = [{ stage = \"only\", match = { src = \"" ++ (prefix ++ codes "\" } }]"))

-- a tenant with a list of stages
abbrev staged : List ℕ → List ℕ
staged stages = with_line (codes "stages = [" ++ (stages ++ codes "]"))

-- a tenant with a table of routes
abbrev routed : List ℕ → List ℕ
routed rows = staged (codes "{ stage = \"route\", mac = \"00:00:00:00:00:00\", route = [" ++ (rows ++ codes "] }"))

-- a tenant of these texts
abbrev tenant_of : List ℕ → List ℕ → List ℕ → List ℕ
tenant_of name capture group =
    codes "version = 1\n[[tenant]]\nname = \""
    ++ (name ++ (codes "\"\ncapture = \""
    ++ (capture ++ (codes "\"\n[[tenant.group]]\nname = \"" ++ (group ++ codes "\"\n")))))

-- the letter `a`, so many times
abbrev letters : ℕ → List ℕ
letters n = repeat n (codes "a")

-- a file that is accepted
abbrev Accepted : List ℕ → Type 0
Accepted bytes = is_ok (read bytes) ≡ true

-- a whole file, and the first faults of others
pub record Samples : Type 0 where
  pub accepted : read (codes "version = 1\n\n[[tenant]]\nname = \"acme\"\ncapture = \"captures/acme.pcap\"\nbuffers = 64\nbytes = 1514\ndry = \"wait\"\nunparsed = \"drop\"\nstages = [\n    { stage = \"ttl\" },\n    { stage = \"set_tos\", value = 8 },\n    { stage = \"only\", match = { proto = \"udp\", dst = \"10.0.0.0/8\", dport = 53 } },\n]\n\n[[tenant.group]]\nname = \"dns\"\n")
      ≡ Ok (record {
        name = codes "acme";
        capture = codes "captures/acme.pcap";
        buffers = 64;
        bytes = 1514;
        dry = DryWait;
        unparsed = UnparsedDrop;
        nat = None;
        stages = Ttl ∷ SetTos 8
            ∷ Only (record {
              proto = Some 17;
              src = None;
              dst = Some (record { addr = 167772160; bits = 8 });
              sport = None;
              dport = Some 53;
              port = None;
            }) ∷ [];
        groups = record { name = codes "dns"; wanted = None; stages = []; below = Output 0 } ∷ [];
        outputs = codes "dns" ∷ [];
      } ∷ [])
  pub defaults : read (codes "version = 1\n[[tenant]]\nname = \"a\"\ncapture = \"in.pcap\"\ngroup = [{ name = \"all\" }]\n")
      ≡ Ok (record {
        name = codes "a";
        capture = codes "in.pcap";
        buffers = 256;
        bytes = 65600;
        dry = DryWait;
        unparsed = UnparsedPass;
        nat = None;
        stages = [];
        groups = record { name = codes "all"; wanted = None; stages = []; below = Output 0 } ∷ [];
        outputs = codes "all" ∷ [];
      } ∷ [])
  pub empty : read [] ≡ Err (Missing 0 (codes "version"))
  pub version : read (codes "version = 3\n") ≡ Err (Range 0 (codes "version"))
  pub further_key : read (with_line (codes "zebra = 1")) ≡ Err (Unknown 1 (codes "zebra"))
  pub least_key : read (with_line (codes "zebra = 1\nmule = 1")) ≡ Err (Unknown 1 (codes "mule"))
  pub cut_off : read (codes "a = ") ≡ Err NotToml
  pub no_text : read (255 ∷ []) ≡ Err NotToml
  pub cut_character : read (with_line (codes "# " ++ 195 ∷ [])) ≡ Err NotToml
  pub key_twice : read (codes "version = 1\nversion = 1\n") ≡ Err NotToml
  pub bytes : read (with_line (codes "bytes = 63")) ≡ Err (Range 1 (codes "bytes"))
  pub collides : read (codes "version = 1\n[[tenant]]\nname = \"a\"\ncapture = \"out/a.web.pcap\"\n[[tenant.group]]\nname = \"web\"\n") ≡ Err (Collides (codes "out/a.web.pcap"))
  pub date : read (named (codes "2020-02-03\n")) ≡ Err (Range 1 (codes "name"))
  pub float : read (named (codes "1.5\n")) ≡ Err (Range 1 (codes "name"))
  pub nested : read (named (codes "[[\"a\"]]\n")) ≡ Err (Range 1 (codes "name"))
  pub no_name : read (named (codes "\"\"\n")) ≡ Err (Name 1)
  pub long_name : read (named (codes "\"abcdefghijklmnopqrstuvwxyz0123456\"\n")) ≡ Err (Name 1)
  pub leading_zero : read (matched (codes "010.0.0.0/8")) ≡ Err (Range 1 (codes "src"))
  pub zero_bits : read (matched (codes "10.0.0.0/08")) ≡ Err (Range 1 (codes "src"))
  pub host_bit : read (matched (codes "10.0.0.1/8")) ≡ Err (Range 1 (codes "src"))
  pub many_bits : read (matched (codes "10.0.0.0/33")) ≡ Err (Range 1 (codes "src"))
  pub large_part : read (matched (codes "10.0.0.256/32")) ≡ Err (Range 1 (codes "src"))
  pub other_stage : read (with_line (codes "stages = [{ stage = \"scans\", find = \"a\" }]"))
      ≡ Err (Range 1 (codes "stage"))
  pub many_tenants : read (codes "version = 1\ntenant = [" ++ (repeat 17 (codes "{},") ++ codes "]\n"))
      ≡ Err (TooManyTenants 17)
  pub no_tenant : read (codes "version = 1\ntenant = []\n") ≡ Err (Range 0 (codes "tenant"))
  pub no_table : read (codes "version = 1\ntenant = [1]\n") ≡ Err (Range 0 (codes "tenant"))
  pub no_group : read (codes "version = 1\n[[tenant]]\nname = \"a\"\ncapture = \"in.pcap\"\n")
      ≡ Err (Missing 1 (codes "group"))
  pub two_groups : Accepted (with_line (codes "[[tenant.group]]\nname = \"dns\""))
  pub same_group : read (with_line (codes "[[tenant.group]]\nname = \"web\"")) ≡ Err (Name 1)
  pub group_key : read (with_line [] ++ codes "zebra = 1\n") ≡ Err (Unknown 1 (codes "zebra"))
  pub group_into : read (with_line [] ++ codes "into = \"Web\"\n") ≡ Err (Name 1)
  pub translation : read (with_line (codes "nat = {}")) ≡ Err (Missing 1 (codes "inside"))
  pub no_plan : read (staged
      (codes "{ stage = \"nat\" }, { stage = \"window\", size = 64 }, { stage = \"window\", size = 64 }"))
      ≡ Err (Missing 1 (codes "nat"))
  pub two_windows : read (staged (codes "{ stage = \"window\", size = 64 }, { stage = \"window\", size = 64 }"))
      ≡ Err (SecondWindow 1)
  pub window_behind : read (staged (codes "{ stage = \"window\", size = 64 }")
      ++ codes "stages = [{ stage = \"window\", size = 64 }]\n") ≡ Err (SecondWindow 1)
  pub inner_group : read (with_line [] ++ codes "group = []\n") ≡ Err (Unknown 1 (codes "group"))
  pub same_prefix : read (routed (codes "{ to = \"10.0.0.0/8\", via = \"00:00:00:00:00:01\" }, { to = \"10.0.0.0/8\", via = \"00:00:00:00:00:02\" }")) ≡ Err (Route 1 (SamePrefix 0 1))
  pub host_bits : read (routed (codes "{ to = \"10.0.0.1/8\", via = \"00:00:00:00:00:01\" }"))
      ≡ Err (Route 1 (HostBits 0))
  pub same_backend : read (staged (codes "{ stage = \"balance\", backend = [{ name = \"b\", mac = \"00:00:00:00:00:01\" }, { name = \"b\", mac = \"00:00:00:00:00:02\" }] }")) ≡ Err (Name 1)

-- the ends of ranges
pub record Ends : Type 0 where
  pub name_of_32 : Accepted (tenant_of (letters 32) (codes "in.pcap") (letters 32))
  pub group_of_33 : read (tenant_of (codes "a") (codes "in.pcap") (letters 33)) ≡ Err (Name 1)
  pub group_of_0 : read (tenant_of (codes "a") (codes "in.pcap") []) ≡ Err (Name 1)
  pub capital : read (tenant_of (codes "A") (codes "in.pcap") (codes "web")) ≡ Err (Name 1)
  pub capture_of_255 : Accepted (tenant_of (codes "a") (letters 255) (codes "web"))
  pub capture_of_256 : read (tenant_of (codes "a") (letters 256) (codes "web")) ≡ Err (Range 1 (codes "capture"))
  pub capture_of_0 : read (tenant_of (codes "a") [] (codes "web")) ≡ Err (Range 1 (codes "capture"))
  pub buffers_0 : read (with_line (codes "buffers = 0")) ≡ Err (Range 1 (codes "buffers"))
  pub buffers_1 : Accepted (with_line (codes "buffers = 1"))
  pub buffers_1024 : Accepted (with_line (codes "buffers = 1024"))
  pub buffers_1025 : read (with_line (codes "buffers = 1025")) ≡ Err (Range 1 (codes "buffers"))
  pub bytes_64 : Accepted (with_line (codes "bytes = 64"))
  pub bytes_65600 : Accepted (with_line (codes "bytes = 65600"))
  pub bytes_65601 : read (with_line (codes "bytes = 65601")) ≡ Err (Range 1 (codes "bytes"))
  pub below_0 : read (with_line (codes "bytes = -64")) ≡ Err (Range 1 (codes "bytes"))
  pub dry : read (with_line (codes "dry = \"Wait\"")) ≡ Err (Range 1 (codes "dry"))
  pub unparsed : read (with_line (codes "unparsed = true")) ≡ Err (Range 1 (codes "unparsed"))
  pub stages_32 : Accepted (staged (repeat 32 (codes "{ stage = \"ttl\" },")))
  pub stages_33 : read (staged (repeat 33 (codes "{ stage = \"ttl\" },"))) ≡ Err (Range 1 (codes "stages"))
  pub tos_255 : Accepted (staged (codes "{ stage = \"set_tos\", value = 255 }"))
  pub tos_256 : read (staged (codes "{ stage = \"set_tos\", value = 256 }")) ≡ Err (Range 1 (codes "value"))
  pub find_0 : read (staged (codes "{ stage = \"scan\", find = \"\" }")) ≡ Err (Range 1 (codes "find"))
  pub find_64 : Accepted (staged (codes "{ stage = \"scan\", reach = 1460, find = \"" ++ (letters 64 ++ codes "\" }")))
  pub find_65 : read (staged (codes "{ stage = \"scan\", find = \"" ++ (letters 65 ++ codes "\" }")))
      ≡ Err (Range 1 (codes "find"))
  pub reach_1459 : read (staged (codes "{ stage = \"scan\", find = \"a\", reach = 1459 }"))
      ≡ Err (Range 1 (codes "reach"))
  pub port_65535 : Accepted (staged (codes "{ stage = \"only\", match = { sport = 0, port = 65535 } }"))
  pub port_65536 : read (staged (codes "{ stage = \"only\", match = { port = 65536 } }")) ≡ Err (Range 1 (codes "port"))
  pub protocol : read (staged (codes "{ stage = \"only\", match = { proto = \"sctp\" } }"))
      ≡ Err (Range 1 (codes "proto"))
  pub no_bits : Accepted (matched (codes "0.0.0.0/0"))
  pub all_bits : Accepted (matched (codes "255.255.255.255/32"))
  pub three_parts : read (matched (codes "10.0.0/8")) ≡ Err (Range 1 (codes "src"))
  pub no_prefix : read (matched (codes "10.0.0.1")) ≡ Err (Range 1 (codes "src"))

-- which fault comes first
pub record Order : Type 0 where
  pub key_before_missing : read (codes "zebra = 1\n") ≡ Err (Unknown 0 (codes "zebra"))
  pub first_missing : read (codes "version = 1\n[[tenant]]\n") ≡ Err (Missing 1 (codes "name"))
  pub value_before_next_key : read (named (codes "1\n")) ≡ Err (Range 1 (codes "name"))
  pub top_key_before_tenants : read (codes "version = 1\nzebra = 1\ntenant = [{}, {}]\n")
      ≡ Err (Unknown 0 (codes "zebra"))
  pub count_before_members : read (codes "version = 1\ntenant = [" ++ (repeat 17 (codes "1,") ++ codes "]\n"))
      ≡ Err (TooManyTenants 17)
  pub member_by_member : read (staged (codes "{ stage = \"ttl\", mule = 1 }, 1")) ≡ Err (Unknown 1 (codes "mule"))
  pub member : read (staged (codes "1")) ≡ Err (Range 1 (codes "stages"))
  pub stage_before_keys : read (staged (codes "{ value = 8 }")) ≡ Err (Missing 1 (codes "stage"))
  pub stage_kind : read (staged (codes "{ stage = 1, value = 8 }")) ≡ Err (Range 1 (codes "stage"))
  pub stage_keys : read (staged (codes "{ stage = \"ttl\", value = 8 }")) ≡ Err (Unknown 1 (codes "value"))
  pub stage_value : read (staged (codes "{ stage = \"set_tos\" }")) ≡ Err (Missing 1 (codes "value"))
  pub stage_match : read (staged (codes "{ stage = \"only\" }")) ≡ Err (Missing 1 (codes "match"))
  pub match_keys : read (staged (codes "{ stage = \"only\", match = { zebra = 1, mule = 1 } }"))
      ≡ Err (Unknown 1 (codes "mule"))
  pub stages_before_groups : read
      (codes "version = 1\n[[tenant]]\nname = \"a\"\ncapture = \"in.pcap\"\ngroup = []\nstages = 1\n")
      ≡ Err (Range 1 (codes "stages"))
  pub own : read_chains (codes "out/a.web.pcap") (codes "out")
      (tenant_of (codes "a") (codes "out/a.refused") (codes "web")) ≡ Err (Collides (codes "out/a.web.pcap"))
  pub refused : read (tenant_of (codes "a") (codes "out/a.refused") (codes "web"))
      ≡ Err (Collides (codes "out/a.refused"))
  pub spelled : Accepted (tenant_of (codes "a") (codes "./out/a.web.pcap") (codes "web"))

-- a file of more bytes than are read is TooLong, whatever they are
abbrev pub LongRefused : Type 0
LongRefused = (own out bytes : List ℕ) → longest_chain_file < length bytes → read_chains own out bytes ≡ Err TooLong

pub record Texts : Type 0 where
  pub not_toml : fault_text NotToml ≡ codes "chains: 1 NotToml\n"
  pub missing : fault_text (Missing 0 (codes "version")) ≡ codes "chains: 2 Missing place=0 key=version\n"
  pub unknown : fault_text (Unknown 1 (codes "zebra")) ≡ codes "chains: 3 Unknown place=1 key=zebra\n"
  pub range : fault_text (Range 1 (codes "bytes")) ≡ codes "chains: 4 Range place=1 key=bytes\n"
  pub name : fault_text (Name 16) ≡ codes "chains: 5 Name place=16\n"
  pub second_window : fault_text (SecondWindow 2) ≡ codes "chains: 6 SecondWindow place=2\n"
  pub same_prefix : fault_text (Route 1 (SamePrefix 0 1))
      ≡ codes "chains: 7 Route place=1 SamePrefix first=0 second=1\n"
  pub host_bits : fault_text (Route 1 (HostBits 0)) ≡ codes "chains: 7 Route place=1 HostBits row=0\n"
  pub too_many_tenants : fault_text (TooManyTenants 17) ≡ codes "chains: 8 TooManyTenants count=17\n"
  pub collides : fault_text (Collides (codes "out/a.web.pcap")) ≡ codes "chains: 9 Collides out/a.web.pcap\n"
  pub too_long : fault_text TooLong ≡ codes "chains: 10 TooLong\n"
