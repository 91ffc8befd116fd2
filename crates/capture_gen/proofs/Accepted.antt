-- The chain file beside the generated capture is accepted, for every plain folder.
use Rattle.std.proofs.Common.{◌≡◌, ℕ, zero, suc, ◌<◌, ◌≤◌, Bool, true, false, ◌&&◌, ◌||◌, List, [], ◌∷◌, ◌++◌, length, Some, None, Ok, Err, refl, ap, sym, ◌∙◌, true≢false, arith, lit<, length-append}
use Rattle.std.specs.Prelude.{codes, nat_le, nat_lt, if◌then◌else◌}
use Rattle.std.specs.List.{list_all}
use Rattle.std.specs.Str.{bytes_eq, is_utf8, IsAscii}
use Rattle.std.proofs.lemmas.Bool.{le-leb, leb-true, ltb-true, false_from_ne_true}
use Rattle.std.proofs.lemmas.Bool.Decides.{nat_tests}
use Rattle.std.proofs.lemmas.Grind.{common_steps}
use Rattle.std.proofs.lemmas.List.{append_cancel_left}
use Rattle.std.proofs.lemmas.Slice.Eq.{bytes_eq-Decides}
use Rattle.std.proofs.lemmas.Str.{IsAscii-append, IsUtf8-from_ascii, is_utf8-from_IsUtf8}
use Rattle.toml_parser.specs.Lexical.{quote}
use Rattle.toml_parser.specs.Strings.{is_plain}
use Rattle.toml.specs.Data.{string}
use Rattle.toml.specs.Parse.{parse_document}
use Rattle.words_spec.specs.AcceptedWords.{is_path_byte, is_plain_folder}
use Rattle.chain_spec.specs.ChainFault.{Range, ◌>>=◌, or_fault, NotToml, TooLong}
use Rattle.chain_spec.specs.ChainSet.{chain_of}
use Rattle.chain_spec.specs.Fields.{known, required, text_in, table_in, number_in, prefix_at, bytes_in, name_in, array_in, each_after}
use Rattle.chain_spec.specs.StageWalk.{match_in, window_values, stage_values, stage_at, stages_at}
use Rattle.chain_spec.specs.ChainWalk.{any_name_in, leaf_values, leaf_at, group_values, group_at, groups_in, nat_at, capture_in, settings_in, tenant_row, tenant_name, tenant_capture, tenant_stages, tenant_groups, fits, tenant_values, tenant_at, tenants_in, top, first_taken, none_taken, apart, document, tree, read_chains}
use Rattle.run_spec.specs.Generated.{capture_name, chains_name}
use Rattle.capture_gen.specs.Accepted.{generated_chain, GeneratedChainsAreAccepted}
use Rattle.capture_gen.proofs.PlainName.{AllPlain, front_text, back_text, members_of, text_for, parsed_is}

and_left : (b c : Bool) → (b && c) ≡ true → b ≡ true
and_left true c e = refl
and_left false c e = e

and_right : (b c : Bool) → (b && c) ≡ true → c ≡ true
and_right true c e = e
and_right false c e = absurd (true≢false (sym e))

-- BYTES of a plain folder

pub record IsPathByte (c : ℕ) : Type 0 where
  pub plain : is_plain quote false c ≡ true
  pub ascii : c < 128

path_byte : (c : ℕ) → is_path_byte c ≡ true → IsPathByte c
path_byte c h = record { plain = grind (arith, nat_tests, common_steps); ascii = grind (arith, nat_tests, common_steps) }

-- the name, of ASCII bytes that stand for themselves
pub record IsPlainName (name : List ℕ) : Type 0 where
  pub plain : AllPlain name
  pub ascii : IsAscii name
  pub some : 0 < length name
  pub short : length name ≤ 255

ascii_text : (text : List ℕ) → list_all (λ b. nat_lt b 128) text ≡ true → IsAscii text
ascii_text [] h i = lit< tt
ascii_text (b ∷ text) h zero = ltb-true b 128 (and_left (nat_lt b 128) (list_all (λ c. nat_lt c 128) text) h)
ascii_text (b ∷ text) h (suc i) = ascii_text text (and_right (nat_lt b 128) (list_all (λ c. nat_lt c 128) text) h) i

tree_is : (name : List ℕ) → IsPlainName name → tree (text_for name) ≡ Ok (members_of name)
unfolding tree document
tree_is name h =
    let text : List ℕ = text_for name in
    let back : List ℕ = quote ∷ 10 ∷ back_text in
    let few : nat_le (length text) 1048576 ≡ true = le-leb (length text) 1048576 (omega (arith, length-append name back, h.short)) in
    let ascii : IsAscii text = IsAscii-append front_text (name ++ back) (ascii_text front_text refl) (IsAscii-append name back h.ascii (ascii_text back refl)) in
    let utf8 : is_utf8 text ≡ true = is_utf8-from_IsUtf8 text (IsUtf8-from_ascii text ascii) in
    ap (λ b. if b then or_fault NotToml (document text) else Err TooLong) few
    ∙ ap (or_fault NotToml) (ap (λ b. if b then parse_document text else None) utf8 ∙ parsed_is name h.some h.plain)

capture_is : (name : List ℕ) → IsPlainName name → capture_in 1 (string name) ≡ Ok name
unfolding capture_in bytes_in text_in
capture_is name h =
    let some : nat_le 1 (length name) ≡ true = le-leb 1 (length name) h.some in
    let short : nat_le (length name) 255 ≡ true = le-leb (length name) 255 h.short in
    ap (λ b. if b && nat_le (length name) 255 then Ok name else Err (Range 1 (codes "capture"))) some
    ∙ ap (λ b. if b then Ok name else Err (Range 1 (codes "capture"))) short

top_is : (out : List ℕ) → IsPlainName (capture_name out) → top (members_of (capture_name out)) ≡ Ok (generated_chain out ∷ [])
unfolding chain_of known required text_in table_in number_in prefix_at name_in array_in each_after match_in window_values stage_values stage_at stages_at any_name_in leaf_values leaf_at group_values group_at groups_in nat_at settings_in tenant_row tenant_name tenant_capture tenant_stages tenant_groups fits tenant_values tenant_at tenants_in top
top_is out h = rw (capture_is (capture_name out) h) refl

-- NAMES in the folder that differ behind it differ

differs : (out a b : List ℕ) → bytes_eq a b ≡ false → bytes_eq (out ++ a) (out ++ b) ≡ false
differs out a b h =
    false_from_ne_true (bytes_eq (out ++ a) (out ++ b))
    (λ t. true≢false (sym ((bytes_eq-Decides a b).1 (append_cancel_left out a b ((bytes_eq-Decides (out ++ a) (out ++ b)).0 t))) ∙ h))

not_taken : (out a b n : List ℕ) (names : List (List ℕ)) → bytes_eq a n ≡ false → bytes_eq b n ≡ false
    → first_taken ((out ++ a) ∷ (out ++ b) ∷ []) ((out ++ n) ∷ names) ≡ first_taken ((out ++ a) ∷ (out ++ b) ∷ []) names
not_taken out a b n names f g =
    let taken : List (List ℕ) = (out ++ a) ∷ (out ++ b) ∷ [] in
    ap (λ t. if t || (bytes_eq (out ++ b) (out ++ n) || false) then Some (out ++ n) else first_taken taken names) (differs out a n f)
    ∙ ap (λ t. if t || false then Some (out ++ n) else first_taken taken names) (differs out b n g)

apart_is : (out : List ℕ) → apart (chains_name out) out (generated_chain out ∷ []) ≡ Ok tt
unfolding apart
apart_is out =
    let own : List ℕ = codes "/gen.toml" in
    let capture : List ℕ = codes "/gen.pcap" in
    let rest : List ℕ = codes "/gen.rest.pcap" in
    let refused : List ℕ = codes "/gen.refused" in
    ap none_taken
    (not_taken out own capture (codes "/gen.web.pcap") ((out ++ rest) ∷ (out ++ refused) ∷ []) refl refl
    ∙ (not_taken out own capture rest ((out ++ refused) ∷ []) refl refl ∙ not_taken out own capture refused [] refl refl))

-- THE FOLDER

bytes_plain : (out : List ℕ) → list_all is_path_byte out ≡ true → AllPlain out × IsAscii out
bytes_plain [] h = (tt, λ i. lit< tt)
bytes_plain (c ∷ out) h =
    let here : IsPathByte c = path_byte c (and_left (is_path_byte c) (list_all is_path_byte out) h) in
    let more : AllPlain out × IsAscii out = bytes_plain out (and_right (is_path_byte c) (list_all is_path_byte out) h) in
    ((here.plain, more.0), by here.ascii more.1)
  where
    by : c < 128 → IsAscii out → IsAscii (c ∷ out)
    by low rest zero = low
    by low rest (suc i) = rest i

plain_append : (xs ys : List ℕ) → AllPlain xs → AllPlain ys → AllPlain (xs ++ ys)
plain_append [] ys f g = g
plain_append (x ∷ xs) ys f g = (f.0, plain_append xs ys f.1 g)

plain_name : (out : List ℕ) → is_plain_folder out ≡ true → IsPlainName (capture_name out)
plain_name out h =
    let inner : (nat_le (length out) 200 && list_all is_path_byte out) ≡ true = and_right (nat_le 1 (length out)) (nat_le (length out) 200 && list_all is_path_byte out) h in
    let short : length out ≤ 200 = leb-true (length out) 200 (and_left (nat_le (length out) 200) (list_all is_path_byte out) inner) in
    let bytes : AllPlain out × IsAscii out = bytes_plain out (and_right (nat_le (length out) 200) (list_all is_path_byte out) inner) in
    let file : AllPlain (codes "/gen.pcap") × IsAscii (codes "/gen.pcap") = bytes_plain (codes "/gen.pcap") refl in
    record {
      plain = plain_append out (codes "/gen.pcap") bytes.0 file.0;
      ascii = IsAscii-append out (codes "/gen.pcap") bytes.1 file.1;
      some = omega (arith, length-append out (codes "/gen.pcap"));
      short = omega (arith, length-append out (codes "/gen.pcap"), short);
    }

pub accepted : GeneratedChainsAreAccepted
unfolding read_chains
accepted out h =
    let name : List ℕ = capture_name out in
    let plain : IsPlainName name = plain_name out h in
    ap (λ r. r >>= λ ms. top ms >>= λ chains. apart (chains_name out) out chains >>= λ _. Ok chains) (tree_is name plain)
    ∙ (ap (λ r. r >>= λ chains. apart (chains_name out) out chains >>= λ _. Ok chains) (top_is out plain)
    ∙ ap (λ r. r >>= λ _. Ok (generated_chain out ∷ [])) (apart_is out))
