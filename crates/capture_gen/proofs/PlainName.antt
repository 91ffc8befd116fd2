-- The chain file beside the generated capture is accepted, whatever the capture's name, where that is plain.
use Rattle.std.proofs.Common.{◌≡◌, ℕ, zero, suc, ◌-◌, ◌<◌, Bool, true, false, ◌&&◌, ◌||◌, List, [], ◌∷◌, ◌++◌, length, drop, Some, None, refl, ap, ◌∙◌, arith, length-append}
use Rattle.std.proofs.Math.Dec.{eqb-suc-zero}
use Rattle.std.specs.Prelude.{◌==◌, not, pos, codes, slice_index, option_map, option_and_then, if◌then◌else◌}
use Rattle.toml_parser.specs.Lexical.{skip_ws, skip_from, skip_blank, quote, backslash, is_non_eol}
use Rattle.toml_parser.specs.Strings.{is_plain, prepend, special, after_piece, trim_newline, body, one_line, quoted, simple_key, key_after}
use Rattle.toml.specs.Data.{string, integer, array, table, no_items, item, Members, no_members, member}
use Rattle.toml.specs.Tables.{Document, Expression, Nodes, no_nodes, node, value, open_array, close, key_value, array_table, define, along_header, along_dots, at_key}
use Rattle.toml.specs.Parse.{key_equals, val, atom, expression, ends_line, line, lines, skip_bom, parse_document}
use Rattle.toml.proofs.OnLiterals.{toml_on_literals}

-- BYTES that stand for themselves in a text between quotes

abbrev pub AllPlain : List ℕ → Type 0
AllPlain [] = Unit {0}
AllPlain (c ∷ cs) = (is_plain quote false c ≡ true) × AllPlain cs

body_is : (n : ℕ) (name rest : List ℕ) → length name < n → AllPlain name → body quote false n (name ++ (quote ∷ rest)) ≡ Some (name, rest)
unfolding body special
body_is zero name rest h plain = absurd (omega arith)
body_is (suc n) [] rest h plain = refl
body_is (suc n) (c ∷ name) rest h plain =
    let more : body quote false n (name ++ (quote ∷ rest)) ≡ Some (name, rest) = body_is n name rest (omega arith) plain.1 in
    ap (λ b. if b then prepend (c ∷ []) (body quote false n (name ++ (quote ∷ rest)))
    else option_and_then (λ p. after_piece (body quote false n) p.0 p.1) (special quote false (c ∷ (name ++ (quote ∷ rest))))) plain.0
    ∙ ap (prepend (c ∷ [])) more

no_delimiter : (b x y : Bool) → ((not b && x) && y) ≡ true → b ≡ false
no_delimiter false x y h = refl
no_delimiter true x y h = cc

-- the text of a name between quotes
pub quoted_is : (name rest : List ℕ) → 0 < length name → AllPlain name → quoted (quote ∷ (name ++ (quote ∷ rest))) ≡ Some (name, rest)
unfolding quoted one_line
quoted_is [] rest some plain = absurd (omega arith)
quoted_is (c ∷ name) rest some plain =
    let text : List ℕ = quote ∷ ((c ∷ name) ++ (quote ∷ rest)) in
    let apart : (c == quote) ≡ false = no_delimiter (c == quote) (not (c == backslash && true)) (is_non_eol c || false) plain.0 in
    ap (λ b. if b && (slice_index text 2 == quote) then body quote true (length text) (trim_newline (drop 3 text)) else one_line text) apart
    ∙ body_is (length text) (c ∷ name) rest (omega (arith, length-append (c ∷ name) (quote ∷ rest))) plain

-- LINES

ends : (b : Bool) → (((b || false) || true) || false) ≡ true
ends true = refl
ends false = refl

line_is : (text rest : List ℕ) (e : Expression) → expression text ≡ Some (e, 10 ∷ rest) → line text ≡ Some (e, 10 ∷ rest)
unfolding line skip_ws
line_is text rest e is =
    ap (λ o. option_and_then (λ r. if ends_line (skip_ws r.1) then Some r else None) o) is
    ∙ ap (λ b. if b then Some (e, 10 ∷ rest) else None) (ends (length (10 ∷ rest) == 0))

lines_more : (n : ℕ) (doc next : Document) (text start rest : List ℕ) (e : Expression) → skip_blank text ≡ start → (length start == 0) ≡ false → line start ≡ Some (e, rest) → define doc e ≡ Some next
    → lines (suc n) doc text ≡ lines n next rest
unfolding lines
lines_more n doc next text start rest e skipped some is made =
    ap (λ s. if length s == 0 then Some doc else option_and_then (λ r. option_and_then (λ d. lines n d r.1) (define doc r.0)) (line s)) skipped
    ∙ (ap (λ b. if b then Some doc else option_and_then (λ r. option_and_then (λ d. lines n d r.1) (define doc r.0)) (line start)) some
    ∙ (ap (λ o. option_and_then (λ r. option_and_then (λ d. lines n d r.1) (define doc r.0)) o) is
    ∙ ap (λ o. option_and_then (λ d. lines n d rest) o) made))

-- the line `capture = "NAME"`
capture_line : (name rest : List ℕ) → 0 < length name → AllPlain name
    → expression (codes "capture = \"" ++ (name ++ (quote ∷ 10 ∷ rest))) ≡ Some ((([], codes "capture"), key_value (string name)), 10 ∷ rest)
unfolding expression key_equals val atom skip_ws simple_key key_after
capture_line name rest some plain = rw (quoted_is name (10 ∷ rest) some plain) refl

-- the lines before it
front_version : (x : List ℕ) → expression (codes "version = 1\n" ++ x) ≡ Some ((([], codes "version"), key_value (integer (pos 1))), 10 ∷ x)
unfolding toml_on_literals
front_version x = refl

front_tenant : (x : List ℕ) → expression (codes "[[tenant]]\n" ++ x) ≡ Some ((([], codes "tenant"), array_table), 10 ∷ x)
unfolding toml_on_literals
front_tenant x = refl

front_name : (x : List ℕ) → expression (codes "name = \"gen\"\n" ++ x) ≡ Some ((([], codes "name"), key_value (string (codes "gen"))), 10 ∷ x)
unfolding toml_on_literals
front_name x = refl

-- THE DOCUMENT

abbrev at_version : Document
at_version = (node (codes "version") (value (integer (pos 1))) no_nodes, [])

-- while the tenant has these
abbrev in_tenant : Nodes → Document
in_tenant inner = (node (codes "tenant") (open_array no_items inner) (node (codes "version") (value (integer (pos 1))) no_nodes), codes "tenant" ∷ [])

abbrev named : Nodes
named = node (codes "name") (value (string (codes "gen"))) no_nodes

abbrev captured : List ℕ → Nodes
captured name = node (codes "capture") (value (string name)) named

abbrev pub front_text : List ℕ
front_text = codes "version = 1\n[[tenant]]\nname = \"gen\"\ncapture = \""

abbrev pub back_text : List ℕ
back_text = codes "stages = [{ stage = \"ttl\" }]\n[[tenant.group]]\nname = \"web\"\nmatch = { proto = \"tcp\", port = 80 }\nstages = [{ stage = \"window\", size = 512 }]\n[[tenant.group]]\nname = \"rest\"\n"

front_lines : (n : ℕ) (name rest : List ℕ) → 0 < length name → AllPlain name
    → lines (suc (suc (suc (suc n)))) (no_nodes, []) (front_text ++ (name ++ (quote ∷ 10 ∷ rest))) ≡ lines n (in_tenant (captured name)) (10 ∷ rest)
unfolding skip_from define along_header along_dots at_key
front_lines n name rest some plain =
    let after : List ℕ = name ++ (quote ∷ 10 ∷ rest) in
    let capture : List ℕ = codes "capture = \"" ++ after in
    let named_text : List ℕ = codes "name = \"gen\"\n" ++ capture in
    let tenant : List ℕ = codes "[[tenant]]\n" ++ named_text in
    let version : List ℕ = codes "version = 1\n" ++ tenant in
    lines_more (suc (suc (suc n))) (no_nodes, []) at_version version version (10 ∷ tenant) (([], codes "version"), key_value (integer (pos 1))) refl (eqb-suc-zero (length (drop 1 version)))
    (line_is version tenant (([], codes "version"), key_value (integer (pos 1))) (front_version tenant)) refl
    ∙ (lines_more (suc (suc n)) at_version (in_tenant no_nodes) (10 ∷ tenant) tenant (10 ∷ named_text) (([], codes "tenant"), array_table) refl (eqb-suc-zero (length (drop 1 tenant)))
    (line_is tenant named_text (([], codes "tenant"), array_table) (front_tenant named_text)) refl
    ∙ (lines_more (suc n) (in_tenant no_nodes) (in_tenant named) (10 ∷ named_text) named_text (10 ∷ capture) (([], codes "name"), key_value (string (codes "gen"))) refl (eqb-suc-zero (length (drop 1 named_text)))
    (line_is named_text capture (([], codes "name"), key_value (string (codes "gen"))) (front_name capture)) refl
    ∙ lines_more n (in_tenant named) (in_tenant (captured name)) (10 ∷ capture) capture (10 ∷ rest) (([], codes "capture"), key_value (string name)) refl (eqb-suc-zero (length (drop 1 capture)))
    (line_is capture rest (([], codes "capture"), key_value (string name)) (capture_line name rest some plain)) refl))

abbrev match_members : Members
match_members = member (codes "port") (integer (pos 80)) (member (codes "proto") (string (codes "tcp")) no_members)

abbrev window_members : Members
window_members = member (codes "size") (integer (pos 512)) (member (codes "stage") (string (codes "window")) no_members)

abbrev web_members : Members
web_members = member (codes "match") (table match_members) (member (codes "name") (string (codes "web")) (member (codes "stages") (array (item (table window_members) no_items)) no_members))

abbrev rest_members : Members
rest_members = member (codes "name") (string (codes "rest")) no_members

abbrev tenant_members : List ℕ → Members
tenant_members name =
    member (codes "capture") (string name)
    (member (codes "group") (array (item (table web_members) (item (table rest_members) no_items)))
    (member (codes "name") (string (codes "gen"))
    (member (codes "stages") (array (item (table (member (codes "stage") (string (codes "ttl")) no_members)) no_items)) no_members)))

abbrev pub members_of : List ℕ → Members
members_of name = member (codes "tenant") (array (item (table (tenant_members name)) no_items)) (member (codes "version") (integer (pos 1)) no_members)

back_lines : (n : ℕ) (name : List ℕ) → option_map (λ doc. close doc.0) (lines (suc (suc (suc (suc (suc (suc (suc (suc n)))))))) (in_tenant (captured name)) (10 ∷ back_text)) ≡ Some (members_of name)
unfolding toml_on_literals
back_lines n name = refl

-- The text of the chain file for this capture.
abbrev pub text_for : List ℕ → List ℕ
text_for name = front_text ++ (name ++ (quote ∷ 10 ∷ back_text))

pub parsed_is : (name : List ℕ) → 0 < length name → AllPlain name → parse_document (text_for name) ≡ Some (members_of name)
unfolding parse_document skip_bom
parsed_is name some plain =
    let long : List ℕ = text_for name in
    let n : ℕ = length long - 11 in
    let fuel : suc (length long) ≡ suc (suc (suc (suc (suc (suc (suc (suc (suc (suc (suc (suc n))))))))))) = omega (arith, length-append front_text (name ++ (quote ∷ 10 ∷ back_text))) in
    ap (λ m. option_map (λ doc. close doc.0) (lines m (no_nodes, []) long)) fuel
    ∙ (ap (option_map (λ doc. close doc.0)) (front_lines (suc (suc (suc (suc (suc (suc (suc (suc n)))))))) name back_text some plain) ∙ back_lines n name)
