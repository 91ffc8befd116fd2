-- Packets whose IPv4 header stays read, where it is edited.
use Rattle.std.proofs.Common.{◌≡◌, ℕ, zero, suc, ◌+◌, ◌-◌, ◌*◌, ◌/◌, ◌%◌, ◌<◌, ◌≤◌, List, [], ◌∷◌, length, drop, slice_index, Some, refl, ap, sym, ◌∙◌, arith}
use Rattle.std.proofs.lemmas.List.{get_or-drop, get_or-take}
use Rattle.brick_spec.specs.Checksum.{adjusted}
use Rattle.brick_spec.specs.Edit.{with_header, ip4_edited, with_ttl, with_tos, ttl_of}
use Rattle.brick_spec.specs.Header.{word_at, with_word}
use Rattle.brick_spec.specs.Layer.{Layer, header_in, ip4_layer, protocol_of}
use Rattle.brick_spec.specs.Stage.{ttl_stage, tos_stage}
use Rattle.brick_spec.specs.Tuple.{tuple_of}
use Rattle.brick_spec.proofs.Words.{length-with_word}
use Rattle.eth_ip.proofs.FrameLayers.{ip4_layer_says}
use Rattle.tcp_udp.proofs.Edits.{byte-before, byte-behind, outer_edit}
use Rattle.packet_owner.specs.Packet.{PacketModel, here_of, header_of, with_bytes}
use Rattle.read_row.specs.Read.{IsRead}
use Rattle.read_row.proofs.Closing.{shut, reads, long_header}
use Rattle.read_row.proofs.Datagrams.{header_read, closed_edited}
use Rattle.read_row.proofs.Tuples.{header_ends, number_far, same_tuple}
use Rattle.map_filter.specs.Handled.{Keeps}
use Rattle.map_filter.proofs.Datagrams.{length-ip4_edited}
use Rattle.map_filter.proofs.HeaderEdits.{ttl_lowered, tos_changed}

-- EDITS BEHIND THE FIRST WORDS OF A HEADER

pub byte_stays : (h : List ℕ) (at w k : ℕ) → k < at → k < 10 → at + 2 ≤ length h → 12 ≤ length h → slice_index (ip4_edited h at w) k ≡ slice_index h k
byte_stays h at w k a b c d =
    let long = length-with_word h at w c in
    byte-before (with_word h at w) 10 (adjusted (word_at h 10) (word_at h at) w) k b (omega arith) ∙ byte-before h at w k a (omega arith)

pub word_stays : (h : List ℕ) (at w : ℕ) → 4 ≤ at → at + 2 ≤ length h → 12 ≤ length h → word_at (ip4_edited h at w) 2 ≡ word_at h 2
word_stays h at w a c d =
    let high = get_or-drop 2 (ip4_edited h at w) 0 0 ∙ (byte_stays h at w 2 (omega arith) (omega arith) c d ∙ sym (get_or-drop 2 h 0 0)) in
    let low = get_or-drop 2 (ip4_edited h at w) 1 0 ∙ (byte_stays h at w 3 (omega arith) (omega arith) c d ∙ sym (get_or-drop 2 h 1 0)) in
    λ i. high i * 256 + (low i * 1 + 0)

-- its layers stay those of its frame
unfoldable pub edited_read : (q q' : PacketModel) (at w : ℕ) → IsRead q → 4 ≤ at → at + 2 ≤ length (header_of q) → q' ≡ with_bytes q (here_of q).start (ip4_edited (header_of q) at w) → IsRead q'
unfolding reads
edited_read q q' at w is a within e =
    let r = reads q is in
    let l : Layer = is.layer in
    let head : header_of q ≡ header_in q.frame l = header_read (shut q) q r in
    let size = ap length head in
    let long = r.long in
    let ws = ip4_edited (header_of q) at w in
    let kept : length ws ≡ length (header_of q) = length-ip4_edited (header_of q) at w within (omega arith) in
    let last : PacketModel = record q' { layers = drop 2 q'.layers } in
    let frame : q'.frame ≡ with_header q.frame l ws = ap (λ (x : PacketModel). x.frame) (closed_edited (shut q) q q' last ws r kept e refl) in
    let outer = outer_edit q.frame l ws is.is (kept ∙ size) (byte_stays (header_of q) at w 0 (omega arith) (omega arith) within (omega arith) ∙ ap (λ xs. slice_index xs 0) head) (word_stays (header_of q) at w a within (omega arith) ∙ ap (λ xs. word_at xs 2) head) in
    record { ethernet = is.ethernet; layer = l; layers = ap (λ (x : PacketModel). x.layers) e ∙ is.layers; is = ap ip4_layer frame ∙ outer.layer }

-- THE FIRST WORD, where its first byte is written as it was

first_word : (h : List ℕ) (w : ℕ) → slice_index (with_word h 0 w) 0 ≡ w / 256 % 256
first_word h w = refl

pub first_stays : (h : List ℕ) (tos : ℕ) → slice_index h 0 / 16 ≡ 4 → tos < 256 → 12 ≤ length h → slice_index (with_tos h tos) 0 ≡ slice_index h 0
first_stays h tos version small long =
    let w = slice_index h 0 * 256 + tos in
    let kept = length-with_word h 0 w (omega arith) in
    byte-before (with_word h 0 w) 10 (adjusted (word_at h 10) (word_at h 0) w) 0 (omega arith) (omega arith) ∙ (first_word h w ∙ (omega arith))

pub second_stays : (h : List ℕ) (w k : ℕ) → 2 ≤ k → k < 10 → 12 ≤ length h → slice_index (ip4_edited h 0 w) k ≡ slice_index h k
second_stays h w k a b long =
    let kept = length-with_word h 0 w (omega arith) in
    byte-before (with_word h 0 w) 10 (adjusted (word_at h 10) (word_at h 0) w) k b (omega arith) ∙ byte-behind h 0 w k (omega arith) (omega arith)

-- another type of service
unfoldable pub tos_edited : (q q' : PacketModel) (tos : ℕ) → IsRead q → tos < 256 → q' ≡ with_bytes q (here_of q).start (with_tos (header_of q) tos) → IsRead q'
unfolding reads
tos_edited q q' tos is small e =
    let r = reads q is in
    let l : Layer = is.layer in
    let says = ip4_layer_says q.frame l is.is in
    let start = says.start in
    let middle = says.long in
    let version = says.version in
    let head : header_of q ≡ header_in q.frame l = header_read (shut q) q r in
    let size = ap length head in
    let long = r.long in
    let h = header_of q in
    let ws = with_tos h tos in
    let first_place : l.start + 0 ≡ 14 = omega arith in
    let byte : slice_index (header_in q.frame l) 0 ≡ slice_index q.frame 14 = get_or-take (l.middle - l.start) (drop l.start q.frame) 0 0 (omega arith) ∙ (get_or-drop l.start q.frame 0 0 ∙ ap (λ k. slice_index q.frame k) first_place) in
    let four : slice_index h 0 / 16 ≡ 4 = ap (λ xs. slice_index xs 0 / 16) head ∙ (ap (λ b. b / 16) byte ∙ version) in
    let high = get_or-drop 2 ws 0 0 ∙ (second_stays h (slice_index h 0 * 256 + tos) 2 (omega arith) (omega arith) (omega arith) ∙ sym (get_or-drop 2 h 0 0)) in
    let low = get_or-drop 2 ws 1 0 ∙ (second_stays h (slice_index h 0 * 256 + tos) 3 (omega arith) (omega arith) (omega arith) ∙ sym (get_or-drop 2 h 1 0)) in
    let total : word_at ws 2 ≡ word_at h 2 = λ i. high i * 256 + (low i * 1 + 0) in
    let kept : length ws ≡ length h = length-ip4_edited h 0 (slice_index h 0 * 256 + tos) (omega arith) (omega arith) in
    let last : PacketModel = record q' { layers = drop 2 q'.layers } in
    let frame : q'.frame ≡ with_header q.frame l ws = ap (λ (x : PacketModel). x.frame) (closed_edited (shut q) q q' last ws r kept e refl) in
    let outer = outer_edit q.frame l ws is.is (kept ∙ size) (first_stays h tos four small (omega arith) ∙ ap (λ xs. slice_index xs 0) head) (total ∙ ap (λ xs. word_at xs 2) head) in
    record { ethernet = is.ethernet; layer = l; layers = ap (λ (x : PacketModel). x.layers) e ∙ is.layers; is = ap ip4_layer frame ∙ outer.layer }

pub tos_read : (q q' : PacketModel) (tos : ℕ) → IsRead q → q' ≡ with_bytes q (here_of q).start (with_tos (header_of q) tos) → Keeps (tos_stage tos) q q'
tos_read q q' tos is e = tos_changed (shut q) q q' (record q' { layers = drop 2 q'.layers }) tos (reads q is) (long_header q is) e refl

-- STAGES

pub ttl_read : (q q' : PacketModel) (t : ℕ) → IsRead q → t ≡ ttl_of (header_of q) → 1 < t → q' ≡ with_bytes q (here_of q).start (with_ttl (header_of q) (t - 1)) → Keeps ttl_stage q q'
ttl_read q q' t is ttl more e = ttl_lowered (shut q) q q' (record q' { layers = drop 2 q'.layers }) t (reads q is) (long_header q is) ttl more e refl

-- FIVE-TUPLES

-- a header with the same bytes where the five-tuple is read
ends_same : (q q' : PacketModel) (ws : List ℕ) → (is : IsRead q) → length ws ≡ length (header_of q) → q' ≡ with_bytes q (here_of q).start ws → ip4_layer q'.frame ≡ Some is.layer
    → slice_index ws 6 ≡ slice_index (header_of q) 6 → slice_index ws 7 ≡ slice_index (header_of q) 7 → slice_index ws 9 ≡ slice_index (header_of q) 9 → ((k : ℕ) → 12 ≤ k → slice_index ws k ≡ slice_index (header_of q) k)
    → tuple_of q'.frame ≡ tuple_of q.frame
unfolding reads
ends_same q q' ws is kept e layer six seven nine far =
    let r = reads q is in
    let l : Layer = is.layer in
    let says = ip4_layer_says q.frame l is.is in
    let head : header_of q ≡ header_in q.frame l = header_read (shut q) q r in
    let last : PacketModel = record q' { layers = drop 2 q'.layers } in
    let frame : q'.frame ≡ with_header q.frame l ws = ap (λ (x : PacketModel). x.frame) (closed_edited (shut q) q q' last ws r kept e refl) in
    let at : (k : ℕ) → slice_index ws k ≡ slice_index (header_of q) k → slice_index ws k ≡ slice_index (header_in q.frame l) k = λ k s. s ∙ ap (λ xs. slice_index xs k) head in
    let high = get_or-drop 6 ws 0 0 ∙ (at 6 six ∙ sym (get_or-drop 6 (header_in q.frame l) 0 0)) in
    let low = get_or-drop 6 ws 1 0 ∙ (at 7 seven ∙ sym (get_or-drop 6 (header_in q.frame l) 1 0)) in
    ap tuple_of frame ∙ same_tuple q.frame (with_header q.frame l ws) l is.is (ap ip4_layer (sym frame) ∙ layer)
    (header_ends q.frame l ws says (kept ∙ ap length head) (λ i. high i * 256 + (low i * 1 + 0)) (at 9 nine)
    (number_far (header_in q.frame l) ws 12 (λ j. at (12 + j) (far (12 + j) (omega arith)))) (number_far (header_in q.frame l) ws 16 (λ j. at (16 + j) (far (16 + j) (omega arith)))))

-- the second byte of a word that is set
second_byte : (xs : List ℕ) (at w : ℕ) → at ≤ length xs → slice_index (with_word xs at w) (suc at) ≡ w % 256
second_byte xs zero w long = refl
second_byte [] (suc at) w long = absurd (omega arith)
second_byte (x ∷ xs) (suc at) w long = second_byte xs at w (omega arith)

far_stays : (h : List ℕ) (at w k : ℕ) → at + 2 ≤ 10 → 12 ≤ length h → 12 ≤ k → slice_index (ip4_edited h at w) k ≡ slice_index h k
far_stays h at w k low long far =
    let kept = length-with_word h at w (omega arith) in
    byte-behind (with_word h at w) 10 (adjusted (word_at h 10) (word_at h at) w) k (omega arith) (omega arith) ∙ byte-behind h at w k (omega arith) (omega arith)

-- another time to live
pub ttl_tuple : (q q' : PacketModel) (t p : ℕ) → IsRead q → p ≡ protocol_of (header_of q) → p < 256 → q' ≡ with_bytes q (here_of q).start (with_ttl (header_of q) t) → tuple_of q'.frame ≡ tuple_of q.frame
unfolding edited_read
ttl_tuple q q' t p is proto small e =
    let h = header_of q in
    let long = long_header q is in
    let w = t * 256 + protocol_of h in
    let kept = length-with_word h 8 w (omega arith) in
    ends_same q q' (with_ttl h t) is (length-ip4_edited h 8 w (omega arith) (omega arith)) e (edited_read q q' 8 w is (omega arith) (omega arith) e).is
    (byte_stays h 8 w 6 (omega arith) (omega arith) (omega arith) (omega arith)) (byte_stays h 8 w 7 (omega arith) (omega arith) (omega arith) (omega arith))
    (byte-before (with_word h 8 w) 10 (adjusted (word_at h 10) (word_at h 8) w) 9 (omega arith) (omega arith) ∙ (second_byte h 8 w (omega arith) ∙ (omega arith)))
    (λ k far. far_stays h 8 w k (omega arith) (omega arith) far)

-- another type of service
pub tos_tuple : (q q' : PacketModel) (tos : ℕ) → IsRead q → tos < 256 → q' ≡ with_bytes q (here_of q).start (with_tos (header_of q) tos) → tuple_of q'.frame ≡ tuple_of q.frame
unfolding tos_edited
tos_tuple q q' tos is small e =
    let h = header_of q in
    let long = long_header q is in
    let w = slice_index h 0 * 256 + tos in
    ends_same q q' (with_tos h tos) is (length-ip4_edited h 0 w (omega arith) (omega arith)) e (tos_edited q q' tos is small e).is
    (second_stays h w 6 (omega arith) (omega arith) (omega arith)) (second_stays h w 7 (omega arith) (omega arith) (omega arith)) (second_stays h w 9 (omega arith) (omega arith) (omega arith))
    (λ k far. far_stays h 0 w k (omega arith) (omega arith) far)
