-- What heads of items say of bytes to which more are put.
use Rattle.std.proofs.Common.{◌≡◌, ◌∙◌, ℕ, ◌+◌, ◌≤◌, List, [], ◌∷◌, ◌++◌, length, take, drop, ap, refl, arith}
use Rattle.std.proofs.lemmas.List.{take-append-le, drop-append-le, length-drop, length-append, map-append}
use Rattle.std.proofs.Math.Seq.{drop-append_seam, take-length}
use Rattle.pcap_io.specs.Builder.{item_of_head, items_of_heads, HaveFramesIn}
use Rattle.pcap_io.specs.declared.builder.Head.{Head}
use Rattle.pcap_io.specs.declared.item.Item.{Item}

-- an item of this frame
abbrev with_frame : Head → List ℕ → Item
with_frame h frame = record { a = h.a; j = h.j; seconds = h.seconds; fraction = h.fraction; original = h.original; frame = frame }

frame_stays : (bytes more : List ℕ) (start len : ℕ) → start + len ≤ length bytes → take len (drop start (bytes ++ more)) ≡ take len (drop start bytes)
frame_stays bytes more start len within =
    ap (take len) (drop-append-le start bytes more (omega arith)) ∙ take-append-le len (drop start bytes) more (omega (arith, length-drop start bytes))

-- what lies within stays when bytes are put behind
pub items_stay : (bytes more : List ℕ) (heads : List Head) → HaveFramesIn bytes heads → items_of_heads (bytes ++ more) heads ≡ items_of_heads bytes heads
items_stay bytes more [] within = refl
items_stay bytes more (h ∷ hs) (within, all) =
    let first : item_of_head (bytes ++ more) h ≡ item_of_head bytes h = ap (with_frame h) (frame_stays bytes more h.start h.len within) in
    ap (λ (i : Item). i ∷ items_of_heads (bytes ++ more) hs) first ∙ ap (λ (is : List Item). item_of_head bytes h ∷ is) (items_stay bytes more hs all)

-- an item more, whose frame is put behind the bytes
pub items_more : (bytes frame : List ℕ) (heads : List Head) (h : Head) → HaveFramesIn bytes heads → h.start ≡ length bytes → h.len ≡ length frame
    → items_of_heads (bytes ++ frame) (heads ++ h ∷ []) ≡ items_of_heads bytes heads ++ with_frame h frame ∷ []
items_more bytes frame heads h all start len =
    let cut : take h.len (drop h.start (bytes ++ frame)) ≡ frame =
    ap (λ (n : ℕ). take h.len (drop n (bytes ++ frame))) start ∙ ap (take h.len) (drop-append_seam bytes frame) ∙ ap (λ (n : ℕ). take n frame) len ∙ take-length frame in
    map-append (item_of_head (bytes ++ frame)) heads (h ∷ []) ∙ ap (λ (is : List Item). is ++ item_of_head (bytes ++ frame) h ∷ []) (items_stay bytes frame heads all)
    ∙ ap (λ (f : List ℕ). items_of_heads bytes heads ++ with_frame h f ∷ []) cut

pub within_more : (bytes frame : List ℕ) (heads : List Head) (h : Head) → HaveFramesIn bytes heads → h.start ≡ length bytes → h.len ≡ length frame → HaveFramesIn (bytes ++ frame) (heads ++ h ∷ [])
within_more bytes frame [] h all start len = (omega (arith, length-append bytes frame), tt)
within_more bytes frame (x ∷ xs) h (within, all) start len = (omega (arith, length-append bytes frame), within_more bytes frame xs h all start len)
