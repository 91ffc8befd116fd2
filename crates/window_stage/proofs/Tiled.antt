-- What leaves a window stage tells the stream.
use Rattle.std.proofs.Common.{◌≡◌, ℕ, zero, suc, ◌+◌, ◌-◌, ◌*◌, ◌/◌, ◌%◌, ◌<◌, ◌≤◌, Bool, true, false, ◌&&◌, not, cond, nat_eq, List, [], ◌∷◌, ◌++◌, map, length, Option, Some, None, Ok, Err, refl, ap, sym, subst, ◌∙◌, arith, inl, inr, append-nil, append_assoc, slice_range, drop, unwrap_or, ◌^◌, if◌then◌else◌}
use Rattle.std.specs.Prelude.{flat_map, filter, option_map, option_and_then, ◌⊎◌}
use Rattle.std.specs.List.{AllByRecursion}
use Rattle.std.specs.Option.{option_to_list, option_or, IsSome}
use Rattle.std.proofs.lemmas.Grind.{flat_map-append}
use Rattle.std.proofs.lemmas.Bool.Decides.{nat_tests}
use Rattle.std.proofs.lemmas.List.{length-take-le, length-drop}
use Rattle.std.proofs.lemmas.List.Elements.{filter-append}
use Rattle.std.proofs.lemmas.List.Sums.{fold_push}
use Rattle.std.proofs.lemmas.Nat.{div-add-mod'}
use Rattle.std.proofs.Math.Nat.{le-div_iff_mul-le, div-mul-le_self, mod-lt, zero-div, zero-mod, zero-mul}
use Rattle.brick_spec.specs.Flow.{Flow, Direction, Forward, Reversed}
use Rattle.brick_spec.specs.FlowStage.{FlowItem, FlowOutput, left_by, along}
use Rattle.brick_spec.specs.Item.{Item}
use Rattle.brick_spec.specs.Layer.{Layer, header_in, payload_in, tcp_layer, tcp_layer_in, ip4_layer}
use Rattle.brick_spec.specs.PacketizedWindow as spec
use Rattle.brick_spec.specs.Stage.{Reach}
use Rattle.brick_spec.specs.Stream.{StreamSegment, Payload, Reassembly, reassembly, with_segment, payload_of, byte_at, byte_in, ready_of, bytes_of, counts, is_empty, is_near}
use Rattle.brick_spec.proofs.Streams.{byte_at-push, ready_is, is_greatest, bytes_of-split, bytes_stay}
use Rattle.eth_ip.proofs.FrameLayers.{ethernet_at}
use Rattle.packetize.proofs.TcpPlaces.{ethernet_is}
use Rattle.packetize.proofs.EmittedRight.{emitted_right}
use Rattle.flow_spec.specs.FlowStream.{segment_at, segment_of, is_same, segments_of, stream_of, ready_in}
use Rattle.flow_spec.specs.Window.{does_count, last_template, windows_from, triggered, rest_of, emitted_from, is_marked, own_by, own_left, windows_left, told_at, window_told, rest_in, window_stage}
use Rattle.window_stage.specs.StreamLaw.{data_in, data_of, is_window, TellsStream}
use Rattle.window_stage.proofs.Telling.{same_direction, segments_here, segments_apart, segments_without, last_stays, last_counted}

-- TEMPLATES

-- a template whose Ethernet addresses have six bytes
record Good (o : Option spec.Template) : Type 0 where
  m : spec.Template
  is : o ≡ Some m
  dst : length m.dst ≡ 6
  src : length m.src ≡ 6

has_ip4 : (frame : List ℕ) (t : Layer) → tcp_layer frame ≡ Some t → (l : Layer) × (ip4_layer frame ≡ Some l)
has_ip4 frame t is = by (ip4_layer frame) refl is where
  by : (o : Option Layer) → ip4_layer frame ≡ o → option_and_then (tcp_layer_in frame) o ≡ Some t → (l : Layer) × (ip4_layer frame ≡ Some l)
  by None e h = cc
  by (Some l) e h = (l, e)

ethernet_long : (frame : List ℕ) → 14 ≤ length frame → length (slice_range frame 0 14) ≡ 14
ethernet_long frame long = length-take-le 14 frame long

first_six : (header : List ℕ) → length header ≡ 14 → length (slice_range header 0 6) ≡ 6
first_six header long = length-take-le 6 header (omega arith)

second_six : (header : List ℕ) → length header ≡ 14 → length (slice_range header 6 12) ≡ 6
second_six header long = let e = length-drop 6 header in length-take-le 6 (drop 6 header) (omega arith)

good_template : (i : Item) (t : Layer) → tcp_layer i.frame ≡ Some t → Good (spec.template_of i)
good_template i t is =
    let l = has_ip4 i.frame t is in
    let e = ethernet_is i.frame l.0 l.1 in
    record {
      m = spec.template_at i (ethernet_at i.frame) l.0 t;
      is = ap (option_and_then (λ e. option_and_then (λ l. option_map (spec.template_at i e l) (tcp_layer i.frame)) (ip4_layer i.frame))) e.0
          ∙ ap (option_and_then (λ l. option_map (spec.template_at i (ethernet_at i.frame) l) (tcp_layer i.frame))) l.1
          ∙ ap (option_map (spec.template_at i (ethernet_at i.frame) l.0)) is;
      dst = first_six (slice_range i.frame 0 14) (ethernet_long i.frame e.1);
      src = second_six (slice_range i.frame 0 14) (ethernet_long i.frame e.1);
    }

-- DATA

bytes_short : (ps : List Payload) (q n : ℕ) → length (bytes_of ps q n) ≤ n
bytes_short ps q zero = omega arith
bytes_short ps q (suc n) = by (byte_at ps q) (bytes_short ps (suc q) n) where
  by : (o : Option ℕ) → length (bytes_of ps (suc q) n) ≤ n → length (option_to_list o ++ bytes_of ps (suc q) n) ≤ suc n
  by None h = omega arith
  by (Some x) h = omega arith

emitted_data : (r : Reassembly) (d : Direction) (m : spec.Template) (a j at n : ℕ) → length m.dst ≡ 6 → length m.src ≡ 6 → n ≤ 1460 → data_of (emitted_from r d m a j at n) ≡ bytes_of r.payloads at n
emitted_data r d m a j at n dst src h =
    let bytes = bytes_of r.payloads at n in
    let few = bytes_short r.payloads at n in
    let right = emitted_right m ((unwrap_or r.base 0 + at) % 2 ^ 32) bytes dst src (omega arith) in
    ap (data_in (spec.emitted_frame m ((unwrap_or r.base 0 + at) % 2 ^ 32) bytes)) right.tcp_is ∙ right.payload_is

next_place : (i size : ℕ) → suc i * size ≡ i * size + size
next_place i size = grind arith

windows_data : (size : ℕ) (r : Reassembly) (d : Direction) (m : spec.Template) (a j i n : ℕ) → length m.dst ≡ 6 → length m.src ≡ 6 → size ≤ 1460 → flat_map data_of (windows_from size r d m a j i n) ≡ bytes_of r.payloads (i * size) (n * size)
windows_data size r d m a j i zero dst src h = let none : 0 ≡ zero * size = grind arith in ap (bytes_of r.payloads (i * size)) none
windows_data size r d m a j i (suc n) dst src h =
    let e : size + n * size ≡ suc n * size = grind arith in
    (λ k. emitted_data r d m a j (i * size) size dst src h k ++ windows_data size r d m a (suc j) (suc i) n dst src h k)
    ∙ ap (λ (q : ℕ). bytes_of r.payloads (i * size) size ++ bytes_of r.payloads q (n * size)) (next_place i size)
    ∙ sym (bytes_of-split r.payloads (i * size) size (n * size))
    ∙ ap (bytes_of r.payloads (i * size)) e

-- WHICH ITEMS ARE WINDOWS

filter_in : {X : Type 0} (p : X → Bool) (x : X) (xs : List X) → p x ≡ true → filter p (x ∷ xs) ≡ x ∷ filter p xs
filter_in p x xs h = ap (λ b. cond b (x ∷ filter p xs) (filter p xs)) h

filter_out : {X : Type 0} (p : X → Bool) (x : X) (xs : List X) → p x ≡ false → filter p (x ∷ xs) ≡ filter p xs
filter_out p x xs h = ap (λ b. cond b (x ∷ filter p xs) (filter p xs)) h

own_no_window : (dir : Direction) (x : FlowItem) → x.item.j ≡ 0 → is_window dir x ≡ false
own_no_window dir x e = by (is_same dir x.dir) (nat_eq x.item.j 0) (let t : nat_eq x.item.j 0 ≡ true = grind (arith, nat_tests) in t) where
  by : (a b : Bool) → b ≡ true → (a && not b) ≡ false
  by true true h = refl
  by false b h = refl
  by true false h = cc

windows_in : (dir : Direction) (size : ℕ) (r : Reassembly) (d : Direction) (m : spec.Template) (a j i n : ℕ) → is_same dir d ≡ true → filter (is_window dir) (windows_from size r d m a (suc j) i n) ≡ windows_from size r d m a (suc j) i n
windows_in dir size r d m a j i zero h = refl
windows_in dir size r d m a j i (suc n) h =
    filter_in (is_window dir) (emitted_from r d m a (suc j) (i * size) size) (windows_from size r d m a (suc (suc j)) (suc i) n)
    (let t : nat_eq (suc j) 0 ≡ false = grind (arith, nat_tests) in ap (λ b. b && not (nat_eq (suc j) 0)) h ∙ ap (λ b. not b) t)
    ∙ ap (λ xs. emitted_from r d m a (suc j) (i * size) size ∷ xs) (windows_in dir size r d m a (suc j) (suc i) n h)

windows_out : (dir : Direction) (size : ℕ) (r : Reassembly) (d : Direction) (m : spec.Template) (a j i n : ℕ) → is_same dir d ≡ false → filter (is_window dir) (windows_from size r d m a j i n) ≡ []
windows_out dir size r d m a j i zero h = refl
windows_out dir size r d m a j i (suc n) h =
    filter_out (is_window dir) (emitted_from r d m a j (i * size) size) (windows_from size r d m a (suc j) (suc i) n) (ap (λ b. b && not (nat_eq j 0)) h)
    ∙ windows_out dir size r d m a (suc j) (suc i) n h

own_out : (dir : Direction) (marked : Bool) (x : FlowItem) → x.item.j ≡ 0 → filter (is_window dir) (own_by marked x) ≡ []
own_out dir false x e = refl
own_out dir true x e = by (spec.bare_frame x.item.frame) where
  by : (o : Option (List ℕ)) → filter (is_window dir) (map (λ (i : Item). record { dir = x.dir; item = i }) (option_to_list (option_map (λ frame. record x.item { original = length frame; frame = frame }) o))) ≡ []
  by None = refl
  by (Some frame) = filter_out (is_window dir) (record { dir = x.dir; item = record x.item { original = length frame; frame = frame } }) [] (own_no_window dir (record { dir = x.dir; item = record x.item { original = length frame; frame = frame } }) e)

-- THE STREAM GROWS

-- bytes in order stay, and become more
record Grown (ps qs : List Payload) : Type 0 where
  more : ready_of ps ≤ ready_of qs
  stay : (q n : ℕ) → q + n ≤ ready_of ps → bytes_of qs q n ≡ bytes_of ps q n

grown_not : (ps qs : List Payload) → qs ≡ ps → Grown ps qs
grown_not ps qs e = record { more = let h = ap ready_of e in omega arith; stay = λ q n h. ap (λ (x : List Payload). bytes_of x q n) e }

some_first : (a b : Option ℕ) → IsSome a → IsSome (option_or a b)
some_first None b h = cc
some_first (Some x) b h = h

grown_by : (ps : List Payload) (l : Payload) → Grown ps (ps ++ l ∷ [])
grown_by ps l =
    let r = ready_is ps in
    let r' = ready_is (ps ++ l ∷ []) in
    record {
      more = is_greatest (ps ++ l ∷ []) (ready_of (ps ++ l ∷ [])) (ready_of ps) r' (λ q below. subst (λ (o : Option ℕ). IsSome o) (sym (byte_at-push ps l q)) (some_first (byte_at ps q) (byte_in l q) (r.below q below)));
      stay = λ q n h. bytes_stay ps l (ready_of ps) q n r h;
    }

grown_both : (ps qs rs : List Payload) → Grown ps qs → Grown qs rs → Grown ps rs
grown_both ps qs rs g h = record { more = let a = g.more in let b = h.more in omega arith; stay = λ q n k. h.stay q n (let a = g.more in omega arith) ∙ g.stay q n k }

-- with a segment more
payloads_more : (reach : ℕ) (segments : List StreamSegment) (s : StreamSegment) (b : Bool) → counts reach (reassembly reach segments) s ≡ b
    → (reassembly reach (segments ++ s ∷ [])).payloads ≡ (if b then (reassembly reach segments).payloads ++ payload_of (reassembly reach segments) s ∷ [] else (reassembly reach segments).payloads)
unfolding with_segment
payloads_more reach segments s b e =
    ap (λ (r : Reassembly). r.payloads) (fold_push (with_segment reach) (record { base = None; payloads = [] }) segments s)
    ∙ ap (λ (x : Bool). if x then (reassembly reach segments).payloads ++ payload_of (reassembly reach segments) s ∷ [] else (reassembly reach segments).payloads) e

-- WHAT ONE ITEM IS TO A DIRECTION

record Counts (reach : ℕ) (dir : Direction) (before : List FlowItem) (x : FlowItem) : Type 0 where
  t : Layer
  is : tcp_layer x.item.frame ≡ Some t
  here : dir ≡ x.dir
  does : counts reach (stream_of reach x.dir before) (segment_at x.item.frame t) ≡ true

record CountsNot (reach : ℕ) (dir : Direction) (before : List FlowItem) (x : FlowItem) : Type 0 where
  same : (stream_of reach dir (before ++ x ∷ [])).payloads ≡ (stream_of reach dir before).payloads
  none : (is_same dir x.dir && does_count reach before x (segment_of x.item)) ≡ false

same_is : (d e : Direction) → is_same d e ≡ true → d ≡ e
same_is Forward Forward h = refl
same_is Forward Reversed h = cc
same_is Reversed Forward h = cc
same_is Reversed Reversed h = refl

counts_or_not : (reach : ℕ) (dir : Direction) (before : List FlowItem) (x : FlowItem) → Counts reach dir before x ⊎ CountsNot reach dir before x
counts_or_not reach dir before x = by (is_same dir x.dir) refl (tcp_layer x.item.frame) refl where
  and_none : (a : Bool) → (a && false) ≡ false
  and_none true = refl
  and_none false = refl

  at : (t : Layer) (b : Bool) → dir ≡ x.dir → tcp_layer x.item.frame ≡ Some t → counts reach (stream_of reach x.dir before) (segment_at x.item.frame t) ≡ b → Counts reach dir before x ⊎ CountsNot reach dir before x
  at t true e is does = inl (record { t = t; is = is; here = e; does = does })
  at t false e is does = inr (record {
    same = ap (λ (d : Direction). (stream_of reach d (before ++ x ∷ [])).payloads) e ∙ ap (λ (ss : List StreamSegment). (reassembly reach ss).payloads) (segments_here x t before is) ∙ payloads_more reach (segments_of x.dir before) (segment_at x.item.frame t) false does
        ∙ ap (λ (d : Direction). (stream_of reach d before).payloads) (sym e);
    none = ap (λ (o : Option StreamSegment). is_same dir x.dir && does_count reach before x o) (ap (option_map (segment_at x.item.frame)) is) ∙ ap (λ (b : Bool). is_same dir x.dir && b) does ∙ and_none (is_same dir x.dir);
  })

  by : (b : Bool) → is_same dir x.dir ≡ b → (o : Option Layer) → tcp_layer x.item.frame ≡ o → Counts reach dir before x ⊎ CountsNot reach dir before x
  by false e o is = inr (record {
    same = ap (λ (ss : List StreamSegment). (reassembly reach ss).payloads) (segments_apart dir x before e);
    none = ap (λ (b : Bool). b && does_count reach before x (segment_of x.item)) e;
  })
  by true e None is = inr (record {
    same = ap (λ (ss : List StreamSegment). (reassembly reach ss).payloads) (segments_without dir x before is);
    none = ap (λ (o : Option StreamSegment). is_same dir x.dir && does_count reach before x o) (ap (option_map (segment_at x.item.frame)) is) ∙ and_none (is_same dir x.dir);
  })
  by true e (Some t) is = at t (counts reach (stream_of reach x.dir before) (segment_at x.item.frame t)) (same_is dir x.dir e) is refl

grows : (reach : ℕ) (dir : Direction) (before : List FlowItem) (x : FlowItem) → Grown (stream_of reach dir before).payloads (stream_of reach dir (before ++ x ∷ [])).payloads
grows reach dir before x = by (counts_or_not reach dir before x) where
  by : Counts reach dir before x ⊎ CountsNot reach dir before x → Grown (stream_of reach dir before).payloads (stream_of reach dir (before ++ x ∷ [])).payloads
  by (inr n) = grown_not _ _ n.same
  by (inl c) =
      let e : (stream_of reach dir (before ++ x ∷ [])).payloads ≡ (stream_of reach dir before).payloads ++ payload_of (stream_of reach dir before) (segment_at x.item.frame c.t) ∷ [] =
      ap (λ (d : Direction). (stream_of reach d (before ++ x ∷ [])).payloads) c.here ∙ ap (λ (ss : List StreamSegment). (reassembly reach ss).payloads) (segments_here x c.t before c.is)
      ∙ payloads_more reach (segments_of x.dir before) (segment_at x.item.frame c.t) true c.does
      ∙ ap (λ (d : Direction). (stream_of reach d before).payloads ++ payload_of (stream_of reach d before) (segment_at x.item.frame c.t) ∷ []) (sym c.here) in
      subst (λ (qs : List Payload). Grown (stream_of reach dir before).payloads qs) (sym e) (grown_by (stream_of reach dir before).payloads (payload_of (stream_of reach dir before) (segment_at x.item.frame c.t)))

grows_along : (reach : ℕ) (dir : Direction) (before xs : List FlowItem) → Grown (stream_of reach dir before).payloads (stream_of reach dir (before ++ xs)).payloads
grows_along reach dir before [] = grown_not _ _ (ap (λ (ys : List FlowItem). (stream_of reach dir ys).payloads) (append-nil before))
grows_along reach dir before (x ∷ xs) =
    grown_both _ _ _ (grows reach dir before x) (subst (λ (ys : List FlowItem). Grown (stream_of reach dir (before ++ x ∷ [])).payloads (stream_of reach dir ys).payloads) (append_assoc before (x ∷ []) xs) (grows_along reach dir (before ++ x ∷ []) xs))

-- THE WINDOWS OF ONE ITEM

module _ (size reach : ℕ) (dir : Direction) (before : List FlowItem) (x : FlowItem) (zeroth : x.item.j ≡ 0) where
  abbrev makes : spec.Template → List FlowItem
  makes m = triggered size (ready_in reach x.dir before) (stream_of reach x.dir (before ++ x ∷ [])) x.dir x.item.a m

  left_in_direction : is_same dir x.dir ≡ true → filter (is_window dir) (windows_left size reach before x) ≡ windows_left size reach before x
  left_in_direction h = by (spec.template_of x.item) where
    by : (o : Option spec.Template) → filter (is_window dir) (flat_map makes (option_to_list o)) ≡ flat_map makes (option_to_list o)
    by None = refl
    by (Some m) =
        filter-append (is_window dir) (makes m) []
        ∙ ap (λ (ys : List FlowItem). ys ++ []) (windows_in dir size (stream_of reach x.dir (before ++ x ∷ [])) x.dir m x.item.a 0 (ready_in reach x.dir before / size) (ready_of (stream_of reach x.dir (before ++ x ∷ [])).payloads / size - ready_in reach x.dir before / size) h)

  left_apart : is_same dir x.dir ≡ false → filter (is_window dir) (windows_left size reach before x) ≡ []
  left_apart h = by (spec.template_of x.item) where
    by : (o : Option spec.Template) → filter (is_window dir) (flat_map makes (option_to_list o)) ≡ []
    by None = refl
    by (Some m) =
        filter-append (is_window dir) (makes m) []
        ∙ ap (λ (ys : List FlowItem). ys ++ []) (windows_out dir size (stream_of reach x.dir (before ++ x ∷ [])) x.dir m x.item.a 1 (ready_in reach x.dir before / size) (ready_of (stream_of reach x.dir (before ++ x ∷ [])).payloads / size - ready_in reach x.dir before / size) h)

  abbrev counted : Layer → FlowOutput
  counted t = record { passed = own_left x t ++ windows_left size reach before x; dropped = [] }

  counted_filtered : (t : Layer) (b : Bool) → is_same dir x.dir ≡ b → filter (is_window dir) (counted t).passed ≡ (if b then windows_left size reach before x else [])
  counted_filtered t b h =
      filter-append (is_window dir) (own_left x t) (windows_left size reach before x)
      ∙ ap (λ (ys : List FlowItem). ys ++ filter (is_window dir) (windows_left size reach before x)) (own_out dir (is_marked (header_in x.item.frame t)) x zeroth)
      ∙ by b h where
        by : (b : Bool) → is_same dir x.dir ≡ b → filter (is_window dir) (windows_left size reach before x) ≡ (if b then windows_left size reach before x else [])
        by true h = left_in_direction h
        by false h = left_apart h

  alone_filtered : filter (is_window dir) (x ∷ []) ≡ []
  alone_filtered = filter_out (is_window dir) x [] (own_no_window dir x zeroth)

  told_filtered : filter (is_window dir) (window_told size reach before x).passed ≡ (if is_same dir x.dir && does_count reach before x (segment_of x.item) then windows_left size reach before x else [])
  unfolding window_told
  told_filtered = by (tcp_layer x.item.frame) (is_same dir x.dir) refl where
    at : (t : Layer) (s e n : Bool) → is_same dir x.dir ≡ s
        → filter (is_window dir) (if e then left_by x (Ok x.item) else (if (not e && n) then counted t else left_by x (Err Reach))).passed ≡ (if s && (not e && n) then windows_left size reach before x else [])
    at t true true n h = alone_filtered
    at t false true n h = alone_filtered
    at t true false true h = counted_filtered t true h
    at t false false true h = counted_filtered t false h
    at t true false false h = refl
    at t false false false h = refl

    by : (o : Option Layer) (s : Bool) → is_same dir x.dir ≡ s → filter (is_window dir) (told_at size reach before x o).passed ≡ (if s && does_count reach before x (option_map (segment_at x.item.frame) o) then windows_left size reach before x else [])
    by None true h = alone_filtered
    by None false h = alone_filtered
    by (Some t) s h = at t s (is_empty (payload_in x.item.frame t)) (is_near reach (ready_of (stream_of reach x.dir before).payloads) (payload_of (stream_of reach x.dir before) (segment_at x.item.frame t))) h

-- a quotient, and the next
abbrev whole : ℕ → ℕ → List FlowItem → Direction → ℕ
whole size reach items dir = ready_in reach dir items / size

none_between : (size w : ℕ) → 0 ≡ (w - w) * size
none_between size w = let e : w - w ≡ 0 = omega arith in let f : 0 ≡ 0 * size = grind arith in f ∙ ap (λ n. n * size) (sym e)

module _ (size reach : ℕ) (dir : Direction) (large : (64 ≤ size) × (size ≤ 1460)) where
  -- the data of the windows that one item triggers
  told_data : (before : List FlowItem) (x : FlowItem) → x.item.j ≡ 0
      → flat_map data_of (filter (is_window dir) (window_told size reach before x).passed)
      ≡ bytes_of (stream_of reach dir (before ++ x ∷ [])).payloads (whole size reach before dir * size) ((whole size reach (before ++ x ∷ []) dir - whole size reach before dir) * size)
  told_data before x zeroth = ap (flat_map data_of) (told_filtered size reach dir before x zeroth) ∙ by (counts_or_not reach dir before x) where
    made : Direction → spec.Template → List FlowItem
    made d m = triggered size (ready_in reach d before) (stream_of reach d (before ++ x ∷ [])) d x.item.a m

    by : Counts reach dir before x ⊎ CountsNot reach dir before x
        → flat_map data_of (if is_same dir x.dir && does_count reach before x (segment_of x.item) then windows_left size reach before x else [])
        ≡ bytes_of (stream_of reach dir (before ++ x ∷ [])).payloads (whole size reach before dir * size) ((whole size reach (before ++ x ∷ []) dir - whole size reach before dir) * size)
    by (inr n) =
        ap (λ (b : Bool). flat_map data_of (if b then windows_left size reach before x else [])) n.none
        ∙ ap (bytes_of (stream_of reach dir (before ++ x ∷ [])).payloads (whole size reach before dir * size))
        (none_between size (whole size reach before dir) ∙ ap (λ (ps : List Payload). (ready_of ps / size - whole size reach before dir) * size) (sym n.same))
    by (inl c) =
        let good = good_template x.item c.t c.is in
        let test : (is_same dir x.dir && does_count reach before x (segment_of x.item)) ≡ true =
        ap (λ (d : Direction). is_same d x.dir && does_count reach before x (segment_of x.item)) c.here
        ∙ ap (λ (b : Bool). b && does_count reach before x (segment_of x.item)) (same_direction x.dir)
        ∙ ap (does_count reach before x) (ap (option_map (segment_at x.item.frame)) c.is) ∙ c.does in
        ap (λ (b : Bool). flat_map data_of (if b then windows_left size reach before x else [])) test
        ∙ ap (λ (o : Option spec.Template). flat_map data_of (flat_map (made x.dir) (option_to_list o))) good.is
        ∙ ap (flat_map data_of) (append-nil (made x.dir good.m))
        ∙ windows_data size (stream_of reach x.dir (before ++ x ∷ [])) x.dir good.m x.item.a 1 (whole size reach before x.dir) (whole size reach (before ++ x ∷ []) x.dir - whole size reach before x.dir) good.dst good.src large.1
        ∙ ap (λ (d : Direction). bytes_of (stream_of reach d (before ++ x ∷ [])).payloads (whole size reach before d * size) ((whole size reach (before ++ x ∷ []) d - whole size reach before d) * size)) (sym c.here)

  quotients : (m n : ℕ) → m ≤ n → m / size ≤ n / size
  quotients m n h =
      let pos : 0 < size = omega (arith, large) in
      let a = div-mul-le_self m size in
      (le-div_iff_mul-le pos).1 (omega arith)

  -- two stretches of windows, one behind the other
  joined_bytes : (ps qs : List Payload) (u v w : ℕ) → u ≤ v → v ≤ w → v * size ≤ ready_of ps → Grown ps qs
      → bytes_of ps (u * size) ((v - u) * size) ++ bytes_of qs (v * size) ((w - v) * size) ≡ bytes_of qs (u * size) ((w - u) * size)
  joined_bytes ps qs u v w h k below g =
      let e : u * size + (v - u) * size ≡ v * size = product u v h in
      let f : (v - u) * size + (w - v) * size ≡ (w - u) * size = sum u v w h k in
      ap (λ ys. ys ++ bytes_of qs (v * size) ((w - v) * size)) (sym (g.stay (u * size) ((v - u) * size) (omega arith)))
      ∙ ap (λ (q : ℕ). bytes_of qs (u * size) ((v - u) * size) ++ bytes_of qs q ((w - v) * size)) (sym e)
      ∙ sym (bytes_of-split qs (u * size) ((v - u) * size) ((w - v) * size))
      ∙ ap (bytes_of qs (u * size)) f where
        product : (u v : ℕ) → u ≤ v → u * size + (v - u) * size ≡ v * size
        product u v h = let d : u + (v - u) ≡ v = omega arith in spread u (v - u) ∙ ap (λ n. n * size) d where
          spread : (m n : ℕ) → m * size + n * size ≡ (m + n) * size
          spread m n = grind arith

        sum : (u v w : ℕ) → u ≤ v → v ≤ w → (v - u) * size + (w - v) * size ≡ (w - u) * size
        sum u v w h k = let d : (v - u) + (w - v) ≡ w - u = omega arith in spread (v - u) (w - v) ∙ ap (λ n. n * size) d where
          spread : (m n : ℕ) → m * size + n * size ≡ (m + n) * size
          spread m n = grind arith

  along_data : (flow : Flow) (before xs : List FlowItem) → AllByRecursion (λ (x : FlowItem). x.item.j ≡ 0) xs
      → flat_map data_of (filter (is_window dir) (along (window_stage size reach flow) before xs).passed)
      ≡ bytes_of (stream_of reach dir (before ++ xs)).payloads (whole size reach before dir * size) ((whole size reach (before ++ xs) dir - whole size reach before dir) * size)
  along_data flow before [] zeroth =
      ap (bytes_of (stream_of reach dir (before ++ [])).payloads (whole size reach before dir * size))
      (none_between size (whole size reach before dir) ∙ ap (λ (ys : List FlowItem). (whole size reach ys dir - whole size reach before dir) * size) (sym (append-nil before)))
  along_data flow before (x ∷ xs) zeroth =
      let now = before ++ x ∷ [] in
      let passed = (window_told size reach before x).passed in
      let rest = (along (window_stage size reach flow) now xs).passed in
      let g₁ = grows reach dir before x in
      let g₂ = grows_along reach dir now xs in
      let less₁ = quotients (ready_in reach dir before) (ready_in reach dir now) g₁.more in
      let less₂ = quotients (ready_in reach dir now) (ready_in reach dir (now ++ xs)) g₂.more in
      ap (flat_map data_of) (filter-append (is_window dir) passed rest)
      ∙ flat_map-append data_of (filter (is_window dir) passed) (filter (is_window dir) rest)
      ∙ (λ k. told_data before x zeroth.0 k ++ along_data flow now xs zeroth.1 k)
      ∙ joined_bytes (stream_of reach dir now).payloads (stream_of reach dir (now ++ xs)).payloads (whole size reach before dir) (whole size reach now dir) (whole size reach (now ++ xs) dir) less₁ less₂ (div-mul-le_self (ready_in reach dir now) size) g₂
      ∙ ap (λ (ys : List FlowItem). bytes_of (stream_of reach dir ys).payloads (whole size reach before dir * size) ((whole size reach ys dir - whole size reach before dir) * size)) (append_assoc before (x ∷ []) xs)

  -- THE REST

  -- the last template is there, or nothing counts
  abbrev Known : List FlowItem → Type 0
  Known items = Good (last_template reach dir items) ⊎ ((stream_of reach dir items).payloads ≡ [])

  known_more : (before : List FlowItem) (x : FlowItem) → Known before → Known (before ++ x ∷ [])
  known_more before x known = by (counts_or_not reach dir before x) known where
    by : Counts reach dir before x ⊎ CountsNot reach dir before x → Known before → Known (before ++ x ∷ [])
    by (inl c) known =
        let e : last_template reach dir (before ++ x ∷ []) ≡ spec.template_of x.item = ap (λ (d : Direction). last_template reach d (before ++ x ∷ [])) c.here ∙ last_counted reach before x c.t c.is c.does in
        inl (subst (λ (o : Option spec.Template). Good o) (sym e) (good_template x.item c.t c.is))
    by (inr n) (inl good) = inl (subst (λ (o : Option spec.Template). Good o) (sym (last_stays reach dir before x (ap (λ (b : Bool). if b then x ∷ [] else []) n.none))) good)
    by (inr n) (inr none) = inr (n.same ∙ none)

  known_along : (before xs : List FlowItem) → Known before → Known (before ++ xs)
  known_along before [] known = subst Known (sym (append-nil before)) known
  known_along before (x ∷ xs) known = subst Known (append_assoc before (x ∷ []) xs) (known_along (before ++ x ∷ []) xs (known_more before x known))

  rest_data : (a j : ℕ) (items : List FlowItem) → flat_map data_of (rest_in size reach dir a j items) ≡ bytes_of (stream_of reach dir items).payloads (ready_in reach dir items - ready_in reach dir items % size) (ready_in reach dir items % size)
  rest_data a j items = by (known_along [] items (inr refl)) where
    r : Reassembly
    r = stream_of reach dir items

    makes_rest : spec.Template → List FlowItem
    makes_rest m = rest_of size r dir a j m

    at : (m : spec.Template) → length m.dst ≡ 6 → length m.src ≡ 6 → (b : Bool) → nat_eq (ready_of r.payloads % size) 0 ≡ b
        → flat_map data_of ((if b then [] else emitted_from r dir m a j (ready_of r.payloads - ready_of r.payloads % size) (ready_of r.payloads % size) ∷ []) ++ []) ≡ bytes_of r.payloads (ready_of r.payloads - ready_of r.payloads % size) (ready_of r.payloads % size)
    at m dst src true h = let e : 0 ≡ ready_of r.payloads % size = grind (arith, nat_tests) in ap (bytes_of r.payloads (ready_of r.payloads - ready_of r.payloads % size)) e
    at m dst src false h =
        let pos : 0 < size = omega (arith, large) in
        let below : ready_of r.payloads % size < size = mod-lt (ready_of r.payloads) pos in
        append-nil (data_of (emitted_from r dir m a j (ready_of r.payloads - ready_of r.payloads % size) (ready_of r.payloads % size)))
        ∙ emitted_data r dir m a j (ready_of r.payloads - ready_of r.payloads % size) (ready_of r.payloads % size) dst src (omega (arith, large))

    empty_rest : (o : Option spec.Template) → ready_of r.payloads ≡ 0 → flat_map data_of (flat_map makes_rest (option_to_list o)) ≡ bytes_of r.payloads (ready_of r.payloads - ready_of r.payloads % size) (ready_of r.payloads % size)
    empty_rest None e = let none : ready_of r.payloads % size ≡ 0 = ap (λ (n : ℕ). n % size) e ∙ zero-mod size in ap (bytes_of r.payloads (ready_of r.payloads - ready_of r.payloads % size)) (sym none)
    empty_rest (Some m) e =
        let none : ready_of r.payloads % size ≡ 0 = ap (λ (n : ℕ). n % size) e ∙ zero-mod size in
        let test : nat_eq (ready_of r.payloads % size) 0 ≡ true = grind (arith, nat_tests) in
        ap (λ (b : Bool). flat_map data_of ((if b then [] else emitted_from r dir m a j (ready_of r.payloads - ready_of r.payloads % size) (ready_of r.payloads % size) ∷ []) ++ [])) test
        ∙ ap (bytes_of r.payloads (ready_of r.payloads - ready_of r.payloads % size)) (sym none)

    by : Known items → flat_map data_of (rest_in size reach dir a j items) ≡ bytes_of r.payloads (ready_of r.payloads - ready_of r.payloads % size) (ready_of r.payloads % size)
    by (inl good) = ap (λ (o : Option spec.Template). flat_map data_of (flat_map makes_rest (option_to_list o))) good.is ∙ at good.m good.dst good.src (nat_eq (ready_of r.payloads % size) 0) refl
    by (inr none) = empty_rest (last_template reach dir items) (ap ready_of none)

pub tells_stream : TellsStream
tells_stream size reach flow dir a j items large zeroth =
    let L = ready_in reach dir items in
    let ps = (stream_of reach dir items).payloads in
    let none : 0 * size ≡ 0 = zero-mul size in
    let same : L / size - 0 ≡ L / size = omega arith in
    let start : whole size reach [] dir ≡ 0 = zero-div size in
    let first : flat_map data_of (filter (is_window dir) (along (window_stage size reach flow) [] items).passed) ≡ bytes_of ps 0 (L / size * size) =
    along_data size reach dir large flow [] items zeroth
    ∙ (λ i. bytes_of ps (start i * size) ((L / size - start i) * size))
    ∙ (λ i. bytes_of ps (none i) (same i * size)) in
    let rest = rest_data size reach dir large a j items in
    let place : L - L % size ≡ 0 + L / size * size = let e = div-add-mod' L size in omega arith in
    (λ i. first i ++ rest i)
    ∙ ap (λ (q : ℕ). bytes_of ps 0 (L / size * size) ++ bytes_of ps q (L % size)) place
    ∙ sym (bytes_of-split ps 0 (L / size * size) (L % size))
    ∙ ap (bytes_of ps 0) (div-add-mod' L size)
