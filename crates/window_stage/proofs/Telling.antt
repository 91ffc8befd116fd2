-- What the stage tells of an item, by the segment that it is.
use Rattle.std.proofs.Common.{◌≡◌, ℕ, ◌-◌, ◌/◌, ◌&&◌, Bool, true, false, not, List, [], ◌∷◌, ◌++◌, Option, Some, None, Ok, Err, refl, ap, sym, ◌∙◌, append-nil, append_assoc, if◌then◌else◌}
use Rattle.std.specs.Prelude.{flat_map, option_map, option_and_then}
use Rattle.std.specs.Option.{option_to_list}
use Rattle.std.proofs.lemmas.Grind.{flat_map-append}
use Rattle.brick_spec.specs.Flow.{Direction, Forward, Reversed}
use Rattle.brick_spec.specs.FlowStage.{FlowItem, FlowOutput, left_by}
use Rattle.brick_spec.specs.Layer.{Layer, payload_in, tcp_layer}
use Rattle.brick_spec.specs.PacketizedWindow.{Template, template_of}
use Rattle.brick_spec.specs.Stage.{Reach}
use Rattle.brick_spec.specs.Stream.{StreamSegment, Reassembly, ready_of, counts, is_empty, is_near, payload_of}
use Rattle.window_stream.specs.Answers.{answer}
use Rattle.window_stream.specs.declared.stream.Taken.TheVariants.{Bare, Counted, Beyond}
use Rattle.flow_spec.specs.FlowStream.{segment_at, segment_of, is_same, segments_at, segments_of, stream_of, ready_in}
use Rattle.flow_spec.specs.Window.{does_count, counting_at, counting, last_of, last_template, windows_from, triggered, own_left, windows_left, told_at, window_told}

-- SEGMENTS

pub same_direction : (d : Direction) → is_same d d ≡ true
same_direction Forward = refl
same_direction Reversed = refl

pub segments_more : (dir : Direction) (items : List FlowItem) (x : FlowItem) → segments_of dir (items ++ x ∷ []) ≡ segments_of dir items ++ segments_at dir x
segments_more dir items x = flat_map-append (segments_at dir) items (x ∷ []) ∙ ap (λ (ss : List StreamSegment). segments_of dir items ++ ss) (append-nil (segments_at dir x))

segment_in : (x : FlowItem) (t : Layer) → tcp_layer x.item.frame ≡ Some t → segment_of x.item ≡ Some (segment_at x.item.frame t)
segment_in x t is = ap (option_map (segment_at x.item.frame)) is

-- an item with the TCP layer is one segment of its direction
pub segments_here : (x : FlowItem) (t : Layer) (items : List FlowItem) → tcp_layer x.item.frame ≡ Some t → segments_of x.dir (items ++ x ∷ []) ≡ segments_of x.dir items ++ segment_at x.item.frame t ∷ []
segments_here x t items is =
    segments_more x.dir items x
    ∙ ap (λ (b : Bool). segments_of x.dir items ++ (if b then option_to_list (segment_of x.item) else [])) (same_direction x.dir)
    ∙ ap (λ (o : Option StreamSegment). segments_of x.dir items ++ option_to_list o) (segment_in x t is)

-- of another direction it is none
pub segments_apart : (dir : Direction) (x : FlowItem) (items : List FlowItem) → is_same dir x.dir ≡ false → segments_of dir (items ++ x ∷ []) ≡ segments_of dir items
segments_apart dir x items apart =
    segments_more dir items x
    ∙ ap (λ (b : Bool). segments_of dir items ++ (if b then option_to_list (segment_of x.item) else [])) apart
    ∙ append-nil (segments_of dir items)

-- without the TCP layer it is none
pub segments_without : (dir : Direction) (x : FlowItem) (items : List FlowItem) → tcp_layer x.item.frame ≡ None → segments_of dir (items ++ x ∷ []) ≡ segments_of dir items
segments_without dir x items none =
    segments_more dir items x
    ∙ ap (λ (o : Option Layer). segments_of dir items ++ (if is_same dir x.dir then option_to_list (option_map (segment_at x.item.frame) o) else [])) none
    ∙ ap (λ (ss : List StreamSegment). segments_of dir items ++ ss) (either_none (is_same dir x.dir))
    ∙ append-nil (segments_of dir items)
  where
    either_none : (b : Bool) → ◌≡◌ {A = List StreamSegment} (if b then [] else []) []
    either_none true = refl
    either_none false = refl

-- THE LAST ITEM THAT COUNTS

counting_more : (reach : ℕ) (dir : Direction) (before xs : List FlowItem) (x : FlowItem) → counting reach dir before (xs ++ x ∷ []) ≡ counting reach dir before xs ++ counting_at reach dir (before ++ xs) x
counting_more reach dir before [] x = append-nil (counting_at reach dir before x) ∙ ap (λ ys. counting_at reach dir ys x) (sym (append-nil before))
counting_more reach dir before (y ∷ ys) x =
    ap (λ l. counting_at reach dir before y ++ l) (counting_more reach dir (before ++ y ∷ []) ys x ∙ ap (λ zs. counting reach dir (before ++ y ∷ []) ys ++ counting_at reach dir zs x) (append_assoc before (y ∷ []) ys))
    ∙ sym (append_assoc (counting_at reach dir before y) (counting reach dir (before ++ y ∷ []) ys) (counting_at reach dir (before ++ y ∷ ys) x))

last_pushed : {X : Type 0} (xs : List X) (x : X) → last_of (xs ++ x ∷ []) ≡ Some x
last_pushed [] x = refl
last_pushed (y ∷ []) x = refl
last_pushed (y ∷ z ∷ zs) x = last_pushed (z ∷ zs) x

-- an item that does not count leaves it
pub last_stays : (reach : ℕ) (dir : Direction) (items : List FlowItem) (x : FlowItem) → counting_at reach dir items x ≡ [] → last_template reach dir (items ++ x ∷ []) ≡ last_template reach dir items
unfolding last_template
last_stays reach dir items x none =
    ap (λ (l : List FlowItem). option_and_then (λ (y : FlowItem). template_of y.item) (last_of l))
    (counting_more reach dir [] items x ∙ ap (λ (l : List FlowItem). counting reach dir [] items ++ l) none ∙ append-nil (counting reach dir [] items))

apart_counts_not : (reach : ℕ) (dir : Direction) (items : List FlowItem) (x : FlowItem) → is_same dir x.dir ≡ false → counting_at reach dir items x ≡ []
apart_counts_not reach dir items x apart = ap (λ (b : Bool). if b && does_count reach items x (segment_of x.item) then x ∷ [] else []) apart

not_both : {X : Type 0} (a b : Bool) (xs : List X) → b ≡ false → (if a && b then xs else []) ≡ []
not_both true true xs h = cc
not_both true false xs h = refl
not_both false b xs h = refl

pub last_apart : (reach : ℕ) (dir : Direction) (items : List FlowItem) (x : FlowItem) → is_same dir x.dir ≡ false → last_template reach dir (items ++ x ∷ []) ≡ last_template reach dir items
last_apart reach dir items x apart = last_stays reach dir items x (apart_counts_not reach dir items x apart)

pub last_without : (reach : ℕ) (dir : Direction) (items : List FlowItem) (x : FlowItem) → tcp_layer x.item.frame ≡ None → last_template reach dir (items ++ x ∷ []) ≡ last_template reach dir items
last_without reach dir items x none =
    last_stays reach dir items x (not_both (is_same dir x.dir) (does_count reach items x (segment_of x.item)) (x ∷ []) (ap (λ (o : Option Layer). does_count reach items x (option_map (segment_at x.item.frame) o)) none))

pub last_uncounted : (reach : ℕ) (items : List FlowItem) (x : FlowItem) (t : Layer) → tcp_layer x.item.frame ≡ Some t → counts reach (stream_of reach x.dir items) (segment_at x.item.frame t) ≡ false
    → last_template reach x.dir (items ++ x ∷ []) ≡ last_template reach x.dir items
last_uncounted reach items x t is not =
    last_stays reach x.dir items x (not_both (is_same x.dir x.dir) (does_count reach items x (segment_of x.item)) (x ∷ []) (ap (does_count reach items x) (segment_in x t is) ∙ not))

pub last_counted : (reach : ℕ) (items : List FlowItem) (x : FlowItem) (t : Layer) → tcp_layer x.item.frame ≡ Some t → counts reach (stream_of reach x.dir items) (segment_at x.item.frame t) ≡ true
    → last_template reach x.dir (items ++ x ∷ []) ≡ template_of x.item
unfolding last_template
last_counted reach items x t is does =
    ap (λ (l : List FlowItem). option_and_then (λ (y : FlowItem). template_of y.item) (last_of l))
    (counting_more reach x.dir [] items x
    ∙ ap (λ (b : Bool). counting reach x.dir [] items ++ (if b && does_count reach items x (segment_of x.item) then x ∷ [] else [])) (same_direction x.dir)
    ∙ ap (λ (b : Bool). counting reach x.dir [] items ++ (if b then x ∷ [] else [])) (ap (does_count reach items x) (segment_in x t is) ∙ does))
    ∙ ap (option_and_then (λ (y : FlowItem). template_of y.item)) (last_pushed (counting reach x.dir [] items) x)

-- WHAT IS TOLD

if_yes : (b : Bool) (l m : FlowOutput) → b ≡ true → (if b then l else m) ≡ l
if_yes true l m h = refl
if_yes false l m h = cc

if_no : (b : Bool) (l m : FlowOutput) → b ≡ false → (if b then l else m) ≡ m
if_no true l m h = cc
if_no false l m h = refl

pub told_without : (size reach : ℕ) (items : List FlowItem) (x : FlowItem) → tcp_layer x.item.frame ≡ None → left_by x (Ok x.item) ≡ window_told size reach items x
unfolding window_told
told_without size reach items x none = ap (told_at size reach items x) (sym none)

pub told_bare : (size reach : ℕ) (items : List FlowItem) (x : FlowItem) (t : Layer) → tcp_layer x.item.frame ≡ Some t → is_empty (payload_in x.item.frame t) ≡ true
    → left_by x (Ok x.item) ≡ window_told size reach items x
unfolding window_told
told_bare size reach items x t is empty = sym (ap (told_at size reach items x) is ∙ if_yes (is_empty (payload_in x.item.frame t)) _ _ empty)

pub told_beyond : (size reach : ℕ) (items : List FlowItem) (x : FlowItem) (t : Layer) → tcp_layer x.item.frame ≡ Some t → is_empty (payload_in x.item.frame t) ≡ false
    → counts reach (stream_of reach x.dir items) (segment_at x.item.frame t) ≡ false → left_by x (Err Reach) ≡ window_told size reach items x
unfolding window_told
told_beyond size reach items x t is full not =
    sym (ap (told_at size reach items x) is ∙ if_no (is_empty (payload_in x.item.frame t)) _ _ full ∙ if_no (counts reach (stream_of reach x.dir items) (segment_at x.item.frame t)) _ _ not)

pub told_counted : (size reach : ℕ) (items : List FlowItem) (x : FlowItem) (t : Layer) (m : Template) → tcp_layer x.item.frame ≡ Some t → is_empty (payload_in x.item.frame t) ≡ false
    → counts reach (stream_of reach x.dir items) (segment_at x.item.frame t) ≡ true → template_of x.item ≡ Some m
    → record { passed = own_left x t ++ triggered size (ready_in reach x.dir items) (stream_of reach x.dir (items ++ x ∷ [])) x.dir x.item.a m; dropped = [] } ≡ window_told size reach items x
unfolding window_told
told_counted size reach items x t m is full does says =
    let windows : triggered size (ready_in reach x.dir items) (stream_of reach x.dir (items ++ x ∷ [])) x.dir x.item.a m ≡ windows_left size reach items x =
    sym (ap (λ (o : Option Template). flat_map (triggered size (ready_in reach x.dir items) (stream_of reach x.dir (items ++ x ∷ [])) x.dir x.item.a) (option_to_list o)) says
    ∙ append-nil (triggered size (ready_in reach x.dir items) (stream_of reach x.dir (items ++ x ∷ [])) x.dir x.item.a m)) in
    (λ i. record { passed = own_left x t ++ windows i; dropped = [] })
    ∙ sym (ap (told_at size reach items x) is ∙ if_no (is_empty (payload_in x.item.frame t)) _ _ full ∙ if_yes (counts reach (stream_of reach x.dir items) (segment_at x.item.frame t)) _ _ does)

-- ANSWERS

module _ (reach : ℕ) (r : Reassembly) (s : StreamSegment) where
  pub answers_bare : Bare ≡ answer reach r s → (is_empty s.bytes ≡ true) × (counts reach r s ≡ false)
  answers_bare h = at (is_empty s.bytes) (is_near reach (ready_of r.payloads) (payload_of r s)) h where
    at : (a b : Bool) → Bare ≡ (if a then Bare else if b then Counted else Beyond) → (a ≡ true) × ((not a && b) ≡ false)
    at true b h = (refl, refl)
    at false true h = cc
    at false false h = cc

  pub answers_counted : Counted ≡ answer reach r s → (is_empty s.bytes ≡ false) × (counts reach r s ≡ true)
  answers_counted h = at (is_empty s.bytes) (is_near reach (ready_of r.payloads) (payload_of r s)) h where
    at : (a b : Bool) → Counted ≡ (if a then Bare else if b then Counted else Beyond) → (a ≡ false) × ((not a && b) ≡ true)
    at true b h = cc
    at false true h = (refl, refl)
    at false false h = cc

  pub answers_beyond : Beyond ≡ answer reach r s → (is_empty s.bytes ≡ false) × (counts reach r s ≡ false)
  answers_beyond h = at (is_empty s.bytes) (is_near reach (ready_of r.payloads) (payload_of r s)) h where
    at : (a b : Bool) → Beyond ≡ (if a then Bare else if b then Counted else Beyond) → (a ≡ false) × ((not a && b) ≡ false)
    at true b h = cc
    at false true h = cc
    at false false h = (refl, refl)

-- the windows that were emitted are those that the item is the trigger of
pub windows_are : (size : ℕ) (r r' : Reassembly) (dir : Direction) (m : Template) (a a' from to ready : ℕ) → a ≡ a' → r ≡ r' → from ≡ ready / size → to ≡ ready_of r.payloads / size
    → windows_from size r dir m a 1 from (to - from) ≡ triggered size ready r' dir a' m
windows_are size r r' dir m a a' from to ready ea e ef et =
    let et' = et ∙ ap (λ (x : Reassembly). ready_of x.payloads / size) e in
    λ i. windows_from size (e i) dir m (ea i) 1 (ef i) (et' i - ef i)
