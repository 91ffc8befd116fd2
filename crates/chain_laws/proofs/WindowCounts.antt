-- How many items a stage `window` leaves: no more than came, and one for each byte of their frames.
use Rattle.std.proofs.Common.{◌≡◌, ℕ, zero, suc, ◌+◌, ◌-◌, ◌/◌, ◌%◌, ◌≤◌, Bool, true, false, cond, nat_eq, List, [], ◌∷◌, ◌++◌, length, map, Option, Some, None, Ok, Err, if◌then◌else◌, refl, ap, arith, append_assoc, append-nil}
use Rattle.std.proofs.lemmas.Bool.Decides.{nat_tests}
use Rattle.std.proofs.Math.Nat.{div-zero, div-le_self, div-add-mod, div-mul-le_self}
use Rattle.std.proofs.lemmas.Nat.{le-div}
use Rattle.std.specs.Prelude.{flat_map, option_map}
use Rattle.std.specs.Option.{option_to_list}
use Rattle.brick_spec.specs.Flow.{Flow, Direction, Forward, Reversed}
use Rattle.brick_spec.specs.FlowStage.{FlowItem, FlowOutput, left_by, along, meant}
use Rattle.brick_spec.specs.Item.{Item}
use Rattle.brick_spec.specs.Layer.{Layer, header_in, payload_in, tcp_layer}
use Rattle.brick_spec.specs.PacketizedWindow as spec
use Rattle.brick_spec.specs.Stage.{Reach}
use Rattle.brick_spec.specs.Stream.{Reassembly, ready_of, counts, is_empty}
use Rattle.flow_spec.specs.FlowStream.{segment_at, stream_of, ready_in}
use Rattle.flow_spec.specs.Window.{windows_from, triggered, rest_of, emitted_from, is_marked, own_by, own_left, windows_left, told_at, window_told, rest_in, window_rest, last_template, window_stage}
use Rattle.chain_laws.proofs.Totals.{total, total_sum}
use Rattle.chain_laws.proofs.StreamBytes.{both_few, ready_grows}

-- what left: items that passed, and drops
abbrev pub parts : FlowOutput → ℕ
parts o = length o.passed + length o.dropped

pub long_both : {X : Type 0} (xs ys : List X) → length (xs ++ ys) ≡ length xs + length ys
long_both [] ys = omega arith
long_both (x ∷ xs) ys = omega (arith, long_both xs ys)

div_grows : (s m n : ℕ) → m ≤ n → m / s ≤ n / s
div_grows zero m n h = omega (arith, div-zero m, div-zero n)
div_grows (suc s) m n h = le-div (m / suc s) n (suc s) (omega arith) (omega (arith, div-mul-le_self m (suc s), h))

module _ (size reach : ℕ) where
  -- how many windows of a direction are whole
  whole : Direction → List FlowItem → ℕ
  whole d items = ready_in reach d items / size

  both_whole : List FlowItem → ℕ
  both_whole items = whole Forward items + whole Reversed items

  whole_grows : (d : Direction) (before more : List FlowItem) → whole d before ≤ whole d (before ++ more)
  unfolding whole
  whole_grows d before more = div_grows size (ready_in reach d before) (ready_in reach d (before ++ more)) (ready_grows reach d before more)

  windows_many : (r : Reassembly) (d : Direction) (m : spec.Template) (b k i n : ℕ) → length (windows_from size r d m b k i n) ≡ n
  windows_many r d m b k i zero = refl
  windows_many r d m b k i (suc n) = ap suc (windows_many r d m b (suc k) (suc i) n)

  left_many : (before : List FlowItem) (x : FlowItem) → length (windows_left size reach before x) + whole x.dir before ≤ whole x.dir (before ++ x ∷ [])
  unfolding whole
  left_many before x = by (spec.template_of x.item) where
    makes : spec.Template → List FlowItem
    makes m = triggered size (ready_in reach x.dir before) (stream_of reach x.dir (before ++ x ∷ [])) x.dir x.item.a m

    grown : ready_in reach x.dir before / size ≤ ready_in reach x.dir (before ++ x ∷ []) / size
    grown = div_grows size (ready_in reach x.dir before) (ready_in reach x.dir (before ++ x ∷ [])) (ready_grows reach x.dir before (x ∷ []))

    by : (o : Option spec.Template) → length (flat_map makes (option_to_list o)) + ready_in reach x.dir before / size ≤ ready_in reach x.dir (before ++ x ∷ []) / size
    by None = omega (arith, grown)
    by (Some m) =
        let r : Reassembly = stream_of reach x.dir (before ++ x ∷ []) in
        omega (
          arith,
          grown,
          long_both (makes m) [],
          windows_many r x.dir m x.item.a 1 (ready_in reach x.dir before / size) (ready_of r.payloads / size - ready_in reach x.dir before / size),
        )

  own_few : (x : FlowItem) (marked : Bool) → length (own_by marked x) ≤ 1
  own_few x false = omega arith
  own_few x true = by (spec.bare_frame x.item.frame) where
    by : (o : Option (List ℕ)) → length {A = FlowItem} (map (λ (i : Item). record { dir = x.dir; item = i }) (option_to_list (option_map (λ frame. record x.item { original = length frame; frame = frame }) o))) ≤ 1
    by None = omega arith
    by (Some frame) = omega arith

  -- so many more windows of the one direction
  of_both : (d : Direction) (n : ℕ) (before after : List FlowItem) → n + whole d before ≤ whole d after → whole Forward before ≤ whole Forward after → whole Reversed before ≤ whole Reversed after → n + both_whole before ≤ both_whole after
  unfolding both_whole
  of_both Forward n before after one f r = omega (arith, one, f, r)
  of_both Reversed n before after one f r = omega (arith, one, f, r)

  told_few : (before : List FlowItem) (x : FlowItem) (o : Option Layer) → parts (told_at size reach before x o) + both_whole before ≤ 1 + both_whole (before ++ x ∷ [])
  told_few before x o = by o where
    after : List FlowItem
    after = before ++ x ∷ []

    more : (n : ℕ) → n + whole x.dir before ≤ whole x.dir after → n + both_whole before ≤ both_whole after
    more n one = of_both x.dir n before after one (whole_grows Forward before (x ∷ [])) (whole_grows Reversed before (x ∷ []))

    none : 0 + both_whole before ≤ both_whole after
    none = more 0 (omega (arith, whole_grows x.dir before (x ∷ [])))

    by : (o : Option Layer) → parts (told_at size reach before x o) + both_whole before ≤ 1 + both_whole after
    by None = omega (arith, none)
    by (Some t) = tests (is_empty (payload_in x.item.frame t)) (counts reach (stream_of reach x.dir before) (segment_at x.item.frame t)) where
      counted : FlowOutput
      counted = record { passed = own_left x t ++ windows_left size reach before x; dropped = [] }

      tests : (b c : Bool) → parts (if b then left_by x (Ok x.item) else (if c then counted else left_by x (Err Reach))) + both_whole before ≤ 1 + both_whole after
      tests true c = omega (arith, none)
      tests false true =
          omega (arith, more (length (windows_left size reach before x)) (left_many before x), long_both (own_left x t) (windows_left size reach before x), own_few x (is_marked (header_in x.item.frame t)))
      tests false false = omega (arith, none)

  -- AT THE END

  rest_many : (d : Direction) (b k : ℕ) (items : List FlowItem) → length (rest_in size reach d b k items) ≤ cond (nat_eq (ready_in reach d items % size) 0) 0 1
  rest_many d b k items = by (last_template reach d items) where
    makes : spec.Template → List FlowItem
    makes m = rest_of size (stream_of reach d items) d b k m

    zero_least : (e : Bool) → 0 ≤ cond e 0 1
    zero_least e = omega arith

    one : (e : Bool) (y : FlowItem) → length ((if e then [] else y ∷ []) ++ []) ≤ cond e 0 1
    one true y = omega arith
    one false y = omega arith

    by : (o : Option spec.Template) → length (flat_map makes (option_to_list o)) ≤ cond (nat_eq (ready_in reach d items % size) 0) 0 1
    by None = zero_least (nat_eq (ready_in reach d items % size) 0)
    by (Some m) = let r = stream_of reach d items in one (nat_eq (ready_of r.payloads % size) 0) (emitted_from r d m b k (ready_of r.payloads - ready_of r.payloads % size) (ready_of r.payloads % size))

  all_many : (d : Direction) (b k : ℕ) (items : List FlowItem) → length (rest_in size reach d b k items) + whole d items ≤ ready_in reach d items
  unfolding whole
  all_many d b k items = omega (arith, rest_many d b k items, in_all size (ready_in reach d items)) where
    by_rest : (s n : ℕ) (e : Bool) → nat_eq (n % suc s) 0 ≡ e → cond e 0 1 + n / suc s ≤ n
    by_rest s n true t = omega (arith, div-le_self n (suc s))
    by_rest s n false t = omega (arith, not_zero (n % suc s) t, div-add-mod n (suc s)) where
      not_zero : (m : ℕ) → nat_eq m 0 ≡ false → 1 ≤ m
      not_zero m t = grind (arith, nat_tests)

    zero_size : (n : ℕ) (e : Bool) → nat_eq (n % 0) 0 ≡ e → cond e 0 1 + n / 0 ≤ n
    zero_size n true t = omega (arith, div-le_self n 0)
    zero_size n false t = omega (arith, div-zero n, not_zero (n % 0) t, div-add-mod n 0) where
      not_zero : (m : ℕ) → nat_eq m 0 ≡ false → 1 ≤ m
      not_zero m t = grind (arith, nat_tests)

    in_all : (s n : ℕ) → cond (nat_eq (n % s) 0) 0 1 + n / s ≤ n
    in_all zero n = zero_size n (nat_eq (n % 0) 0) refl
    in_all (suc s) n = by_rest s n (nat_eq (n % suc s) 0) refl

  -- THE STAGE

  module _ (flow : Flow) where
    along_few : (before xs : List FlowItem) → parts (along (window_stage size reach flow) before xs) + both_whole before ≤ length xs + both_whole (before ++ xs)
    unfolding window_told
    along_few before [] = let same : both_whole (before ++ []) ≡ both_whole before = ap both_whole (append-nil before) in omega (arith, same)
    along_few before (x ∷ xs) =
        let s = window_stage size reach flow in
        let next = along_few (before ++ x ∷ []) xs in
        let same : both_whole ((before ++ x ∷ []) ++ xs) ≡ both_whole (before ++ x ∷ xs) = ap both_whole (append_assoc before (x ∷ []) xs) in
        omega (
          arith,
          next,
          same,
          told_few before x (tcp_layer x.item.frame),
          long_both (s.on_item before x).passed (along s (before ++ x ∷ []) xs).passed,
          long_both (s.on_item before x).dropped (along s (before ++ x ∷ []) xs).dropped,
        )

    pub window_few : (n : ℕ) (xs : List FlowItem) → parts (meant (window_stage size reach flow) (record { items = xs; ended = Some n })) ≤ total (λ (x : FlowItem). 1 + length x.item.frame) xs
    unfolding both_whole window_rest
    window_few n xs =
        let s = window_stage size reach flow in
        let forward = rest_in size reach Forward (n + flow.number) 0 xs in
        let reversed = rest_in size reach Reversed (n + flow.number) 1 xs in
        omega (
          arith,
          along_few [] xs,
          long_both (along s [] xs).passed (forward ++ reversed),
          long_both (along s [] xs).dropped [],
          long_both forward reversed,
          all_many Forward (n + flow.number) 0 xs,
          all_many Reversed (n + flow.number) 1 xs,
          both_few reach xs,
          total_sum (λ (x : FlowItem). 1) (λ (x : FlowItem). length x.item.frame) xs,
          ones xs,
        ) where
          ones : (ys : List FlowItem) → total (λ (x : FlowItem). 1) ys ≡ length ys
          ones [] = refl
          ones (y ∷ ys) = omega (arith, ones ys)
