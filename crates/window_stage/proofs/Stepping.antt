-- What one packet does to one direction of its flow.
use Rattle.std.specs.Prelude.{option_map}
use Rattle.std.proofs.Common.{refl, Option, None, ◌≡◌, ℕ, ◌+◌, ◌-◌, ◌*◌, ◌/◌, ◌<◌, ◌≤◌, Bool, false, List, [], ◌∷◌, ◌++◌, map, length, Some, Ok, Err, ap, sym, subst, ◌∙◌, arith, length-append, max, vec_len, vec_capacity}
use Rattle.std.proofs.lemmas.List.Sorted.{length_permutation}
use Rattle.std.proofs.lemmas.Option.{same_Some}
use Rattle.std.proofs.Math.Nat.{div-mul-le_self, lt-div-mul-add, div-lt_iff_lt-mul, le-div_iff_mul-le, mul-le-mul_right}
use Rattle.brick_spec.specs.Item.{Item}
use Rattle.brick_spec.specs.FlowStage.{FlowItem, FlowOutput, both, left_by}
use Rattle.brick_spec.specs.Layer.{Layer}
use Rattle.brick_spec.specs.PacketizedWindow as spec
use Rattle.brick_spec.specs.Stage as stage
use Rattle.brick_spec.specs.Stream.{StreamSegment, reassembly, counts}
use Rattle.brick_base.specs.Flow.{dir_view}
use Rattle.brick_base.specs.declared.flow.Dir.{Dir}
use Rattle.packet_owner.specs.Packet.{PacketModel, packet_item}
use Rattle.packet_owner.specs.Spare.{SpareModel}
use Rattle.batch_ops.specs.declared.outlet.Outlet.{Outlet}
use Rattle.std.specs.List.{AllByRecursion}
use Rattle.batch_ops.specs.Outlet.{Added, Grows, Takes, Moves, KeyedBuffer, HasOtherKey, both_added, keyed, packets, left_in}
use Rattle.batch_ops.proofs.Calls.{same_order, takes_none, left_in_both, how_many, made_many}
use Rattle.packetize.specs.View.{template_view}
use Rattle.packetize.specs.declared.templates.Template.{Template}
use Rattle.window_stream.specs.Answers.{answer}
use Rattle.window_stream.specs.StreamModel.{StreamModel, StandsFor}
use Rattle.window_stream.specs.declared.stream.Taken.{Taken}
use Rattle.window_stream.specs.declared.stream.Taken.TheVariants.{Bare, Counted, Beyond}
use Rattle.window_stream.proofs.Standing.{ready_same}
use Rattle.flow_spec.specs.FlowStream.{segment_at, segments_of, stream_of, ready_in}
use Rattle.flow_spec.specs.Window.{last_template, windows_from, own_by, own_left, window_told}
use Rattle.window_stage.specs.Fields.{HasFields, HasFieldsAt, fields_segment}
use Rattle.window_stage.specs.Emission.{Emitted, only_passed}
use Rattle.window_stage.specs.Own.{LeavesOwn, item_in}
use Rattle.window_stage.specs.HalfFlow.{HalfFlowFits, last_view}
use Rattle.window_stage.specs.declared.fields.SegmentFields.{SegmentFields}
use Rattle.window_stage.specs.declared.half_flow.HalfFlow.{HalfFlow}
use Rattle.window_stage.proofs.Telling.{segments_here, last_uncounted, last_counted, told_bare, told_beyond, told_counted, answers_bare, answers_counted, answers_beyond, windows_are}

-- BUFFERS

-- one packet was added, in its own buffer
abbrev pub moves_own : (most : ℕ) (p : PacketModel) (out out' : Outlet) (added : Added) → map keyed (packets added) ≡ keyed p ∷ [] → Grows out out' added → out'.spare ≡ out.spare
    → Moves (keyed p ∷ []) most out out' added
moves_own most p out out' added lies grows spare = record {
  slots = [];
  grows = grows;
  takes = subst (λ (s : SpareModel). Takes out.spare s []) (sym spare) (takes_none out.spare);
  few = omega arith;
  made = [];
  spare = refl;
  each = same_order (map keyed (packets added)) (keyed p ∷ []) lies;
}

abbrev pub moves_as : (own : List KeyedBuffer) (n k : ℕ) (out out' : Outlet) (added : Added) → n ≤ k → Moves own n out out' added → Moves own k out out' added
moves_as own n k out out' added less m = record { slots = m.slots; grows = m.grows; takes = m.takes; few = let h = m.few in omega arith; made = m.made; spare = m.spare; each = m.each }

-- what is made under places behind the first has other keys than a record
pub keys_behind : (p : PacketModel) (ks : List KeyedBuffer) → p.j ≡ 0 → AllByRecursion (λ (k : KeyedBuffer). 1 ≤ k.j) ks → AllByRecursion (HasOtherKey (keyed p)) ks
keys_behind p [] own h = tt
keys_behind p (k ∷ ks) own h = (λ _ same. (let a = h.0 in omega arith), keys_behind p ks own h.1)

-- none was made where no spare buffer was taken
pub made_nothing : (own : List KeyedBuffer) (out out' : Outlet) (added : Added) (m : Moves own 0 out out' added) → (P : KeyedBuffer → Type 0) → AllByRecursion P m.made
made_nothing own out out' added m P = none_of m.made (let few = m.few in let n = made_many m.made out.spare m.slots m.spare in omega arith) where
  none_of : (ks : List KeyedBuffer) → length ks ≡ 0 → AllByRecursion P ks
  none_of [] e = tt
  none_of (k ∷ ks) e = absurd (omega arith)

-- the room that is left behind it
pub own_room : (p : PacketModel) (left : List FlowItem) (out mid : Outlet) → LeavesOwn p left out mid
    → (vec_len mid.passed ≤ vec_len out.passed + 1) × (vec_capacity out.passed ≤ vec_capacity mid.passed) × (length out.spare.free ≡ length mid.spare.free) × (mid.spare.bytes ≡ out.spare.bytes)
own_room p left out mid own =
    let m = own.moves in
    let many = how_many (keyed p ∷ []) 0 out mid own.added m in
    let few = m.few in
    let long = ap length m.grows.passed ∙ length-append out.passed.items own.added.passed in
    let free = length_permutation _ _ m.takes.free in
    let split = length-append m.slots mid.spare.free in
    let k₀ = out.passed.ok.0 in
    let k₁ = mid.passed.ok.0 in
    (omega arith, m.grows.passed_room, omega arith, m.takes.bytes)

-- each window that is whole was emitted, and let go of
pub emitted_after : (size old new d d' r : ℕ) → 0 < size → old ≤ new → d ≡ old / size * size → d' ≡ max d (new / size * size) → r ≡ new → d' ≡ r / size * size
emitted_after size old new d d' r pos more e e' same =
    let a : old / size * size ≤ old = div-mul-le_self old size in
    let b : old / size * size ≤ new = omega arith in
    let p : old / size ≤ new / size = (le-div_iff_mul-le pos).1 b in
    let h : old / size * size ≤ new / size * size = mul-le-mul_right size p in
    let m : d' ≡ new / size * size = omega arith in
    m ∙ ap (λ (n : ℕ). n / size * size) (sym same)

-- a bare segment keeps its key
pub bare_key : (i k : Item) → spec.bare_item i ≡ Some k → (k.a ≡ i.a) × (k.j ≡ i.j)
bare_key i k e = by_frame (spec.bare_frame i.frame) e where
  by_frame : (o : Option (List ℕ)) → option_map (λ frame. record i { original = length frame; frame = frame }) o ≡ Some k → (k.a ≡ i.a) × (k.j ≡ i.j)
  by_frame None e = cc
  by_frame (Some frame) e = let same = same_Some (record i { original = length frame; frame = frame }) k e in (ap (λ (x : Item). x.a) (sym same), ap (λ (x : Item). x.j) (sym same))

-- how many windows become whole at once
pub few_windows : (size reach old new : ℕ) → 64 ≤ size → new ≤ old + reach → new / size - old / size ≤ reach / size + 1
few_windows size reach old new large more =
    let p = old / size in
    let k = reach / size in
    let pos : 0 < size = omega arith in
    let a : old < p * size + size = lt-div-mul-add pos in
    let b : reach < k * size + size = lt-div-mul-add pos in
    let spread : (p + k + 2) * size ≡ p * size + size + (k * size + size) = grind arith in
    let below : new < (p + k + 2) * size = omega arith in
    let q : new / size < p + k + 2 = (div-lt_iff_lt-mul pos).1 below in
    omega arith

-- THE SEGMENT

seen_is : (frame : List ℕ) (p : PacketModel) (fields : SegmentFields) (t : Layer) → frame ≡ p.frame → HasFieldsAt p.frame fields t → fields_segment frame fields ≡ segment_at p.frame t
seen_is frame p fields t same at = ap (λ (xs : List ℕ). fields_segment xs fields) same ∙ at.segment

-- the stream's answer to a segment, whatever it stands for
abbrev pub Takes1 : StreamModel → StreamModel → StreamSegment → Taken → Type 0
Takes1 old new s t = (segments : List StreamSegment) → StandsFor old segments → (t ≡ answer old.reach (reassembly old.reach segments) s) × StandsFor new (segments ++ s ∷ [])

module _ (dir : Dir) (fields : SegmentFields) (p : PacketModel) (is : HasFields p.frame fields) (old new : HalfFlow) (frame : List ℕ) (same : frame ≡ p.frame) where
  abbrev x : FlowItem
  x = item_in dir p

  abbrev s : StreamSegment
  s = segment_at p.frame is.layer

  -- it goes on, with the segment
  stands_on : (old₁ new₁ : StreamModel) (t : Taken) (items : List FlowItem) → Takes1 old₁ new₁ (fields_segment frame fields) t → StandsFor old₁ (segments_of (dir_view dir) items)
      → (t ≡ answer old₁.reach (stream_of old₁.reach (dir_view dir) items) s) × StandsFor new₁ (segments_of (dir_view dir) (items ++ x ∷ []))
  stands_on old₁ new₁ t items takes stands =
      let e = seen_is frame p fields is.layer same is.at in
      let got = subst (λ (c : StreamSegment). Takes1 old₁ new₁ c t) e takes (segments_of (dir_view dir) items) stands in
      (got.0, subst (λ (segments : List StreamSegment). StandsFor new₁ segments) (sym (segments_here x is.layer items is.is)) got.1)

  -- a segment that does not count
  uncounted : (items : List FlowItem) → new.last ≡ old.last → new.stream.reach ≡ old.stream.reach → StandsFor new.stream (segments_of (dir_view dir) (items ++ x ∷ []))
      → counts old.stream.reach (stream_of old.stream.reach (dir_view dir) items) s ≡ false → HalfFlowFits (dir_view dir) old items → HalfFlowFits (dir_view dir) new (items ++ x ∷ [])
  uncounted items last reach stands not fits = record {
    stream = stands;
    last = ap last_view last ∙ fits.last ∙ sym (last_uncounted old.stream.reach items x is.layer is.is not) ∙ ap (λ (n : ℕ). last_template n (dir_view dir) (items ++ x ∷ [])) (sym reach);
  }

  pub bare_goes : new.last ≡ old.last → new.stream.reach ≡ old.stream.reach → Takes1 old.stream new.stream (fields_segment frame fields) Bare
      → (items : List FlowItem) → HalfFlowFits (dir_view dir) old items → HalfFlowFits (dir_view dir) new (items ++ x ∷ []) × (left_by x (Ok x.item) ≡ window_told old.size old.stream.reach items x)
  bare_goes last reach takes items fits =
      let on = stands_on old.stream new.stream Bare items takes fits.stream in
      let tests = answers_bare old.stream.reach (stream_of old.stream.reach (dir_view dir) items) s on.0 in
      (uncounted items last reach on.1 tests.1 fits, told_bare old.size old.stream.reach items x is.layer is.is tests.0)

  pub beyond_goes : new.last ≡ old.last → new.stream.reach ≡ old.stream.reach → Takes1 old.stream new.stream (fields_segment frame fields) Beyond
      → (items : List FlowItem) → HalfFlowFits (dir_view dir) old items → HalfFlowFits (dir_view dir) new (items ++ x ∷ []) × (left_by x (Err stage.Reach) ≡ window_told old.size old.stream.reach items x)
  beyond_goes last reach takes items fits =
      let on = stands_on old.stream new.stream Beyond items takes fits.stream in
      let tests = answers_beyond old.stream.reach (stream_of old.stream.reach (dir_view dir) items) s on.0 in
      (uncounted items last reach on.1 tests.1 fits, told_beyond old.size old.stream.reach items x is.layer is.is tests.0 tests.1)

  -- a segment that counts: the stream takes it, and lets go of the windows that were emitted
  pub counted_goes : (mid : StreamModel) (m : Template) (a from to : ℕ) (out out₁ out' : Outlet) (own : LeavesOwn p (own_by fields.marked x) out out₁)
      (done : Emitted (to - from) 1 (λ xs. (segments : List StreamSegment) → StandsFor mid segments → xs ≡ windows_from old.size (reassembly mid.reach segments) (dir_view dir) (template_view m) a 1 from (to - from)) out₁ out')
      → a ≡ p.a → spec.template_of (packet_item p) ≡ Some (template_view m) → from ≡ old.stream.ready / old.size → to ≡ mid.ready / old.size → new.last ≡ Some m → mid.reach ≡ old.stream.reach → new.stream.reach ≡ mid.reach
      → Takes1 old.stream mid (fields_segment frame fields) Counted → ((segments : List StreamSegment) → StandsFor mid segments → StandsFor new.stream segments)
      → (items : List FlowItem) → HalfFlowFits (dir_view dir) old items → HalfFlowFits (dir_view dir) new (items ++ x ∷ []) × (left_in (both_added own.added (only_passed done.made)) ≡ window_told old.size old.stream.reach items x)
  counted_goes mid m a from to out out₁ out' own done a_is says from_is to_is last reach reach' takes dropped items fits =
      let d = dir_view dir in
      let on = stands_on old.stream mid Counted items takes fits.stream in
      let tests = answers_counted old.stream.reach (stream_of old.stream.reach d items) s on.0 in
      let tells = told_counted old.size old.stream.reach items x is.layer (template_view m) is.is tests.0 tests.1 says in
      let ready₀ = ap (λ (n : ℕ). n / old.size) (ready_same old.stream (segments_of d items) fits.stream) in
      let ready₁ = ap (λ (n : ℕ). n / old.size) (ready_same mid (segments_of d (items ++ x ∷ [])) on.1) in
      let windows = done.items (segments_of d (items ++ x ∷ [])) on.1
      ∙ windows_are old.size (reassembly mid.reach (segments_of d (items ++ x ∷ []))) (stream_of old.stream.reach d (items ++ x ∷ [])) d (template_view m) a p.a from to (ready_in old.stream.reach d items)
      a_is (ap (λ (n : ℕ). reassembly n (segments_of d (items ++ x ∷ []))) reach) (from_is ∙ ready₀) (to_is ∙ ready₁) in
      let mine : own_by fields.marked x ≡ own_left x is.layer = ap (λ (b : Bool). own_by b x) is.at.marked in (
        record {
          stream = dropped (segments_of d (items ++ x ∷ [])) on.1;
          last = ap last_view last ∙ sym says ∙ sym (last_counted old.stream.reach items x is.layer is.is tests.1) ∙ ap (λ (n : ℕ). last_template n d (items ++ x ∷ [])) (sym (reach' ∙ reach));
        },
        left_in_both own.added (only_passed done.made) ∙ ap (λ (l : FlowOutput). both l (left_in (only_passed done.made))) own.left_is
            ∙ (λ i. record { passed = mine i ++ windows i; dropped = [] }) ∙ tells,
      )
