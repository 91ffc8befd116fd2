-- A row of stages was called, and what passed went on.
use Rattle.std.proofs.Common.{◌≡◌, ℕ, ◌+◌, ◌<◌, ◌≤◌, List, [], ◌∷◌, ◌++◌, map, flat_map, length, Bool, Option, Some, None, Result, OnOk, ◌⊎◌, inl, inr, refl, ap, sym, subst, ◌∙◌, arith, append-nil, append_assoc, length-append, vec_capacity}
use Rattle.std.proofs.lemmas.List.{map-append}
use Rattle.std.proofs.lemmas.List.Sorted.{length_permutation, IsPermutation-trans, IsPermutation-sym, IsPermutation-append_comm, IsPermutation-map}
use Rattle.std.specs.List.Sorted.{IsPermutation}
use Rattle.std.specs.Prelude.{⊤}
use Rattle.brick_spec.specs.Flow.{Flow}
use Rattle.brick_spec.specs.Item.{Item}
use Rattle.brick_spec.specs.FlowStage.{FlowItem, FlowStage, FlowInput, FlowOutput}
use Rattle.brick_base.specs.declared.memory.NoMemory.{NoMemory}
use Rattle.packet_owner.specs.Buffer.{BufferModel}
use Rattle.packet_owner.specs.Packet.{PacketModel}
use Rattle.packet_owner.specs.Spare.{SpareModel}
use Rattle.batch_ops.specs.declared.outlet.Outlet.{Outlet}
use Rattle.batch_ops.specs.declared.outlet.Passed.{Passed}
use Rattle.batch_ops.specs.declared.outlet.Dropped.{Dropped}
use Rattle.batch_ops.specs.Outlet.{Added, IsEmptied, Takes, buffer_of, passed_item, drops_of, KeyedBuffer, keyed, packets, left_in, spare_buffers}
use Rattle.chain_nodes.specs.Desk.{passed_buffer, dropped_buffer}
use Rattle.batch_ops.specs.Operator.{Meaning as Operating, Effect, Extends}
use Rattle.batch_ops.proofs.Calls.{joined, on_ok_joined, same_order}
use Rattle.flow_spec.specs.Parts.{Parts}
use Rattle.flow_work.specs.Meaning.{Meaning}
use Rattle.flow_work.specs.Node.{Went, PipeStands, pipe_makes}
use Rattle.flow_work.specs.Log.{CountsMore}
use Rattle.flow_work.specs.Buffers.{AreOut, Recycled}
use Rattle.flow_work.proofs.Nodes.{piped_went, after, piped_node}
use Rattle.flow_work.proofs.Logs.{counts_both}
use Rattle.flow_work.proofs.Buffers.{out_perm, out_front, out_after, out_step, recycled_step, recycled_both, recycled_perm}
use Rattle.chain_nodes.specs.declared.desk.Desk.{Desk}
use Rattle.chain_nodes.specs.Node.{Took, PipeServes}
use Rattle.chain_nodes.proofs.Desks.{more_free}

abbrev pub buffers_in : List KeyedBuffer → List BufferModel
buffers_in own = map (λ (k : KeyedBuffer). k.buffer) own

abbrev pub settled_buffers : Outlet → List BufferModel
settled_buffers out = map dropped_buffer out.dropped.items ++ map buffer_of out.consumed.items

abbrev pub going_on : Outlet → List BufferModel
going_on out = map passed_buffer out.passed.items

map_twice : {X Y Z : Type 0} (f : Y → Z) (h : X → Y) (xs : List X) → map f (map h xs) ≡ map (λ x. f (h x)) xs
map_twice f h [] = refl
map_twice f h (x ∷ xs) = ap (λ ys. f (h x) ∷ ys) (map_twice f h xs)

module _ {P : Type 0} (m : Operating P)
    (old new : P) (flow : Flow) (own : List KeyedBuffer) (items : List FlowItem) (ended : Option ℕ) (out out' : Outlet) (r : Result ⊤ NoMemory)
    (effect : Effect m old new flow own (m.spares old) items ended out out' r) (rest : IsEmptied out) (back : List BufferModel) (o : AreOut (buffers_in own) back out.spare) where
  pub passed_is : out'.passed.items ≡ effect.added.passed
  passed_is = effect.moves.grows.passed ∙ ap (λ (xs : List Passed). xs ++ effect.added.passed) rest.passed

  pub dropped_is : out'.dropped.items ≡ effect.added.dropped
  dropped_is = effect.moves.grows.dropped ∙ ap (λ (xs : List Dropped). xs ++ effect.added.dropped) rest.dropped

  pub consumed_is : out'.consumed.items ≡ effect.added.consumed
  consumed_is = effect.moves.grows.consumed ∙ ap (λ (xs : List PacketModel). xs ++ effect.added.consumed) rest.consumed

  buffers_are : map buffer_of (packets effect.added) ≡ going_on out' ++ settled_buffers out'
  buffers_are =
      let p = λ (x : Passed). x.packet in
      let d = λ (x : Dropped). x.packet in
      map-append buffer_of (map p effect.added.passed) (map d effect.added.dropped ++ effect.added.consumed)
      ∙ (ap (λ t. t ++ map buffer_of (map d effect.added.dropped ++ effect.added.consumed)) (map_twice buffer_of p effect.added.passed)
      ∙ (ap (λ t. map passed_buffer effect.added.passed ++ t) (map-append buffer_of (map d effect.added.dropped) effect.added.consumed ∙ ap (λ t. t ++ map buffer_of effect.added.consumed) (map_twice buffer_of d effect.added.dropped))
      ∙ λ i. map passed_buffer (sym passed_is i) ++ (map dropped_buffer (sym dropped_is i) ++ map buffer_of (sym consumed_is i))))

  -- without the keys
  only_buffers : IsPermutation (map buffer_of (packets effect.added)) (buffers_in own ++ spare_buffers out.spare effect.moves.slots)
  only_buffers =
      IsPermutation-trans _ _ _ (same_order _ _ (sym (map_twice (λ (k : KeyedBuffer). k.buffer) keyed (packets effect.added))))
      (IsPermutation-trans _ _ _ (IsPermutation-map (λ (k : KeyedBuffer). k.buffer) _ _ effect.moves.each)
      (same_order _ _ (map-append (λ (k : KeyedBuffer). k.buffer) own effect.moves.made ∙ ap (λ t. buffers_in own ++ t) effect.moves.spare)))

  moved : IsPermutation (going_on out' ++ settled_buffers out') (buffers_in own ++ spare_buffers out.spare effect.moves.slots)
  moved = subst (λ (bs : List BufferModel). IsPermutation bs (buffers_in own ++ spare_buffers out.spare effect.moves.slots)) buffers_are only_buffers

  all_out : AreOut (settled_buffers out' ++ going_on out') back out'.spare
  all_out = out_perm _ _ back out'.spare (IsPermutation-append_comm (going_on out') (settled_buffers out')) (out_step (buffers_in own) (going_on out' ++ settled_buffers out') back out.spare out'.spare effect.moves.slots effect.moves.takes moved o)

  pub settle_out : AreOut (settled_buffers out') back out'.spare
  settle_out = out_front (settled_buffers out') (going_on out') back out'.spare all_out

  module _ (back₁ : List BufferModel) (s₁ : SpareModel) (settled : Recycled (settled_buffers out') back back₁ out'.spare s₁) where
    pub passed_out : AreOut (going_on out') back₁ s₁
    passed_out = out_after (settled_buffers out') (going_on out') back back₁ out'.spare s₁ all_out settled

    -- what is behind serves
    pub behind_serves : {N : Type 0} (serves : N → ℕ → ℕ → ℕ → Type 0) → ((n : N) (count bytes free all : ℕ) → free ≤ all → serves n count bytes free → serves n count bytes all)
        → (n : N) → serves n out.spare.count out.spare.bytes (length out.spare.free) → (m.spares old ≡ 0) ⊎ serves n out.spare.count out.spare.bytes 0 → serves n s₁.count s₁.bytes (length s₁.free)
    behind_serves serves more n was plain =
        let t = effect.moves.takes in
        let free = more_free (settled_buffers out') back back₁ out'.spare s₁ settled in
        let both : serves n out.spare.count out.spare.bytes (length s₁.free) = by plain in
        subst (λ (b : ℕ). serves n s₁.count b (length s₁.free)) (sym (settled.bytes ∙ t.bytes)) (subst (λ (c : ℕ). serves n c out.spare.bytes (length s₁.free)) (sym (settled.count ∙ t.count)) both) where
          by : (m.spares old ≡ 0) ⊎ serves n out.spare.count out.spare.bytes 0 → serves n out.spare.count out.spare.bytes (length s₁.free)
          by (inl none) =
              let few = effect.moves.few in
              let e = length_permutation _ _ effect.moves.takes.free in
              let l = length-append effect.moves.slots out'.spare.free in
              let free = more_free (settled_buffers out') back back₁ out'.spare s₁ settled in
              more n out.spare.count out.spare.bytes (length out.spare.free) (length s₁.free) (omega arith) was
          by (inr plain) = more n out.spare.count out.spare.bytes 0 (length s₁.free) (omega arith) plain

    pub all_recycled : (back₂ : List BufferModel) (s₂ : SpareModel) → Recycled (going_on out') back₁ back₂ s₁ s₂ → Recycled (buffers_in own) back back₂ out.spare s₂
    all_recycled back₂ s₂ passed =
        recycled_step (buffers_in own) (going_on out' ++ settled_buffers out') back out.spare out'.spare effect.moves.slots effect.moves.takes moved o back₂ s₂
        (recycled_perm _ _ back back₂ out'.spare s₂ (IsPermutation-append_comm (going_on out') (settled_buffers out')) (recycled_both (settled_buffers out') (going_on out') back back₁ back₂ out'.spare s₁ s₂ settled passed))

module _ {P N T : Type 0} (m : Operating P)
    (stands : N → Flow → FlowInput → Parts → Type 0) (makes : N → Meaning) (results : N → List (List Item)) (serves : N → ℕ → ℕ → ℕ → Type 0)
    (path : T → P) (next : T → N) (waiting : T → List Passed) (room : T → ℕ) where
  abbrev pub TookPipe : T → T → Flow → List BufferModel → List FlowItem → Option ℕ → Desk → Desk → Result ⊤ NoMemory → Type 0
  TookPipe = Took (λ t flow came parts. PipeStands m.stands stands (path t) (next t) flow came parts) (λ t. pipe_makes m.row makes (path t) (next t)) (λ t. results (next t))
      (λ t count bytes free. PipeServes m.ready m.spares m.least_room serves (path t) (next t) (waiting t) (room t) count bytes free)

  pub pipe_took : (old new : T) (flow : Flow) (own : List KeyedBuffer) (items : List FlowItem) (ended : Option ℕ) (d₀ d₁ d₂ d₃ : Desk) (out : Outlet) (r₁ r₂ r : Result ⊤ NoMemory) → r ≡ joined r₁ r₂
      → (effect : Effect m (path old) (path new) flow own (m.spares (path old)) items ended d₀.out out r₁) → (rest : IsEmptied d₀.out) → (o : AreOut (buffers_in own) d₀.back d₀.out.spare)
      → (settled : Recycled (settled_buffers out) d₀.back d₁.back out.spare d₁.out.spare) → CountsMore d₀.counts d₁.counts (flat_map drops_of out.dropped.items)
      → d₂.back ≡ d₁.back → d₂.counts ≡ d₁.counts → d₂.out.spare ≡ d₁.out.spare
      → Took stands makes results serves (next old) (next new) flow (going_on out) (map passed_item out.passed.items) ended d₂ d₃ r₂
      → waiting new ≡ [] → d₀.out.spare.count < room new
      → TookPipe old new flow (buffers_in own) items ended d₀ d₃ r
  pipe_took old new flow own items ended d₀ d₁ d₂ d₃ out r₁ r₂ r outcome effect rest o settled counted eb ec es two none has = subst (λ (t : Result ⊤ NoMemory). TookPipe old new flow (buffers_in own) items ended d₀ d₃ t) (sym outcome) (record {
    went = on_ok_joined r₁ r₂ _ _ _
        (λ (x : Extends m.stands (path old) (path new) flow items ended (left_in effect.added))
        (y : (added : Parts) × Went stands makes results (next old) (next new) flow (map passed_item out.passed.items) ended added × CountsMore d₂.counts d₃.counts added.dropped). (
          after (left_in effect.added) y.0,
          piped_went m.stands m.row stands makes results path next old new flow items ended (left_in effect.added) y.0 x effect.others effect.same_row
              (subst (λ (ps : List Passed). Went stands makes results (next old) (next new) flow (map passed_item ps) ended y.0) is_passed y.1),
          counts_both d₀.counts d₁.counts d₃.counts (flat_map drops_of effect.added.dropped) y.0.dropped
              (subst (λ (ds : List Dropped). CountsMore d₀.counts d₁.counts (flat_map drops_of ds)) is_dropped counted)
              (subst (λ (cs : List ℕ). CountsMore cs d₃.counts y.0.dropped) ec y.2),
        )) effect.goes two.went;
    recycled = all_recycled m (path old) (path new) flow own items ended d₀.out out r₁ effect rest d₀.back o d₁.back d₁.out.spare settled d₃.back d₃.out.spare
        (subst (λ (s : SpareModel). Recycled (going_on out) d₁.back d₃.back s d₃.out.spare) es (subst (λ (b : List BufferModel). Recycled (going_on out) b d₃.back d₂.out.spare d₃.out.spare) eb two.recycled));
    emptied = two.emptied;
    stays = λ count bytes free is was.
        let behind = ap (λ (s : SpareModel). s.count) es ∙ (settled.count ∙ effect.moves.takes.count) in
        record {
          ready_row = effect.stays_ready;
          within = let w = was.within in let e = effect.same_spares in omega arith;
          enough = let w = was.enough in let e = effect.same_spares in omega arith;
          long = let w = was.long in let e = effect.same_room in omega arith;
          behind = two.stays count bytes free (is ∙ sym behind) was.behind;
          one_is_plain = plain count bytes (two.stays count bytes 0 (is ∙ sym behind)) was.one_is_plain;
          none_waits = none;
          has_room = omega (arith, is, has);
        };
    same = λ i flow came. pipe_makes (λ (_ : P). effect.same_row i) (λ (_ : N). two.same i) (path old) (next old) flow came;
    many = two.many;
  }) where
    is_passed : out.passed.items ≡ effect.added.passed
    is_passed = passed_is m (path old) (path new) flow own items ended d₀.out out r₁ effect rest d₀.back o

    is_dropped : out.dropped.items ≡ effect.added.dropped
    is_dropped = dropped_is m (path old) (path new) flow own items ended d₀.out out r₁ effect rest d₀.back o

    plain : (count bytes : ℕ) → (serves (next old) count bytes 0 → serves (next new) count bytes 0) → (m.spares (path old) ≡ 0) ⊎ serves (next old) count bytes 0 → (m.spares (path new) ≡ 0) ⊎ serves (next new) count bytes 0
    plain count bytes f (inl e) = inl (effect.same_spares ∙ e)
    plain count bytes f (inr h) = inr (f h)
