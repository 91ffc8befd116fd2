use Rattle.std.proofs.Common.{◌≡◌, ◌∙◌, ◌+◌, ◌-◌, ◌*◌, ◌/◌, ℕ, ap, sym, refl, [], ◌∷◌, ◌++◌, List, Some, max, arith}
use Rattle.std.proofs.Math.Nat.{div-le_self}
use Rattle.std.specs.List.{list_any}
use Rattle.brick_spec.specs.FlowStage.{FlowItem}
use Rattle.brick_spec.specs.Stream.{StreamSegment, reassembly}
use Rattle.brick_base.specs.Flow.{dir_view}
use Rattle.packetize.specs.View.{template_view}
use Rattle.window_stream.specs.StreamModel.{StandsFor}
use Rattle.flow_spec.specs.Window.{windows_from}
use Rattle.window_stage.proofs.Emitting.{emitted_none}
use Rattle.brick_base.specs.declared.drops.Reason.TheVariants.{Reach}
use Rattle.packet_owner.proofs.Raw.{raw_payload}
use Rattle.batch_ops.specs.declared.outlet.Dropped.{Dropped}
use Rattle.batch_ops.specs.Outlet.{only_lost, both_added, is_lost, HasOtherKey, keyed}
use Rattle.batch_ops.proofs.Calls.{moves_both}
use Rattle.batch_ops.proofs.Feeding.{all_of_both}
use Rattle.window_stage.specs.Emission.{only_passed}
use Rattle.window_stage.specs.HalfFlow.{most_windows}
use Rattle.window_stage.proofs.Stepping.{moves_own, moves_as, made_nothing, keys_behind, own_room, few_windows, emitted_after, bare_goes, beyond_goes, counted_goes}
use Rattle.window_stage.proofs.half_flow.HalfFlow.step.Goals as goal

pub pass_windows-requires-clause-few : goal.pass_windows-requires-clause-few
pass_windows-requires-clause-few c =
    let w = c.args.self.now in
    let s = c.from-size.result in
    let e = c.from-size.ensures in
    let within = w.within in
    let r₀ = c.ready.ensures.value in
    let r₁ = c.ready-in-Ok-Counted.ensures.value in
    let grows = c.take.ensures.grows in
    let few = few_windows s w.stream.reach c.ready.result c.ready-in-Ok-Counted.result (omega arith) (omega arith) in
    let small = div-le_self w.stream.reach s in
    omega arith

pub pass_windows-requires-clause-room : goal.pass_windows-requires-clause-room
pass_windows-requires-clause-room c =
    let w = c.args.self.now in
    let s = c.from-size.result in
    let e = c.from-size.ensures in
    let within = w.within in
    let r₀ = c.ready.ensures.value in
    let r₁ = c.ready-in-Ok-Counted.ensures.value in
    let grows = c.take.ensures.grows in
    let few = few_windows s w.stream.reach c.ready.result c.ready-in-Ok-Counted.result (omega arith) (omega arith) in
    let same : w.stream.reach / s ≡ w.stream.reach / w.size = ap (λ (n : ℕ). w.stream.reach / n) e in
    let room = own_room _ _ c.args.out.now c.leave_own.new.out c.leave_own.ensures in
    let had = c.requires.room.0 in
    omega arith

pub pass_windows-requires-clause-spare : goal.pass_windows-requires-clause-spare
pass_windows-requires-clause-spare c =
    let w = c.args.self.now in
    let s = c.from-size.result in
    let e = c.from-size.ensures in
    let within = w.within in
    let r₀ = c.ready.ensures.value in
    let r₁ = c.ready-in-Ok-Counted.ensures.value in
    let grows = c.take.ensures.grows in
    let few = few_windows s w.stream.reach c.ready.result c.ready-in-Ok-Counted.result (omega arith) (omega arith) in
    let same : w.stream.reach / s ≡ w.stream.reach / w.size = ap (λ (n : ℕ). w.stream.reach / n) e in
    let room = own_room _ _ c.args.out.now c.leave_own.new.out c.leave_own.ensures in
    let had = c.requires.spare in
    omega arith

pub invariant_of-self-in-Ok-Counted : goal.invariant_of-self-in-Ok-Counted
invariant_of-self-in-Ok-Counted c =
    let w = c.args.self.now in
    let within = w.within in
    let same = c.pass_windows.ensures.same in
    let to : c.ready-in-Ok-Counted.result / c.from-size.result * w.size ≡ c.take.new.self.ready / w.size * w.size =
    λ i. c.ready-in-Ok-Counted.ensures.value i / c.from-size.ensures i * w.size in
    record {
      same_size = w.same_size ∙ sym (same.0 ∙ c.take.ensures.same.0);
      within = within;
      emitted = emitted_after w.size w.stream.ready c.take.new.self.ready c.take.new.self.dropped c.pass_windows.new.stream.dropped c.pass_windows.new.stream.ready (omega arith) c.take.ensures.grows.0
          (c.take.ensures.same.2 ∙ w.emitted) (c.pass_windows.ensures.dropped ∙ ap (λ (n : ℕ). max c.take.new.self.dropped n) to) same.2;
    }

pub returns-in-Err : goal.returns-in-Err
returns-in-Err c = record {
  added = only_lost c.args.p;
  moves = moves_own (most_windows c.args.self.now) c.args.p c.args.out.now c.lose.new.self _ refl c.lose.ensures.grows c.lose.ensures.spare;
  apart = λ _. tt;
  goes = tt;
  none_lost = tt;
  lost = refl;
  same_size = refl;
  same_reach = c.take.ensures.same.1;
}

pub returns-in-Ok-Bare : goal.returns-in-Ok-Bare
returns-in-Ok-Bare c = record {
  added = only_passed (record { dir = c.args.dir; packet = c.args.p } ∷ []);
  moves = moves_own (most_windows c.args.self.now) c.args.p c.args.out.now c.pass.new.self _ refl c.pass.ensures.grows c.pass.ensures.spare;
  apart = λ _. tt;
  goes = bare_goes c.args.dir c.args.fields c.args.p c.requires.fields c.args.self.now _ c.payload.result.now (c.payload.ensures.value ∙ raw_payload c.args.p c.payload.ensures.layers)
      refl c.take.ensures.same.1 (λ segments h. let ok = c.in-Ok-Bare.ensures.ok segments h in (sym c.in-Ok-Bare.field-0-is ∙ ok.0, ok.1));
  none_lost = refl;
  lost = tt;
  same_size = refl;
  same_reach = c.take.ensures.same.1;
}

pub returns-in-Ok-Beyond : goal.returns-in-Ok-Beyond
returns-in-Ok-Beyond c = record {
  added = record { passed = []; dropped = record { reason = Some Reach; packet = c.args.p } ∷ []; consumed = [] };
  moves = moves_own (most_windows c.args.self.now) c.args.p c.args.out.now c.drop_for.new.self _ refl c.drop_for.ensures.grows c.drop_for.ensures.spare;
  apart = λ _. tt;
  goes = beyond_goes c.args.dir c.args.fields c.args.p c.requires.fields c.args.self.now _ c.payload.result.now (c.payload.ensures.value ∙ raw_payload c.args.p c.payload.ensures.layers)
      refl c.take.ensures.same.1 (λ segments h. let ok = c.in-Ok-Beyond.ensures.ok segments h in (sym c.in-Ok-Beyond.field-0-is ∙ ok.0, ok.1));
  none_lost = refl;
  lost = tt;
  same_size = refl;
  same_reach = c.take.ensures.same.1;
}

pub returns-then-from-to : goal.returns-then-from-to
unfolding moves_both
returns-then-from-to c =
    let w = c.args.self.now in
    let s = c.from-size.result in
    let e = c.from-size.ensures in
    let r₀ = c.ready.ensures.value in
    let r₁ = c.ready-in-Ok-Counted.ensures.value in
    let from = c.ready.result / s in
    let to = c.ready-in-Ok-Counted.result / s in
    let out = c.leave_own.new.out in
    let none : 0 ≡ to - from = let equal = c.if-from-to.true in omega arith in
    let own = c.leave_own.ensures in
    let done = emitted_none (to - from) 1 (λ (xs : List FlowItem). (segments : List StreamSegment) → StandsFor c.take.new.self segments
    → xs ≡ windows_from w.size (reassembly c.take.new.self.reach segments) (dir_view c.args.dir) (template_view c.at.result) c.key-a.result.0 1 from (to - from)) out
    (λ segments h. ap (λ (n : ℕ). windows_from w.size (reassembly c.take.new.self.reach segments) (dir_view c.args.dir) (template_view c.at.result) c.key-a.result.0 1 from n) none) in
    record {
      added = both_added own.added (only_passed done.made);
      moves = moves_as (keyed c.args.p ∷ []) (0 + (to - from)) (most_windows w) c.args.out.now out _ (omega arith)
          (moves_both (keyed c.args.p ∷ []) [] 0 (to - from) c.args.out.now out out own.added (only_passed done.made) own.moves done.moves);
      apart = λ is_own. all_of_both (HasOtherKey (keyed c.args.p)) own.moves.made done.moves.made
          (made_nothing (keyed c.args.p ∷ []) c.args.out.now out own.added own.moves (HasOtherKey (keyed c.args.p)))
          (keys_behind c.args.p done.moves.made is_own done.keys);
      goes = counted_goes c.args.dir c.args.fields c.args.p c.requires.fields w _ c.payload.result.now (c.payload.ensures.value ∙ raw_payload c.args.p c.payload.ensures.layers)
          c.take.new.self c.at.result c.key-a.result.0 from to c.args.out.now out out own done
          (ap (λ (k : ℕ × ℕ). k.0) c.key-a.ensures) c.at.ensures (λ i. r₀ i / e i) (λ i. r₁ i / e i) refl c.take.ensures.same.1 refl
          (λ segments h. let ok = c.in-Ok-Counted.ensures.ok segments h in (sym c.in-Ok-Counted.field-0-is ∙ ok.0, ok.1)) (λ segments h. h);
      none_lost = ap (λ (ds : List Dropped). list_any is_lost (ds ++ [])) own.none;
      lost = tt;
      same_size = refl;
      same_reach = c.take.ensures.same.1;
    }

pub returns-else-from-to : goal.returns-else-from-to
unfolding moves_both
returns-else-from-to c =
    let w = c.args.self.now in
    let s = c.from-size.result in
    let e = c.from-size.ensures in
    let within = w.within in
    let r₀ = c.ready.ensures.value in
    let r₁ = c.ready-in-Ok-Counted.ensures.value in
    let grows = c.take.ensures.grows in
    let from = c.ready.result / s in
    let to = c.ready-in-Ok-Counted.result / s in
    let few = few_windows s w.stream.reach c.ready.result c.ready-in-Ok-Counted.result (omega arith) (omega arith) in
    let same : w.stream.reach / s ≡ w.stream.reach / w.size = ap (λ (n : ℕ). w.stream.reach / n) e in
    let own = c.leave_own.ensures in
    let done = c.pass_windows.ensures.passed c.at.result refl in
    record {
      added = both_added own.added (only_passed done.made);
      moves = moves_as (keyed c.args.p ∷ []) (0 + (to - from)) (most_windows w) c.args.out.now c.pass_windows.new.out _ (omega arith)
          (moves_both (keyed c.args.p ∷ []) [] 0 (to - from) c.args.out.now c.leave_own.new.out c.pass_windows.new.out own.added (only_passed done.made) own.moves done.moves);
      apart = λ is_own. all_of_both (HasOtherKey (keyed c.args.p)) own.moves.made done.moves.made
          (made_nothing (keyed c.args.p ∷ []) c.args.out.now c.leave_own.new.out own.added own.moves (HasOtherKey (keyed c.args.p)))
          (keys_behind c.args.p done.moves.made is_own done.keys);
      goes = counted_goes c.args.dir c.args.fields c.args.p c.requires.fields w _ c.payload.result.now (c.payload.ensures.value ∙ raw_payload c.args.p c.payload.ensures.layers)
          c.take.new.self c.at.result c.key-a.result.0 from to c.args.out.now c.leave_own.new.out c.pass_windows.new.out own done
          (ap (λ (k : ℕ × ℕ). k.0) c.key-a.ensures) c.at.ensures (λ i. r₀ i / e i) (λ i. r₁ i / e i) refl c.take.ensures.same.1 c.pass_windows.ensures.same.1
          (λ segments h. let ok = c.in-Ok-Counted.ensures.ok segments h in (sym c.in-Ok-Counted.field-0-is ∙ ok.0, ok.1)) c.pass_windows.ensures.segments;
      none_lost = ap (λ (ds : List Dropped). list_any is_lost (ds ++ [])) own.none;
      lost = tt;
      same_size = refl;
      same_reach = c.pass_windows.ensures.same.1 ∙ c.take.ensures.same.1;
    }
