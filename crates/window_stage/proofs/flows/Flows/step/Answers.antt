use Rattle.std.proofs.Common.{◌≡◌, ◌∙◌, ◌+◌, ◌/◌, sym, ap, refl, subst, [], ◌∷◌, ◌++◌, ℕ, Option, Some, arith}
use Rattle.std.specs.Box.{with_value}
use Rattle.std.proofs.lemmas.Option.{same_Some}
use Rattle.batch_ops.specs.Outlet.{only_lost, keyed}
use Rattle.batch_ops.proofs.ThenCalls.{on_ok_map}
use Rattle.flow_spec.specs.Window.{window_told}
use Rattle.window_stage.specs.Own.{item_in}
use Rattle.window_stage.specs.FlowHalves.{FlowHalvesFit}
use Rattle.window_stage.specs.Flows.{FitsAt}
use Rattle.window_stage.specs.declared.flow_halves.FlowHalves.{FlowHalves}
use Rattle.window_stage.proofs.KeptSteps.{kept_here, kept_apart, all_after}
use Rattle.window_stage.proofs.Stepping.{moves_own, moves_as}
use Rattle.window_stage.proofs.flows.Flows.step.Goals as goal

-- of the size and the reach
kind_of : (h k : FlowHalves) (size reach : ℕ) → h ≡ k → (k.forward.size ≡ size) × (k.forward.stream.reach ≡ reach) → (h.forward.size ≡ size) × (h.forward.stream.reach ≡ reach)
kind_of h k size reach same kind = (ap (λ (x : FlowHalves). x.forward.size) same ∙ kind.0, ap (λ (x : FlowHalves). x.forward.stream.reach) same ∙ kind.1)

pub returns-in_default : goal.returns-in_default
returns-in_default c = record {
  added = only_lost c.args.p;
  moves = moves_own (c.args.self.now.reach / c.args.self.now.size + 1) c.args.p c.args.out.now c.lose.new.self _ refl c.lose.ensures.grows c.lose.ensures.spare;
  apart = λ _. tt;
  goes = tt;
  others = c.take.ensures.others;
  none_lost = tt;
  lost = refl;
  same = c.take.ensures.same;
}

pub step-result-requires-clause-room : goal.step-result-requires-clause-room
step-result-requires-clause-room c =
    let k = kind_of _ c.in-Ok.halves.value c.args.self.now.size c.args.self.now.reach c.deref_mut.ensures.value c.in-Ok.ensures.kind in
    let most : c.deref_mut.result.now.forward.stream.reach / c.deref_mut.result.now.forward.size ≡ c.args.self.now.reach / c.args.self.now.size = λ i. k.1 i / k.0 i in
    let had = c.requires.room in
    (omega arith, omega arith, omega arith)

pub step-result-requires-clause-spare : goal.step-result-requires-clause-spare
step-result-requires-clause-spare c =
    let k = kind_of _ c.in-Ok.halves.value c.args.self.now.size c.args.self.now.reach c.deref_mut.ensures.value c.in-Ok.ensures.kind in
    let most : c.deref_mut.result.now.forward.stream.reach / c.deref_mut.result.now.forward.size ≡ c.args.self.now.reach / c.args.self.now.size = λ i. k.1 i / k.0 i in
    let had = c.requires.spare in
    omega arith

pub step-result-requires-clause-long : goal.step-result-requires-clause-long
step-result-requires-clause-long c =
    let k = kind_of _ c.in-Ok.halves.value c.args.self.now.size c.args.self.now.reach c.deref_mut.ensures.value c.in-Ok.ensures.kind in
    let had = c.requires.long in
    omega arith

pub step-result-requires-clause-reach : goal.step-result-requires-clause-reach
step-result-requires-clause-reach c =
    let k = kind_of _ c.in-Ok.halves.value c.args.self.now.size c.args.self.now.reach c.deref_mut.ensures.value c.in-Ok.ensures.kind in
    let w = c.args.self.now.within in
    omega arith

pub invariant_of-self : goal.invariant_of-self
invariant_of-self c =
    let m = c.take.new.self in
    let k = kind_of _ c.in-Ok.halves.value c.args.self.now.size c.args.self.now.reach c.deref_mut.ensures.value c.in-Ok.ensures.kind in
    let same = c.take.ensures.same in
    let kept = m.halves.items in
    let x = Some (with_value c.in-Ok.halves c.step-result.new.self) in
    record {
      windows = m.windows;
      within = m.within;
      kinds = all_after kept _ c.args.flow (λ q apart. kept_apart kept c.args.flow q x apart)
          (λ (h : FlowHalves). (h.forward.size ≡ m.size) × (h.forward.stream.reach ≡ m.reach))
          (λ y is. let e = same_Some c.step-result.new.self y (sym (kept_here kept c.args.flow x c.in-Ok.ensures.place) ∙ is) in
          subst (λ (h : FlowHalves). (h.forward.size ≡ m.size) × (h.forward.stream.reach ≡ m.reach)) e
          (c.step-result.ensures.same_size ∙ k.0 ∙ sym same.0, c.step-result.ensures.same_reach ∙ k.1 ∙ sym same.1)) m.kinds;
    }

pub returns : goal.returns
returns c =
    let k = kind_of _ c.in-Ok.halves.value c.args.self.now.size c.args.self.now.reach c.deref_mut.ensures.value c.in-Ok.ensures.kind in
    let step = c.step-result.ensures in
    let size = k.0 in
    let reach = k.1 in
    let kept = c.take.new.self.halves.items in
    let item = item_in c.args.dir c.args.p in
    let x = Some (with_value c.in-Ok.halves c.step-result.new.self) in
    record {
      added = step.added;
      moves = moves_as (keyed c.args.p ∷ []) _ (c.args.self.now.reach / c.args.self.now.size + 1) c.args.out.now c.step-result.new.out step.added (let e : c.deref_mut.result.now.forward.stream.reach / c.deref_mut.result.now.forward.size ≡ c.args.self.now.reach / c.args.self.now.size = (λ i. reach i / size i) in omega arith) step.moves;
      apart = step.apart;
      goes = on_ok_map c.step-result.result _ _ (λ goes items fits.
          let done = goes items (subst (λ (h : FlowHalves). FlowHalvesFit h items) (sym c.deref_mut.ensures.value) (c.in-Ok.ensures.fits items fits)) in (
            subst (λ (o : Option FlowHalves). FitsAt c.take.new.self.reach o (items ++ item ∷ [])) (sym (kept_here kept c.args.flow x c.in-Ok.ensures.place)) done.0,
            done.1 ∙ (λ i. window_told (size i) (reach i) items item),
          )) step.goes;
      others = λ q apart. kept_apart kept c.args.flow q x apart ∙ c.take.ensures.others q apart;
      none_lost = step.none_lost;
      lost = step.lost;
      same = c.take.ensures.same;
    }
