-- A tenant's work ends its flows, and gives its results.
use Rattle.std.proofs.Common.{◌≡◌, ℕ, ◌+◌, ◌<◌, ◌≤◌, List, [], ◌∷◌, ◌++◌, map, length, Bool, true, false, Option, Some, None, Result, Ok, Err, OnOk, refl, ap, sym, subst, ◌∙◌, arith, append-nil, get_or}
use Rattle.std.proofs.lemmas.List.{length-map}
use Rattle.std.specs.Prelude.{⊤}
use Rattle.std.specs.Result.{is_err}
use Rattle.brick_spec.specs.Flow.{Flow, Class}
use Rattle.brick_spec.specs.Item.{Item}
use Rattle.brick_spec.specs.FlowStage.{FlowInput}
use Rattle.brick_spec.specs.GroupOutput.{in_key_order}
use Rattle.brick_base.specs.Flow.{flow_of}
use Rattle.brick_base.specs.declared.flow.Class.{Class as ClassInCode}
use Rattle.brick_base.specs.declared.memory.NoMemory.{NoMemory}
use Rattle.packet_owner.specs.Buffer.{BufferModel}
use Rattle.flow_spec.specs.Parts.{Parts}
use Rattle.flow_spec.specs.Plan.{Plan, flow_meaning, leaf_count}
use Rattle.flow_spec.specs.Answer.{ClassedItem, flows_of, Answer, answer}
use Rattle.flow_work.specs.Meaning.{Meaning, numbers_of}
use Rattle.flow_work.specs.Node.{IsNode}
use Rattle.flow_work.specs.Log.{EndedFor, OwnsKeys, AreRecords}
use Rattle.flow_work.specs.Buffers.{AreOut, Recycled}
use Rattle.flow_work.proofs.Buffers.{recycled_none}
use Rattle.flow_work.proofs.Endings.{EndedTo, ended_start, ended_step, ended_done}
use Rattle.flow_work.proofs.Flows.{work_answers}
use Rattle.chain_nodes.specs.declared.work.NodeWork.{NodeWork}
use Rattle.chain_nodes.specs.Node.{Took}
use Rattle.chain_nodes.specs.Flows.{flows_in}
use Rattle.chain_nodes.specs.Work.{work_stands, work_makes, work_results, work_counts, StandsFor, EndedWith, IsReady, FlowEnded, Ended}
use Rattle.chain_nodes.proofs.Desks.{out_none}
use Rattle.chain_nodes.proofs.Waits.{serves_on}

true_or : (b : Bool) → b ≡ true → b ≡ false → ⊥
true_or b p q = cc

fine_of : (r : Result ⊤ NoMemory) (b : Bool) (A : Type 0) → b ≡ is_err r → b ≡ false → OnOk r A → A
fine_of (Ok x) b A e f h = h
fine_of (Err x) b A e f h = absurd (true_or b e f)

module _ {N : Type 0} (stands : N → Flow → FlowInput → Parts → Type 0) (makes : N → Meaning) (results : N → List (List Item)) (serves : N → ℕ → ℕ → ℕ → Type 0)
    (more : (n : N) (count bytes free all : ℕ) → free ≤ all → serves n count bytes free → serves n count bytes all) where
  pub flow_failed : (w : NodeWork N) (flow : Flow) (records : ℕ) → IsReady stands makes results serves w → w.failed ≡ true → FlowEnded stands makes results serves w w flow records
  flow_failed w flow records h failed = record {
    ready = h;
    recycled = recycled_none w.desk.back w.desk.out.spare;
    stays_failed = λ f. f;
    goes = λ fine. absurd (true_or w.failed failed fine);
    same = refl;
    many = refl;
    flows = refl;
    ended = refl;
  }

  pub flow_took : (old new : NodeWork N) (flow : Flow) (records : ℕ) (r : Result ⊤ NoMemory) → IsReady stands makes results serves old → AreOut [] old.desk.back old.desk.out.spare → old.failed ≡ false → new.failed ≡ is_err r → new.flows ≡ old.flows → new.ended ≡ old.ended
      → Took stands makes results serves old.root new.root flow [] [] (Some records) old.desk new.desk r → FlowEnded stands makes results serves old new flow records
  flow_took old new flow records r h o fine outcome flows ended t = record {
    ready = record {
      ready = serves_on serves more new.root [] old.desk.back new.desk.back old.desk.out.spare new.desk.out.spare t.recycled (t.stays old.desk.out.spare.count old.desk.out.spare.bytes _ refl h.ready);
      rest = t.emptied;
      slots = (out_none [] old.desk.back new.desk.back old.desk.out.spare new.desk.out.spare o t.recycled).slots;
      seen = λ ok. subst Rattle.chain_nodes.specs.Flows.AreSeen (sym flows) (h.seen fine);
    };
    recycled = t.recycled;
    stays_failed = λ f. absurd (true_or old.failed f fine);
    goes = λ ok.
        let went = fine_of r new.failed _ outcome ok t.went in
        let w = went.1 in
        (went.0, (record { goes = w.goes; others = w.others; kept = w.kept; long = w.long; same = w.same }, went.2));
    same = t.same;
    many = t.many;
    flows = flows;
    ended = ended;
  }

  -- the first k flows ended
  pub record EndingSoFar (old new : NodeWork N) (k records : ℕ) : Type 0 where
    pub ready : IsReady stands makes results serves new
    pub out : AreOut [] new.desk.back new.desk.out.spare
    pub stays_failed : old.failed ≡ true → new.failed ≡ true
    pub stands_for : new.failed ≡ false → (list : List ClassedItem) → StandsFor stands makes results serves old list → EndedTo (work_stands stands makes results serves) (work_makes stands makes results serves) (work_results stands makes results serves) (work_counts stands makes results serves) records k new list
    pub same : makes new.root ≡ makes old.root
    pub many : length (results new.root) ≡ length (results old.root)
    pub flows : new.flows ≡ old.flows
    pub ended : new.ended ≡ old.ended

  pub ending_none : (w : NodeWork N) (records : ℕ) → IsReady stands makes results serves w → w.desk.back ≡ [] → EndingSoFar w w 0 records
  ending_none w records h none = record {
    ready = h;
    out = record { slots = h.slots; rooms = tt; place = let e = ap length none in omega arith };
    stays_failed = λ f. f;
    stands_for = λ ok list s. ended_start (work_stands stands makes results serves) (work_makes stands makes results serves) (work_results stands makes results serves) (work_counts stands makes results serves) records w list s.log s.means;
    same = refl;
    many = refl;
    flows = refl;
    ended = refl;
  }

  pub ending_one : (old mid new : NodeWork N) (k records : ℕ) (c : ClassInCode) → k < length mid.flows.list.items → c ≡ get_or mid.flows.list.items k c → EndingSoFar old mid k records → FlowEnded stands makes results serves mid new (flow_of c) records → EndingSoFar old new (k + 1) records
  ending_one old mid new k records c l is e f = record {
    ready = f.ready;
    out = out_none [] mid.desk.back new.desk.back mid.desk.out.spare new.desk.out.spare e.out f.recycled;
    stays_failed = λ h. f.stays_failed (e.stays_failed h);
    stands_for = λ ok list s.
        let g = f.goes ok in
        let same : flows_in mid.flows ≡ flows_of list = ap flows_in e.flows ∙ s.flows in
        let there : flow_of c ≡ get_or (flows_of list) k (flow_of c) = ap flow_of is ∙ (mapped mid.flows.list.items k c ∙ ap (λ fs. get_or fs k (flow_of c)) same) in
        let below : k < length (flows_of list) = let a = ap length same in let b = length-map mid.flows.list.items flow_of in omega arith in
        ended_step (work_stands stands makes results serves) (work_makes stands makes results serves) (work_results stands makes results serves) (work_counts stands makes results serves) records k mid new list (flow_of c) g.0 below there
        (e.stands_for (not_yet mid.failed refl f.stays_failed ok) list s) g.1;
    same = f.same ∙ e.same;
    many = f.many ∙ e.many;
    flows = f.flows ∙ e.flows;
    ended = f.ended ∙ e.ended;
  } where
    not_yet : (t : Bool) → mid.failed ≡ t → (mid.failed ≡ true → new.failed ≡ true) → new.failed ≡ false → mid.failed ≡ false
    not_yet true e f ok = absurd (true_or new.failed (f e) ok)
    not_yet false e f ok = e

    mapped : (xs : List ClassInCode) (k : ℕ) (c : ClassInCode) → flow_of (get_or xs k c) ≡ get_or (map flow_of xs) k (flow_of c)
    mapped [] k c = refl
    mapped (x ∷ xs) Rattle.std.proofs.Common.zero c = refl
    mapped (x ∷ xs) (Rattle.std.proofs.Common.suc k) c = mapped xs k c

  pub ending_all : (old mid : NodeWork N) (k records : ℕ) → length old.flows.list.items ≤ k → EndingSoFar old mid k records → Ended stands makes results serves old (record mid { ended = Some records }) records
  ending_all old mid k records all e = record {
    ended = refl;
    stays_failed = e.stays_failed;
    stands_for = λ ok list s.
        let few : length (flows_of list) ≤ k = let a = ap length s.flows in let b = length-map old.flows.list.items flow_of in omega arith in
        let d = ended_done (work_stands stands makes results serves) (work_makes stands makes results serves) (work_results stands makes results serves) (work_counts stands makes results serves) records k mid list few (e.stands_for ok list s) in
        record { log = d.0; means = record { flows = d.1.flows; kept = d.1.kept; drops = d.1.drops; known = d.1.known } };
    same = e.same;
    many = e.many;
  }

  work_node : IsNode stands makes results → IsNode (work_stands stands makes results serves) (work_makes stands makes results serves) (work_results stands makes results serves)
  work_node node = record { means = λ w. node.means w.root; many = λ w. node.many w.root }

  pub results_answer : IsNode stands makes results → (w : NodeWork N) (lists : List (List Item)) (drops : List ℕ) → lists ≡ map in_key_order (results w.root) → drops ≡ w.desk.counts → length drops ≡ 9
      → (plan : Plan) (class_at : ℕ → Class) (n : ℕ) (list : List ClassedItem) → makes w.root ≡ flow_meaning plan → length (results w.root) ≡ leaf_count plan → OwnsKeys (flow_meaning plan) → AreRecords class_at n list → EndedWith stands makes results serves n w list
      → record { groups = lists; drops = drops } ≡ answer plan list n
  results_answer node w lists drops e f nine plan class_at n list follows long owns r s =
      ap (λ ls. record { groups = ls; drops = drops }) e ∙ (ap (λ (ds : List ℕ). record { groups = map in_key_order (results w.root); drops = ds }) f
      ∙ work_answers (work_stands stands makes results serves) (work_makes stands makes results serves) (work_results stands makes results serves) (work_counts stands makes results serves) (work_node node) plan class_at n w list s.log follows long owns (ap length (sym f) ∙ nine) r s.means)
