use Rattle.std.proofs.Common.{◌≡◌, [], length, sym, ap, ◌∙◌, subst, true}
use Rattle.std.specs.Prelude.{slice_get, All}
use Rattle.work_crew.proofs.Members.{take_front}
use Rattle.work_crew.proofs.sides.work_side.Goals as goal

pub returns : goal.returns
returns g c =
    let e = c.worker.ensures in
    let x = c.args.side.now in
    let r = c.requires.ready in
    let s = take_front x.seats.len c.worker.new.seats _ (e.seats ∙ (sym r.seats ∙ sym x.seats.ok.0)) in
    let w = take_front x.works.len c.worker.new.works _ (e.works ∙ (sym r.works ∙ sym x.works.ok.0)) in record {
      served = record {
        seats = ap length s ∙ e.seats;
        works = ap length w ∙ e.works;
        own = λ t lane seat at at'. e.own t lane seat at (ap (λ l. slice_get l t) (sym s) ∙ at');
        over = subst (All (λ seat. ((g.K.LaneKit.worker_facts seat).ended ≡ true) × ((g.K.LaneKit.worker_facts seat).held ≡ []))) (sym s) e.ended;
        places = λ t old new at at'. e.places t old new (ap (λ l. slice_get l t) c.deref_mut.ensures.value ∙ at) (ap (λ l. slice_get l t) (sym s) ∙ at');
        worked = λ t seat work job at at' at_job. e.worked t seat work job (ap (λ l. slice_get l t) (sym s) ∙ at) (ap (λ l. slice_get l t) (sym w) ∙ at') at_job;
        follow = λ t old new at at'. e.follows t old new (ap (λ l. slice_get l t) c.deref_mut-2.ensures.value ∙ at) (ap (λ l. slice_get l t) (sym w) ∙ at');
      };
    }
