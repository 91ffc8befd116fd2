-- Steps that the shown lane does not see, and the miss of a claim.
use Rattle.std.proofs.Common.{◌≡◌, ℕ, ◌+◌, ◌<◌, false, ◌&&◌, nat_eq, nat_lt, List, [], get_or, set, sym, refl, ap, ◌∙◌, arith}
use mathlib.Core.Option.{Option as Maybe, some}
use lib.ListN.{get_elem?}
use Rattle.std.proofs.lemmas.List.{set-get_or}
use Rattle.atomic_table.specs.Table.{State}
use Rattle.lane_spec.specs.Counts.{total, times}
use Rattle.lane_spec.specs.Pairs.{slots_of}
use Rattle.lane_spec.specs.LaneMachine as machine
use Rattle.lane_spec.specs.LaneMachine.{Leads}
use Rattle.lane_table.specs.declared.view.Stored.{Stored}
use Rattle.lane_table.specs.declared.view.LaneKey.{LaneKey}
use Rattle.lane_table.specs.declared.view.SeatView.{SeatView}
use Rattle.lane_table.specs.Rule.{mark_at}
use Rattle.lane_table.specs.Steps.{missed_by, taken_by, settled_by}
use Rattle.lane_table.specs.Shown.{shown, ClaimMissIsEvent, SlotsAreUnseen}
use Rattle.lane_core.proofs.Views.{total_set}
use Rattle.lane_core.specs.Seats.{log_of}
use Rattle.lane_table.proofs.Events.{role_same}

module _ (z : LaneKey) (s : State Stored SeatView) (id : ℕ) (v u : SeatView) (words' : List ℕ) (homes' : List (Maybe Stored)) (at : get_elem? s.views id ≡ some v) (roles : u.roles ≡ v.roles) (held : u.held ≡ v.held) (claimed : u.claimed ≡ v.claimed) (sent : u.sent ≡ v.sent)
    (received : u.received ≡ v.received) (ends : u.ends ≡ v.ends) (ended : u.ended ≡ v.ended) (pool : (j : ℕ) → get_or words' j 0 ≡ get_or s.words j 0) where
  abbrev now : State Stored SeatView
  now = record { words = words'; homes = homes'; views = set s.views id u }

  sents : (x : ℕ) → (shown z now).sent x ≡ (shown z s).sent x
  sents x = role_same 0 (λ (y : SeatView). log_of y.sent x) [] v u roles s.views id at (ap (λ l. log_of l x) sent)

  gots : (x : ℕ) → (shown z now).received x ≡ (shown z s).received x
  gots x = role_same (x + 1) (λ (y : SeatView). log_of y.received x) [] v u roles s.views id at (ap (λ l. log_of l x) received)

  stood : (q : machine.Place) (j : ℕ) → (shown z now).stands q j ≡ (shown z s).stands q j
  stood machine.Pool j = ap (λ n. nat_eq n 1 && nat_lt j z.buffers) (pool j)
  stood machine.Ingest j = ap (λ l. nat_lt 0 (times j l)) (role_same 0 (λ (y : SeatView). y.held) [] v u roles s.views id at held)
  stood (machine.Ring x) j = λ k. nat_lt 0 (times j (slots_of (machine.rest_of (sents x k) (gots x k))))
  stood (machine.Worker x) j = ap (λ l. nat_lt 0 (times j l)) (role_same (x + 1) (λ (y : SeatView). y.held) [] v u roles s.views id at held)

  claims : (j : ℕ) → total (λ (y : SeatView). times j y.claimed) (set s.views id u) ≡ total (λ (y : SeatView). times j y.claimed) s.views
  claims j = let m = total_set (λ (y : SeatView). times j y.claimed) s.views id v u at in let e = ap (times j) claimed in omega arith

  pub unseen : shown z now ≡ shown z s
  unseen = λ k. record {
    stands = λ q j. stood q j k;
    sent = λ x. sents x k;
    received = λ x. gots x k;
    end_put = λ x. role_same 0 (λ (y : SeatView). mark_at y.ends x) false v u roles s.views id at (ap (λ l. mark_at l x) ends) k;
    end_taken = λ x. role_same (x + 1) (λ (y : SeatView). mark_at y.ended x) false v u roles s.views id at (ap (λ l. mark_at l x) ended) k;
    claimed = λ j. nat_lt 0 (claims j k);
  }

module _ (z : LaneKey) (s : State Stored SeatView) (id i : ℕ) (v : SeatView) (homes' : List (Maybe Stored)) (at : get_elem? s.views id ≡ some v) where
  pub same_words : (x : ℕ) → get_or s.words i 0 ≡ x → (j : ℕ) → get_or (set s.words i x) j 0 ≡ get_or s.words j 0
  same_words x e j = ap (λ l. get_or l j 0) (ap (set s.words i) (sym e) ∙ set-get_or s.words i 0)

  pub miss_event : i < z.buffers → get_or s.words i 0 ≡ 0 → Leads z.buffers z.workers (machine.ClaimMiss i) (shown z s) (shown z record { words = set s.words i 0; homes = homes'; views = set s.views id (missed_by i v) })
  miss_event below none_ = ((below, ap (λ n. nat_eq n 1 && nat_lt i z.buffers) none_), unseen z s id v (missed_by i v) (set s.words i 0) homes' at refl refl refl refl refl refl refl (same_words 0 none_))

  pub take_unseen : shown z record { words = set s.words i (get_or s.words i 0); homes = homes'; views = set s.views id (taken_by i v) } ≡ shown z s
  take_unseen = unseen z s id v (taken_by i v) (set s.words i (get_or s.words i 0)) homes' at refl refl refl refl refl refl refl (same_words (get_or s.words i 0) refl)

  pub settle_unseen : shown z record { words = set s.words i (get_or s.words i 0); homes = homes'; views = set s.views id (settled_by v) } ≡ shown z s
  settle_unseen = unseen z s id v (settled_by v) (set s.words i (get_or s.words i 0)) homes' at refl refl refl refl refl refl refl (same_words (get_or s.words i 0) refl)

pub claim_miss : ClaimMissIsEvent
claim_miss z s id i v c a p at below none_ = miss_event z s id i v s.homes at below none_

pub slots_unseen : SlotsAreUnseen
slots_unseen z s id i v c a at = (take_unseen z s id i v s.homes at, settle_unseen z s id i v s.homes at)
