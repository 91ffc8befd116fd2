-- A receive that finds its cell empty, and one that finds END, are events of the lane.
use Rattle.std.proofs.Common.{◌≡◌, ◌≢◌, ◌⊎◌, ℕ, ◌+◌, ◌<◌, ◌≤◌, Bool, true, false, nat_lt, List, [], length, get_or, set, sym, refl, ap, ◌∙◌, ⊎_elim, inl, inr, arith, get_or-set_same, get_or-set_other}
use Rattle.std.specs.Prelude.{if◌then◌else◌}
use mathlib.Core.Option.{some}
use native.Mathlib.Decide.{dec_le}
use lib.ListN.{get_elem?}
use Rattle.atomic_table.specs.Table.{State}
use Rattle.lane_spec.specs.Counts.{total, times}
use Rattle.lane_spec.specs.Pairs.{Pair, slots_of}
use Rattle.lane_spec.specs.LaneMachine as machine
use Rattle.lane_spec.specs.LaneMachine.{with_value, Leads}
use Rattle.lane_core.specs.Seats.{log_of}
use Rattle.lane_core.proofs.Counting.{by_number}
use Rattle.lane_core.proofs.Views.{total_set}
use Rattle.lane_table.specs.declared.view.Stored.{Stored}
use Rattle.lane_table.specs.declared.view.LaneKey.{LaneKey}
use Rattle.lane_table.specs.declared.view.SeatView.{SeatView}
use Rattle.lane_table.specs.Cells.{END, entry_word}
use Rattle.lane_table.specs.Rule.{Lanes, Stands, mark_at, in_roles}
use Rattle.lane_table.specs.Steps.{ended_by, empty_by}
use Rattle.lane_table.specs.Shown.{shown, next_cell, ReceiveMissIsEvent, TakeEndIsEvent}
use Rattle.lane_table.proofs.Send.{stands}
use Rattle.lane_table.proofs.Receive as next
use Rattle.lane_table.proofs.Events.{role_same, set_at}
use Rattle.lane_table.proofs.RingEvents.{pool_same}
use Rattle.lane_table.proofs.ShowsLawful.{role_most, role_at, sent_is, received_is, put_is, taken_is}
use Rattle.lane_table.proofs.Unseen.{unseen, same_words}

flag : (b : Bool) → (b ≡ true) ⊎ (b ≡ false)
flag true = inl refl
flag false = inr refl

module _ (z : LaneKey) (s : State Stored SeatView) (id w : ℕ) (v : SeatView) (p : Lanes z s) (at : get_elem? s.views id ≡ some v) (knows : 0 < length v.found) (is_worker : w < z.workers) (mine : 0 < times (w + 1) v.roles)
    (one_role : length v.roles ≡ 1) (free_hand : v.out ≡ []) (small : z.buffers ≤ 1024) (going : mark_at v.ended w ≡ false) where
  st : Stands z s.homes p.sent p.received p.ends p.ended v
  st = stands z s p id v at knows

  -- the word is no entry's: all was received
  all_came : (n : ℕ) → get_or s.words (next_cell z w v) 0 ≡ n → ((q : Pair) → q.0 < z.buffers → n ≢ entry_word q) → length (log_of p.received w) ≡ length (log_of p.sent w)
  all_came n word none_ = elim (dec_le (length (log_of p.sent w)) (length (log_of p.received w))) [
    | yes le ↦ (let b = next.begun z s p id w v at knows is_worker mine one_role free_hand going small in omega arith)
    | no not ↦ absurd (let more : length (log_of p.received w) < length (log_of p.sent w) = omega arith in let q = next.nth z s p id w v at knows is_worker mine one_role free_hand going small more in
        none_ q.0 (next.below z s p id w v at knows is_worker mine one_role free_hand going small more) (sym word ∙ next.next_word z s p id w v at knows is_worker mine one_role free_hand going small more))
  ]

  same_shown : length (log_of p.received w) ≡ length (log_of p.sent w) → (shown z s).received w ≡ (shown z s).sent w
  same_shown all = received_is z s p w is_worker ∙ next.no_rest (log_of p.received w) ((p.rings w is_worker).prefix.0) (log_of p.sent w) ((p.rings w is_worker).prefix.1) all ∙ sym (sent_is z s p w)

  miss_leads : get_or s.words (next_cell z w v) 0 ≡ 0 → Leads z.buffers z.workers (machine.ReceiveMiss w) (shown z s) (shown z record { words = set s.words (next_cell z w v) 0; homes = s.homes; views = set s.views id (empty_by w v) })
  miss_leads word = let all = all_came 0 word (λ q lt e. absurd (omega arith)) in (
    (is_worker, same_shown all, put_is z s p w ∙ quiet all),
    unseen z s id v (empty_by w v) (set s.words (next_cell z w v) 0) s.homes at refl refl refl refl refl refl refl (same_words z s id (next_cell z w v) v s.homes at 0 word),
  ) where
    quiet : length (log_of p.received w) ≡ length (log_of p.sent w) → mark_at p.ends w ≡ false
    quiet all = ⊎_elim (λ put. absurd (let e : 0 ≡ END = sym word ∙ next.last_found z s p id w v at knows is_worker mine one_role free_hand going small all put in omega arith)) (λ none_. none_) (flag (mark_at p.ends w))

  abbrev u : SeatView
  u = ended_by w v

  abbrev views' : List SeatView
  views' = set s.views id u

  most : total (in_roles (w + 1)) views' ≤ 1
  most = let t = total_set (in_roles (w + 1)) s.views id v u at in let o = role_most z s p (w + 1) in omega arith

  abbrev t : machine.LaneState
  t = shown z record { words = set s.words (next_cell z w v) 0; homes = s.homes; views = views' }

  taken_here : t.end_taken w ≡ true
  taken_here = role_at (w + 1) (λ (y : SeatView). mark_at y.ended w) false views' id u (set_at s.views id v u at) mine most ∙ get_or-set_same v.ended w true false (let l = st.long.1 in omega arith)

  taken_else : (x : ℕ) → x ≢ w → t.end_taken x ≡ (shown z s).end_taken x
  taken_else x ne = role_same (x + 1) (λ (y : SeatView). mark_at y.ended x) false v u refl s.views id at (get_or-set_other v.ended w x true false ne)

  takes : (x : ℕ) → t.end_taken x ≡ with_value w true (shown z s).end_taken x
  takes x = by_number x w (λ b. t.end_taken x ≡ (if b then true else (shown z s).end_taken x)) (λ e. ap (λ y. t.end_taken y) e ∙ taken_here) (λ ne. taken_else x ne)

  sent_same : (x : ℕ) → t.sent x ≡ (shown z s).sent x
  sent_same x = role_same 0 (λ (y : SeatView). log_of y.sent x) [] v u refl s.views id at refl

  got_same : (x : ℕ) → t.received x ≡ (shown z s).received x
  got_same x = role_same (x + 1) (λ (y : SeatView). log_of y.received x) [] v u refl s.views id at refl

  stood : (q : machine.Place) (j : ℕ) → t.stands q j ≡ (shown z s).stands q j
  stood machine.Pool j = pool_same s.words (next_cell z w v) 0 z.buffers j (omega arith)
  stood machine.Ingest j = ap (λ l. nat_lt 0 (times j l)) (role_same 0 (λ (y : SeatView). y.held) [] v u refl s.views id at refl)
  stood (machine.Ring x) j = λ k. nat_lt 0 (times j (slots_of (machine.rest_of (sent_same x k) (got_same x k))))
  stood (machine.Worker x) j = ap (λ l. nat_lt 0 (times j l)) (role_same (x + 1) (λ (y : SeatView). y.held) [] v u refl s.views id at refl)

  claims : (j : ℕ) → total (λ (y : SeatView). times j y.claimed) views' ≡ total (λ (y : SeatView). times j y.claimed) s.views
  claims j = let m = total_set (λ (y : SeatView). times j y.claimed) s.views id v u at in omega arith

  end_leads : get_or s.words (next_cell z w v) 0 ≡ END → Leads z.buffers z.workers (machine.TakeEnd w) (shown z s) t
  end_leads word = let all = all_came END word (λ q lt e. absurd (omega arith)) in (
    (is_worker, same_shown all, put_is z s p w ∙ put all, taken_is z s p w is_worker ∙ sym (st.worker w mine).1 ∙ going),
    λ k. record {
      stands = λ q j. stood q j k;
      sent = λ x. sent_same x k;
      received = λ x. got_same x k;
      end_put = λ x. role_same 0 (λ (y : SeatView). mark_at y.ends x) false v u refl s.views id at refl k;
      end_taken = λ x. takes x k;
      claimed = λ j. nat_lt 0 (claims j k);
    },
  ) where
    put : length (log_of p.received w) ≡ length (log_of p.sent w) → mark_at p.ends w ≡ true
    put all = ⊎_elim (λ there. there) (λ quiet. absurd (let e : END ≡ 0 = sym word ∙ next.zero_found z s p id w v at knows is_worker mine one_role free_hand going small all quiet in omega arith)) (flag (mark_at p.ends w))

pub receive_miss : ReceiveMissIsEvent
receive_miss z s id w v c a p at knows is_worker mine one_role free_hand small going word = miss_leads z s id w v p at knows is_worker mine one_role free_hand small going word

pub take_end : TakeEndIsEvent
take_end z s id w v c a p at knows is_worker mine one_role free_hand small going word = end_leads z s id w v p at knows is_worker mine one_role free_hand small going word
