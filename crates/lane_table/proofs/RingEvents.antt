-- A release, a put, END and a take are events of the lane.
use Rattle.std.proofs.Common.{◌≡◌, ◌≢◌, ℕ, ◌+◌, ◌<◌, ◌≤◌, Bool, true, false, ◌&&◌, nat_eq, nat_lt, List, [], ◌∷◌, ◌++◌, length, get_or, set, sym, refl, ap, ◌∙◌, subst, arith, lt-ltb, ltb-true, eq-eqb, ne_eqb, length-append, get_or-set_same, get_or-set_other}
use Rattle.std.specs.Prelude.{if◌then◌else◌}
use mathlib.Core.Option.{some}
use mathlib.Core.Logic.{dite}
use native.Mathlib.Decide.{ℕ_discrete}
use lib.ListN.{get_elem?}
use Rattle.std.proofs.lemmas.List.Elements.{All-nil, All-cons}
use Rattle.atomic_table.specs.Table.{State}
use Rattle.lane_spec.specs.Counts.{total, times, without}
use Rattle.lane_spec.specs.Pairs.{Pair, slots_of, AreBelow}
use Rattle.lane_spec.specs.LaneMachine as machine
use Rattle.lane_spec.specs.LaneMachine.{moved, with_value, after, Leads, same_place, LaneState}
use Rattle.lane_core.proofs.Counting.{by_number}
use Rattle.lane_core.proofs.Lawful.{place_stays}
use Rattle.lane_table.specs.declared.view.Stored.{Stored}
use Rattle.lane_table.specs.declared.view.LaneKey.{LaneKey}
use Rattle.lane_table.specs.declared.view.SeatView.{SeatView}
use Rattle.lane_table.specs.Rule.{Lanes, mark_at, in_roles, Below}
use Rattle.lane_table.specs.Steps.{released_by, sent_by, closed_by}
use Rattle.lane_table.specs.Shown.{of_role, held_by, shown, ReleaseIsEvent, SendIsEvent, FinishIsEvent}
use Rattle.lane_table.proofs.Send.{stands}
use Rattle.lane_core.proofs.Counting.{times_without, times_without_else}
use Rattle.lane_core.proofs.Views.{total_set, times_last, times_last_else}
use Rattle.lane_table.proofs.Rings.{drop_left, slots_last}
use Rattle.lane_table.proofs.Moves.{word_taken}
use Rattle.lane_table.proofs.Events.{role_same, role_else, set_at}
use Rattle.lane_core.specs.Seats.{log_of}
use Rattle.lane_table.proofs.ShowsLawful.{lawful, role_most, role_at, held_is, some_is, none_is, and_both}

and_no : (a : Bool) → (a && false) ≡ false
and_no true = refl
and_no false = refl

not_less : (j n : ℕ) → n ≤ j → nat_lt j n ≡ false
not_less j n le = flag (nat_lt j n) (λ t. absurd (let a = ltb-true j n t in omega arith)) where
  flag : (b : Bool) → (b ≡ true → ⊥) → b ≡ false
  flag true no_ = absurd (no_ refl)
  flag false no_ = refl

-- a word that is no buffer's is not seen in the pool
pub pool_same : (words : List ℕ) (cell x n j : ℕ) → n ≤ cell → (nat_eq (get_or (set words cell x) j 0) 1 && nat_lt j n) ≡ (nat_eq (get_or words j 0) 1 && nat_lt j n)
pool_same words cell x n j le = dite (ℕ_discrete j cell)
    (λ e. let f = not_less j n (omega arith) in ap (λ b. nat_eq (get_or (set words cell x) j 0) 1 && b) f ∙ and_no (nat_eq (get_or (set words cell x) j 0) 1) ∙ sym (and_no (nat_eq (get_or words j 0) 1)) ∙ ap (λ b. nat_eq (get_or words j 0) 1 && b) (sym f))
    (λ ne. ap (λ k. nat_eq k 1 && nat_lt j n) (get_or-set_other words cell j x 0 ne))

abbrev pub number_of : machine.Place → ℕ
number_of machine.Pool = 0
number_of machine.Ingest = 0
number_of (machine.Ring w) = w
number_of (machine.Worker w) = w

below_all : (k : ℕ) (ps : List Pair) → Below k ps → AreBelow k ps
below_all k [] h = All-nil (λ (q : Pair). q.1 < k)
below_all k (p ∷ ps) h = All-cons (λ (q : Pair). q.1 < k) p ps h.0 (below_all k ps h.1)

-- RELEASE

module _ (z : LaneKey) (s : State Stored SeatView) (id w i : ℕ) (v : SeatView) (p : Lanes z s) (at : get_elem? s.views id ≡ some v) (mine : 0 < times (w + 1) v.roles) (alone : (r : ℕ) → r ≢ w + 1 → times r v.roles ≡ 0) (below : i < z.buffers) (has : 0 < times i v.held) where
  abbrev u : SeatView
  u = released_by i v

  abbrev views' : List SeatView
  views' = set s.views id u

  most : total (in_roles (w + 1)) views' ≤ 1
  most = let t = total_set (in_roles (w + 1)) s.views id v u at in let o = role_most z s p (w + 1) in omega arith

  held_was : held_by s.views (w + 1) ≡ v.held
  held_was = held_is z s p (w + 1) id v at mine

  held' : held_by views' (w + 1) ≡ without i v.held
  held' = role_at (w + 1) (λ (y : SeatView). y.held) [] views' id u (set_at s.views id v u at) mine most

  here : (shown z s).stands (machine.Worker w) i ≡ true
  here = some_is (times i (held_by s.views (w + 1))) (subst (λ (l : List ℕ). 0 < times i l) (sym held_was) has)

  abbrev t : LaneState
  t = shown z record { words = set s.words i 1; homes = s.homes; views = views' }

  stays_at : (q : machine.Place) → q ≢ machine.Worker w → same_place q machine.Pool ≡ false → (j : ℕ) → moved i machine.Pool (shown z s).stands q j ≡ (shown z s).stands q j
  stays_at q ne no_ j = place_stays z.buffers z.workers (shown z s) (lawful z s p) i (machine.Worker w) machine.Pool q here ne no_ j

  stands_same : (q : machine.Place) (j : ℕ) → t.stands q j ≡ moved i machine.Pool (shown z s).stands q j
  stands_same machine.Pool j = by_number j i (λ b. (nat_eq (get_or (set s.words i 1) j 0) 1 && nat_lt j z.buffers) ≡ (if b then true else (shown z s).stands machine.Pool j))
      (λ e. and_both (nat_eq (get_or (set s.words i 1) j 0) 1) (nat_lt j z.buffers)
      (eq-eqb (get_or (set s.words i 1) j 0) 1 (ap (λ k. get_or (set s.words i 1) k 0) e ∙ get_or-set_same s.words i 1 0 (let l = p.words in omega arith))) (lt-ltb j z.buffers (omega arith)))
      (λ ne. ap (λ n. nat_eq n 1 && nat_lt j z.buffers) (get_or-set_other s.words i j 1 0 ne))
  stands_same machine.Ingest j = ap (λ l. nat_lt 0 (times j l)) (role_else 0 (λ (y : SeatView). y.held) [] v u refl s.views id at (alone 0 (λ e. absurd (omega arith)))) ∙ sym (stays_at machine.Ingest (λ e. cc) refl j)
  stands_same (machine.Ring x) j = (λ k. nat_lt 0 (times j (slots_of (machine.rest_of (role_same 0 (λ (y : SeatView). log_of y.sent x) [] v u refl s.views id at refl k) (role_same (x + 1) (λ (y : SeatView). log_of y.received x) [] v u refl s.views id at refl k)))))
      ∙ sym (stays_at (machine.Ring x) (λ e. cc) refl j)
  stands_same (machine.Worker x) j = dite (ℕ_discrete x w)
      (λ same. subst (λ (y : ℕ). t.stands (machine.Worker y) j ≡ moved i machine.Pool (shown z s).stands (machine.Worker y) j) (sym same)
      (ap (λ l. nat_lt 0 (times j l)) held' ∙ by_number j i (λ b. nat_lt 0 (times j (without i v.held)) ≡ (if b then false else (shown z s).stands (machine.Worker w) j))
      (λ e. none_is (times j (without i v.held)) (ap (λ k. times k (without i v.held)) e ∙ (let a = times_without i v.held has in let o = word_taken z s p id i v at below has in let o2 = o.2 in omega arith)))
      (λ ne. ap (nat_lt 0) (times_without_else i j v.held ne ∙ ap (times j) (sym held_was)))))
      (λ ne. ap (λ l. nat_lt 0 (times j l)) (role_else (x + 1) (λ (y : SeatView). y.held) [] v u refl s.views id at (alone (x + 1) (λ e. ne (omega arith)))) ∙ sym (stays_at (machine.Worker x) (λ e. ne (ap number_of e)) refl j))

  release_leads : Leads z.buffers z.workers (machine.Release w i) (shown z s) t
  release_leads = (
    here,
    λ k. record {
      stands = λ q j. stands_same q j k;
      sent = λ x. role_same 0 (λ (y : SeatView). log_of y.sent x) [] v u refl s.views id at refl k;
      received = λ x. role_same (x + 1) (λ (y : SeatView). log_of y.received x) [] v u refl s.views id at refl k;
      end_put = λ x. role_same 0 (λ (y : SeatView). mark_at y.ends x) false v u refl s.views id at refl k;
      end_taken = λ x. role_same (x + 1) (λ (y : SeatView). mark_at y.ended x) false v u refl s.views id at refl k;
      claimed = λ j. nat_lt 0 (claims j k);
    },
  ) where
    claims : (j : ℕ) → total (λ (y : SeatView). times j y.claimed) views' ≡ total (λ (y : SeatView). times j y.claimed) s.views
    claims j = let m = total_set (λ (y : SeatView). times j y.claimed) s.views id v u at in omega arith

pub release_event : ReleaseIsEvent
release_event z s id w i v c a p at mine alone below has = release_leads z s id w i v p at mine alone below has

-- FINISH

module _ (z : LaneKey) (s : State Stored SeatView) (id w cell n : ℕ) (v : SeatView) (p : Lanes z s) (at : get_elem? s.views id ≡ some v) (knows : 0 < length v.found) (mine : 0 < times 0 v.roles) (is_worker : w < z.workers) (past : z.buffers ≤ cell) (going : mark_at v.ends w ≡ false) where
  finish_leads : Leads z.buffers z.workers (machine.Finish w) (shown z s) (shown z record { words = set s.words cell n; homes = s.homes; views = set s.views id (closed_by w v) })
  finish_leads = let u : SeatView = closed_by w v in let views2 : List SeatView = set s.views id u in let st = stands z s p id v at knows in
      let most2 : total (in_roles 0) views2 ≤ 1 = let t = total_set (in_roles 0) s.views id v u at in let o = role_most z s p 0 in omega arith in
      let was : (x : ℕ) → (shown z s).end_put x ≡ mark_at v.ends x = λ x. role_at 0 (λ (y : SeatView). mark_at y.ends x) false s.views id v at mine (role_most z s p 0) in
      let now : (x : ℕ) → of_role 0 (λ (y : SeatView). mark_at y.ends x) false views2 ≡ mark_at (set v.ends w true) x = λ x. role_at 0 (λ (y : SeatView). mark_at y.ends x) false views2 id u (set_at s.views id v u at) mine most2 in
      let puts : (x : ℕ) → of_role 0 (λ (y : SeatView). mark_at y.ends x) false views2 ≡ with_value w true (shown z s).end_put x = λ x. now x ∙ by_number x w (λ b. mark_at (set v.ends w true) x ≡ (if b then true else (shown z s).end_put x))
      (λ e. ap (mark_at (set v.ends w true)) e ∙ get_or-set_same v.ends w true false (let l = p.lists.2 in let g = ap (λ (l : List Bool). length l) (st.ingest mine).1 in omega arith))
      (λ ne. get_or-set_other v.ends w x true false ne ∙ sym (was x)) in
      let claims : (j : ℕ) → total (λ (y : SeatView). times j y.claimed) views2 ≡ total (λ (y : SeatView). times j y.claimed) s.views = λ j. let m = total_set (λ (y : SeatView). times j y.claimed) s.views id v u at in omega arith in
      let same_sent : (x : ℕ) → of_role 0 (λ (y : SeatView). log_of y.sent x) [] views2 ≡ (shown z s).sent x = λ x. role_same 0 (λ (y : SeatView). log_of y.sent x) [] v u refl s.views id at refl in
      let same_got : (x : ℕ) → of_role (x + 1) (λ (y : SeatView). log_of y.received x) [] views2 ≡ (shown z s).received x = λ x. role_same (x + 1) (λ (y : SeatView). log_of y.received x) [] v u refl s.views id at refl in (
        (is_worker, was w ∙ going),
        λ k. record {
          stands = λ q j. stood q j k;
          sent = λ x. same_sent x k;
          received = λ x. same_got x k;
          end_put = λ x. puts x k;
          end_taken = λ x. role_same (x + 1) (λ (y : SeatView). mark_at y.ended x) false v u refl s.views id at refl k;
          claimed = λ j. nat_lt 0 (claims j k);
        },
      ) where
        stood : (q : machine.Place) (j : ℕ) → (shown z record { words = set s.words cell n; homes = s.homes; views = set s.views id (closed_by w v) }).stands q j ≡ (shown z s).stands q j
        stood machine.Pool j = pool_same s.words cell n z.buffers j past
        stood machine.Ingest j = ap (λ l. nat_lt 0 (times j l)) (role_same 0 (λ (y : SeatView). y.held) [] v (closed_by w v) refl s.views id at refl)
        stood (machine.Ring x) j = λ k. nat_lt 0 (times j (slots_of (machine.rest_of (role_same 0 (λ (y : SeatView). log_of y.sent x) [] v (closed_by w v) refl s.views id at refl k) (role_same (x + 1) (λ (y : SeatView). log_of y.received x) [] v (closed_by w v) refl s.views id at refl k))))
        stood (machine.Worker x) j = ap (λ l. nat_lt 0 (times j l)) (role_same (x + 1) (λ (y : SeatView). y.held) [] v (closed_by w v) refl s.views id at refl)

pub finish_event : FinishIsEvent
finish_event z s id w cell n v c a p at knows mine is_worker past going = finish_leads z s id w cell n v p at knows mine is_worker past going

-- SEND

module _ (z : LaneKey) (s : State Stored SeatView) (id w i k cell n : ℕ) (v : SeatView) (p : Lanes z s) (at : get_elem? s.views id ≡ some v) (knows : 0 < length v.found) (mine : 0 < times 0 v.roles) (alone : (r : ℕ) → r ≢ 0 → times r v.roles ≡ 0) (is_worker : w < z.workers)
    (below : i < z.buffers) (past : z.buffers ≤ cell) (has : 0 < times i v.held) (going : mark_at v.ends w ≡ false) (above : (y : ℕ) → Below k (log_of v.sent y)) where
  abbrev us : SeatView
  us = sent_by w i k v

  abbrev views_s : List SeatView
  views_s = set s.views id us

  most_s : total (in_roles 0) views_s ≤ 1
  most_s = let t = total_set (in_roles 0) s.views id v us at in let o = role_most z s p 0 in omega arith

  held_was_s : held_by s.views 0 ≡ v.held
  held_was_s = held_is z s p 0 id v at mine

  held_s : held_by views_s 0 ≡ without i v.held
  held_s = role_at 0 (λ (y : SeatView). y.held) [] views_s id us (set_at s.views id v us at) mine most_s

  here_s : (shown z s).stands machine.Ingest i ≡ true
  here_s = some_is (times i (held_by s.views 0)) (subst (λ (l : List ℕ). 0 < times i l) (sym held_was_s) has)

  abbrev ts : LaneState
  ts = shown z record { words = set s.words cell n; homes = s.homes; views = views_s }

  sent_was : (x : ℕ) → (shown z s).sent x ≡ log_of v.sent x
  sent_was x = role_at 0 (λ (y : SeatView). log_of y.sent x) [] s.views id v at mine (role_most z s p 0)

  sent_now : (x : ℕ) → ts.sent x ≡ log_of (set v.sent w (log_of v.sent w ++ (i, k) ∷ [])) x
  sent_now x = role_at 0 (λ (y : SeatView). log_of y.sent x) [] views_s id us (set_at s.views id v us at) mine most_s

  sent_here : ts.sent w ≡ (shown z s).sent w ++ (i, k) ∷ []
  sent_here = sent_now w ∙ get_or-set_same v.sent w (log_of v.sent w ++ (i, k) ∷ []) [] (let l = p.lists.0 in let st = stands z s p id v at knows in let g = ap (λ (l : List (List Pair)). length l) (st.ingest mine).0 in omega arith)
      ∙ ap (λ (l : List Pair). l ++ (i, k) ∷ []) (sym (sent_was w))

  sent_else : (x : ℕ) → x ≢ w → ts.sent x ≡ (shown z s).sent x
  sent_else x ne = sent_now x ∙ get_or-set_other v.sent w x (log_of v.sent w ++ (i, k) ∷ []) [] ne ∙ sym (sent_was x)

  got_same : (x : ℕ) → ts.received x ≡ (shown z s).received x
  got_same x = role_same (x + 1) (λ (y : SeatView). log_of y.received x) [] v us refl s.views id at refl

  stays_s : (q : machine.Place) → q ≢ machine.Ingest → same_place q (machine.Ring w) ≡ false → (j : ℕ) → moved i (machine.Ring w) (shown z s).stands q j ≡ (shown z s).stands q j
  stays_s q ne no_ j = place_stays z.buffers z.workers (shown z s) (lawful z s p) i machine.Ingest (machine.Ring w) q here_s ne no_ j

  rest_s : machine.rest_of (ts.sent w) (ts.received w) ≡ machine.rest_of ((shown z s).sent w) ((shown z s).received w) ++ (i, k) ∷ []
  rest_s = (λ m. machine.rest_of (sent_here m) (got_same w m)) ∙ drop_left (length ((shown z s).received w)) ((shown z s).sent w) ((i, k) ∷ [])
      (let e = ap (λ (l : List Pair). length l) ((lawful z s p).each_ring w is_worker).prefix in let l = length-append ((shown z s).received w) (machine.rest_of ((shown z s).sent w) ((shown z s).received w)) in omega arith)

  abbrev slots_was : List ℕ
  slots_was = slots_of (machine.rest_of ((shown z s).sent w) ((shown z s).received w))

  slots_now : slots_of (machine.rest_of (ts.sent w) (ts.received w)) ≡ slots_was ++ i ∷ []
  slots_now = ap slots_of rest_s ∙ slots_last (machine.rest_of ((shown z s).sent w) ((shown z s).received w)) (i, k)

  stands_s : (q : machine.Place) (j : ℕ) → ts.stands q j ≡ moved i (machine.Ring w) (shown z s).stands q j
  stands_s machine.Pool j = pool_same s.words cell n z.buffers j past ∙ sym (stays_s machine.Pool (λ e. cc) refl j)
  stands_s machine.Ingest j = ap (λ l. nat_lt 0 (times j l)) held_s ∙ by_number j i (λ b. nat_lt 0 (times j (without i v.held)) ≡ (if b then false else (shown z s).stands machine.Ingest j))
      (λ e. none_is (times j (without i v.held)) (ap (λ m. times m (without i v.held)) e ∙ (let a = times_without i v.held has in let o = word_taken z s p id i v at below has in let o2 = o.2 in omega arith)))
      (λ ne. ap (nat_lt 0) (times_without_else i j v.held ne ∙ ap (times j) (sym held_was_s)))
  stands_s (machine.Ring x) j = dite (ℕ_discrete x w)
      (λ same. subst (λ (y : ℕ). ts.stands (machine.Ring y) j ≡ moved i (machine.Ring w) (shown z s).stands (machine.Ring y) j) (sym same)
      (ap (λ l. nat_lt 0 (times j l)) slots_now ∙ by_number j i (λ b. nat_lt 0 (times j (slots_was ++ i ∷ [])) ≡ (if b then nat_eq w w else (shown z s).stands (machine.Ring w) j))
      (λ e. some_is (times j (slots_was ++ i ∷ [])) (subst (λ m. 0 < times m (slots_was ++ i ∷ [])) (sym e) (let l = times_last i slots_was in omega arith)) ∙ sym (eq-eqb w w refl))
      (λ ne. ap (nat_lt 0) (times_last_else i j slots_was ne))))
      (λ ne. (λ m. nat_lt 0 (times j (slots_of (machine.rest_of (sent_else x ne m) (got_same x m))))) ∙ sym (stays_s (machine.Ring x) (λ e. cc) (ne_eqb x w ne) j))
  stands_s (machine.Worker x) j = ap (λ l. nat_lt 0 (times j l)) (role_else (x + 1) (λ (y : SeatView). y.held) [] v us refl s.views id at (alone (x + 1) (λ e. absurd (omega arith)))) ∙ sym (stays_s (machine.Worker x) (λ e. cc) refl j)

  send_leads : Leads z.buffers z.workers (machine.Send w i k) (shown z s) ts
  send_leads = (
    (is_worker, here_s, role_at 0 (λ (y : SeatView). mark_at y.ends w) false s.views id v at mine (role_most z s p 0) ∙ going, λ x lt. subst (AreBelow k) (sym (sent_was x)) (below_all k (log_of v.sent x) (above x))),
    λ m. record {
      stands = λ q j. stands_s q j m;
      sent = λ x. sends x m;
      received = λ x. got_same x m;
      end_put = λ x. role_same 0 (λ (y : SeatView). mark_at y.ends x) false v us refl s.views id at refl m;
      end_taken = λ x. role_same (x + 1) (λ (y : SeatView). mark_at y.ended x) false v us refl s.views id at refl m;
      claimed = λ j. nat_lt 0 (claims j m);
    },
  ) where
    claims : (j : ℕ) → total (λ (y : SeatView). times j y.claimed) views_s ≡ total (λ (y : SeatView). times j y.claimed) s.views
    claims j = let m = total_set (λ (y : SeatView). times j y.claimed) s.views id v us at in omega arith

    sends : (x : ℕ) → ts.sent x ≡ with_value w ((shown z s).sent w ++ (i, k) ∷ []) (shown z s).sent x
    sends x = by_number x w (λ b. ts.sent x ≡ (if b then (shown z s).sent w ++ (i, k) ∷ [] else (shown z s).sent x)) (λ e. ap (λ y. ts.sent y) e ∙ sent_here) (λ ne. sent_else x ne)

pub send_event : SendIsEvent
send_event z s id w i k cell n v c a p at knows mine alone is_worker below past has going above = send_leads z s id w i k cell n v p at knows mine alone is_worker below past has going above
