-- A take of the next pair is an event of the lane.
use Rattle.std.proofs.Common.{◌≡◌, ◌≢◌, ◌⊎◌, ℕ, zero, suc, ◌+◌, ◌%◌, ◌<◌, ◌≤◌, Bool, true, false, nat_eq, nat_lt, List, [], ◌∷◌, ◌++◌, drop, length, get_or, set, sym, refl, ap, ◌∙◌, subst, ⊎_elim, inl, inr, arith, eq-eqb, ne_eqb, length-append, get_or-set_same, Some}
use Rattle.std.specs.Prelude.{if◌then◌else◌, slice_get}
use mathlib.Core.Option.{some, some-injective, some-ne-none}
use mathlib.Core.Logic.{dite}
use native.Mathlib.Decide.{ℕ_discrete, dec_le}
use lib.ListN.{get_elem?}
use Rattle.atomic_table.specs.Table.{State}
use Rattle.atomic_table.proofs.Lists.{drop_at}
use Rattle.lane_spec.specs.Counts.{one_if, total, times}
use Rattle.lane_spec.specs.Pairs.{Pair, slots_of}
use Rattle.lane_spec.specs.LaneMachine as machine
use Rattle.lane_spec.specs.LaneMachine.{moved, with_value, Leads, same_place, LaneState}
use Rattle.lane_core.proofs.Counting.{by_number}
use Rattle.lane_core.proofs.Lawful.{place_stays, next_in_ring}
use Rattle.lane_table.specs.declared.view.Stored.{Stored}
use Rattle.lane_table.specs.declared.view.LaneKey.{LaneKey}
use Rattle.lane_table.specs.declared.view.SeatView.{SeatView}
use Rattle.lane_table.specs.Cells.{END, entry_word}
use Rattle.lane_table.specs.Rule.{Lanes, Stands, base_of, mark_at, in_roles}
use Rattle.lane_table.specs.Steps.{received_by}
use Rattle.lane_table.specs.Shown.{held_by, shown, ReceiveIsEvent}
use Rattle.lane_table.proofs.Send.{stands}
use Rattle.lane_core.proofs.Counting.{times_here}
use Rattle.lane_core.proofs.Views.{total_set, times_next, times_last, times_last_else}
use Rattle.lane_table.proofs.Receive as got_next
use Rattle.lane_table.proofs.Events.{role_same, role_else, set_at}
use Rattle.lane_table.proofs.RingEvents.{pool_same, number_of}
use Rattle.lane_core.specs.Seats.{log_of}
use Rattle.lane_table.proofs.ShowsLawful.{lawful, role_most, role_at, held_is, some_is, none_is}

flag : (b : Bool) → (b ≡ true) ⊎ (b ≡ false)
flag true = inl refl
flag false = inr refl

to_slice : (l : List Pair) (t : ℕ) (q : Pair) → get_elem? l t ≡ some q → slice_get l t ≡ Some q
to_slice [] t q e = absurd (some-ne-none q (sym e))
to_slice (x ∷ xs) zero q e = ap Some (some-injective x q e)
to_slice (x ∷ xs) (suc t) q e = to_slice xs t q e

one_most : (b : Bool) → one_if b ≤ 1
one_most true = omega arith
one_most false = omega arith

module _ (z : LaneKey) (s : State Stored SeatView) (id w i k : ℕ) (v : SeatView) (p : Lanes z s) (at : get_elem? s.views id ≡ some v) (knows : 0 < length v.found) (is_worker : w < z.workers) (mine : 0 < times (w + 1) v.roles) (alone : (r : ℕ) → r ≢ w + 1 → times r v.roles ≡ 0)
    (one_role : length v.roles ≡ 1) (free_hand : v.out ≡ []) (small : z.buffers ≤ 1024) (going : mark_at v.ended w ≡ false) (low : i < 1024) (word : get_or s.words (base_of z.buffers w + length (log_of v.received w) % (z.buffers + 1)) 0 ≡ entry_word (i, k)) where
  abbrev u : SeatView
  u = received_by w (i, k) v

  abbrev cell : ℕ
  cell = base_of z.buffers w + length (log_of v.received w) % (z.buffers + 1)

  abbrev views' : List SeatView
  views' = set s.views id u

  st : Stands z s.homes p.sent p.received p.ends p.ended v
  st = stands z s p id v at knows

  -- the word says that the pair is next
  next_is : get_elem? (log_of p.sent w) (length (log_of p.received w)) ≡ some (i, k)
  next_is = elim (dec_le (length (log_of p.sent w)) (length (log_of p.received w))) [
    | yes le ↦ absurd (let b = got_next.begun z s p id w v at knows is_worker mine one_role free_hand going small in let all : length (log_of p.received w) ≡ length (log_of p.sent w) = omega arith in ⊎_elim
        (λ ends. let f = got_next.last_found z s p id w v at knows is_worker mine one_role free_hand going small all ends in let e : END ≡ entry_word (i, k) = sym f ∙ word in let l = low in omega arith)
        (λ quiet. let f = got_next.zero_found z s p id w v at knows is_worker mine one_role free_hand going small all quiet in let e : 0 ≡ entry_word (i, k) = sym f ∙ word in omega arith)
        (flag (mark_at p.ends w)))
    | no not ↦ (let more : length (log_of p.received w) < length (log_of p.sent w) = omega arith in let n = got_next.nth z s p id w v at knows is_worker mine one_role free_hand going small more in
        let f = got_next.next_word z s p id w v at knows is_worker mine one_role free_hand going small more in let lt = got_next.below z s p id w v at knows is_worker mine one_role free_hand going small more in
        let e : entry_word n.0 ≡ entry_word (i, k) = sym f ∙ word in let l = low in let a : n.0.0 ≡ i = omega arith in let b : n.0.1 ≡ k = omega arith in n.1 ∙ (λ j. some (a j, b j)))
  ]

  most : total (in_roles (w + 1)) views' ≤ 1
  most = let t = total_set (in_roles (w + 1)) s.views id v u at in let o = role_most z s p (w + 1) in omega arith

  held_was : held_by s.views (w + 1) ≡ v.held
  held_was = held_is z s p (w + 1) id v at mine

  held' : held_by views' (w + 1) ≡ held_by s.views (w + 1) ++ i ∷ []
  held' = role_at (w + 1) (λ (y : SeatView). y.held) [] views' id u (set_at s.views id v u at) mine most ∙ ap (λ (l : List ℕ). l ++ i ∷ []) (sym held_was)

  abbrev t : LaneState
  t = shown z record { words = set s.words cell 0; homes = s.homes; views = views' }

  got_was : (shown z s).received w ≡ log_of v.received w
  got_was = role_at (w + 1) (λ (y : SeatView). log_of y.received w) [] s.views id v at mine (role_most z s p (w + 1))

  got_here : t.received w ≡ (shown z s).received w ++ (i, k) ∷ []
  got_here = role_at (w + 1) (λ (y : SeatView). log_of y.received w) [] views' id u (set_at s.views id v u at) mine most
      ∙ get_or-set_same v.received w (log_of v.received w ++ (i, k) ∷ []) [] (let l = st.long.0 in omega arith) ∙ ap (λ (l : List Pair). l ++ (i, k) ∷ []) (sym got_was)

  got_else : (x : ℕ) → x ≢ w → t.received x ≡ (shown z s).received x
  got_else x ne = role_else (x + 1) (λ (y : SeatView). log_of y.received x) [] v u refl s.views id at (alone (x + 1) (λ e. ne (omega arith)))

  sent_same : (x : ℕ) → t.sent x ≡ (shown z s).sent x
  sent_same x = role_same 0 (λ (y : SeatView). log_of y.sent x) [] v u refl s.views id at refl

  abbrev S : List Pair
  S = (shown z s).sent w

  abbrev R : List Pair
  R = (shown z s).received w

  -- what the table shows as sent is what the rule has
  sent_is : S ≡ log_of p.sent w
  sent_is = Rattle.lane_table.proofs.ShowsLawful.sent_is z s p w

  next_shown : get_elem? S (length R) ≡ some (i, k)
  next_shown = (λ j. get_elem? (sent_is j) (length ((got_was ∙ (st.worker w mine).0) j))) ∙ next_is

  may : slice_get S (length R) ≡ Some (i, k)
  may = to_slice S (length R) (i, k) next_shown

  here : (shown z s).stands (machine.Ring w) i ≡ true
  here = next_in_ring ((shown z s).stands (machine.Ring w)) S R ((shown z s).end_put w) ((shown z s).end_taken w) ((lawful z s p).each_ring w is_worker) i k may

  stays_at : (q : machine.Place) → q ≢ machine.Ring w → same_place q (machine.Worker w) ≡ false → (j : ℕ) → moved i (machine.Worker w) (shown z s).stands q j ≡ (shown z s).stands q j
  stays_at q ne no_ j = place_stays z.buffers z.workers (shown z s) (lawful z s p) i (machine.Ring w) (machine.Worker w) q here ne no_ j

  abbrev later : List ℕ
  later = slots_of (drop (suc (length R)) S)

  rest_was : slots_of (machine.rest_of S R) ≡ i ∷ later
  rest_was = ap slots_of (drop_at S (length R) (i, k) next_shown)

  rest_now : slots_of (machine.rest_of (t.sent w) (t.received w)) ≡ later
  rest_now = (λ j. slots_of (machine.rest_of (sent_same w j) (got_here j))) ∙ ap (λ n. slots_of (drop n S)) (length-append R ((i, k) ∷ []) ∙ (let e : length R + 1 ≡ suc (length R) = omega arith in e))

  gone : times i later ≡ 0
  gone = let b = ((lawful z s p).each_ring w is_worker).buffers i in let o = one_most ((shown z s).stands (machine.Ring w) i) in let e = ap (times i) rest_was in let h = times_here i later in omega arith

  stands_same : (q : machine.Place) (j : ℕ) → t.stands q j ≡ moved i (machine.Worker w) (shown z s).stands q j
  stands_same machine.Pool j = pool_same s.words cell 0 z.buffers j (omega arith) ∙ sym (stays_at machine.Pool (λ e. cc) refl j)
  stands_same machine.Ingest j = ap (λ l. nat_lt 0 (times j l)) (role_else 0 (λ (y : SeatView). y.held) [] v u refl s.views id at (alone 0 (λ e. absurd (omega arith)))) ∙ sym (stays_at machine.Ingest (λ e. cc) refl j)
  stands_same (machine.Ring x) j = dite (ℕ_discrete x w)
      (λ same. subst (λ (y : ℕ). t.stands (machine.Ring y) j ≡ moved i (machine.Worker w) (shown z s).stands (machine.Ring y) j) (sym same)
      (ap (λ l. nat_lt 0 (times j l)) rest_now ∙ by_number j i (λ b. nat_lt 0 (times j later) ≡ (if b then false else (shown z s).stands (machine.Ring w) j))
      (λ e. none_is (times j later) (ap (λ m. times m later) e ∙ gone))
      (λ ne. ap (nat_lt 0) (sym (times_next i j later ne) ∙ ap (times j) (sym rest_was)))))
      (λ ne. (λ m. nat_lt 0 (times j (slots_of (machine.rest_of (sent_same x m) (got_else x ne m))))) ∙ sym (stays_at (machine.Ring x) (λ e. ne (ap number_of e)) refl j))
  stands_same (machine.Worker x) j = dite (ℕ_discrete x w)
      (λ same. subst (λ (y : ℕ). t.stands (machine.Worker y) j ≡ moved i (machine.Worker w) (shown z s).stands (machine.Worker y) j) (sym same)
      (ap (λ l. nat_lt 0 (times j l)) held' ∙ by_number j i (λ b. nat_lt 0 (times j (held_by s.views (w + 1) ++ i ∷ [])) ≡ (if b then nat_eq w w else (shown z s).stands (machine.Worker w) j))
      (λ e. some_is (times j (held_by s.views (w + 1) ++ i ∷ [])) (subst (λ m. 0 < times m (held_by s.views (w + 1) ++ i ∷ [])) (sym e) (let l = times_last i (held_by s.views (w + 1)) in omega arith)) ∙ sym (eq-eqb w w refl))
      (λ ne. ap (nat_lt 0) (times_last_else i j (held_by s.views (w + 1)) ne))))
      (λ ne. ap (λ l. nat_lt 0 (times j l)) (role_else (x + 1) (λ (y : SeatView). y.held) [] v u refl s.views id at (alone (x + 1) (λ e. ne (omega arith)))) ∙ sym (stays_at (machine.Worker x) (λ e. cc) (ne_eqb x w ne) j))

  receive_leads : Leads z.buffers z.workers (machine.Receive w i k) (shown z s) t
  receive_leads = (
    (is_worker, may),
    λ m. record {
      stands = λ q j. stands_same q j m;
      sent = λ x. sent_same x m;
      received = λ x. gets x m;
      end_put = λ x. role_same 0 (λ (y : SeatView). mark_at y.ends x) false v u refl s.views id at refl m;
      end_taken = λ x. role_same (x + 1) (λ (y : SeatView). mark_at y.ended x) false v u refl s.views id at refl m;
      claimed = λ j. nat_lt 0 (claims j m);
    },
  ) where
    claims : (j : ℕ) → total (λ (y : SeatView). times j y.claimed) views' ≡ total (λ (y : SeatView). times j y.claimed) s.views
    claims j = let m = total_set (λ (y : SeatView). times j y.claimed) s.views id v u at in omega arith

    gets : (x : ℕ) → t.received x ≡ with_value w (R ++ (i, k) ∷ []) (shown z s).received x
    gets x = by_number x w (λ b. t.received x ≡ (if b then R ++ (i, k) ∷ [] else (shown z s).received x)) (λ e. ap (λ y. t.received y) e ∙ got_here) (λ ne. got_else x ne)

pub receive_event : ReceiveIsEvent
receive_event z s id w i k v c a p at knows is_worker mine alone one_role free_hand small going low word = receive_leads z s id w i k v p at knows is_worker mine alone one_role free_hand small going low word
