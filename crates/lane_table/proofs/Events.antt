-- Steps as events of the lane.
use Rattle.std.proofs.Common.{◌≡◌, ℕ, zero, suc, ◌+◌, ◌<◌, ◌≤◌, true, false, ◌&&◌, nat_eq, nat_lt, List, [], ◌∷◌, ◌++◌, get_or, set, sym, refl, ap, ◌∙◌, subst, arith, lt-ltb, eq-eqb, get_or-set_same, get_or-set_other}
use Rattle.std.specs.Prelude.{if◌then◌else◌}
use mathlib.Core.Option.{some, some-injective, some-ne-none}
use lib.ListN.{get_elem?}
use Rattle.atomic_table.specs.Table.{State, Act, stepped}
use Rattle.lane_spec.specs.Counts.{total, times}
use Rattle.lane_spec.specs.LaneMachine as machine
use Rattle.lane_spec.specs.LaneMachine.{moved, with_value, after, Leads}
use Rattle.lane_core.proofs.Counting.{by_number}
use Rattle.lane_core.proofs.Lawful.{place_stays}
use Rattle.lane_table.specs.declared.view.Stored.{Stored}
use Rattle.lane_table.specs.declared.view.LaneKey.{LaneKey}
use Rattle.lane_table.specs.declared.view.SeatView.{SeatView}
use Rattle.lane_core.specs.Seats.{log_of}
use Rattle.lane_table.specs.Rule.{Lanes, in_roles}
use Rattle.lane_table.specs.Steps.{claimed_by}
use Rattle.lane_table.specs.Shown.{of_role, has_role, held_by, shown}
use Rattle.lane_core.proofs.Counting.{times_append, times_here}
use Rattle.lane_core.proofs.Views.{total_set, times_next, times_last, times_last_else}
use Rattle.lane_table.proofs.ShowsLawful.{lawful, role_most, role_at, held_is, some_is, none_is, and_both}

-- where the view of one seat changes and its roles stay
module _ {A : Type 0} (r : ℕ) (f : SeatView → A) (d : A) (v u : SeatView) (roles : u.roles ≡ v.roles) where
  pub role_same : (views : List SeatView) (id : ℕ) → get_elem? views id ≡ some v → f u ≡ f v → of_role r f d (set views id u) ≡ of_role r f d views
  role_same [] id at same = refl
  role_same (x ∷ xs) zero at same = let e = some-injective x v at in
      (λ j. if nat_lt 0 (times r (roles j)) then same j else of_role r f d xs) ∙ ap (λ (y : SeatView). if has_role r y then f y else of_role r f d xs) (sym e)
  role_same (x ∷ xs) (suc id) at same = ap (λ (o : A). if has_role r x then f x else o) (role_same xs id at same)

  -- another role's view stays
  pub role_else : (views : List SeatView) (id : ℕ) → get_elem? views id ≡ some v → times r v.roles ≡ 0 → of_role r f d (set views id u) ≡ of_role r f d views
  role_else [] id at none_ = refl
  role_else (x ∷ xs) zero at none_ = let e = some-injective x v at in
      ap (λ b. if b then f u else of_role r f d xs) (none_is (times r u.roles) (ap (times r) roles ∙ none_))
      ∙ sym (ap (λ b. if b then f x else of_role r f d xs) (none_is (times r x.roles) (ap (λ (y : SeatView). times r y.roles) e ∙ none_)))
  role_else (x ∷ xs) (suc id) at none_ = ap (λ (o : A). if has_role r x then f x else o) (role_else xs id at none_)

pub set_at : (views : List SeatView) (id : ℕ) (v u : SeatView) → get_elem? views id ≡ some v → get_elem? (set views id u) id ≡ some u
set_at [] id v u at = absurd (some-ne-none v (sym at))
set_at (x ∷ xs) zero v u at = refl
set_at (x ∷ xs) (suc id) v u at = set_at xs id v u at

module _ (z : LaneKey) (s : State Stored SeatView) (id i : ℕ) (v : SeatView) (p : Lanes z s) (at : get_elem? s.views id ≡ some v) (mine : 0 < times 0 v.roles) (alone : (w : ℕ) → times (w + 1) v.roles ≡ 0) (below : i < z.buffers) (free : get_or s.words i 0 ≡ 1) where
  abbrev u : SeatView
  u = claimed_by i v

  abbrev views' : List SeatView
  views' = set s.views id u

  roles_most : total (in_roles 0) views' ≤ 1
  roles_most = let t = total_set (in_roles 0) s.views id v u at in let o = role_most z s p 0 in omega arith

  held' : held_by views' 0 ≡ held_by s.views 0 ++ i ∷ []
  held' = role_at 0 (λ (y : SeatView). y.held) [] views' id u (set_at s.views id v u at) mine roles_most ∙ ap (λ l. l ++ i ∷ []) (sym (held_is z s p 0 id v at mine))

  here : (shown z s).stands machine.Pool i ≡ true
  here = and_both (nat_eq (get_or s.words i 0) 1) (nat_lt i z.buffers) (eq-eqb (get_or s.words i 0) 1 free) (lt-ltb i z.buffers below)

  abbrev t : machine.LaneState
  t = shown z record { words = set s.words i 0; homes = s.homes; views = views' }

  stands_same : (q : machine.Place) (j : ℕ) → t.stands q j ≡ moved i machine.Ingest (shown z s).stands q j
  stands_same machine.Pool j = by_number j i (λ b. (nat_eq (get_or (set s.words i 0) j 0) 1 && nat_lt j z.buffers) ≡ (if b then false else (shown z s).stands machine.Pool j))
      (λ e. ap (λ n. nat_eq n 1 && nat_lt j z.buffers) (ap (λ k. get_or (set s.words i 0) k 0) e ∙ get_or-set_same s.words i 0 0 (let l = p.words in omega arith)))
      (λ ne. ap (λ n. nat_eq n 1 && nat_lt j z.buffers) (get_or-set_other s.words i j 0 0 ne))
  stands_same machine.Ingest j = ap (λ l. nat_lt 0 (times j l)) held' ∙ by_number j i (λ b. nat_lt 0 (times j (held_by s.views 0 ++ i ∷ [])) ≡ (if b then true else (shown z s).stands machine.Ingest j))
      (λ e. some_is (times j (held_by s.views 0 ++ i ∷ [])) (subst (λ k. 0 < times k (held_by s.views 0 ++ i ∷ [])) (sym e) (let l = times_last i (held_by s.views 0) in omega arith)))
      (λ ne. ap (nat_lt 0) (times_last_else i j (held_by s.views 0) ne))
  stands_same (machine.Ring w) j = (λ k. nat_lt 0 (times j (Rattle.lane_spec.specs.Pairs.slots_of (machine.rest_of (sent_same w k) (received_same w k)))))
      ∙ sym (place_stays z.buffers z.workers (shown z s) (lawful z s p) i machine.Pool machine.Ingest (machine.Ring w) here (λ e. cc) refl j) where
        sent_same : (w : ℕ) → t.sent w ≡ (shown z s).sent w
        sent_same w = role_same 0 (λ (y : SeatView). log_of y.sent w) [] v u refl s.views id at refl

        received_same : (w : ℕ) → t.received w ≡ (shown z s).received w
        received_same w = role_same (w + 1) (λ (y : SeatView). log_of y.received w) [] v u refl s.views id at refl
  stands_same (machine.Worker w) j = ap (λ l. nat_lt 0 (times j l)) (role_else (w + 1) (λ (y : SeatView). y.held) [] v u refl s.views id at (alone w))
      ∙ sym (place_stays z.buffers z.workers (shown z s) (lawful z s p) i machine.Pool machine.Ingest (machine.Worker w) here (λ e. cc) refl j)

  claimed_same : (j : ℕ) → t.claimed j ≡ with_value i true (shown z s).claimed j
  claimed_same j = let m = total_set (λ (y : SeatView). times j y.claimed) s.views id v u at in let d = times_append j v.claimed (i ∷ []) in
      by_number j i (λ b. nat_lt 0 (total (λ (y : SeatView). times j y.claimed) views') ≡ (if b then true else (shown z s).claimed j))
      (λ e. some_is (total (λ (y : SeatView). times j y.claimed) views') (let h : times j (i ∷ []) ≡ 1 = subst (λ k. times k (i ∷ []) ≡ 1) (sym e) (times_here i []) in omega arith))
      (λ ne. ap (nat_lt 0) (let h = times_next i j [] ne in omega arith))

  claim_leads : Leads z.buffers z.workers (machine.Claim i) (shown z s) t
  claim_leads = (
    here,
    λ k. record {
      stands = λ q j. stands_same q j k;
      sent = λ w. role_same 0 (λ (y : SeatView). log_of y.sent w) [] v u refl s.views id at refl k;
      received = λ w. role_same (w + 1) (λ (y : SeatView). log_of y.received w) [] v u refl s.views id at refl k;
      end_put = λ w. role_same 0 (λ (y : SeatView). Rattle.lane_table.specs.Rule.mark_at y.ends w) false v u refl s.views id at refl k;
      end_taken = λ w. role_same (w + 1) (λ (y : SeatView). Rattle.lane_table.specs.Rule.mark_at y.ended w) false v u refl s.views id at refl k;
      claimed = λ j. claimed_same j k;
    },
  )

pub claim_event : (z : LaneKey) (s : State Stored SeatView) (id i : ℕ) (v : SeatView) (c : List (ℕ × Stored)) (a : Act Stored) → Lanes z s → get_elem? s.views id ≡ some v → 0 < times 0 v.roles → ((w : ℕ) → times (w + 1) v.roles ≡ 0) → i < z.buffers → get_or s.words i 0 ≡ 1
    → Leads z.buffers z.workers (machine.Claim i) (shown z s) (shown z (stepped s i 0 id c (claimed_by i v) a))
claim_event z s id i v c a p at mine alone below free = claim_leads z s id i v p at mine alone below free
