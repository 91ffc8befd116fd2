-- A role that goes to a new seat, or comes back, changes nothing of the lane that is shown.
use Rattle.std.proofs.Common.{◌≡◌, ◌≢◌, ℕ, zero, suc, ◌+◌, ◌<◌, ◌≤◌, Bool, false, cond, nat_lt, List, [], ◌∷◌, ◌++◌, length, set, sym, refl, ap, ◌∙◌, arith}
use Rattle.std.specs.Prelude.{if◌then◌else◌}
use mathlib.Core.Option.{some, some-injective, some-ne-none}
use mathlib.Core.Logic.{dite}
use native.Mathlib.Decide.{ℕ_discrete, dec_le}
use lib.ListN.{get_elem?}
use Rattle.atomic_table.specs.Table.{State}
use Rattle.atomic_table.proofs.Lists.{set_else}
use Rattle.lane_spec.specs.Counts.{total, times}
use Rattle.lane_spec.specs.Pairs.{Pair, slots_of}
use Rattle.lane_spec.specs.LaneMachine as machine
use Rattle.lane_core.specs.Seats.{log_of}
use Rattle.lane_core.proofs.Counting.{times_append}
use Rattle.lane_core.proofs.Views.{total_set, total_last, total_two}
use Rattle.lane_table.specs.declared.view.Stored.{Stored}
use Rattle.lane_table.specs.declared.view.LaneKey.{LaneKey}
use Rattle.lane_table.specs.declared.view.SeatView.{SeatView}
use Rattle.lane_table.specs.Rule.{Lanes, Stands, spent, mark_at, in_roles}
use Rattle.lane_table.specs.Hands.{first_role, later_roles}
use Rattle.lane_table.specs.Joins.{works, joined}
use Rattle.lane_table.specs.Shown.{of_role, has_role, shown, SplitIsUnseen, JoinIsUnseen}
use Rattle.lane_table.proofs.Send.{stands}
use Rattle.lane_table.proofs.Joins.{at_number, works_not, works_so}
use Rattle.lane_table.proofs.Seats.{parts}
use Rattle.lane_table.proofs.Events.{set_at}
use Rattle.lane_table.proofs.ShowsLawful.{some_is, none_is, role_most, role_at, role_none, view_of}

-- SPLIT

module _ {A : Type 0} (r : ℕ) (f : SeatView → A) (d : A) where
  last_has : (views : List SeatView) (g : SeatView) → total (in_roles r) views ≡ 0 → 0 < times r g.roles → of_role r f d (views ++ g ∷ []) ≡ f g
  last_has [] g none_ has = ap (λ b. if b then f g else d) (some_is (times r g.roles) has)
  last_has (x ∷ xs) g none_ has = ap (λ b. if b then f x else of_role r f d (xs ++ g ∷ [])) (none_is (times r x.roles) (omega arith)) ∙ last_has xs g (omega arith) has

  last_none : (views : List SeatView) (g : SeatView) → times r g.roles ≡ 0 → of_role r f d (views ++ g ∷ []) ≡ of_role r f d views
  last_none [] g none_ = ap (λ b. if b then f g else d) (none_is (times r g.roles) none_)
  last_none (x ∷ xs) g none_ = ap (λ (o : A). if has_role r x then f x else o) (last_none xs g none_)

  split_role : (views : List SeatView) (id : ℕ) (v l g : SeatView) → get_elem? views id ≡ some v → times r g.roles + times r l.roles ≡ times r v.roles → f l ≡ f v → f g ≡ f v → total (in_roles r) views ≤ 1
      → of_role r f d (set views id l ++ g ∷ []) ≡ of_role r f d views
  split_role [] id v l g at sum fl fg most = absurd (some-ne-none v (sym at))
  split_role (x ∷ xs) (suc id) v l g at sum fl fg most = ap (λ (o : A). if has_role r x then f x else o) (split_role xs id v l g at sum fl fg (omega arith))
  split_role (x ∷ xs) zero v l g at sum fl fg most = let same = some-injective x v at in let e = ap (λ (y : SeatView). times r y.roles) same in dite (ℕ_discrete (times r v.roles) 0)
      (λ none_. ap (λ b. if b then f l else of_role r f d (xs ++ g ∷ [])) (none_is (times r l.roles) (omega arith)) ∙ last_none xs g (omega arith)
      ∙ sym (ap (λ b. if b then f x else of_role r f d xs) (none_is (times r x.roles) (omega arith))))
      (λ has. (dite (ℕ_discrete (times r l.roles) 0)
      (λ none_. ap (λ b. if b then f l else of_role r f d (xs ++ g ∷ [])) (none_is (times r l.roles) none_) ∙ last_has xs g (omega arith) (omega arith) ∙ fg)
      (λ some_. ap (λ b. if b then f l else of_role r f d (xs ++ g ∷ [])) (some_is (times r l.roles) (omega arith)) ∙ fl))
      ∙ ap f (sym same) ∙ sym (ap (λ b. if b then f x else of_role r f d xs) (some_is (times r x.roles) (omega arith))))

module _ (z : LaneKey) (s : State Stored SeatView) (id : ℕ) (v : SeatView) (p : Lanes z s) (at : get_elem? s.views id ≡ some v) (none_held : v.held ≡ []) (none_claimed : v.claimed ≡ []) where
  abbrev left : SeatView
  left = later_roles v

  abbrev given : SeatView
  given = first_role v

  abbrev split_views : List SeatView
  split_views = set s.views id left ++ given ∷ []

  role_stays : {A : Type 0} (r : ℕ) (f : SeatView → A) (d : A) → f left ≡ f v → f given ≡ f v → of_role r f d split_views ≡ of_role r f d s.views
  role_stays r f d fl fg = split_role r f d s.views id v left given at (parts r v.roles) fl fg (role_most z s p r)

  abbrev split : machine.LaneState
  split = shown z record { words = s.words; homes = s.homes; views = split_views }

  split_sent : (x : ℕ) → split.sent x ≡ (shown z s).sent x
  split_sent x = role_stays 0 (λ (y : SeatView). log_of y.sent x) [] refl refl

  split_got : (x : ℕ) → split.received x ≡ (shown z s).received x
  split_got x = role_stays (x + 1) (λ (y : SeatView). log_of y.received x) [] refl refl

  split_stands : (q : machine.Place) (j : ℕ) → split.stands q j ≡ (shown z s).stands q j
  split_stands machine.Pool j = refl
  split_stands machine.Ingest j = ap (λ l. nat_lt 0 (times j l)) (role_stays 0 (λ (y : SeatView). y.held) [] (sym none_held) (sym none_held))
  split_stands (machine.Ring x) j = λ k. nat_lt 0 (times j (slots_of (machine.rest_of (split_sent x k) (split_got x k))))
  split_stands (machine.Worker x) j = ap (λ l. nat_lt 0 (times j l)) (role_stays (x + 1) (λ (y : SeatView). y.held) [] (sym none_held) (sym none_held))

  split_claims : (j : ℕ) → total (λ (y : SeatView). times j y.claimed) split_views ≡ total (λ (y : SeatView). times j y.claimed) s.views
  split_claims j = let g : SeatView → ℕ = λ y. times j y.claimed in let a = total_set g s.views id v left at in let b = total_last g (set s.views id left) given in let e = ap (times j) none_claimed in omega arith

  split_same : split ≡ shown z s
  split_same = λ k. record {
    stands = λ q j. split_stands q j k;
    sent = λ x. split_sent x k;
    received = λ x. split_got x k;
    end_put = λ x. role_stays 0 (λ (y : SeatView). mark_at y.ends x) false refl refl k;
    end_taken = λ x. role_stays (x + 1) (λ (y : SeatView). mark_at y.ended x) false refl refl k;
    claimed = λ j. nat_lt 0 (split_claims j k);
  }

pub split_unseen : SplitIsUnseen
split_unseen z s id v p at none_held none_claimed = split_same z s id v p at none_held none_claimed

-- JOIN

module _ (z : LaneKey) (s : State Stored SeatView) (id other : ℕ) (v w : SeatView) (p : Lanes z s) (at : get_elem? s.views id ≡ some v) (two : other ≢ id) (at' : get_elem? s.views other ≡ some w) (knows : 0 < length v.found)
    (is_ingest : 0 < times 0 v.roles) (none_mine : v.held ≡ []) (none_theirs : w.held ≡ []) where
  abbrev both : SeatView
  both = joined v w

  abbrev one_set : List SeatView
  one_set = set s.views id both

  abbrev join_views : List SeatView
  join_views = set one_set other spent

  still : get_elem? one_set other ≡ some w
  still = set_else s.views id other both two ∙ at'

  sums : (r : ℕ) → total (in_roles r) join_views ≡ total (in_roles r) s.views
  sums r = let a = total_set (in_roles r) s.views id v both at in let b = total_set (in_roles r) one_set other w spent still in let e = times_append r w.roles v.roles in omega arith

  here : get_elem? join_views id ≡ some both
  here = set_else one_set other id spent (λ e. two (sym e)) ∙ set_at s.views id v both at

  role_joins : {A : Type 0} (r : ℕ) (f : SeatView → A) (d : A) → (0 < times r v.roles → f both ≡ f v) → (0 < times r w.roles → times r v.roles ≡ 0 → f both ≡ f w) → of_role r f d join_views ≡ of_role r f d s.views
  role_joins r f d fv fw = let most = role_most z s p r in let sum = sums r in let e = times_append r w.roles v.roles in dite (ℕ_discrete (total (in_roles r) s.views) 0)
      (λ none_. role_none r f d join_views (omega arith) ∙ sym (role_none r f d s.views none_))
      (λ some_. dite (ℕ_discrete (times r v.roles) 0)
      (λ not_v. dite (ℕ_discrete (times r w.roles) 0)
      (λ not_w. let x = view_of r s.views (omega arith) in let h = x.has in
      let not_id : x.id ≢ id = λ k. let is : x.view ≡ v = some-injective x.view v (sym x.at ∙ ap (get_elem? s.views) k ∙ at) in absurd (let q = ap (λ (y : SeatView). times r y.roles) is in omega arith) in
      let not_other : x.id ≢ other = λ k. let is : x.view ≡ w = some-injective x.view w (sym x.at ∙ ap (get_elem? s.views) k ∙ at') in absurd (let q = ap (λ (y : SeatView). times r y.roles) is in omega arith) in
      role_at r f d join_views x.id x.view (set_else one_set other x.id spent not_other ∙ set_else s.views id x.id both not_id ∙ x.at) x.has (omega arith) ∙ sym (role_at r f d s.views x.id x.view x.at x.has most))
      (λ has_w. role_at r f d join_views id both here (omega arith) (omega arith) ∙ fw (omega arith) not_v ∙ sym (role_at r f d s.views other w at' (omega arith) most)))
      (λ has_v. role_at r f d join_views id both here (omega arith) (omega arith) ∙ fv (omega arith) ∙ sym (role_at r f d s.views id v at (omega arith) most)))

  st : Stands z s.homes p.sent p.received p.ends p.ended v
  st = stands z s p id v at knows

  -- worker x's role is in one of the two
  inside : (x : ℕ) → 0 < times (x + 1) w.roles + times (x + 1) v.roles → x < z.workers
  inside x has = elim (dec_le z.workers x) [
    | yes le ↦ absurd (let o = p.no_more_roles (x + 1) (omega arith) in let a = total_two (in_roles (x + 1)) s.views other id w v two at' at in omega arith)
    | no not ↦ omega arith
  ]

  not_both : (x : ℕ) → 0 < times (x + 1) v.roles → times (x + 1) w.roles ≡ 0
  not_both x has = let o = role_most z s p (x + 1) in let a = total_two (in_roles (x + 1)) s.views other id w v two at' at in omega arith

  abbrev log_in : ℕ → List Pair
  log_in k = cond (works w k) (log_of w.received k) (log_of v.received k)

  abbrev mark_in : ℕ → Bool
  mark_in k = cond (works w k) (mark_at w.ended k) (mark_at v.ended k)

  log_there : (x : ℕ) → x < z.workers → log_of both.received x ≡ log_in x
  log_there x lt = at_number log_in [] 0 (length v.received) x (let l = st.long.0 in omega arith) ∙ ap log_in (let e : 0 + x ≡ x = omega arith in e)

  mark_there : (x : ℕ) → x < z.workers → mark_at both.ended x ≡ mark_in x
  mark_there x lt = at_number mark_in false 0 (length v.ended) x (let l = st.long.1 in omega arith) ∙ ap mark_in (let e : 0 + x ≡ x = omega arith in e)

  abbrev join : machine.LaneState
  join = shown z record { words = s.words; homes = s.homes; views = join_views }

  ingest_stays : {A : Type 0} (f : SeatView → A) (d : A) → f both ≡ f v → of_role 0 f d join_views ≡ of_role 0 f d s.views
  ingest_stays f d same = role_joins 0 f d (λ _. same) (λ _ none_. absurd (omega arith))

  join_sent : (x : ℕ) → join.sent x ≡ (shown z s).sent x
  join_sent x = ingest_stays (λ (y : SeatView). log_of y.sent x) [] refl

  join_got : (x : ℕ) → join.received x ≡ (shown z s).received x
  join_got x = role_joins (x + 1) (λ (y : SeatView). log_of y.received x) []
      (λ has. log_there x (inside x (omega arith)) ∙ ap (λ b. cond b (log_of w.received x) (log_of v.received x)) (works_not w x (not_both x has)))
      (λ has none_. log_there x (inside x (omega arith)) ∙ ap (λ b. cond b (log_of w.received x) (log_of v.received x)) (works_so w x has))

  join_taken : (x : ℕ) → join.end_taken x ≡ (shown z s).end_taken x
  join_taken x = role_joins (x + 1) (λ (y : SeatView). mark_at y.ended x) false
      (λ has. mark_there x (inside x (omega arith)) ∙ ap (λ b. cond b (mark_at w.ended x) (mark_at v.ended x)) (works_not w x (not_both x has)))
      (λ has none_. mark_there x (inside x (omega arith)) ∙ ap (λ b. cond b (mark_at w.ended x) (mark_at v.ended x)) (works_so w x has))

  held_none : w.held ++ v.held ≡ []
  held_none = λ k. none_theirs k ++ none_mine k

  join_held : (r : ℕ) → of_role r (λ (y : SeatView). y.held) [] join_views ≡ of_role r (λ (y : SeatView). y.held) [] s.views
  join_held r = role_joins r (λ (y : SeatView). y.held) [] (λ _. held_none ∙ sym none_mine) (λ _ _. held_none ∙ sym none_theirs)

  join_stands : (q : machine.Place) (j : ℕ) → join.stands q j ≡ (shown z s).stands q j
  join_stands machine.Pool j = refl
  join_stands machine.Ingest j = ap (λ l. nat_lt 0 (times j l)) (join_held 0)
  join_stands (machine.Ring x) j = λ k. nat_lt 0 (times j (slots_of (machine.rest_of (join_sent x k) (join_got x k))))
  join_stands (machine.Worker x) j = ap (λ l. nat_lt 0 (times j l)) (join_held (x + 1))

  join_claims : (j : ℕ) → total (λ (y : SeatView). times j y.claimed) join_views ≡ total (λ (y : SeatView). times j y.claimed) s.views
  join_claims j = let g : SeatView → ℕ = λ y. times j y.claimed in let a = total_set g s.views id v both at in let b = total_set g one_set other w spent still in let e = times_append j w.claimed v.claimed in omega arith

  join_same : join ≡ shown z s
  join_same = λ k. record {
    stands = λ q j. join_stands q j k;
    sent = λ x. join_sent x k;
    received = λ x. join_got x k;
    end_put = λ x. ingest_stays (λ (y : SeatView). mark_at y.ends x) false refl k;
    end_taken = λ x. join_taken x k;
    claimed = λ j. nat_lt 0 (join_claims j k);
  }

pub join_unseen : JoinIsUnseen
join_unseen z s id other v w p at two at' knows is_ingest none_mine none_theirs = join_same z s id other v w p at two at' knows is_ingest none_mine none_theirs
