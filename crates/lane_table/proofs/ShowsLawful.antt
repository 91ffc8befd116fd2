-- A table that keeps the rule shows a lawful lane.
use Rattle.std.proofs.Common.{◌≡◌, ◌≢◌, ℕ, zero, suc, ◌+◌, ◌<◌, ◌≤◌, Bool, true, false, ◌&&◌, nat_eq, nat_lt, List, [], ◌∷◌, ◌++◌, drop, length, get_or, sym, refl, ap, ◌∙◌, subst, ⊎_elim, arith, lt-ltb, ltb-true, eq-eqb, eqb-true}
use Rattle.std.specs.Prelude.{if◌then◌else◌, slice_index}
use mathlib.Core.Option.{some, some-injective, some-ne-none}
use mathlib.Core.Logic.{dite}
use native.Mathlib.Decide.{ℕ_discrete, dec_le}
use lib.ListN.{get_elem?}
use Rattle.std.proofs.lemmas.List.{get_or_past}
use Rattle.std.proofs.lemmas.List.Elements.{All-nil, All-cons}
use Rattle.atomic_table.specs.Table.{State}
use Rattle.lane_spec.specs.Counts.{one_if, total, times}
use Rattle.lane_spec.specs.Pairs.{Pair, slots_of, numbers_of, AreRising, AreApart}
use Rattle.lane_spec.specs.LaneMachine as machine
use Rattle.lane_spec.specs.LaneMachine.{LaneState, IsLawful, IsRingLawful, HasOnePlace, IsPlaceOf}
use Rattle.lane_table.specs.declared.view.Stored.{Stored}
use Rattle.lane_table.specs.declared.view.LaneKey.{LaneKey}
use Rattle.lane_table.specs.declared.view.SeatView.{SeatView}
use Rattle.lane_table.specs.Rule as rule
use Rattle.lane_table.specs.Rule.{Lanes, Ring, Stands, spent, mark_at, in_rings, in_held, in_roles, Above, IsRising}
use Rattle.lane_table.specs.Shown.{of_role, shown_sent, shown_received, held_by, shown}
use Rattle.lane_core.proofs.Counting.{times_here}
use Rattle.lane_core.proofs.Views.{total_at, total_two, times_next}
use Rattle.lane_core.specs.Seats.{log_of}
use Rattle.lane_table.proofs.Rings.{ring_at, ring_two}

abbrev St : Type 0
St = State Stored SeatView

-- TESTS

pub some_is : (n : ℕ) → 0 < n → nat_lt 0 n ≡ true
some_is n lt = lt-ltb 0 n lt

pub none_is : (n : ℕ) → n ≡ 0 → nat_lt 0 n ≡ false
none_is n e = ap (nat_lt 0) e

one_at_most : (n : ℕ) → n ≤ 1 → n ≡ one_if (nat_lt 0 n)
one_at_most zero le = refl
one_at_most (suc zero) le = refl
one_at_most (suc (suc n)) le = absurd (omega arith)

and_left : (a b : Bool) → (a && b) ≡ true → a ≡ true
and_left true b e = refl
and_left false b e = absurd (cc)

and_right : (a b : Bool) → (a && b) ≡ true → b ≡ true
and_right true b e = e
and_right false b e = absurd (cc)

pub and_both : (a b : Bool) → a ≡ true → b ≡ true → (a && b) ≡ true
and_both true b e f = f
and_both false b e f = absurd (cc)

-- ROLES

module _ {A : Type 0} (r : ℕ) (f : SeatView → A) (d : A) where
  pub role_at : (views : List SeatView) (id : ℕ) (u : SeatView) → get_elem? views id ≡ some u → 0 < times r u.roles → total (in_roles r) views ≤ 1 → of_role r f d views ≡ f u
  role_at [] id u at has one = absurd (some-ne-none u (sym at))
  role_at (x ∷ xs) zero u at has one = let same = some-injective x u at in
      ap (λ b. if b then f x else of_role r f d xs) (some_is (times r x.roles) (subst (λ (y : SeatView). 0 < times r y.roles) (sym same) has)) ∙ ap f same
  role_at (x ∷ xs) (suc id) u at has one = let more = total_at (in_roles r) xs id u at in
      ap (λ b. if b then f x else of_role r f d xs) (none_is (times r x.roles) (omega arith)) ∙ role_at xs id u at has (omega arith)

  pub role_none : (views : List SeatView) → total (in_roles r) views ≡ 0 → of_role r f d views ≡ d
  role_none [] none = refl
  role_none (x ∷ xs) none = ap (λ b. if b then f x else of_role r f d xs) (none_is (times r x.roles) (omega arith)) ∙ role_none xs (omega arith)

pub record HasView (r : ℕ) (views : List SeatView) : Type 0 where
  pub id : ℕ
  pub view : SeatView
  pub at : get_elem? views id ≡ some view
  pub has : 0 < times r view.roles

pub view_of : (r : ℕ) (views : List SeatView) → 0 < total (in_roles r) views → HasView r views
view_of r [] some_ = absurd (omega arith)
view_of r (x ∷ xs) some_ = elim (dec_le 1 (times r x.roles)) [
  | yes le ↦ record { id = 0; view = x; at = refl; has = omega arith }
  | no not_le ↦ let v = view_of r xs (omega arith) in record { id = suc v.id; view = v.view; at = v.at; has = v.has }
]

record Holds (i : ℕ) (views : List SeatView) : Type 0 where
  id : ℕ
  view : SeatView
  at : get_elem? views id ≡ some view
  has : 0 < times i view.held

holder : (i : ℕ) (views : List SeatView) → 0 < total (in_held i) views → Holds i views
holder i [] some_ = absurd (omega arith)
holder i (x ∷ xs) some_ = elim (dec_le 1 (times i x.held)) [
  | yes le ↦ record { id = 0; view = x; at = refl; has = omega arith }
  | no not_le ↦ let v = holder i xs (omega arith) in record { id = suc v.id; view = v.view; at = v.at; has = v.has }
]

-- the one member of a list of one
record IsOnly (xs : List ℕ) : Type 0 where
  member : ℕ
  is : xs ≡ member ∷ []

only : (xs : List ℕ) → length xs ≡ 1 → IsOnly xs
only [] e = absurd (omega arith)
only (x ∷ []) e = record { member = x; is = refl }
only (x ∷ y ∷ xs) e = absurd (omega arith)

only_one : (xs : List ℕ) (a b : ℕ) → length xs ≡ 1 → 0 < times a xs → 0 < times b xs → a ≡ b
only_one xs a b one ha hb = let o = only xs one in dite (ℕ_discrete a b) (λ e. e) (λ ne. absurd (
    let ta : times a xs ≡ times a (o.member ∷ []) = ap (times a) o.is in let tb : times b xs ≡ times b (o.member ∷ []) = ap (times b) o.is in
    dite (ℕ_discrete a o.member)
    (λ e. let h = times_next o.member b [] (λ d. ne (e ∙ sym d)) in omega arith)
    (λ n. let h = times_next o.member a [] n in omega arith)))

-- LISTS OF PAIRS

rising_all : (a : ℕ) (ps : List Pair) → Above a ps → Rattle.std.specs.Prelude.All (λ (q : Pair). a < q.1) ps
rising_all a [] h = All-nil (λ (q : Pair). a < q.1)
rising_all a (p ∷ ps) h = All-cons (λ (q : Pair). a < q.1) p ps h.0 (rising_all a ps h.1)

rises : (ps : List Pair) → IsRising ps → AreRising ps
rises [] h = tt
rises (p ∷ ps) h = (rising_all p.1 ps h.0, rises ps h.1)

record IsThere (k : ℕ) (ps : List Pair) : Type 0 where
  place : ℕ
  pair : Pair
  at : get_elem? ps place ≡ some pair
  is : pair.1 ≡ k

there : (k : ℕ) (ps : List Pair) → 0 < times k (numbers_of ps) → IsThere k ps
there k [] has = absurd (omega arith)
there k (p ∷ ps) has = dite (ℕ_discrete k p.1)
    (λ e. record { place = 0; pair = p; at = refl; is = sym e })
    (λ ne. let t = times_next p.1 k (numbers_of ps) ne in let r = there k ps (omega arith) in record { place = suc r.place; pair = r.pair; at = r.at; is = r.is })

drop_front : (xs ys : List Pair) → drop (length xs) (xs ++ ys) ≡ ys
drop_front [] ys = refl
drop_front (x ∷ xs) ys = drop_front xs ys

in_which : (sent received : List (List Pair)) (i W : ℕ) → 0 < in_rings sent received i W → (w : ℕ) × (w < W) × (0 < times i (slots_of (rule.rest_at sent received w)))
in_which sent received i zero some_ = absurd (omega arith)
in_which sent received i (suc W) some_ = elim (dec_le 1 (times i (slots_of (rule.rest_at sent received W)))) [
  | yes le ↦ (W, omega arith, omega arith)
  | no not_le ↦ let r = in_which sent received i W (omega arith) in (r.0, (let lt = r.1 in omega arith), r.2)
]

module _ (z : LaneKey) (s : St) (p : Lanes z s) where
  knows : (id : ℕ) (v : SeatView) (r : ℕ) → get_elem? s.views id ≡ some v → 0 < times r v.roles → Stands z s.homes p.sent p.received p.ends p.ended v
  knows id v r at has = ⊎_elim (λ (e : v ≡ spent). absurd (let n : times r v.roles ≡ 0 = ap (λ (u : SeatView). times r u.roles) e in omega arith)) (λ t. t) (p.views id v at)

  knows_held : (id : ℕ) (v : SeatView) (i : ℕ) → get_elem? s.views id ≡ some v → 0 < times i v.held → Stands z s.homes p.sent p.received p.ends p.ended v
  knows_held id v i at has = ⊎_elim (λ (e : v ≡ spent). absurd (let n : times i v.held ≡ 0 = ap (λ (u : SeatView). times i u.held) e in omega arith)) (λ t. t) (p.views id v at)

  pub role_most : (r : ℕ) → total (in_roles r) s.views ≤ 1
  role_most r = elim (dec_le (z.workers + 1) r) [ yes le ↦ (let o = p.no_more_roles r le in omega arith) | no not_le ↦ (let o = p.roles r (omega arith) in omega arith) ]

  ingest_view : HasView 0 s.views
  ingest_view = view_of 0 s.views (let o = p.roles 0 (omega arith) in omega arith)

  pub sent_is : (w : ℕ) → shown_sent s.views w ≡ log_of p.sent w
  sent_is w = let v = ingest_view in role_at 0 (λ (u : SeatView). log_of u.sent w) [] s.views v.id v.view v.at v.has (role_most 0) ∙ ap (λ l. log_of l w) ((knows v.id v.view 0 v.at v.has).ingest v.has).0

  pub put_is : (w : ℕ) → (shown z s).end_put w ≡ mark_at p.ends w
  put_is w = let v = ingest_view in role_at 0 (λ (u : SeatView). mark_at u.ends w) false s.views v.id v.view v.at v.has (role_most 0) ∙ ap (λ l. mark_at l w) ((knows v.id v.view 0 v.at v.has).ingest v.has).1

  worker_view : (w : ℕ) → w < z.workers → HasView (w + 1) s.views
  worker_view w lt = view_of (w + 1) s.views (let o = p.roles (w + 1) (omega arith) in omega arith)

  pub received_is : (w : ℕ) → w < z.workers → shown_received s.views w ≡ log_of p.received w
  received_is w lt = let v = worker_view w lt in role_at (w + 1) (λ (u : SeatView). log_of u.received w) [] s.views v.id v.view v.at v.has (role_most (w + 1)) ∙ ((knows v.id v.view (w + 1) v.at v.has).worker w v.has).0

  pub taken_is : (w : ℕ) → w < z.workers → (shown z s).end_taken w ≡ mark_at p.ended w
  taken_is w lt = let v = worker_view w lt in role_at (w + 1) (λ (u : SeatView). mark_at u.ended w) false s.views v.id v.view v.at v.has (role_most (w + 1)) ∙ ((knows v.id v.view (w + 1) v.at v.has).worker w v.has).1

  rest_is : (w : ℕ) → w < z.workers → machine.rest_of (shown_sent s.views w) (shown_received s.views w) ≡ rule.rest_at p.sent p.received w
  rest_is w lt = λ j. machine.rest_of (sent_is w j) (received_is w lt j)

  -- what a role's view holds
  pub held_is : (r id : ℕ) (u : SeatView) → get_elem? s.views id ≡ some u → 0 < times r u.roles → held_by s.views r ≡ u.held
  held_is r id u at has = role_at r (λ (v : SeatView). v.held) [] s.views id u at has (role_most r)

  held_by_one : (r i : ℕ) → 0 < times i (held_by s.views r) → (v : HasView r s.views) × (0 < times i v.view.held)
  held_by_one r i has = dite (ℕ_discrete (total (in_roles r) s.views) 0)
      (λ none_. absurd (let e : times i (held_by s.views r) ≡ 0 = ap (times i) (role_none r (λ (v : SeatView). v.held) [] s.views none_) in omega arith))
      (λ some_. let v = view_of r s.views (omega arith) in (v, (let e = ap (times i) (held_is r v.id v.view v.at v.has) in omega arith)))

  held_in_all : (r i : ℕ) → times i (held_by s.views r) ≤ total (in_held i) s.views
  held_in_all r i = dite (ℕ_discrete (times i (held_by s.views r)) 0) (λ e. omega arith)
      (λ ne. let h = held_by_one r i (omega arith) in let t = total_at (in_held i) s.views h.0.id h.0.view h.0.at in let e = ap (times i) (held_is r h.0.id h.0.view h.0.at h.0.has) in omega arith)

  ring_in_all : (w i : ℕ) → w < z.workers → times i (slots_of (machine.rest_of (shown_sent s.views w) (shown_received s.views w))) ≤ in_rings p.sent p.received i z.workers
  ring_in_all w i lt = let r = ring_at p.sent p.received p.sent p.received i z.workers w lt in let e = ap (λ l. times i (slots_of l)) (rest_is w lt) in omega arith

  no_ring : (w i : ℕ) → z.workers ≤ w → times i (slots_of (machine.rest_of (shown_sent s.views w) (shown_received s.views w))) ≡ 0
  no_ring w i le =
      let none_sent : shown_sent s.views w ≡ [] = sent_is w ∙ get_or_past p.sent w [] (let l = p.lists.0 in omega arith) in
      let none_got : shown_received s.views w ≡ [] = role_none (w + 1) (λ (u : SeatView). log_of u.received w) [] s.views (p.no_more_roles (w + 1) (omega arith)) in
      ap (λ (t : List Pair × List Pair). times i (slots_of (machine.rest_of t.0 t.1))) (λ j. (none_sent j, none_got j))

  below_all : (i : ℕ) → 0 < in_rings p.sent p.received i z.workers + total (in_held i) s.views → i < z.buffers
  below_all i some_ = elim (dec_le z.buffers i) [ yes le ↦ absurd (let e = p.inside i le in omega arith) | no not_le ↦ omega arith ]

  no_others : (q : machine.Place) (i : ℕ) → (shown z s).stands q i ≡ true → (i < z.buffers) × IsPlaceOf z.workers q
  no_others machine.Pool i t = (ltb-true i z.buffers (and_right (nat_eq (get_or s.words i 0) 1) (nat_lt i z.buffers) t), tt)
  no_others machine.Ingest i t = let h = held_in_all 0 i in let has = ltb-true 0 (times i (held_by s.views 0)) t in (below_all i (omega arith), tt)
  no_others (machine.Ring w) i t = let has = ltb-true 0 (times i (slots_of (machine.rest_of (shown_sent s.views w) (shown_received s.views w)))) t in elim (dec_le z.workers w) [
    | yes le ↦ absurd (let e = no_ring w i le in omega arith)
    | no not_le ↦ let h = ring_in_all w i (omega arith) in (below_all i (omega arith), omega arith)
  ]
  no_others (machine.Worker w) i t = let has = ltb-true 0 (times i (held_by s.views (w + 1))) t in let h = held_in_all (w + 1) i in (
    below_all i (omega arith),
    elim (dec_le z.workers w) [
      | yes le ↦ absurd (let v = held_by_one (w + 1) i has in let a = total_at (in_roles (w + 1)) s.views v.0.id v.0.view v.0.at in let o = p.no_more_roles (w + 1) (omega arith) in let r = v.0.has in omega arith)
      | no not_le ↦ omega arith
    ],
  )

  -- ONE PLACE

  module _ (i : ℕ) (below : i < z.buffers) where
    in_pool : (shown z s).stands machine.Pool i ≡ true → get_or s.words i 0 ≡ 1
    in_pool t = eqb-true (get_or s.words i 0) 1 (and_left (nat_eq (get_or s.words i 0) 1) (nat_lt i z.buffers) t)

    at_ingest : (shown z s).stands machine.Ingest i ≡ true → 0 < total (in_held i) s.views
    at_ingest t = let h = held_in_all 0 i in let has = ltb-true 0 (times i (held_by s.views 0)) t in omega arith

    at_worker : (w : ℕ) → (shown z s).stands (machine.Worker w) i ≡ true → 0 < total (in_held i) s.views
    at_worker w t = let h = held_in_all (w + 1) i in let has = ltb-true 0 (times i (held_by s.views (w + 1))) t in omega arith

    in_ring : (w : ℕ) → (shown z s).stands (machine.Ring w) i ≡ true → (w < z.workers) × (0 < times i (slots_of (rule.rest_at p.sent p.received w)))
    in_ring w t = let n = no_others (machine.Ring w) i t in let lt : w < z.workers = n.1 in let has = ltb-true 0 (times i (slots_of (machine.rest_of (shown_sent s.views w) (shown_received s.views w)))) t in
        (lt, (let e = ap (λ l. times i (slots_of l)) (rest_is w lt) in omega arith))

    in_ring_all : (w : ℕ) → (shown z s).stands (machine.Ring w) i ≡ true → 0 < in_rings p.sent p.received i z.workers
    in_ring_all w t = let r = in_ring w t in let a = ring_at p.sent p.received p.sent p.received i z.workers w r.0 in let b = r.1 in omega arith

    pool_only : get_or s.words i 0 ≡ 1 → (q : machine.Place) → (shown z s).stands q i ≡ true → q ≡ machine.Pool
    pool_only one machine.Pool t = refl
    pool_only one machine.Ingest t = absurd (let o = p.once i below in let h = at_ingest t in omega arith)
    pool_only one (machine.Ring w) t = absurd (let o = p.once i below in let h = in_ring_all w t in omega arith)
    pool_only one (machine.Worker w) t = absurd (let o = p.once i below in let h = at_worker w t in omega arith)

    ring_only : (w : ℕ) → w < z.workers → 0 < times i (slots_of (rule.rest_at p.sent p.received w)) → (q : machine.Place) → (shown z s).stands q i ≡ true → q ≡ machine.Ring w
    ring_only w lt has machine.Pool t = absurd (let o = p.once i below in let h = in_pool t in let a = ring_at p.sent p.received p.sent p.received i z.workers w lt in omega arith)
    ring_only w lt has machine.Ingest t = absurd (let o = p.once i below in let h = at_ingest t in let a = ring_at p.sent p.received p.sent p.received i z.workers w lt in omega arith)
    ring_only w lt has (machine.Ring x) t = dite (ℕ_discrete x w) (λ e. ap machine.Ring e) (λ ne. absurd (let r = in_ring x t in let b = r.1 in let a = ring_two p.sent p.received p.sent p.received i z.workers x w r.0 lt ne in let o = p.once i below in omega arith))
    ring_only w lt has (machine.Worker x) t = absurd (let o = p.once i below in let h = at_worker x t in let a = ring_at p.sent p.received p.sent p.received i z.workers w lt in omega arith)

    -- the view that holds it has one role
    module _ (h : Holds i s.views) where
      st : Stands z s.homes p.sent p.received p.ends p.ended h.view
      st = knows_held h.id h.view i h.at h.has

      one_role : length h.view.roles ≡ 1
      one_role = st.role i h.has

      same_role : (r x : ℕ) → 0 < times r h.view.roles → 0 < times i (held_by s.views x) → x ≡ r
      same_role r x mine has = let v = held_by_one x i has in let seen = v.1 in let theirs = v.0.has in dite (ℕ_discrete v.0.id h.id)
          (λ e. let same : v.0.view ≡ h.view = some-injective v.0.view h.view (sym v.0.at ∙ ap (get_elem? s.views) e ∙ h.at) in
          only_one h.view.roles x r one_role (subst (λ (u : SeatView). 0 < times x u.roles) same theirs) mine)
          (λ ne. absurd (let a = total_two (in_held i) s.views v.0.id h.id v.0.view h.view ne v.0.at h.at in let o = p.once i below in let b = h.has in omega arith))

      holds : (r : ℕ) → 0 < times r h.view.roles → 0 < times i (held_by s.views r)
      holds r mine = let e = ap (times i) (held_is r h.id h.view h.at mine) in let b = h.has in omega arith

      some_held : 0 < total (in_held i) s.views
      some_held = let a = total_at (in_held i) s.views h.id h.view h.at in let b = h.has in omega arith

      ingest_only : 0 < times 0 h.view.roles → (q : machine.Place) → (shown z s).stands q i ≡ true → q ≡ machine.Ingest
      ingest_only mine machine.Pool t = absurd (let o = p.once i below in let a = in_pool t in let b = some_held in omega arith)
      ingest_only mine machine.Ingest t = refl
      ingest_only mine (machine.Ring w) t = absurd (let o = p.once i below in let a = in_ring_all w t in let b = some_held in omega arith)
      ingest_only mine (machine.Worker w) t = absurd (let e = same_role 0 (w + 1) mine (ltb-true 0 (times i (held_by s.views (w + 1))) t) in omega arith)

      worker_only : (y : ℕ) → 0 < times (y + 1) h.view.roles → (q : machine.Place) → (shown z s).stands q i ≡ true → q ≡ machine.Worker y
      worker_only y mine machine.Pool t = absurd (let o = p.once i below in let a = in_pool t in let b = some_held in omega arith)
      worker_only y mine machine.Ingest t = absurd (let e = same_role (y + 1) 0 mine (ltb-true 0 (times i (held_by s.views 0)) t) in omega arith)
      worker_only y mine (machine.Ring w) t = absurd (let o = p.once i below in let a = in_ring_all w t in let b = some_held in omega arith)
      worker_only y mine (machine.Worker w) t = ap machine.Worker (let e = same_role (y + 1) (w + 1) mine (ltb-true 0 (times i (held_by s.views (w + 1))) t) in omega arith)

      with_role : (r : ℕ) → 0 < times r h.view.roles → HasOnePlace (λ q. (shown z s).stands q i)
      with_role zero mine = record { place = machine.Ingest; here = some_is (times i (held_by s.views 0)) (holds 0 mine); only = ingest_only mine }
      with_role (suc y) mine = let mine' : 0 < times (y + 1) h.view.roles = subst (λ n. 0 < times n h.view.roles) (let e : suc y ≡ y + 1 = omega arith in e) mine in
          record { place = machine.Worker y; here = some_is (times i (held_by s.views (y + 1))) (holds (y + 1) mine'); only = worker_only y mine' }

      held_place : HasOnePlace (λ q. (shown z s).stands q i)
      held_place = let o = only h.view.roles one_role in with_role o.member (let e : times o.member h.view.roles ≡ times o.member (o.member ∷ []) = ap (times o.member) o.is in let t = times_here o.member [] in omega arith)

    one_place : HasOnePlace (λ q. (shown z s).stands q i)
    one_place = let o = p.once i below in dite (ℕ_discrete (get_or s.words i 0) 1)
        (λ one. record { place = machine.Pool; here = and_both (nat_eq (get_or s.words i 0) 1) (nat_lt i z.buffers) (eq-eqb (get_or s.words i 0) 1 one) (lt-ltb i z.buffers below); only = pool_only one })
        (λ ne. dite (ℕ_discrete (in_rings p.sent p.received i z.workers) 0)
        (λ none_. held_place (holder i s.views (omega arith)))
        (λ some_. let r = in_which p.sent p.received i z.workers (omega arith) in let has = r.2 in record {
          place = machine.Ring r.0;
          here = some_is (times i (slots_of (machine.rest_of (shown_sent s.views r.0) (shown_received s.views r.0)))) (let e = ap (λ l. times i (slots_of l)) (rest_is r.0 r.1) in omega arith);
          only = ring_only r.0 r.1 r.2;
        }))

  -- RINGS

  ring_lawful : (w : ℕ) → w < z.workers → IsRingLawful ((shown z s).stands (machine.Ring w)) ((shown z s).sent w) ((shown z s).received w) ((shown z s).end_put w) ((shown z s).end_taken w)
  ring_lawful w lt = let r = p.rings w lt in record {
    prefix = (let F : List Pair × List Pair → Type 0 = λ t. t.1 ++ machine.rest_of t.0 t.1 ≡ t.0 in subst F (λ j. (sym (sent_is w) j, sym (received_is w lt) j))
        (ap (λ l. log_of p.received w ++ l) (ap (drop (length (log_of p.received w))) (sym r.prefix.1) ∙ drop_front (log_of p.received w) r.prefix.0) ∙ r.prefix.1));
    buffers = λ i. one_at_most (times i (slots_of (machine.rest_of (shown_sent s.views w) (shown_received s.views w)))) (let a = ring_in_all w i lt in
        elim (dec_le z.buffers i) [ yes le ↦ (let e = p.inside i le in omega arith) | no not_le ↦ (let o = p.once i (omega arith) in omega arith) ]);
    rising = subst AreRising (sym (sent_is w)) (rises (log_of p.sent w) r.rising);
    ended = λ t. let d = r.done (sym (taken_is w lt) ∙ t) in (put_is w ∙ d.0, received_is w lt ∙ d.1 ∙ sym (sent_is w));
  }

  apart : (w x : ℕ) → w < z.workers → x < z.workers → w ≢ x → AreApart ((shown z s).sent w) ((shown z s).sent x)
  apart w x lw lx ne k has = dite (ℕ_discrete (times k (numbers_of (shown_sent s.views x))) 0) (λ e. e) (λ some_. absurd (
      let ew = ap (λ l. times k (numbers_of l)) (sent_is w) in let ex = ap (λ l. times k (numbers_of l)) (sent_is x) in
      let a = there k (log_of p.sent w) (omega arith) in let b = there k (log_of p.sent x) (omega arith) in
      p.apart w x a.place b.place a.pair b.pair ne a.at b.at (a.is ∙ sym b.is)))

  claims : (i : ℕ) → i < z.buffers → (shown z s).stands machine.Pool i ≡ false → (shown z s).claimed i ≡ true
  claims i lt out = some_is (total (λ (v : SeatView). times i v.claimed) s.views) (p.taken i lt (dite (ℕ_discrete (get_or s.words i 0) 1)
      (λ one. absurd (let t = and_both (nat_eq (get_or s.words i 0) 1) (nat_lt i z.buffers) (eq-eqb (get_or s.words i 0) 1 one) (lt-ltb i z.buffers lt) in let e : true ≡ false = sym t ∙ out in cc))
      (λ ne. let o = p.once i lt in omega arith)))

pub lawful : (z : LaneKey) (s : St) → Lanes z s → IsLawful z.buffers z.workers (shown z s)
lawful z s p = record {
  one_place = one_place z s p;
  no_others = no_others z s p;
  each_ring = ring_lawful z s p;
  apart = apart z s p;
  claims = claims z s p;
}
