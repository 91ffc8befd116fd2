-- A work over all flows: one call more.
use Rattle.std.proofs.Common.{◌≡◌, ◌≢◌, ℕ, cond, List, [], ◌∷◌, ◌++◌, map, Bool, true, false, ◌||◌, Option, Some, None, nat_eq, if◌then◌else◌, refl, ap, sym, subst, ◌∙◌, append-nil, append_assoc, get_or, slice_index, length, ◌<◌, ◌≤◌, ◌+◌, zero, suc, min, arith}
use Rattle.std.proofs.lemmas.Bool.Decides.{nat_tests}
use Rattle.std.proofs.lemmas.Grind.{flat_map-append}
use Rattle.std.specs.List.{filter, flat_map, list_any, AllByRecursion, count_by}
use Rattle.std.proofs.lemmas.List.{map-append}
use Rattle.std.proofs.lemmas.List.Sums.{sum_by-append}
use Rattle.brick_spec.specs.Flow.{Flow, Class}
use Rattle.brick_spec.specs.Item.{Item}
use Rattle.brick_spec.specs.FlowStage.{FlowItem, Drop, FlowInput}
use Rattle.flow_spec.specs.Parts.{Parts}
use Rattle.flow_spec.specs.Answer.{ClassedItem, is_of, flow_item, given_to}
use Rattle.flow_work.specs.Meaning.{Meaning, came_items, AreOf, item_of, is_for}
use Rattle.flow_work.specs.Node.{joined, blanks, parts_both, items_in, Went, IsNode}
use Rattle.flow_work.specs.Log.{Entry, parts_at, fresh, group_of, all_dropped, flows_in, ended_at, AreCounts, CountsMore, EndedFor}
use Rattle.flow_work.proofs.Nodes.{length_joined, get_joined, blanks_joined}

pub same_number : (m n : ℕ) → nat_eq m n ≡ true → m ≡ n
same_number m n h = grind (arith, nat_tests)

pub apart_number : (m n : ℕ) → nat_eq m n ≡ false → n ≢ m
apart_number m n h e = grind (arith, nat_tests)

pub itself : (k : ℕ) → nat_eq k k ≡ true
itself k = grind (arith, nat_tests)

pub came_more : (f : Flow) (cs : List ClassedItem) (c : ClassedItem) → came_items f (cs ++ c ∷ []) ≡ came_items f cs ++ (if nat_eq c.class.flow.number f.number then flow_item c ∷ [] else [])
came_more f [] c = one (is_of f c) where
  one : (b : Bool) → map flow_item (cond b (c ∷ []) []) ≡ (if b then flow_item c ∷ [] else [])
  one true = refl
  one false = refl
came_more f (v ∷ vs) c = more (is_of f v) (came_more f vs c) where
  more : (b : Bool) → came_items f (vs ++ c ∷ []) ≡ came_items f vs ++ (if nat_eq c.class.flow.number f.number then flow_item c ∷ [] else [])
      → map flow_item (cond b (v ∷ filter (is_of f) (vs ++ c ∷ [])) (filter (is_of f) (vs ++ c ∷ []))) ≡ map flow_item (cond b (v ∷ filter (is_of f) vs) (filter (is_of f) vs)) ++ (if nat_eq c.class.flow.number f.number then flow_item c ∷ [] else [])
  more true h = ap (λ xs. flow_item v ∷ xs) h
  more false h = h

pub are_before : (f : Flow) (cs : List ClassedItem) (c : ClassedItem) → AreOf f (cs ++ c ∷ []) → AreOf f cs
are_before f [] c h = tt
are_before f (v ∷ vs) c (h, hs) = (h, are_before f vs c hs)

pub is_last : (f : Flow) (cs : List ClassedItem) (c : ClassedItem) → AreOf f (cs ++ c ∷ []) → c.class.flow.number ≡ f.number → c.class.flow ≡ f
is_last f [] c (h, hs) = h
is_last f (v ∷ vs) c (h, hs) = is_last f vs c hs

pub parts_more : (f : ℕ) (base : Parts) (es : List Entry) (e : Entry) → parts_at f base (es ++ e ∷ []) ≡ (if nat_eq e.number f then parts_both (parts_at f base es) e.parts else parts_at f base es)
parts_more f base [] e = refl
parts_more f base (d ∷ ds) e = parts_more f (if nat_eq d.number f then parts_both base d.parts else base) ds e

pub any_more : (f g : ℕ) (es : List ℕ) → list_any (nat_eq f) (es ++ g ∷ []) ≡ (list_any (nat_eq f) es || nat_eq f g)
any_more f g [] = last (nat_eq f g) where
  last : (b : Bool) → (b || false) ≡ b
  last true = refl
  last false = refl
any_more f g (e ∷ es) = ap (λ b. nat_eq f e || b) (any_more f g es) ∙ assoc (nat_eq f e) (list_any (nat_eq f) es) (nat_eq f g) where
  assoc : (a b c : Bool) → (a || (b || c)) ≡ ((a || b) || c)
  assoc true b c = refl
  assoc false b c = refl

pub all_more : {X : Type 0} (P Q : X → Type 0) → ((x : X) → P x → Q x) → (xs : List X) (y : X) → AllByRecursion P xs → Q y → AllByRecursion Q (xs ++ y ∷ [])
all_more P Q k [] y h q = (q, tt)
all_more P Q k (x ∷ xs) y (h, hs) q = (k x h, all_more P Q k xs y hs q)

abbrev IsKnown : List ClassedItem → List ℕ → Entry → Type 0
IsKnown list ended e = (list_any (nat_eq e.number) (flows_in list) || list_any (nat_eq e.number) ended) ≡ true

known_item : (list : List ClassedItem) (c : ClassedItem) (ended : List ℕ) (log : List Entry) (added : Parts) → AllByRecursion (IsKnown list ended) log
    → AllByRecursion (IsKnown (list ++ c ∷ []) ended) (log ++ record { number = c.class.flow.number; parts = added } ∷ [])
known_item list c ended log added h =
    let is = λ (k : ℕ). ap (λ ks. list_any (nat_eq k) ks) (map-append (λ (v : ClassedItem). v.class.flow.number) list (c ∷ [])) ∙ any_more k c.class.flow.number (flows_in list) in
    all_more (IsKnown list ended) (IsKnown (list ++ c ∷ []) ended)
    (λ e p. ap (λ b. b || list_any (nat_eq e.number) ended) (is e.number) ∙ wider (list_any (nat_eq e.number) (flows_in list)) (nat_eq e.number c.class.flow.number) (list_any (nat_eq e.number) ended) p) log (record { number = c.class.flow.number; parts = added }) h
    (ap (λ b. b || list_any (nat_eq c.class.flow.number) ended) (is c.class.flow.number)
    ∙ (ap (λ b. (list_any (nat_eq c.class.flow.number) (flows_in list) || b) || list_any (nat_eq c.class.flow.number) ended) (itself c.class.flow.number) ∙ last (list_any (nat_eq c.class.flow.number) (flows_in list)) (list_any (nat_eq c.class.flow.number) ended))) where
      wider : (a b c : Bool) → (a || c) ≡ true → ((a || b) || c) ≡ true
      wider true b c h = refl
      wider false true c h = refl
      wider false false c h = h

      last : (a c : Bool) → ((a || true) || c) ≡ true
      last true c = refl
      last false c = refl

known_end : (list : List ClassedItem) (f : ℕ) (ended : List ℕ) (log : List Entry) (added : Parts) → AllByRecursion (IsKnown list ended) log
    → AllByRecursion (IsKnown list (ended ++ f ∷ [])) (log ++ record { number = f; parts = added } ∷ [])
known_end list f ended log added h =
    all_more (IsKnown list ended) (IsKnown list (ended ++ f ∷ []))
    (λ e p. ap (λ b. list_any (nat_eq e.number) (flows_in list) || b) (any_more e.number f ended) ∙ wider (list_any (nat_eq e.number) (flows_in list)) (list_any (nat_eq e.number) ended) (nat_eq e.number f) p) log (record { number = f; parts = added }) h
    (ap (λ b. list_any (nat_eq f) (flows_in list) || b) (any_more f f ended ∙ ap (λ b. list_any (nat_eq f) ended || b) (itself f)) ∙ last (list_any (nat_eq f) (flows_in list)) (list_any (nat_eq f) ended)) where
      wider : (a b c : Bool) → (a || b) ≡ true → (a || (b || c)) ≡ true
      wider true b c h = refl
      wider false true c h = refl
      wider false false c h = absurd (no' h) where
        no' : false ≡ true → ⊥
        no' z = cc

      last : (a c : Bool) → (a || (c || true)) ≡ true
      last true c = refl
      last false true = refl
      last false false = refl

-- COUNTS

pub count_by-append : (p : Drop → Bool) (xs ys : List Drop) → count_by p (xs ++ ys) ≡ count_by p xs + count_by p ys
count_by-append p xs ys = sum_by-append (λ r. cond (p r) 1 0) xs ys

capped : (a b c : ℕ) → min 4294967295 (min 4294967295 a + b) ≡ min 4294967295 (a + b)
capped a b c = omega arith

pub counts_none : (old : List ℕ) → CountsMore old old []
counts_none old k l low = omega arith

pub counts_both : (old mid new : List ℕ) (xs ys : List Drop) → CountsMore old mid xs → CountsMore mid new ys → CountsMore old new (xs ++ ys)
counts_both old mid new xs ys one two k l low =
    let e = one k l low in
    let within : slice_index mid k ≤ 4294967295 = omega arith in
    two k l within ∙ (ap (λ n. min 4294967295 (n + count_by (is_for k) ys)) e ∙ (capped (slice_index old k + count_by (is_for k) xs) (count_by (is_for k) ys) 0
    ∙ omega (arith, count_by-append (is_for k) xs ys)))

-- the same, where the first count of what stands behind
pub counts_front : (old mid new : List ℕ) (xs ys : List Drop) → CountsMore old mid ys → CountsMore mid new xs → CountsMore old new (xs ++ ys)
counts_front old mid new xs ys one two k l low =
    let e = one k l low in
    let within : slice_index mid k ≤ 4294967295 = omega arith in
    two k l within ∙ (ap (λ n. min 4294967295 (n + count_by (is_for k) xs)) e ∙ (capped (slice_index old k + count_by (is_for k) ys) (count_by (is_for k) xs) 0
    ∙ omega (arith, count_by-append (is_for k) xs ys)))

pub counts_more : (old new : List ℕ) (xs ys : List Drop) → AreCounts old xs → CountsMore old new ys → AreCounts new (xs ++ ys)
counts_more old new xs ys one two k l =
    let e = one k l in
    let within : slice_index old k ≤ 4294967295 = omega arith in
    two k l within ∙ (ap (λ n. min 4294967295 (n + count_by (is_for k) ys)) e ∙ (capped (count_by (is_for k) xs) (count_by (is_for k) ys) 0
    ∙ omega (arith, count_by-append (is_for k) xs ys)))

module _ {W : Type 0} (stands : W → Flow → FlowInput → Parts → Type 0) (makes : W → Meaning) (results : W → List (List Item)) (counts : W → List ℕ) where
  abbrev pub GoneBy : W → W → Flow → List FlowItem → Option ℕ → Parts → Type 0
  GoneBy old new flow items ended added = Went stands makes results old new flow items ended added × CountsMore (counts old) (counts new) added.dropped

  abbrev base_of : W → Parts
  base_of w = fresh (results w)

  abbrev items_at : Flow → List ClassedItem → Option ℕ → FlowInput
  items_at f list ended = record { items = came_items f list; ended = ended }

  flow_goes : (n : ℕ) (old new : W) (list : List ClassedItem) (log : List Entry) (c : ClassedItem) (added : Parts) → EndedFor stands results counts n [] old list log → Went stands makes results old new c.class.flow (flow_item c ∷ []) None added
      → (f : Flow) → AreOf f (list ++ c ∷ []) → stands new f (record { items = came_items f list ++ (if nat_eq c.class.flow.number f.number then flow_item c ∷ [] else []); ended = None })
      (if nat_eq c.class.flow.number f.number then parts_both (parts_at f.number (base_of old) log) added else parts_at f.number (base_of old) log)
  flow_goes n old new list log c added s t f are = split (nat_eq c.class.flow.number f.number) refl where
    so_far : Parts
    so_far = parts_at f.number (base_of old) log

    was : stands old f (items_at f list None) (parts_at f.number (base_of old) log)
    was = s.flows f (are_before f list c are)

    split : (b : Bool) → nat_eq c.class.flow.number f.number ≡ b → stands new f (record { items = came_items f list ++ (if b then flow_item c ∷ [] else []); ended = None })
        (if b then parts_both (parts_at f.number (base_of old) log) added else parts_at f.number (base_of old) log)
    split true e =
        let same = is_last f list c are (same_number c.class.flow.number f.number e) in
        subst (λ (g : Flow). stands new g (record { items = came_items f list ++ flow_item c ∷ []; ended = None }) (parts_both (parts_at f.number (base_of old) log) added)) same
        (t.goes (items_at f list None) (parts_at f.number (base_of old) log) refl
        (subst (λ (g : Flow). stands old g (items_at f list None) (parts_at f.number (base_of old) log)) (sym same) was))
    split false e =
        subst (λ (xs : List FlowItem). stands new f (record { items = xs; ended = None }) (parts_at f.number (base_of old) log)) (sym (append-nil (came_items f list)))
        (t.others f (items_at f list None) (parts_at f.number (base_of old) log) (apart_number c.class.flow.number f.number e) was)

  lists_more : (old new : W) (log : List Entry) (number : ℕ) (added : Parts) → results new ≡ joined (results old) (items_in added.lists)
      → ((g : ℕ) → g < length (results old) → get_or (results old) g [] ≡ group_of g log)
      → (g : ℕ) → g < length (results new) → get_or (results new) g [] ≡ group_of g (log ++ record { number = number; parts = added } ∷ [])
  lists_more old new log number added kept was g l =
      let e : Entry = record { number = number; parts = added } in
      let short : g < length (results old) = subst (λ (n : ℕ). g < n) (ap length kept ∙ length_joined (results old) (items_in added.lists)) l in
      ap (λ xss. get_or xss g []) kept ∙ (get_joined (results old) (items_in added.lists) g short ∙ (ap (λ xs. xs ++ get_or (items_in added.lists) g []) (was g short)
      ∙ (ap (λ ys. group_of g log ++ ys) (get_items added.lists g ∙ sym (append-nil (given_to g added))) ∙ sym (flat_map-append (λ (d : Entry). given_to g d.parts) log (e ∷ []))))) where
        get_items : (xss : List (List FlowItem)) (g : ℕ) → get_or (items_in xss) g [] ≡ map item_of (get_or xss g [])
        get_items [] g = refl
        get_items (xs ∷ xss) zero = refl
        get_items (xs ∷ xss) (suc g) = get_items xss g

  bases : (old new : W) (added : Parts) → results new ≡ joined (results old) (items_in added.lists) → base_of old ≡ base_of new
  bases old new added kept = ap (λ (t : List (List FlowItem)). record { lists = t; dropped = [] }) (sym (ap (λ (t : List (List Item)). blanks {Y = FlowItem} t) kept ∙ blanks_joined (results old) (items_in added.lists)))

  pub stands_more : (n : ℕ) (old new : W) (list : List ClassedItem) (log : List Entry) (c : ClassedItem) (added : Parts) → EndedFor stands results counts n [] old list log → GoneBy old new c.class.flow (flow_item c ∷ []) None added
      → EndedFor stands results counts n [] new (list ++ c ∷ []) (log ++ record { number = c.class.flow.number; parts = added } ∷ [])
  stands_more n old new list log c added s (t, counted) =
      let e : Entry = record { number = c.class.flow.number; parts = added } in
      record {
        flows = λ f are.
            subst (λ (p : Parts). stands new f (items_at f (list ++ c ∷ []) None) (parts_at f.number p (log ++ e ∷ []))) (bases old new added t.kept)
            (subst (λ (ps : Parts). stands new f (items_at f (list ++ c ∷ []) None) ps) (sym (parts_more f.number (base_of old) log e))
            (subst (λ (xs : List FlowItem). stands new f (record { items = xs; ended = None })
            (if nat_eq c.class.flow.number f.number then parts_both (parts_at f.number (base_of old) log) added else parts_at f.number (base_of old) log)) (sym (came_more f list c))
            (flow_goes n old new list log c added s t f are)));
        kept = lists_more old new log c.class.flow.number added t.kept s.kept;
        drops = subst (AreCounts (counts new)) (ap (λ (ds : List Drop). all_dropped log ++ ds) (sym (append-nil added.dropped)) ∙ sym (flat_map-append (λ (d : Entry). d.parts.dropped) log (e ∷ []))) (counts_more (counts old) (counts new) (all_dropped log) added.dropped s.drops counted);
        known = known_item list c [] log added s.known;
      }

  flow_ends : (n : ℕ) (ended : List ℕ) (old new : W) (list : List ClassedItem) (log : List Entry) (c : Flow) (added : Parts) → EndedFor stands results counts n ended old list log → Went stands makes results old new c [] (Some n) added
      → list_any (nat_eq c.number) ended ≡ false
      → (f : Flow) → AreOf f list → (c.number ≡ f.number → c ≡ f)
      → stands new f (items_at f list (ended_at n (ended ++ c.number ∷ []) f.number)) (if nat_eq c.number f.number then parts_both (parts_at f.number (base_of old) log) added else parts_at f.number (base_of old) log)
  flow_ends n ended old new list log c added s t first f are is =
      subst (λ (b : Bool). stands new f (items_at f list (if b then Some n else None)) (if nat_eq c.number f.number then parts_both (parts_at f.number (base_of old) log) added else parts_at f.number (base_of old) log)) (sym (any_more f.number c.number ended))
      (split (nat_eq c.number f.number) (nat_eq f.number c.number) refl refl) where
        was : (b : Bool) → list_any (nat_eq f.number) ended ≡ b → stands old f (items_at f list (if b then Some n else None)) (parts_at f.number (base_of old) log)
        was b e = subst (λ (d : Bool). stands old f (items_at f list (if d then Some n else None)) (parts_at f.number (base_of old) log)) e (s.flows f are)

        one_way : (m k : ℕ) → nat_eq m k ≡ true → nat_eq k m ≡ false → ⊥
        one_way m k p q = wrong (nat_eq k m) (subst (λ (i : ℕ). nat_eq k i ≡ true) (sym (same_number m k p)) (itself k)) q where
          wrong : (b : Bool) → b ≡ true → b ≡ false → ⊥
          wrong b p q = cc

        or_of : (b : Bool) → (b || false) ≡ b
        or_of true = refl
        or_of false = refl

        split : (b d : Bool) → nat_eq c.number f.number ≡ b → nat_eq f.number c.number ≡ d
            → stands new f (items_at f list (if list_any (nat_eq f.number) ended || d then Some n else None)) (if b then parts_both (parts_at f.number (base_of old) log) added else parts_at f.number (base_of old) log)
        split true true p q =
            let number = same_number c.number f.number p in
            let same = is number in
            let open_before = subst (λ (i : ℕ). list_any (nat_eq i) ended ≡ false) number first in
            subst (λ (b : Bool). stands new f (items_at f list (if b || true then Some n else None)) (parts_both (parts_at f.number (base_of old) log) added)) (sym open_before)
            (subst (λ (xs : List FlowItem). stands new f (record { items = xs; ended = Some n }) (parts_both (parts_at f.number (base_of old) log) added)) (append-nil (came_items f list))
            (subst (λ (g : Flow). stands new g (record { items = came_items f list ++ []; ended = Some n }) (parts_both (parts_at f.number (base_of old) log) added)) same
            (t.goes (items_at f list None) (parts_at f.number (base_of old) log) refl
            (subst (λ (g : Flow). stands old g (items_at f list None) (parts_at f.number (base_of old) log)) (sym same) (was false open_before)))))
        split true false p q = absurd (one_way c.number f.number p q)
        split false true p q = absurd (one_way f.number c.number q p)
        split false false p q =
            subst (λ (b : Bool). stands new f (items_at f list (if b then Some n else None)) (parts_at f.number (base_of old) log)) (sym (or_of (list_any (nat_eq f.number) ended)))
            (t.others f (items_at f list (ended_at n ended f.number)) (parts_at f.number (base_of old) log) (apart_number c.number f.number p) (s.flows f are))

  pub ends_more : (n : ℕ) (ended : List ℕ) (old new : W) (list : List ClassedItem) (log : List Entry) (c : Flow) (added : Parts) → EndedFor stands results counts n ended old list log → GoneBy old new c [] (Some n) added
      → list_any (nat_eq c.number) ended ≡ false → ((f : Flow) → AreOf f list → c.number ≡ f.number → c ≡ f)
      → EndedFor stands results counts n (ended ++ c.number ∷ []) new list (log ++ record { number = c.number; parts = added } ∷ [])
  ends_more n ended old new list log c added s (t, counted) first is =
      let e : Entry = record { number = c.number; parts = added } in
      record {
        flows = λ f are.
            subst (λ (p : Parts). stands new f (items_at f list (ended_at n (ended ++ c.number ∷ []) f.number)) (parts_at f.number p (log ++ e ∷ []))) (bases old new added t.kept)
            (subst (λ (ps : Parts). stands new f (items_at f list (ended_at n (ended ++ c.number ∷ []) f.number)) ps) (sym (parts_more f.number (base_of old) log e))
            (flow_ends n ended old new list log c added s t first f are (is f are)));
        kept = lists_more old new log c.number added t.kept s.kept;
        drops = subst (AreCounts (counts new)) (ap (λ (ds : List Drop). all_dropped log ++ ds) (sym (append-nil added.dropped)) ∙ sym (flat_map-append (λ (d : Entry). d.parts.dropped) log (e ∷ []))) (counts_more (counts old) (counts new) (all_dropped log) added.dropped s.drops counted);
        known = known_end list c.number ended log added s.known;
      }
