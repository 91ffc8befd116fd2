-- One call of a place of a chain after another, and places behind one another and beside one another.
use Rattle.std.proofs.Common.{◌≡◌, ◌≢◌, ℕ, zero, suc, ◌<◌, List, [], ◌∷◌, ◌++◌, map, flat_map, length, Bool, true, false, not, cond, Option, Some, None, refl, ap, sym, subst, ◌∙◌, arith, append-nil, append_assoc, length-append, get_or, set}
use Rattle.std.proofs.lemmas.List.{map-append, length-map}
use Rattle.std.proofs.lemmas.List.Elements.{filter-append}
use Rattle.std.specs.List.{filter, position}
use Rattle.std.specs.List.Sorted.{IsPermutation}
use Rattle.std.proofs.lemmas.List.Sorted.{IsPermutation-refl, IsPermutation-trans, IsPermutation-append, IsPermutation-append_left, IsPermutation-append_right}
use Rattle.brick_spec.specs.Flow.{Flow}
use Rattle.brick_spec.specs.Item.{Item}
use Rattle.brick_spec.specs.Match.{Match}
use Rattle.brick_spec.specs.Tuple.{tuple_of}
use Rattle.brick_spec.specs.GroupOutput as groups
use Rattle.brick_spec.specs.FlowStage.{FlowItem, FlowStage, Drop, FlowInput, FlowOutput, both, through_row}
use Rattle.batch_ops.specs.Operator.{Extends, OthersStay, with_more}
use Rattle.batch_ops.specs.Stage.{RowStands}
use Rattle.batch_ops.proofs.Calls.{same_order, inner_swapped}
use Rattle.flow_spec.specs.Parts.{Parts, only, others, beside, no_group, with_dropped, staged_by, shared, whole}
use Rattle.flow_spec.specs.Plan.{takes_by}
use Rattle.flow_work.specs.Meaning.{Meaning, item_of}
use Rattle.flow_work.specs.Node.{joined, blanks, parts_both, items_in, IsMade, GoesParts, OthersStayParts, Went, IsNode, ListStands, PipeStands, pipe_makes, FanStands, fan_parts, fan_makes, fan_results}

-- LISTS OF LISTS

pub joined_nil : {X : Type 0} (xss : List (List X)) → joined xss [] ≡ xss
joined_nil [] = refl
joined_nil (xs ∷ xss) = refl

pub length_joined : {X : Type 0} (xss yss : List (List X)) → length (joined xss yss) ≡ length xss
length_joined [] yss = refl
length_joined (xs ∷ xss) [] = refl
length_joined (xs ∷ xss) (ys ∷ yss) = ap suc (length_joined xss yss)

pub get_joined : {X : Type 0} (xss yss : List (List X)) (g : ℕ) → g < length xss → get_or (joined xss yss) g [] ≡ get_or xss g [] ++ get_or yss g []
get_joined [] yss g l = absurd (omega (arith, l))
get_joined (xs ∷ xss) [] zero l = sym (append-nil xs)
get_joined (xs ∷ xss) [] (suc g) l = sym (append-nil (get_or xss g []))
get_joined (xs ∷ xss) (ys ∷ yss) zero l = refl
get_joined (xs ∷ xss) (ys ∷ yss) (suc g) l = get_joined xss yss g (omega arith)

pub joined_assoc : {X : Type 0} (xss yss zss : List (List X)) → length xss ≡ length yss → joined (joined xss yss) zss ≡ joined xss (joined yss zss)
joined_assoc [] yss zss l = refl
joined_assoc (xs ∷ xss) [] zss l = absurd (omega (arith, l))
joined_assoc (xs ∷ xss) (ys ∷ yss) [] l = refl
joined_assoc (xs ∷ xss) (ys ∷ yss) (zs ∷ zss) l = ap (λ t. t ∷ joined (joined xss yss) zss) (append_assoc xs ys zs) ∙ ap (λ t. (xs ++ (ys ++ zs)) ∷ t) (joined_assoc xss yss zss (omega arith))

pub joined_append : {X : Type 0} (xss yss ass bss : List (List X)) → length xss ≡ length ass → joined (xss ++ yss) (ass ++ bss) ≡ joined xss ass ++ joined yss bss
joined_append [] yss [] bss l = refl
joined_append [] yss (as' ∷ ass) bss l = absurd (omega (arith, l))
joined_append (xs ∷ xss) yss [] bss l = absurd (omega (arith, l))
joined_append (xs ∷ xss) yss (as' ∷ ass) bss l = ap (λ t. (xs ++ as') ∷ t) (joined_append xss yss ass bss (omega arith))

pub joined_blanks : {X Y : Type 0} (xss : List (List X)) (yss : List Y) → joined xss (blanks yss) ≡ xss
joined_blanks [] yss = refl
joined_blanks (xs ∷ xss) [] = refl
joined_blanks (xs ∷ xss) (y ∷ yss) = ap (λ t. t ∷ joined xss (blanks yss)) (append-nil xs) ∙ ap (λ t. xs ∷ t) (joined_blanks xss yss)

pub blanks_joined : (xss yss : List (List Item)) → blanks {Y = FlowItem} (joined xss yss) ≡ blanks xss
blanks_joined [] yss = refl
blanks_joined (xs ∷ xss) [] = refl
blanks_joined (xs ∷ xss) (ys ∷ yss) = ap (λ (t : List (List FlowItem)). [] ∷ t) (blanks_joined xss yss)

pub items_joined : (xss yss : List (List FlowItem)) → items_in (joined xss yss) ≡ joined (items_in xss) (items_in yss)
items_joined [] yss = refl
items_joined (xs ∷ xss) [] = refl
items_joined (xs ∷ xss) (ys ∷ yss) = ap (λ t. t ∷ items_in (joined xss yss)) (map-append item_of xs ys) ∙ ap (λ t. (map item_of xs ++ map item_of ys) ∷ t) (items_joined xss yss)

pub items_blanks : {X : Type 0} (xs : List X) → items_in (blanks xs) ≡ blanks xs
items_blanks [] = refl
items_blanks (x ∷ xs) = ap (λ (t : List (List Item)). [] ∷ t) (items_blanks xs)

pub parts_assoc : (p q r : Parts) → length p.lists ≡ length q.lists → parts_both (parts_both p q) r ≡ parts_both p (parts_both q r)
parts_assoc p q r l =
    ap (λ t. record { lists = t; dropped = (p.dropped ++ q.dropped) ++ r.dropped }) (joined_assoc p.lists q.lists r.lists l)
    ∙ ap (λ t. record { lists = joined p.lists (joined q.lists r.lists); dropped = t }) (append_assoc p.dropped q.dropped r.dropped)

abbrev pub none_made : {X : Type 0} → List X → Parts
none_made xs = record { lists = blanks xs; dropped = [] }

pub parts_none : {X : Type 0} (p : Parts) (xs : List X) → parts_both p (none_made xs) ≡ p
parts_none p xs = ap (λ t. record { lists = t; dropped = p.dropped ++ [] }) (joined_blanks p.lists xs) ∙ ap (λ t. record { lists = p.lists; dropped = t }) (append-nil p.dropped)

pub came_none : (came : FlowInput) → came.ended ≡ None → with_more came [] None ≡ came
came_none came still = λ i. record { items = append-nil came.items i; ended = sym still i }

-- ONE CALL AFTER ANOTHER

module _ {N : Type 0} (stands : N → Flow → FlowInput → Parts → Type 0) (makes : N → Meaning) (results : N → List (List Item)) where
  -- nothing came
  pub went_nothing : (n : N) (flow : Flow) → Went stands makes results n n flow [] None (none_made (results n))
  went_nothing n flow = record {
    goes = λ came parts still was. subst (λ (c : FlowInput). stands n flow c (parts_both parts (none_made (results n)))) (sym (came_none came still)) (subst (λ (p : Parts). stands n flow came p) (sym (parts_none parts (results n))) was);
    others = λ other came parts apart was. was;
    kept = sym (ap (joined (results n)) (items_blanks (results n)) ∙ joined_blanks (results n) (results n));
    long = length-map (results n) _;
    same = refl;
  }

  pub went_both : IsNode stands makes results → (old mid new : N) (flow : Flow) (items₁ items₂ : List FlowItem) (ended : Option ℕ) (a b : Parts)
      → Went stands makes results old mid flow items₁ None a → Went stands makes results mid new flow items₂ ended b → Went stands makes results old new flow (items₁ ++ items₂) ended (parts_both a b)
  went_both node old mid new flow items₁ items₂ ended a b one two = record {
    goes = λ came parts still was.
        let after = two.goes (with_more came items₁ None) (parts_both parts a) refl (one.goes came parts still was) in
        let long : length parts.lists ≡ length a.lists = node.many old flow came parts was ∙ sym one.long in
        subst (λ (xs : List FlowItem). stands new flow (record { items = xs; ended = ended }) (parts_both parts (parts_both a b))) (append_assoc came.items items₁ items₂)
        (subst (λ (p : Parts). stands new flow (record { items = (came.items ++ items₁) ++ items₂; ended = ended }) p) (parts_assoc parts a b long) after);
    others = λ other came parts apart was. two.others other came parts apart (one.others other came parts apart was);
    kept = two.kept ∙ (ap (λ t. joined t (items_in b.lists)) one.kept ∙ (joined_assoc (results old) (items_in a.lists) (items_in b.lists) (sym one.long ∙ sym (length-map a.lists (map item_of))) ∙ ap (joined (results old)) (sym (items_joined a.lists b.lists))));
    long = length_joined a.lists b.lists ∙ one.long;
    same = two.same ∙ one.same;
  }

-- A LIST OF ITEMS

module _ {L : Type 0} (items : L → List Item) where
  abbrev pub list_stands : L → Flow → FlowInput → Parts → Type 0
  list_stands l flow came parts = ListStands came parts

  abbrev pub list_makes : L → Meaning
  list_makes l flow came = whole came

  abbrev pub list_results : L → List (List Item)
  list_results l = items l ∷ []

  pub list_node : IsNode list_stands list_makes list_results
  list_node = record { means = λ l flow came parts (e, o). (e, same_order parts.dropped [] o); many = λ l flow came parts (e, o). ap length e }

  pub list_went : (old new : L) (flow : Flow) (xs : List FlowItem) (ended : Option ℕ) → items new ≡ items old ++ map item_of xs → Went list_stands list_makes list_results old new flow xs ended (record { lists = xs ∷ []; dropped = [] })
  list_went old new flow xs ended e = record {
    goes = λ came parts still (p, d). (ap (λ t. joined t (xs ∷ [])) p, ap (λ t. t ++ []) d);
    others = λ other came parts apart was. was;
    kept = ap (λ t. t ∷ []) e;
    long = refl;
    same = refl;
  }

-- A PLACE BEHIND A ROW OF STAGES

abbrev pub after : FlowOutput → Parts → Parts
after a b = record { lists = b.lists; dropped = a.dropped ++ b.dropped }

module _ {P N T : Type 0} (row_stands : P → Flow → FlowInput → FlowOutput → Type 0) (row : P → Flow → List FlowStage)
    (stands : N → Flow → FlowInput → Parts → Type 0) (makes : N → Meaning) (results : N → List (List Item)) (path : T → P) (next : T → N) where
  abbrev pub piped_stands : T → Flow → FlowInput → Parts → Type 0
  piped_stands t flow came parts = PipeStands row_stands stands (path t) (next t) flow came parts

  abbrev pub piped_makes : T → Meaning
  piped_makes t = pipe_makes row makes (path t) (next t)

  abbrev pub piped_results : T → List (List Item)
  piped_results t = results (next t)

  pub piped_node : ((p : P) (flow : Flow) (came : FlowInput) (left : FlowOutput) → row_stands p flow came left → RowStands (row p flow) came left) → IsNode stands makes results → IsNode piped_stands piped_makes piped_results
  piped_node rows node = record {
    means = λ t flow came parts (mid, rest, hl, hf, e, o).
        let l = rows (path t) flow came mid hl in
        let f = node.means (next t) flow (record { items = mid.passed; ended = came.ended }) rest hf in
        let at = λ (xs : List FlowItem). makes (next t) flow (record { items = xs; ended = came.ended }) in (
          e ∙ (f.0 ∙ ap (λ xs. (at xs).lists) l.0),
          IsPermutation-trans _ _ _ o (IsPermutation-append _ _ _ _ l.1 (subst (λ (xs : List FlowItem). IsPermutation rest.dropped (at xs).dropped) l.0 f.1)),
        );
    many = λ t flow came parts (mid, rest, hl, hf, e, o). ap length e ∙ node.many (next t) flow (record { items = mid.passed; ended = came.ended }) rest hf;
  }

  pub piped_went : (old new : T) (flow : Flow) (items : List FlowItem) (ended : Option ℕ) (a : FlowOutput) (b : Parts)
      → Extends row_stands (path old) (path new) flow items ended a → OthersStay row_stands (path old) (path new) flow → row (path new) ≡ row (path old)
      → Went stands makes results (next old) (next new) flow a.passed ended b → Went piped_stands piped_makes piped_results old new flow items ended (after a b)
  piped_went old new flow items ended a b goes others same two = record {
    goes = λ came parts still (mid, rest, hl, hf, e, o). (
      both mid a,
      parts_both rest b,
      goes came mid still hl,
      two.goes (record { items = mid.passed; ended = came.ended }) rest still hf,
      ap (λ t. joined t b.lists) e,
      IsPermutation-trans _ _ _ (IsPermutation-append_left (a.dropped ++ b.dropped) _ _ o) (inner_swapped mid.dropped rest.dropped a.dropped b.dropped),
    );
    others = λ other came parts apart (mid, rest, hl, hf, e, o). (mid, rest, others other came mid apart hl, two.others other (record { items = mid.passed; ended = came.ended }) rest apart hf, e, o);
    kept = two.kept;
    long = two.long;
    same = λ i flow came. staged_by (same i flow) (two.same i flow) came;
  }

-- GROUPS

module _ {N : Type 0} (stands : N → Flow → FlowInput → Parts → Type 0) (makes : N → Meaning) (results : N → List (List Item)) (node : IsNode stands makes results) where
  abbrev WentFan : List (Option Match) → List N → List N → Flow → List FlowItem → Option ℕ → Parts → Type 0
  WentFan ms old new = Went (FanStands stands ms) (fan_makes makes ms) (fan_results results) old new

  pub fan_means : (ms : List (Option Match)) (ns : List N) (flow : Flow) (came : FlowInput) (parts : Parts) → FanStands stands ms ns flow came parts → IsMade parts (fan_makes makes ms ns flow came)
  fan_means [] ns flow came parts (e, o) = (e, same_order _ _ o)
  fan_means (m ∷ ms) [] flow came parts (e, o) = (e, same_order _ _ o)
  fan_means (m ∷ ms) (n ∷ ns) flow came parts (mine, rest, h, hs, e, o) =
      let l = node.means n flow (only (takes_by m) came) mine h in
      let f = fan_means ms ns flow (only (others (takes_by m)) came) rest hs in
      (e ∙ (ap (λ t. t ++ rest.lists) l.0 ∙ ap (λ t. (makes n flow (only (takes_by m) came)).lists ++ t) f.0), IsPermutation-trans _ _ _ o (IsPermutation-append _ _ _ _ l.1 f.1))

  pub fan_many : (ms : List (Option Match)) (ns : List N) → length ms ≡ length ns → (flow : Flow) (came : FlowInput) (parts : Parts) → FanStands stands ms ns flow came parts → length parts.lists ≡ length (fan_results results ns)
  fan_many [] [] l flow came parts (e, o) = ap length e
  fan_many [] (n ∷ ns) l flow came parts h = absurd (omega (arith, l))
  fan_many (m ∷ ms) [] l flow came parts h = absurd (omega (arith, l))
  fan_many (m ∷ ms) (n ∷ ns) l flow came parts (mine, rest, h, hs, e, o) =
      let one = node.many n flow (only (takes_by m) came) mine h in
      let two = fan_many ms ns (omega arith) flow (only (others (takes_by m)) came) rest hs in
      ap length e ∙ (length-append mine.lists rest.lists ∙ omega (arith, one, two, length-append (results n) (fan_results results ns)))

  -- behind the last group
  pub fan_end : (flow : Flow) (items : List FlowItem) (ended : Option ℕ) → WentFan [] [] [] flow items ended (record { lists = []; dropped = map no_group items })
  fan_end flow items ended = record {
    goes = λ came parts still (e, o). (ap (λ t. joined t []) e, ap (λ t. t ++ map no_group items) o ∙ sym (map-append no_group came.items items));
    others = λ other came parts apart was. was;
    kept = refl;
    long = refl;
    same = refl;
  }

  -- a group, and those behind it
  pub fan_cons : (m : Option Match) (ms : List (Option Match)) (n n' : N) (ns ns' : List N) (flow : Flow) (items : List FlowItem) (ended : Option ℕ) (a b : Parts)
      → Went stands makes results n n' flow (filter (takes_by m) items) ended a → WentFan ms ns ns' flow (filter (others (takes_by m)) items) ended b
      → WentFan (m ∷ ms) (n ∷ ns) (n' ∷ ns') flow items ended (beside a b)
  fan_cons m ms n n' ns ns' flow items ended a b one two = record {
    goes = λ came parts still (mine, rest, h, hs, e, o).
        let long : length mine.lists ≡ length a.lists = node.many n flow (only (takes_by m) came) mine h ∙ sym one.long in (
          parts_both mine a,
          parts_both rest b,
          subst (λ (xs : List FlowItem). stands n' flow (record { items = xs; ended = ended }) (parts_both mine a)) (sym (filter-append (takes_by m) came.items items)) (one.goes (only (takes_by m) came) mine still h),
          subst (λ (xs : List FlowItem). FanStands stands ms ns' flow (record { items = xs; ended = ended }) (parts_both rest b)) (sym (filter-append (others (takes_by m)) came.items items)) (two.goes (only (others (takes_by m)) came) rest still hs),
          ap (λ t. joined t (a.lists ++ b.lists)) e ∙ joined_append mine.lists rest.lists a.lists b.lists long,
          IsPermutation-trans _ _ _ (IsPermutation-append_left (a.dropped ++ b.dropped) _ _ o) (inner_swapped mine.dropped rest.dropped a.dropped b.dropped),
        );
    others = λ other came parts apart (mine, rest, h, hs, e, o). (mine, rest, one.others other (only (takes_by m) came) mine apart h, two.others other (only (others (takes_by m)) came) rest apart hs, e, o);
    kept = ap (λ t. t ++ fan_results results ns') one.kept ∙ (ap (λ t. joined (results n) (items_in a.lists) ++ t) two.kept
        ∙ (sym (joined_append (results n) (fan_results results ns) (items_in a.lists) (items_in b.lists) (sym one.long ∙ sym (length-map a.lists (map item_of)))) ∙ ap (joined (results n ++ fan_results results ns)) (sym (map-append (map item_of) a.lists b.lists))));
    long = length-append a.lists b.lists ∙ omega (arith, one.long, two.long, length-append (results n) (fan_results results ns));
    same = λ i flow came. beside (one.same i flow (only (takes_by m) came)) (two.same i flow (only (others (takes_by m)) came));
  }
