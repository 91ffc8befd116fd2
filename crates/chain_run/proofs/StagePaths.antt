-- The paths of stages.
use Rattle.std.proofs.Common.{◌≡◌, ℕ, zero, suc, ◌+◌, ◌<◌, List, [], ◌∷◌, ◌++◌, map, length, take, drop, get_or, Option, Some, None, Bool, false, cond, refl, ap, sym, subst, ◌∙◌, arith, append-nil, append_assoc}
use Rattle.std.specs.Prelude.{IsSomeAnd, Result, Ok, Err, IfOk}
use Rattle.std.specs.Global.{Vec}
use Rattle.brick_base.specs.declared.memory.NoMemory.{NoMemory}
use Rattle.std.specs.List.{AllByRecursion}
use Rattle.std.proofs.lemmas.List.{map-append}
use Rattle.std.proofs.lemmas.List.Sorted.{IsPermutation-refl}
use Rattle.std.proofs.lemmas.List.Sums.{sum_by-append, sum_by-cons}
use Rattle.brick_spec.specs.Flow.{Flow}
use Rattle.brick_spec.specs.FlowClass.{NatPlan}
use Rattle.brick_spec.specs.FlowStage.{FlowStage, nothing}
use Rattle.batch_ops.specs.Maybe.{maybe}
use Rattle.batch_ops.specs.Operator.{Meaning}
use Rattle.batch_ops.specs.Then.{in_turn}
use Rattle.batch_ops.specs.Treat.{RowHolds, held_by, stages_at, in_row}
use Rattle.read_row.specs.declared.row.ReadRow.{ReadRow}
use Rattle.stage_path.specs.Path.{path}
use Rattle.stage_row.specs.Plain.{plain_kind, IsNew}
use Rattle.stage_row.specs.declared.plain.PlainStage.{PlainStage}
use Rattle.window_stage.specs.StageMeaning.{window_meaning}
use Rattle.window_stage.specs.declared.stage.WindowStage.{WindowStage}
use Rattle.chain_spec.specs.ChainSet.{Stage, Window, Unparsed, windows_in, is_window}
use Rattle.tenant_spec.specs.ChainPlan.{stage_of, row_of, before_stages}
use Rattle.chain_nodes.specs.Work.{none_came}
use Rattle.chain_run.specs.Built.{IsPath}
use Rattle.chain_run.specs.Plain.{AddsPlain, IsFirst, WindowBuilt}

rows_begin : (ss : List PlainStage) → AllByRecursion IsNew ss → (f : Flow) → RowHolds (held_by plain_kind) ss f none_came nothing
rows_begin [] h f = (refl, refl)
rows_begin (s ∷ ss) (h, hs) f = (nothing, nothing, (refl, h f), rows_begin ss hs f, refl, IsPermutation-refl [])

one_more : (a b : ℕ) → a + (1 + b) ≡ 0 → ⊥
one_more a b e = absurd (omega (arith, e))

has_window : (xs : List Stage) (size reach : ℕ) (ys : List Stage) → windows_in (xs ++ Window size reach ∷ ys) ≡ 0 → ⊥
has_window xs size reach ys e =
    let a : windows_in (xs ++ Window size reach ∷ ys) ≡ windows_in xs + windows_in (Window size reach ∷ ys) = sum_by-append (λ s. cond (is_window s) 1 0) xs (Window size reach ∷ ys) in
    let b : windows_in (Window size reach ∷ ys) ≡ 1 + windows_in ys = sum_by-cons (λ s. cond (is_window s) 1 0) (Window size reach) ys in
    one_more (windows_in xs) (windows_in ys) (sym (a ∙ ap (λ n. windows_in xs + n) b) ∙ e)

module _ {T : Type 0} (first : T → WindowStage) (second : T → ReadRow PlainStage) (failed : T → Bool) where
  -- what a window and the stages behind it mean
  abbrev pub bent_meaning : Meaning T
  bent_meaning = in_turn window_meaning (in_row plain_kind (λ (r : ReadRow PlainStage). r.stages.items) (λ (r : ReadRow PlainStage). r.failed)) first second failed

  -- a path by its parts
  abbrev parts_meaning : Meaning (List PlainStage × Option T)
  parts_meaning = path plain_kind (maybe bent_meaning) (λ (x : List PlainStage × Option T). x.0) (λ x. x.1) (λ x. false)

  straight_is : (nat : Option NatPlan) (count bytes : ℕ) (unparsed : Unparsed) (stages : List Stage) (before l : List PlainStage) → IsFirst unparsed before → AddsPlain nat stages before l → IsPath parts_meaning nat count bytes (before_stages unparsed) stages (l, None)
  straight_is nat count bytes unparsed stages before l i a = record {
    row = λ j flow. (append-nil (stages_at plain_kind l flow) ∙ (a.row flow ∙ ap (λ r. r ++ row_of nat stages flow) (i.row flow))) j;
    begins = λ f. (nothing, nothing, rows_begin l (a.new i.new) f, (refl, refl), refl, IsPermutation-refl []);
    ready = tt;
    few = omega arith;
    room = omega arith;
    bare = λ e. refl;
  }

  bent_is : (nat : Option NatPlan) (count bytes : ℕ) (unparsed : Unparsed) (xs : List Stage) (x : Stage) (ys : List Stage) (before l after : List PlainStage) (w : WindowStage) (t : T) → IsFirst unparsed before → AddsPlain nat xs before l → WindowBuilt count bytes x w → AddsPlain nat ys [] after
      → first t ≡ w → (second t).stages.items ≡ after → IsPath parts_meaning nat count bytes (before_stages unparsed) (xs ++ x ∷ ys) (l, Some t)
  bent_is nat count bytes unparsed xs x ys before l after w t i a b d e g =
      let u = subst (WindowBuilt count bytes x) (sym e) b in
      let rest = subst (AddsPlain nat ys []) (sym g) d in
      let s = first t in
      record {
        row = λ j flow.
            ((λ k. (a.row flow ∙ ap (λ r. r ++ row_of nat xs flow) (i.row flow)) k ++ stage_of nat flow (Window s.size s.reach) ∷ rest.row flow k)
            ∙ (append_assoc (before_stages unparsed) (row_of nat xs flow) (stage_of nat flow (Window s.size s.reach) ∷ row_of nat ys flow)
            ∙ ap (λ r. before_stages unparsed ++ r) (sym (map-append (stage_of nat flow) xs (x ∷ ys) ∙ ap (λ z. row_of nat xs flow ++ stage_of nat flow z ∷ row_of nat ys flow) u.is)))) j;
        begins = λ f. (nothing, nothing, rows_begin l (a.new i.new) f, (nothing, nothing, u.begins f, rows_begin (second t).stages.items (rest.new tt) f, refl, IsPermutation-refl []), refl, IsPermutation-refl []);
        ready = (tt, tt);
        few = let n = u.few in omega (arith, n);
        room = let n = u.room in omega (arith, n);
        bare = λ z. absurd (has_window xs s.size s.reach ys (subst (λ y. windows_in (xs ++ y ∷ ys) ≡ 0) u.is z));
      }

  module _ {P : Type 0} (rows : P → Vec PlainStage) (behind : P → Option T) (gave_up : P → Bool) where
    abbrev pub path_meaning : Meaning P
    path_meaning = path plain_kind (maybe bent_meaning) (λ p. (rows p).items) behind gave_up

    by_parts : (nat : Option NatPlan) (count bytes : ℕ) (fs : List FlowStage) (ss : List Stage) (p : P) → IsPath parts_meaning nat count bytes fs ss ((rows p).items, behind p) → IsPath path_meaning nat count bytes fs ss p
    by_parts nat count bytes fs ss p h = record { row = h.row; begins = h.begins; ready = h.ready; few = h.few; room = h.room; bare = h.bare }

    pub straight_path : (nat : Option NatPlan) (count bytes : ℕ) (unparsed : Unparsed) (stages : List Stage) (before : List PlainStage) (v : Vec PlainStage) (p : P) → IsFirst unparsed before → AddsPlain nat stages before v.items → rows p ≡ v → behind p ≡ None
        → IsPath path_meaning nat count bytes (before_stages unparsed) stages p
    straight_path nat count bytes unparsed stages before v p i a e f =
        by_parts nat count bytes (before_stages unparsed) stages p (subst (IsPath parts_meaning nat count bytes (before_stages unparsed) stages) (λ j. ((sym e j).items, sym f j)) (straight_is nat count bytes unparsed stages before v.items i a))

    bent_path : (nat : Option NatPlan) (count bytes : ℕ) (unparsed : Unparsed) (xs : List Stage) (x : Stage) (ys : List Stage) (before : List PlainStage) (v after : Vec PlainStage) (w : WindowStage) (p : P) → IsFirst unparsed before → AddsPlain nat xs before v.items → WindowBuilt count bytes x w
        → AddsPlain nat ys [] after.items → rows p ≡ v → IsSomeAnd (behind p) (λ t. (first t ≡ w) × ((second t).stages ≡ after)) → IsPath path_meaning nat count bytes (before_stages unparsed) (xs ++ x ∷ ys) p
    bent_path nat count bytes unparsed xs x ys before v after w p i a b d e h =
        by_parts nat count bytes (before_stages unparsed) (xs ++ x ∷ ys) p (subst (λ (z : Vec PlainStage). IsPath parts_meaning nat count bytes (before_stages unparsed) (xs ++ x ∷ ys) (z.items, behind p)) (sym e) (some (behind p) h)) where
          some : (o : Option T) → IsSomeAnd o (λ t. (first t ≡ w) × ((second t).stages ≡ after)) → IsPath parts_meaning nat count bytes (before_stages unparsed) (xs ++ x ∷ ys) (v.items, o)
          some None g = absurd g
          some (Some t) (g, k) = bent_is nat count bytes unparsed xs x ys before v.items after.items w t i a b d g (ap (λ (z : Vec PlainStage). z.items) k)

    pub bent_made : (nat : Option NatPlan) (count bytes : ℕ) (unparsed : Unparsed) (xs : List Stage) (x : Stage) (ys zs : List Stage) (before : List PlainStage) (v after : Vec PlainStage) (w : WindowStage) (r : Result P NoMemory) → zs ≡ xs ++ x ∷ ys → IsFirst unparsed before
        → AddsPlain nat xs before v.items → WindowBuilt count bytes x w → AddsPlain nat ys [] after.items → IfOk r (λ p. rows p ≡ v) → IfOk r (λ p. IsSomeAnd (behind p) (λ t. (first t ≡ w) × ((second t).stages ≡ after)))
        → IfOk r (IsPath path_meaning nat count bytes (before_stages unparsed) zs)
    bent_made nat count bytes unparsed xs x ys zs before v after w (Err f) cut i a b d e h = tt
    bent_made nat count bytes unparsed xs x ys zs before v after w (Ok p) cut i a b d e h =
        subst (λ ss. IsPath path_meaning nat count bytes (before_stages unparsed) ss p) (sym cut) (bent_path nat count bytes unparsed xs x ys before v after w p i a b d e h)

-- a list around one of its places
pub cut_at : {X Y : Type 0} (view : Y → X) (ss : List Y) (i : ℕ) (s : Y) → i < length ss → s ≡ get_or ss i s → map view ss ≡ map view (take i ss) ++ view s ∷ map view (drop (i + 1) ss)
cut_at view [] i s l e = absurd (omega (arith, l))
cut_at view (y ∷ ys) zero s l e = ap (λ z. view z ∷ map view ys) (sym e)
cut_at view (y ∷ ys) (suc i) s l e =
    let z : suc (i + 1) ≡ suc i + 1 = omega arith in
    ap (λ zs. view y ∷ zs) (cut_at view ys i s (omega arith) e) ∙ ap (λ n. view y ∷ (map view (take i ys) ++ view s ∷ map view (drop n (y ∷ ys)))) z
