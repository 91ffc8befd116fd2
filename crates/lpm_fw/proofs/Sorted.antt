-- A row more that is sorted by its side of a range.
use Rattle.std.proofs.Common.{◌≡◌, ◌≢◌, ◌∙◌, ℕ, ◌+◌, ◌-◌, ◌/◌, ◌^◌, ◌<◌, ◌≤◌, true, false, refl, sym, ap, arith, subst, List, [], ◌∷◌, ◌++◌, IfSome, Some, None, length, Option, ◌⊎◌, inl, inr}
use Rattle.std.specs.List.{slice_get}
use Rattle.std.proofs.lemmas.Bool.{cases_lt}
use Rattle.std.proofs.lemmas.Option.{same_Some, slice_get_within, slice_get-get_or}
use Rattle.std.proofs.lemmas.List.{length_push, get_or_append_left, get_or_push}
use Rattle.std.proofs.Math.Nat.{div-eq_of_lt}
use Rattle.brick_spec.specs.Route as spec
use Rattle.lpm_fw.specs.declared.routes.Route.{Route}
use Rattle.lpm_fw.specs.RouteView.{route_view}
use Rattle.lpm_fw.specs.Cells.{AreSorted, IsInside, IsAmong, IsAsLong, IsLonger, BestLeads, LeadsToAll, LeadsToNone, Finds, IsLongest, IsRowCell, row_of}
use Rattle.lpm_fw.proofs.Ranges.{first_bits}

-- nothing is in an empty list
nothing_there : (j k : ℕ) → slice_get [] j ≡ Some k → ⊥
nothing_there j k e = let within = slice_get_within [] j k e in omega arith

-- an address of a part is in the range
in_range : (addr w a : ℕ) → addr / 2 ^ w ≡ a → addr / 2 ^ (w + 8) ≡ a / 256
in_range addr w a e =
    let eight : w + 8 - w ≡ 8 = omega arith in
    first_bits addr w (w + 8) a (omega arith) e ∙ ap (λ n. a / 2 ^ n) eight

-- a row among those from a place on is the one there or among the later ones
later : (list : List ℕ) (from k n : ℕ) → slice_get list from ≡ Some k → IsAmong n list from → (n ≡ k) ⊎ IsAmong n list (from + 1)
later list from k n at (j, least, there) =
    elim (cases_lt from j) [
      | inl past ↦ inr (j, (omega arith), there)
      | inr here ↦ inl (let e : j ≡ from = omega arith in let both : Some n ≡ Some k = sym there ∙ ap (slice_get list) e ∙ at in same_Some n k both)
    ]

pub sorted_apart : (rows : List Route) (w a : ℕ) (list : List ℕ) (from k : ℕ) (row : Route) (inside : List ℕ) (best : Option ℕ)
    → slice_get rows k ≡ Some row → LeadsToNone w a row → slice_get list from ≡ Some k → AreSorted rows w a list from inside best → AreSorted rows w a list (from + 1) inside best
sorted_apart rows w a list from k row inside best there none at s = record {
  leads = s.leads;
  within = s.within;
  all = λ addr n other e at_n leads. elim (s.all addr n other e at_n leads) [
    | inr rest ↦ inr rest
    | inl among ↦ elim (later list from k n at among) [
      | inr later ↦ inl later
      | inl same ↦ absurd (
          let one : Some row ≡ Some other = sym there ∙ ap (slice_get rows) (sym same) ∙ at_n in
          let r : row ≡ other = same_Some row other one in
          let no : true ≡ false = sym leads ∙ ap (λ (x : Route). spec.leads_to addr (route_view x)) (sym r) ∙ none addr e in
          cc)
    ]
  ];
}

pub sorted_around : (rows : List Route) (w a : ℕ) (list : List ℕ) (from k : ℕ) (row : Route) (inside : List ℕ) (best best' : Option ℕ)
    → slice_get rows k ≡ Some row → LeadsToAll w a row → IsLonger rows best k best' → slice_get list from ≡ Some k → AreSorted rows w a list from inside best
    → AreSorted rows w a list (from + 1) inside best'
sorted_around rows w a list from k row inside best best' there leads' longer at s = record {
  leads = longer.leads w a s.leads (λ other at_k. subst (LeadsToAll w a) (same_Some row other (sym there ∙ at_k)) leads');
  within = s.within;
  all = λ addr n other e at_n leads. elim (s.all addr n other e at_n leads) [
    | inr (inl among) ↦ inr (inl among)
    | inr (inr short) ↦ inr (inr (longer.kept other.bits short))
    | inl among ↦ elim (later list from k n at among) [
      | inr later ↦ inl later
      | inl same ↦ inr (inr (longer.long other (ap (slice_get rows) (sym same) ∙ at_n)))
    ]
  ];
}

-- a list and one more
get_before : (xs : List ℕ) (y i : ℕ) → i < length xs → slice_get (xs ++ y ∷ []) i ≡ slice_get xs i
get_before xs y i within =
    slice_get-get_or (xs ++ y ∷ []) i y (let l = length_push xs y in omega arith) ∙ ap (λ (n : ℕ). Some n) (get_or_append_left xs (y ∷ []) y i within) ∙ sym (slice_get-get_or xs i y within)

get_last : (xs : List ℕ) (y : ℕ) → slice_get (xs ++ y ∷ []) (length xs) ≡ Some y
get_last xs y = slice_get-get_or (xs ++ y ∷ []) (length xs) y (let l = length_push xs y in omega arith) ∙ ap (λ (n : ℕ). Some n) (get_or_push xs y y (length xs) refl)

-- what is among some rows is among them and one more
among_more : (inside : List ℕ) (k n : ℕ) → IsAmong n inside 0 → IsAmong n (inside ++ k ∷ []) 0
among_more inside k n (j, least, there) = (j, least, get_before inside k j (slice_get_within inside j n there) ∙ there)

-- and so is that one
among_last : (inside : List ℕ) (k : ℕ) → IsAmong k (inside ++ k ∷ []) 0
among_last inside k = (length inside, (omega arith), get_last inside k)

inside_more : (rows : List Route) (w a k : ℕ) (inside : List ℕ) → ((j n : ℕ) → slice_get inside j ≡ Some n → IsInside rows w a n) → IsInside rows w a k
    → (j n : ℕ) → slice_get (inside ++ k ∷ []) j ≡ Some n → IsInside rows w a n
inside_more rows w a k inside each is j n at =
    elim (cases_lt j (length inside)) [
      | inl before ↦ each j n (sym (get_before inside k j before) ∙ at)
      | inr past ↦
          let within = slice_get_within (inside ++ k ∷ []) j n at in
          let long = length_push inside k in
          let e : j ≡ length inside = omega arith in
          subst (IsInside rows w a) (same_Some k n (sym (get_last inside k) ∙ ap (slice_get (inside ++ k ∷ [])) (sym e) ∙ at)) is
    ]

pub sorted_inside : (rows : List Route) (w a : ℕ) (list : List ℕ) (from k : ℕ) (inside : List ℕ) (best : Option ℕ)
    → IsInside rows w a k → slice_get list from ≡ Some k → AreSorted rows w a list from inside best → AreSorted rows w a list (from + 1) (inside ++ k ∷ []) best
sorted_inside rows w a list from k inside best is at s = record {
  leads = s.leads;
  within = inside_more rows w a k inside s.within is;
  all = λ addr n other e at_n leads. elim (s.all addr n other e at_n leads) [
    | inr (inl among) ↦ inr (inl (among_more inside k n among))
    | inr (inr short) ↦ inr (inr short)
    | inl among ↦ elim (later list from k n at among) [
      | inr later ↦ inl later
      | inl same ↦ inr (inl (subst (λ (m : ℕ). IsAmong m (inside ++ k ∷ []) 0) (sym same) (among_last inside k)))
    ]
  ];
}

pub best_within : (rows : List Route) (w a : ℕ) (best : Option ℕ) → BestLeads rows w a best → IfSome best (λ r. r < length rows)
best_within rows w a None leads = tt
best_within rows w a (Some r) (row, there, _) = slice_get_within rows r row there

pub best_few : (n : ℕ) (best : Option ℕ) → n ≤ 4096 → IfSome best (λ r. r < n) → IfSome best (λ r. r < 4096)
best_few n None few within = tt
best_few n (Some r) few within = omega arith

best_of_part : (rows : List Route) (w a : ℕ) (best : Option ℕ) → BestLeads rows (w + 8) (a / 256) best → BestLeads rows w a best
best_of_part rows w a None leads = tt
best_of_part rows w a (Some r) (row, there, all) = (row, there, λ addr e. all addr (in_range addr w a e))

-- the rows of a range begin to be sorted by a part of it
pub sorted_none : (rows : List Route) (w a : ℕ) (inside : List ℕ) (best : Option ℕ) → AreSorted rows (w + 8) (a / 256) [] 0 inside best → AreSorted rows w a inside 0 [] best
sorted_none rows w a inside best s = record {
  leads = best_of_part rows w a best s.leads;
  within = λ j k at. absurd (nothing_there j k at);
  all = λ addr k other e at leads. elim (s.all addr k other (in_range addr w a e) at leads) [
    | inl (j, least, there) ↦ absurd (nothing_there j k there)
    | inr (inl among) ↦ inl among
    | inr (inr long) ↦ inr (inr long)
  ];
}

-- and all of them are
pub sorted_all : (rows : List Route) (w a : ℕ) (list : List ℕ) (from : ℕ) (inside : List ℕ) (best : Option ℕ) → length list ≤ from → AreSorted rows w a list from inside best → AreSorted rows w a [] 0 inside best
sorted_all rows w a list from inside best past s = record {
  leads = s.leads;
  within = s.within;
  all = λ addr k other e at leads. elim (s.all addr k other e at leads) [
    | inl (j, least, there) ↦ absurd (let within = slice_get_within list j k there in omega arith)
    | inr rest ↦ inr rest
  ];
}

-- where none lies inside, the best row is that of each address of the range
finds_best : (rows : List Route) (w a : ℕ) (best : Option ℕ) → AreSorted rows w a [] 0 [] best → (addr : ℕ) → addr / 2 ^ w ≡ a → Finds rows addr best
finds_best rows w a None s addr e = λ k other at.
    elim (spec.leads_to addr (route_view other)) as (λ b. spec.leads_to addr (route_view other) ≡ b → b ≡ false) [
      | true ↦ λ h. elim (s.all addr k other e at h) [
        | inl (j, least, there) ↦ absurd (nothing_there j k there)
        | inr (inl (j, least, there)) ↦ absurd (nothing_there j k there)
        | inr (inr long) ↦ absurd long
      ]
      | false ↦ λ h. refl
    ] refl
finds_best rows w a (Some r) s addr e = record {
  row = s.leads.0;
  there = s.leads.1;
  here = s.leads.2 addr e;
  longest = λ k other at leads. elim (s.all addr k other e at leads) [
    | inl (j, least, there) ↦ absurd (nothing_there j k there)
    | inr (inl (j, least, there)) ↦ absurd (nothing_there j k there)
    | inr (inr (row, there, long)) ↦ subst (λ (x : Route). other.bits ≤ x.bits) (same_Some row s.leads.0 (sym there ∙ s.leads.1)) long
  ];
}

pub row_cell_found : (rows : List Route) (w a cell : ℕ) (inside : List ℕ) (best : Option ℕ) → AreSorted rows w a [] 0 inside best → inside ≡ [] → row_of cell ≡ best → IsRowCell rows w a cell
row_cell_found rows w a cell inside best s none e = record {
  found = λ addr at. subst (Finds rows addr) (sym e) (finds_best rows w a best (subst (λ (xs : List ℕ). AreSorted rows w a [] 0 xs best) none s) addr at);
}

-- all rows, of all addresses
pub sorted_every : (rows : List Route) (every : List ℕ) → length every ≡ length rows
    → ((k : ℕ) → k < length every → slice_get every k ≡ Some k) → AreSorted rows 32 0 [] 0 every None
sorted_every rows every long at = record {
  leads = tt;
  within = λ j k there.
      let w = slice_get_within every j k there in
      let e : j ≡ k = same_Some j k (sym (at j w) ∙ there) in
      record {
        within = omega arith;
        few = λ row at_k. omega arith;
        here = λ row at_k fits. div-eq_of_lt fits;
      };
  all = λ addr k other e there leads.
      let w = slice_get_within rows k other there in
      inr (inl (k, (omega arith), at k (omega arith)));
}
