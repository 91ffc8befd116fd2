-- What was made of a tenant is what the tenant meaning gives.
use Rattle.std.proofs.Common.{◌≡◌, ℕ, Bool, List, [], ◌∷◌, ◌++◌, map, length, refl, sym, ap, ◌∙◌, arith, Some, append_assoc}
use Rattle.std.specs.List.{zip, range_with_len}
use Rattle.std.proofs.lemmas.List.{length-map, map-append}
use Rattle.std.proofs.lemmas.List.FromFn.{length-range_with_len}
use Rattle.brick_spec.specs.Capture.{Contents}
use Rattle.brick_spec.specs.Item.{Item, items_text}
use Rattle.brick_spec.specs.Texts.{Text}
use Rattle.chain_spec.specs.ChainSet.{Chain, leaf_outputs, output_file, refused_file, file_names}
use Rattle.flow_spec.specs.Answer.{counts_of, leaf_lists, output_list}
use Rattle.tenant_spec.specs.ChainPlan.{plan_of}
use Rattle.tenant_spec.specs.Records.{accepted_items}
use Rattle.tenant_spec.specs.Tenant.{Output, Tally, output_with, outputs_made, reasons, refused_text, tally_of, text_with, texts_of}
use Rattle.pcap_io.specs.View.{item_view}
use Rattle.pcap_io.specs.declared.item.Item.{Item as ItemInCode}
use Rattle.work_core.specs.Result.{items_view}
use Rattle.work_core.specs.Made.{IsMade}
use Rattle.work_core.specs.declared.job.TenantDone.{TenantDone}
use Rattle.tenant_files.specs.Written.{output_of, tally_with, text_of, texts_with}

abbrev Lists : Type 0
Lists = List (List ItemInCode)

one_output : (name : List ℕ) (list : List ItemInCode) (n : ℕ) → n ≡ length list → ◌≡◌ {A = Output} (record { name = name; items = length list }) (record { name = name; items = n })
one_output name list n e = ap (λ k. let o : Output = record { name = name; items = k } in o) (sym e)

zip_outputs : (names : List (List ℕ)) (lists : Lists) → map output_of (zip names lists) ≡ map output_with (zip names (map items_view lists))
zip_outputs [] lists = refl
zip_outputs (n ∷ ns) [] = refl
zip_outputs (n ∷ ns) (l ∷ ls) =
    ap (λ o. o ∷ map output_of (zip ns ls)) (one_output n l (length (items_view l)) (length-map l item_view))
    ∙ ap (λ os. output_with (n, items_view l) ∷ os) (zip_outputs ns ls)

zip_texts : (out tenant : List ℕ) (nano : Bool) (last : List ℕ) (names : List (List ℕ)) (lists : Lists) → length names ≡ length lists
    → ◌≡◌ {A = List Text} (map (text_of out tenant nano) (zip names lists) ++ record { name = refused_file out tenant; bytes = last } ∷ [])
    (map text_with (zip (map (output_file out tenant) names ++ refused_file out tenant ∷ []) (map (items_text nano) (map items_view lists) ++ last ∷ [])))
zip_texts out tenant nano last [] [] e = refl
zip_texts out tenant nano last [] (l ∷ ls) e = absurd (omega arith)
zip_texts out tenant nano last (n ∷ ns) [] e = absurd (omega arith)
zip_texts out tenant nano last (n ∷ ns) (l ∷ ls) e = ap (λ ts. text_of out tenant nano (n, l) ∷ ts) (zip_texts out tenant nano last ns ls (omega arith))

outputs_long : (chain : Chain) (refused : List ℕ) (c : Contents) → length (outputs_made chain refused c) ≡ length chain.outputs
outputs_long chain refused c = omega (arith, length-map (range_with_len 0 (length chain.outputs)) (output_list (leaf_outputs chain) (leaf_lists (plan_of chain) (Some (length c.entries)) (accepted_items chain refused c))), length-range_with_len 0 (length chain.outputs))

lists_long : (chain : Chain) (refused : List ℕ) (c : Contents) (done : TenantDone) → IsMade chain refused c done → length chain.outputs ≡ length done.outputs.items
lists_long chain refused c done m =
    let a : length (map items_view done.outputs.items) ≡ length (outputs_made chain refused c) = ap length m.outputs in
    omega (arith, a, length-map done.outputs.items items_view, outputs_long chain refused c)

pub texts_are : (out : List ℕ) (chain : Chain) (refused : List ℕ) (c : Contents) (done : TenantDone) → IsMade chain refused c done → texts_with out chain c.nano refused done.outputs.items ≡ texts_of out chain refused c
texts_are out chain refused c done m =
    zip_texts out chain.name c.nano (refused_text refused) chain.outputs done.outputs.items (lists_long chain refused c done m)
    ∙ ap (λ (ls : List (List Item)). map text_with (zip (file_names out chain) (map (items_text c.nano) ls ++ refused_text refused ∷ []))) m.outputs

abbrev tally : ℕ → ℕ → List ℕ → List Output → Tally
tally a r d os = record { accepted = a; refused = r; drops = d; outputs = os }

pub tally_is : (chain : Chain) (refused : List ℕ) (c : Contents) (done : TenantDone) → IsMade chain refused c done → tally_with chain.outputs done ≡ tally_of chain refused c
tally_is chain refused c done m =
    ap (λ a. tally a (length done.refused) done.drops (map output_of (zip chain.outputs done.outputs.items))) m.accepted
    ∙ ap (λ (r : List ℕ). tally (length (accepted_items chain refused c)) (length r) done.drops (map output_of (zip chain.outputs done.outputs.items))) m.refused_are
    ∙ ap (λ d. tally (length (accepted_items chain refused c)) (length refused) d (map output_of (zip chain.outputs done.outputs.items))) m.drops
    ∙ ap (λ os. tally (length (accepted_items chain refused c)) (length refused) (counts_of (reasons chain refused c)) os)
    (zip_outputs chain.outputs done.outputs.items ∙ ap (λ (ls : List (List Item)). map output_with (zip chain.outputs ls)) m.outputs)

-- one more in front of the rest of a list
pub more_behind : {A B : Type 0} (f : A → B) (old new : List A) (x : A) (y : B) (rest : List B) → map f new ≡ map f (old ++ x ∷ []) ++ rest → f x ≡ y → map f new ≡ map f old ++ y ∷ rest
more_behind f old new x y rest is one =
    is ∙ ap (λ l. l ++ rest) (map-append f old (x ∷ [])) ∙ append_assoc (map f old) (f x ∷ []) rest ∙ ap (λ z. map f old ++ z ∷ rest) one

-- the first of two lists side by side, and then the others
pub zip_first : {A B C : Type 0} (f : A × B → C) (xs : List A) (ys : List B) (a : A) (b : B) (more : List A) (others : List B) (new old : List C) → xs ≡ a ∷ more → ys ≡ b ∷ others
    → new ≡ old ++ f (a, b) ∷ map f (zip more others) → new ≡ old ++ map f (zip xs ys)
zip_first f xs ys a b more others new old is are h = rw (is, are) h

pub same_output : (m n : List ℕ) (k l : ℕ) → m ≡ n → k ≡ l → ◌≡◌ {A = Output} (record { name = m; items = k }) (record { name = n; items = l })
same_output m n k l e f = ap (λ x. let o : Output = record { name = x; items = k } in o) e ∙ ap (λ x. let o : Output = record { name = n; items = x } in o) f
