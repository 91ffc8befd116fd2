-- Files that are written piece by piece.
use Rattle.std.proofs.Common.{◌≡◌, inl, inr, ℕ, List, [], ◌++◌, Option, Some, None, unwrap_or, append_assoc, append-nil, refl, sym, ap, ◌∙◌}
use Rattle.std.proofs.Common.{◌+◌, ◌<◌, ◌≤◌, ◌∷◌, Bool, map, flat_map, length, drop, get_or, add-one, drop-cons, subst}
use Rattle.std.proofs.lemmas.List.{drop_all}
use Rattle.brick_spec.specs.Bytes.{Little, four_bytes}
use Rattle.brick_spec.specs.Capture.{record_text, header_text}
use Rattle.brick_spec.specs.Files.{Files, Appends, MayAppend, OthersStay}
use Rattle.brick_spec.specs.Item.{entry_of, items_text}
use Rattle.pcap_io.specs.View.{item_view}
use Rattle.pcap_io.specs.declared.item.Item.{Item}
use Rattle.brick_spec.specs.Texts.{MayHold}
use Rattle.store_files.specs.WholeFiles.{held_at, IsThere, Puts, Grows}
use Rattle.store_files.proofs.Loops.{Written, front_written}

-- nothing was given yet
pub puts_none : (name bytes : List ℕ) (old : Files) → IsThere name old → Puts name bytes bytes old old
puts_none name bytes old there = record {
  there = there;
  front = [];
  has = sym (append-nil (held_at name old));
  all = refl;
  others = λ other apart. refl;
}

held_appended : (name bytes : List ℕ) (old new : Files) → Appends name bytes old new → held_at name new ≡ held_at name old ++ bytes
held_appended name bytes old new a = ap (λ (o : Option (List ℕ)). unwrap_or o []) a

there_appended : (name bytes : List ℕ) (old new : Files) → Appends name bytes old new → IsThere name new
there_appended name bytes old new a = a ∙ ap Some (sym (held_appended name bytes old new a))

-- all of it was given
pub puts_all : (name bytes : List ℕ) (old new : Files) → Appends name bytes old new → OthersStay name old new → Puts name bytes [] old new
puts_all name bytes old new a others = record {
  there = there_appended name bytes old new a;
  front = bytes;
  has = held_appended name bytes old new a;
  all = append-nil bytes;
  others = others;
}

-- what was given stands there
pub puts_grows : (name bytes left : List ℕ) (old new : Files) → Puts name bytes left old new → Grows name bytes old new
puts_grows name bytes left old new p = record {
  there = p.there;
  appends = inr (p.front, (left, sym p.all), p.there ∙ ap Some p.has);
  others = p.others;
}

-- a prefix of it was given
pub may_grows : (name bytes : List ℕ) (old new : Files) → IsThere name old → MayAppend name bytes old new → OthersStay name old new → Grows name bytes old new
may_grows name bytes old new there (inl same) others = record {
  there = same ∙ there ∙ ap (λ (o : Option (List ℕ)). Some (unwrap_or o [])) (sym same);
  appends = inl same;
  others = others;
}
may_grows name bytes old new there (inr part) others = record { there = there_appended name part.0 old new part.2; appends = inr part; others = others }

-- of what was left more was given
pub puts_then : (name bytes left more rest last : List ℕ) (old mid new : Files) → Puts name bytes left old mid → Puts name more last mid new → left ≡ more ++ rest → Puts name bytes (last ++ rest) old new
puts_then name bytes left more rest last old mid new p q cut = record {
  there = q.there;
  front = p.front ++ q.front;
  has = q.has ∙ ap (λ (l : List ℕ). l ++ q.front) p.has ∙ append_assoc (held_at name old) p.front q.front;
  all =
      let a : (p.front ++ q.front) ++ (last ++ rest) ≡ p.front ++ ((q.front ++ last) ++ rest) = simp append_assoc in
      a ∙ ap (λ (l : List ℕ). p.front ++ (l ++ rest)) q.all ∙ ap (λ (l : List ℕ). p.front ++ l) (sym cut) ∙ p.all;
  others = λ other apart. q.others other apart ∙ p.others other apart;
}

-- of what was left a prefix was given
pub grows_then : (name bytes left more rest : List ℕ) (old mid new : Files) → Puts name bytes left old mid → Grows name more mid new → left ≡ more ++ rest → Grows name bytes old new
grows_then name bytes left more rest old mid new p q cut = by q.appends
  where
    others : OthersStay name old new
    others other apart = q.others other apart ∙ p.others other apart

    by : MayAppend name more mid new → Grows name bytes old new
    by (inl same) = record {
      there = q.there;
      appends = inr (p.front, (left, sym p.all), same ∙ p.there ∙ ap Some p.has);
      others = others;
    }
    by (inr part) =
        let front : List ℕ = part.0 in
        let cut2 : more ≡ front ++ part.1.0 = part.1.1 in
        let a : (p.front ++ front) ++ (part.1.0 ++ rest) ≡ p.front ++ ((front ++ part.1.0) ++ rest) = simp append_assoc in
        let whole : (p.front ++ front) ++ (part.1.0 ++ rest) ≡ bytes =
        a ∙ ap (λ (l : List ℕ). p.front ++ (l ++ rest)) (sym cut2) ∙ ap (λ (l : List ℕ). p.front ++ l) (sym cut) ∙ p.all in
        record {
          there = q.there;
          appends = inr (
            p.front ++ front,
            (part.1.0 ++ rest, sym whole),
            part.2 ∙ ap (λ (l : List ℕ). Some (l ++ front)) p.has ∙ ap Some (append_assoc (held_at name old) p.front front),
          );
          others = others;
        }

-- what waits, and a front of the rest
pub cut_of : (waiting rest front after grown : List ℕ) → front ++ after ≡ rest → grown ≡ waiting ++ front → waiting ++ rest ≡ grown ++ after
cut_of waiting rest front after grown cut is =
    ap (λ (l : List ℕ). waiting ++ l) (sym cut) ∙ sym (append_assoc waiting front after) ∙ ap (λ (l : List ℕ). l ++ after) (sym is)

-- a file that has what is not left of the text got more of it
pub written_more : (name text bytes rest last : List ℕ) (old mid new : Files) → Written name text (bytes ++ rest) old mid → Puts name bytes last mid new → Written name text (last ++ rest) old new
written_more name text bytes rest last old mid new w p = record {
  there = p.there;
  says =
      let a : (held_at name mid ++ p.front) ++ (last ++ rest) ≡ held_at name mid ++ ((p.front ++ last) ++ rest) = simp append_assoc in
      ap (λ (l : List ℕ). l ++ (last ++ rest)) p.has ∙ a ∙ ap (λ (l : List ℕ). held_at name mid ++ (l ++ rest)) p.all ∙ w.says;
  others = λ other apart. p.others other apart ∙ w.others other apart;
}

-- and where that failed it has a prefix of the text
pub written_stopped : (name text bytes rest : List ℕ) (old mid new : Files) → Written name text (bytes ++ rest) old mid → Grows name bytes mid new → MayHold old new (record { name = name; bytes = text })
written_stopped name text bytes rest old mid new w g = front_written name text (bytes ++ rest) bytes rest old mid new w refl g.appends

-- what is left is nothing
pub written_whole : (name text : List ℕ) (old new : Files) → Written name text [] old new → new name ≡ Some text
written_whole name text old new w = w.there ∙ ap Some (sym (append-nil (held_at name new)) ∙ w.says)

-- ITEMS

-- the records of items
abbrev pub records_of : List Item → List ℕ
records_of items = flat_map (record_text Little) (map entry_of (map item_view items))

-- a record is its four numbers and its frame
pub record_cut : (waiting head : List ℕ) (item : Item) → head ≡ four_bytes Little item.seconds ++ (four_bytes Little item.fraction ++ (four_bytes Little (length item.frame) ++ four_bytes Little item.original))
    → waiting ++ record_text Little (entry_of (item_view item)) ≡ (waiting ++ head) ++ item.frame
record_cut waiting head item is = rw is (simp append_assoc)

first_of : (items : List Item) (k : ℕ) (item : Item) → k < length items → item ≡ get_or items k item → records_of (drop k items) ≡ record_text Little (entry_of (item_view item)) ++ records_of (drop (k + 1) items)
first_of items k item there is =
    let a : drop k items ≡ get_or items k item ∷ drop (k + 1) items = rw (add-one, drop-cons items k item there) refl in
    ap records_of (a ∙ ap (λ (x : Item). x ∷ drop (k + 1) items) (sym is))

next : (name text waiting : List ℕ) (items : List Item) (k : ℕ) (item : Item) (old mid : Files) → k < length items → item ≡ get_or items k item
    → Written name text (waiting ++ records_of (drop k items)) old mid → Written name text ((waiting ++ record_text Little (entry_of (item_view item))) ++ records_of (drop (k + 1) items)) old mid
next name text waiting items k item old mid there is w =
    subst (λ (l : List ℕ). Written name text l old mid)
    (ap (λ (l : List ℕ). waiting ++ l) (first_of items k item there is) ∙ sym (append_assoc waiting (record_text Little (entry_of (item_view item))) (records_of (drop (k + 1) items)))) w

-- one more item was put
pub written_item : (name text waiting last : List ℕ) (items : List Item) (k : ℕ) (item : Item) (old mid new : Files) → k < length items → item ≡ get_or items k item
    → Written name text (waiting ++ records_of (drop k items)) old mid → Puts name (waiting ++ record_text Little (entry_of (item_view item))) last mid new
    → Written name text (last ++ records_of (drop (k + 1) items)) old new
written_item name text waiting last items k item old mid new there is w p =
    written_more name text (waiting ++ record_text Little (entry_of (item_view item))) (records_of (drop (k + 1) items)) last old mid new (next name text waiting items k item old mid there is w) p

-- and where that failed the file has a prefix of the text
pub stopped_item : (name text waiting : List ℕ) (items : List Item) (k : ℕ) (item : Item) (old mid new : Files) → k < length items → item ≡ get_or items k item
    → Written name text (waiting ++ records_of (drop k items)) old mid → Grows name (waiting ++ record_text Little (entry_of (item_view item))) mid new
    → MayHold old new (record { name = name; bytes = text })
stopped_item name text waiting items k item old mid new there is w g =
    written_stopped name text (waiting ++ record_text Little (entry_of (item_view item))) (records_of (drop (k + 1) items)) old mid new (next name text waiting items k item old mid there is w) g

-- no item is left
pub none_left : (waiting : List ℕ) (items : List Item) (k : ℕ) → length items ≤ k → waiting ++ records_of (drop k items) ≡ waiting ++ []
none_left waiting items k all = ap (λ (l : List Item). waiting ++ records_of l) (drop_all k items all)

-- the file is made, and its header waits
pub written_none : (name header : List ℕ) (items : List Item) (nano : Bool) (old new : Files) → header ≡ header_text nano → new name ≡ Some [] → OthersStay name old new
    → Written name (items_text nano (map item_view items)) (header ++ records_of items) old new
written_none name header items nano old new is made others = record {
  there = made ∙ ap (λ (o : Option (List ℕ)). Some (unwrap_or o [])) (sym made);
  says = ap (λ (o : Option (List ℕ)). unwrap_or o [] ++ (header ++ records_of items)) made ∙ ap (λ (l : List ℕ). l ++ records_of items) is;
  others = others;
}

-- what is left, and what is put, are the same
pub same_given : (waiting given rest : List ℕ) → given ≡ rest → waiting ++ rest ≡ (waiting ++ given) ++ []
same_given waiting given rest is = ap (λ (l : List ℕ). waiting ++ l) (sym is) ∙ sym (append-nil (waiting ++ given))

-- the rest was put
pub puts_end : (name bytes waiting given rest last : List ℕ) (old mid new : Files) → Puts name bytes (waiting ++ rest) old mid → Puts name (waiting ++ given) last mid new → given ≡ rest → Puts name bytes last old new
puts_end name bytes waiting given rest last old mid new p q is =
    subst (λ (l : List ℕ). Puts name bytes l old new) (append-nil last) (puts_then name bytes (waiting ++ rest) (waiting ++ given) [] last old mid new p q (same_given waiting given rest is))

-- all items were put, and what waited was given
pub written_rest : (name text waiting given : List ℕ) (items : List Item) (k : ℕ) (old mid new : Files) → length items ≤ k → given ≡ waiting
    → Written name text (waiting ++ records_of (drop k items)) old mid → Puts name given [] mid new → Written name text [] old new
written_rest name text waiting given items k old mid new all is w p =
    written_more name text given [] [] old mid new (subst (λ (l : List ℕ). Written name text l old mid) (none_left waiting items k all ∙ ap (λ (l : List ℕ). l ++ []) (sym is)) w) p

pub stopped_rest : (name text waiting given : List ℕ) (items : List Item) (k : ℕ) (old mid new : Files) → length items ≤ k → given ≡ waiting
    → Written name text (waiting ++ records_of (drop k items)) old mid → Grows name given mid new → MayHold old new (record { name = name; bytes = text })
stopped_rest name text waiting given items k old mid new all is w g =
    written_stopped name text given [] old mid new (subst (λ (l : List ℕ). Written name text l old mid) (none_left waiting items k all ∙ ap (λ (l : List ℕ). l ++ []) (sym is)) w) g

-- the whole is a prefix of itself
pub whole_may : (name text : List ℕ) (old new : Files) → new name ≡ Some text → MayHold old new (record { name = name; bytes = text })
whole_may name text old new is = inr (rw is ([], sym (append-nil text)))
