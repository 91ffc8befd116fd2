-- What files say.
use Rattle.std.proofs.Common.{◌≡◌, ◌≢◌, ℕ, ◌+◌, ◌<◌, suc, List, [], ◌∷◌, ◌++◌, length, take, drop, set, get_or, true, false, Bool, cond, Some, None, bytes_eq, string_bytes, refl, sym, ◌∙◌, ap, subst}
use Rattle.std.proofs.lemmas.List.{take_more, set_split, append-nil}
use Rattle.std.proofs.Math.Seq.{drop-cons}
use Rattle.std.proofs.lemmas.List.{take-append-drop, get_or_default}
use Rattle.std.proofs.lemmas.Slice.Eq.{bytes_eq-Decides}
use Rattle.std.proofs.lemmas.Bool.{false_from_ne_true}
use Rattle.std.proofs.Common.{unwrap_or, Vec, ◌⊎◌, inl, inr, Decides}
use Rattle.std.proofs.lemmas.Bool.{false≢true}
use Rattle.std.specs.declared.alloc.Global.{Global}
use Rattle.brick_spec.specs.Files.{Files, Appends, MayAppend, OthersStay}
use Rattle.store_io.specs.Memory.{File, held, IsPlace}

-- past files that haven't the name
pub held_past : (before after : List File) (name : List ℕ) → held before name ≡ None → held (before ++ after) name ≡ held after name
held_past [] after name none = refl
held_past (f ∷ fs) after name none = elim (bytes_eq (string_bytes f.0) name) as (λ b. cond b (Some f.1.items) (held fs name) ≡ None → cond b (Some f.1.items) (held (fs ++ after) name) ≡ held after name) [
  | true ↦ λ h. cc
  | false ↦ λ h. held_past fs after name h
] none

-- one more that hasn't it
pub held_more : (files : List File) (name : List ℕ) (i : ℕ) (f : File) → i < length files → f ≡ get_or files i f → bytes_eq (string_bytes f.0) name ≡ false
    → held (take i files) name ≡ None → held (take (i + 1) files) name ≡ None
held_more files name i f there is differs none =
    ap (λ (l : List File). held l name) (take_more files i f there)
    ∙ held_past (take i files) (get_or files i f ∷ []) name none
    ∙ ap (λ (g : File). held (g ∷ []) name) (sym is)
    ∙ ap (λ (b : Bool). cond b (Some f.1.items) None) differs

-- a file of another name says nothing
pub held_skip : (before after : List File) (f : File) (name : List ℕ) → bytes_eq (string_bytes f.0) name ≡ false → held (before ++ f ∷ after) name ≡ held (before ++ after) name
held_skip [] after f name differs = ap (λ (b : Bool). cond b (Some f.1.items) (held after name)) differs
held_skip (g ∷ gs) after f name differs = ap (cond (bytes_eq (string_bytes g.0) name) (Some g.1.items)) (held_skip gs after f name differs)

named : (f : File) (name : List ℕ) → string_bytes f.0 ≡ name → bytes_eq (string_bytes f.0) name ≡ true
named f name is = (bytes_eq-Decides (string_bytes f.0) name).1 is

unnamed : (f : File) (name other : List ℕ) → string_bytes f.0 ≡ name → other ≢ name → bytes_eq (string_bytes f.0) other ≡ false
unnamed f name other is differs = false_from_ne_true _ (λ same. differs (sym ((bytes_eq-Decides (string_bytes f.0) other).0 same) ∙ is))

-- the first of the name says what it has
pub held_first : (before after : List File) (f : File) (name : List ℕ) → held before name ≡ None → string_bytes f.0 ≡ name → held (before ++ f ∷ after) name ≡ Some f.1.items
held_first before after f name none is =
    held_past before (f ∷ after) name none ∙ ap (λ (b : Bool). cond b (Some f.1.items) (held after name)) (named f name is)

-- the files before a place, the one there, and those behind it
pub split_at : (files : List File) (i : ℕ) (f : File) → i < length files → f ≡ get_or files i f → files ≡ take i files ++ f ∷ drop (suc i) files
split_at files i f there is = sym (take-append-drop i files) ∙ ap (λ (l : List File). take i files ++ l) (drop-cons files i f there ∙ ap (λ (g : File). g ∷ drop (suc i) files) (sym is))

pub held_place : (files : List File) (name : List ℕ) (i : ℕ) (f : File) → IsPlace files name i → f ≡ get_or files i f → held files name ≡ Some f.1.items
held_place files name i f place is =
    ap (λ (l : List File). held l name) (split_at files i f place.there is)
    ∙ held_first (take i files) (drop (suc i) files) f name place.first (ap (λ (g : File). string_bytes g.0) is ∙ place.here f)

pub held_set : (files : List File) (name : List ℕ) (i : ℕ) (f : File) → IsPlace files name i → string_bytes f.0 ≡ name → held (set files i f) name ≡ Some f.1.items
held_set files name i f place is =
    ap (λ (l : List File). held l name) (set_split files i f place.there)
    ∙ held_first (take i files) (drop (suc i) files) f name place.first is

pub held_set_other : (files : List File) (name : List ℕ) (i : ℕ) (f : File) → IsPlace files name i → string_bytes f.0 ≡ name → (other : List ℕ) → other ≢ name → held (set files i f) other ≡ held files other
held_set_other files name i f place is other differs =
    let g : File = get_or files i f in
    let g_is : g ≡ get_or files i g = get_or_default files i f g place.there in
    ap (λ (l : List File). held l other) (set_split files i f place.there)
    ∙ held_skip (take i files) (drop (suc i) files) f other (unnamed f name other is differs)
    ∙ sym (held_skip (take i files) (drop (suc i) files) g other (unnamed g name other (place.here f) differs))
    ∙ ap (λ (l : List File). held l other) (sym (split_at files i g place.there g_is))

pub held_push : (files : List File) (name : List ℕ) (f : File) → held files name ≡ None → string_bytes f.0 ≡ name → held (files ++ f ∷ []) name ≡ Some f.1.items
held_push files name f none is = held_first files [] f name none is

pub held_push_other : (files : List File) (name : List ℕ) (f : File) → string_bytes f.0 ≡ name → (other : List ℕ) → other ≢ name → held (files ++ f ∷ []) other ≡ held files other
held_push_other files name f is other differs = held_skip files [] f other (unnamed f name other is differs) ∙ ap (λ (l : List File). held l other) (append-nil files)

-- the name of the file at a place
pub name_at : (files : List File) (name : List ℕ) (i : ℕ) (f : File) → IsPlace files name i → f ≡ get_or files i f → string_bytes f.0 ≡ name
name_at files name i f place is = ap (λ (g : File). string_bytes g.0) is ∙ place.here f

cases_bytes : (xs ys : List ℕ) → (xs ≡ ys) ⊎ (xs ≢ ys)
cases_bytes xs ys = elim (bytes_eq xs ys) as (λ b. Decides b (xs ≡ ys) → (xs ≡ ys) ⊎ (xs ≢ ys)) [
  | true ↦ λ d. inl (d.0 refl)
  | false ↦ λ d. inr (λ same. false≢true (d.1 same))
] (bytes_eq-Decides xs ys)

-- the file at a place is written anew
pub set_says : (files : List File) (name : List ℕ) (i : ℕ) (f : File) (v : Vec ℕ Global) (bytes : List ℕ) → IsPlace files name i → f ≡ get_or files i f → v.items ≡ bytes
    → held (set files i (f.0, v)) name ≡ Some bytes
set_says files name i f v bytes place is items = held_set files name i (f.0, v) place (name_at files name i f place is) ∙ ap (λ (b : List ℕ). Some b) items

pub set_others : (files : List File) (name : List ℕ) (i : ℕ) (f : File) (v : Vec ℕ Global) → IsPlace files name i → f ≡ get_or files i f
    → OthersStay name (held files) (held (set files i (f.0, v)))
set_others files name i f v place is = held_set_other files name i (f.0, v) place (name_at files name i f place is)

pub set_appends : (files : List File) (name : List ℕ) (i : ℕ) (f : File) (v : Vec ℕ Global) (bytes : List ℕ) → IsPlace files name i → f ≡ get_or files i f → v.items ≡ f.1.items ++ bytes
    → Appends name bytes (held files) (held (set files i (f.0, v)))
set_appends files name i f v bytes place is items =
    set_says files name i f v (f.1.items ++ bytes) place is items
    ∙ ap (λ (o : _). Some (unwrap_or o [] ++ bytes)) (sym (held_place files name i f place is))

-- the same bytes again
pub set_same : (files : List File) (name : List ℕ) (i : ℕ) (f : File) (v : Vec ℕ Global) → IsPlace files name i → f ≡ get_or files i f → v.items ≡ f.1.items
    → (other : List ℕ) → held (set files i (f.0, v)) other ≡ held files other
set_same files name i f v place is items other = elim (cases_bytes other name) [
  | inl same ↦ subst (λ (n : List ℕ). held (set files i (f.0, v)) n ≡ held files n) (sym same) (set_says files name i f v f.1.items place is items ∙ sym (held_place files name i f place is))
  | inr differs ↦ set_others files name i f v place is other differs
]

-- all of the bytes are a front of them
pub all_appended : (name bytes : List ℕ) (old new : Files) → Appends name bytes old new → MayAppend name bytes old new
all_appended name bytes old new done = inr (bytes, ([], sym (append-nil bytes)), done)

-- a half of them is
pub half_appended : (name bytes : List ℕ) (n : ℕ) (old new : Files) → Appends name (take n bytes) old new → MayAppend name bytes old new
half_appended name bytes n old new done = inr (take n bytes, (drop n bytes, sym (take-append-drop n bytes)), done)
