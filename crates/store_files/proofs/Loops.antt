-- What the loops over a store keep.
use Rattle.std.proofs.Common.{◌≡◌, ◌≢◌, ℕ, ◌<◌, ◌≤◌, List, [], ◌++◌, length, take, Some, unwrap_or}
use Rattle.std.proofs.lemmas.Grind.{common_steps}
use Rattle.std.proofs.lemmas.Option.{same_Some}
use Rattle.std.proofs.Math.Seq.{take-add}
use Rattle.brick_spec.specs.Files.{GivesFrom}
use Rattle.std.proofs.Common.{arith, refl, drop, ◌+◌, ◌-◌, subst, length-append, length-take-le, None, Ok, Option, IsSomeAnd, inl, inr, sym, ◌∙◌, ap}
use Rattle.brick_spec.specs.Files.{Files, FaultCounts, OthersStay, AllStay, MayAppend}
use Rattle.store_io.specs.Calls.{Reads}
use Rattle.brick_spec.specs.Texts.{MayHold}

-- the file has what isn't left of the text
pub record Written (name text rest : List ℕ) (old new : Files) : Type 0 where
  pub there : new name ≡ Some (unwrap_or (new name) [])
  pub says : unwrap_or (new name) [] ++ rest ≡ text
  pub others : OthersStay name old new

-- no count has fallen, and those of other accounts stand
pub record Later (account : ℕ) (before now : FaultCounts) : Type 0 where
  pub later : (a : ℕ) (n : List ℕ) → before a n ≤ now a n
  pub others : (a : ℕ) (n : List ℕ) → a ≢ account → now a n ≡ before a n

-- what was read is the front of the file
pub record ReadSoFar (name bytes : List ℕ) (old new : Files) : Type 0 where
  pub front : (content : List ℕ) → old name ≡ Some content → (bytes ≡ take (length bytes) content) × (length bytes ≤ length content)
  pub there : 0 < length bytes → old name ≡ Some (unwrap_or (old name) [])
  pub stay : AllStay old new

-- what is written where a piece fails is a front of the text
pub front_written : (name text rest piece after : List ℕ) (old mid new : Files) → Written name text rest old mid → piece ++ after ≡ rest → MayAppend name piece mid new → MayHold old new (record { name = name; bytes = text })
front_written name text rest piece after old mid new w cut (inl same) =
    inr (rw (same, w.there) (rest, sym w.says))
front_written name text left piece after old mid new w cut (inr part) =
    let front : List ℕ = part.0 in
    let rest : List ℕ = part.1.0 in
    let splits : piece ≡ front ++ rest = part.1.1 in
    let whole : text ≡ (unwrap_or (mid name) [] ++ front) ++ (rest ++ after) = sym w.says ∙ ap (λ (l : List ℕ). unwrap_or (mid name) [] ++ l) (sym cut) ∙ ap (λ (p : List ℕ). unwrap_or (mid name) [] ++ (p ++ after)) splits ∙ grind (arith, common_steps) in
    inr (rw part.2 (rest ++ after, whole))

some_and : {T : Type 0} (o : Option T) (P : T → Type 0) → IsSomeAnd o P → (x : T) × (o ≡ Some x) × P x
some_and None P h = absurd h
some_and (Some x) P h = (x, refl, h)

-- a longer front of the content
front_more : (bytes into content : List ℕ) (count : ℕ) → bytes ≡ take (length bytes) content → length bytes ≤ length content → count ≤ length into
    → take count into ≡ take count (drop (length bytes) content) → count ≤ length content - length bytes
    → (bytes ++ take count into ≡ take (length (bytes ++ take count into)) content) × (length (bytes ++ take count into) ≤ length content)
front_more bytes into content count is short fits gives there =
    let grown : length (bytes ++ take count into) ≡ length bytes + count = length-append bytes (take count into) ∙ ap (λ (n : ℕ). length bytes + n) (length-take-le count into fits) in (
      ap (λ (l : List ℕ). l ++ take count into) is ∙ ap (λ (l : List ℕ). take (length bytes) content ++ l) gives
          ∙ sym (take-add (length bytes) count content) ∙ ap (λ (n : ℕ). take n content) (sym grown),
      omega (arith, grown),
    )

-- one more piece was read
pub read_more : (name bytes into : List ℕ) (count : ℕ) (old mid new : Files) → ReadSoFar name bytes old mid → count ≤ length into
    → Reads name (length bytes) mid new into (Ok count) → ReadSoFar name (bytes ++ take count into) old new
read_more name bytes into count old mid new so_far fits reads =
    let found = some_and (mid name) _ reads.gives in
    let is : old name ≡ Some found.0 = sym (so_far.stay name) ∙ found.1 in
    record {
      front = λ content has.
          let same : found.0 ≡ content = same_Some _ _ (sym is ∙ has) in
          let give : GivesFrom content (length bytes) into count = subst (λ (x : List ℕ). GivesFrom x (length bytes) into count) same found.2 in
          let kept = so_far.front content has in
          front_more bytes into content count kept.0 kept.1 fits give.bytes give.there;
      there = λ _. is ∙ ap (λ (o : Option (List ℕ)). Some (unwrap_or o [])) (sym is);
      stay = λ n. reads.held n ∙ so_far.stay n;
    }
