-- What a store in memory keeps.
use Rattle.std.specs.Prelude.{◌≡◌, ◌≢◌, ℕ, ◌-◌, ◌<◌, min, List, [], ◌∷◌, ◌++◌, length, take, drop, Some, None, Vec}
use Rattle.std.specs.Prelude.{String, string_bytes, bytes_eq, count_by, HoldsAt, ◌==◌, ◌&&◌, if◌then◌else◌}
use Rattle.std.specs.List.{AllByRecursion}
use Rattle.std.specs.declared.alloc.Global.{Global}
use Rattle.brick_spec.specs.Files.{Files, FaultCounts}

-- a file, as the name and the bytes
abbrev pub File : Type 0
File = String Global × Vec ℕ Global

-- what the files say: the bytes of the first one of the name
abbrev pub held : List File → Files
held [] name = None
held (f ∷ fs) name = if bytes_eq (string_bytes f.0) name then Some f.1.items else held fs name

-- no name stands twice
abbrev pub AreDistinct : List File → Type 0
AreDistinct [] = Unit {0}
AreDistinct (f ∷ fs) = AllByRecursion (λ g. string_bytes f.0 ≢ string_bytes g.0) fs × AreDistinct fs

-- how often the log has this account and name
abbrev pub failures : List (ℕ × String Global) → FaultCounts
failures log account name = count_by (λ f. f.0 == account && bytes_eq (string_bytes f.1) name) log

-- the first file of the name stands at this place
pub record IsPlace (files : List File) (name : List ℕ) (i : ℕ) : Type 0 where
  pub there : i < length files
  pub first : held (take i files) name ≡ None
  pub here : HoldsAt (λ f. string_bytes f.0 ≡ name) files i

-- As many bytes of the content from a place on as there are and fit are at the front of the buffer, and the rest of it
-- stays.
pub record GivesMost (content : List ℕ) (at : ℕ) (old new : List ℕ) (n : ℕ) : Type 0 where
  pub count : n ≡ min (length old) (length content - at)
  pub bytes : new ≡ take n (drop at content) ++ drop n old
