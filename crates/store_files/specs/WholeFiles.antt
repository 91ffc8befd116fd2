-- Whole files, read and written.
use Rattle.std.specs.Prelude.{◌≡◌, ◌≢◌, ℕ, ◌≤◌, List, [], ◌++◌, map, Some, unwrap_or, string_bytes}
use Rattle.brick_spec.specs.Cause.{Rose}
use Rattle.brick_spec.specs.Files.{Files, FaultCounts, MayAppend, OthersStay}
use Rattle.brick_spec.specs.Item.{items_text}
use Rattle.brick_spec.specs.Texts as spec
use Rattle.pcap_io.specs.View.{item_view}
use Rattle.store_io.specs.declared.traits.IoFault.{IoFault}
use Rattle.store_io.specs.declared.traits.IoFault.TheVariants as io
use Rattle.store_files.specs.declared.reading.ReadFault.{ReadFault}
use Rattle.store_files.specs.declared.reading.ReadFault.TheVariants.{Failed, NoMemory}
use Rattle.store_files.specs.declared.writing.Content.{Content}
use Rattle.store_files.specs.declared.writing.Content.TheVariants.{Bytes, Capture}
use Rattle.store_files.specs.declared.writing.Text.{Text}

-- No count falls, those of other accounts stay, and that of the account on the name rose where the work failed.
pub record Causes (account : ℕ) (name : List ℕ) (before now : FaultCounts) (failed : Type 0) : Type 0 where
  pub later : (a : ℕ) (n : List ℕ) → before a n ≤ now a n
  pub others : (a : ℕ) (n : List ℕ) → a ≢ account → now a n ≡ before a n
  pub cause : failed → Rose (before account name) (now account name)

-- what a fault of a store is to the reader of a whole file
abbrev pub read_fault : IoFault → ReadFault
read_fault io.Failed = Failed
read_fault io.NoMemory = NoMemory

-- the bytes of a file, where it is there
abbrev pub held_at : List ℕ → Files → List ℕ
held_at name files = unwrap_or (files name) []

abbrev pub IsThere : List ℕ → Files → Type 0
IsThere name files = files name ≡ Some (held_at name files)

-- The file is there, and has a front of the bytes behind what it had; the rest of them is left. Every other name has
-- what it had.
pub record Puts (name bytes left : List ℕ) (old new : Files) : Type 0 where
  pub there : IsThere name new
  pub front : List ℕ
  pub has : held_at name new ≡ held_at name old ++ front
  pub all : front ++ left ≡ bytes
  pub others : OthersStay name old new

-- The file is there, and has a prefix of the bytes behind what it had. Every other name has what it had.
pub record Grows (name bytes : List ℕ) (old new : Files) : Type 0 where
  pub there : IsThere name new
  pub appends : MayAppend name bytes old new
  pub others : OthersStay name old new

-- the bytes that are written
abbrev pub content_bytes : Content → List ℕ
content_bytes (Bytes bytes) = bytes.now
content_bytes (Capture nano items) = items_text nano (map item_view items.now)

abbrev pub text_view : Text → spec.Text
text_view t = record { name = string_bytes t.name; bytes = content_bytes t.content }
