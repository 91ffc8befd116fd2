-- The tree of bytes that are a text, or are none, and of those that are too many; and what holds of an option's value.
use Rattle.std.proofs.Common.{◌≡◌, ◌≤◌, ℕ, Bool, true, false, cond, List, length, Option, Some, None, Err, refl, le-leb, nat_le, ap, ◌∙◌}
use Rattle.std.specs.Prelude.{IfSome}
use Rattle.std.specs.Str.{IsUtf8, is_utf8}
use Rattle.std.proofs.lemmas.Str.{IsUtf8-from_is_utf8, is_utf8-from_IsUtf8}
use Rattle.toml.specs.Data.{Members}
use Rattle.toml.specs.Parse.{parse_document}
use Rattle.chain_spec.specs.ChainFault as spec
use Rattle.chain_spec.specs.ChainWalk.{document, tree}

taken : {X : Type 0} (b : Bool) (x y : X) → b ≡ true → cond b x y ≡ x
taken b x y e = rw e refl

not_taken : {X : Type 0} (b : Bool) (P : Type 0) (x y : X) → (b ≡ true → P) → ¬ P → cond b x y ≡ y
not_taken true P x y is none = absurd (none (is refl))
not_taken false P x y is none = refl

pub document_text : (bytes : List ℕ) → IsUtf8 bytes → document bytes ≡ parse_document bytes
unfolding document
document_text bytes text = taken (is_utf8 bytes) (parse_document bytes) None (is_utf8-from_IsUtf8 bytes text)

pub document_none : (bytes : List ℕ) → ¬ IsUtf8 bytes → document bytes ≡ None
unfolding document
document_none bytes none = not_taken (is_utf8 bytes) (IsUtf8 bytes) (parse_document bytes) None (IsUtf8-from_is_utf8 bytes) none

-- what `toml` makes of bytes that are short enough is the tree
pub tree_is : (bytes : List ℕ) (m : Option Members) → length bytes ≤ 1048576 → document bytes ≡ m → tree bytes ≡ spec.or_fault spec.NotToml m
unfolding tree
tree_is bytes m short e = taken (nat_le (length bytes) 1048576) (spec.or_fault spec.NotToml (document bytes)) (Err spec.TooLong) (le-leb _ _ short) ∙ ap (spec.or_fault spec.NotToml) e

pub IfSome-weaker : {X : Type 0} (o : Option X) (P Q : X → Type 0) → ((x : X) → P x → Q x) → IfSome o P → IfSome o Q
IfSome-weaker None P Q f h = tt
IfSome-weaker (Some x) P Q f h = f x h
