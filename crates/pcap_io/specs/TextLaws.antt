-- The laws of capture text: each list of bytes is whole in one way, or has one fault.
use Rattle.std.specs.Prelude.{◌≡◌, ◌⊎◌, ℕ, Bool, List}
use Rattle.std.specs.List.{AllByRecursion}
use Rattle.brick_spec.specs.Bytes.{Order, Little, IsBytes}
use Rattle.brick_spec.specs.Capture.{Entry, Fits, IsCapture, Contents, IsWhole, written_text}
use Rattle.brick_spec.specs.CaptureFault.{CaptureFault, Stands}

-- bytes are a whole capture, or one of the faults stands
abbrev pub EachIsWholeOrFaulty : Type 0
EachIsWholeOrFaulty =
    (bytes : List ℕ) → IsBytes bytes → ((c : Contents) × IsWhole bytes c) ⊎ ((f : CaptureFault) × Stands bytes f)

-- and not both
abbrev pub NoneIsWholeAndFaulty : Type 0
NoneIsWholeAndFaulty = (bytes : List ℕ) (c : Contents) (f : CaptureFault) → IsWhole bytes c → ¬ (Stands bytes f)

-- no two faults stand
abbrev pub FaultIsUnique : Type 0
FaultIsUnique = (bytes : List ℕ) (f g : CaptureFault) → Stands bytes f → Stands bytes g → f ≡ g

-- the byte order, the resolution and the entries of a whole capture are unique
abbrev pub CaptureIsUnique : Type 0
CaptureIsUnique = (bytes : List ℕ) (o p : Order) (n m : Bool) (es fs : List Entry) → IsCapture o n es bytes
    → IsCapture p m fs bytes → (o ≡ p) × (n ≡ m) × (es ≡ fs)

-- what is written of entries is a whole capture of them
abbrev pub WrittenIsCapture : Type 0
WrittenIsCapture =
    (nano : Bool) (es : List Entry) → AllByRecursion Fits es → IsCapture Little nano es (written_text nano es)
