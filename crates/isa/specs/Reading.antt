-- Readings of a text: its meaning, or its fault. In a chain of readings the first fault decides.
use Rattle.std.specs.Prelude.{◌≡◌, ℕ, List, codes, Result, Ok, Err}
use Rattle.isa.specs.declared.listing.fault.FaultKind.{FaultKind}
use Rattle.isa.specs.declared.listing.fault.FaultKind.TheVariants.{NotAscii, UnknownOp, BadRegister, BadNumber, BadOperands, UnknownLabel, DoubleLabel, TooLong, Memory}

-- the result of a function, seen by a view, is a reading
abbrev pub Reads : {X Y : Type 0} → (X → Y) → Result X FaultKind → Result Y FaultKind → Type 0
Reads view (Ok x) read = read ≡ Ok (view x)
Reads view (Err e) read = read ≡ Err e

infixl 10 ◌>>=◌
-- a reading, and the next one that goes on from it
abbrev pub ◌>>=◌ : {A B : Type 0} → Result A FaultKind → (A → Result B FaultKind)
    → Result B FaultKind
(Ok x) >>= f = f x
(Err e) >>= f = Err e

-- the number of a fault
abbrev pub fault_code : FaultKind → ℕ
fault_code NotAscii = 1
fault_code UnknownOp = 2
fault_code BadRegister = 3
fault_code BadNumber = 4
fault_code BadOperands = 5
fault_code UnknownLabel = 6
fault_code DoubleLabel = 7
fault_code TooLong = 8
fault_code Memory = 9

-- the word of a fault
abbrev pub fault_name : FaultKind → List ℕ
fault_name NotAscii = codes "NotAscii"
fault_name UnknownOp = codes "UnknownOp"
fault_name BadRegister = codes "BadRegister"
fault_name BadNumber = codes "BadNumber"
fault_name BadOperands = codes "BadOperands"
fault_name UnknownLabel = codes "UnknownLabel"
fault_name DoubleLabel = codes "DoubleLabel"
fault_name TooLong = codes "TooLong"
fault_name Memory = codes "Memory"
