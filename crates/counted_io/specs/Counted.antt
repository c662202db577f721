-- What clauses read of a counted reader or writer, and what it takes or gives.
use Rattle.std.specs.Prelude.{◌≡◌, ℕ, ◌+◌, ◌-◌, ◌^◌, ◌<◌, ◌≤◌, min, Bool, true, false, ◌==◌, nat_lt, Result, Ok, Err, Option, List, ◌++◌, length, take, if◌then◌else◌}
use Rattle.std.specs.Io.KnownBytes.{Consumes, Appends}
use Rattle.counted_io.specs.declared.counted.Counted.{Counted}

-- what it passes calls on to
abbrev pub inner_of : {I : Type 0} → Counted I → I
inner_of s = s.inner

-- how many calls failed
abbrev pub failures_of : {I : Type 0} → Counted I → ℕ
failures_of s = s.failures

-- what is known of its bytes: a reader's that are left, a writer's that it holds
abbrev pub known_by : {I : Type 0} → (I → Option (List ℕ)) → Counted I → Option (List ℕ)
known_by bytes_of s = bytes_of s.inner

-- one more, up to the greatest number of 64 bits
abbrev pub raised : ℕ → ℕ
raised n = min (n + 1) (2 ^ 64 - 1)

-- the count after a call
abbrev pub counted : (failed : Bool) → ℕ → ℕ
counted failed n = if failed then raised n else n

-- whether a write of len bytes failed: an error, or no byte of some
abbrev pub write_fails : {E : Type 0} → Result ℕ E → (len : ℕ) → Bool
write_fails (Ok n) len = if n == 0 then nat_lt 0 len else false
write_fails (Err e) len = true

-- the reader's known bytes began with these, and it lost them and no others
abbrev pub Takes : {R : Type 0} → (R → Option (List ℕ)) → (old new : Counted R) → List ℕ → Type 0
Takes remaining old new bytes = Consumes (known_by remaining old) (known_by remaining new) bytes

-- the reader lost a beginning of its known bytes, of no more than most
abbrev pub TakesUpTo : {R : Type 0} → (most : ℕ) → (R → Option (List ℕ)) → (old new : Counted R)
    → Type 0
TakesUpTo most remaining old new =
    (bytes : List ℕ) × (length bytes ≤ most) × Takes remaining old new bytes

-- what stands after before in after is what the reader lost
abbrev pub TakesOnto : {R : Type 0} → (R → Option (List ℕ)) → (old new : Counted R)
    → (before after : List ℕ) → Type 0
TakesOnto remaining old new before after =
    (bytes : List ℕ) × Takes remaining old new bytes × (after ≡ before ++ bytes)

-- the writer's known bytes stay, and these stand after them
abbrev pub Gives : {W : Type 0} → (W → Option (List ℕ)) → (old new : Counted W) → List ℕ → Type 0
Gives contents old new text = Appends (known_by contents old) (known_by contents new) text

-- the writer got a proper beginning of the text
abbrev pub GivesPart : {W : Type 0} → (W → Option (List ℕ)) → (old new : Counted W)
    → List ℕ → Type 0
GivesPart contents old new text = (n : ℕ) × (n < length text) × Gives contents old new (take n text)
