-- The program and the sizes of a call are those of its core, of its table and of its seat.
use Rattle.std.proofs.Common.{◌≡◌, ℕ, ◌+◌, ◌*◌, ◌<◌, ◌≤◌, List, sym, ap, ◌∙◌, arith}
use Rattle.atomic_table.specs.Seated.{TableId}
use Rattle.instructions.specs.Programs.{Program}
use Rattle.inorder.specs.declared.history.Entry.{Entry}
use Rattle.inorder.specs.Unit.{Sizes}
use Rattle.ruu_words.specs.declared.rule.SpareNumbers.{SpareNumbers}
use Rattle.ruu_words.specs.declared.rule.Setup.{Setup}
use Rattle.ruu_words.specs.Places.{words_for}
use Rattle.ruu_words.specs.Openings.{opening_of, sizes_of}
use Rattle.station.specs.Seats.{Caller, TheCore, core_of}

-- A program and sizes
abbrev pub Unit_of : Type 0
Unit_of = Program × Sizes

abbrev pub unit_at : Setup → Unit_of
unit_at c = (c.program, sizes_of c)

abbrev pub unit_in : TheCore → Unit_of
unit_in c = (c.program, c.sizes)

pub of_seat : {woken : ℕ} (id : TableId) (value : Setup) (by : ℕ) (spare : SpareNumbers) (seen : List Entry) (seat : Caller) (core : TheCore) →
    record { core = core_of id value; by = by; spare = spare; seen = seen; woken = woken } ≡ seat → seat.core ≡ core → unit_at value ≡ unit_in core
of_seat id value by spare seen seat core e f = ap (λ (z : Caller). unit_in z.core) e ∙ ap unit_in f

-- so is the history that the core goes on from
pub same_opening : {woken : ℕ} (id other : TableId) (value key : Setup) (by : ℕ) (spare : SpareNumbers) (seen : List Entry) (seat : Caller) (core : TheCore)
    → record { core = core_of id value; by = by; spare = spare; seen = seen; woken = woken } ≡ seat → seat.core ≡ core → core_of other key ≡ core → opening_of value ≡ opening_of key
same_opening id other value key by spare seen seat core e f g = ap (λ (z : Caller). z.core.opening) e ∙ (ap (λ (z : TheCore). z.opening) f ∙ sym (ap (λ (z : TheCore). z.opening) g))

-- a table has words
pub not_empty : (n w : ℕ) → w ≡ words_for n → 2 ≤ n → 0 < w
not_empty n w e h = let square : ℕ = n * n in let f : w ≡ 4 * n + 2 * square = e in omega arith
