-- One section more, and one symbol more.
use Rattle.std.proofs.Common.{◌≡◌, ℕ, ◌+◌, ◌*◌, List, [], None, refl, add-one}
use Rattle.elf.specs.Symbols.{section_of, symbols_or, symbols_up_to, with_function, functions_up_to}

pub symbols_none : (file : List ℕ) (at count : ℕ) → symbols_up_to file at count 0 ≡ None
unfolding symbols_up_to
symbols_none file at count = refl

pub symbols_next : (file : List ℕ) (at count n : ℕ)
    → symbols_up_to file at count (n + 1)
    ≡ symbols_or (symbols_up_to file at count n) file at count (section_of file (at + 40 * n))
unfolding symbols_up_to
symbols_next file at count n = rw add-one refl

pub functions_none : (file : List ℕ) (names at : ℕ) → functions_up_to file names at 0 ≡ []
unfolding functions_up_to
functions_none file names at = refl

pub functions_next : (file : List ℕ) (names at n : ℕ)
    → functions_up_to file names at (n + 1)
    ≡ with_function file names (at + 16 * n) (functions_up_to file names at n)
unfolding functions_up_to
functions_next file names at n = rw add-one refl
