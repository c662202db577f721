-- A transcript, line by line.
use Rattle.std.proofs.Common.{◌≡◌, ◌<◌, ◌&&◌, inl, inr, Bool, true, false, ℕ, ◌+◌, suc, List, [], ◌∷◌, ◌++◌, map, length, take}
use Rattle.std.proofs.Common.{Option, Some, None, Result, Ok, Err, is_ok, if◌then◌else◌, IfErr, IfSome, OnOk, refl, sym, ap, ◌∙◌, subst, add-one}
use Rattle.std.specs.Io.BufRead.{DropsThrough, take_through}
use Rattle.std.specs.Io.KnownBytes.{Appends}
use Rattle.std.proofs.KnownBytes.{Appends-trans}
use Rattle.counted_io.specs.declared.fault.Fault.{Fault}
use Rattle.counted_io.specs.declared.fault.Fault.TheVariants.{Write}
use Rattle.session.specs.Lines.{ends_script, is_command}
use Rattle.session.specs.declared.reading.Line.{Line}
use Rattle.session.specs.Scripts.{AreTold, HasBroken, HasDriven, LineIsCut, NothingWasLeft, LineIsTold, ReadsScript, line_of}
use Rattle.session.specs.Sessions.{TheSession}
use Rattle.session.specs.Transcripts.{IsWrittenOfLine}

length_lines : (chunks : List (List ℕ)) → length (map line_of chunks) ≡ length chunks
length_lines [] = refl
length_lines (c ∷ cs) = ap suc (length_lines cs)

pub one_more_told : (echo : Bool) (from mid to : Option (List ℕ)) (a b c : TheSession) (out more new : Option (List ℕ)) (count : ℕ) (before each : Bool) (line : Line) →
    AreTold echo from mid a b out more count before → LineIsTold echo mid to b c (count + 1) more new line → ends_script line ≡ false → each ≡ (before && is_command line) →
    AreTold echo from to a c out new (count + 1) each
one_more_told echo from mid to a b c out more new count before each line all one goes is =
    let number : count + 1 ≡ suc (length (map line_of all.chunks)) = add-one count ∙ ap suc (sym (length_lines all.chunks ∙ all.count_is)) in
    let told : IsWrittenOfLine echo b c (suc (length (map line_of all.chunks))) (line_of one.chunk) one.text = subst (λ n. IsWrittenOfLine echo b c n (line_of one.chunk) one.text) number one.told in
    record {
      chunks = one.chunk ∷ all.chunks;
      count_is = ap suc all.count_is ∙ sym (add-one count);
      commands = (line, before, all.commands, one.line_is, goes, is);
      text = all.text ++ one.text;
      read = (mid, all.read, one.read);
      told = (b, all.text, one.text, all.told, told, refl);
      written = Appends-trans out more new all.text one.text all.written one.written;
    }

pub all_told : (echo : Bool) (from to : Option (List ℕ)) (a b c : TheSession) (out more new : Option (List ℕ)) (count : ℕ) (each : Bool) →
    AreTold echo from to a b out more count each → NothingWasLeft to b c more new → HasDriven echo from a c out new each
all_told echo from to a b c out more new count each all end =
    record { to = to; middle = b; between = more; count = count; all = all; ended = inl end }

pub last_told : (echo : Bool) (from mid to : Option (List ℕ)) (a b c : TheSession) (out more new : Option (List ℕ)) (count : ℕ) (each : Bool) (line : Line) →
    AreTold echo from mid a b out more count each → LineIsTold echo mid to b c (count + 1) more new line → ends_script line ≡ true → HasDriven echo from a c out new each
last_told echo from mid to a b c out more new count each line all one ends =
    record { to = mid; middle = b; between = more; count = count; all = all; ended = inr (record { to = to; line = line; ends = ends; told = one }) }

-- A line that was read with what ends it
pub reads : (from to : Option (List ℕ)) (old chunk : List ℕ) → old ≡ [] → IfSome from (λ xs. chunk ≡ old ++ take_through 10 xs) → DropsThrough from to 10 → ReadsScript from to chunk
reads None to old chunk empty is rest = tt
reads (Some input) to old chunk empty is rest = (is ∙ ap (λ xs. xs ++ take_through 10 input) empty, rest)

pub cut_short : (echo : Bool) (from to : Option (List ℕ)) (a b : TheSession) (number : ℕ) (out new : Option (List ℕ)) (chunk text bytes : List ℕ) →
    ReadsScript from to chunk → IsWrittenOfLine echo a b number (line_of chunk) text → bytes ≡ text → (n : ℕ) × (n < length bytes) × Appends out new (take n bytes) →
    LineIsCut echo from a number out new
cut_short echo from to a b number out new chunk text bytes read told same part =
    let whole = subst (λ (xs : List ℕ). (n : ℕ) × (n < length xs) × Appends out new (take n xs)) same part in
    record { to = to; new = b; chunk = chunk; text = text; read = read; told = told; count = whole.0; part = whole.1; written = whole.2 }

-- What follows from a success that has added more
pub appended : {T E P : Type 0} (r : Result T E) (old new more : List ℕ) → new ≡ (if is_ok r then old ++ more else old) → (new ≡ old ++ more → P) → OnOk r P
appended (Ok x) old new more is then_so = then_so is
appended (Err e) old new more is then_so = tt

-- What holds at all holds where writing fails
pub on_err : {T Q : Type 0} (r : Result T Fault) → Q → IfErr r (λ fault. fault ≡ Write → Q)
on_err (Ok x) q = tt
on_err (Err fault) q = λ is. q

pub broken : (echo : Bool) (from mid : Option (List ℕ)) (a b : TheSession) (out more new : Option (List ℕ)) (count : ℕ) (each : Bool) →
    AreTold echo from mid a b out more count each → LineIsCut echo mid b (count + 1) more new → HasBroken echo from a out new
broken echo from mid a b out more new count each all cut =
    record { to = mid; new = b; between = more; count = count; each = each; all = all; cut = cut }
