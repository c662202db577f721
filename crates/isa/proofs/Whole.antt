-- All lines of a listing.
use Rattle.std.proofs.Common.{◌≡◌, ℕ, suc, ◌+◌, ◌≤◌, ◌<◌, List, [], ◌∷◌, ◌++◌, length, Option, Some, None, Result, Err, refl, sym, ap, ◌∙◌, subst, append_assoc, arith}
use Rattle.std.proofs.lemmas.Bool.{lt-ltb, le-ltb}
use Rattle.std.proofs.lemmas.List.{append-nil, length-append}
use Rattle.lexical.specs.Line.{lines_of, lines_left}
use Rattle.instructions.specs.declared.instr.Instr.{Instr}
use Rattle.isa.specs.declared.listing.fault.FaultKind.{FaultKind}
use Rattle.isa.specs.declared.listing.fault.FaultKind.TheVariants.{TooLong}
use Rattle.isa.specs.declared.listing.line.Target.{Target}
use Rattle.isa.specs.Listing.{Lines, table, numbered, memory, first_fault, resolved, with_bytes, listing}
use Rattle.isa.specs.Labels.{LabelMap, AreHeld, address_of}
use Rattle.isa.specs.Held.{IsRead, IsReadLine, IsFaultLine, rows}
use Rattle.isa.proofs.Rows.{rows_length}
use Rattle.isa.specs.declared.listing.spot.Spot.TheVariants as spot
use Rattle.isa.specs.declared.listing.fault.LineFault.{LineFault}
use Rattle.isa.specs.declared.listing.spot.Spot.{Spot}
use Rattle.isa.specs.Spots.{spot_in, spot_of_line, spot_of}
use Rattle.isa.proofs.FirstFault.{first_after, after_none, take_before, line_after}

-- the lines before, which have no fault, and those that are left
pub record LinesSoFar (labels : LabelMap) (code : List Instr) (ts : List Target) (bytes : List ℕ) (number : ℕ) (left all : Lines) : Type 0 where
  pub before : Lines
  pub count : length before ≡ number
  pub read : IsRead before labels code ts bytes
  pub fault : first_after before left ≡ first_fault all
  pub whole : before ++ left ≡ all

-- the line after those before has its spot there
spot_after : (before ls : Lines) (l : List ℕ) → spot_of_line (before ++ l ∷ ls) (suc (length before)) ≡ spot_in before l
spot_after before ls l = rw (take_before before (l ∷ ls), line_after before ls l) refl

module _ (labels : LabelMap) (code : List Instr) (ts : List Target) (bytes : List ℕ) (number : ℕ) (left all : Lines)
    (so_far : LinesSoFar labels code ts bytes number left all) where
  pub so_far_more : (labels' : LabelMap) (code' : List Instr) (ts' : List Target) (bytes' text : List ℕ) (rest : Option (List ℕ)) → left ≡ lines_of text
      → ((before : Lines) → length before + 1 ≡ number + 1 → IsRead before labels code ts bytes → IsReadLine before text rest labels' code' ts' bytes')
      → LinesSoFar labels' code' ts' bytes' (number + 1) (lines_left rest) all
  unfolding first_after
  so_far_more labels' code' ts' bytes' text rest is step =
      let one = step so_far.before (omega (arith, so_far.count)) so_far.read in
      let ls : Lines = lines_left rest in
      let fault : first_after so_far.before (one.line ∷ ls) ≡ first_fault all = rw (is ∙ one.lines) at so_far.fault in
      let whole : so_far.before ++ one.line ∷ ls ≡ all = rw (is ∙ one.lines) at so_far.whole in
      record {
        before = so_far.before ++ one.line ∷ [];
        count = omega (arith, so_far.count, length-append so_far.before (one.line ∷ []));
        read = one.read;
        fault = rw one.fault at fault;
        whole = append_assoc so_far.before (one.line ∷ []) ls ∙ whole;
      }

  pub so_far_fault : (text : List ℕ) (found : LineFault) → left ≡ lines_of text
      → ((before : Lines) → IsRead before labels code ts bytes → IsFaultLine before text found)
      → (first_fault all ≡ Some (number + 1, found.kind)) × (found.at ≡ spot_of_line all (number + 1))
  unfolding first_after
  so_far_fault text found is step =
      let one = step so_far.before so_far.read in
      let fault : first_after so_far.before (one.line ∷ one.others) ≡ first_fault all = rw (is ∙ one.lines) at so_far.fault in
      let whole : so_far.before ++ one.line ∷ one.others ≡ all = rw (is ∙ one.lines) at so_far.whole in
      let place : length so_far.before + 1 ≡ number + 1 = omega (arith, so_far.count) in
      let count : suc (length so_far.before) ≡ number + 1 = omega (arith, so_far.count) in
      let part : spot_in so_far.before one.line ≡ spot_of_line all (number + 1) =
      sym (spot_after so_far.before one.others one.line) ∙ ap (λ (ls : Lines). spot_of_line ls (suc (length so_far.before))) whole
      ∙ ap (spot_of_line all) count in
      (sym (rw one.fault.0 at fault) ∙ ap (λ (n : ℕ). Some (n, found.kind)) place, one.fault.1 ∙ part)

  pub so_far_done : left ≡ [] → (first_fault all ≡ None) × IsRead all labels code ts bytes
  unfolding first_after
  so_far_done is =
      let whole : so_far.before ++ [] ≡ all = rw is at so_far.whole in
      let fault : None ≡ first_fault all = rw is at so_far.fault in
      (sym fault, subst (λ (ls : Lines). IsRead ls labels code ts bytes) (sym (append-nil so_far.before) ∙ whole) so_far.read)

pub so_far_start : (labels : LabelMap) (code : List Instr) (ts : List Target) (bytes : List ℕ) (all : Lines) → IsRead [] labels code ts bytes
    → LinesSoFar labels code ts bytes 0 all all
so_far_start labels code ts bytes all read = record { before = []; count = refl; read = read; fault = after_none all; whole = refl }

pub no_bytes_yet : (labels : LabelMap) (code : List Instr) (ts : List Target) (bytes : List ℕ) → IsRead [] labels code ts bytes
    → (length code ≡ 0) × (length bytes ≡ 0)
unfolding numbered memory
no_bytes_yet labels code ts bytes read = (sym (rows_length code ts read.length_is) ∙ ap length read.code_is, ap length read.bytes_are)

-- nothing was read yet
pub read_nothing : (labels : LabelMap) (code : List Instr) (ts : List Target) (bytes : List ℕ) → ((name : List ℕ) → address_of labels name ≡ None)
    → code ≡ [] → ts ≡ [] → bytes ≡ [] → IsRead [] labels code ts bytes
unfolding table numbered memory
read_nothing labels code ts bytes no_labels no_code no_targets no_bytes = record {
  labels_are = no_labels;
  length_is = ap length no_code ∙ sym (ap length no_targets);
  code_is = rw no_code refl;
  bytes_are = no_bytes;
}

-- ---- the whole

pub listing_long : (bytes : List ℕ) → 4194304 < length bytes → listing bytes ≡ Err (0, TooLong)
unfolding listing
listing_long bytes lt = rw (lt-ltb 4194304 (length bytes) lt) refl

pub listing_fault : (bytes : List ℕ) (f : ℕ × FaultKind) → length bytes ≤ 4194304 → first_fault (lines_of bytes) ≡ Some f → listing bytes ≡ Err f
unfolding listing
listing_fault bytes f le e = rw (le-ltb 4194304 (length bytes) le, e) refl

pub spot_long : (bytes : List ℕ) → 4194304 < length bytes → spot.Whole ≡ spot_of bytes
unfolding spot_of
spot_long bytes lt = rw (lt-ltb 4194304 (length bytes) lt) refl

pub spot_fault : (bytes : List ℕ) (f : ℕ × FaultKind) (at : Spot) → length bytes ≤ 4194304 → first_fault (lines_of bytes) ≡ Some f
    → at ≡ spot_of_line (lines_of bytes) f.0 → at ≡ spot_of bytes
unfolding spot_of
spot_fault bytes f at le e is = rw (le-ltb 4194304 (length bytes) le, e) is

pub spot_unknown : (bytes : List ℕ) (at : Spot) → length bytes ≤ 4194304 → first_fault (lines_of bytes) ≡ None → at ≡ spot.Target → at ≡ spot_of bytes
unfolding spot_of
spot_unknown bytes at le e is = rw (le-ltb 4194304 (length bytes) le, e) is

-- no line has a fault
pub listing_done : (text : List ℕ) (labels : LabelMap) (code : List Instr) (ts : List Target) (bytes : List ℕ) (r : Result (List Instr) (ℕ × FaultKind))
    → length text ≤ 4194304 → first_fault (lines_of text) ≡ None → IsRead (lines_of text) labels code ts bytes
    → ((held : List (List ℕ × ℕ)) → AreHeld labels held → resolved held (rows code ts) ≡ r) → listing text ≡ with_bytes bytes r
unfolding listing
listing_done text labels code ts bytes r le none read all =
    let one : resolved (table 0 (lines_of text)) (numbered 1 (lines_of text)) ≡ r = rw read.code_is at (all (table 0 (lines_of text)) read.labels_are) in
    rw (le-ltb 4194304 (length text) le, none, read.bytes_are) (ap (with_bytes (memory (lines_of text))) one)
