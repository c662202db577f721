-- A listing that is refused: the first line with a fault, and the first kind of its table.
use Rattle.std.proofs.Common.{◌≡◌, ◌≢◌, ℕ, zero, suc, ◌+◌, ◌<◌, ◌≤◌, ◌||◌, Bool, true, false, List, [], ◌∷◌, ◌++◌, length, map, take, Option, Some, None, Result, Ok, Err, refl}
use Rattle.std.proofs.Common.{sym, ap, ◌∙◌, subst, arith, inl, inr}
use Rattle.std.specs.Prelude.{nat_lt, slice_get, is_some, if◌then◌else◌}
use Rattle.std.specs.List.{find}
use Rattle.std.specs.Map.{lookup}
use Rattle.std.specs.Str.{bytes_eq}
use Rattle.std.specs.Option.{option_map, option_or, option_and_then}
use Rattle.std.proofs.lemmas.Bool.{cases_Bool, cases_eq, cases_lt, le-ltb}
use Rattle.std.proofs.lemmas.List.{length-append, length-map}
use Rattle.std.proofs.lemmas.Option.{slice_get_past}
use Rattle.lexical.specs.Line.{lines_of, before_comment}
use Rattle.lexical.specs.Name.{is_plain_text}
use Rattle.lexical.specs.Label.{statement_of}
use Rattle.instructions.specs.declared.instr.Instr.{Instr}
use Rattle.instructions.specs.Programs.{Program}
use Rattle.isa.specs.declared.listing.fault.FaultKind.{FaultKind}
use Rattle.isa.specs.declared.listing.fault.FaultKind.TheVariants.{TooLong, UnknownLabel}
use Rattle.isa.specs.Statement.{Parsed, Line}
use Rattle.isa.specs.Listing.{Lines, labels, read, table, numbered, memory, instruction_count, stands_in, is_double, all_labels, fault_of, fault_in, fault_of_line, first_fault_to}
use Rattle.isa.specs.Listing.{first_fault, resolve, before_others, resolved, with_bytes, program_of, listing}
use Rattle.isa.specs.Faults.{Fault, first_kind, statement_faults, are_too_long, line_faults, faults_if, faults_of_line, IsFaultless, IsFirstFault, is_unknown, unknown_label_line}
use Rattle.isa.specs.Faults.{IsUnknownLabel, HasNoFault}
use Rattle.isa.proofs.HeldLabels.{stands_among}
use Rattle.isa.proofs.NextLine.{numbered_push, memory_push, names_are}
use Rattle.isa.proofs.Whole.{listing_long}
use Rattle.isa.proofs.FaultTable.{error_of, first_append, statement_fault}
use Rattle.isa.proofs.LineKinds.{never_unknown}

-- ---- a line

after_statement : (r : Result Line FaultKind) (n m : ℕ) (xs : List Fault) (long : Bool) → error_of r ≡ first_kind xs
    → ((l : Line) → r ≡ Ok l → long ≡ (nat_lt 16384 (n + length l.code) || nat_lt 65536 (m + length l.bytes)))
    → fault_of n m r ≡ first_kind (xs ++ (TooLong, long) ∷ [])
after_statement (Ok l) n m xs long e is =
    ap (λ (b : Bool). if b then Some TooLong else None) (sym (is l refl))
    ∙ ap (λ (k : Option FaultKind). option_or k (first_kind ((TooLong, long) ∷ []))) e ∙ sym (first_append xs ((TooLong, long) ∷ []))
after_statement (Err k) n m xs long e is =
    ap (λ (k : Option FaultKind). option_or k (first_kind ((TooLong, long) ∷ []))) e ∙ sym (first_append xs ((TooLong, long) ∷ []))

module _ (before : Lines) (line : List ℕ) where
  long_is : (l : Line) → read line ≡ Ok l
      → are_too_long (before ++ line ∷ []) ≡ (nat_lt 16384 (instruction_count before + length l.code) || nat_lt 65536 (length (memory before) + length l.bytes))
  long_is l is =
      let count : instruction_count (before ++ line ∷ []) ≡ instruction_count before + length l.code =
      ap length (numbered_push 1 before line) ∙ rw is (simp (length-append, length-map)) in
      let size : length (memory (before ++ line ∷ [])) ≡ length (memory before) + length l.bytes =
      ap length (memory_push before line) ∙ rw is (length-append (memory before) l.bytes) in
      rw (count, size) refl

  pub line_fault : fault_in before line ≡ first_kind (line_faults before line)
  unfolding fault_in
  line_fault = elim (cases_Bool (is_plain_text (before_comment line))) [
    | inr other ↦ rw other refl
    | inl plain ↦ elim (cases_Bool (is_double (all_labels before) (labels line))) [
      | inl twice ↦ rw (plain, twice) refl
      | inr once ↦
          rw (plain, once)
          (after_statement (read line) (instruction_count before) (length (memory before)) (statement_faults (statement_of (before_comment line))) (are_too_long (before ++ line ∷ []))
          (statement_fault (statement_of (before_comment line))) long_is)
    ]
  ]

fault_if : (before : Lines) (o : Option (List ℕ)) → option_and_then (fault_in before) o ≡ first_kind (faults_if before o)
fault_if before None = refl
fault_if before (Some line) = line_fault before line

pub fault_is : (ls : Lines) (n : ℕ) → fault_of_line ls n ≡ first_kind (faults_of_line ls n)
fault_is ls zero = refl
fault_is ls (suc n) = fault_if (take n ls) (slice_get ls n)

-- ---- lines

or_none : (n : ℕ) (first : Option (ℕ × FaultKind)) (f : Option FaultKind) → option_or first (option_map (λ k. (n, k)) f) ≡ None → (first ≡ None) × (f ≡ None)
or_none n None None e = (refl, refl)
or_none n None (Some k) e = absurd cc
or_none n (Some first) f e = absurd cc

none_to : (ls : Lines) (k : ℕ) → first_fault_to ls k ≡ None → (m : ℕ) → m ≤ k → fault_of_line ls m ≡ None
none_to ls zero e zero le = refl
none_to ls zero e (suc m) le = absurd (omega arith)
none_to ls (suc k) e m le =
    let both = or_none (suc k) (first_fault_to ls k) (fault_of_line ls (suc k)) e in
    elim (cases_eq m (suc k)) [ inl last ↦ rw last both.1 | inr other ↦ none_to ls k both.0 m (omega arith) ]

none_past : (ls : Lines) (m : ℕ) → length ls < m → fault_of_line ls m ≡ None
none_past ls zero lt = refl
none_past ls (suc m) lt = rw (slice_get_past ls m (omega arith)) refl

pub none_at_all : (ls : Lines) → first_fault ls ≡ None → (m : ℕ) → IsFaultless ls m
unfolding first_fault
none_at_all ls e m = elim (cases_lt (length ls) m) [
  | inl past ↦ sym (fault_is ls m) ∙ none_past ls m past
  | inr within ↦ sym (fault_is ls m) ∙ none_to ls (length ls) e m within
]

faultless_before : (ls : Lines) (k n : ℕ) → suc k ≡ n → first_fault_to ls k ≡ None → (m : ℕ) → m < n → IsFaultless ls m
faultless_before ls k n place first m lt = sym (fault_is ls m) ∙ none_to ls k first m (omega (arith, place))

-- the first of lines 1 to k + 1, from the first of lines 1 to k
first_step : (ls : Lines) (k n : ℕ) (kind : FaultKind) (a : Option (ℕ × FaultKind)) (b : Option FaultKind) → first_fault_to ls k ≡ a → fault_of_line ls (suc k) ≡ b
    → (first_fault_to ls k ≡ Some (n, kind) → IsFirstFault ls n kind) → option_or a (option_map (λ j. (suc k, j)) b) ≡ Some (n, kind) → IsFirstFault ls n kind
first_step ls k n kind (Some f) b first own rest e = rest (first ∙ e)
first_step ls k n kind None None first own rest e = absurd cc
first_step ls k n kind None (Some j) first own rest e =
    let both : (suc k, j) ≡ (n, kind) = cc in
    let place : suc k ≡ n = ap (λ (f : ℕ × FaultKind). f.0) both in
    let same : j ≡ kind = ap (λ (f : ℕ × FaultKind). f.1) both in
    record {
      kind_is = sym (fault_is ls n) ∙ ap (fault_of_line ls) (sym place) ∙ own ∙ ap (λ (i : FaultKind). Some i) same;
      before = faultless_before ls k n place first;
    }

first_to : (ls : Lines) (k n : ℕ) (kind : FaultKind) → first_fault_to ls k ≡ Some (n, kind) → IsFirstFault ls n kind
first_to ls zero n kind e = absurd cc
first_to ls (suc k) n kind e = first_step ls k n kind (first_fault_to ls k) (fault_of_line ls (suc k)) refl refl (first_to ls k n kind) e

pub first_is : (ls : Lines) (n : ℕ) (kind : FaultKind) → first_fault ls ≡ Some (n, kind) → IsFirstFault ls n kind
unfolding first_fault
first_is ls n kind e = first_to ls (length ls) n kind e

-- ---- labels that no line has

-- what is told of the first instruction whose label is unknown
abbrev Tells : Option ℕ → Result (List Instr) (ℕ × FaultKind) → Type 0
Tells o (Ok code) = o ≡ None
Tells o (Err f) = (f.1 ≡ UnknownLabel) × (o ≡ Some f.0)

tells_others : (o : Option ℕ) (i : Instr) (r : Result (List Instr) (ℕ × FaultKind)) → Tells o r → Tells o (before_others (Ok i) r)
tells_others o i (Ok code) t = t
tells_others o i (Err f) t = t

module _ (pairs : List (List ℕ × ℕ)) where
  abbrev first_unknown : List (ℕ × Parsed) → Option ℕ
  first_unknown ds = option_map (λ d. d.0) (find (λ d. is_unknown (map (λ p. p.0) pairs) d.1.label) ds)

  -- an instruction whose label is known, or that has none
  known_tells : (d : ℕ × Parsed) (ds : List (ℕ × Parsed)) (i : Instr) → is_unknown (map (λ p. p.0) pairs) d.1.label ≡ false → resolve pairs d ≡ Ok i
      → Tells (first_unknown ds) (resolved pairs ds) → Tells (first_unknown (d ∷ ds)) (before_others (resolve pairs d) (resolved pairs ds))
  known_tells d ds i known is rest = rw (known, is) (tells_others (first_unknown ds) i (resolved pairs ds) rest)

  label_tells : (d : ℕ × Parsed) (ds : List (ℕ × Parsed)) (label : Option (List ℕ)) → d.1.label ≡ label → Tells (first_unknown ds) (resolved pairs ds)
      → Tells (first_unknown (d ∷ ds)) (before_others (resolve pairs d) (resolved pairs ds))
  label_tells d ds None e rest = known_tells d ds d.1.instr (rw e refl) (rw e refl) rest
  label_tells d ds (Some name) e rest = by (lookup (λ k. bytes_eq k name) pairs) refl
    where
      by : (o : Option ℕ) → lookup (λ k. bytes_eq k name) pairs ≡ o → Tells (first_unknown (d ∷ ds)) (before_others (resolve pairs d) (resolved pairs ds))
      by (Some a) f =
          let stands : stands_in (map (λ p. p.0) pairs) name ≡ true = sym (stands_among name pairs) ∙ ap is_some f in
          known_tells d ds (record d.1.instr { number = a }) (rw (e, stands) refl) (rw (e, f) refl) rest
      by None f =
          let lacks : stands_in (map (λ p. p.0) pairs) name ≡ false = sym (stands_among name pairs) ∙ ap is_some f in
          rw (e, lacks, f) (refl, refl)

  resolved_tells : (ds : List (ℕ × Parsed)) → Tells (first_unknown ds) (resolved pairs ds)
  unfolding resolved
  resolved_tells [] = refl
  resolved_tells (d ∷ ds) = label_tells d ds d.1.label refl (resolved_tells ds)

-- ---- a listing

lines_tell : (ls : Lines) → Tells (unknown_label_line ls) (resolved (table 0 ls) (numbered 1 ls))
lines_tell ls =
    subst (λ (names : List (List ℕ)). Tells (option_map (λ d. d.0) (find (λ d. is_unknown names d.1.label) (numbered 1 ls))) (resolved (table 0 ls) (numbered 1 ls)))
    (names_are 0 ls) (resolved_tells (table 0 ls) (numbered 1 ls))

-- what a listing without a fault of a line is
tells_program : (o : Option ℕ) (bytes : List ℕ) (r : Result (List Instr) (ℕ × FaultKind)) (n : ℕ) (kind : FaultKind) → Tells o r → with_bytes bytes r ≡ Err (n, kind)
    → (kind ≡ UnknownLabel) × (o ≡ Some n)
tells_program o bytes (Ok code) n kind t e = absurd cc
tells_program o bytes (Err f) n kind t e =
    let line : f.0 ≡ n = cc in
    let same : f.1 ≡ kind = cc in
    (sym same ∙ t.0, t.1 ∙ ap (λ (k : ℕ). Some k) line)

tells_known : (o : Option ℕ) (bytes : List ℕ) (r : Result (List Instr) (ℕ × FaultKind)) (program : Program) → Tells o r → with_bytes bytes r ≡ Ok program → o ≡ None
tells_known o bytes (Ok code) program t e = t
tells_known o bytes (Err f) program t e = absurd cc

abbrev refused : ℕ × FaultKind → Result Program (ℕ × FaultKind)
refused f = Err f

-- the kind of a refusal
abbrev kind_of : Result Program (ℕ × FaultKind) → FaultKind
kind_of (Ok program) = TooLong
kind_of (Err f) = f.1

short_is : (bytes : List ℕ) → length bytes ≤ 4194304 → listing bytes ≡ program_of (lines_of bytes) (first_fault (lines_of bytes))
unfolding listing
short_is bytes le = rw (le-ltb 4194304 (length bytes) le) refl

module _ (ls : Lines) where
  line_by : (o : Option (ℕ × FaultKind)) (n : ℕ) (kind : FaultKind) → first_fault ls ≡ o → kind ≢ UnknownLabel → program_of ls o ≡ Err (n, kind) → IsFirstFault ls n kind
  line_by (Some f) n kind first other e = let same : f ≡ (n, kind) = cc in first_is ls n kind (first ∙ ap (λ (g : ℕ × FaultKind). Some g) same)
  line_by None n kind first other e =
      let told = tells_program (unknown_label_line ls) (memory ls) (resolved (table 0 ls) (numbered 1 ls)) n kind (lines_tell ls) e in
      absurd (other told.0)

  unknown_by : (o : Option (ℕ × FaultKind)) (n : ℕ) → first_fault ls ≡ o → program_of ls o ≡ Err (n, UnknownLabel) → IsUnknownLabel ls n
  unknown_by (Some f) n first e =
      let same : f ≡ (n, UnknownLabel) = cc in
      let here : IsFirstFault ls n UnknownLabel = first_is ls n UnknownLabel (first ∙ ap (λ (g : ℕ × FaultKind). Some g) same) in
      absurd (never_unknown ls n here.kind_is)
  unknown_by None n first e = record {
    faultless = none_at_all ls first;
    line = (tells_program (unknown_label_line ls) (memory ls) (resolved (table 0 ls) (numbered 1 ls)) n UnknownLabel (lines_tell ls) e).1;
  }

  none_by : (o : Option (ℕ × FaultKind)) (program : Program) → first_fault ls ≡ o → program_of ls o ≡ Ok program → HasNoFault ls
  none_by (Some f) program first e = absurd cc
  none_by None program first e = record {
    faultless = none_at_all ls first;
    known = tells_known (unknown_label_line ls) (memory ls) (resolved (table 0 ls) (numbered 1 ls)) program (lines_tell ls) e;
  }

not_long : (n : ℕ) → refused (0, TooLong) ≡ refused (n, UnknownLabel) → ⊥
not_long n e = let same : TooLong ≡ UnknownLabel = ap kind_of e in absurd cc

pub line_named : (bytes : List ℕ) (n : ℕ) (kind : FaultKind) → length bytes ≤ 4194304 → kind ≢ UnknownLabel → listing bytes ≡ Err (n, kind)
    → IsFirstFault (lines_of bytes) n kind
line_named bytes n kind le other e = line_by (lines_of bytes) (first_fault (lines_of bytes)) n kind refl other (sym (short_is bytes le) ∙ e)

not_both : (r : Result Program (ℕ × FaultKind)) (f : ℕ × FaultKind) (program : Program) → r ≡ Err f → r ≡ Ok program → ⊥
not_both (Ok p) f program e h = absurd cc
not_both (Err g) f program e h = absurd cc

pub unknown_named : (bytes : List ℕ) (n : ℕ) → listing bytes ≡ Err (n, UnknownLabel) → IsUnknownLabel (lines_of bytes) n
unknown_named bytes n e = elim (cases_lt 4194304 (length bytes)) [
  | inl long ↦
      let same : refused (0, TooLong) ≡ refused (n, UnknownLabel) = sym (listing_long bytes long) ∙ e in
      absurd (not_long n same)
  | inr le ↦ unknown_by (lines_of bytes) (first_fault (lines_of bytes)) n refl (sym (short_is bytes le) ∙ e)
]

pub none_left : (bytes : List ℕ) (program : Program) → listing bytes ≡ Ok program → HasNoFault (lines_of bytes)
none_left bytes program e = elim (cases_lt 4194304 (length bytes)) [
  | inl long ↦ absurd (not_both (listing bytes) (0, TooLong) program (listing_long bytes long) e)
  | inr le ↦ none_by (lines_of bytes) (first_fault (lines_of bytes)) program refl (sym (short_is bytes le) ∙ e)
]
