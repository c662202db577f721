use Rattle.std.proofs.Common.{ℕ, ◌∙◌, sym, ap, length, map, Result, Ok, rules}
use Rattle.std.proofs.lemmas.Result.{err_from_is_err_and}
use Rattle.isa.specs.declared.listing.fault.FaultKind.{FaultKind}
use Rattle.instructions.specs.Programs.{Program}
use Rattle.isa.specs.Statement.{Parsed}
use Rattle.isa.proofs.Whole.{listing_long, listing_fault, listing_done, read_nothing, spot_long, spot_fault, spot_unknown}
use Rattle.isa.proofs.Rows.{lines_of_rows, written_back}
use Rattle.isa.proofs.listing.read_all.Goals as goal

abbrev given_program : Program → Result Program (ℕ × FaultKind)
given_program P = Ok P

pub read_lines-requires : goal.read_lines-requires
read_lines-requires c = record {
  short = c.if-bytes-gt-MOST_TEXT.false;
  nothing = read_nothing _ _ _ _ (λ name. search rules) (search rules) (search rules) (search rules);
}

pub returns-then-bytes-gt-MOST_TEXT-clause-fault : goal.returns-then-bytes-gt-MOST_TEXT-clause-fault
returns-then-bytes-gt-MOST_TEXT-clause-fault c = λ apart.
    rw (c.fault_at.ensures.line (λ e. apart (c.fault_at.ensures.kind ∙ e)), c.fault_at.ensures.kind)
    (listing_long c.args.bytes.now c.if-bytes-gt-MOST_TEXT.true)

pub returns-in_err-read_lines-clause-fault : goal.returns-in_err-read_lines-clause-fault
returns-in_err-read_lines-clause-fault c =
    let p = err_from_is_err_and c.from_residual.result c.from_residual.ensures.1 in
    rw (p.1, p.2) (λ apart. listing_fault c.args.bytes.now _ c.if-bytes-gt-MOST_TEXT.false (c.in_err-read_lines.ensures.fault apart))

pub returns-then-bytes-gt-MOST_TEXT-clause-at : goal.returns-then-bytes-gt-MOST_TEXT-clause-at
returns-then-bytes-gt-MOST_TEXT-clause-at c = λ _. spot_long c.args.bytes.now c.if-bytes-gt-MOST_TEXT.true

pub returns-in_err-read_lines-clause-at : goal.returns-in_err-read_lines-clause-at
returns-in_err-read_lines-clause-at c =
    let p = err_from_is_err_and c.from_residual.result c.from_residual.ensures.1 in
    rw (p.1, p.2) (λ apart.
    spot_fault c.args.bytes.now _ _ c.if-bytes-gt-MOST_TEXT.false (c.in_err-read_lines.ensures.fault apart) (c.in_err-read_lines.ensures.at apart))

pub returns-in_err-resolve_all-clause-at : goal.returns-in_err-resolve_all-clause-at
returns-in_err-resolve_all-clause-at c =
    let p = err_from_is_err_and c.from_residual-in_err-resolve_all.result c.from_residual-in_err-resolve_all.ensures.1 in
    rw (p.1, p.2) (λ _.
    spot_unknown c.args.bytes.now _ c.if-bytes-gt-MOST_TEXT.false c.in_ok-read_lines.ensures.ok.0 c.in_err-resolve_all.ensures.at)

pub returns-in_err-resolve_all-clause-fault : goal.returns-in_err-resolve_all-clause-fault
returns-in_err-resolve_all-clause-fault c =
    let p = err_from_is_err_and c.from_residual-in_err-resolve_all.result c.from_residual-in_err-resolve_all.ensures.1 in
    rw (p.1, p.2) (λ _.
    let is = rw (c.as_mut_slice.ensures.value, c.as_slice.ensures.value) at c.in_err-resolve_all.ensures.fault.1 in
    listing_done c.args.bytes.now _ _ _ _ _ c.if-bytes-gt-MOST_TEXT.false c.in_ok-read_lines.ensures.ok.0 c.in_ok-read_lines.ensures.ok.1 is)

pub returns-clause-ok : goal.returns-clause-ok
returns-clause-ok c =
    let is = rw (c.as_mut_slice.ensures.value, c.as_slice.ensures.value) at c.in_ok-resolve_all.ensures.ok in
    listing_done c.args.bytes.now _ _ _ _ _ c.if-bytes-gt-MOST_TEXT.false c.in_ok-read_lines.ensures.ok.0 c.in_ok-read_lines.ensures.ok.1 is
    ∙ sym (ap given_program (c.new.ensures ∙ ap (λ code. record { code = code; bytes = c.read_lines.new.memory.items }) (
    written_back c.read_lines.new.code.len c.resolve_all.new.code c.read_lines.new.code.items (c.resolve_all.ensures.length ∙ c.as_mut_slice.ensures.len)
    (ap length (sym c.as_mut_slice.ensures.value) ∙ c.as_mut_slice.ensures.len))))

pub returns-clause-lines : goal.returns-clause-lines
returns-clause-lines c =
    let read = c.in_ok-read_lines.ensures.ok.1 in
    lines_of_rows _ _ read.length_is ∙ ap (map (λ (d : ℕ × Parsed). d.0)) read.code_is
