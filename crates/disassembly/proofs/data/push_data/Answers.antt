use Rattle.std.proofs.Common.{◌≡◌, ℕ, List, ◌+◌, ◌-◌, ◌*◌, ◌++◌, take, drop, ap, sym, ◌∙◌, arith, string_bytes}
use Rattle.disassembly.specs.Writing.{unlines, space_lines, AddsData}
use Rattle.disassembly.proofs.Names.{on_ok}
use Rattle.disassembly.proofs.DataSteps.{rows_zero, rows_some, rows_all, fits_take, fits_drop}
use Rattle.disassembly.proofs.data.push_data.Goals.{then-is_zero, else-is_zero+in_ok-push_space+in_ok-push_row}
use Rattle.disassembly.proofs.data.push_data.Goals as goal

pub rows-preserved : goal.rows-preserved
rows-preserved c =
    let bytes = c.args.bytes.now in
    let sixteen : 16 * c.rows.k + 16 - 16 * c.rows.k ≡ 16 = omega arith in
    let row : List ℕ = take (16 * c.rows.k + 16 - 16 * c.rows.k) (drop (16 * c.rows.k) c.args.bytes.now) in
    let is : take (16 * c.rows.k + 16 - 16 * c.rows.k) (drop (16 * c.rows.k) c.args.bytes.now) ≡ take 16 (drop (16 * c.rows.k) c.args.bytes.now) =
    ap (λ (n : ℕ). take n (drop (16 * c.rows.k) c.args.bytes.now)) sixteen in
    let old = string_bytes c.args.out.now in
    let now = string_bytes c.rows.out in
    elim c.if-is_zero.branch [
      | then-is_zero w ↦ rw (w.out-is, w.zeros-is) (
        rows_zero bytes c.requires old now c.rows.k c.rows.zeros c.rows-test.true c.rows.invariant.0 row is (sym c.is_zero.ensures ∙ w.if-is_zero.true),
        omega (arith, c.rows.invariant.1),
      )
      | else-is_zero+in_ok-push_space+in_ok-push_row w ↦ rw (w.out-is, w.zeros-is) (
        rows_some bytes c.requires old now c.rows.k c.rows.zeros c.rows-test.true c.rows.invariant.0 row is
            (fits_take (16 * c.rows.k + 16 - 16 * c.rows.k) (drop (16 * c.rows.k) bytes) (fits_drop (16 * c.rows.k) bytes (λ i. omega (arith, c.type_inv.bytes i))))
            (string_bytes w.push_space.new.out) (string_bytes w.push_row.new.out) (16 * c.rows.k) w.in_ok-push_space.ensures w.in_ok-push_row.ensures,
        omega arith,
      )
    ]

pub returns : goal.returns
returns c =
    let old = string_bytes c.args.out.now in
    let now = string_bytes c.rows.out in
    let new = string_bytes c.push_space-2.new.out in
    on_ok c.push_space-2.result (string_bytes c.push_space-2.new.out ≡ string_bytes c.rows.out ++ unlines (space_lines c.rows.zeros)) (AddsData c.args.bytes.now old new)
    (rows_all c.args.bytes.now old now new c.rows.k c.rows.zeros c.requires (omega (arith, c.rows.auto.k-end, c.rows-test.false)) c.rows.invariant.0)
    c.push_space-2.ensures
