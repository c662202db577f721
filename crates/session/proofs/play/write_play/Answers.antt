use Rattle.std.proofs.Common.{ℕ, ◌<◌, List, length, take, subst}
use Rattle.std.specs.Io.KnownBytes.{Appends}
use Rattle.session.proofs.Scripts.{on_err}
use Rattle.session.proofs.play.write_play.Goals as goal

pub returns-in_err-write_whole-clause-broken : goal.returns-in_err-write_whole-clause-broken
returns-in_err-write_whole-clause-broken g c =
    let from = g.W.Write.contents c.args.writer.now.inner in
    let to = g.W.Write.contents c.write_whole.new.writer.inner in
    let part = subst (λ (xs : List ℕ). (n : ℕ) × (n < length xs) × Appends from to (take n xs)) c.as_slice.ensures.value c.in_err-write_whole.ensures.err in
    on_err c.from_residual-in_err-write_whole.result
    (record { new = c.play.new.session; text = c.in_ok-text.text.items; played = c.in_ok-text.ensures; count = part.0; part = part.1; written = part.2 })
